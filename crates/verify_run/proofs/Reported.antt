-- A whole verification, and its report.
use Rattle.std.proofs.Common.{◌≡◌, inl, inr, ℕ, true, List, [], ◌∷◌, ◌++◌, map, length, refl, sym, ◌∙◌, ap, subst, append_assoc, MatchResult}
use Rattle.std.specs.Prelude.{Some, Result, Ok, Err, IfOk, OnErr}
use Rattle.std.specs.List.{flat_map}
use Rattle.std.specs.FinMap.{keys}
use Rattle.bay_core.specs.declared.event.Event.{Event}
use Rattle.bay_core.specs.declared.event.Event.TheVariants.{DriveList}
use Rattle.bay_core.specs.declared.event.FileInfo.{FileInfo}
use Rattle.bay_core.specs.declared.failed.ListError.{ListError}
use Rattle.bay_core.specs.declared.failed.ListError.TheVariants.{Failed as ListFailed, Memory as ListMemory}
use Rattle.bay_core.specs.Map.{Map, Lists}
use Rattle.bay_core.specs.Replay.{Drive, reads, dated}
use Rattle.bay_core.specs.World.{World, Honest}
use Rattle.bay_core.specs.Went.{Went, Only, Called, IsCall, NoCall, ListCall, no_fault}
use Rattle.bay_core.specs.Looks.{Here, Exactly, says, Looks, Stopped, said, Says}
use Rattle.bay_core.proofs.Runs.{went_then, went_such}
use Rattle.bay_core.proofs.Looking.{exact_then, looks_append, one_look, no_looks, says_looks, looked_before, drive_here, stopped_after, stopped_looks, said_append, said_says}
use Rattle.folder_listing.specs.Listing.{Sizes, listing, names}
use Rattle.folder_listing.proofs.Listed.{sizes_of_lists, names_of_sizes}
use Rattle.mhl_writer.specs.declared.values.HashEntry.{HashEntry}
use Rattle.report_text.specs.Line.{unlisted_text}
use Rattle.report_text.specs.Shown.{shown}
use Rattle.verify_run.specs.declared.verdict.Verdict.{Verdict}
use Rattle.verify_run.specs.declared.verdict.VerifyError.{VerifyError}
use Rattle.verify_run.specs.declared.verdict.VerifyError.TheVariants.{DriveFailed, Memory}
use Rattle.verify_run.specs.Calls.{stopped_at_device, Begun, LinesStopped, ListedAlone}
use Rattle.verify_run.specs.Report.{Found, verdict_line, entry_lines, verdict, unlisted, found_in, first_lines, report_lines, report_first_lines, report_verdict}
use Rattle.verify_run.specs.Results.{SizesOf, founds, looked, AllFollow, FolderChecked, last_lines, Verified, VerifyStopped}
use Rattle.file_reading.proofs.Stops.{list_halted}
use Rattle.verify_run.proofs.Stops.{stopped_before, drive_silent, halted_stopped, begun_none, begun_then}
use Rattle.verify_run.proofs.Checks.{looked_looks, said_looked}

module _ (d : ℕ) (files : List FileInfo) (es : List HashEntry) (own : List ℕ) (old mid : World) (called : Called (Drive d) (IsCall (DriveList d (Some files))) true old mid)
    (lists : (m : Map) (L : List Event) → Honest old d m L → Lists (reads m L d) (dated (old.attached.dates d) L d) files) where
  one : Went (Here d) (Exactly (DriveList d (Some files) ∷ [])) old mid
  one = drive_here d called.went

  listed_looks : Looks (DriveList d (Some files) ∷ [])
  listed_looks = one_look (DriveList d (Some files)) refl

  -- an honest drive still has files of the sizes that were listed
  pub still_listed : (m : Map) (L : List Event) → Honest mid d m L → SizesOf (reads m L d) (listing files)
  still_listed m L h =
      let y = looked_before d m L (DriveList d (Some files) ∷ []) listed_looks one h in
      subst (λ M. SizesOf M (listing files)) (sym y.same) (sizes_of_lists _ _ files (lists m y.before y.honest))

  -- memory was wanting after the listing
  pub wanting_listed : VerifyStopped d es own Memory old mid
  wanting_listed = record {
    stopped = stopped_looks d (DriveList d (Some files) ∷ []) listed_looks one;
    begun = λ m L h. went_such (λ X none. begun_none (report_first_lines es (reads m L d) own) X none) (drive_silent d called.went);
    memory = λ is. went_such (λ L same. inr (files, same)) called.went;
  }

  -- the check of the folder stopped after the listing
  pub folder_stopped : (folder : Sizes) (e : VerifyError) (new : World) → folder ≡ listing files → LinesStopped d (λ m. SizesOf m folder) (λ m. first_lines (found_in m es) (unlisted es (names files) own)) e mid new → VerifyStopped d es own e old new
  folder_stopped folder e new is s = record {
    stopped = stopped_after d (stopped_at_device d e) (DriveList d (Some files) ∷ []) listed_looks one s.stopped;
    begun = λ m L h.
        let b = stopped_before d (stopped_at_device d e) m L s.stopped h in
        let sizes : SizesOf (reads m L d) (listing files) = subst (λ M. SizesOf M (listing files)) (sym b.2) (still_listed m b.0 b.1) in
        let same : names files ≡ keys (reads m L d) = names_of_sizes (reads m L d) (listing files) sizes in
        went_such (λ X t. subst (λ ns. Begun (first_lines (found_in (reads m L d) es) (unlisted es ns own)) X) same (subst (Begun (first_lines (found_in (reads m L d) es) (unlisted es (names files) own))) (sym t.is) (begun_then [] _ t.first t.second (ap said t.here) t.there)))
        (went_then one (s.honest m L h (subst (SizesOf (reads m L d)) (sym is) sizes)));
    memory = λ wanting. absurd (s.failed wanting);
  }

-- the listing failed
pub listing_failed : (d : ℕ) (es : List HashEntry) (own : List ℕ) (e : ListError) {old new : World} → e ≡ ListFailed → Called (Drive d) (ListCall d (Err e)) (no_fault (Err e)) old new → VerifyStopped d es own DriveFailed old new
listing_failed d es own e is called = record {
  stopped = halted_stopped d (Some (Drive d)) (list_halted d e is called);
  begun = λ m L h. went_such (λ X none. begun_none (report_first_lines es (reads m L d) own) X none) (drive_silent d called.went);
  memory = λ same. absurd (cc same);
}

-- memory was wanting for the listing
pub listing_wanting : (d : ℕ) (es : List HashEntry) (own : List ℕ) (e : ListError) {old new : World} → e ≡ ListMemory → Called (Drive d) (ListCall d (Err e)) (no_fault (Err e)) old new → VerifyStopped d es own Memory old new
listing_wanting d es own e {old} {new} is called =
    let none : Went (Only (Drive d)) NoCall old new = (subst (λ x. Called (Drive d) (ListCall d (Err x)) (no_fault (Err x)) old new) is called).went in
    record {
      stopped = stopped_looks d [] no_looks (drive_here d none);
      begun = λ m L h. went_such (λ X quiet. begun_none (report_first_lines es (reads m L d) own) X quiet) (drive_silent d none);
      memory = λ same. went_such (λ L same. inl same) none;
    }

pub verified : (d : ℕ) (files : List FileInfo) (es : List HashEntry) (own : List ℕ) (v : Verdict) (folder : Sizes) (others : List (List ℕ)) (old mid new : World)
    → Called (Drive d) (IsCall (DriveList d (Some files))) true old mid → ((m : Map) (L : List Event) → Honest old d m L → Lists (reads m L d) (dated (old.attached.dates d) L d) files)
    → folder ≡ listing files → others ≡ unlisted es (names files) own → FolderChecked d folder others es v mid new → Verified d es own v old new
verified d files es own v folder others old mid new called lists a b f =
    let one = drive_here d called.went in
    let calls = looked f.looks ++ says (last_lines others v) in
    let looks : Looks calls = looks_append (looked f.looks) (says (last_lines others v)) (looked_looks d folder f.looks f.follow) (says_looks (last_lines others v)) in
    let all : (m : Map) (L : List Event) → Honest new d m L → SizesOf (reads m L d) (listing files) = λ m L h.
    let x = looked_before d m L calls looks f.went h in
    let y = looked_before d m x.before (DriveList d (Some files) ∷ []) (one_look (DriveList d (Some files)) refl) one x.honest in
    subst (λ M. SizesOf M (listing files)) (sym (x.same ∙ y.same)) (sizes_of_lists _ _ files (lists m y.before y.honest)) in
    record {
      files = files;
      looks = f.looks;
      each = f.each;
      follow = subst (λ x. AllFollow d x f.looks) a f.follow;
      went = subst (λ o. Went (Here d) (Exactly (DriveList d (Some files) ∷ (looked f.looks ++ says (last_lines o v)))) old new) b (exact_then (DriveList d (Some files) ∷ []) calls one f.went);
      numbers = f.numbers ∙ ap (λ (o : List (List ℕ)). verdict (founds f.looks) (length o)) b;
      honest_names = λ m L h. names_of_sizes (reads m L d) (listing files) (all m L h);
      honest_founds = λ m L h. f.honest m L h (subst (SizesOf (reads m L d)) (sym a) (all m L h));
    }

reported : (d : ℕ) (es : List HashEntry) (own : List ℕ) (v : Verdict) (old new : World) → Verified d es own v old new → (m : Map) (L : List Event) → Honest new d m L
    → v ≡ report_verdict es (reads m L d) own
reported d es own v old new x m L h = x.numbers ∙ (λ i. verdict (x.honest_founds m L h i) (length (unlisted es (x.honest_names m L h i) own)))

-- the lines that the calls said
pub calls_said : (d : ℕ) (es : List HashEntry) (own : List ℕ) (v : Verdict) (old new : World) → (x : Verified d es own v old new)
    → said (DriveList d (Some x.files) ∷ (looked x.looks ++ says (last_lines (unlisted es (names x.files) own) v)))
    ≡ flat_map (λ (f : Found). entry_lines f.0 f.1) (founds x.looks) ++ last_lines (unlisted es (names x.files) own) v
calls_said d es own v old new x =
    let ts = last_lines (unlisted es (names x.files) own) v in
    said_append (looked x.looks) (says ts) ∙ (λ i. said_looked d (listing x.files) x.looks x.follow i ++ said_says ts i)

lines_said : (d : ℕ) (es : List HashEntry) (own : List ℕ) (v : Verdict) (old new : World) → Verified d es own v old new → (m : Map) (L : List Event) → Honest new d m L
    → Went (Here d) (Says (report_lines es (reads m L d) own)) old new
lines_said d es own v old new x m L h =
    let others = unlisted es (names x.files) own in
    let here = unlisted es (keys (reads m L d)) own in
    went_such (λ K is.
    ap said is
    ∙ said_append (looked x.looks) (says (last_lines others v))
    ∙ (λ i. said_looked d (listing x.files) x.looks x.follow i ++ said_says (last_lines others v) i)
    ∙ (λ i. flat_map (λ (f : Found). entry_lines f.0 f.1) (x.honest_founds m L h i) ++ last_lines (unlisted es (x.honest_names m L h i) own) (reported d es own v old new x m L h i))
    ∙ sym (append_assoc (flat_map (λ (f : Found). entry_lines f.0 f.1) (found_in (reads m L d) es)) (map (λ q. unlisted_text (shown q)) here) (verdict_line (report_verdict es (reads m L d) own) ∷ [])))
    x.went

pub result_numbers : (r : Result Verdict VerifyError) (d : ℕ) (es : List HashEntry) (own : List ℕ) (old new : World) → MatchResult r (λ v. Verified d es own v old new) (λ e. VerifyStopped d es own e old new)
    → (m : Map) (L : List Event) → Honest new d m L → IfOk r (λ v. v ≡ report_verdict es (reads m L d) own)
result_numbers (Ok v) d es own old new x m L h = reported d es own v old new x m L h
result_numbers (Err e) d es own old new x m L h = tt

pub result_lines : (r : Result Verdict VerifyError) (d : ℕ) (es : List HashEntry) (own : List ℕ) (old new : World) → MatchResult r (λ v. Verified d es own v old new) (λ e. VerifyStopped d es own e old new)
    → (m : Map) (L : List Event) → Honest new d m L → IfOk r (λ v. Went (Here d) (Says (report_lines es (reads m L d) own)) old new)
result_lines (Ok v) d es own old new x m L h = lines_said d es own v old new x m L h
result_lines (Err e) d es own old new x m L h = tt

pub result_verified : (r : Result Verdict VerifyError) (d : ℕ) (es : List HashEntry) (own : List ℕ) (old new : World) → MatchResult r (λ v. Verified d es own v old new) (λ e. VerifyStopped d es own e old new)
    → MatchResult r (λ v. Verified d es own v old new) (λ e. Stopped d (stopped_at_device d e) old new)
result_verified (Ok v) d es own old new x = x
result_verified (Err e) d es own old new x = x.stopped

pub result_begun : (r : Result Verdict VerifyError) (d : ℕ) (es : List HashEntry) (own : List ℕ) (old new : World) → MatchResult r (λ v. Verified d es own v old new) (λ e. VerifyStopped d es own e old new)
    → (m : Map) (L : List Event) → Honest new d m L → OnErr r (Went (Here d) (Begun (report_first_lines es (reads m L d) own)) old new)
result_begun (Ok v) d es own old new x m L h = tt
result_begun (Err e) d es own old new x m L h = x.begun m L h

pub result_memory : (r : Result Verdict VerifyError) (d : ℕ) (es : List HashEntry) (own : List ℕ) (old new : World) → MatchResult r (λ v. Verified d es own v old new) (λ e. VerifyStopped d es own e old new)
    → r ≡ Err Memory → Went (Only (Drive d)) (ListedAlone d) old new
result_memory (Ok v) d es own old new x is = absurd (cc is)
result_memory (Err e) d es own old new x is = x.memory (cc is)

-- the same entries and the same list, otherwise written
pub verified_as : (r : Result Verdict VerifyError) (d : ℕ) (es fs : List HashEntry) (own path : List ℕ) (old new : World) → es ≡ fs → own ≡ path
    → MatchResult r (λ v. Verified d es own v old new) (λ e. VerifyStopped d es own e old new) → MatchResult r (λ v. Verified d fs path v old new) (λ e. VerifyStopped d fs path e old new)
verified_as r d es fs own path old new same is h =
    subst (λ p. MatchResult r (λ v. Verified d fs p v old new) (λ e. VerifyStopped d fs p e old new)) is
    (subst (λ (l : List HashEntry). MatchResult r (λ v. Verified d l own v old new) (λ e. VerifyStopped d l own e old new)) same h)
