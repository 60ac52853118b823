-- Entries that were checked.
use Rattle.std.proofs.Common.{◌≡◌, ℕ, ◌+◌, ◌<◌, ◌≤◌, Bool, cond, List, [], ◌∷◌, ◌++◌, map, length, refl, sym, ◌∙◌, ap, subst, append-nil, arith, MatchResult, length-append, take, drop, get_or}
use Rattle.std.proofs.lemmas.List.{map-append, length-map, take_more, take-append-drop}
use Rattle.std.proofs.lemmas.List.Sums.{count_by-le-length, sum_by-append}
use Rattle.std.proofs.lemmas.Grind.{flat_map-append}
use Rattle.std.specs.Prelude.{Option, Some, None, Result, Ok, Err}
use Rattle.std.specs.List.{count_by}
use Rattle.std.specs.FinMap.{get}
use Rattle.bay_core.specs.declared.event.Event.{Event}
use Rattle.bay_core.specs.Map.{Map}
use Rattle.bay_core.specs.Replay.{Device, reads}
use Rattle.bay_core.specs.World.{World, Attached}
use Rattle.bay_core.specs.Went.{Went}
use Rattle.bay_core.specs.Looks.{Here, Exactly, says, given, Looks, said}
use Rattle.bay_core.proofs.Runs.{went_none, went_such}
use Rattle.bay_core.proofs.Looking.{exact_then, looks_append, no_looks, says_looks, tiles_look, looked_before, drive_here, said_append, said_says, said_tiles}
use Rattle.folder_listing.specs.Listing.{Sizes}
use Rattle.mhl_writer.specs.declared.values.HashEntry.{HashEntry}
use Rattle.report_text.specs.Line.{missing_text, unlisted_text}
use Rattle.report_text.specs.Shown.{shown}
use Rattle.verify_run.specs.declared.reading.FileRead.{FileRead}
use Rattle.verify_run.specs.declared.verdict.Verdict.{Verdict}
use Rattle.verify_run.specs.declared.verdict.Standing.{Standing}
use Rattle.verify_run.specs.declared.verdict.Standing.TheVariants.{Absent, Altered, Good, Uncheckable}
use Rattle.verify_run.specs.declared.verdict.VerifyError.{VerifyError}
use Rattle.verify_run.specs.Calls.{stopped_at_device, AnyMap, Begun, LinesStopped}
use Rattle.verify_run.specs.Report.{Found, standing, standings, entry_lines, is_absent, is_altered, is_uncheckable, verdict, verdict_line, counted, found_in, found_lines}
use Rattle.verify_run.specs.Results.{SizesOf, FileTaken, DigestsOf, bytes_read, Follows, entry_calls, EntryChecked, Look, founds, looked, AllFollow, EntriesChecked, FolderChecked, last_lines}
use Rattle.verify_run.proofs.Lines.{said_then}
use Rattle.file_reading.proofs.Sizes.{some_size, no_size}
use Rattle.verify_run.proofs.Stops.{stopped_before, lines_after, lines_more, lines_as}

-- a drive stays attached
pub still_attached : {On : Device → Type 0} {P : List Event → Type 0} {old new : World} (d : ℕ) → Went On P old new → d < old.attached.drives → d < new.attached.drives
still_attached d w h = subst (λ (a : Attached). d < a.drives) (sym w.attached) h

pub missing_checked : (d : ℕ) (folder : Sizes) (e : HashEntry) (old new : World) → get folder e.path ≡ None → Went (Here d) (Exactly (says (missing_text e.path ∷ []))) old new → EntryChecked d folder e Absent old new
missing_checked d folder e old new none w = record {
  calls = None;
  follows = none;
  went = w;
  standing = refl;
  honest = λ m L h sizes. sym (no_size (get (reads m L d) e.path) (sym none ∙ sizes e.path));
}

found_checked : (d : ℕ) (folder : Sizes) (e : HashEntry) (size len : ℕ) (Such : List ℕ → Type 0) (s : Standing) (old mid new : World) → get folder e.path ≡ Some size → (t : FileTaken d e.path size len Such old mid)
    → (s ≡ standing e (Some (given t.calls))) × Went (Here d) (Exactly (says (entry_lines e (Some (given t.calls))))) mid new → EntryChecked d folder e s old new
found_checked d folder e size len Such s old mid new there t said = record {
  calls = Some t.calls;
  follows = (size, there, t.tiles, t.asked, t.ended);
  went = exact_then t.calls (says (entry_lines e (Some (given t.calls)))) (drive_here d t.went) said.1;
  standing = said.0;
  honest = λ m L h sizes.
      let b = looked_before d m L (says (entry_lines e (Some (given t.calls)))) (says_looks _) said.1 h in
      let c = some_size (get (reads m L d) e.path) size (sym there ∙ sizes e.path) in
      ap Some (t.honest m b.before b.honest c.0 (ap (λ (M : Map). get M e.path) (sym b.same) ∙ c.1) c.2) ∙ sym c.1;
}

-- a file that was read, and lines of it that could not be said
found_stopped : (d : ℕ) (folder : Sizes) (e : HashEntry) (size len : ℕ) (Such : List ℕ → Type 0) (x : VerifyError) (old mid new : World) → get folder e.path ≡ Some size → (t : FileTaken d e.path size len Such old mid)
    → LinesStopped d AnyMap (λ _. entry_lines e (Some (given t.calls))) x mid new → LinesStopped d (λ m. SizesOf m folder) (λ m. entry_lines e (get m e.path)) x old new
found_stopped d folder e size len Such x old mid new there t s =
    lines_after d (λ m. SizesOf m folder) (λ m. []) (λ m. entry_lines e (get m e.path)) x t.calls (tiles_look d e.path 0 t.calls t.tiles) (drive_here d t.went) (λ m L h sizes. said_tiles d e.path 0 t.calls t.tiles) (record {
      stopped = s.stopped;
      failed = s.failed;
      honest = λ m L h sizes.
          let b = stopped_before d (stopped_at_device d x) m L s.stopped h in
          let c = some_size (get (reads m L d) e.path) size (sym there ∙ sizes e.path) in
          let is : given t.calls ≡ c.0 = t.honest m b.0 b.1 c.0 (ap (λ (M : Map). get M e.path) (sym b.2) ∙ c.1) c.2 in
          went_such (λ X g. subst (λ (o : Option (List ℕ)). Begun (entry_lines e o) X) (ap Some is ∙ sym c.1) g) (s.honest m L h tt);
    })

pub found_result : (r : Result Standing VerifyError) (d : ℕ) (folder : Sizes) (e : HashEntry) (size : ℕ) (f : FileRead) (old mid new : World) → get folder e.path ≡ Some size → FileTaken d e.path size f.len (DigestsOf e f) old mid
    → ((bytes : List ℕ) → f.len ≡ length bytes → DigestsOf e f bytes
    → MatchResult r (λ s. (s ≡ standing e (Some bytes)) × Went (Here d) (Exactly (says (entry_lines e (Some bytes)))) mid new) (λ x. LinesStopped d AnyMap (λ _. entry_lines e (Some bytes)) x mid new))
    → MatchResult r (λ s. EntryChecked d folder e s old new) (λ x. LinesStopped d (λ m. SizesOf m folder) (λ m. entry_lines e (get m e.path)) x old new)
found_result (Ok s) d folder e size f old mid new there t said = found_checked d folder e size f.len (DigestsOf e f) s old mid new there t (said (given t.calls) t.long t.such)
found_result (Err x) d folder e size f old mid new there t said = found_stopped d folder e size f.len (DigestsOf e f) x old mid new there t (said (given t.calls) t.long t.such)

entry_looks : (d : ℕ) (folder : Sizes) (e : HashEntry) (calls : Option (List Event)) → Follows d folder e calls → Looks (entry_calls e calls)
entry_looks d folder e None f = says_looks (entry_lines e None)
entry_looks d folder e (Some calls) f = looks_append calls (says (entry_lines e (Some (given calls)))) (tiles_look d e.path 0 calls f.2) (says_looks _)

pub looked_looks : (d : ℕ) (folder : Sizes) (looks : List Look) → AllFollow d folder looks → Looks (looked looks)
unfolding AllFollow
looked_looks d folder [] f = no_looks
looked_looks d folder (k ∷ looks) f = looks_append (entry_calls k.0 k.1) (looked looks) (entry_looks d folder k.0 k.1 f.0) (looked_looks d folder looks f.1)

follow_push : (d : ℕ) (folder : Sizes) (looks : List Look) (k : Look) → AllFollow d folder looks → Follows d folder k.0 k.1 → AllFollow d folder (looks ++ k ∷ [])
unfolding AllFollow
follow_push d folder [] k f h = (h, tt)
follow_push d folder (x ∷ looks) k f h = (f.0, follow_push d folder looks k f.1 h)

count_push : (p : Standing → Bool) (ss : List Standing) (s : Standing) → count_by p (ss ++ s ∷ []) ≡ count_by p ss + cond (p s) 1 0
count_push p ss s = omega (arith, sum_by-append (λ x. cond (p x) 1 0) ss (s ∷ []))

abbrev tally : ℕ → List Standing → Verdict
tally n ss = record { entries = n; missing = count_by is_absent ss; altered = count_by is_altered ss; unchecked = count_by is_uncheckable ss; unlisted = 0 }

numbers : (v w : Verdict) → v.entries ≡ w.entries → v.missing ≡ w.missing → v.altered ≡ w.altered → v.unchecked ≡ w.unchecked → v.unlisted ≡ w.unlisted → v ≡ w
numbers v w a b c x y = λ i. record { entries = a i; missing = b i; altered = c i; unchecked = x i; unlisted = y i }

tally_push : (n : ℕ) (ss : List Standing) (s : Standing) → counted (tally n ss) s ≡ tally (n + 1) (ss ++ s ∷ [])
tally_push n ss Absent = numbers _ _ refl (sym (count_push is_absent ss Absent)) (omega (arith, count_push is_altered ss Absent)) (omega (arith, count_push is_uncheckable ss Absent)) refl
tally_push n ss Altered = numbers _ _ refl (omega (arith, count_push is_absent ss Altered)) (sym (count_push is_altered ss Altered)) (omega (arith, count_push is_uncheckable ss Altered)) refl
tally_push n ss Uncheckable = numbers _ _ refl (omega (arith, count_push is_absent ss Uncheckable)) (omega (arith, count_push is_altered ss Uncheckable)) (sym (count_push is_uncheckable ss Uncheckable)) refl
tally_push n ss Good = numbers _ _ refl (omega (arith, count_push is_absent ss Good)) (omega (arith, count_push is_altered ss Good)) (omega (arith, count_push is_uncheckable ss Good)) refl

founds_push : (looks : List Look) (e : HashEntry) (calls : Option (List Event)) → founds (looks ++ (e, calls) ∷ []) ≡ founds looks ++ (e, bytes_read calls) ∷ []
founds_push looks e calls = map-append (λ (k : Look). (k.0, bytes_read k.1)) looks ((e, calls) ∷ [])

verdict_push : (fs : List Found) (f : Found) → counted (verdict fs 0) (standing f.0 f.1) ≡ verdict (fs ++ f ∷ []) 0
verdict_push fs f =
    tally_push (length fs) (standings fs) (standing f.0 f.1)
    ∙ (λ i. tally (sym (length-append fs (f ∷ [])) i) (sym (map-append (λ (g : Found). standing g.0 g.1) fs (f ∷ [])) i))

looked_push : (looks : List Look) (e : HashEntry) (calls : Option (List Event)) → looked looks ++ entry_calls e calls ≡ looked (looks ++ (e, calls) ∷ [])
looked_push looks e calls = sym (flat_map-append (λ (k : Look). entry_calls k.0 k.1) looks ((e, calls) ∷ []) ∙ ap (λ (l : List Event). looked looks ++ l) (append-nil (entry_calls e calls)))

pub none_checked : (d : ℕ) (folder : Sizes) (w : World) → EntriesChecked d folder [] (record { entries = 0; missing = 0; altered = 0; unchecked = 0; unlisted = 0 }) w w
unfolding AllFollow
none_checked d folder w = record { looks = []; each = refl; follow = tt; went = went_none (Here d) w; numbers = refl; honest = λ m L h sizes. refl }

pub entries_push : (d : ℕ) (folder : Sizes) (es : List HashEntry) (e : HashEntry) (v : Verdict) (s : Standing) (old mid new : World) → EntriesChecked d folder es v old mid → EntryChecked d folder e s mid new
    → EntriesChecked d folder (es ++ e ∷ []) (counted v s) old new
entries_push d folder es e v s old mid new k x = record {
  looks = k.looks ++ (e, x.calls) ∷ [];
  each = map-append (λ (l : Look). l.0) k.looks ((e, x.calls) ∷ []) ∙ ap (λ (l : List HashEntry). l ++ e ∷ []) k.each;
  follow = follow_push d folder k.looks (e, x.calls) k.follow x.follows;
  went = subst (λ K. Went (Here d) (Exactly K) old new) (looked_push k.looks e x.calls) (exact_then (looked k.looks) (entry_calls e x.calls) k.went x.went);
  numbers = (λ i. counted (k.numbers i) (x.standing i)) ∙ verdict_push (founds k.looks) (e, bytes_read x.calls) ∙ ap (λ fs. verdict fs 0) (sym (founds_push k.looks e x.calls));
  honest = λ m L h sizes.
      let b = looked_before d m L (entry_calls e x.calls) (entry_looks d folder e x.calls x.follows) x.went h in
      let before : founds k.looks ≡ found_in (reads m L d) es = k.honest m b.before b.honest (subst (λ M. SizesOf M folder) b.same sizes) ∙ ap (λ M. found_in M es) (sym b.same) in
      founds_push k.looks e x.calls
      ∙ (λ i. before i ++ (e, x.honest m L h sizes i) ∷ [])
      ∙ sym (map-append (λ (y : HashEntry). (y, get (reads m L d) y.path)) es (e ∷ []));
}

-- the numbers are at most the number of entries
pub record Few (v : Verdict) (n : ℕ) : Type 0 where
  pub entries : v.entries ≡ n
  pub missing : v.missing ≤ n
  pub altered : v.altered ≤ n
  pub unchecked : v.unchecked ≤ n

pub few : (d : ℕ) (folder : Sizes) (es : List HashEntry) (v : Verdict) (old new : World) → EntriesChecked d folder es v old new → Few v (length es)
few d folder es v old new k =
    let n : length k.looks ≡ length es = sym (length-map k.looks (λ (l : Look). l.0)) ∙ ap length k.each in
    let m : length (founds k.looks) ≡ length es = length-map k.looks (λ (l : Look). (l.0, bytes_read l.1)) ∙ n in
    let o : length (standings (founds k.looks)) ≡ length es = length-map (founds k.looks) (λ (f : Found). standing f.0 f.1) ∙ m in
    record {
      entries = ap (λ (w : Verdict). w.entries) k.numbers ∙ m;
      missing = omega (arith, ap (λ (w : Verdict). w.missing) k.numbers, count_by-le-length is_absent (standings (founds k.looks)), o);
      altered = omega (arith, ap (λ (w : Verdict). w.altered) k.numbers, count_by-le-length is_altered (standings (founds k.looks)), o);
      unchecked = omega (arith, ap (λ (w : Verdict). w.unchecked) k.numbers, count_by-le-length is_uncheckable (standings (founds k.looks)), o);
    }

pub entries_turn : (d : ℕ) (folder : Sizes) (es : List HashEntry) (i : ℕ) (e : HashEntry) (v w : Verdict) (s : Standing) (old mid new : World) → i < length es → e ≡ get_or es i e
    → EntriesChecked d folder (take i es) v old mid → EntryChecked d folder e s mid new → w ≡ counted v s → EntriesChecked d folder (take (i + 1) es) w old new
entries_turn d folder es i e v w s old mid new within is k x n =
    subst (λ t. EntriesChecked d folder t w old new) (sym (take_more es i e within ∙ ap (λ y. take i es ++ y ∷ []) (sym is)))
    (subst (λ u. EntriesChecked d folder (take i es ++ e ∷ []) u old new) (sym n) (entries_push d folder (take i es) e v s old mid new k x))

pub said_entry : (d : ℕ) (folder : Sizes) (e : HashEntry) (calls : Option (List Event)) → Follows d folder e calls → said (entry_calls e calls) ≡ entry_lines e (bytes_read calls)
said_entry d folder e None f = said_says (entry_lines e None)
said_entry d folder e (Some calls) f =
    said_append calls (says (entry_lines e (Some (given calls)))) ∙ (λ i. said_tiles d e.path 0 calls f.2 i ++ said_says (entry_lines e (Some (given calls))) i)

-- the lines that were said of entries
pub said_looked : (d : ℕ) (folder : Sizes) (looks : List Look) → AllFollow d folder looks → said (looked looks) ≡ found_lines (founds looks)
unfolding AllFollow
said_looked d folder [] f = refl
said_looked d folder (k ∷ looks) f = said_append (entry_calls k.0 k.1) (looked looks) ∙ (λ i. said_entry d folder k.0 k.1 f.0 i ++ said_looked d folder looks f.1 i)

abbrev lines_in : Map → List HashEntry → List (List ℕ)
lines_in m es = found_lines (found_in m es)

lines_append : (m : Map) (xs ys : List HashEntry) → lines_in m (xs ++ ys) ≡ lines_in m xs ++ lines_in m ys
lines_append m xs ys =
    ap found_lines (map-append (λ (e : HashEntry). (e, get m e.path)) xs ys)
    ∙ flat_map-append (λ (f : Found). entry_lines f.0 f.1) (found_in m xs) (found_in m ys)

-- the lines of the entries before one, of that one, and of those after it
lines_split : (m : Map) (es : List HashEntry) (i : ℕ) (e : HashEntry) → i < length es → e ≡ get_or es i e
    → (lines_in m (take i es) ++ entry_lines e (get m e.path)) ++ lines_in m (drop (i + 1) es) ≡ lines_in m es
lines_split m es i e within is =
    let one : lines_in m (take (i + 1) es) ≡ lines_in m (take i es) ++ entry_lines e (get m e.path) =
    ap (lines_in m) (take_more es i e within ∙ ap (λ y. take i es ++ y ∷ []) (sym is))
    ∙ lines_append m (take i es) (e ∷ [])
    ∙ ap (λ (l : List (List ℕ)). lines_in m (take i es) ++ l) (append-nil (entry_lines e (get m e.path))) in
    ap (λ (l : List (List ℕ)). l ++ lines_in m (drop (i + 1) es)) (sym one)
    ∙ sym (lines_append m (take (i + 1) es) (drop (i + 1) es))
    ∙ ap (lines_in m) (take-append-drop (i + 1) es)

-- entries that were checked, and then a run that stopped
pub checked_then : (d : ℕ) (folder : Sizes) (es : List HashEntry) (v : Verdict) (lines : Map → List (List ℕ)) (x : VerifyError) (old mid new : World) → EntriesChecked d folder es v old mid
    → LinesStopped d (λ m. SizesOf m folder) lines x mid new → LinesStopped d (λ m. SizesOf m folder) (λ m. lines_in m es ++ lines m) x old new
checked_then d folder es v lines x old mid new k s =
    lines_after d (λ m. SizesOf m folder) (λ m. lines_in m es) lines x (looked k.looks) (looked_looks d folder k.looks k.follow) k.went
    (λ m L h sizes. said_looked d folder k.looks k.follow ∙ ap found_lines (k.honest m L h sizes)) s

-- an entry at which the check stopped
pub entries_stopped : (d : ℕ) (folder : Sizes) (es : List HashEntry) (i : ℕ) (e : HashEntry) (v : Verdict) (x : VerifyError) (old mid new : World) → i < length es → e ≡ get_or es i e
    → EntriesChecked d folder (take i es) v old mid → LinesStopped d (λ m. SizesOf m folder) (λ m. entry_lines e (get m e.path)) x mid new → LinesStopped d (λ m. SizesOf m folder) (λ m. lines_in m es) x old new
entries_stopped d folder es i e v x old mid new within is k s =
    lines_as d (λ m. SizesOf m folder) (λ m. SizesOf m folder) (λ m. (lines_in m (take i es) ++ entry_lines e (get m e.path)) ++ lines_in m (drop (i + 1) es)) (λ m. lines_in m es) x (λ m sizes. sizes) (λ m sizes. lines_split m es i e within is)
    (lines_more d (λ m. SizesOf m folder) (λ m. lines_in m (take i es) ++ entry_lines e (get m e.path)) (λ m. lines_in m (drop (i + 1) es)) x (checked_then d folder (take i es) v (λ m. entry_lines e (get m e.path)) x old mid new k s))

pub folder_checked : (d : ℕ) (folder : Sizes) (others : List (List ℕ)) (es : List HashEntry) (v w : Verdict) (old one two new : World) → EntriesChecked d folder es v old one
    → w ≡ record v { unlisted = length others }
    → Went (Here d) (Exactly (says (map (λ q. unlisted_text (shown q)) others))) one two → Went (Here d) (Exactly (says (verdict_line w ∷ []))) two new
    → FolderChecked d folder others es w old new
folder_checked d folder others es v w old one two new k n x y =
    let last = said_then d (map (λ q. unlisted_text (shown q)) others) (verdict_line w ∷ []) x y in
    record {
      looks = k.looks;
      each = k.each;
      follow = k.follow;
      went = exact_then (looked k.looks) (says (last_lines others w)) k.went last;
      numbers = n ∙ ap (λ (u : Verdict). record u { unlisted = length others }) k.numbers;
      honest = λ m L h sizes.
          let b = looked_before d m L (says (last_lines others w)) (says_looks (last_lines others w)) last h in
          k.honest m b.before b.honest (subst (λ M. SizesOf M folder) b.same sizes) ∙ ap (λ M. found_in M es) (sym b.same);
    }
