-- How the run of `verify` follows from its calls.
use Rattle.std.proofs.Common.{◌≡◌, inl, ℕ, List, [], ◌∷◌, ◌++◌, refl, sym, ◌∙◌, ap, subst, append-nil, append_assoc, arith, map}
use Rattle.std.specs.Prelude.{Option, Some, None, Ok, Err, bytes_eq}
use Rattle.std.specs.FinMap.{get}
use Rattle.std.specs.List.{IsDistinct}
use Rattle.bay_core.specs.declared.event.Event.{Event}
use Rattle.bay_core.specs.declared.event.Event.TheVariants.{DriveList}
use Rattle.bay_core.specs.declared.event.FileInfo.{FileInfo}
use Rattle.bay_core.specs.Map.{Map}
use Rattle.bay_core.specs.Replay.{Device, Drive, reads}
use Rattle.bay_core.specs.World.{World, Honest}
use Rattle.bay_core.specs.Went.{Went, Then}
use Rattle.bay_core.specs.Attach.{Attaches}
use Rattle.bay_core.specs.Looks.{IsUntouched, Looks, says, Here, Stopped, Caused, Says, said}
use Rattle.bay_core.proofs.Runs.{made_then, went_then, went_such, since_made, rose_still, rose_since, told_since}
use Rattle.bay_core.proofs.Honesty.{honest_before}
use Rattle.bay_core.proofs.Looking.{reads_kept, looks_keep, stops_keep, drive_here, said_append, said_tiles, looks_append, one_look, says_looks}
use Rattle.mhl_writer.specs.declared.values.HashList.{HashList}
use Rattle.mhl_writer.specs.declared.values.HashEntry.{HashEntry}
use Rattle.verify_run.specs.declared.loading.LoadError.{LoadError}
use Rattle.verify_run.specs.declared.loading.LoadError.TheVariants.{DriveFailed, Absent, TooLarge, Unreadable, Memory}
use Rattle.verify_run.specs.declared.verdict.VerifyError.{VerifyError}
use Rattle.verify_run.specs.declared.verdict.Verdict.{Verdict}
use Rattle.verify_run.specs.Calls.{stopped_at_device, Begun}
use Rattle.verify_run.specs.Loading.{LoadCalls, LoadGives, Loaded}
use Rattle.verify_run.specs.Results.{Verified, looked}
use Rattle.verify_run.specs.Report.{report_lines, report_first_lines, report_verdict, outcome_of}
use Rattle.verify_run.specs.Seen.{Reports}
use Rattle.verify_run.proofs.Checks.{looked_looks}
use Rattle.verify_run.proofs.Loads.{load_keeps}
use Rattle.last_lines.specs.Ends.{End, EndCalls, Ended}
use Rattle.station_run.specs.Ends.{outcome_status, load_end, broken_end}
use Rattle.station_run.specs.Runs.{LoadCause, SaidSince, BegunSince, Unchanged}
use Rattle.station_run.specs.Verify.{VerifyStory, NoList, NoVerdict, WithVerdict, Answered, VerifyCalls, VerifyCause, VerifyTrue, VerifiedOn, VerifyRun, VerifiedThen, unattached, attached}
use Rattle.last_lines.proofs.Ends.{end_keeps, end_said}
use Rattle.station_run.proofs.Ends.{ended_here, status_since}
use Rattle.station_run.proofs.Attached.{in_turn, attach_caused, attach_load_cause, one_attached, run_after, said_before, begun_before, then_keeps, attach_then_keeps, run_unchanged, none_unchanged}

-- ---- shared with `print`

-- what holds of the map of an honest drive still holds after calls
pub still_so : {On : Device → Type 0} {P : List Event → Type 0} {mid new : World} (H : Map → Type 0) (d : ℕ) → ((L : List Event) → P L → IsUntouched L) → Went On P mid new
    → ((m : Map) (L : List Event) → Honest mid d m L → H (reads m L d)) → (m : Map) (all : List Event) → Honest new d m all → H (reads m all d)
still_so {On} {P} {mid} {new} H d keep w before_so m all h =
    let (before, was) = honest_before d m all w h in
    let t = told_since w before all was.events h.events in
    subst H (sym (reads_kept m before t.since d (keep t.since t.such)) ∙ ap (λ (l : List Event). reads m l d) (sym t.is)) (before_so m before was)

pub load_cause : {On : Device → Type 0} {P : List Event → Type 0} (list : List ℕ) (old : World) {mid new : World} (d : ℕ) (e : LoadError) → Loaded d list (Err e) old mid → Went On P mid new → LoadCause e d old new
load_cause list old d DriveFailed loaded w = rose_still (Drive d) (old.faults (Drive d)) w (loaded.cause refl)
load_cause list old d Absent loaded w = tt
load_cause list old d (TooLarge len) loaded w = tt
load_cause list old d (Unreadable e) loaded w = tt
load_cause list old d Memory loaded w = tt

-- ---- the list was not loaded

pub verify_unloaded : (d : ℕ) (list : List ℕ) (e : LoadError) (result : ℕ) (old mid new : World) → Loaded d list (Err e) old mid → Ended (load_end e) result mid new → VerifiedThen d list result old new
verify_unloaded d list e result old mid new loaded ended =
    let w = ended_here d ended in
    record {
      story = NoList e;
      went = went_then (drive_here d loaded.went) w;
      cause = load_cause list old d e loaded w;
      status = status_since new (load_end e) result loaded.went ended.status;
      honest = still_so (λ m. LoadGives (get m list) (Err e)) d (end_keeps (load_end e) result) w loaded.honest;
    }

-- ---- there is a verdict

-- what holds after calls, where they are told, may follow from what they were
went_given : {On : Device → Type 0} {P Q R : List Event → Type 0} {old mid new : World} → Went On P old mid → Went On R mid new → ((A : List Event) → P A → Went On Q mid new) → Went On (Then P Q) old new
went_given one two so = record {
  told = λ all now. let m = one.told (two.told all now).before (two.told all now).was in made_then one.told ((so m.since m.such).told all now);
  later = λ x. let a = one.later x in let b = two.later x in omega (arith, a, b);
  others = λ x apart. two.others x apart ∙ one.others x apart;
  attached = two.attached ∙ one.attached;
}

-- a listing, answered looks and lines
listed_looks : (d : ℕ) (files : List FileInfo) (calls : List Event) (lines : List (List ℕ)) → Looks calls → Looks (DriveList d (Some files) ∷ (calls ++ says lines))
listed_looks d files calls lines looks =
    looks_append (DriveList d (Some files) ∷ []) (calls ++ says lines) (one_look (DriveList d (Some files)) refl) (looks_append calls (says lines) looks (says_looks lines))

-- the calls of a verification with a verdict were all answered
pub verified_looks : (d : ℕ) (entries : List HashEntry) (own : List ℕ) (v : Verdict) {old new : World} → Verified d entries own v old new → Went (Here d) Looks old new
verified_looks d entries own v w =
    went_such (λ L is. subst Looks (sym is) (listed_looks d w.files (looked w.looks) _ (looked_looks d _ w.looks w.follow))) w.went

-- how a verification went that came to its verdict
pub record Came (d : ℕ) (hashes : HashList) (list : List ℕ) (v : Verdict) (mid new : World) : Type 0 where
  pub seen : IsDistinct bytes_eq (map (λ (e : HashEntry). e.path) hashes.entries.items) → Went (Here d) (Reports d hashes.entries.items list v) mid new
  pub answered : Went (Here d) Looks mid new
  pub lines : (m : Map) (L : List Event) → Honest new d m L → Went (Here d) (Says (report_lines hashes.entries.items (reads m L d) list)) mid new
  pub numbers : (m : Map) (L : List Event) → Honest new d m L → v ≡ report_verdict hashes.entries.items (reads m L d) list

answered_so : (d : ℕ) (list : List ℕ) (hashes : HashList) (v : Verdict) {mid new : World} → Went (Here d) Looks mid new → Went (Here d) (Reports d hashes.entries.items list v) mid new → Went (Here d) (Answered d list hashes v) mid new
answered_so d list hashes v one two = record {
  told = λ all now. let m = one.told all now in
      record { before = m.before; since = m.since; was = m.was; is = m.is; on = m.on; such = record { looks = m.such; reports = (since_made two m.before m.since m.was (now ∙ ap Some m.is)).such } };
  later = one.later;
  others = one.others;
  attached = one.attached;
}

-- nothing is said while a list is loaded
load_says_nothing : (d : ℕ) (list : List ℕ) (hashes : HashList) (L : List Event) → LoadCalls d list (Ok hashes) L → said L ≡ []
load_says_nothing d list hashes L (bytes, (files, t), means) = ap said t.is ∙ said_tiles d list 0 t.calls t.such.1.tiles

said_since : (d : ℕ) (list : List ℕ) (hashes : HashList) (lines : List (List ℕ)) {old mid new : World} (all : List Event) → Went (Here d) (LoadCalls d list (Ok hashes)) old mid → Went (Here d) (Says lines) mid new → new.events ≡ Some all → SaidSince lines old.events all
said_since d list hashes lines all one two now =
    let w = two.told all now in
    let m = one.told w.before w.was in
    record {
      before = m.before;
      since = m.since ++ w.since;
      was = m.was;
      is = w.is ∙ ap (λ (l : List Event). l ++ w.since) m.is ∙ append_assoc m.before m.since w.since;
      lines_are = said_append m.since w.since ∙ ap (λ (l : List (List ℕ)). l ++ said w.since) (load_says_nothing d list hashes m.since m.such) ∙ w.such;
    }

pub verify_came : (d : ℕ) (list : List ℕ) (hashes : HashList) (v : Verdict) (result : ℕ) (old mid new : World) → Loaded d list (Ok hashes) old mid → Came d hashes list v mid new → result ≡ outcome_status (outcome_of v) → VerifiedThen d list result old new
verify_came d list hashes v result old mid new loaded came status =
    record {
      story = WithVerdict hashes v;
      went = went_such (λ L t. record { first = L; second = []; is = sym (append-nil L); here = t; there = inl (refl, status) })
          (went_given (drive_here d loaded.went) came.answered (λ A calls. answered_so d list hashes v came.answered (came.seen loaded.distinct)));
      cause = tt;
      status = inl status;
      honest = λ m all h. record {
        loaded = still_so (λ map. LoadGives (get map list) (Ok hashes)) d looks_keep came.answered loaded.honest m all h;
        numbers = came.numbers m all h;
        lines = said_since d list hashes (report_lines hashes.entries.items (reads m all d) list) all (drive_here d loaded.went) (came.lines m all h) h.events;
      };
    }

-- ---- the verification broke off

caused_since : {On More : Device → Type 0} {P Q : List Event → Type 0} (old : World) {mid stop : World} (new : World) (at : Option Device) → Went On P old mid → Went More Q stop new → Caused at mid stop → Caused at old new
caused_since old new None one two cause = tt
caused_since old new (Some x) one two cause = rose_still x (old.faults x) two (rose_since x _ one cause)

said_in_turn : (L A B : List Event) (first last : List (List ℕ)) → said L ≡ [] → said A ≡ first → said B ≡ last → said (L ++ (A ++ B)) ≡ first ++ last
said_in_turn L A B first last none one two =
    said_append L (A ++ B) ∙ ap (λ (l : List (List ℕ)). l ++ said (A ++ B)) none ∙ said_append A B ∙ (λ i. one i ++ two i)

begun_since : (d : ℕ) (list : List ℕ) (hashes : HashList) (lines : List (List ℕ)) (end : End) (result : ℕ) {old mid stop new : World} (at all : List Event) → Went (Here d) (LoadCalls d list (Ok hashes)) old mid
    → Went (Here d) (Begun lines) mid stop → Went (Here d) (EndCalls end result) stop new → stop.events ≡ Some at → new.events ≡ Some all → BegunSince lines end old.events all
begun_since d list hashes lines end result at all one two three stopped now =
    let t = told_since three at all stopped now in
    let b = two.told at stopped in
    let l = one.told b.before b.was in
    let e = end_said end result t.since t.such in
    record {
      first = said b.since;
      rest = b.such.0;
      last = e.last;
      more = e.more;
      lines_are = b.such.1;
      end_are = e.lines_are;
      said_are = record {
        before = l.before;
        since = l.since ++ (b.since ++ t.since);
        was = l.was;
        is = t.is ∙ ap (λ (k : List Event). k ++ t.since) (b.is ∙ ap (λ (k : List Event). k ++ b.since) l.is ∙ append_assoc l.before l.since b.since) ∙ append_assoc l.before (l.since ++ b.since) t.since
            ∙ ap (λ (k : List Event). l.before ++ k) (append_assoc l.since b.since t.since);
        lines_are = said_in_turn l.since b.since t.since (said b.since) e.last (load_says_nothing d list hashes l.since l.such) refl e.said_are;
      };
    }

pub verify_broken : (d : ℕ) (list : List ℕ) (hashes : HashList) (e : VerifyError) (result : ℕ) (old mid stop new : World) → Loaded d list (Ok hashes) old mid → Stopped d (stopped_at_device d e) mid stop
    → ((m : Map) (L : List Event) → Honest stop d m L → Went (Here d) (Begun (report_first_lines hashes.entries.items (reads m L d) list)) mid stop) → Ended (broken_end e) result stop new → VerifiedThen d list result old new
verify_broken d list hashes e result old mid stop new loaded stopped begun ended =
    let w = ended_here d ended in
    let load = drive_here d loaded.went in
    let later = went_then stopped.went w in
    record {
      story = NoVerdict hashes e;
      went = went_such in_turn (went_then load later);
      cause = caused_since old new (stopped_at_device d e) loaded.went w stopped.cause;
      status = status_since new (broken_end e) result (went_then load stopped.went) ended.status;
      honest = λ m all h.
          let (at, was) = honest_before d m all w h in
          let t = told_since w at all was.events h.events in
          let same = reads_kept m at t.since d (end_keeps (broken_end e) result t.since t.such) in
          let there : reads m at d ≡ reads m all d = sym same ∙ ap (λ (l : List Event). reads m l d) (sym t.is) in
          record {
            loaded = still_so (λ map. LoadGives (get map list) (Ok hashes)) d (then_keeps (stops_keep (stopped_at_device d e)) (end_keeps (broken_end e) result)) later loaded.honest m all h;
            lines = subst (λ map. BegunSince (report_first_lines hashes.entries.items map list) (broken_end e) old.events all) there
                (begun_since d list hashes (report_first_lines hashes.entries.items (reads m at d) list) (broken_end e) result at all load (begun m at was) w was.events h.events);
          };
    }

-- ---- with the attach

verify_cause : {place : List ℕ} {old mid : World} (new : World) (d : ℕ) (story : VerifyStory) → Attaches place (Ok d) old mid → VerifyCause story d mid new → VerifyCause story d old new
verify_cause new d (NoList e) a cause = attach_load_cause a new d e cause
verify_cause new d (NoVerdict hashes e) a cause = attach_caused a new (stopped_at_device d e) cause
verify_cause new d (WithVerdict hashes v) a cause = tt

verify_true : {place : List ℕ} {old mid : World} (d : ℕ) (story : VerifyStory) (list : List ℕ) (m : Map) (all : List Event) → Attaches place (Ok d) old mid → VerifyTrue story list m mid.events all → VerifyTrue story list m old.events all
verify_true d (NoList e) list m all a so = so
verify_true d (NoVerdict hashes e) list m all a so = record { loaded = so.loaded; lines = begun_before d all a so.lines }
verify_true d (WithVerdict hashes v) list m all a so = record { loaded = so.loaded; numbers = so.numbers; lines = said_before d all a so.lines }

verified_on : (d : ℕ) (list place : List ℕ) (result : ℕ) (old mid new : World) → Attaches place (Ok d) old mid → VerifiedThen d list result mid new → VerifiedOn d list place result old new
verified_on d list place result old mid new a on = record {
  story = on.story;
  run = run_after d place old mid new a on.went on.status;
  cause = verify_cause new d on.story a on.cause;
  honest = λ m all h. verify_true d on.story list (reads m all d) all a (on.honest m all h);
}

pub verify_attached_run : (d : ℕ) (list place : List ℕ) (result : ℕ) (old mid new : World) → Attaches place (Ok d) old mid → VerifiedThen d list result mid new → VerifyRun list place result old new
verify_attached_run d list place result old mid new a on =
    let next = a.numbered.0 in
    let first = subst (λ n. Attaches place (Ok n) old mid) next a in
    attached (one_attached place old mid new first on.went.attached) (verified_on old.attached.drives list place result old mid new first (subst (λ n. VerifiedThen n list result mid new) next on))

-- ---- nothing is changed

verify_keeps : (story : VerifyStory) (list : List ℕ) (d : ℕ) (L : List Event) → VerifyCalls story list d L → IsUntouched L
verify_keeps (NoList e) list d L calls = load_keeps d list (Err e) L calls
verify_keeps (NoVerdict hashes e) list d L calls = then_keeps (load_keeps d list (Ok hashes)) (stops_keep (stopped_at_device d e)) L calls
verify_keeps (WithVerdict hashes v) list d L calls = then_keeps (load_keeps d list (Ok hashes)) (λ l answered. looks_keep l answered.looks) L calls

pub verify_unchanged : (list place : List ℕ) (result : ℕ) (old new : World) → VerifyRun list place result old new → Unchanged old new
verify_unchanged list place result old new (unattached none) = none_unchanged none
verify_unchanged list place result old new (attached one on) = run_unchanged (attach_then_keeps old.attached.drives place (verify_keeps on.story list old.attached.drives)) on.run
