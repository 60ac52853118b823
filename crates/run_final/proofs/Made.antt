-- The records of a drive: those with which it was found, and those that were made there since, each with the read-back of its file before it.
use Rattle.std.proofs.Common.{◌≡◌, ℕ, true, false, List, [], ◌∷◌, ◌++◌, length, refl, sym, ap, ◌∙◌, subst, append_assoc, append-nil}
use Rattle.std.specs.Prelude.{Some, Ok}
use Rattle.std.specs.List.{slice_get, flat_map, AllByRecursion}
use Rattle.bay_core.specs.declared.event.Event.{Event}
use Rattle.bay_core.specs.declared.event.Event.TheVariants.{Sync}
use Rattle.bay_core.specs.Paths.{part_path}
use Rattle.bay_core.specs.Replay.{Device, Drive}
use Rattle.bay_core.specs.Went.{AllOn, Only, Went}
use Rattle.bay_core.specs.World.{World}
use Rattle.bay_core.proofs.Runs.{all_ran}
use Rattle.copy_plan.specs.declared.file.PlannedFile.{PlannedFile}
use Rattle.copy_plan.specs.Plan.{IsPlan}
use Rattle.copy_plan.proofs.Above.{map_all}
use Rattle.copy_plan.proofs.Files.{AllByRecursion-append}
use Rattle.digest_set.specs.Triple.{triple}
use Rattle.drive_journal.specs.declared.record.Gate.{Gate}
use Rattle.drive_journal.specs.declared.record.Rec.{Rec}
use Rattle.drive_journal.specs.Calls.{place_calls, open_calls}
use Rattle.drive_journal.specs.Look.{next_gate}
use Rattle.drive_journal.specs.Record.{closed_record}
use Rattle.read_back.specs.Back.{WholeCalls}
use Rattle.recording.specs.Filing.{RecordCalls}
use Rattle.run_state.specs.declared.phase.Phase.{Phase}
use Rattle.run_state.specs.declared.phase.Phase.TheVariants.{Records}
use Rattle.run_state.specs.Acts.{RecordedAloud, records_at}
use Rattle.run_state.specs.Calls.{IsOfRun, AreTurnCalls}
use Rattle.run_state.specs.Rules.{FitsPlan, IsRun}
use Rattle.run_state.specs.Runs.{Point, Runs, starts, turns, Alone, still, turned}
use Rattle.run_state.specs.State.{Ordered, DriveAt, Gone, Fresh, Begun, Found, Sealed, Journaled, drive_at, due}
use Rattle.run_state.specs.Turn.{Turned}
use Rattle.run_reads.specs.Backs.{IsDatedAtOnce, recording_calls, IsReadBack, IsMadeOn}
use Rattle.run_reads.specs.Parts.{Starts}
use Rattle.run_reads.specs.Reads.{got_in, card_given}
use Rattle.run_reads.proofs.Cards.{reads_then, reads_off}
use Rattle.run_reads.proofs.Dating.{at_once_more, quiet_off}
use Rattle.run_reads.proofs.Places.{some_same}
use Rattle.run_reads.proofs.Since.{Since, since_none, since_more, since_such, since_both}
use Rattle.run_reads.proofs.Standing.{drive_off, FileGave, FileDated, CoreAt, runs_core, start_core}
use Rattle.run_steps.proofs.Drives.{IsDue, is_due}
use Rattle.run_final.specs.Final.{IsDatedSo}
use Rattle.run_final.proofs.Dating.{LastAt, turn_last}
use Rattle.run_final.proofs.Turning.{Did, kept, lost, begun, recorded, sealed, found, turn_did}

module _ (o : Ordered) (plan : IsPlan o.plan) (a : Point) (d : ℕ) where
  pub record AreMade (recs : List Rec) (L : List Event) : Type 0 where
    pub made : List Rec
    pub is : recs ≡ records_at (drive_at a.at.drives.each d) ++ made
    pub on_drive : AllByRecursion (IsMadeOn (IsDatedSo o) o d L) made

  made_more : (recs : List Rec) (A B : List Event) → AreMade recs A → AreMade recs (A ++ B)
  made_more recs A B h = record {
    made = h.made;
    is = h.is;
    on_drive = map_all (IsMadeOn (IsDatedSo o) o d A) (IsMadeOn (IsDatedSo o) o d (A ++ B))
        (λ rec m. record { file = m.file; is_file = m.is_file; front = m.front; back = m.back ++ B; is = ap (λ (l : List Event). l ++ B) m.is ∙ append_assoc m.front m.back B; read = m.read }) h.made h.on_drive;
  }

  -- by where the drive stands
  abbrev pub MadeOf : DriveAt → List Event → Type 0
  MadeOf Gone L = Unit {0}
  MadeOf Fresh L = drive_at a.at.drives.each d ≡ Fresh
  MadeOf (Begun recs gate part) L = AreMade recs L
  MadeOf (Found recs) L = drive_at a.at.drives.each d ≡ Found recs
  MadeOf Sealed L = Unit {0}

  of_more : (x : DriveAt) (A B : List Event) → MadeOf x A → MadeOf x (A ++ B)
  of_more Gone A B h = tt
  of_more Fresh A B h = h
  of_more (Begun recs gate part) A B h = made_more recs A B h
  of_more (Found recs) A B h = h
  of_more Sealed A B h = tt

  of_went : {On : Device → Type 0} {P : List Event → Type 0} {w new : World} (x : DriveAt) → Went On P w new → Since (MadeOf x) a.world w → Since (MadeOf x) a.world new
  of_went x went h = since_more h went (λ A B so on such. of_more x A B so)

  of_any : (x : DriveAt) {w : World} → Since (MadeOf x) a.world w → Since (λ L. Unit {0}) a.world w
  of_any x h = since_such (λ L x. tt) h

  module _ (m c : Point) (run : IsRun o m.at) {On : Device → Type 0} {P : List Event → Type 0} (went : Went On P m.world c.world) (core : CoreAt o plan a m.at.phase m.at.drives m.pool m.world) (last : LastAt o plan a m.at.phase m.world) (was : Since (MadeOf (drive_at m.at.drives.each d)) a.world m.world) where
    -- a file was recorded
    module _ (rec : Rec) (j : Journaled) (next : Gate) (phase : m.at.phase ≡ Records rec d) (is : due rec.index (drive_at m.at.drives.each d) ≡ Some j) (act : RecordedAloud o rec d j m.at.drives c.at m.world c.world) (well : act.came ≡ Ok next) where
      at_d : IsDue rec.index (drive_at m.at.drives.each d) j
      at_d = is_due rec.index (drive_at m.at.drives.each d) j is

      gate : j.gate ≡ next_gate o.plan (length j.recs)
      gate = let fits : FitsPlan o.plan (Begun j.recs j.gate j.kept) = subst (FitsPlan o.plan) at_d.is (run.drives.each d) in fits.1

      gives : FileDated o plan a rec m.world
      gives = let here : CoreAt o plan a (Records rec d) m.at.drives m.pool m.world = subst (λ (k : Phase). CoreAt o plan a k m.at.drives m.pool m.world) phase core in here.1

      gave : FileGave o plan a rec.index rec.triple m.world
      gave = gives.gave

      dated : (f : PlannedFile) → slice_get o.plan.files rec.index ≡ Some f → Since (IsDatedAtOnce o f rec.hashed) a.world m.world
      dated = let here : LastAt o plan a (Records rec d) m.world = subst (λ (k : Phase). LastAt o plan a k m.world) phase last in here

      same_file : gave.file ≡ act.file
      same_file = some_same gave.file act.file (sym gave.is_file ∙ act.is_file)

      went_well : Went (Only (Drive d)) (RecordCalls d j.gate.at act.file.path rec (Ok next)) m.world act.mid
      went_well = subst (λ r. Went (Only (Drive d)) (RecordCalls d j.gate.at act.file.path rec r) m.world act.mid) well act.went

      stays : (A B : List Event) → AllOn (Only (Drive d)) B → IsDatedAtOnce o act.file rec.hashed A → IsDatedAtOnce o act.file rec.hashed (A ++ B)
      stays A B on h = at_once_more o act.file rec.hashed A B (quiet_off (Only (Drive d)) (λ is. absurd (cc is)) (λ s is. absurd (cc is)) B on) h

      -- it was read back
      back : Since (IsReadBack (IsDatedSo o) o d rec.index act.file rec) a.world act.mid
      back = since_more (since_both gave.reads (dated act.file act.is_file)) went_well (λ A B so on such.
          let rest = such.there in
          let tail = all_ran (place_calls d j.gate.at act.file.path (closed_record rec) ++ open_calls d j.gate.at) rest.second rest.there in
          let shape : B ≡ Sync d true ∷ (rest.first ++ recording_calls d j.gate.at act.file.path rec) = such.is ∙ ap (λ (l : List Event). l ++ such.second) such.here ∙ ap (λ (l : List Event). Sync d true ∷ l) (rest.is ∙ ap (λ (l : List Event). rest.first ++ l) tail) in
          let place : j.gate.at ≡ (next_gate o.plan rec.index).at = ap (λ (g : Gate). g.at) gate ∙ ap (λ (n : ℕ). (next_gate o.plan n).at) at_d.index in
          record {
            front = A;
            back = rest.first;
            bytes = rest.here.0;
            calls = ap (λ (l : List Event). A ++ l) shape ∙ ap (λ (n : ℕ). A ++ Sync d true ∷ (rest.first ++ recording_calls d n act.file.path rec)) place;
            whole = subst (λ (n : ℕ). WholeCalls d part_path n rest.here.0 rest.first) (gives.sized act.file act.is_file) rest.here.1.0;
            numbers = (refl, gives.sized act.file act.is_file);
            digests = rest.here.1.1;
            card = subst (λ (f : PlannedFile). rec.triple ≡ triple (card_given o.source f.path (A ++ B))) same_file
                (so.0.2 ∙ ap (λ (K : List Event). triple (flat_map got_in K)) (sym (reads_then o.source gave.file.path A B (reads_off o.source gave.file.path (Only (Drive d)) (drive_off o.source d) B on))));
            such = stays A B on so.1;
          })

      -- so the drive has one record more
      more : (L : List Event) → AreMade j.recs L → IsReadBack (IsDatedSo o) o d rec.index act.file rec L → AreMade (j.recs ++ rec ∷ []) L
      more L h read = record {
        made = h.made ++ rec ∷ [];
        is = ap (λ (l : List Rec). l ++ rec ∷ []) h.is ∙ append_assoc (records_at (drive_at a.at.drives.each d)) h.made (rec ∷ []);
        on_drive = AllByRecursion-append (IsMadeOn (IsDatedSo o) o d L) h.made (rec ∷ []) h.on_drive (record { file = act.file; is_file = act.is_file; front = L; back = []; is = sym (append-nil L); read = read }, tt);
      }

      made_next : Since (MadeOf (Begun (j.recs ++ rec ∷ []) next false)) a.world c.world
      made_next =
          let had : Since (MadeOf (Begun j.recs j.gate j.kept)) a.world m.world = subst (λ (x : DriveAt). Since (MadeOf x) a.world m.world) at_d.is was in
          let mid : Since (MadeOf (Begun j.recs j.gate j.kept)) a.world act.mid = of_went (Begun j.recs j.gate j.kept) act.went had in
          let both : Since (MadeOf (Begun (j.recs ++ rec ∷ []) next false)) a.world act.mid = since_such (λ L h. more L h.0 h.1) (since_both mid back) in
          of_went (Begun (j.recs ++ rec ∷ []) next false) act.line.went both

    now_is : (x : DriveAt) → drive_at c.at.drives.each d ≡ x → Since (MadeOf x) a.world c.world → Since (MadeOf (drive_at c.at.drives.each d)) a.world c.world
    now_is x is h = subst (λ (y : DriveAt). Since (MadeOf y) a.world c.world) (sym is) h

    made_turn : Did o d m c → Since (MadeOf (drive_at c.at.drives.each d)) a.world c.world
    made_turn (kept same keeps) = now_is (drive_at m.at.drives.each d) same (of_went (drive_at m.at.drives.each d) went was)
    made_turn (lost is) = now_is Gone is (of_any (drive_at m.at.drives.each d) (of_went (drive_at m.at.drives.each d) went was))
    made_turn (begun fresh act well is) =
        let had : Since (MadeOf Fresh) a.world m.world = subst (λ (x : DriveAt). Since (MadeOf x) a.world m.world) fresh was in
        now_is (Begun [] (next_gate o.plan 0) false) is
        (since_such (λ L h. record { made = []; is = sym (ap (λ (x : DriveAt). records_at x ++ []) h); on_drive = tt }) (of_went Fresh went had))
    made_turn (recorded rec j next phase is act well now) = now_is (Begun (j.recs ++ rec ∷ []) next false) now (made_next rec j next phase is act well)
    made_turn (sealed recs place part phase at act well is) = now_is Sealed is (of_any (drive_at m.at.drives.each d) (of_went (drive_at m.at.drives.each d) went was))
    made_turn (found recs at is) = now_is Sealed is (of_any (drive_at m.at.drives.each d) (of_went (drive_at m.at.drives.each d) went was))

  -- as the run is made
  made_start : (x : DriveAt) → drive_at a.at.drives.each d ≡ x → MadeOf x []
  made_start Gone is = tt
  made_start Fresh is = is
  made_start (Begun recs place part) is = record { made = []; is = sym (append-nil (records_at (drive_at a.at.drives.each d)) ∙ ap records_at is); on_drive = tt }
  made_start (Found recs) is = is
  made_start Sealed is = tt

-- ---- any number of turns

-- the calls of one turn are told
abbrev pub TurnsGo : Ordered → Type 0
TurnsGo o = (m c : Point) → IsRun o m.at → Turned o m.at c.at m.pool c.pool m.world c.world → Went (IsOfRun o m.at.drives) (AreTurnCalls o m.at.drives) m.world c.world

module _ (o : Ordered) (a : Point) (s : Starts o a) (d : ℕ) (rules : (b : Point) → Alone o a b → IsRun o b.at) (go : TurnsGo o) where
  pub record MadeAt (b : Point) : Type 0 where
    pub runs : Runs o a b
    pub last : LastAt o s.run.run.plan a b.at.phase b.world
    pub made : Since (MadeOf o s.run.run.plan a d (drive_at b.at.drives.each d)) a.world b.world

  pub made_after : (b : Point) → Alone o a b → MadeAt b
  made_after b still = record {
    runs = starts;
    last = subst (λ (p : Phase). LastAt o s.run.run.plan a p a.world) (sym s.run.phase) tt;
    made = since_none a.world (made_start o s.run.run.plan a d (drive_at a.at.drives.each d) refl);
  }
  made_after b (turned {b = x} so_far t) =
      let old = made_after x so_far in
      let core = runs_core o s.run.run.plan a x (start_core o s.run.run.plan a s) old.runs in
      let run = rules x so_far in
      record {
        runs = turns old.runs t;
        last = turn_last o s.run.run.plan a x b x.at.phase refl core old.last t;
        made = made_turn o s.run.run.plan a d x b run (go x b run t) core old.last old.made (turn_did o d x b run.plan t);
      }
