-- What the acts do to an offload.
use Rattle.std.proofs.Common.{◌≡◌, inr, ℕ, ◌≤◌, Bool, false, List, [], ◌∷◌, ◌++◌, length, refl, sym, ◌∙◌, ap, subst, arith}
use Rattle.std.specs.Prelude.{Some, None}
use Rattle.std.specs.FinMap.{get, remove}
use Rattle.bay_core.specs.declared.event.Event.{Event}
use Rattle.bay_core.specs.Left.{Left}
use Rattle.bay_core.specs.Map.{Map}
use Rattle.bay_core.specs.Paths.{journal_path, new_path, part_path}
use Rattle.bay_core.specs.Replay.{Drive, reads, replayed}
use Rattle.bay_core.specs.World.{World}
use Rattle.bay_core.specs.Went.{Only, Went, Tried}
use Rattle.bay_core.proofs.Maps.{remove_here, remove_other}
use Rattle.bay_core.proofs.Runs.{told_behind}
use Rattle.crash_law.specs.Protocol.{State, Settled, Preparing, Leads, Announced}
use Rattle.crash_law.proofs.Safe.{sound_in, restarts}
use Rattle.crash_law.proofs.Calls.{all_ok, leads-append, told-append, told_calls, reads_alone}
use Rattle.crash_law.proofs.Worlds.{Came, tried_in}
use Rattle.copy_plan.specs.Fields.{plan_code}
use Rattle.copy_plan.specs.Plan.{list_of}
use Rattle.drive_journal.specs.declared.record.Rec.{Rec}
use Rattle.drive_journal.specs.Calls.{place_calls, open_calls, tidy_calls, publish_calls}
use Rattle.drive_journal.specs.Journal.{journal_code}
use Rattle.drive_journal.specs.Record.{closed_record}
use Rattle.offload_law.specs.Stages.{Fresh, Begun, HasRecords, progress}
use Rattle.offload_law.specs.Steps.{offload}
use Rattle.offload_law.proofs.Plans.{not_new, not_scratch, list_free}
use Rattle.offload_law.proofs.Safe.{AllSafe, crash_prefix}
use Rattle.recording.specs.Beginning.{ReadyToBegin, Begins}
use Rattle.recording.specs.Drives.{Copying, IsCopying, In, Keeps, ToldOf, IsFound, LeavesPrefix}
use Rattle.recording.specs.Filing.{Ready, Files}
use Rattle.recording.proofs.Leads.{begin_are, record_are, tidy_on, place_on, tidy_leads, publish_leads, place_leads, staged, open_leads, new_not_part}

-- calls on the drive announce nothing
pub told_still : (D : Copying) (d : ℕ) {P : List Event → Type 0} {old new : World} → Went (Only (Drive d)) P old new → (past before all : List Event) → old.events ≡ Some (past ++ before) → new.events ≡ Some (past ++ all) → ToldOf D d all ≡ ToldOf D d before
told_still D d w past before all was now =
    let P = offload d D.work D.start in
    let t = told_behind w past before all was now in
    ap (ToldOf D d) t.is ∙ told-append P d before t.since (progress D.work.plan D.stage) ∙ told_calls P d t.since (ToldOf D d before) t.on

-- Where each change of an offload is safe:
module _ (safe : AllSafe) where
  -- what a stop leaves where the run keeps to the steps
  pub kept_prefix : (D : Copying) → IsCopying D → (d : ℕ) (attached : Map) (past all : List Event) → IsFound D d attached past → Keeps D d all → LeavesPrefix D d attached past all
  kept_prefix D ok d attached past all found keeps = λ L more is I left.
      let whole = subst (λ (K : List Event). In D d K keeps.state) is keeps.is_in in
      let from = subst (λ (m : Map). Left m L d I) found.start ((restarts attached past d).left found.settled L I left) in
      let prefix = crash_prefix safe D.work ok.plan D.start D.stage ok.at d L more keeps.state whole I from in
      record { steps = prefix.0; after = prefix.1; rest = prefix.2; announced = prefix.3; at_most_one = prefix.4 }

  -- what is read while a drive is settled
  has_records : (D : Copying) → IsCopying D → (d : ℕ) (L : List Event) (recs : List Rec) → In D d L (Settled (Begun recs)) → HasRecords D.work (reads D.start L d) recs
  has_records D ok d L recs now =
      (sound_in (offload d D.work D.start) (safe d D.work ok.plan D.start) D.start D.stage (record { at = ok.at; rest = record { same = λ q t. refl } }) d L (Settled (Begun recs)) now).read.at.0

  module _ (D : Copying) (ok : IsCopying D) (d : ℕ) (before : List Event) where
    abbrev R : Map
    R = reads D.start before d

    -- the journal, where the drive is fresh
    begin_leads : get R (list_of D.work.plan) ≡ None →
        Leads (offload d D.work D.start) d (ToldOf D d before) R (Settled Fresh) (all_ok (tidy_calls d None false ++ publish_calls d journal_path (plan_code D.work.plan ++ 0 ∷ []))) (Settled (Begun []))
    begin_leads no_list =
        let P = offload d D.work D.start in
        let first = all_ok (tidy_calls d None false) in
        let told = Announced P (ToldOf D d before) first in
        let list = list_of D.work.plan in
        let free = list_free D.work.plan ok.plan in
        let left = remove (remove R new_path) part_path in
        let none : get left list ≡ None = remove_other (remove R new_path) part_path list (λ is. not_scratch list free (inr is)) ∙ remove_other R new_path list (not_new list free) ∙ no_list in
        let no_new : get left new_path ≡ None = remove_other (remove R new_path) part_path new_path new_not_part ∙ remove_here R new_path in
        leads-append P d first (all_ok (publish_calls d journal_path (plan_code D.work.plan ++ 0 ∷ []))) (ToldOf D d before) R (Settled Fresh) (Preparing Fresh) (Settled (Begun []))
        (tidy_leads d D.work ok.plan D.start (ToldOf D d before) R (Settled Fresh) tt refl)
        (subst (λ (M : Map). Leads P d told M (Preparing Fresh) (all_ok (publish_calls d journal_path (plan_code D.work.plan ++ 0 ∷ []))) (Settled (Begun []))) (sym (reads_alone d R first (tidy_on d)))
        (publish_leads d D.work ok.plan D.start told left no_new none))

    begun : {journal : List ℕ} {done : Bool} {old new : World} → Tried d (tidy_calls d None false ++ publish_calls d journal_path journal) done old new → ReadyToBegin D d before journal →
        (past all : List Event) → old.events ≡ Some (past ++ before) → new.events ≡ Some (past ++ all) →
        Came (offload d D.work D.start) d D.start D.stage before all done (all_ok (tidy_calls d None false ++ publish_calls d journal_path journal)) (Settled (Begun []))
    begun {journal = journal} t ready past all was now =
        let P = offload d D.work D.start in
        tried_in P (safe d D.work ok.plan D.start) d (tidy_calls d None false ++ publish_calls d journal_path journal) t (begin_are d journal) D.start D.stage past before all was now (Settled Fresh) (Settled (Begun [])) ready.fresh
        (subst (λ (j : List ℕ). Leads P d (ToldOf D d before) R (Settled Fresh) (all_ok (tidy_calls d None false ++ publish_calls d journal_path j)) (Settled (Begun []))) (sym ready.journal_is) (begin_leads ready.no_list))

    module _ (recs : List Rec) (rec : Rec) where
      -- the next file, where it is in the part
      record_leads : {gate : ℕ} {path : List ℕ} → (ready : Ready D d before recs gate path rec) →
          Leads (offload d D.work D.start) d (ToldOf D d before) R (Settled (Begun recs))
          (all_ok (place_calls d (length (journal_code D.work.plan recs)) ready.waits.file.path (closed_record rec) ++ open_calls d (length (journal_code D.work.plan recs)))) (Settled (Begun (recs ++ rec ∷ [])))
      record_leads ready =
          let P = offload d D.work D.start in
          let at = length (journal_code D.work.plan recs) in
          let file = ready.waits.file in
          let first = all_ok (place_calls d at file.path (closed_record rec)) in
          let on = place_on d at file.path (closed_record rec) in
          let there = staged d D.work ok.plan D.start (ToldOf D d before) recs rec file ready.waits.next R (has_records D ok d before recs ready.now) ready.waits.part ready.waits.sized ready.waits.true_record in
          let told : Announced P (ToldOf D d before) first ≡ ToldOf D d before = told_calls P d first (ToldOf D d before) on in
          let owed : progress D.work.plan (Begun recs) ≤ Announced P (ToldOf D d before) first = omega (arith, told, ready.waits.told) in
          leads-append P d first (all_ok (open_calls d at)) (ToldOf D d before) R (Settled (Begun recs)) (Settled (Begun recs)) (Settled (Begun (recs ++ rec ∷ [])))
          (place_leads d D.work ok.plan D.start (ToldOf D d before) recs rec file ready.waits.next R)
          (subst (λ (M : Map). Leads P d (Announced P (ToldOf D d before) first) M (Settled (Begun recs)) (all_ok (open_calls d at)) (Settled (Begun (recs ++ rec ∷ [])))) (sym (reads_alone d R first on))
          (open_leads d D.work ok.plan D.start (Announced P (ToldOf D d before) first) recs rec file ready.waits.next (replayed R first) owed there))

      came : {gate : ℕ} {path : List ℕ} {done : Bool} {old new : World} → Tried d (place_calls d gate path (closed_record rec) ++ open_calls d gate) done old new → Ready D d before recs gate path rec →
          (past all : List Event) → old.events ≡ Some (past ++ before) → new.events ≡ Some (past ++ all) →
          Came (offload d D.work D.start) d D.start D.stage before all done (all_ok (place_calls d gate path (closed_record rec) ++ open_calls d gate)) (Settled (Begun (recs ++ rec ∷ [])))
      came {gate = gate} {path = path} t ready past all was now =
          let P = offload d D.work D.start in
          let at = length (journal_code D.work.plan recs) in
          let named = subst (λ (q : List ℕ). Leads P d (ToldOf D d before) R (Settled (Begun recs)) (all_ok (place_calls d at q (closed_record rec) ++ open_calls d at)) (Settled (Begun (recs ++ rec ∷ [])))) (sym ready.waits.path_is) (record_leads ready) in
          tried_in P (safe d D.work ok.plan D.start) d (place_calls d gate path (closed_record rec) ++ open_calls d gate) t (record_are d gate path (closed_record rec)) D.start D.stage past before all was now
          (Settled (Begun recs)) (Settled (Begun (recs ++ rec ∷ []))) ready.now
          (subst (λ (g : ℕ). Leads P d (ToldOf D d before) R (Settled (Begun recs)) (all_ok (place_calls d g path (closed_record rec) ++ open_calls d g)) (Settled (Begun (recs ++ rec ∷ [])))) (sym ready.waits.gate_is) named)

  pub files_all : (d gate : ℕ) (path : List ℕ) (rec : Rec) (ok : Bool) (old new : World) → Tried d (place_calls d gate path (closed_record rec) ++ open_calls d gate) ok old new → Files d gate path rec ok old new
  files_all d gate path rec ok old new t = record {
    keeps = λ D is recs past before all was now ready. let c = came D is d before recs rec t ready past all was now in record { state = c.state; is_in = c.is_in };
    done = λ went D is recs past before all was now ready.
        let c = came D is d before recs rec t ready past all was now in
        subst (λ (x : State (offload d D.work D.start)). In D d all x) (c.whole went).0 c.is_in;
  }

  pub begins : (d : ℕ) (journal : List ℕ) (ok : Bool) (old new : World) → Tried d (tidy_calls d None false ++ publish_calls d journal_path journal) ok old new → Begins d journal ok old new
  begins d journal ok old new t = record {
    keeps = λ D is past before all was now ready. let c = begun D is d before t ready past all was now in (record { state = c.state; is_in = c.is_in }, told_still D d t.went past before all was now);
    done = λ went D is past before all was now ready.
        let c = begun D is d before t ready past all was now in
        subst (λ (x : State (offload d D.work D.start)). In D d all x) (c.whole went).0 c.is_in;
  }
