-- What an act on a drive leaves of its scratch files.
use Rattle.std.proofs.Common.{◌≢◌, inl, inr, ℕ, zero, suc, Bool, true, false, List, [], length, refl, sym, ◌∙◌, subst, arith}
use Rattle.std.specs.Prelude.{Option, Some, None, IfSome, option_map}
use Rattle.std.specs.List.{slice_get, Contains}
use Rattle.bay_core.specs.declared.event.Event.{Event}
use Rattle.bay_core.specs.Paths.{new_path, part_path}
use Rattle.bay_core.specs.Replay.{Drive}
use Rattle.bay_core.specs.Went.{Went, Only}
use Rattle.bay_core.specs.World.{World}
use Rattle.bay_core.proofs.Honesty.{honest_before}
use Rattle.copy_plan.specs.declared.file.PlannedFile.{PlannedFile}
use Rattle.copy_plan.specs.Plan.{PlanValue, IsPlan}
use Rattle.drive_journal.specs.declared.record.Gate.{Gate}
use Rattle.drive_journal.specs.declared.record.Rec.{Rec}
use Rattle.drive_journal.specs.Calls.{tidied}
use Rattle.drive_journal.specs.Steps.{IsTidied, Turns}
use Rattle.fan_copier.specs.Copying.{PartBegins}
use Rattle.offload_law.proofs.Plans.{file_free, not_scratch}
use Rattle.recording.specs.Beginning.{Cleared}
use Rattle.recording.specs.Filing.{Cleans}
use Rattle.recording.proofs.Leads.{new_not_part}
use Rattle.run_state.specs.Acts.{next_path}
use Rattle.run_state.specs.State.{Begun}
use Rattle.run_steps.specs.Parts.{NoNew, PartFits, CanKeep, IsTidy}
use Rattle.run_steps.proofs.Drives.{some_or_none, file_at}

-- ---- a drive that was begun by its journal

module _ (d : ℕ) {P : List Event → Type 0} {old new : World} (went : Went (Only (Drive d)) P old new) where
  pub begun_tidy : (p : PlanValue) (gate : Gate) → Cleared d true old new → IsTidy p d new (Begun [] gate false)
  begun_tidy p gate c = (
    λ m L h. let t = went.told L h.events in c.no_new refl m t.before L t.was h.events,
    λ m L h. let t = went.told L h.events in c.no_part refl m t.before L t.was h.events,
  )

  -- ---- a drive on which a file was recorded

  pub recorded_tidy : (p : PlanValue) (recs : List Rec) (gate : Gate) → Cleans d true old new → NoNew d old → IsTidy p d new (Begun recs gate false)
  recorded_tidy p recs gate c none = (
    λ m L h.
        let b = honest_before d m L went h in
        c.same_new refl m b.0 L b.1.events h.events ∙ none m b.0 b.1,
    λ m L h. let t = went.told L h.events in c.no_part refl m t.before L t.was h.events,
  )

-- ---- a drive that goes on

-- the part is not among the paths that are removed where it is kept
not_removed : (also : Option (List ℕ)) → IfSome also (λ path. path ≢ part_path) → Contains (tidied also true) part_path → ⊥
not_removed None other (zero, low, is) = new_not_part is
not_removed None other (suc k, low, is) = absurd (omega (arith, low))
not_removed (Some path) other (zero, low, is) = new_not_part is
not_removed (Some path) other (suc zero, low, is) = other is
not_removed (Some path) other (suc (suc k), low, is) = absurd (omega (arith, low))

new_removed : (also : Option (List ℕ)) (kept : Bool) → Contains (tidied also kept) new_path
new_removed also kept = (0, omega arith, refl)

part_removed : (also : Option (List ℕ)) → Contains (tidied also false) part_path
part_removed also = (1, omega arith, refl)

-- the path of a planned file is not the part
free_path : (p : PlanValue) → IsPlan p → (recs : List Rec) → IfSome (next_path p recs) (λ path. path ≢ part_path)
free_path p plan recs = elim (some_or_none (slice_get p.files (length recs))) [
  | inl found ↦
      let a = file_at p.files (length recs) found.0 found.1 in
      subst (λ (o : Option PlannedFile). IfSome (option_map (λ (f : PlannedFile). f.path) o) (λ path. path ≢ part_path)) (sym found.1)
      (λ is. not_scratch found.0.path (file_free p plan a.before found.0 a.after a.is) (inr is))
  | inr none ↦ subst (λ (o : Option PlannedFile). IfSome (option_map (λ (f : PlannedFile). f.path) o) (λ path. path ≢ part_path)) (sym none) tt
]

module _ (p : PlanValue) (plan : IsPlan p) (d : ℕ) (recs : List Rec) (gate : Gate) {P : List Event → Type 0} {old new : World} (went : Went (Only (Drive d)) P old new) where
  part_stays : (size : ℕ) → Turns d (IsTidied (tidied (next_path p recs) true)) true old new → PartBegins d size old [] → PartBegins d size new []
  part_stays size t part = λ m L h.
      let b = honest_before d m L went h in
      let k = part m b.0 b.1 in
      (k.0, (t.done refl m b.0 L b.1 h.events).others part_path (not_removed (next_path p recs) (free_path p plan recs)) ∙ k.1, k.2)

  part_left : (kept : Bool) → Turns d (IsTidied (tidied (next_path p recs) kept)) true old new → CanKeep p d old (Begun recs gate kept) → PartFits p d new recs kept
  part_left false t can = λ m L h.
      let b = honest_before d m L went h in
      (t.done refl m b.0 L b.1 h.events).gone part_path (part_removed (next_path p recs))
  part_left true t can = λ m L h.
      let b = honest_before d m L went h in
      let k = can m b.0 b.1 in
      (k.0, k.1, part_stays k.0.size t k.2)

  pub rejoined_tidy : (kept : Bool) → Turns d (IsTidied (tidied (next_path p recs) kept)) true old new → CanKeep p d old (Begun recs gate kept) → IsTidy p d new (Begun recs gate kept)
  rejoined_tidy kept t can = (
    λ m L h.
        let b = honest_before d m L went h in
        (t.done refl m b.0 L b.1 h.events).gone new_path (new_removed (next_path p recs) kept),
    part_left kept t can,
  )
