-- Ends that say no line, and the end by a file that has another length.
use Rattle.std.proofs.Common.{◌≡◌, ◌≢◌, ℕ, List, get_or, slice_get, inl, inr, refl, sym, ◌∙◌, ap, subst}
use Rattle.std.proofs.lemmas.Option.{get_or_from_slice_get}
use Rattle.bay_core.specs.World.{World}
use Rattle.copy_plan.specs.declared.file.PlannedFile.{PlannedFile}
use Rattle.copy_plan.specs.Plan.{PlanValue}
use Rattle.fan_core.specs.Flags.{count}
use Rattle.report_text.specs.Losses.{failed_card_changed_text}
use Rattle.run_state.specs.declared.outcome.Outcome.{Outcome}
use Rattle.run_state.specs.declared.outcome.Outcome.TheVariants.{Finished, NoDrive, Changed, OutFailed as LineFailed}
use Rattle.run_state.specs.State.{At}
use Rattle.last_lines.specs.Ends.{with_line, with_status, Ended}
use Rattle.last_lines.proofs.Ends.{ended_as, ended_silent}
use Rattle.job_story.specs.Ends.{JobEnd, Sealed, Dropped, OutFailed, last_of}
use Rattle.job_story.specs.Story.{EndsAs}

-- a status alone
pub silent : (kind end : JobEnd) (status : ℕ) (w : World) → last_of kind ≡ with_status status → end ≡ kind → Ended (last_of end) status w w
silent kind end status w alone is = ended_as (with_status status) (last_of end) status w w (sym (ap last_of is ∙ alone)) (ended_silent status w)

module _ (drives : ℕ) (p : PlanValue) (at : At) (outcome : Outcome) (end : JobEnd) (ends : EndsAs drives p at outcome end) where
  by : (came : Outcome) → outcome ≡ came → EndsAs drives p at came end
  by came is = subst (λ (x : Outcome). EndsAs drives p at x end) is ends

  -- each drive is sealed, or not each
  pub silent_whole : (w : World) → outcome ≡ Finished → count at.drives.sealed ≡ drives → Ended (last_of end) 0 w w
  silent_whole w is all = elim (by Finished is) [ inl (same, e) ↦ silent Sealed end 0 w refl e | inr (other, e) ↦ absurd (other all) ]

  pub silent_less : (w : World) → outcome ≡ Finished → count at.drives.sealed ≢ drives → Ended (last_of end) 1 w w
  silent_less w is less = elim (by Finished is) [ inl (same, e) ↦ absurd (less same) | inr (other, e) ↦ silent Dropped end 1 w refl e ]

  -- no drive is left
  pub silent_none : (w : World) → outcome ≡ NoDrive → Ended (last_of end) 1 w w
  silent_none w is = silent Dropped end 1 w refl (by NoDrive is)

  -- a line was not said
  pub silent_unsaid : (w : World) → outcome ≡ LineFailed → Ended (last_of end) 5 w w
  silent_unsaid w is = silent OutFailed end 5 w refl (by LineFailed is)

  -- a file of the card has another length, and this path
  pub changed_said : (index listed read : ℕ) (files : List PlannedFile) (file : PlannedFile) (path : List ℕ) (result : ℕ) (old new : World) → outcome ≡ Changed index listed read → files ≡ p.files
      → path ≡ (get_or files index file).path → Ended (with_line (failed_card_changed_text listed read path) 4) result old new → Ended (last_of end) result old new
  changed_said index listed read files file path result old new is files_are path_is said =
      let e = by (Changed index listed read) is in
      let there : get_or files index file ≡ e.0 = get_or_from_slice_get files index e.0 file (ap (λ (all : List PlannedFile). slice_get all index) files_are ∙ e.1) in
      let same : path ≡ e.0.path = path_is ∙ ap (λ (f : PlannedFile). f.path) there in
      ended_as (with_line (failed_card_changed_text listed read path) 4) (last_of end) result old new (ap (λ (q : List ℕ). with_line (failed_card_changed_text listed read q) 4) same ∙ sym (ap last_of e.2)) said
