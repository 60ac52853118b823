-- No scratch file is left where drives are sealed.
use Rattle.std.proofs.Common.{ℕ, true, false, length, subst, arith}
use Rattle.std.proofs.lemmas.Option.{slice_get_within}
use Rattle.bay_core.specs.World.{World}
use Rattle.copy_plan.specs.Plan.{PlanValue}
use Rattle.run_state.specs.declared.phase.Phase.{Phase}
use Rattle.run_state.specs.Rules.{HasAtLeast, Fits, FitsSeal, IsRun}
use Rattle.run_state.specs.Runs.{Point}
use Rattle.run_state.specs.State.{Ordered, DriveAt, Gone, Fresh, Begun, Found, Sealed, files_of, drive_at}
use Rattle.run_steps.specs.Parts.{IsTidy, AreTidy, PartsAt, PartsReady, IsClean, AreClean}

-- a drive with a record of each file has no next one, of which it could keep a part
clean_one : (p : PlanValue) (d : ℕ) (w : World) (x : DriveAt) → IsTidy p d w x → HasAtLeast (files_of p) x → IsClean d w x
clean_one p d w Gone tidy have = tt
clean_one p d w Fresh tidy have = tt
clean_one p d w (Found recs) tidy have = tt
clean_one p d w Sealed tidy have = tt
clean_one p d w (Begun recs gate false) tidy have = tidy
clean_one p d w (Begun recs gate true) tidy have = (
  tidy.0,
  λ m L h.
      let next = tidy.1 m L h in
      let more = slice_get_within p.files (length recs) next.0 next.1 in
      absurd (omega (arith, more, have)),
)

pub all_clean : (o : Ordered) (b : Point) → IsRun o b.at → PartsReady o b → AreClean b
all_clean o b run parts = λ e is d.
    let fits : FitsSeal o b.at.drives.each e = subst (Fits o b.at.drives.each) is run.fits in
    let tidy : AreTidy o b.at.drives.each b.world = subst (λ (x : Phase). PartsAt o x b.at.drives.each b.pool b.world) is parts in
    clean_one o.plan d b.world (drive_at b.at.drives.each d) (tidy d) (fits.have d)
