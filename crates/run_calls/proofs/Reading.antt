-- A copy of a run knows the bytes that the card's reads of its file gave.
use Rattle.std.proofs.Common.{◌≡◌, ℕ, true, false, subst, arith}
use Rattle.bay_core.specs.World.{World}
use Rattle.copy_plan.specs.Plan.{PlanValue}
use Rattle.fan_copier.specs.declared.copy.FileCopy.{FileCopy}
use Rattle.run_state.specs.declared.phase.Phase.{Phase}
use Rattle.run_state.specs.declared.phase.Phase.TheVariants.{Copies}
use Rattle.run_state.specs.Rules.{IsStart}
use Rattle.run_state.specs.Runs.{Point, Runs}
use Rattle.run_state.specs.State.{Ordered, DriveAt, Gone, Fresh, Begun, Found, Sealed, drive_at}
use Rattle.run_steps.specs.Parts.{CanKeep, AreBegun, PartsAt, PartsReady}
use Rattle.run_reads.specs.Parts.{KeepsFit, Starts}
use Rattle.run_reads.proofs.Since.{since_at}
use Rattle.run_reads.proofs.Standing.{CopyGives, GivesAt, runs_core, start_core}
use Rattle.run_ends.specs.Known.{KnowsReadsOnward}

keeps_fit : (p : PlanValue) (d : ℕ) (w : World) (x : DriveAt) → CanKeep p d w x → KeepsFit p x d w
keeps_fit p d w (Begun recs gate true) can = can
keeps_fit p d w (Begun recs gate false) can = tt
keeps_fit p d w Gone can = tt
keeps_fit p d w Fresh can = tt
keeps_fit p d w (Found recs) can = tt
keeps_fit p d w Sealed can = tt

module _ (o : Ordered) (a : Point) (start : IsStart o a.at) (ready : PartsReady o a) where
  begun : AreBegun o 0 a.at.drives.each a.world
  begun = subst (λ (phase : Phase). PartsAt o phase a.at.drives.each a.pool a.world) start.phase ready

  as_made : Starts o a
  as_made = record { run = start; kept = λ d. keeps_fit o.plan d a.world (drive_at a.at.drives.each d) (begun.still d (omega arith)) }

  gives : (m : Point) → Runs o a m → (i : ℕ) (copy : FileCopy) → m.at.phase ≡ Copies i copy → CopyGives o start.run.plan a i copy m.at.drives m.pool m.world
  gives m runs i copy is = subst (λ (phase : Phase). GivesAt o start.run.plan a phase m.at.drives m.pool m.world) is (runs_core o start.run.plan a m (start_core o start.run.plan a as_made) runs).1

  pub reads_known : KnowsReadsOnward o a
  reads_known m runs i copy is =
      let g = gives m runs i copy is in
      record { file = g.file; is_file = g.is_file; bytes = g.bytes; copying = g.copying; gave = λ past L was now. (since_at g.reads past L was now).1 }
