use Rattle.std.proofs.Common.{map, slice_set, refl, sym, subst}
use Rattle.run_state.specs.declared.drive.DriveRun.{DriveRun}
use Rattle.run_state.specs.declared.drive.DriveRun.TheVariants.{Gone as GoneRun}
use Rattle.run_state.specs.Acts.{Puts}
use Rattle.run_state.specs.State.{Gone, at_of}
use Rattle.offload_run.proofs.Places.{puts_set}
use Rattle.offload_run.proofs.offload.Offload.take_drive.Goals as goal

pub returns-clause-moves : goal.returns-clause-moves
returns-clause-moves c = record {
  each = subst (λ (x : DriveRun). Puts c.args.d Gone (map at_of c.args.self.now.drives.items) (map at_of (slice_set c.args.self.now.drives.items c.args.d x))) (sym c.replace.ensures.after) (puts_set c.args.self.now.drives.items c.args.d GoneRun c.requires.there);
  sealed = refl;
  dropped = refl;
}
