use Rattle.std.proofs.Common.{refl}
use Rattle.offload_run.proofs.Places.{puts_set}
use Rattle.offload_run.proofs.offload.Offload.put_drive.Goals as goal

pub returns-clause-moves : goal.returns-clause-moves
returns-clause-moves c = record { each = puts_set c.args.self.now.drives.items c.args.d c.args.drive c.requires.there; sealed = refl; dropped = refl }
