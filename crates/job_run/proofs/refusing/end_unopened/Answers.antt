-- Where no drive is left, or a line was not said, there is no line more.
use Rattle.std.proofs.Common.{refl, ap}
use Rattle.job_story.specs.Ends.{Dropped, OutFailed, opening_end}
use Rattle.job_run.proofs.Silent.{silent}
use Rattle.job_run.proofs.refusing.end_unopened.Goals as goal

pub returns-in-NoDrive : goal.returns-in-NoDrive
returns-in-NoDrive g c = silent Dropped (opening_end c.args.error) 1 (g.B.Bay.world c.args.bay.now) refl (ap opening_end c.in-NoDrive.is)

pub returns-in-OutFailed : goal.returns-in-OutFailed
returns-in-OutFailed g c = silent OutFailed (opening_end c.args.error) 5 (g.B.Bay.world c.args.bay.now) refl (ap opening_end c.in-OutFailed.is)
