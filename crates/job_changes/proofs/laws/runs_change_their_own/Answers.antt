use Rattle.job_changes.proofs.Changing.{changes_its_own}
use Rattle.job_changes.proofs.laws.runs_change_their_own.Goals as goal

pub returns : goal.returns
returns c = λ job end result old new past since r. changes_its_own c.calls_are_its_own.ensures job end result old new past since r
