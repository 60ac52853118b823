use Rattle.job_calls.proofs.Owning.{own_devices}
use Rattle.job_calls.proofs.Parts.{parts_of}
use Rattle.job_calls.proofs.laws.runs_call_their_own.Goals as goal

pub returns : goal.returns
returns c = λ job end result old new past since r. own_devices job end result past since old new (parts_of c.calls_are_its_own.ensures job end result old new past since r)
