use Rattle.job_refusals.proofs.Mapping.{refuses_by_maps}
use Rattle.job_refusals.proofs.laws.refusals_are_by_the_maps.Goals as goal

pub returns : goal.returns
returns c = λ job end result old new past since r. refuses_by_maps c.calls_are_its_own.ensures job end result old new past since r
