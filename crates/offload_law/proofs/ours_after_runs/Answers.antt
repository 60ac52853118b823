use Rattle.offload_law.proofs.Runs.{ours_stays, steps_stay, never_back}
use Rattle.offload_law.proofs.ours_after_runs.Goals as goal

pub returns-clause-ours : goal.returns-clause-ours
returns-clause-ours c = λ card dates. ours_stays card dates c.steps_are_safe.ensures

pub returns-clause-kept : goal.returns-clause-kept
returns-clause-kept c = steps_stay c.steps_are_safe.ensures

pub returns-clause-never_back : goal.returns-clause-never_back
returns-clause-never_back c = never_back c.steps_are_safe.ensures
