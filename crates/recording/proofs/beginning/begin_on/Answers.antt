use Rattle.recording.proofs.Clearing.{begun_cleared}
use Rattle.recording.proofs.Turns.{begins}
use Rattle.recording.proofs.beginning.begin_on.Goals as goal

pub returns-clause-begins : goal.returns-clause-begins
returns-clause-begins g c = begins c.steps_are_safe.ensures _ _ _ _ _ c.tidy_and_publish.ensures

pub returns-clause-cleared : goal.returns-clause-cleared
returns-clause-cleared g c = begun_cleared _ _ _ _ _ c.tidy_and_publish.ensures
