use Rattle.job_pace.proofs.Windows.{follows}
use Rattle.job_pace.proofs.laws.follows_windows.Goals as goal

pub returns : goal.returns
returns c = follows c.calls_are_its_own.ensures c.copies_go_at_the_pace.ensures
