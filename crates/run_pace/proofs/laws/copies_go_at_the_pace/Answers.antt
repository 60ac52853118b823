use Rattle.run_pace.proofs.Pacing.{paced}
use Rattle.run_pace.proofs.laws.copies_go_at_the_pace.Goals as goal

pub returns : goal.returns
returns c = paced
