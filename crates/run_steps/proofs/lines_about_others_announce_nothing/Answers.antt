use Rattle.run_steps.proofs.Lines.{about_none}
use Rattle.run_steps.proofs.lines_about_others_announce_nothing.Goals as goal

pub returns : goal.returns
returns c = about_none
