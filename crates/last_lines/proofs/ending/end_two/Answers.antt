use Rattle.last_lines.proofs.Ends.{ended_both, ended_first, ended_second}
use Rattle.last_lines.proofs.ending.end_two.Goals as goal

pub returns-in-Err : goal.returns-in-Err
returns-in-Err g c = ended_first _ _ _ _ _ c.in-Err.ensures

pub returns-in-Ok-say : goal.returns-in-Ok-say
returns-in-Ok-say g c = ended_both _ _ _ _ _ _ c.in-Ok.ensures c.in-Ok-say.ensures

pub returns-in-Err-say : goal.returns-in-Err-say
returns-in-Err-say g c = ended_second _ _ _ _ _ _ c.in-Ok.ensures c.in-Err-say.ensures
