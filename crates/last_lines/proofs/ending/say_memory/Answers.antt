use Rattle.last_lines.proofs.Ends.{ended_said, ended_unsaid}
use Rattle.last_lines.proofs.ending.say_memory.Goals as goal

pub returns-in-Ok : goal.returns-in-Ok
returns-in-Ok g c = ended_said _ _ _ _ _ c.memory_line.ensures c.in-Ok.ensures

pub returns-in-Err : goal.returns-in-Err
returns-in-Err g c = ended_unsaid _ _ _ _ _ c.memory_line.ensures c.in-Err.ensures
