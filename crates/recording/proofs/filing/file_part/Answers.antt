use Rattle.recording.proofs.Turns.{files_all}
use Rattle.recording.proofs.filing.file_part.Goals as goal

pub returns-clause-files : goal.returns-clause-files
returns-clause-files g c = files_all c.steps_are_safe.ensures _ _ _ _ _ _ _ c.place_and_open.ensures.tried
