use Rattle.std.proofs.Common.{true, false, ◌∙◌, ap}
use Rattle.report_text.specs.Run.{begun_text}
use Rattle.first_file.proofs.Telling.{on_drive, then_said}
use Rattle.first_file.proofs.Saying.{begin_failed, begin_said, still_none, said_as}
use Rattle.first_file.proofs.aloud.begin_aloud.Goals as goal

pub returns-in-Err-clause-went : goal.returns-in-Err-clause-went
returns-in-Err-clause-went g c = on_drive _ c.in-Err.ensures.tried.went

pub returns-in-Err-clause-begins : goal.returns-in-Err-clause-begins
returns-in-Err-clause-begins g c = begin_failed _ _ _ c.in-Err.ensures.tried.went c.in-Err.ensures.begins

pub returns-in-Ok-say-clause-went : goal.returns-in-Ok-say-clause-went
returns-in-Ok-say-clause-went g c = then_said _ c.in-Ok.ensures.tried.went c.in-Ok-say.ensures.went

pub returns-in-Ok-say-clause-no_part : goal.returns-in-Ok-say-clause-no_part
returns-in-Ok-say-clause-no_part g c = still_none _ c.in-Ok.ensures.tried.went c.in-Ok.ensures.cleared c.in-Ok-say.ensures.went

pub returns-in-Ok-say-clause-begins : goal.returns-in-Ok-say-clause-begins
returns-in-Ok-say-clause-begins g c = begin_said _ _ _ true c.in-Ok.ensures.tried.went c.in-Ok.ensures.begins (said_as _ _ true (c.bytes.ensures ∙ c.line_into.ensures.text ∙ ap (begun_text c.args.d 0) c.from.ensures) c.in-Ok-say.ensures)

pub returns-in-Err-say-clause-went : goal.returns-in-Err-say-clause-went
returns-in-Err-say-clause-went g c = then_said _ c.in-Ok.ensures.tried.went c.in-Err-say.ensures.went

pub returns-in-Err-say-clause-begins : goal.returns-in-Err-say-clause-begins
returns-in-Err-say-clause-begins g c = begin_said _ _ _ false c.in-Ok.ensures.tried.went c.in-Ok.ensures.begins (said_as _ _ false (c.bytes.ensures ∙ c.line_into.ensures.text ∙ ap (begun_text c.args.d 0) c.from.ensures) c.in-Err-say.ensures)
