use Rattle.std.proofs.Common.{true, false, ◌∙◌, ◌+◌}
use Rattle.report_text.specs.Run.{done_text}
use Rattle.first_file.proofs.Telling.{on_drive, then_said}
use Rattle.first_file.proofs.Saying.{record_failed, record_said, said_as}
use Rattle.first_file.proofs.Causing.{lost_cause, lost_alone}
use Rattle.first_file.proofs.aloud.record_aloud.Goals as goal

pub returns-in-Err : goal.returns-in-Err
returns-in-Err g c = record {
  went = on_drive _ c.in-Err.ensures.went;
  cause = lost_cause _ _ _ _ _ c.lost_by.ensures c.in-Err.ensures.cause;
  honest = lost_alone _ _ _ _ _ _ c.lost_by.ensures c.in-Err.ensures.honest;
  pool = c.in-Err.ensures.pool;
  records = record_failed _ _ _ _ _ c.in-Err.ensures.went c.in-Err.ensures.records;
}

pub returns-in-Ok-say-clause-went : goal.returns-in-Ok-say-clause-went
returns-in-Ok-say-clause-went g c = then_said _ c.in-Ok.ensures.went c.in-Ok-say.ensures.went

pub returns-in-Ok-say-clause-records : goal.returns-in-Ok-say-clause-records
returns-in-Ok-say-clause-records g c = record_said _ _ _ _ _ true c.in-Ok.ensures.went c.in-Ok.ensures.records (said_as _ _ true (c.bytes.ensures ∙ c.line_into.ensures.text ∙ (λ i. done_text c.args.d (c.from-number.ensures i + 1) (c.from.ensures i) (c.as_str.ensures.same i))) c.in-Ok-say.ensures)

pub returns-in-Err-say-clause-went : goal.returns-in-Err-say-clause-went
returns-in-Err-say-clause-went g c = then_said _ c.in-Ok.ensures.went c.in-Err-say.ensures.went

pub returns-in-Err-say-clause-records : goal.returns-in-Err-say-clause-records
returns-in-Err-say-clause-records g c = record_said _ _ _ _ _ false c.in-Ok.ensures.went c.in-Ok.ensures.records (said_as _ _ false (c.bytes.ensures ∙ c.line_into.ensures.text ∙ (λ i. done_text c.args.d (c.from-number.ensures i + 1) (c.from.ensures i) (c.as_str.ensures.same i))) c.in-Err-say.ensures)
