use Rattle.offload_run.proofs.Slots.{lent_back}
use Rattle.offload_run.proofs.recording_turn.record_with_slot.Goals as goal

pub returns-clause-lent : goal.returns-clause-lent
returns-clause-lent g c = lent_back _ _ _ _ _ _ c.in-Some.ensures.some c.record_file-came.ensures.pool c.give.ensures
