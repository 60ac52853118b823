use Rattle.drive_journal.proofs.Looked.{look_keeps, look_honest}
use Rattle.drive_journal.proofs.Settled.{stays_settled}
use Rattle.drive_journal.proofs.looking.look.Goals as goal

pub returns-clause-went : goal.returns-clause-went
returns-clause-went g c = look_keeps _ c.find_state.result _ _ c.find_state.ensures

pub returns-clause-settled : goal.returns-clause-settled
returns-clause-settled g c = stays_settled _ (look_keeps _ c.find_state.result _ _ c.find_state.ensures)

pub returns-clause-honest : goal.returns-clause-honest
returns-clause-honest g c = look_honest _ c.find_state.result _ _ c.find_state.ensures
