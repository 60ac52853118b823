use Rattle.drive_journal.proofs.Trying.{tried_then, tried_stopped, tried_exit}
use Rattle.recording.proofs.filing.place_and_open.Goals as goal

pub returns-in_err-place-clause-tried : goal.returns-in_err-place-clause-tried
returns-in_err-place-clause-tried g c = tried_exit _ _ _ _ c.from_residual.ensures.1 (tried_stopped _ _ _ c.in_err-place.ensures.tried)

pub returns-clause-tried : goal.returns-clause-tried
returns-clause-tried g c = tried_then _ _ _ _ c.in_ok-place.ensures.tried c.open_gate.ensures.tried
