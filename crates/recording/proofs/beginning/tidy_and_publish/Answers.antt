use Rattle.drive_journal.proofs.Trying.{tried_then, tried_stopped, tried_exit}
use Rattle.offload_law.proofs.Plans.{journal_not_new}
use Rattle.recording.proofs.beginning.tidy_and_publish.Goals as goal

pub publish-requires-clause-apart : goal.publish-requires-clause-apart
publish-requires-clause-apart g c = journal_not_new

pub returns-in_err-tidy : goal.returns-in_err-tidy
returns-in_err-tidy g c = tried_exit _ _ _ _ c.from_residual.ensures.1 (tried_stopped _ _ _ c.in_err-tidy.ensures.tried)

pub returns : goal.returns
returns g c = tried_then _ _ _ _ c.in_ok-tidy.ensures.tried c.publish.ensures.tried
