use Rattle.job_stays.proofs.Stopping.{stays_ours}
use Rattle.job_stays.proofs.laws.stays_ours.Goals as goal

pub returns : goal.returns
returns c = stays_ours c.one_progress.ensures.on_card
