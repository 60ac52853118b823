use Rattle.recording.proofs.Pending.{rejoins}
use Rattle.recording.proofs.beginning.rejoin_on.Goals as goal

pub returns-clause-rejoins : goal.returns-clause-rejoins
returns-clause-rejoins g c = rejoins _ _ _ _ _ _ c.tidy.ensures.tried
