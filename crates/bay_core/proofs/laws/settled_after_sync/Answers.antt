use Rattle.bay_core.proofs.Rest.{settled_none, settled_sync, failed_sync}
use Rattle.bay_core.proofs.laws.settled_after_sync.Goals as goal

pub returns-clause-none : goal.returns-clause-none
returns-clause-none c = settled_none

pub returns-clause-ok : goal.returns-clause-ok
returns-clause-ok c = settled_sync

pub returns-clause-failed : goal.returns-clause-failed
returns-clause-failed c = failed_sync
