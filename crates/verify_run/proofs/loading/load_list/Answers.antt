use Rattle.bay_core.proofs.Looking.{drive_here}
use Rattle.verify_run.proofs.Loads.{loaded_as}
use Rattle.verify_run.proofs.loading.load_list.Goals as goal

pub returns-clause-went : goal.returns-clause-went
returns-clause-went g c = drive_here _ (loaded_as _ _ _ _ _ _ c.as_str.ensures.same c.load.ensures).went

pub returns-clause-alone : goal.returns-clause-alone
returns-clause-alone g c = (loaded_as _ _ _ _ _ _ c.as_str.ensures.same c.load.ensures).went

pub returns-clause-cause : goal.returns-clause-cause
returns-clause-cause g c = (loaded_as _ _ _ _ _ _ c.as_str.ensures.same c.load.ensures).cause

pub returns-clause-honest : goal.returns-clause-honest
returns-clause-honest g c = (loaded_as _ _ _ _ _ _ c.as_str.ensures.same c.load.ensures).honest

pub returns-clause-distinct : goal.returns-clause-distinct
returns-clause-distinct g c = (loaded_as _ _ _ _ _ _ c.as_str.ensures.same c.load.ensures).distinct
