use Rattle.std.proofs.Common.{◌∷◌, [], refl, ◌∙◌, ap}
use Rattle.std.specs.Prelude.{true, false}
use Rattle.bay_core.specs.Went.{Ran, remove_call}
use Rattle.bay_core.specs.Replay.{Drive}
use Rattle.bay_core.proofs.Runs.{ran_one, ran_none, ran_failed}
use Rattle.bay_mem.specs.State.{State}
use Rattle.bay_mem.specs.Failing.{BayState}
use Rattle.bay_mem.proofs.Worlds.{rewritten_as, failed_from}
use Rattle.bay_mem.proofs.Blames.{blamed_later, blameless}
use Rattle.bay_mem.proofs.mem_bay.MemBayBay.remove.Goals as goal

pub returns-in-Ok-clause-called : goal.returns-in-Ok-clause-called
returns-in-Ok-clause-called c = rewritten_as _ _ c.args.d (remove_call c.args.d c.args.path.now true) c.in-Ok.ensures.ok.files (Ran (remove_call c.args.d c.args.path.now ∷ []) true) c.in-Ok.ensures.ok.is refl (ran_one _)

pub returns-in-Ok-clause-blamed : goal.returns-in-Ok-clause-blamed
returns-in-Ok-clause-blamed c = blameless _ _ _ (ap (λ (s : State). s.counts) c.in-Ok.ensures.ok.is)

pub returns-in-Err-clause-called : goal.returns-in-Err-clause-called
returns-in-Err-clause-called c = failed_from _ _ _ (remove_call c.args.d c.args.path.now false) (Drive c.args.d) (Ran (remove_call c.args.d c.args.path.now ∷ []) false) (ap (λ (b : BayState). b.seen) c.self.view_is ∙ c.in-Err.ensures.err) refl (ran_none _ []) (ran_failed _ []) c.fail_remove-noted.ensures

pub returns-in-Err-clause-blamed : goal.returns-in-Err-clause-blamed
returns-in-Err-clause-blamed c = blamed_later ⊥ _ c.removed.new.self _ c.self.inside.faults (ap (λ (b : BayState). b.failing) c.self.view_is) c.in-Err.ensures.excuse c.counted.ensures.later
