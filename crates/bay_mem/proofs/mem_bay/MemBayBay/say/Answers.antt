use Rattle.std.proofs.Common.{◌∷◌, [], refl, ◌∙◌, ap}
use Rattle.std.specs.Prelude.{true, false}
use Rattle.bay_core.specs.Went.{Ran, say_call}
use Rattle.bay_core.specs.Replay.{Output}
use Rattle.bay_core.proofs.Runs.{ran_one, ran_none, ran_failed}
use Rattle.bay_mem.specs.State.{State}
use Rattle.bay_mem.specs.Failing.{BayState}
use Rattle.bay_mem.proofs.Worlds.{noted_as, failed_from}
use Rattle.bay_mem.proofs.Blames.{blamed_later, blameless}
use Rattle.bay_mem.proofs.mem_bay.MemBayBay.say.Goals as goal

pub returns-in-Ok-clause-called : goal.returns-in-Ok-clause-called
returns-in-Ok-clause-called c = noted_as _ _ (say_call c.args.line.now true) Output (Ran (say_call c.args.line.now ∷ []) true) c.in-Ok.ensures.ok refl (ran_one _)

pub returns-in-Ok-clause-blamed : goal.returns-in-Ok-clause-blamed
returns-in-Ok-clause-blamed c = blameless _ _ _ (ap (λ (s : State). s.counts) c.in-Ok.ensures.ok)

pub returns-in-Err-clause-called : goal.returns-in-Err-clause-called
returns-in-Err-clause-called c = failed_from _ _ _ (say_call c.args.line.now false) Output (Ran (say_call c.args.line.now ∷ []) false) (ap (λ (b : BayState). b.seen) c.self.view_is ∙ c.in-Err.ensures.err) refl (ran_none _ []) (ran_failed _ []) c.fail_say-noted.ensures

pub returns-in-Err-clause-blamed : goal.returns-in-Err-clause-blamed
returns-in-Err-clause-blamed c = blamed_later ⊥ _ c.said.new.self _ c.self.inside.faults (ap (λ (b : BayState). b.failing) c.self.view_is) c.in-Err.ensures.excuse c.counted.ensures.later
