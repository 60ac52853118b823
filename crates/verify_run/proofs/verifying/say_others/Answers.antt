use Rattle.std.proofs.Common.{arith, map, subst, List, ℕ}
use Rattle.std.proofs.lemmas.List.{take_all}
use Rattle.bay_core.specs.Went.{Went}
use Rattle.bay_core.proofs.Runs.{went_none}
use Rattle.report_text.specs.Line.{unlisted_text}
use Rattle.bay_core.specs.Looks.{Here, Exactly, says}
use Rattle.verify_run.proofs.Others.{names_turn, names_stopped}
use Rattle.verify_run.proofs.verifying.say_others.Goals as goal

pub loop-name-init : goal.loop-name-init
loop-name-init g c = λ d. went_none (Here d) _

pub returns-in-Err : goal.returns-in-Err
returns-in-Err g c = λ d. names_stopped d c.args.others.now c.loop-name.name-index _ _ _ _ (c.loop-name.invariant d) (c.in-Err.ensures d)

pub loop-name-preserved : goal.loop-name-preserved
loop-name-preserved g c = λ d. names_turn d c.args.others.now c.loop-name.name-index c.name-item.result _ _ _ _ (omega arith) c.name-item.is c.as_str.ensures.same (c.loop-name.invariant d) (c.in-Ok.ensures d)

pub returns : goal.returns
returns g c = λ d. subst (λ (xs : List (List ℕ)). Went (Here d) (Exactly (says (map unlisted_text xs))) (g.B.Bay.world c.args.bay.now) (g.B.Bay.world c.loop-name.bay)) (take_all _ _ (omega arith)) (c.loop-name.invariant d)
