use Rattle.std.proofs.Common.{◌∙◌, ap, arith, map, List, ℕ, [], ◌∷◌, ◌++◌}
use Rattle.std.specs.Prelude.{Vec}
use Rattle.std.specs.Global.{Global}
use Rattle.std.proofs.lemmas.List.{take_all}
use Rattle.std.specs.List.{filter}
use Rattle.report_text.specs.Shown.{shown}
use Rattle.verify_run.specs.Report.{is_other}
use Rattle.verify_run.proofs.Others.{other_shown, other_left}
use Rattle.verify_run.proofs.verifying.shown_others.Goals as goal
use Rattle.verify_run.proofs.verifying.shown_others.Goals.{then-is_other_name+in_ok-of+in_ok-push, else-is_other_name}

pub returns : goal.returns
returns c = c.loop-name.invariant ∙ ap (λ (ns : List (List ℕ)). map shown (filter (is_other c.args.own.now) ns)) (take_all _ _ (omega arith))

pub loop-name-preserved : goal.loop-name-preserved
loop-name-preserved c = elim c.if-is_other_name.branch [
  | then-is_other_name+in_ok-of+in_ok-push w ↦
      other_shown c.args.own.now c.args.names.now c.loop-name.name-index c.name-item.result c.as_str-name.result.now c.is_other_name.result c.loop-name.others.items _ (omega arith) c.name-item.is c.as_str-name.ensures c.is_other_name.ensures w.if-is_other_name.true c.loop-name.invariant
      (ap (λ (v : Vec (List ℕ) Global). v.items) w.others-is ∙ w.in_ok-push.ensures.items ∙ ap (λ x. c.loop-name.others.items ++ x ∷ []) w.in_ok-of.ensures)
  | else-is_other_name w ↦
      ap (λ (v : Vec (List ℕ) Global). v.items) w.others-is ∙ other_left c.args.own.now c.args.names.now c.loop-name.name-index c.name-item.result c.as_str-name.result.now c.is_other_name.result c.loop-name.others.items (omega arith) c.name-item.is c.as_str-name.ensures c.is_other_name.ensures w.if-is_other_name.false c.loop-name.invariant
]
