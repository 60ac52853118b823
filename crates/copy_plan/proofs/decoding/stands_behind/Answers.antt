use Rattle.std.proofs.Common.{sym, ◌∙◌}
use Rattle.copy_plan.proofs.Behind.{behind_last}
use Rattle.copy_plan.proofs.decoding.stands_behind.Goals as goal

pub returns-then-lt : goal.returns-then-lt
returns-then-lt c =
    behind_last c.args.before.now c.in-Some.last.now c.args.file.now c.is_none.result c.first_ancestor.result c.requires c.in-Some.ensures.value (sym c.lt.ensures ∙ c.if-lt.true) c.first_ancestor.ensures.found c.first_ancestor.ensures.none
    c.is_none.ensures
