use Rattle.std.proofs.Common.{◌∙◌, ◌++◌, ap}
use Rattle.std.proofs.lemmas.List.{take-replicate}
use Rattle.report_text.proofs.table.pad.Goals as goal

pub returns-clause-text : goal.returns-clause-text
returns-clause-text c = c.push.ensures ∙ ap (λ l. c.args.out.now ++ l) (take-replicate c.args.count 40 32 c.requires.few)
