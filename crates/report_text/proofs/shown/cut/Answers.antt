use Rattle.std.proofs.Common.{◌∙◌, sym, ap, take}
use Rattle.report_text.proofs.Shows.{whole_up_to-is, from_start}
use Rattle.report_text.proofs.shown.cut.Goals as goal

pub returns-clause-front : goal.returns-clause-front
returns-clause-front c = c.range.ensures.value ∙ from_start c.args.name.now _ ∙ ap (λ n. take n c.args.name.now) (sym (whole_up_to-is c.args.name.now 1024 _ c.floor_char_boundary.ensures.bound c.floor_char_boundary.ensures.boundary c.floor_char_boundary.ensures.nearest))
