use Rattle.std.proofs.Common.{sym, ◌∙◌}
use Rattle.markup.proofs.CheckedTexts.{text_error-none, text_error-refused, text_error-not_utf8}
use Rattle.markup.proofs.text.check_text.Goals as goal

pub returns-in-Some : goal.returns-in-Some
returns-in-Some c = text_error-refused _ _ c.in-Ok.ensures.cases.1 (sym c.in-Some.ensures)

pub returns-in-None : goal.returns-in-None
returns-in-None c = text_error-none _ c.in-Ok.ensures.cases.1 (sym c.in-None.ensures)

pub returns-in-Err : goal.returns-in-Err
returns-in-Err c = text_error-not_utf8 _ _ c.in-Err.ensures.cases.0 (c.valid_up_to.ensures ∙ c.in-Err.ensures.valid_len)
