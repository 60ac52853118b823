use Rattle.std.proofs.Common.{sym, ap, ◌∙◌}
use Rattle.std.specs.Result.{result_ok}
use Rattle.mhl_reader.proofs.Texts.{no_size, decimal_utf8, size_read}
use Rattle.mhl_reader.proofs.values.size.Goals as goal

pub returns-then-not-is_decimal : goal.returns-then-not-is_decimal
returns-then-not-is_decimal c = no_size c.args.text.now c.trim-digits.result.now c.trim-digits.ensures (sym c.is_decimal.ensures ∙ c.if-not-is_decimal.true)

pub returns-in_default : goal.returns-in_default
returns-in_default c = absurd (c.in_default.ensures.cases.0 (decimal_utf8 c.trim-digits.result.now (sym c.is_decimal.ensures ∙ c.if-not-is_decimal.false)))

pub returns-in-Ok-parse : goal.returns-in-Ok-parse
returns-in-Ok-parse c =
    sym (ap result_ok c.in-Ok-parse.is) ∙ size_read c.args.text.now c.trim-digits.result.now c.in-Ok.digits.now c.parse.result c.trim-digits.ensures c.in-Ok.ensures.cases.0 (sym c.is_decimal.ensures ∙ c.if-not-is_decimal.false) c.parse.ensures.value.0

pub returns-in-Err : goal.returns-in-Err
returns-in-Err c =
    sym (ap result_ok c.in-Err.is) ∙ size_read c.args.text.now c.trim-digits.result.now c.in-Ok.digits.now c.parse.result c.trim-digits.ensures c.in-Ok.ensures.cases.0 (sym c.is_decimal.ensures ∙ c.if-not-is_decimal.false) c.parse.ensures.value.0
