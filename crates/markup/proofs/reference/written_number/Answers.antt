use Rattle.std.proofs.Common.{◌≡◌, ◌≢◌, get_or, arith}
use Rattle.std.proofs.lemmas.Bool.{ltb-true}
use Rattle.markup.proofs.References.{finds_hexadecimal, finds_decimal}
use Rattle.markup.proofs.reference.written_number.Goals as goal

pub returns-in-120 : goal.returns-in-120
returns-in-120 c =
    let first : get_or c.args.text.now 0 0 ≡ 120 = omega arith in
    finds_hexadecimal c.numeral.result c.args.text.now c.in-120.len_at_least first c.numeral.ensures

pub returns-in_default : goal.returns-in_default
returns-in_default c = elim c.in_default.branch [
  | goal.in_default-via-then-text-lt1 w ↦ finds_decimal c.numeral-in_default.result c.args.text.now (λ long. absurd (omega (arith, ltb-true))) c.numeral-in_default.ensures
  | goal.in_default-via-else-text-lt1+in_default-1 w ↦
      let other : get_or c.args.text.now 0 0 ≢ 120 = omega arith in
      finds_decimal c.numeral-in_default.result c.args.text.now (λ long. other) c.numeral-in_default.ensures
]
