use Rattle.std.proofs.Common.{◌∙◌, ◌*◌, ◌++◌, ◌∷◌, ap, length, arith}
use Rattle.hex.specs.Hex.{encode_lower}
use Rattle.report_text.specs.Line.{left}
use Rattle.report_text.proofs.Columns.{digits_column}
use Rattle.report_text.proofs.table.add_digits.Goals as goal

pub returns-clause-text : goal.returns-clause-text
returns-clause-text g c =
    c.add_digest.ensures.text ∙ digits_column g.row.N c.args.out.now c.as_slice.result.now (omega (arith, ap length c.as_slice.ensures))
    ∙ ap (λ d. c.args.out.now ++ 32 ∷ left (2 * g.row.N) (encode_lower d)) c.as_slice.ensures
