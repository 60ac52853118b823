use Rattle.std.proofs.Common.{◌≡◌, get_or, arith}
use Rattle.markup.proofs.References.{finds_numbered}
use Rattle.markup.proofs.reference.numbered_character.Goals as goal

pub returns-in_ok-written_number-in-35 : goal.returns-in_ok-written_number-in-35
returns-in_ok-written_number-in-35 c =
    let first : get_or c.args.text.now 0 0 ≡ 35 = omega arith in
    let written = c.in_ok-written_number-in-35 in
    finds_numbered c.allowed_character.result c.args.text.now written.field-0 c.in-35.len_at_least first written.ensures c.allowed_character.ensures
