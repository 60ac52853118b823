use Rattle.std.proofs.Common.{arith, ◌<◌, length}
use Rattle.std.proofs.lemmas.Bool.Decides.{nat_tests}
use Rattle.markup.proofs.References.{numeral_end}
use Rattle.markup.proofs.reference.numeral.Goals as goal

pub returns : goal.returns
returns c =
    let long : 0 < length c.args.digits.now = grind (arith, nat_tests) in
    numeral_end c.args.radix _ c.loop-digit.digit-index c.args.digits.now (omega arith) long c.loop-digit-test.false c.loop-digit.invariant.rest
