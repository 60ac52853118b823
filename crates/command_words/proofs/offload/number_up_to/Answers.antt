use Rattle.std.proofs.Common.{length, get_or, ap, arith}
use Rattle.command_words.proofs.OffloadRow.{digit_is, is_digit}
use Rattle.command_words.proofs.offload.number_up_to.Goals as goal

pub returns-in_default : goal.returns-in_default
returns-in_default c n some few is = let one = (digit_is c.args.text.now n (omega arith) is).0 in let same = ap length c.as_bytes.ensures.value in omega arith

pub returns-in_default-2 : goal.returns-in_default-2
returns-in_default-2 c n some few is = let one = (digit_is c.args.text.now n (omega arith) is).0 in let same = ap length c.as_bytes.ensures.value in omega arith

pub returns-then-digit-le48 : goal.returns-then-digit-le48
returns-then-digit-le48 c n some few is = let digit = (digit_is c.args.text.now n (omega arith) is).1 in let same = ap (λ t. get_or t 0 0) c.as_bytes.ensures.value in omega arith

pub returns-then-number-most : goal.returns-then-number-most
returns-then-number-most c =
    let same = ap (λ t. get_or t 0 0) c.as_bytes.ensures.value in
    let size = ap length c.as_bytes.ensures.value in
    (omega arith, omega arith, is_digit c.args.text.now c.from-number.result (omega arith) (omega arith) (omega arith))

pub returns-else-number-most : goal.returns-else-number-most
returns-else-number-most c n some few is = let digit = (digit_is c.args.text.now n (omega arith) is).1 in let same = ap (λ t. get_or t 0 0) c.as_bytes.ensures.value in omega arith
