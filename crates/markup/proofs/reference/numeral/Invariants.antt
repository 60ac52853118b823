use Rattle.std.proofs.Common.{◌≡◌, ◌≤◌, drop}
use Rattle.markup.proofs.References.{read}
use Rattle.markup.proofs.reference.numeral.Given as goal

abbrev pub invariant-loop-digit : goal.invariant-loop-digit
invariant-loop-digit l = record {
  bound : l.number ≤ 0x110000;
  rest : read l.radix l.number (drop l.digit-index l.digits) ≡ read l.radix 0 l.digits;
}
