use Rattle.std.proofs.Common.{◌≡◌, ◌+◌, ◌*◌, ◌≤◌, ◌++◌, length, take}
use Rattle.mhl_writer.specs.ListText.{escaped}
use Rattle.mhl_writer.proofs.lines.put_escaped.Given as goal

abbrev pub invariant-loop-byte : goal.invariant-loop-byte
invariant-loop-byte l = record {
  text : l.out ≡ l.initial.out ++ escaped (take l.byte-index l.text);
  len : length l.out ≤ length l.initial.out + 5 * l.byte-index;
}
