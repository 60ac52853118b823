use Rattle.std.proofs.Common.{refl, sym, arith}
use Rattle.seal_step.proofs.Compares.{take_step, whole_same}
use Rattle.seal_step.proofs.reading.compare.Goals as goal

pub returns-then-read-place : goal.returns-then-read-place
returns-then-read-place c = record {
  place = c.loop-place.place;
  is = refl;
  inside = c.loop-place-test.true;
  same = c.loop-place.invariant;
  written_is = refl;
  read_is = refl;
  other = λ same. c.if-read-place.true (sym same);
}

pub loop-place-preserved : goal.loop-place-preserved
loop-place-preserved c = take_step _ _ _ c.loop-place-test.true (omega arith) c.if-read-place.false c.loop-place.invariant

pub returns : goal.returns
returns c = whole_same _ _ _ c.loop-place-test.false c.requires.long c.loop-place.invariant
