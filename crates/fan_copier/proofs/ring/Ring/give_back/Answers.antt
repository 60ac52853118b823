use Rattle.std.proofs.Common.{ℕ, List, [], arith, sym, ap, ◌∙◌, inl, inr, slice_index_or}
use Rattle.std.proofs.lemmas.Bool.{cases_eq}
use Rattle.fan_copier.specs.Ring.{cell}
use Rattle.fan_copier.proofs.Rings.{taken_none}
use Rattle.fan_copier.proofs.ring.Ring.give_back.Goals as goal

pub loop-place-preserved : goal.loop-place-preserved
loop-place-preserved c =
    let e = c.give_one.ensures in
    let v = c.loop-place.invariant in
    record {
      owns = e.owns;
      sum = let s = e.sum in let b = v.sum in omega (arith, s, b);
      cleared = λ j below. elim (cases_eq j c.loop-place.place) [
        | inl here ↦ ap (cell c.give_one.new.self.slots) here ∙ e.empty
        | inr away ↦ e.others j away ∙ v.cleared j (omega (arith, below, away))
      ];
      kept = λ j above. e.others j (λ is. absurd (omega (arith, above, is))) ∙ v.kept j (omega (arith, above));
      still_lent = λ n lent out. e.still n (v.still_lent n lent out) (λ at. out c.loop-place.place (sym (v.kept c.loop-place.place (omega arith)) ∙ at));
      blocks = e.blocks ∙ v.blocks;
    }

pub returns : goal.returns
returns c =
    let v = c.loop-place.invariant in
    let none = taken_none c.loop-place.self.slots (λ j below. v.cleared j (omega (arith, below, c.loop-place.self.sixteen))) in
    let s = v.sum in
    record {
      sum = omega (arith, none, s);
      spares = λ n lent out. (v.still_lent n lent out, λ such. ap (λ (blocks : List (List ℕ)). slice_index_or blocks n []) v.blocks);
    }
