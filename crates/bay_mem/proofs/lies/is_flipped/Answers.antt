use Rattle.std.proofs.Common.{◌≡◌, ℕ, ◌+◌, ◌<◌, true, List, length, drop, cond, get_or, sym, ap, ◌∙◌, arith}
use Rattle.std.specs.Prelude.{nat_eq}
use Rattle.std.proofs.lemmas.List.{drop_more}
use Rattle.std.proofs.lemmas.Bool.Decides.{nat_tests}
use Rattle.bay_mem.specs.declared.lies.Flip.{Flip}
use Rattle.bay_mem.specs.State.{is_flipped}
use Rattle.bay_mem.proofs.lies.is_flipped.Goals as goal

flipped_here : (fs : List Flip) (i d : ℕ) (f : Flip) → i < length fs → f ≡ get_or fs i f → f.d ≡ d → is_flipped (drop i fs) d ≡ true
flipped_here fs i d f within at same =
    let test : nat_eq f.d d ≡ true = grind (arith, nat_tests, same) in
    ap (λ (l : List Flip). is_flipped l d) (drop_more fs i f within) ∙ ap (λ (x : Flip). cond (nat_eq x.d d) true (is_flipped (drop (i + 1) fs) d)) (sym at)
    ∙ ap (λ b. cond b true (is_flipped (drop (i + 1) fs) d)) test

pub returns-then-flip-d : goal.returns-then-flip-d
returns-then-flip-d c = sym (sym c.loop-flip.invariant ∙ flipped_here c.args.flips.now c.loop-flip.flip-index c.args.d c.flip-item.result c.loop-flip-test.true c.flip-item.is c.if-flip-d.true)
