use Rattle.std.proofs.Common.{◌≡◌, List, ℕ, ◌∷◌, ◌+◌, length, take, drop, Some, sym, ap, ◌∙◌}
use Rattle.std.proofs.lemmas.List.{nil_from_length}
use Rattle.markup.specs.Piece.{goes_on_name}
use Rattle.markup.specs.Taking.{name_at, front}
use Rattle.markup.proofs.Names.{name_cut, name_fits, name_not, name_none}
use Rattle.markup.proofs.scan.next_name.Goals as goal

pub returns-in_err-first : goal.returns-in_err-first
returns-in_err-first c = rw c.from_residual.ensures (ap name_at (nil_from_length c.args.bytes.now c.in_err-first.ensures.cases) ∙ name_none)

pub returns-then-not-is_name_start : goal.returns-then-not-is_name_start
returns-then-not-is_name_start c = ap name_at c.in_ok-first.ensures.cases.0 ∙ name_not c.in_ok-first.first.now c.in_ok-first.others.now (sym c.is_name_start.ensures ∙ c.if-not-is_name_start.true)

pub split_at-requires : goal.split_at-requires
split_at-requires c = rw (c.split_name.ensures.front, c.in_ok-first.ensures.cases.0) (name_fits c.in_ok-first.first.now c.in_ok-first.others.now)

pub returns : goal.returns
returns c =
    let b = c.in_ok-first.first.now in
    let bs = c.in_ok-first.others.now in
    let n = 1 + length (front goes_on_name bs) in
    let bytes : c.args.bytes.now ≡ b ∷ bs = c.in_ok-first.ensures.cases.0 in
    let len : 1 + length c.split_name.result.0.now ≡ n = ap (λ (x : List ℕ). 1 + length x) c.split_name.ensures.front in
    let e0 : c.split_at.result.0.now ≡ take n (b ∷ bs) = c.split_at.ensures.front ∙ ap (λ (k : ℕ). take k c.args.bytes.now) len ∙ ap (take n) bytes in
    let e1 : c.split_at.result.1.now ≡ drop n (b ∷ bs) = c.split_at.ensures.back ∙ ap (λ (k : ℕ). drop k c.args.bytes.now) len ∙ ap (drop n) bytes in
    ap name_at bytes ∙ name_cut b bs (sym c.is_name_start.ensures ∙ c.if-not-is_name_start.false) ∙ ap (λ (x : List ℕ). Some (x, drop n (b ∷ bs))) (sym e0) ∙ ap (λ (x : List ℕ). Some (c.split_at.result.0.now, x)) (sym e1)
