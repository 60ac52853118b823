use Rattle.std.proofs.Common.{◌≡◌, ◌++◌, ℕ, Bool, List, Option, Some, None, Bor, sym, ap, ◌∙◌, codes, arith}
use Rattle.std.specs.Prelude.{option_map}
use Rattle.markup.specs.Piece.{is_space}
use Rattle.markup.specs.Mark.{Named, first_value}
use Rattle.markup.specs.Taking.{back, attribute_at, attributes_of, ends_tag}
use Rattle.markup.specs.Token.{Finds}
use Rattle.markup.proofs.Attributes.{attribute_skip, attribute_shrinks, closed_of}
use Rattle.markup.proofs.Values.{closed, closed_ended, closed_apart, closed_broken, closed_next, value_then, value_begins, value_next, value_ends}
use Rattle.markup.proofs.token.value_of.Goals as goal

ended : (rest inside : List ℕ) → inside ≡ back is_space rest → (b : Bool) → b ≡ ends_tag (inside ++ codes ">") → ends_tag (closed (back is_space rest)) ≡ b
ended rest inside e b h = ap (λ (xs : List ℕ). ends_tag (closed xs)) (sym e) ∙ sym h

skipped : (rest inside : List ℕ) → inside ≡ back is_space rest → attribute_at rest ≡ attribute_at inside
skipped rest inside e = sym (attribute_skip rest) ∙ ap attribute_at (sym e)

finds : (found : Option (Bor (List ℕ))) (value : Option (List ℕ)) → option_map (λ x. x.now) found ≡ value → Finds (λ x. x.now) found value
finds None value e = sym e
finds (Some x) value e = sym e

pub returns-then-is_closed : goal.returns-then-is_closed
returns-then-is_closed c =
    let rest = c.loop-rest.rest.now in
    let name = c.args.name.now in
    let found = option_map (λ x. x.now) c.loop-rest.found in
    let end = closed_ended rest (ended rest _ c.skip_space-inside.ensures _ c.is_closed.ensures ∙ c.if-is_closed.true) in
    finds c.loop-rest.found (first_value name (attributes_of c.args.attributes.now))
    (sym (value_ends name found (closed rest)) ∙ ap (value_then name found) (sym end) ∙ c.loop-rest.invariant ∙ value_begins name c.args.attributes.now)

pub returns-then-not-starts_with_space : goal.returns-then-not-starts_with_space
returns-then-not-starts_with_space c =
    let rest = c.loop-rest.rest.now in
    let name = c.args.name.now in
    let found = option_map (λ x. x.now) c.loop-rest.found in
    let none = closed_apart rest (ended rest _ c.skip_space-inside.ensures _ c.is_closed.ensures ∙ c.if-is_closed.false) (sym c.starts_with_space.ensures ∙ c.if-not-starts_with_space.true) in
    sym (value_begins name c.args.attributes.now) ∙ sym c.loop-rest.invariant ∙ ap (value_then name found) none

pub returns-in_err-attribute : goal.returns-in_err-attribute
returns-in_err-attribute c =
    let rest = c.loop-rest.rest.now in
    let name = c.args.name.now in
    let found = option_map (λ x. x.now) c.loop-rest.found in
    let none = closed_broken rest (ended rest _ c.skip_space-inside.ensures _ c.is_closed.ensures ∙ c.if-is_closed.false) (sym c.starts_with_space.ensures ∙ c.if-not-starts_with_space.false) (skipped rest _ c.skip_space-inside.ensures ∙ c.in_err-attribute.ensures) in
    rw c.from_residual.ensures (sym (value_begins name c.args.attributes.now) ∙ sym c.loop-rest.invariant ∙ ap (value_then name found) none)

pub loop-rest-smaller : goal.loop-rest-smaller
loop-rest-smaller c =
    let rest = c.loop-rest.rest.now in
    let shorter = attribute_shrinks rest ((c.in_ok-attribute.attribute.name.now, c.in_ok-attribute.attribute.value.now), c.in_ok-attribute.others.now) (sym c.starts_with_space.ensures ∙ c.if-not-starts_with_space.false) (skipped rest _ c.skip_space-inside.ensures ∙ c.in_ok-attribute.ensures) in
    omega (arith, shorter)

pub loop-rest-preserved : goal.loop-rest-preserved
loop-rest-preserved c =
    let rest = c.loop-rest.rest.now in
    let name = c.args.name.now in
    let others = c.in_ok-attribute.others.now in
    let found = option_map (λ x. x.now) c.loop-rest.found in
    let a : Named = (c.in_ok-attribute.attribute.name.now, c.in_ok-attribute.attribute.value.now) in
    let next = closed_next rest (a, others) (ended rest _ c.skip_space-inside.ensures _ c.is_closed.ensures ∙ c.if-is_closed.false) (sym c.starts_with_space.ensures ∙ c.if-not-starts_with_space.false) (skipped rest _ c.skip_space-inside.ensures ∙ c.in_ok-attribute.ensures) in
    ap (λ (v : Option (List ℕ)). value_then name v (closed_of others)) c.first_found-found.ensures
    ∙ value_next name found a (closed_of others)
    ∙ ap (value_then name found) (sym next)
    ∙ c.loop-rest.invariant
