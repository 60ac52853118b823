use Rattle.std.proofs.Common.{◌≡◌, ℕ, List, None, Bool, sym, ap, ◌∙◌, arith}
use Rattle.std.specs.Prelude.{option_map}
use Rattle.markup.specs.Piece.{is_space}
use Rattle.markup.specs.Taking.{back, attribute_at, ends_tag}
use Rattle.markup.proofs.Attributes.{all_of, all_ended, all_apart, all_broken, attribute_skip, attribute_shrinks, behind_next_one}
use Rattle.markup.proofs.tag.behind_attributes.Goals as goal

ended : (rest inside : List ℕ) → inside ≡ back is_space rest → (b : Bool) → b ≡ ends_tag inside → ends_tag (back is_space rest) ≡ b
ended rest inside e b h = ap ends_tag (sym e) ∙ sym h

skipped : (rest inside : List ℕ) → inside ≡ back is_space rest → attribute_at rest ≡ attribute_at inside
skipped rest inside e = sym (attribute_skip rest) ∙ ap attribute_at (sym e)

pub returns-then-is_tag_end : goal.returns-then-is_tag_end
returns-then-is_tag_end c =
    let rest = c.loop-inside.rest.now in
    sym c.loop-inside.invariant ∙ ap (option_map (λ x. x.1)) (all_ended rest (ended rest _ c.skip_space-inside.ensures _ c.is_tag_end.ensures ∙ c.if-is_tag_end.true))

pub returns-then-not-starts_with_space : goal.returns-then-not-starts_with_space
returns-then-not-starts_with_space c =
    let rest = c.loop-inside.rest.now in
    sym c.loop-inside.invariant ∙ ap (option_map (λ x. x.1)) (all_apart rest (ended rest _ c.skip_space-inside.ensures _ c.is_tag_end.ensures ∙ c.if-is_tag_end.false) (sym c.starts_with_space.ensures ∙ c.if-not-starts_with_space.true))

pub returns-in_err-others : goal.returns-in_err-others
returns-in_err-others c =
    let rest = c.loop-inside.rest.now in
    let broken : all_of rest ≡ None = all_broken rest (ended rest _ c.skip_space-inside.ensures _ c.is_tag_end.ensures ∙ c.if-is_tag_end.false) (sym c.starts_with_space.ensures ∙ c.if-not-starts_with_space.false) (skipped rest _ c.skip_space-inside.ensures ∙ c.in_err-others.ensures) in
    rw c.from_residual.ensures (sym c.loop-inside.invariant ∙ ap (option_map (λ x. x.1)) broken)

pub loop-inside-smaller : goal.loop-inside-smaller
loop-inside-smaller c =
    let rest = c.loop-inside.rest.now in
    let shorter = attribute_shrinks rest ((c.in_ok-others.field-0-0.name.now, c.in_ok-others.field-0-0.value.now), c.in_ok-others.others.now) (sym c.starts_with_space.ensures ∙ c.if-not-starts_with_space.false) (skipped rest _ c.skip_space-inside.ensures ∙ c.in_ok-others.ensures) in
    omega (arith, shorter)

pub loop-inside-preserved : goal.loop-inside-preserved
loop-inside-preserved c =
    let rest = c.loop-inside.rest.now in
    sym (behind_next_one rest ((c.in_ok-others.field-0-0.name.now, c.in_ok-others.field-0-0.value.now), c.in_ok-others.others.now) (ended rest _ c.skip_space-inside.ensures _ c.is_tag_end.ensures ∙ c.if-is_tag_end.false) (sym c.starts_with_space.ensures ∙ c.if-not-starts_with_space.false) (skipped rest _ c.skip_space-inside.ensures ∙ c.in_ok-others.ensures))
    ∙ c.loop-inside.invariant
