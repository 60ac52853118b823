use Rattle.std.proofs.Common.{◌≡◌, ℕ, List, ◌∷◌, Option, None, refl, sym, ap, ◌∙◌}
use Rattle.markup.specs.Token.{error_at}
use Rattle.markup.specs.Taking.{Taken, tag_at, reference_at, piece_at}
use Rattle.markup.proofs.Pieces.{piece_tag, piece_reference}
use Rattle.markup.proofs.Tokens.{takes_piece, no_piece, error_at_reference, is_text, takes_run}
use Rattle.markup.proofs.token.next_token.Goals as goal

tag_there : (bytes : List ℕ) (b : ℕ) (bs : List ℕ) (x : Option Taken) → bytes ≡ b ∷ bs → b ≡ 60 → tag_at bs ≡ x → piece_at bytes ≡ x
tag_there bytes b bs x e f h = ap piece_at (e ∙ ap (λ (c : ℕ). c ∷ bs) f) ∙ piece_tag bs ∙ h

reference_there : (bytes : List ℕ) (b : ℕ) (bs : List ℕ) (x : Option Taken) → bytes ≡ b ∷ bs → b ≡ 38 → reference_at bs ≡ x → piece_at bytes ≡ x
reference_there bytes b bs x e f h = ap piece_at (e ∙ ap (λ (c : ℕ). c ∷ bs) f) ∙ piece_reference bs ∙ h

pub returns-in-Some-tag : goal.returns-in-Some-tag
returns-in-Some-tag c = takes_piece c.args.bytes.now _ _ (tag_there c.args.bytes.now c.in-Some.first.now c.in-Some.others.now _ c.in-Some.ensures.cases.0 c.if-first-eq60.true c.in-Some-tag.ensures)

pub returns-in-None : goal.returns-in-None
returns-in-None c = (no_piece c.args.bytes.now (tag_there c.args.bytes.now c.in-Some.first.now c.in-Some.others.now None c.in-Some.ensures.cases.0 c.if-first-eq60.true c.in-None.ensures), c.error.ensures)

pub returns-in-Some-reference : goal.returns-in-Some-reference
returns-in-Some-reference c = takes_piece c.args.bytes.now _ _ (reference_there c.args.bytes.now c.in-Some.first.now c.in-Some.others.now _ c.in-Some.ensures.cases.0 c.if-first-eq38.true c.in-Some-reference.ensures)

pub returns-in-None-reference : goal.returns-in-None-reference
returns-in-None-reference c =
    let here = c.in-Some.ensures.cases.0 ∙ ap (λ (b : ℕ). b ∷ c.in-Some.others.now) c.if-first-eq38.true in
    (no_piece c.args.bytes.now (reference_there c.args.bytes.now c.in-Some.first.now c.in-Some.others.now None c.in-Some.ensures.cases.0 c.if-first-eq38.true c.in-None-reference.ensures), sym (ap error_at here ∙ error_at_reference c.in-Some.others.now))

pub returns : goal.returns
returns c = takes_run c.in-Some.first.now c.in-Some.others.now c.args.bytes.now c.split_text.result.0.now c.split_text.result.1.now _ c.in-Some.ensures.cases.0 (is_text c.in-Some.first.now c.if-first-eq60.false c.if-first-eq38.false) c.split_text.ensures.front c.split_text.ensures.back (λ place. refl)
