-- White space at the ends of a text.
use Rattle.std.proofs.Common.{◌≡◌, ℕ, true, false, List, [], ◌∷◌, ◌++◌, reverse, refl, sym, ap, ◌∙◌}
use Rattle.std.proofs.lemmas.List.{reverse-append, reverse-reverse}
use Rattle.markup.specs.Piece.{is_space}
use Rattle.markup.specs.Taking.{back}

back_nothing : back is_space [] ≡ []
unfolding back
back_nothing = refl

back_stays : (b : ℕ) (bs : List ℕ) → is_space b ≡ false → back is_space (b ∷ bs) ≡ b ∷ bs
unfolding back
back_stays b bs e = rw e refl

back_more : (b : ℕ) (bs : List ℕ) → is_space b ≡ true → back is_space (b ∷ bs) ≡ back is_space bs
unfolding back
back_more b bs e = rw e refl

-- ---- at the start

pub start_goes_on : (text rest others : List ℕ) (first : ℕ) → rest ≡ first ∷ others → is_space first ≡ true → back is_space rest ≡ back is_space text → back is_space others ≡ back is_space text
start_goes_on text rest others first e s same = sym (back_more first others s) ∙ ap (back is_space) (sym e) ∙ same

pub start_stops : (text rest others : List ℕ) (first : ℕ) → rest ≡ first ∷ others → is_space first ≡ false → back is_space rest ≡ back is_space text → rest ≡ back is_space text
start_stops text rest others first e s same = e ∙ sym (back_stays first others s) ∙ ap (back is_space) (sym e) ∙ same

pub start_ends : (text rest : List ℕ) → rest ≡ [] → back is_space rest ≡ back is_space text → rest ≡ back is_space text
start_ends text rest e same = e ∙ sym back_nothing ∙ ap (back is_space) (sym e) ∙ same

-- ---- at the end

last_first : (rest others : List ℕ) (last : ℕ) → rest ≡ others ++ last ∷ [] → reverse rest ≡ last ∷ reverse others
last_first rest others last e = ap reverse e ∙ reverse-append others (last ∷ [])

from_reversed : (rest trimmed : List ℕ) → reverse rest ≡ trimmed → rest ≡ reverse trimmed
from_reversed rest trimmed e = sym (reverse-reverse rest) ∙ ap reverse e

pub end_goes_on : (text rest others : List ℕ) (last : ℕ) → rest ≡ others ++ last ∷ [] → is_space last ≡ true → back is_space (reverse rest) ≡ back is_space (reverse text)
    → back is_space (reverse others) ≡ back is_space (reverse text)
end_goes_on text rest others last e s same = start_goes_on (reverse text) (reverse rest) (reverse others) last (last_first rest others last e) s same

pub end_stops : (text rest others : List ℕ) (last : ℕ) → rest ≡ others ++ last ∷ [] → is_space last ≡ false → back is_space (reverse rest) ≡ back is_space (reverse text)
    → rest ≡ reverse (back is_space (reverse text))
end_stops text rest others last e s same =
    from_reversed rest (back is_space (reverse text)) (start_stops (reverse text) (reverse rest) (reverse others) last (last_first rest others last e) s same)

pub end_ends : (text rest : List ℕ) → rest ≡ [] → back is_space (reverse rest) ≡ back is_space (reverse text) → rest ≡ reverse (back is_space (reverse text))
end_ends text rest e same = from_reversed rest (back is_space (reverse text)) (start_ends (reverse text) (reverse rest) (ap reverse e) same)
