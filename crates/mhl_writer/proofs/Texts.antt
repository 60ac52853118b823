-- Texts that are written one behind the other.
use Rattle.std.proofs.Common.{◌≡◌, ℕ, List, [], ◌++◌, ap, ◌∙◌, append_assoc}

-- the first text
pub begun : (none first x rest : List ℕ) → none ≡ [] → first ≡ none ++ x → first ++ rest ≡ x ++ rest
begun none first x rest empty is = ap (λ (t : List ℕ). t ++ rest) (is ∙ ap (λ (t : List ℕ). t ++ x) empty)

-- one more, with others still to come
pub goes_on : (old new x rest whole : List ℕ) → new ≡ old ++ x → old ++ (x ++ rest) ≡ whole → new ++ rest ≡ whole
goes_on old new x rest whole is so_far = ap (λ (t : List ℕ). t ++ rest) is ∙ append_assoc old x rest ∙ so_far
