-- What lies below a path, by its first bytes and the byte behind them.
use Rattle.std.proofs.Common.{◌≡◌, ℕ, true, false, Bool, List, [], ◌∷◌, length, refl, arith}
use Rattle.std.specs.Prelude.{◌&&◌, ◌==◌, nat_eq, slice_index}
use Rattle.std.specs.List.{starts_with}
use Rattle.std.proofs.lemmas.Bool.Decides.{nat_tests}
use Rattle.path_text.specs.Path.{is_ancestor}

slash_first : (y : ℕ) → (nat_eq 47 y && true) ≡ (y == 47)
slash_first y = grind (arith, nat_tests)

three : (a b c d : Bool) → b ≡ (c && d) → (a && b) ≡ (a && c && d)
three true b c d e = e
three false b c d e = refl

-- b begins with a, and behind it stands the slash
is_ancestor-parts : (a b : List ℕ) → is_ancestor a b ≡ (starts_with nat_eq b a && slice_index b (length a) == 47)
is_ancestor-parts [] [] = refl
is_ancestor-parts [] (y ∷ ys) = slash_first y
is_ancestor-parts (x ∷ xs) [] = refl
is_ancestor-parts (x ∷ xs) (y ∷ ys) = three (nat_eq x y) _ (starts_with nat_eq ys xs) (slice_index ys (length xs) == 47) (is_ancestor-parts xs ys)

pub is_ancestor-begun : (a b above below : List ℕ) (byte : ℕ) → above ≡ a → below ≡ b → true ≡ starts_with nat_eq below above → byte ≡ slice_index below (length above) → (byte == 47) ≡ is_ancestor a b
is_ancestor-begun a b above below byte same_a same_b begun at =
    rw (← same_a, ← same_b, is_ancestor-parts above below, ← begun, at) refl

pub is_ancestor-apart : (a b above below : List ℕ) → above ≡ a → below ≡ b → false ≡ starts_with nat_eq below above → false ≡ is_ancestor a b
is_ancestor-apart a b above below same_a same_b apart =
    rw (← same_a, ← same_b, is_ancestor-parts above below, ← apart) refl
