-- Columns of a printed list.
use Rattle.std.proofs.Common.{◌≡◌, ℕ, ◌-◌, ◌*◌, List, ◌++◌, ◌∷◌, length, replicate, sym, ◌∙◌, ap, append-nil, arith}
use Rattle.hex.specs.Hex.{encode_lower}
use Rattle.hex.proofs.HexLemmas.{length-encode_with}
use Rattle.report_text.specs.Line.{left}

-- a text that takes all its places
full : (places : ℕ) (text : List ℕ) → length text ≡ places → left places text ≡ text
full places text long =
    let none : places - length text ≡ 0 = omega (arith, long) in
    ap (λ n. text ++ replicate n 32) none ∙ append-nil text

-- the digits of a digest take all the places of their column
pub digits_column : (n : ℕ) (out digest : List ℕ) → length digest ≡ n → out ++ 32 ∷ encode_lower digest ≡ out ++ 32 ∷ left (2 * n) (encode_lower digest)
digits_column n out digest long = ap (λ t. out ++ 32 ∷ t) (sym (full (2 * n) (encode_lower digest) (length-encode_with _ digest ∙ ap (λ k. 2 * k) long)))
