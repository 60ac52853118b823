-- What writes that may be torn leave of a file's bytes.
use Rattle.std.proofs.Common.{◌≡◌, ◌≢◌, ◌⊎◌, inl, inr, ℕ, suc, ◌+◌, ◌-◌, ◌<◌, ◌≤◌, max, min, List, [], ◌∷◌, ◌++◌, length, get_or, take, drop, set, replicate, refl, sym, ap, ◌∙◌, arith, length-append, length-take, length-drop, take-append-drop, append_assoc, append-nil, subst, ext_get_or}
use Rattle.std.proofs.lemmas.List.{take_at, take_all, take-append-le, length-replicate, get_or-take, get_or-drop, get_or_append_left, get_or-append_right, set_at, get_or-set_other, get_or-set_same, length-set}
use Rattle.std.proofs.lemmas.Bool.{cases_lt, cases_eq}
use Rattle.bay_core.specs.Map.{padded, overwritten}
use Rattle.bay_core.specs.Torn.{TornFile}

-- the same bytes as four parts
abbrev pub written : List ℕ → ℕ → List ℕ → List ℕ
written old at piece = take at old ++ replicate (at - length old) 0 ++ piece ++ drop (at + length piece) old

padded_front : (old : List ℕ) (at : ℕ) → take at (padded at old) ≡ take at old ++ replicate (at - length old) 0
padded_front old at = elim (cases_lt at (length old)) [
  | inl h ↦
      let gap : at - length old ≡ 0 = omega arith in
      take-append-le at old (replicate (at - length old) 0) (omega arith) ∙ sym (append-nil (take at old)) ∙ ap (λ (n : ℕ). take at old ++ replicate n 0) (sym gap)
  | inr h ↦
      let long : length (padded at old) ≡ at = length-append old (replicate (at - length old) 0) ∙ omega (arith, h, length-replicate {A = ℕ} (at - length old) 0) in
      take_all at (padded at old) (omega (arith, long)) ∙ ap (λ (l : List ℕ). l ++ replicate (at - length old) 0) (sym (take_all at old h))
]

pub overwritten_is : (old : List ℕ) (at : ℕ) (piece : List ℕ) → overwritten old at piece ≡ written old at piece
overwritten_is old at piece = ap (λ (l : List ℕ). l ++ piece ++ drop (at + length piece) old) (padded_front old at)

pub length-written : (old : List ℕ) (at : ℕ) (piece : List ℕ) → length (written old at piece) ≡ max (length old) (at + length piece)
length-written old at piece = simp (length-append, length-take, length-replicate, length-drop) (omega arith)

written_outside : (old : List ℕ) (at : ℕ) (piece : List ℕ) (i : ℕ) → i < length old → (i < at) ⊎ (at + length piece ≤ i) → get_or (written old at piece) i 0 ≡ get_or old i 0
written_outside old at piece i h (inl k) =
    let front = take at old in
    let zeros : List ℕ = replicate (at - length old) 0 in
    let has : length front ≡ min at (length old) = length-take at old in
    let a : i < length front = omega arith in
    let b : i < length (front ++ zeros) = omega (arith, length-append front zeros) in
    let c : i < length (front ++ zeros ++ piece) = omega (arith, length-append (front ++ zeros) piece) in
    get_or_append_left (front ++ zeros ++ piece) (drop (at + length piece) old) 0 i c ∙ get_or_append_left (front ++ zeros) piece 0 i b ∙ get_or_append_left front zeros 0 i a ∙ get_or-take at old i 0 k
written_outside old at piece i h (inr k) =
    let front = take at old in
    let zeros : List ℕ = replicate (at - length old) 0 in
    let end = at + length piece in
    let has : length (front ++ zeros ++ piece) ≡ end =
    length-append (front ++ zeros) piece ∙ ap (λ (n : ℕ). n + length piece) (length-append front zeros ∙ omega (arith, length-take at old, length-replicate {A = ℕ} (at - length old) 0)) in
    get_or-append_right (front ++ zeros ++ piece) (drop end old) end i 0 has k ∙ get_or-drop end old (i - end) 0 ∙ ap (λ (n : ℕ). get_or old n 0) (omega arith)

-- a write that was finished
pub written_torn : (old : List ℕ) (at : ℕ) (piece : List ℕ) → TornFile at (length piece) old (written old at piece)
written_torn old at piece = record {
  no_shorter = omega (arith, length-written old at piece);
  no_longer = omega (arith, length-written old at piece);
  outside = written_outside old at piece;
}

pub overwritten_torn : (old : List ℕ) (at : ℕ) (piece : List ℕ) → TornFile at (length piece) old (overwritten old at piece)
overwritten_torn old at piece = subst (TornFile at (length piece) old) (sym (overwritten_is old at piece)) (written_torn old at piece)

-- the bytes in front of the place stay
pub torn_front : {at n : ℕ} {old new : List ℕ} (k : ℕ) → TornFile at n old new → k ≤ at → k ≤ length old → take k new ≡ take k old
torn_front {at = at} {old = old} {new = new} k torn h w =
    let long = torn.no_shorter in
    ext_get_or 0 _ _ (simp length-take (omega arith)) (λ i below.
    let b : i < k = omega (arith, below, length-take k new) in
    get_or-take k new i 0 b ∙ torn.outside i (omega arith) (inl (omega arith)) ∙ sym (get_or-take k old i 0 b))

-- a file keeps its front and the byte behind it, where a write begins further back
pub torn_behind : {at n : ℕ} {new : List ℕ} (front : List ℕ) (gate : ℕ) (rest : List ℕ) → TornFile at n (front ++ gate ∷ rest) new → length front < at →
    new ≡ front ++ gate ∷ drop (suc (length front)) new
torn_behind {new = new} front gate rest torn h =
    let k = suc (length front) in
    let split : front ++ gate ∷ rest ≡ (front ++ gate ∷ []) ++ rest = sym (append_assoc front (gate ∷ []) rest) in
    let has : length (front ++ gate ∷ []) ≡ k = omega (arith, length-append front (gate ∷ [])) in
    let begin : take k new ≡ front ++ gate ∷ [] = torn_front k torn h (omega (arith, length-append front (gate ∷ rest))) ∙ ap (λ (l : List ℕ). take k l) split ∙ take_at (front ++ gate ∷ []) rest k has in
    sym (take-append-drop k new) ∙ ap (λ (l : List ℕ). l ++ drop k new) begin ∙ append_assoc front (gate ∷ []) (drop k new)

-- a write of one byte leaves some byte there, and all others as they were
pub torn_byte : {new : List ℕ} (front : List ℕ) (gate : ℕ) (rest : List ℕ) → TornFile (length front) 1 (front ++ gate ∷ rest) new →
    new ≡ front ++ get_or new (length front) 0 ∷ rest
torn_byte {new = new} front gate rest torn =
    let at = length front in
    let x = get_or new at 0 in
    let old = front ++ gate ∷ rest in
    let is_set : set old at x ≡ front ++ x ∷ rest = set_at front gate rest x at refl in
    let size : length old ≡ at + suc (length rest) = length-append front (gate ∷ rest) in
    let long : length new ≡ length old = omega (arith, torn.no_shorter, torn.no_longer, size) in
    ext_get_or 0 new (set old at x) (omega (arith, long, length-set old at x)) (λ i below.
    elim (cases_eq i at) [
      | inl e ↦ ap (λ (k : ℕ). get_or new k 0) e ∙ sym (get_or-set_same old at x 0 (omega arith)) ∙ ap (λ (k : ℕ). get_or (set old at x) k 0) (sym e)
      | inr ne ↦ torn.outside i (omega arith) (sides i ne) ∙ sym (get_or-set_other old at i x 0 ne)
    ]) ∙ is_set
  where
    sides : (i : ℕ) → i ≢ length front → (i < length front) ⊎ (length front + 1 ≤ i)
    sides i ne = elim (cases_lt i (length front)) [ inl h ↦ inl h | inr h ↦ inr (omega arith) ]
