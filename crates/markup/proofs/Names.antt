-- Runs of bytes, names, and texts up to an end mark are taken exactly.
use Rattle.std.proofs.Common.{◌≡◌, inl, inr, ℕ, suc, ◌+◌, ◌≤◌, Bool, true, false, cond, eqb, List, [], ◌∷◌, ◌++◌, length, take, drop, Option, Some, None, refl, sym, ap, subst, ◌∙◌, append_assoc, length-append, arith}
use Rattle.std.specs.Prelude.{IsTrue, is_some}
use Rattle.std.specs.List.{list_all}
use Rattle.std.proofs.lemmas.Bool.{cases_eq, ne_eqb}
use Rattle.std.proofs.lemmas.List.{take_at, drop_at}
use Rattle.markup.specs.Piece.{begins_name, goes_on_name, is_space, IsName, EndsFirst}
use Rattle.markup.specs.Taking.{strip, front, back, behind_first, name_at}
use Rattle.markup.proofs.Options.{which, some_is, none_some, is_some_not, elim_bool, true_false, and_true, strip_takes, strip_again, strip_none, strip_other}

-- white space does not stand in a name
pub no_name : (b : ℕ) → is_space b ≡ true → goes_on_name b ≡ false
no_name b h = elim (cases_eq b 32) [
  | inl e ↦ rw e refl
  | inr m ↦ elim (cases_eq b 9) [
    | inl e ↦ rw e refl
    | inr n ↦ elim (cases_eq b 10) [
      | inl e ↦ rw e refl
      | inr k ↦ elim (cases_eq b 13) [
        | inl e ↦ rw e refl
        | inr j ↦ absurd (true_false (sym h ∙ rw (ne_eqb b 32 m, ne_eqb b 9 n, ne_eqb b 10 k, ne_eqb b 13 j) refl))
      ]
    ]
  ]
]

-- ---- runs of bytes that pass a test

pub front_back : (p : ℕ → Bool) (bytes : List ℕ) → bytes ≡ front p bytes ++ back p bytes
unfolding front back
front_back p [] = refl
front_back p (b ∷ bs) = elim (p b) as (λ t. b ∷ bs ≡ cond t (b ∷ front p bs) [] ++ cond t (back p bs) (b ∷ bs)) [ true ↦ ap (λ (x : List ℕ). b ∷ x) (front_back p bs) | false ↦ refl ]

pub front_passes : (p : ℕ → Bool) (bytes : List ℕ) → IsTrue (list_all p (front p bytes))
unfolding front
front_passes p [] = refl
front_passes p (b ∷ bs) = elim_bool (p b) (λ t. IsTrue (list_all p (cond t (b ∷ front p bs) []))) (λ e. rw e (front_passes p bs)) (λ e. refl)

-- the first byte does not pass
abbrev pub StopsAt : (ℕ → Bool) → List ℕ → Type 0
StopsAt p [] = Unit {0}
StopsAt p (b ∷ bs) = p b ≡ false

pub back_stops : (p : ℕ → Bool) (bytes : List ℕ) → StopsAt p (back p bytes)
unfolding back
back_stops p [] = tt
back_stops p (b ∷ bs) = elim_bool (p b) (λ t. StopsAt p (cond t (back p bs) (b ∷ bs))) (λ e. back_stops p bs) (λ e. e)

pub front_at : (p : ℕ → Bool) (xs rest : List ℕ) → IsTrue (list_all p xs) → StopsAt p rest → (front p (xs ++ rest) ≡ xs) × (back p (xs ++ rest) ≡ rest)
unfolding front back
front_at p [] [] h s = (refl, refl)
front_at p [] (b ∷ bs) h s = (rw s refl, rw s refl)
front_at p (x ∷ xs) rest h s =
    let g = and_true (p x) (list_all p xs) h in
    let k = front_at p xs rest g.1 s in
    (rw g.0 (ap (λ (y : List ℕ). x ∷ y) k.0), rw g.0 k.1)

pub back_again : (p : ℕ → Bool) (bytes : List ℕ) → back p (back p bytes) ≡ back p bytes
back_again p bytes = (front_at p [] (back p bytes) refl (back_stops p bytes)).1

-- ---- names

pub name_takes : (bytes : List ℕ) (x : List ℕ × List ℕ) → name_at bytes ≡ Some x → (bytes ≡ x.0 ++ x.1) × IsName x.0
unfolding name_at
name_takes [] x e = absurd cc
name_takes (b ∷ bs) x e =
    elim (which {X = Option (List ℕ × List ℕ)} (begins_name b) (Some (b ∷ front goes_on_name bs, back goes_on_name bs)) None (Some x) e) [
      | inl h ↦ subst (λ (y : List ℕ × List ℕ). (b ∷ bs ≡ y.0 ++ y.1) × IsName y.0) (some_is (b ∷ front goes_on_name bs, back goes_on_name bs) x h.1) (ap (λ (y : List ℕ). b ∷ y) (front_back goes_on_name bs), (h.0, front_passes goes_on_name bs))
      | inr h ↦ absurd cc
    ]

pub name_again : (name rest : List ℕ) → IsName name → StopsAt goes_on_name rest → name_at (name ++ rest) ≡ Some (name, rest)
unfolding name_at
name_again [] rest n s = absurd n
name_again (b ∷ bs) rest n s =
    let k = front_at goes_on_name bs rest n.1 s in
    rw (n.0, k.0, k.1) refl

-- a name begins with none of these
pub name_no : (c : ℕ) (word : List ℕ) → begins_name c ≡ false → (name rest : List ℕ) → IsName name → strip (c ∷ word) (name ++ rest) ≡ None
name_no c word other [] rest n = absurd n
name_no c word other (b ∷ bs) rest n = strip_other c word b (bs ++ rest) (λ e. true_false (sym n.0 ∙ ap begins_name e ∙ other))

pub begins_goes : (b : ℕ) → begins_name b ≡ true → goes_on_name b ≡ true
begins_goes b h = rw h refl

-- what does not stand in white space
pub no_space : (b : ℕ) → goes_on_name b ≡ true → is_space b ≡ false
no_space b h = elim_bool (is_space b) (λ t. t ≡ false) (λ g. absurd (true_false (sym h ∙ no_name b g))) (λ g. refl)

-- white space, and then a byte that does not stand in a name, end a name
pub space_stops : (c : ℕ) (space rest : List ℕ) → goes_on_name c ≡ false → IsTrue (list_all is_space space) → StopsAt goes_on_name (space ++ c ∷ rest)
space_stops c [] rest other h = other
space_stops c (b ∷ space) rest other h = no_name b (and_true (is_space b) (list_all is_space space) h).0

-- ---- up to an end mark

ends_first : (mark : List ℕ) (b : ℕ) (t : List ℕ) → strip mark ((b ∷ t) ++ mark) ≡ None → (rest : List ℕ) → (b ∷ t) ++ mark ≡ mark ++ rest → ⊥
ends_first mark b t none rest e = none_some (sym none ∙ ap (strip mark) e ∙ strip_again mark rest)

strip_longer : (p xs rest : List ℕ) → length p ≤ length xs → strip p xs ≡ None → strip p (xs ++ rest) ≡ None
unfolding strip
strip_longer [] xs rest le e = absurd cc
strip_longer (c ∷ p) [] rest le e = absurd (omega arith)
strip_longer (c ∷ p) (b ∷ xs) rest le e = elim_bool (eqb b c) (λ t. cond t (strip p xs) None ≡ None → cond t (strip p (xs ++ rest)) None ≡ None) (λ h f. strip_longer p xs rest (omega arith) f) (λ h f. refl) e

strip_shorter : (p xs rest : List ℕ) → strip p (xs ++ rest) ≡ None → strip p xs ≡ None
unfolding strip
strip_shorter [] xs rest e = absurd cc
strip_shorter (c ∷ p) [] rest e = refl
strip_shorter (c ∷ p) (b ∷ xs) rest e = elim_bool (eqb b c) (λ t. cond t (strip p (xs ++ rest)) None ≡ None → cond t (strip p xs) None ≡ None) (λ h f. strip_shorter p xs rest f) (λ h f. refl) e

pub behind_takes : (mark bytes rest : List ℕ) → behind_first mark bytes ≡ Some rest → (t : List ℕ) × (bytes ≡ t ++ (mark ++ rest)) × EndsFirst mark t
unfolding behind_first
behind_takes mark [] rest e = ([], strip_takes mark [] rest e, tt)
behind_takes mark (b ∷ bs) rest e =
    elim (which {X = Option (List ℕ)} (is_some (strip mark (b ∷ bs))) (strip mark (b ∷ bs)) (behind_first mark bs) (Some rest) e) [
      | inl h ↦ ([], strip_takes mark (b ∷ bs) rest h.1, tt)
      | inr h ↦ (let k = behind_takes mark bs rest h.1 in
          let regrouped : b ∷ bs ≡ ((b ∷ k.0) ++ mark) ++ rest = ap (λ (x : List ℕ). b ∷ x) k.1 ∙ sym (append_assoc (b ∷ k.0) mark rest) in
          let apart : strip mark ((b ∷ k.0) ++ mark) ≡ None = strip_shorter mark ((b ∷ k.0) ++ mark) rest (subst (λ (x : List ℕ). strip mark x ≡ None) regrouped (is_some_not (strip mark (b ∷ bs)) h.0)) in
          (b ∷ k.0, ap (λ (x : List ℕ). b ∷ x) k.1, (ends_first mark b k.0 apart, k.2)))
    ]

behind_here : (mark rest : List ℕ) → behind_first mark (mark ++ rest) ≡ Some rest
unfolding behind_first
behind_here [] [] = strip_again [] []
behind_here [] (b ∷ rest) = rw (strip_again [] (b ∷ rest)) refl
behind_here (c ∷ mark) rest = rw (strip_again (c ∷ mark) rest) refl

pub behind_next : (mark : List ℕ) (b : ℕ) (bs : List ℕ) → strip mark (b ∷ bs) ≡ None → behind_first mark (b ∷ bs) ≡ behind_first mark bs
unfolding behind_first
behind_next mark b bs e = rw e refl

pub behind_again : (mark t rest : List ℕ) → EndsFirst mark t → behind_first mark (t ++ (mark ++ rest)) ≡ Some rest
behind_again mark [] rest h = behind_here mark rest
behind_again mark (b ∷ t) rest h =
    let apart : strip mark ((b ∷ t) ++ mark) ≡ None = strip_none mark ((b ∷ t) ++ mark) h.0 in
    behind_next mark b (t ++ (mark ++ rest)) (rw (← append_assoc (b ∷ t) mark rest) (strip_longer mark ((b ∷ t) ++ mark) rest (omega (arith, length-append (b ∷ t) mark)) apart)) ∙ behind_again mark t rest h.1

-- ---- as the code takes a name

pub name_cut : (b : ℕ) (bs : List ℕ) → begins_name b ≡ true → name_at (b ∷ bs) ≡ Some (take (1 + length (front goes_on_name bs)) (b ∷ bs), drop (1 + length (front goes_on_name bs)) (b ∷ bs))
unfolding name_at
name_cut b bs h =
    let n = length (front goes_on_name bs) in
    let one : 1 + n ≡ suc n = omega arith in
    let split = front_back goes_on_name bs in
    let taken : take n bs ≡ front goes_on_name bs = ap (take n) split ∙ take_at (front goes_on_name bs) (back goes_on_name bs) n refl in
    let rest : drop n bs ≡ back goes_on_name bs = ap (drop n) split ∙ drop_at (front goes_on_name bs) (back goes_on_name bs) n refl in
    rw (one, h, taken, rest) refl

pub name_fits : (b : ℕ) (bs : List ℕ) → 1 + length (front goes_on_name bs) ≤ length (b ∷ bs)
name_fits b bs = omega (arith, ap length (front_back goes_on_name bs), length-append (front goes_on_name bs) (back goes_on_name bs))

pub name_not : (b : ℕ) (bs : List ℕ) → begins_name b ≡ false → name_at (b ∷ bs) ≡ None
unfolding name_at
name_not b bs h = rw h refl

pub name_none : name_at [] ≡ None
unfolding name_at
name_none = refl

pub behind_found : (mark bytes rest : List ℕ) → strip mark bytes ≡ Some rest → behind_first mark bytes ≡ Some rest
unfolding behind_first
behind_found mark [] rest e = e
behind_found mark (b ∷ bs) rest e = rw e refl

pub behind_nothing : (mark : List ℕ) → strip mark [] ≡ None → behind_first mark [] ≡ None
unfolding behind_first
behind_nothing mark e = e
