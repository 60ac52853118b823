-- Values that may be absent, and choices.
use Rattle.std.proofs.Common.{◌≡◌, ◌≢◌, ◌⊎◌, inl, inr, ℕ, Bool, true, false, cond, not, ◌&&◌, eqb, List, [], ◌∷◌, ◌++◌, Option, Some, None, refl}
use Rattle.std.specs.Prelude.{is_some}
use Rattle.std.proofs.lemmas.Bool.{eqb-true, eq-eqb, ne_eqb}
use Rattle.markup.specs.Taking.{◌>>=◌, strip}

pub bind_some : {A B : Type 0} (r : Option A) (f : A → Option B) (y : B) → (r >>= f) ≡ Some y → (x : A) × (r ≡ Some x) × (f x ≡ Some y)
bind_some (Some x) f y e = (x, refl, e)
bind_some None f y e = absurd cc

pub which : {X : Type 0} (b : Bool) (x y z : X) → cond b x y ≡ z → ((b ≡ true) × (x ≡ z)) ⊎ ((b ≡ false) × (y ≡ z))
which true x y z e = inl (refl, e)
which false x y z e = inr (refl, e)

pub chosen : {A : Type 0} (b : Bool) (x : Option A) (y : A) → cond b x None ≡ Some y → (b ≡ true) × (x ≡ Some y)
chosen true x y e = (refl, e)
chosen false x y e = absurd cc

abbrev some : {A : Type 0} → A → Option A
some x = Some x

pub some_is : {A : Type 0} (x y : A) → some x ≡ some y → x ≡ y
some_is x y e = cc

pub none_some : {A : Type 0} {x : A} → None ≡ Some x → ⊥
none_some e = cc

pub none_from : {A : Type 0} (r : Option A) → ((x : A) → r ≡ Some x → ⊥) → r ≡ None
none_from (Some x) never = absurd (never x refl)
none_from None never = refl

pub is_some_not : {A : Type 0} (r : Option A) → is_some r ≡ false → r ≡ None
is_some_not (Some x) e = absurd cc
is_some_not None e = refl

pub is_some_is : {A : Type 0} (r : Option A) → is_some r ≡ true → (x : A) × (r ≡ Some x)
is_some_is (Some x) e = (x, refl)
is_some_is None e = absurd cc

pub option_cases : {A : Type 0} (r : Option A) (P : Type 0) → ((x : A) → r ≡ Some x → P) → (r ≡ None → P) → P
option_cases (Some x) P h k = h x refl
option_cases None P h k = k refl

pub elim_bool : (b : Bool) (P : Bool → Type 0) → (b ≡ true → P true) → (b ≡ false → P false) → P b
elim_bool true P h k = h refl
elim_bool false P h k = k refl

pub true_false : true ≡ false → ⊥
true_false e = cc

pub not_true_is : (b : Bool) → (b ≡ true → ⊥) → b ≡ false
not_true_is true h = absurd (h refl)
not_true_is false h = refl

pub not_is_true : (b : Bool) → not b ≡ true → b ≡ false
not_is_true true h = absurd cc
not_is_true false h = refl

pub not_is_false : (b : Bool) → not b ≡ false → b ≡ true
not_is_false true h = refl
not_is_false false h = absurd cc

pub and_true : (a b : Bool) → (a && b) ≡ true → (a ≡ true) × (b ≡ true)
and_true true b e = (refl, e)
and_true false b e = absurd cc

-- ---- fixed texts

pub strip_takes : (p bytes rest : List ℕ) → strip p bytes ≡ Some rest → bytes ≡ p ++ rest
unfolding strip
strip_takes [] bytes rest e = some_is bytes rest e
strip_takes (c ∷ p) [] rest e = absurd cc
strip_takes (c ∷ p) (b ∷ bs) rest e =
    let g = chosen (eqb b c) (strip p bs) rest e in
    let same : b ≡ c = eqb-true b c g.0 in
    let others : bs ≡ p ++ rest = strip_takes p bs rest g.1 in
    cc

pub strip_again : (p rest : List ℕ) → strip p (p ++ rest) ≡ Some rest
unfolding strip
strip_again [] rest = refl
strip_again (c ∷ p) rest = rw (eq-eqb c c refl) (strip_again p rest)

pub strip_none : (p bytes : List ℕ) → ((rest : List ℕ) → bytes ≢ p ++ rest) → strip p bytes ≡ None
strip_none p bytes never = none_from (strip p bytes) (λ rest e. never rest (strip_takes p bytes rest e))

pub strip_case : {X : Type 0} (word bytes : List ℕ) (k : List ℕ → Option X) (other : Option X) (y : X) → cond (is_some (strip word bytes)) (strip word bytes >>= k) other ≡ Some y → ((rest : List ℕ) × (bytes ≡ word ++ rest) × (k rest ≡ Some y)) ⊎ (other ≡ Some y)
strip_case {X} word bytes k other y e = elim (which {X = Option X} (is_some (strip word bytes)) (strip word bytes >>= k) other (Some y) e) [
  | inl h ↦ (let a = bind_some (strip word bytes) k y h.1 in inl (a.0, strip_takes word bytes a.0 a.1, a.2))
  | inr h ↦ inr h.1
]

pub strip_other : (c : ℕ) (word : List ℕ) (b : ℕ) (bs : List ℕ) → (b ≡ c → ⊥) → strip (c ∷ word) (b ∷ bs) ≡ None
unfolding strip
strip_other c word b bs other = rw (ne_eqb b c other) refl

pub strip_nothing : (c : ℕ) (word : List ℕ) → strip (c ∷ word) [] ≡ None
unfolding strip
strip_nothing c word = refl
