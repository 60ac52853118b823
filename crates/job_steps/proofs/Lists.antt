-- Parts of a list of calls.
use Rattle.std.proofs.Common.{◌≡◌, ◌⊎◌, inl, inr, List, [], ◌∷◌, ◌++◌, refl, sym, ap, ◌∙◌, append-nil}
use Rattle.bay_core.specs.declared.event.Event.{Event}

-- calls that are cut in two ways: the one cut stands in the first part of the other
pub record InFirst (L rest A B : List Event) : Type 0 where
  pub back : List Event
  pub first : A ≡ L ++ back
  pub behind : rest ≡ back ++ B

-- or it stands in the second one
pub record InSecond (L rest A B : List Event) : Type 0 where
  pub front : List Event
  pub before : L ≡ A ++ front
  pub second : B ≡ front ++ rest

one_more : (e x : Event) (L rest A B : List Event) → e ≡ x → InFirst L rest A B ⊎ InSecond L rest A B → InFirst (e ∷ L) rest (x ∷ A) B ⊎ InSecond (e ∷ L) rest (x ∷ A) B
one_more e x L rest A B same (inl i) = inl (record { back = i.back; first = ap (λ (l : List Event). x ∷ l) i.first ∙ ap (λ (y : Event). y ∷ (L ++ i.back)) (sym same); behind = i.behind })
one_more e x L rest A B same (inr i) = inr (record { front = i.front; before = ap (λ (l : List Event). e ∷ l) i.before ∙ ap (λ (y : Event). y ∷ (A ++ i.front)) same; second = i.second })

pub cut_where : (L rest A B : List Event) → L ++ rest ≡ A ++ B → InFirst L rest A B ⊎ InSecond L rest A B
cut_where [] rest A B is = inl (record { back = A; first = refl; behind = is })
cut_where (e ∷ L) rest [] B is = inr (record { front = e ∷ L; before = refl; second = sym is })
cut_where (e ∷ L) rest (x ∷ A) B is = one_more e x L rest A B (cc is) (cut_where L rest A B (cc is))

-- a call that stands among the first of these calls, or among the second ones
pub call_where : (before : List Event) (x : Event) (after A B : List Event) → before ++ x ∷ after ≡ A ++ B
    → ((back : List Event) × (A ≡ before ++ x ∷ back)) ⊎ ((front : List Event) × (before ≡ A ++ front) × (B ≡ front ++ x ∷ after))
call_where before x after A B is = elim (cut_where before (x ∷ after) A B is) [
  | inl i ↦ first i.back i.first i.behind
  | inr i ↦ inr (i.front, i.before, i.second)
]
  where
    first : (back : List Event) → A ≡ before ++ back → x ∷ after ≡ back ++ B → ((back : List Event) × (A ≡ before ++ x ∷ back)) ⊎ ((front : List Event) × (before ≡ A ++ front) × (B ≡ front ++ x ∷ after))
    first [] a b = inr ([], sym (append-nil before) ∙ sym a ∙ sym (append-nil A), sym b)
    first (y ∷ back) a b = inl (back, a ∙ ap (λ (z : Event). before ++ z ∷ back) (let same : y ≡ x = cc b in same))
