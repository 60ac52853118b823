-- Steps in a row.
use Rattle.std.proofs.Common.{◌≡◌, List, [], ◌∷◌, ◌++◌, Result, Ok, Err, refl, sym, ap, ◌∙◌}
use Rattle.markup.specs.Mark.{Placed}
use Rattle.mhl_reader.specs.declared.error.ReadError.{ReadError}
use Rattle.mhl_reader.specs.Grammar.{Content, marks}
use Rattle.mhl_reader.specs.Faults.{State, step, steps, ◌>>=◌}

-- what comes next, once a result is known
pub next_is : {A B : Type 0} (r : Result A ReadError) (x : A) (f : A → Result B ReadError) → r ≡ Ok x → (r >>= f) ≡ f x
next_is r x f e = ap (λ r. r >>= f) e

pub no_next : {A B : Type 0} (r : Result A ReadError) (x : ReadError) (f : A → Result B ReadError) → r ≡ Err x → (r >>= f) ≡ Err x
no_next r x f e = ap (λ r. r >>= f) e

pub bind_ok : {A B : Type 0} (r : Result A ReadError) (f : A → Result B ReadError) (y : B) → (r >>= f) ≡ Ok y → (x : A) × (r ≡ Ok x) × (f x ≡ Ok y)
bind_ok (Ok x) f y e = (x, refl, e)
bind_ok (Err x) f y e = absurd cc

pub steps_none : (s : State) → steps s [] ≡ Ok s
unfolding steps
steps_none s = refl

pub steps_more : (s : State) (m : Placed) (ms : List Placed) → steps s (m ∷ ms) ≡ (step s m >>= λ next. steps next ms)
unfolding steps
steps_more s m ms = refl

pub one_step : (s next : State) (m : Placed) (ms : List Placed) → step s m ≡ Ok next → steps s (m ∷ ms) ≡ steps next ms
one_step s next m ms e = steps_more s m ms ∙ next_is (step s m) next (λ next. steps next ms) e

bind_again : {A B C : Type 0} (r : Result A ReadError) (f : A → Result B ReadError) (g : B → Result C ReadError) → ((r >>= f) >>= g) ≡ (r >>= λ x. (f x >>= g))
bind_again (Ok x) f g = refl
bind_again (Err e) f g = refl

bind_same : {A B : Type 0} (r : Result A ReadError) (f g : A → Result B ReadError) → ((x : A) → f x ≡ g x) → (r >>= f) ≡ (r >>= g)
bind_same (Ok x) f g h = h x
bind_same (Err e) f g h = refl

pub steps_append : (s : State) (xs ys : List Placed) → steps s (xs ++ ys) ≡ (steps s xs >>= λ next. steps next ys)
steps_append s [] ys = sym (ap (λ r. r >>= λ next. steps next ys) (steps_none s))
steps_append s (m ∷ xs) ys =
    steps_more s m (xs ++ ys)
    ∙ bind_same (step s m) (λ next. steps next (xs ++ ys)) (λ next. steps next xs >>= λ last. steps last ys) (λ next. steps_append next xs ys)
    ∙ sym (bind_again (step s m) (λ next. steps next xs) (λ last. steps last ys))
    ∙ ap (λ r. r >>= λ last. steps last ys) (sym (steps_more s m xs))

pub through : (s next : State) (xs ys : List Placed) → steps s xs ≡ Ok next → steps s (xs ++ ys) ≡ steps next ys
through s next xs ys e = steps_append s xs ys ∙ next_is (steps s xs) next (λ next. steps next ys) e

-- an element: its start, its content, its end, and what follows
pub around : (s inner filled next last : State) (first end : Placed) (inside after : Content) → step s first ≡ Ok inner → steps inner (marks inside) ≡ Ok filled → step filled end ≡ Ok next → steps next (marks after) ≡ Ok last
    → steps s (first ∷ (marks inside ++ end ∷ marks after)) ≡ Ok last
around s inner filled next last first end inside after e f g h =
    one_step s inner first (marks inside ++ end ∷ marks after) e ∙ through inner filled (marks inside) (end ∷ marks after) f ∙ one_step filled next end (marks after) g ∙ h
