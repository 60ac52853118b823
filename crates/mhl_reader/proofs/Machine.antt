-- How the steps of the code fail and go on.
use Rattle.std.proofs.Common.{◌≡◌, ◌⊎◌, inl, inr, ℕ, ◌+◌, ◌-◌, ◌<◌, ◌≤◌, Bool, true, false, ◌&&◌, List, [], ◌∷◌, ◌++◌, length, Option, Some, None, Result, Ok, Err, refl, sym, ap, subst, ◌∙◌, append_assoc, append-nil, map, reverse, arith}
use Rattle.std.specs.Borrow.{Bor}
use Rattle.markup.specs.Piece.{is_space}
use Rattle.markup.specs.Taking.{back, attributes_of}
use Rattle.markup.specs.declared.token.Token.{Token}
use Rattle.markup.specs.declared.token.Token.TheVariants as tokens
use Rattle.std.specs.Char.{encode_utf8}
use Rattle.markup.specs.Mark.{start, stop, aside, text, Placed}
use Rattle.markup.specs.Token.{letters_at, seen_at}
use Rattle.mhl_reader.specs.declared.error.ReadError.{ReadError}
use Rattle.mhl_reader.specs.declared.error.ReadError.TheVariants as errors
use Rattle.mhl_reader.specs.declared.found.HashLeaf.{HashLeaf}
use Rattle.mhl_reader.specs.declared.found.HashLeaves.{HashLeaves}
use Rattle.mhl_reader.specs.declared.found.CreatorLeaf.{CreatorLeaf}
use Rattle.mhl_reader.specs.declared.found.CreatorLeaves.{CreatorLeaves}
use Rattle.mhl_reader.specs.declared.reader.Open.{Open}
use Rattle.mhl_reader.specs.declared.reader.Open.TheVariants as opened
use Rattle.mhl_reader.specs.Leaves.{with_leaf}
use Rattle.mhl_reader.specs.Grammar.{Found}
use Rattle.mhl_reader.specs.Faults.{Base, before, in_list, in_hash, in_hash_leaf, in_creator, in_creator_leaf, after, State, leaf_fault, left_hash_leaf, at_base, closed, provided, filled, ◌>>=◌, step, steps}
use Rattle.mhl_reader.specs.Code.{Fails, Gives, leaf_read, open_seen, is_leaf}
use Rattle.mhl_reader.proofs.Steps.{steps_more, steps_none, one_step, no_next}

-- what fails, fails whatever comes next
pub fails_next : {A B : Type 0} (e : ReadError) (r : Result A ReadError) (f : A → Result B ReadError) → Fails e r → Fails e (r >>= f)
fails_next errors.Memory r f h = tt
fails_next (errors.NotUtf8 at) r f h = ap (λ r. r >>= f) h
fails_next (errors.Malformed at) r f h = ap (λ r. r >>= f) h
fails_next (errors.Doctype at) r f h = ap (λ r. r >>= f) h
fails_next (errors.Cdata at) r f h = ap (λ r. r >>= f) h
fails_next errors.Version r f h = ap (λ r. r >>= f) h
fails_next (errors.NoFile at) r f h = ap (λ r. r >>= f) h
fails_next (errors.Twice at) r f h = ap (λ r. r >>= f) h
fails_next (errors.BadPath at) r f h = ap (λ r. r >>= f) h
fails_next (errors.BadSize at) r f h = ap (λ r. r >>= f) h
fails_next (errors.BadDigest at) r f h = ap (λ r. r >>= f) h
fails_next (errors.TooMany at) r f h = ap (λ r. r >>= f) h

-- want of memory, or the fault of the definition
pub fails_is : {A : Type 0} (e : ReadError) (r : Result A ReadError) → Fails e r → (e ≡ errors.Memory) ⊎ (r ≡ Err e)
fails_is errors.Memory r h = inl refl
fails_is (errors.NotUtf8 at) r h = inr h
fails_is (errors.Malformed at) r h = inr h
fails_is (errors.Doctype at) r h = inr h
fails_is (errors.Cdata at) r h = inr h
fails_is errors.Version r h = inr h
fails_is (errors.NoFile at) r h = inr h
fails_is (errors.Twice at) r h = inr h
fails_is (errors.BadPath at) r h = inr h
fails_is (errors.BadSize at) r h = inr h
fails_is (errors.BadDigest at) r h = inr h
fails_is (errors.TooMany at) r h = inr h

leaf_left : (h : Option HashLeaves) (s : State) (hash : ℕ) (leaf : HashLeaf) (at : ℕ) (t : List ℕ) → (leaf_read h (leaf_fault leaf at t) >>= λ next. at_base (in_hash hash next) s.found) ≡ left_hash_leaf h s hash leaf at t
leaf_left (Some next) s hash leaf at t = refl
leaf_left None s hash leaf at t = refl

step_then_none : (r : Result State ReadError) → (r >>= λ next. steps next []) ≡ r
step_then_none (Ok x) = steps_none x
step_then_none (Err e) = refl

-- one step alone
pub steps_one : (s : State) (m : Placed) → steps s (m ∷ []) ≡ step s m
steps_one s m = steps_more s m [] ∙ step_then_none (step s m)

-- the leaf of a hash ends, or is refused
leaf_closing : (whole seen : List ℕ) (base : Open) (s : State) (hash : ℕ) (h : HashLeaves) (leaf : HashLeaf) (at : ℕ) → base ≡ opened.HashLeaf hash h leaf at → seen ≡ whole
    → (leaf_read (with_leaf s.found.entries leaf seen h) (leaf_fault leaf at seen) >>= λ next. at_base (in_hash hash next) s.found) ≡ closed (open_seen whole base) s
leaf_closing whole seen base s hash h leaf at is same =
    ap (λ (t : List ℕ). leaf_read (with_leaf s.found.entries leaf t h) (leaf_fault leaf at t) >>= λ next. at_base (in_hash hash next) s.found) same
    ∙ leaf_left (with_leaf s.found.entries leaf whole h) s hash leaf at whole ∙ sym (ap (λ (b : Open). closed (open_seen whole b) s) is)

pub leaf_closed : (whole : List ℕ) (base : Open) (s : State) (hash : ℕ) (h : HashLeaves) (leaf : HashLeaf) (at : ℕ) (next : HashLeaves) (seen : List ℕ) → base ≡ opened.HashLeaf hash h leaf at → seen ≡ whole
    → leaf_read (with_leaf s.found.entries leaf seen h) (leaf_fault leaf at seen) ≡ Ok next → closed (open_seen whole base) s ≡ at_base (in_hash hash next) s.found
leaf_closed whole base s hash h leaf at next seen is same read =
    sym (leaf_closing whole seen base s hash h leaf at is same) ∙ ap (λ (r : Result HashLeaves ReadError). r >>= λ next. at_base (in_hash hash next) s.found) read

pub leaf_not_closed : (e : ReadError) (whole : List ℕ) (base : Open) (s : State) (hash : ℕ) (h : HashLeaves) (leaf : HashLeaf) (at : ℕ) (seen : List ℕ) → base ≡ opened.HashLeaf hash h leaf at → seen ≡ whole
    → Fails e (leaf_read (with_leaf s.found.entries leaf seen h) (leaf_fault leaf at seen)) → Fails e (closed (open_seen whole base) s)
leaf_not_closed e whole base s hash h leaf at seen is same f =
    subst (λ (r : Result State ReadError). Fails e r) (leaf_closing whole seen base s hash h leaf at is same) (fails_next e (leaf_read (with_leaf s.found.entries leaf seen h) (leaf_fault leaf at seen)) (λ next. at_base (in_hash hash next) s.found) f)

-- no skipped element is open
pub skipped_none : (base : Base) (found : Found) (names : List (Bor (List ℕ))) → names ≡ [] → at_base base found ≡ Ok (record { base = base; found = found; skipped = reverse (map (λ n. n.now) names) })
skipped_none base found names e = ap (λ (names : List (Bor (List ℕ))). Ok (record { base = base; found = found; skipped = reverse (map (λ n. n.now) names) })) (sym e)

-- ---- a run of text

letters_none : (s : State) (place : ℕ) → steps s (letters_at place []) ≡ Ok s
letters_none s place = steps_none s

letters_more : (s next : State) (place b : ℕ) (bs : List ℕ) → step s (record { place = place; mark = text true (b ∷ []) }) ≡ Ok next → steps s (letters_at place (b ∷ bs)) ≡ steps next (letters_at (place + 1) bs)
letters_more s next place b bs e = one_step s next (record { place = place; mark = text true (b ∷ []) }) (letters_at (place + 1) bs) e

abbrev ok : State → Result State ReadError
ok s = Ok s

abbrev stopped_at : ℕ → Result State ReadError
stopped_at place = Err (errors.Malformed place)

cons_none : (b : ℕ) (bs : List ℕ) → (b ∷ bs) ≡ [] → ⊥
cons_none b bs e = cc

abbrev st : Base → Found → List (List ℕ) → State
st base found names = record { base = base; found = found; skipped = names }

-- in a skipped element
pub run_skipped : (base : Base) (found : Found) (n : List ℕ) (names : List (List ℕ)) (place : ℕ) (run : List ℕ) → steps (st base found (n ∷ names)) (letters_at place run) ≡ Ok (st base found (n ∷ names))
run_skipped base found n names place [] = letters_none (st base found (n ∷ names)) place
run_skipped base found n names place (b ∷ run) = letters_more (st base found (n ∷ names)) (st base found (n ∷ names)) place b run refl ∙ run_skipped base found n names (place + 1) run

-- in a leaf
pub run_in_hash_leaf : (hash : ℕ) (h : HashLeaves) (leaf : HashLeaf) (at : ℕ) (t : List ℕ) (found : Found) (place : ℕ) (run : List ℕ) → steps (st (in_hash_leaf hash h leaf at t) found []) (letters_at place run) ≡ Ok (st (in_hash_leaf hash h leaf at (t ++ run)) found [])
run_in_hash_leaf hash h leaf at t found place [] = letters_none (st (in_hash_leaf hash h leaf at t) found []) place ∙ ap (λ (t : List ℕ). ok (st (in_hash_leaf hash h leaf at t) found [])) (sym (append-nil t))
run_in_hash_leaf hash h leaf at t found place (b ∷ run) =
    letters_more (st (in_hash_leaf hash h leaf at t) found []) (st (in_hash_leaf hash h leaf at (t ++ b ∷ [])) found []) place b run refl
    ∙ run_in_hash_leaf hash h leaf at (t ++ b ∷ []) found (place + 1) run
    ∙ ap (λ (t : List ℕ). ok (st (in_hash_leaf hash h leaf at t) found [])) (append_assoc t (b ∷ []) run)

pub run_in_creator_leaf : (k : CreatorLeaves) (leaf : CreatorLeaf) (t : List ℕ) (found : Found) (place : ℕ) (run : List ℕ) → steps (st (in_creator_leaf k leaf t) found []) (letters_at place run) ≡ Ok (st (in_creator_leaf k leaf (t ++ run)) found [])
run_in_creator_leaf k leaf t found place [] = letters_none (st (in_creator_leaf k leaf t) found []) place ∙ ap (λ (t : List ℕ). ok (st (in_creator_leaf k leaf t) found [])) (sym (append-nil t))
run_in_creator_leaf k leaf t found place (b ∷ run) =
    letters_more (st (in_creator_leaf k leaf t) found []) (st (in_creator_leaf k leaf (t ++ b ∷ [])) found []) place b run refl
    ∙ run_in_creator_leaf k leaf (t ++ b ∷ []) found (place + 1) run
    ∙ ap (λ (t : List ℕ). ok (st (in_creator_leaf k leaf t) found [])) (append_assoc t (b ∷ []) run)

-- where filler may stand, a byte is white space or a fault
fills : (base : Base) (found : Found) (place b : ℕ) → is_leaf base ≡ false → step (st base found []) (record { place = place; mark = text true (b ∷ []) }) ≡ filled (st base found []) place true (b ∷ [])
fills before found place b e = refl
fills in_list found place b e = refl
fills (in_hash hash h) found place b e = refl
fills (in_hash_leaf hash h leaf at t) found place b e = absurd cc
fills (in_creator k) found place b e = refl
fills (in_creator_leaf k leaf t) found place b e = absurd cc
fills after found place b e = refl

byte_cases : (b : Bool) → (b ≡ true) ⊎ (b ≡ false)
byte_cases true = inl refl
byte_cases false = inr refl

space_filled : (s : State) (place b : ℕ) → is_space b ≡ true → filled s place true (b ∷ []) ≡ Ok s
space_filled s place b e = ap (λ (x : Bool). provided (true && (x && true)) (errors.Malformed place) (Ok s)) e

other_not_filled : (s : State) (place b : ℕ) → is_space b ≡ false → filled s place true (b ∷ []) ≡ Err (errors.Malformed place)
other_not_filled s place b e = ap (λ (x : Bool). provided (true && (x && true)) (errors.Malformed place) (Ok s)) e

back_space : (b : ℕ) (bs : List ℕ) → is_space b ≡ true → back is_space (b ∷ bs) ≡ back is_space bs
unfolding back
back_space b bs e = rw e refl

back_other : (b : ℕ) (bs : List ℕ) → is_space b ≡ false → back is_space (b ∷ bs) ≡ b ∷ bs
unfolding back
back_other b bs e = rw e refl

back_none : back is_space [] ≡ []
unfolding back
back_none = refl

pub back_short : (bs : List ℕ) → length (back is_space bs) ≤ length bs
back_short [] = omega (arith, ap length back_none)
back_short (b ∷ bs) = elim (byte_cases (is_space b)) [
  | inl e ↦ omega (arith, ap length (back_space b bs e), back_short bs)
  | inr e ↦ omega (arith, ap length (back_other b bs e))
]

pub run_filled : (base : Base) (found : Found) (place : ℕ) (run : List ℕ) → is_leaf base ≡ false → back is_space run ≡ [] → steps (st base found []) (letters_at place run) ≡ Ok (st base found [])
run_filled base found place [] f e = letters_none (st base found []) place
run_filled base found place (b ∷ run) f e = elim (byte_cases (is_space b)) [
  | inl h ↦ letters_more (st base found []) (st base found []) place b run (fills base found place b f ∙ space_filled (st base found []) place b h) ∙ run_filled base found (place + 1) run f (sym (back_space b run h) ∙ e)
  | inr h ↦ absurd (cons_none b run (sym (back_other b run h) ∙ e))
]

pub run_stops : (base : Base) (found : Found) (place : ℕ) (run : List ℕ) → is_leaf base ≡ false → 0 < length (back is_space run)
    → steps (st base found []) (letters_at place run) ≡ Err (errors.Malformed (place + (length run - length (back is_space run))))
run_stops base found place [] f lt = absurd (omega (arith, lt, ap length back_none))
run_stops base found place (b ∷ run) f lt = elim (byte_cases (is_space b)) [
  | inl h ↦ (let same = back_space b run h in
      let place_is : place + 1 + (length run - length (back is_space run)) ≡ place + (length (b ∷ run) - length (back is_space (b ∷ run))) = omega (arith, ap length same, back_short run) in
      letters_more (st base found []) (st base found []) place b run (fills base found place b f ∙ space_filled (st base found []) place b h)
      ∙ run_stops base found (place + 1) run f (omega (arith, ap length same, lt)) ∙ ap (λ (n : ℕ). stopped_at n) place_is)
  | inr h ↦ (let here : place ≡ place + (length (b ∷ run) - length (back is_space (b ∷ run))) = omega (arith, ap length (back_other b run h)) in
      steps_more (st base found []) (record { place = place; mark = text true (b ∷ []) }) (letters_at (place + 1) run)
      ∙ no_next _ (errors.Malformed place) (λ next. steps next (letters_at (place + 1) run)) (fills base found place b f ∙ other_not_filled (st base found []) place b h)
      ∙ ap (λ (n : ℕ). stopped_at n) here)
]

-- ---- one token

gives_one : {X : Type 0} (view : X → State) (r : Result X ReadError) (s : State) (m : Placed) → Gives view r (step s m) → Gives view r (steps s (m ∷ []))
gives_one view r s m h = subst (λ (next : Result State ReadError). Gives view r next) (sym (steps_one s m)) h

pub start_gives : {X : Type 0} (view : X → State) (r : Result X ReadError) (s : State) (place : ℕ) (token : Token) (name attributes : Bor (List ℕ)) → token ≡ tokens.Start name attributes
    → Gives view r (step s (record { place = place; mark = start name.now (attributes_of attributes.now) })) → Gives view r (steps s (seen_at place token))
start_gives view r s place token name attributes is h = subst (λ (t : Token). Gives view r (steps s (seen_at place t))) (sym is) (gives_one view r s _ h)

pub end_gives : {X : Type 0} (view : X → State) (r : Result X ReadError) (s : State) (place : ℕ) (token : Token) (name : Bor (List ℕ)) → token ≡ tokens.End name
    → Gives view r (step s (record { place = place; mark = stop name.now })) → Gives view r (steps s (seen_at place token))
end_gives view r s place token name is h = subst (λ (t : Token). Gives view r (steps s (seen_at place t))) (sym is) (gives_one view r s _ h)

pub aside_gives : {X : Type 0} (view : X → State) (r : Result X ReadError) (s : State) (place : ℕ) (token : Token) → token ≡ tokens.Aside → Gives view r (step s (record { place = place; mark = aside })) → Gives view r (steps s (seen_at place token))
aside_gives view r s place token is h = subst (λ (t : Token). Gives view r (steps s (seen_at place t))) (sym is) (gives_one view r s _ h)

pub reference_gives : {X : Type 0} (view : X → State) (r : Result X ReadError) (s : State) (place : ℕ) (token : Token) (c : ℕ) (bytes : List ℕ) → token ≡ tokens.Reference c → bytes ≡ encode_utf8 c
    → Gives view r (step s (record { place = place; mark = text false bytes })) → Gives view r (steps s (seen_at place token))
reference_gives view r s place token c bytes is same h =
    subst (λ (t : Token). Gives view r (steps s (seen_at place t))) (sym is) (gives_one view r s _ (subst (λ (bs : List ℕ). Gives view r (step s (record { place = place; mark = text false bs }))) same h))

pub empty_gives : {X : Type 0} (view : X → State) (r : Result X ReadError) (s inner : State) (place : ℕ) (token : Token) (name attributes : Bor (List ℕ)) → token ≡ tokens.Empty name attributes
    → step s (record { place = place; mark = start name.now (attributes_of attributes.now) }) ≡ Ok inner → Gives view r (step inner (record { place = place; mark = stop name.now })) → Gives view r (steps s (seen_at place token))
empty_gives view r s inner place token name attributes is go h =
    subst (λ (t : Token). Gives view r (steps s (seen_at place t))) (sym is)
    (subst (λ (next : Result State ReadError). Gives view r next) (sym (one_step s inner _ _ go)) (gives_one view r inner _ h))

pub empty_fails : (e : ReadError) (s : State) (place : ℕ) (token : Token) (name attributes : Bor (List ℕ)) → token ≡ tokens.Empty name attributes
    → Fails e (step s (record { place = place; mark = start name.now (attributes_of attributes.now) })) → Fails e (steps s (seen_at place token))
empty_fails e s place token name attributes is f =
    subst (λ (t : Token). Fails e (steps s (seen_at place t))) (sym is)
    (subst (λ (next : Result State ReadError). Fails e next) (sym (steps_more s _ _)) (fails_next e _ (λ next. steps next _) f))
