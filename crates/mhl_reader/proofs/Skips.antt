-- The names of the skipped elements that are open, and what fails where they are or are not.
use Rattle.std.proofs.Common.{◌≡◌, ℕ, zero, suc, ◌+◌, ◌-◌, ◌<◌, ◌≤◌, true, false, List, [], ◌∷◌, ◌++◌, length, map, reverse, Result, Ok, Err, refl, sym, ap, subst, ◌∙◌, arith}
use Rattle.std.specs.Prelude.{Vec, vec_len, ◌==◌}
use Rattle.std.specs.Borrow.{Bor}
use Rattle.std.specs.Global.{Global}
use Rattle.std.proofs.lemmas.Bool.{eqb-true, eqb-false, lt-leb}
use Rattle.std.proofs.lemmas.List.{length-reverse, length-map, nil_from_length}
use Rattle.markup.specs.Mark.{Named, start, aside, text}
use Rattle.markup.specs.Piece.{is_space}
use Rattle.markup.specs.Taking.{back}
use Rattle.markup.specs.Token.{letters_at}
use Rattle.mhl_reader.specs.declared.error.ReadError.{ReadError}
use Rattle.mhl_reader.specs.declared.error.ReadError.TheVariants as errors
use Rattle.mhl_reader.specs.declared.reader.Open.{Open}
use Rattle.mhl_reader.specs.declared.reader.Open.TheVariants as opened
use Rattle.mhl_reader.specs.Grammar.{Found}
use Rattle.mhl_reader.specs.Faults.{Base, before, in_list, in_hash, in_hash_leaf, in_creator, in_creator_leaf, after, State, depth, step_skipping, steps, ended_base, ended_skipping}
use Rattle.mhl_reader.specs.Code.{Fails, open_seen, is_leaf, is_after}
use Rattle.mhl_reader.proofs.Machine.{run_skipped, run_in_hash_leaf, run_in_creator_leaf, run_filled, run_stops}

abbrev Names : Type 0
Names = Vec (Bor (List ℕ)) Global

-- the names, the innermost first
abbrev pub names_of : Names → List (List ℕ)
names_of v = reverse (map (λ n. n.now) v.items)

abbrev st : Base → Found → List (List ℕ) → State
st base found names = record { base = base; found = found; skipped = names }

names_length : (v : Names) → length (names_of v) ≡ vec_len v
names_length v = length-reverse (map (λ n. n.now) v.items) ∙ length-map v.items (λ n. n.now) ∙ sym v.ok.0

-- nothing is skipped
names_none : (v : Names) → (vec_len v == 0) ≡ true → names_of v ≡ []
names_none v e = nil_from_length (names_of v) (names_length v ∙ eqb-true (vec_len v) 0 e)

pub where_none : (P : List (List ℕ) → Type 0) (v : Names) → (vec_len v == 0) ≡ true → P [] → P (names_of v)
where_none P v e h = subst P (sym (names_none v e)) h

-- something is skipped
some_name : (names : List (List ℕ)) → (length names ≡ 0 → ⊥) → (n : List ℕ) × (more : List (List ℕ)) × (names ≡ n ∷ more)
some_name [] h = absurd (h refl)
some_name (n ∷ more) h = (n, more, refl)

pub where_some : (P : List (List ℕ) → Type 0) (v : Names) → (vec_len v == 0) ≡ false → ((n : List ℕ) (more : List (List ℕ)) → length (n ∷ more) ≡ vec_len v → P (n ∷ more)) → P (names_of v)
where_some P v e h =
    let s = some_name (names_of v) (λ none. eqb-false (vec_len v) 0 e (sym (names_length v) ∙ none)) in
    subst P (sym s.2) (h s.0 s.1 (sym (ap length s.2) ∙ names_length v))

pub malformed_fails : {A : Type 0} (e : ReadError) (place : ℕ) (r : Result A ReadError) → e ≡ errors.Malformed place → r ≡ Err (errors.Malformed place) → Fails e r
malformed_fails {A} e place r is h = subst (λ (e : ReadError). Fails e r) (sym is) h

-- a start tag that is too deep
deep_start : (base : Base) (found : Found) (n : List ℕ) (more : List (List ℕ)) (place : ℕ) (name : List ℕ) (attributes : List Named) → 32 ≤ depth base + length (n ∷ more)
    → step_skipping (n ∷ more) (st base found (n ∷ more)) place (start name attributes) ≡ Err (errors.Malformed place)
deep_start base found n more place name attributes le = rw (lt-leb (depth base + length (n ∷ more) + 1) 32 (omega (arith, le))) refl

pub deep_fails : (e : ReadError) (base : Base) (found : Found) (v : Names) (place : ℕ) (name : List ℕ) (attributes : List Named) → (vec_len v == 0) ≡ false → 32 ≤ depth base + vec_len v → e ≡ errors.Malformed place
    → Fails e (step_skipping (names_of v) (st base found (names_of v)) place (start name attributes))
deep_fails e base found v place name attributes full le is =
    where_some (λ names. Fails e (step_skipping names (st base found names) place (start name attributes))) v full
    (λ n more long. malformed_fails e place _ is (deep_start base found n more place name attributes (omega (arith, le, long))))

-- a comment in a leaf
aside_in_leaf : (base : Base) (found : Found) (place : ℕ) → is_leaf base ≡ true → step_skipping [] (st base found []) place aside ≡ Err (errors.Malformed place)
aside_in_leaf (in_hash_leaf hash h leaf at t) found place e = refl
aside_in_leaf (in_creator_leaf k leaf t) found place e = refl
aside_in_leaf before found place e = absurd cc
aside_in_leaf in_list found place e = absurd cc
aside_in_leaf (in_hash hash h) found place e = absurd cc
aside_in_leaf (in_creator k) found place e = absurd cc
aside_in_leaf after found place e = absurd cc

pub aside_fails : (e : ReadError) (base : Base) (found : Found) (v : Names) (place : ℕ) → (vec_len v == 0) ≡ true → is_leaf base ≡ true → e ≡ errors.Malformed place → Fails e (step_skipping (names_of v) (st base found (names_of v)) place aside)
aside_fails e base found v place none leaf is =
    where_none (λ names. Fails e (step_skipping names (st base found names) place aside)) v none (malformed_fails e place _ is (aside_in_leaf base found place leaf))

-- a reference where filler stands
reference_as_filler : (base : Base) (found : Found) (place : ℕ) (bytes : List ℕ) → is_leaf base ≡ false → step_skipping [] (st base found []) place (text false bytes) ≡ Err (errors.Malformed place)
reference_as_filler (in_hash_leaf hash h leaf at t) found place bytes e = absurd cc
reference_as_filler (in_creator_leaf k leaf t) found place bytes e = absurd cc
reference_as_filler before found place bytes e = refl
reference_as_filler in_list found place bytes e = refl
reference_as_filler (in_hash hash h) found place bytes e = refl
reference_as_filler (in_creator k) found place bytes e = refl
reference_as_filler after found place bytes e = refl

pub reference_fails : (e : ReadError) (base : Base) (found : Found) (v : Names) (place : ℕ) (bytes : List ℕ) → (vec_len v == 0) ≡ true → is_leaf base ≡ false → e ≡ errors.Malformed place
    → Fails e (step_skipping (names_of v) (st base found (names_of v)) place (text false bytes))
reference_fails e base found v place bytes none leaf is =
    where_none (λ names. Fails e (step_skipping names (st base found names) place (text false bytes))) v none (malformed_fails e place _ is (reference_as_filler base found place bytes leaf))

-- the end of the input within an element
pub end_skipped_fails : (e : ReadError) (base : Base) (found : Found) (v : Names) (len : ℕ) → (vec_len v == 0) ≡ false → e ≡ errors.Malformed len → Fails e (ended_skipping (names_of v) (st base found (names_of v)) len)
end_skipped_fails e base found v len full is =
    where_some (λ names. Fails e (ended_skipping names (st base found names) len)) v full (λ n more long. malformed_fails e len _ is refl)

not_after : (base : Base) (found : Found) (len : ℕ) → is_after base ≡ false → ended_base base found len ≡ Err (errors.Malformed len)
not_after before found len e = refl
not_after in_list found len e = refl
not_after (in_hash hash h) found len e = refl
not_after (in_hash_leaf hash h leaf at t) found len e = refl
not_after (in_creator k) found len e = refl
not_after (in_creator_leaf k leaf t) found len e = refl
not_after after found len e = absurd cc

pub end_fails : (e : ReadError) (base : Base) (found : Found) (v : Names) (len : ℕ) → (vec_len v == 0) ≡ true → is_after base ≡ false → e ≡ errors.Malformed len → Fails e (ended_skipping (names_of v) (st base found (names_of v)) len)
end_fails e base found v len none other is =
    where_none (λ names. Fails e (ended_skipping names (st base found names) len)) v none (malformed_fails e len _ is (not_after base found len other))

all_after : (base : Base) (found : Found) (len : ℕ) → is_after base ≡ true → ended_base base found len ≡ Ok found
all_after after found len e = refl
all_after before found len e = absurd cc
all_after in_list found len e = absurd cc
all_after (in_hash hash h) found len e = absurd cc
all_after (in_hash_leaf hash h leaf at t) found len e = absurd cc
all_after (in_creator k) found len e = absurd cc
all_after (in_creator_leaf k leaf t) found len e = absurd cc

pub all_ended : (base : Base) (found : Found) (v : Names) (len : ℕ) → (vec_len v == 0) ≡ true → is_after base ≡ true → ended_skipping (names_of v) (st base found (names_of v)) len ≡ Ok found
all_ended base found v len none at_end = where_none (λ names. ended_skipping names (st base found names) len ≡ Ok found) v none (all_after base found len at_end)

-- ---- runs of text

pub run_passed : (base : Base) (found : Found) (v : Names) (place : ℕ) (run : List ℕ) → (vec_len v == 0) ≡ false → steps (st base found (names_of v)) (letters_at place run) ≡ Ok (st base found (names_of v))
run_passed base found v place run full = where_some (λ names. steps (st base found names) (letters_at place run) ≡ Ok (st base found names)) v full (λ n more long. run_skipped base found n more place run)

leaf_run : (old new : List ℕ) (base : Open) (found : Found) (place : ℕ) (run : List ℕ) → is_leaf (open_seen old base) ≡ true → new ≡ old ++ run → steps (st (open_seen old base) found []) (letters_at place run) ≡ Ok (st (open_seen new base) found [])
leaf_run old new (opened.HashLeaf hash leaves leaf at) found place run e is = run_in_hash_leaf hash leaves leaf at old found place run ∙ ap (λ (t : List ℕ). Ok (st (in_hash_leaf hash leaves leaf at t) found [])) (sym is)
leaf_run old new (opened.CreatorLeaf leaves leaf) found place run e is = run_in_creator_leaf leaves leaf old found place run ∙ ap (λ (t : List ℕ). Ok (st (in_creator_leaf leaves leaf t) found [])) (sym is)
leaf_run old new opened.Before found place run e is = absurd cc
leaf_run old new opened.List found place run e is = absurd cc
leaf_run old new (opened.Hash hash leaves) found place run e is = absurd cc
leaf_run old new (opened.Creator leaves) found place run e is = absurd cc
leaf_run old new opened.After found place run e is = absurd cc

pub run_added : (old new : List ℕ) (base : Open) (found : Found) (v : Names) (place : ℕ) (run : List ℕ) → (vec_len v == 0) ≡ true → is_leaf (open_seen old base) ≡ true → new ≡ old ++ run
    → steps (st (open_seen old base) found (names_of v)) (letters_at place run) ≡ Ok (st (open_seen new base) found (names_of v))
run_added old new base found v place run none leaf is = where_none (λ names. steps (st (open_seen old base) found names) (letters_at place run) ≡ Ok (st (open_seen new base) found names)) v none (leaf_run old new base found place run leaf is)

pub run_blank : (base : Base) (found : Found) (v : Names) (place : ℕ) (run rest : List ℕ) → (vec_len v == 0) ≡ true → is_leaf base ≡ false → rest ≡ back is_space run → (length rest == 0) ≡ true
    → steps (st base found (names_of v)) (letters_at place run) ≡ Ok (st base found (names_of v))
run_blank base found v place run rest none other is empty =
    where_none (λ names. steps (st base found names) (letters_at place run) ≡ Ok (st base found names)) v none
    (run_filled base found place run other (sym is ∙ nil_from_length rest (eqb-true (length rest) 0 empty)))

positive : (n : ℕ) → (n ≡ 0 → ⊥) → 0 < n
positive zero h = absurd (h refl)
positive (suc n) h = omega arith

pub run_fails : (e : ReadError) (base : Base) (found : Found) (v : Names) (place : ℕ) (run rest : List ℕ) → (vec_len v == 0) ≡ true → is_leaf base ≡ false → rest ≡ back is_space run → (length rest == 0) ≡ false
    → e ≡ errors.Malformed (place + (length run - length rest)) → Fails e (steps (st base found (names_of v)) (letters_at place run))
run_fails e base found v place run rest none other is full same =
    let some : 0 < length (back is_space run) = subst (λ (r : List ℕ). 0 < length r) is (positive (length rest) (eqb-false (length rest) 0 full)) in
    let placed_is : e ≡ errors.Malformed (place + (length run - length (back is_space run))) = same ∙ ap (λ (r : List ℕ). errors.Malformed (place + (length run - length r))) is in
    where_none (λ names. Fails e (steps (st base found names) (letters_at place run))) v none (malformed_fails e _ _ placed_is (run_stops base found place run other some))
