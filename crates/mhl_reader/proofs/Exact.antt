-- Bytes have a reading or a first fault, and one first fault at most.
use Rattle.std.proofs.Common.{◌≡◌, ◌⊎◌, inl, inr, ℕ, zero, suc, ◌+◌, ◌<◌, ◌≤◌, List, [], ◌∷◌, ◌++◌, length, drop, Option, Some, None, Result, Ok, Err, refl, sym, ap, subst, ◌∙◌, append_assoc, append-nil, length-append, arith}
use Rattle.std.specs.List.{flat_map, AllByRecursion}
use Rattle.std.proofs.lemmas.List.Concat.{flat_map-append}
use Rattle.markup.specs.Characters.{text_error}
use Rattle.markup.specs.declared.text.TextError.{TextError}
use Rattle.markup.specs.Piece.{Piece, IsPiece, spelled}
use Rattle.markup.specs.Mark.{Mark, marks_of, all_at, placed}
use Rattle.markup.specs.Taking.{Taken, piece_at}
use Rattle.markup.proofs.Pieces.{piece_takes, pieces_one, piece_not_empty}
use Rattle.markup.proofs.Tokens.{no_piece}
use Rattle.mhl_writer.specs.ListText.{Values}
use Rattle.mhl_reader.specs.declared.error.ReadError.{ReadError}
use Rattle.mhl_reader.specs.Grammar.{Found, values_found}
use Rattle.mhl_reader.specs.Faults.{State, steps, ended, nothing_open}
use Rattle.mhl_reader.specs.Reading.{start_of, text_fault, Reading, FaultAt, FirstFault}
use Rattle.mhl_reader.proofs.Steps.{steps_none, steps_append, through, bind_ok}
use Rattle.mhl_reader.proofs.Meaning.{reading_found}
use Rattle.mhl_reader.proofs.Scanning.{all_append, placed_append}

-- ---- one first fault at most

ok_is : (a b : State) → ◌≡◌ {A = Result State ReadError} (Ok a) (Ok b) → a ≡ b
ok_is a b e = cc

err_is : {A : Type 0} (e f : ReadError) → ◌≡◌ {A = Result A ReadError} (Err e) (Err f) → e ≡ f
err_is {A} e f h = cc

ok_err : {A : Type 0} {x : A} {e : ReadError} → ◌≡◌ {A = Result A ReadError} (Ok x) (Err e) → ⊥
ok_err h = cc

none_some : {A : Type 0} {x : A} → None ≡ Some x → ⊥
none_some e = cc

some_is : (a b : TextError) → ◌≡◌ {A = Option TextError} (Some a) (Some b) → a ≡ b
some_is a b e = cc

not_nothing : (p : Piece) (more : List ℕ) → [] ≡ spelled p ++ more → ⊥
not_nothing p more e = omega (arith, piece_not_empty p, ap length e, length-append (spelled p) more)

-- what stands at one place is one fault
one_fault_at : (s : State) (place : ℕ) (rest : List ℕ) (e f : ReadError) → FaultAt s place rest e → FaultAt s place rest f → e ≡ f
one_fault_at s place rest e f (inl h) (inl k) = err_is {A = Found} e f (sym h.1 ∙ k.1)
one_fault_at s place rest e f (inl h) (inr (inl k)) = absurd (not_nothing k.0 k.1 (sym h.0 ∙ k.3))
one_fault_at s place rest e f (inl h) (inr (inr k)) = absurd (omega (arith, k.0, ap length h.0))
one_fault_at s place rest e f (inr (inl h)) (inl k) = absurd (not_nothing h.0 h.1 (sym k.0 ∙ h.3))
one_fault_at s place rest e f (inr (inl h)) (inr (inl k)) =
    let same = pieces_one h.0 k.0 h.1 k.1 h.2 k.2 (sym h.3 ∙ k.3) in
    err_is {A = State} e f (sym h.4 ∙ ap (λ (ms : List Mark). steps s (all_at place ms)) same.0 ∙ k.4)
one_fault_at s place rest e f (inr (inl h)) (inr (inr k)) = absurd (k.1 h.0 h.1 h.2 h.3)
one_fault_at s place rest e f (inr (inr h)) (inl k) = absurd (omega (arith, h.0, ap length k.0))
one_fault_at s place rest e f (inr (inr h)) (inr (inl k)) = absurd (h.1 k.0 k.1 k.2 k.3)
one_fault_at s place rest e f (inr (inr h)) (inr (inr k)) = sym h.2 ∙ k.2

-- a piece that is passed is no fault
no_fault_at : (s next : State) (place : ℕ) (rest more : List ℕ) (p : Piece) (e : ReadError) → IsPiece p → rest ≡ spelled p ++ more → steps s (all_at place (marks_of p)) ≡ Ok next → FaultAt s place rest e → ⊥
no_fault_at s next place rest more p e is whole go (inl h) = not_nothing p more (sym h.0 ∙ whole)
no_fault_at s next place rest more p e is whole go (inr (inl h)) =
    let same = pieces_one p h.0 more h.1 is h.2 (sym whole ∙ h.3) in
    ok_err (sym go ∙ ap (λ (ms : List Mark). steps s (all_at place ms)) same.0 ∙ h.4)
no_fault_at s next place rest more p e is whole go (inr (inr h)) = h.1 p more is whole

-- the first piece is passed, and then the others
first_passed : (s last : State) (place : ℕ) (p : Piece) (ps : List Piece) → steps s (placed place (p ∷ ps)) ≡ Ok last
    → (next : State) × (steps s (all_at place (marks_of p)) ≡ Ok next) × (steps next (placed (place + length (spelled p)) ps) ≡ Ok last)
first_passed s last place p ps e =
    bind_ok (steps s (all_at place (marks_of p))) (λ next. steps next (placed (place + length (spelled p)) ps)) last (sym (steps_append s (all_at place (marks_of p)) (placed (place + length (spelled p)) ps)) ∙ e)

-- two faults of the same bytes stand at one place
one_fault_behind : (ps qs : List Piece) (xs ys : List ℕ) (place m n : ℕ) (s a b : State) (e f : ReadError) → AllByRecursion IsPiece ps → AllByRecursion IsPiece qs → flat_map spelled ps ++ xs ≡ flat_map spelled qs ++ ys
    → steps s (placed place ps) ≡ Ok a → steps s (placed place qs) ≡ Ok b → m ≡ place + length (flat_map spelled ps) → n ≡ place + length (flat_map spelled qs) → FaultAt a m xs e → FaultAt b n ys f → e ≡ f
one_fault_behind [] [] xs ys place m n s a b e f each every whole go then here there h k =
    let states : b ≡ a = ok_is b a (sym then ∙ go) in
    let places : n ≡ m = omega (arith, here, there) in
    one_fault_at a m xs e f h (subst (λ (bytes : List ℕ). FaultAt a m bytes f) (sym whole) (subst (λ (n : ℕ). FaultAt a n ys f) places (subst (λ (s : State). FaultAt s n ys f) states k)))
one_fault_behind [] (q ∷ qs) xs ys place m n s a b e f each every whole go then here there h k =
    let states : a ≡ s = ok_is a s (sym go ∙ steps_none s) in
    let places : m ≡ place = omega (arith, here) in
    let (next, first, others) = first_passed s b place q qs then in
    absurd (no_fault_at s next place xs (flat_map spelled qs ++ ys) q e every.0 (whole ∙ append_assoc (spelled q) (flat_map spelled qs) ys) first (subst (λ (m : ℕ). FaultAt s m xs e) places (subst (λ (s : State). FaultAt s m xs e) states h)))
one_fault_behind (p ∷ ps) [] xs ys place m n s a b e f each every whole go then here there h k =
    let states : b ≡ s = ok_is b s (sym then ∙ steps_none s) in
    let places : n ≡ place = omega (arith, there) in
    let (next, first, others) = first_passed s a place p ps go in
    absurd (no_fault_at s next place ys (flat_map spelled ps ++ xs) p f each.0 (sym whole ∙ append_assoc (spelled p) (flat_map spelled ps) xs) first (subst (λ (n : ℕ). FaultAt s n ys f) places (subst (λ (s : State). FaultAt s n ys f) states k)))
one_fault_behind (p ∷ ps) (q ∷ qs) xs ys place m n s a b e f each every whole go then here there h k =
    let (next, first, others) = first_passed s a place p ps go in
    let (after, second, rest) = first_passed s b place q qs then in
    let split : spelled p ++ (flat_map spelled ps ++ xs) ≡ spelled q ++ (flat_map spelled qs ++ ys) = sym (append_assoc (spelled p) (flat_map spelled ps) xs) ∙ whole ∙ append_assoc (spelled q) (flat_map spelled qs) ys in
    let same = pieces_one p q (flat_map spelled ps ++ xs) (flat_map spelled qs ++ ys) each.0 every.0 split in
    let long : length (spelled q) ≡ length (spelled p) = omega (arith, ap length split, ap length same.1, length-append (spelled p) (flat_map spelled ps ++ xs), length-append (spelled q) (flat_map spelled qs ++ ys)) in
    let states : after ≡ next = ok_is after next (sym second ∙ ap (λ (ms : List Mark). steps s (all_at place ms)) (sym same.0) ∙ first) in
    let behind : steps next (placed (place + length (spelled p)) qs) ≡ Ok b = ap (λ (k : ℕ). steps next (placed (place + k) qs)) (sym long) ∙ ap (λ (s : State). steps s (placed (place + length (spelled q)) qs)) (sym states) ∙ rest in
    one_fault_behind ps qs xs ys (place + length (spelled p)) m n next a b e f each.1 every.1 same.1 others behind
    (omega (arith, here, length-append (spelled p) (flat_map spelled ps))) (omega (arith, there, long, length-append (spelled q) (flat_map spelled qs))) h k

pub one_fault : (bytes : List ℕ) (e f : ReadError) → FirstFault bytes e → FirstFault bytes f → e ≡ f
one_fault bytes e f (inl h) (inl k) = sym h.2 ∙ ap text_fault (some_is h.0 k.0 (sym h.1 ∙ k.1)) ∙ k.2
one_fault bytes e f (inl h) (inr k) = absurd (none_some (sym k.0 ∙ h.1))
one_fault bytes e f (inr h) (inl k) = absurd (none_some (sym h.0 ∙ k.1))
one_fault bytes e f (inr h) (inr k) =
    one_fault_behind h.1.before k.1.before h.1.rest k.1.rest (start_of bytes) _ _ nothing_open h.1.state k.1.state e f h.1.each k.1.each (sym h.1.whole ∙ k.1.whole) h.1.leads k.1.leads refl refl h.1.fault_is k.1.fault_is

-- ---- a reading or a first fault

-- pieces without a fault stand before the rest, and lead to a state
record Passed (bytes rest : List ℕ) (s : State) : Type 0 where
  pub done : List Piece
  pub each : AllByRecursion IsPiece done
  pub whole : drop (start_of bytes) bytes ≡ flat_map spelled done ++ rest
  pub leads : steps nothing_open (placed (start_of bytes) done) ≡ Ok s

-- what bytes have
abbrev Has : List ℕ → Type 0
Has bytes = ((list : Values) × Reading bytes list) ⊎ ((fault : ReadError) × FirstFault bytes fault)

-- a fault behind the pieces is the first
faulty : (bytes rest : List ℕ) (s : State) (fault : ReadError) (h : Passed bytes rest s) → text_error bytes ≡ None → FaultAt s (start_of bytes + length (flat_map spelled h.done)) rest fault → Has bytes
faulty bytes rest s fault h is_text is = inr (fault, inr (is_text, record { before = h.done; each = h.each; rest = rest; whole = h.whole; state = s; leads = h.leads; fault_is = is }))

-- the end of the input, a piece, or what is no piece
at_end : (bytes : List ℕ) (s : State) (h : Passed bytes [] s) (r : Result Found ReadError) → text_error bytes ≡ None → ended s (start_of bytes + length (flat_map spelled h.done)) ≡ r → Has bytes
at_end bytes s h (Ok found) is_text e = inl (values_found found, reading_found bytes h.done s found _ is_text h.each (h.whole ∙ append-nil (flat_map spelled h.done)) h.leads e)
at_end bytes s h (Err fault) is_text e = faulty bytes [] s fault h is_text (inl (refl, e))

-- one piece more
passed_more : (bytes rest others : List ℕ) (s next : State) (p : Piece) (h : Passed bytes rest s) → IsPiece p → rest ≡ spelled p ++ others → steps s (all_at (start_of bytes + length (flat_map spelled h.done)) (marks_of p)) ≡ Ok next → Passed bytes others next
passed_more bytes rest others s next p h is split go =
    let start = start_of bytes in
    let place = start + length (flat_map spelled h.done) in
    let piece : flat_map spelled (p ∷ []) ≡ spelled p = append-nil (spelled p) in
    let go_there : steps s (placed place (p ∷ [])) ≡ Ok next = ap (steps s) (append-nil (all_at place (marks_of p))) ∙ go in
    record {
      done = h.done ++ p ∷ [];
      each = all_append h.done (p ∷ []) h.each (is, tt);
      whole = h.whole ∙ ap (λ (r : List ℕ). flat_map spelled h.done ++ r) (split ∙ ap (λ (r : List ℕ). r ++ others) (sym piece)) ∙ sym (append_assoc (flat_map spelled h.done) (flat_map spelled (p ∷ [])) others)
          ∙ ap (λ (r : List ℕ). r ++ others) (sym (flat_map-append spelled h.done (p ∷ [])));
      leads = ap (steps nothing_open) (placed_append start h.done (p ∷ [])) ∙ through nothing_open s (placed start h.done) (placed place (p ∷ [])) h.leads ∙ go_there;
    }

-- whatever follows, the bytes have one of the two
abbrev GoesOn : List ℕ → List ℕ → Type 0
GoesOn bytes rest = (others : List ℕ) (next : State) → length others < length rest → Passed bytes others next → Has bytes

at_piece : (bytes rest others : List ℕ) (s : State) (p : Piece) (h : Passed bytes rest s) (r : Result State ReadError) → text_error bytes ≡ None → IsPiece p → rest ≡ spelled p ++ others
    → steps s (all_at (start_of bytes + length (flat_map spelled h.done)) (marks_of p)) ≡ r → GoesOn bytes rest → Has bytes
at_piece bytes rest others s p h (Ok next) is_text is split go further = further others next (omega (arith, piece_not_empty p, ap length split, length-append (spelled p) others)) (passed_more bytes rest others s next p h is split go)
at_piece bytes rest others s p h (Err fault) is_text is split go further = faulty bytes rest s fault h is_text (inr (inl (p, others, is, split, go)))

at_front : (bytes rest : List ℕ) (s : State) (h : Passed bytes rest s) (taken : Option Taken) → text_error bytes ≡ None → 0 < length rest → piece_at rest ≡ taken → GoesOn bytes rest → Has bytes
at_front bytes rest s h None is_text some e further = faulty bytes rest s _ h is_text (inr (inr (some, no_piece rest e, refl)))
at_front bytes rest s h (Some taken) is_text some e further =
    let t = piece_takes rest taken e in
    at_piece bytes rest taken.1 s t.0 h (steps s (all_at (start_of bytes + length (flat_map spelled h.done)) (marks_of t.0))) is_text t.1 t.2 refl further

scanned : (most : ℕ) (bytes rest : List ℕ) (s : State) → text_error bytes ≡ None → length rest ≤ most → Passed bytes rest s → Has bytes
scanned most bytes [] s is_text few h = at_end bytes s h _ is_text refl
scanned zero bytes (b ∷ rest) s is_text few h = absurd (omega (arith, few))
scanned (suc most) bytes (b ∷ rest) s is_text few h =
    at_front bytes (b ∷ rest) s h (piece_at (b ∷ rest)) is_text (omega arith) refl (λ others next less k. scanned most bytes others next is_text (omega (arith, less, few)) k)

checked : (bytes : List ℕ) (e : Option TextError) → text_error bytes ≡ e → Has bytes
checked bytes (Some e) is = inr (text_fault e, inl (e, is, refl))
checked bytes None is =
    scanned (length (drop (start_of bytes) bytes)) bytes (drop (start_of bytes) bytes) nothing_open is (omega arith) (record { done = []; each = tt; whole = refl; leads = steps_none nothing_open })

pub reading_or_fault : (bytes : List ℕ) → ((list : Values) × Reading bytes list) ⊎ ((fault : ReadError) × FirstFault bytes fault)
reading_or_fault bytes = checked bytes (text_error bytes) refl
