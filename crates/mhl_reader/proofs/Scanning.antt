-- The pieces of a text, one token after another.
use Rattle.std.proofs.Common.{◌≡◌, ◌⊎◌, inl, inr, ℕ, zero, suc, ◌+◌, ◌-◌, ◌^◌, ◌<◌, ◌≤◌, true, false, List, [], ◌∷◌, ◌++◌, length, drop, None, Result, Ok, Err, refl, sym, ap, subst, ◌∙◌, append_assoc, append-nil, length-append, codes, arith}
use Rattle.std.specs.List.{flat_map, AllByRecursion}
use Rattle.std.specs.Prelude.{◌==◌}
use Rattle.std.proofs.lemmas.Bool.{eqb-true, eqb-false}
use Rattle.std.proofs.lemmas.List.{length-drop, nil_from_length}
use Rattle.std.proofs.lemmas.List.Concat.{flat_map-append}
use Rattle.markup.specs.declared.token.Token.{Token}
use Rattle.markup.specs.declared.token.Token.TheVariants as tokens
use Rattle.markup.specs.declared.token.MarkupError.{MarkupError}
use Rattle.markup.specs.Characters.{text_error}
use Rattle.markup.specs.Piece.{Piece, start_tag, empty_tag, end_tag, comment, instruction, reference, letter, IsPiece, spelled, spelled_attribute}
use Rattle.markup.specs.Mark.{Mark, Placed, marks_of, all_at, placed}
use Rattle.markup.specs.Token.{letters_at, seen_at, Takes, NoPiece, error_at}
use Rattle.markup.proofs.Pieces.{piece_not_empty}
use Rattle.mhl_reader.specs.declared.error.ReadError.{ReadError}
use Rattle.mhl_reader.specs.declared.error.ReadError.TheVariants as errors
use Rattle.mhl_reader.specs.Grammar.{Found, values_found}
use Rattle.mhl_reader.specs.Faults.{State, steps, ended, nothing_open, ◌>>=◌}
use Rattle.mhl_reader.specs.Reading.{start_of, Reading, markup_fault, FirstOfText}
use Rattle.mhl_reader.specs.Code.{Fails, RunFits}
use Rattle.mhl_reader.proofs.Steps.{steps_none, steps_append, through}
use Rattle.mhl_reader.proofs.Machine.{fails_is}
use Rattle.mhl_reader.proofs.Meaning.{reading_found}

-- pieces without a fault stand before the rest, and lead to a state
pub record Scanned (bytes rest : List ℕ) (s : State) : Type 0 where
  pub start : start_of bytes ≤ length bytes
  pub done : List Piece
  pub each : AllByRecursion IsPiece done
  pub whole : drop (start_of bytes) bytes ≡ flat_map spelled done ++ rest
  pub leads : steps nothing_open (placed (start_of bytes) done) ≡ Ok s

abbrev ok : State → Result State ReadError
ok s = Ok s

pub begun : (bytes rest : List ℕ) (s : State) → start_of bytes ≤ length bytes → rest ≡ drop (start_of bytes) bytes → s ≡ nothing_open → Scanned bytes rest s
begun bytes rest s within rest_is is = record { start = within; done = []; each = tt; whole = sym rest_is; leads = steps_none nothing_open ∙ ap (λ (s : State). ok s) (sym is) }

pub all_append : (ps qs : List Piece) → AllByRecursion IsPiece ps → AllByRecursion IsPiece qs → AllByRecursion IsPiece (ps ++ qs)
all_append [] qs h k = k
all_append (p ∷ ps) qs h k = (h.0, all_append ps qs h.1 k)

pub placed_append : (place : ℕ) (ps qs : List Piece) → placed place (ps ++ qs) ≡ placed place ps ++ placed (place + length (flat_map spelled ps)) qs
placed_append place [] qs = let here : place ≡ place + 0 = omega arith in ap (λ (n : ℕ). placed n qs) here
placed_append place (p ∷ ps) qs =
    let there : place + length (spelled p) + length (flat_map spelled ps) ≡ place + length (spelled p ++ flat_map spelled ps) = omega (arith, length-append (spelled p) (flat_map spelled ps)) in
    ap (λ (r : List Placed). all_at place (marks_of p) ++ r) (placed_append (place + length (spelled p)) ps qs)
    ∙ sym (append_assoc (all_at place (marks_of p)) (placed (place + length (spelled p)) ps) (placed (place + length (spelled p) + length (flat_map spelled ps)) qs))
    ∙ ap (λ (n : ℕ). (all_at place (marks_of p) ++ placed (place + length (spelled p)) ps) ++ placed n qs) there

-- the place of the rest
rest_place : (bytes rest : List ℕ) (s : State) (h : Scanned bytes rest s) → length bytes - length rest ≡ start_of bytes + length (flat_map spelled h.done)
rest_place bytes rest s h = omega (arith, h.start, ap length h.whole, length-drop (start_of bytes) bytes, length-append (flat_map spelled h.done) rest)

pub rest_within : (bytes rest : List ℕ) (s : State) → Scanned bytes rest s → length rest ≤ length bytes
rest_within bytes rest s h = omega (arith, h.start, ap length h.whole, length-drop (start_of bytes) bytes, length-append (flat_map spelled h.done) rest)

-- a token is taken, and its steps lead on
pub goes_on : (bytes rest others : List ℕ) (s next : State) (token : Token) → Scanned bytes rest s → Takes rest token others → steps s (seen_at (length bytes - length rest) token) ≡ Ok next → Scanned bytes others next
goes_on bytes rest others s next token h t go =
    let pieces = t.first ∷ t.more in
    let place = start_of bytes + length (flat_map spelled h.done) in
    let go_there : steps s (placed place pieces) ≡ Ok next = ap (steps s) (sym (t.seen place)) ∙ ap (λ (n : ℕ). steps s (seen_at n token)) (sym (rest_place bytes rest s h)) ∙ go in
    record {
      start = h.start;
      done = h.done ++ pieces;
      each = all_append h.done pieces h.each t.each;
      whole = h.whole ∙ ap (λ (r : List ℕ). flat_map spelled h.done ++ r) t.whole ∙ sym (append_assoc (flat_map spelled h.done) (flat_map spelled pieces) others)
          ∙ ap (λ (r : List ℕ). r ++ others) (sym (flat_map-append spelled h.done pieces));
      leads = ap (steps nothing_open) (placed_append (start_of bytes) h.done pieces) ∙ through nothing_open s (placed (start_of bytes) h.done) (placed place pieces) h.leads ∙ go_there;
    }

pub shorter : (rest others : List ℕ) (token : Token) → Takes rest token others → length others < length rest
shorter rest others token t =
    omega (arith, piece_not_empty t.first, ap length t.whole, length-append (flat_map spelled (t.first ∷ t.more)) others, length-append (spelled t.first) (flat_map spelled t.more))

-- ---- faults

-- the first piece of several at which there is a fault
record FaultWithin (s : State) (place : ℕ) (ps : List Piece) (fault : ReadError) : Type 0 where
  pub before : List Piece
  pub piece : Piece
  pub behind : List Piece
  pub split : ps ≡ before ++ piece ∷ behind
  pub state : State
  pub leads : steps s (placed place before) ≡ Ok state
  pub fails : steps state (all_at (place + length (flat_map spelled before)) (marks_of piece)) ≡ Err fault

result_cases : (r : Result State ReadError) (P : Type 0) → ((next : State) → r ≡ Ok next → P) → ((e : ReadError) → r ≡ Err e → P) → P
result_cases (Ok next) P h k = h next refl
result_cases (Err e) P h k = k e refl

err_is : (a b : ReadError) → ◌≡◌ {A = Result State ReadError} (Err a) (Err b) → a ≡ b
err_is a b e = cc

ok_err : {a : State} {b : ReadError} → ◌≡◌ {A = Result State ReadError} (Ok a) (Err b) → ⊥
ok_err e = cc

fault_within : (s : State) (place : ℕ) (ps : List Piece) (fault : ReadError) → steps s (placed place ps) ≡ Err fault → FaultWithin s place ps fault
fault_within s place [] fault e = absurd (ok_err (sym (steps_none s) ∙ e))
fault_within s place (p ∷ ps) fault e =
    let here = all_at place (marks_of p) in
    let there = placed (place + length (spelled p)) ps in
    let split = sym (steps_append s here there) ∙ e in
    result_cases (steps s here) (FaultWithin s place (p ∷ ps) fault)
    (λ next go.
    let inner = fault_within next (place + length (spelled p)) ps fault (sym (ap (λ (r : Result State ReadError). r >>= λ next. steps next there) go) ∙ split) in
    let at_piece : place + length (spelled p) + length (flat_map spelled inner.before) ≡ place + length (spelled p ++ flat_map spelled inner.before) = omega (arith, length-append (spelled p) (flat_map spelled inner.before)) in
    record {
      before = p ∷ inner.before;
      piece = inner.piece;
      behind = inner.behind;
      split = ap (λ (r : List Piece). p ∷ r) inner.split;
      state = inner.state;
      leads = through s next here (placed (place + length (spelled p)) inner.before) go ∙ inner.leads;
      fails = ap (λ (n : ℕ). steps inner.state (all_at n (marks_of inner.piece))) (sym at_piece) ∙ inner.fails;
    })
    (λ x stuck.
    let same = err_is x fault (sym (ap (λ (r : Result State ReadError). r >>= λ next. steps next there) stuck) ∙ split) in
    let here_place : place + 0 ≡ place = omega arith in
    record {
      before = [];
      piece = p;
      behind = ps;
      split = refl;
      state = s;
      leads = steps_none s;
      fails = ap (λ (n : ℕ). steps s (all_at n (marks_of p))) here_place ∙ stuck ∙ ap (λ (x : ReadError). Err x) same;
    })

all_before : (ps : List Piece) (q : Piece) (qs : List Piece) → AllByRecursion IsPiece (ps ++ q ∷ qs) → AllByRecursion IsPiece ps × IsPiece q
all_before [] q qs h = (tt, h.0)
all_before (p ∷ ps) q qs h = let k = all_before ps q qs h.1 in ((h.0, k.0), k.1)

-- a token at which there is a fault
token_faults : (bytes rest others : List ℕ) (s : State) (token : Token) (fault : ReadError) → Scanned bytes rest s → Takes rest token others → steps s (seen_at (length bytes - length rest) token) ≡ Err fault → FirstOfText bytes fault
token_faults bytes rest others s token fault h t e =
    let pieces = t.first ∷ t.more in
    let start = start_of bytes in
    let place = start + length (flat_map spelled h.done) in
    let go : steps s (placed place pieces) ≡ Err fault = ap (steps s) (sym (t.seen place)) ∙ ap (λ (n : ℕ). steps s (seen_at n token)) (sym (rest_place bytes rest s h)) ∙ e in
    let f = fault_within s place pieces fault go in
    let each = all_before f.before f.piece f.behind (subst (λ (ps : List Piece). AllByRecursion IsPiece ps) f.split t.each) in
    let behind = flat_map spelled f.behind ++ others in
    let rest_is : rest ≡ flat_map spelled f.before ++ (spelled f.piece ++ behind) =
    t.whole ∙ ap (λ (ps : List Piece). flat_map spelled ps ++ others) f.split ∙ ap (λ (r : List ℕ). r ++ others) (flat_map-append spelled f.before (f.piece ∷ f.behind))
    ∙ append_assoc (flat_map spelled f.before) (spelled f.piece ++ flat_map spelled f.behind) others ∙ ap (λ (r : List ℕ). flat_map spelled f.before ++ r) (append_assoc (spelled f.piece) (flat_map spelled f.behind) others) in
    let whole : drop start bytes ≡ flat_map spelled (h.done ++ f.before) ++ (spelled f.piece ++ behind) =
    h.whole ∙ ap (λ (r : List ℕ). flat_map spelled h.done ++ r) rest_is ∙ sym (append_assoc (flat_map spelled h.done) (flat_map spelled f.before) (spelled f.piece ++ behind))
    ∙ ap (λ (r : List ℕ). r ++ (spelled f.piece ++ behind)) (sym (flat_map-append spelled h.done f.before)) in
    let there : place + length (flat_map spelled f.before) ≡ start + length (flat_map spelled (h.done ++ f.before)) = omega (arith, ap length (flat_map-append spelled h.done f.before), length-append (flat_map spelled h.done) (flat_map spelled f.before)) in
    record {
      before = h.done ++ f.before;
      each = all_append h.done f.before h.each each.0;
      rest = spelled f.piece ++ behind;
      whole = whole;
      state = f.state;
      leads = ap (steps nothing_open) (placed_append start h.done f.before) ∙ through nothing_open s (placed start h.done) (placed place f.before) h.leads ∙ f.leads;
      fault_is = inr (inl (f.piece, behind, each.1, refl, ap (λ (n : ℕ). steps f.state (all_at n (marks_of f.piece))) (sym there) ∙ f.fails));
    }

pub step_fails : (bytes rest others : List ℕ) (s : State) (token : Token) (e : ReadError) → Scanned bytes rest s → Takes rest token others → Fails e (steps s (seen_at (length bytes - length rest) token)) → (e ≡ errors.Memory) ⊎ FirstOfText bytes e
step_fails bytes rest others s token e h t f = elim (fails_is e (steps s (seen_at (length bytes - length rest) token)) f) [
  | inl m ↦ inl m
  | inr r ↦ inr (token_faults bytes rest others s token e h t r)
]

-- what is no piece
pub piece_fails : (bytes rest : List ℕ) (s : State) (fault : MarkupError) (e : ReadError) → Scanned bytes rest s → 0 < length rest → NoPiece rest → fault ≡ error_at rest → e ≡ markup_fault (length bytes - length rest) fault → (e ≡ errors.Memory) ⊎ FirstOfText bytes e
piece_fails bytes rest s fault e h some none is same =
    inr (record {
      before = h.done;
      each = h.each;
      rest = rest;
      whole = h.whole;
      state = s;
      leads = h.leads;
      fault_is = inr (inr (some, none, sym (same ∙ ap (λ (n : ℕ). markup_fault n fault) (rest_place bytes rest s h) ∙ ap (λ (f : MarkupError). markup_fault (start_of bytes + length (flat_map spelled h.done)) f) is)));
    })

nothing_left : (bytes : List ℕ) (s : State) (h : Scanned bytes [] s) → length bytes ≡ start_of bytes + length (flat_map spelled h.done)
nothing_left bytes s h = omega (arith, h.start, ap length h.whole, length-drop (start_of bytes) bytes, length-append (flat_map spelled h.done) [])

pub end_fails : (bytes rest : List ℕ) (s : State) (e : ReadError) → Scanned bytes rest s → rest ≡ [] → Fails e (ended s (length bytes)) → (e ≡ errors.Memory) ⊎ FirstOfText bytes e
end_fails bytes rest s e h none f =
    let k = subst (λ (r : List ℕ). Scanned bytes r s) none h in
    elim (fails_is e (ended s (length bytes)) f) [
      | inl m ↦ inl m
      | inr r ↦ inr (record {
        before = k.done;
        each = k.each;
        rest = [];
        whole = k.whole;
        state = s;
        leads = k.leads;
        fault_is = inl (refl, ap (ended s) (sym (nothing_left bytes s k)) ∙ r);
      })
    ]

-- all pieces were read
pub all_read : (bytes rest : List ℕ) (s : State) (found : Found) → text_error bytes ≡ None → Scanned bytes rest s → rest ≡ [] → ended s (length bytes) ≡ Ok found → Reading bytes (values_found found)
all_read bytes rest s found is_text h none e =
    reading_found bytes h.done s found (length bytes) is_text h.each (h.whole ∙ ap (λ (r : List ℕ). flat_map spelled h.done ++ r) none ∙ append-nil (flat_map spelled h.done)) h.leads e

-- ---- a run of text lies within the bytes

letters_length : (place : ℕ) (run : List ℕ) → length (letters_at place run) ≡ length run
letters_length place [] = refl
letters_length place (b ∷ run) = ap suc (letters_length (place + 1) run)

marks_short : (p : Piece) → length (marks_of p) ≤ length (spelled p)
marks_short (start_tag name attributes space) = omega arith
marks_short (empty_tag name attributes space) = omega (arith, length-append name (flat_map spelled_attribute attributes ++ (space ++ codes "/>")), length-append (flat_map spelled_attribute attributes) (space ++ codes "/>"), length-append space (codes "/>"))
marks_short (end_tag name space) = omega arith
marks_short (comment t) = omega arith
marks_short (instruction t) = omega arith
marks_short (reference t c) = omega arith
marks_short (letter b) = omega arith

all_at_length : (place : ℕ) (ms : List Mark) → length (all_at place ms) ≡ length ms
all_at_length place [] = refl
all_at_length place (m ∷ ms) = ap suc (all_at_length place ms)

placed_short : (place : ℕ) (ps : List Piece) → length (placed place ps) ≤ length (flat_map spelled ps)
placed_short place [] = omega arith
placed_short place (p ∷ ps) =
    omega (arith, marks_short p, all_at_length place (marks_of p), placed_short (place + length (spelled p)) ps, length-append (all_at place (marks_of p)) (placed (place + length (spelled p)) ps), length-append (spelled p) (flat_map spelled ps))

pub run_fits : (bytes rest others : List ℕ) (s : State) (token : Token) → Scanned bytes rest s → Takes rest token others → length bytes < 2 ^ 64 → RunFits (length bytes - length rest) token
run_fits bytes rest others s (tokens.Text run) h t small =
    omega (arith, letters_length 0 run.now, ap length (t.seen 0), placed_short 0 (t.first ∷ t.more), ap length t.whole, length-append (flat_map spelled (t.first ∷ t.more)) others, rest_within bytes rest s h, small)
run_fits bytes rest others s (tokens.Start name attributes) h t small = tt
run_fits bytes rest others s (tokens.Empty name attributes) h t small = tt
run_fits bytes rest others s (tokens.End name) h t small = tt
run_fits bytes rest others s tokens.Aside h t small = tt
run_fits bytes rest others s (tokens.Reference c) h t small = tt

-- whether bytes are left
pub none_left : (rest : List ℕ) → (length rest == 0) ≡ true → rest ≡ []
none_left rest e = nil_from_length rest (eqb-true (length rest) 0 e)

positive : (n : ℕ) → (n ≡ 0 → ⊥) → 0 < n
positive zero h = absurd (h refl)
positive (suc n) h = omega arith

pub some_left : (rest : List ℕ) → (length rest == 0) ≡ false → 0 < length rest
some_left rest e = positive (length rest) (eqb-false (length rest) 0 e)
