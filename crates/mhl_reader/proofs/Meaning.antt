-- A document has one meaning at most, and a first fault excludes one.
use Rattle.std.proofs.Common.{◌≡◌, inl, inr, ℕ, ◌+◌, ◌<◌, List, [], ◌∷◌, ◌++◌, length, drop, Some, None, Result, Ok, Err, refl, sym, ap, subst, ◌∙◌, append_assoc, append-nil, length-append, arith}
use Rattle.std.specs.List.{flat_map, AllByRecursion}
use Rattle.markup.specs.Characters.{text_error}
use Rattle.markup.specs.Piece.{Piece, IsPiece, spelled}
use Rattle.markup.specs.Mark.{Mark, marks_of, Placed, all_at, placed}
use Rattle.mhl_writer.specs.ListText.{Values}
use Rattle.mhl_reader.specs.declared.error.ReadError.{ReadError}
use Rattle.mhl_reader.specs.Grammar.{Found, values_found}
use Rattle.mhl_reader.specs.Faults.{after, State, steps, ended, nothing_open}
use Rattle.mhl_reader.specs.Reading.{start_of, Reading, FaultAt, FirstOfText, FirstFault}
use Rattle.mhl_reader.proofs.Steps.{steps_none, steps_append, through, no_next}
use Rattle.mhl_reader.proofs.Forward.{st, document_steps}
use Rattle.mhl_reader.proofs.Rest.{document_read}

abbrev pub OnePiece : Type 0
OnePiece = (p q : Piece) (xs ys : List ℕ) → IsPiece p → IsPiece q → spelled p ++ xs ≡ spelled q ++ ys → (marks_of p ≡ marks_of q) × (xs ≡ ys)

abbrev pub NotEmpty : Type 0
NotEmpty = (p : Piece) → 0 < length (spelled p)

-- pieces that go on where other pieces of the same bytes end
record GoesOn (place : ℕ) (ps qs : List Piece) (rest : List ℕ) : Type 0 where
  pub more : List Piece
  pub each : AllByRecursion IsPiece more
  pub is : rest ≡ flat_map spelled more
  pub places : placed place ps ≡ placed place qs ++ placed (place + length (flat_map spelled qs)) more

nothing_begins : (p : Piece) (xs : List ℕ) → NotEmpty → [] ≡ spelled p ++ xs → ⊥
nothing_begins p xs filled e = omega (arith, filled p, ap length e, length-append (spelled p) xs)

goes_on : (ps qs : List Piece) (rest : List ℕ) (place : ℕ) → OnePiece → NotEmpty → AllByRecursion IsPiece ps → AllByRecursion IsPiece qs → flat_map spelled ps ≡ flat_map spelled qs ++ rest → GoesOn place ps qs rest
goes_on ps [] rest place one filled h k e =
    let here : place ≡ place + 0 = omega arith in
    record { more = ps; each = h; is = sym e; places = ap (λ (n : ℕ). placed n ps) here }
goes_on [] (q ∷ qs) rest place one filled h k e = absurd (nothing_begins q (flat_map spelled qs ++ rest) filled (e ∙ append_assoc (spelled q) (flat_map spelled qs) rest))
goes_on (p ∷ ps) (q ∷ qs) rest place one filled h k e =
    let same = one p q (flat_map spelled ps) (flat_map spelled qs ++ rest) h.0 k.0 (e ∙ append_assoc (spelled q) (flat_map spelled qs) rest) in
    let whole : spelled p ++ flat_map spelled ps ≡ spelled q ++ (flat_map spelled qs ++ rest) = e ∙ append_assoc (spelled q) (flat_map spelled qs) rest in
    let long : length (spelled p) ≡ length (spelled q) = omega (arith, ap length whole, ap length same.1, length-append (spelled p) (flat_map spelled ps), length-append (spelled q) (flat_map spelled qs ++ rest)) in
    let inner = goes_on ps qs rest (place + length (spelled q)) one filled h.1 k.1 same.1 in
    let there : place + length (spelled q) + length (flat_map spelled qs) ≡ place + length (spelled q ++ flat_map spelled qs) = omega (arith, length-append (spelled q) (flat_map spelled qs)) in
    let last = placed (place + length (spelled q) + length (flat_map spelled qs)) inner.more in
    record {
      more = inner.more;
      each = inner.each;
      is = inner.is;
      places =
          ap (λ (n : ℕ). all_at place (marks_of p) ++ placed (place + n) ps) long
          ∙ ap (λ (ms : List Mark). all_at place ms ++ placed (place + length (spelled q)) ps) same.0
          ∙ ap (λ (r : List Placed). all_at place (marks_of q) ++ r) inner.places
          ∙ sym (append_assoc (all_at place (marks_of q)) (placed (place + length (spelled q)) qs) last)
          ∙ ap (λ (n : ℕ). (all_at place (marks_of q) ++ placed (place + length (spelled q)) qs) ++ placed n inner.more) there;
    }

-- the steps over a document
reading_steps : (bytes : List ℕ) (list : Values) (r : Reading bytes list) → steps nothing_open (placed (start_of bytes) r.pieces) ≡ Ok (st after r.found [])
reading_steps bytes list r = ap (steps nothing_open) r.nested ∙ document_steps r.content r.found r.document

ok_err : {A : Type 0} {x : A} {e : ReadError} → ◌≡◌ {A = Result A ReadError} (Ok x) (Err e) → ⊥
ok_err h = cc

ok_is : (a b : State) → ◌≡◌ {A = Result State ReadError} (Ok a) (Ok b) → a ≡ b
ok_is a b e = cc

none_some : {A : Type 0} {x : A} → None ≡ Some x → ⊥
none_some e = cc

-- what stands at the place of a fault does not go on to the end of a document
fault_stops : (s : State) (place : ℕ) (rest : List ℕ) (fault : ReadError) (more : List Piece) (found : Found) → OnePiece → NotEmpty → AllByRecursion IsPiece more → rest ≡ flat_map spelled more → steps s (placed place more) ≡ Ok (st after found []) → FaultAt s place rest fault → ⊥
fault_stops s place rest fault [] found one filled each is go (inl h) =
    let same = ok_is s (st after found []) (sym (steps_none s) ∙ go) in
    ok_err (subst (λ (s : State). ended s place ≡ Err fault) same h.1)
fault_stops s place rest fault (q ∷ more) found one filled each is go (inl h) = nothing_begins q (flat_map spelled more) filled (sym h.0 ∙ is)
fault_stops s place rest fault [] found one filled each is go (inr (inl h)) = nothing_begins h.0 h.1 filled (sym is ∙ h.3)
fault_stops s place rest fault (q ∷ more) found one filled each is go (inr (inl h)) =
    let same = one h.0 q h.1 (flat_map spelled more) h.2 each.0 (sym h.3 ∙ is) in
    let there = placed (place + length (spelled q)) more in
    let stuck : steps s (all_at place (marks_of q)) ≡ Err fault = ap (λ (ms : List Mark). steps s (all_at place ms)) (sym same.0) ∙ h.4 in
    ok_err (sym go ∙ steps_append s (all_at place (marks_of q)) there ∙ no_next (steps s (all_at place (marks_of q))) fault (λ next. steps next there) stuck)
fault_stops s place rest fault [] found one filled each is go (inr (inr h)) = omega (arith, h.0, ap length is)
fault_stops s place rest fault (q ∷ more) found one filled each is go (inr (inr h)) = h.1 q (flat_map spelled more) each.0 is

text_excludes : (bytes : List ℕ) (list : Values) (fault : ReadError) → OnePiece → NotEmpty → Reading bytes list → FirstOfText bytes fault → ⊥
text_excludes bytes list fault one filled r f =
    let start = start_of bytes in
    let place = start + length (flat_map spelled f.before) in
    let g = goes_on r.pieces f.before f.rest start one filled r.each f.each (sym r.whole ∙ f.whole) in
    let there = placed place g.more in
    let go = sym (through nothing_open f.state (placed start f.before) there f.leads) ∙ sym (ap (steps nothing_open) g.places) ∙ reading_steps bytes list r in
    fault_stops f.state place f.rest fault g.more r.found one filled g.each g.is go f.fault_is

pub fault_excludes : (bytes : List ℕ) (list : Values) (fault : ReadError) → OnePiece → NotEmpty → Reading bytes list → FirstFault bytes fault → ⊥
fault_excludes bytes list fault one filled r (inl h) = none_some (sym r.is_text ∙ h.1)
fault_excludes bytes list fault one filled r (inr h) = text_excludes bytes list fault one filled r h.1

no_pieces : (more : List Piece) → NotEmpty → [] ≡ flat_map spelled more → more ≡ []
no_pieces [] filled e = refl
no_pieces (q ∷ more) filled e = absurd (nothing_begins q (flat_map spelled more) filled e)

pub one_reading : (bytes : List ℕ) (a b : Values) → OnePiece → NotEmpty → Reading bytes a → Reading bytes b → a ≡ b
one_reading bytes a b one filled r s =
    let start = start_of bytes in
    let place = start + length (flat_map spelled s.pieces) in
    let g = goes_on r.pieces s.pieces [] start one filled r.each s.each (sym r.whole ∙ s.whole ∙ sym (append-nil (flat_map spelled s.pieces))) in
    let none = no_pieces g.more filled g.is in
    let same : placed start r.pieces ≡ placed start s.pieces = g.places ∙ ap (λ (ps : List Piece). placed start s.pieces ++ placed place ps) none ∙ append-nil (placed start s.pieces) in
    let last : st after r.found [] ≡ st after s.found [] = ok_is _ _ (sym (reading_steps bytes a r) ∙ ap (steps nothing_open) same ∙ reading_steps bytes b s) in
    sym r.meaning ∙ ap (λ (s : State). values_found s.found) last ∙ s.meaning

-- pieces without a fault up to the end of the input are a document
pub reading_found : (bytes : List ℕ) (pieces : List Piece) (last : State) (found : Found) (len : ℕ) → text_error bytes ≡ None → AllByRecursion IsPiece pieces → drop (start_of bytes) bytes ≡ flat_map spelled pieces
    → steps nothing_open (placed (start_of bytes) pieces) ≡ Ok last → ended last len ≡ Ok found → Reading bytes (values_found found)
reading_found bytes pieces last found len is_text each whole go e =
    let d = document_read (placed (start_of bytes) pieces) last found len go e in
    record { is_text = is_text; pieces = pieces; each = each; whole = whole; content = d.0; nested = d.1; found = found; document = d.2; meaning = refl }
