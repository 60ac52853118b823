-- The tokens of the code are pieces, and where there is none no piece begins.
use Rattle.std.proofs.Common.{◌≡◌, ℕ, ◌+◌, true, List, [], ◌∷◌, ◌++◌, map, Some, None, refl, sym, ap, ◌∙◌}
use Rattle.std.specs.Prelude.{IsTrue}
use Rattle.std.specs.List.{flat_map, list_all, AllByRecursion}
use Rattle.std.proofs.lemmas.Bool.{ne_eqb}
use Rattle.std.proofs.lemmas.List.{append-nil}
use Rattle.markup.specs.declared.token.Token.{Token}
use Rattle.markup.specs.declared.token.Token.TheVariants as made
use Rattle.markup.specs.declared.token.MarkupError.TheVariants.{Malformed}
use Rattle.markup.specs.Piece.{Piece, start_tag, empty_tag, end_tag, comment, instruction, reference, letter, spelled, IsPiece}
use Rattle.markup.specs.Mark.{text, marks_of, Placed, all_at, placed}
use Rattle.markup.specs.Taking.{front, back, in_text, piece_at}
use Rattle.markup.specs.Token.{letters_at, seen_at, Takes, NoPiece, error_at, marks_seen}
use Rattle.markup.proofs.Options.{none_some, true_false, and_true}
use Rattle.markup.proofs.Names.{front_back, front_passes}
use Rattle.markup.proofs.Pieces.{piece_takes, piece_again}

-- ---- one piece

no_marks : (p : Piece) → marks_of p ≡ [] → ⊥
no_marks (start_tag name all space) e = cc
no_marks (empty_tag name all space) e = cc
no_marks (end_tag name space) e = cc
no_marks (comment t) e = cc
no_marks (instruction t) e = cc
no_marks (reference t c) e = cc
no_marks (letter b) e = cc

seen_is : (p : Piece) (token : Token) → marks_of p ≡ marks_seen token → (place : ℕ) → seen_at place token ≡ all_at place (marks_of p)
seen_is p (made.Start name attributes) e place = ap (all_at place) (sym e)
seen_is p (made.Empty name attributes) e place = ap (all_at place) (sym e)
seen_is p (made.End name) e place = ap (all_at place) (sym e)
seen_is p made.Aside e place = ap (all_at place) (sym e)
seen_is p (made.Reference c) e place = ap (all_at place) (sym e)
seen_is p (made.Text run) e place = absurd (no_marks p e)

pub takes_piece : (bytes : List ℕ) (token : Token) (rest : List ℕ) → piece_at bytes ≡ Some (marks_seen token, rest) → Takes bytes token rest
takes_piece bytes token rest e =
    let t = piece_takes bytes (marks_seen token, rest) e in
    record {
      first = t.0;
      more = [];
      each = (t.1, tt);
      whole = t.2 ∙ ap (λ (xs : List ℕ). xs ++ rest) (sym (append-nil (spelled t.0)));
      seen = λ place. seen_is t.0 token t.3 place ∙ sym (append-nil (all_at place (marks_of t.0)));
    }

pub no_piece : (bytes : List ℕ) → piece_at bytes ≡ None → NoPiece bytes
no_piece bytes none = λ p rest h e. none_some (sym none ∙ ap piece_at e ∙ piece_again p rest h)

pub error_at_reference : (bs : List ℕ) → error_at (38 ∷ bs) ≡ Malformed
error_at_reference bs = refl

-- ---- a run of text

is_letter : (b : ℕ) → in_text b ≡ true → IsPiece (letter b)
is_letter b h = (λ e. true_false (sym h ∙ ap in_text e), λ e. true_false (sym h ∙ ap in_text e))

are_letters : (run : List ℕ) → IsTrue (list_all in_text run) → AllByRecursion IsPiece (map letter run)
are_letters [] h = tt
are_letters (b ∷ run) h =
    let g = and_true (in_text b) (list_all in_text run) h in
    (is_letter b g.0, are_letters run g.1)

spelled_letters : (run : List ℕ) → flat_map spelled (map letter run) ≡ run
spelled_letters [] = refl
spelled_letters (b ∷ run) = ap (λ (xs : List ℕ). b ∷ xs) (spelled_letters run)

seen_letters : (run : List ℕ) (place : ℕ) → letters_at place run ≡ placed place (map letter run)
seen_letters [] place = refl
seen_letters (b ∷ run) place = ap (λ (xs : List Placed). record { place = place; mark = text true (b ∷ []) } ∷ xs) (seen_letters run (place + 1))

takes_letters : (b : ℕ) (bs rest bytes : List ℕ) (token : Token) → in_text b ≡ true → IsTrue (list_all in_text bs) → bytes ≡ (b ∷ bs) ++ rest → ((place : ℕ) → seen_at place token ≡ letters_at place (b ∷ bs)) → Takes bytes token rest
takes_letters b bs rest bytes token h all e seen = record {
  first = letter b;
  more = map letter bs;
  each = (is_letter b h, are_letters bs all);
  whole = e ∙ ap (λ (xs : List ℕ). xs ++ rest) (sym (spelled_letters (b ∷ bs)));
  seen = λ place. seen place ∙ seen_letters (b ∷ bs) place;
}

front_first : (b : ℕ) (bs : List ℕ) → in_text b ≡ true → front in_text (b ∷ bs) ≡ b ∷ front in_text bs
unfolding front
front_first b bs h = rw h refl

back_first : (b : ℕ) (bs : List ℕ) → in_text b ≡ true → back in_text (b ∷ bs) ≡ back in_text bs
unfolding back
back_first b bs h = rw h refl

pub is_text : (b : ℕ) → (b ≡ 60 → ⊥) → (b ≡ 38 → ⊥) → in_text b ≡ true
is_text b m n = rw (ne_eqb b 60 m, ne_eqb b 38 n) refl

pub takes_run : (b : ℕ) (bs bytes run rest : List ℕ) (token : Token) → bytes ≡ b ∷ bs → in_text b ≡ true → run ≡ front in_text bytes → rest ≡ back in_text bytes → ((place : ℕ) → seen_at place token ≡ letters_at place run) → Takes bytes token rest
takes_run b bs bytes run rest token here h e f seen =
    let run_is : run ≡ b ∷ front in_text bs = e ∙ ap (front in_text) here ∙ front_first b bs h in
    let rest_is : rest ≡ back in_text bs = f ∙ ap (back in_text) here ∙ back_first b bs h in
    let whole : bytes ≡ (b ∷ front in_text bs) ++ rest = here ∙ ap (λ (xs : List ℕ). b ∷ xs) (front_back in_text bs) ∙ ap (λ (xs : List ℕ). (b ∷ front in_text bs) ++ xs) (sym rest_is) in
    takes_letters b (front in_text bs) rest bytes token h (front_passes in_text bs) whole (λ place. seen place ∙ ap (letters_at place) run_is)
