-- A text of the language is UTF-8, so that the rule of a note alone decides.
use Rattle.std.proofs.Common.{◌≡◌, ◌-◌, ◌≤◌, true, false, ◌&&◌, refl, sym, ◌∙◌, ap, subst}
use Rattle.std.specs.Prelude.{Bool, List, ℕ, IsTrue, ◌==◌, not, nat_le, length, slice_index, Some, None, if◌then◌else◌}
use Rattle.std.specs.Str.{IsUtf8, is_utf8}
use Rattle.std.proofs.lemmas.Bool.{leb-true}
use Rattle.path_text.specs.Places.{is_clean}
use Rattle.std.proofs.lemmas.Str.{is_utf8-from_IsUtf8}
use Rattle.mhl_writer.specs.Note.{is_note, is_note_rule}

both : (a b : Bool) → a ≡ true → (a && b) ≡ b
both a b is = ap (λ x. x && b) is

pub is_note-text : (text : List ℕ) → IsUtf8 text → is_note text ≡ is_note_rule text
unfolding is_note
is_note-text text utf8 = both _ _ (is_utf8-from_IsUtf8 text utf8)

-- what a text keeps, where it is read again
pub note_holds : (inside given value : List ℕ) → IsUtf8 given → given ≡ inside → inside ≡ value → IsTrue (is_note_rule inside) → IsTrue (is_note value)
note_holds inside given value utf8 same is rule = rw (← is) (subst (λ t. IsTrue (is_note t)) same (is_note-text given utf8 ∙ ap is_note_rule same ∙ rule))

pub choose_true : (b : Bool) (x : List ℕ) → b ≡ true → Some x ≡ (if b then Some x else None)
choose_true b x is = sym (ap (λ c. (if c then Some x else None)) is)

pub choose_false : (b : Bool) (x : List ℕ) → b ≡ false → None ≡ (if b then Some x else None)
choose_false b x is = sym (ap (λ c. (if c then Some x else None)) is)

second : (a b : Bool) → (a && b) ≡ true → b ≡ true
second true b e = e
second false b e = absurd cc

two : (a b c d e : Bool) → (a && b && c && d && e) ≡ true → b ≡ true
two true true c d e h = refl
two true false c d e h = absurd cc
two false b c d e h = absurd cc

-- a note has 256 bytes at most
pub is_note-short : (text : List ℕ) → is_note text ≡ true → length text ≤ 256
unfolding is_note
is_note-short text h =
    leb-true (length text) 256 (two (nat_le 1 (length text)) (nat_le (length text) 256) (is_clean text) (not (slice_index text 0 == 32)) (not (slice_index text (length text - 1) == 32)) (second (is_utf8 text) (is_note_rule text) h))
