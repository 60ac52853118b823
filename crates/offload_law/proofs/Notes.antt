-- The labels of a plan and the tool of a list are notes.
use Rattle.std.proofs.Common.{◌≡◌, ℕ, zero, suc, ◌-◌, ◌<◌, ◌≤◌, true, Bool, List, [], ◌∷◌, length, refl, arith, codes}
use Rattle.std.specs.Prelude.{◌&&◌, ◌==◌, not, nat_le, nat_lt, slice_index}
use Rattle.std.specs.List.{list_all}
use Rattle.std.specs.Str.{is_utf8, IsAscii}
use Rattle.std.proofs.lemmas.Bool.{and_parts}
use Rattle.std.proofs.lemmas.Bool.Decides.{nat_tests}
use Rattle.std.proofs.lemmas.Str.{is_utf8-from_IsUtf8, IsUtf8-from_ascii}
use Rattle.path_text.specs.Places.{first_below, is_clean}
use Rattle.path_text.specs.Label.{is_label}
use Rattle.path_text.proofs.Labels.{is_label-name, is_label_byte-plain, name_utf8, name_clean}
use Rattle.mhl_writer.specs.Note.{is_note, is_note_rule}

note_rule : (n first last : ℕ) (clean : Bool) → 1 ≤ n → n ≤ 256 → clean ≡ true → 45 ≤ first → 45 ≤ last → (nat_le 1 n && nat_le n 256 && clean && not (first == 32) && not (last == 32)) ≡ true
note_rule n first last clean some few is low high = rw is (grind (arith, nat_tests))

both : (a b : Bool) → a ≡ true → b ≡ true → (a && b) ≡ true
both a b e f = rw (e, f) refl

-- a label is a note
pub label_note : (text : List ℕ) → is_label text ≡ true → is_note text ≡ true
unfolding is_note
label_note text h =
    let (name, short) = is_label-name text h in
    let some = name.some in
    let first = (is_label_byte-plain (slice_index text 0) (name.bytes 0 (omega (arith, some)))).low in
    let last = (is_label_byte-plain (slice_index text (length text - 1)) (name.bytes (length text - 1) (omega (arith, some)))).low in
    both (is_utf8 text) (is_note_rule text) (is_utf8-from_IsUtf8 text (name_utf8 text name))
    (note_rule (length text) (slice_index text 0) (slice_index text (length text - 1)) (is_clean text) some (omega (arith, short)) (name_clean text name) first last)

below_test : (b : ℕ) → nat_lt b 128 ≡ true → b < 128
below_test b is = grind (arith, nat_tests)

-- a text whose bytes are all below 128 is ASCII
ascii : (text : List ℕ) → list_all (λ b. nat_lt b 128) text ≡ true → IsAscii text
ascii [] all k = omega arith
ascii (b ∷ text) all zero = below_test b (and_parts (nat_lt b 128) (list_all (λ b. nat_lt b 128) text) all).0
ascii (b ∷ text) all (suc k) = ascii text (and_parts (nat_lt b 128) (list_all (λ b. nat_lt b 128) text) all).1 k

tool_rule : is_note_rule (codes "mhlstation 1") ≡ true
unfolding first_below
tool_rule = refl

pub tool_note : is_note (codes "mhlstation 1") ≡ true
unfolding is_note
tool_note =
    let text = codes "mhlstation 1" in
    both (is_utf8 text) (is_note_rule text) (is_utf8-from_IsUtf8 text (IsUtf8-from_ascii text (ascii text refl))) tool_rule
