-- What the texts of the leaves of a canonical list say.
use Rattle.std.proofs.Common.{◌≡◌, ℕ, zero, suc, ◌-◌, ◌/◌, ◌%◌, ◌^◌, ◌≤◌, ◌<◌, Bool, true, false, ◌&&◌, ◌||◌, List, [], ◌∷◌, length, reverse, slice_index, Option, Some, None, refl, sym, ap, subst, ◌∙◌, if◌then◌else◌, arith}
use Rattle.std.specs.Prelude.{IsTrue, IfSome, IsSomeAnd, decimal, nat_le, ◌==◌}
use Rattle.std.specs.Char.{digit_value}
use Rattle.std.specs.List.{list_all, AllByRecursion}
use Rattle.std.specs.Result.{result_ok}
use Rattle.std.specs.Str.{is_utf8}
use Rattle.std.specs.Str.Parse.{digits_value, AllDigits}
use Rattle.std.proofs.lemmas.Bool.{and_parts, and_from, lt-ltb, leb-true}
use Rattle.std.proofs.lemmas.Bool.Decides.{nat_tests}
use Rattle.std.proofs.lemmas.Fmt.{decimal_is_IsNumeral}
use Rattle.std.proofs.lemmas.List.{get_or-reverse, reverse-reverse}
use Rattle.hex.specs.Hex.{encode_lower, encode_with, lower_digits, decode_sized, IsBytes}
use Rattle.hex.proofs.HexLemmas.{decode_sized-encode_lower}
use Rattle.path_text.specs.Path.{is_path}
use Rattle.path_text.specs.Moment.{last_moment, moment_text, moment_of, is_date_byte}
use Rattle.path_text.proofs.Moments.{moment_of-text, list_all-moment_text}
use Rattle.markup.specs.Piece.{is_space, is_decimal_digit, numeral}
use Rattle.markup.specs.Taking.{back}
use Rattle.mhl_writer.specs.Note.{is_note, is_note_rule}
use Rattle.mhl_writer.specs.ListText.{escaped, IsDigest}
use Rattle.mhl_writer.specs.declared.values.HashEntry.{HashEntry}
use Rattle.mhl_reader.specs.Leaves.{trimmed, below, size_of, digest_of, date_of, note_of, is_taken, path_of, unless_taken, kept}
use Rattle.mhl_reader.proofs.Clean.{is_plain, IsOwn, own, escaped_same, note_rule, clean_high}

-- ---- no white space at the ends

back_same : (t : List ℕ) → is_space (slice_index t 0) ≡ false → back is_space t ≡ t
unfolding back
back_same [] h = refl
back_same (b ∷ bs) h = rw h refl

trimmed_same : (t : List ℕ) → is_space (slice_index t 0) ≡ false → is_space (slice_index (reverse t) 0) ≡ false → trimmed t ≡ t
unfolding trimmed
trimmed_same t h k = ap (λ (s : List ℕ). reverse (back is_space (reverse s))) (back_same t h) ∙ ap (λ (s : List ℕ). reverse s) (back_same (reverse t) k) ∙ reverse-reverse t

-- the last byte is the first of the other way round
last_first : (t : List ℕ) → 0 < length t → slice_index (reverse t) 0 ≡ slice_index t (length t - 1)
last_first t l =
    let last : length t - 1 - 0 ≡ length t - 1 = omega arith in
    get_or-reverse t 0 0 l ∙ ap (λ (k : ℕ). slice_index t k) last

-- ---- bytes that are neither white space nor markup

-- a byte from - to : or from A to z
abbrev is_sign : ℕ → Bool
is_sign b = (nat_le 45 b && nat_le b 58) || (nat_le 65 b && nat_le b 122)

sign_no_space : (b : ℕ) → is_sign b ≡ true → is_space b ≡ false
sign_no_space b h = grind (arith, nat_tests)

sign_plain : (b : ℕ) → is_sign b ≡ true → is_plain b ≡ true
sign_plain b h = grind (arith, nat_tests)

sign_differs : (b n : ℕ) → is_sign b ≡ true → is_sign n ≡ false → b ≡ n → ⊥
sign_differs b n h k e = absurd (cc (sym h ∙ ap (λ (b : ℕ). is_sign b) e ∙ k))

all_more : (p q : ℕ → Bool) → ((b : ℕ) → p b ≡ true → q b ≡ true) → (xs : List ℕ) → list_all p xs ≡ true → list_all q xs ≡ true
all_more p q f [] h = refl
all_more p q f (x ∷ xs) h =
    let g = and_parts (p x) (list_all p xs) h in
    and_from (q x) (list_all q xs) (f x g.0) (all_more p q f xs g.1)

all_there : (p : ℕ → Bool) (xs : List ℕ) (k : ℕ) → list_all p xs ≡ true → k < length xs → p (slice_index xs k) ≡ true
all_there p [] k h l = absurd (omega arith)
all_there p (x ∷ xs) zero h l = (and_parts (p x) (list_all p xs) h).0
all_there p (x ∷ xs) (suc k) h l = all_there p xs k (and_parts (p x) (list_all p xs) h).1 (omega arith)

signs_no_space : (xs : List ℕ) (k : ℕ) → list_all is_sign xs ≡ true → is_space (slice_index xs k) ≡ false
signs_no_space [] k h = refl
signs_no_space (x ∷ xs) zero h = sign_no_space x (and_parts (is_sign x) (list_all is_sign xs) h).0
signs_no_space (x ∷ xs) (suc k) h = signs_no_space xs k (and_parts (is_sign x) (list_all is_sign xs) h).1

signs_trimmed : (xs : List ℕ) → list_all is_sign xs ≡ true → trimmed xs ≡ xs
signs_trimmed [] h = trimmed_same [] refl refl
signs_trimmed (x ∷ xs) h =
    let last = subst (λ (b : ℕ). is_space b ≡ false) (sym (last_first (x ∷ xs) (omega arith))) (signs_no_space (x ∷ xs) (length (x ∷ xs) - 1) h) in
    trimmed_same (x ∷ xs) (signs_no_space (x ∷ xs) 0 h) last

signs_own : (xs : List ℕ) → list_all is_sign xs ≡ true → AllByRecursion IsOwn xs
signs_own [] h = tt
signs_own (x ∷ xs) h =
    let g = and_parts (is_sign x) (list_all is_sign xs) h in
    (own x (sign_differs x 38 g.0 refl) (sign_differs x 60 g.0 refl) (sign_differs x 62 g.0 refl), signs_own xs g.1)

-- a text of such bytes is written as it is, and is plain
pub record IsSigns (t : List ℕ) : Type 0 where
  pub same : t ≡ escaped t
  pub plain : list_all is_plain t ≡ true
  pub short : trimmed t ≡ t

is_signs : (t : List ℕ) → list_all is_sign t ≡ true → IsSigns t
is_signs t h = record { same = sym (escaped_same t (signs_own t h)); plain = all_more is_sign is_plain sign_plain t h; short = signs_trimmed t h }

-- ---- numbers

digit_is : (c : ℕ) → digit_value c < 10 → is_decimal_digit c ≡ true
digit_is c h = grind (arith, nat_tests)

digits_are : (ds : List ℕ) → AllDigits 10 ds → list_all is_decimal_digit ds ≡ true
digits_are [] h = refl
digits_are (d ∷ ds) h = and_from (is_decimal_digit d) (list_all is_decimal_digit ds) (digit_is d h.0) (digits_are ds h.1)

digit_sign : (b : ℕ) → is_decimal_digit b ≡ true → is_sign b ≡ true
digit_sign b h = grind (arith, nat_tests)

pub number_signs : (n : ℕ) → n < 2 ^ 64 → IsSigns (decimal n)
number_signs n l = is_signs (decimal n) (all_more is_decimal_digit is_sign digit_sign (decimal n) (digits_are (decimal n) (decimal_is_IsNumeral n l).0.1))

numeral_is : (ds : List ℕ) → 0 < length ds → list_all is_decimal_digit ds ≡ true → numeral is_decimal_digit 10 ds ≡ Some (digits_value 10 ds)
numeral_is [] l h = absurd (omega arith)
numeral_is (d ∷ ds) l h = ap (λ (b : Bool). if b then Some (digits_value 10 (d ∷ ds)) else None) h

below_is : (n bound : ℕ) → n < bound → below bound (Some n) ≡ Some n
below_is n bound l = ap (λ (b : Bool). if b then Some n else None) (lt-ltb n bound l)

pub size_told : (n : ℕ) → n < 2 ^ 64 → size_of (decimal n) ≡ Some n
unfolding size_of
size_told n l =
    let d = decimal_is_IsNumeral n l in
    ap (λ (t : List ℕ). below (2 ^ 64) (numeral is_decimal_digit 10 t)) (number_signs n l).short
    ∙ ap (below (2 ^ 64)) (numeral_is (decimal n) d.0.0 (digits_are (decimal n) d.0.1) ∙ ap (λ (n : ℕ). Some n) d.1)
    ∙ below_is n (2 ^ 64) l

-- ---- digests

hex_signs : (xs : List ℕ) → IsBytes xs → list_all is_sign (encode_lower xs) ≡ true
unfolding encode_with
hex_signs [] h = refl
hex_signs (b ∷ xs) h =
    let fits : b < 256 = h 0 in
    let digit = λ (d : ℕ) (l : d < 16). all_there is_sign lower_digits d refl l in
    let more = hex_signs xs (λ k. h (suc k)) in
    and_from (is_sign (slice_index lower_digits (b / 16))) _ (digit (b / 16) (omega arith)) (and_from (is_sign (slice_index lower_digits (b % 16))) _ (digit (b % 16) (omega arith)) more)

pub digest_signs : (n : ℕ) (digest : List ℕ) → IsDigest n digest → IsSigns (encode_lower digest)
digest_signs n digest good = is_signs (encode_lower digest) (hex_signs digest good.bytes)

pub digest_told : (n : ℕ) (digest : List ℕ) → IsDigest n digest → digest_of n (encode_lower digest) ≡ Some digest
unfolding digest_of
digest_told n digest good =
    ap (λ (t : List ℕ). result_ok (decode_sized t n)) (digest_signs n digest good).short
    ∙ ap result_ok (decode_sized-encode_lower digest n good.long good.bytes)

-- ---- moments

-- a moment that a date tells
abbrev pub IsMoment : ℕ → Type 0
IsMoment t = t ≤ last_moment

date_sign : (b : ℕ) → is_date_byte b ≡ true → is_sign b ≡ true
date_sign b h = grind (arith, nat_tests)

pub moment_signs : (t : ℕ) → IsSigns (moment_text t)
moment_signs t = is_signs (moment_text t) (all_more is_date_byte is_sign date_sign (moment_text t) (list_all-moment_text t))

pub date_told : (t : ℕ) → t ≤ last_moment → date_of (moment_text t) ≡ Some t
unfolding date_of
date_told t l = ap moment_of (moment_signs t).short ∙ moment_of-text t l

-- ---- notes and paths

-- a text that is a note
abbrev pub IsNote : List ℕ → Type 0
IsNote t = IsTrue (is_note t)

no_space : (b : ℕ) → 32 ≤ b → (b == 32) ≡ false → is_space b ≡ false
no_space b l h = grind (arith, nat_tests)

note_trimmed : (t : List ℕ) → is_note_rule t ≡ true → trimmed t ≡ t
note_trimmed t h =
    let r = note_rule t h in
    let long : 1 ≤ length t = leb-true 1 (length t) r.long in
    let first = no_space (slice_index t 0) (clean_high t 0 r.clean (omega arith)) r.first in
    let last = no_space (slice_index t (length t - 1)) (clean_high t (length t - 1) r.clean (omega arith)) r.last in
    trimmed_same t first (subst (λ (b : ℕ). is_space b ≡ false) (sym (last_first t (omega arith))) last)

note_keeps : (t : List ℕ) → is_note t ≡ true → trimmed t ≡ t
unfolding is_note
note_keeps t h = note_trimmed t (and_parts (is_utf8 t) (is_note_rule t) h).1

pub note_told : (t : List ℕ) → is_note t ≡ true → note_of t ≡ Some t
unfolding note_of
note_told t h =
    ap (λ (s : List ℕ). if is_note s then Some s else None) (note_keeps t h)
    ∙ ap (λ (b : Bool). if b then Some t else None) h

pub path_told : (earlier : List HashEntry) (t : List ℕ) → is_path t ≡ true → is_taken earlier t ≡ false → unless_taken earlier (path_of t) ≡ Some t
unfolding path_of
path_told earlier t h k =
    ap (λ (b : Bool). unless_taken earlier (if b then Some t else None)) h ∙ ap (λ (b : Bool). if b then None else Some t) k

-- ---- values that may be there

-- one that is there is met and kept
abbrev pub met : {A : Type 0} → Option A → Option (Option A)
met None = None
met (Some x) = Some (Some x)

pub kept_met : {A : Type 0} (o : Option A) → kept (met o) ≡ o
kept_met None = refl
kept_met (Some x) = refl

pub if_there : {A : Type 0} (Good : A → Type 0) (o : Option A) → IsSomeAnd o Good → IfSome o Good
if_there Good None h = absurd h
if_there Good (Some x) h = h
