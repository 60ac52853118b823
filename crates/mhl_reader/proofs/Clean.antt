-- Bytes that are UTF-8 without a character that is not allowed, and how they are put together.
use Rattle.std.proofs.Common.{◌≡◌, ◌⊎◌, inl, inr, ℕ, zero, suc, ◌+◌, ◌-◌, ◌/◌, ◌%◌, ◌≤◌, ◌<◌, Bool, true, false, not, ◌&&◌, ◌||◌, List, [], ◌∷◌, ◌++◌, length, slice_index, Option, Some, None, refl, sym, ap, subst, ◌∙◌, IsUtf8, cond, ltb, arith}
use Rattle.std.specs.Prelude.{is_none, nat_lt, nat_le, ◌==◌}
use Rattle.std.specs.List.{list_all, AllByRecursion}
use Rattle.std.specs.Str.{is_utf8}
use Rattle.std.proofs.Math.Utf8.{scalar, scalars, encode, encodes}
use Rattle.std.proofs.lemmas.Bool.{cases_eq, cases_lt, ne_eqb, and_parts, ltb-true}
use Rattle.std.proofs.lemmas.Bool.Decides.{nat_tests}
use Rattle.std.proofs.lemmas.List.{append-nil}
use Rattle.std.proofs.lemmas.List.Concat.{flat_map-append}
use Rattle.std.proofs.lemmas.Str.{IsUtf8-append, IsUtf8-nil, IsUtf8-from_ascii, IsUtf8-from_is_utf8, is_utf8-from_IsUtf8, encode_ascii, IsUtf8-encode}
use Rattle.path_text.specs.Places.{first_below, is_clean}
use Rattle.path_text.specs.Places as places
use Rattle.path_text.proofs.PlaceLemmas.{first_below-none, first_below-all}
use Rattle.path_text.specs.declared.path.PathError.TheVariants.{Empty, TooLong, Absolute, BadChar}
use Rattle.path_text.specs.Path.{is_path, refusal_of, offence_at}
use Rattle.markup.specs.Characters.{is_allowed, is_refused, refused_at, text_error}
use Rattle.mhl_writer.specs.Note.{is_note, is_note_rule}
use Rattle.mhl_writer.specs.ListText.{escape, escaped}

-- a character that is not allowed begins with these three bytes
abbrev bad : ℕ → ℕ → ℕ → Bool
bad b x y = (nat_lt b 32 && not (is_allowed b)) || (b == 0xEF && (x == 0xBF && (y == 0xBE || y == 0xBF)))

-- no character that is not allowed begins anywhere
abbrev Allowed : List ℕ → Type 0
Allowed [] = Unit {0}
Allowed (b ∷ bs) = (bad b (slice_index bs 0) (slice_index bs 1) ≡ false) × Allowed bs

-- UTF-8 without a character that is not allowed
pub record Sound (bytes : List ℕ) : Type 0 where
  pub utf8 : IsUtf8 bytes
  pub allowed : Allowed bytes

-- ---- at each place

bad_at : (bs : List ℕ) (k i j : ℕ) → i ≡ k + 1 → j ≡ k + 2 → k < length bs → Allowed bs → bad (slice_index bs k) (slice_index bs i) (slice_index bs j) ≡ false
bad_at [] k i j e f l h = absurd (omega arith)
bad_at (b ∷ bs) zero i j e f l h =
    let first : i ≡ 1 = omega arith in
    let second : j ≡ 2 = omega arith in
    rw (first, second) h.0
bad_at (b ∷ bs) (suc k) i j e f l h =
    let first : i ≡ suc (k + 1) = omega arith in
    let second : j ≡ suc (k + 2) = omega arith in
    rw (first, second) (bad_at bs k (k + 1) (k + 2) refl refl (omega arith) h.1)

allowed_from : (bs : List ℕ) → ((k i j : ℕ) → i ≡ k + 1 → j ≡ k + 2 → k < length bs → bad (slice_index bs k) (slice_index bs i) (slice_index bs j) ≡ false) → Allowed bs
allowed_from [] h = tt
allowed_from (b ∷ bs) h = (h 0 1 2 refl refl (omega arith), allowed_from bs (λ k i j e f l. h (suc k) (suc i) (suc j) (omega arith) (omega arith) (omega arith)))

unless : (n k : ℕ) (b : Bool) → (k < n → b ≡ false) → (nat_lt k n && b) ≡ false
unless n k b h =
    elim (nat_lt k n) as (λ (t : Bool). nat_lt k n ≡ t → (t && b) ≡ false) [
      | true ↦ λ e. h (ltb-true k n e)
      | false ↦ λ e. refl
    ] refl

refused_none : (bs : List ℕ) (k : ℕ) → Allowed bs → refused_at bs k ≡ None
refused_none bs k h = ap (λ (b : Bool). cond b (Some k) None) (unless (length bs) k (is_refused bs k) (λ l. bad_at bs k (k + 1) (k + 2) refl refl l h))

pub sound_text : (bs : List ℕ) → Sound bs → text_error bs ≡ None
unfolding text_error
sound_text bs h =
    let none = first_below-all (refused_at bs) (length bs) (λ k. refused_none bs k h.allowed) in
    let utf8 = is_utf8-from_IsUtf8 bs h.utf8 in
    rw (utf8, none) refl

-- ---- two in a row

bad_near : (b x y p q : ℕ) → bad b p q ≡ false → x < 128 → bad b x y ≡ false
bad_near b x y p q h l = grind (arith, nat_tests)

bad_next : (b x y q : ℕ) → bad b x q ≡ false → y < 128 → bad b x y ≡ false
bad_next b x y q h l = grind (arith, nat_tests)

still : (b : ℕ) (xs ys : List ℕ) → bad b (slice_index xs 0) (slice_index xs 1) ≡ false → slice_index ys 0 < 128 → bad b (slice_index (xs ++ ys) 0) (slice_index (xs ++ ys) 1) ≡ false
still b [] ys h l = bad_near b (slice_index ys 0) (slice_index ys 1) 0 0 h l
still b (x ∷ []) ys h l = bad_next b x (slice_index ys 0) 0 h l
still b (x ∷ y ∷ xs) ys h l = h

allowed_append : (xs ys : List ℕ) → Allowed xs → Allowed ys → slice_index ys 0 < 128 → Allowed (xs ++ ys)
allowed_append [] ys h k l = k
allowed_append (x ∷ xs) ys h k l = (still x xs ys h.0 l, allowed_append xs ys h.1 k l)

pub sound_append : (xs ys : List ℕ) → Sound xs → Sound ys → slice_index ys 0 < 128 → Sound (xs ++ ys)
sound_append xs ys h k l = record { utf8 = IsUtf8-append xs ys h.utf8 k.utf8; allowed = allowed_append xs ys h.allowed k.allowed l }

-- ---- plain bytes

-- a line feed, or a byte of ASCII from 32 on
abbrev pub is_plain : ℕ → Bool
is_plain b = b == 10 || (nat_le 32 b && nat_lt b 128)

pub plain_small : (b : ℕ) → is_plain b ≡ true → b < 128
plain_small b h = grind (arith, nat_tests)

plain_fits : (b x y : ℕ) → is_plain b ≡ true → bad b x y ≡ false
plain_fits b x y h = grind (arith, nat_tests)

plain_utf8 : (b : ℕ) (bs : List ℕ) → is_plain b ≡ true → IsUtf8 bs → IsUtf8 (b ∷ bs)
plain_utf8 b bs h u = IsUtf8-append (b ∷ []) bs (IsUtf8-from_ascii (b ∷ []) (λ k. at_most b k (plain_small b h))) u
  where
    at_most : (b k : ℕ) → b < 128 → slice_index (b ∷ []) k < 128
    at_most b zero l = l
    at_most b (suc k) l = omega arith

pub sound_nothing : Sound []
sound_nothing = record { utf8 = IsUtf8-nil; allowed = tt }

pub sound_byte : (b : ℕ) (bs : List ℕ) → is_plain b ≡ true → Sound bs → Sound (b ∷ bs)
sound_byte b bs h k = record { utf8 = plain_utf8 b bs h k.utf8; allowed = (plain_fits b (slice_index bs 0) (slice_index bs 1) h, k.allowed) }

pub sound_plain : (xs ys : List ℕ) → list_all is_plain xs ≡ true → Sound ys → Sound (xs ++ ys)
sound_plain [] ys h k = k
sound_plain (x ∷ xs) ys h k =
    let g = and_parts (is_plain x) (list_all is_plain xs) h in
    sound_byte x (xs ++ ys) g.0 (sound_plain xs ys g.1 k)

-- ---- texts that are escaped

-- a byte that stands for itself
pub record IsOwn (c : ℕ) : Type 0 where
  pub is : escape c ≡ c ∷ []
  pub no_and : c ≡ 38 → ⊥
  pub no_lt : c ≡ 60 → ⊥

pub own : (c : ℕ) → (c ≡ 38 → ⊥) → (c ≡ 60 → ⊥) → (c ≡ 62 → ⊥) → IsOwn c
own c m n k = record { is = rw (ne_eqb c 38 m, ne_eqb c 60 n, ne_eqb c 62 k) refl; no_and = m; no_lt = n }

pub special : (c : ℕ) → (c ≡ 38) ⊎ (c ≡ 60) ⊎ (c ≡ 62) ⊎ IsOwn c
special c =
    elim (cases_eq c 38) [
      | inl e ↦ inl e
      | inr m ↦ elim (cases_eq c 60) [
        | inl e ↦ inr (inl e)
        | inr n ↦ elim (cases_eq c 62) [
          | inl e ↦ inr (inr (inl e))
          | inr k ↦ inr (inr (inr (own c m n k)))
        ]
      ]
    ]

pub escaped_same : (xs : List ℕ) → AllByRecursion IsOwn xs → escaped xs ≡ xs
escaped_same [] h = refl
escaped_same (x ∷ xs) h = ap (λ (r : List ℕ). r ++ escaped xs) h.0.is ∙ ap (λ (r : List ℕ). x ∷ r) (escaped_same xs h.1)

own_starts : (c : ℕ) (t : List ℕ) → IsOwn c → escaped (c ∷ t) ≡ c ∷ escaped t
own_starts c t o = ap (λ (r : List ℕ). r ++ escaped t) o.is

-- the first byte is the same, or a byte of ASCII
near : (t : List ℕ) → (slice_index (escaped t) 0 < 128) ⊎ (slice_index (escaped t) 0 ≡ slice_index t 0)
near [] = inr refl
near (c ∷ t) =
    let small = λ (c n : ℕ) (e : c ≡ n) (l : slice_index (escaped (n ∷ t)) 0 < 128). subst (λ (c : ℕ). (slice_index (escaped (c ∷ t)) 0 < 128) ⊎ (slice_index (escaped (c ∷ t)) 0 ≡ c)) (sym e) (inl l) in
    elim (special c) [
      | inl e ↦ small c 38 e (omega arith)
      | inr (inl e) ↦ small c 60 e (omega arith)
      | inr (inr (inl e)) ↦ small c 62 e (omega arith)
      | inr (inr (inr o)) ↦ inr (ap (λ (r : List ℕ). slice_index r 0) (own_starts c t o))
    ]

-- the bytes behind are escaped
bad_escaped : (b : ℕ) (t : List ℕ) → bad b (slice_index t 0) (slice_index t 1) ≡ false → bad b (slice_index (escaped t) 0) (slice_index (escaped t) 1) ≡ false
bad_escaped b [] h = h
bad_escaped b (c ∷ t) h =
    let E = λ (c : ℕ). escaped (c ∷ t) in
    let first = λ (l : slice_index (E c) 0 < 128). bad_near b (slice_index (E c) 0) (slice_index (E c) 1) c (slice_index t 0) h l in
    let small = λ (n : ℕ) (e : c ≡ n) (l : slice_index (E n) 0 < 128). first (subst (λ (c : ℕ). slice_index (E c) 0 < 128) (sym e) l) in
    let second : bad b c (slice_index (escaped t) 0) ≡ false =
    elim (near t) [
      | inl l ↦ bad_next b c (slice_index (escaped t) 0) (slice_index t 0) h l
      | inr e ↦ subst (λ (y : ℕ). bad b c y ≡ false) (sym e) h
    ] in
    elim (special c) [
      | inl e ↦ small 38 e (omega arith)
      | inr (inl e) ↦ small 60 e (omega arith)
      | inr (inr (inl e)) ↦ small 62 e (omega arith)
      | inr (inr (inr o)) ↦ subst (λ (r : List ℕ). bad b (slice_index r 0) (slice_index r 1) ≡ false) (sym (own_starts c t o)) second
    ]

allowed_escaped : (t : List ℕ) → Allowed t → Allowed (escaped t)
allowed_escaped [] h = tt
allowed_escaped (c ∷ t) h =
    let more = allowed_escaped t h.1 in
    let P = λ (c : ℕ). Allowed (escaped (c ∷ t)) in
    elim (special c) [
      | inl e ↦ subst P (sym e) (refl, (refl, (refl, (refl, (refl, more)))))
      | inr (inl e) ↦ subst P (sym e) (refl, (refl, (refl, (refl, more))))
      | inr (inr (inl e)) ↦ subst P (sym e) (refl, (refl, (refl, (refl, more))))
      | inr (inr (inr o)) ↦ subst Allowed (sym (own_starts c t o)) (bad_escaped c t h.0, more)
    ]

high : (b : ℕ) → 128 ≤ b → IsOwn b
high b l = own b (λ e. omega arith) (λ e. omega arith) (λ e. omega arith)

-- the bytes of a character from U+0080 on stand for themselves
high_bytes : (c : ℕ) → 128 ≤ c → escaped (encode c) ≡ encode c
unfolding encode
high_bytes c l =
    let next = λ (n : ℕ). high (128 + n % 64) (omega arith) in
    let P = λ (bytes : List ℕ). escaped bytes ≡ bytes in
    let some = λ (b : Bool) (xs ys : List ℕ) (p : P xs) (q : P ys). (let r : P (cond b xs ys) = elim b as (λ (b : Bool). P (cond b xs ys)) [ true ↦ p | false ↦ q ] in r) in
    let two : P ((192 + c / 64) ∷ (128 + c % 64) ∷ []) = escaped_same _ (high (192 + c / 64) (omega arith), (next c, tt)) in
    let three : P ((224 + c / 4096) ∷ (128 + c / 64 % 64) ∷ (128 + c % 64) ∷ []) = escaped_same _ (high (224 + c / 4096) (omega arith), (next (c / 64), (next c, tt))) in
    let four : P ((240 + c / 262144) ∷ (128 + c / 4096 % 64) ∷ (128 + c / 64 % 64) ∷ (128 + c % 64) ∷ []) = escaped_same _ (high (240 + c / 262144) (omega arith), (next (c / 4096), (next (c / 64), (next c, tt)))) in
    let more = some (ltb c 2048) _ _ two (some (ltb c 65536) _ _ three four) in
    let not_one : ltb c 128 ≡ false = grind (arith, nat_tests) in
    rw not_one more

utf8_char : (c : ℕ) → scalar c ≡ true → IsUtf8 (escaped (encode c))
utf8_char c s =
    let ascii = λ (bytes : List ℕ) (h : list_all is_plain bytes ≡ true). subst IsUtf8 (append-nil bytes) ((sound_plain bytes [] h sound_nothing).utf8) in
    let low = λ (l : c < 128). (let r : IsUtf8 (escaped (c ∷ [])) =
    elim (special c) [
      | inl e ↦ subst (λ (c : ℕ). IsUtf8 (escaped (c ∷ []))) (sym e) (ascii (escaped (38 ∷ [])) refl)
      | inr (inl e) ↦ subst (λ (c : ℕ). IsUtf8 (escaped (c ∷ []))) (sym e) (ascii (escaped (60 ∷ [])) refl)
      | inr (inr (inl e)) ↦ subst (λ (c : ℕ). IsUtf8 (escaped (c ∷ []))) (sym e) (ascii (escaped (62 ∷ [])) refl)
      | inr (inr (inr o)) ↦ subst IsUtf8 (sym (own_starts c [] o)) (subst IsUtf8 (encode_ascii c l) (IsUtf8-encode c s))
    ] in r) in
    elim (cases_lt c 128) [
      | inl l ↦ subst (λ (bytes : List ℕ). IsUtf8 (escaped bytes)) (sym (encode_ascii c l)) (low l)
      | inr l ↦ subst IsUtf8 (sym (high_bytes c l)) (IsUtf8-encode c s)
    ]

utf8_chars : (cs : List ℕ) → scalars cs ≡ true → IsUtf8 (escaped (encodes cs))
utf8_chars [] h = IsUtf8-nil
utf8_chars (c ∷ cs) h =
    let g = and_parts (scalar c) (scalars cs) h in
    subst IsUtf8 (sym (flat_map-append escape (encode c) (encodes cs))) (IsUtf8-append (escaped (encode c)) (escaped (encodes cs)) (utf8_char c g.0) (utf8_chars cs g.1))

pub sound_escaped : (t : List ℕ) → Sound t → Sound (escaped t)
sound_escaped t h = record { utf8 = subst (λ (bytes : List ℕ). IsUtf8 (escaped bytes)) h.utf8.1.1 (utf8_chars h.utf8.0 h.utf8.1.0); allowed = allowed_escaped t h.allowed }

-- ---- paths and notes

not_bad : (k n b x y : ℕ) → (nat_lt k n && (nat_lt b 32 || b == 127 || (b == 0xEF && x == 0xBF && (y == 0xBE || y == 0xBF)))) ≡ false → k < n → bad b x y ≡ false
not_bad k n b x y h l = grind (arith, nat_tests)

-- UTF-8 in which no character is refused at any place
sound_unrefused : (t : List ℕ) → is_utf8 t ≡ true → ((k : ℕ) → k < length t → places.is_refused t k ≡ false) → Sound t
sound_unrefused t u h =
    let there = λ (k i j : ℕ) (e : i ≡ k + 1) (f : j ≡ k + 2) (l : k < length t).
    (let r : bad (slice_index t k) (slice_index t i) (slice_index t j) ≡ false = rw (e, f) (not_bad k (length t) (slice_index t k) (slice_index t (k + 1)) (slice_index t (k + 2)) (h k l) l) in r) in
    record { utf8 = IsUtf8-from_is_utf8 t u; allowed = allowed_from t there }

none_if : {A : Type 0} (o : Option A) → is_none o ≡ true → o ≡ None
none_if None h = refl
none_if (Some x) h = absurd (cc h)

-- where the first answer is none, its test fails
not_first : {A : Type 0} (b : Bool) (x : A) (o : Option A) → cond b (Some x) o ≡ None → (b ≡ false) × (o ≡ None)
not_first true x o e = absurd (cc e)
not_first false x o e = (refl, e)

clean_unrefused : (t : List ℕ) → is_clean t ≡ true → (k : ℕ) → k < length t → places.is_refused t k ≡ false
clean_unrefused t h k l =
    let none = none_if (first_below (places.refused_at t) (length t)) h in
    (not_first (places.is_refused t k) k None (first_below-none (places.refused_at t) (length t) k none l)).0

not_low : (k n b : ℕ) (r s : Bool) → (nat_lt k n && (nat_lt b 32 || r || s)) ≡ false → k < n → 32 ≤ b
not_low k n b r s h l = grind (arith, nat_tests)

-- no byte of a note is below 32
pub clean_high : (t : List ℕ) (k : ℕ) → is_clean t ≡ true → k < length t → 32 ≤ slice_index t k
clean_high t k h l = not_low k (length t) (slice_index t k) _ _ (clean_unrefused t h k l) l

-- what the rule of a note says
pub record NoteRule (t : List ℕ) : Type 0 where
  pub long : nat_le 1 (length t) ≡ true
  pub clean : is_clean t ≡ true
  pub first : (slice_index t 0 == 32) ≡ false
  pub last : (slice_index t (length t - 1) == 32) ≡ false

five : (a b c d e : Bool) → (a && b && c && not d && not e) ≡ true → (a ≡ true) × (c ≡ true) × (d ≡ false) × (e ≡ false)
five true true true false false h = (refl, refl, refl, refl)
five true true true false true h = absurd (cc h)
five true true true true e h = absurd (cc h)
five true true false d e h = absurd (cc h)
five true false c d e h = absurd (cc h)
five false b c d e h = absurd (cc h)

pub note_rule : (t : List ℕ) → is_note_rule t ≡ true → NoteRule t
note_rule t h =
    let g = five (nat_le 1 (length t)) (nat_le (length t) 256) (is_clean t) (slice_index t 0 == 32) (slice_index t (length t - 1) == 32) h in
    record { long = g.0; clean = g.1; first = g.2; last = g.3 }

pub sound_note : (t : List ℕ) → is_note t ≡ true → Sound t
unfolding is_note
sound_note t h =
    let g = and_parts (is_utf8 t) (is_note_rule t) h in
    sound_unrefused t g.0 (clean_unrefused t (note_rule t g.1).clean)

path_unrefused : (t : List ℕ) → refusal_of t ≡ None → (k : ℕ) → k < length t → places.is_refused t k ≡ false
unfolding refusal_of
path_unrefused t e k l =
    let a = not_first (length t == 0) Empty _ e in
    let b = not_first (nat_lt 1024 (length t)) (TooLong (length t)) _ a.1 in
    let c = not_first (slice_index t 0 == 47) Absolute _ b.1 in
    let d = first_below-none (offence_at t) (length t + 1) k c.1 (omega arith) in
    (not_first (places.is_refused t k) (BadChar k) _ d).0

pub sound_path : (t : List ℕ) → is_path t ≡ true → Sound t
unfolding is_path
sound_path t h =
    let g = and_parts (is_utf8 t) (is_none (refusal_of t)) h in
    sound_unrefused t g.0 (path_unrefused t (none_if (refusal_of t) g.1))
