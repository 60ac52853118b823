-- What is known of a label and of its bytes.
use Rattle.std.proofs.Common.{◌≡◌, ◌≢◌, ℕ, suc, ◌+◌, ◌-◌, ◌≤◌, ◌<◌, true, false, Bool, List, [], ◌∷◌, length, inl, inr, refl, ◌∙◌, ap, arith}
use Rattle.std.specs.Prelude.{◌⊎◌, ◌&&◌, ◌||◌, ◌==◌, not, cond, slice_index, nat_lt, nat_le, nat_eq, Option, Some, None, is_none}
use Rattle.std.specs.Str.{IsUtf8, IsAscii}
use Rattle.std.proofs.lemmas.Bool.Decides.{nat_tests}
use Rattle.std.proofs.lemmas.Str.{IsUtf8-from_ascii}
use Rattle.path_text.specs.declared.label.NameError.TheVariants.{TooLong, BadName}
use Rattle.std.specs.List.{list_any}
use Rattle.std.proofs.lemmas.List.{get_or_past}
use Rattle.path_text.specs.Places.{is_refused, refused_at, is_clean, begins_part, ends_part}
use Rattle.path_text.specs.Path.{is_empty_part, is_dot_part, offence_at, refusal_of, is_path, is_control_path, is_one_part}
use Rattle.path_text.proofs.Texts.{is_path-text}
use Rattle.path_text.specs.Label.{is_label_byte, breaks_label, label_fault_at, label_refusal_of, is_label}
use Rattle.path_text.proofs.PlaceLemmas.{first_below-none, first_below-all, refused_at-false}

pub label_fault-true : (text : List ℕ) (k : ℕ) → breaks_label text k ≡ true → label_fault_at text k ≡ Some (BadName k)
label_fault-true text k is = ap (λ b. cond b (Some (BadName k)) None) is

pub label_fault-false : (text : List ℕ) (k : ℕ) → breaks_label text k ≡ false → label_fault_at text k ≡ None
label_fault-false text k is = ap (λ b. cond b (Some (BadName k)) None) is

-- a byte of a label is ASCII, no control character, no space and no slash
pub record IsPlain (b : ℕ) : Type 0 where
  pub low : 45 ≤ b
  pub high : b < 127
  pub apart : b ≢ 47

low_of : (b : ℕ) → is_label_byte b ≡ true → 45 ≤ b
low_of b h = grind (arith, nat_tests)

high_of : (b : ℕ) → is_label_byte b ≡ true → b < 127
high_of b h = grind (arith, nat_tests)

apart_of : (b : ℕ) → is_label_byte b ≡ true → b ≢ 47
apart_of b h e = let at : is_label_byte 47 ≡ true = rw e at h in cc

pub is_label_byte-plain : (b : ℕ) → is_label_byte b ≡ true → IsPlain b
is_label_byte-plain b h = record { low = low_of b h; high = high_of b h; apart = apart_of b h }

-- some bytes of labels, the first no dot
pub record IsName (text : List ℕ) : Type 0 where
  pub some : 1 ≤ length text
  pub bytes : (k : ℕ) → k < length text → is_label_byte (slice_index text k) ≡ true
  pub first : slice_index text 0 ≢ 46

both_none : {A : Type 0} (a : Bool) (x : A) (o : Option A) → cond a (Some x) o ≡ None → (a ≡ false) × (o ≡ None)
both_none true x o e = absurd (cc e)
both_none false x o e = (refl, e)

keeps_rule : (is at_start dot : Bool) → (not is || (at_start && dot)) ≡ false → (is ≡ true) × (at_start ≡ true → dot ≡ false)
keeps_rule true true dot e = (refl, λ h. e)
keeps_rule true false dot e = (refl, λ h. absurd (cc h))
keeps_rule false at_start dot e = absurd (cc e)

kept : (text : List ℕ) (k : ℕ) → label_fault_at text k ≡ None → (is_label_byte (slice_index text k) ≡ true) × ((k == 0) ≡ true → (slice_index text k == 46) ≡ false)
kept text k e = keeps_rule (is_label_byte (slice_index text k)) (k == 0) (slice_index text k == 46) (both_none (breaks_label text k) (BadName k) None e).0

not_above : (n m : ℕ) → nat_lt n m ≡ false → m ≤ n
not_above n m e = grind (arith, nat_tests)

not_zero : (n : ℕ) → (n == 0) ≡ false → 1 ≤ n
not_zero n e = grind (arith, nat_tests)

not_equal : (n m : ℕ) → (n == m) ≡ false → n ≢ m
not_equal n m e = grind (arith, nat_tests)

none_is : {A : Type 0} (o : Option A) → is_none o ≡ true → o ≡ None
none_is None e = refl
none_is (Some x) e = absurd (cc e)

-- what a label is
pub unrefused : (text : List ℕ) → label_refusal_of text ≡ None → IsName text × (length text ≤ 64)
unfolding label_refusal_of
unrefused text none =
    let long = both_none (nat_lt 64 (length text)) (TooLong (length text)) _ none in
    let empty = both_none (length text == 0) (BadName 0) _ long.1 in
    let some : 1 ≤ length text = not_zero (length text) empty.0 in
    let at : (k : ℕ) → k < length text → label_fault_at text k ≡ None = λ k h. first_below-none (label_fault_at text) (length text) k empty.1 h in (
      record {
        some = some;
        bytes = λ k h. (kept text k (at k h)).0;
        first = not_equal (slice_index text 0) 46 ((kept text 0 (at 0 some)).1 refl);
      },
      not_above 64 (length text) long.0,
    )

pub is_label-name : (text : List ℕ) → is_label text ≡ true → IsName text × (length text ≤ 64)
is_label-name text h = unrefused text (none_is (label_refusal_of text) h)

-- a place within, or behind the end
pub inside : (k n : ℕ) → (k < n) ⊎ (n ≤ k)
inside k n = elim (nat_lt k n) as (λ b. nat_lt k n ≡ b → (k < n) ⊎ (n ≤ k)) [
  | true ↦ λ e. inl (below k n e)
  | false ↦ λ e. inr (not_above k n e)
] refl
  where
    below : (k n : ℕ) → nat_lt k n ≡ true → k < n
    below k n e = grind (arith, nat_tests)

-- so it is ASCII
pub name_ascii : (text : List ℕ) → IsName text → IsAscii text
name_ascii text name k = elim (inside k (length text)) as (λ _. slice_index text k < 128) [
  | inl h ↦ let plain : IsPlain (slice_index text k) = is_label_byte-plain _ (name.bytes k h) in omega arith
  | inr h ↦ rw (get_or_past text k 0 h) (omega arith)
]

pub name_utf8 : (text : List ℕ) → IsName text → IsUtf8 text
name_utf8 text name = IsUtf8-from_ascii text (name_ascii text name)

-- and there is no slash in it
pub name_no_slash : (text : List ℕ) → IsName text → (k : ℕ) → slice_index text k ≢ 47
name_no_slash text name k = elim (inside k (length text)) as (λ _. slice_index text k ≢ 47) [
  | inl h ↦ (is_label_byte-plain _ (name.bytes k h)).apart
  | inr h ↦ λ e. absurd (omega (arith, get_or_past text k 0 h))
]

no_slash : (text : List ℕ) → ((k : ℕ) → slice_index text k ≢ 47) → list_any (λ b. b == 47) text ≡ false
no_slash [] apart = refl
no_slash (x ∷ xs) apart = neither (x == 47) _ (differ x (apart 0)) (no_slash xs (λ k. apart (suc k)))
  where
    differ : (x : ℕ) → x ≢ 47 → (x == 47) ≡ false
    differ x apart = grind (arith, nat_tests)

    neither : (a b : Bool) → a ≡ false → b ≡ false → (a || b) ≡ false
    neither a b first e = rw (first, e) refl

pub name_one_part : (text : List ℕ) → IsName text → is_one_part text ≡ true
name_one_part text name = ap not (no_slash text (name_no_slash text name))

-- nor a refused character
plain_kept : (within : Bool) (b : ℕ) (next last : Bool) → IsPlain b → (within && (nat_lt b 32 || b == 127 || (b == 239 && next && last))) ≡ false
plain_kept within b next last plain = grind (arith, nat_tests)

pub name_kept : (text : List ℕ) (k : ℕ) → IsName text → is_refused text k ≡ false
name_kept text k name = elim (inside k (length text)) as (λ _. is_refused text k ≡ false) [
  | inl h ↦ plain_kept (nat_lt k (length text)) (slice_index text k) (slice_index text (k + 1) == 0xBF) (slice_index text (k + 2) == 0xBE || slice_index text (k + 2) == 0xBF) (is_label_byte-plain _ (name.bytes k h))
  | inr h ↦ behind k (length text) _ h
]
  where
    behind : (k n : ℕ) (rest : Bool) → n ≤ k → (nat_lt k n && rest) ≡ false
    behind k n rest h = grind (arith, nat_tests)

pub name_clean : (text : List ℕ) → IsName text → is_clean text ≡ true
name_clean text name = ap is_none (first_below-all (refused_at text) (length text) (λ k. refused_at-false text k (name_kept text k name)))

not_both : (a b : Bool) → (a ≡ true → b ≡ false) → (a && b) ≡ false
not_both true b h = h refl
not_both false b h = refl

-- nor a part that no path has
name_begins : (text : List ℕ) (k : ℕ) → IsName text → begins_part text k ≡ true → k ≡ 0
name_begins text k name e = let apart = name_no_slash text name (k - 1) in grind (arith, nat_tests)

name_not_empty : (text : List ℕ) (k : ℕ) → IsName text → is_empty_part text k ≡ false
name_not_empty text k name =
    not_both (begins_part text k) (ends_part text k) (λ begins.
    let start : k ≡ 0 = name_begins text k name begins in
    let apart : slice_index text k ≢ 47 = name_no_slash text name k in
    let some : 1 ≤ length text = name.some in
    goes_on (length text) k (slice_index text k) start some apart)
  where
    goes_on : (n k b : ℕ) → k ≡ 0 → 1 ≤ n → b ≢ 47 → (nat_le n k || b == 47) ≡ false
    goes_on n k b start some apart = grind (arith, nat_tests)

name_no_dots : (text : List ℕ) (k : ℕ) → IsName text → is_dot_part text k ≡ false
name_no_dots text k name =
    and_more (begins_part text k && slice_index text k == 46) _ (not_both (begins_part text k) (slice_index text k == 46) (λ begins.
    rw (name_begins text k name begins) (no_dot (slice_index text 0) name.first)))
  where
    no_dot : (b : ℕ) → b ≢ 46 → (b == 46) ≡ false
    no_dot b apart = grind (arith, nat_tests)

    and_more : (a b : Bool) → a ≡ false → (a && b) ≡ false
    and_more a b e = rw e refl

no_offence : (text : List ℕ) (k : ℕ) → IsName text → offence_at text k ≡ None
no_offence text k name = rw (name_kept text k name, name_not_empty text k name, name_no_dots text k name) refl

-- so a name that is not too long is a path, and no control path
pub name_unrefused : (text : List ℕ) → IsName text → length text ≤ 1024 → refusal_of text ≡ None
unfolding refusal_of
name_unrefused text name short =
    let empty : (length text == 0) ≡ false = not_zero_test (length text) name.some in
    let long : nat_lt 1024 (length text) ≡ false = within 1024 (length text) short in
    let slash : (slice_index text 0 == 47) ≡ false = no_slash_test (slice_index text 0) (name_no_slash text name 0) in
    rw (empty, long, slash) (first_below-all (offence_at text) (length text + 1) (λ k. no_offence text k name))
  where
    not_zero_test : (n : ℕ) → 1 ≤ n → (n == 0) ≡ false
    not_zero_test n h = grind (arith, nat_tests)

    within : (m n : ℕ) → n ≤ m → nat_lt m n ≡ false
    within m n h = grind (arith, nat_tests)

    no_slash_test : (b : ℕ) → b ≢ 47 → (b == 47) ≡ false
    no_slash_test b apart = grind (arith, nat_tests)

pub name_path : (text : List ℕ) → IsName text → length text ≤ 1024 → is_path text ≡ true
name_path text name short = is_path-text text (name_utf8 text name) ∙ ap is_none (name_unrefused text name short)

pub name_no_control : (text : List ℕ) → IsName text → is_control_path text ≡ false
unfolding is_control_path
name_no_control [] name = absurd (omega (arith, name.some))
name_no_control (x ∷ xs) name = rw (no_dot x name.first) refl
  where
    no_dot : (b : ℕ) → b ≢ 46 → nat_eq 46 b ≡ false
    no_dot b apart = grind (arith, nat_tests)
