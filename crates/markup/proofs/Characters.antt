-- Where the first character begins that XML 1.0 does not allow.
use Rattle.std.proofs.Common.{◌≡◌, ◌≢◌, ℕ, zero, suc, ◌+◌, ◌*◌, ◌/◌, ◌%◌, ◌<◌, ◌≤◌, Bool, true, false, cond, List, [], ◌∷◌, ◌++◌, length, Option, Some, None, refl, sym, ◌∙◌, ap, subst, arith, length-append, eqb-true}
use Rattle.std.specs.Prelude.{◌==◌, ◌&&◌, ◌||◌, not, nat_lt, slice_index}
use Rattle.std.specs.Option.{option_map, option_or}
use Rattle.std.specs.List.{list_all}
use lib.Utf8.{scalar}
use Rattle.std.specs.Char.{encode_utf8}
use Rattle.std.specs.Str.{IsUtf8, is_utf8, chars, all_scalars, encode_utf8_all}
use Rattle.std.specs.Str.Lossy.{utf8_valid_len}
use Rattle.std.proofs.lemmas.Bool.{cond-true, cond-false}
use Rattle.std.proofs.lemmas.Bool.Decides.{nat_tests}
use Rattle.std.proofs.lemmas.List.{get_or-append-add}
use Rattle.std.proofs.lemmas.Str.{encodes-chars, scalars-chars, IsUtf8-from_is_utf8}
use Rattle.path_text.specs.Places.{first_below}
use Rattle.path_text.proofs.PlaceLemmas.{first_below-more}
use Rattle.markup.specs.declared.text.TextError.TheVariants.{NotUtf8, Refused}
use Rattle.markup.specs.Characters.{is_allowed, is_refused, refused_at, text_error, FirstRefused, AllAllowed}
use Rattle.markup.proofs.CheckedTexts.{refused_at-true, refused_at-false}

-- the test by the three bytes that it reads
abbrev refused_bytes : ℕ → ℕ → ℕ → Bool
refused_bytes a b c = (nat_lt a 32 && not (is_allowed a)) || (a == 0xEF && (b == 0xBF && (c == 0xBE || c == 0xBF)))

all_false : (x y z : Bool) → (x ≡ true → y ≡ true → z ≡ true → ⊥) → (x && (y && z)) ≡ false
all_false true true true never = absurd (never refl refl refl)
all_false true true false never = refl
all_false true false z never = refl
all_false false y z never = refl

or_false : (x y z : Bool) → x ≡ false → z ≡ false → ((x && y) || z) ≡ false
or_false true y z e f = absurd (cc e)
or_false false y z e f = f

-- a byte from 32 on, other than EF before BF and a last byte
wide : (a b c : ℕ) → 32 ≤ a → (a ≡ 0xEF → b ≡ 0xBF → 0xBE ≤ c → ⊥) → refused_bytes a b c ≡ false
wide a b c h never = or_false (nat_lt a 32) _ _ (grind (arith, nat_tests)) (all_false (a == 0xEF) (b == 0xBF) (c == 0xBE || c == 0xBF) (λ x y z. never (eqb-true a 0xEF x) (eqb-true b 0xBF y) (late z)))
  where
    late : (c == 0xBE || c == 0xBF) ≡ true → 0xBE ≤ c
    late z = grind (arith, nat_tests)

plain : (a b c : ℕ) → 32 ≤ a → a ≢ 0xEF → refused_bytes a b c ≡ false
plain a b c h other = wide a b c h (λ x y z. other x)

narrow : (a b c : ℕ) → a < 32 → refused_bytes a b c ≡ not (is_allowed a)
narrow a b c h = chosen (is_allowed a) (nat_lt a 32) (a == 0xEF) _ (grind (arith, nat_tests)) (grind (arith, nat_tests))
  where
    chosen : (x y z w : Bool) → y ≡ true → z ≡ false → ((y && not x) || (z && w)) ≡ not x
    chosen true true false w e f = refl
    chosen false true false w e f = refl
    chosen x true true w e f = absurd (cc f)
    chosen x false z w e f = absurd (cc e)

allowed_wide : (c : ℕ) → scalar c ≡ true → 32 ≤ c → c ≢ 0xFFFE → c ≢ 0xFFFF → is_allowed c ≡ true
allowed_wide c is h a b = grind (arith, nat_tests)

-- the places of a character's bytes
abbrev pub ByFirst : List ℕ → ℕ → Bool → Type 0
ByFirst text n refused = first_below (refused_at text) n ≡ cond refused (Some 0) None

one_byte : (text : List ℕ) (refused : Bool) → 1 ≤ length text → is_refused text 0 ≡ refused → ByFirst text 1 refused
unfolding first_below
one_byte text true long is = refused_at-true text 0 (omega arith) is
one_byte text false long is = refused_at-false text 0 (omega arith) is

more_bytes : (text : List ℕ) (n : ℕ) (refused : Bool) → suc n ≤ length text → is_refused text n ≡ false → ByFirst text n refused → ByFirst text (suc n) refused
unfolding first_below
more_bytes text n true long is so_far = rw so_far refl
more_bytes text n false long is so_far = rw so_far (refused_at-false text n (omega arith) is)

ascii : (c : ℕ) → c < 128 → (b d : ℕ) → refused_bytes c b d ≡ not (is_allowed c)
ascii c h b d =
    elim (nat_lt c 32) as (λ t. nat_lt c 32 ≡ t → refused_bytes c b d ≡ not (is_allowed c)) [
      | true ↦ λ e. let low : c < 32 = grind (arith, nat_tests) in narrow c b d low
      | false ↦ λ e. let high : 32 ≤ c = grind (arith, nat_tests) in plain c b d high (omega arith) ∙ sym (ap not (allowed_wide c (grind (arith, nat_tests)) high (omega arith) (omega arith)))
    ] refl

one : (c : ℕ) (ys : List ℕ) → c < 128 → ByFirst (c ∷ ys) 1 (not (is_allowed c))
one c ys h = one_byte (c ∷ ys) (not (is_allowed c)) (omega arith) (ascii c h (slice_index (c ∷ ys) (0 + 1)) (slice_index (c ∷ ys) (0 + 2)))

plain_at : (text : List ℕ) (k a : ℕ) → slice_index text k ≡ a → 32 ≤ a → a ≢ 0xEF → is_refused text k ≡ false
plain_at text k a is h other = plain (slice_index text k) (slice_index text (k + 1)) (slice_index text (k + 2)) (omega arith) (omega arith)

two : (c : ℕ) (ys : List ℕ) → 128 ≤ c → c < 2048 → ByFirst ((192 + c / 64) ∷ (128 + c % 64) ∷ ys) 2 false
two c ys low high =
    let text : List ℕ = (192 + c / 64) ∷ (128 + c % 64) ∷ ys in
    more_bytes text 1 false (omega arith) (plain_at text 1 (128 + c % 64) refl (omega arith) (omega arith)) (one_byte text false (omega arith) (plain_at text 0 (192 + c / 64) refl (omega arith) (omega arith)))

no_last : (c : ℕ) → c < 65536 → c ≢ 0xFFFE → c ≢ 0xFFFF → 224 + c / 4096 ≡ 0xEF → 128 + c / 64 % 64 ≡ 0xBF → 0xBE ≤ 128 + c % 64 → ⊥
no_last c high a b x y z =
    let whole : c ≡ 4096 * (c / 4096) + 64 * (c / 64 % 64) + c % 64 = omega arith in
    omega arith

three : (c : ℕ) (ys : List ℕ) → 2048 ≤ c → c < 65536 → c ≢ 0xFFFE → c ≢ 0xFFFF → ByFirst ((224 + c / 4096) ∷ (128 + c / 64 % 64) ∷ (128 + c % 64) ∷ ys) 3 false
three c ys low high a b =
    let text : List ℕ = (224 + c / 4096) ∷ (128 + c / 64 % 64) ∷ (128 + c % 64) ∷ ys in
    more_bytes text 2 false (omega arith) (plain_at text 2 (128 + c % 64) refl (omega arith) (omega arith))
    (more_bytes text 1 false (omega arith) (plain_at text 1 (128 + c / 64 % 64) refl (omega arith) (omega arith))
    (one_byte text false (omega arith) (wide (224 + c / 4096) (128 + c / 64 % 64) (128 + c % 64) (omega arith) (no_last c high a b))))

four : (c : ℕ) (ys : List ℕ) → 65536 ≤ c → c < 1114112 → ByFirst ((240 + c / 262144) ∷ (128 + c / 4096 % 64) ∷ (128 + c / 64 % 64) ∷ (128 + c % 64) ∷ ys) 4 false
four c ys low high =
    let text : List ℕ = (240 + c / 262144) ∷ (128 + c / 4096 % 64) ∷ (128 + c / 64 % 64) ∷ (128 + c % 64) ∷ ys in
    more_bytes text 3 false (omega arith) (plain_at text 3 (128 + c % 64) refl (omega arith) (omega arith))
    (more_bytes text 2 false (omega arith) (plain_at text 2 (128 + c / 64 % 64) refl (omega arith) (omega arith))
    (more_bytes text 1 false (omega arith) (plain_at text 1 (128 + c / 4096 % 64) refl (omega arith) (omega arith))
    (one_byte text false (omega arith) (plain_at text 0 (240 + c / 262144) refl (omega arith) (omega arith)))))

-- U+FFFE and U+FFFF
last_but_one : (ys : List ℕ) → ByFirst (0xEF ∷ 0xBF ∷ 0xBE ∷ ys) 3 true
last_but_one ys =
    let text = 0xEF ∷ 0xBF ∷ 0xBE ∷ ys in
    more_bytes text 2 true (omega arith) refl (more_bytes text 1 true (omega arith) refl (one_byte text true (omega arith) refl))

last_of_all : (ys : List ℕ) → ByFirst (0xEF ∷ 0xBF ∷ 0xBF ∷ ys) 3 true
last_of_all ys =
    let text = 0xEF ∷ 0xBF ∷ 0xBF ∷ ys in
    more_bytes text 2 true (omega arith) refl (more_bytes text 1 true (omega arith) refl (one_byte text true (omega arith) refl))

encode-one : (c : ℕ) → c < 128 → encode_utf8 c ≡ c ∷ []
unfolding encode_utf8
encode-one c h = cond-true (nat_lt c 128) _ _ (grind (arith, nat_tests))

encode-two : (c : ℕ) → 128 ≤ c → c < 2048 → encode_utf8 c ≡ (192 + c / 64) ∷ (128 + c % 64) ∷ []
unfolding encode_utf8
encode-two c low h = cond-false (nat_lt c 128) _ _ (grind (arith, nat_tests)) ∙ cond-true (nat_lt c 2048) _ _ (grind (arith, nat_tests))

encode-three : (c : ℕ) → 2048 ≤ c → c < 65536 → encode_utf8 c ≡ (224 + c / 4096) ∷ (128 + c / 64 % 64) ∷ (128 + c % 64) ∷ []
unfolding encode_utf8
encode-three c low h = cond-false (nat_lt c 128) _ _ (grind (arith, nat_tests)) ∙ cond-false (nat_lt c 2048) _ _ (grind (arith, nat_tests)) ∙ cond-true (nat_lt c 65536) _ _ (grind (arith, nat_tests))

encode-four : (c : ℕ) → 65536 ≤ c → encode_utf8 c ≡ (240 + c / 262144) ∷ (128 + c / 4096 % 64) ∷ (128 + c / 64 % 64) ∷ (128 + c % 64) ∷ []
unfolding encode_utf8
encode-four c low = cond-false (nat_lt c 128) _ _ (grind (arith, nat_tests)) ∙ cond-false (nat_lt c 2048) _ _ (grind (arith, nat_tests)) ∙ cond-false (nat_lt c 65536) _ _ (grind (arith, nat_tests))

-- of the places of a character's bytes the first is said of, and only where XML 1.0 does not allow it
abbrev pub CharacterPlaces : ℕ → List ℕ → List ℕ → Type 0
CharacterPlaces c ys bytes = ByFirst (bytes ++ ys) (length bytes) (not (is_allowed c))

wide_places : (c : ℕ) (ys bytes : List ℕ) → scalar c ≡ true → 32 ≤ c → c ≢ 0xFFFE → c ≢ 0xFFFF → ByFirst (bytes ++ ys) (length bytes) false → CharacterPlaces c ys bytes
wide_places c ys bytes is h a b places = rw (allowed_wide c is h a b) places

is_below : (a b : ℕ) → nat_lt a b ≡ true → a < b
is_below a b e = grind (arith, nat_tests)

not_below : (a b : ℕ) → nat_lt a b ≡ false → b ≤ a
not_below a b e = grind (arith, nat_tests)

three_places : (c : ℕ) (ys : List ℕ) → scalar c ≡ true → 2048 ≤ c → c < 65536 → CharacterPlaces c ys ((224 + c / 4096) ∷ (128 + c / 64 % 64) ∷ (128 + c % 64) ∷ [])
three_places c ys is low high =
    elim (c == 0xFFFE) as (λ t. (c == 0xFFFE) ≡ t → CharacterPlaces c ys ((224 + c / 4096) ∷ (128 + c / 64 % 64) ∷ (128 + c % 64) ∷ [])) [
      | true ↦ λ e. let P : ℕ → Type 0 = λ x. CharacterPlaces x ys ((224 + x / 4096) ∷ (128 + x / 64 % 64) ∷ (128 + x % 64) ∷ []) in subst P (sym (eqb-true c 0xFFFE e)) (last_but_one ys)
      | false ↦ λ e. elim (c == 0xFFFF) as (λ t. (c == 0xFFFF) ≡ t → CharacterPlaces c ys ((224 + c / 4096) ∷ (128 + c / 64 % 64) ∷ (128 + c % 64) ∷ [])) [
        | true ↦ λ f. let P : ℕ → Type 0 = λ x. CharacterPlaces x ys ((224 + x / 4096) ∷ (128 + x / 64 % 64) ∷ (128 + x % 64) ∷ []) in subst P (sym (eqb-true c 0xFFFF f)) (last_of_all ys)
        | false ↦ λ f. let a : c ≢ 0xFFFE = grind (arith, nat_tests) in let b : c ≢ 0xFFFF = grind (arith, nat_tests) in wide_places c ys ((224 + c / 4096) ∷ (128 + c / 64 % 64) ∷ (128 + c % 64) ∷ []) is (omega arith) a b (three c ys low high a b)
      ] refl
    ] refl

character_places : (c : ℕ) (ys : List ℕ) → scalar c ≡ true → CharacterPlaces c ys (encode_utf8 c)
character_places c ys is =
    elim (nat_lt c 128) as (λ t. nat_lt c 128 ≡ t → CharacterPlaces c ys (encode_utf8 c)) [
      | true ↦ λ e. subst (CharacterPlaces c ys) (sym (encode-one c (is_below c 128 e))) (one c ys (is_below c 128 e))
      | false ↦ λ e. elim (nat_lt c 2048) as (λ t. nat_lt c 2048 ≡ t → CharacterPlaces c ys (encode_utf8 c)) [
        | true ↦ λ f. subst (CharacterPlaces c ys) (sym (encode-two c (not_below c 128 e) (is_below c 2048 f))) (let low = not_below c 128 e in let high = is_below c 2048 f in wide_places c ys ((192 + c / 64) ∷ (128 + c % 64) ∷ []) is (omega arith) (omega arith) (omega arith) (two c ys low high))
        | false ↦ λ f. elim (nat_lt c 65536) as (λ t. nat_lt c 65536 ≡ t → CharacterPlaces c ys (encode_utf8 c)) [
          | true ↦ λ g. subst (CharacterPlaces c ys) (sym (encode-three c (not_below c 2048 f) (is_below c 65536 g))) (three_places c ys is (not_below c 2048 f) (is_below c 65536 g))
          | false ↦ λ g. let low = not_below c 65536 g in let high : c < 1114112 = grind (arith, nat_tests) in subst (CharacterPlaces c ys) (sym (encode-four c low)) (wide_places c ys ((240 + c / 262144) ∷ (128 + c / 4096 % 64) ∷ (128 + c / 64 % 64) ∷ (128 + c % 64) ∷ []) is (omega arith) (omega arith) (omega arith) (four c ys low high))
        ] refl
      ] refl
    ] refl

-- places behind other bytes
refused_bytes-behind : (xs ys : List ℕ) (k : ℕ) → is_refused (xs ++ ys) (length xs + k) ≡ is_refused ys k
refused_bytes-behind xs ys k =
    let second : length xs + k + 1 ≡ length xs + (k + 1) = omega arith in
    let third : length xs + k + 2 ≡ length xs + (k + 2) = omega arith in
    same_bytes _ _ _ _ _ _ (get_or-append-add xs ys k 0) (ap (slice_index (xs ++ ys)) second ∙ get_or-append-add xs ys (k + 1) 0) (ap (slice_index (xs ++ ys)) third ∙ get_or-append-add xs ys (k + 2) 0)
  where
    same_bytes : (a a' b b' c c' : ℕ) → a ≡ a' → b ≡ b' → c ≡ c' → refused_bytes a b c ≡ refused_bytes a' b' c'
    same_bytes a a' b b' c c' e f g = ap (λ x. refused_bytes x b c) e ∙ ap (λ x. refused_bytes a' x c) f ∙ ap (λ x. refused_bytes a' b' x) g

abbrev pub moved : ℕ → Option ℕ → Option ℕ
moved n = option_map (λ k. n + k)

moved_chosen : (n k : ℕ) (b : Bool) → cond b (Some (n + k)) None ≡ moved n (cond b (Some k) None)
moved_chosen n k true = refl
moved_chosen n k false = refl

moved_or : (n : ℕ) (o p : Option ℕ) → option_or (moved n o) (moved n p) ≡ moved n (option_or o p)
moved_or n None p = refl
moved_or n (Some k) p = refl

refused_at-behind : (xs ys : List ℕ) (k : ℕ) → refused_at (xs ++ ys) (length xs + k) ≡ moved (length xs) (refused_at ys k)
refused_at-behind xs ys k =
    let within : nat_lt (length xs + k) (length (xs ++ ys)) ≡ nat_lt k (length ys) = ap (nat_lt (length xs + k)) (length-append xs ys) ∙ beyond (length xs) k (length ys) in
    ap (λ b. cond (b && is_refused (xs ++ ys) (length xs + k)) (Some (length xs + k)) None) within
    ∙ ap (λ b. cond (nat_lt k (length ys) && b) (Some (length xs + k)) None) (refused_bytes-behind xs ys k)
    ∙ moved_chosen (length xs) k (nat_lt k (length ys) && is_refused ys k)
  where
    beyond : (n k m : ℕ) → nat_lt (n + k) (n + m) ≡ nat_lt k m
    beyond n k m = grind (arith, nat_tests)

first_behind : (xs ys : List ℕ) (n : ℕ) → first_below (refused_at (xs ++ ys)) (length xs) ≡ None → first_below (refused_at (xs ++ ys)) (length xs + n) ≡ moved (length xs) (first_below (refused_at ys) n)
unfolding first_below
first_behind xs ys zero none = let e : length xs + 0 ≡ length xs = omega arith in ap (first_below (refused_at (xs ++ ys))) e ∙ none
first_behind xs ys (suc n) none =
    let e : length xs + suc n ≡ suc (length xs + n) = omega arith in
    ap (first_below (refused_at (xs ++ ys))) e
    ∙ ap (λ o. option_or o (refused_at (xs ++ ys) (length xs + n))) (first_behind xs ys n none)
    ∙ ap (option_or (moved (length xs) (first_below (refused_at ys) n))) (refused_at-behind xs ys n)
    ∙ moved_or (length xs) (first_below (refused_at ys) n) (refused_at ys n)

-- the place of the first of these characters that XML 1.0 does not allow
abbrev pub first_of : List ℕ → Option ℕ
first_of [] = None
first_of (c ∷ cs) = cond (is_allowed c) (moved (length (encode_utf8 c)) (first_of cs)) (Some 0)

step : (xs ys : List ℕ) (allowed : Bool) (first : Option ℕ) → ByFirst (xs ++ ys) (length xs) (not allowed) → first_below (refused_at ys) (length ys) ≡ first → first_below (refused_at (xs ++ ys)) (length (xs ++ ys)) ≡ cond allowed (moved (length xs) first) (Some 0)
step xs ys true first here behind = ap (first_below (refused_at (xs ++ ys))) (length-append xs ys) ∙ first_behind xs ys (length ys) here ∙ ap (moved (length xs)) behind
step xs ys false first here behind = let long = length-append xs ys in first_below-more (refused_at (xs ++ ys)) (length xs) (length (xs ++ ys)) 0 (omega arith) here

both_true : (a b : Bool) → (a && b) ≡ true → (a ≡ true) × (b ≡ true)
both_true true b e = (refl, e)
both_true false b e = absurd (cc e)

first_is : (cs : List ℕ) → all_scalars cs ≡ true → first_below (refused_at (encode_utf8_all cs)) (length (encode_utf8_all cs)) ≡ first_of cs
unfolding first_below
first_is [] is = refl
first_is (c ∷ cs) is =
    let each = both_true (scalar c) (all_scalars cs) is in
    step (encode_utf8 c) (encode_utf8_all cs) (is_allowed c) (first_of cs) (character_places c (encode_utf8_all cs) each.0) (first_is cs each.1)

-- what a place says of the characters
pub record FirstOf (cs : List ℕ) (place : ℕ) : Type 0 where
  pub front : List ℕ
  pub character : ℕ
  pub rest : List ℕ
  pub whole : cs ≡ front ++ character ∷ rest
  pub before : list_all is_allowed front ≡ true
  pub refused : is_allowed character ≡ false
  pub begins : place ≡ length (encode_utf8_all front)

moved_none : (n : ℕ) (o : Option ℕ) → moved n o ≡ None → o ≡ None
moved_none n None e = refl
moved_none n (Some k) e = absurd (cc e)

moved_some : (n place : ℕ) (o : Option ℕ) → moved n o ≡ Some place → (k : ℕ) × (o ≡ Some k) × (place ≡ n + k)
moved_some n place None e = absurd (cc e)
moved_some n place (Some k) e = (k, refl, cc e)

none_of : (cs : List ℕ) → first_of cs ≡ None → list_all is_allowed cs ≡ true
none_of [] e = refl
none_of (c ∷ cs) e =
    elim (is_allowed c) as (λ b. cond b (moved (length (encode_utf8 c)) (first_of cs)) (Some 0) ≡ None → (b && list_all is_allowed cs) ≡ true) [
      | true ↦ λ e. none_of cs (moved_none (length (encode_utf8 c)) (first_of cs) e)
      | false ↦ λ e. absurd (cc e)
    ] e

first_later : (c k place : ℕ) (cs : List ℕ) → is_allowed c ≡ true → place ≡ length (encode_utf8 c) + k → FirstOf cs k → FirstOf (c ∷ cs) place
first_later c k place cs is at_k f = record {
  front = c ∷ f.front;
  character = f.character;
  rest = f.rest;
  whole = ap (λ (xs : List ℕ). c ∷ xs) f.whole;
  before = ap (λ b. b && list_all is_allowed f.front) is ∙ f.before;
  refused = f.refused;
  begins = at_k ∙ ap (λ n. length (encode_utf8 c) + n) f.begins ∙ sym (length-append (encode_utf8 c) (encode_utf8_all f.front));
}

some_of : (cs : List ℕ) (place : ℕ) → first_of cs ≡ Some place → FirstOf cs place
some_of [] place e = absurd (cc e)
some_of (c ∷ cs) place e =
    elim (is_allowed c) as (λ b. is_allowed c ≡ b → cond b (moved (length (encode_utf8 c)) (first_of cs)) (Some 0) ≡ Some place → FirstOf (c ∷ cs) place) [
      | true ↦ λ is e. let later = moved_some (length (encode_utf8 c)) place (first_of cs) e in first_later c later.0 place cs is later.2 (some_of cs later.0 later.1)
      | false ↦ λ is e. record { front = []; character = c; rest = cs; whole = refl; before = refl; refused = is; begins = cc e }
    ] refl e

bytes_first : (bytes : List ℕ) → IsUtf8 bytes → first_below (refused_at bytes) (length bytes) ≡ first_of (chars bytes)
bytes_first bytes utf8 =
    let P : List ℕ → Type 0 = λ xs. first_below (refused_at xs) (length xs) ≡ first_of (chars bytes) in
    subst P (encodes-chars bytes utf8) (first_is (chars bytes) (scalars-chars bytes utf8))

told_none : (o : Option ℕ) → option_map (λ at. Refused at) o ≡ None → o ≡ None
told_none None e = refl
told_none (Some k) e = absurd (cc e)

told_some : (o : Option ℕ) (place : ℕ) → option_map (λ at. Refused at) o ≡ Some (Refused place) → o ≡ Some place
told_some None place e = absurd (cc e)
told_some (Some k) place e = cc e

pub no_error : (bytes : List ℕ) → text_error bytes ≡ None → AllAllowed bytes
unfolding text_error
no_error bytes e =
    elim (is_utf8 bytes) as (λ b. is_utf8 bytes ≡ b → cond b (option_map (λ at. Refused at) (first_below (refused_at bytes) (length bytes))) (Some (NotUtf8 (utf8_valid_len bytes))) ≡ None → AllAllowed bytes) [
      | true ↦ λ valid e. let utf8 = IsUtf8-from_is_utf8 bytes valid in (utf8, none_of (chars bytes) (sym (bytes_first bytes utf8) ∙ told_none _ e))
      | false ↦ λ valid e. absurd (cc e)
    ] refl e

first_in : (bytes : List ℕ) (place : ℕ) → IsUtf8 bytes → FirstOf (chars bytes) place → FirstRefused bytes place
first_in bytes place utf8 f =
    let P : List ℕ → Type 0 = λ cs. all_scalars cs ≡ true in
    record {
      front = f.front;
      character = f.character;
      rest = f.rest;
      are = subst P f.whole (scalars-chars bytes utf8);
      whole = sym (encodes-chars bytes utf8) ∙ ap encode_utf8_all f.whole;
      before = f.before;
      refused = f.refused;
      begins = f.begins;
    }

pub first_error : (bytes : List ℕ) (place : ℕ) → text_error bytes ≡ Some (Refused place) → FirstRefused bytes place
unfolding text_error
first_error bytes place e =
    elim (is_utf8 bytes) as (λ b. is_utf8 bytes ≡ b → cond b (option_map (λ at. Refused at) (first_below (refused_at bytes) (length bytes))) (Some (NotUtf8 (utf8_valid_len bytes))) ≡ Some (Refused place) → FirstRefused bytes place) [
      | true ↦ λ valid e. let utf8 = IsUtf8-from_is_utf8 bytes valid in first_in bytes place utf8 (some_of (chars bytes) place (sym (bytes_first bytes utf8) ∙ told_some _ place e))
      | false ↦ λ valid e. absurd (cc e)
    ] refl e
