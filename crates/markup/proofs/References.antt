-- The numbers of references, as their digits are read.
use Rattle.std.proofs.Common.{◌≡◌, ◌≢◌, ℕ, ◌+◌, ◌-◌, ◌*◌, ◌<◌, ◌≤◌, Bool, true, false, cond, List, [], ◌∷◌, length, get_or, take, drop, min, Option, Some, None, refl, sym, ◌∙◌, ap, subst, arith}
use Rattle.std.specs.Prelude.{◌==◌, ◌&&◌, nat_le}
use Rattle.std.specs.List.{list_all}
use Rattle.std.specs.Option.{option_map}
use Rattle.std.specs.Char.{digit_value, is_digit}
use Rattle.std.specs.Str.Parse.{digits_value, digits_value_after}
use Rattle.std.proofs.lemmas.Bool.{cond-true, cond-false}
use Rattle.std.proofs.lemmas.Bool.Decides.{nat_tests}
use Rattle.std.proofs.lemmas.Nat.{mul-le}
use Rattle.std.proofs.lemmas.List.{at_drop_all, take_all}
use Rattle.markup.specs.Characters.{is_allowed}
use Rattle.markup.specs.Piece.{allowed, allowed_number, number_referred, referred_by_number, numeral, is_decimal_digit, is_hexadecimal_digit}
use Rattle.markup.specs.Token.{Finds}

-- a number kept at most so large
abbrev pub capped : ℕ → ℕ
capped n = min n 0x110000

-- the number that digits write behind those of n, kept so at each step
abbrev pub read : ℕ → ℕ → List ℕ → Option ℕ
read radix n [] = Some n
read radix n (d ∷ ds) = cond (is_digit d radix) (read radix (capped (n * radix + digit_value d)) ds) None

-- what is kept makes no difference later
capped-step : (most n radix d : ℕ) → 1 ≤ radix → min (min n most * radix + d) most ≡ min (n * radix + d) most
capped-step most n radix d h =
    let least : most * 1 ≤ most * radix = mul-le most 1 most radix (omega arith) h in
    let more : n * 1 ≤ n * radix = mul-le n 1 n radix (omega arith) h in
    elim (nat_le n most) as (λ b. nat_le n most ≡ b → min (min n most * radix + d) most ≡ min (n * radix + d) most) [
      | true ↦ λ e. let same : min n most ≡ n = grind (arith, nat_tests) in ap (λ m. min (m * radix + d) most) same
      | false ↦ λ e. let same : min n most ≡ most = grind (arith, nat_tests) in ap (λ m. min (m * radix + d) most) same ∙ (let above : most ≤ n = grind (arith, nat_tests) in omega arith)
    ] refl

read-is : (radix n : ℕ) (ds : List ℕ) → 1 ≤ radix → read radix (capped n) ds ≡ cond (list_all (λ c. is_digit c radix) ds) (Some (capped (digits_value_after radix n ds))) None
read-is radix n [] h = refl
read-is radix n (d ∷ ds) h =
    elim (is_digit d radix) as (λ b. cond b (read radix (capped (capped n * radix + digit_value d)) ds) None ≡ cond (b && list_all (λ c. is_digit c radix) ds) (Some (capped (digits_value_after radix (n * radix + digit_value d) ds))) None) [
      | true ↦ ap (λ m. read radix m ds) (capped-step 0x110000 n radix (digit_value d) h) ∙ read-is radix (n * radix + digit_value d) ds h
      | false ↦ refl
    ]

map_chosen : (b : Bool) (n : ℕ) → option_map capped (cond b (Some n) None) ≡ cond b (Some (capped n)) None
map_chosen true n = refl
map_chosen false n = refl

-- one digit or more
pub numeral-read : (radix : ℕ) (ds : List ℕ) → 1 ≤ radix → 0 < length ds → option_map capped (numeral (λ c. is_digit c radix) radix ds) ≡ read radix 0 ds
numeral-read radix [] h long = absurd (omega arith)
numeral-read radix (d ∷ ds) h long = map_chosen (list_all (λ c. is_digit c radix) (d ∷ ds)) (digits_value radix (d ∷ ds)) ∙ sym (read-is radix 0 (d ∷ ds) h)

-- what is read at the end of the digits
pub numeral_end : (radix number place : ℕ) (ds : List ℕ) → 1 ≤ radix → 0 < length ds → length ds ≤ place → read radix number (drop place ds) ≡ read radix 0 ds → option_map capped (numeral (λ c. is_digit c radix) radix ds) ≡ Some number
numeral_end radix number place ds h long ended so_far = numeral-read radix ds h long ∙ sym so_far ∙ at_drop_all (read radix number) ds place ended

-- the digits of the two kinds are those of the two radixes
decimal_digit : (c : ℕ) → is_decimal_digit c ≡ is_digit c 10
decimal_digit c = grind (arith, nat_tests)

hexadecimal_digit : (c : ℕ) → is_hexadecimal_digit c ≡ is_digit c 16
hexadecimal_digit c = grind (arith, nat_tests)

list_all-same : (p q : ℕ → Bool) (ds : List ℕ) → ((c : ℕ) → p c ≡ q c) → list_all p ds ≡ list_all q ds
list_all-same p q [] same = refl
list_all-same p q (d ∷ ds) same = ap (λ b. b && list_all p ds) (same d) ∙ ap (λ b. q d && b) (list_all-same p q ds same)

numeral-same : (p q : ℕ → Bool) (radix : ℕ) (ds : List ℕ) → ((c : ℕ) → p c ≡ q c) → numeral p radix ds ≡ numeral q radix ds
numeral-same p q radix [] same = refl
numeral-same p q radix (d ∷ ds) same = ap (λ b. cond b (Some (digits_value radix (d ∷ ds))) None) (list_all-same p q (d ∷ ds) same)

-- the bytes behind the first, as code takes them
abbrev pub behind : List ℕ → List ℕ
behind text = take (length text - 1) (drop 1 text)

behind-is : (b : ℕ) (bs : List ℕ) → behind (b ∷ bs) ≡ bs
behind-is b bs = let long : length bs ≤ length (b ∷ bs) - 1 = omega arith in take_all (length (b ∷ bs) - 1) bs long

hexadecimal_number : (b : ℕ) (bs : List ℕ) → b ≡ 120 → number_referred (b ∷ bs) ≡ numeral (λ c. is_digit c 16) 16 (behind (b ∷ bs))
hexadecimal_number b bs is = cond-true (b == 120) _ _ (grind (arith, nat_tests)) ∙ numeral-same is_hexadecimal_digit (λ c. is_digit c 16) 16 bs hexadecimal_digit ∙ ap (numeral (λ c. is_digit c 16) 16) (sym (behind-is b bs))

decimal_number : (b : ℕ) (bs : List ℕ) → b ≢ 120 → number_referred (b ∷ bs) ≡ numeral (λ c. is_digit c 10) 10 (b ∷ bs)
decimal_number b bs other = cond-false (b == 120) _ _ (grind (arith, nat_tests)) ∙ numeral-same is_decimal_digit (λ c. is_digit c 10) 10 (b ∷ bs) decimal_digit

abbrev pub FindsNumber : Option ℕ → Option ℕ → Type 0
FindsNumber found number = Finds (λ n. n) found (option_map capped number)

-- a number behind x is hexadecimal, and another decimal
pub finds_hexadecimal : (found : Option ℕ) (text : List ℕ) → 1 ≤ length text → get_or text 0 0 ≡ 120 → FindsNumber found (numeral (λ c. is_digit c 16) 16 (behind text)) → FindsNumber found (number_referred text)
finds_hexadecimal found [] long is finds = absurd (omega arith)
finds_hexadecimal found (b ∷ bs) long is finds = subst (FindsNumber found) (sym (hexadecimal_number b bs is)) finds

pub finds_decimal : (found : Option ℕ) (text : List ℕ) → (1 ≤ length text → get_or text 0 0 ≢ 120) → FindsNumber found (numeral (λ c. is_digit c 10) 10 text) → FindsNumber found (number_referred text)
finds_decimal found [] other finds = finds
finds_decimal found (b ∷ bs) other finds = subst (FindsNumber found) (sym (decimal_number b bs (other (omega arith)))) finds

-- a number that is kept small is the number of the same character
allowed-capped : (n : ℕ) → allowed (capped n) ≡ allowed n
allowed-capped n =
    elim (nat_le n 0x110000) as (λ b. nat_le n 0x110000 ≡ b → allowed (capped n) ≡ allowed n) [
      | true ↦ λ e. let same : capped n ≡ n = grind (arith, nat_tests) in ap allowed same
      | false ↦ λ e. let same : capped n ≡ 0x110000 = grind (arith, nat_tests) in ap allowed same ∙ (let none : is_allowed n ≡ false = grind (arith, nat_tests) in sym (cond-false (is_allowed n) (Some n) None none))
    ] refl

kept_number : (number : Option ℕ) (n : ℕ) → option_map capped number ≡ Some n → allowed_number number ≡ allowed n
kept_number None n e = absurd (cc e)
kept_number (Some m) n e = let same : capped m ≡ n = cc e in sym (allowed-capped m) ∙ ap allowed same

behind_mark : (b : ℕ) (bs : List ℕ) → b ≡ 35 → referred_by_number (b ∷ bs) ≡ allowed_number (number_referred (behind (b ∷ bs)))
behind_mark b bs is = cond-true (b == 35) _ _ (grind (arith, nat_tests)) ∙ ap (λ (ds : List ℕ). allowed_number (number_referred ds)) (sym (behind-is b bs))

-- the character of the number behind #
pub finds_numbered : (found : Option ℕ) (text : List ℕ) (n : ℕ) → 1 ≤ length text → get_or text 0 0 ≡ 35 → option_map capped (number_referred (behind text)) ≡ Some n → Finds (λ c. c) found (allowed n) → Finds (λ c. c) found (referred_by_number text)
finds_numbered found [] n long is number finds = absurd (omega arith)
finds_numbered found (b ∷ bs) n long is number finds = let P : Option ℕ → Type 0 = λ o. Finds (λ c. c) found o in subst P (sym (behind_mark b bs is ∙ kept_number _ n number)) finds
