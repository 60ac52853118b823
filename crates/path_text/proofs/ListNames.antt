-- What is known of the name of a list.
use Rattle.std.proofs.Common.{◌≡◌, ◌≢◌, ℕ, zero, suc, ◌+◌, ◌-◌, ◌/◌, ◌%◌, ◌≤◌, ◌<◌, true, false, List, [], ◌∷◌, ◌++◌, length, take, drop, inl, inr, refl, sym, ◌∙◌, ap, arith, append_assoc, length-append}
use Rattle.std.specs.Prelude.{Bool, ◌&&◌, codes, slice_index, None}
use Rattle.std.specs.List.{list_all}
use Rattle.std.specs.Str.{IsUtf8}
use Rattle.std.proofs.Math.ListN.{get_or-append}
use Rattle.std.proofs.lemmas.List.{get_or-append-add}
use Rattle.std.proofs.lemmas.Bool.Decides.{nat_tests}
use Rattle.path_text.specs.Moment.{year_on, month_on, day_on, two_digits, four_digits, moment_text}
use Rattle.path_text.specs.Path.{refusal_of, is_path, is_control_path, is_one_part}
use Rattle.path_text.specs.Label.{is_label_byte, is_label}
use Rattle.path_text.specs.ListName.{list_name_text}
use Rattle.path_text.proofs.Labels.{IsName, inside, is_label-name, name_utf8, name_unrefused, name_path, name_no_slash, name_one_part, name_no_control}

-- what stands behind the label
behind : ℕ → List ℕ
behind t =
    let day = t / 86_400 in
    let second = t % 86_400 in
    codes "_" ++ four_digits (year_on day) ++ codes "-" ++ two_digits (month_on day) ++ codes "-" ++ two_digits (day_on day) ++ codes "_"
    ++ two_digits (second / 3_600) ++ two_digits (second / 60 % 60) ++ two_digits (second % 60) ++ codes ".mhl"

list_name_text-is : (label : List ℕ) (t : ℕ) → list_name_text label t ≡ label ++ behind t
unfolding list_name_text behind
list_name_text-is label t = simp append_assoc

-- the name from the parts of the text of the moment
pub list_name_parts : (label : List ℕ) (t : ℕ) → label ++ codes "_" ++ take 10 (moment_text t) ++ codes "_" ++ take 2 (drop 11 (moment_text t)) ++ take 2 (drop 14 (moment_text t)) ++ take 2 (drop 17 (moment_text t)) ++ codes ".mhl" ≡ list_name_text label t
unfolding list_name_text moment_text
list_name_parts label t = simp append_assoc

length-behind : (t : ℕ) → length (behind t) ≡ 22
unfolding behind
length-behind t = refl

digit-is_label_byte : (n : ℕ) → is_label_byte (48 + n % 10) ≡ true
digit-is_label_byte n = grind (arith, nat_tests)

list_all-behind : (t : ℕ) → list_all is_label_byte (behind t) ≡ true
unfolding behind
list_all-behind t = simp digit-is_label_byte

both : (a b : Bool) → (a && b) ≡ true → (a ≡ true) × (b ≡ true)
both true b e = (refl, e)
both false b e = absurd (cc e)

every : (text : List ℕ) (k : ℕ) → list_all is_label_byte text ≡ true → k < length text → is_label_byte (slice_index text k) ≡ true
every [] k all h = absurd (omega arith)
every (x ∷ xs) zero all h = (both (is_label_byte x) _ all).0
every (x ∷ xs) (suc k) all h = every xs k (both (is_label_byte x) _ all).1 (omega arith)

-- a name stays one with more such bytes behind it
name_more : (a b : List ℕ) → IsName a → list_all is_label_byte b ≡ true → IsName (a ++ b)
name_more a b name all =
    record {
      some = let some : 1 ≤ length a = name.some in omega (arith, length-append a b);
      bytes = at;
      first = λ e. name.first (sym (get_or-append a b 0 0 name.some) ∙ e);
    }
  where
    at : (k : ℕ) → k < length (a ++ b) → is_label_byte (slice_index (a ++ b) k) ≡ true
    at k h = elim (inside k (length a)) as (λ _. is_label_byte (slice_index (a ++ b) k) ≡ true) [
      | inl within ↦ ap is_label_byte (get_or-append a b 0 k within) ∙ name.bytes k within
      | inr past ↦
          let rest : k - length a < length b = omega (arith, length-append a b) in
          let place : k ≡ length a + (k - length a) = omega arith in
          let same : slice_index (a ++ b) k ≡ slice_index b (k - length a) = ap (slice_index (a ++ b)) place ∙ get_or-append-add a b (k - length a) 0 in
          ap is_label_byte same ∙ every b (k - length a) all rest
    ]

pub list_name-name : (label : List ℕ) (t : ℕ) → is_label label ≡ true → IsName (list_name_text label t)
list_name-name label t h = rw (list_name_text-is label t) (name_more label (behind t) (is_label-name label h).0 (list_all-behind t))

pub length-list_name : (label : List ℕ) (t : ℕ) → is_label label ≡ true → length (list_name_text label t) ≤ 86
length-list_name label t h =
    let short : length label ≤ 64 = (is_label-name label h).1 in
    rw (list_name_text-is label t) (omega (arith, length-append label (behind t), length-behind t))

pub list_name-utf8 : (label : List ℕ) (t : ℕ) → is_label label ≡ true → IsUtf8 (list_name_text label t)
list_name-utf8 label t h = name_utf8 _ (list_name-name label t h)

pub list_name-unrefused : (label : List ℕ) (t : ℕ) → is_label label ≡ true → refusal_of (list_name_text label t) ≡ None
list_name-unrefused label t h = name_unrefused _ (list_name-name label t h) (omega (arith, length-list_name label t h))

pub list_name-path : (label : List ℕ) (t : ℕ) → is_label label ≡ true → is_path (list_name_text label t) ≡ true
list_name-path label t h = name_path _ (list_name-name label t h) (omega (arith, length-list_name label t h))

pub list_name-no_slash : (label : List ℕ) (t : ℕ) → is_label label ≡ true → (k : ℕ) → slice_index (list_name_text label t) k ≢ 47
list_name-no_slash label t h = name_no_slash _ (list_name-name label t h)

pub list_name-one_part : (label : List ℕ) (t : ℕ) → is_label label ≡ true → is_one_part (list_name_text label t) ≡ true
list_name-one_part label t h = name_one_part _ (list_name-name label t h)

pub list_name-no_control : (label : List ℕ) (t : ℕ) → is_label label ≡ true → is_control_path (list_name_text label t) ≡ false
list_name-no_control label t h = name_no_control _ (list_name-name label t h)
