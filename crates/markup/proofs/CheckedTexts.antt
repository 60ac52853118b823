-- What is said of a checked text.
use Rattle.std.proofs.Common.{◌≡◌, ℕ, ◌<◌, Bool, true, false, List, length, Option, Some, None, refl, ◌∙◌, ap, cond}
use Rattle.std.specs.Prelude.{◌&&◌}
use Rattle.std.specs.Option.{option_map}
use Rattle.std.specs.Str.{IsUtf8, is_utf8}
use Rattle.std.specs.Str.Lossy.{utf8_valid_len}
use Rattle.std.proofs.lemmas.Bool.{lt-ltb}
use Rattle.std.proofs.lemmas.Str.{is_utf8-from_IsUtf8, IsUtf8-from_is_utf8}
use Rattle.path_text.specs.Places.{first_below}
use Rattle.markup.specs.declared.text.TextError.{TextError}
use Rattle.markup.specs.declared.text.TextError.TheVariants.{NotUtf8, Refused}
use Rattle.markup.specs.Characters.{is_refused, refused_at, text_error}

place_within : (text : List ℕ) (k : ℕ) (is : Bool) → k < length text → is_refused text k ≡ is → refused_at text k ≡ cond is (Some k) None
place_within text k is within e = ap (λ b. cond (b && is_refused text k) (Some k) None) (lt-ltb k (length text) within) ∙ ap (λ b. cond b (Some k) None) e

pub refused_at-true : (text : List ℕ) (k : ℕ) → k < length text → is_refused text k ≡ true → refused_at text k ≡ Some k
refused_at-true text k within is = place_within text k true within is

pub refused_at-false : (text : List ℕ) (k : ℕ) → k < length text → is_refused text k ≡ false → refused_at text k ≡ None
refused_at-false text k within is = place_within text k false within is

-- the error of a text that is UTF-8
error_within : (bytes : List ℕ) (place : Option ℕ) → IsUtf8 bytes → first_below (refused_at bytes) (length bytes) ≡ place → text_error bytes ≡ option_map (λ at. Refused at) place
unfolding text_error
error_within bytes place utf8 first =
    let F : Bool → Option TextError = λ b. cond b (option_map (λ at. Refused at) (first_below (refused_at bytes) (length bytes))) (Some (NotUtf8 (utf8_valid_len bytes))) in
    ap F (is_utf8-from_IsUtf8 bytes utf8) ∙ ap (option_map (λ at. Refused at)) first

pub text_error-none : (bytes : List ℕ) → IsUtf8 bytes → first_below (refused_at bytes) (length bytes) ≡ None → text_error bytes ≡ None
text_error-none bytes utf8 first = error_within bytes None utf8 first

pub text_error-refused : (bytes : List ℕ) (k : ℕ) → IsUtf8 bytes → first_below (refused_at bytes) (length bytes) ≡ Some k → text_error bytes ≡ Some (Refused k)
text_error-refused bytes k utf8 first = error_within bytes (Some k) utf8 first

false_unless : (b : Bool) → (b ≡ true → ⊥) → b ≡ false
false_unless false never = refl
false_unless true never = absurd (never refl)

-- and of one that is not
pub text_error-not_utf8 : (bytes : List ℕ) (k : ℕ) → (IsUtf8 bytes → ⊥) → k ≡ utf8_valid_len bytes → text_error bytes ≡ Some (NotUtf8 k)
unfolding text_error
text_error-not_utf8 bytes k never is =
    let F : Bool → Option TextError = λ b. cond b (option_map (λ at. Refused at) (first_below (refused_at bytes) (length bytes))) (Some (NotUtf8 (utf8_valid_len bytes))) in
    ap F (false_unless (is_utf8 bytes) (λ e. never (IsUtf8-from_is_utf8 bytes e))) ∙ rw is refl
