-- How long labels and paths are.
use Rattle.std.proofs.Common.{◌≡◌, ℕ, ◌+◌, ◌≤◌, Bool, true, false, cond, List, length, refl, arith}
use Rattle.std.specs.Prelude.{Option, Some, ◌&&◌, ◌==◌, nat_lt, is_none}
use Rattle.std.proofs.lemmas.Bool.Decides.{nat_tests}
use Rattle.std.specs.Prelude.{slice_index}
use Rattle.std.specs.Str.{is_utf8}
use Rattle.path_text.specs.declared.path.PathError.{PathError}
use Rattle.path_text.specs.declared.path.PathError.TheVariants.{Empty, TooLong, Absolute}
use Rattle.path_text.specs.Places.{first_below}
use Rattle.path_text.specs.Path.{is_path, refusal_of, offence_at}
use Rattle.path_text.specs.Label.{is_label}
use Rattle.path_text.proofs.Labels.{is_label-name}

right : (a b : Bool) → (a && b) ≡ true → b ≡ true
right true b is = is
right false b is = absurd (cc)

not_some : {A : Type 0} (test : Bool) (refused : A) (rest : Option A) → is_none (cond test (Some refused) rest) ≡ true → (test ≡ false) × (is_none rest ≡ true)
not_some true refused rest none = absurd (cc)
not_some false refused rest none = (refl, none)

pub path_bounds : (text : List ℕ) → is_path text ≡ true → (1 ≤ length text) × (length text ≤ 1024)
unfolding is_path refusal_of
path_bounds text is =
    let last : Option PathError = first_below (offence_at text) (length text + 1) in
    let third : Option PathError = cond (slice_index text 0 == 47) (Some Absolute) last in
    let second : Option PathError = cond (nat_lt 1024 (length text)) (Some (TooLong (length text))) third in
    let none : is_none (cond (length text == 0) (Some Empty) second) ≡ true = right (is_utf8 text) _ is in
    let some = not_some {A = PathError} (length text == 0) Empty second none in
    let short = not_some {A = PathError} (nat_lt 1024 (length text)) (TooLong (length text)) third some.1 in
    let a : (length text == 0) ≡ false = some.0 in
    let b : nat_lt 1024 (length text) ≡ false = short.0 in
    (grind (arith, nat_tests), grind (arith, nat_tests))

pub label_bounds : (text : List ℕ) → is_label text ≡ true → (1 ≤ length text) × (length text ≤ 64)
label_bounds text is = let name = is_label-name text is in (name.0.some, name.1)

pub empty_path : (text : List ℕ) → is_path text ≡ true → 0 ≡ length text → ⊥
empty_path text is none = let bounds = path_bounds text is in omega arith
