-- A text of the language is UTF-8, so that its rule alone decides.
use Rattle.std.proofs.Common.{◌≡◌, ◌≤◌, true, false, cond, length, refl, sym, ◌∙◌, ap, subst, arith}
use Rattle.std.proofs.lemmas.Bool.Decides.{nat_tests}
use Rattle.path_text.specs.declared.path.PathError.{PathError}
use Rattle.std.specs.Prelude.{Bool, List, ℕ, nat_lt, ◌==◌, ◌&&◌, not, IsTrue, is_none, is_some, Option, Some, None}
use Rattle.std.specs.Str.{IsUtf8}
use Rattle.std.proofs.lemmas.Str.{is_utf8-from_IsUtf8}
use Rattle.path_text.specs.Path.{is_path, refusal_of, is_control_path}

both : (a b : Bool) → a ≡ true → (a && b) ≡ b
both a b is = ap (λ x. x && b) is

pub is_path-text : (text : List ℕ) → IsUtf8 text → is_path text ≡ is_none (refusal_of text)
unfolding is_path
is_path-text text utf8 = both _ _ (is_utf8-from_IsUtf8 text utf8)

-- a control path, by the two tests
pub control_name : (text : List ℕ) (valid : Bool) → IsUtf8 text → valid ≡ is_none (refusal_of text) → true ≡ is_control_path text → valid ≡ (is_path text && is_control_path text)
control_name text valid utf8 is control = is ∙ sym (is_path-text text utf8) ∙ sym (ap (λ b. is_path text && b) (sym control) ∙ and_true (is_path text))
  where
    and_true : (b : Bool) → (b && true) ≡ b
    and_true true = refl
    and_true false = refl

pub no_control_name : (text : List ℕ) → false ≡ is_control_path text → false ≡ (is_path text && is_control_path text)
no_control_name text control = sym (ap (λ b. is_path text && b) (sym control) ∙ and_false (is_path text))
  where
    and_false : (b : Bool) → (b && false) ≡ false
    and_false true = refl
    and_false false = refl

-- what a text keeps, where it is read again
pub path_holds : (inside given value : List ℕ) → IsUtf8 given → given ≡ inside → inside ≡ value → refusal_of inside ≡ None → IsTrue (is_path value)
path_holds inside given value utf8 same is none = rw (← is) (subst (λ t. IsTrue (is_path t)) same (is_path-text given utf8 ∙ ap (λ t. is_none (refusal_of t)) same ∙ ap is_none none))

pub none_if_not_some : {A : Type 0} (b : Bool) (o : Option A) → is_some o ≡ not b → b ≡ is_none o
none_if_not_some true None e = refl
none_if_not_some false None e = absurd (cc e)
none_if_not_some true (Some x) e = absurd (cc e)
none_if_not_some false (Some x) e = refl

no_second : (a b : Bool) (x y : PathError) (rest : Option PathError) → cond a (Some x) (cond b (Some y) rest) ≡ None → b ≡ false
no_second true b x y rest e = absurd (cc e)
no_second false true x y rest e = absurd (cc e)
no_second false false x y rest e = refl

not_above : (n m : ℕ) → nat_lt n m ≡ false → m ≤ n
not_above n m e = grind (arith, nat_tests)

-- a path has at most 1,024 bytes
pub short_path : (given inside : List ℕ) → given ≡ inside → refusal_of inside ≡ None → length given ≤ 1024
unfolding refusal_of
short_path given inside same none =
    let short : length inside ≤ 1024 = not_above 1024 (length inside) (no_second (length inside == 0) _ _ _ _ none) in
    let long = ap length same in omega arith
