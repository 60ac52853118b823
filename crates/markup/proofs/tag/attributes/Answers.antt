use Rattle.std.proofs.Common.{◌≡◌, ◌≤◌, ◌-◌, ◌++◌, ℕ, List, length, take, drop, Option, Some, sym, ap, ◌∙◌, length-append, arith}
use Rattle.std.proofs.lemmas.List.{take_at, drop_at}
use Rattle.markup.specs.Taking.{attributes_of}
use Rattle.markup.specs.Mark.{Named}
use Rattle.markup.proofs.Attributes.{all_of, behind_some, text_of}
use Rattle.markup.proofs.tag.attributes.Goals as goal

abbrev all_taken : List Named → List ℕ → Option (List Named × List ℕ)
all_taken all rest = Some (all, rest)

shorter : (bytes text rest : List ℕ) → bytes ≡ text ++ rest → length rest ≤ length bytes
shorter bytes text rest e = omega (arith, ap length e, length-append text rest)

cut : (bytes text rest : List ℕ) → bytes ≡ text ++ rest → (take (length bytes - length rest) bytes ≡ text) × (drop (length bytes - length rest) bytes ≡ rest)
cut bytes text rest e =
    let n = length bytes - length rest in
    let len : length text ≡ n = omega (arith, ap length e, length-append text rest) in
    (ap (take n) e ∙ take_at text rest n len, ap (drop n) e ∙ drop_at text rest n len)

both : (x y a b : List ℕ) (all : List Named) → x ≡ a → y ≡ b → attributes_of a ≡ all → all_taken all b ≡ all_taken (attributes_of x) y
both x y a b all p q e = ap (λ (n : List Named). all_taken n b) (sym e ∙ ap attributes_of (sym p)) ∙ ap (all_taken (attributes_of x)) (sym q)

pub overflow_sub-bytes : goal.overflow_sub-bytes
overflow_sub-bytes c =
    let b = behind_some (all_of c.args.bytes.now) c.in_ok-rest.rest.now c.in_ok-rest.ensures in
    let t = text_of c.args.bytes.now b.0 c.in_ok-rest.rest.now b.1 in
    shorter c.args.bytes.now t.0 c.in_ok-rest.rest.now t.1

pub returns : goal.returns
returns c =
    let bytes = c.args.bytes.now in
    let rest = c.in_ok-rest.rest.now in
    let b = behind_some (all_of bytes) rest c.in_ok-rest.ensures in
    let t = text_of bytes b.0 rest b.1 in
    let k = cut bytes t.0 rest t.1 in
    b.1 ∙ both c.split_at.result.0.now c.split_at.result.1.now t.0 rest b.0 (c.split_at.ensures.front ∙ k.0) (c.split_at.ensures.back ∙ k.1) t.2
