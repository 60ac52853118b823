-- How many bytes the fields of a plan take.
use Rattle.std.proofs.Common.{◌≡◌, Bool, true, false, cond, get_or, ℕ, zero, suc, ◌+◌, ◌<◌, List, [], ◌∷◌, ◌++◌, length, take, refl, sym, ◌∙◌, ap, arith, length-append}
use Rattle.std.specs.Prelude.{Option, Some, None}
use Rattle.std.specs.List.{flat_map}
use Rattle.std.specs.Int.{w16, w32, w64, to_be_bytes}
use Rattle.copy_plan.specs.declared.file.PlannedFile.{PlannedFile}
use Rattle.path_text.specs.declared.kinds.Kinds.{Kinds}
use Rattle.copy_plan.specs.Plan.{PlanValue}
use Rattle.copy_plan.specs.Fields.{mark_code, moment_code, label_code, kinds_code, path_code, source_code, choice_code, count_code, file_code, plan_code, is_plain}

pub source_length : (path text : List ℕ) → text ≡ path → 2 + length text ≡ length (source_code (Some path))
unfolding source_code path_code
source_length path text same = omega (arith, ap length same, length-append (to_be_bytes w16 (length path)) path)

pub source_is : (source : Option (List ℕ)) (o : Option (List ℕ)) → source ≡ o → (n : ℕ) → n ≡ length (source_code o) → n ≡ length (source_code source)
source_is source o same n is = is ∙ ap (λ (q : Option (List ℕ)). length (source_code q)) (sym same)

pub none_length : 2 ≡ length (source_code None)
unfolding source_code
none_length = refl

pub choice_plain : (kinds : Kinds) (source : Option (List ℕ)) → is_plain kinds source ≡ true → 0 ≡ length (choice_code kinds source)
choice_plain kinds source plain = ap (λ (b : Bool). length (cond b [] (kinds_code kinds ++ source_code source))) (sym plain)

pub choice_named : (kinds : Kinds) (source : Option (List ℕ)) (n : ℕ) → is_plain kinds source ≡ false → n ≡ length (source_code source) → 1 + n ≡ length (choice_code kinds source)
unfolding kinds_code
choice_named kinds source n plain is =
    let split = ap (λ (b : Bool). length (cond b [] (kinds_code kinds ++ source_code source))) plain in
    omega (arith, split, is, length-append (kinds_code kinds) (source_code source))

pub label_length : (label text : List ℕ) → text ≡ label → 1 + length text ≡ length (label_code label)
unfolding label_code
label_length label text same = omega (arith, ap length same)

pub file_length : (f : PlannedFile) → length (file_code f) ≡ 18 + length f.path
unfolding file_code path_code moment_code
file_length f =
    omega (arith, length-append (to_be_bytes w16 (length f.path) ++ f.path) (to_be_bytes w64 f.size ++ to_be_bytes w64 f.modified), length-append (to_be_bytes w16 (length f.path)) f.path, length-append (to_be_bytes w64 f.size) (to_be_bytes w64 f.modified))

-- one file more
pub files_more : (files : List PlannedFile) (i : ℕ) (f : PlannedFile) → i < length files → get_or files i f ≡ f → length (flat_map file_code (take (suc i) files)) ≡ length (flat_map file_code (take i files)) + (18 + length f.path)
files_more [] i f within is = absurd (omega arith)
files_more (g ∷ files) zero f within is =
    omega (arith, length-append (file_code g) [], file_length g, ap (λ (h : PlannedFile). length h.path) is)
files_more (g ∷ files) (suc i) f within is =
    let rest = files_more files i f (omega arith) is in
    omega (arith, rest, length-append (file_code g) (flat_map file_code (take (suc i) files)), length-append (file_code g) (flat_map file_code (take i files)))

-- the fields of a plan
pub plan_length : (p : PlanValue) → length (plan_code p) ≡ 20 + (length (label_code p.name) + length (label_code p.user) + length (label_code p.host)) + length (choice_code p.kinds p.source_list) + length (flat_map file_code p.files)
unfolding plan_code moment_code count_code
plan_length p =
    let h = flat_map file_code p.files in
    let g = to_be_bytes w32 (length p.files) ++ h in
    let f = choice_code p.kinds p.source_list ++ g in
    let e = label_code p.host ++ f in
    let d = label_code p.user ++ e in
    let c = label_code p.name ++ d in
    let b = to_be_bytes w64 p.started ++ c in
    omega (arith, mark_length (is_plain p.kinds p.source_list), length-append (mark_code (is_plain p.kinds p.source_list)) b, length-append (to_be_bytes w64 p.started) c, length-append (label_code p.name) d, length-append (label_code p.user) e, length-append (label_code p.host) f, length-append (choice_code p.kinds p.source_list) g, length-append (to_be_bytes w32 (length p.files)) h)
  where
    mark_length : (plain : Bool) → length (mark_code plain) ≡ 8
    mark_length true = refl
    mark_length false = refl

pub total_length : (p : PlanValue) (name user host : List ℕ) (kinds : Kinds) (source : Option (List ℕ)) (files : List PlannedFile) (a b c d e : ℕ) → name ≡ p.name → user ≡ p.user → host ≡ p.host → kinds ≡ p.kinds → source ≡ p.source_list → files ≡ p.files
    → a ≡ length (label_code name) → b ≡ length (label_code user) → c ≡ length (label_code host) → d ≡ length (choice_code kinds source) → e ≡ length (flat_map file_code files) → 20 + (a + b + c) + d + e ≡ length (plan_code p)
total_length p name user host kinds source files a b c d e n u h k s f an bn cn dn en =
    let n2 = ap (λ (l : List ℕ). length (label_code l)) n in
    let u2 = ap (λ (l : List ℕ). length (label_code l)) u in
    let h2 = ap (λ (l : List ℕ). length (label_code l)) h in
    let c2 : length (choice_code kinds source) ≡ length (choice_code p.kinds p.source_list) = λ i. length (choice_code (k i) (s i)) in
    let f2 = ap (λ (l : List PlannedFile). length (flat_map file_code l)) f in
    omega (arith, n2, u2, h2, c2, f2, an, bn, cn, dn, en, plan_length p)
