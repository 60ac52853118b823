-- The files of a plan, one behind another.
use Rattle.std.proofs.Common.{◌≡◌, ℕ, ◌+◌, ◌≤◌, List, [], ◌∷◌, ◌++◌, length, refl, sym, ◌∙◌, subst, arith, append_assoc, append-nil}
use Rattle.std.specs.Prelude.{fold}
use Rattle.std.specs.List.{AllByRecursion, flat_map}
use Rattle.copy_plan.specs.declared.file.PlannedFile.{PlannedFile}
use Rattle.copy_plan.specs.Inventory.{IsPlannable, Precedes, EachPair, IsInventory, path_bytes, most_path_bytes}
use Rattle.copy_plan.specs.Plan.{PlanValue, IsPlan, Clears, list_of}
use Rattle.copy_plan.specs.Fields.{MayFollow, IsCount, Begins, FilesFault, file_code}
use Rattle.copy_plan.specs.Decoding.{Keeps}
use Rattle.copy_plan.proofs.Exact.{Exact, file_exact}
use Rattle.copy_plan.proofs.Leads.{fault_behind}

pub AllByRecursion-append : {A : Type 0} (P : A → Type 0) (xs ys : List A) → AllByRecursion P xs → AllByRecursion P ys → AllByRecursion P (xs ++ ys)
AllByRecursion-append P [] ys x y = y
AllByRecursion-append P (a ∷ xs) ys x y = (x.0, AllByRecursion-append P xs ys x.1 y)

pub AllByRecursion-front : {A : Type 0} (P : A → Type 0) (xs ys : List A) → AllByRecursion P (xs ++ ys) → AllByRecursion P xs
AllByRecursion-front P [] ys all = tt
AllByRecursion-front P (a ∷ xs) ys all = (all.0, AllByRecursion-front P xs ys all.1)

-- one that stands in the list
pub all_one : {A : Type 0} (P : A → Type 0) (xs : List A) (y : A) (zs : List A) → AllByRecursion P (xs ++ y ∷ zs) → P y
all_one P [] y zs all = all.0
all_one P (w ∷ xs) y zs all = all_one P xs y zs all.1

-- one more behind all pairs
pub EachPair-push : {A : Type 0} (R : A → A → Type 0) (xs : List A) (y : A) → EachPair R xs → AllByRecursion (λ x. R x y) xs → EachPair R (xs ++ y ∷ [])
unfolding EachPair
EachPair-push R [] y pairs behind = (tt, tt)
EachPair-push R (x ∷ xs) y pairs behind = (AllByRecursion-append (R x) xs (y ∷ []) pairs.0 (behind.0, tt), EachPair-push R xs y pairs.1 behind.1)

-- each before one that stands in the list
pub EachPair-before : {A : Type 0} (R : A → A → Type 0) (xs : List A) (y : A) (zs : List A) → EachPair R (xs ++ y ∷ zs) → AllByRecursion (λ x. R x y) xs
unfolding EachPair
EachPair-before R [] y zs pairs = tt
EachPair-before R (x ∷ xs) y zs pairs = (all_one (R x) xs y zs pairs.0, EachPair-before R xs y zs pairs.1)

fold_bytes : (xs : List PlannedFile) (n : ℕ) → fold (λ a f. a + length f.path) n xs ≡ n + fold (λ a f. a + length f.path) 0 xs
fold_bytes [] n = omega arith
fold_bytes (f ∷ xs) n =
    let more = fold_bytes xs (n + length f.path) in
    let alone = fold_bytes xs (0 + length f.path) in
    omega (arith, more, alone)

pub path_bytes-append : (xs ys : List PlannedFile) → path_bytes (xs ++ ys) ≡ path_bytes xs + path_bytes ys
unfolding path_bytes
path_bytes-append [] ys = omega arith
path_bytes-append (f ∷ xs) ys =
    let whole = fold_bytes (xs ++ ys) (0 + length f.path) in
    let part = fold_bytes xs (0 + length f.path) in
    let rest = path_bytes-append xs ys in
    omega (arith, whole, part, rest)

pub path_bytes-one : (f : PlannedFile) → path_bytes (f ∷ []) ≡ length f.path
unfolding path_bytes
path_bytes-one f = omega arith

-- each of these files may stand behind those before it
unfoldable pub Follows : List ℕ → List PlannedFile → List PlannedFile → Type 0
Follows list before [] = Unit {0}
Follows list before (f ∷ fs) = MayFollow list before f × Follows list (before ++ f ∷ []) fs

pub follows_push : (list : List ℕ) (before files : List PlannedFile) (f : PlannedFile) → Follows list before files → MayFollow list (before ++ files) f → Follows list before (files ++ f ∷ [])
unfolding Follows
follows_push list before [] f follows may = (subst (λ (l : List PlannedFile). MayFollow list l f) (append-nil before) may, tt)
follows_push list before (g ∷ files) f follows may = (
  follows.0,
  follows_push list (before ++ g ∷ []) files f follows.1 (subst (λ (l : List PlannedFile). MayFollow list l f) (sym (append_assoc before (g ∷ []) files)) may),
)

-- the files of an inventory that clear the list's name
follows_rest : (list : List ℕ) (before files : List PlannedFile) → path_bytes (before ++ files) ≤ most_path_bytes → AllByRecursion IsPlannable files → EachPair Precedes (before ++ files) → AllByRecursion (Clears list) files → Follows list before files
unfolding Follows
follows_rest list before [] short each pairs clear = tt
follows_rest list before (f ∷ files) short each pairs clear =
    let same : before ++ f ∷ files ≡ (before ++ f ∷ []) ++ files = sym (append_assoc before (f ∷ []) files) in
    let a = path_bytes-append before (f ∷ files) in
    let b = path_bytes-append (f ∷ []) files in
    let c = path_bytes-one f in (
      record { alone = each.0; short = omega (arith, a, b, c); behind = EachPair-before Precedes before f files pairs; clear = clear.0 },
      follows_rest list (before ++ f ∷ []) files (subst (λ (l : List PlannedFile). path_bytes l ≤ most_path_bytes) same short) each.1 (subst (λ (l : List PlannedFile). EachPair Precedes l) same pairs) clear.1,
    )

pub plan_follows : (p : PlanValue) → IsPlan p → Follows (list_of p) [] p.files
plan_follows p plan = follows_rest (list_of p) [] p.files plan.inventory.short plan.inventory.each plan.inventory.pairs plan.clear

pub keeps_none : (list : List ℕ) → Keeps list []
unfolding path_bytes EachPair
keeps_none list = record { short = omega arith; each = tt; pairs = tt; clear = tt }

pub keeps_push : (list : List ℕ) (files : List PlannedFile) (f : PlannedFile) → Keeps list files → MayFollow list files f → Keeps list (files ++ f ∷ [])
keeps_push list files f keeps may =
    let a = path_bytes-append files (f ∷ []) in
    let b = path_bytes-one f in
    let h = may.short in
    record {
      short = omega (arith, a, b, h);
      each = AllByRecursion-append IsPlannable files (f ∷ []) keeps.each (may.alone, tt);
      pairs = EachPair-push Precedes files f keeps.pairs may.behind;
      clear = AllByRecursion-append (Clears list) files (f ∷ []) keeps.clear (may.clear, tt);
    }

pub keeps_inventory : (list : List ℕ) (files : List PlannedFile) → Keeps list files → IsCount (length files) → IsInventory files
keeps_inventory list files keeps count = record { some = count.0; few = count.1; short = keeps.short; each = keeps.each; pairs = keeps.pairs }

pub may_exact : (list : List ℕ) (before : List PlannedFile) → Exact (MayFollow list before) file_code
may_exact list before = record { one = λ a b r s x y e. file_exact.one a b r s x.alone y.alone e }

-- files that stand leave no fault
pub files_stand : (list : List ℕ) (before files : List PlannedFile) (rest bytes : List ℕ) (at : ℕ) → Follows list before files → bytes ≡ flat_map file_code files ++ rest → FilesFault list before (length files) bytes at → ⊥
unfolding Follows FilesFault
files_stand list before [] rest bytes at follows is fault = fault
files_stand list before (f ∷ files) rest bytes at follows is fault =
    let split : (file_code f ++ flat_map file_code files) ++ rest ≡ file_code f ++ (flat_map file_code files ++ rest) = append_assoc (file_code f) (flat_map file_code files) rest in
    let begins : Begins (MayFollow list before) file_code bytes f (flat_map file_code files ++ rest) = record { kept = follows.0; is = is ∙ split } in
    let behind = fault_behind (may_exact list before) bytes at f (flat_map file_code files ++ rest) begins fault in
    files_stand list (before ++ f ∷ []) files rest (flat_map file_code files ++ rest) behind.0 follows.1 refl behind.2

-- as many files with the same code are the same
pub files_exact : (fs gs : List PlannedFile) (r s : List ℕ) → length fs ≡ length gs → AllByRecursion IsPlannable fs → AllByRecursion IsPlannable gs → flat_map file_code fs ++ r ≡ flat_map file_code gs ++ s → (fs ≡ gs) × (r ≡ s)
files_exact [] [] r s long x y e = (refl, e)
files_exact [] (g ∷ gs) r s long x y e = absurd (omega arith)
files_exact (f ∷ fs) [] r s long x y e = absurd (omega arith)
files_exact (f ∷ fs) (g ∷ gs) r s long x y e =
    let split = append_assoc (file_code f) (flat_map file_code fs) r in
    let other = append_assoc (file_code g) (flat_map file_code gs) s in
    let one = file_exact.one f g (flat_map file_code fs ++ r) (flat_map file_code gs ++ s) x.0 y.0 (sym split ∙ e ∙ other) in
    let rest = files_exact fs gs r s (omega arith) x.1 y.1 one.1 in
    ((λ i. one.0 i ∷ rest.0 i), rest.1)
