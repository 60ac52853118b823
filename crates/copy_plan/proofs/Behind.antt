-- A file behind the files before it.
use Rattle.std.proofs.Common.{◌≡◌, ℕ, suc, ◌-◌, Bool, true, false, List, [], ◌∷◌, ◌++◌, length, refl, sym, ◌∙◌, ap, subst, arith}
use Rattle.std.specs.Prelude.{Option, Some, None, is_some, not, slice_get, IfSome, IfNone}
use Rattle.std.specs.List.{AllByRecursion}
use Rattle.std.specs.Ordering.{nat_cmp, is_lt}
use Rattle.std.specs.declared.cmp.Ordering.{Ordering}
use Rattle.std.specs.declared.cmp.Ordering.TheVariants.{Less, Equal, Greater}
use Rattle.std.specs.Cmp.Lexicographic.{slice_cmp}
use Rattle.std.proofs.lemmas.Cmp.{nat_list_cmp_total}
use Rattle.path_text.specs.Path.{is_ancestor}
use Rattle.copy_plan.specs.declared.file.PlannedFile.{PlannedFile}
use Rattle.copy_plan.specs.Inventory.{Precedes, EachPair}
use Rattle.copy_plan.specs.Ancestors.{FirstAncestor}
use Rattle.copy_plan.proofs.Files.{EachPair-before, AllByRecursion-append, all_one}

-- a list with a last element
pub split_last : (xs : List PlannedFile) (last : PlannedFile) → Some last ≡ slice_get xs (length xs - 1) → (front : List PlannedFile) × (xs ≡ front ++ last ∷ [])
split_last [] last is = absurd (cc)
split_last (x ∷ []) last is = let same : last ≡ x = cc in ([], λ i. sym same i ∷ [])
split_last (x ∷ y ∷ ys) last is =
    let at : length (x ∷ y ∷ ys) - 1 ≡ suc (length (y ∷ ys) - 1) = omega arith in
    let rest = split_last (y ∷ ys) last (is ∙ ap (slice_get (x ∷ y ∷ ys)) at) in
    (x ∷ rest.0, ap (λ (l : List PlannedFile). x ∷ l) rest.1)

less_is : (o : Ordering) → is_lt o ≡ true → o ≡ Less
less_is Less is = refl
less_is Equal is = absurd (cc)
less_is Greater is = absurd (cc)

-- the paths of these files come before this one
all_less : (path : List ℕ) (front : List PlannedFile) (last : PlannedFile) → AllByRecursion (λ g. Precedes g last) front → slice_cmp nat_cmp last.path path ≡ Less → AllByRecursion (λ g. slice_cmp nat_cmp g.path path ≡ Less) front
all_less path [] last before less = tt
all_less path (g ∷ front) last before less = (nat_list_cmp_total.trans g.path last.path path before.0.less less, all_less path front last before.1 less)

all_precede : (files : List PlannedFile) (f : PlannedFile) → AllByRecursion (λ g. slice_cmp nat_cmp g.path f.path ≡ Less) files → AllByRecursion (λ g. is_ancestor g.path f.path ≡ false) files → AllByRecursion (λ g. Precedes g f) files
all_precede [] f less apart = tt
all_precede (g ∷ files) f less apart = (record { less = less.0; apart = apart.0 }, all_precede files f less.1 apart.1)

all_apart : (files : List PlannedFile) (f : PlannedFile) → AllByRecursion (λ g. Precedes g f) files → AllByRecursion (λ g. is_ancestor g.path f.path ≡ false) files
all_apart [] f behind = tt
all_apart (g ∷ files) f behind = (behind.0.apart, all_apart files f behind.1)

-- one that is an ancestor is among them
not_first : (files : List PlannedFile) (f : PlannedFile) (at : ℕ) → FirstAncestor f.path files at → AllByRecursion (λ g. is_ancestor g.path f.path ≡ false) files → ⊥
not_first files f at first apart =
    let here = all_one (λ (g : PlannedFile). is_ancestor g.path f.path ≡ false) first.before first.file first.after (subst (λ (l : List PlannedFile). AllByRecursion (λ g. is_ancestor g.path f.path ≡ false) l) first.is apart) in
    let above = first.above in
    absurd (cc)

-- what two tests tell of a file that may come behind the last of these
pub behind_last : (files : List PlannedFile) (last f : PlannedFile) (none : Bool) (above : Option ℕ) → EachPair Precedes files → Some last ≡ slice_get files (length files - 1) → is_lt (slice_cmp nat_cmp last.path f.path) ≡ true
    → IfSome above (λ at. FirstAncestor f.path files at) → IfNone above (AllByRecursion (λ g. is_ancestor g.path f.path ≡ false) files) → is_some above ≡ not none
    → (none ≡ true → AllByRecursion (λ g. Precedes g f) files) × (AllByRecursion (λ g. Precedes g f) files → none ≡ true)
behind_last files last f true None pairs is less found apart test =
    let split = split_last files last is in
    let pairs2 = subst (λ (l : List PlannedFile). EachPair Precedes l) split.1 pairs in
    let low = less_is (slice_cmp nat_cmp last.path f.path) less in
    let all = AllByRecursion-append (λ (g : PlannedFile). slice_cmp nat_cmp g.path f.path ≡ Less) split.0 (last ∷ []) (all_less f.path split.0 last (EachPair-before Precedes split.0 last [] pairs2) low) (low, tt) in
    (λ yes. all_precede files f (subst (λ (l : List PlannedFile). AllByRecursion (λ g. slice_cmp nat_cmp g.path f.path ≡ Less) l) (sym split.1) all) apart, λ behind. refl)
behind_last files last f false None pairs is less found apart test = absurd (cc)
behind_last files last f true (Some at) pairs is less found apart test = absurd (cc)
behind_last files last f false (Some at) pairs is less found apart test = (λ no. absurd (cc), λ behind. absurd (not_first files f at found (all_apart files f behind)))
