-- What is known of the paths of a plan.
use Rattle.std.proofs.Common.{◌≡◌, ◌≢◌, inl, inr, ℕ, ◌<◌, ◌≤◌, true, false, List, [], ◌∷◌, ◌++◌, length, refl, sym, ap, ◌∙◌, subst, arith}
use Rattle.std.specs.List.{AllByRecursion}
use Rattle.std.specs.Ordering.{nat_cmp}
use Rattle.std.specs.Cmp.Lexicographic.{slice_cmp, nat_list_cmp_total, other_text}
use Rattle.std.specs.declared.cmp.Ordering.TheVariants.{Less, Equal}
use Rattle.std.proofs.lemmas.Cmp.{tied_itself}
use Rattle.bay_core.specs.Paths.{IsScratch, journal_path, new_path, part_path}
use Rattle.path_text.specs.Path.{is_control_path}
use Rattle.path_text.proofs.ListNames.{list_name-no_control}
use Rattle.copy_plan.specs.declared.file.PlannedFile.{PlannedFile}
use Rattle.copy_plan.specs.Inventory.{IsPlannable, Precedes, EachPair}
use Rattle.copy_plan.specs.Plan.{PlanValue, IsPlan, Clears, list_of}
use Rattle.copy_plan.proofs.Files.{all_one, EachPair-before}
use Rattle.offload_law.specs.Lines.{IsShort}
use Rattle.drive_journal.proofs.Keeping.{not_own, journal_own, part_own}

pub journal_not_new : journal_path ≢ new_path
journal_not_new = other_text journal_path new_path refl

pub journal_not_part : journal_path ≢ part_path
journal_not_part = other_text journal_path part_path refl

new_own : is_control_path new_path ≡ true
unfolding is_control_path
new_own = refl

-- a path that is no control path is neither the journal nor a scratch path
pub not_journal : (q : List ℕ) → is_control_path q ≡ false → q ≢ journal_path
not_journal q free = not_own q journal_path journal_own free

pub not_new : (q : List ℕ) → is_control_path q ≡ false → q ≢ new_path
not_new q free = not_own q new_path new_own free

pub not_scratch : (q : List ℕ) → is_control_path q ≡ false → IsScratch q → ⊥
not_scratch q free (inl e) = not_new q free e
not_scratch q free (inr e) = not_own q part_path part_own free e

-- one that stands in front of another in a list
pub one_before : {A : Type 0} (P : A → Type 0) (front : List A) (x : A) (back before : List A) (y : A) (after : List A) → front ++ x ∷ back ≡ before ++ y ∷ after → length front < length before → AllByRecursion P before → P x
one_before P [] x back [] y after e less all = absurd (omega arith)
one_before P [] x back (z ∷ before) y after e less all = let same : x ≡ z = cc in subst P (sym same) all.0
one_before P (w ∷ front) x back [] y after e less all = absurd (omega arith)
one_before P (w ∷ front) x back (z ∷ before) y after e less all =
    let tails : front ++ x ∷ back ≡ before ++ y ∷ after = cc in
    one_before P front x back before y after tails (omega arith) all.1

not_less : (a b : List ℕ) → a ≡ b → slice_cmp nat_cmp a b ≡ Less → ⊥
not_less a b same less =
    let itself : slice_cmp nat_cmp a b ≡ Less = less in
    let tied : slice_cmp nat_cmp a b ≡ Equal = ap (λ (q : List ℕ). slice_cmp nat_cmp q b) same ∙ tied_itself nat_list_cmp_total b in
    let never : Less ≡ Equal = sym itself ∙ tied in
    absurd (cc never)

module _ (p : PlanValue) (plan : IsPlan p) where
  -- the numbers that the lines of a plan name are short
  pub files_short : (k : ℕ) → k ≤ length p.files → IsShort k
  files_short k few = let all = plan.inventory.few in omega (arith, few, all)

  pub list_free : is_control_path (list_of p) ≡ false
  list_free = list_name-no_control p.name p.started plan.name

  module _ (before : List PlannedFile) (f : PlannedFile) (after : List PlannedFile) (is : p.files ≡ before ++ f ∷ after) where
    pub file_plannable : IsPlannable f
    file_plannable = all_one IsPlannable before f after (subst (λ (l : List PlannedFile). AllByRecursion IsPlannable l) is plan.inventory.each)

    pub file_clear : Clears (list_of p) f
    file_clear = all_one (Clears (list_of p)) before f after (subst (λ (l : List PlannedFile). AllByRecursion (Clears (list_of p)) l) is plan.clear)

    pub file_free : is_control_path f.path ≡ false
    file_free = file_plannable.own

    -- the path of a file behind it is another
    pub files_differ : (front : List PlannedFile) (g : PlannedFile) (back : List PlannedFile) → p.files ≡ front ++ g ∷ back → length front < length before → g.path ≢ f.path
    files_differ front g back there less same =
        let all = EachPair-before Precedes before f after (subst (λ (l : List PlannedFile). EachPair Precedes l) is plan.inventory.pairs) in
        let precedes : Precedes g f = one_before (λ h. Precedes h f) front g back before f after (sym there ∙ is) less all in
        not_less g.path f.path same precedes.less
