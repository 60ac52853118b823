-- A listing has one answer, but for want of memory.
use Rattle.std.proofs.Common.{◌≡◌, ◌≢◌, ◌⊎◌, inl, inr, ℕ, ◌<◌, ◌≤◌, true, false, Bool, List, [], ◌∷◌, ◌++◌, length, map, refl, sym, ◌∙◌, ap, subst, arith}
use Rattle.std.specs.Prelude.{◌&&◌, Some, None, is_none, Contains, Result, Ok, Err}
use Rattle.std.specs.List.{All}
use Rattle.std.specs.Str.{is_utf8}
use Rattle.std.proofs.lemmas.Bool.{false≢true}
use Rattle.std.proofs.lemmas.List.{length-map}
use Rattle.std.proofs.lemmas.List.Elements.{All-nil, All-contains, All-contains_itself, All-weaker, All-from_recursion}
use Rattle.std.proofs.lemmas.List.Sorted.{length_permutation, All-permutation, IsPermutation-refl, IsPermutation-sym}
use Rattle.path_text.specs.Path.{is_path, refusal_of}
use Rattle.bay_core.specs.declared.event.FileInfo.{FileInfo}
use Rattle.copy_plan.specs.declared.file.PlannedFile.{PlannedFile}
use Rattle.copy_plan.specs.declared.inventory.BuildError.{BuildError}
use Rattle.copy_plan.specs.declared.inventory.BuildError.TheVariants.{Empty, TooManyBytes as ManyBytes, Control as OwnPath, TooBig as BigFile, Clash as TwoPaths}
use Rattle.copy_plan.specs.Inventory.{most_files, IsPlannable, IsInventory}
use Rattle.copy_plan.specs.Build.{IsArranged, BuildGives}
use Rattle.card_inventory.specs.declared.error.InventoryError.{InventoryError}
use Rattle.card_inventory.specs.declared.error.InventoryError.TheVariants.{SourceFailed, EmptyCard, TooManyFiles, BadPath, BadDate, TooManyBytes, Control, TooBig, Clash, Memory}
use Rattle.card_inventory.specs.Listed.{planned, IsGood, IsFew, IsFault, IsFirstFault, BuildRefuses, ListingGives, refusal_by}
use Rattle.card_inventory.proofs.Cards.{contains_image}
use Rattle.card_inventory.proofs.Members.{IsOneOf, one_between, two_places, contains_one}
use Rattle.card_inventory.proofs.Building.{one_build}

-- an answer of building as one for a listing
abbrev told : Result (List PlannedFile) BuildError → Result (List PlannedFile) InventoryError
told (Ok files) = Ok files
told (Err e) = Err (refusal_by e)

-- each file is good, and the answer is that of building them
record IsBuiltAs (listed : List FileInfo) (r : Result (List PlannedFile) InventoryError) : Type 0 where
  good : All IsGood listed
  arranged : List PlannedFile
  answer : Result (List PlannedFile) BuildError
  order : IsArranged (map planned listed) arranged
  gives : BuildGives arranged answer
  is : r ≡ told answer

-- the first file that is not good is refused so
record IsBad (listed : List FileInfo) (r : Result (List PlannedFile) InventoryError) : Type 0 where
  error : InventoryError
  fault : IsFirstFault listed error
  is : r ≡ Err error

-- too many files; or not, and a file that is not good, or what building gives
abbrev Way : List FileInfo → Result (List PlannedFile) InventoryError → Type 0
Way listed r = ((most_files < length listed) × (r ≡ Err (TooManyFiles (length listed)))) ⊎ (IsFew listed × (IsBad listed r ⊎ IsBuiltAs listed r))

-- ---- which way

unrefused : (text : List ℕ) → is_path text ≡ true → refusal_of text ≡ None
unfolding is_path
unrefused text is = elim (refusal_of text) as (λ o. (is_utf8 text && is_none o) ≡ true → o ≡ None) [
  | None ↦ λ h. refl
  | Some e ↦ λ h. absurd (neither (is_utf8 text) h)
] is
  where
    neither : (b : Bool) → (b && false) ≡ true → ⊥
    neither true h = false≢true h
    neither false h = false≢true h

good_of : (f : FileInfo) → IsPlannable (planned f) → IsGood f
good_of f is = record { path = unrefused f.path is.path; dated = is.dated }

-- what each file of a listing is where each is plannable
all_good : (listed : List FileInfo) (files : List PlannedFile) → IsArranged (map planned listed) files → IsInventory files → All IsGood listed
all_good listed files order whole =
    let each : All IsPlannable (map planned listed) = All-permutation IsPlannable files (map planned listed) (IsPermutation-sym (map planned listed) files order.same) (All-from_recursion IsPlannable files whole.each) in
    All-weaker (λ (f : FileInfo). IsPlannable (planned f)) IsGood good_of listed
    (All-weaker (Contains listed) (λ (f : FileInfo). IsPlannable (planned f)) (λ f here. All-contains IsPlannable (map planned listed) (planned f) each (contains_image planned listed f here)) listed (All-contains_itself listed))

long_as : (listed : List FileInfo) (arranged : List PlannedFile) → IsArranged (map planned listed) arranged → length arranged ≡ length listed
long_as listed arranged order = length_permutation (map planned listed) arranged order.same ∙ simp (length-map)

none_built : (listed : List FileInfo) → listed ≡ [] → IsBuiltAs listed (Err EmptyCard)
none_built [] is = record {
  good = All-nil IsGood;
  arranged = [];
  answer = Err Empty;
  order = record { same = IsPermutation-refl []; sorted = λ k d low high. absurd (omega arith) };
  gives = refl;
  is = refl;
}
none_built (f ∷ listed) is = let long = ap length is in absurd (omega arith)

few_of : (listed : List FileInfo) (e : BuildError) (few : (arranged : List PlannedFile) → BuildGives arranged (Err e) → length arranged ≤ most_files) → BuildRefuses listed e → IsFew listed
few_of listed e few b = subst (λ n. n ≤ most_files) (long_as listed b.arranged b.order) (few b.arranged b.refused)

built_as : (listed : List FileInfo) (e : BuildError) → BuildRefuses listed e → IsBuiltAs listed (Err (refusal_by e))
built_as listed e b = record { good = b.good; arranged = b.arranged; answer = Err e; order = b.order; gives = b.refused; is = refl }

way_of : (listed : List FileInfo) (r : Result (List PlannedFile) InventoryError) → ListingGives listed r → r ≢ Err Memory → Way listed r
way_of listed (Ok files) is known =
    let long = long_as listed files is.arranged in
    let few = is.whole.few in
    inr (omega arith, inr (record { good = all_good listed files is.arranged is.whole; arranged = files; answer = Ok files; order = is.arranged; gives = (refl, is.whole); is = refl }))
way_of listed (Err SourceFailed) is known = absurd is
way_of listed (Err EmptyCard) is known = let long = ap length is in inr (omega arith, inr (none_built listed is))
way_of listed (Err (TooManyFiles count)) is known = let high = is.1 in let same = is.0 in inl (omega arith, ap (λ n. Err (TooManyFiles n)) is.0)
way_of listed (Err (BadPath index cause)) is known = inr (is.0, inl (record { error = BadPath index cause; fault = is.1; is = refl }))
way_of listed (Err (BadDate path)) is known = inr (is.0, inl (record { error = BadDate path; fault = is.1; is = refl }))
way_of listed (Err (TooManyBytes sum)) is known = inr (few_of listed (ManyBytes sum) (λ arranged gives. gives.1) is, inr (built_as listed (ManyBytes sum) is))
way_of listed (Err (Control path)) is known = inr (few_of listed (OwnPath path) (λ arranged gives. gives.0.few) is, inr (built_as listed (OwnPath path) is))
way_of listed (Err (TooBig path)) is known = inr (few_of listed (BigFile path) (λ arranged gives. gives.0.few) is, inr (built_as listed (BigFile path) is))
way_of listed (Err (Clash first second)) is known = inr (few_of listed (TwoPaths first second) (λ arranged gives. gives.0.few) is, inr (built_as listed (TwoPaths first second) is))
way_of listed (Err Memory) is known = absurd (known refl)

-- ---- one answer

-- no fault of a file that is good
fault_none : (at : ℕ) (f : FileInfo) (e : InventoryError) → IsFault at f e → IsGood f → ⊥
fault_none at f (BadPath index cause) fault good = let wrong : Some cause ≡ None = sym fault.1 ∙ good.path in absurd (cc wrong)
fault_none at f (BadDate path) fault good = let low = good.dated in let high = fault.2 in omega arith
fault_none at f SourceFailed fault good = fault
fault_none at f EmptyCard fault good = fault
fault_none at f (TooManyFiles count) fault good = fault
fault_none at f (TooManyBytes sum) fault good = fault
fault_none at f (Control path) fault good = fault
fault_none at f (TooBig path) fault good = fault
fault_none at f (Clash first second) fault good = fault
fault_none at f Memory fault good = fault

-- a file has one fault
one_fault : (at : ℕ) (f : FileInfo) (d e : InventoryError) → IsFault at f d → IsFault at f e → d ≡ e
one_fault at f (BadPath i c) (BadPath j d) x y =
    let place : i ≡ j = x.0 ∙ sym y.0 in
    let cause : c ≡ d = cc (sym x.1 ∙ y.1) in
    λ k. BadPath (place k) (cause k)
one_fault at f (BadPath i c) (BadDate p) x y = let wrong : Some c ≡ None = sym x.1 ∙ y.1 in absurd (cc wrong)
one_fault at f (BadDate p) (BadPath i c) x y = let wrong : Some c ≡ None = sym y.1 ∙ x.1 in absurd (cc wrong)
one_fault at f (BadDate p) (BadDate q) x y = ap BadDate (x.0 ∙ sym y.0)
one_fault at f (BadPath i c) SourceFailed x y = absurd y
one_fault at f (BadPath i c) EmptyCard x y = absurd y
one_fault at f (BadPath i c) (TooManyFiles n) x y = absurd y
one_fault at f (BadPath i c) (TooManyBytes n) x y = absurd y
one_fault at f (BadPath i c) (Control p) x y = absurd y
one_fault at f (BadPath i c) (TooBig p) x y = absurd y
one_fault at f (BadPath i c) (Clash p q) x y = absurd y
one_fault at f (BadPath i c) Memory x y = absurd y
one_fault at f (BadDate p) SourceFailed x y = absurd y
one_fault at f (BadDate p) EmptyCard x y = absurd y
one_fault at f (BadDate p) (TooManyFiles n) x y = absurd y
one_fault at f (BadDate p) (TooManyBytes n) x y = absurd y
one_fault at f (BadDate p) (Control q) x y = absurd y
one_fault at f (BadDate p) (TooBig q) x y = absurd y
one_fault at f (BadDate p) (Clash q r) x y = absurd y
one_fault at f (BadDate p) Memory x y = absurd y
one_fault at f SourceFailed e x y = absurd x
one_fault at f EmptyCard e x y = absurd x
one_fault at f (TooManyFiles n) e x y = absurd x
one_fault at f (TooManyBytes n) e x y = absurd x
one_fault at f (Control p) e x y = absurd x
one_fault at f (TooBig p) e x y = absurd x
one_fault at f (Clash p q) e x y = absurd x
one_fault at f Memory e x y = absurd x

-- the first file that is not good is not among those that are
not_before : (listed ms : List FileInfo) (d e : InventoryError) (x : IsFirstFault listed d) (y : IsFirstFault listed e) → y.before ≡ x.before ++ x.file ∷ ms → ⊥
not_before listed ms d e x y is =
    fault_none (length x.before) x.file d x.fault
    (All-contains IsGood y.before x.file y.good (contains_one y.before x.file (subst (λ (l : List FileInfo). IsOneOf x.file l) (sym is) (one_between x.before x.file ms))))

one_first : (listed : List FileInfo) (d e : InventoryError) → IsFirstFault listed d → IsFirstFault listed e → d ≡ e
one_first listed d e x y =
    elim (two_places x.before x.file x.after y.before y.file y.after (sym x.is ∙ y.is)) [
      | inl same ↦ one_fault (length y.before) y.file d e (subst (λ (f : FileInfo). IsFault (length y.before) f d) same.1 (subst (λ (l : List FileInfo). IsFault (length l) x.file d) same.0 x.fault)) y.fault
      | inr apart ↦
          elim apart [
            | inl later ↦ absurd (not_before listed later.0 d e x y later.1)
            | inr earlier ↦ absurd (not_before listed earlier.0 e d y x earlier.1)
          ]
    ]

-- a file that is not good is not built
not_both : (listed : List FileInfo) (r s : Result (List PlannedFile) InventoryError) → IsBad listed r → IsBuiltAs listed s → ⊥
not_both listed r s bad built =
    let x = bad.fault in
    fault_none (length x.before) x.file bad.error x.fault
    (All-contains IsGood listed x.file built.good (contains_one listed x.file (subst (λ (l : List FileInfo). IsOneOf x.file l) (sym x.is) (one_between x.before x.file x.after))))

one_way : (listed : List FileInfo) (r s : Result (List PlannedFile) InventoryError) → Way listed r → Way listed s → r ≡ s
one_way listed r s (inl x) (inl y) = x.1 ∙ sym y.1
one_way listed r s (inl x) (inr y) = let high = x.0 in let low = y.0 in absurd (omega arith)
one_way listed r s (inr x) (inl y) = let high = y.0 in let low = x.0 in absurd (omega arith)
one_way listed r s (inr x) (inr y) = within x.1 y.1
  where
    within : IsBad listed r ⊎ IsBuiltAs listed r → IsBad listed s ⊎ IsBuiltAs listed s → r ≡ s
    within (inl a) (inl b) = a.is ∙ ap Err (one_first listed a.error b.error a.fault b.fault) ∙ sym b.is
    within (inl a) (inr b) = absurd (not_both listed r s a b)
    within (inr a) (inl b) = absurd (not_both listed s r b a)
    within (inr a) (inr b) = a.is ∙ ap told (one_build (map planned listed) a.arranged b.arranged a.answer b.answer a.order b.order a.gives b.gives) ∙ sym b.is

pub one_answer : (listed : List FileInfo) (r s : Result (List PlannedFile) InventoryError) → ListingGives listed r → ListingGives listed s → r ≢ Err Memory → s ≢ Err Memory → r ≡ s
one_answer listed r s x y r_known s_known = one_way listed r s (way_of listed r x r_known) (way_of listed s y s_known)
