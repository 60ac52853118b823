-- A card has one inventory, and it is that of each listing of the card.
use Rattle.std.proofs.Common.{◌≡◌, inl, inr, ◌+◌, false, List, [], ◌∷◌, ◌++◌, map, get_or, refl, sym, ◌∙◌, ap, subst, arith}
use Rattle.std.specs.Prelude.{◌↔◌, bytes_eq, Contains, Result, Ok, Err}
use Rattle.std.specs.List.{AllByRecursion, IsDistinct}
use Rattle.std.specs.List.Sorted.{IsPermutation, IsSortedBy}
use Rattle.std.specs.Ordering.{nat_cmp, is_lt, ordering_reverse}
use Rattle.std.specs.Cmp.Lexicographic.{slice_cmp, nat_list_eq_equiv}
use Rattle.std.specs.declared.cmp.Ordering.TheVariants.{Less, Equal}
use Rattle.std.proofs.lemmas.Bool.{false≢true}
use Rattle.std.proofs.lemmas.Cmp.{nat_list_cmp_total, tied_itself}
use Rattle.std.proofs.lemmas.List.Sorted.{IsPermutation-refl, IsPermutation-sym, IsPermutation-trans, IsPermutation-cons, IsPermutation-middle}
use Rattle.std.proofs.lemmas.Map.Keys.{IsDistinct-head, IsDistinct-tail}
use Rattle.bay_core.specs.declared.event.FileInfo.{FileInfo}
use Rattle.bay_core.specs.Map.{Map, Dates, Lists, AllDated, paths}
use Rattle.copy_plan.specs.declared.file.PlannedFile.{PlannedFile}
use Rattle.copy_plan.specs.Inventory.{EachPair, Precedes}
use Rattle.copy_plan.proofs.Above.{EachPair-at, map_all}
use Rattle.copy_plan.proofs.Arranged.{comes_before}
use Rattle.card_inventory.specs.declared.error.InventoryError.{InventoryError}
use Rattle.card_inventory.specs.declared.error.InventoryError.TheVariants.{SourceFailed, EmptyCard, TooManyFiles, BadPath, BadDate, TooManyBytes, Control, TooBig, Clash, Memory}
use Rattle.card_inventory.specs.Listed.{planned, IsInventoryOf, ListingGives}
use Rattle.card_inventory.specs.Card.{IsFileOf, IsInventoryOfCard, SteadyGives}
use Rattle.card_inventory.proofs.Cards.{image_of, listed_file, file_listed, inventory_of_card}
use Rattle.card_inventory.proofs.Members.{IsOneOf, one_of, contains_one, rule_of_one, pairs_mapped}
use Rattle.card_inventory.proofs.Arrangements.{same_inventory}
use Rattle.card_inventory.proofs.OneAnswer.{one_answer}

-- not the same
abbrev AreTwo : {A : Type 0} → A → A → Type 0
AreTwo x y = x ≡ y → ⊥

-- a list that has x, cut at x
record IsCut {A : Type 0} (xs : List A) (x : A) : Type 0 where
  before : List A
  after : List A
  is : xs ≡ before ++ x ∷ after

cut : {A : Type 0} (xs : List A) (x : A) → IsOneOf x xs → IsCut xs x
cut {A} [] x is = absurd is
cut {A} (y ∷ xs) x (inl is) = record { before = []; after = xs; is = ap (λ (z : A). z ∷ xs) (sym is) }
cut {A} (y ∷ xs) x (inr is) = let rest = cut xs x is in record { before = y ∷ rest.before; after = rest.after; is = ap (λ (l : List A). y ∷ l) rest.is }

-- without the one between them
without : {A : Type 0} (P : A → Type 0) (us : List A) (x : A) (vs : List A) → AllByRecursion P (us ++ x ∷ vs) → AllByRecursion P (us ++ vs)
without P [] x vs all = all.1
without P (u ∷ us) x vs all = (all.0, without P us x vs all.1)

pairs_without : {A : Type 0} (R : A → A → Type 0) (us : List A) (x : A) (vs : List A) → EachPair R (us ++ x ∷ vs) → EachPair R (us ++ vs)
unfolding EachPair
pairs_without R [] x vs pairs = pairs.1
pairs_without R (u ∷ us) x vs pairs = (without (R u) us x vs pairs.0, pairs_without R us x vs pairs.1)

one_more : {A : Type 0} (us : List A) (x : A) (vs : List A) (z : A) → IsOneOf z (us ++ vs) → IsOneOf z (us ++ x ∷ vs)
one_more [] x vs z is = inr is
one_more (u ∷ us) x vs z (inl is) = inl is
one_more (u ∷ us) x vs z (inr is) = inr (one_more us x vs z is)

one_less : {A : Type 0} (us : List A) (x : A) (vs : List A) (z : A) → IsOneOf z (us ++ x ∷ vs) → (z ≡ x → ⊥) → IsOneOf z (us ++ vs)
one_less [] x vs z (inl is) other = absurd (other is)
one_less [] x vs z (inr is) other = is
one_less (u ∷ us) x vs z (inl is) other = inl is
one_less (u ∷ us) x vs z (inr is) other = inr (one_less us x vs z is other)

-- in a list without repeats the one between is not among the others
not_again : {A : Type 0} (us : List A) (x : A) (vs : List A) → EachPair AreTwo (us ++ x ∷ vs) → IsOneOf x (us ++ vs) → ⊥
unfolding EachPair
not_again {A} [] x vs pairs is = rule_of_one (AreTwo x) vs x pairs.0 is refl
not_again {A} (u ∷ us) x vs pairs (inl is) = rule_of_one (AreTwo u) (us ++ x ∷ vs) x pairs.0 (between us) (sym is)
  where
    between : (ws : List A) → IsOneOf x (ws ++ x ∷ vs)
    between [] = inl refl
    between (w ∷ ws) = inr (between ws)
not_again {A} (u ∷ us) x vs pairs (inr is) = not_again us x vs pairs.1 is

-- lists without repeats that have the same are arrangements of each other
permuted : {A : Type 0} (xs ys : List A) → EachPair AreTwo xs → EachPair AreTwo ys → ((z : A) → IsOneOf z xs → IsOneOf z ys) → ((z : A) → IsOneOf z ys → IsOneOf z xs) → IsPermutation xs ys
unfolding EachPair
permuted {A} [] [] one two there back = IsPermutation-refl []
permuted {A} [] (y ∷ ys) one two there back = absurd (back y (inl refl))
permuted {A} (x ∷ xs) ys one two there back =
    let at = cut ys x (there x (inl refl)) in
    let whole : EachPair AreTwo (at.before ++ x ∷ at.after) = subst (λ (l : List A). EachPair AreTwo l) at.is two in
    let rest : IsPermutation xs (at.before ++ at.after) = permuted xs (at.before ++ at.after) one.1 (pairs_without AreTwo at.before x at.after whole)
    (λ z is. one_less at.before x at.after z (subst (λ (l : List A). IsOneOf z l) at.is (there z (inr is))) (λ same. rule_of_one (AreTwo x) xs z one.0 is (sym same)))
    (λ z is. other z (back z (subst (λ (l : List A). IsOneOf z l) (sym at.is) (one_more at.before x at.after z is))) (λ same. not_again at.before x at.after whole (subst (λ (w : A). IsOneOf w (at.before ++ at.after)) same is))) in
    subst (λ (l : List A). IsPermutation (x ∷ xs) l) (sym at.is)
    (IsPermutation-trans (x ∷ xs) (x ∷ (at.before ++ at.after)) (at.before ++ x ∷ at.after) (IsPermutation-cons x xs (at.before ++ at.after) rest)
    (IsPermutation-sym (at.before ++ x ∷ at.after) (x ∷ (at.before ++ at.after)) (IsPermutation-middle at.before x at.after)))
  where
    other : (z : A) → IsOneOf z (x ∷ xs) → (z ≡ x → ⊥) → IsOneOf z xs
    other z (inl is) not = absurd (not is)
    other z (inr is) not = is

-- a listing of each path once lists no file twice
listed_once : (listed : List FileInfo) → IsDistinct bytes_eq (paths listed) → EachPair (λ f g. AreTwo (planned f) (planned g)) listed
unfolding EachPair
listed_once [] once = tt
listed_once (f ∷ listed) once = (others listed (IsDistinct-head bytes_eq f.path (paths listed) once), listed_once listed (IsDistinct-tail bytes_eq f.path (paths listed) once))
  where
    others : (gs : List FileInfo) → AllByRecursion (λ q. bytes_eq f.path q ≡ false) (paths gs) → AllByRecursion (λ g. AreTwo (planned f) (planned g)) gs
    others [] all = tt
    others (g ∷ gs) all = (
      (λ same. false≢true (sym all.0 ∙ (ap (λ (p : PlannedFile). bytes_eq f.path p.path) (sym same) ∙ nat_list_eq_equiv.refl f.path))),
      others gs all.1,
    )

-- nor has an inventory
two_files : (f g : PlannedFile) → Precedes f g → AreTwo f g
two_files f g before same =
    let less : slice_cmp nat_cmp f.path f.path ≡ Less = ap (λ (p : PlannedFile). slice_cmp nat_cmp f.path p.path) same ∙ before.less in
    let e : Equal ≡ Less = sym (tied_itself nat_list_cmp_total f.path) ∙ less in absurd (cc)

held_once : (files : List PlannedFile) → EachPair Precedes files → EachPair AreTwo files
unfolding EachPair
held_once [] pairs = tt
held_once (f ∷ files) pairs = (map_all (Precedes f) (AreTwo f) (two_files f) files pairs.0, held_once files pairs.1)

-- an inventory is in order
in_order : (files : List PlannedFile) → EachPair Precedes files → IsSortedBy comes_before files
in_order files pairs = λ k d low high. behind (get_or files k d) (get_or files (k + 1) d) (EachPair-at Precedes files pairs k (k + 1) d (omega arith) high)
  where
    behind : (f g : PlannedFile) → Precedes f g → comes_before g f ≡ false
    behind f g before = ap is_lt (nat_list_cmp_total.antisymm g.path f.path ∙ ap ordering_reverse before.less)

inventory_from_card : (m : Map) (dates : Dates) (listed : List FileInfo) (files : List PlannedFile) → Lists m dates listed → AllDated m dates → IsInventoryOfCard m dates files → IsInventoryOf listed files
inventory_from_card m dates listed files lists known is = record {
  arranged = record {
    same =
        permuted (map planned listed) files (pairs_mapped planned AreTwo listed (listed_once listed lists.once)) (held_once files is.whole.pairs)
        (λ f one. one_of files f ((is.just f).1 (of_listed f (image_of planned listed f (contains_one (map planned listed) f one)))))
        (λ f one. one_of (map planned listed) f (file_listed m dates listed lists f ((is.just f).0 (contains_one files f one))));
    sorted = in_order files is.whole.pairs;
  };
  whole = is.whole;
}
  where
    of_listed : (f : PlannedFile) → (g : FileInfo) × Contains listed g × (f ≡ planned g) → IsFileOf m dates f
    of_listed f (g, in_it, same) = subst (IsFileOf m dates) (sym same) (listed_file m dates listed lists known g in_it)

pub same_as_card : (m : Map) (dates : Dates) (listed : List FileInfo) (files : List PlannedFile) → Lists m dates listed → AllDated m dates → (IsInventoryOf listed files ↔ IsInventoryOfCard m dates files)
same_as_card m dates listed files lists known = (inventory_of_card m dates listed files lists known, inventory_from_card m dates listed files lists known)

pub one_of_card : (m : Map) (dates : Dates) (a b : List PlannedFile) → IsInventoryOfCard m dates a → IsInventoryOfCard m dates b → a ≡ b
one_of_card m dates a b one two =
    same_inventory a b one.whole.pairs two.whole.pairs (λ f is. one_of b f ((two.just f).1 ((one.just f).0 (contains_one a f is))))
    (λ f is. one_of a f ((one.just f).1 ((two.just f).0 (contains_one b f is))))

-- a card whose listing is refused has no inventory
refused_none : (m : Map) (dates : Dates) (listed : List FileInfo) (e : InventoryError) → Lists m dates listed → AllDated m dates → (e ≡ Memory → ⊥) → ListingGives listed (Err e)
    → (files : List PlannedFile) → IsInventoryOfCard m dates files → ⊥
refused_none m dates listed e lists known not gives files is =
    let ok : Result (List PlannedFile) InventoryError = Ok files in
    let same : ok ≡ Err e = one_answer listed (Ok files) (Err e) (inventory_from_card m dates listed files lists known is) gives (λ w. cc w) (λ w. let w' : e ≡ Memory = cc w in not w') in
    cc same

pub steady_gives : (m : Map) (dates : Dates) (listed : List FileInfo) (r : Result (List PlannedFile) InventoryError) → Lists m dates listed → AllDated m dates → ListingGives listed r → SteadyGives m dates r
steady_gives m dates listed (Ok files) lists known gives = inventory_of_card m dates listed files lists known gives
steady_gives m dates listed (Err SourceFailed) lists known gives = tt
steady_gives m dates listed (Err EmptyCard) lists known gives = refused_none m dates listed EmptyCard lists known (λ w. cc w) gives
steady_gives m dates listed (Err (TooManyFiles n)) lists known gives = refused_none m dates listed (TooManyFiles n) lists known (λ w. cc w) gives
steady_gives m dates listed (Err (BadPath i c)) lists known gives = refused_none m dates listed (BadPath i c) lists known (λ w. cc w) gives
steady_gives m dates listed (Err (BadDate p)) lists known gives = refused_none m dates listed (BadDate p) lists known (λ w. cc w) gives
steady_gives m dates listed (Err (TooManyBytes n)) lists known gives = refused_none m dates listed (TooManyBytes n) lists known (λ w. cc w) gives
steady_gives m dates listed (Err (Control p)) lists known gives = refused_none m dates listed (Control p) lists known (λ w. cc w) gives
steady_gives m dates listed (Err (TooBig p)) lists known gives = refused_none m dates listed (TooBig p) lists known (λ w. cc w) gives
steady_gives m dates listed (Err (Clash p q)) lists known gives = refused_none m dates listed (Clash p q) lists known (λ w. cc w) gives
steady_gives m dates listed (Err Memory) lists known gives = tt
