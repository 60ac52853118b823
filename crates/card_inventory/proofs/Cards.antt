-- The inventory of a card by its one call.
use Rattle.std.proofs.Common.{◌≡◌, ℕ, Bool, true, List, [], ◌∷◌, length, map, refl, sym, ◌∙◌, subst, inl, inr}
use Rattle.std.specs.Prelude.{Option, Some, None, option_map, Result, Ok, Err, Contains, bytes_eq}
use Rattle.std.specs.List.{All, IsDistinct}
use Rattle.std.specs.Map.{lookup}
use Rattle.std.specs.FinMap.{get}
use Rattle.std.specs.Cmp.Lexicographic.{nat_list_eq_equiv, same_text}
use Rattle.std.proofs.lemmas.List.Elements.{All-nil, All-cons, All-weaker, All-map, All-contains, All-contains_itself, Contains-push, Contains-append_left, Contains-append_right}
use Rattle.std.proofs.lemmas.List.Sorted.{Contains-permutation, IsPermutation-sym}
use Rattle.std.proofs.lemmas.Map.Views.{lookup-from_Contains, Contains-from_lookup}
use Rattle.std.proofs.lemmas.Simd.{map-map}
use Rattle.bay_core.specs.declared.event.Event.{Event}
use Rattle.bay_core.specs.declared.event.Event.TheVariants.{SourceList}
use Rattle.bay_core.specs.declared.event.FileInfo.{FileInfo}
use Rattle.bay_core.specs.declared.failed.ListError.{ListError}
use Rattle.bay_core.specs.declared.failed.ListError.TheVariants.{Failed, Memory as Unlisted}
use Rattle.bay_core.specs.Map.{Map, Dates, Lists, AllDated, paths, listed_dates}
use Rattle.bay_core.specs.Looks.{IsUntouched}
use Rattle.bay_core.specs.Replay.{Device, Source}
use Rattle.bay_core.specs.World.{World}
use Rattle.bay_core.specs.Went.{Called, Went, Only, IsCall, MaySee, NoCall, CardListCall, no_fault}
use Rattle.bay_core.proofs.Runs.{went_such}
use Rattle.bay_core.proofs.Looking.{untouched_none, untouched_one}
use Rattle.copy_plan.specs.declared.file.PlannedFile.{PlannedFile}
use Rattle.card_inventory.specs.declared.error.InventoryError.{InventoryError}
use Rattle.card_inventory.specs.declared.error.InventoryError.TheVariants.{SourceFailed, EmptyCard, TooManyFiles, BadPath, BadDate, TooManyBytes, Control, TooBig, Clash, Memory}
use Rattle.card_inventory.specs.Listed.{planned, IsInventoryOf, ListingGives}
use Rattle.card_inventory.specs.Card.{IsFileOf, IsInventoryOfCard, IsListed, MayList, CardGives}

-- what is said of the calls may say less
pub called_such : {x : Device} {P Q : List Event → Type 0} {ok : Bool} {old new : World} → ((L : List Event) → P L → Q L) → Called x P ok old new → Called x Q ok old new
called_such so called = record { went = went_such so called.went; cause = called.cause }

-- no listing for want of memory
pub unlisted : (s : ℕ) (e : ListError) {old new : World} → e ≡ Unlisted → Called (Source s) (CardListCall s (Err e)) (no_fault (Err e)) old new → Called (Source s) NoCall true old new
unlisted s Unlisted is called = called
unlisted s Failed is called = absurd (cc is)

pub none_listed : (s : ℕ) {old new : World} → Called (Source s) NoCall true old new → Called (Source s) (MayList s) true old new
none_listed s called = called_such (λ L none. inl none) called

-- the answer for a listing that was got
pub listing_gives : (s : ℕ) (listed : List FileInfo) (r : Result (List PlannedFile) InventoryError) {old new : World} → IsListed s listed old new → ListingGives listed r → CardGives s r old new
listing_gives s listed (Ok files) is gives = (listed, is, gives)
listing_gives s listed (Err SourceFailed) is gives = absurd gives
listing_gives s listed (Err EmptyCard) is gives = (listed, is, gives)
listing_gives s listed (Err (TooManyFiles count)) is gives = (listed, is, gives)
listing_gives s listed (Err (BadPath index cause)) is gives = (listed, is, gives)
listing_gives s listed (Err (BadDate path)) is gives = (listed, is, gives)
listing_gives s listed (Err (TooManyBytes sum)) is gives = (listed, is, gives)
listing_gives s listed (Err (Control path)) is gives = (listed, is, gives)
listing_gives s listed (Err (TooBig path)) is gives = (listed, is, gives)
listing_gives s listed (Err (Clash first second)) is gives = (listed, is, gives)
listing_gives s listed (Err Memory) is gives = called_such (λ L call. inr (listed, call)) is.called

-- one listing changes nothing
pub one_untouched : (s : ℕ) (listed : List FileInfo) {old new : World} → Called (Source s) (IsCall (SourceList s (Some listed))) true old new → Went (Only (Source s)) IsUntouched old new
one_untouched s listed called = went_such (λ L call. subst IsUntouched (sym call) (untouched_one (SourceList s (Some listed)) refl)) called.went

pub none_untouched : (s : ℕ) {old new : World} → Called (Source s) NoCall true old new → Went (Only (Source s)) IsUntouched old new
none_untouched s called = went_such (λ L none. subst IsUntouched (sym none) untouched_none) called.went

pub failed_untouched : (s : ℕ) (e : ListError) {old new : World} → e ≡ Failed → Called (Source s) (CardListCall s (Err e)) (no_fault (Err e)) old new → Went (Only (Source s)) IsUntouched old new
failed_untouched s Unlisted is called = absurd (cc is)
failed_untouched s Failed is called = went_such may called.went
  where
    may : (L : List Event) → MaySee (SourceList s None) L → IsUntouched L
    may L (inl none) = subst IsUntouched (sym none) untouched_none
    may L (inr call) = subst IsUntouched (sym call) (untouched_one (SourceList s None) refl)

-- what a list has, its images have
mapped : {A B : Type 0} (f : A → B) (xs : List A) → All (λ x. Contains (map f xs) (f x)) xs
mapped {A} {B} f [] = All-nil (λ (x : A). Contains (map f []) (f x))
mapped {A} {B} f (y ∷ xs) =
    All-cons (λ (x : A). Contains (f y ∷ map f xs) (f x)) y xs (Contains-append_left (f y ∷ []) (map f xs) (f y) (Contains-push [] (f y)))
    (All-weaker (λ (x : A). Contains (map f xs) (f x)) (λ (x : A). Contains (f y ∷ map f xs) (f x)) (λ x in_rest. Contains-append_right (f y ∷ []) (map f xs) (f x) in_rest) xs (mapped f xs))

pub contains_image : {A B : Type 0} (f : A → B) (xs : List A) (x : A) → Contains xs x → Contains (map f xs) (f x)
contains_image {A} {B} f xs x in_it = All-contains (λ (y : A). Contains (map f xs) (f y)) xs x (mapped f xs) in_it

-- what images have comes from one that the list has
pub image_of : {A B : Type 0} (f : A → B) (xs : List A) (y : B) → Contains (map f xs) y → (x : A) × Contains xs x × (y ≡ f x)
image_of {A} {B} f xs y in_it =
    All-contains (λ (z : B). (x : A) × Contains xs x × (z ≡ f x)) (map f xs) y
    (All-map (λ (z : B). (x : A) × Contains xs x × (z ≡ f x)) f xs
    (All-weaker (Contains xs) (λ (x : A). (w : A) × Contains xs w × (f x ≡ f w)) (λ x here. (x, here, refl)) xs (All-contains_itself xs))) in_it

-- in a listing in which no path comes twice a look-up finds what a file has there
found_in : (field : FileInfo → ℕ) (listed : List FileInfo) (f : FileInfo) → IsDistinct bytes_eq (paths listed) → Contains listed f → lookup (bytes_eq f.path) (map (λ (g : FileInfo). (g.path, field g)) listed) ≡ Some (field f)
found_in field listed f once in_it =
    lookup-from_Contains nat_list_eq_equiv f.path (field f) (map (λ (g : FileInfo). (g.path, field g)) listed)
    (subst (λ (l : List (List ℕ)). IsDistinct bytes_eq l) (sym (map-map (λ (e : List ℕ × ℕ). e.0) (λ (g : FileInfo). (g.path, field g)) listed)) once)
    (contains_image (λ (g : FileInfo). (g.path, field g)) listed f in_it)

-- a file with this path and this size or date
pub record IsAt (field : FileInfo → ℕ) (f : FileInfo) (q : List ℕ) (n : ℕ) : Type 0 where
  pub path : q ≡ f.path
  pub value : n ≡ field f

found_from : (field : FileInfo → ℕ) (listed : List FileInfo) (q : List ℕ) (n : ℕ) → lookup (bytes_eq q) (map (λ (g : FileInfo). (g.path, field g)) listed) ≡ Some n → (f : FileInfo) × Contains listed f × IsAt field f q n
found_from field listed q n is =
    let from = image_of (λ (g : FileInfo). (g.path, field g)) listed (q, n) (Contains-from_lookup (λ x y same. same_text x y (sym same)) q n (map (λ (g : FileInfo). (g.path, field g)) listed) is) in
    (from.0, from.1, record { path = λ i. (from.2 i).0; value = λ i. (from.2 i).1 })

-- a listed file of a steady card is one of the card, with its size and its date
pub listed_file : (m : Map) (dates : Dates) (listed : List FileInfo) → Lists m dates listed → AllDated m dates → (f : FileInfo) → Contains listed f → IsFileOf m dates (planned f)
listed_file m dates listed lists known f in_it = record {
  size = size;
  date =
      let there = length_of (get m f.path) size in
      let date = known f.path there.0 there.1 in
      let same : Some date.0 ≡ Some f.modified = sym (lists.dated f.path date.0 date.1) ∙ found_in (λ g. g.modified) listed f lists.once in_it in
      date.1 ∙ same;
}
  where
    size : option_map length (get m f.path) ≡ Some f.size
    size = sym (lists.same f.path) ∙ found_in (λ g. g.size) listed f lists.once in_it

    length_of : (o : Option (List ℕ)) → option_map length o ≡ Some f.size → (bytes : List ℕ) × (o ≡ Some bytes)
    length_of None is = absurd (cc is)
    length_of (Some bytes) is = (bytes, refl)

-- and each file of the card is listed
pub file_listed : (m : Map) (dates : Dates) (listed : List FileInfo) → Lists m dates listed → (p : PlannedFile) → IsFileOf m dates p → Contains (map planned listed) p
file_listed m dates listed lists p is =
    let found = found_from (λ g. g.size) listed p.path p.size (lists.same p.path ∙ is.size) in
    let dated = lists.dated p.path p.modified is.date in
    let here : lookup (bytes_eq p.path) (listed_dates listed) ≡ Some found.0.modified = subst (λ (q : List ℕ). lookup (bytes_eq q) (listed_dates listed) ≡ Some found.0.modified) (sym found.2.path) (found_in (λ g. g.modified) listed found.0 lists.once found.1) in
    let date : p.modified ≡ found.0.modified = cc (sym dated ∙ here) in
    let same : p ≡ planned found.0 = λ i. record { path = found.2.path i; size = found.2.value i; modified = date i } in
    subst (λ (q : PlannedFile). Contains (map planned listed) q) (sym same) (contains_image planned listed found.0 found.1)

-- so the inventory of the listing is that of the card
pub inventory_of_card : (m : Map) (dates : Dates) (listed : List FileInfo) (files : List PlannedFile) → Lists m dates listed → AllDated m dates → IsInventoryOf listed files → IsInventoryOfCard m dates files
inventory_of_card m dates listed files lists known is = record {
  whole = is.whole;
  just = λ p. (
    (λ in_it.
        let from = image_of planned listed p (Contains-permutation files (map planned listed) p (IsPermutation-sym (map planned listed) files is.arranged.same) in_it) in
        subst (IsFileOf m dates) (sym from.2) (listed_file m dates listed lists known from.0 from.1)),
    (λ one. Contains-permutation (map planned listed) files p is.arranged.same (file_listed m dates listed lists p one)),
  );
}
