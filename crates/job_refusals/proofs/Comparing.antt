-- First refusals by what was seen of some drives, and by what there is to see of all.
use Rattle.std.proofs.Common.{◌≡◌, ◌≢◌, ◌⊎◌, inl, inr, ℕ, suc, ◌+◌, ◌<◌, ◌≤◌, List, [], ◌∷◌, length, get_or, refl, sym, ap, ◌∙◌, subst, arith}
use Rattle.std.specs.Prelude.{Option, Some, Result, Ok, Err}
use Rattle.std.specs.List.{slice_get, AllByRecursion}
use Rattle.std.proofs.lemmas.Option.{slice_get-get_or, same_Some}
use Rattle.bay_core.specs.declared.event.FileInfo.{FileInfo}
use Rattle.card_inventory.specs.declared.error.InventoryError.{InventoryError}
use Rattle.card_inventory.specs.declared.error.InventoryError.TheVariants.{SourceFailed, EmptyCard, TooManyFiles, BadPath, BadDate, TooManyBytes, Control, TooBig, Clash as FilesClash, Memory as CardMemory}
use Rattle.card_inventory.specs.Listed.{ListingGives}
use Rattle.card_inventory.proofs.OneAnswer.{one_answer}
use Rattle.copy_plan.specs.declared.file.PlannedFile.{PlannedFile}
use Rattle.copy_plan.specs.Plan.{PlanValue}
use Rattle.drive_journal.specs.Found.{JournalFound, Journal}
use Rattle.fresh_opening.specs.declared.error.FreshError.{FreshError}
use Rattle.fresh_opening.specs.declared.error.FreshError.TheVariants.{Inventory, NotAJournal, AlreadyBegun, NoDrive, Clash, Occupied, OutFailed as LineFailed, Memory}
use Rattle.fresh_opening.specs.Looks.{Reaches, Refuses}
use Rattle.fresh_opening.specs.Refusals.{Scene, IsSeen, Applies, rank, IsFirst, NoneBefore}
use Rattle.fresh_opening.specs.Sights.{Sight, Dropped, Found}
use Rattle.fresh_opening.proofs.Refusing.{all_at}
use Rattle.fresh_opening.proofs.Sameness.{one_refusal}
use Rattle.run_reads.proofs.Places.{below}
use Rattle.job_refusals.specs.First.{RefusesListing, HasInventory, RefusesBehind, IsFirstRefusal, NothingRefuses}

-- ---- one first refusal

-- a refusal of a listing is its answer
record Unlisted (listed : List FileInfo) (e : InventoryError) : Type 0 where
  gives : ListingGives listed (Err e)
  known : e ≢ CardMemory

unlisted : (listed : List FileInfo) (e : InventoryError) → RefusesListing listed e → Unlisted listed e
unlisted listed SourceFailed r = absurd r
unlisted listed CardMemory r = absurd r
unlisted listed EmptyCard r = record { gives = r; known = λ is. cc is }
unlisted listed (TooManyFiles count) r = record { gives = r; known = λ is. cc is }
unlisted listed (BadPath index cause) r = record { gives = r; known = λ is. cc is }
unlisted listed (BadDate path) r = record { gives = r; known = λ is. cc is }
unlisted listed (TooManyBytes sum) r = record { gives = r; known = λ is. cc is }
unlisted listed (Control path) r = record { gives = r; known = λ is. cc is }
unlisted listed (TooBig path) r = record { gives = r; known = λ is. cc is }
unlisted listed (FilesClash first second) r = record { gives = r; known = λ is. cc is }

is_known : (answer : Result (List PlannedFile) InventoryError) (e : InventoryError) → answer ≡ Err e → e ≢ CardMemory → answer ≢ Err CardMemory
is_known answer e is known wanting =
    let both = sym is ∙ wanting in
    let one : e ≡ CardMemory = cc both in
    known one

-- a card that has an inventory is not refused
pub listed_not : (listed : List FileInfo) (e : InventoryError) → HasInventory listed → RefusesListing listed e → ⊥
listed_not listed e (files, whole) r =
    let u = unlisted listed e r in
    let same : Ok files ≡ Err e = one_answer listed (Ok files) (Err e) whole u.gives (λ is. absurd (cc is)) (is_known (Err e) e refl u.known) in
    cc same

one_unlisted : (listed : List FileInfo) (d e : InventoryError) → RefusesListing listed d → RefusesListing listed e → d ≡ e
one_unlisted listed d e x y =
    let u = unlisted listed d x in
    let v = unlisted listed e y in
    let same = one_answer listed (Err d) (Err e) u.gives v.gives (is_known (Err d) d refl u.known) (is_known (Err e) e refl v.known) in
    cc same

-- a first refusal is that of the card, or one behind it
pub which : (listed : List FileInfo) (s : Scene) (e : FreshError) → IsFirstRefusal listed s e → ((c : InventoryError) × (e ≡ Inventory c) × RefusesListing listed c) ⊎ RefusesBehind listed s e
which listed s (Inventory e) r = inl (e, refl, r)
which listed s (NotAJournal d at) r = inr r
which listed s (AlreadyBegun d) r = inr r
which listed s (Clash list path) r = inr r
which listed s (Occupied d path) r = inr r
which listed s NoDrive r = absurd r
which listed s LineFailed r = absurd r
which listed s Memory r = absurd r

pub one_first : (listed : List FileInfo) (s : Scene) → s.first + length s.sights ≤ 8 → (d e : FreshError) → IsFirstRefusal listed s d → IsFirstRefusal listed s e → d ≡ e
one_first listed s few d e x y = by (which listed s d x) (which listed s e y)
  where
    by : ((c : InventoryError) × (d ≡ Inventory c) × RefusesListing listed c) ⊎ RefusesBehind listed s d → ((c : InventoryError) × (e ≡ Inventory c) × RefusesListing listed c) ⊎ RefusesBehind listed s e → d ≡ e
    by (inl a) (inl b) = a.1 ∙ ap Inventory (one_unlisted listed a.0 b.0 a.2 b.2) ∙ sym b.1
    by (inl a) (inr b) = absurd (listed_not listed a.0 b.0 a.2)
    by (inr a) (inl b) = absurd (listed_not listed b.0 a.0 b.2)
    by (inr a) (inr b) = one_refusal s few d e a.1 b.1

-- nor is there one where nothing refuses
pub none_first : (listed : List FileInfo) (s : Scene) (e : FreshError) → NothingRefuses listed s → IsFirstRefusal listed s e → ⊥
none_first listed s e nothing first = elim (which listed s e first) [
  | inl card ↦ listed_not listed card.0 nothing.inventory card.2
  | inr behind ↦ nothing.none e behind.1.applies
]

-- ---- two scenes, of which one saw the first drives of the other

pub record Agrees (count : ℕ) (r s : Scene) : Type 0 where
  pub count_few : count ≤ 8
  pub from : r.first ≡ 0
  pub first : s.first ≡ 0
  pub few : length r.sights ≤ count
  pub whole : length s.sights ≡ count
  pub sights : (d : ℕ) (x : Sight) → slice_get r.sights d ≡ Some x → slice_get s.sights d ≡ Some x
  pub plan : (p : PlanValue) → r.plan ≡ Some p → s.plan ≡ Some p

same_sights : (xs ys : List Sight) → length xs ≡ length ys → ((d : ℕ) (x : Sight) → slice_get xs d ≡ Some x → slice_get ys d ≡ Some x) → xs ≡ ys
same_sights [] [] long same = refl
same_sights [] (y ∷ ys) long same = absurd (omega (arith, long))
same_sights (x ∷ xs) [] long same = absurd (omega (arith, long))
same_sights (x ∷ xs) (y ∷ ys) long same =
    let head : x ≡ y = sym (same_Some y x (same 0 x refl)) in
    let rest : xs ≡ ys = same_sights xs ys (omega (arith, long)) (λ d z at. same (suc d) z at) in
    λ i. head i ∷ rest i

module _ (count : ℕ) (r s : Scene) (a : Agrees count r s) where
  -- all drives were seen, and the plan was made
  pub same_scene : length r.sights ≡ count → (p : PlanValue) → r.plan ≡ Some p → r ≡ s
  same_scene whole p planned =
      let first : r.first ≡ s.first = a.from ∙ sym a.first in
      let sights : r.sights ≡ s.sights = same_sights r.sights s.sights (whole ∙ sym a.whole) a.sights in
      let plan : r.plan ≡ s.plan = planned ∙ sym (a.plan p planned) in
      λ i. record { first = first i; sights = sights i; plan = plan i }

  up : (d : ℕ) (size : List ℕ → Option ℕ) (found : JournalFound) → IsSeen r d size found → IsSeen s d size found
  up d size found x = record {
    place = x.place;
    number = (let number = x.number in let from = a.from in let first = a.first in omega (arith, number, from, first));
    is = a.sights x.place (Found size found) x.is;
  }

  down : (d : ℕ) (size : List ℕ → Option ℕ) (found : JournalFound) → d < length r.sights → IsSeen s d size found → IsSeen r d size found
  down d size found low x =
      let number = x.number in
      let from = a.from in
      let first = a.first in
      let y : Sight = get_or r.sights x.place Dropped in
      let there : slice_get r.sights x.place ≡ Some y = slice_get-get_or r.sights x.place Dropped (omega (arith, number, first, low)) in
      let same : Found size found ≡ y = same_Some (Found size found) y (sym x.is ∙ a.sights x.place y there) in
      record { place = x.place; number = omega (arith, number, from, first); is = there ∙ ap Some (sym same) }

  -- what applies by the drives that were seen
  pub applies_down : (e : FreshError) → rank e < length r.sights → Applies s e → Applies r e
  applies_down (NotAJournal d at) low (size, found, seen, fault) = (size, found, down d size found low seen, fault)
  applies_down (AlreadyBegun d) low (size, bytes, p, recs, seen, holds) = (size, bytes, p, recs, down d size (Journal bytes) low seen, holds)
  applies_down NoDrive low x = let few = a.few in let eight = a.count_few in absurd (omega (arith, low, few, eight))
  applies_down (Clash list path) low x = let few = a.few in let eight = a.count_few in absurd (omega (arith, low, few, eight))
  applies_down (Occupied d path) low x = let few = a.few in let eight = a.count_few in absurd (omega (arith, low, few, eight))
  applies_down (Inventory e) low x = absurd x
  applies_down LineFailed low x = absurd x
  applies_down Memory low x = absurd x

  first_seen : (e : FreshError) → rank e < length r.sights → Applies s e → IsFirst r e → IsFirst s e
  first_seen e low applies first = record {
    applies = applies;
    first = λ other x. elim (below (rank other) (rank e)) [
      | inl before ↦ let less = before.1 in first.first other (applies_down other (omega (arith, less, low)) x)
      | inr behind ↦ behind.1
    ];
  }

  -- the first refusal by what was seen is the first of all
  pub first_of_all : (e : FreshError) → Reaches count r e → Refuses r e → (e ≡ NoDrive → ⊥) → (e ≡ LineFailed → ⊥) → (e ≡ Memory → ⊥) → IsFirst s e
  first_of_all (NotAJournal d at) reaches first left heard known =
      let from = a.from in
      let x = first.applies in
      first_seen (NotAJournal d at) (omega (arith, reaches, from)) (x.0, x.1, up d x.0 x.1 x.2, x.3) first
  first_of_all (AlreadyBegun d) reaches first left heard known =
      let from = a.from in
      let x = first.applies in
      first_seen (AlreadyBegun d) (omega (arith, reaches, from)) (x.0, x.1, x.2, x.3, up d x.0 (Journal x.1) x.4, x.5) first
  first_of_all (Clash list path) reaches first left heard known = subst (λ (k : Scene). IsFirst k (Clash list path)) (same_scene reaches first.applies.0 first.applies.1) first
  first_of_all (Occupied d path) reaches first left heard known = subst (λ (k : Scene). IsFirst k (Occupied d path)) (same_scene reaches first.applies.0 first.applies.1) first
  first_of_all (Inventory e) reaches first left heard known = absurd reaches
  first_of_all NoDrive reaches first left heard known = absurd (left refl)
  first_of_all LineFailed reaches first left heard known = absurd (heard refl)
  first_of_all Memory reaches first left heard known = absurd (known refl)

  -- where no drive was left, that is the first
  none_left : length r.sights ≡ count → AllByRecursion (λ (x : Sight). x ≡ Dropped) r.sights → AllByRecursion (λ (x : Sight). x ≡ Dropped) s.sights
  none_left whole all = subst (AllByRecursion (λ (x : Sight). x ≡ Dropped)) (same_sights r.sights s.sights (whole ∙ sym a.whole) a.sights) all

  pub left_not : length r.sights ≡ count → AllByRecursion (λ (x : Sight). x ≡ Dropped) r.sights → (listed : List FileInfo) (e : FreshError) → RefusesBehind listed s e → IsFirstRefusal listed s e → ⊥
  left_not whole all listed e behind first = by e first behind.1
    where
      each : AllByRecursion (λ (x : Sight). x ≡ Dropped) s.sights
      each = none_left whole all

      seen_not : (d : ℕ) (size : List ℕ → Option ℕ) (found : JournalFound) → IsSeen s d size found → ⊥
      seen_not d size found x = let lost : Found size found ≡ Dropped = all_at (λ (y : Sight). y ≡ Dropped) s.sights x.place (Found size found) each x.is in cc lost

      by : (e : FreshError) → IsFirstRefusal listed s e → IsFirst s e → ⊥
      by (Inventory e) first x = x.applies
      by (NotAJournal d at) first x = seen_not d x.applies.0 x.applies.1 x.applies.2
      by (AlreadyBegun d) first x = seen_not d x.applies.0 (Journal x.applies.1) x.applies.4
      by (Clash list path) first x = let late = x.first NoDrive each in omega (arith, late)
      by (Occupied d path) first x = seen_not d x.applies.2 x.applies.3 x.applies.4
      by NoDrive first x = first
      by LineFailed first x = first
      by Memory first x = first

  -- where none of those that were seen is refused, a refusal comes behind them
  pub behind_seen : NoneBefore 8 r → (e : FreshError) → Applies s e → length r.sights ≤ rank e
  behind_seen none e x = elim (below (rank e) (length r.sights)) [
    | inl low ↦ let less = low.1 in let far = none e (applies_down e low.1 x) in let few = a.few in let eight = a.count_few in absurd (omega (arith, less, far, few, eight))
    | inr high ↦ high.1
  ]
