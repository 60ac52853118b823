-- A plan whose files are the inventory of a card is one of that card.
use Rattle.std.proofs.Common.{◌≡◌, ℕ, zero, suc, ◌<◌, List, [], ◌∷◌, ◌++◌, length, refl, sym, ap, subst, arith}
use Rattle.std.specs.Prelude.{Option, Some, None, Contains, option_map, slice_index_or, unwrap_or}
use Rattle.std.specs.FinMap.{get}
use Rattle.std.proofs.lemmas.List.Elements.{Contains-append_right}
use Rattle.bay_core.specs.Map.{Map, Dates, AllDated}
use Rattle.copy_plan.specs.declared.file.PlannedFile.{PlannedFile}
use Rattle.copy_plan.specs.Plan.{PlanValue}
use Rattle.card_inventory.specs.Card.{IsFileOf, IsInventoryOfCard}
use Rattle.offload_law.specs.Stages.{IsOnCard, IsOfCard}

-- a file with a size is there, and its bytes have that size
pub there_sized : (o : Option (List ℕ)) (n : ℕ) → option_map length o ≡ Some n → (o ≡ Some (unwrap_or o [])) × (n ≡ length (unwrap_or o []))
there_sized None n is = absurd (cc is)
there_sized (Some bytes) n is = (refl, cc is)

pub within : (before : List PlannedFile) (f : PlannedFile) (after : List PlannedFile) → Contains (before ++ f ∷ after) f
within before f after = Contains-append_right before (f ∷ after) f (0, omega arith, refl)

-- the place of a file in a list
parts_at : (files : List PlannedFile) (f : PlannedFile) (k : ℕ) → k < length files → slice_index_or files k f ≡ f → (before after : List PlannedFile) × (files ≡ before ++ f ∷ after)
parts_at [] f k low is = absurd (omega (arith, low))
parts_at (g ∷ files) f zero low is = ([], files, ap (λ (h : PlannedFile). h ∷ files) is)
parts_at (g ∷ files) f (suc k) low is =
    let rest = parts_at files f k (omega (arith, low)) is in
    (g ∷ rest.0, rest.1, ap (λ (l : List PlannedFile). g ∷ l) rest.2)

pub plan_of_card : (card : Map) (dates : Dates) (p : PlanValue) → AllDated card dates → IsInventoryOfCard card dates p.files → IsOfCard card dates p
plan_of_card card dates p dated inventory = record { on_card = on_card; all = all }
  where
    on_card : (before after : List PlannedFile) (f : PlannedFile) → p.files ≡ before ++ f ∷ after → IsOnCard card dates f
    on_card before after f is =
        let file : IsFileOf card dates f = (inventory.just f).0 (subst (λ (l : List PlannedFile). Contains l f) (sym is) (within before f after)) in
        let there = there_sized (get card f.path) f.size file.size in
        record { there = there.0; size = there.1; date = file.date }

    all : (q bytes : List ℕ) → get card q ≡ Some bytes → (before after : List PlannedFile) × (f : PlannedFile) × (p.files ≡ before ++ f ∷ after) × (q ≡ f.path)
    all q bytes is =
        let date = dated q bytes is in
        let f : PlannedFile = record { path = q; size = length bytes; modified = date.0 } in
        let within_files : Contains p.files f = (inventory.just f).1 (record { size = ap (option_map length) is; date = date.1 }) in
        let parts = parts_at p.files f within_files.0 within_files.1 within_files.2 in
        (parts.0, parts.1, f, parts.2, refl)
