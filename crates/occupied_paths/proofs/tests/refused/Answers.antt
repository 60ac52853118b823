use Rattle.std.proofs.Common.{◌≡◌, ℕ, List, Some, None, sym, ◌∙◌, ap, subst}
use Rattle.std.specs.Prelude.{◌↔◌, Option, option_copied}
use Rattle.std.specs.FinMap.{get}
use Rattle.folder_listing.specs.Listing.{Sizes}
use Rattle.copy_plan.specs.Plan.{PlanValue}
use Rattle.occupied_paths.specs.Occupied.{IsFirstOccupied}
use Rattle.occupied_paths.proofs.tests.refused.Goals as goal

-- what is told of a path over one listing is told of the same path over the same listing
told : (sizes listed : Sizes) (records : Option ℕ) (plan : PlanValue) (found named : Option (List ℕ)) → sizes ≡ listed → found ≡ named → ((path : List ℕ) → (found ≡ Some path) ↔ IsFirstOccupied (get sizes) records plan path)
    → (path : List ℕ) → (named ≡ Some path) ↔ IsFirstOccupied (get listed) records plan path
told sizes listed records plan found named same is first =
    subst (λ (s : Sizes). (path : List ℕ) → (named ≡ Some path) ↔ IsFirstOccupied (get s) records plan path) same
    (subst (λ (o : Option (List ℕ)). (path : List ℕ) → (o ≡ Some path) ↔ IsFirstOccupied (get sizes) records plan path) is first)

pub returns-in-Some-clause-first : goal.returns-in-Some-clause-first
returns-in-Some-clause-first c =
    told _ _ c.args.records c.args.plan.now (option_copied c.in_ok-path.field-0) (Some c.in_ok-copy-in-Some.field-0) c.in_ok-folder.ensures.sizes (ap option_copied c.in-Some.is ∙ ap Some (sym c.in_ok-copy-in-Some.ensures)) c.in_ok-path.ensures.first

pub returns-clause-first : goal.returns-clause-first
returns-clause-first c = told _ _ c.args.records c.args.plan.now (option_copied c.in_ok-path.field-0) None c.in_ok-folder.ensures.sizes (ap option_copied c.in-None.is) c.in_ok-path.ensures.first
