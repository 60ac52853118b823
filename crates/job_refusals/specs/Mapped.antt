-- When a run is refused, by the listing of its card and the maps of its drives: docs/FORMATS.md, "The opening of an offload".
use Rattle.std.specs.Prelude.{◌≡◌, ◌⊎◌, ℕ, ◌<◌, ◌≤◌, true, List, [], ◌∷◌, ◌++◌, length, Some}
use Rattle.std.specs.List.{slice_get, AllByRecursion}
use Rattle.bay_core.specs.declared.event.Event.{Event}
use Rattle.bay_core.specs.declared.event.Event.TheVariants.{Moment, Say}
use Rattle.bay_core.specs.declared.event.FileInfo.{FileInfo}
use Rattle.bay_core.specs.Map.{Map}
use Rattle.bay_core.specs.Replay.{Drive, Output}
use Rattle.copy_plan.specs.Plan.{PlanValue}
use Rattle.fresh_opening.specs.declared.error.FreshError.{FreshError}
use Rattle.fresh_opening.specs.declared.error.FreshError.TheVariants.{Inventory}
use Rattle.fresh_opening.specs.Refusals.{Scene, rank}
use Rattle.fresh_opening.specs.Sights.{Sight, Dropped, sight_of}
use Rattle.report_text.specs.Losses.{dropped_fault_text}
use Rattle.job_story.specs.Ends.{JobEnd, Refused, OutFailed, NoMemory}
use Rattle.job_story.specs.Plans.{IsMomentCall, IsListed}
use Rattle.job_story.specs.Run.{Run, IsHonest, IsFirstCall}
use Rattle.job_losses.specs.Drops.{Rises}
use Rattle.job_refusals.specs.First.{IsDraft, HasInventory, IsFirstRefusal}

-- ---- what there is to see

-- the calls of a run before the first moment that was asked; all of them, where none was
pub record IsOpening (run : Run) (L : List Event) : Type 0 where
  pub rest : List Event
  pub is : run.events ≡ L ++ rest
  pub unasked : AllByRecursion (λ e. IsMomentCall e → ⊥) L
  pub ends : (rest ≡ []) ⊎ ((t : ℕ) × (more : List Event) × (rest ≡ Moment t ∷ more))

-- that drive d is dropped by a fault is said among these calls, and was heard
abbrev pub IsDroppedAloud : ℕ → List Event → Type 0
IsDroppedAloud d L = (before : List Event) × (after : List Event) × (L ≡ before ++ Say (dropped_fault_text d) true ∷ after)

-- what there is to see of drive d: nothing where the opening said that it is dropped; else it is honest, and that is what the map has with which it was attached
abbrev pub IsSightByMap : Run → List Event → ℕ → Sight → Type 0
IsSightByMap run opening d x = (IsDroppedAloud d opening × (x ≡ Dropped)) ⊎ ((IsDroppedAloud d opening → ⊥) × (start : Map) × IsHonest run d start × (x ≡ sight_of start))

-- What there is to see of all drives of the words, each of them honest or said to be dropped, and, where the card has an inventory, the plan: of its listing, and from the first
-- moment on that was asked, if one was.
pub record IsSceneByMaps (run : Run) (listed : List FileInfo) (s : Scene) : Type 0 where
  pub opening : List Event
  pub is : IsOpening run opening
  pub listing : IsListed run.events listed
  pub first : s.first ≡ 0
  pub whole : length s.sights ≡ length run.job.drives
  pub sights : (d : ℕ) (x : Sight) → slice_get s.sights d ≡ Some x → IsSightByMap run opening d x
  pub plan : (p : PlanValue) → s.plan ≡ Some p → IsDraft run.job listed p × ((t : ℕ) → IsFirstCall IsMomentCall run.events (Moment t) → p.started ≡ t)
  pub planned : HasInventory listed → (p : PlanValue) × (s.plan ≡ Some p)

-- ---- what a run does by that

-- a refusal behind that of the card
abbrev pub IsBehindCard : FreshError → Type 0
IsBehindCard (Inventory e) = ⊥
IsBehindCard _ = Unit {0}

-- the count of a drive whose place is not behind that of the refusal rose in the run, and so did that of the output
pub record IsUnheard (run : Run) (e : FreshError) : Type 0 where
  pub d : ℕ
  pub within : d < length run.job.drives
  pub early : d ≤ rank e
  pub lost : Rises run (Drive d)
  pub unheard : Rises run Output

-- what ended a run before it came to this refusal: memory was wanting; or the line of a drive that was lost could not be said, behind the card
abbrev pub EndedBefore : Run → JobEnd → FreshError → Type 0
EndedBefore run end e = (end ≡ NoMemory) ⊎ (IsBehindCard e × (end ≡ OutFailed) × IsUnheard run e)

-- Where each drive of the words is honest or was dropped, and the card was listed, a run is refused only with the first refusal by the listing and the maps; and where they
-- give a refusal, it is refused with that, unless something ended it before.
abbrev pub RefusesByMaps : Run → JobEnd → Type 0
RefusesByMaps run end = (listed : List FileInfo) (s : Scene) → IsSceneByMaps run listed s → (e : FreshError) → (end ≡ Refused e → IsFirstRefusal listed s e) × (IsFirstRefusal listed s e → (end ≡ Refused e) ⊎ EndedBefore run end e)
