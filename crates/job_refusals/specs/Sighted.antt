-- That a run is refused only with the first refusal by what its calls saw, and calls a drive only behind its card: docs/MODEL.md, "Laws of a run of a job".
use Rattle.std.specs.Prelude.{◌≡◌, ◌≢◌, ℕ, ◌≤◌, true, List, [], ◌∷◌, ◌++◌, length, Contains, Some, None}
use Rattle.bay_core.specs.declared.event.Event.{Event}
use Rattle.bay_core.specs.declared.event.Event.TheVariants.{SourceList}
use Rattle.bay_core.specs.declared.event.FileInfo.{FileInfo}
use Rattle.bay_core.specs.Looks.{IsUntouched, is_effect}
use Rattle.bay_core.specs.Map.{Map, Dates, Lists}
use Rattle.bay_core.specs.Replay.{Drive, device_of}
use Rattle.copy_plan.specs.Plan.{PlanValue}
use Rattle.fresh_opening.specs.declared.error.FreshError.{FreshError}
use Rattle.fresh_opening.specs.declared.error.FreshError.TheVariants.{Inventory}
use Rattle.fresh_opening.specs.Looks.{Reaches}
use Rattle.fresh_opening.specs.Openings.{AsksMoment}
use Rattle.fresh_opening.specs.Refusals.{Scene, NoneBefore}
use Rattle.fresh_opening.specs.Sights.{SightsCalls}
use Rattle.last_lines.specs.Ends.{EndCalls}
use Rattle.job_story.specs.Ends.{JobEnd, Refused, NoMemory, last_of}
use Rattle.job_story.specs.Plans.{IsListed}
use Rattle.job_story.specs.Run.{Run, IsSteady}
use Rattle.job_calls.specs.Calls.{job_attaches}
use Rattle.job_refusals.specs.First.{IsDraft, HasInventory, IsFirstRefusal, NothingRefuses}

-- ---- what the calls saw

-- The first calls of a run: its folders are attached; the card lists this; its drives are looked at, one after another from the first on, each of which comes to what the
-- scene says; and the moment of the plan is asked, where the scene has one: not before all drives were looked at, none of which is refused, and one is left. The plan is that of
-- the job and of the listing.
pub record IsSceneBySight (run : Run) (listed : List FileInfo) (s : Scene) : Type 0 where
  pub looks : List Event
  pub asked : List Event
  pub rest : List Event
  pub calls : run.events ≡ job_attaches run.job ++ (SourceList 0 (Some listed) ∷ (looks ++ (asked ++ rest)))
  pub first : s.first ≡ 0
  pub few : length s.sights ≤ length run.job.drives
  pub sights : SightsCalls 0 s.sights looks
  pub plan : (p : PlanValue) → s.plan ≡ Some p → IsDraft run.job listed p
  pub late : (p : PlanValue) → s.plan ≡ Some p → (length s.sights ≡ length run.job.drives) × NoneBefore 9 s
  pub moment : AsksMoment s.plan asked

-- How far a run to so many drives came that is refused so: by its card, to no drive and to no plan; by a drive that it looked at, to that drive; else to its last one.
abbrev pub ComesTo : ℕ → Scene → FreshError → Type 0
ComesTo count s (Inventory e) = (s.sights ≡ []) × (s.plan ≡ None)
ComesTo count s e = Reaches count s e

-- By what its first calls saw this is the first refusal; behind them come the lines of that refusal, as far as they could be said, and no other call; and no call may have
-- changed or settled a drive.
pub record IsRefusedBySight (run : Run) (e : FreshError) (result : ℕ) : Type 0 where
  pub listed : List FileInfo
  pub scene : Scene
  pub is : IsSceneBySight run listed scene
  pub comes : ComesTo (length run.job.drives) scene e
  pub first : IsFirstRefusal listed scene e
  pub last : EndCalls (last_of (Refused e)) result is.rest
  pub untouched : IsUntouched run.events

-- by what its first calls saw of all its drives, with its plan, nothing refuses it
pub record IsFreeBySight (run : Run) : Type 0 where
  pub listed : List FileInfo
  pub scene : Scene
  pub is : IsSceneBySight run listed scene
  pub whole : length scene.sights ≡ length run.job.drives
  pub plan : PlanValue
  pub planned : scene.plan ≡ Some plan
  pub none : NothingRefuses listed scene

-- ---- what a run does by that

-- it is refused only with the first refusal, and then makes no other call
abbrev pub RefusesFirst : Run → JobEnd → ℕ → Type 0
RefusesFirst run end result = (e : FreshError) → end ≡ Refused e → IsRefusedBySight run e result

-- it calls a drive only behind the first listing that its card gave, which has an inventory
abbrev pub CallsCardFirst : Run → Type 0
CallsCardFirst run = (before after : List Event) (e : Event) (d : ℕ) → run.events ≡ before ++ e ∷ after → device_of e ≡ Drive d → (listed : List FileInfo) × IsListed before listed × HasInventory listed

-- it makes a call that may change or settle a drive, done or not, only where nothing refuses it
abbrev pub PassesUnrefused : Run → Type 0
PassesUnrefused run = (e : Event) → Contains run.events e → is_effect e ≡ true → IsFreeBySight run

-- what a steady card listed are its files, unless memory was wanting
abbrev pub ListsItsFiles : Run → JobEnd → Type 0
ListsItsFiles run end = (card : Map) (dates : Dates) → IsSteady run card dates → end ≢ NoMemory → (listed : List FileInfo) → IsListed run.events listed → Lists card dates listed
