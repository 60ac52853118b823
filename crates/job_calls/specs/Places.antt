-- What a run of a job attached: docs/MODEL.md, "The calls of a run of a job".
use Rattle.std.specs.Prelude.{◌≡◌, ℕ, ◌+◌, ◌<◌, Bool, true, false, List, ◌∷◌, ◌++◌, length, filter}
use Rattle.bay_core.specs.declared.event.Event.{Event}
use Rattle.bay_core.specs.declared.event.Event.TheVariants.{AttachSource, AttachDrive}
use Rattle.bay_core.specs.Attach.{SameDrive, SameCard, Gives, IsTrueUnless}
use Rattle.bay_core.specs.Map.{Map, Dates, AllDated}
use Rattle.bay_core.specs.Replay.{Source, Drive}
use Rattle.bay_core.specs.World.{Attached}
use Rattle.job_story.specs.Run.{Run, IsSteady}

-- a card was attached
abbrev pub is_card_attach : Event → Bool
is_card_attach (AttachSource s place) = true
is_card_attach _ = false

-- a drive was attached
abbrev pub is_drive_attach : Event → Bool
is_drive_attach (AttachDrive d place) = true
is_drive_attach _ = false

-- the numbers of cards and drives follow the attaches, and nothing is forgotten of what the bay was made with
pub record Numbers (run : Run) : Type 0 where
  pub made : run.after.attached.made ≡ run.before.attached.made
  pub sources : run.after.attached.sources ≡ run.before.attached.sources + length (filter is_card_attach run.events)
  pub drives : run.after.attached.drives ≡ run.before.attached.drives + length (filter is_drive_attach run.events)

-- what was attached behind these first calls of a run: so many cards and drives, each as it is at the end of the run
pub record WasAttached (run : Run) (front : List Event) (a : Attached) : Type 0 where
  pub made : a.made ≡ run.before.attached.made
  pub sources : a.sources ≡ run.before.attached.sources + length (filter is_card_attach front)
  pub drives : a.drives ≡ run.before.attached.drives + length (filter is_drive_attach front)
  pub cards : (s : ℕ) → s < a.sources → SameCard s a run.after.attached
  pub each_drive : (d : ℕ) → d < a.drives → SameDrive d a run.after.attached

-- Card s was attached behind these calls from its place: it has what that gave then, where it is told, and is steady unless it may lie. `past` are the calls before
-- the run.
pub record CardHasItsPlace (run : Run) (past front : List Event) (s : ℕ) (place : List ℕ) : Type 0 where
  pub then_attached : Attached
  pub was : WasAttached run front then_attached
  pub gives : Gives place (run.after.attached.card s) (run.after.attached.card_dates s) then_attached (past ++ front)
  pub truth : IsTrueUnless (Source s) (run.after.attached.steady s) then_attached

-- so it is of drive d, which is honest unless it may lie
pub record DriveHasItsPlace (run : Run) (past front : List Event) (d : ℕ) (place : List ℕ) : Type 0 where
  pub then_attached : Attached
  pub was : WasAttached run front then_attached
  pub gives : Gives place (run.after.attached.start d) (run.after.attached.dates d) then_attached (past ++ front)
  pub truth : IsTrueUnless (Drive d) (run.after.attached.honest d) then_attached

-- Each card and drive that was attached has its place; and a date is known of each file of a steady card.
pub record HoldsItsPlaces (run : Run) (past : List Event) : Type 0 where
  pub card : (front back : List Event) (s : ℕ) (place : List ℕ) → run.events ≡ front ++ AttachSource s place ∷ back → CardHasItsPlace run past front s place
  pub drive : (front back : List Event) (d : ℕ) (place : List ℕ) → run.events ≡ front ++ AttachDrive d place ∷ back → DriveHasItsPlace run past front d place
  pub dated : (card : Map) (dates : Dates) → IsSteady run card dates → AllDated card dates
