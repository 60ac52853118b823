-- Where nothing fails, a run of a job is complete: docs/FORMATS.md, "Statuses".
use Rattle.std.specs.Prelude.{◌≡◌, ◌≢◌, ◌⊎◌, ℕ, ◌<◌, true, length, Contains}
use Rattle.bay_core.specs.declared.event.Event.TheVariants.{Say}
use Rattle.bay_core.specs.Looks.{IsUntouched}
use Rattle.bay_core.specs.Map.{Map, Dates}
use Rattle.bay_core.specs.Replay.{Device}
use Rattle.fresh_opening.specs.declared.error.FreshError.{FreshError}
use Rattle.offload_law.specs.Clear.{IsCalledSealed}
use Rattle.report_text.specs.Run.{clear_text}
use Rattle.job_story.specs.Ends.{JobEnd, Refused}
use Rattle.job_story.specs.Run.{Run, IsHonest, IsSteady}
use Rattle.job_losses.specs.Drops.{Rises}

-- no count rises
abbrev pub NoneRises : Run → Type 0
NoneRises run = (x : Device) → Rises run x → ⊥

-- each drive that was attached is honest
abbrev pub AreHonest : Run → Type 0
AreHonest run = (d : ℕ) → d < run.after.attached.drives → (start : Map) × IsHonest run d start

-- every drive of the words has its line `sealed`
abbrev pub AllSealed : Run → Type 0
AllSealed run = (d : ℕ) → d < length run.job.drives → IsCalledSealed d run.events

-- every drive is sealed, the card was called clear, and that was heard
pub record IsComplete (run : Run) (result : ℕ) : Type 0 where
  pub status : result ≡ 0
  pub sealed : AllSealed run
  pub clear : Contains run.events (Say (clear_text (length run.job.drives) run.job.copies) true)

-- memory was wanting, and no call may have changed or settled a drive
pub record IsWanting (run : Run) (result : ℕ) : Type 0 where
  pub status : result ≡ 9
  pub untouched : IsUntouched run.events

-- Where the card is steady, each drive that was attached is honest, no count rises, and the run was not refused, it is complete, unless memory was wanting.
abbrev pub Completes : Run → JobEnd → ℕ → Type 0
Completes run end result = (card : Map) (dates : Dates) → IsSteady run card dates → AreHonest run → NoneRises run → ((e : FreshError) → end ≢ Refused e)
    → IsComplete run result ⊎ IsWanting run result
