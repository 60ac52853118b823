-- The lines of a run among its calls: of each drive one line each, and all of them in the order of the run.
use Rattle.std.specs.Prelude.{◌≡◌, ◌≢◌, ◌⊎◌, ◌↔◌, ℕ, if◌then◌else◌, true, false, List, [], ◌∷◌, ◌++◌, length, map, filter, Contains}
use Rattle.std.specs.List.{flat_map}
use Rattle.bay_core.specs.declared.event.Event.{Event}
use Rattle.bay_core.specs.declared.event.Event.TheVariants.{Say}
use Rattle.fan_core.specs.Flags.{has}
use Rattle.report_text.specs.Run.{clear_text}
use Rattle.run_state.specs.declared.outcome.Outcome.{Outcome}
use Rattle.run_state.specs.declared.outcome.Outcome.TheVariants.{Finished, NoDrive, OutFailed}
use Rattle.run_state.specs.Acts.{is_clear}
use Rattle.run_state.specs.Runs.{Point, is_about, IsAboutNone}
use Rattle.run_state.specs.State.{Ordered, files_of, drive_at, is_of_run}
use Rattle.run_lines.specs.Words.{Loss, Mark, Sealed, Lost, Word, mark_text, word_text, all_marks, IsSoFar, IsWhole, sealed_in, AreWords}

-- the line of a call, if it says one, whatever its answer
abbrev pub line_in : Event → List (List ℕ)
line_in (Say line ok) = line ∷ []
line_in _ = []

-- the lines among calls
abbrev pub lines_in : List Event → List (List ℕ)
lines_in L = flat_map line_in L

-- those about drive d
abbrev pub lines_about : ℕ → List Event → List (List ℕ)
lines_about d L = filter (λ (line : List ℕ). is_about d line) (lines_in L)

-- the run came to its end: each drive that was not dropped is sealed
abbrev pub IsEnd : Outcome → Type 0
IsEnd Finished = Unit {0}
IsEnd NoDrive = Unit {0}
IsEnd _ = ⊥

-- ---- one line each

-- What is said of drive d from a to b: these marks, and the lines about the drive are just theirs. They are a part of all that is to be said of it,
-- and at the end of the run all. Unless a line was not said, `sealed`, and a loss, is among them just where the sets of the run have the drive.
pub record SaysOf (o : Ordered) (a b : Point) (d : ℕ) (L : List Event) : Type 0 where
  pub marks : List Mark
  pub lines : lines_about d L ≡ map (mark_text o.plan d) marks
  pub so_far : IsSoFar (all_marks (files_of o.plan) (drive_at a.at.drives.each d)) marks
  pub whole : IsEnd b.at.outcome → IsWhole (all_marks (files_of o.plan) (drive_at a.at.drives.each d)) marks
  pub sealed : b.at.outcome ≢ OutFailed → (has b.at.drives.sealed d ≡ true) ↔ Contains marks Sealed
  pub dropped : b.at.outcome ≢ OutFailed → (has b.at.drives.dropped d ≡ true) ↔ ((loss : Loss) × Contains marks (Lost loss))

-- so of each drive of the run; and the sets of the run have no other drive
pub record OneLineEach (o : Ordered) (a b : Point) (L : List Event) : Type 0 where
  pub each : (d : ℕ) → is_of_run a.at.drives d ≡ true → SaysOf o a b d L
  pub no_other : (d : ℕ) → is_of_run a.at.drives d ≡ false → (has b.at.drives.sealed d ≡ false) × (has b.at.drives.dropped d ≡ false)

-- ---- in the order of the run

-- the first lines stand among the second ones, in their order, and what is between them is such
pub data Among (Other : List ℕ → Type 0) : List (List ℕ) → List (List ℕ) → Type 0 where
  none : Among Other [] []
  own : {line : List ℕ} {lines all : List (List ℕ)} → Among Other lines all → Among Other (line ∷ lines) (line ∷ all)
  other : {line : List ℕ} {lines all : List (List ℕ)} → Other line → Among Other lines all → Among Other lines (line ∷ all)

-- the lines among these calls are these, and between them others about none of the run's drives
abbrev pub StandAmong : Point → List Event → List (List ℕ) → Type 0
StandAmong a L lines = Among (IsAboutNone a.at.drives) lines (lines_in L)

-- the lines among these calls are just these
abbrev pub StandAlone : List Event → List (List ℕ) → Type 0
StandAlone L lines = lines_in L ≡ lines

-- the line `clear`, where a number of sealed drives is required, and no fewer are
abbrev pub clear_lines : ℕ → ℕ → List (List ℕ)
clear_lines required sealed = if is_clear sealed required then clear_text sealed required ∷ [] else []

-- the run has said some of its words, and no other line
pub record SaysSome (o : Ordered) (a : Point) (Stand : List (List ℕ) → Type 0) : Type 0 where
  pub words : List Word
  pub are : AreWords o a IsSoFar words
  pub lines : Stand (map (word_text o.plan) words)

-- the run has said all its words, last the line `clear` where it is due, and no other line
pub record SaysAll (o : Ordered) (a : Point) (Stand : List (List ℕ) → Type 0) : Type 0 where
  pub words : List Word
  pub are : AreWords o a IsWhole words
  pub lines : Stand (map (word_text o.plan) words ++ clear_lines o.copies (length (sealed_in words)))

-- what a run has said by how it stands: all at its end; else some, or all where only the line `clear` failed
abbrev pub SaysBy : Ordered → Point → Outcome → (List (List ℕ) → Type 0) → Type 0
SaysBy o a Finished Stand = SaysAll o a Stand
SaysBy o a NoDrive Stand = SaysAll o a Stand
SaysBy o a OutFailed Stand = SaysSome o a Stand ⊎ SaysAll o a Stand
SaysBy o a _ Stand = SaysSome o a Stand
