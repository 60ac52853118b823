-- The copies of a run go at the pace of the window: docs/MODEL.md, "Runs by turns".
use Rattle.std.specs.Prelude.{◌≡◌, ℕ, Bool, true, false, not, ◌&&◌, List, [], ◌∷◌, ◌++◌, length, Some}
use Rattle.std.specs.List.{slice_get, filter}
use Rattle.bay_core.specs.declared.event.Event.{Event}
use Rattle.bay_core.specs.declared.event.Event.TheVariants.{SourceRead, Write, Pick, Say}
use Rattle.bay_core.specs.Paths.{part_path}
use Rattle.copy_plan.specs.declared.file.PlannedFile.{PlannedFile}
use Rattle.fan_core.specs.Flags.{has, HasSome}
use Rattle.fan_core.specs.Next.{at_start}
use Rattle.fan_copier.specs.Follows.{OneTurn, FollowsWindow}
use Rattle.fan_copier.specs.Standing.{Standing, blocks_of}
use Rattle.run_state.specs.Runs.{Point}
use Rattle.run_state.specs.State.{Ordered, drive_at, due, keeps_part}

-- Where the copy of file i begins: nothing is read or written; those drives keep their part that kept the part of this file as the run began; and
-- just the others get an empty piece.
pub record IsCopyBegin (o : Ordered) (a : Point) (i : ℕ) (f : PlannedFile) (at : Standing) : Type 0 where
  pub live : List Bool
  pub some : HasSome live
  pub counts : at.counts ≡ at_start live (blocks_of f.size) o.slots
  pub lengths : (length at.pieces ≡ 8) × (length at.kept ≡ 8)
  pub pieces : (d : ℕ) → has at.pieces d ≡ (has live d && not (has at.kept d))
  pub kept : (d : ℕ) → has at.kept d ≡ (has live d && keeps_part (due i (drive_at a.at.drives.each d)))

-- the call is a part of no act: no pick, no read of a card, and no write to a part
abbrev pub IsNoAct : Event → Type 0
IsNoAct (Pick n) = ⊥
IsNoAct (SourceRead s path at want got) = ⊥
IsNoAct (Write d path at bytes ok) = path ≡ part_path → ⊥
IsNoAct e = Unit {0}

-- calls that are copies of files of the plan, each by turns that follow the window, and between them calls that are no acts
pub data IsPaced (o : Ordered) (a : Point) : List Event → Type 0 where
  ends : IsPaced o a []
  between : (e : Event) (L : List Event) → IsNoAct e → IsPaced o a L → IsPaced o a (e ∷ L)
  copies : (i : ℕ) (f : PlannedFile) (at : Standing) (turns : List OneTurn) (A L : List Event) → slice_get o.plan.files i ≡ Some f → IsCopyBegin o a i f at
      → FollowsWindow o.source f.path f.size at [] turns A → IsPaced o a L → IsPaced o a (A ++ L)

-- a line
abbrev pub is_line : Event → Bool
is_line (Say line ok) = true
is_line e = false

-- all calls but the lines, which tell of a drop within a copy
abbrev pub without_lines : List Event → List Event
without_lines L = filter (λ e. not (is_line e)) L
