-- How a run ends: docs/FORMATS.md, "Statuses".
use Rattle.std.specs.Prelude.{◌≡◌, ◌≢◌, ◌⊎◌, ℕ, List, [], ◌∷◌}
use Rattle.bay_core.specs.declared.event.Event.{Event}
use Rattle.bay_core.specs.Replay.{Output}
use Rattle.bay_core.specs.World.{World, Rose}
use Rattle.bay_core.specs.Went.{Went, Only}
use Rattle.bay_core.specs.Looks.{says}
use Rattle.report_text.specs.Line.{line_text}
use Rattle.report_text.specs.declared.line.Line.TheVariants.{Memory}
use Rattle.last_lines.specs.Said.{BrokeOff}

-- how a run ends: with these lines, and then a status
pub record End : Type 0 where
  pub lines : List (List ℕ)
  pub status : ℕ

-- some lines, and then a status
abbrev pub with_lines : List (List ℕ) → ℕ → End
with_lines lines status = record { lines = lines; status = status }

-- one line, and then a status
abbrev pub with_line : List ℕ → ℕ → End
with_line line status = with_lines (line ∷ []) status

-- a status alone
abbrev pub with_status : ℕ → End
with_status status = with_lines [] status

-- memory was wanting
abbrev pub memory_end : End
memory_end = with_line (line_text Memory) 9

-- The calls of an end: its lines, all of them said, and the status is its own; or one of them could not be said, no call followed, and the
-- status is 5.
abbrev pub EndCalls : End → ℕ → List Event → Type 0
EndCalls end result L = ((L ≡ says end.lines) × (result ≡ end.status)) ⊎ (BrokeOff end.lines L × (result ≡ 5))

-- The status of an end, over bays that tell no calls too: in place of its own 5, where it has a line and the count of the output rose.
abbrev pub EndStatus : End → ℕ → World → World → Type 0
EndStatus end result old new = (result ≡ end.status) ⊎ ((end.lines ≢ []) × (result ≡ 5) × Rose (old.faults Output) (new.faults Output))

-- nothing but this end
pub record Ended (end : End) (result : ℕ) (old new : World) : Type 0 where
  pub went : Went (Only Output) (EndCalls end result) old new
  pub status : EndStatus end result old new
