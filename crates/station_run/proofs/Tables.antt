-- The table of a list, said line by line.
use Rattle.std.proofs.Common.{◌∷◌, [], ◌++◌, map, length}
use Rattle.bay_core.specs.World.{World}
use Rattle.mhl_writer.specs.ListText.{Values}
use Rattle.report_text.specs.Line.{entries_text}
use Rattle.last_lines.specs.Said.{Told, Untold}
use Rattle.last_lines.proofs.Said.{told_then, untold_early, untold_late}
use Rattle.station_run.specs.Table.{creator_rows, row_of, print_lines}

module _ (l : Values) where
  -- all of it was said
  pub told_table : {old mid late new : World} → Told (creator_rows l.creator) old mid → Told (map row_of l.entries) mid late → Told (entries_text (length l.entries) ∷ []) late new → Told (print_lines l) old new
  unfolding print_lines
  told_table one two three =
      told_then (creator_rows l.creator) (map row_of l.entries ++ entries_text (length l.entries) ∷ []) one (told_then (map row_of l.entries) (entries_text (length l.entries) ∷ []) two three)

  -- a line of the creator could not be said
  pub untold_creator : {old new : World} → Untold (creator_rows l.creator) old new → Untold (print_lines l) old new
  unfolding print_lines
  untold_creator one = untold_early (creator_rows l.creator) (map row_of l.entries ++ entries_text (length l.entries) ∷ []) one

  -- the line of an entry could not be said
  pub untold_rows : {old mid new : World} → Told (creator_rows l.creator) old mid → Untold (map row_of l.entries) mid new → Untold (print_lines l) old new
  unfolding print_lines
  untold_rows one two =
      untold_late (creator_rows l.creator) (map row_of l.entries ++ entries_text (length l.entries) ∷ []) one (untold_early (map row_of l.entries) (entries_text (length l.entries) ∷ []) two)

  -- the last line could not be said
  pub untold_count : {old mid late new : World} → Told (creator_rows l.creator) old mid → Told (map row_of l.entries) mid late → Untold (entries_text (length l.entries) ∷ []) late new → Untold (print_lines l) old new
  unfolding print_lines
  untold_count one two three =
      untold_late (creator_rows l.creator) (map row_of l.entries ++ entries_text (length l.entries) ∷ []) one (untold_late (map row_of l.entries) (entries_text (length l.entries) ∷ []) two three)
