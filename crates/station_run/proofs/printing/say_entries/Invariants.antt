use Rattle.std.proofs.Common.{map, take}
use Rattle.last_lines.specs.Said.{Told}
use Rattle.station_run.specs.Table.{row_of}
use Rattle.station_run.proofs.printing.say_entries.Given as goal

abbrev pub invariant-loop-entry : goal.invariant-loop-entry
invariant-loop-entry g l = Told (map row_of (take l.entry-index l.entries)) (g.B.Bay.world l.initial.bay) (g.B.Bay.world l.bay)
