use Rattle.std.proofs.Common.{map}
use Rattle.fresh_opening.specs.Looks.{sight_by}
use Rattle.fresh_opening.specs.Openings.{StartsAre}
use Rattle.fresh_opening.proofs.starting.drive_starts.Given as goal

abbrev pub invariant-loop-drive : goal.invariant-loop-drive
invariant-loop-drive l = StartsAre l.first l.plan (map sight_by l.yielded) l.starts.items
