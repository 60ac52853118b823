use Rattle.std.proofs.Common.{map, take}
use Rattle.fresh_opening.specs.Looks.{sight_by, AreDropped}
use Rattle.fresh_opening.proofs.looking.all_dropped.Given as goal

abbrev pub invariant-loop-drive : goal.invariant-loop-drive
invariant-loop-drive l = AreDropped (map sight_by (take l.drive-index l.seen))
