use Rattle.std.proofs.Common.{Bool, true, sym, subst}
use Rattle.bay_core.specs.Went.{Tried}
use Rattle.drive_journal.specs.Calls.{removals, unless_kept}
use Rattle.drive_journal.proofs.Trying.{tried_none}
use Rattle.drive_journal.proofs.tidying.remove_part.Goals as goal

pub returns-then-keep_part : goal.returns-then-keep_part
returns-then-keep_part g c = subst (λ (b : Bool). Tried c.args.d (removals c.args.d (unless_kept b)) true (g.B.Bay.world c.args.bay.now) (g.B.Bay.world c.args.bay.now)) (sym c.if-keep_part.true) (tried_none c.args.d _)
