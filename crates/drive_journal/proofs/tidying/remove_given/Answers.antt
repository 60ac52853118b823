use Rattle.std.proofs.Common.{true, sym, subst}
use Rattle.std.specs.Prelude.{option_map}
use Rattle.bay_core.specs.Went.{Tried}
use Rattle.drive_journal.specs.Calls.{removals, given}
use Rattle.drive_journal.proofs.Trying.{tried_none}
use Rattle.drive_journal.proofs.tidying.remove_given.Goals as goal

pub returns-in_default : goal.returns-in_default
returns-in_default g c = subst (λ o. Tried c.args.d (removals c.args.d (given (option_map (λ path. path.now) o))) true (g.B.Bay.world c.args.bay.now) (g.B.Bay.world c.args.bay.now)) (sym c.in_default.is) (tried_none c.args.d _)
