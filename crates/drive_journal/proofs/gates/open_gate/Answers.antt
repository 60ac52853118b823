use Rattle.std.proofs.Common.{[], ◌∷◌}
use Rattle.bay_core.specs.Crashes.{IsAny}
use Rattle.bay_core.specs.Paths.{journal_path}
use Rattle.bay_core.specs.Went.{write_call}
use Rattle.bay_core.proofs.Crashing.{sync_rests}
use Rattle.drive_journal.specs.Calls.{open_calls}
use Rattle.drive_journal.specs.Steps.{IsOpening, IsOpened}
use Rattle.drive_journal.proofs.Keeping.{tried_leaves, rests_so}
use Rattle.drive_journal.proofs.Opening.{opening_same, opening_keeps, opened}
use Rattle.drive_journal.proofs.gates.open_gate.Goals as goal

pub returns-in_err-write_open-clause-crash : goal.returns-in_err-write_open-clause-crash
returns-in_err-write_open-clause-crash g c =
    tried_leaves (IsOpening c.args.gate.at) c.args.d (open_calls c.args.d c.args.gate.at) c.write_open.ensures (opening_same c.args.gate.at) (opening_keeps c.args.d c.args.gate.at)

pub returns-clause-crash : goal.returns-clause-crash
returns-clause-crash g c =
    tried_leaves (IsOpening c.args.gate.at) c.args.d (open_calls c.args.d c.args.gate.at) c.in_ok-write_open.ensures (opening_same c.args.gate.at) (opening_keeps c.args.d c.args.gate.at)

pub returns-clause-rests : goal.returns-clause-rests
returns-clause-rests g c =
    rests_so c.args.d IsAny _ (IsOpened c.args.gate.at) (λ R T any is. opened c.args.gate.at R T is) (sync_rests c.args.d (write_call c.args.d journal_path c.args.gate.at (1 ∷ []) ∷ []) c.in_ok-write_open.ensures)
