use Rattle.std.proofs.Common.{arith}
use Rattle.verify_run.proofs.Checks.{still_attached, none_checked, entries_turn, entries_stopped}
use Rattle.verify_run.proofs.checking.check_entries.Goals as goal

pub check_entry-requires-clause-drive : goal.check_entry-requires-clause-drive
check_entry-requires-clause-drive g c = still_attached _ c.loop-entry.invariant.went c.requires.drive

pub loop-entry-init : goal.loop-entry-init
loop-entry-init g c = none_checked _ _ _

pub returns-in-Err : goal.returns-in-Err
returns-in-Err g c = entries_stopped _ _ c.args.entries.now c.loop-entry.entry-index c.entry-item.result _ _ _ _ _ (omega arith) c.entry-item.is c.loop-entry.invariant c.in-Err.ensures

pub loop-entry-preserved : goal.loop-entry-preserved
loop-entry-preserved g c = entries_turn _ _ c.args.entries.now c.loop-entry.entry-index c.entry-item.result _ _ _ _ _ _ (omega arith) c.entry-item.is c.loop-entry.invariant c.in-Ok.ensures c.count-verdict.ensures
