use Rattle.std.proofs.Common.{arith}
use Rattle.station_run.specs.Table.{row_of}
use Rattle.last_lines.proofs.Said.{told_none, told_more, untold_more, told_all}
use Rattle.station_run.proofs.printing.say_entries.Goals as goal

pub loop-entry-init : goal.loop-entry-init
loop-entry-init g c = told_none _

pub loop-entry-preserved : goal.loop-entry-preserved
loop-entry-preserved g c = told_more row_of c.args.entries.now c.loop-entry.entry-index c.entry-item.result c.loop-entry-test.true c.entry-item.is _ c.row.ensures.text c.loop-entry.invariant c.in-Ok.ensures

pub returns-in-Err : goal.returns-in-Err
returns-in-Err g c = untold_more row_of c.args.entries.now c.loop-entry.entry-index c.entry-item.result c.loop-entry-test.true c.entry-item.is _ c.row.ensures.text c.loop-entry.invariant c.in-Err.ensures

pub returns : goal.returns
returns g c = told_all row_of c.args.entries.now c.loop-entry.entry-index (omega arith) c.loop-entry.invariant
