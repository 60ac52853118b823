use Rattle.std.proofs.Common.{sym, subst, ◌+◌}
use Rattle.drive_journal.proofs.Entries.{SoFar, none_taken, one_more, broken, left_open, items_counted}
use Rattle.drive_journal.proofs.journal.take_records.Goals as goal

pub loop-file-init : goal.loop-file-init
loop-file-init c = subst (λ entries. SoFar c.args.files.now c.args.rest.now entries 0 c.args.rest.now) (sym c.new-entries.ensures.items) (none_taken c.args.files.now c.args.rest.now)

pub returns-in-Broken : goal.returns-in-Broken
returns-in-Broken c =
    broken c.args.files.now c.args.bytes.now c.args.rest.now c.loop-file.entries.items c.loop-file.file-index c.loop-file.rest.now c.file-item.result c.len.result c.in-Broken.place.now c.wrong_at.result c.requires.within c.loop-file-test.true (sym c.file-item.is)
    (items_counted c.loop-file.entries c.len.result c.len.ensures) c.loop-file.invariant c.in-Broken.ensures c.wrong_at.ensures

pub loop-file-preserved : goal.loop-file-preserved
loop-file-preserved c =
    let step = c.in-Record.ensures in
    let next = one_more c.args.files.now c.args.rest.now c.loop-file.entries.items c.loop-file.file-index c.loop-file.rest.now c.file-item.result c.len.result step.0 c.in-Record.record c.in-Record.behind.now c.loop-file-test.true (sym c.file-item.is) (items_counted c.loop-file.entries c.len.result c.len.ensures) c.loop-file.invariant step.1 step.2 in
    subst (λ entries. SoFar c.args.files.now c.args.rest.now entries (c.loop-file.file-index + 1) c.in-Record.behind.now) (sym c.in-Ok.ensures.items) next

pub returns-else-has_closed_gate : goal.returns-else-has_closed_gate
returns-else-has_closed_gate c =
    left_open c.args.files.now c.args.bytes.now c.args.rest.now c.loop-file.entries.items c.loop-file.file-index c.loop-file.rest.now c.wrong_at-else-has_closed_gate.result c.requires.within c.loop-file-test.false c.loop-file.invariant
    (λ closed. let yes_ = c.has_closed_gate.ensures.1 closed in let not = c.if-has_closed_gate.false in absurd (cc)) c.wrong_at-else-has_closed_gate.ensures
