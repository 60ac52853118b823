use Rattle.std.proofs.Common.{arith, sym, ◌∙◌, ap, ◌+◌, ◌*◌, length}
use Rattle.drive_journal.proofs.Entries.{records_few, journal_holds, gate_place, items_counted, rest_all}
use Rattle.drive_journal.proofs.journal.read_journal.Goals as goal

pub overflow_cast-gate : goal.overflow_cast-gate
overflow_cast-gate c =
    let few = records_few 0 c.files.result.now c.in-Ok-take_records.entries.items c.in-Ok-take_records.ensures.records in
    let most = c.files.ensures.plan.inventory.few in
    let same = ap length c.files.ensures.same in
    omega (arith, few, most, same, items_counted c.in-Ok-take_records.entries c.len-2.result c.len-2.ensures)

pub returns : goal.returns
returns c =
    let stands = c.in-Ok.ensures.found in (
      journal_holds c.args.bytes.now c.in-Ok.field-0.plan c.in-Ok.field-0.used c.files.result.now _ c.in-Ok-take_records.entries.items stands c.files.ensures.same (rest_all c.args.bytes.now c.in-Ok.field-0.used) c.in-Ok-take_records.ensures,
      gate_place c.in-Ok.field-0.plan c.in-Ok.field-0.used c.len.result c.in-Ok-take_records.entries.items _ stands.used_is (items_counted c.in-Ok-take_records.entries c.len.result c.len.ensures) (λ i. record { at = c.in-Ok.field-0.used + 65 * c.len.result; index = (c.len-2.ensures ∙ sym c.len.ensures) i }),
    )
