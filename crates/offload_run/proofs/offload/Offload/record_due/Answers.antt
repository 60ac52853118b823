use Rattle.std.proofs.Common.{List, length, ap, subst, arith}
use Rattle.copy_plan.specs.declared.file.PlannedFile.{PlannedFile}
use Rattle.drive_journal.specs.declared.record.Gate.{Gate}
use Rattle.drive_journal.proofs.Bounds.{gate_within}
use Rattle.run_state.specs.declared.phase.Phase.{Phase}
use Rattle.run_state.specs.Acts.{Says, Goes, record_line}
use Rattle.run_state.specs.State.{Ordered, files_of}
use Rattle.run_state.proofs.Keeping.{sized_within}
use Rattle.offload_run.specs.Offload.{ordered_of, drives_of, stands_at}
use Rattle.offload_run.proofs.Acting.{recorded_aloud, stands_recorded, stands_lost}
use Rattle.offload_run.proofs.Places.{goes_with}
use Rattle.offload_run.proofs.offload.Offload.record_due.Goals as goal

pub record_with_slot-came-requires-clause-at : goal.record_with_slot-came-requires-clause-at
record_with_slot-came-requires-clause-at g c =
    let within = sized_within c.args.self.now.plan c.args.rec.index c.args.rec.size c.requires.sized in
    let most = gate_within c.args.self.now.plan c.args.rec.index c.files-files.ensures.plan (omega (arith, within)) in
    let at = ap (λ (h : Gate). h.at) c.requires.gate in
    omega (arith, most, at)

pub record_with_slot-came-requires-clause-index : goal.record_with_slot-came-requires-clause-index
record_with_slot-came-requires-clause-index g c =
    let within = sized_within c.args.self.now.plan c.args.rec.index c.args.rec.size c.requires.sized in
    let few = c.files-files.ensures.plan.inventory.few in
    let index = ap (λ (h : Gate). h.index) c.requires.gate in
    omega (arith, within, few, index)

pub add_record-requires-clause-room : goal.add_record-requires-clause-room
add_record-requires-clause-room g c =
    let within = sized_within c.args.self.now.plan c.args.rec.index c.args.rec.size c.requires.sized in
    let same = ap (λ (o : Ordered). files_of o.plan) c.go_on.ensures.same in
    let next = c.requires.next in
    omega (arith, within, same, next)

pub returns-in-Ok-clause-acted : goal.returns-in-Ok-clause-acted
returns-in-Ok-clause-acted g c =
    λ kept.
    let e = c.record_with_slot-came.ensures in
    let goes = goes_with _ _ _ _ c.add_record.ensures.next.0 c.add_record.ensures.next.1 (subst (λ (x : Phase). Goes c.say_recorded-said.result x (stands_at c.go_on.new.self)) c.after_record-next.ensures c.go_on.ensures.goes) in
    let line = subst (λ (l : List PlannedFile). Says (record_line c.args.d (length l) c.file_at-file.result.now.path c.args.rec c.record_with_slot-came.result) c.say_recorded-said.result (g.B.Bay.world c.record_with_slot-came.new.bay) (g.B.Bay.world c.say_recorded-said.new.bay)) c.files-files.ensures.same c.say_recorded-said.ensures in
    recorded_aloud (ordered_of c.args.self.now) c.args.rec c.args.d c.args.entries.items c.args.gate kept c.file_at-file.result.now c.record_with_slot-came.result c.say_recorded-said.result (drives_of c.args.self.now) (stands_at c.add_record.new.self) _ (g.B.Bay.world c.record_with_slot-came.new.bay) _
    c.file_at-file.ensures.is c.requires.next c.requires.gate c.shape_of.ensures e.went e.cause e.next e.clean e.honest e.records line
    (stands_recorded _ _ _ _ c.in-Ok.gate _ _ _ c.go_on.ensures.drives c.in-Ok.is c.add_record.ensures.moves) goes

pub returns-in-Err-clause-acted : goal.returns-in-Err-clause-acted
returns-in-Err-clause-acted g c =
    λ kept.
    let e = c.record_with_slot-came.ensures in
    let goes = goes_with _ _ _ _ c.set_dropped.ensures.next.0 c.set_dropped.ensures.next.1 (subst (λ (x : Phase). Goes c.say_recorded-said.result x (stands_at c.go_on.new.self)) c.after_record-next.ensures c.go_on.ensures.goes) in
    let line = subst (λ (l : List PlannedFile). Says (record_line c.args.d (length l) c.file_at-file.result.now.path c.args.rec c.record_with_slot-came.result) c.say_recorded-said.result (g.B.Bay.world c.record_with_slot-came.new.bay) (g.B.Bay.world c.say_recorded-said.new.bay)) c.files-files.ensures.same c.say_recorded-said.ensures in
    recorded_aloud (ordered_of c.args.self.now) c.args.rec c.args.d c.args.entries.items c.args.gate kept c.file_at-file.result.now c.record_with_slot-came.result c.say_recorded-said.result (drives_of c.args.self.now) (stands_at c.set_dropped.new.self) _ (g.B.Bay.world c.record_with_slot-came.new.bay) _
    c.file_at-file.ensures.is c.requires.next c.requires.gate c.shape_of.ensures e.went e.cause e.next e.clean e.honest e.records line
    (stands_lost _ _ _ _ c.in-Err.field-0 _ _ _ c.go_on.ensures.drives c.in-Err.is c.set_dropped.ensures.drops) goes
