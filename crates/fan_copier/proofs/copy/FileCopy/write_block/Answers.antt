use Rattle.std.proofs.Common.{◌≡◌, ℕ, ◌*◌, ◌%◌, Bool, List, arith, ap, sym, subst, ◌∙◌, take}
use Rattle.std.specs.Prelude.{Ok, Err, is_some}
use Rattle.bay_core.specs.Paths.{part_path}
use Rattle.block_pool.specs.Lent.{block_at}
use Rattle.fan_core.specs.Flags.{has}
use Rattle.fan_copier.specs.Reads.{AreOn}
use Rattle.fan_copier.specs.Ring.{cell}
use Rattle.fan_copier.specs.Standing.{Standing, block_len, block_of}
use Rattle.fan_copier.specs.Copying.{standing}
use Rattle.fan_copier.proofs.Growing.{held_place, waiting_within, written_bytes, of_has, left_out}
use Rattle.bay_core.proofs.Runs.{went_such}
use Rattle.fan_copier.proofs.Comparing.{put_as, not_true}
use Rattle.fan_copier.proofs.Leaving.{put_copy}
use Rattle.fan_copier.proofs.copy.FileCopy.write_block.Goals as goal

pub overflow_mul-at : goal.overflow_mul-at
overflow_mul-at g c =
    let s = c.args.self.now in
    let w = waiting_within s.size (standing s) s.ring.slots s.window.keeps s.keeps c.args.d c.requires.waits in
    let n = s.keeps.small in
    omega (arith, w, n, c.requires.next)

pub overflow_sub-self : goal.overflow_sub-self
overflow_sub-self g c =
    let s = c.args.self.now in
    let w = waiting_within s.size (standing s) s.ring.slots s.window.keeps s.keeps c.args.d c.requires.waits in
    omega (arith, w, c.requires.next)

pub slot-requires : goal.slot-requires
slot-requires g c =
    let s = c.args.self.now in
    (λ i. is_some (cell s.ring.slots (c.requires.next i % c.slots.ensures i))) ∙ held_place s.size (standing s) s.ring.slots s.window.keeps s.keeps c.args.d c.requires.waits

pub put_block-requires-clause-range : goal.put_block-requires-clause-range
put_block-requires-clause-range g c =
    let s = c.args.self.now in
    let w = waiting_within s.size (standing s) s.ring.slots s.window.keeps s.keeps c.args.d c.requires.waits in
    let n = s.keeps.small in
    omega (arith, w, n, c.requires.next, c.min-len.ensures)

pub returns-in-Ok-true-clause-called : goal.returns-in-Ok-true-clause-called
returns-in-Ok-true-clause-called g c = λ xs had.
    let s = c.args.self.now in
    let len_is : c.min-len.result ≡ block_len s.size c.args.block = omega (arith, c.min-len.ensures) in
    let bytes = written_bytes s.size (standing s) s.ring.slots c.args.pool.now xs s.window.keeps s.keeps (of_has s c.args.pool.now xs had) c.args.d c.requires.waits c.args.block c.min-len.result c.slots.result c.slot.result.now c.requires.next len_is c.slots.ensures c.slot.ensures in
    put_as c.has-keeps.result (has s.kept c.args.d) (has s.kept c.args.d) c.args.d (c.args.block * 65536) _ (block_of xs c.args.block) (Ok c.in-Ok-true.field-0) c.has-keeps.ensures.is bytes
    (λ is. sym c.has-keeps.ensures.is ∙ (c.in-Ok-true.ensures.agreed c.in-Ok-true.field-0-test).0) (λ never. absurd (never (ap Ok c.in-Ok-true.field-0-test))) c.in-Ok-true.ensures.called

pub returns-in-Ok-true-clause-agreed : goal.returns-in-Ok-true-clause-agreed
returns-in-Ok-true-clause-agreed g c = λ xs had ok kept.
    let s = c.args.self.now in
    let len_is : c.min-len.result ≡ block_len s.size c.args.block = omega (arith, c.min-len.ensures) in
    let bytes = written_bytes s.size (standing s) s.ring.slots c.args.pool.now xs s.window.keeps s.keeps (of_has s c.args.pool.now xs had) c.args.d c.requires.waits c.args.block c.min-len.result c.slots.result c.slot.result.now c.requires.next len_is c.slots.ensures c.slot.ensures in
    subst (λ (l : List ℕ). AreOn c.args.d part_path (c.args.block * 65536) l (g.B.Bay.world c.put_block.new.bay)) bytes (c.in-Ok-true.ensures.agreed c.in-Ok-true.field-0-test).1

pub returns-in-Ok-false-clause-called : goal.returns-in-Ok-false-clause-called
returns-in-Ok-false-clause-called g c = λ xs had.
    let s = c.args.self.now in
    let len_is : c.min-len.result ≡ block_len s.size c.args.block = omega (arith, c.min-len.ensures) in
    let bytes = written_bytes s.size (standing s) s.ring.slots c.args.pool.now xs s.window.keeps s.keeps (of_has s c.args.pool.now xs had) c.args.d c.requires.waits c.args.block c.min-len.result c.slots.result c.slot.result.now c.requires.next len_is c.slots.ensures c.slot.ensures in
    let out = ap (λ (l : List Bool). has l c.args.d) c.without-self.ensures ∙ left_out s.kept c.args.d in
    put_as c.has-keeps.result (has s.kept c.args.d) (has c.without-self.result c.args.d) c.args.d (c.args.block * 65536) _ (block_of xs c.args.block) (Ok c.in-Ok-false.field-0) c.has-keeps.ensures.is bytes
    (λ is. absurd (not_true c.in-Ok-false.field-0 c.in-Ok-false.field-0-test is)) (λ never. out) c.in-Ok-false.ensures.called

pub returns-in-Ok-false-clause-agreed : goal.returns-in-Ok-false-clause-agreed
returns-in-Ok-false-clause-agreed g c = λ xs had ok kept. absurd (cc (sym kept ∙ ap (λ (l : List Bool). has l c.args.d) c.without-self.ensures ∙ left_out c.args.self.now.kept c.args.d))

pub returns-in-Err-clause-called : goal.returns-in-Err-clause-called
returns-in-Err-clause-called g c = λ xs had.
    let s = c.args.self.now in
    let len_is : c.min-len.result ≡ block_len s.size c.args.block = omega (arith, c.min-len.ensures) in
    let bytes = written_bytes s.size (standing s) s.ring.slots c.args.pool.now xs s.window.keeps s.keeps (of_has s c.args.pool.now xs had) c.args.d c.requires.waits c.args.block c.min-len.result c.slots.result c.slot.result.now c.requires.next len_is c.slots.ensures c.slot.ensures in
    let out = ap (λ (st : Standing). has st.kept c.args.d) c.drop_drive.ensures.stands ∙ left_out s.kept c.args.d in
    put_as c.has-keeps.result (has s.kept c.args.d) (has c.drop_drive.new.self.kept c.args.d) c.args.d (c.args.block * 65536) _ (block_of xs c.args.block) (Err c.in-Err.failed) c.has-keeps.ensures.is bytes
    (λ is. absurd (cc is)) (λ never. out) c.in-Err.ensures.called

pub returns-in-Ok-true-clause-touches : goal.returns-in-Ok-true-clause-touches
returns-in-Ok-true-clause-touches g c = λ s path. went_such (λ L t. put_copy s path c.has-keeps.result c.args.d (c.args.block * 65536) (take c.min-len.result (block_at c.args.pool.now c.slot.result.now)) (Ok c.in-Ok-true.field-0) L t) c.in-Ok-true.ensures.called.went

pub returns-in-Ok-false-clause-touches : goal.returns-in-Ok-false-clause-touches
returns-in-Ok-false-clause-touches g c = λ s path. went_such (λ L t. put_copy s path c.has-keeps.result c.args.d (c.args.block * 65536) (take c.min-len.result (block_at c.args.pool.now c.slot.result.now)) (Ok c.in-Ok-false.field-0) L t) c.in-Ok-false.ensures.called.went

pub returns-in-Err-clause-touches : goal.returns-in-Err-clause-touches
returns-in-Err-clause-touches g c = λ s path. went_such (λ L t. put_copy s path c.has-keeps.result c.args.d (c.args.block * 65536) (take c.min-len.result (block_at c.args.pool.now c.slot.result.now)) (Err c.in-Err.failed) L t) c.in-Err.ensures.called.went

pub returns-in-Err-clause-cause : goal.returns-in-Err-clause-cause
returns-in-Err-clause-cause g c = λ failed. c.in-Err.ensures.called.cause failed
