use Rattle.std.proofs.Common.{◌≡◌, inl, inr, ℕ, ◌+◌, ◌*◌, ◌<◌, ◌≤◌, ◌++◌, true, [], ap, sym, subst, refl, length}
use Rattle.std.specs.Prelude.{Option, Ok, Err, IfNone, IfSome}
use Rattle.bay_core.specs.Replay.{Source, Drive}
use Rattle.bay_core.specs.World.{Attached}
use Rattle.bay_core.specs.Went.{Called}
use Rattle.bay_core.proofs.Runs.{rose_since}
use Rattle.fan_core.proofs.Keeps.{act_read, act_write, waits}
use Rattle.fan_copier.specs.Standing.{Standing, block_len}
use Rattle.fan_copier.specs.Copying.{standing, Has}
use Rattle.fan_copier.specs.Turning.{with_read, next_block, ReadCalls, PastCalls}
use Rattle.bay_core.specs.Map.{content}
use Rattle.fan_copier.specs.Reads.{AreAt}
use Rattle.fan_copier.proofs.Holding.{holds_has, holds_as}
use Rattle.fan_copier.proofs.Turns.{turn_read, turn_ended, turn_lost, turn_write, turn_drop, turn_done, turn_long, turn_cut, nearer_write, nearer_drop, touched}
use Rattle.fan_copier.proofs.Leaving.{read_copy, past_copy}
use Rattle.fan_copier.proofs.copy.FileCopy.act.Goals as goal

pub write_block-requires-clause-drive : goal.write_block-requires-clause-drive
write_block-requires-clause-drive g c =
    let s = c.args.self.now in
    let to = act_write s.window.counts c.ask-pick.result c.in-Write.d c.in-Write.block (sym c.in-Write.ensures.act) in
    subst (λ (a : Attached). c.in-Write.d < a.drives) (sym c.ask-pick.ensures.went.attached) (c.requires.drives c.in-Write.d (waits s.window.counts s.window.keeps c.in-Write.d to.0).live)

pub write_block-requires-clause-waits : goal.write_block-requires-clause-waits
write_block-requires-clause-waits g c = (act_write c.args.self.now.window.counts c.ask-pick.result c.in-Write.d c.in-Write.block (sym c.in-Write.ensures.act)).0

pub returns-in-Ok-None-clause-pool : goal.returns-in-Ok-None-clause-pool
returns-in-Ok-None-clause-pool g c = c.in-Ok-None.ensures.pool c.args.compare.now c.requires.compare.0 c.requires.compare.1

pub returns-in-Ok-None-clause-turned : goal.returns-in-Ok-None-clause-turned
returns-in-Ok-None-clause-turned g c = λ xs copying.
    let s = c.args.self.now in
    let block = next_block s.size s.window.counts c.read_block.new.self.ring.slots c.read_block.new.pool in
    let is = sym c.in-Read.ensures.act in
    let called = subst (λ (o : Option ℕ). Called (Source s.source) (ReadCalls s.source c.args.path.now (s.window.counts.read * 65536) block (Ok o)) true (g.B.Bay.world c.ask-pick.new.bay) (g.B.Bay.world c.read_block.new.bay)) c.in-Ok-None.field-0-is c.in-Ok-None.ensures.called in
    let stands = subst (λ (o : Option ℕ). IfNone o (standing c.read_block.new.self ≡ with_read (standing s))) c.in-Ok-None.field-0-is c.in-Ok-None.ensures.whole in
    let had = subst (λ (o : Option ℕ). IfNone o (Has c.read_block.new.self c.read_block.new.pool (xs ++ block))) c.in-Ok-None.field-0-is (c.in-Ok-None.ensures.grown xs copying.has) in
    turn_read c.args.path.now s c.read_block.new.self c.read_block.new.pool xs c.ask-pick.result c.requires.pieces block is (act_read s.window.counts c.ask-pick.result is) c.ask-pick.ensures called c.in-Ok-None.ensures.len c.in-Ok-None.ensures.same.1 stands copying had (c.in-Ok-None.ensures.pool c.args.compare.now c.requires.compare.0 c.requires.compare.1).owns
    (λ m steady. subst (λ (o : Option ℕ). IfNone o (AreAt (content m c.args.path.now) (s.window.counts.read * 65536) block)) c.in-Ok-None.field-0-is (c.in-Ok-None.ensures.card m steady))

pub returns-in-Ok-Some-clause-pool : goal.returns-in-Ok-Some-clause-pool
returns-in-Ok-Some-clause-pool g c = c.in-Ok-Some.ensures.pool c.args.compare.now c.requires.compare.0 c.requires.compare.1

pub returns-in-Ok-Some-clause-turned : goal.returns-in-Ok-Some-clause-turned
returns-in-Ok-Some-clause-turned g c = λ xs copying.
    let s = c.args.self.now in
    let block = next_block s.size s.window.counts c.read_block.new.self.ring.slots c.read_block.new.pool in
    let is = sym c.in-Read.ensures.act in
    let called = subst (λ (o : Option ℕ). Called (Source s.source) (ReadCalls s.source c.args.path.now (s.window.counts.read * 65536) block (Ok o)) true (g.B.Bay.world c.ask-pick.new.bay) (g.B.Bay.world c.read_block.new.bay)) c.in-Ok-Some.field-0-is c.in-Ok-Some.ensures.called in
    let ended = subst (λ (o : Option ℕ). IfSome o (λ n. (s.window.counts.read * 65536 ≤ n) × (n < s.window.counts.read * 65536 + block_len s.size s.window.counts.read) × (standing c.read_block.new.self ≡ standing s))) c.in-Ok-Some.field-0-is c.in-Ok-Some.ensures.ended in
    turn_ended c.args.path.now s c.read_block.new.self c.read_block.new.pool xs c.ask-pick.result c.requires.pieces block c.read_block.new.self.size c.in-Ok-Some.read is (act_read s.window.counts c.ask-pick.result is) c.ask-pick.ensures called c.in-Ok-Some.ensures.len ended.0 ended.1 c.in-Ok-Some.ensures.same.1 ended.2 copying (c.in-Ok-Some.ensures.holds xs copying.has ended.2)

pub returns-in-Err-clause-pool : goal.returns-in-Err-clause-pool
returns-in-Err-clause-pool g c = c.in-Err.ensures.pool c.args.compare.now c.requires.compare.0 c.requires.compare.1

pub returns-in-Err-clause-turned : goal.returns-in-Err-clause-turned
returns-in-Err-clause-turned g c = λ xs copying.
    let s = c.args.self.now in
    let block = next_block s.size s.window.counts c.read_block.new.self.ring.slots c.read_block.new.pool in
    turn_lost c.args.path.now s c.read_block.new.self c.read_block.new.pool xs c.ask-pick.result c.requires.pieces block _ (sym c.in-Read.ensures.act) c.ask-pick.ensures c.in-Err.ensures.called c.in-Err.ensures.len (c.in-Err.ensures.lost refl) (c.in-Err.ensures.holds xs copying.has (c.in-Err.ensures.lost refl))

pub returns-in-Ok-clause-nearer : goal.returns-in-Ok-clause-nearer
returns-in-Ok-clause-nearer g c =
    let s = c.args.self.now in
    nearer_write c.args.path.now s c.write_block.new.self c.write_block.new.pool [] c.ask-pick.result c.in-Write.d (act_write s.window.counts c.ask-pick.result c.in-Write.d c.in-Write.block (sym c.in-Write.ensures.act)).0 (c.in-Ok.ensures.ok refl)

pub returns-in-Ok-clause-turned : goal.returns-in-Ok-clause-turned
returns-in-Ok-clause-turned g c = λ xs copying.
    let s = c.args.self.now in
    let is = sym c.in-Write.ensures.act in
    let to = act_write s.window.counts c.ask-pick.result c.in-Write.d c.in-Write.block is in
    turn_write c.args.path.now s c.write_block.new.self c.write_block.new.pool xs c.ask-pick.result c.requires.pieces c.in-Write.d c.in-Write.block is to.0 to.1 c.ask-pick.ensures (c.in-Ok.ensures.called xs copying.has) (c.in-Ok.ensures.agreed xs copying.has refl) c.in-Ok.ensures.same.1 (c.in-Ok.ensures.ok refl) copying (c.in-Ok.ensures.has xs copying.has) c.in-Ok.ensures.pool.owns

pub returns-in-Err-write_block-clause-go_on : goal.returns-in-Err-write_block-clause-go_on
returns-in-Err-write_block-clause-go_on g c =
    let s = c.args.self.now in
    let to = act_write s.window.counts c.ask-pick.result c.in-Write.d c.in-Write.block (sym c.in-Write.ensures.act) in
    ((waits s.window.counts s.window.keeps c.in-Write.d to.0).live, ap (λ (st : Standing). st.counts.live) (c.in-Err-write_block.ensures.dropped refl))

pub returns-in-Err-write_block-clause-nearer : goal.returns-in-Err-write_block-clause-nearer
returns-in-Err-write_block-clause-nearer g c =
    let s = c.args.self.now in
    nearer_drop c.args.path.now s c.write_block.new.self c.write_block.new.pool [] c.ask-pick.result c.in-Write.d (act_write s.window.counts c.ask-pick.result c.in-Write.d c.in-Write.block (sym c.in-Write.ensures.act)).0 (c.in-Err-write_block.ensures.dropped refl)

pub returns-in-Err-write_block-clause-turned : goal.returns-in-Err-write_block-clause-turned
returns-in-Err-write_block-clause-turned g c = λ xs copying.
    let s = c.args.self.now in
    let is = sym c.in-Write.ensures.act in
    let to = act_write s.window.counts c.ask-pick.result c.in-Write.d c.in-Write.block is in
    turn_drop c.args.path.now s c.write_block.new.self c.write_block.new.pool xs c.ask-pick.result c.requires.pieces c.in-Write.d c.in-Write.block is (waits s.window.counts s.window.keeps c.in-Write.d to.0).live c.ask-pick.ensures (c.in-Err-write_block.ensures.called xs copying.has) c.in-Err-write_block.ensures.same.1 (c.in-Err-write_block.ensures.dropped refl) copying (c.in-Err-write_block.ensures.has xs copying.has) c.in-Err-write_block.ensures.pool.owns

pub returns-in-Ok-None-read_past-clause-turned : goal.returns-in-Ok-None-read_past-clause-turned
returns-in-Ok-None-read_past-clause-turned g c = λ xs copying.
    let s = c.args.self.now in
    let called = subst (λ (o : Option ℕ). Called (Source s.source) (PastCalls s.source c.args.path.now s.size (Ok o)) true (g.B.Bay.world c.ask-pick.new.bay) (g.B.Bay.world c.read_past.new.bay)) c.in-Ok-None-read_past.field-0-is c.in-Ok-None-read_past.ensures.called in
    turn_done c.args.path.now s c.finish.new.self c.args.pool.now xs c.ask-pick.result c.requires.pieces c.finish.result (sym c.in-Finished.ensures.act) c.ask-pick.ensures called c.finish.ensures.same.3 copying (c.finish.ensures.triple xs copying.has.fed)
    (holds_as s c.finish.new.self c.args.pool.now xs c.finish.ensures.same.1 c.finish.ensures.same.2 (ap (λ (st : Standing). st.counts) c.finish.ensures.same.3) (holds_has s c.args.pool.now xs c.requires.owns copying.has))
    (λ m steady. subst (λ (o : Option ℕ). IfNone o (length (content m c.args.path.now) ≤ s.size)) c.in-Ok-None-read_past.field-0-is (c.in-Ok-None-read_past.ensures.ends m steady))

pub returns-in-Ok-Some-read_past-clause-turned : goal.returns-in-Ok-Some-read_past-clause-turned
returns-in-Ok-Some-read_past-clause-turned g c = λ xs copying.
    let s = c.args.self.now in
    let called = subst (λ (o : Option ℕ). Called (Source s.source) (PastCalls s.source c.args.path.now s.size (Ok o)) true (g.B.Bay.world c.ask-pick.new.bay) (g.B.Bay.world c.read_past.new.bay)) c.in-Ok-Some-read_past.field-0-is c.in-Ok-Some-read_past.ensures.called in
    turn_long c.args.path.now s s c.args.pool.now xs c.ask-pick.result c.requires.pieces s.size c.in-Ok-Some-read_past.field-0-0 (sym c.in-Finished.ensures.act) c.ask-pick.ensures called refl refl copying (holds_has s c.args.pool.now xs c.requires.owns copying.has)

pub returns-in-Err-read_past-clause-turned : goal.returns-in-Err-read_past-clause-turned
returns-in-Err-read_past-clause-turned g c = λ xs copying.
    let s = c.args.self.now in
    turn_cut c.args.path.now s s c.args.pool.now xs c.ask-pick.result c.requires.pieces _ (sym c.in-Finished.ensures.act) c.ask-pick.ensures c.in-Err-read_past.ensures.called refl (holds_has s c.args.pool.now xs c.requires.owns copying.has)

pub returns-in-Ok-None-clause-touches : goal.returns-in-Ok-None-clause-touches
returns-in-Ok-None-clause-touches g c =
    let s = c.args.self.now in
    touched s.source c.args.path.now c.ask-pick.result s.window.counts.live (Source s.source) (λ L t. read_copy s.source c.args.path.now (s.window.counts.read * 65536) (next_block s.size s.window.counts c.read_block.new.self.ring.slots c.read_block.new.pool) (Ok c.in-Ok-None.field-0) L t) c.ask-pick.ensures (inl refl) c.in-Ok-None.ensures.called.went

pub returns-in-Ok-Some-clause-touches : goal.returns-in-Ok-Some-clause-touches
returns-in-Ok-Some-clause-touches g c =
    let s = c.args.self.now in
    touched s.source c.args.path.now c.ask-pick.result s.window.counts.live (Source s.source) (λ L t. read_copy s.source c.args.path.now (s.window.counts.read * 65536) (next_block s.size s.window.counts c.read_block.new.self.ring.slots c.read_block.new.pool) (Ok c.in-Ok-Some.field-0) L t) c.ask-pick.ensures (inl refl) c.in-Ok-Some.ensures.called.went

pub returns-in-Err-clause-touches : goal.returns-in-Err-clause-touches
returns-in-Err-clause-touches g c =
    let s = c.args.self.now in
    touched s.source c.args.path.now c.ask-pick.result s.window.counts.live (Source s.source) (λ L t. read_copy s.source c.args.path.now (s.window.counts.read * 65536) (next_block s.size s.window.counts c.read_block.new.self.ring.slots c.read_block.new.pool) (Err c.in-Err.field-0) L t) c.ask-pick.ensures (inl refl) c.in-Err.ensures.called.went

pub returns-in-Ok-clause-touches : goal.returns-in-Ok-clause-touches
returns-in-Ok-clause-touches g c =
    let s = c.args.self.now in
    let to = act_write s.window.counts c.ask-pick.result c.in-Write.d c.in-Write.block (sym c.in-Write.ensures.act) in
    touched s.source c.args.path.now c.ask-pick.result s.window.counts.live (Drive c.in-Write.d) (λ L t. t) c.ask-pick.ensures (inr (inr (c.in-Write.d, (waits s.window.counts s.window.keeps c.in-Write.d to.0).live, refl))) (c.in-Ok.ensures.touches s.source c.args.path.now)

pub returns-in-Err-write_block-clause-touches : goal.returns-in-Err-write_block-clause-touches
returns-in-Err-write_block-clause-touches g c =
    let s = c.args.self.now in
    let to = act_write s.window.counts c.ask-pick.result c.in-Write.d c.in-Write.block (sym c.in-Write.ensures.act) in
    touched s.source c.args.path.now c.ask-pick.result s.window.counts.live (Drive c.in-Write.d) (λ L t. t) c.ask-pick.ensures (inr (inr (c.in-Write.d, (waits s.window.counts s.window.keeps c.in-Write.d to.0).live, refl))) (c.in-Err-write_block.ensures.touches s.source c.args.path.now)

pub returns-in-Ok-None-read_past-clause-touches : goal.returns-in-Ok-None-read_past-clause-touches
returns-in-Ok-None-read_past-clause-touches g c =
    let s = c.args.self.now in
    touched s.source c.args.path.now c.ask-pick.result s.window.counts.live (Source s.source) (λ L t. past_copy s.source c.args.path.now s.size (Ok c.in-Ok-None-read_past.field-0) L t) c.ask-pick.ensures (inl refl) c.in-Ok-None-read_past.ensures.called.went

pub returns-in-Ok-Some-read_past-clause-touches : goal.returns-in-Ok-Some-read_past-clause-touches
returns-in-Ok-Some-read_past-clause-touches g c =
    let s = c.args.self.now in
    touched s.source c.args.path.now c.ask-pick.result s.window.counts.live (Source s.source) (λ L t. past_copy s.source c.args.path.now s.size (Ok c.in-Ok-Some-read_past.field-0) L t) c.ask-pick.ensures (inl refl) c.in-Ok-Some-read_past.ensures.called.went

pub returns-in-Err-read_past-clause-touches : goal.returns-in-Err-read_past-clause-touches
returns-in-Err-read_past-clause-touches g c =
    let s = c.args.self.now in
    touched s.source c.args.path.now c.ask-pick.result s.window.counts.live (Source s.source) (λ L t. past_copy s.source c.args.path.now s.size (Err c.in-Err-read_past.field-0) L t) c.ask-pick.ensures (inl refl) c.in-Err-read_past.ensures.called.went

pub returns-in-Err-clause-cause : goal.returns-in-Err-clause-cause
returns-in-Err-clause-cause g c = rose_since _ _ c.ask-pick.ensures.went (c.in-Err.ensures.called.cause refl)

pub returns-in-Err-write_block-clause-cause : goal.returns-in-Err-write_block-clause-cause
returns-in-Err-write_block-clause-cause g c = rose_since _ _ c.ask-pick.ensures.went (c.in-Err-write_block.ensures.cause refl)

pub returns-in-Err-read_past-clause-cause : goal.returns-in-Err-read_past-clause-cause
returns-in-Err-read_past-clause-cause g c = rose_since _ _ c.ask-pick.ensures.went (c.in-Err-read_past.ensures.called.cause refl)
