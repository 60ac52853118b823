use Rattle.std.proofs.Common.{take, ◌≡◌, ℕ, ◌*◌, ◌<◌, ◌%◌, ◌++◌, List, arith, ap, sym, subst, ◌∙◌, length}
use Rattle.std.proofs.lemmas.List.{length-take-le}
use Rattle.std.specs.Prelude.{Some}
use Rattle.block_pool.specs.Lent.{block_at}
use Rattle.digest_set.specs.Fed.{AllFed, Md5Fed, Sha1Fed, XxhFed}
use Rattle.fan_core.specs.declared.counts.Counts.{Counts}
use Rattle.fan_copier.specs.Ring.{cell, Readies}
use Rattle.fan_copier.specs.Standing.{IsCopy, place, block_len}
use Rattle.fan_copier.specs.Copying.{standing}
use Rattle.fan_copier.specs.Turning.{next_block}
use Rattle.fan_copier.proofs.Rings.{taken_room}
use Rattle.fan_copier.proofs.Growing.{keep_ready, keep_read, next_is, has_more, of_has, HasAll}
use Rattle.fan_copier.proofs.Holding.{holds_blocks, wanted_kept, wanted_held, owns_written}
use Rattle.fan_copier.proofs.Coming.{block_cut, block_ended, block_whole}
use Rattle.fan_copier.proofs.copy.FileCopy.read_block.Goals as goal

pub ready-requires-clause-room : goal.ready-requires-clause-room
ready-requires-clause-room g c = λ none.
    let s = c.args.self.now in
    let some = s.window.keeps.some_slot in
    let below : c.read_count-block.result % c.slots.result < s.window.counts.slots = omega (arith, some, c.slots.ensures) in
    let t = taken_room s.ring.slots s.window.counts.slots (c.read_count-block.result % c.slots.result) s.keeps.outside below none in
    omega (arith, t, c.requires.free)

pub returns-in_err-n-clause-called : goal.returns-in_err-n-clause-called
returns-in_err-n-clause-called g c =
    let s = c.args.self.now in
    let k = s.window.counts in
    let here : c.read_count-block.result * 65536 ≡ k.read * 65536 = omega (arith, c.read_count-block.ensures) in
    let P : (c.read_count-block.result % c.slots.result) ≡ place k k.read = (λ i. c.read_count-block.ensures i % c.slots.ensures i) in
    let at : cell c.ready.new.self.slots (place k k.read) ≡ Some c.slot-slot.result.now = ap (cell c.ready.new.self.slots) (sym P) ∙ c.slot-slot.ensures in
    let want_is : c.min-want.result ≡ block_len s.size k.read = omega (arith, c.min-want.ensures, c.read_count-block.ensures) in
    let bytes = next_is s.size c.min-want.result k c.ready.new.self.slots c.read_into.new.pool c.slot-slot.result.now want_is at in
    block_cut s.source c.args.path.now _ _ _ _ _ c.from_residual.result _ c.from_residual.ensures.1 here bytes c.in_err-n.ensures.called

pub returns-then-n-want-clause-called : goal.returns-then-n-want-clause-called
returns-then-n-want-clause-called g c =
    let s = c.args.self.now in
    let k = s.window.counts in
    let here : c.read_count-block.result * 65536 ≡ k.read * 65536 = omega (arith, c.read_count-block.ensures) in
    let P : (c.read_count-block.result % c.slots.result) ≡ place k k.read = (λ i. c.read_count-block.ensures i % c.slots.ensures i) in
    let at : cell c.ready.new.self.slots (place k k.read) ≡ Some c.slot-slot.result.now = ap (cell c.ready.new.self.slots) (sym P) ∙ c.slot-slot.ensures in
    let want_is : c.min-want.result ≡ block_len s.size k.read = omega (arith, c.min-want.ensures, c.read_count-block.ensures) in
    let bytes = next_is s.size c.min-want.result k c.ready.new.self.slots c.read_into.new.pool c.slot-slot.result.now want_is at in
    let long = length-take-le c.min-want.result (block_at c.read_into.new.pool c.slot-slot.result.now) c.in_ok-n.ensures.size in
    block_ended s.source c.args.path.now _ _ c.in_ok-n.n _ _ (omega (arith, long, c.if-n-want.true)) here bytes c.in_ok-n.ensures.called

pub invariant_of-self-2 : goal.invariant_of-self-2
invariant_of-self-2 g c =
    let s = c.args.self.now in
    let k = s.window.counts in
    let at = standing s in
    let P : (c.read_count-block.result % c.slots.result) ≡ place k k.read = (λ i. c.read_count-block.ensures i % c.slots.ensures i) in
    let r = subst (λ (p : ℕ). Readies p s.ring.slots c.ready.new.self.slots c.args.pool.now c.ready.new.pool) P c.ready.ensures in
    let ready = keep_ready s.size at s.ring.slots c.ready.new.self.slots c.args.pool.now c.ready.new.pool s.window.keeps.some_slot s.keeps r in
    record { keeps = subst (λ (j : Counts). IsCopy s.size (record { counts = j; pieces = s.pieces; kept = s.kept }) c.ready.new.self.slots) (sym c.done_read.ensures) (keep_read s.size at c.ready.new.self.slots ready c.requires.pieces r.there) }

pub returns-clause-called : goal.returns-clause-called
returns-clause-called g c =
    let s = c.args.self.now in
    let k = s.window.counts in
    let here : c.read_count-block.result * 65536 ≡ k.read * 65536 = omega (arith, c.read_count-block.ensures) in
    let P : (c.read_count-block.result % c.slots.result) ≡ place k k.read = (λ i. c.read_count-block.ensures i % c.slots.ensures i) in
    let at : cell c.ready.new.self.slots (place k k.read) ≡ Some c.slot-slot.result.now = ap (cell c.ready.new.self.slots) (sym P) ∙ c.slot-slot.ensures in
    let want_is : c.min-want.result ≡ block_len s.size k.read = omega (arith, c.min-want.ensures, c.read_count-block.ensures) in
    let bytes = next_is s.size c.min-want.result k c.ready.new.self.slots c.read_into.new.pool c.slot-slot.result.now want_is at in
    let long = length-take-le c.min-want.result (block_at c.read_into.new.pool c.slot-slot.result.now) c.in_ok-n.ensures.size in
    block_whole s.source c.args.path.now _ _ c.in_ok-n.n _ _ (omega (arith, long, c.in_ok-n.ensures.bound, c.if-n-want.false)) here bytes c.in_ok-n.ensures.called

pub returns-clause-grown : goal.returns-clause-grown
returns-clause-grown g c = λ xs had.
    let s = c.args.self.now in
    let k = s.window.counts in
    let at = standing s in
    let P : (c.read_count-block.result % c.slots.result) ≡ place k k.read = (λ i. c.read_count-block.ensures i % c.slots.ensures i) in
    let r = subst (λ (p : ℕ). Readies p s.ring.slots c.ready.new.self.slots c.args.pool.now c.ready.new.pool) P c.ready.ensures in
    let there : cell c.ready.new.self.slots (place k k.read) ≡ Some c.slot-slot.result.now = ap (cell c.ready.new.self.slots) (sym P) ∙ c.slot-slot.ensures in
    let want_is : c.min-want.result ≡ block_len s.size k.read = omega (arith, c.min-want.ensures, c.read_count-block.ensures) in
    let bytes = next_is s.size c.min-want.result k c.ready.new.self.slots c.read_into.new.pool c.slot-slot.result.now want_is there in
    let all : c.in_ok-n.n ≡ c.min-want.result = omega (arith, c.in_ok-n.ensures.bound, c.if-n-want.false) in
    let long = length-take-le c.min-want.result (block_at c.read_into.new.pool c.slot-slot.result.now) c.in_ok-n.ensures.size in
    let size_is : length (next_block s.size k c.ready.new.self.slots c.read_into.new.pool) ≡ block_len s.size k.read = ap (length {A = ℕ}) (sym bytes) ∙ long ∙ want_is in
    let more = has_more s.size at s.ring.slots c.ready.new.self.slots c.args.pool.now c.ready.new.pool c.read_into.new.pool c.slot-slot.result.now xs s.window.keeps.some_slot s.keeps c.requires.more.more r there c.in_ok-n.ensures.pool size_is (of_has s c.args.pool.now xs had) in
    let now = subst (λ (j : Counts). HasAll s.size j c.ready.new.self.slots c.read_into.new.pool (xs ++ next_block s.size k c.ready.new.self.slots c.read_into.new.pool)) (sym c.done_read.ensures) more in
    record {
      fed = subst (λ (ys : List ℕ). AllFed Md5Fed Sha1Fed XxhFed c.read_into.new.run (xs ++ ys)) bytes (c.in_ok-n.ensures.fed all xs had.fed);
      so_far = now.so_far;
      block = now.block;
    }

pub returns-in_err-n-clause-holds : goal.returns-in_err-n-clause-holds
returns-in_err-n-clause-holds g c = λ xs had same.
    let s = c.args.self.now in
    let k = s.window.counts in
    let P : (c.read_count-block.result % c.slots.result) ≡ place k k.read = (λ i. c.read_count-block.ensures i % c.slots.ensures i) in
    let r = subst (λ (p : ℕ). Readies p s.ring.slots c.ready.new.self.slots c.args.pool.now c.ready.new.pool) P c.ready.ensures in
    let there : cell c.ready.new.self.slots (place k k.read) ≡ Some c.slot-slot.result.now = ap (cell c.ready.new.self.slots) (sym P) ∙ c.slot-slot.ensures in
    holds_blocks _ c.read_into.new.pool xs (owns_written c.ready.new.self.slots c.ready.new.pool c.read_into.new.pool c.slot-slot.result.now c.in_err-n.ensures.pool r.owns)
    (λ d b wanted. ap (take (block_len s.size b)) (wanted_kept s.size (standing s) s.ring.slots c.ready.new.self.slots c.args.pool.now c.ready.new.pool c.read_into.new.pool c.slot-slot.result.now s.window.keeps s.keeps c.requires.more r there c.in_err-n.ensures.pool d b wanted)
    ∙ had.block b (wanted_held k d b s.window.keeps wanted))

pub returns-then-n-want-clause-holds : goal.returns-then-n-want-clause-holds
returns-then-n-want-clause-holds g c = λ xs had same.
    let s = c.args.self.now in
    let k = s.window.counts in
    let P : (c.read_count-block.result % c.slots.result) ≡ place k k.read = (λ i. c.read_count-block.ensures i % c.slots.ensures i) in
    let r = subst (λ (p : ℕ). Readies p s.ring.slots c.ready.new.self.slots c.args.pool.now c.ready.new.pool) P c.ready.ensures in
    let there : cell c.ready.new.self.slots (place k k.read) ≡ Some c.slot-slot.result.now = ap (cell c.ready.new.self.slots) (sym P) ∙ c.slot-slot.ensures in
    holds_blocks _ c.read_into.new.pool xs (owns_written c.ready.new.self.slots c.ready.new.pool c.read_into.new.pool c.slot-slot.result.now c.in_ok-n.ensures.pool r.owns)
    (λ d b wanted. ap (take (block_len s.size b)) (wanted_kept s.size (standing s) s.ring.slots c.ready.new.self.slots c.args.pool.now c.ready.new.pool c.read_into.new.pool c.slot-slot.result.now s.window.keeps s.keeps c.requires.more r there c.in_ok-n.ensures.pool d b wanted)
    ∙ had.block b (wanted_held k d b s.window.keeps wanted))
