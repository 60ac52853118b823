use Rattle.std.proofs.Common.{◌≡◌, ℕ, nat_eq, List, length, take, arith, ap, sym, ◌∙◌, subst}
use Rattle.std.proofs.lemmas.List.{length-take-le, take_all}
use Rattle.block_pool.specs.Lent.{block_at}
use Rattle.bay_core.specs.Paths.{part_path}
use Rattle.fan_copier.specs.Reads.{AreOn}
use Rattle.fan_copier.proofs.Comparing.{compare_cut, compare_all, compare_fewer, two_blocks, not_equal}
use Rattle.fan_copier.proofs.blocks.agrees.Goals as goal

pub returns-in_err-n-clause-called : goal.returns-in_err-n-clause-called
returns-in_err-n-clause-called g c =
    let long : length (block_at c.args.pool.now c.args.slot.now) ≡ 65536 = ap length (sym c.bytes.ensures.bytes) ∙ c.bytes.ensures.size in
    let a = length-take-le c.args.len (block_at c.args.pool.now c.args.slot.now) (omega (arith, long, c.requires.len)) in
    let b = length-take-le c.args.len c.read_part.new.block (omega (arith, c.read_part.ensures.size, c.bytes_mut.ensures.size, c.requires.len)) in
    compare_cut c.args.d c.args.at (take c.args.len c.read_part.new.block) _ _ c.from_residual.result _ c.from_residual.ensures.1 (a ∙ sym b) c.in_err-n.ensures.called

pub returns-then-n-len-clause-called : goal.returns-then-n-len-clause-called
returns-then-n-len-clause-called g c =
    let long : length (block_at c.args.pool.now c.args.slot.now) ≡ 65536 = ap length (sym c.bytes.ensures.bytes) ∙ c.bytes.ensures.size in
    let a = length-take-le c.args.len (block_at c.args.pool.now c.args.slot.now) (omega (arith, long, c.requires.len)) in
    let b = length-take-le c.args.len c.read_part.new.block (omega (arith, c.read_part.ensures.size, c.bytes_mut.ensures.size, c.requires.len)) in
    let blocks = two_blocks c.args.pool.now c.args.slot.now c.args.compare.now c.read_part.new.block c.bytes_mut.ensures.there c.requires.compare.1 in
    compare_all c.args.d c.args.at c.in_ok-n.n (take c.args.len c.read_part.new.block) _ c.same_front.result (c.if-n-len.true ∙ sym b) (a ∙ sym b)
    (λ yes. ap (take c.args.len) (sym blocks.0) ∙ c.same_front.ensures.same yes ∙ ap (take c.args.len) blocks.1)
    (λ no is. c.same_front.ensures.other no (ap (take c.args.len) blocks.0 ∙ is ∙ ap (take c.args.len) (sym blocks.1)))
    c.in_ok-n.ensures.called

pub returns-then-n-len-clause-honest : goal.returns-then-n-len-clause-honest
returns-then-n-len-clause-honest g c = λ yes.
    let blocks = two_blocks c.args.pool.now c.args.slot.now c.args.compare.now c.read_part.new.block c.bytes_mut.ensures.there c.requires.compare.1 in
    let b = length-take-le c.args.len c.read_part.new.block (omega (arith, c.read_part.ensures.size, c.bytes_mut.ensures.size, c.requires.len)) in
    subst (λ (l : List ℕ). AreOn c.args.d part_path c.args.at l (g.B.Bay.world c.read_part.new.bay))
    (take_all c.in_ok-n.n (take c.args.len c.read_part.new.block) (omega (arith, b, c.if-n-len.true)) ∙ ap (take c.args.len) (sym blocks.0) ∙ c.same_front.ensures.same yes ∙ ap (take c.args.len) blocks.1)
    c.in_ok-n.ensures.honest

pub returns-else-n-len-clause-called : goal.returns-else-n-len-clause-called
returns-else-n-len-clause-called g c =
    let long : length (block_at c.args.pool.now c.args.slot.now) ≡ 65536 = ap length (sym c.bytes.ensures.bytes) ∙ c.bytes.ensures.size in
    let a = length-take-le c.args.len (block_at c.args.pool.now c.args.slot.now) (omega (arith, long, c.requires.len)) in
    let b = length-take-le c.args.len c.read_part.new.block (omega (arith, c.read_part.ensures.size, c.bytes_mut.ensures.size, c.requires.len)) in
    let most = c.in_ok-n.ensures.bound in
    compare_fewer c.args.d c.args.at c.in_ok-n.n (take c.args.len c.read_part.new.block) _ (nat_eq c.in_ok-n.n c.args.len) (omega (arith, most, b, c.if-n-len.false)) (a ∙ sym b)
    (not_equal c.in_ok-n.n c.args.len c.if-n-len.false) c.in_ok-n.ensures.called
