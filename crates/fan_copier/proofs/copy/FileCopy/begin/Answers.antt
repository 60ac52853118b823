use Rattle.std.proofs.Common.{◌≡◌, ◌+◌, ◌*◌, length, refl, sym, arith, ap, ◌∙◌}
use Rattle.fan_core.specs.declared.counts.Counts.{Counts}
use Rattle.fan_core.specs.Flags.{count}
use Rattle.fan_core.specs.Next.{at_start}
use Rattle.fan_core.proofs.Keeps.{left_new}
use Rattle.fan_copier.specs.Standing.{blocks_of}
use Rattle.fan_copier.proofs.Beginning.{count_le, turns_at_begin, pieces_at_begin, parts_at_begin}
use Rattle.fan_copier.proofs.copy.FileCopy.begin.Goals as goal

pub returns-clause-turns : goal.returns-clause-turns
returns-clause-turns c =
    let k = c.new.result.counts in
    let e = c.new.ensures in
    let live = ap (λ (j : Counts). j.live) e in
    let left = left_new k (ap (λ (j : Counts). j.read) e) (ap (λ (j : Counts). j.written) e) c.new.result.keeps.eight_live in
    let blocks : k.blocks ≡ blocks_of c.args.size = omega (arith, ap (λ (j : Counts). j.blocks) e, c.div_ceil.ensures) in
    let few = count_le c.without_all.result c.args.drives (λ d there. (c.without_all.ensures.within d there).0) in
    turns_at_begin (blocks_of c.args.size) (count c.args.drives) _ _ (left ∙ (λ i. blocks i + count (live i) * blocks i)) few

pub returns-clause-stands : goal.returns-clause-stands
returns-clause-stands c =
    let e = c.new.ensures in
    let blocks : c.new.result.counts.blocks ≡ blocks_of c.args.size = omega (arith, ap (λ (j : Counts). j.blocks) e, c.div_ceil.ensures) in
    record {
      counts = e ∙ ap (λ n. at_start c.args.drives n c.args.slots) (sym (ap (λ (j : Counts). j.blocks) e) ∙ blocks);
      eight = c.without_all.ensures.eight;
      pieces = pieces_at_begin c.without_all.result c.args.drives c.args.kept (ap (λ (j : Counts). length j.live) (sym e) ∙ c.new.result.keeps.eight_live) c.without_all.ensures.within c.without_all.ensures.all;
      kept = refl;
    }

pub returns-clause-copying : goal.returns-clause-copying
returns-clause-copying c = λ pool w none kept.
    let k = c.new.result.counts in
    let e = c.new.ensures in
    record {
      has = record {
        fed = c.start.ensures;
        so_far = let r = ap (λ (j : Counts). j.read) e in omega (arith, r);
        block = λ b held. absurd (let below = held.read in let r = ap (λ (j : Counts). j.read) e in omega (arith, below, r));
      };
      parts = parts_at_begin c.args.size _ w c.args.drives (ap (λ (j : Counts). j.live) e) c.new.result.keeps.eight_live c.without_all.ensures.within c.without_all.ensures.all none kept;
    }
