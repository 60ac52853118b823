use Rattle.std.proofs.Common.{◌+◌, ap, length, arith}
use Rattle.seal_step.specs.Parts.{list_parts}
use Rattle.seal_step.proofs.Texts.{joined_next, part_behind, some_part}
use Rattle.seal_step.proofs.reading.refill.Goals as goal

pub part_into-requires-clause-part : goal.part_into-requires-clause-part
part_into-requires-clause-part c =
    let list = c.args.list.now in
    part_behind (list_parts list.plan.now list.entries.now list.finish) c.args.place.now.part c.requires.stands.there (omega (arith, ap length c.requires.stands.is, ap length c.bytes.ensures))

pub returns-then-place-bytes-clause-stands : goal.returns-then-place-bytes-clause-stands
returns-then-place-bytes-clause-stands c =
    let list = c.args.list.now in
    record {
      there = part_behind (list_parts list.plan.now list.entries.now list.finish) c.args.place.now.part c.requires.stands.there (omega (arith, ap length c.requires.stands.is, ap length c.bytes.ensures));
      is = c.part_into.ensures.is;
      within = omega arith;
      fits = c.part_into.ensures.fits;
    }

pub returns-then-place-bytes-clause-same : goal.returns-then-place-bytes-clause-same
returns-then-place-bytes-clause-same c =
    let list = c.args.list.now in
    omega (arith, joined_next (list_parts list.plan.now list.entries.now list.finish) c.args.place.now.part c.requires.stands.there, ap length c.requires.stands.is, ap length c.bytes.ensures)

pub returns-then-place-bytes-clause-some : goal.returns-then-place-bytes-clause-some
returns-then-place-bytes-clause-some c =
    let list = c.args.list.now in
    let there = (returns-then-place-bytes-clause-stands c).there in
    omega (arith, some_part list.plan.now list.entries.now list.finish (c.args.place.now.part + 1) there, ap length c.part_into.ensures.is)
