use Rattle.std.proofs.Common.{arith, ap, length}
use Rattle.seal_step.proofs.Texts.{length-list_parts}
use Rattle.seal_step.proofs.parts.ListParts.count.Goals as goal

pub returns-clause-count : goal.returns-clause-count
returns-clause-count c = omega (arith, length-list_parts c.args.self.now.plan.now c.args.self.now.entries.now c.args.self.now.finish c.requires, ap length c.files.ensures.same)
