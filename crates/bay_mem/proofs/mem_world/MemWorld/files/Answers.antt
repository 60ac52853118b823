use Rattle.std.proofs.Common.{ap, length}
use Rattle.bay_mem.specs.State.{State}
use Rattle.bay_mem.proofs.Keeping.{held_at}
use Rattle.bay_mem.proofs.mem_world.MemWorld.files.Goals as goal

pub returns-clause-holds : goal.returns-clause-holds
returns-clause-holds c = rw (← c.self.view_is) (λ start at. c.self.invariant.holds c.args.d start c.index.result.now at (held_at _ c.args.d _ c.index.result.now (ap (λ (s : State). length s.fixed.drives) c.self.view_is) c.requires c.index.ensures c.self.invariant))

pub returns-clause-is : goal.returns-clause-is
returns-clause-is c = rw (← c.self.view_is) (held_at _ c.args.d _ c.index.result.now (ap (λ (s : State). length s.fixed.drives) c.self.view_is) c.requires c.index.ensures c.self.invariant)
