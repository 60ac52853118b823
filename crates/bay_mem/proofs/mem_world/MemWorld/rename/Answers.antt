use Rattle.std.proofs.Common.{◌<◌, length, subst, sym, refl}
use Rattle.bay_mem.specs.State.{State}
use Rattle.bay_mem.proofs.Keeping.{makes, rewrites, keeps_made}
use Rattle.bay_mem.proofs.mem_world.MemWorld.rename.Goals as goal

pub invariant_of-self : goal.invariant_of-self
invariant_of-self c =
    keeps_made _ c.args.d _ _ _ _ _ (subst (λ (s : State). c.args.d < length s.fixed.drives) (sym c.self.view_is) c.requires.drive) refl c.index_mut-now.ensures.value
    (makes c.try_rename.result _ _ _ _ _ c.try_rename.ensures.noted c.try_rename.ensures.made c.try_rename.ensures.unnoted c.try_rename.ensures.unmade) c.self.invariant

pub returns-clause-ok : goal.returns-clause-ok
returns-clause-ok c = rw (← c.self.view_is) (rewrites _ c.args.d c.try_rename.result _ _ _ _ (makes c.try_rename.result _ _ _ _ _ c.try_rename.ensures.noted c.try_rename.ensures.made c.try_rename.ensures.unnoted c.try_rename.ensures.unmade))
