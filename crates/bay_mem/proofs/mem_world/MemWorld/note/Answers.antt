use Rattle.std.proofs.Common.{subst, sym}
use Rattle.bay_core.specs.Replay.{device_of}
use Rattle.bay_mem.specs.State.{State, IsKnown}
use Rattle.bay_mem.proofs.Keeping.{keeps_pushed}
use Rattle.bay_mem.proofs.mem_world.MemWorld.note.Goals as goal

pub invariant_of-self-2 : goal.invariant_of-self-2
invariant_of-self-2 c =
    keeps_pushed _ c.args.event _ c.in_ok-push.ensures.items (subst (λ (s : State). IsKnown s.fixed (device_of c.args.event)) (sym c.self.view_is) c.requires.known) c.requires.idle c.self.invariant
