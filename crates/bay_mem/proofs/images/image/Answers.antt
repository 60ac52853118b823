use Rattle.std.proofs.Common.{◌+◌, ap, arith, subst, sym, take}
use Rattle.bay_mem.specs.Files.{Files}
use Rattle.bay_mem.specs.Image.{Stands}
use Rattle.bay_mem.proofs.Standing.{stands_from, stands_still_at, stands_next_at}
use Rattle.bay_mem.proofs.images.image.Goals as goal
use Rattle.bay_mem.proofs.images.image.Goals.{then-is_call_on+in_ok-step, else-is_call_on}

pub loop-event-init : goal.loop-event-init
loop-event-init c = stands_from _ _ _ _ (ap (λ (f : Files). f.map) c.in_ok-copy.ensures.same) (ap (λ (f : Files). f.map) c.in_ok-copy-2.ensures.same)

pub loop-event-preserved : goal.loop-event-preserved
loop-event-preserved c = elim c.if-is_call_on.branch [
  | then-is_call_on+in_ok-step w ↦
      subst (λ s. Stands c.args.start.now.map (take (c.loop-event.event-index + 1) c.args.events.now) c.args.d s.read.map s.left.map) (sym w.stand-is)
      (stands_next_at _ c.args.events.now c.loop-event.event-index c.event-item.result _ _ _ _ _ (omega arith) c.event-item.is w.if-is_call_on.ensures c.loop-event.invariant w.in_ok-step.ensures.read w.in_ok-step.ensures.left)
  | else-is_call_on w ↦
      subst (λ s. Stands c.args.start.now.map (take (c.loop-event.event-index + 1) c.args.events.now) c.args.d s.read.map s.left.map) (sym w.stand-is)
      (stands_still_at _ c.args.events.now c.loop-event.event-index c.event-item.result _ _ _ (omega arith) c.event-item.is w.if-is_call_on.ensures c.loop-event.invariant)
]
