use Rattle.std.proofs.Common.{◌≡◌, ◌≤◌, ◌*◌, true, length, take}
use Rattle.bay_core.specs.Went.{Tried}
use Rattle.seal_step.specs.Parts.{list_parts, joined, writes_from}
use Rattle.seal_step.proofs.drafting.write_parts.Given as goal

abbrev pub invariant-loop-part : goal.invariant-loop-part
invariant-loop-part g l = record {
  tried : Tried l.d (writes_from l.d 0 (take l.part (list_parts l.list.plan.now l.list.entries.now l.list.finish))) true (g.B.Bay.world l.initial.bay) (g.B.Bay.world l.bay);
  here : l.at ≡ length (joined (take l.part (list_parts l.list.plan.now l.list.entries.now l.list.finish)));
  small : l.at ≤ l.part * 8192;
}
