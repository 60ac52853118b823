use Rattle.std.proofs.Common.{◌≡◌, drop, take}
use Rattle.job_story.specs.Attaching.{AttachesDrives}
use Rattle.job_run.proofs.attaching.attach_all.Given as goal

abbrev pub invariant-loop-d : goal.invariant-loop-d
invariant-loop-d g l = record {
  count : (g.B.Bay.world l.bay).attached.drives ≡ l.d;
  attached : AttachesDrives 0 (take l.d (drop 5 l.words)) (g.B.Bay.world l.initial.bay) (g.B.Bay.world l.bay);
}
