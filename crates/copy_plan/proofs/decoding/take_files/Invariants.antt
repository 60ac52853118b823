use Rattle.copy_plan.proofs.Taken.{SoFar}
use Rattle.copy_plan.proofs.decoding.take_files.Given as goal

abbrev pub invariant-loop : goal.invariant-loop
invariant-loop l = SoFar l.list l.count l.initial.rest l.files.items l.total l.counter l.rest
