use Rattle.std.proofs.Common.{ℕ, map, take}
use Rattle.bay_core.specs.Went.{Went}
use Rattle.report_text.specs.Line.{unlisted_text}
use Rattle.bay_core.specs.Looks.{Here, Exactly, says}
use Rattle.verify_run.proofs.verifying.say_others.Given as goal

abbrev pub invariant-loop-name : goal.invariant-loop-name
invariant-loop-name g l = (d : ℕ) → Went (Here d) (Exactly (says (map unlisted_text (take l.name-index l.others)))) (g.B.Bay.world l.initial.bay) (g.B.Bay.world l.bay)
