use Rattle.std.proofs.Common.{◌≡◌, map, take}
use Rattle.std.specs.List.{filter}
use Rattle.report_text.specs.Shown.{shown}
use Rattle.verify_run.specs.Report.{is_other}
use Rattle.verify_run.proofs.verifying.shown_others.Given as goal

abbrev pub invariant-loop-name : goal.invariant-loop-name
invariant-loop-name l = l.others.items ≡ map shown (filter (is_other l.own) (take l.name-index l.names))
