use Rattle.std.proofs.Common.{sym, ◌∙◌, ap}
use Rattle.std.specs.FinMap.{get}
use Rattle.folder_listing.specs.Listing.{sizes_in}
use Rattle.report_text.specs.Line.{missing_text}
use Rattle.verify_run.proofs.Lines.{said_as, one_line}
use Rattle.verify_run.proofs.Stops.{unsaid_lines, halted_unsaid}
use Rattle.verify_run.proofs.Checks.{missing_checked, found_result}
use Rattle.verify_run.proofs.checking.check_entry.Goals as goal

pub returns-in-Ok : goal.returns-in-Ok
returns-in-Ok g c =
    missing_checked _ _ c.args.entry.now _ _ (ap (get (sizes_in c.args.folder.now)) (sym c.as_str.ensures.same) ∙ sym c.size.ensures ∙ c.in_default.is)
    (said_as c.args.d _ _ (one_line _ _ (ap missing_text (sym c.as_str-in_default.ensures.same))) (c.in-Ok.ensures c.args.d))

pub returns-in-Err : goal.returns-in-Err
returns-in-Err g c = unsaid_lines _ _ _ _ (c.in-Err.ensures c.args.d)

pub returns-in-Err-read_entry : goal.returns-in-Err-read_entry
returns-in-Err-read_entry g c = unsaid_lines _ _ _ _ (halted_unsaid _ c.in-Err-read_entry.ensures)

pub returns : goal.returns
returns g c =
    found_result c.say_found.result _ _ c.args.entry.now c.in-Some.size c.in-Ok-read_entry.found _ _ _ (ap (get (sizes_in c.args.folder.now)) (sym c.as_str.ensures.same) ∙ sym c.size.ensures ∙ c.in-Some.is) c.in-Ok-read_entry.ensures
    (c.say_found.ensures c.args.d)
