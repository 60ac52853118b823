use Rattle.std.proofs.Common.{ap, ◌∙◌}
use Rattle.std.specs.Prelude.{Some, None}
use Rattle.path_text.specs.Label.{is_label}
use Rattle.command_words.proofs.OffloadRow.{at_split, no_label}
use Rattle.command_words.proofs.offload.user_and_host.Goals as goal

pub returns-in_default : goal.returns-in_default
returns-in_default c user host u h is = at_split c.args.text.now user host None c.in_default.ensures.cases u is

pub returns-in_default-read : goal.returns-in_default-read
returns-in_default-read c user host u h is =
    let parts = at_split c.args.text.now user host (Some (c.in-Some.before, c.in-Some.after)) c.in-Some.ensures.cases u is in
    no_label c.in-Some.before.now c.in_default-read.field-0 c.in_default-read.ensures (ap is_label parts.0 ∙ u)

pub returns-in_default-read-2 : goal.returns-in_default-read-2
returns-in_default-read-2 c user host u h is =
    let parts = at_split c.args.text.now user host (Some (c.in-Some.before, c.in-Some.after)) c.in-Some.ensures.cases u is in
    no_label c.in-Some.after.now c.in_default-read-2.field-0 c.in_default-read-2.ensures (ap is_label parts.1 ∙ h)
