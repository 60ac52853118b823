use Rattle.std.proofs.Common.{◌∙◌, sym, ap}
use Rattle.std.specs.Prelude.{is_none}
use Rattle.path_text.proofs.Texts.{control_name, none_if_not_some}
use Rattle.path_text.proofs.path.is_control_name.Goals as goal

pub returns-then-begins_with_control : goal.returns-then-begins_with_control
returns-then-begins_with_control c = control_name c.args.name.now _ c.utf8.name (none_if_not_some _ _ c.is_none.ensures ∙ ap is_none c.refusal.ensures) (sym c.if-begins_with_control.true ∙ c.begins_with_control.ensures)
