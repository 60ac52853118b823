use Rattle.std.proofs.Common.{sym, ◌∙◌, ap}
use Rattle.std.specs.Prelude.{option_map}
use Rattle.bay_core.proofs.Maps.{moved_none}
use Rattle.bay_mem.proofs.Leaving.{rename_moves}
use Rattle.bay_mem.proofs.images.rename.Goals as goal

pub returns-in-Some : goal.returns-in-Some
returns-in-Some c = rename_moves c.move_file.result _ _ _ _ c.move_file.ensures.ok

pub returns-in-None : goal.returns-in-None
returns-in-None c = sym (moved_none _ _ _ (sym c.in_ok-bytes.ensures ∙ ap (option_map (λ v. v.items)) c.in-None.is))
