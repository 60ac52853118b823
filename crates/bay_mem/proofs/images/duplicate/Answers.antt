use Rattle.std.proofs.Common.{sym, ◌∙◌, ap}
use Rattle.std.specs.Prelude.{option_map}
use Rattle.bay_core.proofs.Maps.{copied_none}
use Rattle.bay_mem.proofs.Leaving.{put_copies}
use Rattle.bay_mem.proofs.images.duplicate.Goals as goal

pub returns-in-Some : goal.returns-in-Some
returns-in-Some c = put_copies c.put.result c.args.from.now _ _ 0 _ _ (sym c.in_ok-bytes.ensures ∙ ap (option_map (λ v. v.items)) c.in-Some.is) c.put.ensures.ok

pub returns-in-None : goal.returns-in-None
returns-in-None c = sym (copied_none _ _ _ (sym c.in_ok-bytes.ensures ∙ ap (option_map (λ v. v.items)) c.in-None.is))
