use Rattle.std.proofs.Common.{sym, ◌∙◌, ap}
use Rattle.std.specs.Prelude.{option_map, Some}
use Rattle.std.specs.FinMap.{get}
use Rattle.bay_mem.specs.Files.{Files}
use Rattle.bay_mem.proofs.Trees.{get-kept, bytes_of}
use Rattle.bay_mem.proofs.mem_map.MemMap.get.Goals as goal

pub returns-in-Some : goal.returns-in-Some
returns-in-Some c = ap Some c.as_slice.ensures.value ∙ ap (option_map bytes_of) c.in-Some.ensures.value
    ∙ sym (get-kept bytes_of c.self.inside.files c.args.path.now) ∙ ap (λ (m : Files). get m.map c.args.path.now) c.self.view_is

pub returns-in-None : goal.returns-in-None
returns-in-None c = ap (option_map bytes_of) c.in-None.ensures.value
    ∙ sym (get-kept bytes_of c.self.inside.files c.args.path.now) ∙ ap (λ (m : Files). get m.map c.args.path.now) c.self.view_is
