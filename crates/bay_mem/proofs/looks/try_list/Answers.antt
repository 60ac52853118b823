use Rattle.bay_mem.proofs.Shown.{lists_held}
use Rattle.bay_mem.proofs.looks.try_list.Goals as goal

pub returns-clause-content : goal.returns-clause-content
returns-clause-content c = λ m at. lists_held m c.files.result.now c.args.world.now.events c.args.d c.in_ok-files.files.items (c.files.ensures.holds m at) c.in_ok-files.ensures
