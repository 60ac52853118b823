use Rattle.std.proofs.Common.{map}
use Rattle.run_state.specs.State.{at_of}
use Rattle.offload_run.specs.Offload.{ordered_of}
use Rattle.offload_run.proofs.Counting.{opens, open_left, due_within}
use Rattle.offload_run.proofs.offload.Offload.begin_copy.Goals as goal

pub returns-clause-opens : goal.returns-clause-opens
returns-clause-opens c =
    let e = c.begin.ensures in
    opens (ordered_of c.args.self.now) _ c.args.index c.args.file.now.size c.begin.result c.args.drives c.args.kept e.is.0 e.is.1 e.is.2 e.is.3 e.is.4 c.requires.drives c.requires.kept e.stands e.copying

pub returns-clause-nearer : goal.returns-clause-nearer
returns-clause-nearer c =
    open_left _ c.args.self.now.plan c.args.index c.args.file.now c.begin.result c.args.drives c.requires.is (due_within (map at_of c.args.self.now.drives.items) c.args.index c.args.drives c.requires.drives) c.begin.ensures.turns
