use Rattle.std.proofs.Common.{◌∙◌}
use Rattle.mhl_reader.specs.Code.{reader_seen}
use Rattle.mhl_reader.proofs.Machine.{leaf_closed, leaf_not_closed, skipped_none}
use Rattle.mhl_reader.proofs.reader.Reader.close.Goals as goal

pub returns-in-Ok : goal.returns-in-Ok
returns-in-Ok c =
    leaf_closed c.args.self.text.items c.args.self.base (reader_seen c.args.self) c.in-HashLeaf.hash c.in-HashLeaf.leaves c.in-HashLeaf.leaf c.in-HashLeaf.at c.in-Ok.leaves c.deref.result.now c.in-HashLeaf.is c.deref.ensures.value c.in-Ok.ensures
    ∙ skipped_none _ _ c.args.self.skipped.items c.requires

pub returns-in-HashLeaf : goal.returns-in-HashLeaf
returns-in-HashLeaf c =
    leaf_not_closed c.in-Err.e c.args.self.text.items c.args.self.base (reader_seen c.args.self) c.in-HashLeaf.hash c.in-HashLeaf.leaves c.in-HashLeaf.leaf c.in-HashLeaf.at c.deref.result.now c.in-HashLeaf.is c.deref.ensures.value c.in-Err.ensures
