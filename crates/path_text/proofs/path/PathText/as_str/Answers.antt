use Rattle.path_text.proofs.Texts.{path_holds, short_path}
use Rattle.path_text.proofs.path.PathText.as_str.Goals as goal

pub returns-clause-path : goal.returns-clause-path
returns-clause-path c = path_holds _ _ _ c.deref.utf8 c.deref.ensures c.self.view_is c.self.invariant

pub returns-clause-short : goal.returns-clause-short
returns-clause-short c = short_path _ _ c.deref.ensures c.self.invariant
