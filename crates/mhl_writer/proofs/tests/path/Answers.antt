use Rattle.std.proofs.Common.{sym, ap, subst, ◌∙◌}
use Rattle.std.specs.Prelude.{IsTrue, is_none}
use Rattle.path_text.specs.Path.{is_path}
use Rattle.path_text.proofs.Texts.{is_path-text}
use Rattle.mhl_writer.proofs.tests.path.Goals as goal

pub returns : goal.returns
returns c = subst (λ t. IsTrue (is_path t)) (sym c.in_ok-read.ensures.0) (is_path-text c.args.text.now c.utf8.text ∙ ap is_none c.in_ok-read.ensures.1)
