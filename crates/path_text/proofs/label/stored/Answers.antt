use Rattle.std.proofs.Common.{refl}
use Rattle.path_text.specs.Stored.{stored}
use Rattle.path_text.proofs.label.stored.Goals as goal

pub returns : goal.returns
unfolding stored
returns c = rw c.copy_from_slice.ensures.after refl
