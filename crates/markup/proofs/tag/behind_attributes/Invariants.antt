use Rattle.std.proofs.Common.{◌≡◌, length}
use Rattle.markup.proofs.Attributes.{behind_all}
use Rattle.markup.proofs.tag.behind_attributes.Given as goal

abbrev pub invariant-loop-inside : goal.invariant-loop-inside
invariant-loop-inside l = behind_all l.rest ≡ behind_all l.bytes

abbrev pub decreases-loop-inside : goal.decreases-loop-inside
decreases-loop-inside l = length l.rest
