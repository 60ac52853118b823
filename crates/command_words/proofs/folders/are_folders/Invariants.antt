use Rattle.std.proofs.Common.{take, drop}
use Rattle.command_words.specs.Jobs.{AreFolders}
use Rattle.command_words.proofs.folders.are_folders.Given as goal

abbrev pub invariant-loop-i : goal.invariant-loop-i
invariant-loop-i l = AreFolders (drop l.first (take l.i l.words))
