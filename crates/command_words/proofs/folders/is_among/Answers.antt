use Rattle.std.proofs.Common.{sym, ◌∙◌}
use Rattle.std.proofs.lemmas.Slice.Eq.{bytes_eq-Decides}
use Rattle.command_words.proofs.FolderWords.{among}
use Rattle.command_words.proofs.folders.is_among.Goals as goal

pub returns-then-eq : goal.returns-then-eq
returns-then-eq c =
    among c.args.words.now c.args.first c.args.end c.loop-i.i c.args.word.now c.loop-i.auto.i c.loop-i-test.true c.requires.within.1
    (sym (c.word.ensures c.args.word.now) ∙ (bytes_eq-Decides c.word.result.now c.args.word.now).0 (sym c.if-eq.ensures))
