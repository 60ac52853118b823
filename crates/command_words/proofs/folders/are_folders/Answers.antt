use Rattle.std.proofs.Common.{[], sym, ◌∙◌, arith}
use Rattle.command_words.proofs.FolderWords.{folders_none, folders_more, empty_word, some_word, empty_refused, twice_refused}
use Rattle.command_words.proofs.folders.are_folders.Goals as goal
use Rattle.command_words.proofs.folders.are_folders.Goals.{then-is_empty-via-then-is_empty, then-is_empty-via-else-is_empty+then-is_among}

pub loop-i-init : goal.loop-i-init
loop-i-init c = folders_none c.args.words.now c.args.first c.requires.within

pub loop-i-preserved : goal.loop-i-preserved
loop-i-preserved c =
    folders_more c.args.words.now c.args.first c.loop-i.i c.word-word.result.now c.loop-i.auto.i (omega arith) (c.word-word.ensures _) c.loop-i.invariant
    (some_word c.word-word.result.now c.if-is_empty.ensures) c.if-is_among.ensures

pub returns-then-is_empty : goal.returns-then-is_empty
returns-then-is_empty c = elim c.then-is_empty.branch [
  | then-is_empty-via-then-is_empty w ↦
      empty_refused c.args.words.now c.args.first c.loop-i.i c.loop-i.auto.i (omega arith) (sym (c.word-word.ensures []) ∙ empty_word c.word-word.result.now w.if-is_empty.ensures)
  | then-is_empty-via-else-is_empty+then-is_among w ↦
      twice_refused c.args.words.now c.args.first c.loop-i.i c.word-word.result.now c.loop-i.auto.i (omega arith) (c.word-word.ensures _) w.if-is_among.ensures
]
