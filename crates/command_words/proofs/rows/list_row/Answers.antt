use Rattle.std.proofs.Common.{[], ap, sym, ◌∙◌}
use Rattle.command_words.specs.Words.{is_list_word}
use Rattle.command_words.proofs.FolderWords.{empty_word, some_word}
use Rattle.command_words.proofs.ListRows.{not_three, empty_drive, no_list, is_row, no_name}
use Rattle.command_words.proofs.rows.list_row.Goals as goal
use Rattle.command_words.proofs.rows.list_row.Goals.{then-count-ne3-via-then-count-ne3, then-count-ne3-via-else-count-ne3+then-is_empty}

pub returns-then-count-ne3 : goal.returns-then-count-ne3
returns-then-count-ne3 c same = elim c.then-count-ne3.branch [
  | then-count-ne3-via-then-count-ne3 w ↦ not_three c.args.words.now (λ many. w.if-count-ne3.true (c.count.ensures ∙ many))
  | then-count-ne3-via-else-count-ne3+then-is_empty w ↦ empty_drive c.args.words.now (sym (w.word.ensures []) ∙ empty_word w.word.result.now w.if-is_empty.ensures)
]

pub returns-in-Err : goal.returns-in-Err
returns-in-Err c same = no_list c.args.words.now (ap is_list_word (sym (c.word-2.ensures [])) ∙ c.in-Err.ensures same)

pub returns-in-Some : goal.returns-in-Some
returns-in-Some c =
    is_row c.args.words.now c.word-3.result.now c.in-Ok.list c.in-Some.command (sym c.count.ensures ∙ c.if-count-ne3.false) (sym (c.word-3.ensures [])) (sym (c.word-2.ensures []) ∙ sym c.in-Ok.ensures.0)
    (ap is_list_word c.in-Ok.ensures.0 ∙ c.in-Ok.ensures.1) (λ none. some_word c.word.result.now c.if-is_empty.ensures (c.word.ensures [] ∙ none)) (sym c.in-Some.ensures)

pub returns-in-None : goal.returns-in-None
returns-in-None c same = no_name c.args.words.now c.word-3.result.now c.in-Ok.list (sym (c.word-3.ensures [])) (sym c.in-None.ensures)
