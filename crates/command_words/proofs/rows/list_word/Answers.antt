use Rattle.std.proofs.Common.{sym, ◌∙◌, ap}
use Rattle.path_text.specs.Path.{is_control_path}
use Rattle.std.specs.Prelude.{◌==◌}
use Rattle.std.specs.List.{list_any}
use Rattle.command_words.proofs.ListWords.{no_list_word, list_word_is}
use Rattle.command_words.proofs.rows.list_word.Goals as goal

pub returns-in-Err : goal.returns-in-Err
returns-in-Err c same = no_list_word _ c.in-Err.e c.in-Err.ensures (c.words_error.ensures same)

pub returns : goal.returns
returns c = let list = c.in-Ok.ensures in (list.0, list_word_is _ c.utf8.word list.1 (ap is_control_path (sym list.0) ∙ sym c.is_control.ensures ∙ c.if-is_control.false) (ap (list_any (λ b. b == 47)) (sym c.as_bytes.ensures.value) ∙ sym c.if-contains.ensures.value))
