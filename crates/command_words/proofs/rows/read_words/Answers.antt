use Rattle.std.proofs.Common.{[], codes, sym, ◌∙◌}
use Rattle.command_words.proofs.ListRows.{offload_first, by_list, no_offload, same_word, other_word}
use Rattle.command_words.proofs.rows.read_words.Goals as goal
use Rattle.command_words.proofs.rows.read_words.Goals.{then-count-eq0-via-then-count-eq0, then-count-eq0-via-else-count-eq0+then-ne}

pub returns-then-count-eq0 : goal.returns-then-count-eq0
returns-then-count-eq0 c = by_list c.args.words.now c.list_row.result (λ name user host copies drives kinds row.
    let first = offload_first name user host copies drives kinds row in
    elim c.then-count-eq0.branch [
      | then-count-eq0-via-then-count-eq0 w ↦ first.0 (sym c.count.ensures ∙ w.if-count-eq0.true)
      | then-count-eq0-via-else-count-eq0+then-ne w ↦ other_word w.word.result.now (codes "offload") w.if-ne.ensures (w.word.ensures [] ∙ first.1)
    ]) c.list_row.ensures

pub returns-in-None : goal.returns-in-None
returns-in-None c same = no_offload c.args.words.now (sym (c.word.ensures []) ∙ same_word c.word.result.now (codes "offload") c.if-ne.ensures) c.in-None.ensures
