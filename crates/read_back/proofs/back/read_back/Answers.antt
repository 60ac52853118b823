use Rattle.std.proofs.Common.{sym, ◌∙◌}
use Rattle.std.proofs.lemmas.Result.{err_from_is_err_and}
use Rattle.read_back.proofs.Copies.{back_good, back_differs, back_not_ended, triples_same, triples_differ, ok_exactly, block_twice}
use Rattle.read_back.proofs.back.read_back.Goals as goal

pub returns-in_err-feed_pieces-clause-exactly : goal.returns-in_err-feed_pieces-clause-exactly
returns-in_err-feed_pieces-clause-exactly g c =
    let p = err_from_is_err_and c.from_residual.result c.from_residual.ensures.1 in
    rw (p.1, p.2) (ok_exactly _ _ _ _ _ _ _ (c.in_err-feed_pieces.ensures.read c.args.triple.now))

pub returns-in_err-ask_past_end-clause-read : goal.returns-in_err-ask_past_end-clause-read
returns-in_err-ask_past_end-clause-read g c =
    let p = err_from_is_err_and c.from_residual-in_err-ask_past_end.result c.from_residual-in_err-ask_past_end.ensures.1 in
    rw (p.1, p.2) (back_not_ended _ _ _ _ _ _ _ c.in_ok-feed_pieces.ensures.read _ _ c.in_err-ask_past_end.ensures)

pub returns-in_err-ask_past_end-clause-exactly : goal.returns-in_err-ask_past_end-clause-exactly
returns-in_err-ask_past_end-clause-exactly g c =
    ok_exactly _ _ _ _ _ _ _ (returns-in_err-ask_past_end-clause-read g c)

pub returns-in_err-ask_past_end-clause-pool : goal.returns-in_err-ask_past_end-clause-pool
returns-in_err-ask_past_end-clause-pool g c = block_twice _ _ _ _ c.bytes_mut.ensures.there c.feed_pieces.ensures.pool

pub returns-then-eq-clause-read : goal.returns-then-eq-clause-read
returns-then-eq-clause-read g c =
    let fed = c.in_ok-feed_pieces.ensures.read in
    let read = c.triple_of-read.result in
    back_good _ _ _ _ _ _ _ fed _ read c.in_ok-ask_past_end.ensures (c.triple_of-read.ensures fed.bytes fed.fed) (triples_same read c.args.triple.now (sym c.eq.ensures ∙ c.if-eq.true))

pub returns-then-eq-clause-exactly : goal.returns-then-eq-clause-exactly
returns-then-eq-clause-exactly g c = ok_exactly _ _ _ _ _ _ _ (returns-then-eq-clause-read g c)

pub returns-then-eq-clause-pool : goal.returns-then-eq-clause-pool
returns-then-eq-clause-pool g c = block_twice _ _ _ _ c.bytes_mut.ensures.there c.feed_pieces.ensures.pool

pub returns-else-eq-clause-read : goal.returns-else-eq-clause-read
returns-else-eq-clause-read g c =
    let fed = c.in_ok-feed_pieces.ensures.read in
    let read = c.triple_of-read.result in
    back_differs _ _ _ _ _ _ _ fed _ read c.in_ok-ask_past_end.ensures (c.triple_of-read.ensures fed.bytes fed.fed) (triples_differ read c.args.triple.now (sym c.eq.ensures ∙ c.if-eq.false))

pub returns-else-eq-clause-exactly : goal.returns-else-eq-clause-exactly
returns-else-eq-clause-exactly g c = ok_exactly _ _ _ _ _ _ _ (returns-else-eq-clause-read g c)

pub returns-else-eq-clause-pool : goal.returns-else-eq-clause-pool
returns-else-eq-clause-pool g c = block_twice _ _ _ _ c.bytes_mut.ensures.there c.feed_pieces.ensures.pool
