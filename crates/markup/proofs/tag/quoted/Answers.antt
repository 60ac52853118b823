use Rattle.std.proofs.Common.{◌≡◌, List, ℕ, ◌∷◌, [], Some, None, sym, ap, ◌∙◌}
use Rattle.std.proofs.lemmas.List.{nil_from_length}
use Rattle.markup.specs.Piece.{in_value}
use Rattle.markup.specs.Taking.{strip, back, quoted_at}
use Rattle.markup.proofs.Attributes.{quoted_none, quoted_other, quoted_open, quoted_whole}
use Rattle.markup.proofs.tag.quoted.Goals as goal

pub returns-in_err-quote : goal.returns-in_err-quote
returns-in_err-quote c = rw c.from_residual.ensures (ap (quoted_at c.args.name.now) (nil_from_length c.args.bytes.now c.in_err-quote.ensures.cases) ∙ quoted_none c.args.name.now)

pub returns-then-not-is_quote : goal.returns-then-not-is_quote
returns-then-not-is_quote c = ap (quoted_at c.args.name.now) c.in_ok-quote.ensures.cases.0 ∙ quoted_other c.args.name.now c.in_ok-quote.quote.now c.in_ok-quote.others.now (sym c.is_quote.ensures ∙ c.if-not-is_quote.true)

pub returns-in_err-rest : goal.returns-in_err-rest
returns-in_err-rest c =
    let q = c.in_ok-quote.quote.now in
    let missing : strip (q ∷ []) (back (in_value q) c.in_ok-quote.others.now) ≡ None = ap (strip (q ∷ [])) (sym c.split_value.ensures.back) ∙ c.in_err-rest.ensures in
    rw c.from_residual-in_err-rest.ensures (ap (quoted_at c.args.name.now) c.in_ok-quote.ensures.cases.0 ∙ quoted_open c.args.name.now q c.in_ok-quote.others.now (sym c.is_quote.ensures ∙ c.if-not-is_quote.false) missing)

pub returns : goal.returns
returns c =
    let q = c.in_ok-quote.quote.now in
    let found : strip (q ∷ []) (back (in_value q) c.in_ok-quote.others.now) ≡ Some c.in_ok-rest.rest.now = ap (strip (q ∷ [])) (sym c.split_value.ensures.back) ∙ c.in_ok-rest.ensures in
    ap (quoted_at c.args.name.now) c.in_ok-quote.ensures.cases.0
    ∙ quoted_whole c.args.name.now q c.in_ok-quote.others.now c.in_ok-rest.rest.now (sym c.is_quote.ensures ∙ c.if-not-is_quote.false) found
    ∙ ap (λ (value : List ℕ). Some ((c.args.name.now, value), c.in_ok-rest.rest.now)) (sym c.split_value.ensures.front)
