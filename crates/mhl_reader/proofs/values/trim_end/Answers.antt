use Rattle.std.proofs.Common.{sym, ◌∙◌}
use Rattle.std.proofs.lemmas.List.{nil_from_length}
use Rattle.mhl_reader.proofs.Trimming.{end_goes_on, end_stops, end_ends}
use Rattle.mhl_reader.proofs.values.trim_end.Goals as goal

pub loop-last-preserved : goal.loop-last-preserved
loop-last-preserved c =
    end_goes_on c.args.text.now c.loop-last.rest.now c.in-Some.others.now c.in-Some.last.now c.in-Some.ensures.cases.0 (sym c.is_white_space.ensures ∙ c.if-not-is_white_space.false) c.loop-last.invariant

pub returns-then-not-is_white_space : goal.returns-then-not-is_white_space
returns-then-not-is_white_space c =
    end_stops c.args.text.now c.loop-last.rest.now c.in-Some.others.now c.in-Some.last.now c.in-Some.ensures.cases.0 (sym c.is_white_space.ensures ∙ c.if-not-is_white_space.true) c.loop-last.invariant

pub returns-in_default : goal.returns-in_default
returns-in_default c = end_ends c.args.text.now c.loop-last.rest.now (nil_from_length c.loop-last.rest.now c.in_default.ensures.cases) c.loop-last.invariant
