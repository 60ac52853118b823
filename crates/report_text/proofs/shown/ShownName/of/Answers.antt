use Rattle.std.proofs.Common.{◌∙◌, sym, ap, map, ◌++◌}
use Rattle.std.specs.Str.{chars, encode_utf8_all}
use Rattle.std.specs.Char.{encode_utf8}
use Rattle.std.specs.Str.Iter.{chars_rest}
use Rattle.std.proofs.lemmas.Iterator.{YieldsList-from_chars}
use Rattle.std.proofs.lemmas.Iterator.Consumers.{YieldsList-end}
use Rattle.report_text.specs.Shown.{shown, shown_character}
use Rattle.report_text.proofs.Shows.{shown_short, shown_more, same_items}
use Rattle.report_text.proofs.shown.ShownName.of.Goals as goal

pub loop-c-preserved : goal.loop-c-preserved
loop-c-preserved c = c.in_ok-push.ensures.bytes ∙ ap (λ x. c.loop-c.text.bytes.items ++ encode_utf8 x) c.shown_char.ensures ∙ shown_more _ c.loop-c.yielded c.in-Some.c c.loop-c.invariant

pub invariant_of-result : goal.invariant_of-result
invariant_of-result c =
    let all = (YieldsList-end (YieldsList-from_chars c.cut.result.now c.cut.utf8 (ap chars_rest c.into_iter-c-iterator.ensures.into_iter_gives ∙ c.chars-c-items.ensures.rest)) _ _ c.loop-c.yielded_by _ _ c.in-None.is c.next.ensures.steps).0 in
    shown_short _ c.cut.result.now c.loop-c.yielded c.cut.utf8 c.loop-c.invariant (sym (same_items c.loop-c.yielded) ∙ all) c.cut.ensures.short

pub returns : goal.returns
unfolding shown
returns c =
    let all = (YieldsList-end (YieldsList-from_chars c.cut.result.now c.cut.utf8 (ap chars_rest c.into_iter-c-iterator.ensures.into_iter_gives ∙ c.chars-c-items.ensures.rest)) _ _ c.loop-c.yielded_by _ _ c.in-None.is c.next.ensures.steps).0 in
    c.loop-c.invariant ∙ ap (λ cs. encode_utf8_all (map shown_character cs)) (sym (same_items c.loop-c.yielded) ∙ all ∙ ap chars c.cut.ensures.front)
