use Rattle.std.proofs.Common.{inl, inr, arith}
use Rattle.std.specs.Prelude.{Some, None}
use Rattle.command_words.specs.Jobs.{kinds_text}
use Rattle.command_words.proofs.OffloadRow.{colon_split, colon_parts, no_split}
use Rattle.command_words.proofs.offload.copies_and_kinds.Goals as goal

pub returns-in_default-number_up_to : goal.returns-in_default-number_up_to
returns-in_default-number_up_to c copies kinds some few (inl (all, is)) = c.in_default-number_up_to.ensures copies some few is
returns-in_default-number_up_to c copies kinds some few (inr (kind, is)) = colon_split c.args.text.now copies (kinds_text kinds) None c.in_default.ensures.cases (omega arith) is

pub returns-in_default-number_up_to-2 : goal.returns-in_default-number_up_to-2
returns-in_default-number_up_to-2 c copies kinds some few (inl (all, is)) =
    no_split c.args.text.now c.in-Some.copies.now c.in-Some.kinds.now copies (omega arith) (colon_parts c.args.text.now (c.in-Some.copies, c.in-Some.kinds) c.in-Some.ensures.cases) is
returns-in_default-number_up_to-2 c copies kinds some few (inr (kind, is)) =
    let parts = colon_split c.args.text.now copies (kinds_text kinds) (Some (c.in-Some.copies, c.in-Some.kinds)) c.in-Some.ensures.cases (omega arith) is in
    c.in_default-number_up_to-2.ensures copies some few parts.0

pub returns-in_default-kinds_of : goal.returns-in_default-kinds_of
returns-in_default-kinds_of c copies kinds some few (inl (all, is)) =
    no_split c.args.text.now c.in-Some.copies.now c.in-Some.kinds.now copies (omega arith) (colon_parts c.args.text.now (c.in-Some.copies, c.in-Some.kinds) c.in-Some.ensures.cases) is
returns-in_default-kinds_of c copies kinds some few (inr (kind, is)) =
    let parts = colon_split c.args.text.now copies (kinds_text kinds) (Some (c.in-Some.copies, c.in-Some.kinds)) c.in-Some.ensures.cases (omega arith) is in
    c.in_default-kinds_of.ensures kinds kind parts.1
