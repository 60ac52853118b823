use Rattle.std.proofs.Common.{◌∙◌, ℕ, List, sym, subst, codes}
use Rattle.std.specs.Prelude.{Some, IsTrue}
use Rattle.mhl_writer.specs.Note.{is_note}
use Rattle.mhl_writer.specs.ListText.{head_text}
use Rattle.offload_law.proofs.Notes.{label_note, tool_note}
use Rattle.seal_step.proofs.parts.ListParts.head_into.Goals as goal

pub part_head-requires-clause-name : goal.part_head-requires-clause-name
part_head-requires-clause-name c = subst (λ (t : List ℕ). IsTrue (is_note t)) (sym c.as_str.ensures.same) (label_note _ c.as_str.ensures.label)

pub part_head-requires-clause-username : goal.part_head-requires-clause-username
part_head-requires-clause-username c = subst (λ (t : List ℕ). IsTrue (is_note t)) (sym c.as_str-2.ensures.same) (label_note _ c.as_str-2.ensures.label)

pub part_head-requires-clause-hostname : goal.part_head-requires-clause-hostname
part_head-requires-clause-hostname c = subst (λ (t : List ℕ). IsTrue (is_note t)) (sym c.as_str-3.ensures.same) (label_note _ c.as_str-3.ensures.label)

pub part_head-requires-clause-tool : goal.part_head-requires-clause-tool
part_head-requires-clause-tool c = tool_note

pub returns-clause-text : goal.returns-clause-text
returns-clause-text c =
    let name = c.as_str.ensures.same ∙ c.name.ensures in
    let user = c.as_str-2.ensures.same ∙ c.user.ensures in
    let host = c.as_str-3.ensures.same ∙ c.host.ensures in
    c.part_head.ensures.text
    ∙ (λ i. head_text (record { name = Some (name i); username = Some (user i); hostname = Some (host i); tool = Some (codes "mhlstation 1"); started = Some (c.started.ensures i); finished = Some c.args.self.now.finish }))
