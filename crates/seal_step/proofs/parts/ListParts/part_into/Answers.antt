use Rattle.std.proofs.Common.{◌≡◌, suc, ◌-◌, [], ap, length, refl, sym, ◌∙◌, subst, arith}
use Rattle.std.specs.Prelude.{slice_index_or, Some}
use Rattle.std.specs.List.{slice_get}
use Rattle.std.proofs.lemmas.Option.{slice_get_read}
use Rattle.mhl_writer.specs.ListText.{entry_text}
use Rattle.offload_law.specs.Sealing.{sealed_entry}
use Rattle.seal_step.specs.Parts.{list_parts}
use Rattle.seal_step.proofs.Texts.{length-list_parts, part_first, part_entry_at, part_last}
use Rattle.seal_step.proofs.parts.ListParts.part_into.Goals as goal

pub returns-then-part-eq0-clause-is : goal.returns-then-part-eq0-clause-is
returns-then-part-eq0-clause-is c =
    let list = c.args.self.now in
    c.head_into.ensures.text ∙ sym (ap (λ k. slice_index_or (list_parts list.plan.now list.entries.now list.finish) k []) c.if-part-eq0.true ∙ part_first list.plan.now list.entries.now list.finish)

pub returns-then-part-files-clause-is : goal.returns-then-part-files-clause-is
returns-then-part-files-clause-is c =
    let list = c.args.self.now in
    let k = c.args.part - 1 in
    let some = c.if-part-eq0.false in
    let within = c.if-part-files.true in
    let there : c.args.part ≡ suc k = omega arith in
    let same = ap length c.files-files.ensures.same in
    let whole = c.requires.whole in
    let file : slice_get list.plan.now.files k ≡ Some c.index-files-part.result =
    subst (λ files. slice_get files k ≡ Some c.index-files-part.result) c.files-files.ensures.same (slice_get_read c.files-files.result.now (length c.files-files.result.now) k c.index-files-part.result refl (omega arith) c.index-files-part.is) in
    let rec : slice_get list.entries.now k ≡ Some c.index-self-part.result = slice_get_read list.entries.now (length list.entries.now) k c.index-self-part.result refl (omega arith) c.index-self-part.is in
    c.entry_into.ensures.text ∙ ap (λ kinds. entry_text (sealed_entry kinds c.index-files-part.result (slice_index_or list.entries.now k c.index-self-part.result))) c.kinds-kinds.ensures
    ∙ ap (λ r. entry_text (sealed_entry list.plan.now.kinds c.index-files-part.result r)) (sym c.index-self-part.is)
    ∙ sym (ap (λ n. slice_index_or (list_parts list.plan.now list.entries.now list.finish) n []) there ∙ part_entry_at list.plan.now list.entries.now list.finish k c.index-files-part.result c.index-self-part.result file rec)

pub returns-else-part-files-clause-is : goal.returns-else-part-files-clause-is
returns-else-part-files-clause-is c =
    let list = c.args.self.now in
    let behind = c.if-part-files.false in
    let same = ap length c.files-files.ensures.same in
    let many = length-list_parts list.plan.now list.entries.now list.finish c.requires.whole in
    let within = c.requires.part in
    let last : c.args.part ≡ suc (length list.plan.now.files) = omega arith in
    c.part_tail.ensures.text ∙ sym (ap (λ n. slice_index_or (list_parts list.plan.now list.entries.now list.finish) n []) last ∙ part_last list.plan.now list.entries.now list.finish c.requires.whole)
