use Rattle.std.proofs.Common.{◌≡◌, ◌++◌, ◌∷◌, ◌∙◌, [], length, length-append, sym, ap, subst, arith, List}
use Rattle.std.specs.Prelude.{Some}
use Rattle.std.specs.List.{slice_get}
use Rattle.std.specs.Slice.{IsItemAt}
use Rattle.copy_plan.specs.declared.file.PlannedFile.{PlannedFile}
use Rattle.drive_journal.specs.declared.record.Rec.{Rec}
use Rattle.drive_journal.specs.Journal.{AreRecords, IsRecord}
use Rattle.drive_journal.proofs.Entries.{records_none}
use Rattle.run_rows.proofs.Records.{add_record, got_at}
use Rattle.run_rows.proofs.orders.records.Goals as goal

pub loop-index-init : goal.loop-index-init
loop-index-init c =
    let none = c.new-recs.ensures.items in
    (subst (λ (l : List Rec). AreRecords 0 c.args.plan.now.files l) (sym none) (records_none c.args.plan.now.files), ap length none)

pub loop-index-preserved : goal.loop-index-preserved
loop-index-preserved c =
    let recs = c.loop-index.recs.items in
    let rec = c.in_ok-record_of.field-0 in
    let made : IsRecord c.loop-index.index c.in_ok-file.file.now rec = c.in_ok-record_of.ensures in
    let pushed : c.push.new.self.items ≡ recs ++ rec ∷ [] = c.in_ok-push.ensures.items in
    let long : length recs ≡ c.loop-index.index = c.loop-index.invariant.1 in
    let is : slice_get c.args.plan.now.files c.loop-index.index ≡ Some c.in_ok-file.file.now = ap (λ (l : List PlannedFile). slice_get l c.loop-index.index) (sym c.files.ensures.same) ∙ got_at c.files.result.now c.loop-index.index c.in_ok-file.file (subst (IsItemAt c.files.result.now c.loop-index.index) c.in_ok-file.ensures.ok_part c.get.ensures.lookup) in
    let are = add_record c.args.plan.now.files recs c.loop-index.index c.in_ok-file.file.now rec c.loop-index.invariant.0 long is made in
    (subst (λ (l : List Rec). AreRecords 0 c.args.plan.now.files l) (sym pushed) are, omega (arith, ap length pushed, length-append recs (rec ∷ []), long))
