use Rattle.std.proofs.Common.{◌≡◌, ℕ, suc, List, length, refl, sym, ◌∙◌, subst}
use Rattle.std.specs.FinMap.{keys}
use Rattle.bay_core.specs.Map.{Map}
use Rattle.copy_plan.specs.Plan.{list_of}
use Rattle.drive_journal.specs.declared.record.Rec.{Rec}
use Rattle.offload_law.specs.Sealing.{sealed_entries}
use Rattle.offload_law.specs.Stages.{Offload, Sealed, IsAt, IsAfter}
use Rattle.verify_run.specs.Report.{standings, is_absent, is_altered, is_uncheckable, found_in, report_verdict}
use Rattle.verified_law.specs.Good.{IsGood}
use Rattle.verified_law.proofs.Sealed.{length-sealed_entries}
use Rattle.verified_law.proofs.Verified.{sealed_reads, good_entries, count_none, length-found_in, good_outcome, sealed_verifies, sealed_after}
use Rattle.verified_law.proofs.a_sealed_list_verifies.Goals as goal

good_report : (o : Offload) (m : Map) (recs : List Rec) (finish : ℕ) → IsAt o m (Sealed recs finish) → IsGood (length o.plan.files) (report_verdict (sealed_entries o.plan.kinds o.plan.files recs) m (list_of o.plan))
good_report o m recs finish sealed =
    let p = o.plan in
    let has = sealed.0 in
    let entries = sealed_entries p.kinds p.files recs in
    let founds = found_in m entries in
    let good = good_entries p.kinds o.card m 0 p.files recs has.holds.plan.kinds has.holds.records has.recorded in
    let missing = count_none is_absent (standings founds) refl good in
    let altered = count_none is_altered (standings founds) refl good in
    let unchecked = count_none is_uncheckable (standings founds) refl good in
    record {
      entries = length-found_in m entries ∙ length-sealed_entries p.kinds p.files recs sealed.1;
      missing = missing;
      altered = altered;
      unchecked = unchecked;
      outcome = good_outcome (report_verdict entries m (list_of p)) missing altered unchecked;
    }

pub returns-clause-reads : goal.returns-clause-reads
returns-clause-reads c = sealed_reads

pub returns-clause-good : goal.returns-clause-good
returns-clause-good c = good_report

pub returns-clause-verifies : goal.returns-clause-verifies
returns-clause-verifies c = λ o m recs finish bytes list sealed. sealed_verifies o m recs finish bytes list (good_report o m recs finish sealed) sealed

pub returns-clause-sealed : goal.returns-clause-sealed
returns-clause-sealed c = sealed_after

pub returns-clause-on_card : goal.returns-clause-on_card
returns-clause-on_card c = λ card dates m after.
    let p = after.0 in
    let o : Offload = record { plan = p; card = card } in
    let count : length p.files ≡ length (keys card) = c.one_file_each.ensures card dates p after.1 after.2 in
    let sealed = sealed_after o m (subst (λ (n : ℕ). IsAfter o m (suc (suc n))) (sym count) after.3) in
    (p, sealed.0, sealed.1, after.2, count, sealed.2)
