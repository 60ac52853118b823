use Rattle.std.specs.Prelude.{ℕ, List}
use Rattle.bay_core.specs.Map.{Map}
use Rattle.copy_plan.specs.Plan.{PlanValue}
use Rattle.drive_journal.specs.declared.record.Rec.{Rec}
use Rattle.offload_law.specs.Sealing.{plan_list_text, sealed_values}
use Rattle.offload_law.specs.Stages.{Sealed, IsAt}
use Rattle.run_final.specs.Final.{IsMadeFinal}
use Rattle.job_final.proofs.laws.final_lists_verify.Goals as goal

-- a final map is at the last stage
at_last : (card start m : Map) (p : PlanValue) (recs : List Rec) (finish : ℕ) → IsMadeFinal card start p recs finish m → IsAt (record { plan = p; card = card }) m (Sealed recs finish)
at_last card start m p recs finish h = (record { bytes = h.bytes; stands = h.journal; holds = h.holds; recorded = h.recorded }, h.full, h.list, h.early)

pub returns : goal.returns
returns c = λ card start m p recs finish h.
    let at = at_last card start m p recs finish h in
    let text = plan_list_text p recs finish in
    record {
      bytes = text;
      list = sealed_values p recs finish;
      there = h.list;
      reads = c.a_sealed_list_verifies.ensures.reads (record { plan = p; card = card }) m recs finish at;
      good = λ other reading. c.a_sealed_list_verifies.ensures.verifies (record { plan = p; card = card }) m recs finish text other at h.list reading;
    }
