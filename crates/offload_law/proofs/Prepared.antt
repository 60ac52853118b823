-- What the changes that prepare leave of a map.
use Rattle.std.proofs.Common.{◌≡◌, inl, inr, ℕ, suc, ◌<◌, List, ◌∷◌, ◌++◌, length, drop, ◌∙◌, subst, arith}
use Rattle.std.specs.FinMap.{get, insert}
use Rattle.bay_core.specs.Map.{Map, content}
use Rattle.bay_core.specs.Torn.{TornFile}
use Rattle.bay_core.specs.Paths.{journal_path}
use Rattle.copy_plan.specs.Plan.{PlanValue, IsPlan, list_of}
use Rattle.drive_journal.specs.declared.record.Rec.{Rec}
use Rattle.drive_journal.specs.Journal.{HoldsJournal, journal_code}
use Rattle.drive_journal.proofs.Keeping.{content_there}
use Rattle.offload_law.specs.Stages.{Offload, Stage, Begun, progress}
use Rattle.offload_law.specs.Steps.{Holds, IsFree}
use Rattle.bay_core.proofs.Maps.{insert_here, insert_other}
use Rattle.bay_core.proofs.Files.{torn_behind}
use Rattle.offload_law.proofs.Plans.{not_journal, list_free, file_free}
use Rattle.offload_law.proofs.Recorded.{recorded_same}
use Rattle.offload_law.proofs.Stages.{at_same, free_not, free_touched, rest_step}

-- the journal keeps its records and its closed gate, where a write begins behind it
behind_journal : (p : PlanValue) (at n : ℕ) (recs : List Rec) (old new : List ℕ) → HoldsJournal old p recs → TornFile at n old new → length (journal_code p recs) < at → HoldsJournal new p recs
behind_journal p at n recs old new j torn h =
    let torn2 : TornFile at n (journal_code p recs ++ j.gate ∷ j.behind) new = subst (λ (l : List ℕ). TornFile at n l new) j.is torn in
    record {
      plan = j.plan;
      records = j.records;
      gate = j.gate;
      behind = drop (suc (length (journal_code p recs))) new;
      is = torn_behind (journal_code p recs) j.gate j.behind torn2 h;
      closed = j.closed;
    }

module _ (o : Offload) (plan : IsPlan o.plan) (base : Map) where
  -- a map that differs at free paths alone
  pub free_keeps : (s : Stage) (m new : Map) → Holds o base s m → ((q : List ℕ) → (IsFree o.plan s q → ⊥) → get new q ≡ get m q) → Holds o base s new
  free_keeps s m new h e = record {
    at = at_same o s m new h.at (λ q c. e q (λ f. free_not o.plan plan s q f c));
    rest = rest_step o.plan (progress o.plan s) (progress o.plan s) h.rest (omega arith) (λ q t. e q (λ f. t (free_touched o.plan plan s q f)));
  }

  -- a journal with other bytes that hold the same
  pub journal_keeps : (m : Map) (recs : List Rec) (bytes : List ℕ) → Holds o base (Begun recs) m → HoldsJournal bytes o.plan recs → Holds o base (Begun recs) (insert m journal_path bytes)
  journal_keeps m recs bytes h holds = record {
    at = (
      record {
        bytes = bytes;
        stands = insert_here m journal_path bytes;
        holds = holds;
        recorded = recorded_same o.card m (insert m journal_path bytes) 0 o.plan.files recs h.at.0.recorded
            (λ before f after is early. insert_other m journal_path bytes f.path (not_journal f.path (file_free o.plan plan before f after is)));
      },
      insert_other m journal_path bytes (list_of o.plan) (not_journal (list_of o.plan) (list_free o.plan plan)) ∙ h.at.1,
    );
    rest = rest_step o.plan (suc (length recs)) (suc (length recs)) h.rest (omega arith) (λ q t. insert_other m journal_path bytes q (λ e. t (inr (inl (omega arith, e)))));
  }

  -- a write behind the closed gate
  pub behind_keeps : (m : Map) (recs : List Rec) (at n : ℕ) (bytes : List ℕ) → Holds o base (Begun recs) m → length (journal_code o.plan recs) < at → TornFile at n (content m journal_path) bytes → Holds o base (Begun recs) (insert m journal_path bytes)
  behind_keeps m recs at n bytes h b torn =
      let has = h.at.0 in
      let torn2 : TornFile at n has.bytes bytes = subst (λ (l : List ℕ). TornFile at n l bytes) (content_there m has.bytes has.stands) torn in
      journal_keeps m recs bytes h (behind_journal o.plan at n recs has.bytes bytes has.holds torn2 b)
