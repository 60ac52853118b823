-- What the changes that commit make of a map.
use Rattle.std.proofs.Common.{◌≡◌, ◌≢◌, ◌⊎◌, inl, inr, ℕ, suc, ◌+◌, ◌≤◌, List, [], ◌∷◌, ◌++◌, length, Some, None, sym, ap, ◌∙◌, subst, arith}
use Rattle.std.proofs.lemmas.List.{length_push}
use Rattle.std.proofs.lemmas.Bool.{cases_eq}
use Rattle.std.specs.FinMap.{get, insert}
use Rattle.bay_core.specs.Map.{Map, content}
use Rattle.bay_core.specs.Paths.{journal_path, new_path}
use Rattle.path_text.specs.Moment.{last_moment}
use Rattle.copy_plan.specs.declared.file.PlannedFile.{PlannedFile}
use Rattle.copy_plan.specs.Plan.{IsPlan, list_of}
use Rattle.drive_journal.specs.declared.record.Rec.{Rec}
use Rattle.drive_journal.specs.Record.{record_code}
use Rattle.drive_journal.specs.Journal.{journal_code}
use Rattle.drive_journal.proofs.Keeping.{content_there}
use Rattle.offload_law.specs.Sealing.{plan_list_text}
use Rattle.offload_law.specs.Stages.{Offload, Fresh, Begun, Sealed, AreRecorded, card_bytes, IsTrueRecord}
use Rattle.offload_law.specs.Steps.{Holds, IsDrafted, IsStaged}
use Rattle.bay_core.proofs.Maps.{insert_here, insert_other}
use Rattle.bay_core.proofs.Changes.{Renamed}
use Rattle.offload_law.proofs.Plans.{journal_not_new, not_journal, not_new, list_free, file_free, file_clear}
use Rattle.offload_law.proofs.Recorded.{journal_records, journal_push, recorded_none, recorded_same, recorded_push}
use Rattle.offload_law.proofs.Stages.{records_same, rest_step}
use Rattle.offload_law.proofs.Prepared.{journal_keeps}

module _ (o : Offload) (plan : IsPlan o.plan) (base : Map) where
  pub published : (m new : Map) → Renamed m new new_path journal_path → (drafted : IsDrafted o.plan m) → get m (list_of o.plan) ≡ None → Holds o base Fresh m → Holds o base (Begun []) new
  published m new to drafted no_list h = record {
    at = (
      record {
        bytes = drafted.bytes;
        stands = to.here drafted.bytes drafted.stands;
        holds = drafted.holds;
        recorded = recorded_none o.card new 0 o.plan.files;
      },
      to.other (list_of o.plan) (not_new (list_of o.plan) (list_free o.plan plan)) (not_journal (list_of o.plan) (list_free o.plan plan)) ∙ no_list,
    );
    rest = rest_step o.plan 0 1 h.rest (omega arith) (λ q t. to.other q (λ e. t (inl (inl e))) (λ e. t (inr (inl (omega arith, e)))));
  }

  module _ (m : Map) (recs : List Rec) (rec : Rec) (staged : IsStaged o m recs rec) (true_one : IsTrueRecord (length recs) (card_bytes o.card staged.file) rec)
      (whole : get m staged.file.path ≡ Some (card_bytes o.card staged.file)) (closed : staged.next_gate ≢ 1) (h : Holds o base (Begun recs) m) where
    abbrev with_gate : ℕ → List ℕ
    with_gate byte = journal_code o.plan recs ++ byte ∷ (record_code rec ++ staged.next_gate ∷ staged.rest)

    -- the files recorded so far and the next one, beside a journal with these bytes
    recorded_all : (bytes : List ℕ) → AreRecorded o.card (insert m journal_path bytes) 0 o.plan.files (recs ++ rec ∷ [])
    recorded_all bytes =
        let next = staged.next in
        let file = staged.file in
        let stays : (before : List PlannedFile) (f : PlannedFile) (after : List PlannedFile) → o.plan.files ≡ before ++ f ∷ after → get (insert m journal_path bytes) f.path ≡ get m f.path =
        λ before f after is. insert_other m journal_path bytes f.path (not_journal f.path (file_free o.plan plan before f after is)) in
        let so_far = recorded_same o.card m (insert m journal_path bytes) 0 o.plan.files recs h.at.0.recorded (λ before f after is early. stays before f after is) in
        let numbered : length recs ≡ 0 + length recs = omega arith in
        subst (λ (l : List PlannedFile). AreRecorded o.card (insert m journal_path bytes) 0 l (recs ++ rec ∷ [])) (sym next.is)
        (recorded_push o.card (insert m journal_path bytes) 0 recs next.before file next.after rec
        (subst (λ (l : List PlannedFile). AreRecorded o.card (insert m journal_path bytes) 0 l recs) next.is so_far) next.place
        (subst (λ (k : ℕ). IsTrueRecord k (card_bytes o.card file) rec) numbered true_one)
        (stays next.before file next.after next.is ∙ whole))

    -- an open gate over the record
    pub gate_open : (bytes : List ℕ) → bytes ≡ with_gate 1 → Holds o base (Begun (recs ++ rec ∷ [])) (insert m journal_path bytes)
    gate_open bytes is = record {
      at = (
        record {
          bytes = bytes;
          stands = insert_here m journal_path bytes;
          holds = record {
            plan = plan;
            records = journal_records o.plan plan recs staged.file rec (card_bytes o.card staged.file) h.at.0.holds.records staged.next staged.sized true_one;
            gate = staged.next_gate;
            behind = staged.rest;
            is = is ∙ sym (journal_push o.plan recs rec (staged.next_gate ∷ staged.rest));
            closed = closed;
          };
          recorded = recorded_all bytes;
        },
        insert_other m journal_path bytes (list_of o.plan) (not_journal (list_of o.plan) (list_free o.plan plan)) ∙ h.at.1,
      );
      rest = rest_step o.plan (suc (length recs)) (suc (length (recs ++ rec ∷ []))) h.rest (omega (arith, length_push recs rec)) (λ q t. insert_other m journal_path bytes q (λ e. t (inr (inl (omega arith, e)))));
    }

    -- a closed one
    gate_shut : (byte : ℕ) (bytes : List ℕ) → byte ≢ 1 → bytes ≡ with_gate byte → Holds o base (Begun recs) (insert m journal_path bytes)
    gate_shut byte bytes shut is = journal_keeps o plan base m recs bytes h (record { plan = plan; records = h.at.0.holds.records; gate = byte; behind = record_code rec ++ staged.next_gate ∷ staged.rest; is = is; closed = shut })

    pub gate_written : (byte : ℕ) (bytes : List ℕ) → bytes ≡ with_gate byte → Holds o base (Begun recs) (insert m journal_path bytes) ⊎ Holds o base (Begun (recs ++ rec ∷ [])) (insert m journal_path bytes)
    gate_written byte bytes is = elim (cases_eq byte 1) [ inl one ↦ inr (gate_open bytes (is ∙ ap with_gate one)) | inr shut ↦ inl (gate_shut byte bytes shut is) ]

    pub journal_is : content m journal_path ≡ with_gate staged.gate
    journal_is = content_there m (with_gate staged.gate) staged.stands

  pub sealed : (m new : Map) → Renamed m new new_path (list_of o.plan) → (recs : List Rec) (finish : ℕ) → length recs ≡ length o.plan.files → get m new_path ≡ Some (plan_list_text o.plan recs finish) → finish ≤ last_moment → Holds o base (Begun recs) m → Holds o base (Sealed recs finish) new
  sealed m new to recs finish full text early h = record {
    at = (
      records_same h.at.0
          (to.other journal_path journal_not_new (λ e. not_journal (list_of o.plan) (list_free o.plan plan) (sym e)))
          (λ q b.
          to.other q (λ e. not_new b.file.path (file_free o.plan plan b.before b.file b.after b.is) (sym b.path ∙ e)) (λ e. (file_clear o.plan plan b.before b.file b.after b.is).differs (sym b.path ∙ e))),
      full,
      to.here (plan_list_text o.plan recs finish) text,
      early,
    );
    rest = rest_step o.plan (suc (length recs)) (suc (suc (length o.plan.files))) h.rest (omega (arith, full)) (λ q t. to.other q (λ e. t (inl (inl e))) (λ e. t (inr (inr (inr (omega arith, e))))));
  }
