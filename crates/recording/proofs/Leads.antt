-- Where the calls of each step lead a drive.
use Rattle.std.proofs.Common.{◌≡◌, ◌≢◌, inl, inr, ℕ, suc, ◌+◌, ◌≤◌, true, false, List, [], ◌∷◌, ◌++◌, length, drop, Option, Some, None, refl, sym, ap, ◌∙◌, subst, arith, append-nil, length-append, zero-le}
use Rattle.std.specs.Prelude.{unwrap_or, is_some}
use Rattle.std.specs.FinMap.{get, insert}
use Rattle.std.proofs.lemmas.List.{drop_all}
use Rattle.bay_core.specs.declared.event.Event.TheVariants.{Write, Sync}
use Rattle.bay_core.specs.Map.{Map, content, overwritten}
use Rattle.bay_core.specs.Paths.{journal_path, new_path, part_path}
use Rattle.bay_core.specs.Replay.{Drive, replayed}
use Rattle.bay_core.specs.Went.{AllOn, Only}
use Rattle.bay_core.proofs.Maps.{insert_here, insert_other}
use Rattle.crash_law.specs.Protocol.{State, Settled, Preparing, Committing, reached, MayPrepare, prepares, flushes, commits, Leads, read_after}
use Rattle.crash_law.proofs.Calls.{AreCalls, all_ok, on_read}
use Rattle.copy_plan.specs.declared.file.PlannedFile.{PlannedFile}
use Rattle.copy_plan.specs.Fields.{plan_code}
use Rattle.copy_plan.specs.Plan.{IsPlan, list_of}
use Rattle.drive_journal.specs.declared.record.Rec.{Rec}
use Rattle.drive_journal.specs.Calls.{publish_calls, place_calls, open_calls, tidy_calls}
use Rattle.drive_journal.specs.Journal.{journal_code}
use Rattle.drive_journal.specs.Record.{closed_record}
use Rattle.drive_journal.proofs.Entries.{records_none}
use Rattle.drive_journal.proofs.Placing.{placed}
use Rattle.drive_journal.proofs.Records.{length-record}
use Rattle.offload_law.specs.Stages.{Offload, Stage, Fresh, Begun, HasRecords, IsTrueRecord, card_bytes, progress}
use Rattle.offload_law.specs.Steps.{IsNext, IsFree, IsDrafted, IsStaged, publishes, opens, offload}
use Rattle.offload_law.proofs.Plans.{not_journal, not_scratch, not_new, list_free, file_free, file_plannable}
use Rattle.offload_law.proofs.Recorded.{true_record}

-- the two scratch files are two
pub new_not_part : new_path ≢ part_path
new_not_part is = let long = ap (λ (l : List ℕ). length l) is in absurd (omega (arith, long))

pub begin_are : (d : ℕ) (bytes : List ℕ) → AreCalls (tidy_calls d None false ++ publish_calls d journal_path bytes)
begin_are d bytes = (refl, (refl, (refl, (refl, (refl, (refl, tt))))))

pub record_are : (d gate : ℕ) (path piece : List ℕ) → AreCalls (place_calls d gate path piece ++ open_calls d gate)
record_are d gate path piece = (refl, (refl, (refl, (refl, (refl, tt)))))

pub tidy_on : (d : ℕ) → AllOn (Only (Drive d)) (all_ok (tidy_calls d None false))
unfolding AllOn
tidy_on d = (refl, (refl, tt))

pub place_on : (d gate : ℕ) (path piece : List ℕ) → AllOn (Only (Drive d)) (all_ok (place_calls d gate path piece))
unfolding AllOn
place_on d gate path piece = (refl, (refl, (refl, tt)))

-- over an absent file a piece at its start is the file
written_whole : (old bytes : List ℕ) → old ≡ [] → overwritten old 0 bytes ≡ bytes
written_whole old bytes e =
    ap (λ (l : List ℕ). overwritten l 0 bytes) e ∙ ap (λ (l : List ℕ). bytes ++ l) (drop_all (0 + length bytes) [] zero-le) ∙ append-nil bytes

-- a file that waits for its name is whole once it is settled
module _ (d : ℕ) (m : Map) (bytes : List ℕ) (no_new : get m new_path ≡ None) where
  abbrev waiting : Map
  waiting = read_after d (read_after d m (Write d new_path 0 bytes true)) (Sync d true)

  waiting_is : waiting ≡ insert m new_path (overwritten (content m new_path) 0 bytes)
  waiting_is = on_read d (read_after d m (Write d new_path 0 bytes true)) (Sync d true) refl ∙ on_read d m (Write d new_path 0 bytes true) refl

  waits : get waiting new_path ≡ Some bytes
  waits =
      ap (λ (n : Map). get n new_path) waiting_is
      ∙ insert_here m new_path (overwritten (content m new_path) 0 bytes)
      ∙ ap Some (written_whole (content m new_path) bytes (ap (λ (o : Option (List ℕ)). unwrap_or o []) no_new))

  waits_alone : (q : List ℕ) → q ≢ new_path → get waiting q ≡ get m q
  waits_alone q differ = ap (λ (n : Map). get n q) waiting_is ∙ insert_other m new_path (overwritten (content m new_path) 0 bytes) q differ

module _ (d : ℕ) (o : Offload) (plan : IsPlan o.plan) (base : Map) (told : ℕ) where
  -- the scratch files are removed
  pub tidy_leads : (m : Map) (x : State (offload d o base)) → MayPrepare x → reached x ≡ Fresh → Leads (offload d o base) d told m x (all_ok (tidy_calls d None false)) (Preparing Fresh)
  tidy_leads m x may at =
      subst (λ (r : Stage). Leads (offload d o base) d told m x (all_ok (tidy_calls d None false)) (Preparing r)) at (
        Preparing (reached x),
        prepares refl may (subst (λ (r : Stage). IsFree o.plan r new_path) (sym at) (inl refl)),
        (Preparing (reached x), prepares refl tt (subst (λ (r : Stage). IsFree o.plan r part_path) (sym at) (inr refl)), refl),
      )

  -- the journal is published
  pub publish_leads : (m : Map) → get m new_path ≡ None → get m (list_of o.plan) ≡ None →
      Leads (offload d o base) d told m (Preparing Fresh) (all_ok (publish_calls d journal_path (plan_code o.plan ++ 0 ∷ []))) (Settled (Begun []))
  publish_leads m no_new no_list = (
    Preparing Fresh,
    prepares refl tt (inl (inl refl)),
    (
      Settled Fresh,
      flushes,
      (
        Committing Fresh (Begun []) true,
        commits refl zero-le (publishes drafted),
        (Settled (Begun []), flushes, refl),
      ),
    ),
  )
    where
      bytes : List ℕ
      bytes = plan_code o.plan ++ 0 ∷ []

      drafted : IsDrafted o.plan (waiting d m bytes no_new)
      drafted = record {
        bytes = bytes;
        stands = waits d m bytes no_new;
        holds = record {
          plan = plan;
          records = records_none o.plan.files;
          gate = 0;
          behind = [];
          is = ap (λ (l : List ℕ). l ++ 0 ∷ []) (sym (append-nil (plan_code o.plan)));
          closed = λ e. absurd (omega arith);
        };
        no_list = waits_alone d m bytes no_new (list_of o.plan) (not_new (list_of o.plan) (list_free o.plan plan)) ∙ no_list;
      }

  module _ (recs : List Rec) (rec : Rec) (file : PlannedFile) (next : IsNext o.plan recs file) where
    -- the file gets its path, and its record stands behind the gate
    pub place_leads : (m : Map) → Leads (offload d o base) d told m (Settled (Begun recs)) (all_ok (place_calls d (length (journal_code o.plan recs)) file.path (closed_record rec))) (Settled (Begun recs))
    place_leads m = (
      Preparing (Begun recs),
      prepares refl tt (inl (inr refl), inr (file, next, refl)),
      (
        Preparing (Begun recs),
        prepares refl tt (inr (refl, omega arith)),
        (Settled (Begun recs), flushes, refl),
      ),
    )

    -- what is read then
    pub staged : (m : Map) → HasRecords o m recs → get m part_path ≡ Some (card_bytes o.card file) → rec.size ≡ file.size → IsTrueRecord (length recs) (card_bytes o.card file) rec →
        IsStaged o (replayed m (all_ok (place_calls d (length (journal_code o.plan recs)) file.path (closed_record rec)))) recs rec
    staged m has part sized is_true =
        let free = file_free o.plan plan next.before file next.after next.is in
        let place = next.place in
        let few = plan.inventory.few in
        let long : length o.plan.files ≡ length next.before + suc (length next.after) = ap length next.is ∙ length-append next.before (file ∷ next.after) in
        let one = true_record (length recs) (card_bytes o.card file) file rec is_true (omega (arith, place, few, long)) (file_plannable o.plan plan next.before file next.after next.is).small sized in
        let there = placed (length (journal_code o.plan recs)) file.path rec (not_journal file.path free) (λ e. not_scratch file.path free (inr e)) (length-record rec one.shape)
        m (replayed m (all_ok (place_calls d (length (journal_code o.plan recs)) file.path (closed_record rec)))) (ap is_some part) refl in
        record {
          file = file;
          next = next;
          gate = has.holds.gate;
          next_gate = 0;
          rest = drop 65 has.holds.behind;
          stands = there.journal (journal_code o.plan recs) has.holds.gate has.holds.behind (has.stands ∙ ap Some has.holds.is) refl;
          closed = λ e. absurd (omega arith);
          sized = sized;
          true_record = is_true;
          whole = there.file ∙ part;
        }

    -- the gate is opened
    pub open_leads : (m : Map) → progress o.plan (Begun recs) ≤ told → IsStaged o m recs rec → Leads (offload d o base) d told m (Settled (Begun recs)) (all_ok (open_calls d (length (journal_code o.plan recs)))) (Settled (Begun (recs ++ rec ∷ [])))
    open_leads m owed is_staged = (
      Committing (Begun recs) (Begun (recs ++ rec ∷ [])) true,
      commits refl owed (opens is_staged),
      (Settled (Begun (recs ++ rec ∷ [])), flushes, refl),
    )
