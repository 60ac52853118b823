-- A step, and the line that announces it.
use Rattle.std.proofs.Common.{◌≡◌, ℕ, ◌+◌, ◌≤◌, ◌<◌, max, Bool, true, false, List, [], ◌∷◌, ◌++◌, length, refl, ap, ◌∙◌, subst, arith, length-append}
use Rattle.std.specs.Prelude.{Some}
use Rattle.std.specs.FinMap.{get}
use Rattle.bay_core.specs.declared.event.Event.{Event}
use Rattle.bay_core.specs.Map.{Map}
use Rattle.bay_core.specs.Paths.{part_path}
use Rattle.bay_core.specs.Replay.{Drive, Output, is_on}
use Rattle.bay_core.specs.Went.{Went, Only, Called, Ran, say_call}
use Rattle.bay_core.specs.World.{World}
use Rattle.crash_law.specs.Protocol.{Settled}
use Rattle.crash_law.proofs.Worlds.{said_in, said_told}
use Rattle.copy_plan.specs.declared.file.PlannedFile.{PlannedFile}
use Rattle.drive_journal.specs.declared.record.Rec.{Rec}
use Rattle.fan_copier.specs.Copying.{NoPart}
use Rattle.fan_copier.proofs.Keeping.{same_elsewhere}
use Rattle.report_text.specs.Run.{begun_text, done_text}
use Rattle.offload_law.specs.Lines.{announces}
use Rattle.offload_law.specs.Stages.{Begun, progress}
use Rattle.offload_law.specs.Steps.{offload, IsNext}
use Rattle.offload_law.proofs.Plans.{files_short}
use Rattle.offload_law.proofs.Said.{begun_announces, done_announces}
use Rattle.recording.specs.Beginning.{Begins, Cleared}
use Rattle.recording.specs.Drives.{Copying, IsCopying, In, ToldOf}
use Rattle.recording.specs.Filing.{Records}
use Rattle.first_file.specs.Steps.{IsRecorded, Reaches, IsUnbegun, IsWaiting, BeginsAloud, RecordsAloud}
use Rattle.first_file.proofs.Telling.{since_went}

-- the greater of two
most : (a b : ℕ) → a ≤ b → max a b ≡ b
most a b low = omega (arith, low)

-- the line that was said
pub said_as : {old new : World} (line text : List ℕ) (ok : Bool) → line ≡ text → Called Output (Ran (say_call line ∷ []) ok) ok old new → Called Output (Ran (say_call text ∷ []) ok) ok old new
said_as {old} {new} line text ok is said = subst (λ (l : List ℕ). Called Output (Ran (say_call l ∷ []) ok) ok old new) is said

-- at a stage with records a line that announces just them was said, or not
said_at : (D : Copying) (d : ℕ) (line : List ℕ) (recs : List Rec) (ok : Bool) {old new : World} → Called Output (Ran (say_call line ∷ []) ok) ok old new → announces d (length D.work.plan.files) line ≡ progress D.work.plan (Begun recs)
    → (past before all : List Event) → old.events ≡ Some (past ++ before) → new.events ≡ Some (past ++ all) → In D d before (Settled (Begun recs)) → ToldOf D d before ≤ progress D.work.plan (Begun recs) → Reaches D d ok (IsRecorded D d recs) all
said_at D d line recs true said just past before all was now here low =
    let P = offload d D.work D.start in
    record {
      now = (said_in P d line true said D.start D.stage past before all was now (Settled (Begun recs)) (omega (arith, just)) here).0;
      told = said_told P d line said D.stage past before all was now ∙ most (ToldOf D d before) (announces d (length D.work.plan.files) line) (omega (arith, low, just)) ∙ just;
    }
said_at D d line recs false said just past before all was now here low =
    let P = offload d D.work D.start in
    record { state = Settled (Begun recs); is_in = (said_in P d line false said D.start D.stage past before all was now (Settled (Begun recs)) (omega (arith, just)) here).0 }

-- the records are there, at rest, and no more is announced
record IsThere (D : Copying) (d : ℕ) (recs : List Rec) (L : List Event) : Type 0 where
  now : In D d L (Settled (Begun recs))
  low : ToldOf D d L ≤ progress D.work.plan (Begun recs)

-- ---- an offload begins

module _ (d : ℕ) (journal : List ℕ) (count : ℕ) where
  pub begin_failed : {P : List Event → Type 0} {old new : World} → Went (Only (Drive d)) P old new → Begins d journal false old new → BeginsAloud d journal count false old new
  begin_failed w b = λ D is same past h.
      since_went w past (IsUnbegun D d journal) (Reaches D d false (IsRecorded D d [])) (λ before all was now at. (b.keeps D is past before all was now at.ready).0) h

  pub begin_said : (ok : Bool) {P : List Event → Type 0} {old mid new : World} → Went (Only (Drive d)) P old mid → Begins d journal true old mid → Called Output (Ran (say_call (begun_text d 0 count) ∷ []) ok) ok mid new → BeginsAloud d journal count ok old new
  begin_said ok w b said = λ D is same past h.
      let there = since_went w past (IsUnbegun D d journal) (IsThere D d []) (λ before all was now at. record {
        now = b.done refl D is past before all was now at.ready;
        low = let still = (b.keeps D is past before all was now at.ready).1 in let none = at.told in omega (arith, still, none);
      }) h in
      since_went said.went past (IsThere D d []) (Reaches D d ok (IsRecorded D d [])) (λ before all was now at.
      said_at D d (begun_text d 0 count) [] ok said (announced D is same) past before all was now at.now at.low) there
    where
      announced : (D : Copying) → IsCopying D → count ≡ length D.work.plan.files → announces d (length D.work.plan.files) (begun_text d 0 count) ≡ 1
      announced D is same = begun_announces d (length D.work.plan.files) (begun_text d 0 count) 0 count (omega arith) (files_short D.work.plan is.plan count (omega (arith, same))) refl

-- no part
pub still_none : (d : ℕ) {P Q : List Event → Type 0} {old mid new : World} → Went (Only (Drive d)) P old mid → Cleared d true old mid → Went (Only Output) Q mid new → NoPart d new
still_none d w cleared said = λ m L h.
    let b = (same_elsewhere d (λ x on. ap (is_on d) on) said).back m L h in
    let t = w.told b.0 b.1.events in
    ap (λ (n : Map). get n part_path) b.2 ∙ cleared.no_part refl m t.before b.0 t.was b.1.events

-- ---- a file is recorded

-- a record more is there, which is that of a planned file
record IsOneMore (D : Copying) (d : ℕ) (recs : List Rec) (rec : Rec) (L : List Event) : Type 0 where
  there : IsThere D d (recs ++ rec ∷ []) L
  index : rec.index ≡ length recs
  some : length recs < length D.work.plan.files

more_files : (D : Copying) (recs : List Rec) (f : PlannedFile) → IsNext D.work.plan recs f → length recs < length D.work.plan.files
more_files D recs f next =
    let all = ap (λ (l : List PlannedFile). length l) next.is ∙ length-append next.before (f ∷ next.after) in
    let at = next.place in
    omega (arith, all, at)

done_line : (d count : ℕ) (path : List ℕ) (D : Copying) → IsCopying D → count ≡ length D.work.plan.files → (recs : List Rec) (rec : Rec) → rec.index ≡ length recs → length recs < length D.work.plan.files
    → announces d (length D.work.plan.files) (done_text d (rec.index + 1) count path) ≡ progress D.work.plan (Begun (recs ++ rec ∷ []))
done_line d count path D is same recs rec index some =
    let more = length-append recs (rec ∷ []) in
    let said = done_announces d (length D.work.plan.files) (done_text d (rec.index + 1) count path) (rec.index + 1) count path (files_short D.work.plan is.plan (rec.index + 1) (omega (arith, index, some))) (files_short D.work.plan is.plan count (omega (arith, same))) refl in
    omega (arith, said, more, index)

module _ (d gate : ℕ) (path : List ℕ) (rec : Rec) (count : ℕ) where
  pub record_failed : {P : List Event → Type 0} {old new : World} → Went (Only (Drive d)) P old new → Records d gate path rec false old new → RecordsAloud d gate path rec count false old new
  record_failed w r = λ D is same recs past h.
      since_went w past (IsWaiting D d gate path recs rec) (Reaches D d false (IsRecorded D d (recs ++ rec ∷ []))) (λ before all was now at. (r.keeps D is recs past before all was now at.waits).0) h

  pub record_said : (ok : Bool) {P : List Event → Type 0} {old mid new : World} → Went (Only (Drive d)) P old mid → Records d gate path rec true old mid → Called Output (Ran (say_call (done_text d (rec.index + 1) count path) ∷ []) ok) ok mid new
      → RecordsAloud d gate path rec count ok old new
  record_said ok w r said = λ D is same recs past h.
      let there = since_went w past (IsWaiting D d gate path recs rec) (IsOneMore D d recs rec) (λ before all was now at. record {
        there = record {
          now = r.done refl D is recs past before all was now at.waits;
          low = let still = (r.keeps D is recs past before all was now at.waits).1 in let told = at.told in let more = length-append recs (rec ∷ []) in omega (arith, still, told, more);
        };
        index = at.waits.true_record.index;
        some = more_files D recs at.waits.file at.waits.next;
      }) h in
      since_went said.went past (IsOneMore D d recs rec) (Reaches D d ok (IsRecorded D d (recs ++ rec ∷ []))) (λ before all was now at.
      said_at D d (done_text d (rec.index + 1) count path) (recs ++ rec ∷ []) ok said (done_line d count path D is same recs rec at.index at.some) past before all was now at.there.now at.there.low) there
