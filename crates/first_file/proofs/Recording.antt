-- A file that was copied to a drive waits for its record.
use Rattle.std.proofs.Common.{◌≡◌, inl, inr, ℕ, ◌≤◌, Bool, true, false, List, [], ◌∷◌, ◌++◌, length, drop, refl, sym, ap, ◌∙◌, arith, append-nil}
use Rattle.std.proofs.lemmas.Result.{err_from_is_err_and}
use Rattle.std.specs.Prelude.{Some, Result, IsErrAnd, is_ok, slice_index_or}
use Rattle.std.specs.FinMap.{get}
use Rattle.bay_core.specs.declared.event.Event.{Event}
use Rattle.bay_core.specs.Map.{Map, content}
use Rattle.bay_core.specs.Paths.{part_path}
use Rattle.bay_core.specs.Replay.{Device, Drive, Clock, is_on, reads}
use Rattle.bay_core.specs.Went.{Went, Only}
use Rattle.bay_core.specs.World.{World, Attached, Honest}
use Rattle.bay_core.proofs.Honesty.{honest_before}
use Rattle.fan_copier.proofs.Keeping.{same_elsewhere}
use Rattle.first_file.specs.declared.error.FirstFileError.{FirstFileError}
use Rattle.first_file.specs.Causes.{FilesAlone, RecordsAlone}
use Rattle.crash_law.specs.Protocol.{Settled}
use Rattle.crash_law.proofs.Safe.{restarts}
use Rattle.crash_law.proofs.Staying.{moment_stays}
use Rattle.copy_law.proofs.Joining.{copy_keeps}
use Rattle.copy_plan.specs.declared.file.PlannedFile.{PlannedFile}
use Rattle.copy_plan.specs.Fields.{plan_code}
use Rattle.copy_plan.specs.Plan.{PlanValue}
use Rattle.digest_set.specs.declared.triple.Triple.{Triple}
use Rattle.digest_set.specs.Triple.{triple}
use Rattle.drive_journal.specs.declared.record.Rec.{Rec}
use Rattle.path_text.specs.Moment.{last_moment}
use Rattle.fan_copier.specs.Turning.{Touches, AreCopyCalls}
use Rattle.offload_law.specs.Stages.{Begun, card_bytes}
use Rattle.offload_law.specs.Steps.{offload}
use Rattle.recording.specs.Drives.{Copying, ToldOf, UnderWay}
use Rattle.first_file.specs.Copied.{IsCopied, just}
use Rattle.first_file.specs.Steps.{AnyCalls, Aloud, OfFile, IsRecorded, IsWaiting, IsTrue, HasFirst, Reaches, RecordsAloud, CopiesFirst}
use Rattle.first_file.proofs.Parting.{just_one}
use Rattle.first_file.proofs.Telling.{since_went, went_any, any_then}

-- the devices of a copy
copy_of_file : (s d : ℕ) (x : Device) → Touches s (just d) x → OfFile s d x
copy_of_file s d x (inl card) = inr (inl card)
copy_of_file s d x (inr (inl pick)) = inr (inr (inl pick))
copy_of_file s d x (inr (inr (e, there, drive))) = inl (inl (drive ∙ ap Drive (just_one d e there)))

pub copy_went : (s d : ℕ) {P : List Event → Type 0} {old new : World} → Went (Touches s (just d)) P old new → Went (OfFile s d) AnyCalls old new
copy_went s d w = went_any (copy_of_file s d) w

pub all_went : (s d : ℕ) {P Q : List Event → Type 0} {old mid dated new : World} → Went (Touches s (just d)) P old mid → Went (Only Clock) Q mid dated → Went (Aloud d) AnyCalls dated new → Went (OfFile s d) AnyCalls old new
all_went s d copied asked recorded = any_then (copy_went s d copied) (any_then (went_any (λ x on. inr (inr (inr on))) asked) (went_any (λ x on. inl on) recorded))

module _ (s d : ℕ) (p : PlanValue) (path : List ℕ) {old mid : World} (touches : Went (Touches s (just d)) (AreCopyCalls s path) old mid) where
  -- a drive with its records at rest is under way through a copy
  record IsUnder (D : Copying) (L : List Event) : Type 0 where
    under_way : UnderWay D d L []
    told : ToldOf D d L ≡ 1

  under : (D : Copying) (past before all : List Event) → old.events ≡ Some (past ++ before) → mid.events ≡ Some (past ++ all) → IsRecorded D d [] before → IsUnder D all
  under D past before all was now at =
      let k = (copy_keeps s (just d) path old mid touches).under_way d D [] past before all was now (record { state = Settled (Begun []); is_in = at.now; free = tt; at = refl }) in
      record { under_way = k.0; told = k.1 ∙ at.told }

  -- the copy failed
  pub copy_failed : CopiesFirst s d p false old mid
  copy_failed = λ D is same attached past true_of h.
      since_went touches past (IsRecorded D d []) (Reaches D d false (HasFirst D d)) (λ before all was now at.
      let u = under D past before all was now at in record { state = u.under_way.state; is_in = u.under_way.is_in }) h

  -- the file is in the part
  record IsHeld (D : Copying) (bytes : List ℕ) (L : List Event) : Type 0 where
    under : IsUnder D L
    part : get (reads D.start L d) part_path ≡ Some bytes

  module _ (size : ℕ) (digests : Triple) (copied : IsCopied s d path size digests old mid) where
    held : (D : Copying) (attached : Map) (past : List Event) → IsTrue D s d attached past old → (before all : List Event) → old.events ≡ Some (past ++ before) → mid.events ≡ Some (past ++ all) → IsRecorded D d [] before → IsHeld D copied.bytes all
    held D attached past true_of before all was now at =
        let honest : Honest mid d attached (past ++ all) = record {
          honest = ap (λ (a : Attached). a.honest d) touches.attached ∙ true_of.honest;
          start = ap (λ (a : Attached). a.start d) touches.attached ∙ true_of.start;
          events = now;
        } in
        let read : reads attached (past ++ all) d ≡ reads D.start all d = (restarts attached past d).read all ∙ ap (λ (m : Map). reads m all d) true_of.found in
        record { under = under D past before all was now at; part = ap (λ (m : Map). get m part_path) (sym read) ∙ copied.part attached (past ++ all) honest }

    module _ (f : PlannedFile) (rest : List PlannedFile) (first : p.files ≡ f ∷ rest) (path_is : path ≡ f.path) (size_is : size ≡ f.size) (gate : ℕ) (gate_is : gate ≡ length (plan_code p)) (seconds : ℕ) (early : seconds ≤ last_moment) where
      abbrev rec : Rec
      rec = record { index = 0; size = size; triple = digests; hashed = seconds }

      waiting : (D : Copying) → p ≡ D.work.plan → content D.work.card path ≡ copied.bytes → {Q : List Event → Type 0} {dated : World} → Went (Only Clock) Q mid dated → (past before all : List Event) → mid.events ≡ Some (past ++ before) → dated.events ≡ Some (past ++ all)
          → IsHeld D copied.bytes before → IsWaiting D d gate path [] rec all
      waiting D same card asked past before all was now at =
          let st = (moment_stays (offload d D.work D.start) d asked).stays D.start D.stage past before all was now in
          let whole : copied.bytes ≡ card_bytes D.work.card f = sym card ∙ ap (content D.work.card) path_is in
          let told : ToldOf D d all ≡ 1 = st.told ∙ at.under.told in
          record {
            waits = record {
              under_way = record { state = at.under.under_way.state; is_in = st.is_in at.under.under_way.state at.under.under_way.is_in; free = at.under.under_way.free; at = at.under.under_way.at };
              told = omega (arith, told);
              file = f;
              next = record { before = []; after = rest; is = ap (λ (q : PlanValue). q.files) (sym same) ∙ first; place = refl };
              gate_is = gate_is ∙ ap (λ (q : PlanValue). length (plan_code q)) same ∙ ap (λ (l : List ℕ). length l) (sym (append-nil (plan_code D.work.plan)));
              path_is = path_is;
              part = ap (λ (m : Map). get m part_path) st.read ∙ at.part ∙ ap Some whole;
              sized = size_is;
              true_record = record {
                index = refl;
                size = sym copied.sized ∙ ap (λ (l : List ℕ). length l) whole;
                digests = copied.digests_are ∙ ap triple whole;
                hashed = early;
              };
            };
            told = told;
          }

      reached : (D : Copying) (ok : Bool) (L : List Event) → Reaches D d ok (IsRecorded D d (rec ∷ [])) L → Reaches D d ok (HasFirst D d) L
      reached D true L at = record { rec = rec; recorded = at }
      reached D false L at = at

      -- the file was recorded, or a call of that failed
      pub copy_recorded : (count : ℕ) → count ≡ length p.files → (ok : Bool) {Q : List Event → Type 0} {dated new : World} → Went (Only Clock) Q mid dated → RecordsAloud d gate path rec count ok dated new → CopiesFirst s d p ok old new
      copy_recorded count counted ok asked records = λ D is same attached past true_of h.
          let there = since_went touches past (IsRecorded D d []) (IsHeld D copied.bytes) (held D attached past true_of) h in
          let ready = since_went asked past (IsHeld D copied.bytes) (IsWaiting D d gate path [] rec) (waiting D same (copied.card D.work.card true_of.steady) asked past) there in
          let done = records D is (counted ∙ ap (λ (q : PlanValue). length q.files) same) [] past ready in
          record { calls = λ all now. let c = done.calls all now in (c.0, c.1, reached D ok c.0 c.2) }

-- on an honest drive that has the copied bytes, the recording ends by a call alone
pub copy_alone : (s d : ℕ) (p : PlanValue) (path : List ℕ) (size : ℕ) (digests : Triple) (seconds : ℕ) {P Q : List Event → Type 0} {old mid dated new : World} (result : Result Unit FirstFileError) → IsCopied s d path size digests old mid → Went (Only Clock) P mid dated → Went (Aloud d) Q dated new
    → RecordsAlone d (record { index = 0; size = size; triple = digests; hashed = seconds }) result dated new → FilesAlone s d p result old new
copy_alone s d p path size digests seconds result copied asked recorded alone = λ m card all honest steady on.
    let b = honest_before d m all recorded honest in
    let c = (same_elsewhere d (λ x on. ap (is_on d) on) asked).back m b.0 b.1 in
    alone m b.0 all b.1 honest.events (copied.bytes, ap (λ (x : Map). get x part_path) c.2 ∙ copied.part m c.0 c.1, copied.sized, sym copied.digests_are)

-- the first of a plan's files
pub first_of : (files : List PlannedFile) (f : PlannedFile) → 1 ≤ length files → f ≡ slice_index_or files 0 f → files ≡ f ∷ drop 1 files
first_of [] f some is = absurd (omega (arith, some))
first_of (x ∷ files) f some is = ap (λ (y : PlannedFile). y ∷ files) (sym is)

-- an error is no Ok
pub not_ok : {T E : Type 0} (Q : E → Type 0) (r : Result T E) → IsErrAnd r Q → is_ok r ≡ false
not_ok Q r is = ap is_ok (err_from_is_err_and r is).1
