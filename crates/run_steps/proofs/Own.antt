-- An act on the drive itself.
use Rattle.std.proofs.Common.{◌≡◌, inl, inr, ℕ, suc, ◌+◌, ◌<◌, ◌≤◌, Bool, true, false, List, [], ◌∷◌, ◌++◌, length, refl, sym, ap, ◌∙◌, subst, arith, length-append}
use Rattle.std.specs.Prelude.{Option, Some, IfSome, option_map, Result, Ok, Err, is_ok}
use Rattle.std.specs.List.{slice_get}
use Rattle.std.specs.FinMap.{get}
use Rattle.bay_core.specs.declared.event.Event.{Event}
use Rattle.bay_core.specs.Map.{Map}
use Rattle.bay_core.specs.Paths.{new_path, part_path}
use Rattle.bay_core.specs.Replay.{Drive, reads}
use Rattle.bay_core.specs.Went.{Went, Only}
use Rattle.bay_core.specs.World.{World, Honest}
use Rattle.crash_law.specs.Protocol.{Settled}
use Rattle.crash_law.proofs.Safe.{restarts}
use Rattle.copy_plan.specs.declared.file.PlannedFile.{PlannedFile}
use Rattle.copy_plan.specs.Plan.{PlanValue, list_of}
use Rattle.digest_set.specs.Triple.{triple}
use Rattle.drive_journal.specs.declared.record.Gate.{Gate}
use Rattle.drive_journal.specs.declared.record.Rec.{Rec}
use Rattle.drive_journal.specs.Journal.{AreRecords}
use Rattle.drive_journal.specs.Look.{next_gate}
use Rattle.drive_journal.proofs.Bounds.{gate_behind}
use Rattle.drive_journal.proofs.Entries.{records_few}
use Rattle.fan_copier.specs.Copying.{PartIs}
use Rattle.offload_law.specs.Lines.{announces}
use Rattle.offload_law.specs.Sealing.{plan_list_text}
use Rattle.offload_law.specs.Stages.{Stage, Begun as BegunStage, card_bytes, progress}
use Rattle.offload_law.specs.Steps.{IsNext}
use Rattle.offload_law.proofs.Plans.{files_short}
use Rattle.offload_law.proofs.Said.{begun_announces, done_announces, sealed_announces}
use Rattle.path_text.specs.Moment.{last_moment}
use Rattle.read_back.specs.declared.back.ReadBackError.{ReadBackError}
use Rattle.recording.specs.Drives.{Copying, IsCopying, In, Keeps, UnderWay}
use Rattle.recording.specs.Filing.{Records as RecordsSafely, Waits}
use Rattle.report_text.specs.Run.{begun_text, done_text, sealed_text}
use Rattle.seal_step.specs.declared.error.SealError.{SealError}
use Rattle.seal_step.specs.Sealing.{Seals as SealsSafely, ReadyToSeal}
use Rattle.run_state.specs.Acts.{Says, BeginTried, begin_line, next_path, record_line, seal_line}
use Rattle.run_state.specs.State.{Ordered, DriveAt, Gone, Fresh, Begun, Sealed}
use Rattle.run_steps.specs.Parts.{NoNew}
use Rattle.run_steps.specs.Stands.{Since, IsFresh, HasSaid, IsSealed}
use Rattle.run_steps.proofs.Telling.{later_went, since_later, since_more}
use Rattle.run_steps.proofs.Drives.{some_or_none, next_file}
use Rattle.run_steps.proofs.Lines.{fault_none, record_lost, seal_lost}
use Rattle.run_steps.proofs.Standing.{Knows, knows_lost, knows_recs, knows_sealed, under_keeps}

-- an offload by the run's plan
abbrev pub offload_of : Ordered → Map → Map → Stage → Copying
offload_of o card start stage = record { work = record { plan = o.plan; card = card }; start = start; stage = stage }

-- the path of a file, if there is one, is that of the next file
abbrev NextIs : PlanValue → List Rec → Option PlannedFile → Type 0
NextIs p recs file = IfSome (option_map (λ (f : PlannedFile). f.path) file) (λ path. (f : PlannedFile) × IsNext p recs f × (path ≡ f.path))

module _ (o : Ordered) (card start : Map) (stage : Stage) (ok : IsCopying (offload_of o card start stage)) (d : ℕ) (past : List Event) where
  abbrev pub D : Copying
  D = offload_of o card start stage

  abbrev n : ℕ
  n = length o.plan.files

  -- ---- the drive is begun, or goes on

  begun_line : (records : ℕ) → records ≤ n → announces d n (begun_text d records n) ≡ suc records
  begun_line records few = begun_announces d n (begun_text d records n) records n (files_short o.plan ok.plan records few) (files_short o.plan ok.plan n (omega arith)) refl

  abbrev pub now_at : Bool → DriveAt → DriveAt
  now_at true x = x
  now_at false x = Gone

  pub fresh_knows : (went : Bool) {old mid new : World} → BeginTried o.plan d Fresh went old mid → (said : Bool) → Says (begin_line d 0 n went) said mid new → Since past (IsFresh D d) old → Knows D d past said (now_at went (Begun [] (next_gate o.plan 0) false)) new
  fresh_knows true tried said says h =
      knows_recs D d past (begun_text d 0 n) [] (begun_line 0 (omega arith)) (next_gate o.plan 0) false said says
      (since_later (later_went tried.0.went) past (IsFresh D d) (λ L. UnderWay D d L []) (λ before all was now is. record {
        state = Settled (BegunStage []);
        is_in = tried.1.done refl D ok past before all was now (record { fresh = is.now; no_list = is.no_list; journal_is = refl });
        free = tt;
        at = refl;
      }) h)
  fresh_knows false tried said says h =
      knows_lost D d past _ said says (fault_none d n d)
      (since_later (later_went tried.0.went) past (IsFresh D d) (Keeps D d) (λ before all was now is. (tried.1.keeps D ok past before all was now (record { fresh = is.now; no_list = is.no_list; journal_is = refl })).0) h)

  -- the path that is removed is that of the next file
  next_is : (recs : List Rec) → IfSome (next_path o.plan recs) (λ path. (f : PlannedFile) × IsNext o.plan recs f × (path ≡ f.path))
  next_is recs = elim (some_or_none (slice_get o.plan.files (length recs))) [
    | inl found ↦ subst (NextIs o.plan recs) (sym found.1) (found.0, next_file o.plan recs found.0 found.1, refl)
    | inr none ↦ subst (NextIs o.plan recs) (sym none) tt
  ]

  rejoined : (recs : List Rec) (gate : Gate) (kept went : Bool) {old mid : World} → BeginTried o.plan d (Begun recs gate kept) went old mid → Since past (λ L. In D d L (Settled (BegunStage recs))) old → Since past (λ L. UnderWay D d L recs) mid
  rejoined recs gate kept went tried h =
      since_later (later_went tried.0.went) past (λ L. In D d L (Settled (BegunStage recs))) (λ L. UnderWay D d L recs) (λ before all was now is. (tried.1.keeps D ok recs past before all was now (record { now = is; next_path = next_is recs })).0) h

  pub begun_knows : (recs : List Rec) (gate : Gate) (kept went : Bool) {old mid new : World} → length recs ≤ n → BeginTried o.plan d (Begun recs gate kept) went old mid → (said : Bool) → Says (begin_line d (length recs) n went) said mid new → Since past (λ L. In D d L (Settled (BegunStage recs))) old
      → Knows D d past said (now_at went (Begun recs gate kept)) new
  begun_knows recs gate kept true few tried said says h = knows_recs D d past (begun_text d (length recs) n) recs (begun_line (length recs) few) gate kept said says (rejoined recs gate kept true tried h)
  begun_knows recs gate kept false few tried said says h = knows_lost D d past _ said says (fault_none d n d) (under_keeps D d past recs (rejoined recs gate kept false tried h))

  -- ---- a file is recorded

  -- it waits for that
  module _ (attached : Map) (found : reads attached past d ≡ start) (w : World) (honest : w.attached.honest d ≡ true) (began : w.attached.start d ≡ Some attached) where
    honest_here : (L : List Event) → w.events ≡ Some (past ++ L) → Honest w d attached (past ++ L)
    honest_here L now = record { honest = honest; start = began; events = now }

    read_here : (L : List Event) → reads attached (past ++ L) d ≡ reads start L d
    read_here L = (restarts attached past d).read L ∙ ap (λ (m : Map). reads m L d) found

    pub waits : (recs : List Rec) (gate : Gate) (rec : Rec) (file : PlannedFile) (bytes : List ℕ) → AreRecords 0 o.plan.files recs → gate ≡ next_gate o.plan (length recs) → rec.index ≡ length recs → slice_get o.plan.files rec.index ≡ Some file → rec.size ≡ file.size → length bytes ≡ file.size → rec.triple ≡ triple bytes
        → rec.hashed ≤ last_moment → bytes ≡ card_bytes card file → PartIs d w bytes → Since past (HasSaid D d recs) w → Since past (λ L. Waits D d L recs gate.at file.path rec) w
    waits recs gate rec file bytes are gate_is index is_file sized long digests early whole part h =
        since_more past (HasSaid D d recs) (λ L. Waits D d L recs gate.at file.path rec) (λ L now is. record {
          under_way = is.under_way;
          told = is.told;
          file = file;
          next = next_file o.plan recs file (ap (slice_get o.plan.files) (sym index) ∙ is_file);
          gate_is = ap (λ (g : Gate). g.at) gate_is ∙ sym (gate_behind o.plan recs are);
          path_is = refl;
          part = ap (λ (m : Map). get m part_path) (sym (read_here L)) ∙ part attached (past ++ L) (honest_here L now) ∙ ap Some whole;
          sized = sized;
          true_record = record {
            index = index;
            size = sized ∙ sym long ∙ ap (λ (l : List ℕ). length l) whole;
            digests = digests ∙ ap triple whole;
            hashed = early;
          };
        }) h

    -- ---- the drive is sealed

    pub ready : (recs : List Rec) (finish : ℕ) → length recs ≡ n → finish ≤ last_moment → NoNew d w → Since past (HasSaid D d recs) w → Since past (λ L. ReadyToSeal D d L recs finish (list_of o.plan) (plan_list_text o.plan recs finish)) w
    ready recs finish full early none h =
        since_more past (HasSaid D d recs) (λ L. ReadyToSeal D d L recs finish (list_of o.plan) (plan_list_text o.plan recs finish)) (λ L now is. record {
          under_way = is.under_way;
          told = is.told;
          full = full;
          no_scratch = ap (λ (m : Map). get m new_path) (sym (read_here L)) ∙ none attached (past ++ L) (honest_here L now);
          list_is = refl;
          text_is = refl;
          moment = early;
        }) h

  abbrev pub recorded_at : List Rec → Rec → Result Gate ReadBackError → DriveAt
  recorded_at recs rec (Ok next) = Begun (recs ++ rec ∷ []) next false
  recorded_at recs rec (Err x) = Gone

  done_line : (recs : List Rec) (rec : Rec) (path : List ℕ) → rec.index ≡ length recs → length recs < n → announces d n (done_text d (rec.index + 1) n path) ≡ progress o.plan (BegunStage (recs ++ rec ∷ []))
  done_line recs rec path index some =
      let more = length-append recs (rec ∷ []) in
      let said = done_announces d n (done_text d (rec.index + 1) n path) (rec.index + 1) n path (files_short o.plan ok.plan (rec.index + 1) (omega (arith, index, some))) (files_short o.plan ok.plan n (omega arith)) refl in
      omega (arith, said, more, index)

  pub record_knows : (recs : List Rec) (gate : Gate) (path : List ℕ) (rec : Rec) (came : Result Gate ReadBackError) {P : List Event → Type 0} {old mid new : World} → rec.index ≡ length recs → length recs < n → Went (Only (Drive d)) P old mid → RecordsSafely d gate.at path rec (is_ok came) old mid → (said : Bool)
      → Says (record_line d n path rec came) said mid new → Since past (λ L. Waits D d L recs gate.at path rec) old → Knows D d past said (recorded_at recs rec came) new
  record_knows recs gate path rec (Ok next) index some went r said says h =
      knows_recs D d past (done_text d (rec.index + 1) n path) (recs ++ rec ∷ []) (done_line recs rec path index some) next false said says
      (since_later (later_went went) past (λ L. Waits D d L recs gate.at path rec) (λ L. UnderWay D d L (recs ++ rec ∷ [])) (λ before all was now is. record {
        state = Settled (BegunStage (recs ++ rec ∷ []));
        is_in = r.done refl D ok recs past before all was now is;
        free = tt;
        at = refl;
      }) h)
  record_knows recs gate path rec (Err x) index some went r said says h =
      knows_lost D d past _ said says (record_lost d n d n path rec x)
      (since_later (later_went went) past (λ L. Waits D d L recs gate.at path rec) (Keeps D d) (λ before all was now is. (r.keeps D ok recs past before all was now is).0) h)

  abbrev pub sealed_at : Result Unit SealError → DriveAt
  sealed_at (Ok done) = Sealed
  sealed_at (Err x) = Gone

  sealed_line : announces d n (sealed_text d n (list_of o.plan)) ≡ suc (suc n)
  sealed_line = sealed_announces d n (sealed_text d n (list_of o.plan)) n (list_of o.plan) (files_short o.plan ok.plan n (omega arith)) refl

  pub seal_knows : (recs : List Rec) (finish : ℕ) (came : Result Unit SealError) {P : List Event → Type 0} {old mid new : World} → Went (Only (Drive d)) P old mid → SealsSafely d (list_of o.plan) (plan_list_text o.plan recs finish) (is_ok came) old mid → (said : Bool)
      → Says (seal_line d o.plan came) said mid new → Since past (λ L. ReadyToSeal D d L recs finish (list_of o.plan) (plan_list_text o.plan recs finish)) old → Knows D d past said (sealed_at came) new
  seal_knows recs finish (Ok done) went s said says h =
      knows_sealed D d past (sealed_text d n (list_of o.plan)) recs sealed_line said says
      (since_later (later_went went) past (λ L. ReadyToSeal D d L recs finish (list_of o.plan) (plan_list_text o.plan recs finish)) (IsSealed D d recs) (λ before all was now is. record {
        finish = finish;
        now = s.done refl D ok recs finish past before all was now is;
      }) h)
  seal_knows recs finish (Err x) went s said says h =
      knows_lost D d past _ said says (seal_lost d n d o.plan x)
      (since_later (later_went went) past (λ L. ReadyToSeal D d L recs finish (list_of o.plan) (plan_list_text o.plan recs finish)) (Keeps D d) (λ before all was now is. (s.keeps D ok recs finish past before all was now is).0) h)

  pub found_knows : (recs : List Rec) (said : Bool) {old new : World} → Says (sealed_text d n (list_of o.plan)) said old new → Since past (IsSealed D d recs) old → Knows D d past said Sealed new
  found_knows recs said says h = knows_sealed D d past (sealed_text d n (list_of o.plan)) recs sealed_line said says h

-- the records of a plan's files are not more than the files
pub few_records : (o : Ordered) (recs : List Rec) → AreRecords 0 o.plan.files recs → length recs ≤ length o.plan.files
few_records o recs are = records_few 0 o.plan.files recs are
