-- What a turn of a run came to.
use Rattle.std.proofs.Common.{◌≡◌, inl, inr, ℕ, Bool, true, false, List, [], ◌∷◌, ◌++◌, length, refl, sym, ap, ◌∙◌, subst, append_assoc}
use Rattle.std.specs.Prelude.{Option, Some, None, Result, Ok, Err, codes, is_some, option_map}
use Rattle.std.specs.FinMap.{get}
use Rattle.bay_core.specs.declared.event.Event.{Event}
use Rattle.bay_core.specs.declared.event.Event.TheVariants.{Moment}
use Rattle.bay_core.specs.Map.{Map}
use Rattle.bay_core.specs.Paths.{new_path, part_path}
use Rattle.bay_core.specs.Replay.{Device, Source, Drive, Output, Clock, is_on}
use Rattle.bay_core.specs.World.{World, Attached, Rose, Honest}
use Rattle.bay_core.specs.Went.{Went, Only}
use Rattle.bay_core.proofs.Runs.{went_such}
use Rattle.digest_set.specs.declared.triple.Triple.{Triple}
use Rattle.copy_plan.specs.declared.file.PlannedFile.{PlannedFile}
use Rattle.copy_plan.specs.Plan.{PlanValue, list_of}
use Rattle.drive_journal.specs.declared.order.Listed.{Listed}
use Rattle.drive_journal.specs.declared.record.Gate.{Gate}
use Rattle.drive_journal.specs.declared.record.Rec.{Rec}
use Rattle.fan_copier.specs.declared.copy.FileCopy.{FileCopy}
use Rattle.fan_copier.specs.declared.turn.Turn.{Turn}
use Rattle.fan_copier.specs.declared.turn.Turn.TheVariants.{Going as CopyGoes, Dropped, Copied, SourceFailed as CardFailed, Changed as CardChanged, NoDrive as NoneLeft}
use Rattle.fan_copier.specs.Copying.{card_of, live_of}
use Rattle.fan_copier.specs.Turning.{Touches, GoOn, TurnCause}
use Rattle.fan_copier.proofs.Keeping.{same_elsewhere}
use Rattle.read_back.specs.declared.back.ReadBackError.{ReadBackError}
use Rattle.read_back.specs.declared.back.ReadBackError.TheVariants.{DriveFailed as BackFailed, Absent as BackAbsent, Length as BackLength, Differs}
use Rattle.read_back.specs.Back.{ReadBackCalls}
use Rattle.recording.specs.Filing.{BackCalls, Settles, RecordCalls, RecordCause, OkOrFault as RecordOkOrFault, FailsAlone as RecordFailsAlone}
use Rattle.seal_step.specs.declared.error.SealError.{SealError}
use Rattle.seal_step.specs.declared.error.SealError.TheVariants.{DriveFailed as SealFailed, Absent as ListAbsent, Byte as ListByte, Length as ListLength}
use Rattle.seal_step.specs.Calls.{Drafts, SealCalls, SealCause, FailsAlone as SealFailsAlone}
use Rattle.seal_step.specs.Parts.{list_parts, joined}
use Rattle.seal_step.specs.Reading.{BackCalls as ListCalls, OkOrFault as SealOkOrFault}
use Rattle.run_state.specs.declared.outcome.Outcome.{Outcome}
use Rattle.run_state.specs.declared.outcome.Outcome.TheVariants.{SourceFailed, Changed, Altered}
use Rattle.run_state.specs.declared.phase.Phase.{Phase}
use Rattle.run_state.specs.declared.phase.Phase.TheVariants.{Begins, File, Copies, Dates, Records, Seals, Clears, Ended}
use Rattle.run_state.specs.Acts.{Says, Goes, Ends, Drops, Passes, BeginTried, begun_at, records_at, begin_line, MovesOrDrops, BegunAloud, BeginTurn, FileTurn, copies_on, CopySettles, CopyActed, other_listed, DateTurn, record_line, RecordStands, RecordedAloud, RecordTurn, seal_line, SealStands, SealedAloud, SealTurn, is_clear, ClearTurn}
use Rattle.run_state.specs.Rules.{IsOver, FitsCopy, FitsRecord, Fits, IsRun}
use Rattle.run_state.specs.Runs.{Point, begins_with}
use Rattle.run_state.specs.State.{Ordered, DriveAt, Gone, Fresh, Begun, Found, Sealed, Journaled, files_of, drive_at, is_gone, count_sealed, due, IsDueNowhere, after_begin, after_file, after_record, after_seal}
use Rattle.run_state.specs.Turn.{Acted, Turned}
use Rattle.run_ends.specs.Known.{HasPart, HasNoNew, IsKnownAt}
use Rattle.run_ends.specs.Losses.{Loss, ByFault, ByAbsence, ByLength, ByDigests, ByByte, loss_text, PartSaw, ListSaw, Saw}
use Rattle.run_ends.specs.Reads.{IsCopiedBetween}
use Rattle.run_ends.proofs.Drives.{due_there, due_is, due_somewhere, due_not_over, copied_somewhere, still_there}
use Rattle.run_ends.proofs.Later.{Later, later_none, later_went, later_then, rose_around, joined_went, Silent, silent_went, silent_same, silent_then}
use Rattle.run_ends.proofs.Whole.{WholeAt}

-- nothing but calls without a line, and the run goes on
pub record Passing (m c : Point) : Type 0 where
  pub drives : c.at.drives ≡ m.at.drives
  pub silent : Silent m.world c.world
  pub next : Phase
  pub goes : Goes true next c.at

-- a line, which is of no loss; no drive was lost
pub record Telling (m c : Point) : Type 0 where
  pub mid : World
  pub silent : Silent m.world mid
  pub text : List ℕ
  pub other : (e : ℕ) → begins_with (codes "dropped") e text ≡ false
  pub said : Bool
  pub line : Says text said mid c.world
  pub each : (k : ℕ) → is_gone (drive_at c.at.drives.each k) ≡ is_gone (drive_at m.at.drives.each k)
  pub dropped : c.at.drives.dropped ≡ m.at.drives.dropped
  pub next : Phase
  pub goes : Goes said next c.at

-- a drive was lost, and its line was said
pub record Losing (o : Ordered) (a m c : Point) : Type 0 where
  pub d : ℕ
  pub there : is_gone (drive_at m.at.drives.each d) ≡ false
  pub mid : World
  pub silent : Silent m.world mid
  pub loss : Loss
  pub said : Bool
  pub line : Says (loss_text d loss) said mid c.world
  pub fault : loss ≡ ByFault → Rose (m.world.faults (Drive d)) (mid.faults (Drive d))
  pub saw : (past L : List Event) → a.world.events ≡ Some past → mid.events ≡ Some (past ++ L) → Saw o a m d loss L
  pub honest : IsKnownAt o m.at.phase m.at.drives.each m.world → (start : Map) (all : List Event) → m.world.attached.honest d ≡ true → m.world.attached.start d ≡ Some start → mid.events ≡ Some all → loss ≡ ByFault
  pub drops : Drops d m.at.drives c.at.drives
  pub next : Phase
  pub goes : Goes said next c.at

-- why a run broke off
abbrev pub Why : Ordered → Point → Point → Outcome → Type 0
Why o m c SourceFailed = Rose (m.world.faults (Source o.source)) (c.world.faults (Source o.source))
Why o m c (Changed i listed read) = (copy : FileCopy) × (m.at.phase ≡ Copies i copy) × (act : CopyActed o i copy m.at.drives c.at m.pool c.pool m.world c.world) × (act.came ≡ CardChanged listed read)
Why o m c (Altered i l t) = (m.at.phase ≡ Dates i t) × (other_listed o.listed i t ≡ Some l)
Why o m c _ = ⊥

-- the run broke off, and a drive is left on which something was to be done
pub record Breaking (o : Ordered) (m c : Point) : Type 0 where
  pub drives : c.at.drives ≡ m.at.drives
  pub silent : Silent m.world c.world
  pub outcome : Outcome
  pub ends : Ends outcome c.at
  pub why : Why o m c outcome
  pub left : (d : ℕ) × (IsOver (drive_at m.at.drives.each d) → ⊥)

-- the run came to its end
pub record Closing (o : Ordered) (m c : Point) : Type 0 where
  pub drives : c.at.drives ≡ m.at.drives
  pub over : (d : ℕ) → IsOver (drive_at m.at.drives.each d)
  pub clear : ClearTurn o.copies (count_sealed m.at.drives.each) (is_clear (count_sealed m.at.drives.each) o.copies) c.at m.world c.world

-- it had ended before
pub record Resting (m c : Point) : Type 0 where
  pub same : c.at ≡ m.at
  pub idle : c.world ≡ m.world

-- what a turn came to
pub data Came (o : Ordered) (a m c : Point) : Type 0 where
  Passed : Passing m c → Came o a m c
  Told : Telling m c → Came o a m c
  Lost : Losing o a m c → Came o a m c
  Broke : Breaking o m c → Came o a m c
  Closed : Closing o m c → Came o a m c
  Rested : Resting m c → Came o a m c

-- ---- devices

drive_silent : (e : ℕ) (y : Device) → Only (Drive e) y → y ≡ Output → ⊥
drive_silent e y on is = absurd (cc (sym on ∙ is))

clock_silent : (y : Device) → Only Clock y → y ≡ Output → ⊥
clock_silent y on is = absurd (cc (sym on ∙ is))

copy_silent : (s : ℕ) (live : List Bool) (y : Device) → Touches s live y → y ≡ Output → ⊥
copy_silent s live y (inl card) is = absurd (cc (sym card ∙ is))
copy_silent s live y (inr (inl pick)) is = absurd (cc (sym pick ∙ is))
copy_silent s live y (inr (inr (d, on, drive))) is = absurd (cc (sym drive ∙ is))

off_clock : (d : ℕ) (y : Device) → Only Clock y → is_on d y ≡ false
off_clock d y on = ap (is_on d) on

-- calls behind one call
behind_one : (e : Event) (A M F S B C L : List Event) → F ≡ A ++ M → M ≡ e ∷ [] → L ≡ F ++ S → S ≡ B ++ C → L ≡ A ++ e ∷ (B ++ C)
behind_one e A M F S B C L first one rest split =
    let front : F ≡ A ++ e ∷ [] = first ∙ ap (λ (l : List Event). A ++ l) one in
    let whole : L ≡ (A ++ e ∷ []) ++ (B ++ C) = rest ∙ ap (λ (l : List Event). F ++ l) split ∙ ap (λ (l : List Event). l ++ (B ++ C)) front in
    whole ∙ append_assoc A (e ∷ []) (B ++ C)

-- ---- a drive is begun

abbrev AnyCalls : List Event → Type 0
AnyCalls L = Unit {0}

begin_went : (p : PlanValue) (d : ℕ) (was : DriveAt) (ok : Bool) (w mid : World) → BeginTried p d was ok w mid → Went (Only (Drive d)) AnyCalls w mid
begin_went p d Fresh ok w mid t = went_such (λ L x. tt) t.0.went
begin_went p d (Begun recs gate kept) ok w mid t = went_such (λ L x. tt) t.0.went
begin_went p d Gone ok w mid t = absurd t
begin_went p d (Found recs) ok w mid t = absurd t
begin_went p d Sealed ok w mid t = absurd t

begin_cause : (p : PlanValue) (d : ℕ) (was : DriveAt) (w mid : World) → BeginTried p d was false w mid → Rose (w.faults (Drive d)) (mid.faults (Drive d))
begin_cause p d Fresh w mid t = t.0.cause refl
begin_cause p d (Begun recs gate kept) w mid t = t.0.cause refl
begin_cause p d Gone w mid t = absurd t
begin_cause p d (Found recs) w mid t = absurd t
begin_cause p d Sealed w mid t = absurd t

begun_there : (p : PlanValue) (x : DriveAt) → is_gone x ≡ false → is_gone (begun_at p x) ≡ false
begun_there p Gone is = is
begun_there p Fresh is = refl
begun_there p (Begun recs gate kept) is = refl
begun_there p (Found recs) is = refl
begun_there p Sealed is = refl

module _ (o : Ordered) (a m c : Point) (later : Later a.world m.world) where
  -- what is known at the first point
  abbrev IsKnown : Type 0
  IsKnown = IsKnownAt o m.at.phase m.at.drives.each m.world

  passed : (next : Phase) → Passes next m.at.drives c.at m.world c.world → Came o a m c
  passed next t = Passed (record { drives = t.drives; silent = silent_same t.idle; next = next; goes = t.goes })

  -- a drive that was honest is so after calls, where those before are told
  honest_at : {On : Device → Type 0} {P : List Event → Type 0} {w mid : World} (d : ℕ) (start : Map) (all : List Event) → w.attached ≡ m.world.attached → Went On P w mid → m.world.attached.honest d ≡ true → m.world.attached.start d ≡ Some start
      → mid.events ≡ Some all → (before : List Event) × Honest w d start before
  honest_at d start all same went h s now =
      let t = went.told all now in
      (t.before, record { honest = ap (λ (x : Attached). x.honest d) same ∙ h; start = ap (λ (x : Attached). x.start d) same ∙ s; events = t.was })

  -- ---- the begins

  begun : (d : ℕ) (was : DriveAt) → drive_at m.at.drives.each d ≡ was → is_gone was ≡ false → BegunAloud o d was m.at.drives c.at m.world c.world → Came o a m c
  begun d was is there act = by act.ok act.tried act.line act.stands
    where
      by : (ok : Bool) → BeginTried o.plan d was ok m.world act.mid → Says (begin_line d (length (records_at was)) (files_of o.plan) ok) act.said act.mid c.world → MovesOrDrops d ok (begun_at o.plan was) m.at.drives c.at.drives → Came o a m c
      by true tried line stands = Told (record {
        mid = act.mid;
        silent = silent_went (begin_went o.plan d was true m.world act.mid tried) (drive_silent d);
        text = begin_line d (length (records_at was)) (files_of o.plan) true;
        other = λ e. refl;
        said = act.said;
        line = line;
        each = still_there d (begun_at o.plan was) m.at.drives.each c.at.drives.each stands.each (ap is_gone is ∙ there) (begun_there o.plan was there);
        dropped = stands.dropped;
        next = after_begin (length m.at.drives.each) d;
        goes = act.goes;
      })
      by false tried line stands = Lost (record {
        d = d;
        there = ap is_gone is ∙ there;
        mid = act.mid;
        silent = silent_went (begin_went o.plan d was false m.world act.mid tried) (drive_silent d);
        loss = ByFault;
        said = act.said;
        line = line;
        fault = λ fault. begin_cause o.plan d was m.world act.mid tried;
        saw = λ past L start now. tt;
        honest = λ known start all h s now. refl;
        drops = stands;
        next = after_begin (length m.at.drives.each) d;
        goes = act.goes;
      })

  begin_came : (d : ℕ) (was : DriveAt) → drive_at m.at.drives.each d ≡ was → BeginTurn o d was m.at.drives c.at m.world c.world → Came o a m c
  begin_came d Fresh is t = begun d Fresh is refl t
  begin_came d (Begun recs gate kept) is t = begun d (Begun recs gate kept) is refl t
  begin_came d Gone is t = passed (after_begin (length m.at.drives.each) d) t
  begin_came d (Found recs) is t = passed (after_begin (length m.at.drives.each) d) t
  begin_came d Sealed is t = passed (after_begin (length m.at.drives.each) d) t

  -- ---- a file is copied

  file_came : (i : ℕ) → FileTurn o i m.at.drives c.at m.world c.world → Came o a m c
  file_came i (inl t) = Passed (record { drives = t.drives; silent = silent_same t.idle; next = Copies i t.copy; goes = t.goes })
  file_came i (inr t) = passed (after_file (files_of o.plan) i) t.1

  left_of : (i : ℕ) → (d : ℕ) × (is_some (due i (drive_at m.at.drives.each d)) ≡ true) → (d : ℕ) × (IsOver (drive_at m.at.drives.each d) → ⊥)
  left_of i some = (some.0, due_not_over i (drive_at m.at.drives.each some.0) some.1)

  copy_came : (i : ℕ) (copy : FileCopy) → m.at.phase ≡ Copies i copy → FitsCopy o m.at.drives.each i copy → CopyActed o i copy m.at.drives c.at m.pool c.pool m.world c.world → Came o a m c
  copy_came i copy is fits act = by act.came refl act.go_on act.cause act.settles
    where
      silent : Silent m.world act.mid
      silent = silent_went act.touches (copy_silent (card_of copy) (live_of copy))

      by : (came : Turn) → act.came ≡ came → GoOn came (live_of copy) (live_of act.next) → TurnCause (card_of copy) came m.world act.mid → CopySettles (files_of o.plan) i came act.next m.at.drives c.at act.mid c.world → Came o a m c
      by CopyGoes at go t s = Passed (record { drives = s.0; silent = silent_then silent (silent_same s.2); next = Copies i act.next; goes = s.1 })
      by (Dropped d) at go t s = Lost (record {
        d = d;
        there = due_there i (drive_at m.at.drives.each d) (sym (fits.live d) ∙ go.0);
        mid = act.mid;
        silent = silent;
        loss = ByFault;
        said = s.said;
        line = s.line;
        fault = λ fault. t;
        saw = λ past L start now. tt;
        honest = λ known start all h s now. refl;
        drops = s.drops;
        next = copies_on (files_of o.plan) i act.next;
        goes = s.goes;
      })
      by (Copied x) at go t s = Passed (record { drives = s.0; silent = silent_then silent (silent_same s.2); next = Dates i x; goes = s.1 })
      by CardFailed at go t s = Broke (record {
        drives = s.0;
        silent = silent_then silent (silent_same s.2);
        outcome = SourceFailed;
        ends = s.1;
        why = subst (λ (n : ℕ). Rose (m.world.faults (Source n)) (c.world.faults (Source n))) fits.card (subst (λ (w : World). Rose (m.world.faults (Source (card_of copy))) (w.faults (Source (card_of copy)))) (sym s.2) t);
        left = left_of i (copied_somewhere o m.at.drives.each i copy fits);
      })
      by (CardChanged listed read) at go t s = Broke (record {
        drives = s.0;
        silent = silent_then silent (silent_same s.2);
        outcome = Changed i listed read;
        ends = s.1;
        why = (copy, is, act, at);
        left = left_of i (copied_somewhere o m.at.drives.each i copy fits);
      })
      by NoneLeft at go t s = absurd s

  -- ---- its moment is asked

  date_came : (i : ℕ) (t : Triple) → m.at.phase ≡ Dates i t → (IsDueNowhere i m.at.drives.each → ⊥) → (other : Option Listed) → other_listed o.listed i t ≡ other → DateTurn o i t other m.at.drives c.at m.world c.world → Came o a m c
  date_came i t is somewhere None differs act = Passed (record { drives = act.drives; silent = silent_went act.asked clock_silent; next = Records (record { index = i; size = act.file.size; triple = t; hashed = act.seconds }) 0; goes = act.goes })
  date_came i t is somewhere (Some l) differs act = Broke (record {
    drives = act.0;
    silent = silent_same act.2;
    outcome = Altered i l t;
    ends = act.1;
    why = (is, differs);
    left = left_of i (due_somewhere i m.at.drives.each somewhere);
  })

  -- ---- it is recorded on a drive

  module _ (rec : Rec) (d : ℕ) (fits : FitsRecord o m.at.drives.each rec d) (whole : IsCopiedBetween o a m rec.index rec.triple) where
    module _ (was : Journaled) (is : due rec.index (drive_at m.at.drives.each d) ≡ Some was) (known : IsKnown → HasPart d rec m.world) (act : RecordedAloud o rec d was m.at.drives c.at m.world c.world) where
      there : is_gone (drive_at m.at.drives.each d) ≡ false
      there = due_there rec.index (drive_at m.at.drives.each d) (due_is rec.index (drive_at m.at.drives.each d) was is)

      silent_recorded : Silent m.world act.mid
      silent_recorded = silent_went act.went (drive_silent d)

      sized : rec.size ≡ act.file.size
      sized = let both : Some rec.size ≡ Some act.file.size = sym fits.sized ∙ ap (option_map (λ (f : PlannedFile). f.size)) act.is_file in cc both

      -- what the last calls saw
      part_saw : (e : ReadBackError) → Went (Only (Drive d)) (Settles d (BackCalls d rec (Err e))) m.world act.mid → (past L : List Event) → a.world.events ≡ Some past → act.mid.events ≡ Some (past ++ L) → PartSaw o a m d act.file.path e L
      part_saw e went past L start now =
          let j = joined_went later went past L start now in
          let such = j.such.1 in
          record {
            index = rec.index;
            file = act.file;
            is_file = act.is_file;
            is_path = refl;
            digests = rec.triple;
            whole = whole;
            front = j.front;
            back = such.second;
            calls = j.is ∙ ap (λ (l : List Event). j.front ++ l) (such.is ∙ ap (λ (l : List Event). l ++ such.second) such.here);
            bytes = such.there.0;
            saw = subst (λ (n : ℕ). ReadBackCalls d part_path n rec.triple (Err e) such.there.0 such.second) sized such.there.1;
          }

      -- a drive that was lost by what was read back of it
      part_lost : (e : ReadBackError) (loss : Loss) → (RecordOkOrFault (Err e) → ⊥) → (loss ≡ ByFault → ⊥) → ((L : List Event) → PartSaw o a m d act.file.path e L → Saw o a m d loss L) → Went (Only (Drive d)) (Settles d (BackCalls d rec (Err e))) m.world act.mid
          → RecordFailsAlone d rec (Err e) m.world act.mid → Says (loss_text d loss) act.said act.mid c.world → Drops d m.at.drives c.at.drives → Came o a m c
      part_lost e loss bad apart lift went honest line drops = Lost (record {
        d = d;
        there = there;
        mid = act.mid;
        silent = silent_recorded;
        loss = loss;
        said = act.said;
        line = line;
        fault = λ fault. absurd (apart fault);
        saw = λ past L start now. lift L (part_saw e went past L start now);
        honest = λ knows start all h s now.
            let b = honest_at d start all refl went h s now in
            absurd (bad (honest.only start b.0 all b.1 now (known knows start b.0 b.1)));
        drops = drops;
        next = after_record (length m.at.drives.each) (files_of o.plan) rec d;
        goes = act.goes;
      })

      recorded : Came o a m c
      recorded = by act.came act.went act.cause act.honest act.line act.stands
        where
          by : (came : Result Gate ReadBackError) → Went (Only (Drive d)) (RecordCalls d was.gate.at act.file.path rec came) m.world act.mid → RecordCause d came m.world act.mid → RecordFailsAlone d rec came m.world act.mid
              → Says (record_line d (files_of o.plan) act.file.path rec came) act.said act.mid c.world → RecordStands d was.recs rec came m.at.drives c.at.drives → Came o a m c
          by (Ok next) went cause honest line stands = Told (record {
            mid = act.mid;
            silent = silent_recorded;
            text = record_line d (files_of o.plan) act.file.path rec (Ok next);
            other = λ e. refl;
            said = act.said;
            line = line;
            each = still_there d (Begun (was.recs ++ rec ∷ []) next false) m.at.drives.each c.at.drives.each stands.each there refl;
            dropped = stands.dropped;
            next = after_record (length m.at.drives.each) (files_of o.plan) rec d;
            goes = act.goes;
          })
          by (Err BackFailed) went cause honest line stands = Lost (record {
            d = d;
            there = there;
            mid = act.mid;
            silent = silent_recorded;
            loss = ByFault;
            said = act.said;
            line = line;
            fault = λ fault. cause refl;
            saw = λ past L start now. tt;
            honest = λ known start all h s now. refl;
            drops = stands;
            next = after_record (length m.at.drives.each) (files_of o.plan) rec d;
            goes = act.goes;
          })
          by (Err BackAbsent) went cause honest line stands = part_lost BackAbsent (ByAbsence act.file.path) (λ x. x) (λ e. absurd (cc e)) (λ L saw. inl saw) went honest line stands
          by (Err (BackLength x y)) went cause honest line stands = part_lost (BackLength x y) (ByLength x y act.file.path) (λ x. x) (λ e. absurd (cc e)) (λ L saw. inl saw) went honest line stands
          by (Err (Differs x y)) went cause honest line stands = part_lost (Differs x y) (ByDigests x y act.file.path) (λ x. x) (λ e. absurd (cc e)) (λ L saw. saw) went honest line stands

    record_came : (IsKnown → is_some (due rec.index (drive_at m.at.drives.each d)) ≡ true → HasPart d rec m.world) → (was : Option Journaled) → due rec.index (drive_at m.at.drives.each d) ≡ was → RecordTurn o rec d was m.at.drives c.at m.world c.world → Came o a m c
    record_came known None is t = passed (after_record (length m.at.drives.each) (files_of o.plan) rec d) t
    record_came known (Some was) is act = recorded was is (λ knows. known knows (due_is rec.index (drive_at m.at.drives.each d) was is)) act

  -- ---- a drive is sealed

  module _ (d : ℕ) (recs : List Rec) (gate : Gate) (kept : Bool) (is : drive_at m.at.drives.each d ≡ Begun recs gate kept) (known : IsKnown → HasNoNew d (Begun recs gate kept) m.world) (act : SealedAloud o d recs m.at.drives c.at m.world c.world) where
    there_sealed : is_gone (drive_at m.at.drives.each d) ≡ false
    there_sealed = ap is_gone is

    silent_sealed : Silent m.world act.mid
    silent_sealed = silent_then (silent_went act.asked clock_silent) (silent_went act.went (drive_silent d))

    -- what the last calls saw
    list_saw : (e : SealError) → Went (Only (Drive d)) (Drafts d (list_parts o.plan recs act.finish) (ListCalls d (joined (list_parts o.plan recs act.finish)) (Err e))) act.dated act.mid
        → (past L : List Event) → a.world.events ≡ Some past → act.mid.events ≡ Some (past ++ L) → ListSaw o d (list_of o.plan) e L
    list_saw e went past L start now =
        let j = joined_went (later_then later (later_went act.asked)) went past L start now in
        let k = joined_went later act.asked past j.front start j.was in
        let such = j.such.1 in
        record {
          is_path = refl;
          recs = recs;
          finish = act.finish;
          front = k.front;
          drafts = such.first;
          back = such.second;
          calls = behind_one (Moment act.finish) k.front k.since j.front j.since such.first such.second L k.is k.such.1 j.is such.is;
          drafted = such.here;
          saw = subst (λ (text : List ℕ). ListCalls d text (Err e) such.second) act.text such.there;
        }

    -- a drive that was lost by what was read back of its list
    list_lost : (e : SealError) (loss : Loss) → (SealOkOrFault (Err e) → ⊥) → (loss ≡ ByFault → ⊥) → ((L : List Event) → ListSaw o d (list_of o.plan) e L → Saw o a m d loss L)
        → Went (Only (Drive d)) (Drafts d (list_parts o.plan recs act.finish) (ListCalls d (joined (list_parts o.plan recs act.finish)) (Err e))) act.dated act.mid → SealFailsAlone d (Err e) act.dated act.mid → Says (loss_text d loss) act.said act.mid c.world
        → Drops d m.at.drives c.at.drives → Came o a m c
    list_lost e loss bad apart lift went honest line drops = Lost (record {
      d = d;
      there = there_sealed;
      mid = act.mid;
      silent = silent_sealed;
      loss = loss;
      said = act.said;
      line = line;
      fault = λ fault. absurd (apart fault);
      saw = λ past L start now. lift L (list_saw e went past L start now);
      honest = λ knows start all h s now.
          let b = honest_at d start all act.asked.attached went h s now in
          let back = (same_elsewhere d (off_clock d) act.asked).back start b.0 b.1 in
          absurd (bad (honest.only start b.0 all b.1 now (ap (λ (n : Map). get n new_path) back.2 ∙ known knows start back.0 back.1)));
      drops = drops;
      next = after_seal (length m.at.drives.each) d;
      goes = act.goes;
    })

    sealed : Came o a m c
    sealed = by act.came act.went act.cause act.honest act.line act.stands
      where
        by : (came : Result Unit SealError) → Went (Only (Drive d)) (SealCalls d (list_of o.plan) (list_parts o.plan recs act.finish) came) act.dated act.mid → SealCause d came act.dated act.mid → SealFailsAlone d came act.dated act.mid
            → Says (seal_line d o.plan came) act.said act.mid c.world → SealStands d came m.at.drives c.at.drives → Came o a m c
        by (Ok u) went cause honest line stands = Told (record {
          mid = act.mid;
          silent = silent_sealed;
          text = seal_line d o.plan (Ok u);
          other = λ e. refl;
          said = act.said;
          line = line;
          each = still_there d Sealed m.at.drives.each c.at.drives.each stands.each there_sealed refl;
          dropped = stands.dropped;
          next = after_seal (length m.at.drives.each) d;
          goes = act.goes;
        })
        by (Err SealFailed) went cause honest line stands = Lost (record {
          d = d;
          there = there_sealed;
          mid = act.mid;
          silent = silent_sealed;
          loss = ByFault;
          said = act.said;
          line = line;
          fault = λ fault. rose_around (Drive d) (later_went act.asked) (later_none act.mid) (cause refl);
          saw = λ past L start now. tt;
          honest = λ known start all h s now. refl;
          drops = stands;
          next = after_seal (length m.at.drives.each) d;
          goes = act.goes;
        })
        by (Err ListAbsent) went cause honest line stands = list_lost ListAbsent (ByAbsence (list_of o.plan)) (λ x. x) (λ e. absurd (cc e)) (λ L saw. inr saw) went honest line stands
        by (Err (ListLength x y)) went cause honest line stands = list_lost (ListLength x y) (ByLength x y (list_of o.plan)) (λ x. x) (λ e. absurd (cc e)) (λ L saw. inr saw) went honest line stands
        by (Err (ListByte p x y)) went cause honest line stands = list_lost (ListByte p x y) (ByByte p x y (list_of o.plan)) (λ x. x) (λ e. absurd (cc e)) (λ L saw. saw) went honest line stands

  seal_came : (d : ℕ) (x : DriveAt) → drive_at m.at.drives.each d ≡ x → (IsKnown → HasNoNew d x m.world) → SealTurn o d x m.at.drives c.at m.world c.world → Came o a m c
  seal_came d (Begun recs gate kept) is known act = sealed d recs gate kept is known act
  seal_came d (Found recs) is known act = Told (record {
    mid = m.world;
    silent = silent_same refl;
    text = seal_line d o.plan (Ok tt);
    other = λ e. refl;
    said = act.said;
    line = act.line;
    each = still_there d Sealed m.at.drives.each c.at.drives.each act.stands.each (ap is_gone is) refl;
    dropped = act.stands.dropped;
    next = after_seal (length m.at.drives.each) d;
    goes = act.goes;
  })
  seal_came d Fresh is known t = absurd t
  seal_came d Gone is known t = passed (after_seal (length m.at.drives.each) d) t
  seal_came d Sealed is known t = passed (after_seal (length m.at.drives.each) d) t

  -- ---- each turn

  -- what is known where this is done next
  known_as : (phase : Phase) → m.at.phase ≡ phase → IsKnown → IsKnownAt o phase m.at.drives.each m.world
  known_as phase is known = subst (λ (p : Phase). IsKnownAt o p m.at.drives.each m.world) is known

  acted_came : (phase : Phase) → m.at.phase ≡ phase → Fits o m.at.drives.each phase → WholeAt o a m phase → Acted o phase m.at c.at m.pool c.pool m.world c.world → Came o a m c
  acted_came (Begins d) is fits whole t = begin_came d (drive_at m.at.drives.each d) refl t
  acted_came (File i) is fits whole t = file_came i t
  acted_came (Copies i copy) is fits whole t = copy_came i copy is fits t
  acted_came (Dates i x) is fits whole t = date_came i x is fits.1 (other_listed o.listed i x) refl t
  acted_came (Records rec d) is fits whole t = record_came rec d fits whole (known_as (Records rec d) is) (due rec.index (drive_at m.at.drives.each d)) refl t
  acted_came (Seals d) is fits whole t = seal_came d (drive_at m.at.drives.each d) refl (known_as (Seals d) is) t
  acted_came Clears is fits whole t = Closed (record { drives = t.0; over = fits; clear = t.1 })
  acted_came Ended is fits whole t = Rested (record { same = t.0; idle = t.2 })

-- what a turn came to
pub turn_came : (o : Ordered) (a m c : Point) → Later a.world m.world → IsRun o m.at → WholeAt o a m m.at.phase → Turned o m.at c.at m.pool c.pool m.world c.world → Came o a m c
turn_came o a m c later run whole t = acted_came o a m c later m.at.phase refl run.fits whole t
