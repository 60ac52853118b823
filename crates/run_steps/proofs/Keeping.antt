-- Any number of turns, seen from the offload of one drive.
use Rattle.std.proofs.Common.{◌≡◌, ◌≢◌, ◌⊎◌, inl, inr, ℕ, suc, ◌^◌, ◌<◌, ◌≤◌, Bool, true, false, List, [], ◌∷◌, ◌++◌, length, refl, sym, ap, ◌∙◌, subst, arith, get_or-set_same, get_or-set_other, length-append}
use Rattle.std.specs.Prelude.{Option, Some, None, is_some, option_map, not, ◌||◌, if◌then◌else◌, Result, Ok, Err}
use Rattle.std.specs.List.{slice_get}
use Rattle.std.proofs.lemmas.Bool.{cases_eq}
use Rattle.std.proofs.lemmas.Option.{slice_get_within}
use Rattle.bay_core.specs.declared.event.Event.{Event}
use Rattle.bay_core.specs.declared.event.Event.TheVariants.{AttachSource, AttachDrive, AttachFailed, SourceList, SourceRead, DriveList, DriveRead, Write, Sync, Rename, Remove, Moment, Pick, Say}
use Rattle.bay_core.specs.Map.{Map, content}
use Rattle.bay_core.specs.Replay.{reads}
use Rattle.bay_core.specs.World.{World, Attached, Steady}
use Rattle.bay_core.proofs.Runs.{went_such}
use Rattle.crash_law.specs.Lines.{LineHas, AllLines}
use Rattle.crash_law.proofs.Staying.{went_away}
use Rattle.copy_law.specs.Keeping.{CopyKeeps}
use Rattle.copy_law.proofs.Joining.{copy_keeps}
use Rattle.copy_plan.specs.declared.file.PlannedFile.{PlannedFile}
use Rattle.copy_plan.specs.Plan.{list_of}
use Rattle.digest_set.specs.declared.triple.Triple.{Triple}
use Rattle.drive_journal.specs.declared.order.Listed.{Listed}
use Rattle.drive_journal.specs.declared.record.Gate.{Gate}
use Rattle.drive_journal.specs.declared.record.Rec.{Rec}
use Rattle.drive_journal.specs.Journal.{AreRecords}
use Rattle.drive_journal.specs.Look.{next_gate}
use Rattle.fan_core.specs.Flags.{has, lowest}
use Rattle.fan_copier.specs.declared.copy.FileCopy.{FileCopy}
use Rattle.fan_copier.specs.declared.turn.Turn.{Turn}
use Rattle.fan_copier.specs.declared.turn.Turn.TheVariants.{Going as CopyGoes, Dropped, Copied, SourceFailed as CardFailed, Changed as CardChanged, NoDrive as NoneLeft}
use Rattle.fan_copier.specs.Copying.{card_of, live_of}
use Rattle.offload_law.specs.Lines.{announces}
use Rattle.offload_law.specs.Stages.{Stage, card_bytes}
use Rattle.offload_law.specs.Steps.{offload}
use Rattle.offload_law.proofs.Said.{clear_none}
use Rattle.read_back.specs.declared.back.ReadBackError.{ReadBackError}
use Rattle.recording.specs.Drives.{Copying, IsCopying, Keeps}
use Rattle.seal_step.specs.declared.error.SealError.{SealError}
use Rattle.run_state.specs.declared.outcome.Outcome.{Outcome}
use Rattle.run_state.specs.declared.outcome.Outcome.TheVariants.{Altered, OutFailed}
use Rattle.run_state.specs.declared.phase.Phase.{Phase}
use Rattle.run_state.specs.declared.phase.Phase.TheVariants.{Begins, File, Copies, Dates, Records, Seals, Clears, Ended}
use Rattle.run_state.specs.Acts.{Goes, Ends, Moves, Drops, MovesOrDrops, SealsDrive, Passes, BegunAloud, begin_line, BeginTurn, Opened, FileTurn, copies_on, CopyDrops, CopySettles, CopyActed, other_listed, DateTurn, record_line, RecordStands, RecordedAloud, RecordTurn, seal_line, SealStands, SealedAloud, FoundAloud, SealTurn, is_clear, end_of, ClearTurn}
use Rattle.run_state.specs.Rules.{FitsPlan, HasAtLeast, IsRun, Fits, FitsCopy, FitsSeal, IsSizeOf}
use Rattle.run_state.specs.Runs.{Point, IsBeside, AreBeside, IsElsewhere, Beside, Runs, starts, turns, beside}
use Rattle.run_state.specs.State.{Ordered, Drives, At, DriveAt, Gone, Fresh, Begun, Found, Sealed, Journaled, files_of, drive_at, is_gone, is_of_run, due, count_sealed, after_begin, after_file, after_record, after_seal}
use Rattle.run_state.specs.Turn.{Acted}
use Rattle.run_steps.specs.Parts.{IsTidy, AreTidy, CameWhole, PartsAt, PartsReady}
use Rattle.run_steps.specs.Stands.{Since, HasSaid, IsSealed, Stands, Rests, IsToBegin}
use Rattle.run_steps.proofs.Telling.{Later, later_went, later_same, later_then, since_later, steady_later}
use Rattle.run_steps.proofs.Drives.{some_or_none, of_run, is_due, one_file, begin_next, file_next, record_next, seal_next}
use Rattle.run_steps.proofs.Lines.{fault_none, begin_elsewhere, record_elsewhere, seal_elsewhere, sealing_elsewhere, about_none}
use Rattle.run_steps.proofs.Still.{asked_same, no_new_still}
use Rattle.run_steps.proofs.Standing.{Quiet, quiet_same, quiet_said, quiet_drive, quiet_asked, quiet_then, stands_quiet, keeps_quiet, rests_quiet, since_keeps, stands_still, Knows, knows_lost}
use Rattle.run_steps.proofs.Own.{offload_of, now_at, fresh_knows, begun_knows, waits, ready, recorded_at, record_knows, sealed_at, seal_knows, found_knows, few_records}

-- the drive has so many records, if it has some
abbrev pub HasFrom : ℕ → DriveAt → Type 0
HasFrom from Gone = Unit {0}
HasFrom from Fresh = from ≡ 0
HasFrom from (Begun recs gate kept) = from ≤ length recs
HasFrom from (Found recs) = Unit {0}
HasFrom from Sealed = Unit {0}

ended_or : (phase : Phase) → (phase ≡ Ended) ⊎ (phase ≢ Ended)
ended_or (Begins d) = inr (λ is. absurd (cc is))
ended_or (File i) = inr (λ is. absurd (cc is))
ended_or (Copies i copy) = inr (λ is. absurd (cc is))
ended_or (Dates i t) = inr (λ is. absurd (cc is))
ended_or (Records rec d) = inr (λ is. absurd (cc is))
ended_or (Seals d) = inr (λ is. absurd (cc is))
ended_or Clears = inr (λ is. absurd (cc is))
ended_or Ended = inl refl

or_true : (a b : Bool) → b ≡ true → (a || b) ≡ true
or_true true b is = refl
or_true false b is = is

-- ---- a drive that was of the run is one

same_of_run : (old new : Drives) (d : ℕ) → drive_at new.each d ≡ drive_at old.each d → has new.dropped d ≡ has old.dropped d → is_of_run old d ≡ true → is_of_run new d ≡ true
same_of_run old new d state set was = (λ i. not (is_gone (state i)) || set i) ∙ was

lost_of_run : (old new : Drives) (d : ℕ) → d < length old.dropped → Drops d old new → is_of_run new d ≡ true
lost_of_run old new d low drops = or_true (not (is_gone (drive_at new.each d))) (has new.dropped d) (ap (λ (set : List Bool). has set d) drops.dropped ∙ get_or-set_same old.dropped d true false low)

moved_of_run : (old new : Drives) (d e : ℕ) (now : DriveAt) → d ≢ e → Moves e now old new → is_of_run old d ≡ true → is_of_run new d ≡ true
moved_of_run old new d e now differ moves was = same_of_run old new d (moves.each.others d differ) (ap (λ (set : List Bool). has set d) moves.dropped) was

sealed_of_run : (old new : Drives) (d e : ℕ) → d ≢ e → SealsDrive e old new → is_of_run old d ≡ true → is_of_run new d ≡ true
sealed_of_run old new d e differ seals was = same_of_run old new d (seals.each.others d differ) (ap (λ (set : List Bool). has set d) seals.dropped) was

dropped_of_run : (old new : Drives) (d e : ℕ) → d ≢ e → Drops e old new → is_of_run old d ≡ true → is_of_run new d ≡ true
dropped_of_run old new d e differ drops was = same_of_run old new d (drops.each.others d differ) (ap (λ (set : List Bool). has set d) drops.dropped ∙ get_or-set_other old.dropped e d true false differ) was

-- ---- where a run goes on

to_begin_next : (w e d : ℕ) → IsToBegin d (after_begin w e) → suc e ≤ d
to_begin_next w e d t = elim (begin_next w e) [
  | inl more ↦ let at : IsToBegin d (Begins (suc e)) = subst (IsToBegin d) more.1 t in omega (arith, at)
  | inr last ↦ absurd (subst (IsToBegin d) last.1 t)
]

none_after_file : (n i d : ℕ) → IsToBegin d (after_file n i) → ⊥
none_after_file n i d t = elim (file_next n i) [
  | inl more ↦ subst (IsToBegin d) more.1 t
  | inr last ↦ subst (IsToBegin d) last.1 t
]

none_after_record : (w n : ℕ) (rec : Rec) (e d : ℕ) → IsToBegin d (after_record w n rec e) → ⊥
none_after_record w n rec e d t = elim (record_next w n rec e) [
  | inl more ↦ subst (IsToBegin d) more.1 t
  | inr last ↦ none_after_file n rec.index d (subst (IsToBegin d) last.1 t)
]

none_after_seal : (w e d : ℕ) → IsToBegin d (after_seal w e) → ⊥
none_after_seal w e d t = elim (seal_next w e) [
  | inl more ↦ subst (IsToBegin d) more.1 t
  | inr last ↦ subst (IsToBegin d) last.1 t
]

goes_begin : (said : Bool) (next : Phase) (new : At) (d : ℕ) → Goes said next new → IsToBegin d new.phase → IsToBegin d next
goes_begin true next new d goes t = subst (IsToBegin d) goes.0 t
goes_begin false next new d goes t = absurd (subst (IsToBegin d) goes.0 t)

-- ---- lines and calls beside a run

beside_lines : (o : Ordered) (drives : Drives) (d : ℕ) (n : ℕ) → is_of_run drives d ≡ true → (L : List Event) → AreBeside o drives L → AllLines (λ line. announces d n line ≡ 0) L
unfolding AreBeside AllLines
beside_lines o drives d n there [] are = tt
beside_lines o drives d n there (e ∷ L) are = (one e are.0, beside_lines o drives d n there L are.1)
  where
    one : (e : Event) → IsBeside o drives e → LineHas (λ line. announces d n line ≡ 0) e
    one (Say line ok) is = about_none d n line (is d there)
    one (AttachSource s place) is = tt
    one (AttachDrive k place) is = tt
    one (AttachFailed place) is = tt
    one (SourceList s got) is = tt
    one (SourceRead s path at want got) is = tt
    one (DriveList k got) is = tt
    one (DriveRead k path at want got) is = tt
    one (Write k path at bytes ok) is = tt
    one (Sync k ok) is = tt
    one (Rename k from to ok) is = tt
    one (Remove k path ok) is = tt
    one (Moment t) is = tt
    one (Pick p) is = tt

module _ (o : Ordered) (card start : Map) (stage : Stage) (ok : IsCopying (offload_of o card start stage)) (d : ℕ) (low : d < 8) (attached m : Map) (past : List Event) (found : reads attached past d ≡ start) (from : ℕ)
    (rest : (j : ℕ) (file : PlannedFile) → slice_get o.plan.files j ≡ Some file → from ≤ j → content m file.path ≡ card_bytes card file) where
  abbrev D : Copying
  D = offload_of o card start stage

  abbrev n : ℕ
  n = length o.plan.files

  -- what is known of the drive at a point
  pub record Inv (b : Point) : Type 0 where
    pub honest : b.world.attached.honest d ≡ true
    pub began : b.world.attached.start d ≡ Some attached
    pub steady : Steady b.world o.source m
    pub here : is_of_run b.at.drives d ≡ true
    pub enough : HasFrom from (drive_at b.at.drives.each d)
    pub keeps : Since past (Keeps D d) b.world
    pub stands : b.at.outcome ≢ OutFailed → Since past (Stands D d (drive_at b.at.drives.each d)) b.world
    pub rests : IsToBegin d b.at.phase → Since past (Rests D d (drive_at b.at.drives.each d)) b.world

  module _ (b k : Point) (i : Inv b) where
    -- ---- how a turn may leave the drive

    -- it stands as before
    unmoved : (mid : World) → Later b.world mid → Since past (Stands D d (drive_at b.at.drives.each d)) mid → Quiet D d mid k.world → drive_at k.at.drives.each d ≡ drive_at b.at.drives.each d → is_of_run k.at.drives d ≡ true
        → (IsToBegin d k.at.phase → Since past (Rests D d (drive_at b.at.drives.each d)) k.world) → Inv k
    unmoved mid later stands q same here rests =
        let all = later_then later q.later in
        let now = stands_quiet D d past q (drive_at b.at.drives.each d) stands in
        record {
          honest = ap (λ (a : Attached). a.honest d) all.attached ∙ i.honest;
          began = ap (λ (a : Attached). a.start d) all.attached ∙ i.began;
          steady = steady_later o.source m all i.steady;
          here = here;
          enough = subst (HasFrom from) (sym same) i.enough;
          keeps = since_keeps D d past (drive_at b.at.drives.each d) now;
          stands = λ said. subst (λ (x : DriveAt). Since past (Stands D d x) k.world) (sym same) now;
          rests = λ t. subst (λ (x : DriveAt). Since past (Rests D d x) k.world) (sym same) (rests t);
        }

    -- it was acted on, and a line was said
    moved : (x : DriveAt) (said : Bool) (next : Phase) → Later b.world k.world → Knows D d past said x k.world → drive_at k.at.drives.each d ≡ x → is_of_run k.at.drives d ≡ true → HasFrom from x → Goes said next k.at → (IsToBegin d next → ⊥) → Inv k
    moved x said next later knows is here enough goes none = record {
      honest = ap (λ (a : Attached). a.honest d) later.attached ∙ i.honest;
      began = ap (λ (a : Attached). a.start d) later.attached ∙ i.began;
      steady = steady_later o.source m later i.steady;
      here = here;
      enough = subst (HasFrom from) (sym is) enough;
      keeps = knows.keeps;
      stands = λ ne. subst (λ (y : DriveAt). Since past (Stands D d y) k.world) (sym is) (by said goes knows ne);
      rests = λ t. absurd (none (goes_begin said next k.at d goes t));
    }
      where
        by : (said : Bool) → Goes said next k.at → Knows D d past said x k.world → k.at.outcome ≢ OutFailed → Since past (Stands D d x) k.world
        by true goes knows ne = knows.stands refl
        by false goes knows ne = absurd (ne goes.1)

    -- ---- a drive is begun

    module _ (run : IsRun o b.at) (after : IsRun o k.at) (stands : Since past (Stands D d (drive_at b.at.drives.each d)) b.world) where
      short : d < 2 ^ 64
      short = omega (arith, low)

      -- the number of another drive
      also_short : (e : ℕ) → e < length b.at.drives.each → e < 2 ^ 64
      also_short e there = let few = run.drives.few in omega (arith, there, few)

      set_length : d < length b.at.drives.dropped
      set_length = let eight = run.drives.sets.1 in omega (arith, low, eight)

      -- nothing was done, and the drives are as before
      passed : (next : Phase) → Passes next b.at.drives k.at b.world k.world → (IsToBegin d next → Since past (Rests D d (drive_at b.at.drives.each d)) b.world) → Inv k
      passed next p rests =
          let q = quiet_same D d p.idle in
          unmoved b.world (later_same refl) stands q (ap (λ (x : Drives). drive_at x.each d) p.drives) (subst (λ (x : Drives). is_of_run x d ≡ true) (sym p.drives) i.here)
          (λ t. rests_quiet D d past q (drive_at b.at.drives.each d) (rests (goes_begin true next k.at d p.goes t)))

      begin_passed : (e : ℕ) → b.at.phase ≡ Begins e → Passes (after_begin (length b.at.drives.each) e) b.at.drives k.at b.world k.world → Inv k
      begin_passed e phase p =
          passed (after_begin (length b.at.drives.each) e) p
          (λ t. let more = to_begin_next (length b.at.drives.each) e d t in i.rests (subst (IsToBegin d) (sym phase) (omega (arith, more))))

      -- nothing was done, and the run has ended
      ends : (outcome : Outcome) → k.at.drives ≡ b.at.drives → Ends outcome k.at → k.world ≡ b.world → Inv k
      ends outcome drives ended world =
          unmoved b.world (later_same refl) stands (quiet_same D d world) (ap (λ (x : Drives). drive_at x.each d) drives) (subst (λ (x : Drives). is_of_run x d ≡ true) (sym drives) i.here)
          (λ t. absurd (subst (IsToBegin d) ended.0 t))

      -- another drive was begun, or lost
      begin_other : (e : ℕ) (went : Bool) (now : DriveAt) → d ≢ e → b.at.phase ≡ Begins e → (said : Bool) → Quiet D d b.world k.world → MovesOrDrops e went now b.at.drives k.at.drives → Goes said (after_begin (length b.at.drives.each) e) k.at → Inv k
      begin_other e went now differ phase said q stands_now goes =
          unmoved b.world (later_same refl) stands q (state went stands_now) (here went stands_now)
          (λ t.
          let t_next = to_begin_next (length b.at.drives.each) e d (goes_begin said (after_begin (length b.at.drives.each) e) k.at d goes t) in
          let t_was : IsToBegin d b.at.phase = subst (IsToBegin d) (sym phase) (omega (arith, t_next)) in
          rests_quiet D d past q (drive_at b.at.drives.each d) (i.rests t_was))
        where
          state : (went : Bool) → MovesOrDrops e went now b.at.drives k.at.drives → drive_at k.at.drives.each d ≡ drive_at b.at.drives.each d
          state true s = s.each.others d differ
          state false s = s.each.others d differ

          here : (went : Bool) → MovesOrDrops e went now b.at.drives k.at.drives → is_of_run k.at.drives d ≡ true
          here true s = moved_of_run b.at.drives k.at.drives d e now differ s i.here
          here false s = dropped_of_run b.at.drives k.at.drives d e differ s i.here

      -- this one was
      begin_mine : (went : Bool) (now : DriveAt) → is_gone now ≡ false → HasFrom from now → (said : Bool) → Later b.world k.world → Knows D d past said (now_at o card start stage ok d past went now) k.world → MovesOrDrops d went now b.at.drives k.at.drives
          → Goes said (after_begin (length b.at.drives.each) d) k.at → Inv k
      begin_mine true now there enough said later knows s goes =
          moved now said (after_begin (length b.at.drives.each) d) later knows s.each.here (of_run k.at.drives d (ap is_gone s.each.here ∙ there)) enough goes
          (λ t. let more = to_begin_next (length b.at.drives.each) d d t in absurd (omega (arith, more)))
      begin_mine false now there enough said later knows s goes =
          moved Gone said (after_begin (length b.at.drives.each) d) later knows s.each.here (lost_of_run b.at.drives k.at.drives d set_length s) tt goes
          (λ t. let more = to_begin_next (length b.at.drives.each) d d t in absurd (omega (arith, more)))

      -- the records of the drive are those of the first files, and its gate stands behind them
      fits_here : (recs : List Rec) (gate : Gate) (kept : Bool) → drive_at b.at.drives.each d ≡ Begun recs gate kept → AreRecords 0 o.plan.files recs × (gate ≡ next_gate o.plan (length recs))
      fits_here recs gate kept is = subst (FitsPlan o.plan) is (run.drives.each d)

      begins_fresh : (e : ℕ) → b.at.phase ≡ Begins e → e < length b.at.drives.each → drive_at b.at.drives.each e ≡ Fresh → BegunAloud o e Fresh b.at.drives k.at b.world k.world → Inv k
      begins_fresh e phase there is a = elim (cases_eq d e) [
        | inl same ↦
            let mine : drive_at b.at.drives.each d ≡ Fresh = ap (drive_at b.at.drives.each) same ∙ is in
            own mine (subst (λ (j : ℕ). BegunAloud o j Fresh b.at.drives k.at b.world k.world) (sym same) a)
        | inr differ ↦
            begin_other e a.ok (Begun [] (next_gate o.plan 0) false) differ phase a.said
            (quiet_then D d (quiet_drive D d e a.tried.0.went differ) (quiet_said D d (begin_line e 0 n a.ok) a.said a.line (begin_elsewhere d e n short (also_short e there) differ 0 n a.ok))) a.stands a.goes
      ]
        where
          own : drive_at b.at.drives.each d ≡ Fresh → BegunAloud o d Fresh b.at.drives k.at b.world k.world → Inv k
          own mine a =
              let fresh = subst (λ (x : DriveAt). Since past (Stands D d x) b.world) mine stands in
              let none : from ≡ 0 = subst (HasFrom from) mine i.enough in
              begin_mine a.ok (Begun [] (next_gate o.plan 0) false) refl (omega (arith, none)) a.said (later_then (later_went a.tried.0.went) (later_went a.line.went))
              (fresh_knows o card start stage ok d past a.ok a.tried a.said a.line fresh) a.stands a.goes

      begins_again : (e : ℕ) (recs : List Rec) (gate : Gate) (kept : Bool) → b.at.phase ≡ Begins e → e < length b.at.drives.each → drive_at b.at.drives.each e ≡ Begun recs gate kept → BegunAloud o e (Begun recs gate kept) b.at.drives k.at b.world k.world → Inv k
      begins_again e recs gate kept phase there is a = elim (cases_eq d e) [
        | inl same ↦
            let mine : drive_at b.at.drives.each d ≡ Begun recs gate kept = ap (drive_at b.at.drives.each) same ∙ is in
            let at_mine : b.at.phase ≡ Begins d = phase ∙ ap Begins (sym same) in
            own mine at_mine (subst (λ (j : ℕ). BegunAloud o j (Begun recs gate kept) b.at.drives k.at b.world k.world) (sym same) a)
        | inr differ ↦
            begin_other e a.ok (Begun recs gate kept) differ phase a.said
            (quiet_then D d (quiet_drive D d e a.tried.0.went differ) (quiet_said D d (begin_line e (length recs) n a.ok) a.said a.line (begin_elsewhere d e n short (also_short e there) differ (length recs) n a.ok))) a.stands a.goes
      ]
        where
          own : drive_at b.at.drives.each d ≡ Begun recs gate kept → b.at.phase ≡ Begins d → BegunAloud o d (Begun recs gate kept) b.at.drives k.at b.world k.world → Inv k
          own mine at_mine a =
              let t : IsToBegin d b.at.phase = subst (IsToBegin d) (sym at_mine) (omega arith) in
              let settled = subst (λ (x : DriveAt). Since past (Rests D d x) b.world) mine (i.rests t) in
              begin_mine a.ok (Begun recs gate kept) refl (subst (HasFrom from) mine i.enough) a.said (later_then (later_went a.tried.0.went) (later_went a.line.went))
              (begun_knows o card start stage ok d past recs gate kept a.ok (few_records o recs (fits_here recs gate kept mine).0) a.tried a.said a.line settled) a.stands a.goes

      begins_turn : (e : ℕ) (x : DriveAt) → b.at.phase ≡ Begins e → e < length b.at.drives.each → drive_at b.at.drives.each e ≡ x → BeginTurn o e x b.at.drives k.at b.world k.world → Inv k
      begins_turn e Fresh phase there is a = begins_fresh e phase there is a
      begins_turn e (Begun recs gate kept) phase there is a = begins_again e recs gate kept phase there is a
      begins_turn e Gone phase there is p = begin_passed e phase p
      begins_turn e (Found recs) phase there is p = begin_passed e phase p
      begins_turn e Sealed phase there is p = begin_passed e phase p

      -- ---- the drives of a file are chosen

      opened_turn : (i : ℕ) → Opened o i b.at.drives k.at b.world k.world → Inv k
      opened_turn j a =
          unmoved b.world (later_same refl) stands (quiet_same D d a.idle) (ap (λ (x : Drives). drive_at x.each d) a.drives) (subst (λ (x : Drives). is_of_run x d ≡ true) (sym a.drives) i.here)
          (λ t. absurd (subst (IsToBegin d) a.goes.0 t))

      file_turn : (j : ℕ) → FileTurn o j b.at.drives k.at b.world k.world → Inv k
      file_turn j (inl a) = opened_turn j a
      file_turn j (inr (none, p)) = passed (after_file (files_of o.plan) j) p (λ t. absurd (none_after_file (files_of o.plan) j d t))

      -- ---- a file is copied

      module _ (j : ℕ) (copy : FileCopy) (fits : FitsCopy o b.at.drives.each j copy) (a : CopyActed o j copy b.at.drives k.at b.pool k.pool b.world k.world) where
        keep : CopyKeeps (live_of copy) b.world a.mid
        keep = copy_keeps (card_of copy) (live_of copy) a.file.path b.world a.mid a.touches

        later_mid : Later b.world a.mid
        later_mid = later_went a.touches

        -- a drive of the copy stays under way
        copied_here : (recs : List Rec) (gate : Gate) (kept : Bool) → Since past (HasSaid D d recs) b.world → Since past (Stands D d (Begun recs gate kept)) a.mid
        copied_here recs gate kept h = since_later later_mid past (HasSaid D d recs) (HasSaid D d recs) (λ before all was now is.
            let u = keep.under_way d D recs past before all was now is.under_way in
            let told = is.told in
            let same = u.1 in
            record { under_way = u.0; told = omega (arith, told, same) }) h

        stands_mid : Since past (Stands D d (drive_at b.at.drives.each d)) a.mid
        stands_mid = elim (some_or_none (due j (drive_at b.at.drives.each d))) [
          | inl found ↦
              let is = (is_due j (drive_at b.at.drives.each d) found.0 found.1).is in
              let was : Since past (Stands D d (Begun found.0.recs found.0.gate found.0.kept)) b.world = subst (λ (x : DriveAt). Since past (Stands D d x) b.world) is stands in
              subst (λ (x : DriveAt). Since past (Stands D d x) a.mid) (sym is) (copied_here found.0.recs found.0.gate found.0.kept was)
          | inr none ↦
              let off : has (live_of copy) d ≡ false = fits.live d ∙ ap is_some none in
              let put = keep.others d off D in
              since_later later_mid past (Stands D d (drive_at b.at.drives.each d)) (Stands D d (drive_at b.at.drives.each d))
              (λ before all was now is. stands_still D d before all (put.stays start stage past before all was now) (drive_at b.at.drives.each d) is) stands
        ]

        -- the drives are as before
        copy_goes : k.at.drives ≡ b.at.drives → k.world ≡ a.mid → (IsToBegin d k.at.phase → ⊥) → Inv k
        copy_goes drives world none =
            unmoved a.mid later_mid stands_mid (quiet_same D d world) (ap (λ (x : Drives). drive_at x.each d) drives) (subst (λ (x : Drives). is_of_run x d ≡ true) (sym drives) i.here) (λ t. absurd (none t))

        none_copies : (next : FileCopy) → IsToBegin d (copies_on (files_of o.plan) j next) → ⊥
        none_copies next t = by (is_some (lowest (live_of next))) t
          where
            by : (left : Bool) → IsToBegin d (if left then Copies j next else after_file (files_of o.plan) j) → ⊥
            by true t = t
            by false t = none_after_file (files_of o.plan) j d t

        copy_drops : (e : ℕ) → CopyDrops (files_of o.plan) j e a.next b.at.drives k.at a.mid k.world → Inv k
        copy_drops e x = elim (cases_eq d e) [
          | inl same ↦ mine (subst (λ (z : ℕ). CopyDrops (files_of o.plan) j z a.next b.at.drives k.at a.mid k.world) (sym same) x)
          | inr differ ↦
              unmoved a.mid later_mid stands_mid (quiet_said D d _ x.said x.line (fault_none d n e)) (x.drops.each.others d differ) (dropped_of_run b.at.drives k.at.drives d e differ x.drops i.here)
              (λ t. absurd (none_copies a.next (goes_begin x.said (copies_on (files_of o.plan) j a.next) k.at d x.goes t)))
        ]
          where
            mine : CopyDrops (files_of o.plan) j d a.next b.at.drives k.at a.mid k.world → Inv k
            mine x =
                moved Gone x.said (copies_on (files_of o.plan) j a.next) (later_then later_mid (later_went x.line.went))
                (knows_lost D d past _ x.said x.line (fault_none d n d) (since_keeps D d past (drive_at b.at.drives.each d) stands_mid)) x.drops.each.here (lost_of_run b.at.drives k.at.drives d set_length x.drops) tt x.goes (none_copies a.next)

        copy_came : (came : Turn) → CopySettles (files_of o.plan) j came a.next b.at.drives k.at a.mid k.world → Inv k
        copy_came CopyGoes s = copy_goes s.0 s.2 (λ t. subst (IsToBegin d) s.1.0 t)
        copy_came (Dropped e) s = copy_drops e s
        copy_came (Copied digests) s = copy_goes s.0 s.2 (λ t. subst (IsToBegin d) s.1.0 t)
        copy_came CardFailed s = copy_goes s.0 s.2 (λ t. subst (IsToBegin d) s.1.0 t)
        copy_came (CardChanged listed read) s = copy_goes s.0 s.2 (λ t. subst (IsToBegin d) s.1.0 t)
        copy_came NoneLeft s = absurd s

        copy_turn : Inv k
        copy_turn = copy_came a.came a.settles

      -- ---- the moment of a file

      date_turn : (j : ℕ) (t : Triple) (listed : Option Listed) → DateTurn o j t listed b.at.drives k.at b.world k.world → Inv k
      date_turn j t None a =
          unmoved b.world (later_same refl) stands (quiet_asked D d a.asked) (ap (λ (x : Drives). drive_at x.each d) a.drives) (subst (λ (x : Drives). is_of_run x d ≡ true) (sym a.drives) i.here)
          (λ t. absurd (subst (IsToBegin d) a.goes.0 t))
      date_turn j t (Some l) a = ends (Altered j l t) a.0 a.1 a.2

      -- ---- a file is recorded

      record_other : (rec : Rec) (e : ℕ) (was : Journaled) → d ≢ e → e < length b.at.drives.each → RecordedAloud o rec e was b.at.drives k.at b.world k.world → Inv k
      record_other rec e was differ there a =
          unmoved b.world (later_same refl) stands
          (quiet_then D d (quiet_drive D d e a.went differ) (quiet_said D d (record_line e n a.file.path rec a.came) a.said a.line (record_elsewhere d e n short (also_short e there) differ n a.file.path rec a.came)))
          (state a.came a.stands) (here a.came a.stands) (λ t. absurd (none_after_record (length b.at.drives.each) (files_of o.plan) rec e d (goes_begin a.said (after_record (length b.at.drives.each) (files_of o.plan) rec e) k.at d a.goes t)))
        where
          state : (came : Result Gate ReadBackError) → RecordStands e was.recs rec came b.at.drives k.at.drives → drive_at k.at.drives.each d ≡ drive_at b.at.drives.each d
          state (Ok next) s = s.each.others d differ
          state (Err x) s = s.each.others d differ

          here : (came : Result Gate ReadBackError) → RecordStands e was.recs rec came b.at.drives k.at.drives → is_of_run k.at.drives d ≡ true
          here (Ok next) s = moved_of_run b.at.drives k.at.drives d e (Begun (was.recs ++ rec ∷ []) next false) differ s i.here
          here (Err x) s = dropped_of_run b.at.drives k.at.drives d e differ s i.here

      record_mine : (rec : Rec) (was : Journaled) → due rec.index (drive_at b.at.drives.each d) ≡ Some was → IsSizeOf o.plan rec.index rec.size → CameWhole o rec.index rec.triple d b.at.drives.each b.world → RecordedAloud o rec d was b.at.drives k.at b.world k.world → Inv k
      record_mine rec was is sized c a =
          let there = is_due rec.index (drive_at b.at.drives.each d) was is in
          let fit = fits_here was.recs was.gate was.kept there.is in
          let had : Since past (HasSaid D d was.recs) b.world = subst (λ (x : DriveAt). Since past (Stands D d x) b.world) there.is stands in
          let enough : from ≤ length was.recs = subst (HasFrom from) there.is i.enough in
          let at = there.index in
          let file_is : c.file ≡ a.file = one_file o.plan.files rec.index c.file a.file c.is_file a.is_file in
          let size_is : rec.size ≡ a.file.size = same_size (sym sized ∙ ap (option_map (λ (f : PlannedFile). f.size)) a.is_file) in
          let long : length c.bytes ≡ a.file.size = c.sized ∙ ap (λ (f : PlannedFile). f.size) file_is in
          let whole : c.bytes ≡ card_bytes card a.file = sym (c.card m i.steady) ∙ ap (λ (f : PlannedFile). content m f.path) file_is ∙ rest rec.index a.file a.is_file (omega (arith, enough, at)) in
          let some = slice_get_within o.plan.files rec.index a.file a.is_file in
          let waiting = waits o card start stage ok d past attached found b.world i.honest i.began was.recs was.gate rec a.file c.bytes fit.0 fit.1 (sym at) a.is_file size_is long c.digests a.shape.hashed whole (c.parts d (omega arith) (ap is_some is)).1 had in
          let knows = record_knows o card start stage ok d past was.recs was.gate a.file.path rec a.came (sym at) (omega (arith, at, some)) a.went a.records a.said a.line waiting in
          by a.came a.said a.stands knows (later_then (later_went a.went) (later_went a.line.went)) a.goes enough
        where
          same_size : {x y : ℕ} → Some x ≡ Some y → x ≡ y
          same_size both = cc both

          by : (came : Result Gate ReadBackError) (said : Bool) → RecordStands d was.recs rec came b.at.drives k.at.drives → Knows D d past said (recorded_at o card start stage ok d past was.recs rec came) k.world → Later b.world k.world → Goes said (after_record (length b.at.drives.each) (files_of o.plan) rec d) k.at
              → from ≤ length was.recs → Inv k
          by (Ok next) said s knows later goes enough =
              let more = length-append was.recs (rec ∷ []) in
              moved (Begun (was.recs ++ rec ∷ []) next false) said (after_record (length b.at.drives.each) (files_of o.plan) rec d) later knows s.each.here (of_run k.at.drives d (ap is_gone s.each.here)) (omega (arith, enough, more)) goes
              (none_after_record (length b.at.drives.each) (files_of o.plan) rec d d)
          by (Err x) said s knows later goes enough =
              moved Gone said (after_record (length b.at.drives.each) (files_of o.plan) rec d) later knows s.each.here (lost_of_run b.at.drives k.at.drives d set_length s) tt goes (none_after_record (length b.at.drives.each) (files_of o.plan) rec d d)

      record_turn : (rec : Rec) (e : ℕ) (was : Option Journaled) → e < length b.at.drives.each → due rec.index (drive_at b.at.drives.each e) ≡ was → IsSizeOf o.plan rec.index rec.size → CameWhole o rec.index rec.triple e b.at.drives.each b.world → RecordTurn o rec e was b.at.drives k.at b.world k.world → Inv k
      record_turn rec e None there is sized c p = passed (after_record (length b.at.drives.each) (files_of o.plan) rec e) p (λ t. absurd (none_after_record (length b.at.drives.each) (files_of o.plan) rec e d t))
      record_turn rec e (Some was) there is sized c a = elim (cases_eq d e) [
        | inl same ↦
            record_mine rec was (ap (λ (z : ℕ). due rec.index (drive_at b.at.drives.each z)) same ∙ is) sized (subst (λ (z : ℕ). CameWhole o rec.index rec.triple z b.at.drives.each b.world) (sym same) c)
            (subst (λ (z : ℕ). RecordedAloud o rec z was b.at.drives k.at b.world k.world) (sym same) a)
        | inr differ ↦ record_other rec e was differ there a
      ]

      -- ---- a drive is sealed

      none_seal : (e : ℕ) (said : Bool) → Goes said (after_seal (length b.at.drives.each) e) k.at → IsToBegin d k.at.phase → ⊥
      none_seal e said goes t = none_after_seal (length b.at.drives.each) e d (goes_begin said (after_seal (length b.at.drives.each) e) k.at d goes t)

      seal_other : (e : ℕ) (recs : List Rec) → d ≢ e → e < length b.at.drives.each → SealedAloud o e recs b.at.drives k.at b.world k.world → Inv k
      seal_other e recs differ there a =
          unmoved b.world (later_same refl) stands
          (quiet_then D d (quiet_asked D d a.asked) (quiet_then D d (quiet_drive D d e a.went differ) (quiet_said D d (seal_line e o.plan a.came) a.said a.line (seal_elsewhere d e n short (also_short e there) differ o.plan a.came))))
          (state a.came a.stands) (here a.came a.stands) (λ t. absurd (none_seal e a.said a.goes t))
        where
          state : (came : Result Unit SealError) → SealStands e came b.at.drives k.at.drives → drive_at k.at.drives.each d ≡ drive_at b.at.drives.each d
          state (Ok done) s = s.each.others d differ
          state (Err x) s = s.each.others d differ

          here : (came : Result Unit SealError) → SealStands e came b.at.drives k.at.drives → is_of_run k.at.drives d ≡ true
          here (Ok done) s = sealed_of_run b.at.drives k.at.drives d e differ s i.here
          here (Err x) s = dropped_of_run b.at.drives k.at.drives d e differ s i.here

      seal_put : (came : Result Unit SealError) (said : Bool) → SealStands d came b.at.drives k.at.drives → Knows D d past said (sealed_at o card start stage ok d past came) k.world → Later b.world k.world → Goes said (after_seal (length b.at.drives.each) d) k.at → Inv k
      seal_put (Ok done) said s knows later goes =
          moved Sealed said (after_seal (length b.at.drives.each) d) later knows s.each.here (of_run k.at.drives d (ap is_gone s.each.here)) tt goes (none_after_seal (length b.at.drives.each) d d)
      seal_put (Err x) said s knows later goes =
          moved Gone said (after_seal (length b.at.drives.each) d) later knows s.each.here (lost_of_run b.at.drives k.at.drives d set_length s) tt goes (none_after_seal (length b.at.drives.each) d d)

      seal_mine : (recs : List Rec) (gate : Gate) (kept : Bool) → drive_at b.at.drives.each d ≡ Begun recs gate kept → HasAtLeast (files_of o.plan) (drive_at b.at.drives.each d) → AreTidy o b.at.drives.each b.world → SealedAloud o d recs b.at.drives k.at b.world k.world → Inv k
      seal_mine recs gate kept is have tidy a =
          let few = few_records o recs (fits_here recs gate kept is).0 in
          let all : files_of o.plan ≤ length recs = subst (HasAtLeast (files_of o.plan)) is have in
          let had : Since past (HasSaid D d recs) b.world = subst (λ (x : DriveAt). Since past (Stands D d x) b.world) is stands in
          let dated : Since past (HasSaid D d recs) a.dated = stands_quiet D d past (quiet_asked D d a.asked) (Begun recs gate kept) had in
          let clean : IsTidy o.plan d b.world (Begun recs gate kept) = subst (IsTidy o.plan d b.world) is (tidy d) in
          let none = no_new_still d (asked_same a.asked d) clean.0 in
          let asked = later_went a.asked in
          let honest = ap (λ (x : Attached). x.honest d) asked.attached ∙ i.honest in
          let began = ap (λ (x : Attached). x.start d) asked.attached ∙ i.began in
          let waiting = ready o card start stage ok d past attached found a.dated honest began recs a.finish (omega (arith, few, all)) a.early none dated in
          seal_put a.came a.said a.stands (seal_knows o card start stage ok d past recs a.finish a.came a.went a.seals a.said a.line waiting) (later_then asked (later_then (later_went a.went) (later_went a.line.went))) a.goes

      seal_found : (e : ℕ) (recs : List Rec) → drive_at b.at.drives.each e ≡ Found recs → e < length b.at.drives.each → FoundAloud o e b.at.drives k.at b.world k.world → Inv k
      seal_found e recs is there a = elim (cases_eq d e) [
        | inl same ↦ own (ap (drive_at b.at.drives.each) same ∙ is) (subst (λ (z : ℕ). FoundAloud o z b.at.drives k.at b.world k.world) (sym same) a)
        | inr differ ↦
            unmoved b.world (later_same refl) stands (quiet_said D d _ a.said a.line (sealing_elsewhere d e n short (also_short e there) differ n (list_of o.plan))) (a.stands.each.others d differ)
            (sealed_of_run b.at.drives k.at.drives d e differ a.stands i.here) (λ t. absurd (none_seal e a.said a.goes t))
      ]
        where
          own : drive_at b.at.drives.each d ≡ Found recs → FoundAloud o d b.at.drives k.at b.world k.world → Inv k
          own mine a =
              let had : Since past (IsSealed D d recs) b.world = subst (λ (x : DriveAt). Since past (Stands D d x) b.world) mine stands in
              moved Sealed a.said (after_seal (length b.at.drives.each) d) (later_went a.line.went) (found_knows o card start stage ok d past recs a.said a.line had) a.stands.each.here (of_run k.at.drives d (ap is_gone a.stands.each.here)) tt a.goes
              (none_after_seal (length b.at.drives.each) d d)

      seal_turn : (e : ℕ) (x : DriveAt) → drive_at b.at.drives.each e ≡ x → FitsSeal o b.at.drives.each e → AreTidy o b.at.drives.each b.world → SealTurn o e x b.at.drives k.at b.world k.world → Inv k
      seal_turn e Gone is fits tidy p = passed (after_seal (length b.at.drives.each) e) p (λ t. absurd (none_after_seal (length b.at.drives.each) e d t))
      seal_turn e Sealed is fits tidy p = passed (after_seal (length b.at.drives.each) e) p (λ t. absurd (none_after_seal (length b.at.drives.each) e d t))
      seal_turn e Fresh is fits tidy never = absurd never
      seal_turn e (Found recs) is fits tidy a = seal_found e recs is fits.there a
      seal_turn e (Begun recs gate kept) is fits tidy a = elim (cases_eq d e) [
        | inl same ↦ seal_mine recs gate kept (ap (drive_at b.at.drives.each) same ∙ is) (fits.have d) tidy (subst (λ (z : ℕ). SealedAloud o z recs b.at.drives k.at b.world k.world) (sym same) a)
        | inr differ ↦ seal_other e recs differ fits.there a
      ]

      -- ---- the card is called clear

      clear_turn : (required sealed : ℕ) (due : Bool) → k.at.drives ≡ b.at.drives → ClearTurn required sealed due k.at b.world k.world → Inv k
      clear_turn required sealed true drives a =
          unmoved b.world (later_same refl) stands (quiet_said D d _ a.said a.line (clear_none d n sealed required)) (ap (λ (x : Drives). drive_at x.each d) drives) (subst (λ (x : Drives). is_of_run x d ≡ true) (sym drives) i.here)
          (λ t. absurd (subst (IsToBegin d) a.ends.0 t))
      clear_turn required sealed false drives a = ends (end_of sealed) drives a.0 a.1

      turn_on : (phase : Phase) → b.at.phase ≡ phase → (phase ≡ Ended → ⊥) → Fits o b.at.drives.each phase → PartsAt o phase b.at.drives.each b.pool b.world → Acted o phase b.at k.at b.pool k.pool b.world k.world → Inv k
      turn_on (Begins e) is goes fits parts t = begins_turn e (drive_at b.at.drives.each e) is fits.0 refl t
      turn_on (File j) is goes fits parts t = file_turn j t
      turn_on (Copies j copy) is goes fits parts t = copy_turn j copy fits t
      turn_on (Dates j t) is goes fits parts a = date_turn j t (other_listed o.listed j t) a
      turn_on (Records rec e) is goes fits parts t = record_turn rec e (due rec.index (drive_at b.at.drives.each e)) fits.there refl fits.sized parts t
      turn_on (Seals e) is goes fits parts t = seal_turn e (drive_at b.at.drives.each e) refl fits parts t
      turn_on Clears is goes fits parts t = clear_turn o.copies (count_sealed b.at.drives.each) (is_clear (count_sealed b.at.drives.each) o.copies) t.0 t.1
      turn_on Ended is goes fits parts t = absurd (goes refl)

    -- ---- a run that has ended, and what others do

    -- all is as before
    as_before : k.at ≡ b.at → Quiet D d b.world k.world → Inv k
    as_before same q = record {
      honest = ap (λ (a : Attached). a.honest d) q.later.attached ∙ i.honest;
      began = ap (λ (a : Attached). a.start d) q.later.attached ∙ i.began;
      steady = steady_later o.source m q.later i.steady;
      here = subst (λ (t : At). is_of_run t.drives d ≡ true) (sym same) i.here;
      enough = subst (λ (t : At). HasFrom from (drive_at t.drives.each d)) (sym same) i.enough;
      keeps = keeps_quiet D d past q i.keeps;
      stands = subst (λ (t : At). t.outcome ≢ OutFailed → Since past (Stands D d (drive_at t.drives.each d)) k.world) (sym same) (λ ne. stands_quiet D d past q (drive_at b.at.drives.each d) (i.stands ne));
      rests = subst (λ (t : At). IsToBegin d t.phase → Since past (Rests D d (drive_at t.drives.each d)) k.world) (sym same) (λ t. rests_quiet D d past q (drive_at b.at.drives.each d) (i.rests t));
    }

    beside_turn : Beside o b k → Inv k
    beside_turn x = as_before x.same (record {
      later = later_went x.went;
      stays = went_away (offload d D.work D.start) d (IsElsewhere b.at.drives) (λ line. announces d n line ≡ 0) (went_such (λ L are. beside_lines o b.at.drives d n i.here L are) x.went) (λ y on is. on d i.here is) (λ line none. none);
    })

    turn : IsRun o b.at → IsRun o k.at → PartsReady o b → Acted o b.at.phase b.at k.at b.pool k.pool b.world k.world → Inv k
    turn run after parts t = elim (ended_or b.at.phase) [
      | inl is ↦ let none = subst (λ (x : Phase). Acted o x b.at k.at b.pool k.pool b.world k.world) is t in as_before none.0 (quiet_same D d none.2)
      | inr on ↦
          let going = run.outcome.1 on in
          turn_on run after (i.stands (λ out. absurd (cc (sym going ∙ out)))) b.at.phase refl on run.fits parts t
    ]

  pub runs_inv : ((a b : Point) → IsRun o a.at → Runs o a b → IsRun o b.at) → ((a b : Point) → IsRun o a.at → PartsReady o a → Runs o a b → PartsReady o b) → (a b : Point) → IsRun o a.at → PartsReady o a → Inv a → Runs o a b → Inv b
  runs_inv rules parts a b run ready i starts = i
  runs_inv rules parts a b run ready i (turns {b = x} {c = y} so_far t) = turn x y (runs_inv rules parts a x run ready i so_far) (rules a x run so_far) (rules a y run (turns so_far t)) (parts a x run ready so_far) t
  runs_inv rules parts a b run ready i (beside {b = x} {c = y} so_far others) = beside_turn x y (runs_inv rules parts a x run ready i so_far) others
