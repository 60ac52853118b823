-- The map of a drive that a run sealed is final.
use Rattle.std.proofs.Common.{◌≡◌, ◌≢◌, inl, inr, ℕ, ◌<◌, ◌≤◌, Bool, true, false, cond, List, [], ◌∷◌, ◌++◌, length, refl, sym, ap, ◌∙◌, subst, arith, append_assoc, append-nil}
use Rattle.std.specs.Prelude.{Some, None, Ok, Contains, is_ok}
use Rattle.std.specs.FinMap.{get}
use Rattle.std.proofs.lemmas.Bool.{false_from_ne_true, false≢true}
use Rattle.std.proofs.lemmas.List.{append_cancel_left}
use Rattle.std.proofs.lemmas.List.Elements.{Contains-append_right}
use Rattle.bay_core.specs.declared.event.Event.{Event}
use Rattle.bay_core.specs.declared.event.Event.TheVariants.{Moment, Say}
use Rattle.bay_core.specs.Left.{IsSettled}
use Rattle.bay_core.specs.Looks.{IsUntouched}
use Rattle.bay_core.specs.Map.{Map}
use Rattle.bay_core.specs.Paths.{IsScratch, journal_path, new_path, part_path}
use Rattle.bay_core.specs.Replay.{Drive, device_of, is_on, calls_on, reads}
use Rattle.bay_core.specs.Went.{AllOn, Ran, Went, say_call}
use Rattle.bay_core.specs.World.{World, Attached, Honest}
use Rattle.bay_core.proofs.Looking.{untouched_none}
use Rattle.bay_core.proofs.Rest.{untouched_reads, untouched_settled}
use Rattle.bay_core.proofs.Runs.{all_ran}
use Rattle.crash_law.specs.Protocol.{IsSafe, Settled, reached}
use Rattle.crash_law.proofs.Safe.{of_here, settled, restarts}
use Rattle.copy_plan.specs.declared.file.PlannedFile.{PlannedFile}
use Rattle.copy_plan.specs.Plan.{PlanValue, IsPlan, list_of}
use Rattle.drive_journal.specs.declared.record.Rec.{Rec}
use Rattle.drive_journal.specs.Journal.{AreRecords, journal_code}
use Rattle.drive_journal.specs.Steps.{IsThere}
use Rattle.fan_core.specs.Flags.{has, no_drives}
use Rattle.fan_core.proofs.Rules.{none_lowest}
use Rattle.offload_law.specs.Sealing.{plan_list_text}
use Rattle.offload_law.specs.Stages.{Offload, Stage, Begun as BegunStage, Sealed as SealedStage, IsAt, IsTouched}
use Rattle.offload_law.specs.Steps.{Holds, offload}
use Rattle.offload_law.proofs.Plans.{journal_not_new, not_journal, not_scratch, list_free}
use Rattle.recording.specs.Drives.{Copying, In}
use Rattle.recording.proofs.Leads.{new_not_part}
use Rattle.report_text.specs.Run.{sealed_text}
use Rattle.seal_step.specs.Calls.{SealCalls}
use Rattle.seal_step.specs.Parts.{list_parts}
use Rattle.seal_step.specs.Sealing.{ReadyToSeal}
use Rattle.run_state.specs.declared.outcome.Outcome.TheVariants.{OutFailed}
use Rattle.run_state.specs.Acts.{Goes, records_at, seal_line}
use Rattle.run_state.specs.Rules.{FitsPlan, HasAtLeast, Fits, FitsSeal, IsRun}
use Rattle.run_state.specs.Runs.{Point, Alone, Runs, turned}
use Rattle.run_state.specs.State.{Ordered, DriveAt, Gone, Fresh, Begun, Found, Sealed, At, files_of, drive_at, is_sealed, IsCalled, after_seal}
use Rattle.run_steps.specs.Parts.{PartsReady, AreClean, IsClean, NoNew}
use Rattle.run_steps.specs.Stands.{Since as StepsSince, HasSaid, Stands, Awaits, Rests}
use Rattle.run_steps.specs.Steps.{IsFor}
use Rattle.run_steps.proofs.Drives.{in_range, of_run}
use Rattle.run_steps.proofs.Keeping.{HasFrom, Inv, runs_inv}
use Rattle.run_steps.proofs.Own.{offload_of, few_records, ready}
use Rattle.run_steps.proofs.Standing.{quiet_asked, stands_quiet, since_keeps}
use Rattle.run_steps.proofs.Still.{asked_same, no_new_still, no_part_still}
use Rattle.run_steps.proofs.Telling.{later_went, since_later, since_more}
use Rattle.run_reads.specs.Backs.{IsListReadBack}
use Rattle.run_reads.specs.Parts.{Starts}
use Rattle.run_reads.proofs.Since.{Since}
use Rattle.run_final.specs.Final.{IsOfPlan, IsMadeFinal, IsDatedSo, WasSealed}
use Rattle.run_final.proofs.Exact.{IsExact, exact_after}
use Rattle.run_final.proofs.Made.{AreMade, MadeOf, TurnsGo, made_after}
use Rattle.run_final.proofs.Pivot.{SealTurn, seal_turn, ended_stays}

-- what the laws below say of turns
pub record TurnLaws : Type 0 where
  pub safe : (d : ℕ) (o : Offload) → IsPlan o.plan → (base : Map) → IsSafe (offload d o base)
  pub go : (o : Ordered) → TurnsGo o
  pub runs : (o : Ordered) (a b : Point) → Alone o a b → Runs o a b
  pub rules : (o : Ordered) (a b : Point) → IsRun o a.at → Runs o a b → IsRun o b.at
  pub calls : (o : Ordered) (a b : Point) → IsRun o a.at → Alone o a b → (d : ℕ) → (IsCalled (drive_at a.at.drives.each d) → ⊥) → Went (λ x. x ≢ Drive d) (λ L. Unit {0}) a.world b.world
  pub parts : (o : Ordered) (a b : Point) → IsRun o a.at → PartsReady o a → Runs o a b → PartsReady o b
  pub clean : (o : Ordered) (a b : Point) → IsRun o a.at → PartsReady o a → Runs o a b → AreClean b

-- ---- lists of calls

-- calls on other devices are none on the drive
calls_off : (d : ℕ) (L : List Event) → AllOn (λ x. x ≢ Drive d) L → calls_on d L ≡ []
unfolding AllOn
calls_off d [] on = refl
calls_off d (e ∷ L) on =
    let off : is_on d (device_of e) ≡ false = false_from_ne_true (is_on d (device_of e)) (λ here. on.0 (of_here d (device_of e) here)) in
    ap (λ (b : Bool). cond b (e ∷ calls_on d L) (calls_on d L)) off ∙ calls_off d L on.1

same_list : (A B : List Event) → Some A ≡ Some B → A ≡ B
same_list A B e = cc e

-- what is known of calls behind those of before
steps_at : {P : List Event → Type 0} {w : World} (past : List Event) → StepsSince past P w → (L : List Event) → w.events ≡ Some (past ++ L) → P L
steps_at {P} past h L now = let found = h.calls (past ++ L) now in subst P (append_cancel_left past found.0 L (sym found.1)) found.2

-- ---- paths

part_not_new : part_path ≢ new_path
part_not_new is = new_not_part (sym is)

-- a path that is neither a scratch path nor one of the plan was not touched
not_touched : (o : Ordered) (steps : ℕ) (q : List ℕ) → (IsScratch q → ⊥) → (IsOfPlan o.plan q → ⊥) → IsTouched o.plan steps q → ⊥
not_touched o steps q scratch of (inl is) = scratch is
not_touched o steps q scratch of (inr (inl is)) = of (inl is.1)
not_touched o steps q scratch of (inr (inr (inl b))) =
    of (inr (inr (b.file, subst (λ (files : List PlannedFile). Contains files b.file) (sym b.is) (Contains-append_right b.before (b.file ∷ b.after) b.file (0, omega arith, refl)), b.path)))
not_touched o steps q scratch of (inr (inr (inr is))) = of (inr (inl is.1))

-- a drive has the records that it has
has_its_own : (x : DriveAt) → HasFrom (length (records_at x)) x
has_its_own Gone = tt
has_its_own Fresh = refl
has_its_own (Begun recs gate kept) = omega arith
has_its_own (Found recs) = tt
has_its_own Sealed = tt

-- a run as it is made has no drive sealed
pub none_sealed : (o : Ordered) (a : Point) → Starts o a → (d : ℕ) → drive_at a.at.drives.each d ≢ Sealed
none_sealed o a s d is =
    let said : has a.at.drives.sealed d ≡ true = s.run.run.drives.said d ∙ ap is_sealed is in
    false≢true (sym (ap (λ (set : List Bool). has set d) s.run.sets.0 ∙ none_lowest no_drives refl d) ∙ said)

module _ (laws : TurnLaws) (o : Ordered) (a b : Point) (s : Starts o a) (tidy : PartsReady o a) (d : ℕ) (attached card : Map) (past : List Event) (mine start : Map) (stage : Stage) (h : IsFor o d (offload_of o mine start stage) attached card past a) (L : List Event) (was : a.world.events ≡ Some past)
    (now : b.world.events ≡ Some (past ++ L)) (heard : b.at.outcome ≢ OutFailed) (t : SealTurn o a b d) where
  abbrev D : Copying
  D = offload_of o mine start stage

  abbrev m : Point
  m = t.point

  abbrev c : Point
  c = t.next

  abbrev recs : List Rec
  recs = t.recs

  abbrev finish : ℕ
  finish = t.act.finish

  abbrev text : List ℕ
  text = plan_list_text o.plan recs finish

  run_a : IsRun o a.at
  run_a = s.run.run

  runs_m : Runs o a m
  runs_m = laws.runs o a m t.front

  run_m : IsRun o m.at
  run_m = laws.rules o a m run_a runs_m

  run_c : IsRun o c.at
  run_c = laws.rules o a c run_a (laws.runs o a c (turned t.front t.turn))

  -- ---- the drive before the turn

  low : d < 8
  low = let there = in_range a.at.drives.each d h.of_run in let few = run_a.drives.few in omega (arith, there, few)

  begun_so : StepsSince past (Stands D d (drive_at a.at.drives.each d)) a.world
  begun_so = since_more past (Awaits D d a.at.phase (drive_at a.at.drives.each d)) (Stands D d (drive_at a.at.drives.each d)) (λ K at is. is.stands) h.awaits

  abbrev InvAt : Point → Type 0
  InvAt x = Inv o mine start stage h.offload d low attached card past h.found.start (length (records_at (drive_at a.at.drives.each d))) h.rest x

  first : InvAt a
  first = record {
    honest = h.honest;
    began = h.start;
    steady = h.steady;
    here = of_run a.at.drives d h.of_run;
    enough = has_its_own (drive_at a.at.drives.each d);
    keeps = since_keeps D d past (drive_at a.at.drives.each d) begun_so;
    stands = λ ne. begun_so;
    rests = λ to. since_more past (Awaits D d a.at.phase (drive_at a.at.drives.each d)) (Rests D d (drive_at a.at.drives.each d)) (λ K at is. is.rests to) h.awaits;
  }

  inv : InvAt m
  inv = runs_inv o mine start stage h.offload d low attached card past h.found.start (length (records_at (drive_at a.at.drives.each d))) h.rest (laws.rules o) (laws.parts o) a m run_a tidy first runs_m

  had : StepsSince past (HasSaid D d recs) m.world
  had =
      let going = run_m.outcome.1 (λ ended. cc (sym t.phase ∙ ended)) in
      subst (λ (x : DriveAt). StepsSince past (Stands D d x) m.world) t.stood (inv.stands (λ out. cc (sym going ∙ out)))

  are : AreRecords 0 o.plan.files recs
  are = let fits : FitsPlan o.plan (Begun recs t.gate t.part) = subst (FitsPlan o.plan) t.stood (run_m.drives.each d) in fits.0

  full : length recs ≡ length o.plan.files
  full =
      let few = few_records o recs are in
      let fits : FitsSeal o m.at.drives.each d = subst (Fits o m.at.drives.each) t.phase run_m.fits in
      let all : files_of o.plan ≤ length recs = subst (HasAtLeast (files_of o.plan)) t.stood (fits.have d) in
      omega (arith, few, all)

  clean : IsClean d m.world (Begun recs t.gate t.part)
  clean = subst (IsClean d m.world) t.stood (laws.clean o a m run_a tidy runs_m d t.phase d)

  honest_dated : t.act.dated.attached.honest d ≡ true
  honest_dated = ap (λ (x : Attached). x.honest d) t.act.asked.attached ∙ inv.honest

  began_dated : t.act.dated.attached.start d ≡ Some attached
  began_dated = ap (λ (x : Attached). x.start d) t.act.asked.attached ∙ inv.began

  none_waits : NoNew d t.act.dated
  none_waits = no_new_still d (asked_same t.act.asked d) clean.0

  waiting : StepsSince past (λ K. ReadyToSeal D d K recs finish (list_of o.plan) text) t.act.dated
  waiting =
      let dated : StepsSince past (HasSaid D d recs) t.act.dated = stands_quiet D d past (quiet_asked D d t.act.asked) (Begun recs t.gate t.part) had in
      ready o mine start stage h.offload d past attached h.found.start t.act.dated honest_dated began_dated recs finish full t.act.early none_waits dated

  -- ---- the sealing

  well_ok : is_ok t.act.came ≡ true
  well_ok = ap is_ok t.well

  sealed_mid : StepsSince past (λ K. In D d K (Settled (SealedStage recs finish))) t.act.mid
  sealed_mid =
      since_later (later_went t.act.went) past (λ K. ReadyToSeal D d K recs finish (list_of o.plan) text) (λ K. In D d K (Settled (SealedStage recs finish)))
      (λ before all w n is. t.act.seals.done well_ok D h.offload recs finish past before all w n is) waiting

  -- ---- the line

  said_so : t.act.said ≡ true
  said_so = by t.act.said refl t.act.goes
    where
      by : (said : Bool) → t.act.said ≡ said → Goes said (after_seal (length m.at.drives.each) d) c.at → t.act.said ≡ true
      by true is goes = is
      by false is goes = absurd (heard (ap (λ (x : At). x.outcome) (ended_stays o c b goes.0 t.back) ∙ goes.1))

  the_line : seal_line d o.plan t.act.came ≡ sealed_text d (files_of o.plan) (list_of o.plan)
  the_line = ap (seal_line d o.plan) t.well

  -- ---- the calls

  over : Went (λ x. x ≢ Drive d) (λ K. Unit {0}) c.world b.world
  over = laws.calls o c b run_c t.back d (λ called. subst IsCalled t.now called)

  -- the calls of the run: those before the turn, the moment, those of the sealing, the line, and those after it
  record Parts : Type 0 where
    front : List Event
    sealing : List Event
    after : List Event
    at_point : m.world.events ≡ Some (past ++ front)
    at_dated : t.act.dated.events ≡ Some (past ++ (front ++ Moment finish ∷ []))
    at_mid : t.act.mid.events ≡ Some (past ++ (front ++ Moment finish ∷ sealing))
    is : L ≡ (front ++ Moment finish ∷ sealing) ++ Say (sealed_text d (files_of o.plan) (list_of o.plan)) true ∷ after
    made : AreMade o s.run.run.plan a d recs front
    sealed : SealCalls d (list_of o.plan) (list_parts o.plan recs finish) (Ok tt) sealing
    off : AllOn (λ x. x ≢ Drive d) after

  made_before : Since (MadeOf o s.run.run.plan a d (Begun recs t.gate t.part)) a.world m.world
  made_before = subst (λ (x : DriveAt). Since (MadeOf o s.run.run.plan a d x) a.world m.world) t.stood (made_after o a s d (λ x alone. laws.rules o a x run_a (laws.runs o a x alone)) (laws.go o) m t.front).made

  parts : Parts
  parts =
      let last = over.told (past ++ L) now in
      let line = t.act.line.went.told last.before last.was in
      let seal = t.act.went.told line.before line.was in
      let asked = t.act.asked.told seal.before seal.was in
      let made = made_before.told asked.before asked.was in
      let start_is : made.before ≡ past = same_list made.before past (sym made.was ∙ was) in
      let point_is : asked.before ≡ past ++ made.since = made.is ∙ ap (λ (l : List Event). l ++ made.since) start_is in
      let dated_is : seal.before ≡ past ++ (made.since ++ Moment finish ∷ []) =
      asked.is ∙ (λ i. point_is i ++ asked.such i) ∙ append_assoc past made.since (Moment finish ∷ []) in
      let mid_is : line.before ≡ past ++ (made.since ++ Moment finish ∷ seal.since) =
      seal.is ∙ ap (λ (l : List Event). l ++ seal.since) dated_is ∙ append_assoc past (made.since ++ Moment finish ∷ []) seal.since ∙ ap (λ (l : List Event). past ++ l) (append_assoc made.since (Moment finish ∷ []) seal.since) in
      let one : line.since ≡ Say (sealed_text d (files_of o.plan) (list_of o.plan)) true ∷ [] =
      all_ran (say_call (seal_line d o.plan t.act.came) ∷ []) line.since (subst (λ (k : Bool). Ran (say_call (seal_line d o.plan t.act.came) ∷ []) k line.since) said_so line.such) ∙ ap (λ (x : List ℕ). Say x true ∷ []) the_line in
      let L_mid = made.since ++ Moment finish ∷ seal.since in
      let whole : past ++ L ≡ past ++ (L_mid ++ Say (sealed_text d (files_of o.plan) (list_of o.plan)) true ∷ last.since) =
      last.is ∙ ap (λ (l : List Event). l ++ last.since) (line.is ∙ (λ i. mid_is i ++ one i)) ∙ append_assoc (past ++ L_mid) (Say (sealed_text d (files_of o.plan) (list_of o.plan)) true ∷ []) last.since
      ∙ append_assoc past L_mid (Say (sealed_text d (files_of o.plan) (list_of o.plan)) true ∷ last.since) in
      record {
        front = made.since;
        sealing = seal.since;
        after = last.since;
        at_point = asked.was ∙ ap Some point_is;
        at_dated = seal.was ∙ ap Some dated_is;
        at_mid = line.was ∙ ap Some mid_is;
        is = append_cancel_left past L (L_mid ++ Say (sealed_text d (files_of o.plan) (list_of o.plan)) true ∷ last.since) whole;
        made = made.such;
        sealed = subst (λ r. SealCalls d (list_of o.plan) (list_parts o.plan recs finish) r seal.since) t.well seal.such;
        off = last.on;
      }

  abbrev L_mid : List Event
  L_mid = parts.front ++ Moment finish ∷ parts.sealing

  back : IsListReadBack (IsDatedSo o) o a d L_mid
  back = record {
    front = parts.front;
    sealing = parts.sealing;
    finish = finish;
    early = t.act.early;
    recs = recs;
    recorded = record { made = parts.made.made; is = parts.made.is; each = are; full = full; on_drive = parts.made.on_drive };
    calls = refl;
    text = t.act.text;
    sealed = parts.sealed;
  }

  -- ---- the map

  abbrev R : Map
  R = reads attached (past ++ L_mid) d

  same_read : R ≡ reads start L_mid d
  same_read = (restarts attached past d).read L_mid ∙ ap (λ (x : Map). reads x L_mid d) h.found.start

  holds : Holds (record { plan = o.plan; card = mine }) start (SealedStage recs finish) R
  holds =
      let P = offload d D.work D.start in
      let at_start : Holds D.work D.start stage D.start = record { at = h.offload.at; rest = record { same = λ q off. refl } } in
      let law = settled P (laws.safe d D.work h.offload.plan D.start) D.start stage (SealedStage recs finish) at_start d L_mid (steps_at past sealed_mid L_mid parts.at_mid) in
      subst (Holds D.work D.start (SealedStage recs finish)) (sym same_read) law.1

  honest_at : Honest t.act.dated d attached (past ++ (parts.front ++ Moment finish ∷ []))
  honest_at = record { honest = honest_dated; start = began_dated; events = parts.at_dated }

  rests : IsSettled attached (past ++ L_mid) d × IsThere (list_of o.plan) text (reads attached (past ++ (parts.front ++ Moment finish ∷ [])) d) R
  rests = t.act.rests.done well_ok attached (past ++ (parts.front ++ Moment finish ∷ [])) (past ++ L_mid) honest_at (none_waits attached (past ++ (parts.front ++ Moment finish ∷ [])) honest_at) parts.at_mid

  plan : IsPlan o.plan
  plan = run_a.plan

  part_not_list : part_path ≢ list_of o.plan
  part_not_list is = not_scratch (list_of o.plan) (list_free o.plan plan) (inr (sym is))

  no_scratch : (q : List ℕ) → IsScratch q → get R q ≡ None
  no_scratch q (inl is) = ap (get R) is ∙ rests.1.no_scratch
  no_scratch q (inr is) =
      ap (get R) is ∙ rests.1.others part_path part_not_new part_not_list
      ∙ no_part_still d (asked_same t.act.asked d) clean.1 attached (past ++ (parts.front ++ Moment finish ∷ [])) honest_at

  -- a drive that had no journal was not begun
  exact_start : get start journal_path ≡ None → (x : DriveAt) → drive_at a.at.drives.each d ≡ x → IsExact o.plan d a.world x
  exact_start none Gone is = tt
  exact_start none Fresh is = tt
  exact_start none (Found those) is = tt
  exact_start none Sealed is = tt
  exact_start none (Begun those gate part) is =
      let stood : StepsSince past (HasSaid D d those) a.world = subst (λ (x : DriveAt). StepsSince past (Stands D d x) a.world) is begun_so in
      let said = steps_at past stood [] (was ∙ ap Some (sym (append-nil past))) in
      let at_stage : stage ≡ BegunStage those = ap reached said.under_way.is_in ∙ said.under_way.at in
      let at = subst (IsAt D.work D.start) at_stage h.offload.at in
      absurd (cc (sym none ∙ at.0.stands))

  exact_now : get start journal_path ≡ None → get R journal_path ≡ Some (journal_code o.plan recs ++ 0 ∷ [])
  exact_now none =
      let at_point : IsExact o.plan d m.world (Begun recs t.gate t.part) =
      subst (IsExact o.plan d m.world) t.stood (exact_after o d a (λ x alone. laws.rules o a x run_a (laws.runs o a x alone)) (exact_start none (drive_at a.at.drives.each d) refl) m t.front) in
      let before = (asked_same t.act.asked d).back attached (past ++ (parts.front ++ Moment finish ∷ [])) honest_at in
      rests.1.others journal_path journal_not_new (λ is. not_journal (list_of o.plan) (list_free o.plan plan) (sym is)) ∙ ap (λ (x : Map). get x journal_path) before.2 ∙ at_point attached before.0 before.1

  bytes_are : (x y : List ℕ) → Some x ≡ Some y → x ≡ y
  bytes_are x y e = cc e

  final_mid : IsMadeFinal mine start o.plan recs finish R
  final_mid = record {
    scratch = no_scratch;
    recorded = holds.at.0.recorded;
    full = full;
    bytes = holds.at.0.bytes;
    journal = holds.at.0.stands;
    holds = holds.at.0.holds;
    exact = λ none. bytes_are holds.at.0.bytes (journal_code o.plan recs ++ 0 ∷ []) (sym holds.at.0.stands ∙ exact_now none);
    list = rests.1.file;
    early = t.act.early;
    rest = λ q scratch of. holds.rest.same q (not_touched o _ q scratch of);
  }

  -- ---- no call on the drive comes behind the line

  abbrev late : List Event
  late = Say (sealed_text d (files_of o.plan) (list_of o.plan)) true ∷ parts.after

  untouched : IsUntouched (calls_on d late)
  untouched = subst IsUntouched (sym (calls_off d parts.after parts.off)) untouched_none

  all_is : past ++ L ≡ (past ++ L_mid) ++ late
  all_is = ap (λ (l : List Event). past ++ l) parts.is ∙ sym (append_assoc past L_mid late)

  pub was_sealed : WasSealed (IsDatedSo o) o a d D attached past L
  unfolding back
  was_sealed = record {
    before = L_mid;
    after = parts.after;
    says = parts.is;
    back = back;
    final = subst (IsMadeFinal mine start o.plan recs finish) (sym (ap (λ (l : List Event). reads attached l d) all_is ∙ untouched_reads attached (past ++ L_mid) late d untouched)) final_mid;
    settled = subst (λ (l : List Event). IsSettled attached l d) (sym all_is) (untouched_settled attached (past ++ L_mid) late d untouched rests.0);
    point = m;
    led = t.front;
    gate = t.gate;
    kept = t.part;
    stood = t.stood;
    there = parts.at_point;
  }

-- of any offload by the run's plan
pub sealed_finally : TurnLaws → (o : Ordered) (a b : Point) → Starts o a → PartsReady o a → (d : ℕ) (D : Copying) (attached card : Map) (past : List Event) → IsFor o d D attached card past a → Alone o a b → (L : List Event) → a.world.events ≡ Some past → b.world.events ≡ Some (past ++ L) → b.at.outcome ≢ OutFailed
    → drive_at b.at.drives.each d ≡ Sealed → ((recs : List Rec) → drive_at a.at.drives.each d ≢ Found recs) → WasSealed (IsDatedSo o) o a d D attached past L
sealed_finally laws o a b s tidy d D attached card past h alone L was now heard is unfound =
    let same : D ≡ offload_of o D.work.card D.start D.stage = ap (λ (p : PlanValue). record { work = record { plan = p; card = D.work.card }; start = D.start; stage = D.stage }) h.plan in
    let t = seal_turn o a d (λ x way. laws.rules o a x s.run.run (laws.runs o a x way)) (none_sealed o a s d) unfound b alone is in
    subst (λ (E : Copying). WasSealed (IsDatedSo o) o a d E attached past L) (sym same)
    (was_sealed laws o a b s tidy d attached card past D.work.card D.start D.stage (subst (λ (E : Copying). IsFor o d E attached card past a) same h) L was now heard t)
