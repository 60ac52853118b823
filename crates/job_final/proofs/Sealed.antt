-- A drive of a run that came to the end of its turns, whose count did not rise, is sealed, and its map is final.
use Rattle.std.proofs.Common.{◌≡◌, ◌≢◌, inl, inr, ℕ, zero, suc, ◌+◌, ◌-◌, ◌^◌, ◌<◌, ◌≤◌, true, List, [], ◌∷◌, ◌++◌, length, map, replicate, refl, sym, ap, ◌∙◌, subst, arith, append_assoc}
use Rattle.std.specs.Prelude.{Some, None, Ok, Contains}
use Rattle.std.specs.FinMap.{get}
use Rattle.std.specs.List.{slice_get, flat_map}
use Rattle.std.proofs.lemmas.List.Elements.{Contains-append_left, Contains-append_right, Contains-push}
use Rattle.bay_core.specs.declared.event.Event.{Event}
use Rattle.bay_core.specs.declared.event.Event.TheVariants.{SourceRead, Sync, Rename, Moment, Say}
use Rattle.bay_core.specs.Left.{IsSettled}
use Rattle.bay_core.specs.Looks.{IsUntouched}
use Rattle.bay_core.specs.Map.{Map, Dates, AllDated}
use Rattle.bay_core.specs.Paths.{journal_path, new_path}
use Rattle.bay_core.specs.Replay.{Drive, Output, calls_on, reads}
use Rattle.bay_core.specs.Went.{AllOn, Only, Then}
use Rattle.bay_core.specs.World.{World, Attached, Honest, Steady}
use Rattle.bay_core.proofs.Looking.{untouched_append}
use Rattle.bay_core.proofs.Replays.{calls_on-append, reads_by_calls}
use Rattle.bay_core.proofs.Rest.{left_same}
use Rattle.bay_core.proofs.Runs.{all_ran}
use Rattle.card_inventory.specs.Card.{IsInventoryOfCard}
use Rattle.copy_plan.specs.declared.file.PlannedFile.{PlannedFile}
use Rattle.copy_plan.specs.Plan.{PlanValue, list_of}
use Rattle.digest_set.specs.Triple.{triple}
use Rattle.drive_journal.specs.declared.order.DriveStart.{DriveStart}
use Rattle.drive_journal.specs.declared.order.DriveStart.TheVariants.{Gone as GoneStart, Fresh as FreshStart, Begun as BegunStart, Sealed as SealedStart}
use Rattle.drive_journal.specs.declared.order.Order.{Order}
use Rattle.drive_journal.specs.declared.record.Rec.{Rec}
use Rattle.drive_journal.specs.Look.{next_gate}
use Rattle.drive_journal.specs.Record.{closed_record}
use Rattle.fan_core.specs.Flags.{has}
use Rattle.fresh_opening.specs.Openings.{FreshLooks, start_of, starts_of}
use Rattle.fresh_opening.specs.Orders.{start_at, IsTrueStart}
use Rattle.fresh_opening.specs.Sights.{Sight, Dropped, Found as SightFound}
use Rattle.last_lines.specs.Ends.{Ended}
use Rattle.offload_law.specs.Clear.{IsSaid}
use Rattle.offload_law.specs.Sealing.{plan_list_text}
use Rattle.offload_law.specs.Stages.{Stage, IsOfCard}
use Rattle.offload_run.specs.declared.offload.Offload.{Offload}
use Rattle.offload_run.specs.Offload.{ordered_of, begins_at}
use Rattle.read_back.specs.Back.{WholeCalls}
use Rattle.recording.specs.Drives.{Copying}
use Rattle.report_text.specs.Run.{sealed_text}
use Rattle.seal_step.specs.Parts.{naming}
use Rattle.run_state.specs.declared.outcome.Outcome.TheVariants.{OutFailed}
use Rattle.run_state.specs.Acts.{records_at}
use Rattle.run_state.specs.Rules.{IsStart}
use Rattle.run_state.specs.Runs.{Point, Alone, Runs, is_about}
use Rattle.run_state.specs.State.{Ordered, DriveAt, Gone, Fresh, Begun, Found, Sealed, files_of, drive_at, is_gone, is_sealed, is_of_run}
use Rattle.run_steps.specs.Parts.{PartsReady}
use Rattle.run_steps.specs.Steps.{IsFor}
use Rattle.run_reads.specs.Backs.{IsReadBack as RunReadBack, IsMadeOn, recording_calls}
use Rattle.run_reads.specs.Parts.{Starts}
use Rattle.run_reads.specs.Reads.{got_in, reads_of, card_given}
use Rattle.run_reads.proofs.Cards.{reads_append}
use Rattle.run_reads.proofs.Since.{Since, since_at}
use Rattle.run_ends.specs.Losses.{Loss as Cause, ByFault}
use Rattle.run_ends.proofs.Drives.{of_run}
use Rattle.run_lines.specs.Lines.{lines_in, lines_about, IsEnd, SaysOf, OneLineEach}
use Rattle.run_lines.specs.Words.{Loss, Mark, Begun as BegunMark, Sealed as SealedMark, Lost, mark_text, all_marks, dones, IsWhole}
use Rattle.run_lines.proofs.Counts.{contains_map}
use Rattle.run_lines.proofs.Saying.{line_said}
use Rattle.run_final.specs.Final.{IsMadeFinal, IsDatedSo, WasSealed}
use Rattle.true_start.specs.Starts.{StartsTruly, IsOursWith, IsDriveOf, offload_at}
use Rattle.true_start.proofs.Starting.{stands}
use Rattle.command_words.specs.Jobs.{Job}
use Rattle.job_story.specs.Attaching.{AttachesAll}
use Rattle.job_story.specs.Ends.{JobEnd, last_of}
use Rattle.job_story.specs.Plans.{IsRunPlan}
use Rattle.job_story.specs.Run.{Run, IsHonest, IsSteady, run_with}
use Rattle.job_story.specs.Story.{asked_by, Opens, Turns}
use Rattle.job_steps.proofs.Attached.{IsAttached, attached_all}
use Rattle.job_steps.proofs.Begun.{calls_same, reads_start}
use Rattle.job_steps.proofs.Quiet.{attaching_quiet, output_off}
use Rattle.job_steps.proofs.Told.{Tells, tells_such, tells_then, tells_went, since_then}
use Rattle.job_losses.specs.Drops.{records_in, Rises, Shows, DropsRightly}
use Rattle.job_losses.proofs.Counting.{was_there}
use Rattle.job_losses.proofs.Parts.{TurnLaws, TurnedRun, begins, finishes, starts_truly}
use Rattle.job_losses.proofs.Records.{records_behind}
use Rattle.job_losses.proofs.Told.{grows_none, grows_then, rose_in}
use Rattle.job_losses.proofs.Written.{IsUnbegun, WrittenOf, written}
use Rattle.job_reads.specs.Backs.{IsReadBack, IsListReadBack}
use Rattle.job_final.specs.Final.{AreDated, EndsFinal}
use Rattle.job_final.proofs.Lines.{lost_begins, split_of, each_at, record_at}

-- what the laws below say
pub record FinalLaws : Type 0 where
  pub turns : TurnLaws
  pub parts : (order : Order) (run : Offload) (a : Point) → StartsTruly order run a → PartsReady (ordered_of run) a
  pub starts : (order : Order) (run : Offload) (a : Point) → StartsTruly order run a → Starts (ordered_of run) a
  pub drives : (order : Order) (run : Offload) (a : Point) → StartsTruly order run a → (d : ℕ) (attached card : Map) (past : List Event) (dates : Dates) → IsDriveOf order d attached past card dates a.world
      → (stage : Stage) × IsFor (ordered_of run) d (offload_at order.plan card (reads attached past d) stage) attached card past a
  pub of_card : (card : Map) (dates : Dates) (p : PlanValue) → AllDated card dates → IsInventoryOfCard card dates p.files → IsOfCard card dates p
  pub lines : (o : Ordered) (a b : Point) → IsStart o a.at → Runs o a b → (past L : List Event) → a.world.events ≡ Some past → b.world.events ≡ Some (past ++ L) → OneLineEach o a b L
  pub final : (o : Ordered) (a b : Point) → Starts o a → PartsReady o a → (d : ℕ) (D : Copying) (attached card : Map) (past : List Event) → IsFor o d D attached card past a → Alone o a b
      → (L : List Event) → a.world.events ≡ Some past → b.world.events ≡ Some (past ++ L) → b.at.outcome ≢ OutFailed → drive_at b.at.drives.each d ≡ Sealed → ((recs : List Rec) → drive_at a.at.drives.each d ≢ Found recs)
      → WasSealed (IsDatedSo o) o a d D attached past L

-- ---- the drives of an opening: each is gone, or has no journal

abbrev IsPlain : DriveStart → Type 0
IsPlain GoneStart = Unit {0}
IsPlain FreshStart = Unit {0}
IsPlain (BegunStart entries gate kept) = ⊥
IsPlain (SealedStart entries) = ⊥

plain_sights : (sights : List Sight) (d : ℕ) → IsPlain (start_at (map start_of sights) d)
plain_sights [] d = tt
plain_sights (Dropped ∷ sights) zero = tt
plain_sights (SightFound size found ∷ sights) zero = tt
plain_sights (x ∷ sights) (suc d) = plain_sights sights d

plain_starts : (first : ℕ) (sights : List Sight) (d : ℕ) → first ≡ 0 → IsPlain (start_at (starts_of first sights) d)
plain_starts first sights d none = subst (λ (k : ℕ). IsPlain (start_at (replicate k GoneStart ++ map start_of sights) d)) (sym none) (plain_sights sights d)

fresh_of : (x : DriveStart) → IsPlain x → x ≢ GoneStart → x ≡ FreshStart
fresh_of GoneStart plain live = absurd (live refl)
fresh_of FreshStart plain live = refl
fresh_of (BegunStart entries gate kept) plain live = absurd plain
fresh_of (SealedStart entries) plain live = absurd plain

unbegun_of : (x : DriveStart) → IsPlain x → IsUnbegun (begins_at x)
unbegun_of GoneStart plain = tt
unbegun_of FreshStart plain = tt
unbegun_of (BegunStart entries gate kept) plain = absurd plain
unbegun_of (SealedStart entries) plain = absurd plain

sealed_of : (x : DriveAt) → is_sealed x ≡ true → x ≡ Sealed
sealed_of Sealed is = refl
sealed_of Gone is = absurd (cc is)
sealed_of Fresh is = absurd (cc is)
sealed_of (Begun recs gate kept) is = absurd (cc is)
sealed_of (Found recs) is = absurd (cc is)

module _ (laws : FinalLaws) (job : Job) (order : Order) (end : JobEnd) (result : ℕ) (old mid late done new : World) (no_drive : old.attached.drives ≡ 0) (few : length job.drives ≤ 8) (attaches : AttachesAll job old mid) (opens : Opens job (Ok order) mid late) (turns : Turns job order end late done) (last : Ended (last_of end) result done new)
    (past since : List Event) (was : old.events ≡ Some past) (now : new.events ≡ Some (past ++ since)) (r : TurnedRun job order end old late done new past since) (ends : IsEnd (finishes r.turns).at.outcome) (rightly : DropsRightly (run_with job old new since)) where
  abbrev run : Run
  run = run_with job old new since

  abbrev o : Ordered
  o = ordered_of r.turns.run

  abbrev a : Point
  a = begins r.turns

  abbrev b : Point
  b = finishes r.turns

  abbrev before_turns : List Event
  before_turns = past ++ r.first

  attached : IsAttached (length job.drives) old mid
  attached = attached_all job old mid no_drive attaches

  looks : FreshLooks 0 (length job.drives) job.copies (asked_by job.task) (Ok order) mid late
  looks = opens.opens

  plain : (d : ℕ) → IsPlain (start_at order.drives.items d)
  plain d = subst (λ (each : List DriveStart). IsPlain (start_at each d)) (sym looks.answer.2.drives_are) (plain_starts looks.scene.first looks.scene.sights d looks.from)

  starts : StartsTruly order r.turns.run a
  starts = starts_truly job order end old late done new past since r

  runs : Runs o a b
  runs = laws.turns.runs o a b r.turns.alone

  untouched : IsUntouched r.first
  untouched =
      let all : Tells (Then IsUntouched IsUntouched) old late = tells_then (tells_such (λ L on. (attaching_quiet L on).untouched) attached.tells) (tells_such (λ L both. both.1) (tells_went opens.untouched)) in
      since_then (tells_such (λ L (t : Then IsUntouched IsUntouched L). subst IsUntouched (sym t.is) (untouched_append t.first t.second t.here t.there)) all) past r.first was r.was

  on_output : AllOn (Only Output) r.last
  on_output = (since_then (tells_went last.went) ((past ++ r.first) ++ r.turning) r.last r.now r.end_is).0

  heard : b.at.outcome ≢ OutFailed
  heard is = subst IsEnd is ends

  unbegun : (d : ℕ) → IsUnbegun (drive_at a.at.drives.each d)
  unbegun d = subst IsUnbegun (sym (stands order r.turns.run a starts d)) (unbegun_of (start_at order.drives.items d) (plain d))

  source_is : o.source ≡ 0
  source_is = r.turns.of.source ∙ r.of.source

  opened_same : late.attached ≡ mid.attached
  opened_same = opens.untouched.attached

  module _ (card : Map) (dates : Dates) (steady : IsSteady run card dates) (d : ℕ) (start : Map) (honest : IsHonest run d start) (stays : Rises run (Drive d) → ⊥) where
    low : d < length job.drives
    low =
        let there : d < new.attached.drives = honest.there in
        let all : new.attached.drives ≡ length job.drives = ap (λ (x : Attached). x.drives) (r.same ∙ opened_same) ∙ attached.drives in
        omega (arith, there, all)

    fits : d < 2 ^ 64
    fits = let here = low in omega (arith, few, here)

    none : calls_on d past ≡ []
    none = let m = opens.untouched.told before_turns r.was in attached.unused past m.before was m.was d low

    -- ---- as the run was made

    live : start_at order.drives.items d ≢ GoneStart
    live is = stays (rose_in (Drive d) (grows_none old) (grows_then r.between r.behind) (r.gone d low is))

    fresh : start_at order.drives.items d ≡ FreshStart
    fresh = fresh_of (start_at order.drives.items d) (plain d) live

    at_a : drive_at a.at.drives.each d ≡ Fresh
    at_a = stands order r.turns.run a starts d ∙ ap begins_at fresh

    of : is_of_run a.at.drives d ≡ true
    of = of_run a.at.drives d (ap is_gone at_a)

    begun_is : reads start before_turns d ≡ start
    begun_is = reads_start start d past none r.first untouched

    honest_late : Honest late d start before_turns
    honest_late = record {
      honest = ap (λ (x : Attached). x.honest d) (sym r.same) ∙ honest.honest;
      start = ap (λ (x : Attached). x.start d) (sym r.same) ∙ honest.had;
      events = r.was;
    }

    steady_late : Steady late 0 card
    steady_late = record { steady = ap (λ (x : Attached). x.steady 0) (sym r.same) ∙ steady.steady; card = ap (λ (x : Attached). x.card 0) (sym r.same) ∙ steady.has }

    no_journal : get start journal_path ≡ None
    no_journal =
        let true_start : IsTrueStart order.plan FreshStart d start before_turns = subst (λ (x : DriveStart). IsTrueStart order.plan x d start before_turns) fresh (r.true_order.drives d live start before_turns honest_late) in
        ap (λ (m : Map). get m journal_path) (sym begun_is) ∙ true_start.is

    of_card : IsOfCard card dates order.plan
    of_card =
        let steady_mid : Steady mid 0 card = record { steady = ap (λ (x : Attached). x.steady 0) (sym opened_same) ∙ steady_late.steady; card = ap (λ (x : Attached). x.card 0) (sym opened_same) ∙ steady_late.card } in
        let dated = attached.dated card steady_mid in
        let are : mid.attached.card_dates 0 ≡ dates = ap (λ (x : Attached). x.card_dates 0) (sym (r.same ∙ opened_same)) ∙ steady.dated in
        subst (λ (t : Dates). IsOfCard card t order.plan) are (laws.of_card card (mid.attached.card_dates 0) order.plan dated (opens.of_card card steady_mid dated))

    drive_of : IsDriveOf order d start before_turns card dates late
    drive_of = record {
      of_run = live;
      honest = honest_late;
      steady = subst (λ (s : ℕ). Steady late s card) (sym r.of.source) steady_late;
      ours = subst (λ (x : DriveStart). IsOursWith card dates x (reads start before_turns d)) (sym fresh) tt;
    }

    -- ---- at the end of its turns it is sealed

    says : SaysOf o a b d r.turning
    says = (laws.lines o a b r.turns.starts runs before_turns r.turning r.was r.now).each d of

    -- a line that says that it was dropped has its cause
    not_lost : (loss : Loss) → Contains says.marks (Lost loss) → ⊥
    not_lost loss has_it =
        let text = mark_text o.plan d (Lost loss) in
        let about : Contains (lines_about d r.turning) text = subst (λ (l : List (List ℕ)). Contains l text) (sym says.lines) (contains_map (mark_text o.plan d) says.marks (Lost loss) has_it) in
        let said : IsSaid r.turning text = line_said r.turning text (was_there (λ (l : List ℕ). is_about d l) (lines_in r.turning) text about) in
        let inside : Contains since (Say text said.0) = subst (λ (l : List Event). Contains l (Say text said.0)) (sym r.is) (Contains-append_right r.first (r.turning ++ r.last) (Say text said.0) (Contains-append_left r.turning r.last (Say text said.0) said.1)) in
        let cut = split_of since (Say text said.0) inside in
        let cause = rightly cut.0 cut.1 d text said.0 fits cut.2 (lost_begins o.plan d loss) in
        by_fault cut.0 cause.loss (cause.honest start honest) cause.shows
      where
        by_fault : (L : List Event) (x : Cause) → x ≡ ByFault → Shows run d x L → ⊥
        by_fault L x is shows = stays (subst (λ y. Shows run d y L) is shows)

    sealed_mark : Contains says.marks SealedMark
    sealed_mark = elim (subst (λ (x : DriveAt). IsWhole (all_marks (files_of o.plan) x) says.marks) at_a (says.whole ends)) [
      | inl all ↦ subst (λ (l : List Mark). Contains l SealedMark) (sym all) (Contains-push (BegunMark 0 ∷ dones 0 (files_of o.plan - 0)) SealedMark)
      | inr cut ↦ absurd (not_lost cut.loss (subst (λ (l : List Mark). Contains l (Lost cut.loss)) (sym cut.is) (Contains-push cut.first (Lost cut.loss))))
    ]

    sealed_now : drive_at b.at.drives.each d ≡ Sealed
    sealed_now = sealed_of (drive_at b.at.drives.each d) (sym (r.turns.keeps.drives.said d) ∙ (says.sealed heard).1 sealed_mark)

    was_sealed : WasSealed (IsDatedSo o) o a d (offload_at order.plan card (reads start before_turns d) (laws.drives order r.turns.run a starts d start card before_turns dates drive_of).0) start before_turns r.turning
    was_sealed =
        let is_for = laws.drives order r.turns.run a starts d start card before_turns dates drive_of in
        laws.final o a b (laws.starts order r.turns.run a starts) (laws.parts order r.turns.run a starts) d (offload_at order.plan card (reads start before_turns d) is_for.0) start card before_turns is_for.1 r.turns.alone r.turning r.was r.now heard sealed_now
        (λ recs is. cc (sym at_a ∙ is))

    -- ---- behind the calls before the turns

    abbrev recs : List Rec
    recs = was_sealed.back.recs

    abbrev finish : ℕ
    finish = was_sealed.back.finish

    abbrev front : List Event
    front = was_sealed.back.front

    abbrev before : List Event
    before = r.first ++ was_sealed.before

    calls_are : calls_on d (before_turns ++ r.turning) ≡ calls_on d since
    calls_are =
        let off : calls_on d r.last ≡ [] = output_off d r.last on_output in
        let first_is : calls_on d (before_turns ++ r.turning) ≡ calls_on d (r.first ++ r.turning) =
        ap (calls_on d) (append_assoc past r.first r.turning) ∙ calls_on-append d past (r.first ++ r.turning) ∙ ap (λ (l : List Event). l ++ calls_on d (r.first ++ r.turning)) none in
        first_is ∙ sym (calls_same d (r.first ++ r.turning) r.last off) ∙ ap (calls_on d) (append_assoc r.first r.turning r.last ∙ sym r.is)

    reads_are : reads start (before_turns ++ r.turning) d ≡ reads start since d
    reads_are = reads_by_calls start (before_turns ++ r.turning) since d calls_are

    settled_now : IsSettled start since d
    settled_now I left = was_sealed.settled I (left_same start since (before_turns ++ r.turning) d I (sym calls_are) left) ∙ reads_are

    final_now : IsMadeFinal card start o.plan recs finish (reads start since d)
    final_now = subst (λ (m : Map). IsMadeFinal card start o.plan recs finish m) reads_are (subst (λ (m : Map). IsMadeFinal card m o.plan recs finish (reads start (before_turns ++ r.turning) d)) begun_is was_sealed.final)

    says_so : since ≡ before ++ Say (sealed_text d (length o.plan.files) (list_of o.plan)) true ∷ (was_sealed.after ++ r.last)
    says_so =
        let line = Say (sealed_text d (length o.plan.files) (list_of o.plan)) true in
        r.is ∙ ap (λ (l : List Event). r.first ++ (l ++ r.last)) was_sealed.says ∙ ap (λ (l : List Event). r.first ++ l) (append_assoc was_sealed.before (line ∷ was_sealed.after) r.last) ∙ sym (append_assoc r.first was_sealed.before (line ∷ (was_sealed.after ++ r.last)))

    -- ---- the list was read back

    recorded : records_in d (r.first ++ front) ≡ map closed_record recs
    recorded =
        let those : Since (WrittenOf d (drive_at was_sealed.point.at.drives.each d)) a.world was_sealed.point.world = written a o unbegun was_sealed.point was_sealed.led d in
        let mine : Since (WrittenOf d (Begun recs was_sealed.gate was_sealed.kept)) a.world was_sealed.point.world = subst (λ (x : DriveAt). Since (WrittenOf d x) a.world was_sealed.point.world) was_sealed.stood those in
        records_behind d r.first front (r.unwritten d) ∙ since_at mine before_turns front r.was was_sealed.there

    list_back : IsListReadBack o.plan d before
    list_back =
        let k = was_sealed.back in
        let text = plan_list_text o.plan recs finish in
        let seal = k.sealed in
        let rest = seal.there in
        let named = all_ran (naming d (list_of o.plan)) rest.second rest.there in
        let inner : was_sealed.before ≡ front ++ Moment finish ∷ (seal.first ++ (rest.first ++ Rename d new_path (list_of o.plan) true ∷ (Sync d true ∷ []))) =
        k.calls ∙ ap (λ (l : List Event). front ++ Moment finish ∷ l) (seal.is ∙ ap (λ (l : List Event). seal.first ++ l) (rest.is ∙ ap (λ (l : List Event). rest.first ++ l) named)) in
        record {
          front = r.first ++ front;
          drafts = seal.first;
          back = rest.first;
          recs = recs;
          finish = finish;
          calls = ap (λ (l : List Event). r.first ++ l) inner ∙ sym (append_assoc r.first front (Moment finish ∷ (seal.first ++ (rest.first ++ Rename d new_path (list_of o.plan) true ∷ (Sync d true ∷ [])))));
          recorded = recorded;
          each = k.recorded.each;
          full = k.recorded.full;
          drafted = seal.here;
          whole = subst (λ (l : List ℕ). WholeCalls d new_path (length l) l rest.first) k.text rest.here;
        }

    -- ---- and each record has its date

    gave : (path : List ℕ) (L : List Event) → card_given o.source path L ≡ card_given 0 path (r.first ++ L)
    gave path L =
        ap (λ (s : ℕ). card_given s path L) source_is
        ∙ ap (flat_map got_in) (sym (reads_append 0 path r.first L ∙ ap (λ (l : List Event). l ++ reads_of 0 path L) (r.unread path)))

    file_back : (i : ℕ) (file : PlannedFile) (rec : Rec) (L : List Event) → RunReadBack (IsDatedSo o) o d i file rec L → (read : IsReadBack o.plan d i file (r.first ++ L)) × (read.rec ≡ rec)
    file_back i file rec L k = (
      record {
        front = r.first ++ k.front;
        back = k.back;
        rec = rec;
        bytes = k.bytes;
        calls = ap (λ (l : List Event). r.first ++ l) k.calls ∙ sym (append_assoc r.first k.front (Sync d true ∷ (k.back ++ recording_calls d (next_gate o.plan i).at file.path rec)));
        whole = k.whole;
        digests = k.digests;
        card = k.card ∙ ap triple (gave file.path L);
        numbers = k.numbers;
        dated =
            let t = k.such in
            record {
              past = r.first ++ t.past;
              since = t.since;
              is = ap (λ (l : List Event). r.first ++ l) (t.is ∙ ap (λ (s : ℕ). t.past ++ SourceRead s file.path file.size 1 (Some []) ∷ (Moment rec.hashed ∷ t.since)) source_is) ∙ sym (append_assoc r.first t.past (SourceRead 0 file.path file.size 1 (Some []) ∷ (Moment rec.hashed ∷ t.since)));
              quiet = t.quiet;
            };
      },
      refl,
    )

    dated : AreDated o.plan d recs before
    dated i rec is =
        let k = was_sealed.back in
        let made_is : recs ≡ k.recorded.made = k.recorded.is ∙ ap (λ (x : DriveAt). records_at x ++ k.recorded.made) at_a in
        let made = each_at (IsMadeOn (IsDatedSo o) o d front) k.recorded.made i rec k.recorded.on_drive (subst (λ (l : List Rec). slice_get l i ≡ Some rec) made_is is) in
        let index : rec.index ≡ i = let place = record_at 0 o.plan.files recs i rec k.recorded.each is in omega (arith, place) in
        let behind : r.first ++ was_sealed.before ≡ (r.first ++ made.front) ++ (made.back ++ Moment finish ∷ k.sealing) =
        ap (λ (l : List Event). r.first ++ l) (k.calls ∙ ap (λ (l : List Event). l ++ Moment finish ∷ k.sealing) made.is ∙ append_assoc made.front made.back (Moment finish ∷ k.sealing)) ∙ sym (append_assoc r.first made.front (made.back ++ Moment finish ∷ k.sealing)) in
        let read = file_back i made.file rec made.front (subst (λ (n : ℕ). RunReadBack (IsDatedSo o) o d n made.file rec made.front) index made.read) in (
          made.file,
          ap (slice_get o.plan.files) (sym index) ∙ made.is_file,
          r.first ++ made.front,
          (made.back ++ Moment finish ∷ k.sealing, behind),
          read.0,
          read.1,
        )

    pub ends_final : EndsFinal run card dates d start
    unfolding list_back
    ends_final = record {
      p = o.plan;
      plan = subst (IsRunPlan run) (sym r.turns.of.plan) r.plan;
      of_card = subst (IsOfCard card dates) (sym r.turns.of.plan) of_card;
      unbegun = no_journal;
      before = before;
      after = was_sealed.after ++ r.last;
      sealed = says_so;
      back = list_back;
      dated = dated;
      settled = settled_now;
      final = final_now;
    }
