-- Each rename of a run on an honest drive names a file that the drive has then.
use Rattle.std.proofs.Common.{◌≡◌, ◌≢◌, inl, inr, ℕ, Bool, true, false, List, [], ◌∷◌, ◌++◌, refl, sym, ap, ◌∙◌, subst, arith}
use Rattle.std.specs.Prelude.{Option, Some, None, Result, Ok, Err, is_some}
use Rattle.std.proofs.lemmas.Bool.{cases_Bool, cases_eq, false≢true}
use Rattle.std.proofs.lemmas.Bool.Decides.{nat_tests}
use Rattle.bay_core.specs.declared.event.Event.{Event}
use Rattle.bay_core.specs.declared.event.Event.TheVariants.{SourceRead, DriveRead, Write as Writes, Sync, Pick}
use Rattle.bay_core.specs.Looks.{IsUntouched}
use Rattle.bay_core.specs.Map.{Map}
use Rattle.bay_core.specs.Paths.{new_path, part_path, journal_path}
use Rattle.bay_core.specs.Replay.{Device, Drive, Output, Clock, is_on}
use Rattle.bay_core.specs.World.{World, Attached, Honest}
use Rattle.bay_core.specs.Went.{AllOn, Went, Only, Then, Ran, sync_call}
use Rattle.digest_set.specs.declared.triple.Triple.{Triple}
use Rattle.copy_plan.specs.Plan.{PlanValue, list_of}
use Rattle.drive_journal.specs.declared.order.Listed.{Listed}
use Rattle.drive_journal.specs.declared.record.Gate.{Gate}
use Rattle.drive_journal.specs.declared.record.Rec.{Rec}
use Rattle.drive_journal.specs.Calls.{tidied, tidy_calls, publish_calls, place_calls, open_calls}
use Rattle.drive_journal.specs.Record.{closed_record}
use Rattle.fan_copier.specs.declared.copy.FileCopy.{FileCopy}
use Rattle.fan_copier.specs.declared.turn.Turn.{Turn}
use Rattle.fan_copier.specs.declared.turn.Turn.TheVariants.{Going, Dropped, Copied, SourceFailed, Changed, NoDrive}
use Rattle.fan_copier.specs.Copying.{card_of}
use Rattle.fan_copier.specs.Turning.{IsCopyCall, AreCopyCalls}
use Rattle.read_back.specs.declared.back.ReadBackError.{ReadBackError}
use Rattle.read_back.specs.declared.back.ReadBackError.TheVariants.{DriveFailed as BackFailed, Absent as BackAbsent, Length as BackLength, Differs}
use Rattle.read_back.proofs.Laws.{back_keeps}
use Rattle.recording.specs.Filing.{BackCalls, Settles, RecordCalls}
use Rattle.seal_step.specs.declared.error.SealError.{SealError}
use Rattle.seal_step.specs.declared.error.SealError.TheVariants.{DriveFailed as SealFailed, Absent as ListAbsent, Byte as ListByte, Length as ListLength}
use Rattle.seal_step.specs.Calls.{Drafts, SealCalls}
use Rattle.seal_step.specs.Parts.{list_parts, joined, drafting, naming}
use Rattle.seal_step.specs.Reading.{BackCalls as ListCalls}
use Rattle.seal_step.proofs.Drafted.{back_keeps as list_keeps}
use Rattle.run_state.specs.declared.phase.Phase.{Phase}
use Rattle.run_state.specs.declared.phase.Phase.TheVariants.{Begins, File, Copies, Dates, Records, Seals, Clears, Ended}
use Rattle.run_state.specs.Acts.{next_path, new_journal, BeginTurn, CopySettles, other_listed, DateTurn, RecordTurn, SealTurn, is_clear, ClearTurn}
use Rattle.run_state.specs.Rules.{IsRun, IsStart}
use Rattle.run_state.specs.Runs.{Point, Runs, starts, turns, beside, IsElsewhere}
use Rattle.run_state.specs.State.{Ordered, Drives, DriveAt, Gone, Fresh, Begun, Found, Sealed, Journaled, files_of, drive_at, is_of_run, count_sealed, due}
use Rattle.run_state.specs.Turn.{Acted}
use Rattle.run_ends.specs.Known.{HasPart, IsKnownAt, IsKnownOnward}
use Rattle.run_ends.specs.Renames.{RenamesWhatIsThere}
use Rattle.run_ends.proofs.Drives.{due_is}
use Rattle.run_ends.proofs.Finding.{Has, Finds, FindsAll, finds_then, finds_each, finds_untouched, finds_off, finds_ran, CallsFind, has_settled, has_still, removals_find, begin_finds, place_finds, drafts_find, naming_finds, drafts_have}
use Rattle.run_ends.proofs.Later.{Later, later_went, later_then, joined_went, joined_same}
use Rattle.run_ends.proofs.Way.{way}

other_drive : (d e : ℕ) → d ≢ e → (y : Device) → Only (Drive e) y → is_on d y ≡ false
other_drive d e differ y on = ap (is_on d) on ∙ apart d e differ
  where
    apart : (d e : ℕ) → d ≢ e → is_on d (Drive e) ≡ false
    apart d e differ = grind (arith, nat_tests)

off_line : (d : ℕ) (y : Device) → Only Output y → is_on d y ≡ false
off_line d y on = ap (is_on d) on

off_clock : (d : ℕ) (y : Device) → Only Clock y → is_on d y ≡ false
off_clock d y on = ap (is_on d) on

-- others are not on a drive of the run
same_number : (d n : ℕ) → is_on d (Drive n) ≡ true → d ≡ n
same_number d n is = grind (arith, nat_tests)

elsewhere_off : (drives : Drives) (d : ℕ) → is_of_run drives d ≡ true → (x : Device) → IsElsewhere drives x → is_on d x ≡ false
elsewhere_off drives d of x off = elim (cases_Bool (is_on d x)) [
  | inl on ↦ absurd (off d of (by x on))
  | inr not_on ↦ not_on
]
  where
    by : (x : Device) → is_on d x ≡ true → x ≡ Drive d
    by (Drive n) on = ap Drive (sym (same_number d n on))
    by x on = absurd (false≢true on)

-- a list has a part
some_parts : (p : PlanValue) (recs : List Rec) (finish : ℕ) → (first : List ℕ) × (rest : List (List ℕ)) × (list_parts p recs finish ≡ first ∷ rest)
unfolding list_parts
some_parts p recs finish = (_, _, refl)

module _ (o : Ordered) (a : Point) (d : ℕ) (start : Map) (past : List Event) (honest : Honest a.world d start past) where
  -- each rename so far found its file
  abbrev FoundEach : World → Type 0
  FoundEach w = (L : List Event) → w.events ≡ Some (past ++ L) → FindsAll d start past L

  more : {On : Device → Type 0} {P : List Event → Type 0} {w new : World} → Later a.world w → Went On P w new → ((front : List Event) → w.events ≡ Some (past ++ front) → (B : List Event) → AllOn On B → P B → FindsAll d start (past ++ front) B) → FoundEach w → FoundEach new
  more later went so old L now =
      let j = joined_went later went past L honest.events now in
      subst (FindsAll d start past) (sym j.is) (finds_then d start past j.front j.since (old j.front j.was) (so j.front j.was j.since j.such.0 j.such.1))

  off : {On : Device → Type 0} {P : List Event → Type 0} {w new : World} → Later a.world w → Went On P w new → ((y : Device) → On y → is_on d y ≡ false) → FoundEach w → FoundEach new
  off {On} later went apart old = more later went (λ front was B on such. finds_off d start On apart (past ++ front) B on) old

  same : {w new : World} → new ≡ w → FoundEach w → FoundEach new
  same is old L now = old L (joined_same is past L now)

  -- an act on one drive: on this one, or another
  on_drive : {P : List Event → Type 0} {w new : World} (e : ℕ) → Later a.world w → Went (Only (Drive e)) P w new → (e ≡ d → (front : List Event) → w.events ≡ Some (past ++ front) → (B : List Event) → P B → FindsAll d start (past ++ front) B) → FoundEach w → FoundEach new
  on_drive e later went here old = elim (cases_eq e d) [
    | inl is ↦ more later went (λ front was B on such. here is front was B such) old
    | inr differ ↦ off later went (other_drive d e (λ is. differ (sym is))) old
  ]

  -- the drive is honest still
  honest_now : (m : Point) → Later a.world m.world → (front : List Event) → m.world.events ≡ Some (past ++ front) → Honest m.world d start (past ++ front)
  honest_now m later front now = record {
    honest = ap (λ (x : Attached). x.honest d) later.attached ∙ honest.honest;
    start = ap (λ (x : Attached). x.start d) later.attached ∙ honest.start;
    events = now;
  }

  -- ---- the begins

  abbrev begin_calls : ℕ → List (Bool → Event)
  begin_calls e = tidy_calls e None false ++ publish_calls e journal_path (new_journal o.plan)

  abbrev rejoin_calls : ℕ → List Rec → Bool → List (Bool → Event)
  rejoin_calls e recs kept = tidy_calls e (next_path o.plan recs) kept

  begin_found : (m c : Point) (later : Later a.world m.world) (e : ℕ) (was : DriveAt) → BeginTurn o e was m.at.drives c.at m.world c.world → FoundEach m.world → FoundEach c.world
  begin_found m c later e Fresh t old =
      let tried = t.tried.0 in
      let mid = later_then later (later_went tried.went) in
      off mid t.line.went (off_line d) (on_drive e later tried.went (λ is front was B ran.
      finds_ran d start (begin_calls e) t.ok (past ++ front) B (subst (λ (k : ℕ). CallsFind d start (past ++ front) (begin_calls k)) (sym is) (begin_finds d start (tidied None false) journal_path (new_journal o.plan) (past ++ front))) ran) old)
  begin_found m c later e (Begun recs gate kept) t old =
      let tried = t.tried.0 in
      let mid = later_then later (later_went tried.went) in
      off mid t.line.went (off_line d) (on_drive e later tried.went (λ is front was B ran.
      finds_ran d start (rejoin_calls e recs kept) t.ok (past ++ front) B (subst (λ (k : ℕ). CallsFind d start (past ++ front) (rejoin_calls k recs kept)) (sym is) (removals_find d start (tidied (next_path o.plan recs) kept) (past ++ front))) ran) old)
  begin_found m c later e Gone t old = same t.idle old
  begin_found m c later e (Found recs) t old = same t.idle old
  begin_found m c later e Sealed t old = same t.idle old

  -- ---- a file is copied

  -- no call of a copy is a rename
  copy_found : (s : ℕ) (path : List ℕ) (A L : List Event) → AreCopyCalls s path L → FindsAll d start A L
  unfolding AreCopyCalls
  copy_found s path A [] are = tt
  copy_found s path A (e ∷ L) are = (one e are.0, copy_found s path (A ++ e ∷ []) L are.1)
    where
      one : (e : Event) → IsCopyCall s path e → Finds d start A e
      one (Pick n) is = tt
      one (SourceRead k read at want got) is = tt
      one (DriveRead k read at want got) is = tt
      one (Writes k written at bytes ok) is = tt
      one e is = absurd is

  settles_found : (m c : Point) (i : ℕ) (came : Turn) (next : FileCopy) (mid : World) → Later a.world mid → CopySettles (files_of o.plan) i came next m.at.drives c.at mid c.world → FoundEach mid → FoundEach c.world
  settles_found m c i Going next mid later s old = same s.2 old
  settles_found m c i (Dropped e) next mid later s old = off later s.line.went (off_line d) old
  settles_found m c i (Copied t) next mid later s old = same s.2 old
  settles_found m c i SourceFailed next mid later s old = same s.2 old
  settles_found m c i (Changed p q) next mid later s old = same s.2 old
  settles_found m c i NoDrive next mid later s old = absurd s

  date_found : (m c : Point) (later : Later a.world m.world) (i : ℕ) (t : Triple) (other : Option Listed) → DateTurn o i t other m.at.drives c.at m.world c.world → FoundEach m.world → FoundEach c.world
  date_found m c later i t None act old = off later act.asked (off_clock d) old
  date_found m c later i t (Some l) act old = same act.2 old

  -- ---- a file is recorded

  -- calls behind a barrier
  settled_found : (e : ℕ) (A : List Event) (P : List Event → Type 0) (L : List Event) → ((rest : List Event) → P rest → FindsAll d start (A ++ Sync e true ∷ []) rest) → Settles e P L → FindsAll d start A L
  settled_found e A P L so t =
      subst (FindsAll d start A) (sym (t.is ∙ ap (λ (K : List Event). K ++ t.second) t.here)) (tt, so t.second t.there)

  module _ (gate : ℕ) (path : List ℕ) (rec : Rec) (A : List Event) (part : Has d start A part_path) where
    abbrev behind : List Event
    behind = A ++ Sync d true ∷ []

    back_untouched : (r : Result Unit ReadBackError) (L : List Event) → BackCalls d rec r L → IsUntouched L
    back_untouched r L (bytes, calls) = back_keeps d part_path rec.size rec.triple r bytes L calls

    back_found : (r : Result Unit ReadBackError) (L : List Event) → Settles d (BackCalls d rec r) L → FindsAll d start A L
    back_found r L t = settled_found d A (BackCalls d rec r) L (λ rest calls. finds_untouched d start behind rest (back_untouched r rest calls)) t

    placed_found : (ok : Bool) (L : List Event) → Settles d (Then (BackCalls d rec (Ok tt)) (Ran (place_calls d gate path (closed_record rec) ++ open_calls d gate) ok)) L → FindsAll d start A L
    placed_found ok L t = settled_found d A (Then (BackCalls d rec (Ok tt)) (Ran (place_calls d gate path (closed_record rec) ++ open_calls d gate) ok)) L (λ rest u.
        let kept = back_untouched (Ok tt) u.first u.here in
        subst (FindsAll d start behind) (sym u.is) (finds_then d start behind u.first u.second (finds_untouched d start behind u.first kept)
        (finds_ran d start (place_calls d gate path (closed_record rec) ++ open_calls d gate) ok (behind ++ u.first) u.second (place_finds d start gate path (closed_record rec) (behind ++ u.first) (has_still d start behind u.first part_path kept (has_settled d start A part_path true part))) u.there))) t

    recorded_found : (came : Result Gate ReadBackError) (L : List Event) → RecordCalls d gate path rec came L → FindsAll d start A L
    recorded_found (Ok next) L t = placed_found true L t
    recorded_found (Err BackFailed) L (inl ran) = finds_ran d start (sync_call d ∷ []) false A L (λ b. tt, tt) ran
    recorded_found (Err BackFailed) L (inr (inl t)) = back_found (Err BackFailed) L t
    recorded_found (Err BackFailed) L (inr (inr t)) = placed_found false L t
    recorded_found (Err BackAbsent) L t = back_found (Err BackAbsent) L t
    recorded_found (Err (BackLength x y)) L t = back_found (Err (BackLength x y)) L t
    recorded_found (Err (Differs x y)) L t = back_found (Err (Differs x y)) L t

  record_found : (m c : Point) (later : Later a.world m.world) (rec : Rec) (e : ℕ) → (is_some (due rec.index (drive_at m.at.drives.each e)) ≡ true → HasPart e rec m.world) → (was : Option Journaled) → due rec.index (drive_at m.at.drives.each e) ≡ was
      → RecordTurn o rec e was m.at.drives c.at m.world c.world → FoundEach m.world → FoundEach c.world
  record_found m c later rec e known None is t old = same t.idle old
  record_found m c later rec e known (Some was) is t old =
      off (later_then later (later_went t.went)) t.line.went (off_line d) (on_drive e later t.went (λ here front now B such.
      let copy = known (due_is rec.index (drive_at m.at.drives.each e) was is) start (past ++ front) (subst (λ (k : ℕ). Honest m.world k start (past ++ front)) (sym here) (honest_now m later front now)) in
      let part : Has d start (past ++ front) part_path = subst (λ (k : ℕ). Has k start (past ++ front) part_path) here (ap (λ (f : Option (List ℕ)). is_some f) copy.1) in
      recorded_found was.gate.at t.file.path rec (past ++ front) part t.came B (subst (λ (k : ℕ). RecordCalls k was.gate.at t.file.path rec t.came B) here such)) old)

  -- ---- a drive is sealed

  module _ (list first : List ℕ) (rest : List (List ℕ)) (A : List Event) where
    abbrev parts : List (List ℕ)
    parts = first ∷ rest

    -- calls behind the drafts
    drafted_found : (P : List Event → Type 0) (L : List Event) → ((B K : List Event) → Has d start (A ++ B) new_path → P K → FindsAll d start (A ++ B) K) → Drafts d parts P L → FindsAll d start A L
    drafted_found P L so t =
        subst (FindsAll d start A) (sym t.is) (finds_then d start A t.first t.second (finds_ran d start (drafting d parts) true A t.first (drafts_find d start parts A) t.here)
        (so t.first t.second (drafts_have d start first rest A t.first t.here) t.there))

    list_found : (r : Result Unit SealError) (L : List Event) → Drafts d parts (ListCalls d (joined parts) r) L → FindsAll d start A L
    list_found r L t = drafted_found (ListCalls d (joined parts) r) L (λ B K has calls. finds_untouched d start (A ++ B) K (list_keeps d (joined parts) r K calls)) t

    named_found : (ok : Bool) (L : List Event) → Drafts d parts (Then (ListCalls d (joined parts) (Ok tt)) (Ran (naming d list) ok)) L → FindsAll d start A L
    named_found ok L t = drafted_found (Then (ListCalls d (joined parts) (Ok tt)) (Ran (naming d list) ok)) L (λ B K has u.
        let kept = list_keeps d (joined parts) (Ok tt) u.first u.here in
        subst (FindsAll d start (A ++ B)) (sym u.is) (finds_then d start (A ++ B) u.first u.second (finds_untouched d start (A ++ B) u.first kept)
        (finds_ran d start (naming d list) ok ((A ++ B) ++ u.first) u.second (naming_finds d start list ((A ++ B) ++ u.first) (has_still d start (A ++ B) u.first new_path kept has)) u.there))) t

    sealed_found : (came : Result Unit SealError) (L : List Event) → SealCalls d list parts came L → FindsAll d start A L
    sealed_found (Ok u) L t = named_found true L t
    sealed_found (Err SealFailed) L (inl ran) = finds_ran d start (drafting d parts) false A L (drafts_find d start parts A) ran
    sealed_found (Err SealFailed) L (inr (inl t)) = list_found (Err SealFailed) L t
    sealed_found (Err SealFailed) L (inr (inr t)) = named_found false L t
    sealed_found (Err ListAbsent) L t = list_found (Err ListAbsent) L t
    sealed_found (Err (ListLength x y)) L t = list_found (Err (ListLength x y)) L t
    sealed_found (Err (ListByte p x y)) L t = list_found (Err (ListByte p x y)) L t

  seal_found : (m c : Point) (later : Later a.world m.world) (e : ℕ) (x : DriveAt) → SealTurn o e x m.at.drives c.at m.world c.world → FoundEach m.world → FoundEach c.world
  seal_found m c later e (Begun recs gate kept) t old =
      let dated = later_then later (later_went t.asked) in
      let some = some_parts o.plan recs t.finish in
      off (later_then dated (later_went t.went)) t.line.went (off_line d) (on_drive e dated t.went (λ here front now B such.
      sealed_found (list_of o.plan) some.0 some.1 (past ++ front) t.came B (subst (λ (l : List (List ℕ)). SealCalls d (list_of o.plan) l t.came B) some.2 (subst (λ (k : ℕ). SealCalls k (list_of o.plan) (list_parts o.plan recs t.finish) t.came B) here such)))
      (off later t.asked (off_clock d) old))
  seal_found m c later e (Found recs) t old = off later t.line.went (off_line d) old
  seal_found m c later e Fresh t old = absurd t
  seal_found m c later e Gone t old = same t.idle old
  seal_found m c later e Sealed t old = same t.idle old

  clear_found : (m c : Point) (later : Later a.world m.world) (required sealed : ℕ) (is_due : Bool) → ClearTurn required sealed is_due c.at m.world c.world → FoundEach m.world → FoundEach c.world
  clear_found m c later required sealed true t old = off later t.line.went (off_line d) old
  clear_found m c later required sealed false t old = same t.1 old

  -- ---- each turn

  acted_found : (m c : Point) (later : Later a.world m.world) (phase : Phase) → IsKnownAt o phase m.at.drives.each m.world → Acted o phase m.at c.at m.pool c.pool m.world c.world → FoundEach m.world → FoundEach c.world
  acted_found m c later (Begins e) known t old = begin_found m c later e (drive_at m.at.drives.each e) t old
  acted_found m c later (File i) known (inl t) old = same t.idle old
  acted_found m c later (File i) known (inr t) old = same t.1.idle old
  acted_found m c later (Copies i copy) known t old =
      settles_found m c i t.came t.next t.mid (later_then later (later_went t.touches)) t.settles (more later t.touches (λ front was B on such. copy_found (card_of copy) t.file.path (past ++ front) B such) old)
  acted_found m c later (Dates i x) known t old = date_found m c later i x (other_listed o.listed i x) t old
  acted_found m c later (Records rec e) known t old = record_found m c later rec e known (due rec.index (drive_at m.at.drives.each e)) refl t old
  acted_found m c later (Seals e) known t old = seal_found m c later e (drive_at m.at.drives.each e) t old
  acted_found m c later Clears known t old = clear_found m c later o.copies (count_sealed m.at.drives.each) (is_clear (count_sealed m.at.drives.each) o.copies) t.1 old
  acted_found m c later Ended known t old = same t.2 old

  module _ (rules : (b : Point) → IsRun o a.at → Runs o a b → IsRun o b.at) (begins : IsStart o a.at) (known : IsKnownOnward o a) (of : is_of_run a.at.drives d ≡ true) where
    found_runs : (b : Point) → Runs o a b → FoundEach b.world
    found_runs b starts = λ L now. subst (FindsAll d start past) (sym (nothing past L (same_list (past ++ L) past (sym now ∙ honest.events)))) tt
      where
        same_list : (A B : List Event) → Some A ≡ Some B → A ≡ B
        same_list A B e = cc e

        nothing : (past L : List Event) → past ++ L ≡ past → L ≡ []
        nothing [] L is = is
        nothing (x ∷ past) L is = nothing past L (cc is)
    found_runs b (turns {b = x} so_far t) = acted_found x b (way o a rules begins x so_far).later x.at.phase (known x so_far) t (found_runs x so_far)
    found_runs b (beside {b = x} so_far t) =
        let w = way o a rules begins x so_far in
        off w.later t.went (elsewhere_off x.at.drives d (w.of_run d ∙ of)) (found_runs x so_far)

-- each rename found its file
pub renames : (o : Ordered) (a b : Point) → ((b : Point) → IsRun o a.at → Runs o a b → IsRun o b.at) → IsStart o a.at → IsKnownOnward o a → Runs o a b → (d : ℕ) (start : Map) (past L : List Event) → is_of_run a.at.drives d ≡ true → Honest a.world d start past
    → b.world.events ≡ Some (past ++ L) → RenamesWhatIsThere d start past L
renames o a b rules begins known runs d start past L of honest now = finds_each d start past L (found_runs o a d start past honest rules begins known of b runs L now)
