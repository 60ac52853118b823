-- Where a run stands between two turns: the parts on its drives, and what its card gave.
use Rattle.std.proofs.Common.{◌≡◌, ◌≢◌, ◌⊎◌, inl, inr, ℕ, zero, suc, ◌<◌, ◌≤◌, Bool, true, false, List, [], ◌∷◌, ◌++◌, length, refl, sym, ap, ◌∙◌, subst, arith, append-nil, length-append, get_or-set_other}
use Rattle.std.specs.Prelude.{slice_set, not, ◌||◌, Option, Some, None, Result, Ok, Err, is_some, is_ok, nat_lt, if◌then◌else◌, option_map}
use Rattle.std.specs.List.{slice_get, flat_map, Contains}
use Rattle.std.specs.Cmp.Lexicographic.{other_text}
use Rattle.std.proofs.lemmas.Bool.{cases_eq}
use Rattle.bay_core.specs.declared.event.Event.{Event}
use Rattle.bay_core.specs.Paths.{new_path, part_path}
use Rattle.bay_core.specs.Replay.{Device, Drive, Output, Clock, is_on}
use Rattle.bay_core.specs.World.{World}
use Rattle.bay_core.specs.Went.{AllOn, Only, Went}
use Rattle.bay_core.proofs.Honesty.{honest_before}
use Rattle.bay_core.proofs.Runs.{went_such}
use Rattle.block_pool.specs.Lent.{PoolState}
use Rattle.digest_set.specs.declared.triple.Triple.{Triple}
use Rattle.digest_set.specs.Triple.{triple}
use Rattle.copy_plan.specs.declared.file.PlannedFile.{PlannedFile}
use Rattle.copy_plan.specs.Plan.{PlanValue, IsPlan}
use Rattle.drive_journal.specs.declared.order.Listed.{Listed}
use Rattle.drive_journal.specs.declared.record.Gate.{Gate}
use Rattle.drive_journal.specs.declared.record.Rec.{Rec}
use Rattle.drive_journal.specs.Calls.{given}
use Rattle.fan_core.specs.Flags.{has, lowest}
use Rattle.fan_core.proofs.Keeps.{still_live}
use Rattle.fan_core.proofs.Rules.{none_lowest}
use Rattle.fan_copier.specs.declared.copy.FileCopy.{FileCopy}
use Rattle.fan_copier.specs.declared.turn.Turn.{Turn}
use Rattle.fan_copier.specs.declared.turn.Turn.TheVariants.{Going, Dropped, Copied, SourceFailed, Changed, NoDrive}
use Rattle.fan_copier.specs.Copying.{card_of, size_of, live_of, standing, Copying, PartBegins}
use Rattle.fan_copier.specs.Follows.{GoesOn, InOrder, EndsAtSize}
use Rattle.fan_copier.specs.Keeping.{ReadsSame, KeepsBlocks}
use Rattle.fan_copier.specs.Passed.{is_card, card_calls}
use Rattle.fan_copier.specs.Turning.{doing, TurnCalls, Touches, AreCopyCalls, GoOn, Turned as CopyTurned}
use Rattle.fan_copier.proofs.Following.{reads_at, ends_at}
use Rattle.fan_copier.proofs.Keeping.{copying_stays, same_elsewhere, copy_keeps}
use Rattle.fan_copier.proofs.Leaving.{turn_copy}
use Rattle.fan_copier.proofs.Ordering.{ReadsFrom, order_none, order_append, order_in, turn_order, turn_past}
use Rattle.read_back.specs.declared.back.ReadBackError.{ReadBackError}
use Rattle.recording.specs.Filing.{Cleans}
use Rattle.seal_step.specs.declared.error.SealError.{SealError}
use Rattle.run_state.specs.declared.phase.Phase.{Phase}
use Rattle.run_state.specs.declared.phase.Phase.TheVariants.{Begins, File, Copies, Dates, Records, Seals, Clears, Ended}
use Rattle.run_state.specs.Acts.{Goes, Puts, Passes, next_path, BeginTried, begun_at, MovesOrDrops, BegunAloud, BeginTurn, FileTurn, copies_on, CopySettles, CopyActed, other_listed, DateTurn, RecordStands, RecordedAloud, RecordTurn, SealStands, SealedAloud, SealTurn, is_clear, ClearTurn}
use Rattle.run_state.specs.Rules.{slots_in}
use Rattle.run_state.specs.Runs.{Point, Runs, starts, turns, beside, Beside, AreBeside, IsElsewhere}
use Rattle.run_state.specs.State.{Ordered, DriveAt, Gone, Fresh, Begun, Found, Sealed, Drives, At, Journaled, files_of, drive_at, is_gone, is_of_run, count_sealed, due, after_begin, after_file, after_record, after_seal}
use Rattle.run_state.specs.Turn.{Acted}
use Rattle.run_reads.specs.Parts.{KeepsFit, HasNone, IsReady, PartAt, CopyStands, PartsStand, Starts}
use Rattle.run_reads.specs.Reads.{reads_of, got_in, card_given}
use Rattle.run_reads.specs.Backs.{IsDated}
use Rattle.run_reads.proofs.Since.{Since, since_none, since_more, since_such, since_both}
use Rattle.run_reads.proofs.Cards.{reads_append, given_append, reads_then, reads_off, copy_reads, other_reads, beside_reads, Good, turn_got, ends_more}
use Rattle.run_reads.proofs.Dating.{dated_next, dated_more}
use Rattle.run_reads.proofs.Places.{below, some_same, drive_past, due_some, due_not, not_due, is_due, none_of_due, part_of_due, no_part_stays, fit_stays, none_stays, ready_stays, part_at_stays, part_at_gone, ready_gone, reads_on, other_drive, elsewhere_off, path_not_part, is_planned, paths_apart}

-- every drive reads as before
abbrev ReadsSameAll : World → World → Type 0
ReadsSameAll w new = (d : ℕ) → ReadsSame d w new

-- any calls
abbrev pub AnyCalls : List Event → Type 0
AnyCalls L = Unit {0}

-- the output, the clock and the drives are no card
pub output_off : (s : ℕ) (y : Device) → Only Output y → is_card s y ≡ false
output_off s y on = ap (is_card s) on

pub clock_off : (s : ℕ) (y : Device) → Only Clock y → is_card s y ≡ false
clock_off s y on = ap (is_card s) on

pub drive_off : (s e : ℕ) (y : Device) → Only (Drive e) y → is_card s y ≡ false
drive_off s e y on = ap (is_card s) on

off_output : (d : ℕ) (y : Device) → Only Output y → is_on d y ≡ false
off_output d y on = ap (is_on d) on

off_clock : (d : ℕ) (y : Device) → Only Clock y → is_on d y ≡ false
off_clock d y on = ap (is_on d) on

two_apart : (x y q : List ℕ) → x ≢ q → y ≢ q → Contains (x ∷ (y ∷ [])) q → ⊥
two_apart x y q fails other (zero, within, is) = fails is
two_apart x y q fails other (suc zero, within, is) = other is
two_apart x y q fails other (suc (suc k), within, is) = absurd (omega (arith, within))

-- ---- a drive is begun

pub begin_went : (p : PlanValue) (e : ℕ) (was : DriveAt) (ok : Bool) (w mid : World) → BeginTried p e was ok w mid → Went (Only (Drive e)) AnyCalls w mid
begin_went p e Fresh ok w mid t = went_such (λ L x. tt) t.0.went
begin_went p e (Begun recs gate kept) ok w mid t = went_such (λ L x. tt) t.0.went
begin_went p e Gone ok w mid t = absurd t
begin_went p e (Found recs) ok w mid t = absurd t
begin_went p e Sealed ok w mid t = absurd t

-- a part that is kept stays as it was where the other scratch files are removed
still_begins : (p : PlanValue) → IsPlan p → (e : ℕ) (recs : List Rec) (gate : Gate) (w mid : World) → BeginTried p e (Begun recs gate true) true w mid → (f : PlannedFile) → slice_get p.files (length recs) ≡ Some f → PartBegins e f.size w [] → PartBegins e f.size mid []
still_begins p plan e recs gate w mid t f is part = λ m L h.
    let b = honest_before e m L t.0.went h in
    let old = part m b.0 b.1 in
    let apart : Contains (new_path ∷ given (next_path p recs)) part_path → ⊥ =
    subst (λ (x : Option PlannedFile). Contains (new_path ∷ given (option_map (λ (g : PlannedFile). g.path) x)) part_path → ⊥) (sym is) (two_apart new_path f.path part_path (other_text new_path part_path refl) (path_not_part p plan (length recs) f is)) in
    (old.0, (t.2.done refl m b.0 L b.1 h.events).others part_path apart ∙ old.1, old.2)

-- a drive that was begun is ready
begin_ready : (p : PlanValue) → IsPlan p → (e : ℕ) (was : DriveAt) (w mid : World) → BeginTried p e was true w mid → KeepsFit p was e w → IsReady p (begun_at p was) e mid
begin_ready p plan e Fresh w mid t fit = (
  tt,
  λ m L h.
      let b = honest_before e m L t.0.went h in
      t.2.no_part refl m b.0 L b.1.events h.events,
)
begin_ready p plan e (Begun recs gate false) w mid t fit = (
  tt,
  λ m L h.
      let b = honest_before e m L t.0.went h in
      (t.2.done refl m b.0 L b.1 h.events).gone part_path (1, omega arith, refl),
)
begin_ready p plan e (Begun recs gate true) w mid t fit = (
  λ m L h.
      let b = honest_before e m L t.0.went h in
      let next = fit m b.0 b.1 in
      (next.0, next.1, still_begins p plan e recs gate w mid t next.0 next.1 next.2),
  tt,
)
begin_ready p plan e Gone w mid t fit = absurd t
begin_ready p plan e (Found recs) w mid t fit = absurd t
begin_ready p plan e Sealed w mid t fit = absurd t

module _ (o : Ordered) (plan : IsPlan o.plan) (a : Point) where
  -- these files and those behind them were not read
  abbrev pub Unread : ℕ → World → Type 0
  Unread k w = (j : ℕ) (f : PlannedFile) → k ≤ j → slice_get o.plan.files j ≡ Some f → Since (λ L. reads_of o.source f.path L ≡ []) a.world w

  -- a file is copied, and the card gave these bytes of it
  pub record CopyGives (i : ℕ) (copy : FileCopy) (drives : Drives) (pool : PoolState) (w : World) : Type 0 where
    pub file : PlannedFile
    pub is_file : slice_get o.plan.files i ≡ Some file
    pub bytes : List ℕ
    pub of_card : card_of copy ≡ o.source
    pub sized : size_of copy ≡ file.size
    pub live : (d : ℕ) → has (live_of copy) d ≡ is_some (due i (drive_at drives.each d))
    pub copying : Copying copy pool w bytes
    pub reads : Since (λ L. ReadsFrom o.source file.path 0 (length bytes) (reads_of o.source file.path L) × (card_given o.source file.path L ≡ bytes)) a.world w
    pub unread : Unread (suc i) w

  -- these are all reads of a file, and what they gave has these digests
  abbrev pub Saw : PlannedFile → Triple → List Event → Type 0
  Saw f t K = InOrder o.source f.path 0 K × EndsAtSize o.source f.path f.size K × (t ≡ triple (flat_map got_in K))

  -- a file was copied
  pub record FileGave (i : ℕ) (t : Triple) (w : World) : Type 0 where
    pub file : PlannedFile
    pub is_file : slice_get o.plan.files i ≡ Some file
    pub reads : Since (λ L. Saw file t (reads_of o.source file.path L)) a.world w
    pub unread : Unread (suc i) w

  -- a file was copied, and this is its record, whose moment was asked since
  pub record FileDated (rec : Rec) (w : World) : Type 0 where
    pub gave : FileGave rec.index rec.triple w
    pub sized : (f : PlannedFile) → slice_get o.plan.files rec.index ≡ Some f → rec.size ≡ f.size
    pub dated : (f : PlannedFile) → slice_get o.plan.files rec.index ≡ Some f → Since (IsDated o f rec.hashed) a.world w

  abbrev pub GivesAt : Phase → Drives → PoolState → World → Type 0
  GivesAt (Begins e) drives pool w = Unread 0 w
  GivesAt (File i) drives pool w = Unread i w
  GivesAt (Copies i copy) drives pool w = CopyGives i copy drives pool w
  GivesAt (Dates i t) drives pool w = FileGave i t w
  GivesAt (Records rec e) drives pool w = FileDated rec w
  GivesAt (Seals e) drives pool w = Unit {0}
  GivesAt Clears drives pool w = Unit {0}
  GivesAt Ended drives pool w = Unit {0}

  abbrev pub CoreAt : Phase → Drives → PoolState → World → Type 0
  CoreAt phase drives pool w = ((d : ℕ) → PartAt o.plan phase (drive_at drives.each d) d w) × GivesAt phase drives pool w

  abbrev pub Core : Point → Type 0
  Core b = CoreAt b.at.phase b.at.drives b.pool b.world

  -- ---- steps without a read of a planned file

  abbrev pub ReadsNone : (Device → Type 0) → (List Event → Type 0) → Type 0
  ReadsNone On P = (i : ℕ) (f : PlannedFile) → slice_get o.plan.files i ≡ Some f → (B : List Event) → AllOn On B → P B → reads_of o.source f.path B ≡ []

  pub off_card : (On : Device → Type 0) (P : List Event → Type 0) → ((y : Device) → On y → is_card o.source y ≡ false) → ReadsNone On P
  off_card On P off = λ i f is B on such. reads_off o.source f.path On off B on

  unread_less : (k n : ℕ) (w : World) → k ≤ n → Unread k w → Unread n w
  unread_less k n w less u = λ j f far is. u j f (omega (arith, less, far)) is

  unread_off : {On : Device → Type 0} {P : List Event → Type 0} {w new : World} (k : ℕ) → Went On P w new → ReadsNone On P → Unread k w → Unread k new
  unread_off k went none u = λ j f far is. since_more (u j f far is) went (λ A B so on such. reads_then o.source f.path A B (none j f is B on such) ∙ so)

  gave_off : {On : Device → Type 0} {P : List Event → Type 0} {w new : World} (i : ℕ) (t : Triple) → Went On P w new → ReadsNone On P → FileGave i t w → FileGave i t new
  gave_off i t went none g = record {
    file = g.file;
    is_file = g.is_file;
    reads = since_more g.reads went (λ A B so on such. subst (Saw g.file t) (sym (reads_then o.source g.file.path A B (none i g.file g.is_file B on such))) so);
    unread = unread_off (suc i) went none g.unread;
  }

  dated_off : {On : Device → Type 0} {P : List Event → Type 0} {w new : World} (rec : Rec) → Went On P w new → ReadsNone On P → FileDated rec w → FileDated rec new
  dated_off rec went none d = record {
    gave = gave_off rec.index rec.triple went none d.gave;
    sized = d.sized;
    dated = λ f is. since_more (d.dated f is) went (λ A B so on such. dated_more o f rec.hashed A B (none rec.index f is B on such) so);
  }

  -- ---- what is done next

  idle_core : (phase : Phase) (drives now : Drives) (pool : PoolState) (w new : World) → now ≡ drives → new ≡ w → CoreAt phase drives pool w → CoreAt phase now pool new
  idle_core phase drives now pool w new same idle core = subst (λ (x : Drives). CoreAt phase x pool new) (sym same) (subst (λ (v : World). CoreAt phase drives pool v) (sym idle) core)

  ended : (c : Point) → c.at.phase ≡ Ended → Core c
  ended c is = subst (λ (k : Phase). CoreAt k c.at.drives c.pool c.world) (sym is) ((λ d. tt), tt)

  goes_on : (c : Point) (ok : Bool) (next : Phase) → Goes ok next c.at → (c.at.phase ≡ next → CoreAt next c.at.drives c.pool c.world) → Core c
  goes_on c true next (is, going) core = subst (λ (k : Phase). CoreAt k c.at.drives c.pool c.world) (sym is) (core is)
  goes_on c false next (is, out) core = ended c is

  passes : (b c : Point) (next : Phase) → Passes next b.at.drives c.at b.world c.world → CoreAt next b.at.drives c.pool b.world → Core c
  passes b c next t core = goes_on c true next t.goes (λ is. idle_core next b.at.drives c.at.drives c.pool b.world c.world t.drives t.idle core)

  -- by which of two phases comes next
  either : (n w : ℕ) (x y : Phase) (drives : Drives) (pool : PoolState) (v : World) → (n < w → CoreAt x drives pool v) → (w ≤ n → CoreAt y drives pool v) → CoreAt (if nat_lt n w then x else y) drives pool v
  either n w x y drives pool v less more = elim (below n w) [
    | inl holds ↦ subst (λ (k : Phase). CoreAt k drives pool v) (sym (ap (λ b. if b then x else y) holds.0)) (less holds.1)
    | inr fails ↦ subst (λ (k : Phase). CoreAt k drives pool v) (sym (ap (λ b. if b then x else y) fails.0)) (more fails.1)
  ]

  begun_core : (w e : ℕ) (drives : Drives) (pool : PoolState) (v : World) → length drives.each ≡ w → ((d : ℕ) → KeepsFit o.plan (drive_at drives.each d) d v × (d < suc e → HasNone (drive_at drives.each d) d v)) → Unread 0 v → CoreAt (after_begin w e) drives pool v
  begun_core w e drives pool v long parts unread = either (suc e) w (Begins (suc e)) (File 0) drives pool v (λ less. (parts, unread)) (λ more. (λ d. ready d more, unread))
    where
      ready : (d : ℕ) → w ≤ suc e → IsReady o.plan (drive_at drives.each d) d v
      ready d more = elim (below d (suc e)) [
        | inl less ↦ ((parts d).0, (parts d).1 less.1)
        | inr far ↦ ready_gone o.plan (drive_at drives.each d) d v (drive_past drives.each d (omega (arith, long, more, far.1)))
      ]

  file_core : (n i : ℕ) (drives : Drives) (pool : PoolState) (v : World) → ((d : ℕ) → IsReady o.plan (drive_at drives.each d) d v) → Unread (suc i) v → CoreAt (after_file n i) drives pool v
  file_core n i drives pool v parts unread = either (suc i) n (File (suc i)) (Seals 0) drives pool v (λ less. (parts, unread)) (λ more. (parts, tt))

  record_core : (w n : ℕ) (rec : Rec) (e : ℕ) (drives : Drives) (pool : PoolState) (v : World) → length drives.each ≡ w
      → ((d : ℕ) → (d < suc e → due rec.index (drive_at drives.each d) ≡ None) × (due rec.index (drive_at drives.each d) ≡ None → IsReady o.plan (drive_at drives.each d) d v))
      → GivesAt (Records rec e) drives pool v → CoreAt (after_record w n rec e) drives pool v
  record_core w n rec e drives pool v long parts gives = either (suc e) w (Records rec (suc e)) (after_file n rec.index) drives pool v (λ less. (parts, gives)) (λ more. file_core n rec.index drives pool v (λ d. ready d more) gives.gave.unread)
    where
      ready : (d : ℕ) → w ≤ suc e → IsReady o.plan (drive_at drives.each d) d v
      ready d more = elim (below d (suc e)) [
        | inl less ↦ (parts d).1 ((parts d).0 less.1)
        | inr far ↦ ready_gone o.plan (drive_at drives.each d) d v (drive_past drives.each d (omega (arith, long, more, far.1)))
      ]

  seal_core : (w e : ℕ) (drives : Drives) (pool : PoolState) (v : World) → ((d : ℕ) → IsReady o.plan (drive_at drives.each d) d v) → CoreAt (after_seal w e) drives pool v
  seal_core w e drives pool v parts = either (suc e) w (Seals (suc e)) Clears drives pool v (λ less. (parts, tt)) (λ more. ((λ d. tt), tt))

  -- ---- the begins

  module _ (b c : Point) (e : ℕ) (core : CoreAt (Begins e) b.at.drives b.pool b.world) where
    begun : (was : DriveAt) → drive_at b.at.drives.each e ≡ was → BegunAloud o e was b.at.drives c.at b.world c.world → Core c
    begun was is act =
        goes_on c act.said (after_begin (length b.at.drives.each) e) act.goes
        (λ next. begun_core (length b.at.drives.each) e c.at.drives c.pool c.world (count act.ok act.stands) (λ d. parts d) (unread_off 0 act.line.went (off_card _ _ (output_off o.source)) (unread_off 0 went (off_card _ _ (drive_off o.source e)) core.1)))
      where
        went : Went (Only (Drive e)) AnyCalls b.world act.mid
        went = begin_went o.plan e was act.ok b.world act.mid act.tried

        line_same : (d : ℕ) → ReadsSame d act.mid c.world
        line_same d = same_elsewhere d (off_output d) act.line.went

        count : (ok : Bool) → MovesOrDrops e ok (begun_at o.plan was) b.at.drives c.at.drives → length c.at.drives.each ≡ length b.at.drives.each
        count true m = m.each.count
        count false m = m.each.count

        other : (ok : Bool) → MovesOrDrops e ok (begun_at o.plan was) b.at.drives c.at.drives → (d : ℕ) → d ≢ e → drive_at c.at.drives.each d ≡ drive_at b.at.drives.each d
        other true m d ne = m.each.others d ne
        other false m d ne = m.each.others d ne

        here : (ok : Bool) → BeginTried o.plan e was ok b.world act.mid → MovesOrDrops e ok (begun_at o.plan was) b.at.drives c.at.drives → IsReady o.plan (drive_at c.at.drives.each e) e c.world
        here true tried m =
            subst (λ (x : DriveAt). IsReady o.plan x e c.world) (sym m.each.here)
            (ready_stays o.plan (begun_at o.plan was) e act.mid c.world (line_same e) (begin_ready o.plan plan e was b.world act.mid tried (subst (λ (x : DriveAt). KeepsFit o.plan x e b.world) is (core.0 e).0)))
        here false tried m = ready_gone o.plan (drive_at c.at.drives.each e) e c.world m.each.here

        away : (d : ℕ) → d ≢ e → KeepsFit o.plan (drive_at c.at.drives.each d) d c.world × (d < suc e → HasNone (drive_at c.at.drives.each d) d c.world)
        away d ne =
            let same = reads_on d b.world act.mid c.world (same_elsewhere d (other_drive d e ne) went) (line_same d) in
            let x : drive_at c.at.drives.each d ≡ drive_at b.at.drives.each d = other act.ok act.stands d ne in
            subst (λ (y : DriveAt). KeepsFit o.plan y d c.world × (d < suc e → HasNone y d c.world)) (sym x)
            (fit_stays o.plan (drive_at b.at.drives.each d) d b.world c.world same (core.0 d).0, λ less. none_stays (drive_at b.at.drives.each d) d b.world c.world same ((core.0 d).1 (omega (arith, ne, less))))

        parts : (d : ℕ) → KeepsFit o.plan (drive_at c.at.drives.each d) d c.world × (d < suc e → HasNone (drive_at c.at.drives.each d) d c.world)
        parts d = elim (cases_eq d e) [
          | inl same ↦ subst (λ (k : ℕ). KeepsFit o.plan (drive_at c.at.drives.each k) k c.world × (k < suc e → HasNone (drive_at c.at.drives.each k) k c.world)) (sym same) ((here act.ok act.tried act.stands).0, λ less. (here act.ok act.tried act.stands).1)
          | inr ne ↦ away d ne
        ]

    passed : ((v : World) → HasNone (drive_at b.at.drives.each e) e v) → Passes (after_begin (length b.at.drives.each) e) b.at.drives c.at b.world c.world → Core c
    passed none t = passes b c (after_begin (length b.at.drives.each) e) t (begun_core (length b.at.drives.each) e b.at.drives c.pool b.world refl (λ d. ((core.0 d).0, λ less. by d less)) core.1)
      where
        by : (d : ℕ) → d < suc e → HasNone (drive_at b.at.drives.each d) d b.world
        by d less = elim (cases_eq d e) [
          | inl same ↦ subst (λ (k : ℕ). HasNone (drive_at b.at.drives.each k) k b.world) (sym same) (none b.world)
          | inr ne ↦ (core.0 d).1 (omega (arith, ne, less))
        ]

    begin_turn : (was : DriveAt) → drive_at b.at.drives.each e ≡ was → BeginTurn o e was b.at.drives c.at b.world c.world → Core c
    begin_turn Fresh is t = begun Fresh is t
    begin_turn (Begun recs gate kept) is t = begun (Begun recs gate kept) is t
    begin_turn Gone is t = passed (λ v. subst (λ (x : DriveAt). HasNone x e v) (sym is) tt) t
    begin_turn (Found recs) is t = passed (λ v. subst (λ (x : DriveAt). HasNone x e v) (sym is) tt) t
    begin_turn Sealed is t = passed (λ v. subst (λ (x : DriveAt). HasNone x e v) (sym is) tt) t

  -- ---- the choice of a file's drives

  file_turn : (b c : Point) (i : ℕ) → CoreAt (File i) b.at.drives b.pool b.world → FileTurn o i b.at.drives c.at b.world c.world → Core c
  file_turn b c i core (inr (nowhere, t)) = passes b c (after_file (files_of o.plan) i) t (file_core (files_of o.plan) i b.at.drives c.pool b.world core.0 (unread_less i (suc i) b.world (omega arith) core.1))
  file_turn b c i core (inl t) =
      goes_on c true (Copies i t.copy) t.goes (λ next. idle_core (Copies i t.copy) b.at.drives c.at.drives c.pool b.world c.world t.drives t.idle ((λ d not. core.0 d), gives))
    where
      gives : CopyGives i t.copy b.at.drives c.pool b.world
      gives = record {
        file = t.file;
        is_file = t.is_file;
        bytes = [];
        of_card = t.opens.card;
        sized = t.opens.sized;
        live = t.opens.live;
        copying = t.opens.copying c.pool b.world
            (λ d live not. none_of_due i (drive_at b.at.drives.each d) d b.world (sym (t.opens.live d) ∙ live) (sym (t.opens.kept d) ∙ not) (core.0 d).1)
            (λ d keeps. part_of_due o.plan i (drive_at b.at.drives.each d) d b.world t.file t.is_file (sym (t.opens.kept d) ∙ keeps) (core.0 d).0);
        reads = since_such (λ L none. (order_none o.source t.file.path 0 (reads_of o.source t.file.path L) none, ap (flat_map got_in) none)) (core.1 i t.file (omega arith) t.is_file);
        unread = unread_less i (suc i) b.world (omega arith) core.1;
      }

  -- ---- a turn of a copy

  module _ (b c : Point) (i : ℕ) (copy : FileCopy) (parts : (d : ℕ) → PartAt o.plan (Copies i copy) (drive_at b.at.drives.each d) d b.world) (st : CopyGives i copy b.at.drives b.pool b.world) (came : Turn) (next : FileCopy) (mid : World) (between : PoolState)
      (touches : Went (Touches (card_of copy) (live_of copy)) (AreCopyCalls (card_of copy) st.file.path) b.world mid) (t : CopyTurned st.file.path copy next between b.world mid st.bytes came) where
    -- the calls of the turn, on this card
    turn_calls : (B : List Event) → TurnCalls (card_of copy) st.file.path (size_of copy) (standing copy) (standing next) st.bytes t.given (doing (standing copy) t.pick) came B
        → TurnCalls o.source st.file.path (size_of copy) (standing copy) (standing next) st.bytes t.given (doing (standing copy) t.pick) came B
    turn_calls B such = subst (λ (s : ℕ). TurnCalls s st.file.path (size_of copy) (standing copy) (standing next) st.bytes t.given (doing (standing copy) t.pick) came B) st.of_card such

    mine : (B : List Event) → TurnCalls (card_of copy) st.file.path (size_of copy) (standing copy) (standing next) st.bytes t.given (doing (standing copy) t.pick) came B → reads_of o.source st.file.path B ≡ card_calls o.source B
    mine B such = copy_reads o.source st.file.path B (turn_copy o.source st.file.path (size_of copy) (standing copy) (standing next) st.bytes t.given (doing (standing copy) t.pick) came B (turn_calls B such))

    -- the reads go on where those before ended
    pub ordered : Since (λ L. (end : ℕ) × ReadsFrom o.source st.file.path 0 end (reads_of o.source st.file.path L) × (GoesOn came → end ≡ length (st.bytes ++ t.given))) a.world mid
    ordered = since_more st.reads t.calls (λ A B so on such.
        let more = turn_order o.source st.file.path (size_of copy) (standing copy) (standing next) st.bytes t.given (doing (standing copy) t.pick) came B
        (λ q is. reads_at copy b.pool b.world st.bytes t.pick q st.copying is) (λ q is. ends_at copy b.pool b.world st.bytes t.pick q st.copying is) (turn_calls B such) in
        let there : ReadsFrom o.source st.file.path (length st.bytes) more.0 (reads_of o.source st.file.path B) = subst (λ (K : List Event). ReadsFrom o.source st.file.path (length st.bytes) more.0 K) (sym (mine B such)) more.1 in
        (more.0, subst (λ (K : List Event). ReadsFrom o.source st.file.path 0 more.0 K) (sym (reads_append o.source st.file.path A B)) (order_append o.source st.file.path 0 (length st.bytes) more.0 (reads_of o.source st.file.path A) (reads_of o.source st.file.path B) so.0 there), more.2))

    gave : Good came → Since (λ L. card_given o.source st.file.path L ≡ st.bytes ++ t.given) a.world mid
    gave good = since_more st.reads t.calls (λ A B so on such.
        given_append o.source st.file.path A B
        ∙ (λ k. so.1 k ++ (ap (flat_map got_in) (mine B such) ∙ turn_got o.source st.file.path (size_of copy) (standing copy) (standing next) st.bytes t.given (doing (standing copy) t.pick) came B good (turn_calls B such)) k))

    -- no other file is read
    unread_mid : Unread (suc i) mid
    unread_mid = λ j f far is. since_more (st.unread j f far is) touches (λ A B so on such.
        reads_then o.source f.path A B (other_reads o.source f.path st.file.path B (paths_apart o.plan plan i j st.file f (omega (arith, far)) st.is_file is) (subst (λ (s : ℕ). AreCopyCalls s st.file.path B) st.of_card such)) ∙ so)

    -- a drive on which the file is not due reads as before
    ready_mid : (d : ℕ) → due i (drive_at b.at.drives.each d) ≡ None → IsReady o.plan (drive_at b.at.drives.each d) d mid
    ready_mid d not = ready_stays o.plan (drive_at b.at.drives.each d) d b.world mid ((copy_keeps (card_of copy) (live_of copy) st.file.path b.world mid touches).drives d (st.live d ∙ ap is_some not)) (parts d not)

    -- what is known where the copy goes on
    going : GoesOn came → Good came → Since (λ L. ReadsFrom o.source st.file.path 0 (length (st.bytes ++ t.given)) (reads_of o.source st.file.path L) × (card_given o.source st.file.path L ≡ st.bytes ++ t.given)) a.world mid
    going on good = since_both (since_such (λ L j. subst (λ (n : ℕ). ReadsFrom o.source st.file.path 0 n (reads_of o.source st.file.path L)) (j.2 on) j.1) ordered) (gave good)

  -- what is known where it ended well
  saw : (b c : Point) (i : ℕ) (copy : FileCopy) (parts : (d : ℕ) → PartAt o.plan (Copies i copy) (drive_at b.at.drives.each d) d b.world) (st : CopyGives i copy b.at.drives b.pool b.world) (digests : Triple) (next : FileCopy) (mid : World) (between : PoolState)
      (touches : Went (Touches (card_of copy) (live_of copy)) (AreCopyCalls (card_of copy) st.file.path) b.world mid) (t : CopyTurned st.file.path copy next between b.world mid st.bytes (Copied digests)) → Since (λ L. Saw st.file digests (reads_of o.source st.file.path L)) a.world mid
  saw b c i copy parts st digests next mid between touches t =
      since_such (λ L j. (order_in o.source st.file.path 0 j.0.0 (reads_of o.source st.file.path L) j.0.1, j.1.1, t.came.2 ∙ ap triple (sym (j.1.0 ∙ ap (λ (l : List ℕ). st.bytes ++ l) t.came.0 ∙ append-nil st.bytes))))
      (since_both (ordered b c i copy parts st (Copied digests) next mid between touches t) (since_both (gave b c i copy parts st (Copied digests) next mid between touches t tt) past))
    where
      past : Since (λ L. EndsAtSize o.source st.file.path st.file.size (reads_of o.source st.file.path L)) a.world mid
      past = since_more st.reads t.calls (λ A B so on such.
          let calls = turn_calls b c i copy parts st (Copied digests) next mid between touches t B such in
          let last = turn_past o.source st.file.path (size_of copy) (standing copy) (standing next) st.bytes t.given (doing (standing copy) t.pick) digests B t.stands calls in
          ends_more o.source st.file.path st.file.size A B (subst (λ (n : ℕ). EndsAtSize o.source st.file.path n (reads_of o.source st.file.path B)) st.sized
          (subst (λ (K : List Event). EndsAtSize o.source st.file.path (size_of copy) K) (sym (mine b c i copy parts st (Copied digests) next mid between touches t B such)) last)))

  same_live : (x y : List Bool) → y ≡ x → (d : ℕ) → has y d ≡ has x d
  same_live x y is d = ap (λ (set : List Bool). has set d) is

  module _ (b c : Point) (i : ℕ) (copy : FileCopy) (parts : (d : ℕ) → PartAt o.plan (Copies i copy) (drive_at b.at.drives.each d) d b.world) (st : CopyGives i copy b.at.drives b.pool b.world) where
    copy_came : (came : Turn) (next : FileCopy) (mid : World) (between : PoolState) → Went (Touches (card_of copy) (live_of copy)) (AreCopyCalls (card_of copy) st.file.path) b.world mid
        → CopyTurned st.file.path copy next between b.world mid st.bytes came → (card_of next ≡ card_of copy) × (size_of next ≡ size_of copy) → GoOn came (live_of copy) (live_of next)
        → CopySettles (files_of o.plan) i came next b.at.drives c.at mid c.world → (c.at.phase ≡ Copies i next → c.pool ≡ between) → Core c
    copy_came Going next mid between touches t same go settles kept =
        goes_on c true (Copies i next) settles.1 (λ is. idle_core (Copies i next) b.at.drives c.at.drives c.pool mid c.world settles.0 settles.2 (
          (λ d not. ready_mid b c i copy parts st Going next mid between touches t d not),
          record {
            file = st.file;
            is_file = st.is_file;
            bytes = st.bytes ++ t.given;
            of_card = same.0 ∙ st.of_card;
            sized = same.1 ∙ st.sized;
            live = λ d. same_live (live_of copy) (live_of next) go d ∙ st.live d;
            copying = subst (λ (p : PoolState). Copying next p mid (st.bytes ++ t.given)) (sym (kept is)) t.came;
            reads = going b c i copy parts st Going next mid between touches t tt tt;
            unread = unread_mid b c i copy parts st Going next mid between touches t;
          },
        ))
    copy_came (Dropped e) next mid between touches t same go settles kept =
        goes_on c settles.said (copies_on (files_of o.plan) i next) settles.goes (λ is. by (lowest (live_of next)) refl is)
      where
        line : ReadsSameAll mid c.world
        line = λ d. same_elsewhere d (off_output d) settles.line.went

        place : (d : ℕ) → (d ≡ e) ⊎ ((d ≢ e) × (drive_at c.at.drives.each d ≡ drive_at b.at.drives.each d))
        place d = elim (cases_eq d e) [
          | inl here ↦ inl here
          | inr ne ↦ inr (ne, settles.drops.each.others d ne)
        ]

        gone : (d : ℕ) → d ≡ e → drive_at c.at.drives.each d ≡ Gone
        gone d here = ap (drive_at c.at.drives.each) here ∙ settles.drops.each.here

        ready : (d : ℕ) → due i (drive_at c.at.drives.each d) ≡ None → IsReady o.plan (drive_at c.at.drives.each d) d c.world
        ready d not = elim (place d) [
          | inl here ↦ ready_gone o.plan (drive_at c.at.drives.each d) d c.world (gone d here)
          | inr away ↦ subst (λ (x : DriveAt). IsReady o.plan x d c.world) (sym away.1) (ready_stays o.plan (drive_at b.at.drives.each d) d mid c.world (line d) (ready_mid b c i copy parts st (Dropped e) next mid between touches t d (ap (due i) (sym away.1) ∙ not)))
        ]

        live : (d : ℕ) → has (live_of next) d ≡ is_some (due i (drive_at c.at.drives.each d))
        live d = elim (place d) [
          | inl here ↦ ap (λ (k : ℕ). has (live_of next) k) here ∙ out (has (live_of next) e) refl ∙ sym (ap (λ (x : DriveAt). is_some (due i x)) (gone d here))
          | inr away ↦ same_live (slice_set (live_of copy) e false) (live_of next) go.1 d ∙ get_or-set_other (live_of copy) e d false false away.0 ∙ st.live d ∙ ap (λ (x : DriveAt). is_some (due i x)) (sym away.1)
        ]
          where
            out : (v : Bool) → has (live_of next) e ≡ v → has (live_of next) e ≡ false
            out true is = absurd ((still_live (live_of copy) e e (sym (same_live (slice_set (live_of copy) e false) (live_of next) go.1 e) ∙ is)).1 refl)
            out false is = is

        unread : Unread (suc i) c.world
        unread = unread_off (suc i) settles.line.went (off_card _ _ (output_off o.source)) (unread_mid b c i copy parts st (Dropped e) next mid between touches t)

        gives : c.at.phase ≡ Copies i next → CopyGives i next c.at.drives c.pool c.world
        gives is = record {
          file = st.file;
          is_file = st.is_file;
          bytes = st.bytes ++ t.given;
          of_card = same.0 ∙ st.of_card;
          sized = same.1 ∙ st.sized;
          live = live;
          copying = copying_stays next c.pool c.pool mid c.world (st.bytes ++ t.given) (record { same = λ j k at. refl }) (λ d on. line d) (subst (λ (p : PoolState). Copying next p mid (st.bytes ++ t.given)) (sym (kept is)) t.came.1);
          reads = since_more (going b c i copy parts st (Dropped e) next mid between touches t tt tt) settles.line.went (λ A B so on such.
              let none = reads_then o.source st.file.path A B (reads_off o.source st.file.path (Only Output) (output_off o.source) B on) in
              (subst (λ (K : List Event). ReadsFrom o.source st.file.path 0 (length (st.bytes ++ t.given)) K) (sym none) so.0, ap (flat_map got_in) none ∙ so.1));
          unread = unread;
        }

        by : (low : Option ℕ) → lowest (live_of next) ≡ low → c.at.phase ≡ copies_on (files_of o.plan) i next → CoreAt (copies_on (files_of o.plan) i next) c.at.drives c.pool c.world
        by (Some k) low is =
            let go_on : copies_on (files_of o.plan) i next ≡ Copies i next = ap (λ (x : Option ℕ). if is_some x then Copies i next else after_file (files_of o.plan) i) low in
            subst (λ (k : Phase). CoreAt k c.at.drives c.pool c.world) (sym go_on) (ready, gives (is ∙ go_on))
        by None low is =
            let over : copies_on (files_of o.plan) i next ≡ after_file (files_of o.plan) i = ap (λ (x : Option ℕ). if is_some x then Copies i next else after_file (files_of o.plan) i) low in
            subst (λ (k : Phase). CoreAt k c.at.drives c.pool c.world) (sym over)
            (file_core (files_of o.plan) i c.at.drives c.pool c.world (λ d. ready d (not_due (due i (drive_at c.at.drives.each d)) (sym (live d) ∙ none_lowest (live_of next) low d))) unread)
    copy_came (Copied digests) next mid between touches t same go settles kept =
        goes_on c true (Dates i digests) settles.1 (λ is. idle_core (Dates i digests) b.at.drives c.at.drives c.pool mid c.world settles.0 settles.2 (
          (λ d not. ready_mid b c i copy parts st (Copied digests) next mid between touches t d not),
          record {
            file = st.file;
            is_file = st.is_file;
            reads = saw b c i copy parts st digests next mid between touches t;
            unread = unread_mid b c i copy parts st (Copied digests) next mid between touches t;
          },
        ))
    copy_came SourceFailed next mid between touches t same go settles kept = ended c settles.1.0
    copy_came (Changed p q) next mid between touches t same go settles kept = ended c settles.1.0
    copy_came NoDrive next mid between touches t same go settles kept = absurd settles

    copy_turn : CopyActed o i copy b.at.drives c.at b.pool c.pool b.world c.world → Core c
    copy_turn t =
        let same : t.file ≡ st.file = some_same t.file st.file (sym t.is_file ∙ st.is_file) in
        copy_came t.came t.next t.mid t.between (subst (λ (f : PlannedFile). Went (Touches (card_of copy) (live_of copy)) (AreCopyCalls (card_of copy) f.path) b.world t.mid) same t.touches)
        (subst (λ (f : PlannedFile). CopyTurned f.path copy t.next t.between b.world t.mid st.bytes t.came) same (t.turned st.bytes st.copying)) (t.same.0, t.same.1) t.go_on t.settles t.same_pool

  -- ---- the moment, and the recording

  date_turn : (b c : Point) (i : ℕ) (t : Triple) → CoreAt (Dates i t) b.at.drives b.pool b.world → (other : Option Listed) → DateTurn o i t other b.at.drives c.at b.world c.world → Core c
  date_turn b c i t core (Some l) act = ended c act.1.0
  date_turn b c i t core None act =
      goes_on c true (Records (record { index = i; size = act.file.size; triple = t; hashed = act.seconds }) 0) act.goes
      (λ next. idle_core (Records (record { index = i; size = act.file.size; triple = t; hashed = act.seconds }) 0) b.at.drives c.at.drives c.pool c.world c.world act.drives refl (
        (λ d. parts d),
        record {
          gave = gave_off i t act.asked (off_card _ _ (clock_off o.source)) core.1;
          sized = λ f is. size f is;
          dated = λ f is. dated f is;
        },
      ))
    where
      parts : (d : ℕ) → (d < 0 → due i (drive_at b.at.drives.each d) ≡ None) × (due i (drive_at b.at.drives.each d) ≡ None → IsReady o.plan (drive_at b.at.drives.each d) d c.world)
      parts d = (λ less. absurd (omega (arith, less)), λ not. ready_stays o.plan (drive_at b.at.drives.each d) d b.world c.world (same_elsewhere d (off_clock d) act.asked) (core.0 d not))

      size : (f : PlannedFile) → slice_get o.plan.files i ≡ Some f → act.file.size ≡ f.size
      size f is = ap (λ (g : PlannedFile). g.size) (some_same act.file f (sym act.is_file ∙ is))

      -- the copy came to its end, and then its moment was asked
      dated : (f : PlannedFile) → slice_get o.plan.files i ≡ Some f → Since (IsDated o f act.seconds) a.world c.world
      dated f is =
          let same : core.1.file ≡ f = some_same core.1.file f (sym core.1.is_file ∙ is) in
          subst (λ (g : PlannedFile). Since (IsDated o g act.seconds) a.world c.world) same
          (since_more core.1.reads act.asked (λ A B so on such. dated_next o core.1.file act.seconds A B so.1 such))

  module _ (b c : Point) (rec : Rec) (e : ℕ) (core : CoreAt (Records rec e) b.at.drives b.pool b.world) where
    not_recorded : due rec.index (drive_at b.at.drives.each e) ≡ None → Passes (after_record (length b.at.drives.each) (files_of o.plan) rec e) b.at.drives c.at b.world c.world → Core c
    not_recorded not t = passes b c (after_record (length b.at.drives.each) (files_of o.plan) rec e) t (record_core (length b.at.drives.each) (files_of o.plan) rec e b.at.drives c.pool b.world refl (λ d. (λ less. by d less, (core.0 d).1)) core.1)
      where
        by : (d : ℕ) → d < suc e → due rec.index (drive_at b.at.drives.each d) ≡ None
        by d less = elim (cases_eq d e) [
          | inl same ↦ ap (λ (k : ℕ). due rec.index (drive_at b.at.drives.each k)) same ∙ not
          | inr ne ↦ (core.0 d).0 (omega (arith, ne, less))
        ]

    recorded : (was : Journaled) → due rec.index (drive_at b.at.drives.each e) ≡ Some was → RecordedAloud o rec e was b.at.drives c.at b.world c.world → Core c
    recorded was is act =
        goes_on c act.said (after_record (length b.at.drives.each) (files_of o.plan) rec e) act.goes
        (λ next. record_core (length b.at.drives.each) (files_of o.plan) rec e c.at.drives c.pool c.world (count act.came act.stands) (λ d. parts d) (dated_off rec act.line.went (off_card _ _ (output_off o.source)) (dated_off rec act.went (off_card _ _ (drive_off o.source e)) core.1)))
      where
        line_same : (d : ℕ) → ReadsSame d act.mid c.world
        line_same d = same_elsewhere d (off_output d) act.line.went

        count : (came : Result Gate ReadBackError) → RecordStands e was.recs rec came b.at.drives c.at.drives → length c.at.drives.each ≡ length b.at.drives.each
        count (Ok next) m = m.each.count
        count (Err y) m = m.each.count

        other : (came : Result Gate ReadBackError) → RecordStands e was.recs rec came b.at.drives c.at.drives → (d : ℕ) → d ≢ e → drive_at c.at.drives.each d ≡ drive_at b.at.drives.each d
        other (Ok next) m d ne = m.each.others d ne
        other (Err y) m d ne = m.each.others d ne

        longer : length (was.recs ++ rec ∷ []) ≢ rec.index
        longer same = let n = length-append was.recs (rec ∷ []) in let k = (due_some rec.index (drive_at b.at.drives.each e) was is).count in absurd (omega (arith, n, k, same))

        here : (came : Result Gate ReadBackError) → RecordStands e was.recs rec came b.at.drives c.at.drives → Cleans e (is_ok came) b.world act.mid
            → (due rec.index (drive_at c.at.drives.each e) ≡ None) × IsReady o.plan (drive_at c.at.drives.each e) e c.world
        here (Ok next) m clean = (
          ap (due rec.index) m.each.here ∙ due_not rec.index (was.recs ++ rec ∷ []) next false longer,
          subst (λ (x : DriveAt). IsReady o.plan x e c.world) (sym m.each.here) (
            tt,
            no_part_stays e act.mid c.world (line_same e) (λ k L h.
                let b = honest_before e k L act.went h in
                clean.no_part refl k b.0 L b.1.events h.events),
          ),
        )
        here (Err y) m clean = (ap (due rec.index) m.each.here, ready_gone o.plan (drive_at c.at.drives.each e) e c.world m.each.here)

        away : (d : ℕ) → d ≢ e → (d < suc e → due rec.index (drive_at c.at.drives.each d) ≡ None) × (due rec.index (drive_at c.at.drives.each d) ≡ None → IsReady o.plan (drive_at c.at.drives.each d) d c.world)
        away d ne =
            let same = reads_on d b.world act.mid c.world (same_elsewhere d (other_drive d e ne) act.went) (line_same d) in
            subst (λ (x : DriveAt). (d < suc e → due rec.index x ≡ None) × (due rec.index x ≡ None → IsReady o.plan x d c.world)) (sym (other act.came act.stands d ne))
            (λ less. (core.0 d).0 (omega (arith, ne, less)), λ not. ready_stays o.plan (drive_at b.at.drives.each d) d b.world c.world same ((core.0 d).1 not))

        parts : (d : ℕ) → (d < suc e → due rec.index (drive_at c.at.drives.each d) ≡ None) × (due rec.index (drive_at c.at.drives.each d) ≡ None → IsReady o.plan (drive_at c.at.drives.each d) d c.world)
        parts d = elim (cases_eq d e) [
          | inl same ↦ subst (λ (k : ℕ). (k < suc e → due rec.index (drive_at c.at.drives.each k) ≡ None) × (due rec.index (drive_at c.at.drives.each k) ≡ None → IsReady o.plan (drive_at c.at.drives.each k) k c.world)) (sym same)
              (λ less. (here act.came act.stands act.clean).0, λ not. (here act.came act.stands act.clean).1)
          | inr ne ↦ away d ne
        ]

    record_turn : (was : Option Journaled) → due rec.index (drive_at b.at.drives.each e) ≡ was → RecordTurn o rec e was b.at.drives c.at b.world c.world → Core c
    record_turn None is t = not_recorded is t
    record_turn (Some was) is t = recorded was is t

  -- ---- the sealing, and the end

  -- the other drives are as they were
  sealed_ready : (b c : Point) (e : ℕ) (x : DriveAt) → ((d : ℕ) → IsReady o.plan (drive_at b.at.drives.each d) d b.world) → Puts e x b.at.drives.each c.at.drives.each → IsReady o.plan x e c.world → ((d : ℕ) → d ≢ e → ReadsSame d b.world c.world)
      → (d : ℕ) → IsReady o.plan (drive_at c.at.drives.each d) d c.world
  sealed_ready b c e x old puts here same d = elim (cases_eq d e) [
    | inl is ↦ subst (λ (k : ℕ). IsReady o.plan (drive_at c.at.drives.each k) k c.world) (sym is) (subst (λ (y : DriveAt). IsReady o.plan y e c.world) (sym puts.here) here)
    | inr ne ↦ subst (λ (y : DriveAt). IsReady o.plan y d c.world) (sym (puts.others d ne)) (ready_stays o.plan (drive_at b.at.drives.each d) d b.world c.world (same d ne) (old d))
  ]

  module _ (b c : Point) (e : ℕ) (core : CoreAt (Seals e) b.at.drives b.pool b.world) where
    sealed_aloud : (recs : List Rec) → SealedAloud o e recs b.at.drives c.at b.world c.world → Core c
    sealed_aloud recs t = goes_on c t.said (after_seal (length b.at.drives.each) e) t.goes (λ next. seal_core (length b.at.drives.each) e c.at.drives c.pool c.world (parts t.came t.stands))
      where
        same : (d : ℕ) → d ≢ e → ReadsSame d b.world c.world
        same d ne = reads_on d b.world t.mid c.world (reads_on d b.world t.dated t.mid (same_elsewhere d (off_clock d) t.asked) (same_elsewhere d (other_drive d e ne) t.went)) (same_elsewhere d (off_output d) t.line.went)

        parts : (came : Result Unit SealError) → SealStands e came b.at.drives c.at.drives → (d : ℕ) → IsReady o.plan (drive_at c.at.drives.each d) d c.world
        parts (Ok v) m d = sealed_ready b c e Sealed core.0 m.each (tt, tt) same d
        parts (Err y) m d = sealed_ready b c e Gone core.0 m.each (tt, tt) same d

    seal_passes : Passes (after_seal (length b.at.drives.each) e) b.at.drives c.at b.world c.world → Core c
    seal_passes t = passes b c (after_seal (length b.at.drives.each) e) t (seal_core (length b.at.drives.each) e b.at.drives c.pool b.world core.0)

    seal_turn : (x : DriveAt) → SealTurn o e x b.at.drives c.at b.world c.world → Core c
    seal_turn (Begun recs gate kept) t = sealed_aloud recs t
    seal_turn (Found recs) t = goes_on c t.said (after_seal (length b.at.drives.each) e) t.goes
        (λ next. seal_core (length b.at.drives.each) e c.at.drives c.pool c.world (λ d. sealed_ready b c e Sealed core.0 t.stands.each (tt, tt) (λ k ne. same_elsewhere k (off_output k) t.line.went) d))
    seal_turn Fresh t = absurd t
    seal_turn Gone t = seal_passes t
    seal_turn Sealed t = seal_passes t

  clear_turn : (b c : Point) (required sealed : ℕ) (due : Bool) → ClearTurn required sealed due c.at b.world c.world → Core c
  clear_turn b c required sealed true t = ended c t.ends.0
  clear_turn b c required sealed false t = ended c t.0.0

  turn_core : (b c : Point) (phase : Phase) → b.at.phase ≡ phase → CoreAt phase b.at.drives b.pool b.world → Acted o phase b.at c.at b.pool c.pool b.world c.world → Core c
  turn_core b c (Begins e) is core t = begin_turn b c e core (drive_at b.at.drives.each e) refl t
  turn_core b c (File i) is core t = file_turn b c i core t
  turn_core b c (Copies i copy) is core t = copy_turn b c i copy core.0 core.1 t
  turn_core b c (Dates i t) is core act = date_turn b c i t core (other_listed o.listed i t) act
  turn_core b c (Records rec e) is core t = record_turn b c rec e core (due rec.index (drive_at b.at.drives.each e)) refl t
  turn_core b c (Seals e) is core t = seal_turn b c e core (drive_at b.at.drives.each e) t
  turn_core b c Clears is core t = clear_turn b c o.copies (count_sealed b.at.drives.each) (is_clear (count_sealed b.at.drives.each) o.copies) t.1
  turn_core b c Ended is core t = ended c (ap (λ (k : At). k.phase) t.0 ∙ is)

  -- ---- what others do

  module _ (b c : Point) (t : Beside o b c) where
    gone_or : (d : ℕ) → (drive_at b.at.drives.each d ≡ Gone) ⊎ (is_of_run b.at.drives d ≡ true)
    gone_or d = by (drive_at b.at.drives.each d) refl
      where
        by : (x : DriveAt) → drive_at b.at.drives.each d ≡ x → (drive_at b.at.drives.each d ≡ Gone) ⊎ (is_of_run b.at.drives d ≡ true)
        by Gone is = inl is
        by Fresh is = inr (ap (λ (y : DriveAt). not (is_gone y) || has b.at.drives.dropped d) is)
        by (Begun recs gate kept) is = inr (ap (λ (y : DriveAt). not (is_gone y) || has b.at.drives.dropped d) is)
        by (Found recs) is = inr (ap (λ (y : DriveAt). not (is_gone y) || has b.at.drives.dropped d) is)
        by Sealed is = inr (ap (λ (y : DriveAt). not (is_gone y) || has b.at.drives.dropped d) is)

    pub beside_same : (d : ℕ) → is_of_run b.at.drives d ≡ true → ReadsSame d b.world c.world
    beside_same d of = same_elsewhere d (elsewhere_off b.at.drives d of) t.went

    pub beside_none : ReadsNone (IsElsewhere b.at.drives) (AreBeside o b.at.drives)
    beside_none i f is B on such = beside_reads o b.at.drives f.path B (is_planned o.plan i f is) such

    beside_part : (phase : Phase) (d : ℕ) → PartAt o.plan phase (drive_at b.at.drives.each d) d b.world → PartAt o.plan phase (drive_at b.at.drives.each d) d c.world
    beside_part phase d part = elim (gone_or d) [
      | inl gone ↦ part_at_gone o.plan phase (drive_at b.at.drives.each d) d c.world gone
      | inr of ↦ part_at_stays o.plan phase (drive_at b.at.drives.each d) d b.world c.world (beside_same d of) part
    ]

    of_due : (i d : ℕ) → is_some (due i (drive_at b.at.drives.each d)) ≡ true → is_of_run b.at.drives d ≡ true
    of_due i d some = ap (λ (g : Bool). not g || has b.at.drives.dropped d) (is_due i (drive_at b.at.drives.each d) some)

    beside_gives : (phase : Phase) → b.at.phase ≡ phase → GivesAt phase b.at.drives b.pool b.world → GivesAt phase b.at.drives c.pool c.world
    beside_gives (Begins e) is g = unread_off 0 t.went beside_none g
    beside_gives (File i) is g = unread_off i t.went beside_none g
    beside_gives (Copies i copy) is g = record {
      file = g.file;
      is_file = g.is_file;
      bytes = g.bytes;
      of_card = g.of_card;
      sized = g.sized;
      live = g.live;
      copying = copying_stays copy b.pool c.pool b.world c.world g.bytes (subst (λ (k : Phase). KeepsBlocks (slots_in k) b.pool c.pool) is t.blocks) (λ d on. beside_same d (of_due i d (sym (g.live d) ∙ on))) g.copying;
      reads = since_more g.reads t.went (λ A B so on such.
          let none = reads_then o.source g.file.path A B (beside_none i g.file g.is_file B on such) in
          (subst (λ (K : List Event). ReadsFrom o.source g.file.path 0 (length g.bytes) K) (sym none) so.0, ap (flat_map got_in) none ∙ so.1));
      unread = unread_off (suc i) t.went beside_none g.unread;
    }
    beside_gives (Dates i k) is g = gave_off i k t.went beside_none g
    beside_gives (Records rec e) is g = dated_off rec t.went beside_none g
    beside_gives (Seals e) is g = tt
    beside_gives Clears is g = tt
    beside_gives Ended is g = tt

    beside_core : Core b → Core c
    beside_core core =
        let here : CoreAt b.at.phase b.at.drives c.pool c.world = ((λ d. beside_part b.at.phase d (core.0 d)), beside_gives b.at.phase refl core.1) in
        subst (λ (k : At). CoreAt k.phase k.drives c.pool c.world) (sym t.same) here

  -- ---- any number of turns

  pub runs_core : (b : Point) → Core a → Runs o a b → Core b
  runs_core b core starts = core
  runs_core b core (turns {b = x} so_far t) = turn_core x b x.at.phase refl (runs_core x core so_far) t
  runs_core b core (beside {b = x} so_far t) = beside_core x b t (runs_core x core so_far)

  pub start_core : Starts o a → Core a
  start_core s = subst (λ (k : Phase). CoreAt k a.at.drives a.pool a.world) (sym s.run.phase) ((λ d. (s.kept d, λ less. absurd (omega (arith, less)))), λ j f far is. since_none a.world refl)

-- what is so of the parts and the copy after any number of turns
pub stand : (o : Ordered) (a b : Point) → Starts o a → Runs o a b → PartsStand o b
stand o a b s r =
    let core = runs_core o s.run.run.plan a b (start_core o s.run.run.plan a s) r in
    record { drives = core.0; copy = by b.at.phase core.1 }
  where
    by : (phase : Phase) → GivesAt o s.run.run.plan a phase b.at.drives b.pool b.world → CopyStands phase b.pool b.world
    by (Begins e) g = tt
    by (File i) g = tt
    by (Copies i copy) g = (g.bytes, g.copying)
    by (Dates i t) g = tt
    by (Records rec e) g = tt
    by (Seals e) g = tt
    by Clears g = tt
    by Ended g = tt
