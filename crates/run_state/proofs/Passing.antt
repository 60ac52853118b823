-- Drives that the turns of a run pass over.
use Rattle.std.proofs.Common.{◌≡◌, ◌≢◌, ◌⊎◌, inl, inr, ℕ, zero, suc, ◌^◌, ◌<◌, Bool, true, false, List, [], ◌∷◌, ◌++◌, length, refl, sym, ◌∙◌, ap, subst, arith}
use Rattle.std.specs.Prelude.{Option, Some, None, is_some, not, ◌||◌, Result, Ok, Err}
use Rattle.std.proofs.lemmas.Bool.{false≢true, cases_Bool, cases_eq}
use Rattle.std.proofs.lemmas.List.{get_or-set_other}
use Rattle.bay_core.specs.declared.event.Event.{Event}
use Rattle.bay_core.specs.declared.event.Event.TheVariants.{AttachSource, AttachDrive, AttachFailed, SourceList, SourceRead, DriveList, DriveRead, Write, Sync, Rename, Remove, Moment, Pick, Say}
use Rattle.bay_core.specs.Replay.{Drive}
use Rattle.bay_core.specs.Went.{Went}
use Rattle.bay_core.specs.World.{World}
use Rattle.bay_core.proofs.Runs.{went_none, went_such, went_on, went_then}
use Rattle.block_pool.specs.Lent.{PoolState}
use Rattle.crash_law.specs.Lines.{LineHas, AllLines}
use Rattle.crash_law.proofs.Lines.{AllLines-append}
use Rattle.copy_plan.specs.Plan.{PlanValue}
use Rattle.digest_set.specs.declared.triple.Triple.{Triple}
use Rattle.drive_journal.specs.declared.order.Listed.{Listed}
use Rattle.drive_journal.specs.declared.record.Gate.{Gate}
use Rattle.drive_journal.specs.declared.record.Rec.{Rec}
use Rattle.fan_core.specs.Flags.{has}
use Rattle.fan_copier.specs.declared.copy.FileCopy.{FileCopy}
use Rattle.fan_copier.specs.declared.turn.Turn.{Turn}
use Rattle.fan_copier.specs.declared.turn.Turn.TheVariants.{Going as CopyGoes, Dropped, Copied, SourceFailed as CardFailed, Changed as CardChanged, NoDrive as NoneLeft}
use Rattle.fan_copier.specs.Copying.{live_of}
use Rattle.fan_copier.specs.Turning.{GoOn}
use Rattle.read_back.specs.declared.back.ReadBackError.{ReadBackError}
use Rattle.seal_step.specs.declared.error.SealError.{SealError}
use Rattle.run_state.specs.declared.phase.Phase.{Phase}
use Rattle.run_state.specs.declared.phase.Phase.TheVariants.{Begins, File, Copies, Dates, Records, Seals, Clears, Ended}
use Rattle.run_state.specs.Acts.{Moves, Drops, MovesOrDrops, SealsDrive, begun_at, BeginTurn, FileTurn, CopySettles, CopyActed, other_listed, DateTurn, RecordStands, RecordTurn, SealStands, SealTurn}
use Rattle.run_state.specs.Calls.{IsOfRun, IsTurnCall, AreTurnCalls}
use Rattle.run_state.specs.Rules.{IsOver, FitsCopy, Fits, FitDrives, IsRun}
use Rattle.run_state.specs.Runs.{Point, is_about, IsBeside, AreBeside, Alone, still, turned, Runs, starts, turns, beside}
use Rattle.run_state.specs.State.{Ordered, DriveAt, Gone, Fresh, Begun, Found, Sealed, Drives, At, Journaled, IsCalled, files_of, drive_at, is_gone, is_of_run, due}
use Rattle.run_state.specs.Turn.{Acted, Turned}
use Rattle.run_state.proofs.Drives.{there}
use Rattle.run_state.proofs.Calls.{called_if_due, called_not_gone, called_not_over}

pub over_uncalled : (x : DriveAt) → IsOver x → IsCalled x → ⊥
over_uncalled x over called = called_not_over x called over

pub over_if_gone : (x : DriveAt) → is_gone x ≡ true → IsOver x
over_if_gone Gone gone = tt
over_if_gone Fresh gone = absurd (false≢true gone)
over_if_gone (Begun recs gate kept) gone = absurd (false≢true gone)
over_if_gone (Found recs) gone = absurd (false≢true gone)
over_if_gone Sealed gone = tt

-- a drive of a run is one of the first eight
has_low : (set : List Bool) (d : ℕ) → has set d ≡ true → d < length set
has_low [] d is = absurd (false≢true is)
has_low (b ∷ set) zero is = omega arith
has_low (b ∷ set) (suc d) is = let low = has_low set d is in omega (arith, low)

pub of_run_low : (p : PlanValue) (drives : Drives) (d : ℕ) → FitDrives p drives → is_of_run drives d ≡ true → d < 8
of_run_low p drives d fit is = elim (cases_Bool (is_gone (drive_at drives.each d))) [
  | inl gone ↦
      let dropped : has drives.dropped d ≡ true = sym (ap (λ (b : Bool). not b || has drives.dropped d) gone) ∙ is in
      let low = has_low drives.dropped d dropped in
      let eight = fit.sets.1 in
      omega (arith, low, eight)
  | inr live ↦ let low = there drives.each d live in let few = fit.few in omega (arith, low, few)
]

-- ---- where a drive stands after a turn that may not call it

-- A drive that no turn may call: none may after it, it stands as before if nothing was left to be done on it, and it is or was of the run just where it
-- was that before.
pub record Passed (d : ℕ) (old new : Drives) : Type 0 where
  pub uncalled : IsCalled (drive_at new.each d) → ⊥
  pub over : IsOver (drive_at old.each d) → drive_at new.each d ≡ drive_at old.each d
  pub of_run : is_of_run old d ≡ true → is_of_run new d ≡ true
  pub was_of_run : is_of_run new d ≡ true → is_of_run old d ≡ true

module _ (o : Ordered) (old new : At) (rules : IsRun o old) (d : ℕ) (uncalled : IsCalled (drive_at old.drives.each d) → ⊥) where
  -- it stands as before
  as_before : drive_at new.drives.each d ≡ drive_at old.drives.each d → has new.drives.dropped d ≡ has old.drives.dropped d → Passed d old.drives new.drives
  as_before state set = record {
    uncalled = subst (λ (x : DriveAt). IsCalled x → ⊥) (sym state) uncalled;
    over = λ over. state;
    of_run = λ was. (λ i. not (is_gone (state i)) || set i) ∙ was;
    was_of_run = λ on. (λ i. not (is_gone (sym state i)) || sym set i) ∙ on;
  }

  same : new.drives ≡ old.drives → Passed d old.drives new.drives
  same is = as_before (ap (λ (x : Drives). drive_at x.each d) is) (ap (λ (x : Drives). has x.dropped d) is)

  -- a drive that a turn may call is another one
  other : (e : ℕ) → IsCalled (drive_at old.drives.each e) → d ≢ e
  other e called is = uncalled (subst (λ (k : ℕ). IsCalled (drive_at old.drives.each k)) (sym is) called)

  moved : (e : ℕ) (now : DriveAt) → d ≢ e → Moves e now old.drives new.drives → Passed d old.drives new.drives
  moved e now differ m = as_before (m.each.others d differ) (ap (λ (set : List Bool). has set d) m.dropped)

  lost : (e : ℕ) → d ≢ e → Drops e old.drives new.drives → Passed d old.drives new.drives
  lost e differ m = as_before (m.each.others d differ) (ap (λ (set : List Bool). has set d) m.dropped ∙ get_or-set_other old.drives.dropped e d true false differ)

  sealed : (e : ℕ) → d ≢ e → SealsDrive e old.drives new.drives → Passed d old.drives new.drives
  sealed e differ m = as_before (m.each.others d differ) (ap (λ (set : List Bool). has set d) m.dropped)

  begun : (e : ℕ) (now : DriveAt) (ok : Bool) → IsCalled (drive_at old.drives.each e) → MovesOrDrops e ok now old.drives new.drives → Passed d old.drives new.drives
  begun e now true called m = moved e now (other e called) m
  begun e now false called m = lost e (other e called) m

  begin_passed : (e : ℕ) (before after : World) (x : DriveAt) → drive_at old.drives.each e ≡ x → BeginTurn o e x old.drives new before after → Passed d old.drives new.drives
  begin_passed e before after Gone is p = same p.drives
  begin_passed e before after (Found recs) is p = same p.drives
  begin_passed e before after Sealed is p = same p.drives
  begin_passed e before after Fresh is a = begun e (begun_at o.plan Fresh) a.ok (subst IsCalled (sym is) tt) a.stands
  begin_passed e before after (Begun recs gate kept) is a = begun e (Begun recs gate kept) a.ok (subst IsCalled (sym is) tt) a.stands

  file_passed : (i : ℕ) (before after : World) → FileTurn o i old.drives new before after → Passed d old.drives new.drives
  file_passed i before after (inl a) = same a.drives
  file_passed i before after (inr (none, p)) = same p.drives

  copy_passed : (i : ℕ) (copy : FileCopy) (pool pool_after : PoolState) (before after : World) → FitsCopy o old.drives.each i copy → CopyActed o i copy old.drives new pool pool_after before after → Passed d old.drives new.drives
  copy_passed i copy pool pool_after before after fits a = step a.came a.go_on a.settles
    where
      step : (came : Turn) → GoOn came (live_of copy) (live_of a.next) → CopySettles (files_of o.plan) i came a.next old.drives new a.mid after → Passed d old.drives new.drives
      step CopyGoes go s = same s.0
      step (Dropped e) go s = lost e (other e (called_if_due i (drive_at old.drives.each e) (sym (fits.live e) ∙ go.0))) s.drops
      step (Copied t) go s = same s.0
      step CardFailed go s = same s.0
      step (CardChanged listed read) go s = same s.0
      step NoneLeft go s = absurd s

  date_passed : (i : ℕ) (t : Triple) (before after : World) (found : Option Listed) → DateTurn o i t found old.drives new before after → Passed d old.drives new.drives
  date_passed i t before after None a = same a.drives
  date_passed i t before after (Some l) a = same a.0

  record_passed : (rec : Rec) (e : ℕ) (before after : World) (found : Option Journaled) → due rec.index (drive_at old.drives.each e) ≡ found → RecordTurn o rec e found old.drives new before after → Passed d old.drives new.drives
  record_passed rec e before after None is p = same p.drives
  record_passed rec e before after (Some was) is a = step a.came a.stands
    where
      differ : d ≢ e
      differ = other e (called_if_due rec.index (drive_at old.drives.each e) (ap is_some is))

      step : (came : Result Gate ReadBackError) → RecordStands e was.recs rec came old.drives new.drives → Passed d old.drives new.drives
      step (Ok next) m = moved e (Begun (was.recs ++ rec ∷ []) next false) differ m
      step (Err x) m = lost e differ m

  -- one that was found sealed is sealed
  found_passed : (e : ℕ) (recs : List Rec) → drive_at old.drives.each e ≡ Found recs → SealsDrive e old.drives new.drives → Passed d old.drives new.drives
  found_passed e recs is m = elim (cases_eq d e) [
    | inl here ↦
        let now : drive_at new.drives.each d ≡ Sealed = ap (drive_at new.drives.each) here ∙ m.each.here in
        let was : drive_at old.drives.each d ≡ Found recs = ap (drive_at old.drives.each) here ∙ is in
        record {
          uncalled = λ called. subst IsCalled now called;
          over = λ over. absurd (subst IsOver was over);
          of_run = λ on. ap (λ (x : DriveAt). not (is_gone x) || has new.drives.dropped d) now;
          was_of_run = λ on. ap (λ (x : DriveAt). not (is_gone x) || has old.drives.dropped d) was;
        }
    | inr differ ↦ sealed e differ m
  ]

  seal_passed : (e : ℕ) (before after : World) (x : DriveAt) → drive_at old.drives.each e ≡ x → SealTurn o e x old.drives new before after → Passed d old.drives new.drives
  seal_passed e before after Gone is p = same p.drives
  seal_passed e before after Sealed is p = same p.drives
  seal_passed e before after Fresh is never = absurd never
  seal_passed e before after (Found recs) is a = found_passed e recs is a.stands
  seal_passed e before after (Begun recs gate kept) is a = step a.came a.stands
    where
      differ : d ≢ e
      differ = other e (subst IsCalled (sym is) tt)

      step : (came : Result Unit SealError) → SealStands e came old.drives new.drives → Passed d old.drives new.drives
      step (Ok done) m = sealed e differ m
      step (Err x) m = lost e differ m

  acted_passed : (phase : Phase) (pool pool_after : PoolState) (before after : World) → Fits o old.drives.each phase → Acted o phase old new pool pool_after before after → Passed d old.drives new.drives
  acted_passed (Begins e) pool pool_after before after fits a = begin_passed e before after (drive_at old.drives.each e) refl a
  acted_passed (File i) pool pool_after before after fits a = file_passed i before after a
  acted_passed (Copies i copy) pool pool_after before after fits a = copy_passed i copy pool pool_after before after fits a
  acted_passed (Dates i t) pool pool_after before after fits a = date_passed i t before after (other_listed o.listed i t) a
  acted_passed (Records rec e) pool pool_after before after fits a = record_passed rec e before after (due rec.index (drive_at old.drives.each e)) refl a
  acted_passed (Seals e) pool pool_after before after fits a = seal_passed e before after (drive_at old.drives.each e) refl a
  acted_passed Clears pool pool_after before after fits a = same a.0
  acted_passed Ended pool pool_after before after fits a = same (ap (λ (x : At). x.drives) a.0)

pub turn_passed : (o : Ordered) (old new : At) (pool pool_after : PoolState) (before after : World) → IsRun o old → Turned o old new pool pool_after before after → (d : ℕ) → (IsCalled (drive_at old.drives.each d) → ⊥) → Passed d old.drives new.drives
turn_passed o old new pool pool_after before after rules t d uncalled = acted_passed o old new rules d uncalled old.phase pool pool_after before after rules.fits t

called_or_not : (x : DriveAt) → IsCalled x ⊎ (IsCalled x → ⊥)
called_or_not Gone = inr (λ never. never)
called_or_not Fresh = inl tt
called_or_not (Begun recs gate kept) = inl tt
called_or_not (Found recs) = inr (λ never. never)
called_or_not Sealed = inr (λ never. never)

-- a drive that is or was of the run after a turn is or was that before
pub turn_of_run : (o : Ordered) (old new : At) (pool pool_after : PoolState) (before after : World) → IsRun o old → Turned o old new pool pool_after before after → (d : ℕ) → is_of_run new.drives d ≡ true → is_of_run old.drives d ≡ true
turn_of_run o old new pool pool_after before after rules t d on = elim (called_or_not (drive_at old.drives.each d)) [
  | inl called ↦ ap (λ (gone : Bool). not gone || has old.drives.dropped d) (called_not_gone (drive_at old.drives.each d) called)
  | inr uncalled ↦ (turn_passed o old new pool pool_after before after rules t d uncalled).was_of_run on
]

-- ---- any number of turns

-- these calls have no line about drive d
abbrev pub NoneAbout : ℕ → List Event → Type 0
NoneAbout d L = AllLines (λ line. is_about d line ≡ false) L

abbrev AnyCalls : List Event → Type 0
AnyCalls L = Unit {0}

none_lines : (Q : List ℕ → Type 0) → AllLines Q []
unfolding AllLines
none_lines Q = tt

module _ (o : Ordered) (drives : Drives) (d : ℕ) where
  one_about : IsOver (drive_at drives.each d) → d < 2 ^ 64 → (e : Event) → IsTurnCall o drives e → LineHas (λ line. is_about d line ≡ false) e
  one_about over low (Say line ok) is = is d low over
  one_about over low (AttachSource s place) is = tt
  one_about over low (AttachDrive k place) is = tt
  one_about over low (AttachFailed place) is = tt
  one_about over low (SourceList s got) is = tt
  one_about over low (SourceRead s path at want got) is = tt
  one_about over low (DriveList k got) is = tt
  one_about over low (DriveRead k path at want got) is = tt
  one_about over low (Write k path at bytes ok) is = tt
  one_about over low (Sync k ok) is = tt
  one_about over low (Rename k from to ok) is = tt
  one_about over low (Remove k path ok) is = tt
  one_about over low (Moment t) is = tt
  one_about over low (Pick n) is = tt

  -- the turns of a run say nothing about a drive that is gone or sealed
  none_about : IsOver (drive_at drives.each d) → d < 2 ^ 64 → (L : List Event) → AreTurnCalls o drives L → NoneAbout d L
  unfolding AreTurnCalls AllLines
  none_about over low [] are = tt
  none_about over low (e ∷ L) are = (one_about over low e are.0, none_about over low L are.1)

  one_beside : is_of_run drives d ≡ true → (e : Event) → IsBeside o drives e → LineHas (λ line. is_about d line ≡ false) e
  one_beside there (Say line ok) is = is d there
  one_beside there (AttachSource s place) is = tt
  one_beside there (AttachDrive k place) is = tt
  one_beside there (AttachFailed place) is = tt
  one_beside there (SourceList s got) is = tt
  one_beside there (SourceRead s path at want got) is = tt
  one_beside there (DriveList k got) is = tt
  one_beside there (DriveRead k path at want got) is = tt
  one_beside there (Write k path at bytes ok) is = tt
  one_beside there (Sync k ok) is = tt
  one_beside there (Rename k from to ok) is = tt
  one_beside there (Remove k path ok) is = tt
  one_beside there (Moment t) is = tt
  one_beside there (Pick n) is = tt

  -- nor do others about a drive that is or was of the run
  none_beside : is_of_run drives d ≡ true → (L : List Event) → AreBeside o drives L → NoneAbout d L
  unfolding AreBeside AllLines
  none_beside there [] are = tt
  none_beside there (e ∷ L) are = (one_beside there e are.0, none_beside there L are.1)

abbrev pub TheRules : Type 0
TheRules = (o : Ordered) (a b : Point) → IsRun o a.at → Runs o a b → IsRun o b.at

abbrev pub TheCalls : Type 0
TheCalls = (o : Ordered) (old new : At) (pool pool_after : PoolState) (before after : World) → IsRun o old → Turned o old new pool pool_after before after → Went (IsOfRun o old.drives) (AreTurnCalls o old.drives) before after

abbrev pub TurnsAlone : Type 0
TurnsAlone = (o : Ordered) (a b : Point) → Alone o a b → Runs o a b

module _ (rules : TheRules) (calls : TheCalls) (alone : TurnsAlone) (o : Ordered) (d : ℕ) where
  -- Of a drive this is known as long as turns pass over it, and such are the calls.
  record Passing (K : Drives → Type 0) (P : List Event → Type 0) : Type 0 where
    uncalled : (x : Drives) → K x → IsCalled (drive_at x.each d) → ⊥
    stays : (old new : Drives) → K old → Passed d old new → K new
    none : P []
    more : (A B : List Event) → P A → P B → P (A ++ B)
    such : (x : Drives) → K x → (L : List Event) → AreTurnCalls o x L → P L

  module _ (K : Drives → Type 0) (P : List Event → Type 0) (s : Passing K P) where
    abbrev Off : World → World → Type 0
    Off old new = Went (λ x. x ≢ Drive d) P old new

    -- what was so far, and more
    record So (a b : Point) : Type 0 where
      known : K b.at.drives
      went : Off a.world b.world

    no_turn : (a : Point) → K a.at.drives → So a a
    no_turn a k = record { known = k; went = went_such (λ L none. subst P (sym none) s.none) (went_none (λ x. x ≢ Drive d) a.world) }

    went_more : {old mid new : World} → Off old mid → Off mid new → Off old new
    went_more one two = went_such (λ L t. subst P (sym t.is) (s.more t.first t.second t.here t.there)) (went_then one two)

    one_turn : (a b c : Point) → IsRun o b.at → So a b → Turned o b.at c.at b.pool c.pool b.world c.world → So a c
    one_turn a b c run so t =
        let uncalled = s.uncalled b.at.drives so.known in
        let went = calls o b.at c.at b.pool c.pool b.world c.world run t in
        record {
          known = s.stays b.at.drives c.at.drives so.known (turn_passed o b.at c.at b.pool c.pool b.world c.world run t d uncalled);
          went = went_more so.went (went_on (λ x on is. uncalled (subst (IsOfRun o b.at.drives) is on)) (went_such (s.such b.at.drives so.known) went));
        }

    alone_so : (a b : Point) → IsRun o a.at → K a.at.drives → Alone o a b → So a b
    alone_so a b run k still = no_turn a k
    alone_so a b run k (turned {b = m} {c = n} before t) = one_turn a m b (rules o a m run (alone o a m before)) (alone_so a m run k before) t

    runs_so : ((x : Drives) → K x → is_of_run x d ≡ true) → ((x : Drives) → K x → (L : List Event) → AreBeside o x L → P L) → (a b : Point) → IsRun o a.at → K a.at.drives → Runs o a b → So a b
    runs_so of_run others a b run k starts = no_turn a k
    runs_so of_run others a b run k (turns {b = m} {c = n} before t) = one_turn a m b (rules o a m run before) (runs_so of_run others a m run k before) t
    runs_so of_run others a b run k (beside {b = m} {c = n} before x) =
        let so = runs_so of_run others a m run k before in
        record {
          known = subst (λ (t : At). K t.drives) (sym x.same) so.known;
          went = went_more so.went (went_on (λ y on. on d (of_run m.at.drives so.known)) (went_such (others m.at.drives so.known) x.went));
        }

  -- ---- the clauses

  abbrev Uncalled : Drives → Type 0
  Uncalled x = IsCalled (drive_at x.each d) → ⊥

  abbrev IsOverIn : Drives → Type 0
  IsOverIn x = IsOver (drive_at x.each d)

  abbrev With : (Drives → Type 0) → Drives → Type 0
  With K x = K x × (is_of_run x d ≡ true)

  any_calls : Passing Uncalled AnyCalls
  any_calls = record {
    uncalled = λ x k. k;
    stays = λ old new k p. p.uncalled;
    none = tt;
    more = λ A B a b. tt;
    such = λ x k L are. tt;
  }

  no_lines : d < 2 ^ 64 → Passing IsOverIn (NoneAbout d)
  no_lines low = record {
    uncalled = λ x k. over_uncalled (drive_at x.each d) k;
    stays = λ old new k p. subst IsOver (sym (p.over k)) k;
    none = none_lines (λ line. is_about d line ≡ false);
    more = λ A B a b. AllLines-append (λ line. is_about d line ≡ false) A B a b;
    such = λ x k L are. none_about o x d k low L are;
  }

  -- so for a drive that is or was of the run
  of_it : (K : Drives → Type 0) (P : List Event → Type 0) → Passing K P → Passing (With K) P
  of_it K P s = record {
    uncalled = λ x k. s.uncalled x k.0;
    stays = λ old new k p. (s.stays old new k.0 p, p.of_run k.1);
    none = s.none;
    more = s.more;
    such = λ x k L are. s.such x k.0 L are;
  }

  pub calls_alone : (a b : Point) → IsRun o a.at → Alone o a b → (IsCalled (drive_at a.at.drives.each d) → ⊥) → Went (λ x. x ≢ Drive d) (λ L. Unit {0}) a.world b.world
  calls_alone a b run runs uncalled = (alone_so Uncalled AnyCalls any_calls a b run uncalled runs).went

  pub lines_alone : (a b : Point) → IsRun o a.at → Alone o a b → d < 2 ^ 64 → IsOver (drive_at a.at.drives.each d) → Went (λ x. x ≢ Drive d) (NoneAbout d) a.world b.world
  lines_alone a b run runs low over = (alone_so IsOverIn (NoneAbout d) (no_lines low) a b run over runs).went

  pub calls_of_run : (a b : Point) → IsRun o a.at → Runs o a b → is_of_run a.at.drives d ≡ true → (IsCalled (drive_at a.at.drives.each d) → ⊥) → Went (λ x. x ≢ Drive d) (λ L. Unit {0}) a.world b.world
  calls_of_run a b run runs there uncalled = (runs_so (With Uncalled) AnyCalls (of_it Uncalled AnyCalls any_calls) (λ x k. k.1) (λ x k L are. tt) a b run (uncalled, there) runs).went

  pub lines_of_run : (a b : Point) → IsRun o a.at → Runs o a b → is_of_run a.at.drives d ≡ true → IsOver (drive_at a.at.drives.each d) → Went (λ x. x ≢ Drive d) (NoneAbout d) a.world b.world
  lines_of_run a b run runs there over =
      let few = of_run_low o.plan a.at.drives d run.drives there in
      (runs_so (With IsOverIn) (NoneAbout d) (of_it IsOverIn (NoneAbout d) (no_lines (omega (arith, few)))) (λ x k. k.1) (λ x k L are. none_beside o x d k.1 L are) a b run (over, there) runs).went

  -- a drive on which nothing is left to be done stands as it did
  pub over_stays : (a b : Point) → IsRun o a.at → Runs o a b → IsOver (drive_at a.at.drives.each d) → drive_at b.at.drives.each d ≡ drive_at a.at.drives.each d
  over_stays a b run starts over = refl
  over_stays a b run (turns {b = m} {c = n} before t) over =
      let was = over_stays a m run before over in
      let there : IsOver (drive_at m.at.drives.each d) = subst IsOver (sym was) over in
      (turn_passed o m.at b.at m.pool b.pool m.world b.world (rules o a m run before) t d (over_uncalled (drive_at m.at.drives.each d) there)).over there ∙ was
  over_stays a b run (beside {b = m} {c = n} before x) over = ap (λ (t : At). drive_at t.drives.each d) x.same ∙ over_stays a m run before over
