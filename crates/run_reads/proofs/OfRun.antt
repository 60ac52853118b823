-- The drives that were of a run still are.
use Rattle.std.proofs.Common.{◌≡◌, inl, inr, ℕ, ◌≤◌, Bool, true, false, List, [], ◌∷◌, ◌++◌, length, refl, sym, ap, ◌∙◌, arith, get_or-set_other}
use Rattle.std.specs.Prelude.{not, ◌||◌, Option, Some, None, Result, Ok, Err, is_some}
use Rattle.std.proofs.lemmas.Bool.{cases_eq}
use Rattle.std.proofs.lemmas.List.{get_or-set_same}
use Rattle.bay_core.specs.World.{World}
use Rattle.drive_journal.specs.declared.order.Listed.{Listed}
use Rattle.drive_journal.specs.declared.record.Gate.{Gate}
use Rattle.drive_journal.specs.declared.record.Rec.{Rec}
use Rattle.fan_core.specs.Flags.{has}
use Rattle.fan_copier.specs.declared.copy.FileCopy.{FileCopy}
use Rattle.fan_copier.specs.declared.turn.Turn.{Turn}
use Rattle.fan_copier.specs.declared.turn.Turn.TheVariants.{Going, Dropped, Copied, SourceFailed, Changed, NoDrive}
use Rattle.fan_copier.specs.Copying.{live_of}
use Rattle.fan_copier.specs.Turning.{GoOn}
use Rattle.digest_set.specs.declared.triple.Triple.{Triple}
use Rattle.read_back.specs.declared.back.ReadBackError.{ReadBackError}
use Rattle.seal_step.specs.declared.error.SealError.{SealError}
use Rattle.run_state.specs.declared.phase.Phase.{Phase}
use Rattle.run_state.specs.declared.phase.Phase.TheVariants.{Begins, File, Copies, Dates, Records, Seals, Clears, Ended}
use Rattle.run_state.specs.Acts.{Puts, Drops, begun_at, BegunAloud, MovesOrDrops, BeginTurn, CopySettles, other_listed, DateTurn, RecordStands, RecordTurn, SealStands, SealTurn}
use Rattle.run_state.specs.Rules.{Fits, FitDrives, IsRun}
use Rattle.run_state.specs.Runs.{Point, Runs, starts, turns, beside}
use Rattle.run_state.specs.State.{Ordered, DriveAt, Gone, Fresh, Begun, Found, Sealed, Drives, At, Journaled, files_of, drive_at, is_gone, is_of_run, due}
use Rattle.run_state.specs.Turn.{Acted}
use Rattle.run_state.proofs.Turns.{runs_run}
use Rattle.run_reads.proofs.Places.{drive_within, due_some, is_due}

abbrev pub AreStill : Drives → Drives → Type 0
AreStill old new = (k : ℕ) → is_of_run old k ≡ true → is_of_run new k ≡ true

still_same : (old new : Drives) → new ≡ old → AreStill old new
still_same old new is = λ k of. ap (λ (x : Drives). is_of_run x k) is ∙ of

still_puts : (e : ℕ) (x : DriveAt) (old new : Drives) → Puts e x old.each new.each → new.dropped ≡ old.dropped → is_gone x ≡ false → AreStill old new
still_puts e x old new each dropped there = λ k of. elim (cases_eq k e) [
  | inl same ↦ ap (λ (n : ℕ). is_of_run new n) same ∙ ap (λ (y : DriveAt). not (is_gone y) || has new.dropped e) each.here ∙ ap (λ (g : Bool). not g || has new.dropped e) there
  | inr ne ↦ ap (λ (y : DriveAt). not (is_gone y) || has new.dropped k) (each.others k ne) ∙ ap (λ (set : List Bool). not (is_gone (drive_at old.each k)) || has set k) dropped ∙ of
]

or_true : (b : Bool) → (b || true) ≡ true
or_true true = refl
or_true false = refl

still_drops : (e : ℕ) (old new : Drives) → is_gone (drive_at old.each e) ≡ false → length old.each ≤ length old.dropped → Drops e old new → AreStill old new
still_drops e old new there wide m = λ k of. elim (cases_eq k e) [
  | inl same ↦ ap (λ (n : ℕ). is_of_run new n) same ∙ ap (λ (b : Bool). not (is_gone (drive_at new.each e)) || b) here ∙ or_true (not (is_gone (drive_at new.each e)))
  | inr ne ↦ ap (λ (y : DriveAt). not (is_gone y) || has new.dropped k) (m.each.others k ne) ∙ ap (λ (b : Bool). not (is_gone (drive_at old.each k)) || b) (ap (λ (set : List Bool). has set k) m.dropped ∙ get_or-set_other old.dropped e k true false ne) ∙ of
]
  where
    here : has new.dropped e ≡ true
    here = let within = drive_within old.each e there in ap (λ (set : List Bool). has set e) m.dropped ∙ get_or-set_same old.dropped e true false (omega (arith, within, wide))

module _ (o : Ordered) (old : Drives) (new : At) (fit : FitDrives o.plan old) where
  dropped_still : (e : ℕ) → is_gone (drive_at old.each e) ≡ false → Drops e old new.drives → AreStill old new.drives
  dropped_still e there m = let few = fit.few in let sets = fit.sets.1 in still_drops e old new.drives there (omega (arith, few, sets)) m

  begun_still : (before after : World) (e : ℕ) (was : DriveAt) → drive_at old.each e ≡ was → is_gone was ≡ false → is_gone (begun_at o.plan was) ≡ false → BegunAloud o e was old new before after → AreStill old new.drives
  begun_still before after e was is there now t = by t.ok t.stands
    where
      by : (ok : Bool) → MovesOrDrops e ok (begun_at o.plan was) old new.drives → AreStill old new.drives
      by true m = still_puts e (begun_at o.plan was) old new.drives m.each m.dropped now
      by false m = dropped_still e (ap is_gone is ∙ there) m

  begin_still : (before after : World) (e : ℕ) (was : DriveAt) → drive_at old.each e ≡ was → BeginTurn o e was old new before after → AreStill old new.drives
  begin_still before after e Fresh is t = begun_still before after e Fresh is refl refl t
  begin_still before after e (Begun recs gate kept) is t = begun_still before after e (Begun recs gate kept) is refl refl t
  begin_still before after e Gone is t = still_same old new.drives t.drives
  begin_still before after e (Found recs) is t = still_same old new.drives t.drives
  begin_still before after e Sealed is t = still_same old new.drives t.drives

  copy_still : (before after : World) (i : ℕ) (copy : FileCopy) (came : Turn) (next : FileCopy) → ((d : ℕ) → has (live_of copy) d ≡ is_some (due i (drive_at old.each d))) → GoOn came (live_of copy) (live_of next)
      → CopySettles (files_of o.plan) i came next old new before after → AreStill old new.drives
  copy_still before after i copy Going next live go s = still_same old new.drives s.0
  copy_still before after i copy (Dropped e) next live go s = dropped_still e (is_due i (drive_at old.each e) (sym (live e) ∙ go.0)) s.drops
  copy_still before after i copy (Copied t) next live go s = still_same old new.drives s.0
  copy_still before after i copy SourceFailed next live go s = still_same old new.drives s.0
  copy_still before after i copy (Changed p q) next live go s = still_same old new.drives s.0
  copy_still before after i copy NoDrive next live go s = absurd s

  date_still : (before after : World) (i : ℕ) (t : Triple) (other : Option Listed) → DateTurn o i t other old new before after → AreStill old new.drives
  date_still before after i t None act = still_same old new.drives act.drives
  date_still before after i t (Some l) act = still_same old new.drives act.0

  record_still : (before after : World) (rec : Rec) (e : ℕ) (was : Option Journaled) → due rec.index (drive_at old.each e) ≡ was → RecordTurn o rec e was old new before after → AreStill old new.drives
  record_still before after rec e None is t = still_same old new.drives t.drives
  record_still before after rec e (Some was) is t = by t.came t.stands
    where
      by : (came : Result Gate ReadBackError) → RecordStands e was.recs rec came old new.drives → AreStill old new.drives
      by (Ok next) m = still_puts e (Begun (was.recs ++ rec ∷ []) next false) old new.drives m.each m.dropped refl
      by (Err y) m = dropped_still e (ap is_gone (due_some rec.index (drive_at old.each e) was is).is) m

  seal_still : (before after : World) (e : ℕ) (x : DriveAt) → drive_at old.each e ≡ x → SealTurn o e x old new before after → AreStill old new.drives
  seal_still before after e (Begun recs gate kept) is t = by t.came t.stands
    where
      by : (came : Result Unit SealError) → SealStands e came old new.drives → AreStill old new.drives
      by (Ok v) m = still_puts e Sealed old new.drives m.each m.dropped refl
      by (Err y) m = dropped_still e (ap is_gone is) m
  seal_still before after e (Found recs) is t = still_puts e Sealed old new.drives t.stands.each t.stands.dropped refl
  seal_still before after e Fresh is t = absurd t
  seal_still before after e Gone is t = still_same old new.drives t.drives
  seal_still before after e Sealed is t = still_same old new.drives t.drives

turn_still : (o : Ordered) (b c : Point) (phase : Phase) → Fits o b.at.drives.each phase → FitDrives o.plan b.at.drives → Acted o phase b.at c.at b.pool c.pool b.world c.world → AreStill b.at.drives c.at.drives
turn_still o b c (Begins e) fits fit t = begin_still o b.at.drives c.at fit b.world c.world e (drive_at b.at.drives.each e) refl t
turn_still o b c (File i) fits fit (inl t) = still_same b.at.drives c.at.drives t.drives
turn_still o b c (File i) fits fit (inr t) = still_same b.at.drives c.at.drives t.1.drives
turn_still o b c (Copies i copy) fits fit t = copy_still o b.at.drives c.at fit t.mid c.world i copy t.came t.next fits.live t.go_on t.settles
turn_still o b c (Dates i x) fits fit t = date_still o b.at.drives c.at fit b.world c.world i x (other_listed o.listed i x) t
turn_still o b c (Records rec e) fits fit t = record_still o b.at.drives c.at fit b.world c.world rec e (due rec.index (drive_at b.at.drives.each e)) refl t
turn_still o b c (Seals e) fits fit t = seal_still o b.at.drives c.at fit b.world c.world e (drive_at b.at.drives.each e) refl t
turn_still o b c Clears fits fit t = still_same b.at.drives c.at.drives t.0
turn_still o b c Ended fits fit t = still_same b.at.drives c.at.drives (ap (λ (x : At). x.drives) t.0)

-- after any number of turns
pub runs_still : (o : Ordered) (a b : Point) → IsRun o a.at → Runs o a b → AreStill a.at.drives b.at.drives
runs_still o a b rules starts = λ k of. of
runs_still o a b rules (turns {b = x} so_far t) =
    let here = runs_run o a x rules so_far in
    let before = runs_still o a x rules so_far in
    let step = turn_still o x b x.at.phase here.fits here.drives t in
    λ k of. step k (before k of)
runs_still o a b rules (beside {b = x} so_far t) =
    let before = runs_still o a x rules so_far in
    λ k of. ap (λ (y : At). is_of_run y.drives k) t.same ∙ before k of
