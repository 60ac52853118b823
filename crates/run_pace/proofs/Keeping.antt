-- A drive keeps a part just where it kept that of the same file as the run began.
use Rattle.std.proofs.Common.{◌≡◌, inl, inr, ℕ, ◌+◌, ◌<◌, Bool, true, false, List, [], ◌∷◌, ◌++◌, length, refl, sym, ap, ◌∙◌, subst, arith, length-append}
use Rattle.std.specs.Prelude.{◌&&◌, Option, Some, None, Result, Ok, Err, is_some}
use Rattle.std.proofs.lemmas.Bool.{cases_eq}
use Rattle.bay_core.specs.World.{World}
use Rattle.digest_set.specs.declared.triple.Triple.{Triple}
use Rattle.copy_plan.specs.Plan.{PlanValue}
use Rattle.drive_journal.specs.declared.order.Listed.{Listed}
use Rattle.drive_journal.specs.declared.record.Gate.{Gate}
use Rattle.drive_journal.specs.declared.record.Rec.{Rec}
use Rattle.fan_copier.specs.declared.copy.FileCopy.{FileCopy}
use Rattle.fan_copier.specs.declared.turn.Turn.{Turn}
use Rattle.fan_copier.specs.declared.turn.Turn.TheVariants.{Going, Dropped, Copied, SourceFailed, Changed, NoDrive}
use Rattle.read_back.specs.declared.back.ReadBackError.{ReadBackError}
use Rattle.seal_step.specs.declared.error.SealError.{SealError}
use Rattle.run_state.specs.declared.phase.Phase.{Phase}
use Rattle.run_state.specs.declared.phase.Phase.TheVariants.{Begins, File, Copies, Dates, Records, Seals, Clears, Ended}
use Rattle.run_state.specs.Acts.{Puts, begun_at, BegunAloud, MovesOrDrops, BeginTurn, CopySettles, other_listed, DateTurn, RecordStands, RecordTurn, SealStands, SealTurn}
use Rattle.run_state.specs.Runs.{Point, Alone, still, turned}
use Rattle.run_state.specs.State.{Ordered, DriveAt, Gone, Fresh, Begun, Found, Sealed, Drives, At, Journaled, files_of, drive_at, due, keeps_part}
use Rattle.run_state.specs.Turn.{Acted}
use Rattle.run_reads.proofs.Places.{due_here, due_not, due_some}

-- what a drive keeps that stood so as the run began
abbrev pub KeepsAs : DriveAt → DriveAt → Type 0
KeepsAs start Fresh = (j : ℕ) → keeps_part (due j start) ≡ false
KeepsAs start (Begun recs gate kept) = (kept ≡ keeps_part (due (length recs) start)) × ((j : ℕ) → length recs < j → keeps_part (due j start) ≡ false)
KeepsAs start _ = Unit {0}

keeps_start : (x : DriveAt) → KeepsAs x x
keeps_start Gone = tt
keeps_start Fresh = λ j. refl
keeps_start (Begun recs gate kept) = (sym (ap keeps_part (due_here (length recs) recs gate kept refl)), λ j less. ap keeps_part (due_not j recs gate kept (λ same. absurd (omega (arith, less, same)))))
keeps_start (Found recs) = tt
keeps_start Sealed = tt

keeps_begun : (start : DriveAt) (p : PlanValue) (was : DriveAt) → KeepsAs start was → KeepsAs start (begun_at p was)
keeps_begun start p Fresh k = (sym (k 0), λ j less. k j)
keeps_begun start p (Begun recs gate kept) k = k
keeps_begun start p Gone k = tt
keeps_begun start p (Found recs) k = tt
keeps_begun start p Sealed k = tt

keeps_recorded : (start : DriveAt) (recs : List Rec) (rec : Rec) (gate next : Gate) (kept : Bool) → KeepsAs start (Begun recs gate kept) → KeepsAs start (Begun (recs ++ rec ∷ []) next false)
keeps_recorded start recs rec gate next kept k =
    let n = length-append recs (rec ∷ []) in
    (sym (k.1 (length (recs ++ rec ∷ [])) (omega (arith, n))), λ j less. k.1 j (omega (arith, n, less)))

pub kept_due : (start x : DriveAt) (i : ℕ) → KeepsAs start x → keeps_part (due i x) ≡ (is_some (due i x) && keeps_part (due i start))
kept_due start (Begun recs gate kept) i k = elim (cases_eq (length recs) i) [
  | inl same ↦ ap keeps_part (due_here i recs gate kept same) ∙ k.0 ∙ ap (λ (n : ℕ). keeps_part (due n start)) same ∙ sym (ap (λ (x : Option Journaled). is_some x && keeps_part (due i start)) (due_here i recs gate kept same))
  | inr ne ↦ ap keeps_part (due_not i recs gate kept ne) ∙ sym (ap (λ (x : Option Journaled). is_some x && keeps_part (due i start)) (due_not i recs gate kept ne))
]
kept_due start Gone i k = refl
kept_due start Fresh i k = refl
kept_due start (Found recs) i k = refl
kept_due start Sealed i k = refl

-- ---- all drives

abbrev pub AllKeep : List DriveAt → List DriveAt → Type 0
AllKeep start each = (d : ℕ) → KeepsAs (drive_at start d) (drive_at each d)

keep_puts : (start old new : List DriveAt) (e : ℕ) (x : DriveAt) → Puts e x old new → AllKeep start old → KeepsAs (drive_at start e) x → AllKeep start new
keep_puts start old new e x puts all here d = elim (cases_eq d e) [
  | inl same ↦ subst (λ (k : ℕ). KeepsAs (drive_at start k) (drive_at new k)) (sym same) (subst (KeepsAs (drive_at start e)) (sym puts.here) here)
  | inr ne ↦ subst (KeepsAs (drive_at start d)) (sym (puts.others d ne)) (all d)
]

module _ (o : Ordered) (start : List DriveAt) (old : Drives) (new : At) (all : AllKeep start old.each) where
  same_keep : new.drives ≡ old → AllKeep start new.drives.each
  same_keep is = subst (λ (x : Drives). AllKeep start x.each) (sym is) all

  puts_keep : (e : ℕ) (x : DriveAt) → Puts e x old.each new.drives.each → KeepsAs (drive_at start e) x → AllKeep start new.drives.each
  puts_keep e x puts here = keep_puts start old.each new.drives.each e x puts all here

  was_keep : (e : ℕ) (was : DriveAt) → drive_at old.each e ≡ was → KeepsAs (drive_at start e) was
  was_keep e was is = subst (KeepsAs (drive_at start e)) is (all e)

  begun_keep : (before after : World) (e : ℕ) (was : DriveAt) → drive_at old.each e ≡ was → BegunAloud o e was old new before after → AllKeep start new.drives.each
  begun_keep before after e was is t = by t.ok t.stands
    where
      by : (ok : Bool) → MovesOrDrops e ok (begun_at o.plan was) old new.drives → AllKeep start new.drives.each
      by true m = puts_keep e (begun_at o.plan was) m.each (keeps_begun (drive_at start e) o.plan was (was_keep e was is))
      by false m = puts_keep e Gone m.each tt

  begin_keep : (before after : World) (e : ℕ) (was : DriveAt) → drive_at old.each e ≡ was → BeginTurn o e was old new before after → AllKeep start new.drives.each
  begin_keep before after e Fresh is t = begun_keep before after e Fresh is t
  begin_keep before after e (Begun recs gate kept) is t = begun_keep before after e (Begun recs gate kept) is t
  begin_keep before after e Gone is t = same_keep t.drives
  begin_keep before after e (Found recs) is t = same_keep t.drives
  begin_keep before after e Sealed is t = same_keep t.drives

  copy_keep : (before after : World) (i : ℕ) (came : Turn) (next : FileCopy) → CopySettles (files_of o.plan) i came next old new before after → AllKeep start new.drives.each
  copy_keep before after i Going next s = same_keep s.0
  copy_keep before after i (Dropped e) next s = puts_keep e Gone s.drops.each tt
  copy_keep before after i (Copied t) next s = same_keep s.0
  copy_keep before after i SourceFailed next s = same_keep s.0
  copy_keep before after i (Changed p q) next s = same_keep s.0
  copy_keep before after i NoDrive next s = absurd s

  date_keep : (before after : World) (i : ℕ) (t : Triple) (other : Option Listed) → DateTurn o i t other old new before after → AllKeep start new.drives.each
  date_keep before after i t None act = same_keep act.drives
  date_keep before after i t (Some l) act = same_keep act.0

  record_keep : (before after : World) (rec : Rec) (e : ℕ) (was : Option Journaled) → due rec.index (drive_at old.each e) ≡ was → RecordTurn o rec e was old new before after → AllKeep start new.drives.each
  record_keep before after rec e None is t = same_keep t.drives
  record_keep before after rec e (Some was) is t = by t.came t.stands
    where
      by : (came : Result Gate ReadBackError) → RecordStands e was.recs rec came old new.drives → AllKeep start new.drives.each
      by (Ok next) m = puts_keep e (Begun (was.recs ++ rec ∷ []) next false) m.each
          (keeps_recorded (drive_at start e) was.recs rec was.gate next was.kept (was_keep e (Begun was.recs was.gate was.kept) (due_some rec.index (drive_at old.each e) was is).is))
      by (Err y) m = puts_keep e Gone m.each tt

  seal_keep : (before after : World) (e : ℕ) (x : DriveAt) → SealTurn o e x old new before after → AllKeep start new.drives.each
  seal_keep before after e (Begun recs gate kept) t = by t.came t.stands
    where
      by : (came : Result Unit SealError) → SealStands e came old new.drives → AllKeep start new.drives.each
      by (Ok v) m = puts_keep e Sealed m.each tt
      by (Err y) m = puts_keep e Gone m.each tt
  seal_keep before after e (Found recs) t = puts_keep e Sealed t.stands.each tt
  seal_keep before after e Fresh t = absurd t
  seal_keep before after e Gone t = same_keep t.drives
  seal_keep before after e Sealed t = same_keep t.drives

turn_keep : (o : Ordered) (start : List DriveAt) (b c : Point) (phase : Phase) → AllKeep start b.at.drives.each → Acted o phase b.at c.at b.pool c.pool b.world c.world → AllKeep start c.at.drives.each
turn_keep o start b c (Begins e) all t = begin_keep o start b.at.drives c.at all b.world c.world e (drive_at b.at.drives.each e) refl t
turn_keep o start b c (File i) all (inl t) = same_keep o start b.at.drives c.at all t.drives
turn_keep o start b c (File i) all (inr t) = same_keep o start b.at.drives c.at all t.1.drives
turn_keep o start b c (Copies i copy) all t = copy_keep o start b.at.drives c.at all t.mid c.world i t.came t.next t.settles
turn_keep o start b c (Dates i x) all t = date_keep o start b.at.drives c.at all b.world c.world i x (other_listed o.listed i x) t
turn_keep o start b c (Records rec e) all t = record_keep o start b.at.drives c.at all b.world c.world rec e (due rec.index (drive_at b.at.drives.each e)) refl t
turn_keep o start b c (Seals e) all t = seal_keep o start b.at.drives c.at all b.world c.world e (drive_at b.at.drives.each e) t
turn_keep o start b c Clears all t = same_keep o start b.at.drives c.at all t.0
turn_keep o start b c Ended all t = same_keep o start b.at.drives c.at all (ap (λ (x : At). x.drives) t.0)

-- after any number of turns
pub alone_keep : (o : Ordered) (a b : Point) → Alone o a b → AllKeep a.at.drives.each b.at.drives.each
alone_keep o a b still = λ d. keeps_start (drive_at a.at.drives.each d)
alone_keep o a b (turned {b = x} so_far t) = turn_keep o a.at.drives.each x b x.at.phase (alone_keep o a x so_far) t
