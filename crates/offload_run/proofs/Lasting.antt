-- What a turn asks for lasts.
use Rattle.std.proofs.Common.{◌≡◌, inl, inr, ℕ, ◌<◌, Bool, true, false, List, refl, sym, ◌∙◌, ap, subst, arith}
use Rattle.std.specs.Prelude.{Option, Some, None, Result, Ok, Err, is_some}
use Rattle.std.proofs.lemmas.Bool.{cases_eq, false≢true}
use Rattle.bay_core.specs.World.{World, Attached}
use Rattle.block_pool.specs.Lent.{PoolState}
use Rattle.digest_set.specs.declared.triple.Triple.{Triple}
use Rattle.drive_journal.specs.declared.order.Listed.{Listed}
use Rattle.drive_journal.specs.declared.record.Gate.{Gate}
use Rattle.drive_journal.specs.declared.record.Rec.{Rec}
use Rattle.fan_copier.specs.declared.copy.FileCopy.{FileCopy}
use Rattle.fan_copier.specs.declared.turn.Turn.{Turn}
use Rattle.fan_copier.specs.declared.turn.Turn.TheVariants.{Going as CopyGoes, Dropped, Copied, SourceFailed as CardFailed, Changed as CardChanged, NoDrive as NoneLeft}
use Rattle.read_back.specs.declared.back.ReadBackError.{ReadBackError}
use Rattle.seal_step.specs.declared.error.SealError.{SealError}
use Rattle.run_state.specs.declared.phase.Phase.{Phase}
use Rattle.run_state.specs.declared.phase.Phase.TheVariants.{Begins, File, Copies, Dates, Records, Seals, Clears, Ended}
use Rattle.run_state.specs.Acts.{Puts, BeginTurn, MovesOrDrops, FileTurn, CopySettles, DateTurn, other_listed, RecordStands, RecordTurn, SealStands, SealTurn}
use Rattle.run_state.specs.Rules.{CanTurn, KeepsRunPool}
use Rattle.run_state.specs.State.{Ordered, DriveAt, Gone, Fresh, Begun, Found, Sealed, Journaled, Drives, At, drive_at, is_gone, due, files_of}
use Rattle.run_state.specs.Turn.{Acted}

-- a drive on which a file is due is not gone
due_there : (i : ℕ) (x : DriveAt) → is_some (due i x) ≡ true → is_gone x ≡ false
due_there i Gone is = absurd (false≢true is)
due_there i Fresh is = absurd (false≢true is)
due_there i (Begun recs gate kept) is = refl
due_there i (Found recs) is = absurd (false≢true is)
due_there i Sealed is = absurd (false≢true is)

-- each drive that is there was there
abbrev WereThere : List DriveAt → List DriveAt → Type 0
WereThere old new = (k : ℕ) → is_gone (drive_at new k) ≡ false → is_gone (drive_at old k) ≡ false

puts_there : (d : ℕ) (now : DriveAt) (old new : List DriveAt) → is_gone (drive_at old d) ≡ false → Puts d now old new → WereThere old new
puts_there d now old new was p = λ k live. elim (cases_eq k d) [
  | inl same ↦ ap (λ (j : ℕ). is_gone (drive_at old j)) same ∙ was
  | inr other ↦ ap is_gone (sym (p.others k other)) ∙ live
]

puts_gone : (d : ℕ) (old new : List DriveAt) → Puts d Gone old new → WereThere old new
puts_gone d old new p = λ k live. elim (cases_eq k d) [
  | inl same ↦ absurd (false≢true (sym live ∙ ap (λ (j : ℕ). is_gone (drive_at new j)) same ∙ ap is_gone p.here))
  | inr other ↦ ap is_gone (sym (p.others k other)) ∙ live
]

same_there : (old new : Drives) → new ≡ old → WereThere old.each new.each
same_there old new same = λ k live. ap (λ (l : Drives). is_gone (drive_at l.each k)) (sym same) ∙ live

moved_there : (d : ℕ) (ok : Bool) (now : DriveAt) (old new : Drives) → is_gone (drive_at old.each d) ≡ false → MovesOrDrops d ok now old new → WereThere old.each new.each
moved_there d true now old new was m = puts_there d now old.each new.each was m.each
moved_there d false now old new was m = puts_gone d old.each new.each m.each

recorded_there : (d : ℕ) (recs : List Rec) (rec : Rec) (came : Result Gate ReadBackError) (old new : Drives) → is_gone (drive_at old.each d) ≡ false → RecordStands d recs rec came old new → WereThere old.each new.each
recorded_there d recs rec (Ok next) old new was m = puts_there d _ old.each new.each was m.each
recorded_there d recs rec (Err e) old new was m = puts_gone d old.each new.each m.each

sealed_there : (d : ℕ) (came : Result Unit SealError) (old new : Drives) → is_gone (drive_at old.each d) ≡ false → SealStands d came old new → WereThere old.each new.each
sealed_there d (Ok u) old new was m = puts_there d _ old.each new.each was m.each
sealed_there d (Err e) old new was m = puts_gone d old.each new.each m.each

module _ (o : Ordered) (old : Drives) (new : At) (before after : World) where
  begin_there : (d : ℕ) (at : DriveAt) → drive_at old.each d ≡ at → BeginTurn o d at old new before after → WereThere old.each new.drives.each
  begin_there d Gone here t = same_there old new.drives t.drives
  begin_there d Fresh here t = moved_there d t.ok _ old new.drives (ap is_gone here) t.stands
  begin_there d (Begun recs gate kept) here t = moved_there d t.ok _ old new.drives (ap is_gone here) t.stands
  begin_there d (Found recs) here t = same_there old new.drives t.drives
  begin_there d Sealed here t = same_there old new.drives t.drives

  file_there : (i : ℕ) → FileTurn o i old new before after → WereThere old.each new.drives.each
  file_there i t = elim t [
    | inl opened ↦ same_there old new.drives opened.drives
    | inr passed ↦ same_there old new.drives passed.1.drives
  ]

  date_there : (i : ℕ) (x : Triple) (other : Option Listed) → DateTurn o i x other old new before after → WereThere old.each new.drives.each
  date_there i x None t = same_there old new.drives t.drives
  date_there i x (Some l) t = same_there old new.drives t.0

  record_there : (rec : Rec) (d : ℕ) (at : Option Journaled) → due rec.index (drive_at old.each d) ≡ at → RecordTurn o rec d at old new before after → WereThere old.each new.drives.each
  record_there rec d None here t = same_there old new.drives t.drives
  record_there rec d (Some was) here t = recorded_there d was.recs rec t.came old new.drives (due_there rec.index (drive_at old.each d) (ap is_some here)) t.stands

  seal_there : (d : ℕ) (at : DriveAt) → drive_at old.each d ≡ at → SealTurn o d at old new before after → WereThere old.each new.drives.each
  seal_there d Gone here t = same_there old new.drives t.drives
  seal_there d Fresh here t = absurd t
  seal_there d (Begun recs gate kept) here t = sealed_there d t.came old new.drives (ap is_gone here) t.stands
  seal_there d (Found recs) here t = puts_there d _ old.each new.drives.each (ap is_gone here) t.stands.each
  seal_there d Sealed here t = same_there old new.drives t.drives

copy_there : (n i : ℕ) (came : Turn) (next : FileCopy) (old : Drives) (new : At) (mid after : World) → CopySettles n i came next old new mid after → WereThere old.each new.drives.each
copy_there n i CopyGoes next old new mid after s = same_there old new.drives s.0
copy_there n i (Dropped d) next old new mid after s = puts_gone d old.each new.drives.each s.drops.each
copy_there n i (Copied t) next old new mid after s = same_there old new.drives s.0
copy_there n i CardFailed next old new mid after s = same_there old new.drives s.0
copy_there n i (CardChanged listed read) next old new mid after s = same_there old new.drives s.0
copy_there n i NoneLeft next old new mid after s = absurd s

turn_there : (o : Ordered) (phase : Phase) (old new : At) (pool pool_after : PoolState) (before after : World) → Acted o phase old new pool pool_after before after → WereThere old.drives.each new.drives.each
turn_there o (Begins d) old new pool pool_after before after t = begin_there o old.drives new before after d (drive_at old.drives.each d) refl t
turn_there o (File i) old new pool pool_after before after t = file_there o old.drives new before after i t
turn_there o (Copies i copy) old new pool pool_after before after t = copy_there (files_of o.plan) i t.came t.next old.drives new t.mid after t.settles
turn_there o (Dates i x) old new pool pool_after before after t = date_there o old.drives new before after i x (other_listed o.listed i x) t
turn_there o (Records rec d) old new pool pool_after before after t = record_there o old.drives new before after rec d (due rec.index (drive_at old.drives.each d)) refl t
turn_there o (Seals d) old new pool pool_after before after t = seal_there o old.drives new before after d (drive_at old.drives.each d) refl t
turn_there o Clears old new pool pool_after before after t = same_there old.drives new.drives t.0
turn_there o Ended old new pool pool_after before after t = same_there old.drives new.drives (ap (λ (a : At). a.drives) t.0)

-- what a turn asks for is there for the next one
pub ready_again : (o : Ordered) (old new : At) (pool pool_after : PoolState) (before after : World) → CanTurn o old pool before → Acted o old.phase old new pool pool_after before after → after.attached ≡ before.attached → KeepsRunPool old.phase new.phase pool pool_after
    → CanTurn o new pool_after after
ready_again o old new pool pool_after before after ready acted attached keep = record {
  source = subst (λ (a : Attached). o.source < a.sources) (sym attached) ready.source;
  drives = λ d live. subst (λ (a : Attached). d < a.drives) (sym attached) (ready.drives d (turn_there o old.phase old new pool pool_after before after acted d live));
  owns = keep.owns;
  free = let sum = keep.sum in let free = ready.free in omega (arith, sum, free);
}
