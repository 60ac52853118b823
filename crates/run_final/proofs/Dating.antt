-- Turns with nothing between them date a file with the next call after its copy, drive by drive (as `run_reads` says it of lines).
use Rattle.std.proofs.Common.{◌≡◌, inl, inr, ℕ, suc, Bool, true, false, List, [], ◌∷◌, ◌++◌, length, sym, ap, ◌∙◌, subst, append_assoc}
use Rattle.std.specs.Prelude.{Option, Some, None, nat_lt, is_some, if◌then◌else◌}
use Rattle.std.specs.List.{slice_get, AllByRecursion}
use Rattle.bay_core.specs.declared.event.Event.{Event}
use Rattle.bay_core.specs.declared.event.Event.TheVariants.{SourceRead}
use Rattle.bay_core.specs.Replay.{Drive, Output}
use Rattle.bay_core.specs.World.{World}
use Rattle.bay_core.specs.Went.{AllOn, Only}
use Rattle.block_pool.specs.Lent.{PoolState}
use Rattle.digest_set.specs.declared.triple.Triple.{Triple}
use Rattle.copy_plan.specs.declared.file.PlannedFile.{PlannedFile}
use Rattle.copy_plan.specs.Plan.{IsPlan}
use Rattle.drive_journal.specs.declared.order.Listed.{Listed}
use Rattle.drive_journal.specs.declared.record.Rec.{Rec}
use Rattle.fan_core.specs.declared.act.Act.TheVariants.{Read, Write, Finished}
use Rattle.fan_core.specs.Flags.{lowest}
use Rattle.fan_copier.specs.declared.copy.FileCopy.{FileCopy}
use Rattle.fan_copier.specs.declared.turn.Turn.{Turn}
use Rattle.fan_copier.specs.declared.turn.Turn.TheVariants.{Going, Dropped, Copied, SourceFailed, Changed, NoDrive}
use Rattle.fan_copier.specs.Copying.{card_of, size_of, live_of, standing}
use Rattle.fan_copier.specs.Standing.{Standing}
use Rattle.fan_copier.specs.Turning.{Doing, EmptyPiece, Acting, doing, StandsAfter, TurnCalls, Turned as CopyTurned}
use Rattle.run_state.specs.declared.phase.Phase.{Phase}
use Rattle.run_state.specs.declared.phase.Phase.TheVariants.{Begins, File, Copies, Dates, Records, Seals, Clears, Ended}
use Rattle.run_state.specs.Acts.{Goes, BeginTurn, copies_on, CopySettles, CopyActed, other_listed, DateTurn, RecordTurn, SealTurn, is_clear, ClearTurn}
use Rattle.run_state.specs.Runs.{Point}
use Rattle.run_state.specs.State.{Ordered, DriveAt, Gone, Fresh, Begun, Found, Sealed, At, Journaled, files_of, drive_at, count_sealed, due, after_begin, after_file, after_record, after_seal}
use Rattle.run_state.specs.Turn.{Acted}
use Rattle.run_reads.specs.Backs.{IsQuiet, IsDatedAtOnce}
use Rattle.run_reads.proofs.Since.{Since, since_more, since_same}
use Rattle.run_reads.proofs.Dating.{at_once_next, at_once_more, quiet_off}
use Rattle.run_reads.proofs.Places.{some_same}
use Rattle.run_reads.proofs.Standing.{CopyGives, CoreAt}

-- one byte was asked for at the size of a file, and none came
abbrev last_of : ℕ → List ℕ → ℕ → Event
last_of s path size = SourceRead s path size 1 (Some [])

-- that is the last call of these
abbrev EndsWith : ℕ → List ℕ → ℕ → List Event → Type 0
EndsWith s path size L = (past : List Event) × (L ≡ past ++ last_of s path size ∷ [])

-- a turn in which a copy came to its end
copy_ends : (s : ℕ) (path : List ℕ) (size : ℕ) (at now : Standing) (bytes given : List ℕ) (did : Doing) (digests : Triple) (L : List Event) → StandsAfter size at now did (Copied digests) → TurnCalls s path size at now bytes given did (Copied digests) L
    → EndsWith s path size L
copy_ends s path size at now bytes given (EmptyPiece d) digests L stands t = absurd stands
copy_ends s path size at now bytes given (Acting p Read) digests L stands t = absurd stands
copy_ends s path size at now bytes given (Acting p (Write d k)) digests L stands t = absurd stands
copy_ends s path size at now bytes given (Acting p Finished) digests L stands t = (t.first, t.is ∙ ap (λ (K : List Event). t.first ++ K) t.there.1)

ends_more : (s : ℕ) (path : List ℕ) (size : ℕ) (A B : List Event) → EndsWith s path size B → EndsWith s path size (A ++ B)
ends_more s path size A B (past, is) = (A ++ past, ap (λ (K : List Event). A ++ K) is ∙ sym (append_assoc A past (last_of s path size ∷ [])))

-- calls on a drive, and lines, are quiet
drive_quiet : (e : ℕ) (L : List Event) → AllOn (Only (Drive e)) L → AllByRecursion IsQuiet L
drive_quiet e L on = quiet_off (Only (Drive e)) (λ is. absurd (cc is)) (λ s is. absurd (cc is)) L on

line_quiet : (L : List Event) → AllOn (Only Output) L → AllByRecursion IsQuiet L
line_quiet L on = quiet_off (Only Output) (λ is. absurd (cc is)) (λ s is. absurd (cc is)) L on

module _ (o : Ordered) (plan : IsPlan o.plan) (a : Point) where
  -- what was called last where this is done next
  abbrev pub LastAt : Phase → World → Type 0
  LastAt (Dates i t) w = (f : PlannedFile) → slice_get o.plan.files i ≡ Some f → Since (EndsWith o.source f.path f.size) a.world w
  LastAt (Records rec e) w = (f : PlannedFile) → slice_get o.plan.files rec.index ≡ Some f → Since (IsDatedAtOnce o f rec.hashed) a.world w
  LastAt _ w = Unit {0}

  last_ended : (new : At) (w : World) → new.phase ≡ Ended → LastAt new.phase w
  last_ended new w is = subst (λ (p : Phase). LastAt p w) (sym is) tt

  last_goes : (new : At) (w : World) (ok : Bool) (next : Phase) → Goes ok next new → LastAt next w → LastAt new.phase w
  last_goes new w true next (is, going) last = subst (λ (p : Phase). LastAt p w) (sym is) last
  last_goes new w false next (is, out) last = last_ended new w is

  last_either : (w : World) (b : Bool) (x y : Phase) → LastAt x w → LastAt y w → LastAt (if b then x else y) w
  last_either w true x y one two = one
  last_either w false x y one two = two

  last_begin : (w : World) (n e : ℕ) → LastAt (after_begin n e) w
  last_begin w n e = last_either w (nat_lt (suc e) n) (Begins (suc e)) (File 0) tt tt

  last_file : (w : World) (n i : ℕ) → LastAt (after_file n i) w
  last_file w n i = last_either w (nat_lt (suc i) n) (File (suc i)) (Seals 0) tt tt

  last_copies : (w : World) (n i : ℕ) (copy : FileCopy) → LastAt (copies_on n i copy) w
  last_copies w n i copy = last_either w (is_some (lowest (live_of copy))) (Copies i copy) (after_file n i) tt (last_file w n i)

  last_record : (w : World) (n k : ℕ) (rec : Rec) (e : ℕ) → LastAt (Records rec (suc e)) w → LastAt (after_record n k rec e) w
  last_record w n k rec e last = last_either w (nat_lt (suc e) n) (Records rec (suc e)) (after_file k rec.index) last (last_file w k rec.index)

  last_seal : (w : World) (n e : ℕ) → LastAt (after_seal n e) w
  last_seal w n e = last_either w (nat_lt (suc e) n) (Seals (suc e)) Clears tt tt

  begin_last : (b c : Point) (e : ℕ) (was : DriveAt) → BeginTurn o e was b.at.drives c.at b.world c.world → LastAt c.at.phase c.world
  begin_last b c e Fresh t = last_goes c.at c.world t.said (after_begin (length b.at.drives.each) e) t.goes (last_begin c.world (length b.at.drives.each) e)
  begin_last b c e (Begun recs gate kept) t = last_goes c.at c.world t.said (after_begin (length b.at.drives.each) e) t.goes (last_begin c.world (length b.at.drives.each) e)
  begin_last b c e Gone t = last_goes c.at c.world true (after_begin (length b.at.drives.each) e) t.goes (last_begin c.world (length b.at.drives.each) e)
  begin_last b c e (Found recs) t = last_goes c.at c.world true (after_begin (length b.at.drives.each) e) t.goes (last_begin c.world (length b.at.drives.each) e)
  begin_last b c e Sealed t = last_goes c.at c.world true (after_begin (length b.at.drives.each) e) t.goes (last_begin c.world (length b.at.drives.each) e)

  module _ (b c : Point) (i : ℕ) (copy : FileCopy) (st : CopyGives o plan a i copy b.at.drives b.pool b.world) (f : PlannedFile) (is : slice_get o.plan.files i ≡ Some f) (file : PlannedFile) (is_file : slice_get o.plan.files i ≡ Some file) where
    -- the last read of the copy is that of its file at its size
    same_last : last_of (card_of copy) file.path (size_of copy) ≡ last_of o.source f.path f.size
    same_last =
        let path : file.path ≡ f.path = ap (λ (g : PlannedFile). g.path) (some_same file f (sym is_file ∙ is)) in
        let size : size_of copy ≡ f.size = st.sized ∙ ap (λ (g : PlannedFile). g.size) (some_same st.file f (sym st.is_file ∙ is)) in
        λ k. last_of (st.of_card k) (path k) (size k)

    copied_last : (digests : Triple) (next : FileCopy) (mid : World) (between : PoolState) → CopyTurned file.path copy next between b.world mid st.bytes (Copied digests) → Since (EndsWith o.source f.path f.size) a.world mid
    copied_last digests next mid between t = since_more st.reads t.calls (λ A B so on such.
        let ends = copy_ends (card_of copy) file.path (size_of copy) (standing copy) (standing next) st.bytes t.given (doing (standing copy) t.pick) digests B t.stands such in
        let all = ends_more (card_of copy) file.path (size_of copy) A B ends in
        (all.0, all.1 ∙ ap (λ (e : Event). all.0 ++ e ∷ []) same_last))

  copy_last : (b c : Point) (i : ℕ) (copy : FileCopy) → CopyGives o plan a i copy b.at.drives b.pool b.world → CopyActed o i copy b.at.drives c.at b.pool c.pool b.world c.world → LastAt c.at.phase c.world
  copy_last b c i copy st t = by t.came (t.turned st.bytes st.copying) t.settles
    where
      by : (came : Turn) → CopyTurned t.file.path copy t.next t.between b.world t.mid st.bytes came → CopySettles (files_of o.plan) i came t.next b.at.drives c.at t.mid c.world → LastAt c.at.phase c.world
      by Going turn s = last_goes c.at c.world true (Copies i t.next) s.1 tt
      by (Dropped e) turn s = last_goes c.at c.world s.said (copies_on (files_of o.plan) i t.next) s.goes (last_copies c.world (files_of o.plan) i t.next)
      by (Copied digests) turn s = last_goes c.at c.world true (Dates i digests) s.1 (λ f is. since_same s.2 (copied_last b c i copy st f is t.file t.is_file digests t.next t.mid t.between turn))
      by SourceFailed turn s = last_ended c.at c.world s.1.0
      by (Changed p q) turn s = last_ended c.at c.world s.1.0
      by NoDrive turn s = absurd s

  date_last : (b c : Point) (i : ℕ) (t : Triple) → LastAt (Dates i t) b.world → (other : Option Listed) → DateTurn o i t other b.at.drives c.at b.world c.world → LastAt c.at.phase c.world
  date_last b c i t old None act =
      last_goes c.at c.world true (Records (record { index = i; size = act.file.size; triple = t; hashed = act.seconds }) 0) act.goes
      (λ f is. since_more (old f is) act.asked (λ A B so on such. at_once_next o f act.seconds A B so.0 so.1 such))
  date_last b c i t old (Some l) act = last_ended c.at c.world act.1.0

  record_last : (b c : Point) (rec : Rec) (e : ℕ) → LastAt (Records rec e) b.world → (was : Option Journaled) → RecordTurn o rec e was b.at.drives c.at b.world c.world → LastAt c.at.phase c.world
  record_last b c rec e old None t =
      last_goes c.at c.world true (after_record (length b.at.drives.each) (files_of o.plan) rec e) t.goes (last_record c.world (length b.at.drives.each) (files_of o.plan) rec e (λ f is. since_same t.idle (old f is)))
  record_last b c rec e old (Some was) t =
      last_goes c.at c.world t.said (after_record (length b.at.drives.each) (files_of o.plan) rec e) t.goes (last_record c.world (length b.at.drives.each) (files_of o.plan) rec e (λ f is.
      since_more (since_more (old f is) t.went (λ A B so on such. at_once_more o f rec.hashed A B (drive_quiet e B on) so)) t.line.went (λ A B so on such. at_once_more o f rec.hashed A B (line_quiet B on) so)))

  seal_last : (b c : Point) (e : ℕ) (x : DriveAt) → SealTurn o e x b.at.drives c.at b.world c.world → LastAt c.at.phase c.world
  seal_last b c e (Begun recs gate kept) t = last_goes c.at c.world t.said (after_seal (length b.at.drives.each) e) t.goes (last_seal c.world (length b.at.drives.each) e)
  seal_last b c e (Found recs) t = last_goes c.at c.world t.said (after_seal (length b.at.drives.each) e) t.goes (last_seal c.world (length b.at.drives.each) e)
  seal_last b c e Fresh t = absurd t
  seal_last b c e Gone t = last_goes c.at c.world true (after_seal (length b.at.drives.each) e) t.goes (last_seal c.world (length b.at.drives.each) e)
  seal_last b c e Sealed t = last_goes c.at c.world true (after_seal (length b.at.drives.each) e) t.goes (last_seal c.world (length b.at.drives.each) e)

  clear_last : (c : Point) (before : World) (required sealed : ℕ) (is_due : Bool) → ClearTurn required sealed is_due c.at before c.world → LastAt c.at.phase c.world
  clear_last c before required sealed true t = last_ended c.at c.world t.ends.0
  clear_last c before required sealed false t = last_ended c.at c.world t.0.0

  pub turn_last : (b c : Point) (phase : Phase) → b.at.phase ≡ phase → CoreAt o plan a phase b.at.drives b.pool b.world → LastAt phase b.world → Acted o phase b.at c.at b.pool c.pool b.world c.world → LastAt c.at.phase c.world
  turn_last b c (Begins e) is core last t = begin_last b c e (drive_at b.at.drives.each e) t
  turn_last b c (File i) is core last (inl t) = last_goes c.at c.world true (Copies i t.copy) t.goes tt
  turn_last b c (File i) is core last (inr t) = last_goes c.at c.world true (after_file (files_of o.plan) i) t.1.goes (last_file c.world (files_of o.plan) i)
  turn_last b c (Copies i copy) is core last t = copy_last b c i copy core.1 t
  turn_last b c (Dates i x) is core last t = date_last b c i x last (other_listed o.listed i x) t
  turn_last b c (Records rec e) is core last t = record_last b c rec e last (due rec.index (drive_at b.at.drives.each e)) t
  turn_last b c (Seals e) is core last t = seal_last b c e (drive_at b.at.drives.each e) t
  turn_last b c Clears is core last t = clear_last c b.world o.copies (count_sealed b.at.drives.each) (is_clear (count_sealed b.at.drives.each) o.copies) t.1
  turn_last b c Ended is core last t = last_ended c.at c.world (ap (λ (x : At). x.phase) t.0 ∙ is)
