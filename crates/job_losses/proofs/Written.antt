-- The records that a run has of a drive are those that it wrote to its journal, from drives on which none was begun before.
use Rattle.std.proofs.Common.{◌≡◌, ◌≢◌, inl, inr, ℕ, Bool, true, false, List, [], ◌∷◌, ◌++◌, map, refl, sym, ap, ◌∙◌, subst}
use Rattle.std.specs.Prelude.{Option, Some, None, Result, Ok, Err}
use Rattle.std.proofs.lemmas.Bool.{cases_eq}
use Rattle.std.proofs.lemmas.List.{map-append}
use Rattle.bay_core.specs.declared.event.Event.{Event}
use Rattle.bay_core.specs.Replay.{Device, Drive, Output, Clock, is_on}
use Rattle.bay_core.specs.Went.{AllOn, Only, Went}
use Rattle.bay_core.specs.World.{World}
use Rattle.bay_core.proofs.Runs.{went_such}
use Rattle.digest_set.specs.declared.triple.Triple.{Triple}
use Rattle.drive_journal.specs.declared.order.Listed.{Listed}
use Rattle.drive_journal.specs.declared.record.Gate.{Gate}
use Rattle.drive_journal.specs.declared.record.Rec.{Rec}
use Rattle.drive_journal.specs.Record.{closed_record}
use Rattle.fan_copier.specs.declared.copy.FileCopy.{FileCopy}
use Rattle.fan_copier.specs.declared.turn.Turn.{Turn}
use Rattle.fan_copier.specs.declared.turn.Turn.TheVariants.{Going, Dropped, Copied, SourceFailed, Changed, NoDrive}
use Rattle.fan_copier.specs.Copying.{card_of}
use Rattle.read_back.specs.declared.back.ReadBackError.{ReadBackError}
use Rattle.recording.specs.Filing.{RecordCalls}
use Rattle.seal_step.specs.declared.error.SealError.{SealError}
use Rattle.run_state.specs.declared.phase.Phase.{Phase}
use Rattle.run_state.specs.declared.phase.Phase.TheVariants.{Begins, File, Copies, Dates, Records, Seals, Clears, Ended}
use Rattle.run_state.specs.Acts.{Says, Puts, BeginTried, begun_at, MovesOrDrops, BegunAloud, BeginTurn, CopySettles, CopyActed, other_listed, DateTurn, RecordStands, RecordedAloud, RecordTurn, SealStands, SealTurn, is_clear, ClearTurn}
use Rattle.run_state.specs.Runs.{Point, Alone, still, turned}
use Rattle.run_state.specs.State.{Ordered, DriveAt, Gone, Fresh, Begun, Found, Sealed, Drives, At, Journaled, files_of, drive_at, count_sealed, due}
use Rattle.run_state.specs.Turn.{Acted}
use Rattle.run_reads.proofs.Places.{due_some, other_drive}
use Rattle.run_reads.proofs.Since.{Since, since_none, since_more, since_such, since_same}
use Rattle.run_reads.proofs.Standing.{begin_went}
use Rattle.job_losses.specs.Drops.{records_in}
use Rattle.job_losses.proofs.Records.{records_then, records_append, records_off, records_copied, tidied_none, begun_none, recorded_one}

-- by where a drive stands: none was written to it, or just those that the run has of it
abbrev pub WrittenOf : ℕ → DriveAt → List Event → Type 0
WrittenOf d Gone L = Unit {0}
WrittenOf d Fresh L = records_in d L ≡ []
WrittenOf d (Begun recs gate kept) L = records_in d L ≡ map closed_record recs
WrittenOf d (Found recs) L = Unit {0}
WrittenOf d Sealed L = Unit {0}

-- a drive of a run as it is made that was not begun before
abbrev pub IsUnbegun : DriveAt → Type 0
IsUnbegun (Begun recs gate kept) = ⊥
IsUnbegun _ = Unit {0}

written_more : (d : ℕ) (x : DriveAt) (A B : List Event) → records_in d B ≡ [] → WrittenOf d x A → WrittenOf d x (A ++ B)
written_more d Gone A B none w = tt
written_more d Fresh A B none w = records_then d A B none ∙ w
written_more d (Begun recs gate kept) A B none w = records_then d A B none ∙ w
written_more d (Found recs) A B none w = tt
written_more d Sealed A B none w = tt

off_output : (d : ℕ) (y : Device) → Only Output y → is_on d y ≡ false
off_output d y on = ap (is_on d) on

off_clock : (d : ℕ) (y : Device) → Only Clock y → is_on d y ≡ false
off_clock d y on = ap (is_on d) on

module _ (a : Point) where
  abbrev Has : ℕ → DriveAt → World → Type 0
  Has d x w = Since (WrittenOf d x) a.world w

  abbrev pub AreWritten : Drives → World → Type 0
  AreWritten drives w = (d : ℕ) → Since (WrittenOf d (drive_at drives.each d)) a.world w

  -- ---- calls that write no record

  stay : {On : Device → Type 0} {P : List Event → Type 0} {w new : World} (d : ℕ) (x : DriveAt) → Went On P w new → ((B : List Event) → AllOn On B → P B → records_in d B ≡ []) → Has d x w → Has d x new
  stay d x went none has = since_more has went (λ A B so on such. written_more d x A B (none B on such) so)

  stay_line : (d : ℕ) (x : DriveAt) (line : List ℕ) (said : Bool) {w new : World} → Says line said w new → Has d x w → Has d x new
  stay_line d x line said says has = stay d x says.went (λ B on such. records_off d (Only Output) (off_output d) B on) has

  stay_clock : {P : List Event → Type 0} {w new : World} (d : ℕ) (x : DriveAt) → Went (Only Clock) P w new → Has d x w → Has d x new
  stay_clock d x went has = stay d x went (λ B on such. records_off d (Only Clock) (off_clock d) B on) has

  stay_other : {P : List Event → Type 0} {w new : World} (d e : ℕ) (x : DriveAt) → d ≢ e → Went (Only (Drive e)) P w new → Has d x w → Has d x new
  stay_other d e x ne went has = stay d x went (λ B on such. records_off d (Only (Drive e)) (other_drive d e ne) B on) has

  -- ---- the drives behind a turn

  -- one drive stands otherwise
  puts : (old new : Drives) (e : ℕ) (x : DriveAt) (w : World) → Puts e x old.each new.each → Has e x w → ((d : ℕ) → d ≢ e → Has d (drive_at old.each d) w) → AreWritten new w
  puts old new e x w p here others d = elim (cases_eq d e) [
    | inl same ↦ subst (λ (n : ℕ). Has n (drive_at new.each n) w) (sym same) (subst (λ (y : DriveAt). Has e y w) (sym p.here) here)
    | inr ne ↦ subst (λ (y : DriveAt). Has d y w) (sym (p.others d ne)) (others d ne)
  ]

  -- nothing is asked of a drive that is gone or sealed
  none_asked : (d : ℕ) (x : DriveAt) (w : World) → Has d x w → Has d Gone w
  none_asked d x w has = since_such (λ L so. tt) has

  sealed_so : (d : ℕ) (x : DriveAt) (w : World) → Has d x w → Has d Sealed w
  sealed_so d x w has = since_such (λ L so. tt) has

  idle : (old new : Drives) (w after : World) → new ≡ old → after ≡ w → AreWritten old w → AreWritten new after
  idle old new w after same is has d = subst (λ (x : Drives). Has d (drive_at x.each d) after) (sym same) (since_same is (has d))

  module _ (o : Ordered) (b c : Point) (has : AreWritten b.at.drives b.world) where
    -- ---- a begin

    begun_calls : (e : ℕ) (was : DriveAt) (w mid : World) → BeginTried o.plan e was true w mid → Went (Only (Drive e)) (λ B. records_in e B ≡ []) w mid
    begun_calls e Fresh w mid t = went_such (λ B ran. begun_none e e None false _ _ B ran) t.0.went
    begun_calls e (Begun recs gate kept) w mid t = went_such (λ B ran. tidied_none e e _ kept B ran) t.0.went
    begun_calls e Gone w mid t = absurd t
    begun_calls e (Found recs) w mid t = absurd t
    begun_calls e Sealed w mid t = absurd t

    begun_so : (e : ℕ) (was : DriveAt) (L : List Event) → WrittenOf e was L → WrittenOf e (begun_at o.plan was) L
    begun_so e Fresh L w = w
    begun_so e (Begun recs gate kept) L w = w
    begun_so e Gone L w = tt
    begun_so e (Found recs) L w = tt
    begun_so e Sealed L w = tt

    begun : (e : ℕ) (was : DriveAt) → drive_at b.at.drives.each e ≡ was → BegunAloud o e was b.at.drives c.at b.world c.world → AreWritten c.at.drives c.world
    begun e was is act = by act.ok act.tried act.stands
      where
        others : (d : ℕ) → d ≢ e → Has d (drive_at b.at.drives.each d) c.world
        others d ne = stay_line d (drive_at b.at.drives.each d) _ act.said act.line (stay_other d e (drive_at b.at.drives.each d) ne (begin_went o.plan e was act.ok b.world act.mid act.tried) (has d))

        here : Has e was b.world
        here = subst (λ (x : DriveAt). Has e x b.world) is (has e)

        by : (ok : Bool) → BeginTried o.plan e was ok b.world act.mid → MovesOrDrops e ok (begun_at o.plan was) b.at.drives c.at.drives → AreWritten c.at.drives c.world
        by true tried m =
            puts b.at.drives c.at.drives e (begun_at o.plan was) c.world m.each
            (since_such (begun_so e was) (stay_line e was _ act.said act.line (stay e was (begun_calls e was b.world act.mid tried) (λ B on none. none) here))) others
        by false tried m =
            puts b.at.drives c.at.drives e Gone c.world m.each
            (stay_line e Gone _ act.said act.line (since_more (none_asked e was b.world here) (begin_went o.plan e was false b.world act.mid tried) (λ A B so on such. tt))) others

    begin_turn : (e : ℕ) (was : DriveAt) → drive_at b.at.drives.each e ≡ was → BeginTurn o e was b.at.drives c.at b.world c.world → AreWritten c.at.drives c.world
    begin_turn e Fresh is t = begun e Fresh is t
    begin_turn e (Begun recs gate kept) is t = begun e (Begun recs gate kept) is t
    begin_turn e Gone is t = idle b.at.drives c.at.drives b.world c.world t.drives t.idle has
    begin_turn e (Found recs) is t = idle b.at.drives c.at.drives b.world c.world t.drives t.idle has
    begin_turn e Sealed is t = idle b.at.drives c.at.drives b.world c.world t.drives t.idle has

    -- ---- a copy

    copied : (i : ℕ) (copy : FileCopy) → CopyActed o i copy b.at.drives c.at b.pool c.pool b.world c.world → AreWritten c.at.drives c.world
    copied i copy act = by act.came act.settles
      where
        mid : AreWritten b.at.drives act.mid
        mid d = stay d (drive_at b.at.drives.each d) act.touches (λ B on such. records_copied d (card_of copy) act.file.path B such) (has d)

        by : (came : Turn) → CopySettles (files_of o.plan) i came act.next b.at.drives c.at act.mid c.world → AreWritten c.at.drives c.world
        by Going s = idle b.at.drives c.at.drives act.mid c.world s.0 s.2 mid
        by (Dropped e) s =
            puts b.at.drives c.at.drives e Gone c.world s.drops.each (none_asked e (drive_at b.at.drives.each e) c.world (stay_line e (drive_at b.at.drives.each e) _ s.said s.line (mid e)))
            (λ d ne. stay_line d (drive_at b.at.drives.each d) _ s.said s.line (mid d))
        by (Copied t) s = idle b.at.drives c.at.drives act.mid c.world s.0 s.2 mid
        by SourceFailed s = idle b.at.drives c.at.drives act.mid c.world s.0 s.2 mid
        by (Changed p q) s = idle b.at.drives c.at.drives act.mid c.world s.0 s.2 mid
        by NoDrive s = absurd s

    date_turn : (i : ℕ) (t : Triple) (other : Option Listed) → DateTurn o i t other b.at.drives c.at b.world c.world → AreWritten c.at.drives c.world
    date_turn i t None act = idle b.at.drives c.at.drives c.world c.world act.drives refl (λ d. stay_clock d (drive_at b.at.drives.each d) act.asked (has d))
    date_turn i t (Some l) act = idle b.at.drives c.at.drives b.world c.world act.0 act.2 has

    -- ---- a recording

    one_more : (e : ℕ) (recs : List Rec) (rec : Rec) (A B : List Event) → records_in e A ≡ map closed_record recs → records_in e B ≡ closed_record rec ∷ [] → records_in e (A ++ B) ≡ map closed_record (recs ++ rec ∷ [])
    one_more e recs rec A B old new = records_append e A B ∙ (λ i. old i ++ new i) ∙ sym (map-append closed_record recs (rec ∷ []))

    recorded : (rec : Rec) (e : ℕ) (was : Journaled) → drive_at b.at.drives.each e ≡ Begun was.recs was.gate was.kept → RecordedAloud o rec e was b.at.drives c.at b.world c.world → AreWritten c.at.drives c.world
    recorded rec e was is act = by act.came act.went act.stands
      where
        others : (d : ℕ) → d ≢ e → Has d (drive_at b.at.drives.each d) c.world
        others d ne = stay_line d (drive_at b.at.drives.each d) _ act.said act.line (stay_other d e (drive_at b.at.drives.each d) ne act.went (has d))

        here : Has e (Begun was.recs was.gate was.kept) b.world
        here = subst (λ (x : DriveAt). Has e x b.world) is (has e)

        by : (came : Result Gate ReadBackError) → Went (Only (Drive e)) (RecordCalls e was.gate.at act.file.path rec came) b.world act.mid → RecordStands e was.recs rec came b.at.drives c.at.drives → AreWritten c.at.drives c.world
        by (Ok next) went m =
            let mid : Has e (Begun (was.recs ++ rec ∷ []) next false) act.mid = since_more here went (λ A B so on such. one_more e was.recs rec A B so (recorded_one e was.gate.at act.file.path rec next B act.shape such)) in
            puts b.at.drives c.at.drives e (Begun (was.recs ++ rec ∷ []) next false) c.world m.each (stay_line e (Begun (was.recs ++ rec ∷ []) next false) _ act.said act.line mid) others
        by (Err y) went m =
            puts b.at.drives c.at.drives e Gone c.world m.each (stay_line e Gone _ act.said act.line (since_more (none_asked e (Begun was.recs was.gate was.kept) b.world here) went (λ A B so on such. tt))) others

    record_turn : (rec : Rec) (e : ℕ) (was : Option Journaled) → due rec.index (drive_at b.at.drives.each e) ≡ was → RecordTurn o rec e was b.at.drives c.at b.world c.world → AreWritten c.at.drives c.world
    record_turn rec e None is t = idle b.at.drives c.at.drives b.world c.world t.drives t.idle has
    record_turn rec e (Some was) is act = recorded rec e was (due_some rec.index (drive_at b.at.drives.each e) was is).is act

    -- ---- a sealing, and the end

    seal_turn : (e : ℕ) (x : DriveAt) → SealTurn o e x b.at.drives c.at b.world c.world → AreWritten c.at.drives c.world
    seal_turn e (Begun recs gate kept) act = by act.came act.stands
      where
        others : (d : ℕ) → d ≢ e → Has d (drive_at b.at.drives.each d) c.world
        others d ne = stay_line d (drive_at b.at.drives.each d) _ act.said act.line (stay_other d e (drive_at b.at.drives.each d) ne act.went (stay_clock d (drive_at b.at.drives.each d) act.asked (has d)))

        behind : Has e Gone c.world
        behind = stay_line e Gone _ act.said act.line (since_more (stay_clock e Gone act.asked (none_asked e (drive_at b.at.drives.each e) b.world (has e))) act.went (λ A B so on such. tt))

        by : (came : Result Unit SealError) → SealStands e came b.at.drives c.at.drives → AreWritten c.at.drives c.world
        by (Ok v) m = puts b.at.drives c.at.drives e Sealed c.world m.each (sealed_so e Gone c.world behind) others
        by (Err y) m = puts b.at.drives c.at.drives e Gone c.world m.each behind others
    seal_turn e (Found recs) act =
        puts b.at.drives c.at.drives e Sealed c.world act.stands.each (sealed_so e (drive_at b.at.drives.each e) c.world (stay_line e (drive_at b.at.drives.each e) _ act.said act.line (has e)))
        (λ d ne. stay_line d (drive_at b.at.drives.each d) _ act.said act.line (has d))
    seal_turn e Fresh t = absurd t
    seal_turn e Gone t = idle b.at.drives c.at.drives b.world c.world t.drives t.idle has
    seal_turn e Sealed t = idle b.at.drives c.at.drives b.world c.world t.drives t.idle has

    clear_turn : c.at.drives ≡ b.at.drives → (required sealed : ℕ) (is_due : Bool) → ClearTurn required sealed is_due c.at b.world c.world → AreWritten c.at.drives c.world
    clear_turn same required sealed true t = idle b.at.drives c.at.drives c.world c.world same refl (λ d. stay_line d (drive_at b.at.drives.each d) _ t.said t.line (has d))
    clear_turn same required sealed false t = idle b.at.drives c.at.drives b.world c.world same t.1 has

    turn_written : (phase : Phase) → Acted o phase b.at c.at b.pool c.pool b.world c.world → AreWritten c.at.drives c.world
    turn_written (Begins e) t = begin_turn e (drive_at b.at.drives.each e) refl t
    turn_written (File i) (inl t) = idle b.at.drives c.at.drives b.world c.world t.drives t.idle has
    turn_written (File i) (inr t) = idle b.at.drives c.at.drives b.world c.world t.1.drives t.1.idle has
    turn_written (Copies i copy) t = copied i copy t
    turn_written (Dates i x) t = date_turn i x (other_listed o.listed i x) t
    turn_written (Records rec e) t = record_turn rec e (due rec.index (drive_at b.at.drives.each e)) refl t
    turn_written (Seals e) t = seal_turn e (drive_at b.at.drives.each e) t
    turn_written Clears t = clear_turn t.0 o.copies (count_sealed b.at.drives.each) (is_clear (count_sealed b.at.drives.each) o.copies) t.1
    turn_written Ended t = idle b.at.drives c.at.drives b.world c.world (ap (λ (x : At). x.drives) t.0) t.2 has

  -- ---- any number of turns

  starts_so : (d : ℕ) (x : DriveAt) → IsUnbegun x → WrittenOf d x []
  starts_so d Gone unbegun = tt
  starts_so d Fresh unbegun = refl
  starts_so d (Begun recs gate kept) unbegun = absurd unbegun
  starts_so d (Found recs) unbegun = tt
  starts_so d Sealed unbegun = tt

  -- the records of a drive are those that were written since the run was made
  pub written : (o : Ordered) → ((d : ℕ) → IsUnbegun (drive_at a.at.drives.each d)) → (b : Point) → Alone o a b → AreWritten b.at.drives b.world
  written o none b still d = since_none a.world (starts_so d (drive_at a.at.drives.each d) (none d))
  written o none b (turned {b = x} so_far t) d = turn_written o x b (written o none x so_far) x.at.phase t d
