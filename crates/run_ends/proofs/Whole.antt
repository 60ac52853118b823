-- A file that is recorded came whole before.
use Rattle.std.proofs.Common.{◌≡◌, inl, inr, ℕ, suc, Bool, true, false, length, refl, sym, ap, ◌∙◌, subst}
use Rattle.std.specs.Prelude.{Option, Some, None, is_some, nat_lt, if◌then◌else◌}
use Rattle.digest_set.specs.declared.triple.Triple.{Triple}
use Rattle.drive_journal.specs.declared.order.Listed.{Listed}
use Rattle.drive_journal.specs.declared.record.Rec.{Rec}
use Rattle.fan_core.specs.Flags.{lowest}
use Rattle.fan_copier.specs.declared.copy.FileCopy.{FileCopy}
use Rattle.fan_copier.specs.declared.turn.Turn.{Turn}
use Rattle.fan_copier.specs.declared.turn.Turn.TheVariants.{Going, Dropped, Copied, SourceFailed, Changed, NoDrive}
use Rattle.fan_copier.specs.Copying.{live_of}
use Rattle.run_state.specs.declared.phase.Phase.{Phase}
use Rattle.run_state.specs.declared.phase.Phase.TheVariants.{Begins, File, Copies, Dates, Records, Seals, Clears, Ended}
use Rattle.run_state.specs.Acts.{Goes, BeginTurn, copies_on, CopySettles, CopyActed, other_listed, DateTurn, RecordTurn, SealTurn, is_clear, ClearTurn}
use Rattle.run_state.specs.Runs.{Point, Runs, starts, turns}
use Rattle.run_state.specs.State.{Ordered, DriveAt, Gone, Fresh, Begun, Found, Sealed, At, Journaled, files_of, drive_at, count_sealed, due, after_begin, after_file, after_record, after_seal}
use Rattle.run_state.specs.Turn.{Acted, Turned}
use Rattle.run_ends.specs.Reads.{IsCopiedBetween}

-- where a file is recorded next, it came whole
abbrev pub WholeAt : Ordered → Point → Point → Phase → Type 0
WholeAt o a m (Records rec e) = IsCopiedBetween o a m rec.index rec.triple
WholeAt o a m _ = Unit {0}

-- whatever leads to one point leads on to the other
abbrev pub LeadsOn : Ordered → Point → Point → Type 0
LeadsOn o m c = (x : Point) → Runs o x m → Runs o x c

module _ (o : Ordered) (a : Point) where
  pub copied_on : (m c : Point) (i : ℕ) (t : Triple) → LeadsOn o m c → IsCopiedBetween o a m i t → IsCopiedBetween o a c i t
  copied_on m c i t on w = record { mid = w.mid; before = w.before; after = on w.mid w.after; next = w.next }

  whole_on : (m c : Point) (phase : Phase) → LeadsOn o m c → WholeAt o a m phase → WholeAt o a c phase
  whole_on m c (Records rec e) on w = copied_on m c rec.index rec.triple on w
  whole_on m c (Begins e) on w = tt
  whole_on m c (File i) on w = tt
  whole_on m c (Copies i copy) on w = tt
  whole_on m c (Dates i t) on w = tt
  whole_on m c (Seals e) on w = tt
  whole_on m c Clears on w = tt
  whole_on m c Ended on w = tt

  module _ (c : Point) where
    goes : (ok : Bool) (next : Phase) → Goes ok next c.at → WholeAt o a c next → WholeAt o a c c.at.phase
    goes true next g w = subst (WholeAt o a c) (sym g.0) w
    goes false next g w = subst (WholeAt o a c) (sym g.0) tt

    ended : c.at.phase ≡ Ended → WholeAt o a c c.at.phase
    ended is = subst (WholeAt o a c) (sym is) tt

    either : (b : Bool) (x y : Phase) → WholeAt o a c x → WholeAt o a c y → WholeAt o a c (if b then x else y)
    either true x y one two = one
    either false x y one two = two

    begin_next : (w d : ℕ) → WholeAt o a c (after_begin w d)
    begin_next w d = either (nat_lt (suc d) w) (Begins (suc d)) (File 0) tt tt

    file_next : (n i : ℕ) → WholeAt o a c (after_file n i)
    file_next n i = either (nat_lt (suc i) n) (File (suc i)) (Seals 0) tt tt

    copies_next : (n i : ℕ) (next : FileCopy) → WholeAt o a c (copies_on n i next)
    copies_next n i next = either (is_some (lowest (live_of next))) (Copies i next) (after_file n i) tt (file_next n i)

    record_next : (w n : ℕ) (rec : Rec) (e : ℕ) → IsCopiedBetween o a c rec.index rec.triple → WholeAt o a c (after_record w n rec e)
    record_next w n rec e whole = either (nat_lt (suc e) w) (Records rec (suc e)) (after_file n rec.index) whole (file_next n rec.index)

    seal_next : (w d : ℕ) → WholeAt o a c (after_seal w d)
    seal_next w d = either (nat_lt (suc d) w) (Seals (suc d)) Clears tt tt

  module _ (m c : Point) (on : LeadsOn o m c) where
    begin_whole : (d : ℕ) (x : DriveAt) → BeginTurn o d x m.at.drives c.at m.world c.world → WholeAt o a c c.at.phase
    begin_whole d Fresh t = goes c t.said (after_begin (length m.at.drives.each) d) t.goes (begin_next c (length m.at.drives.each) d)
    begin_whole d (Begun recs gate kept) t = goes c t.said (after_begin (length m.at.drives.each) d) t.goes (begin_next c (length m.at.drives.each) d)
    begin_whole d Gone t = goes c true (after_begin (length m.at.drives.each) d) t.goes (begin_next c (length m.at.drives.each) d)
    begin_whole d (Found recs) t = goes c true (after_begin (length m.at.drives.each) d) t.goes (begin_next c (length m.at.drives.each) d)
    begin_whole d Sealed t = goes c true (after_begin (length m.at.drives.each) d) t.goes (begin_next c (length m.at.drives.each) d)

    copy_whole : (i : ℕ) (copy : FileCopy) → CopyActed o i copy m.at.drives c.at m.pool c.pool m.world c.world → WholeAt o a c c.at.phase
    copy_whole i copy t = by t.came t.settles
      where
        by : (came : Turn) → CopySettles (files_of o.plan) i came t.next m.at.drives c.at t.mid c.world → WholeAt o a c c.at.phase
        by Going s = goes c true (Copies i t.next) s.1 tt
        by (Dropped e) s = goes c s.said (copies_on (files_of o.plan) i t.next) s.goes (copies_next c (files_of o.plan) i t.next)
        by (Copied x) s = goes c true (Dates i x) s.1 tt
        by SourceFailed s = ended c s.1.0
        by (Changed p q) s = ended c s.1.0
        by NoDrive s = absurd s

    date_whole : (i : ℕ) (t : Triple) → IsCopiedBetween o a c i t → (other : Option Listed) → DateTurn o i t other m.at.drives c.at m.world c.world → WholeAt o a c c.at.phase
    date_whole i t whole None act = goes c true (Records (record { index = i; size = act.file.size; triple = t; hashed = act.seconds }) 0) act.goes whole
    date_whole i t whole (Some l) act = ended c act.1.0

    record_whole : (rec : Rec) (e : ℕ) → IsCopiedBetween o a c rec.index rec.triple → (was : Option Journaled) → RecordTurn o rec e was m.at.drives c.at m.world c.world → WholeAt o a c c.at.phase
    record_whole rec e whole None t = goes c true (after_record (length m.at.drives.each) (files_of o.plan) rec e) t.goes (record_next c (length m.at.drives.each) (files_of o.plan) rec e whole)
    record_whole rec e whole (Some was) t = goes c t.said (after_record (length m.at.drives.each) (files_of o.plan) rec e) t.goes (record_next c (length m.at.drives.each) (files_of o.plan) rec e whole)

    seal_whole : (d : ℕ) (x : DriveAt) → SealTurn o d x m.at.drives c.at m.world c.world → WholeAt o a c c.at.phase
    seal_whole d (Begun recs gate kept) t = goes c t.said (after_seal (length m.at.drives.each) d) t.goes (seal_next c (length m.at.drives.each) d)
    seal_whole d (Found recs) t = goes c t.said (after_seal (length m.at.drives.each) d) t.goes (seal_next c (length m.at.drives.each) d)
    seal_whole d Fresh t = absurd t
    seal_whole d Gone t = goes c true (after_seal (length m.at.drives.each) d) t.goes (seal_next c (length m.at.drives.each) d)
    seal_whole d Sealed t = goes c true (after_seal (length m.at.drives.each) d) t.goes (seal_next c (length m.at.drives.each) d)

    clear_whole : (required sealed : ℕ) (is_due : Bool) → ClearTurn required sealed is_due c.at m.world c.world → WholeAt o a c c.at.phase
    clear_whole required sealed true t = ended c t.ends.0
    clear_whole required sealed false t = ended c t.0.0

    acted_whole : (phase : Phase) → m.at.phase ≡ phase → Runs o a m → WholeAt o a m phase → Acted o phase m.at c.at m.pool c.pool m.world c.world → WholeAt o a c c.at.phase
    acted_whole (Begins d) is runs w t = begin_whole d (drive_at m.at.drives.each d) t
    acted_whole (File i) is runs w (inl t) = goes c true (Copies i t.copy) t.goes tt
    acted_whole (File i) is runs w (inr t) = goes c true (after_file (files_of o.plan) i) t.1.goes (file_next c (files_of o.plan) i)
    acted_whole (Copies i copy) is runs w t = copy_whole i copy t
    acted_whole (Dates i x) is runs w t = date_whole i x (record { mid = m; before = runs; after = on m starts; next = is }) (other_listed o.listed i x) t
    acted_whole (Records rec e) is runs w t = record_whole rec e (copied_on m c rec.index rec.triple on w) (due rec.index (drive_at m.at.drives.each e)) t
    acted_whole (Seals d) is runs w t = seal_whole d (drive_at m.at.drives.each d) t
    acted_whole Clears is runs w t = clear_whole o.copies (count_sealed m.at.drives.each) (is_clear (count_sealed m.at.drives.each) o.copies) t.1
    acted_whole Ended is runs w t = ended c (ap (λ (x : At). x.phase) t.0 ∙ is)

    -- what others did
    pub beside_whole : c.at ≡ m.at → WholeAt o a m m.at.phase → WholeAt o a c c.at.phase
    beside_whole same w = subst (λ (x : At). WholeAt o a c x.phase) (sym same) (whole_on m c m.at.phase on w)

  -- one turn
  pub turn_whole : (m c : Point) → Runs o a m → WholeAt o a m m.at.phase → Turned o m.at c.at m.pool c.pool m.world c.world → WholeAt o a c c.at.phase
  turn_whole m c runs w t = acted_whole m c (λ x r. turns r t) m.at.phase refl runs w t
