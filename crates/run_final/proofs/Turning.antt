-- What a turn of a run does to one drive.
use Rattle.std.proofs.Common.{◌≡◌, ◌≢◌, inl, inr, ℕ, zero, suc, Bool, true, false, List, [], ◌∷◌, ◌++◌, length, refl, sym, ap, ◌∙◌, subst, arith}
use Rattle.std.specs.Prelude.{Option, Some, None, IfSome, Result, Ok, Err, option_map}
use Rattle.std.specs.List.{Contains, slice_get}
use Rattle.std.specs.FinMap.{get}
use Rattle.std.proofs.lemmas.Bool.{cases_eq}
use Rattle.bay_core.specs.declared.event.Event.{Event}
use Rattle.bay_core.specs.Map.{Map}
use Rattle.bay_core.specs.Paths.{journal_path}
use Rattle.bay_core.specs.Replay.{Drive, reads}
use Rattle.bay_core.specs.Went.{Went, Only}
use Rattle.bay_core.specs.World.{World, Honest}
use Rattle.bay_core.proofs.Honesty.{honest_before}
use Rattle.copy_plan.specs.declared.file.PlannedFile.{PlannedFile}
use Rattle.copy_plan.specs.Plan.{PlanValue, IsPlan}
use Rattle.digest_set.specs.declared.triple.Triple.{Triple}
use Rattle.drive_journal.specs.declared.order.Listed.{Listed}
use Rattle.drive_journal.specs.declared.record.Gate.{Gate}
use Rattle.drive_journal.specs.declared.record.Rec.{Rec}
use Rattle.drive_journal.specs.Calls.{tidied}
use Rattle.drive_journal.specs.Look.{next_gate}
use Rattle.drive_journal.specs.Steps.{IsTidied, Turns}
use Rattle.fan_copier.specs.declared.copy.FileCopy.{FileCopy}
use Rattle.fan_copier.specs.declared.turn.Turn.{Turn}
use Rattle.fan_copier.specs.declared.turn.Turn.TheVariants.{Going, Dropped, Copied, SourceFailed, Changed, NoDrive}
use Rattle.fan_copier.specs.Copying.{card_of, live_of}
use Rattle.fan_copier.specs.Keeping.{ReadsSame}
use Rattle.fan_copier.proofs.Keeping.{copy_keeps}
use Rattle.offload_law.proofs.Plans.{journal_not_new, journal_not_part, not_journal, file_free}
use Rattle.read_back.specs.declared.back.ReadBackError.{ReadBackError}
use Rattle.seal_step.specs.declared.error.SealError.{SealError}
use Rattle.run_state.specs.declared.phase.Phase.{Phase}
use Rattle.run_state.specs.declared.phase.Phase.TheVariants.{Begins, File, Copies, Dates, Records, Seals, Clears, Ended}
use Rattle.run_state.specs.Acts.{Says, MovesOrDrops, BeginTried, BegunAloud, BeginTurn, begin_line, begun_at, next_path, CopySettles, CopyActed, other_listed, DateTurn, RecordStands, RecordedAloud, RecordTurn, SealStands, SealedAloud, SealTurn, is_clear, ClearTurn}
use Rattle.run_state.specs.Runs.{Point}
use Rattle.run_state.specs.State.{Ordered, DriveAt, Gone, Fresh, Begun, Found, Sealed, Drives, At, Journaled, files_of, drive_at, count_sealed, due}
use Rattle.run_state.specs.Turn.{Acted, Turned}
use Rattle.run_steps.proofs.Drives.{some_or_none, file_at}
use Rattle.run_steps.proofs.Still.{said_same, asked_same, drive_same, same_idle, same_then}

-- ---- the journal stays

-- an honest drive has the journal that it had
pub record KeepsJournal (d : ℕ) (old new : World) : Type 0 where
  pub back : (m : Map) (L : List Event) → Honest new d m L → (before : List Event) × Honest old d m before × (get (reads m L d) journal_path ≡ get (reads m before d) journal_path)

pub keeps_same : {old new : World} (d : ℕ) → ReadsSame d old new → KeepsJournal d old new
keeps_same d same = record { back = λ m L h. let b = same.back m L h in (b.0, b.1, ap (λ (x : Map). get x journal_path) b.2) }

pub keeps_then : {old mid new : World} (d : ℕ) → KeepsJournal d old mid → KeepsJournal d mid new → KeepsJournal d old new
keeps_then d one two = record {
  back = λ m L h.
      let b = two.back m L h in
      let a = one.back m b.0 b.1 in
      (a.0, a.1, b.2 ∙ a.2);
}

-- the journal is not among the paths that are removed where a drive goes on
not_tidied : (also : Option (List ℕ)) (kept : Bool) → IfSome also (λ path. path ≢ journal_path) → Contains (tidied also kept) journal_path → ⊥
not_tidied also true other (zero, low, is) = journal_not_new (sym is)
not_tidied also false other (zero, low, is) = journal_not_new (sym is)
not_tidied None true other (suc k, low, is) = absurd (omega (arith, low))
not_tidied (Some path) true other (suc zero, low, is) = other is
not_tidied (Some path) true other (suc (suc k), low, is) = absurd (omega (arith, low))
not_tidied also false other (suc zero, low, is) = journal_not_part (sym is)
not_tidied None false other (suc (suc k), low, is) = absurd (omega (arith, low))
not_tidied (Some path) false other (suc (suc zero), low, is) = other is
not_tidied (Some path) false other (suc (suc (suc k)), low, is) = absurd (omega (arith, low))

-- nor is the path of a planned file the journal
pub path_free : (p : PlanValue) → IsPlan p → (i : ℕ) (f : PlannedFile) → slice_get p.files i ≡ Some f → f.path ≢ journal_path
path_free p plan i f is = let a = file_at p.files i f is in not_journal f.path (file_free p plan a.before f a.after a.is)

next_free : (p : PlanValue) → IsPlan p → (recs : List Rec) → IfSome (next_path p recs) (λ path. path ≢ journal_path)
next_free p plan recs = elim (some_or_none (slice_get p.files (length recs))) [
  | inl found ↦ subst (λ (o : Option PlannedFile). IfSome (option_map (λ (f : PlannedFile). f.path) o) (λ path. path ≢ journal_path)) (sym found.1) (path_free p plan (length recs) found.0 found.1)
  | inr none ↦ subst (λ (o : Option PlannedFile). IfSome (option_map (λ (f : PlannedFile). f.path) o) (λ path. path ≢ journal_path)) (sym none) tt
]

keeps_tidied : (p : PlanValue) → IsPlan p → (d : ℕ) (recs : List Rec) (kept : Bool) {P : List Event → Type 0} {old new : World} → Went (Only (Drive d)) P old new → Turns d (IsTidied (tidied (next_path p recs) kept)) true old new → KeepsJournal d old new
keeps_tidied p plan d recs kept went t = record {
  back = λ m L h.
      let b = honest_before d m L went h in
      (b.0, b.1, (t.done refl m b.0 L b.1 h.events).others journal_path (not_tidied (next_path p recs) kept (next_free p plan recs)));
}

-- ---- what a turn does

-- the drive stands as before and keeps its journal, or is gone; or it was begun; or a file was recorded on it; or it was sealed, or was found so
pub data Did (o : Ordered) (d : ℕ) (m c : Point) : Type 0 where
  kept : drive_at c.at.drives.each d ≡ drive_at m.at.drives.each d → KeepsJournal d m.world c.world → Did o d m c
  lost : drive_at c.at.drives.each d ≡ Gone → Did o d m c
  begun : drive_at m.at.drives.each d ≡ Fresh → (act : BegunAloud o d Fresh m.at.drives c.at m.world c.world) → act.ok ≡ true → drive_at c.at.drives.each d ≡ Begun [] (next_gate o.plan 0) false → Did o d m c
  recorded : (rec : Rec) (was : Journaled) (next : Gate) → m.at.phase ≡ Records rec d → due rec.index (drive_at m.at.drives.each d) ≡ Some was → (act : RecordedAloud o rec d was m.at.drives c.at m.world c.world) → act.came ≡ Ok next
      → drive_at c.at.drives.each d ≡ Begun (was.recs ++ rec ∷ []) next false → Did o d m c
  sealed : (recs : List Rec) (gate : Gate) (part : Bool) → m.at.phase ≡ Seals d → drive_at m.at.drives.each d ≡ Begun recs gate part → (act : SealedAloud o d recs m.at.drives c.at m.world c.world) → act.came ≡ Ok tt → drive_at c.at.drives.each d ≡ Sealed → Did o d m c
  found : (recs : List Rec) → drive_at m.at.drives.each d ≡ Found recs → drive_at c.at.drives.each d ≡ Sealed → Did o d m c

module _ (o : Ordered) (d : ℕ) (m c : Point) (plan : IsPlan o.plan) where
  -- the drives are as before, and the drive keeps its journal
  as_before : c.at.drives ≡ m.at.drives → KeepsJournal d m.world c.world → Did o d m c
  as_before same keeps = kept (ap (λ (x : Drives). drive_at x.each d) same) keeps

  idle : c.at.drives ≡ m.at.drives → c.world ≡ m.world → Did o d m c
  idle same world = as_before same (keeps_same d (same_idle world d))

  -- an act on another drive, and its line
  elsewhere : (e : ℕ) {P : List Event → Type 0} {mid : World} (line : List ℕ) (ok : Bool) → d ≢ e → Went (Only (Drive e)) P m.world mid → Says line ok mid c.world → KeepsJournal d m.world c.world
  elsewhere e line ok differ went says = keeps_same d (same_then d (drive_same e went d differ) (said_same line ok says d))

  -- ---- the begins

  begin_other : (e : ℕ) (went : Bool) (now : DriveAt) → d ≢ e → MovesOrDrops e went now m.at.drives c.at.drives → KeepsJournal d m.world c.world → Did o d m c
  begin_other e true now differ s keeps = kept (s.each.others d differ) keeps
  begin_other e false now differ s keeps = kept (s.each.others d differ) keeps

  begin_fresh : drive_at m.at.drives.each d ≡ Fresh → BegunAloud o d Fresh m.at.drives c.at m.world c.world → Did o d m c
  begin_fresh is act = by act.ok refl act.stands
    where
      by : (ok : Bool) → act.ok ≡ ok → MovesOrDrops d ok (Begun [] (next_gate o.plan 0) false) m.at.drives c.at.drives → Did o d m c
      by true well s = begun is act well s.each.here
      by false bad s = lost s.each.here

  begin_again : (recs : List Rec) (gate : Gate) (part : Bool) → drive_at m.at.drives.each d ≡ Begun recs gate part → BegunAloud o d (Begun recs gate part) m.at.drives c.at m.world c.world → Did o d m c
  begin_again recs gate part is act = by act.ok act.tried act.line act.stands
    where
      by : (ok : Bool) → BeginTried o.plan d (Begun recs gate part) ok m.world act.mid → Says (begin_line d (length recs) (files_of o.plan) ok) act.said act.mid c.world
          → MovesOrDrops d ok (Begun recs gate part) m.at.drives c.at.drives → Did o d m c
      by true tried line s =
          kept (s.each.here ∙ sym is)
          (keeps_then d (keeps_tidied o.plan plan d recs part tried.0.went tried.2) (keeps_same d (said_same (begin_line d (length recs) (files_of o.plan) true) act.said line d)))
      by false tried line s = lost s.each.here

  begin_turn : (e : ℕ) (x : DriveAt) → drive_at m.at.drives.each e ≡ x → BeginTurn o e x m.at.drives c.at m.world c.world → Did o d m c
  begin_turn e Gone is t = idle t.drives t.idle
  begin_turn e (Found recs) is t = idle t.drives t.idle
  begin_turn e Sealed is t = idle t.drives t.idle
  begin_turn e Fresh is t = elim (cases_eq d e) [
    | inl same ↦ begin_fresh (ap (drive_at m.at.drives.each) same ∙ is) (subst (λ (k : ℕ). BegunAloud o k Fresh m.at.drives c.at m.world c.world) (sym same) t)
    | inr differ ↦ begin_other e t.ok (begun_at o.plan Fresh) differ t.stands (elsewhere e (begin_line e 0 (files_of o.plan) t.ok) t.said differ t.tried.0.went t.line)
  ]
  begin_turn e (Begun recs gate part) is t = elim (cases_eq d e) [
    | inl same ↦ begin_again recs gate part (ap (drive_at m.at.drives.each) same ∙ is) (subst (λ (k : ℕ). BegunAloud o k (Begun recs gate part) m.at.drives c.at m.world c.world) (sym same) t)
    | inr differ ↦ begin_other e t.ok (begun_at o.plan (Begun recs gate part)) differ t.stands (elsewhere e (begin_line e (length recs) (files_of o.plan) t.ok) t.said differ t.tried.0.went t.line)
  ]

  -- ---- a copy

  copy_turn : (i : ℕ) (copy : FileCopy) → CopyActed o i copy m.at.drives c.at m.pool c.pool m.world c.world → Did o d m c
  copy_turn i copy act = by act.came act.settles
    where
      to_mid : KeepsJournal d m.world act.mid
      to_mid =
          let rest = copy_keeps (card_of copy) (live_of copy) act.file.path m.world act.mid act.touches in
          record { back = λ x L h. let b = (rest.beside d).back x L h in (b.0, b.1, b.2 journal_path journal_not_part) }

      same_mid : c.world ≡ act.mid → KeepsJournal d m.world c.world
      same_mid world = keeps_then d to_mid (keeps_same d (same_idle world d))

      by : (came : Turn) → CopySettles (files_of o.plan) i came act.next m.at.drives c.at act.mid c.world → Did o d m c
      by Going s = as_before s.0 (same_mid s.2)
      by (Dropped e) s = elim (cases_eq d e) [
        | inl same ↦ lost (ap (drive_at c.at.drives.each) same ∙ s.drops.each.here)
        | inr differ ↦ kept (s.drops.each.others d differ) (keeps_then d to_mid (keeps_same d (said_same _ s.said s.line d)))
      ]
      by (Copied t) s = as_before s.0 (same_mid s.2)
      by SourceFailed s = as_before s.0 (same_mid s.2)
      by (Changed p q) s = as_before s.0 (same_mid s.2)
      by NoDrive s = absurd s

  date_turn : (i : ℕ) (t : Triple) (other : Option Listed) → DateTurn o i t other m.at.drives c.at m.world c.world → Did o d m c
  date_turn i t None act = as_before act.drives (keeps_same d (asked_same act.asked d))
  date_turn i t (Some l) act = idle act.0 act.2

  -- ---- a recording

  record_turn : (rec : Rec) (e : ℕ) → m.at.phase ≡ Records rec e → (was : Option Journaled) → due rec.index (drive_at m.at.drives.each e) ≡ was → RecordTurn o rec e was m.at.drives c.at m.world c.world → Did o d m c
  record_turn rec e phase None is t = idle t.drives t.idle
  record_turn rec e phase (Some was) is t = elim (cases_eq d e) [
    | inl same ↦ own (phase ∙ ap (Records rec) (sym same)) (ap (λ (k : ℕ). due rec.index (drive_at m.at.drives.each k)) same ∙ is) (subst (λ (k : ℕ). RecordedAloud o rec k was m.at.drives c.at m.world c.world) (sym same) t)
    | inr differ ↦ other differ t.came t.stands
  ]
    where
      other : d ≢ e → (came : Result Gate ReadBackError) → RecordStands e was.recs rec came m.at.drives c.at.drives → Did o d m c
      other differ (Ok next) s = kept (s.each.others d differ) (elsewhere e _ t.said differ t.went t.line)
      other differ (Err y) s = kept (s.each.others d differ) (elsewhere e _ t.said differ t.went t.line)

      own : m.at.phase ≡ Records rec d → due rec.index (drive_at m.at.drives.each d) ≡ Some was → RecordedAloud o rec d was m.at.drives c.at m.world c.world → Did o d m c
      own at here act = by act.came refl act.stands
        where
          by : (came : Result Gate ReadBackError) → act.came ≡ came → RecordStands d was.recs rec came m.at.drives c.at.drives → Did o d m c
          by (Ok next) well s = recorded rec was next at here act well s.each.here
          by (Err y) bad s = lost s.each.here

  -- ---- a sealing

  seal_turn : (e : ℕ) (x : DriveAt) → m.at.phase ≡ Seals e → drive_at m.at.drives.each e ≡ x → SealTurn o e x m.at.drives c.at m.world c.world → Did o d m c
  seal_turn e Fresh phase is t = absurd t
  seal_turn e Gone phase is t = idle t.drives t.idle
  seal_turn e Sealed phase is t = idle t.drives t.idle
  seal_turn e (Found recs) phase is t = elim (cases_eq d e) [
    | inl same ↦ found recs (ap (drive_at m.at.drives.each) same ∙ is) (ap (drive_at c.at.drives.each) same ∙ t.stands.each.here)
    | inr differ ↦ kept (t.stands.each.others d differ) (keeps_same d (said_same _ t.said t.line d))
  ]
  seal_turn e (Begun recs gate part) phase is t = elim (cases_eq d e) [
    | inl same ↦ own (phase ∙ ap Seals (sym same)) (ap (drive_at m.at.drives.each) same ∙ is) (subst (λ (k : ℕ). SealedAloud o k recs m.at.drives c.at m.world c.world) (sym same) t)
    | inr differ ↦ other differ t.came t.stands
  ]
    where
      keeps : d ≢ e → KeepsJournal d m.world c.world
      keeps differ = keeps_then d (keeps_same d (asked_same t.asked d)) (keeps_same d (same_then d (drive_same e t.went d differ) (said_same _ t.said t.line d)))

      other : d ≢ e → (came : Result Unit SealError) → SealStands e came m.at.drives c.at.drives → Did o d m c
      other differ (Ok v) s = kept (s.each.others d differ) (keeps differ)
      other differ (Err y) s = kept (s.each.others d differ) (keeps differ)

      own : m.at.phase ≡ Seals d → drive_at m.at.drives.each d ≡ Begun recs gate part → SealedAloud o d recs m.at.drives c.at m.world c.world → Did o d m c
      own at here act = by act.came refl act.stands
        where
          by : (came : Result Unit SealError) → act.came ≡ came → SealStands d came m.at.drives c.at.drives → Did o d m c
          by (Ok tt) well s = sealed recs gate part at here act well s.each.here
          by (Err y) bad s = lost s.each.here

  clear_turn : (required count : ℕ) (is_due : Bool) → c.at.drives ≡ m.at.drives → ClearTurn required count is_due c.at m.world c.world → Did o d m c
  clear_turn required count true same t = as_before same (keeps_same d (said_same _ t.said t.line d))
  clear_turn required count false same t = idle same t.1

  acted : (phase : Phase) → m.at.phase ≡ phase → Acted o phase m.at c.at m.pool c.pool m.world c.world → Did o d m c
  acted (Begins e) is t = begin_turn e (drive_at m.at.drives.each e) refl t
  acted (File i) is (inl t) = idle t.drives t.idle
  acted (File i) is (inr t) = idle t.1.drives t.1.idle
  acted (Copies i copy) is t = copy_turn i copy t
  acted (Dates i x) is t = date_turn i x (other_listed o.listed i x) t
  acted (Records rec e) is t = record_turn rec e is (due rec.index (drive_at m.at.drives.each e)) refl t
  acted (Seals e) is t = seal_turn e (drive_at m.at.drives.each e) is refl t
  acted Clears is t = clear_turn o.copies (count_sealed m.at.drives.each) (is_clear (count_sealed m.at.drives.each) o.copies) t.0 t.1
  acted Ended is t = idle (ap (λ (x : At). x.drives) t.0) t.2

  pub turn_did : Turned o m.at c.at m.pool c.pool m.world c.world → Did o d m c
  turn_did t = acted m.at.phase refl t
