-- What one turn says: nothing, one line on a drive, or the line `clear`.
use Rattle.std.proofs.Common.{◌≡◌, ◌⊎◌, inl, inr, ℕ, ◌+◌, Bool, true, false, List, [], ◌∷◌, ◌++◌, length, refl, sym, ap, ◌∙◌, append-nil}
use Rattle.std.specs.Prelude.{Option, Some, None, Result, Ok, Err}
use Rattle.bay_core.specs.declared.event.Event.{Event}
use Rattle.bay_core.specs.declared.event.Event.TheVariants.{Say}
use Rattle.bay_core.specs.Replay.{Device}
use Rattle.bay_core.specs.World.{World}
use Rattle.bay_core.specs.Went.{Went}
use Rattle.copy_plan.specs.Plan.{list_of}
use Rattle.digest_set.specs.declared.triple.Triple.{Triple}
use Rattle.drive_journal.specs.declared.order.Listed.{Listed}
use Rattle.drive_journal.specs.declared.record.Gate.{Gate}
use Rattle.drive_journal.specs.declared.record.Rec.{Rec}
use Rattle.fan_copier.specs.declared.copy.FileCopy.{FileCopy}
use Rattle.fan_copier.specs.declared.turn.Turn.{Turn}
use Rattle.fan_copier.specs.declared.turn.Turn.TheVariants.{Going as CopyGoes, Dropped, Copied, SourceFailed as CardFailed, Changed as CardChanged, NoDrive as NoneLeft}
use Rattle.fan_copier.specs.Copying.{card_of, live_of}
use Rattle.read_back.specs.declared.back.ReadBackError.{ReadBackError}
use Rattle.report_text.specs.Run.{done_text, clear_text}
use Rattle.seal_step.specs.declared.error.SealError.{SealError}
use Rattle.run_state.specs.declared.phase.Phase.{Phase}
use Rattle.run_state.specs.declared.phase.Phase.TheVariants.{Begins, File, Copies, Dates, Records, Seals, Clears, Ended}
use Rattle.run_state.specs.Acts.{Says, records_at, BeginTried, begin_line, BegunAloud, BeginTurn, CopySettles, CopyActed, other_listed, DateTurn, record_line, RecordTurn, seal_line, SealTurn, is_clear, ClearTurn}
use Rattle.run_state.specs.Runs.{Point, Runs, starts, turns, beside}
use Rattle.run_state.specs.State.{Ordered, DriveAt, Gone, Fresh, Begun as BegunDrive, Found, Sealed as SealedDrive, Journaled, files_of, drive_at, count_sealed, due}
use Rattle.run_state.specs.Turn.{Acted}
use Rattle.run_lines.specs.Words.{Mark, Begun, Done, Sealed, Lost, Fault, mark_text}
use Rattle.run_lines.specs.Lines.{lines_in}
use Rattle.run_lines.proofs.Since.{Since, since_none, since_more, since_such, since_same, since_then, since_went}
use Rattle.run_lines.proofs.Losses.{record_loss, record_loss_line, seal_loss, seal_loss_line, path_is}
use Rattle.run_lines.proofs.Saying.{IsSilent, drive_silent, clock_silent, copy_silent, lines_more, no_lines, IsOneLine, one_line}

-- no line
abbrev IsQuiet : List Event → Type 0
IsQuiet B = lines_in B ≡ []

-- no line, or this one
abbrev HasOne : List ℕ → List Event → Type 0
HasOne line B = (lines_in B ≡ []) ⊎ (lines_in B ≡ line ∷ [])

quiet_none : (w : World) → Since IsQuiet w w
quiet_none w = since_none w refl

quiet_more : {On : Device → Type 0} {P : List Event → Type 0} {a w new : World} → Since IsQuiet a w → Went On P w new → IsSilent On → Since IsQuiet a new
quiet_more {On} far went off = since_more far went (λ A B so on such. lines_more A B [] (no_lines On off B on) ∙ append-nil (lines_in A) ∙ so)

line_more : {a w new : World} (line : List ℕ) (ok : Bool) → Since IsQuiet a w → Says line ok w new → Since (HasOne line) a new
line_more line ok far says = since_more far says.went (λ A B so on such. by ok A B so (one_line line ok B such))
  where
    by : (ok : Bool) (A B : List Event) → IsQuiet A → IsOneLine line ok B → HasOne line (A ++ B)
    by true A B so is = inr (lines_more A B (line ∷ []) (ap lines_in is) ∙ ap (λ (l : List (List ℕ)). l ++ line ∷ []) so)
    by false A B so (inl unseen) = inl (lines_more A B [] (ap lines_in unseen) ∙ append-nil (lines_in A) ∙ so)
    by false A B so (inr seen) = inr (lines_more A B (line ∷ []) (ap lines_in seen) ∙ ap (λ (l : List (List ℕ)). l ++ line ∷ []) so)

-- the only call says the line `clear`, which is due
pub record ClearCall (o : Ordered) (b : Point) (B : List Event) : Type 0 where
  pub phase : b.at.phase ≡ Clears
  pub due : is_clear (count_sealed b.at.drives.each) o.copies ≡ true
  pub ok : Bool
  pub is : B ≡ Say (clear_text (count_sealed b.at.drives.each) o.copies) ok ∷ []

-- what the calls of one turn say
abbrev pub TurnSays : Ordered → Point → List Event → Type 0
TurnSays o b B = (lines_in B ≡ []) ⊎ ((d : ℕ) × (m : Mark) × (lines_in B ≡ mark_text o.plan d m ∷ [])) ⊎ ClearCall o b B

module _ (o : Ordered) (b c : Point) where
  abbrev n : ℕ
  n = files_of o.plan

  quiet_says : Since IsQuiet b.world c.world → Since (TurnSays o b) b.world c.world
  quiet_says far = since_such (λ L is. inl is) far

  idle_says : c.world ≡ b.world → Since (TurnSays o b) b.world c.world
  idle_says idle = quiet_says (since_same idle (quiet_none b.world))

  mark_says : (d : ℕ) (m : Mark) (line : List ℕ) → line ≡ mark_text o.plan d m → Since (HasOne line) b.world c.world → Since (TurnSays o b) b.world c.world
  mark_says d m line is far = since_such by far
    where
      by : (L : List Event) → HasOne line L → TurnSays o b L
      by L (inl none) = inl none
      by L (inr one) = inr (inl (d, m, one ∙ ap (λ (t : List ℕ). t ∷ []) is))

  -- ---- each act

  begun_says : (d : ℕ) (x : DriveAt) → ((ok : Bool) (mid : World) → BeginTried o.plan d x ok b.world mid → Since IsQuiet b.world mid) → BegunAloud o d x b.at.drives c.at b.world c.world → Since (TurnSays o b) b.world c.world
  begun_says d x silent t = by t.ok t.tried t.line
    where
      by : (ok : Bool) → BeginTried o.plan d x ok b.world t.mid → Says (begin_line d (length (records_at x)) n ok) t.said t.mid c.world → Since (TurnSays o b) b.world c.world
      by true tried line = mark_says d (Begun (length (records_at x))) (begin_line d (length (records_at x)) n true) refl (line_more (begin_line d (length (records_at x)) n true) t.said (silent true t.mid tried) line)
      by false tried line = mark_says d (Lost Fault) (begin_line d (length (records_at x)) n false) refl (line_more (begin_line d (length (records_at x)) n false) t.said (silent false t.mid tried) line)

  begin_says : (d : ℕ) (x : DriveAt) → BeginTurn o d x b.at.drives c.at b.world c.world → Since (TurnSays o b) b.world c.world
  begin_says d Fresh t = begun_says d Fresh (λ ok mid tried. quiet_more (quiet_none b.world) tried.0.went (drive_silent d)) t
  begin_says d (BegunDrive recs gate kept) t = begun_says d (BegunDrive recs gate kept) (λ ok mid tried. quiet_more (quiet_none b.world) tried.0.went (drive_silent d)) t
  begin_says d Gone t = idle_says t.idle
  begin_says d (Found recs) t = idle_says t.idle
  begin_says d SealedDrive t = idle_says t.idle

  copy_says : (i : ℕ) (copy : FileCopy) → CopyActed o i copy b.at.drives c.at b.pool c.pool b.world c.world → Since (TurnSays o b) b.world c.world
  copy_says i copy t = by t.came t.settles
    where
      spoke : Since IsQuiet b.world t.mid
      spoke = quiet_more (quiet_none b.world) t.touches (copy_silent (card_of copy) (live_of copy))

      by : (came : Turn) → CopySettles n i came t.next b.at.drives c.at t.mid c.world → Since (TurnSays o b) b.world c.world
      by CopyGoes s = quiet_says (since_same s.2 spoke)
      by (Dropped d) s = mark_says d (Lost Fault) (mark_text o.plan d (Lost Fault)) refl (line_more (mark_text o.plan d (Lost Fault)) s.said spoke s.line)
      by (Copied x) s = quiet_says (since_same s.2 spoke)
      by CardFailed s = quiet_says (since_same s.2 spoke)
      by (CardChanged listed read) s = quiet_says (since_same s.2 spoke)
      by NoneLeft s = absurd s

  date_says : (i : ℕ) (x : Triple) (found : Option Listed) → DateTurn o i x found b.at.drives c.at b.world c.world → Since (TurnSays o b) b.world c.world
  date_says i x None t = quiet_says (quiet_more (quiet_none b.world) t.asked clock_silent)
  date_says i x (Some l) t = idle_says t.2

  record_says : (rec : Rec) (d : ℕ) (found : Option Journaled) → RecordTurn o rec d found b.at.drives c.at b.world c.world → Since (TurnSays o b) b.world c.world
  record_says rec d None t = idle_says t.idle
  record_says rec d (Some j) t = by t.came t.line
    where
      spoke : Since IsQuiet b.world t.mid
      spoke = quiet_more (quiet_none b.world) t.went (drive_silent d)

      by : (came : Result Gate ReadBackError) → Says (record_line d n t.file.path rec came) t.said t.mid c.world → Since (TurnSays o b) b.world c.world
      by (Ok next) line =
          mark_says d (Done rec.index) (record_line d n t.file.path rec (Ok next)) (ap (λ (q : List ℕ). done_text d (rec.index + 1) n q) (sym (path_is o.plan rec.index t.file t.is_file)))
          (line_more (record_line d n t.file.path rec (Ok next)) t.said spoke line)
      by (Err e) line = mark_says d (Lost (record_loss t.file.path e)) (record_line d n t.file.path rec (Err e)) (record_loss_line d n t.file.path rec e) (line_more (record_line d n t.file.path rec (Err e)) t.said spoke line)

  seal_says : (d : ℕ) (x : DriveAt) → SealTurn o d x b.at.drives c.at b.world c.world → Since (TurnSays o b) b.world c.world
  seal_says d (BegunDrive recs gate kept) t = by t.came t.line
    where
      spoke : Since IsQuiet b.world t.mid
      spoke = quiet_more (quiet_more (quiet_none b.world) t.asked clock_silent) t.went (drive_silent d)

      by : (came : Result Unit SealError) → Says (seal_line d o.plan came) t.said t.mid c.world → Since (TurnSays o b) b.world c.world
      by (Ok u) line = mark_says d Sealed (seal_line d o.plan (Ok u)) refl (line_more (seal_line d o.plan (Ok u)) t.said spoke line)
      by (Err e) line = mark_says d (Lost (seal_loss (list_of o.plan) e)) (seal_line d o.plan (Err e)) (seal_loss_line d o.plan e) (line_more (seal_line d o.plan (Err e)) t.said spoke line)
  seal_says d (Found recs) t = mark_says d Sealed (mark_text o.plan d Sealed) refl (line_more (mark_text o.plan d Sealed) t.said (quiet_none b.world) t.line)
  seal_says d Fresh t = absurd t
  seal_says d Gone t = idle_says t.idle
  seal_says d SealedDrive t = idle_says t.idle

  clear_says : b.at.phase ≡ Clears → (due : Bool) → is_clear (count_sealed b.at.drives.each) o.copies ≡ due → ClearTurn o.copies (count_sealed b.at.drives.each) due c.at b.world c.world → Since (TurnSays o b) b.world c.world
  clear_says phase false is t = idle_says t.1
  clear_says phase true is t = since_such (λ B such. by t.said B (one_line (clear_text (count_sealed b.at.drives.each) o.copies) t.said B such)) (since_went t.line.went)
    where
      by : (ok : Bool) (B : List Event) → IsOneLine (clear_text (count_sealed b.at.drives.each) o.copies) ok B → TurnSays o b B
      by true B one = inr (inr (record { phase = phase; due = is; ok = true; is = one }))
      by false B (inl unseen) = inl (ap lines_in unseen)
      by false B (inr seen) = inr (inr (record { phase = phase; due = is; ok = false; is = seen }))

  pub turn_says : (phase : Phase) → b.at.phase ≡ phase → Acted o phase b.at c.at b.pool c.pool b.world c.world → Since (TurnSays o b) b.world c.world
  turn_says (Begins d) is t = begin_says d (drive_at b.at.drives.each d) t
  turn_says (File i) is (inl t) = idle_says t.idle
  turn_says (File i) is (inr t) = idle_says t.1.idle
  turn_says (Copies i copy) is t = copy_says i copy t
  turn_says (Dates i x) is t = date_says i x (other_listed o.listed i x) t
  turn_says (Records rec d) is t = record_says rec d (due rec.index (drive_at b.at.drives.each d)) t
  turn_says (Seals d) is t = seal_says d (drive_at b.at.drives.each d) t
  turn_says Clears is t = clear_says is (is_clear (count_sealed b.at.drives.each) o.copies) refl t.1
  turn_says Ended is t = idle_says t.2

-- some calls
abbrev pub AnyCalls : List Event → Type 0
AnyCalls L = Unit {0}

-- a run's calls go on from those before it
pub runs_since : (o : Ordered) (a b : Point) → Runs o a b → Since AnyCalls a.world b.world
runs_since o a b starts = since_none a.world tt
runs_since o a b (turns {b = x} so_far t) = since_then (runs_since o a x so_far) (turn_says o x b x.at.phase refl t) (λ A B one two. tt)
runs_since o a b (beside {b = x} so_far t) = since_then (runs_since o a x so_far) (since_went t.went) (λ A B one two. tt)
