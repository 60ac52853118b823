-- Each end of a run has its cause.
use Rattle.std.proofs.Common.{◌≡◌, ◌≢◌, ◌⊎◌, inl, inr, ℕ, Bool, true, false, List, refl, sym, ap, ◌∙◌, subst, arith}
use Rattle.std.specs.Prelude.{Option, Some, not, nat_eq, option_map, if◌then◌else◌}
use Rattle.std.specs.List.{slice_get}
use Rattle.std.proofs.lemmas.Bool.{false≢true}
use Rattle.std.proofs.lemmas.Bool.Decides.{Decides-eqb}
use Rattle.bay_core.specs.Replay.{Source, Output}
use Rattle.bay_core.specs.World.{World, Rose, Steady}
use Rattle.digest_set.specs.declared.triple.Triple.{Triple}
use Rattle.copy_plan.specs.declared.file.PlannedFile.{PlannedFile}
use Rattle.drive_journal.specs.declared.order.Listed.{Listed}
use Rattle.fan_core.specs.declared.act.Act.TheVariants.{Read, Write, Finished as AllWritten}
use Rattle.fan_core.specs.Flags.{has}
use Rattle.fan_copier.specs.declared.copy.FileCopy.{FileCopy}
use Rattle.fan_copier.specs.declared.turn.Turn.TheVariants.{Changed as CardChanged}
use Rattle.fan_copier.specs.Copying.{size_of}
use Rattle.fan_copier.specs.Standing.{Standing}
use Rattle.fan_copier.specs.Turning.{Doing, EmptyPiece, Acting, StandsAfter, IsChanged}
use Rattle.report_text.specs.Run.{clear_text}
use Rattle.run_state.specs.declared.outcome.Outcome.{Outcome}
use Rattle.run_state.specs.declared.outcome.Outcome.TheVariants.{Going, Finished, NoDrive, SourceFailed, Changed, Altered, OutFailed}
use Rattle.run_state.specs.declared.phase.Phase.{Phase}
use Rattle.run_state.specs.declared.phase.Phase.TheVariants.{Dates, Ended}
use Rattle.run_state.specs.Acts.{Says, Goes, Ends, CopyActed, other_listed, DateTurn, end_of, is_clear, ClearTurn}
use Rattle.run_state.specs.Rules.{IsOver, FitsCopy, Fits, IsRun, IsStart}
use Rattle.run_state.specs.Runs.{Point, Runs, starts, turns, beside}
use Rattle.run_state.specs.State.{Ordered, DriveAt, Drives, At, drive_at, is_gone, is_sealed, is_of_run, count_sealed}
use Rattle.run_state.specs.Turn.{Acted, Turned}
use Rattle.run_ends.specs.Ends.{IsFinished, IsWithoutDrive, IsNotAsPlanned, WasAltered, EndsRightly}
use Rattle.run_ends.specs.Losses.{loss_text}
use Rattle.run_ends.specs.Reads.{IsCopiedBetween}
use Rattle.run_ends.proofs.Drives.{of_run_or, of_run, none_sealed, some_sealed, over_gone, sealed_there, gone_over, sealed_over}
use Rattle.run_ends.proofs.Later.{Later, later_none, later_then, rose_around, steady_later}
use Rattle.run_ends.proofs.Turns.{Came, Passed, Told, Lost, Broke, Closed, Rested, Breaking, Closing, Why}
use Rattle.run_ends.proofs.Way.{Way, way, ended_or, came_at, came_later, beside_later}
use Rattle.run_ends.proofs.Whole.{LeadsOn, copied_on}

-- a drive on which something is still to be done
abbrev Left : Drives → Type 0
Left drives = (d : ℕ) × (IsOver (drive_at drives.each d) → ⊥)

-- what an outcome says, of a run that came to this point with these drives
abbrev pub EndOf : Ordered → Point → Point → Drives → Outcome → Type 0
EndOf o a m drives Going = Unit {0}
EndOf o a m drives Finished = ((d : ℕ) × (is_sealed (drive_at drives.each d) ≡ true)) × ((d : ℕ) → IsOver (drive_at drives.each d))
EndOf o a m drives NoDrive = (d : ℕ) → is_gone (drive_at drives.each d) ≡ true
EndOf o a m drives SourceFailed = Rose (a.world.faults (Source o.source)) (m.world.faults (Source o.source)) × Left drives
EndOf o a m drives (Changed i listed read) = IsNotAsPlanned o a i × Left drives
EndOf o a m drives (Altered i l t) = IsCopiedBetween o a m i t × (other_listed o.listed i t ≡ Some l) × Left drives
EndOf o a m drives OutFailed = Rose (a.world.faults Output) (m.world.faults Output)

-- ---- a file of another length

-- a copy that came to another length came to one that is not the planned one
pub other_size : (size : ℕ) (at now : Standing) (did : Doing) (listed read : ℕ) → StandsAfter size at now did (CardChanged listed read) → (listed ≡ size) × (read ≢ size)
other_size size at now (EmptyPiece d) listed read s = absurd s
other_size size at now (Acting p Read) listed read s = (s.0, λ same. let less = s.1 in absurd (omega (arith, less, same)))
other_size size at now (Acting p (Write d k)) listed read s = absurd s
other_size size at now (Acting p AllWritten) listed read s = (s.0, λ same. let more = s.1 in absurd (omega (arith, more, same)))

-- the size of a copy is the planned one
pub copy_sized : (o : Ordered) (each : List DriveAt) (i : ℕ) (copy : FileCopy) (file : PlannedFile) → FitsCopy o each i copy → slice_get o.plan.files i ≡ Some file → size_of copy ≡ file.size
copy_sized o each i copy file fits is =
    let both : Some (size_of copy) ≡ Some file.size = sym fits.sized ∙ ap (option_map (λ (f : PlannedFile). f.size)) is in cc both

module _ (o : Ordered) (a m c : Point) (later : Later a.world m.world) (i : ℕ) (copy : FileCopy) (fits : FitsCopy o m.at.drives.each i copy) (act : CopyActed o i copy m.at.drives c.at m.pool c.pool m.world c.world) (listed read : ℕ) (at : act.came ≡ CardChanged listed read) where
  not_as_planned : IsNotAsPlanned o a i
  not_as_planned = record {
    file = act.file;
    is_file = act.is_file;
    never = λ card steady long.
        act.steady card (subst (λ (n : ℕ). Steady m.world n card) (sym fits.card) (steady_later o.source card later steady)) (long ∙ sym (copy_sized o m.at.drives.each i copy act.file fits act.is_file)) (subst IsChanged (sym at) tt);
  }

module _ (o : Ordered) (a : Point) where
  -- ---- what an outcome says stays so

  end_on : (m c : Point) (drives : Drives) (outcome : Outcome) → LeadsOn o m c → Later m.world c.world → EndOf o a m drives outcome → EndOf o a c drives outcome
  end_on m c drives Going on later e = tt
  end_on m c drives Finished on later e = e
  end_on m c drives NoDrive on later e = e
  end_on m c drives SourceFailed on later e = (rose_around (Source o.source) (later_none a.world) later e.0, e.1)
  end_on m c drives (Changed i listed read) on later e = e
  end_on m c drives (Altered i l t) on later e = (copied_on o a m c i t on e.0, e.1, e.2)
  end_on m c drives OutFailed on later e = rose_around Output (later_none a.world) later e

  -- the run stands as before
  same_end : (m c : Point) → c.at ≡ m.at → LeadsOn o m c → Later m.world c.world → EndOf o a m m.at.drives m.at.outcome → EndOf o a c c.at.drives c.at.outcome
  same_end m c same on later e = subst (λ (at : At). EndOf o a c at.drives at.outcome) (sym same) (end_on m c m.at.drives m.at.outcome on later e)

  -- ---- each turn

  module _ (m c : Point) (w : Way o a m) (t : Turned o m.at c.at m.pool c.pool m.world c.world) (came : Came o a m c) where
    on : LeadsOn o m c
    on x r = turns r t

    later : Later m.world c.world
    later = came_later o a m c came

    -- it goes on, or a line failed
    line_end : (said : Bool) (next : Phase) (text : List ℕ) (mid : World) → Later m.world mid → Says text said mid c.world → Goes said next c.at → EndOf o a c c.at.drives c.at.outcome
    line_end true next text mid before line goes = subst (EndOf o a c c.at.drives) (sym goes.1) tt
    line_end false next text mid before line goes = subst (EndOf o a c c.at.drives) (sym goes.1) (rose_around Output (later_then w.later before) (later_none c.world) (line.cause refl))

    broke : (b : Breaking o m c) → EndOf o a c c.at.drives c.at.outcome
    broke b = subst (EndOf o a c c.at.drives) (sym b.ends.1) (by b.outcome b.why)
      where
        left : Left c.at.drives
        left = subst Left (sym b.drives) b.left

        by : (outcome : Outcome) → Why o m c outcome → EndOf o a c c.at.drives outcome
        by SourceFailed why = (rose_around (Source o.source) w.later (later_none c.world) why, left)
        by (Changed i listed read) (copy, is, act, at) =
            let fits : FitsCopy o m.at.drives.each i copy = subst (Fits o m.at.drives.each) is w.run.fits in
            (not_as_planned o a m c w.later i copy fits act listed read at, left)
        by (Altered i l x) (is, differs) = (record { mid = m; before = w.runs; after = on m starts; next = is }, differs, left)
        by Going why = absurd why
        by Finished why = absurd why
        by NoDrive why = absurd why
        by OutFailed why = absurd why

    -- each drive is gone or sealed, and by how many are sealed the run ends so
    closed : (b : Closing o m c) → EndOf o a c c.at.drives c.at.outcome
    closed b = by_clear (is_clear (count_sealed m.at.drives.each) o.copies) b.clear
      where
        by_count : (none : Bool) → nat_eq (count_sealed m.at.drives.each) 0 ≡ none → EndOf o a c m.at.drives (if none then NoDrive else Finished)
        by_count true is = λ d. over_gone (drive_at m.at.drives.each d) (b.over d) (none_sealed m.at.drives.each ((Decides-eqb (count_sealed m.at.drives.each) 0).0 is) d)
        by_count false is = (some_sealed m.at.drives.each (λ nothing. absurd (false≢true (sym is ∙ (Decides-eqb (count_sealed m.at.drives.each) 0).1 nothing))), b.over)

        well : EndOf o a c c.at.drives (end_of (count_sealed m.at.drives.each))
        well = subst (λ (x : Drives). EndOf o a c x (end_of (count_sealed m.at.drives.each))) (sym b.drives) (by_count (nat_eq (count_sealed m.at.drives.each) 0) refl)

        by_line : (said : Bool) (text : List ℕ) → Says text said m.world c.world → Ends (if said then end_of (count_sealed m.at.drives.each) else OutFailed) c.at → EndOf o a c c.at.drives c.at.outcome
        by_line true text line ends = subst (EndOf o a c c.at.drives) (sym ends.1) well
        by_line false text line ends = subst (EndOf o a c c.at.drives) (sym ends.1) (rose_around Output w.later (later_none c.world) (line.cause refl))

        by_clear : (is_due : Bool) → ClearTurn o.copies (count_sealed m.at.drives.each) is_due c.at m.world c.world → EndOf o a c c.at.drives c.at.outcome
        by_clear true x = by_line x.said (clear_text (count_sealed m.at.drives.each) o.copies) x.line x.ends
        by_clear false x = subst (EndOf o a c c.at.drives) (sym x.0.1) well

    came_end : Came o a m c → EndOf o a m m.at.drives m.at.outcome → EndOf o a c c.at.drives c.at.outcome
    came_end (Passed x) e = subst (EndOf o a c c.at.drives) (sym x.goes.1) tt
    came_end (Told x) e = line_end x.said x.next x.text x.mid x.silent.later x.line x.goes
    came_end (Lost x) e = line_end x.said x.next (loss_text x.d x.loss) x.mid x.silent.later x.line x.goes
    came_end (Broke x) e = broke x
    came_end (Closed x) e = closed x
    came_end (Rested x) e = same_end m c x.same on later e

  module _ (rules : (b : Point) → IsRun o a.at → Runs o a b → IsRun o b.at) (start : IsStart o a.at) where
    pub end_of_runs : (b : Point) → Runs o a b → EndOf o a b b.at.drives b.at.outcome
    end_of_runs b starts =
        let open_here : a.at.phase ≢ Ended = λ ended. absurd (cc (sym start.phase ∙ ended)) in
        subst (EndOf o a a a.at.drives) (sym (start.run.outcome.1 open_here)) tt
    end_of_runs b (turns {b = x} so_far t) =
        let w = way o a rules start x so_far in
        let came = came_at o a x b w t in
        came_end x b w t came came (end_of_runs x so_far)
    end_of_runs b (beside {b = x} so_far t) = same_end x b t.same (λ y r. beside r t) (beside_later o x b t) (end_of_runs x so_far)

  -- ---- a file that the source list records otherwise

  -- from the moment at which it came whole the run stands still, or ends so
  module _ (mid : Point) (i : ℕ) (l : Listed) (t : Triple) (is : mid.at.phase ≡ Dates i t) (differs : other_listed o.listed i t ≡ Some l) where
    altered_from : (b : Point) → Runs o mid b → (b.at ≡ mid.at) ⊎ ((b.at.phase ≡ Ended) × (b.at.outcome ≡ Altered i l t))
    altered_from b starts = inl refl
    altered_from b (turns {b = x} so_far turn) = elim (altered_from x so_far) [
      | inl same ↦
          let phase : x.at.phase ≡ Dates i t = ap (λ (at : At). at.phase) same ∙ is in
          let act : Acted o (Dates i t) x.at b.at x.pool b.pool x.world b.world = subst (λ (p : Phase). Acted o p x.at b.at x.pool b.pool x.world b.world) phase turn in
          let date : DateTurn o i t (Some l) x.at.drives b.at x.world b.world = subst (λ (f : Option Listed). DateTurn o i t f x.at.drives b.at x.world b.world) differs act in
          inr date.1
      | inr over ↦
          let act : Acted o Ended x.at b.at x.pool b.pool x.world b.world = subst (λ (p : Phase). Acted o p x.at b.at x.pool b.pool x.world b.world) over.0 turn in
          inr (ap (λ (at : At). at.phase) act.0 ∙ over.0, ap (λ (at : At). at.outcome) act.0 ∙ over.1)
    ]
    altered_from b (beside {b = x} so_far t) = elim (altered_from x so_far) [
      | inl same ↦ inl (t.same ∙ same)
      | inr over ↦ inr (ap (λ (at : At). at.phase) t.same ∙ over.0, ap (λ (at : At). at.outcome) t.same ∙ over.1)
    ]

-- ---- what the end of a run says

module _ (o : Ordered) (a b : Point) (w : Way o a b) (end : EndOf o a b b.at.drives b.at.outcome) where
  abbrev at : ℕ → DriveAt
  at d = drive_at b.at.drives.each d

  closed_by : (outcome : Outcome) → b.at.outcome ≡ outcome → outcome ≢ Going → b.at.phase ≡ Ended
  closed_by outcome is differs = elim (ended_or b.at.phase) [
    | inl ended ↦ ended
    | inr more ↦ absurd (differs (sym is ∙ w.run.outcome.1 more))
  ]

  -- a drive of the run
  not_gone_of : (d : ℕ) → is_gone (at d) ≡ false → is_of_run a.at.drives d ≡ true
  not_gone_of d there = sym (w.of_run d) ∙ of_run b.at.drives d there

  gone_dropped : (d : ℕ) → is_of_run a.at.drives d ≡ true → is_gone (at d) ≡ true → has b.at.drives.dropped d ≡ true
  gone_dropped d of gone = elim (of_run_or b.at.drives d (w.of_run d ∙ of)) [
    | inl there ↦ absurd (false≢true (sym there ∙ gone))
    | inr lost ↦ lost
  ]

  dropped_gone : (d : ℕ) → has b.at.drives.dropped d ≡ true → is_gone (at d) ≡ true
  dropped_gone d lost = ap is_gone (w.run.drives.lost d lost)

  -- a drive with which nothing is left to be done is sealed or was dropped
  one_end : (d : ℕ) → is_of_run a.at.drives d ≡ true → IsOver (at d) → has b.at.drives.dropped d ≡ not (has b.at.drives.sealed d)
  one_end d of over = by (is_sealed (at d)) refl (has b.at.drives.dropped d) refl
    where
      by : (sealed : Bool) → is_sealed (at d) ≡ sealed → (lost : Bool) → has b.at.drives.dropped d ≡ lost → has b.at.drives.dropped d ≡ not (has b.at.drives.sealed d)
      by true is true lost = absurd (false≢true (sym (sealed_there (at d) is) ∙ dropped_gone d lost))
      by true is false lost = lost ∙ ap not (sym (w.run.drives.said d ∙ is))
      by false is lost_is lost = gone_dropped d of (over_gone (at d) over is) ∙ ap not (sym (w.run.drives.said d ∙ is))

  -- a drive of a run that has finished, or has none left, is over
  none_left : ((d : ℕ) → is_of_run a.at.drives d ≡ true → IsOver (at d)) → Left b.at.drives → ⊥
  none_left each left = by (is_gone (at left.0)) refl
    where
      by : (gone : Bool) → is_gone (at left.0) ≡ gone → ⊥
      by true is = left.1 (gone_over (at left.0) is)
      by false is = left.1 (each left.0 (not_gone_of left.0 is))

  finished : b.at.outcome ≡ Finished → IsFinished a b
  finished is =
      let e : EndOf o a b b.at.drives Finished = subst (EndOf o a b b.at.drives) is end in
      record {
        ended = closed_by Finished is (λ going. absurd (cc going));
        heard = λ out. absurd (cc (sym is ∙ out));
        some = (e.0.0, w.run.drives.said e.0.0 ∙ e.0.1);
        each = λ d of. one_end d of (e.1 d);
      }

  is_finished : IsFinished a b → b.at.outcome ≡ Finished
  is_finished f = by b.at.outcome refl end
    where
      over : (d : ℕ) → is_of_run a.at.drives d ≡ true → IsOver (at d)
      over d of = choose (has b.at.drives.sealed d) refl
        where
          choose : (sealed : Bool) → has b.at.drives.sealed d ≡ sealed → IsOver (at d)
          choose true is = sealed_over (at d) (sym (w.run.drives.said d) ∙ is)
          choose false is = gone_over (at d) (dropped_gone d (f.each d of ∙ ap not is))

      by : (outcome : Outcome) → b.at.outcome ≡ outcome → EndOf o a b b.at.drives outcome → b.at.outcome ≡ Finished
      by Going is e = absurd (w.run.outcome.0 f.ended is)
      by Finished is e = is
      by NoDrive is e = absurd (false≢true (sym (sealed_there (at f.some.0) (sym (w.run.drives.said f.some.0) ∙ f.some.1)) ∙ e f.some.0))
      by SourceFailed is e = absurd (none_left over e.1)
      by (Changed i listed read) is e = absurd (none_left over e.1)
      by (Altered i l t) is e = absurd (none_left over e.2)
      by OutFailed is e = absurd (f.heard is)

  no_drive : b.at.outcome ≡ NoDrive → IsWithoutDrive a b
  no_drive is =
      let e : EndOf o a b b.at.drives NoDrive = subst (EndOf o a b b.at.drives) is end in
      record {
        ended = closed_by NoDrive is (λ going. absurd (cc going));
        heard = λ out. absurd (cc (sym is ∙ out));
        each = λ d of. gone_dropped d of (e d);
      }

  is_without : IsWithoutDrive a b → b.at.outcome ≡ NoDrive
  is_without f = by b.at.outcome refl end
    where
      over : (d : ℕ) → is_of_run a.at.drives d ≡ true → IsOver (at d)
      over d of = gone_over (at d) (dropped_gone d (f.each d of))

      by : (outcome : Outcome) → b.at.outcome ≡ outcome → EndOf o a b b.at.drives outcome → b.at.outcome ≡ NoDrive
      by Going is e = absurd (w.run.outcome.0 f.ended is)
      by Finished is e =
          let there = sealed_there (at e.0.0) e.0.1 in
          absurd (false≢true (sym there ∙ dropped_gone e.0.0 (f.each e.0.0 (not_gone_of e.0.0 there))))
      by NoDrive is e = is
      by SourceFailed is e = absurd (none_left over e.1)
      by (Changed i listed read) is e = absurd (none_left over e.1)
      by (Altered i l t) is e = absurd (none_left over e.2)
      by OutFailed is e = absurd (f.heard is)

  altered : (i : ℕ) (l : Listed) (t : Triple) → b.at.outcome ≡ Altered i l t → WasAltered o a b i l t
  altered i l t is =
      let e : EndOf o a b b.at.drives (Altered i l t) = subst (EndOf o a b b.at.drives) is end in
      (closed_by (Altered i l t) is (λ going. absurd (cc going)), e.0, e.1)

  was_altered : (i : ℕ) (l : Listed) (t : Triple) → WasAltered o a b i l t → b.at.outcome ≡ Altered i l t
  was_altered i l t (ended, whole, differs) = elim (altered_from o a whole.mid i l t whole.next differs b whole.after) [
    | inl same ↦ absurd (cc (sym whole.next ∙ sym (ap (λ (x : At). x.phase) same) ∙ ended))
    | inr over ↦ over.1
  ]

  pub right : EndsRightly o a b
  right = record {
    going = (λ is ended. w.run.outcome.0 ended is, λ more. w.run.outcome.1 more);
    finished = (finished, is_finished);
    no_drive = (no_drive, is_without);
    source = λ is. let e : EndOf o a b b.at.drives SourceFailed = subst (EndOf o a b b.at.drives) is end in e.0;
    changed = λ i listed read is. let e : EndOf o a b b.at.drives (Changed i listed read) = subst (EndOf o a b b.at.drives) is end in e.0;
    altered = λ i l t. (altered i l t, was_altered i l t);
    out = λ is. let e : EndOf o a b b.at.drives OutFailed = subst (EndOf o a b b.at.drives) is end in e;
  }

-- how a run stands, and why
pub ends : (o : Ordered) (a b : Point) → ((b : Point) → IsRun o a.at → Runs o a b → IsRun o b.at) → IsStart o a.at → Runs o a b → EndsRightly o a b
ends o a b rules start runs = right o a b (way o a rules start b runs) (end_of_runs o a rules start b runs)
