-- A run in which nothing fails loses no drive, and ends well.
use Rattle.std.proofs.Common.{◌≡◌, inl, inr, ℕ, zero, suc, ◌<◌, Bool, true, false, List, [], ◌∷◌, length, refl, sym, ap, ◌∙◌, subst, arith}
use Rattle.std.specs.Prelude.{Some, None, not, nat_eq, if◌then◌else◌}
use Rattle.std.specs.List.{slice_get}
use Rattle.std.proofs.lemmas.Bool.{false≢true}
use Rattle.bay_core.specs.declared.event.Event.{Event}
use Rattle.bay_core.specs.Map.{Map, content}
use Rattle.bay_core.specs.Replay.{Device, Source, Drive, Output}
use Rattle.bay_core.specs.World.{World, Attached, Rose, Steady}
use Rattle.digest_set.specs.Triple.{triple}
use Rattle.copy_plan.specs.declared.file.PlannedFile.{PlannedFile}
use Rattle.fan_core.specs.Flags.{has, no_drives}
use Rattle.fan_core.proofs.Rules.{none_lowest}
use Rattle.fan_copier.specs.Turning.{IsChanged}
use Rattle.report_text.specs.Run.{clear_text}
use Rattle.run_state.specs.declared.outcome.Outcome.{Outcome}
use Rattle.run_state.specs.declared.outcome.Outcome.TheVariants.{Going, Finished, NoDrive, SourceFailed, Changed, Altered, OutFailed}
use Rattle.run_state.specs.declared.phase.Phase.{Phase}
use Rattle.run_state.specs.declared.phase.Phase.TheVariants.{Dates, Ended}
use Rattle.run_state.specs.Acts.{Goes, Ends, Says, other_listed, end_of, is_clear, ClearTurn}
use Rattle.run_state.specs.Rules.{IsOver, FitsCopy, Fits, IsRun, IsStart}
use Rattle.run_state.specs.Runs.{Point, Runs, starts, turns, beside}
use Rattle.run_state.specs.State.{Ordered, Drives, At, drive_at, is_gone, is_sealed, is_of_run, count_sealed}
use Rattle.run_ends.specs.Known.{HasDigests, IsKnownAt, IsKnownOnward}
use Rattle.run_ends.specs.Whole.{NoneRose, AreSound, IsComplete}
use Rattle.run_ends.proofs.Drives.{of_run_or, over_sealed, gone_unsealed, sealed_count}
use Rattle.run_ends.proofs.Ending.{EndOf, end_of_runs, copy_sized}
use Rattle.run_ends.proofs.Later.{Later, later_none, later_went, later_then, rose_around, steady_later}
use Rattle.run_ends.proofs.Turns.{Came, Passed, Told, Lost, Broke, Closed, Rested, Losing, Why}
use Rattle.run_ends.proofs.Way.{Way, way, came_at, came_later, beside_later}

-- an outcome of a run in which nothing failed
abbrev Fine : Outcome → Type 0
Fine Going = Unit {0}
Fine Finished = Unit {0}
Fine NoDrive = Unit {0}
Fine _ = ⊥

-- no drive is in the empty set
empty : (d : ℕ) → has no_drives d ≡ false
empty d = none_lowest no_drives refl d

-- where no count rose later, none did before
none_before : (first : World) {mid last : World} → Later mid last → NoneRose first last → NoneRose first mid
none_before first later none x rose = none x (rose_around x (later_none first) later rose)

module _ (o : Ordered) (a : Point) (card : Map) (sound : AreSound o a card) where
  -- no drive is lost, and nothing ended the run
  record Holds (m : Point) : Type 0 where
    each : (k : ℕ) → is_gone (drive_at m.at.drives.each k) ≡ is_gone (drive_at a.at.drives.each k)
    dropped : m.at.drives.dropped ≡ a.at.drives.dropped
    fine : Fine m.at.outcome

  holds_same : (m c : Point) → c.at.drives ≡ m.at.drives → Fine c.at.outcome → Holds m → Holds c
  holds_same m c same fine h = record {
    each = λ k. ap (λ (x : Drives). is_gone (drive_at x.each k)) same ∙ h.each k;
    dropped = ap (λ (x : Drives). x.dropped) same ∙ h.dropped;
    fine = fine;
  }

  module _ (m c : Point) (w : Way o a m) (known : IsKnownAt o m.at.phase m.at.drives.each m.world) (came : Came o a m c) (none : NoneRose a.world c.world) (all : List Event) (told : c.world.events ≡ Some all) (h : Holds m) where
    -- a count that rose in this turn rose since a
    never : (x : Device) {old new : World} → Later m.world old → Later new c.world → Rose (old.faults x) (new.faults x) → ⊥
    never x before behind rose = none x (rose_around x (later_then w.later before) behind rose)

    -- a line was said
    by_line : (said : Bool) (next : Phase) (text : List ℕ) (mid : World) → Later m.world mid → Says text said mid c.world → Goes said next c.at → Fine c.at.outcome
    by_line true next text mid before line goes = subst Fine (sym goes.1) tt
    by_line false next text mid before line goes = absurd (never Output before (later_none c.world) (line.cause refl))

    -- a drive that was lost was not honest, or its count rose
    lost : Losing o a m c → ⊥
    lost t =
        let there : is_gone (drive_at a.at.drives.each t.d) ≡ false = sym (h.each t.d) ∙ t.there in
        let honest = sound.honest t.d there in
        let before = (later_went t.line.went).told all told in
        never (Drive t.d) (later_none m.world) (later_went t.line.went)
        (t.fault (t.honest known honest.1 before.0 (ap (λ (x : Attached). x.honest t.d) w.later.attached ∙ honest.0) (ap (λ (x : Attached). x.start t.d) w.later.attached ∙ honest.2) before.2))

    -- the run did not break off
    broke : (outcome : Outcome) → Why o m c outcome → ⊥
    broke SourceFailed why = never (Source o.source) (later_none m.world) (later_none c.world) why
    broke (Changed i listed read) (copy, is, act, at) =
        let fits : FitsCopy o m.at.drives.each i copy = subst (Fits o m.at.drives.each) is w.run.fits in
        act.steady card (subst (λ (n : ℕ). Steady m.world n card) (sym fits.card) (steady_later o.source card w.later sound.steady))
        (sound.sizes i act.file act.is_file ∙ sym (copy_sized o m.at.drives.each i copy act.file fits act.is_file)) (subst IsChanged (sym at) tt)
    broke (Altered i l t) (is, differs) =
        let fits : Fits o m.at.drives.each (Dates i t) = subst (Fits o m.at.drives.each) is w.run.fits in
        let digests : HasDigests o i t m.world = subst (λ (p : Phase). IsKnownAt o p m.at.drives.each m.world) is known in
        let found = file_there o.plan.files i fits.0 in
        let same : t ≡ triple (content card found.0.path) = digests found.0 found.1 card (steady_later o.source card w.later sound.steady) in
        let agrees : other_listed o.listed i t ≡ None = ap (other_listed o.listed i) same ∙ sound.agree i found.0 found.1 in
        absurd (cc (sym agrees ∙ differs))
      where
        file_there : (files : List PlannedFile) (n : ℕ) → n < length files → (f : PlannedFile) × (slice_get files n ≡ Some f)
        file_there [] n within = absurd (omega (arith, within))
        file_there (f ∷ files) zero within = (f, refl)
        file_there (f ∷ files) (suc n) within = file_there files n (omega (arith, within))
    broke Going why = why
    broke Finished why = why
    broke NoDrive why = why
    broke OutFailed why = why

    by_count : (none_is : Bool) → Fine (if none_is then NoDrive else Finished)
    by_count true = tt
    by_count false = tt

    by_clear : (required sealed : ℕ) (is_due : Bool) → ClearTurn required sealed is_due c.at m.world c.world → Fine c.at.outcome
    by_clear required sealed true t = by_said t.said (clear_text sealed required) t.line t.ends
      where
        by_said : (said : Bool) (text : List ℕ) → Says text said m.world c.world → Ends (if said then end_of sealed else OutFailed) c.at → Fine c.at.outcome
        by_said true text line ends = subst Fine (sym ends.1) (by_count (nat_eq sealed 0))
        by_said false text line ends = absurd (never Output (later_none m.world) (later_none c.world) (line.cause refl))
    by_clear required sealed false t = subst Fine (sym t.0.1) (by_count (nat_eq sealed 0))

    holds_turn : Holds c
    holds_turn = by came
      where
        by : Came o a m c → Holds c
        by (Passed t) = holds_same m c t.drives (subst Fine (sym t.goes.1) tt) h
        by (Told t) = record {
          each = λ k. t.each k ∙ h.each k;
          dropped = t.dropped ∙ h.dropped;
          fine = by_line t.said t.next t.text t.mid t.silent.later t.line t.goes;
        }
        by (Lost t) = absurd (lost t)
        by (Broke t) = absurd (broke t.outcome t.why)
        by (Closed t) = holds_same m c t.drives (by_clear o.copies (count_sealed m.at.drives.each) (is_clear (count_sealed m.at.drives.each) o.copies) t.clear) h
        by (Rested t) = holds_same m c (ap (λ (x : At). x.drives) t.same) (subst (λ (x : At). Fine x.outcome) (sym t.same) h.fine) h

  module _ (rules : (b : Point) → IsRun o a.at → Runs o a b → IsRun o b.at) (start : IsStart o a.at) (known : IsKnownOnward o a) where
    holds : (b : Point) → Runs o a b → NoneRose a.world b.world → (all : List Event) → b.world.events ≡ Some all → Holds b
    holds b starts none all told = record {
      each = λ k. refl;
      dropped = refl;
      fine = subst Fine (sym (start.run.outcome.1 (λ ended. absurd (cc (sym start.phase ∙ ended))))) tt;
    }
    holds b (turns {b = x} so_far t) none all told =
        let w = way o a rules start x so_far in
        let came = came_at o a x b w t in
        let later = came_later o a x b came in
        let before = later.told all told in
        holds_turn x b w (known x so_far) came none all told (holds x so_far (none_before a.world later none) before.0 before.2)
    holds b (beside {b = x} so_far t) none all told =
        let later = beside_later o x b t in
        let before = later.told all told in
        let h = holds x so_far (none_before a.world later none) before.0 before.2 in
        holds_same x b (ap (λ (k : At). k.drives) t.same) (subst (λ (k : At). Fine k.outcome) (sym t.same) h.fine) h

    complete : (b : Point) → Runs o a b → NoneRose a.world b.world → (all : List Event) → b.world.events ≡ Some all → IsComplete a b
    complete b runs none all told = record {
      none = λ d. ap (λ (set : List Bool). has set d) h.dropped ∙ ap (λ (set : List Bool). has set d) start.sets.1 ∙ empty d;
      ends = λ ended. record {
        finished = finished ended;
        each = λ d of. sealed d of ended;
        count = sealed_count a.at.drives.each b.at.drives.each (λ d. one d (is_gone (drive_at b.at.drives.each d)) refl ended);
      };
    }
      where
        h : Holds b
        h = holds b runs none all told

        w : Way o a b
        w = way o a rules start b runs

        end : EndOf o a b b.at.drives b.at.outcome
        end = end_of_runs o a rules start b runs

        some_there : is_gone (drive_at b.at.drives.each sound.some.0) ≡ false
        some_there = h.each sound.some.0 ∙ sound.some.1

        by : (outcome : Outcome) → b.at.outcome ≡ outcome → b.at.phase ≡ Ended → Fine b.at.outcome → EndOf o a b b.at.drives b.at.outcome → b.at.outcome ≡ Finished
        by outcome is ended fine e = choose outcome is (subst Fine is fine) (subst (EndOf o a b b.at.drives) is e)
          where
            choose : (outcome : Outcome) → b.at.outcome ≡ outcome → Fine outcome → EndOf o a b b.at.drives outcome → b.at.outcome ≡ Finished
            choose Going is fine e = absurd (w.run.outcome.0 ended is)
            choose Finished is fine e = is
            choose NoDrive is fine e = absurd (false≢true (sym some_there ∙ e sound.some.0))
            choose SourceFailed is fine e = absurd fine
            choose (Changed i listed read) is fine e = absurd fine
            choose (Altered i l t) is fine e = absurd fine
            choose OutFailed is fine e = absurd fine

        finished : b.at.phase ≡ Ended → b.at.outcome ≡ Finished
        finished ended = by b.at.outcome refl ended h.fine end

        over : b.at.phase ≡ Ended → (d : ℕ) → IsOver (drive_at b.at.drives.each d)
        over ended d = let e : EndOf o a b b.at.drives Finished = subst (EndOf o a b b.at.drives) (finished ended) end in e.1 d

        -- a drive is sealed where it was of the run
        one : (d : ℕ) (gone : Bool) → is_gone (drive_at b.at.drives.each d) ≡ gone → b.at.phase ≡ Ended → is_sealed (drive_at b.at.drives.each d) ≡ not (is_gone (drive_at a.at.drives.each d))
        one d true is ended = gone_unsealed (drive_at b.at.drives.each d) is ∙ ap not (sym is ∙ h.each d)
        one d false is ended = over_sealed (drive_at b.at.drives.each d) (over ended d) is ∙ ap not (sym is ∙ h.each d)

        sealed : (d : ℕ) → is_of_run a.at.drives d ≡ true → b.at.phase ≡ Ended → has b.at.drives.sealed d ≡ true
        sealed d of ended = elim (of_run_or a.at.drives d of) [
          | inl there ↦
              w.run.drives.said d ∙ over_sealed (drive_at b.at.drives.each d) (over ended d) (h.each d ∙ there)
          | inr lost ↦ absurd (false≢true (sym (ap (λ (set : List Bool). has set d) start.sets.1 ∙ empty d) ∙ lost))
        ]

-- a run in which nothing fails is complete
pub completes : (o : Ordered) (a b : Point) (card : Map) → ((b : Point) → IsRun o a.at → Runs o a b → IsRun o b.at) → IsStart o a.at → IsKnownOnward o a → AreSound o a card → Runs o a b → NoneRose a.world b.world → (all : List Event) → b.world.events ≡ Some all → IsComplete a b
completes o a b card rules start known sound runs none all told = complete o a card sound rules start known b runs none all told
