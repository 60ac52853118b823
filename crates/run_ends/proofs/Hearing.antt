-- The lines of a run are said as long as it goes on, and the card is called clear where it was to.
use Rattle.std.proofs.Common.{◌≡◌, ◌≢◌, inl, inr, ℕ, Bool, true, false, List, [], ◌∷◌, ◌++◌, refl, sym, ap, ◌∙◌, subst, arith, append_assoc}
use Rattle.std.specs.Prelude.{Some, if◌then◌else◌}
use Rattle.std.specs.List.{Contains}
use Rattle.std.proofs.lemmas.Bool.{false≢true}
use Rattle.std.proofs.lemmas.List.{append_cancel_left}
use Rattle.std.proofs.lemmas.List.Elements.{Contains-append_left, Contains-append_right}
use Rattle.bay_core.specs.declared.event.Event.{Event}
use Rattle.bay_core.specs.declared.event.Event.TheVariants.{Say}
use Rattle.bay_core.specs.World.{World}
use Rattle.report_text.specs.Run.{clear_text}
use Rattle.run_state.specs.declared.outcome.Outcome.{Outcome}
use Rattle.run_state.specs.declared.outcome.Outcome.TheVariants.{Going, Finished, NoDrive, SourceFailed, Changed, Altered, OutFailed}
use Rattle.run_state.specs.declared.phase.Phase.{Phase}
use Rattle.run_state.specs.declared.phase.Phase.TheVariants.{Ended}
use Rattle.run_state.specs.Acts.{Says, Goes, Ends, end_of, is_clear, ClearTurn}
use Rattle.run_state.specs.Rules.{IsRun, IsStart}
use Rattle.run_state.specs.Runs.{Point, Runs, starts, turns, beside, is_about}
use Rattle.run_state.specs.State.{Ordered, Drives, At, is_of_run, count_sealed}
use Rattle.run_state.specs.Turn.{Acted, Turned}
use Rattle.run_ends.specs.Ends.{IsCalledClear, SaysRightly}
use Rattle.run_ends.specs.Losses.{loss_text}
use Rattle.run_ends.proofs.Later.{Later, later_then, joined_went}
use Rattle.run_ends.proofs.Lines.{said_call}
use Rattle.run_ends.proofs.Saying.{EachSince, since_none, since_silent, since_said, since_same, since_beside}
use Rattle.run_ends.proofs.Turns.{Came, Passed, Told, Lost, Broke, Closed, Rested, Closing, Why}
use Rattle.run_ends.proofs.Way.{Way, way, ended_or, came_at, came_later, beside_later}

-- a line that was said, or is about no drive of the run
abbrev Heard : Drives → List Event → List ℕ → Bool → Type 0
Heard drives before line ok = ok ≡ false → (d : ℕ) → is_of_run drives d ≡ true → is_about d line ≡ false

-- a line that was said is heard
said_heard : (drives : Drives) (before : List Event) (line : List ℕ) (ok : Bool) → ok ≡ true → Heard drives before line ok
said_heard drives before line ok was fails = absurd (false≢true (sym fails ∙ was))

module _ (o : Ordered) (a : Point) where
  -- ---- each line

  -- a run in which no line failed so far did not end by one before
  unfailed_before : (m c : Point) → IsRun o m.at → Turned o m.at c.at m.pool c.pool m.world c.world → c.at.outcome ≢ OutFailed → m.at.outcome ≢ OutFailed
  unfailed_before m c run t unfailed = elim (ended_or m.at.phase) [
    | inl ended ↦
        let act : Acted o Ended m.at c.at m.pool c.pool m.world c.world = subst (λ (p : Phase). Acted o p m.at c.at m.pool c.pool m.world c.world) ended t in
        λ out. unfailed (ap (λ (x : At). x.outcome) act.0 ∙ out)
    | inr more ↦ λ out. absurd (cc (sym (run.outcome.1 more) ∙ out))
  ]

  module _ (m c : Point) (w : Way o a m) (unfailed : c.at.outcome ≢ OutFailed) (each : EachSince (Heard a.at.drives) a.world m.world) where
    -- a line after which the run goes on was said
    was_said : (said : Bool) (next : Phase) → Goes said next c.at → said ≡ true
    was_said true next goes = refl
    was_said false next goes = absurd (unfailed goes.1)

    clear_heard : (required sealed : ℕ) (is_due : Bool) → ClearTurn required sealed is_due c.at m.world c.world → EachSince (Heard a.at.drives) a.world c.world
    clear_heard required sealed true t = since_said (Heard a.at.drives) (clear_text sealed required) t.said w.later t.line (λ past L was now. said_heard a.at.drives L (clear_text sealed required) t.said (by t.said t.ends)) each
      where
        by : (said : Bool) → Ends (if said then end_of sealed else OutFailed) c.at → said ≡ true
        by true ends = refl
        by false ends = absurd (unfailed ends.1)
    clear_heard required sealed false t = since_same (Heard a.at.drives) a.world t.1 each

    heard_turn : Came o a m c → EachSince (Heard a.at.drives) a.world c.world
    heard_turn (Passed t) = since_silent (Heard a.at.drives) w.later t.silent each
    heard_turn (Told t) = since_said (Heard a.at.drives) t.text t.said (later_then w.later t.silent.later) t.line (λ past L was now. said_heard a.at.drives L t.text t.said (was_said t.said t.next t.goes)) (since_silent (Heard a.at.drives) w.later t.silent each)
    heard_turn (Lost t) = since_said (Heard a.at.drives) (loss_text t.d t.loss) t.said (later_then w.later t.silent.later) t.line (λ past L was now. said_heard a.at.drives L (loss_text t.d t.loss) t.said (was_said t.said t.next t.goes)) (since_silent (Heard a.at.drives) w.later t.silent each)
    heard_turn (Broke t) = since_silent (Heard a.at.drives) w.later t.silent each
    heard_turn (Closed t) = clear_heard o.copies (count_sealed m.at.drives.each) (is_clear (count_sealed m.at.drives.each) o.copies) t.clear
    heard_turn (Rested t) = since_same (Heard a.at.drives) a.world t.idle each

  -- ---- the line of the card

  -- the card was called clear, if it was to be, where the run finished
  abbrev Clear : Drives → Outcome → World → Type 0
  Clear drives outcome w = outcome ≡ Finished → (past L : List Event) → a.world.events ≡ Some past → w.events ≡ Some (past ++ L) → IsCalledClear o drives L

  not_finished : (m : Point) (outcome : Outcome) → m.at.outcome ≡ outcome → outcome ≢ Finished → Clear m.at.drives m.at.outcome m.world
  not_finished m outcome is differs finished = absurd (differs (sym is ∙ finished))

  module _ (m c : Point) (w : Way o a m) where
    by_goes : (said : Bool) (next : Phase) → Goes said next c.at → Clear c.at.drives c.at.outcome c.world
    by_goes true next goes = not_finished c Going goes.1 (λ e. absurd (cc e))
    by_goes false next goes = not_finished c OutFailed goes.1 (λ e. absurd (cc e))

    by_why : (outcome : Outcome) → Why o m c outcome → outcome ≢ Finished
    by_why SourceFailed why e = absurd (cc e)
    by_why (Changed i listed read) why e = absurd (cc e)
    by_why (Altered i l t) why e = absurd (cc e)
    by_why Going why e = absurd why
    by_why Finished why e = absurd why
    by_why NoDrive why e = absurd why
    by_why OutFailed why e = absurd why

    -- what is there is there behind more calls
    later_clear : (drives : Drives) → Later m.world c.world → ((past L : List Event) → a.world.events ≡ Some past → m.world.events ≡ Some (past ++ L) → IsCalledClear o drives L) → (past L : List Event) → a.world.events ≡ Some past → c.world.events ≡ Some (past ++ L) → IsCalledClear o drives L
    later_clear drives later old past L was now due =
        let j = later.told (past ++ L) now in
        let k = w.later.told j.0 j.2 in
        let start : k.0 ≡ past = same_list k.0 past (sym k.2 ∙ was) in
        let front : j.0 ≡ past ++ k.1 = k.3 ∙ ap (λ (l : List Event). l ++ k.1) start in
        let whole : L ≡ k.1 ++ j.1 = append_cancel_left past L (k.1 ++ j.1) (j.3 ∙ ap (λ (l : List Event). l ++ j.1) front ∙ append_assoc past k.1 j.1) in
        subst (λ (l : List Event). Contains l (Say (clear_text (count_sealed drives.each) o.copies) true)) (sym whole) (Contains-append_left k.1 j.1 (Say (clear_text (count_sealed drives.each) o.copies) true) (old past k.1 was (j.2 ∙ ap Some front) due))
      where
        same_list : (A B : List Event) → Some A ≡ Some B → A ≡ B
        same_list A B e = cc e

    closed_clear : (b : Closing o m c) → Clear c.at.drives c.at.outcome c.world
    closed_clear b finished past L was now due = by (is_clear (count_sealed m.at.drives.each) o.copies) refl b.clear
      where
        here : is_clear (count_sealed m.at.drives.each) o.copies ≡ true
        here = ap (λ (x : Drives). is_clear (count_sealed x.each) o.copies) (sym b.drives) ∙ due

        one : (e : Event) → Contains (e ∷ []) e
        one e = (0, omega arith, refl)

        by_said : (said : Bool) → Says (clear_text (count_sealed m.at.drives.each) o.copies) said m.world c.world → Ends (if said then end_of (count_sealed m.at.drives.each) else OutFailed) c.at → Contains L (Say (clear_text (count_sealed m.at.drives.each) o.copies) true)
        by_said true line ends =
            let j = joined_went w.later line.went past L was now in
            subst (λ (l : List Event). Contains l (Say (clear_text (count_sealed m.at.drives.each) o.copies) true)) (sym j.is) (Contains-append_right j.front j.since (Say (clear_text (count_sealed m.at.drives.each) o.copies) true)
            (subst (λ (l : List Event). Contains l (Say (clear_text (count_sealed m.at.drives.each) o.copies) true)) (sym (said_call (clear_text (count_sealed m.at.drives.each) o.copies) j.since j.such.1)) (one (Say (clear_text (count_sealed m.at.drives.each) o.copies) true))))
        by_said false line ends = absurd (cc (sym ends.1 ∙ finished))

        by : (is_due : Bool) → is_clear (count_sealed m.at.drives.each) o.copies ≡ is_due → ClearTurn o.copies (count_sealed m.at.drives.each) is_due c.at m.world c.world → Contains L (Say (clear_text (count_sealed c.at.drives.each) o.copies) true)
        by true is t = subst (λ (x : Drives). Contains L (Say (clear_text (count_sealed x.each) o.copies) true)) (sym b.drives) (by_said t.said t.line t.ends)
        by false is t = absurd (false≢true (sym is ∙ here))

    -- the run stands as before
    same_clear : c.at ≡ m.at → Later m.world c.world → Clear m.at.drives m.at.outcome m.world → Clear c.at.drives c.at.outcome c.world
    same_clear same later old = subst (λ (at : At). Clear at.drives at.outcome c.world) (sym same) (λ finished. later_clear m.at.drives later (old finished))

    clear_turn : Came o a m c → Later m.world c.world → Clear m.at.drives m.at.outcome m.world → Clear c.at.drives c.at.outcome c.world
    clear_turn (Passed t) later old = by_goes true t.next t.goes
    clear_turn (Told t) later old = by_goes t.said t.next t.goes
    clear_turn (Lost t) later old = by_goes t.said t.next t.goes
    clear_turn (Broke t) later old = not_finished c t.outcome t.ends.1 (by_why t.outcome t.why)
    clear_turn (Closed t) later old = closed_clear t
    clear_turn (Rested t) later old = same_clear t.same later old

  -- ---- any number of turns

  module _ (rules : (b : Point) → IsRun o a.at → Runs o a b → IsRun o b.at) (start : IsStart o a.at) where
    pub heard_runs : (b : Point) → Runs o a b → b.at.outcome ≢ OutFailed → EachSince (Heard a.at.drives) a.world b.world
    heard_runs b starts unfailed = since_none (Heard a.at.drives) a.world
    heard_runs b (turns {b = x} so_far t) unfailed =
        let w = way o a rules start x so_far in
        heard_turn x b w unfailed (heard_runs x so_far (unfailed_before x b w.run t unfailed)) (came_at o a x b w t)
    heard_runs b (beside {b = x} so_far t) unfailed =
        let w = way o a rules start x so_far in
        since_beside (Heard a.at.drives) o a.world x b w.later t (λ before line ok none fails d of. none d (w.of_run d ∙ of)) (heard_runs x so_far (λ out. unfailed (ap (λ (at : At). at.outcome) t.same ∙ out)))

    pub clear_runs : (b : Point) → Runs o a b → Clear b.at.drives b.at.outcome b.world
    clear_runs b starts = not_finished a Going (start.run.outcome.1 (λ ended. absurd (cc (sym start.phase ∙ ended)))) (λ e. absurd (cc e))
    clear_runs b (turns {b = x} so_far t) =
        let w = way o a rules start x so_far in
        let came = came_at o a x b w t in
        clear_turn x b w came (came_later o a x b came) (clear_runs x so_far)
    clear_runs b (beside {b = x} so_far t) = same_clear x b (way o a rules start x so_far) t.same (beside_later o x b t) (clear_runs x so_far)

pub words : (o : Ordered) (a b : Point) → ((b : Point) → IsRun o a.at → Runs o a b → IsRun o b.at) → IsStart o a.at → Runs o a b → (past L : List Event) → a.world.events ≡ Some past → b.world.events ≡ Some (past ++ L) → SaysRightly o a b L
words o a b rules start runs past L was now = record {
  heard = λ unfailed before after d line is of. heard_runs o a rules start b runs unfailed past L was now before after line false is refl d of;
  clear = λ finished. clear_runs o a rules start b runs finished past L was now;
}
