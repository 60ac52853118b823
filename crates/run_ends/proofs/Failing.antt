-- An honest drive is lost by a fault alone.
use Rattle.std.proofs.Common.{◌≡◌, ℕ, ◌^◌, ◌<◌, Bool, true, false, List, ◌++◌, sym, ap, ◌∙◌, subst}
use Rattle.std.specs.Prelude.{Some, codes}
use Rattle.std.proofs.lemmas.Bool.{false≢true}
use Rattle.bay_core.specs.declared.event.Event.{Event}
use Rattle.bay_core.specs.World.{Attached}
use Rattle.report_text.specs.Run.{clear_text}
use Rattle.report_text.specs.Losses.{dropped_fault_text}
use Rattle.run_state.specs.Acts.{is_clear, ClearTurn}
use Rattle.run_state.specs.Rules.{IsRun, IsStart}
use Rattle.run_state.specs.Runs.{Point, Runs, starts, turns, beside, begins_with}
use Rattle.run_state.specs.State.{Ordered, is_of_run, count_sealed}
use Rattle.run_ends.specs.Known.{IsHonest, IsKnownAt, IsKnownOnward}
use Rattle.run_ends.specs.Losses.{loss_text, LosesByFaults}
use Rattle.run_ends.proofs.Drives.{of_run, low}
use Rattle.run_ends.proofs.Later.{later_then}
use Rattle.run_ends.proofs.Lines.{loss_of, not_about}
use Rattle.run_ends.proofs.Saying.{EachSince, since_none, since_silent, since_said, since_same, since_beside}
use Rattle.run_ends.proofs.Turns.{Came, Passed, Told, Lost, Broke, Closed, Rested, Losing}
use Rattle.run_ends.proofs.Way.{Way, way, came_at}

module _ (o : Ordered) (a : Point) where
  -- a line `dropped` of any honest drive of the run is that of a fault
  abbrev ByFaults : List Event → List ℕ → Bool → Type 0
  ByFaults before line ok = (d : ℕ) → is_of_run a.at.drives d ≡ true → IsHonest a.world d → begins_with (codes "dropped") d line ≡ true → line ≡ dropped_fault_text d

  module _ (start : IsRun o a.at) (m c : Point) (w : Way o a m) (known : IsKnownAt o m.at.phase m.at.drives.each m.world) (each : EachSince ByFaults a.world m.world) where
    lost : (t : Losing o a m c) → EachSince ByFaults a.world c.world
    lost t = since_said ByFaults (loss_text t.d t.loss) t.said (later_then w.later t.silent.later) t.line right (since_silent ByFaults w.later t.silent each)
      where
        low_d : t.d < 2 ^ 64
        low_d = low o m.at w.run t.d (of_run m.at.drives t.d t.there)

        here : (past L : List Event) → t.mid.events ≡ Some (past ++ L) → IsHonest a.world t.d → loss_text t.d t.loss ≡ dropped_fault_text t.d
        here past L now honest =
            ap (loss_text t.d) (t.honest known honest.1 (past ++ L) (ap (λ (x : Attached). x.honest t.d) w.later.attached ∙ honest.0) (ap (λ (x : Attached). x.start t.d) w.later.attached ∙ honest.2) now)

        right : (past L : List Event) → a.world.events ≡ Some past → t.mid.events ≡ Some (past ++ L) → ByFaults L (loss_text t.d t.loss) t.said
        right past L was now = λ d of honest begins.
            let same : t.d ≡ d = loss_of t.d d t.loss low_d (low o a.at start d of) begins in
            subst (λ (k : ℕ). loss_text t.d t.loss ≡ dropped_fault_text k) same (here past L now (subst (IsHonest a.world) (sym same) honest))

    clear : (required sealed : ℕ) (is_due : Bool) → ClearTurn required sealed is_due c.at m.world c.world → EachSince ByFaults a.world c.world
    clear required sealed true t = since_said ByFaults (clear_text sealed required) t.said w.later t.line (λ past L was now d of honest begins. absurd (false≢true begins)) each
    clear required sealed false t = since_same ByFaults a.world t.1 each

    came : Came o a m c → EachSince ByFaults a.world c.world
    came (Passed t) = since_silent ByFaults w.later t.silent each
    came (Told t) = since_said ByFaults t.text t.said (later_then w.later t.silent.later) t.line (λ past L was now d of honest begins. absurd (false≢true (sym (t.other d) ∙ begins))) (since_silent ByFaults w.later t.silent each)
    came (Lost t) = lost t
    came (Broke t) = since_silent ByFaults w.later t.silent each
    came (Closed t) = clear o.copies (count_sealed m.at.drives.each) (is_clear (count_sealed m.at.drives.each) o.copies) t.clear
    came (Rested t) = since_same ByFaults a.world t.idle each

  module _ (rules : (b : Point) → IsRun o a.at → Runs o a b → IsRun o b.at) (start : IsStart o a.at) (known : IsKnownOnward o a) where
    faults : (b : Point) → Runs o a b → EachSince ByFaults a.world b.world
    faults b starts = since_none ByFaults a.world
    faults b (turns {b = x} so_far t) =
        let w = way o a rules start x so_far in
        came start.run x b w (known x so_far) (faults x so_far) (came_at o a x b w t)
    faults b (beside {b = x} so_far t) =
        let w = way o a rules start x so_far in
        since_beside ByFaults o a.world x b w.later t (λ before line ok none d of honest begins. absurd (false≢true (sym (not_about d line (none d (w.of_run d ∙ of))) ∙ begins))) (faults x so_far)

-- each honest drive that was lost since the run was made was lost by a fault
pub alone : (o : Ordered) (a b : Point) → ((b : Point) → IsRun o a.at → Runs o a b → IsRun o b.at) → IsStart o a.at → IsKnownOnward o a → Runs o a b → (past L : List Event) → a.world.events ≡ Some past → b.world.events ≡ Some (past ++ L) → LosesByFaults a L
alone o a b rules start known runs past L was now = record {
  each = λ d of honest before after line ok is begins. faults o a rules start known b runs past L was now before after line ok is d of honest begins;
}
