-- A run that ended by the length of a file names two that differ, over bays that tell no calls too.
use Rattle.std.proofs.Common.{◌≡◌, ◌≢◌, ℕ, Bool, true, false, sym, ◌∙◌, subst}
use Rattle.std.specs.Prelude.{nat_eq, if◌then◌else◌}
use Rattle.fan_copier.specs.declared.copy.FileCopy.{FileCopy}
use Rattle.fan_copier.specs.declared.turn.Turn.{Turn}
use Rattle.fan_copier.specs.declared.turn.Turn.TheVariants.{Changed as CardChanged}
use Rattle.fan_copier.specs.Copying.{size_of, standing}
use Rattle.fan_copier.specs.Turning.{doing, Turned as CopyTurned}
use Rattle.run_state.specs.declared.outcome.Outcome.{Outcome}
use Rattle.run_state.specs.declared.outcome.Outcome.TheVariants.{Going, Finished, NoDrive, SourceFailed, Changed, Altered, OutFailed}
use Rattle.run_state.specs.declared.phase.Phase.{Phase}
use Rattle.run_state.specs.declared.phase.Phase.TheVariants.{Copies}
use Rattle.run_state.specs.Acts.{Goes, CopyActed, end_of, is_clear, ClearTurn}
use Rattle.run_state.specs.Rules.{IsRun, IsStart}
use Rattle.run_state.specs.Runs.{Point, Runs, starts, turns, beside}
use Rattle.run_state.specs.State.{Ordered, At, count_sealed}
use Rattle.run_ends.specs.Known.{KnowsReads, KnowsReadsOnward}
use Rattle.run_ends.proofs.Ending.{other_size}
use Rattle.run_ends.proofs.Turns.{Came, Passed, Told, Lost, Broke, Closed, Rested, Why}
use Rattle.run_ends.proofs.Way.{way, came_at}

-- two lengths of a file that ended a run differ
abbrev pub Differs : Outcome → Type 0
Differs (Changed i listed read) = listed ≢ read
Differs _ = Unit {0}

module _ (o : Ordered) (a : Point) where
  copy_differs : (m c : Point) (i : ℕ) (copy : FileCopy) → KnowsReads o a i copy m.pool m.world → (act : CopyActed o i copy m.at.drives c.at m.pool c.pool m.world c.world) → (listed read : ℕ) → act.came ≡ CardChanged listed read → listed ≢ read
  copy_differs m c i copy knows act listed read at =
      let turn : CopyTurned act.file.path copy act.next act.between m.world act.mid knows.bytes (CardChanged listed read) =
      subst (λ (r : Turn). CopyTurned act.file.path copy act.next act.between m.world act.mid knows.bytes r) at (act.turned knows.bytes knows.copying) in
      let both = other_size (size_of copy) (standing copy) (standing act.next) (doing (standing copy) turn.pick) listed read turn.stands in
      λ same. both.1 (sym same ∙ both.0)

  -- ---- each turn

  module _ (m c : Point) (knows : (i : ℕ) (copy : FileCopy) → m.at.phase ≡ Copies i copy → KnowsReads o a i copy m.pool m.world) where
    by_goes : (said : Bool) (next : Phase) → Goes said next c.at → Differs c.at.outcome
    by_goes true next goes = subst Differs (sym goes.1) tt
    by_goes false next goes = subst Differs (sym goes.1) tt

    by_why : (outcome : Outcome) → Why o m c outcome → Differs outcome
    by_why (Changed i listed read) (copy, is, act, at) = copy_differs m c i copy (knows i copy is) act listed read at
    by_why Going why = tt
    by_why Finished why = tt
    by_why NoDrive why = tt
    by_why SourceFailed why = tt
    by_why (Altered i l t) why = tt
    by_why OutFailed why = tt

    by_count : (none : Bool) → Differs (if none then NoDrive else Finished)
    by_count true = tt
    by_count false = tt

    by_said : (sealed : ℕ) (said : Bool) → Differs (if said then end_of sealed else OutFailed)
    by_said sealed true = by_count (nat_eq sealed 0)
    by_said sealed false = tt

    by_clear : (required sealed : ℕ) (is_due : Bool) → ClearTurn required sealed is_due c.at m.world c.world → Differs c.at.outcome
    by_clear required sealed true t = subst Differs (sym t.ends.1) (by_said sealed t.said)
    by_clear required sealed false t = subst Differs (sym t.0.1) (by_count (nat_eq sealed 0))

    differs_turn : Came o a m c → Differs m.at.outcome → Differs c.at.outcome
    differs_turn (Passed t) old = by_goes true t.next t.goes
    differs_turn (Told t) old = by_goes t.said t.next t.goes
    differs_turn (Lost t) old = by_goes t.said t.next t.goes
    differs_turn (Broke t) old = subst Differs (sym t.ends.1) (by_why t.outcome t.why)
    differs_turn (Closed t) old = by_clear o.copies (count_sealed m.at.drives.each) (is_clear (count_sealed m.at.drives.each) o.copies) t.clear
    differs_turn (Rested t) old = subst (λ (at : At). Differs at.outcome) (sym t.same) old

  -- ---- a run

  module _ (rules : (b : Point) → IsRun o a.at → Runs o a b → IsRun o b.at) (start : IsStart o a.at) (knows : KnowsReadsOnward o a) where
    pub differs_runs : (b : Point) → Runs o a b → Differs b.at.outcome
    differs_runs b starts = subst Differs (sym (start.run.outcome.1 (λ ended. absurd (cc (sym start.phase ∙ ended))))) tt
    differs_runs b (turns {b = x} so_far t) = differs_turn x b (knows x so_far) (came_at o a x b (way o a rules start x so_far) t) (differs_runs x so_far)
    differs_runs b (beside {b = x} so_far t) = subst (λ (at : At). Differs at.outcome) (sym t.same) (differs_runs x so_far)
