-- What is so at each point of a run.
use Rattle.std.proofs.Common.{◌≡◌, ◌≢◌, ◌⊎◌, inl, inr, ℕ, ◌<◌, Bool, true, false, List, length, refl, sym, ap, ◌∙◌, subst, arith}
use Rattle.std.specs.Prelude.{not, ◌||◌}
use Rattle.fan_core.specs.Flags.{has}
use Rattle.run_state.specs.declared.phase.Phase.{Phase}
use Rattle.run_state.specs.declared.phase.Phase.TheVariants.{Begins, File, Copies, Dates, Records, Seals, Clears, Ended}
use Rattle.run_state.specs.Acts.{is_clear, ClearTurn}
use Rattle.run_state.specs.Rules.{IsRun, IsStart}
use Rattle.run_state.specs.Runs.{Point, Runs, starts, turns, beside, Beside}
use Rattle.run_state.specs.State.{Ordered, Drives, At, drive_at, is_gone, is_of_run, count_sealed}
use Rattle.run_state.specs.Turn.{Turned}
use Rattle.run_ends.proofs.Drives.{drive_within, dropped_of_run, dropped_gone}
use Rattle.run_ends.proofs.Later.{Later, later_none, later_same, later_went, later_then}
use Rattle.run_ends.proofs.Turns.{Came, Passed, Told, Lost, Broke, Closed, Rested, Losing, turn_came}
use Rattle.run_ends.proofs.Whole.{WholeAt, turn_whole, beside_whole}

pub ended_or : (phase : Phase) → (phase ≡ Ended) ⊎ (phase ≢ Ended)
ended_or (Begins d) = inr (λ e. absurd (cc e))
ended_or (File i) = inr (λ e. absurd (cc e))
ended_or (Copies i copy) = inr (λ e. absurd (cc e))
ended_or (Dates i t) = inr (λ e. absurd (cc e))
ended_or (Records rec d) = inr (λ e. absurd (cc e))
ended_or (Seals d) = inr (λ e. absurd (cc e))
ended_or Clears = inr (λ e. absurd (cc e))
ended_or Ended = inl refl

-- what others do makes no count fall
pub beside_later : (o : Ordered) (m c : Point) → Beside o m c → Later m.world c.world
beside_later o m c t = later_went t.went

module _ (o : Ordered) (a m c : Point) where
  clear_later : (required sealed : ℕ) (is_due : Bool) → ClearTurn required sealed is_due c.at m.world c.world → Later m.world c.world
  clear_later required sealed true t = later_went t.line.went
  clear_later required sealed false t = later_same t.1

  pub came_later : Came o a m c → Later m.world c.world
  came_later (Passed t) = t.silent.later
  came_later (Told t) = later_then t.silent.later (later_went t.line.went)
  came_later (Lost t) = later_then t.silent.later (later_went t.line.went)
  came_later (Broke t) = t.silent.later
  came_later (Closed t) = clear_later o.copies (count_sealed m.at.drives.each) (is_clear (count_sealed m.at.drives.each) o.copies) t.clear
  came_later (Rested t) = later_same t.idle

  module _ (run : IsRun o m.at) where
    wide : (t : Losing o a m c) → t.d < length m.at.drives.dropped
    wide t = let within = drive_within m.at.drives.each t.d t.there in let few = run.drives.few in let eight = run.drives.sets.1 in omega (arith, within, few, eight)

    -- the run has the drives that it had
    came_of_run : Came o a m c → (k : ℕ) → is_of_run c.at.drives k ≡ is_of_run m.at.drives k
    came_of_run (Passed t) k = ap (λ (x : Drives). is_of_run x k) t.drives
    came_of_run (Told t) k = ap (λ (g : Bool). not g || has c.at.drives.dropped k) (t.each k) ∙ ap (λ (set : List Bool). not (is_gone (drive_at m.at.drives.each k)) || has set k) t.dropped
    came_of_run (Lost t) k = dropped_of_run t.d m.at.drives c.at.drives t.there (wide t) t.drops k
    came_of_run (Broke t) k = ap (λ (x : Drives). is_of_run x k) t.drives
    came_of_run (Closed t) k = ap (λ (x : Drives). is_of_run x k) t.drives
    came_of_run (Rested t) k = ap (λ (x : At). is_of_run x.drives k) t.same

    -- each that was gone is gone
    came_gone : Came o a m c → (k : ℕ) → is_gone (drive_at m.at.drives.each k) ≡ true → is_gone (drive_at c.at.drives.each k) ≡ true
    came_gone (Passed t) k gone = ap (λ (x : Drives). is_gone (drive_at x.each k)) t.drives ∙ gone
    came_gone (Told t) k gone = t.each k ∙ gone
    came_gone (Lost t) k gone = dropped_gone t.d m.at.drives c.at.drives t.there (wide t) t.drops k gone
    came_gone (Broke t) k gone = ap (λ (x : Drives). is_gone (drive_at x.each k)) t.drives ∙ gone
    came_gone (Closed t) k gone = ap (λ (x : Drives). is_gone (drive_at x.each k)) t.drives ∙ gone
    came_gone (Rested t) k gone = ap (λ (x : At). is_gone (drive_at x.drives.each k)) t.same ∙ gone

-- what is so at a point of a run from a
pub record Way (o : Ordered) (a b : Point) : Type 0 where
  pub runs : Runs o a b
  pub run : IsRun o b.at
  pub later : Later a.world b.world
  pub whole : WholeAt o a b b.at.phase
  pub of_run : (k : ℕ) → is_of_run b.at.drives k ≡ is_of_run a.at.drives k
  pub gone : (k : ℕ) → is_gone (drive_at a.at.drives.each k) ≡ true → is_gone (drive_at b.at.drives.each k) ≡ true

-- what a turn from there came to
pub came_at : (o : Ordered) (a m c : Point) → Way o a m → Turned o m.at c.at m.pool c.pool m.world c.world → Came o a m c
came_at o a m c w t = turn_came o a m c w.later w.run w.whole t

module _ (o : Ordered) (a : Point) (rules : (b : Point) → IsRun o a.at → Runs o a b → IsRun o b.at) (start : IsStart o a.at) where
  pub way : (b : Point) → Runs o a b → Way o a b
  way b starts = record {
    runs = starts;
    run = start.run;
    later = later_none a.world;
    whole = subst (WholeAt o a a) (sym start.phase) tt;
    of_run = λ k. refl;
    gone = λ k gone. gone;
  }
  way b (turns {b = x} so_far t) =
      let w = way x so_far in
      let came = came_at o a x b w t in
      record {
        runs = turns so_far t;
        run = rules b start.run (turns so_far t);
        later = later_then w.later (came_later o a x b came);
        whole = turn_whole o a x b so_far w.whole t;
        of_run = λ k. came_of_run o a x b w.run came k ∙ w.of_run k;
        gone = λ k gone. came_gone o a x b w.run came k (w.gone k gone);
      }
  way b (beside {b = x} so_far t) =
      let w = way x so_far in
      record {
        runs = beside so_far t;
        run = subst (IsRun o) (sym t.same) w.run;
        later = later_then w.later (beside_later o x b t);
        whole = beside_whole o a x b (λ y r. beside r t) t.same w.whole;
        of_run = λ k. ap (λ (at : At). is_of_run at.drives k) t.same ∙ w.of_run k;
        gone = λ k gone. ap (λ (at : At). is_gone (drive_at at.drives.each k)) t.same ∙ w.gone k gone;
      }
