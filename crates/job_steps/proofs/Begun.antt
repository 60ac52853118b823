-- A drive of a run before the first change of it: no call on it came before it was attached, and none since has touched it.
use Rattle.std.proofs.Common.{◌≡◌, ℕ, List, [], ◌++◌, refl, sym, ap, ◌∙◌, subst, append-nil}
use Rattle.bay_core.specs.declared.event.Event.{Event}
use Rattle.bay_core.specs.Left.{Left, IsSettled}
use Rattle.bay_core.specs.Looks.{IsUntouched}
use Rattle.bay_core.specs.Map.{Map}
use Rattle.bay_core.specs.Replay.{calls_on, reads}
use Rattle.bay_core.proofs.Looking.{untouched_on}
use Rattle.bay_core.proofs.Replays.{calls_on-append, no_calls}
use Rattle.bay_core.proofs.Rest.{left_same, settled_none, untouched_reads, untouched_settled}

-- calls behind which none is on the drive
pub calls_same : (d : ℕ) (L E : List Event) → calls_on d E ≡ [] → calls_on d (L ++ E) ≡ calls_on d L
calls_same d L E none = calls_on-append d L E ∙ ap (λ (l : List Event). calls_on d L ++ l) none ∙ append-nil (calls_on d L)

-- they leave what was left before
pub left_before : (start : Map) (d : ℕ) (L E : List Event) (I : Map) → calls_on d E ≡ [] → Left start (L ++ E) d I → Left start L d I
left_before start d L E I none left = left_same start (L ++ E) L d I (calls_same d L E none) left

module _ (start : Map) (d : ℕ) (past : List Event) (none : calls_on d past ≡ []) where
  -- what is left after the calls of a run is left after those before it too
  pub left_behind_past : (L : List Event) (I : Map) → Left start L d I → Left start (past ++ L) d I
  left_behind_past L I left = left_same start L (past ++ L) d I (sym (calls_on-append d past L ∙ ap (λ (l : List Event). l ++ calls_on d L) none)) left

  pub reads_start : (L : List Event) → IsUntouched L → reads start (past ++ L) d ≡ start
  reads_start L untouched = untouched_reads start past L d (untouched_on d L untouched) ∙ no_calls start past d none

  pub settled_start : (L : List Event) → IsUntouched L → IsSettled start (past ++ L) d
  settled_start L untouched = untouched_settled start past L d (untouched_on d L untouched) (settled_none start past d none)
