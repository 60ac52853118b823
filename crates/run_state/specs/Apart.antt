-- When two runs keep out of each other's way.
use Rattle.std.specs.Prelude.{◌≡◌, ℕ, true, List, Some}
use Rattle.fan_copier.specs.Ring.{cell}
use Rattle.run_state.specs.Rules.{slots_in}
use Rattle.run_state.specs.Runs.{IsPlanned}
use Rattle.run_state.specs.State.{Ordered, At, drive_at, is_gone, is_of_run}

-- The second run keeps out of the way of the first: each drive that is or was of the first is gone from the second; of one card they copy no file
-- both; and no slot of the pool is one of both.
pub record IsApart (o : Ordered) (at : At) (p : Ordered) (other : At) : Type 0 where
  pub drives : (k : ℕ) → is_of_run at.drives k ≡ true → is_gone (drive_at other.drives.each k) ≡ true
  pub files : (path : List ℕ) → o.source ≡ p.source → IsPlanned o.plan path → IsPlanned p.plan path → ⊥
  pub slots : (i j n : ℕ) → cell (slots_in at.phase) i ≡ Some n → cell (slots_in other.phase) j ≡ Some n → ⊥
