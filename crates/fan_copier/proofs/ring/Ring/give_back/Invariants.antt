use Rattle.std.proofs.Common.{◌≡◌, ℕ, ◌+◌, ◌<◌, ◌≤◌, true}
use Rattle.std.specs.Prelude.{None}
use Rattle.block_pool.specs.Lent.{is_lent, free_in}
use Rattle.fan_copier.specs.Ring.{cell, taken, IsOut, Owns}
use Rattle.fan_copier.proofs.ring.Ring.give_back.Given as goal

abbrev pub invariant-loop-place : goal.invariant-loop-place
invariant-loop-place l = record {
  owns : Owns l.self.slots l.pool;
  sum : free_in l.pool.lent + taken l.self.slots ≡ free_in l.initial.pool.lent + taken l.initial.self.slots;
  cleared : (j : ℕ) → j < l.place → cell l.self.slots j ≡ None;
  kept : (j : ℕ) → l.place ≤ j → cell l.self.slots j ≡ cell l.initial.self.slots j;
  still_lent : (n : ℕ) → is_lent l.initial.pool n ≡ true → IsOut l.initial.self.slots n → is_lent l.pool n ≡ true;
  blocks : l.pool.blocks ≡ l.initial.pool.blocks;
}
