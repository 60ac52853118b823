-- What one turn of a run did, by what was to be done.
use Rattle.std.specs.Prelude.{◌≡◌}
use Rattle.bay_core.specs.World.{World}
use Rattle.block_pool.specs.Lent.{PoolState}
use Rattle.run_state.specs.declared.phase.Phase.{Phase}
use Rattle.run_state.specs.declared.phase.Phase.TheVariants.{Begins, File, Copies, Dates, Records, Seals, Clears, Ended}
use Rattle.run_state.specs.Acts.{BeginTurn, FileTurn, CopyActed, other_listed, DateTurn, RecordTurn, SealTurn, is_clear, ClearTurn}
use Rattle.run_state.specs.State.{Ordered, At, drive_at, due, count_sealed}

-- what was done where this was to be done
abbrev pub Acted : Ordered → Phase → At → At → PoolState → PoolState → World → World → Type 0
Acted o (Begins d) old new pool pool_after before after = BeginTurn o d (drive_at old.drives.each d) old.drives new before after
Acted o (File i) old new pool pool_after before after = FileTurn o i old.drives new before after
Acted o (Copies i copy) old new pool pool_after before after = CopyActed o i copy old.drives new pool pool_after before after
Acted o (Dates i t) old new pool pool_after before after = DateTurn o i t (other_listed o.listed i t) old.drives new before after
Acted o (Records rec d) old new pool pool_after before after = RecordTurn o rec d (due rec.index (drive_at old.drives.each d)) old.drives new before after
Acted o (Seals d) old new pool pool_after before after = SealTurn o d (drive_at old.drives.each d) old.drives new before after
Acted o Clears old new pool pool_after before after = (new.drives ≡ old.drives) × ClearTurn o.copies (count_sealed old.drives.each) (is_clear (count_sealed old.drives.each) o.copies) new before after
Acted o Ended old new pool pool_after before after = (new ≡ old) × (pool_after ≡ pool) × (after ≡ before)

-- one turn
abbrev pub Turned : Ordered → At → At → PoolState → PoolState → World → World → Type 0
Turned o old new pool pool_after before after = Acted o old.phase old new pool pool_after before after
