-- A run of which no drive keeps a part.
use Rattle.std.specs.Prelude.{ℕ, true}
use Rattle.run_state.specs.Runs.{Point}
use Rattle.run_state.specs.State.{DriveAt, Begun, drive_at}

-- a drive that stands so keeps no part
abbrev pub KeepsNoPart : DriveAt → Type 0
KeepsNoPart (Begun recs gate true) = ⊥
KeepsNoPart _ = Unit {0}

-- so it is of each drive
abbrev pub KeepNoParts : Point → Type 0
KeepNoParts a = (d : ℕ) → KeepsNoPart (drive_at a.at.drives.each d)
