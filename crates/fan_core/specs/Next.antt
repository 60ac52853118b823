-- The rule of the window, over plain counts.
use Rattle.std.specs.Prelude.{◌≡◌, ℕ, ◌+◌, ◌-◌, ◌≤◌, ◌<◌, ◌^◌, min, cond, Bool, true, false, ◌&&◌, nat_lt, List, [], ◌∷◌, length, replicate, slice_index, slice_set, Option, Some, None, unwrap_or}
use Rattle.fan_core.specs.Flags.{has, lowest}
use Rattle.fan_core.specs.declared.act.Act.{Act}
use Rattle.fan_core.specs.declared.act.Act.TheVariants.{Read, Write, Finished}
use Rattle.fan_core.specs.declared.counts.Counts.{Counts}

-- the fewest blocks that a live drive wrote, or the blocks read where no drive is live
abbrev pub fewest : List Bool → List ℕ → ℕ → ℕ
fewest (true ∷ live) (blocks ∷ written) read = min blocks (fewest live written read)
fewest (false ∷ live) (blocks ∷ written) read = fewest live written read
fewest _ _ read = read

-- the live drives with a read block that they have not written
abbrev pub behind : List Bool → List ℕ → ℕ → List Bool
behind (is_live ∷ live) (blocks ∷ written) read = (is_live && nat_lt blocks read) ∷ behind live written read
behind _ _ read = []

-- the blocks that live drives have still to write, of so many
abbrev pub to_write : List Bool → List ℕ → ℕ → ℕ
to_write (true ∷ live) (blocks ∷ written) all = (all - blocks) + to_write live written all
to_write (false ∷ live) (blocks ∷ written) all = to_write live written all
to_write _ _ all = 0

-- the counts at the start: nothing is read or written
abbrev pub at_start : List Bool → ℕ → ℕ → Counts
at_start drives blocks slots = record { blocks = blocks; read = 0; live = drives; written = replicate 8 0; slots = slots }

-- the counts with one more block read
abbrev pub one_more_read : Counts → Counts
one_more_read counts = record counts { read = counts.read + 1 }

-- the counts with one more block written by a drive
abbrev pub one_more_written : Counts → ℕ → Counts
one_more_written counts d = record counts { written = slice_set counts.written d (slice_index counts.written d + 1) }

-- the counts with one drive no longer live
abbrev pub without_drive : Counts → ℕ → Counts
without_drive counts d = record counts { live = slice_set counts.live d false }

-- the blocks held: those read less the fewest written by a live drive, or 0 where no drive is live
abbrev pub held : Counts → ℕ
held counts = counts.read - fewest counts.live counts.written counts.read

-- the live drives with a read block that they have not written
abbrev pub waiting : Counts → List Bool
waiting counts = behind counts.live counts.written counts.read

-- the drive that a pick means: the picked one where it is live, else the lowest live drive
abbrev pub chosen : Counts → ℕ → ℕ
chosen counts pick = cond (has counts.live pick) pick (unwrap_or (lowest counts.live) 0)

-- a drive writes its next block
abbrev pub writes : Counts → ℕ → Act
writes counts d = Write d (slice_index counts.written d)

-- the drive, if there is one, writes its next block, and else all is finished
abbrev pub writes_next : Counts → Option ℕ → Act
writes_next counts None = Finished
writes_next counts (Some d) = writes counts d

-- what is done next: the drive that the pick means writes its next block, if one that is read waits for
-- it; else a block is read, if blocks remain and fewer are held than there are slots; else the lowest
-- live drive that a read block waits for writes its next one; else all is finished
abbrev pub next_act : Counts → ℕ → Act
next_act counts pick =
    cond (has (waiting counts) (chosen counts pick)) (writes counts (chosen counts pick))
    (cond (nat_lt counts.read counts.blocks && nat_lt (held counts) counts.slots) Read (writes_next counts (lowest (waiting counts))))

-- a block can be read: blocks remain, and fewer are held than there are slots
pub record CanRead (counts : Counts) : Type 0 where
  pub more : counts.read < counts.blocks
  pub room : held counts < counts.slots

-- all is read, and every live drive wrote all
pub record Done (counts : Counts) : Type 0 where
  pub read : counts.read ≡ counts.blocks
  pub wrote : (d : ℕ) → has counts.live d ≡ true → slice_index counts.written d ≡ counts.blocks

-- what is always so of a window's counts: no live drive wrote a block that was not read, no more blocks
-- are read than there are, and no more are held than there are slots
pub record IsWindow (counts : Counts) : Type 0 where
  pub eight_live : length counts.live ≡ 8
  pub eight_written : length counts.written ≡ 8
  pub in_range : counts.blocks < 2 ^ 64
  pub within : counts.read ≤ counts.blocks
  pub behind : (d : ℕ) → has counts.live d ≡ true → slice_index counts.written d ≤ counts.read
  pub slots : counts.read ≤ fewest counts.live counts.written counts.read + counts.slots
  pub some_slot : 1 ≤ counts.slots

-- the acts that are left: a read of each block not yet read, and the writes of the live drives
abbrev pub acts_left : Counts → ℕ
acts_left counts = (counts.blocks - counts.read) + to_write counts.live counts.written counts.blocks
