-- What one turn of a copy does.
use Rattle.std.specs.Prelude.{◌≡◌, ◌≢◌, ◌⊎◌, ℕ, ◌+◌, ◌-◌, ◌*◌, ◌≤◌, ◌<◌, Bool, true, false, List, [], ◌∷◌, ◌++◌, length, take, slice_set, Option, Some, None, Result, Ok, Err}
use Rattle.bay_core.specs.declared.event.Event.{Event}
use Rattle.bay_core.specs.declared.event.Event.TheVariants.{Pick, SourceRead, DriveRead, Write as Writes}
use Rattle.bay_core.specs.declared.failed.Failed.{Failed}
use Rattle.bay_core.specs.Paths.{part_path}
use Rattle.bay_core.specs.Replay.{Device, Source, Drive, Picker}
use Rattle.bay_core.specs.Map.{Map, content}
use Rattle.bay_core.specs.World.{World, Rose, Steady}
use Rattle.bay_core.specs.Went.{Went, Ran, Then, IsCall, write_call}
use Rattle.block_pool.specs.Lent.{PoolState}
use Rattle.digest_set.specs.Triple.{triple}
use Rattle.fan_core.specs.declared.act.Act.{Act}
use Rattle.fan_core.specs.declared.act.Act.TheVariants.{Read, Write, Finished}
use Rattle.fan_core.specs.declared.counts.Counts.{Counts}
use Rattle.fan_core.specs.Flags.{has, lowest, count}
use Rattle.fan_core.specs.Next.{next_act, acts_left, one_more_read, one_more_written, without_drive}
use Rattle.fan_copier.specs.declared.copy.FileCopy.{FileCopy}
use Rattle.fan_copier.specs.declared.turn.Turn.{Turn}
use Rattle.fan_copier.specs.declared.turn.Turn.TheVariants.{Going, Dropped, Copied, SourceFailed, Changed, NoDrive}
use Rattle.fan_copier.specs.Reads.{AreAt, OnCard, OnDrive, Tiles, EndsAt, CutAt, Gathered}
use Rattle.fan_copier.specs.Standing.{Standing, block_len, block_of, place, at_place}
use Rattle.fan_copier.specs.Copying.{standing, Copying, HoldsBlocks, PartIs}

-- what a turn does: it writes the empty piece of a drive, or asks for a pick and does the act that follows from it
pub data Doing : Type 0 where
  EmptyPiece : ℕ → Doing
  Acting : ℕ → Act → Doing

-- the empty pieces come first, each drive's in its turn
abbrev pub doing_next : Option ℕ → Counts → ℕ → Doing
doing_next None c pick = Acting pick (next_act c pick)
doing_next (Some d) c pick = EmptyPiece d

-- what is done next, if this is the pick
abbrev pub doing : Standing → ℕ → Doing
doing at pick = doing_next (lowest at.pieces) at.counts pick

-- where a copy stands after the empty piece of a drive
abbrev pub with_piece : Standing → ℕ → Standing
with_piece at d = record at { pieces = slice_set at.pieces d false }

-- where it stands after a block was read
abbrev pub with_read : Standing → Standing
with_read at = record at { counts = one_more_read at.counts }

-- where it stands after a drive got its next block
abbrev pub with_written : Standing → ℕ → Standing
with_written at d = record at { counts = one_more_written at.counts d }

-- where it stands after a block was written on a drive that had kept its part
abbrev pub with_unkept : Standing → ℕ → Standing
with_unkept at d = record at { kept = slice_set at.kept d false }

-- where it stands after a drive was dropped
abbrev pub dropped : Standing → ℕ → Standing
dropped at d = record { counts = without_drive at.counts d; pieces = slice_set at.pieces d false; kept = slice_set at.kept d false }

-- where a copy stands after a block was brought to a drive, which keeps its part or keeps it no longer
abbrev pub PutStands : ℕ → Standing → Standing → Type 0
PutStands d at now = (now ≡ with_written at d) ⊎ (now ≡ with_unkept (with_written at d) d)

-- where a copy stands after a turn that did this and came to that
abbrev pub StandsAfter : ℕ → Standing → Standing → Doing → Turn → Type 0
StandsAfter size at now (EmptyPiece d) Going = now ≡ with_piece at d
StandsAfter size at now (EmptyPiece d) (Dropped e) = (e ≡ d) × (now ≡ dropped at d)
StandsAfter size at now (Acting p Read) Going = now ≡ with_read at
StandsAfter size at now (Acting p Read) (Changed listed read) = (listed ≡ size) × (read < size) × (now ≡ at)
StandsAfter size at now (Acting p Read) SourceFailed = now ≡ at
StandsAfter size at now (Acting p (Write d k)) Going = PutStands d at now
StandsAfter size at now (Acting p (Write d k)) (Dropped e) = (e ≡ d) × (now ≡ dropped at d)
StandsAfter size at now (Acting p Finished) (Copied t) = now ≡ at
StandsAfter size at now (Acting p Finished) (Changed listed read) = (listed ≡ size) × (read ≡ size + 1) × (now ≡ at)
StandsAfter size at now (Acting p Finished) SourceFailed = now ≡ at
StandsAfter size at now did result = ⊥

-- the bytes of the part at a block's place are read, and are another's; so the block is written there
abbrev pub MendCalls : ℕ → ℕ → List ℕ → Bool → List Event → Type 0
MendCalls d at bytes ok L = (found : List ℕ) × (found ≢ bytes) × Then (Gathered (OnDrive d part_path) at (length bytes) found) (Ran (write_call d part_path at bytes ∷ []) ok) L

-- A block is brought to the part of a drive, by whether the drive keeps its part before and after, and whether it went well. On a drive that
-- keeps its part, the bytes there are read first, and nothing is written where they are the block's.
abbrev pub WriteCalls : Bool → Bool → Bool → ℕ → ℕ → List ℕ → List Event → Type 0
WriteCalls false still ok d at bytes L = Ran (write_call d part_path at bytes ∷ []) ok L
WriteCalls true true true d at bytes L = Tiles (OnDrive d part_path) at L bytes
WriteCalls true false true d at bytes L = MendCalls d at bytes true L
WriteCalls true still false d at bytes L = CutAt (OnDrive d part_path) at (length bytes) L ⊎ MendCalls d at bytes false L

-- one read of the card, which asked for one byte at this place, and what it gave: none where it failed
abbrev pub ReadsOneByte : ℕ → List ℕ → ℕ → Option (List ℕ) → List Event → Type 0
ReadsOneByte s path at got L = L ≡ SourceRead s path at 1 got ∷ []

-- such a read that failed, seen or not
abbrev pub FailsAtOneByte : ℕ → List ℕ → ℕ → List Event → Type 0
FailsAtOneByte s path at L = (L ≡ []) ⊎ ReadsOneByte s path at None L

-- the calls of an act, by what it came to, where these bytes were given before and those in it
abbrev pub ActCalls : ℕ → List ℕ → ℕ → Standing → Standing → List ℕ → List ℕ → Act → Turn → List Event → Type 0
ActCalls s path size at now bytes given Read Going L = Tiles (OnCard s path) (at.counts.read * 65536) L given × (length given ≡ block_len size at.counts.read)
ActCalls s path size at now bytes given Read (Changed listed read) L = EndsAt (OnCard s path) (at.counts.read * 65536) (block_len size at.counts.read) given L
ActCalls s path size at now bytes given Read SourceFailed L = (given ≡ []) × CutAt (OnCard s path) (at.counts.read * 65536) (block_len size at.counts.read) L
ActCalls s path size at now bytes given (Write d k) Going L = (given ≡ []) × WriteCalls (has at.kept d) (has now.kept d) true d (k * 65536) (block_of bytes k) L
ActCalls s path size at now bytes given (Write d k) (Dropped e) L = (given ≡ []) × WriteCalls (has at.kept d) (has now.kept d) false d (k * 65536) (block_of bytes k) L
ActCalls s path size at now bytes given Finished (Copied t) L = (given ≡ []) × ReadsOneByte s path size (Some []) L
ActCalls s path size at now bytes given Finished (Changed listed read) L = ReadsOneByte s path size (Some given) L × (length given ≡ 1)
ActCalls s path size at now bytes given Finished SourceFailed L = (given ≡ []) × FailsAtOneByte s path size L
ActCalls s path size at now bytes given act result L = ⊥

-- the calls of a turn: the empty piece of the next drive, or one pick and just the act that follows from it
abbrev pub TurnCalls : ℕ → List ℕ → ℕ → Standing → Standing → List ℕ → List ℕ → Doing → Turn → List Event → Type 0
TurnCalls s path size at now bytes given (EmptyPiece d) Going L = (given ≡ []) × Ran (write_call d part_path 0 [] ∷ []) true L
TurnCalls s path size at now bytes given (EmptyPiece d) result L = (given ≡ []) × Ran (write_call d part_path 0 [] ∷ []) false L
TurnCalls s path size at now bytes given (Acting p act) result L = Then (IsCall (Pick p)) (ActCalls s path size at now bytes given act result) L

-- the card, the picker and the drives of a copy
abbrev pub Touches : ℕ → List Bool → Device → Type 0
Touches s live x = (x ≡ Source s) ⊎ (x ≡ Picker) ⊎ ((d : ℕ) × (has live d ≡ true) × (x ≡ Drive d))

-- the calls that a copy may make: a pick, a read of its file on the card, and a read of a part or a write to it
abbrev pub IsCopyCall : ℕ → List ℕ → Event → Type 0
IsCopyCall s path (Pick p) = Unit {0}
IsCopyCall s path (SourceRead e read at want got) = (e ≡ s) × (read ≡ path)
IsCopyCall s path (DriveRead d read at want got) = read ≡ part_path
IsCopyCall s path (Writes d written at bytes ok) = written ≡ part_path
IsCopyCall s path e = ⊥

-- no other calls
unfoldable pub AreCopyCalls : ℕ → List ℕ → List Event → Type 0
AreCopyCalls s path [] = Unit {0}
AreCopyCalls s path (e ∷ L) = IsCopyCall s path e × AreCopyCalls s path L

-- the card's file has another length than was listed
abbrev pub IsChanged : Turn → Type 0
IsChanged (Changed listed read) = Unit {0}
IsChanged result = ⊥

-- the turns that are left, at most
abbrev pub turns_left : Standing → ℕ
turns_left at = count at.pieces + acts_left at.counts + 1

-- a turn after which the copy goes on leaves fewer turns
abbrev pub Nearer : Turn → ℕ → ℕ → Type 0
Nearer Going before after = after < before
Nearer (Dropped d) before after = after < before
Nearer result before after = Unit {0}

-- a turn that lost a drive or the card is one in which its count rose
abbrev pub TurnCause : ℕ → Turn → World → World → Type 0
TurnCause s (Dropped d) old new = Rose (old.faults (Drive d)) (new.faults (Drive d))
TurnCause s SourceFailed old new = Rose (old.faults (Source s)) (new.faults (Source s))
TurnCause s result old new = Unit {0}

-- the drives that go on: all but the one that was dropped
abbrev pub GoOn : Turn → List Bool → List Bool → Type 0
GoOn (Dropped d) before after = (has before d ≡ true) × (after ≡ slice_set before d false)
GoOn result before after = after ≡ before

-- what a turn came to, where these bytes were given before it and those in it
abbrev pub CameTo : FileCopy → FileCopy → PoolState → World → World → List ℕ → List ℕ → Turn → Type 0
CameTo old new pool before after bytes given Going = Copying new pool after (bytes ++ given)
CameTo old new pool before after bytes given (Dropped d) = Rose (before.faults (Drive d)) (after.faults (Drive d)) × Copying new pool after (bytes ++ given)
CameTo old new pool before after bytes given (Copied t) = (given ≡ []) × (length bytes ≡ old.size) × (t ≡ triple bytes) × ((d : ℕ) → has old.window.counts.live d ≡ true → PartIs d after bytes)
CameTo old new pool before after bytes given SourceFailed = Rose (before.faults (Source old.source)) (after.faults (Source old.source))
CameTo old new pool before after bytes given (Changed listed read) = length (bytes ++ given) ≡ read
CameTo old new pool before after bytes given NoDrive = ⊥

-- what the card's file is, if the card is steady, by what a turn came to, where these bytes were given before it and those in it
abbrev pub CardHas : List ℕ → ℕ → List ℕ → List ℕ → Turn → Type 0
CardHas file size bytes given Going = AreAt file (length bytes) given
CardHas file size bytes given (Dropped d) = AreAt file (length bytes) given
CardHas file size bytes given (Copied t) = length file ≤ size
CardHas file size bytes given result = Unit {0}

-- the bytes of the blocks that were read, after a turn
abbrev pub bytes_after : List ℕ → List ℕ → Turn → List ℕ
bytes_after bytes given Going = bytes ++ given
bytes_after bytes given (Dropped d) = bytes ++ given
bytes_after bytes given result = bytes

-- a turn of a copy that had a live drive, which was given these bytes before
pub record Turned (path : List ℕ) (old new : FileCopy) (pool : PoolState) (before after : World) (bytes : List ℕ) (result : Turn) : Type 0 where
  pub pick : ℕ
  pub given : List ℕ
  pub stands : StandsAfter old.size (standing old) (standing new) (doing (standing old) pick) result
  pub calls : Went (Touches old.source old.window.counts.live) (TurnCalls old.source path old.size (standing old) (standing new) bytes given (doing (standing old) pick) result) before after
  pub came : CameTo old new pool before after bytes given result
  pub holds : HoldsBlocks new pool (bytes_after bytes given result)
  pub card : (m : Map) → Steady before old.source m → CardHas (content m path) old.size bytes given result

-- the calls that compare the part of a drive with a block: whether the bytes there are the block's, or the reads were cut short
abbrev pub CompareCalls : ℕ → ℕ → List ℕ → Result Bool Failed → List Event → Type 0
CompareCalls d at bytes (Ok true) L = Tiles (OnDrive d part_path) at L bytes
CompareCalls d at bytes (Ok false) L = (found : List ℕ) × (found ≢ bytes) × Gathered (OnDrive d part_path) at (length bytes) found L
CompareCalls d at bytes (Err e) L = CutAt (OnDrive d part_path) at (length bytes) L

-- the calls that bring a block to a part, by whether the drive keeps its part before; after it keeps it where nothing was written
abbrev pub PutCalls : Bool → ℕ → ℕ → List ℕ → Result Bool Failed → List Event → Type 0
PutCalls keeps d at bytes (Ok still) L = WriteCalls keeps still true d at bytes L
PutCalls keeps d at bytes (Err e) L = WriteCalls keeps false false d at bytes L

-- the reads of a block: all of it came, or the file ended at a place, or a read failed
abbrev pub ReadCalls : ℕ → List ℕ → ℕ → List ℕ → Result (Option ℕ) Failed → List Event → Type 0
ReadCalls s path at block (Ok None) L = Tiles (OnCard s path) at L block
ReadCalls s path at block (Ok (Some n)) L = EndsAt (OnCard s path) at (length block) (take (n - at) block) L
ReadCalls s path at block (Err e) L = CutAt (OnCard s path) at (length block) L

-- one byte was asked for at the size: none came, or this one
abbrev pub PastCalls : ℕ → List ℕ → ℕ → Result (Option ℕ) Failed → List Event → Type 0
PastCalls s path size (Ok None) L = ReadsOneByte s path size (Some []) L
PastCalls s path size (Ok (Some byte)) L = ReadsOneByte s path size (Some (byte ∷ [])) L
PastCalls s path size (Err e) L = FailsAtOneByte s path size L

-- the bytes of the next block, once it was read
abbrev pub next_block : ℕ → Counts → List (Option ℕ) → PoolState → List ℕ
next_block size c ring pool = take (block_len size c.read) (at_place ring pool (place c c.read))
