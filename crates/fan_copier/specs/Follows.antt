-- All turns of a copy, and what they come to.
use Rattle.std.specs.Prelude.{◌≡◌, ◌≢◌, ◌⊎◌, ℕ, ◌+◌, ◌≤◌, true, false, List, [], ◌∷◌, ◌++◌, length, Option, Some, None, unwrap_or}
use Rattle.bay_core.specs.declared.event.Event.{Event}
use Rattle.bay_core.specs.declared.event.Event.TheVariants.{SourceRead}
use Rattle.bay_core.specs.Replay.{Source, Drive}
use Rattle.bay_core.specs.Map.{Map, content}
use Rattle.bay_core.specs.World.{World, Rose, Steady}
use Rattle.bay_core.specs.Went.{Went, Then}
use Rattle.digest_set.specs.declared.triple.Triple.{Triple}
use Rattle.digest_set.specs.Triple.{triple}
use Rattle.fan_core.specs.Flags.{has, lowest}
use Rattle.fan_copier.specs.declared.copy.FileCopy.{FileCopy}
use Rattle.fan_copier.specs.declared.turn.Turn.{Turn}
use Rattle.fan_copier.specs.declared.turn.Turn.TheVariants.{Going, Dropped, Copied, SourceFailed, Changed, NoDrive}
use Rattle.fan_copier.specs.Standing.{Standing}
use Rattle.fan_copier.specs.Copying.{card_of, size_of, live_of, standing, PartIs}
use Rattle.fan_copier.specs.Passed.{card_calls}
use Rattle.fan_copier.specs.Turning.{doing, StandsAfter, TurnCalls, Touches, turns_left}

-- one turn: the pick, if it asked for one; the bytes that the card gave in it; what it came to; and where the copy then stands
pub record OneTurn : Type 0 where
  pub pick : ℕ
  pub given : List ℕ
  pub came : Turn
  pub now : Standing

-- The calls of a copy that stands here and was given these bytes follow the window in these turns: the empty pieces come first; then each
-- pick is followed, before the next one, by just the act that the window gives for it.
unfoldable pub FollowsWindow : ℕ → List ℕ → ℕ → Standing → List ℕ → List OneTurn → List Event → Type 0
FollowsWindow s path size at bytes [] L = L ≡ []
FollowsWindow s path size at bytes (t ∷ turns) L = StandsAfter size at t.now (doing at t.pick) t.came
    × Then (TurnCalls s path size at t.now bytes t.given (doing at t.pick) t.came) (FollowsWindow s path size t.now (bytes ++ t.given) turns) L

-- the bytes that the card gave in these turns
abbrev pub given_in : List OneTurn → List ℕ
given_in [] = []
given_in (t ∷ turns) = t.given ++ given_in turns

-- where the copy stands after them
abbrev pub stands_after : Standing → List OneTurn → Standing
stands_after at [] = at
stands_after at (t ∷ turns) = stands_after t.now turns

-- a turn after which the copy goes on
abbrev pub GoesOn : Turn → Type 0
GoesOn Going = Unit {0}
GoesOn (Dropped d) = Unit {0}
GoesOn result = ⊥

-- after each of these turns the copy goes on
abbrev pub AllGoOn : List OneTurn → Type 0
AllGoOn [] = Unit {0}
AllGoOn (t ∷ turns) = GoesOn t.came × AllGoOn turns

-- the last of these turns came to this, and after each one before it the copy goes on
abbrev pub LastCame : List OneTurn → Turn → Type 0
LastCame [] result = ⊥
LastCame (t ∷ []) result = t.came ≡ result
LastCame (t ∷ (u ∷ turns)) result = GoesOn t.came × LastCame (u ∷ turns) result

-- These turns end in this. Where no drive is left the copy goes on after each, and a further turn makes no call.
abbrev pub EndsIn : List OneTurn → Turn → Type 0
EndsIn turns result = ((result ≡ NoDrive) × AllGoOn turns) ⊎ (LastCame turns result × (GoesOn result → ⊥))

-- reads of a file of the card of which the first is at this place, and each other where the one before ended; one that gave none or failed ends where it began
unfoldable pub InOrder : ℕ → List ℕ → ℕ → List Event → Type 0
InOrder s path at [] = Unit {0}
InOrder s path at (e ∷ L) = (asked : ℕ) × (got : Option (List ℕ)) × (e ≡ SourceRead s path at asked got) × InOrder s path (at + length (unwrap_or got [])) L

-- one byte was asked for at the size, and none came: the last of these reads
abbrev pub EndsAtSize : ℕ → List ℕ → ℕ → List Event → Type 0
EndsAtSize s path size L = (front : List Event) × (L ≡ front ++ SourceRead s path size 1 (Some []) ∷ [])

-- what a copy came to, where these are the bytes that the card gave
abbrev pub EndedAs : FileCopy → FileCopy → World → World → List ℕ → Turn → Type 0
EndedAs old new before after bytes (Copied t) = (length bytes ≡ size_of old) × (t ≡ triple bytes) × ((d : ℕ) → has (live_of new) d ≡ true → PartIs d after bytes)
EndedAs old new before after bytes SourceFailed = Rose (before.faults (Source (card_of old))) (after.faults (Source (card_of old)))
EndedAs old new before after bytes (Changed listed read) = (listed ≡ size_of old) × (read ≢ size_of old) × (length bytes ≡ read)
EndedAs old new before after bytes NoDrive = lowest (live_of new) ≡ None
EndedAs old new before after bytes result = ⊥

-- what the file of a steady card is after a copy, where these are the bytes that it gave
abbrev pub CardIs : List ℕ → List ℕ → Turn → Type 0
CardIs file bytes (Copied t) = bytes ≡ file
CardIs file bytes result = Unit {0}

-- a whole copy: its turns, which follow the window; no more of them than were left; no byte of the card is read twice; where it ended well, the
-- last read asked for one byte at the size; each drive that was dropped failed; what it came to; and a steady card's file is what was copied
pub record CopyEnded (path : List ℕ) (old new : FileCopy) (before after : World) (result : Turn) : Type 0 where
  pub turns : List OneTurn
  pub calls : Went (Touches (card_of old) (live_of old)) (FollowsWindow (card_of old) path (size_of old) (standing old) [] turns) before after
  pub few : length turns ≤ turns_left (standing old)
  pub ends : EndsIn turns result
  pub stands : standing new ≡ stands_after (standing old) turns
  pub once : Went (Touches (card_of old) (live_of old)) (λ L. InOrder (card_of old) path 0 (card_calls (card_of old) L)) before after
  pub past : (t : Triple) → result ≡ Copied t → Went (Touches (card_of old) (live_of old)) (λ L. EndsAtSize (card_of old) path (size_of old) (card_calls (card_of old) L)) before after
  pub still : (d : ℕ) → has (live_of new) d ≡ true → has (live_of old) d ≡ true
  pub dropped : (d : ℕ) → has (live_of old) d ≡ true → has (live_of new) d ≡ false → Rose (before.faults (Drive d)) (after.faults (Drive d))
  pub came : EndedAs old new before after (given_in turns) result
  pub card : (m : Map) → Steady before (card_of old) m → CardIs (content m path) (given_in turns) result
