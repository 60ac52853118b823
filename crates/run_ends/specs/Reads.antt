-- What a run reads of its card, and that it copied a file.
use Rattle.std.specs.Prelude.{◌≡◌, ℕ, Bool, false, ◌&&◌, nat_eq, List, [], unwrap_or}
use Rattle.std.specs.List.{filter, flat_map}
use Rattle.std.specs.Str.{bytes_eq}
use Rattle.bay_core.specs.declared.event.Event.{Event}
use Rattle.bay_core.specs.declared.event.Event.TheVariants.{SourceRead}
use Rattle.digest_set.specs.declared.triple.Triple.{Triple}
use Rattle.run_state.specs.declared.phase.Phase.TheVariants.{Dates}
use Rattle.run_state.specs.Runs.{Point, Runs}
use Rattle.run_state.specs.State.{Ordered}

-- this call reads this path of card s
abbrev pub is_read : ℕ → List ℕ → Event → Bool
is_read s q (SourceRead e path at want got) = nat_eq s e && bytes_eq q path
is_read s q _ = false

-- the reads of this path of card s
abbrev pub reads_of : ℕ → List ℕ → List Event → List Event
reads_of s q L = filter (λ e. is_read s q e) L

-- the bytes that a read of a card gave
abbrev pub got_in : Event → List ℕ
got_in (SourceRead s path at want got) = unwrap_or got []
got_in _ = []

-- the bytes that the reads of this path of card s gave, one after another
abbrev pub card_given : ℕ → List ℕ → List Event → List ℕ
card_given s q L = flat_map got_in (reads_of s q L)

-- The copy of file i came to a good end on the way from a to b, with these digests: its moment was asked next.
pub record IsCopiedBetween (o : Ordered) (a b : Point) (i : ℕ) (t : Triple) : Type 0 where
  pub mid : Point
  pub before : Runs o a mid
  pub after : Runs o mid b
  pub next : mid.at.phase ≡ Dates i t
