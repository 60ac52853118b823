-- The calls on one card among others.
use Rattle.std.specs.Prelude.{ℕ, Bool, false, List, nat_eq, filter}
use Rattle.bay_core.specs.declared.event.Event.{Event}
use Rattle.bay_core.specs.Replay.{Device, Source, device_of}

-- this device is card s
abbrev pub is_card : ℕ → Device → Bool
is_card s (Source e) = nat_eq s e
is_card s _ = false

-- the calls on one card
abbrev pub card_calls : ℕ → List Event → List Event
card_calls s L = filter (λ e. is_card s (device_of e)) L
