-- What a stop after some calls may leave of a drive.
use Rattle.std.specs.Prelude.{◌≡◌, ℕ, true, false, List, [], ◌∷◌, ◌++◌}
use Rattle.bay_core.specs.declared.event.Event.{Event}
use Rattle.bay_core.specs.declared.event.Event.TheVariants.{Sync}
use Rattle.bay_core.specs.Map.{Map}
use Rattle.bay_core.specs.Replay.{calls_on, changed, reads}
use Rattle.bay_core.specs.Torn.{Torn}

-- After a call on a drive that reads as R and may be left as S. After a sync that answered Ok what is read is left; one that failed
-- settles nothing; after a change some map is left that it may have made of one left before.
abbrev pub LeftAfter : Event → Map → (Map → Type 0) → Map → Type 0
LeftAfter (Sync d true) R S I = I ≡ R
LeftAfter (Sync d false) R S I = S I
LeftAfter e R S I = (J : Map) × S J × Torn e J I

-- after a run of calls of one drive that reads as R and may be left as S
abbrev pub LeftBy : List Event → Map → (Map → Type 0) → Map → Type 0
LeftBy [] R S I = S I
LeftBy (e ∷ L) R S I = LeftBy L (changed R e) (LeftAfter e R S) I

-- a stop after L may leave drive d, which began as m, as I
unfoldable pub Left : Map → List Event → ℕ → Map → Type 0
Left m L d I = LeftBy (calls_on d L) m (λ J. J ≡ m) I

-- exactly one map is left, the one that is read
abbrev pub IsSettled : Map → List Event → ℕ → Type 0
IsSettled m L d = (I : Map) → Left m L d I → I ≡ reads m L d

-- the calls up to some moment
abbrev pub IsPrefix : List Event → List Event → Type 0
IsPrefix A L = (rest : List Event) × (L ≡ A ++ rest)
