-- What a run reads of its card.
use Rattle.std.specs.Prelude.{◌≡◌, ℕ, Bool, true, false, ◌&&◌, nat_eq, List, [], ◌∷◌, ◌++◌, Option, Some, unwrap_or}
use Rattle.std.specs.List.{slice_get, filter, flat_map}
use Rattle.std.specs.Str.{bytes_eq}
use Rattle.bay_core.specs.declared.event.Event.{Event}
use Rattle.bay_core.specs.declared.event.Event.TheVariants.{SourceRead, Rename}
use Rattle.bay_core.specs.Paths.{part_path}
use Rattle.copy_plan.specs.declared.file.PlannedFile.{PlannedFile}
use Rattle.fan_copier.specs.Follows.{InOrder, EndsAtSize}
use Rattle.run_state.specs.Runs.{Point, IsPlanned}
use Rattle.run_state.specs.State.{Ordered, is_of_run}

-- this call reads this path of card s
abbrev pub is_read : ℕ → List ℕ → Event → Bool
is_read s q (SourceRead e path at want got) = nat_eq s e && bytes_eq q path
is_read s q _ = false

-- the reads of this path of card s
abbrev pub reads_of : ℕ → List ℕ → List Event → List Event
reads_of s q L = filter (λ e. is_read s q e) L

-- the bytes that a read of a card gave
abbrev pub got_in : Event → List ℕ
got_in (SourceRead s path at want got) = unwrap_or got []
got_in _ = []

-- the bytes that the reads of this path of card s gave, one after another
abbrev pub card_given : ℕ → List ℕ → List Event → List ℕ
card_given s q L = flat_map got_in (reads_of s q L)

-- Each planned file is read once: from its start on, each read where the one before ended. Before a drive of the run gives a part the path of a
-- planned file, well or not, the last read of that file asked for one byte at its planned size, and none came; after that it is not read.
pub record ReadsOnce (o : Ordered) (a : Point) (L : List Event) : Type 0 where
  pub in_order : (i : ℕ) (f : PlannedFile) → slice_get o.plan.files i ≡ Some f → InOrder o.source f.path 0 (reads_of o.source f.path L)
  pub before_its_name : (e i : ℕ) (f : PlannedFile) → is_of_run a.at.drives e ≡ true → slice_get o.plan.files i ≡ Some f
      → (before after : List Event) (ok : Bool) → L ≡ before ++ Rename e part_path f.path ok ∷ after
      → EndsAtSize o.source f.path f.size (reads_of o.source f.path before) × (reads_of o.source f.path after ≡ [])

-- each read of a card among these calls is of the run's card, and of a planned file
pub record ReadsItsFiles (o : Ordered) (L : List Event) : Type 0 where
  pub each : (before after : List Event) (s : ℕ) (path : List ℕ) (at want : ℕ) (got : Option (List ℕ)) → L ≡ before ++ SourceRead s path at want got ∷ after → (s ≡ o.source) × IsPlanned o.plan path
