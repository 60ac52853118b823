-- The list that seals a drive, part by part: docs/FORMATS.md, "Lists".
use Rattle.std.specs.Prelude.{ℕ, ◌+◌, Bool, List, [], ◌∷◌, ◌++◌, length, map}
use Rattle.bay_core.specs.declared.event.Event.{Event}
use Rattle.bay_core.specs.Paths.{new_path}
use Rattle.bay_core.specs.Went.{write_call, sync_call, rename_call}
use Rattle.mhl_writer.specs.ListText.{head_text, entry_text, tail_text}
use Rattle.copy_plan.specs.Plan.{PlanValue}
use Rattle.drive_journal.specs.declared.record.Rec.{Rec}
use Rattle.offload_law.specs.Sealing.{sealed_creator, sealed_entries}

-- the parts of the list of a plan, its records and a finish: its head, the entry of each file, its tail
unfoldable pub list_parts : PlanValue → List Rec → ℕ → List (List ℕ)
list_parts p recs finish = head_text (sealed_creator p finish) ∷ (map entry_text (sealed_entries p.kinds p.files recs) ++ tail_text ∷ [])

-- parts, one behind another
abbrev pub joined : List (List ℕ) → List ℕ
joined [] = []
joined (part ∷ parts) = part ++ joined parts

-- the writes of parts to the file that waits for its name, the first at this place, each behind the one before
abbrev pub writes_from : ℕ → ℕ → List (List ℕ) → List (Bool → Event)
writes_from d at [] = []
writes_from d at (part ∷ parts) = write_call d new_path at part ∷ writes_from d (at + length part) parts

-- all parts are written from the start of that file on, and then there is a barrier
abbrev pub drafting : ℕ → List (List ℕ) → List (Bool → Event)
drafting d parts = writes_from d 0 parts ++ sync_call d ∷ []

-- that file gets the name of the list, and then there is a barrier
abbrev pub naming : ℕ → List ℕ → List (Bool → Event)
naming d list = rename_call d new_path list ∷ sync_call d ∷ []
