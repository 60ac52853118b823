-- The list that seals a drive: docs/FORMATS.md, "Lists".
use Rattle.std.specs.Prelude.{◌≡◌, ◌≤◌, ℕ, Bool, if◌then◌else◌, List, [], ◌∷◌, codes, Option, Some, None}
use Rattle.path_text.specs.Moment.{last_moment}
use Rattle.path_text.specs.declared.kinds.Kinds.{Kinds}
use Rattle.mhl_writer.specs.declared.values.HashEntry.{HashEntry}
use Rattle.mhl_writer.specs.declared.values.Creator.{Creator}
use Rattle.mhl_writer.specs.ListText.{Values, list_text}
use Rattle.copy_plan.specs.declared.file.PlannedFile.{PlannedFile}
use Rattle.copy_plan.specs.Plan.{PlanValue}
use Rattle.drive_journal.specs.declared.record.Rec.{Rec}

-- a digest of a kind that the list shows
abbrev pub shown : Bool → List ℕ → Option (List ℕ)
shown kind digest = if kind then Some digest else None

-- the entry of a file: its path, size and date from the plan, its digests of these kinds and its hash date from its record
abbrev pub sealed_entry : Kinds → PlannedFile → Rec → HashEntry
sealed_entry kinds f r = record {
  path = f.path;
  size = Some f.size;
  modified = Some f.modified;
  hashed = Some r.hashed;
  md5 = shown kinds.md5 r.triple.md5;
  sha1 = shown kinds.sha1 r.triple.sha1;
  xxh = shown kinds.xxh r.triple.xxh;
}

-- the entries of files and their records, in their order
unfoldable pub sealed_entries : Kinds → List PlannedFile → List Rec → List HashEntry
sealed_entries kinds [] recs = []
sealed_entries kinds (f ∷ files) [] = []
sealed_entries kinds (f ∷ files) (r ∷ recs) = sealed_entry kinds f r ∷ sealed_entries kinds files recs

-- who sealed it: the labels and the start of the plan, and this finish
abbrev pub sealed_creator : PlanValue → ℕ → Creator
sealed_creator p finish = record {
  name = Some p.name;
  username = Some p.user;
  hostname = Some p.host;
  tool = Some (codes "mhlstation 1");
  started = Some p.started;
  finished = Some finish;
}

-- the list of a plan, its records and a finish
abbrev pub sealed_values : PlanValue → List Rec → ℕ → Values
sealed_values p recs finish = record { creator = sealed_creator p finish; entries = sealed_entries p.kinds p.files recs }

-- its text
unfoldable pub plan_list_text : PlanValue → List Rec → ℕ → List ℕ
plan_list_text p recs finish = list_text (sealed_values p recs finish)

-- a whole list of a plan and its records: with some finish, a moment
abbrev pub IsListText : PlanValue → List Rec → List ℕ → Type 0
IsListText p recs text = (finish : ℕ) × (finish ≤ last_moment) × (text ≡ plan_list_text p recs finish)
