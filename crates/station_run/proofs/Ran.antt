-- A run of the station, by its words.
use Rattle.std.proofs.Common.{◌≡◌, inl, inr, ℕ, List, [], length, ◌<◌, ◌∙◌, sym, ap, arith}
use Rattle.std.specs.Prelude.{slice_index_or}
use Rattle.bay_core.specs.World.{World, Attached}
use Rattle.command_words.specs.declared.command.Command.TheVariants.{Offload, Verify, Print}
use Rattle.command_words.specs.Words.{IsListRow, drive_word}
use Rattle.station_run.specs.Runs.{Unchanged}
use Rattle.station_run.specs.Station.{HasRoom, Ran, wanting, unread, job, verify, print, ChangesNothing}
use Rattle.station_run.proofs.Attached.{end_unchanged}
use Rattle.station_run.proofs.Jobs.{job_unchanged}
use Rattle.station_run.proofs.Verified.{verify_unchanged}
use Rattle.station_run.proofs.Printed.{print_unchanged}

-- where nothing is attached, there is room for all words
pub room_for : (words : List (List ℕ)) (a : Attached) → a.sources ≡ 0 → a.drives ≡ 0 → HasRoom words a
room_for words a no_card no_drive (Offload name user host copies kinds drives) is = (no_card, no_drive)
room_for words a no_card no_drive (Verify list) is = omega (arith, no_drive)
room_for words a no_card no_drive (Print list) is = omega (arith, no_drive)

-- the third word of a row with a list names the drive
pub drive_there : (words : List (List ℕ)) (name list : List ℕ) → IsListRow name list words → slice_index_or words 2 [] ≡ drive_word words
drive_there words name list row = ap (λ (w : List (List ℕ)). slice_index_or w 2 []) row.words_are ∙ sym (ap drive_word row.words_are)

-- the row of a list has a third word
pub row_long : (words : List (List ℕ)) (name list : List ℕ) → IsListRow name list words → 2 < length words
row_long words name list row = omega (arith, ap length row.words_are)

-- a run changes nothing, unless it is one of a job with another status
pub ran_unchanged : {words : List (List ℕ)} {result : ℕ} {old new : World} → Ran words result old new → ChangesNothing words result → Unchanged old new
ran_unchanged (wanting ended) quiet = end_unchanged ended
ran_unchanged (unread none ended) quiet = end_unchanged ended
ran_unchanged (job asked is ran) (inl never) = absurd (never asked is)
ran_unchanged (job asked is ran) (inr before) = job_unchanged ran before
ran_unchanged {words} {result} {old} {new} (verify list is run) quiet = verify_unchanged list _ result old new run
ran_unchanged {words} {result} {old} {new} (print list is run) quiet = print_unchanged list _ result old new run
