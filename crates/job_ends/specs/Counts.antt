-- What the counts and the numbers of devices show of the end of a run of a job, over bays that tell no calls too: docs/MODEL.md, "Laws of a run of a job".
use Rattle.std.specs.Prelude.{◌≡◌, ◌≢◌, ℕ, ◌<◌, length}
use Rattle.bay_core.specs.Replay.{Device, Source, Attaching, Output}
use Rattle.bay_core.specs.World.{Rose}
use Rattle.last_lines.specs.Ends.{EndStatus}
use Rattle.job_story.specs.Ends.{JobEnd, CardUnattached, DriveUnattached, CardFailed, CardChanged, OutFailed, last_of}
use Rattle.job_story.specs.Run.{Run}

-- the count of a device rose in the run, or stands at its end
abbrev pub Rises : Run → Device → Type 0
Rises run x = Rose (run.before.faults x) (run.after.faults x)

-- which count rose in a run that ended so, or which two lengths differ
abbrev pub ShowsCause : Run → JobEnd → Type 0
ShowsCause run CardUnattached = Rises run Attaching
ShowsCause run (DriveUnattached d) = Rises run Attaching
ShowsCause run CardFailed = Rises run (Source 0)
ShowsCause run (CardChanged listed read path) = listed ≢ read
ShowsCause run OutFailed = Rises run Output
ShowsCause run _ = Unit {0}

-- How many cards and drives are attached behind a run that ended so, before which there were none: a run that could not attach the card has neither; one that could
-- not attach drive d has the card and the drives before it; any other has all.
abbrev pub AreAttached : Run → JobEnd → Type 0
AreAttached run CardUnattached = (run.after.attached.sources ≡ 0) × (run.after.attached.drives ≡ 0)
AreAttached run (DriveUnattached d) = (run.after.attached.sources ≡ 1) × (run.after.attached.drives ≡ d) × (d < length run.job.drives)
AreAttached run _ = (run.after.attached.sources ≡ 1) × (run.after.attached.drives ≡ length run.job.drives)

-- The status of a run that ended so is that of its end; or 5, where the end has a line, and the count of the output rose.
pub record EndCounts (run : Run) (end : JobEnd) (result : ℕ) : Type 0 where
  pub status : EndStatus (last_of end) result run.before run.after
  pub cause : ShowsCause run end
  pub attached : AreAttached run end
