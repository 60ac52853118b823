-- What a run of the station promises where its words are a job's.
use Rattle.std.proofs.Common.{◌≡◌, ℕ, ◌<◌, List, [], ◌++◌, length, drop, refl, sym, ap, subst, arith}
use Rattle.std.specs.Prelude.{Some, slice_index_or}
use Rattle.bay_core.specs.declared.event.Event.{Event}
use Rattle.bay_core.specs.World.{World, Attached}
use Rattle.crash_law.specs.Lines.{AllLines}
use Rattle.path_text.specs.declared.kinds.Kinds.{Kinds}
use Rattle.report_text.specs.Run.{clear_text}
use Rattle.command_words.specs.declared.command.Command.TheVariants.{Offload}
use Rattle.command_words.specs.Jobs.{Task, Offloads, Job, SpellsTask, job_places, IsJob}
use Rattle.command_words.specs.Words.{IsCommand, FitsNoRow}
use Rattle.last_lines.specs.Ends.{memory_end, Ended}
use Rattle.job_story.specs.Ends.{JobEnd, NoMemory}
use Rattle.job_story.specs.Run.{Run, run_with}
use Rattle.job_story.specs.Story.{Story, RanJob}
use Rattle.job_steps.specs.Prefix.{CrashPrefix, CallsClear}
use Rattle.job_steps.proofs.Lasts.{last_calls}
use Rattle.job_steps.proofs.Plain.{OtherWord, IsPlain}
use Rattle.job_steps.proofs.Quiet.{line_among}
use Rattle.job_steps.proofs.Told.{since_then}
use Rattle.station_run.specs.Promises.{OfJob}
use Rattle.station_run.specs.Station.{HasRoom, Ran, wanting, unread, job, verify, print}
use Rattle.station_run.proofs.OneJob.{one_job, no_job}

-- ---- the words of a job

-- they are a command
as_command : {words : List (List ℕ)} (asked : Job) → IsJob words asked → (name user host : List ℕ) (kinds : Kinds) → asked.task ≡ Offloads name user host kinds
    → IsCommand words (Offload name user host asked.copies kinds (length (drop 5 words)))
as_command {words} asked is name user host kinds task =
    let spelled = subst (λ (t : Task). SpellsTask t asked.copies (job_places asked) words) task is.spelled in
    let card : asked.card ≡ slice_index_or words 4 [] = sym (ap (λ (w : List (List ℕ)). slice_index_or w 4 []) spelled.words_are) in
    let drives : asked.drives ≡ drop 5 words = sym (ap (drop 5) spelled.words_are) in
    record { is_job = subst (IsJob words) (λ i. record { task = task i; copies = asked.copies; card = card i; drives = drives i }) is; count = refl }

-- so they fit a row
unfits : {words : List (List ℕ)} → FitsNoRow words → (asked : Job) → IsJob words asked → ⊥
unfits {words} none asked is = by asked.task refl
  where
    by : (t : Task) → asked.task ≡ t → ⊥
    by (Offloads name user host kinds) task = none (Offload name user host asked.copies kinds (length (drop 5 words))) (as_command asked is name user host kinds task)

-- and where there is room for them nothing is attached
pub none_there : {words : List (List ℕ)} {a : Attached} → HasRoom words a → (asked : Job) → IsJob words asked → (a.sources ≡ 0) × (a.drives ≡ 0)
none_there {words} {a} room asked is = by asked.task refl
  where
    by : (t : Task) → asked.task ≡ t → (a.sources ≡ 0) × (a.drives ≡ 0)
    by (Offloads name user host kinds) task = room (Offload name user host asked.copies kinds (length (drop 5 words))) (as_command asked is name user host kinds task)

-- ---- how a run went whose words are a job's

pub data Way (asked : Job) (result : ℕ) (old new : World) : Type 0 where
  short : Ended memory_end result old new → Way asked result old new
  ran : RanJob asked result old new → Way asked result old new

pub way : {words : List (List ℕ)} {result : ℕ} {old new : World} → Ran words result old new → (asked : Job) → IsJob words asked → Way asked result old new
way (wanting ended) asked is = short ended
way (unread none ended) asked is = absurd (unfits none asked is)
way {words} {result} {old} {new} (job other also story) asked is = ran (subst (λ (j : Job). RanJob j result old new) (one_job other asked also is) story)
way (verify list row run) asked is = absurd (no_job 118 _ list (λ e. omega (arith, e)) row asked is)
way (print list row run) asked is = absurd (no_job 112 _ list (λ e. omega (arith, e)) row asked is)

-- ---- the headline

-- a law of the runs of jobs, to which nothing was attached before
abbrev pub StoryLaw : (Run → Type 0) → Type 0
StoryLaw Promise = (job : Job) (end : JobEnd) (result : ℕ) (old new : World) → Story job end result old new → old.attached.drives ≡ 0
    → (past since : List Event) → old.events ≡ Some past → new.events ≡ Some (past ++ since) → Promise (run_with job old new since)

pub prefix_of : StoryLaw CrashPrefix → {words : List (List ℕ)} {result : ℕ} {old new : World} → Ran words result old new → HasRoom words old.attached → OfJob CrashPrefix words old new
prefix_of law {words} {result} {old} {new} run room asked is past since was now = elim (way run asked is) [
  | short ended ↦ (λ card dates steady d start honest ours L of I left.
      let there : d < new.attached.drives = honest.there in
      let same : new.attached.drives ≡ old.attached.drives = ap (λ (a : Attached). a.drives) ended.went.attached in
      let none = (none_there room asked is).1 in
      absurd (omega (arith, there, same, none)))
  | ran r ↦ law asked r.0 result old new r.1 (none_there room asked is).1 past since was now
]

pub clear_of : OtherWord → StoryLaw CallsClear → {words : List (List ℕ)} {result : ℕ} {old new : World} → Ran words result old new → HasRoom words old.attached → OfJob CallsClear words old new
clear_of other law {words} {result} {old} {new} run room asked is past since was now = elim (way run asked is) [
  | short ended ↦ (λ before after count required ok call.
      let quiet = (since_then (last_calls other NoMemory result old new ended) past since was now).0 in
      absurd ((line_among IsPlain before (clear_text count required) ok after (subst (AllLines IsPlain) call quiet.plain)).unclear count required refl))
  | ran r ↦ law asked r.0 result old new r.1 (none_there room asked is).1 past since was now
]
