-- A run of a job, from its parts.
use Rattle.std.proofs.Common.{◌≡◌, inl, inr, ℕ, ◌+◌, ◌<◌, ◌≤◌, true, List, [], ◌∷◌, ◌++◌, length, drop, refl, sym, ◌∙◌, ap, subst, arith}
use Rattle.std.specs.Prelude.{Result, Ok, Err, IfOk}
use Rattle.bay_core.specs.Looks.{IsUntouched}
use Rattle.bay_core.specs.Map.{Map, AllDated}
use Rattle.bay_core.specs.Went.{Went}
use Rattle.bay_core.specs.World.{World, Steady}
use Rattle.drive_journal.specs.declared.order.Order.{Order}
use Rattle.fresh_opening.specs.declared.error.FreshError.{FreshError}
use Rattle.fresh_opening.specs.Openings.{FreshOpens, OfFresh, GivesOfCard, AreGoneBySaying}
use Rattle.fresh_opening.specs.Orders.{AreSettled, IsTrueOrder}
use Rattle.last_lines.specs.Ends.{Ended}
use Rattle.command_words.specs.Jobs.{Job, IsJob}
use Rattle.job_story.specs.Attaching.{AttachesAll}
use Rattle.job_story.specs.Ends.{CardUnattached, DriveUnattached, NoMemory, last_of, opening_end}
use Rattle.job_story.specs.Story.{asked_by, Opens, Story, card_unattached, drive_unattached, unopened, unstocked, turned, RanJob}
use Rattle.job_run.specs.declared.attaching.Unattached.{Unattached}
use Rattle.job_run.specs.declared.attaching.Unattached.TheVariants.{Card, Drive}
use Rattle.job_run.specs.declared.job.OffloadJob.{OffloadJob}
use Rattle.job_run.specs.Asked.{job_by, HasNone}
use Rattle.job_run.specs.Attached.{HasPlaces, AttachesGive}
use Rattle.job_run.specs.Ending.{unattached_end}
use Rattle.job_run.specs.Turning.{OrderGoes}
use Rattle.job_run.proofs.Numbers.{HasNumbers, all_numbered}

-- ---- the words

-- the words of a job: five, and one for each drive
pub how_many : (asked : OffloadJob) (words : List (List ℕ)) → IsJob words (job_by asked words) → length (drop 5 words) ≡ asked.drives → length words ≡ 5 + asked.drives
how_many asked words job count = let n = ap (λ (l : List (List ℕ)). length l) job.spelled.words_are in omega (arith, n, count)

-- ---- the attaches

module _ (asked : OffloadJob) (words : List (List ℕ)) (source : ℕ) (old mid : World) (none : HasNone old.attached) (count : length (drop 5 words) ≡ asked.drives)
    (gives : (job : Job) → HasPlaces words job → AttachesGive job (Ok source) old mid) where
  -- the card and all drives are attached, the card with the number 0
  pub all_of : (source ≡ 0) × AttachesAll (job_by asked words) old mid
  all_of = gives (job_by asked words) (record { card = refl; drives = refl })

  numbers : HasNumbers 1 (length (drop 5 words)) mid.attached
  numbers = all_numbered (job_by asked words) old mid none all_of.1

  pub card_there : source < mid.attached.sources
  card_there = let n = numbers.cards in let s = all_of.0 in omega (arith, n, s)

  pub drives_there : asked.drives ≤ mid.attached.drives
  drives_there = let n = numbers.disks in omega (arith, n, count)

-- ---- the opening

-- an opening of a card to so many drives
record OpensTo (job : Job) (source drives : ℕ) (came : Result Order FreshError) (old new : World) : Type 0 where
  opens : FreshOpens source drives job.copies (asked_by job.task) came old new
  true_order : IfOk came (λ order. AreSettled 0 drives old → IsTrueOrder order new)
  of_card : (m : Map) → Steady old source m → AllDated m (old.attached.card_dates source) → GivesOfCard m (old.attached.card_dates source) came
  untouched : Went (OfFresh source drives) IsUntouched old new
  gone : IfOk came (λ order. AreGoneBySaying 0 drives order.drives.items old new)

pub opens_job : (job : Job) (source drives : ℕ) (came : Result Order FreshError) (old new : World) → source ≡ 0 → length job.drives ≡ drives → FreshOpens source drives job.copies (asked_by job.task) came old new
    → IfOk came (λ order. AreSettled 0 drives old → IsTrueOrder order new)
    → ((m : Map) → Steady old source m → AllDated m (old.attached.card_dates source) → GivesOfCard m (old.attached.card_dates source) came)
    → Went (OfFresh source drives) IsUntouched old new
    → IfOk came (λ order. AreGoneBySaying 0 drives order.drives.items old new)
    → Opens job came old new
opens_job job source drives came old new first count opens true_order of_card untouched gone =
    let to = subst (λ (n : ℕ). OpensTo job 0 n came old new) (sym count)
    (subst (λ (s : ℕ). OpensTo job s drives came old new) first (record { opens = opens; true_order = true_order; of_card = of_card; untouched = untouched; gone = gone })) in
    record { opens = to.opens; true_order = to.true_order; of_card = to.of_card; untouched = to.untouched; gone = to.gone }

-- ---- the whole

-- a folder was not attached
pub ran_unattached : (job : Job) (u : Unattached) (result : ℕ) (old mid new : World) → AttachesGive job (Err u) old mid → Ended (last_of (unattached_end u)) result mid new → RanJob job result old new
ran_unattached job Card result old mid new gives ended = (CardUnattached, card_unattached gives.0 mid refl gives.1 ended)
ran_unattached job (Drive d) result old mid new lacks ended = (DriveUnattached d, drive_unattached d mid refl lacks ended)

-- the opening gave no order
pub ran_unopened : (job : Job) (e : FreshError) (result : ℕ) (old mid late new : World) → AttachesAll job old mid → Opens job (Err e) mid late → Ended (last_of (opening_end e)) result late new → RanJob job result old new
ran_unopened job e result old mid late new all opens ended = (opening_end e, unopened e mid late refl all opens ended)

-- it gave one, and that was run
pub ran_order : (job : Job) (order : Order) (result : ℕ) (old mid late new : World) → AttachesAll job old mid → Opens job (Ok order) mid late → OrderGoes job order result late new → RanJob job result old new
ran_order job order result old mid late new all opens (inl ended) = (NoMemory, unstocked order mid late refl all opens ended)
ran_order job order result old mid late new all opens (inr goes) = (goes.end, turned order mid late goes.done all opens goes.turns goes.ended)
