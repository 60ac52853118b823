-- The calls of a run up to the end of its opening, and those behind them.
use Rattle.std.proofs.Common.{◌≡◌, List, [], ◌∷◌, ◌++◌}
use Rattle.std.specs.Prelude.{Some, Result}
use Rattle.bay_core.specs.declared.event.Event.{Event}
use Rattle.bay_core.specs.declared.event.Event.TheVariants.{AttachSource}
use Rattle.bay_core.specs.Looks.{IsUntouched}
use Rattle.bay_core.specs.World.{World}
use Rattle.drive_journal.specs.declared.order.Order.{Order}
use Rattle.fresh_opening.specs.declared.error.FreshError.{FreshError}
use Rattle.command_words.specs.Jobs.{Job}
use Rattle.job_story.specs.Attaching.{AttachesAll}
use Rattle.job_story.specs.Story.{Opens}
use Rattle.job_calls.specs.Calls.{job_attaches, drive_attaches}
use Rattle.job_calls.proofs.Attaching.{Makes, card_makes, drives_make, makes_then}
use Rattle.job_calls.proofs.Told.{Tells, cut, first_is, told_first, told_behind, next_is, tells_went, tells_such, tells_then}

-- a run whose folders were attached and that opened, with its calls; and such calls came behind the opening
pub record OpenedRun (job : Job) (P : List Event → Type 0) (mid late : World) (past since : List Event) : Type 0 where
  pub opening : List Event
  pub more : List Event
  pub was : mid.events ≡ Some (past ++ job_attaches job)
  pub now : late.events ≡ Some ((past ++ job_attaches job) ++ opening)
  pub is : since ≡ job_attaches job ++ (opening ++ more)
  pub untouched : IsUntouched opening
  pub such : P more

attaches_told : (job : Job) (old mid : World) → AttachesAll job old mid → Makes (job_attaches job) old mid
attaches_told job old mid a = makes_then (AttachSource 0 job.card ∷ []) (drive_attaches 0 job.drives) (card_makes job.card old a.mid a.card) (drives_make job.drives 0 a.mid mid a.drives)

opens_told : (job : Job) (came : Result Order FreshError) (mid late : World) → Opens job came mid late → Tells IsUntouched mid late
opens_told job came mid late o = tells_such (λ L both. both.1) (tells_went o.untouched)

pub opened_run : {P : List Event → Type 0} (job : Job) (came : Result Order FreshError) (old mid late new : World) (past since : List Event) → AttachesAll job old mid → Opens job came mid late → Tells P late new → old.events ≡ Some past → new.events ≡ Some (past ++ since) → OpenedRun job P mid late past since
opened_run {P} job came old mid late new past since a o behind was now =
    let one = cut (attaches_told job old mid a) (tells_then (opens_told job came mid late o) behind) past since was now in
    let at : mid.events ≡ Some (past ++ job_attaches job) = told_first mid past one.first (job_attaches job) one.at one.here in
    let rest : since ≡ job_attaches job ++ one.second = first_is since one.first (job_attaches job) one.second one.is one.here in
    let whole : new.events ≡ Some ((past ++ job_attaches job) ++ one.second) = told_behind new past since (job_attaches job) one.second now rest in
    let two = cut (opens_told job came mid late o) behind (past ++ job_attaches job) one.second at whole in
    record { opening = two.first; more = two.second; was = at; now = two.at; is = next_is since (job_attaches job) one.second two.first two.second rest two.is; untouched = two.here; such = two.there }
