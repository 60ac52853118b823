-- A run of a job whose calls are told, part by part.
use Rattle.std.proofs.Common.{◌≡◌, ℕ, suc, List, [], ◌∷◌, ◌++◌, length, take, refl, sym, ap, ◌∙◌, subst}
use Rattle.std.specs.Prelude.{Some, Result, Ok, Err}
use Rattle.bay_core.specs.declared.event.Event.{Event}
use Rattle.bay_core.specs.declared.event.Event.TheVariants.{AttachSource}
use Rattle.bay_core.specs.declared.failed.Failed.{Failed as DeviceFailed}
use Rattle.bay_core.specs.Attach.{CardAttaches}
use Rattle.bay_core.specs.Looks.{IsUntouched}
use Rattle.bay_core.specs.Went.{AllOn, Went}
use Rattle.bay_core.specs.World.{World}
use Rattle.drive_journal.specs.declared.order.Order.{Order}
use Rattle.fresh_opening.specs.declared.error.FreshError.{FreshError}
use Rattle.fresh_opening.specs.Openings.{OfFresh}
use Rattle.run_state.specs.Calls.{IsOfRun}
use Rattle.run_state.specs.Rules.{IsRun}
use Rattle.run_state.specs.Runs.{Point, Alone}
use Rattle.run_state.specs.State.{Ordered}
use Rattle.offload_run.specs.Offload.{ordered_of, stands_at}
use Rattle.run_calls.specs.Own.{NoListing}
use Rattle.command_words.specs.Jobs.{Job}
use Rattle.last_lines.specs.Ends.{Ended}
use Rattle.job_story.specs.Attaching.{AttachesDrives, AttachesAll, LacksDrive}
use Rattle.job_story.specs.Ends.{JobEnd, NoMemory, CardUnattached, DriveUnattached, last_of, opening_end}
use Rattle.job_story.specs.Story.{Story, card_unattached, drive_unattached, unopened, unstocked, turned, Opens, Turns, asked_by}
use Rattle.job_calls.specs.Calls.{job_attaches, drive_attaches, StopsAttaching}
use Rattle.job_calls.specs.Told.{RanTold}
use Rattle.job_calls.proofs.Attaching.{Makes, card_makes, drives_make, makes_then, failed_makes, card_fails, first_attaches, NoDevice, no_device, no_device_then, failed_no_device}
use Rattle.job_calls.proofs.Ending.{Lasts, lasts_attach_none}
use Rattle.job_calls.proofs.Opened.{OpeningCalls, opening_told}
use Rattle.job_calls.proofs.Told.{Tells, cut, first_is, told_first, told_behind, next_is, tells_went, tells_such, tells_then, tells_both}

-- ---- the parts

-- all folders were attached, and nothing else was called
pub record Begun (job : Job) (past : List Event) (old mid : World) : Type 0 where
  pub attached : AttachesAll job old mid
  pub now : mid.events ≡ Some (past ++ job_attaches job)

-- an opening with its calls, which came behind these
pub record Opened (job : Job) (came : Result Order FreshError) (before L : List Event) (mid late : World) : Type 0 where
  pub opens : Opens job came mid late
  pub was : mid.events ≡ Some before
  pub now : late.events ≡ Some (before ++ L)
  pub on : AllOn (OfFresh 0 (length job.drives)) L
  pub untouched : IsUntouched L
  pub calls : OpeningCalls (length job.drives) came L

-- the turns of a run with their calls, which came behind these
pub record Turned (job : Job) (order : Order) (end : JobEnd) (before L : List Event) (late done : World) : Type 0 where
  pub turns : Turns job order end late done
  pub was : late.events ≡ Some before
  pub now : done.events ≡ Some (before ++ L)
  pub on : AllOn (IsOfRun (ordered_of turns.run) (stands_at turns.run).drives) L
  pub none : NoListing L
  pub same : done.attached ≡ late.attached

-- how a run ends that made no turn, by the answer of its opening
abbrev pub EndsBy : Result Order FreshError → JobEnd → Type 0
EndsBy (Ok order) end = end ≡ NoMemory
EndsBy (Err e) end = end ≡ opening_end e

-- What was attached behind a run, and by which of its calls: nothing; or the card and then drives, from these folders, and nothing behind them.
pub data Stands (job : Job) (past since : List Event) (old new : World) : Type 0 where
  bare : new.attached ≡ old.attached → NoDevice since → Stands job past since old new
  stocked : (places : List (List ℕ)) (mid late : World) (rest : List Event) → CardAttaches job.card (Ok 0) old mid → AttachesDrives 0 places mid late → late.events ≡ Some (past ++ (AttachSource 0 job.card ∷ drive_attaches 0 places)) → new.attached ≡ late.attached
      → since ≡ (AttachSource 0 job.card ∷ drive_attaches 0 places) ++ rest → NoDevice rest → Stands job past since old new

-- The calls of a run: it stopped at an attach; it stopped behind its opening; or its turns were made.
pub data Parts (job : Job) (end : JobEnd) (result : ℕ) (past since : List Event) (old new : World) : Type 0 where
  halted : StopsAttaching job end result since → Stands job past since old new → Parts job end result past since old new
  opened : (came : Result Order FreshError) (mid late : World) (opening last : List Event) → EndsBy came end → Begun job past old mid → Opened job came (past ++ job_attaches job) opening mid late → Lasts end result last
      → new.attached ≡ late.attached → since ≡ job_attaches job ++ (opening ++ last) → Parts job end result past since old new
  ran : (order : Order) (mid late done : World) (opening turning last : List Event) → Begun job past old mid → Opened job (Ok order) (past ++ job_attaches job) opening mid late
      → Turned job order end ((past ++ job_attaches job) ++ opening) turning late done → Lasts end result last → new.attached ≡ done.attached → since ≡ job_attaches job ++ (opening ++ (turning ++ last)) → Parts job end result past since old new

-- ---- what each part tells

-- what the laws of runs say of the calls of turns
abbrev pub CallsOwn : Type 0
CallsOwn = (o : Ordered) (a b : Point) → IsRun o a.at → Alone o a b → Went (IsOfRun o a.at.drives) NoListing a.world b.world

all_told : (job : Job) (old mid : World) → AttachesAll job old mid → Makes (job_attaches job) old mid
all_told job old mid a = makes_then (AttachSource 0 job.card ∷ []) (drive_attaches 0 job.drives) (card_makes job.card old a.mid a.card) (drives_make job.drives 0 a.mid mid a.drives)

last_told : (end : JobEnd) (result : ℕ) (late new : World) → Ended (last_of end) result late new → Tells (Lasts end result) late new
last_told end result late new e = tells_such (λ L both. record { on = both.0; calls = both.1 }) (tells_went e.went)

abbrev OpeningTold : Job → Result Order FreshError → List Event → Type 0
OpeningTold job came L = (AllOn (OfFresh 0 (length job.drives)) L × IsUntouched L) × OpeningCalls (length job.drives) came L

opens_told : (job : Job) (came : Result Order FreshError) (mid late : World) → Opens job came mid late → Tells (OpeningTold job came) mid late
opens_told job came mid late o = tells_both (tells_went o.untouched) (opening_told (length job.drives) job.copies (asked_by job.task) came mid late o.opens)

pub turns_went : CallsOwn → (job : Job) (order : Order) (end : JobEnd) (late done : World) (t : Turns job order end late done) → Went (IsOfRun (ordered_of t.run) (stands_at t.run).drives) NoListing late done
turns_went own job order end late done t =
    own (ordered_of t.run) (record { at = stands_at t.run; pool = t.pool; world = late }) (record { at = stands_at t.then_run; pool = t.then_pool; world = done }) t.starts.run t.alone

-- ---- the whole

module _ (job : Job) (end : JobEnd) (result : ℕ) (old new : World) (past since : List Event) (was : old.events ≡ Some past) (now : new.events ≡ Some (past ++ since)) where
  opened_parts : (came : Result Order FreshError) (mid late : World) → EndsBy came end → AttachesAll job old mid → Opens job came mid late → Ended (last_of end) result late new → Parts job end result past since old new
  opened_parts came mid late ends a o e =
      let one = cut (all_told job old mid a) (tells_then (opens_told job came mid late o) (last_told end result late new e)) past since was now in
      let at : mid.events ≡ Some (past ++ job_attaches job) = told_first mid past one.first (job_attaches job) one.at one.here in
      let rest : since ≡ job_attaches job ++ one.second = first_is since one.first (job_attaches job) one.second one.is one.here in
      let whole : new.events ≡ Some ((past ++ job_attaches job) ++ one.second) = told_behind new past since (job_attaches job) one.second now rest in
      let two = cut (opens_told job came mid late o) (last_told end result late new e) (past ++ job_attaches job) one.second at whole in
      opened came mid late two.first two.second ends (record { attached = a; now = at })
      (record { opens = o; was = at; now = two.at; on = two.here.0.0; untouched = two.here.0.1; calls = two.here.1 })
      two.there e.went.attached (next_is since (job_attaches job) one.second two.first two.second rest two.is)

  ran_parts : CallsOwn → (order : Order) (mid late done : World) → AttachesAll job old mid → Opens job (Ok order) mid late → Turns job order end late done → Ended (last_of end) result done new → Parts job end result past since old new
  ran_parts own order mid late done a o t e =
      let went = turns_went own job order end late done t in
      let behind = tells_then (tells_went went) (last_told end result done new e) in
      let one = cut (all_told job old mid a) (tells_then (opens_told job (Ok order) mid late o) behind) past since was now in
      let at : mid.events ≡ Some (past ++ job_attaches job) = told_first mid past one.first (job_attaches job) one.at one.here in
      let rest : since ≡ job_attaches job ++ one.second = first_is since one.first (job_attaches job) one.second one.is one.here in
      let whole : new.events ≡ Some ((past ++ job_attaches job) ++ one.second) = told_behind new past since (job_attaches job) one.second now rest in
      let two = cut (opens_told job (Ok order) mid late o) behind (past ++ job_attaches job) one.second at whole in
      let far : new.events ≡ Some (((past ++ job_attaches job) ++ two.first) ++ two.second) = told_behind new (past ++ job_attaches job) one.second two.first two.second whole two.is in
      let three = cut (tells_went went) (last_told end result done new e) ((past ++ job_attaches job) ++ two.first) two.second two.at far in
      ran order mid late done two.first three.first three.second (record { attached = a; now = at })
      (record { opens = o; was = at; now = two.at; on = two.here.0.0; untouched = two.here.0.1; calls = two.here.1 })
      (record { turns = t; was = two.at; now = three.at; on = three.here.0; none = three.here.1; same = went.attached })
      three.there e.went.attached
      (next_is since (job_attaches job) one.second two.first (three.first ++ three.second) rest (next_is one.second two.first two.second three.first three.second two.is three.is))

  -- ---- stopped at an attach

  last_no_device : (last : List Event) → Lasts end result last → NoDevice last
  last_no_device last lasts = no_device last (lasts_attach_none end result last lasts)

  card_parts : (mid : World) (error : DeviceFailed) → end ≡ CardUnattached → CardAttaches job.card (Err error) old mid → Ended (last_of end) result mid new → Parts job end result past since old new
  card_parts mid error ends failed e =
      let one = cut (card_fails job.card error old mid failed) (last_told end result mid new e) past since was now in
      halted
      (record { n = 0; place = job.card; is_place = refl; failed = one.first; last = one.second; is = one.is; seen = one.here; ends = ends; lines = one.there.calls })
      (bare (e.went.attached ∙ failed.numbered) (subst NoDevice (sym one.is) (no_device_then one.first one.second (failed_no_device job.card one.first one.here) (last_no_device one.second one.there))))

  drive_parts : (d : ℕ) (mid : World) → end ≡ DriveUnattached d → LacksDrive job d old mid → Ended (last_of end) result mid new → Parts job end result past since old new
  drive_parts d mid ends l e =
      let folders : List (List ℕ) = take d job.drives in
      let attaches : List Event = AttachSource 0 job.card ∷ drive_attaches 0 folders in
      let began = makes_then (AttachSource 0 job.card ∷ []) (drive_attaches 0 folders) (card_makes job.card old l.before.mid l.before.card) (drives_make folders 0 l.before.mid l.mid l.before.drives) in
      let one = cut began (tells_then (failed_makes l.place l.error l.mid mid l.failed) (last_told end result mid new e)) past since was now in
      let is : since ≡ attaches ++ one.second = first_is since one.first attaches one.second one.is one.here in
      let first : attaches ≡ take (suc d) (job_attaches job) = ap (λ (k : List Event). AttachSource 0 job.card ∷ k) (sym (first_attaches d 0 job.drives)) in
      halted
      (record {
        n = suc d;
        place = l.place;
        is_place = l.is_place;
        failed = one.there.first;
        last = one.there.second;
        is = is ∙ (λ i. first i ++ one.there.is i);
        seen = one.there.here;
        ends = ends;
        lines = one.there.there.calls;
      })
      (stocked folders l.before.mid l.mid one.second l.before.card l.before.drives (told_first l.mid past one.first attaches one.at one.here) (e.went.attached ∙ l.failed.numbered) is
      (subst NoDevice (sym one.there.is) (no_device_then one.there.first one.there.second (failed_no_device l.place one.there.first one.there.here) (last_no_device one.there.second one.there.there))))

  pub story_parts : CallsOwn → Story job end result old new → Parts job end result past since old new
  story_parts own (card_unattached error mid ends failed e) = card_parts mid error ends failed e
  story_parts own (drive_unattached d mid ends lacks e) = drive_parts d mid ends lacks e
  story_parts own (unopened error mid late ends a o e) = opened_parts (Err error) mid late ends a o e
  story_parts own (unstocked order mid late ends a o e) = opened_parts (Ok order) mid late ends a o e
  story_parts own (turned order mid late done a o t e) = ran_parts own order mid late done a o t e

-- the parts of a run whose calls are told
pub parts_of : CallsOwn → (job : Job) (end : JobEnd) (result : ℕ) (old new : World) (past since : List Event) → RanTold job end result old new past since → Parts job end result past since old new
parts_of own job end result old new past since r = story_parts job end result old new past since r.was r.now own r.story
