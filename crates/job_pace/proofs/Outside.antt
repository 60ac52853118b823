-- The calls of a run of a job outside its turns are no acts.
use Rattle.std.proofs.Common.{◌≡◌, inl, inr, ℕ, zero, suc, true, false, List, [], ◌∷◌, ◌++◌, length, take, refl, sym, subst}
use Rattle.std.specs.Prelude.{Result}
use Rattle.std.proofs.lemmas.Bool.{false≢true}
use Rattle.bay_core.specs.declared.event.Event.{Event}
use Rattle.bay_core.specs.declared.event.Event.TheVariants.{AttachSource, AttachDrive, AttachFailed, SourceRead, Write, Pick}
use Rattle.bay_core.specs.Looks.{is_effect, IsUntouched}
use Rattle.bay_core.specs.Replay.{Attaching, device_of}
use Rattle.bay_core.specs.Went.{AllOn, MaySee}
use Rattle.bay_core.specs.World.{World}
use Rattle.drive_journal.specs.declared.order.Order.{Order}
use Rattle.fresh_opening.specs.declared.error.FreshError.{FreshError}
use Rattle.fresh_opening.specs.Openings.{OfFresh}
use Rattle.command_words.specs.Jobs.{Job}
use Rattle.job_story.specs.Ends.{JobEnd}
use Rattle.job_calls.specs.Calls.{is_attach, job_attaches, StopsAttaching}
use Rattle.job_calls.proofs.Ending.{Lasts, lasts_of}
use Rattle.job_calls.proofs.Failing.{is_card_read, NoRead, opening_unread}
use Rattle.job_calls.proofs.Parts.{Opened}
use Rattle.job_losses.proofs.Attached.{AreAttaches as OnAttaching}
use Rattle.job_reads.proofs.Outside.{AreAttaches, all_attach}
use Rattle.run_pace.specs.Pace.{IsNoAct}
use Rattle.run_pace.proofs.Quiet.{NoActs, no_acts_then, output_no_acts}

-- ---- attaches

attach_one : (e : Event) → is_attach e ≡ true → IsNoAct e
attach_one (SourceRead s path at want got) is = absurd (false≢true is)
attach_one (Write d path at bytes ok) is = absurd (false≢true is)
attach_one (Pick n) is = absurd (false≢true is)
attach_one e is = tt

attaches_quiet : (L : List Event) → AreAttaches L → NoActs L
attaches_quiet [] all = tt
attaches_quiet (e ∷ L) all = (attach_one e all.0, attaches_quiet L all.1)

pub job_attaches_quiet : (job : Job) → NoActs (job_attaches job)
job_attaches_quiet job = attaches_quiet (job_attaches job) (all_attach job)

attach_device : (e : Event) → is_attach e ≡ true → device_of e ≡ Attaching
attach_device (AttachSource s place) is = refl
attach_device (AttachDrive d place) is = refl
attach_device (AttachFailed place) is = refl
attach_device _ is = absurd (false≢true is)

pub on_attaching : (L : List Event) → AreAttaches L → OnAttaching L
unfolding AllOn
on_attaching [] all = tt
on_attaching (e ∷ L) all = (attach_device e all.0, on_attaching L all.1)

quiet_take : (n : ℕ) (L : List Event) → NoActs L → NoActs (take n L)
quiet_take zero L all = tt
quiet_take (suc n) [] all = tt
quiet_take (suc n) (e ∷ L) all = (all.0, quiet_take n L all.1)

-- ---- an opening

opening_one : (count : ℕ) (e : Event) → OfFresh 0 count (device_of e) → is_effect e ≡ false → is_card_read e ≡ false → IsNoAct e
opening_one count (SourceRead s path at want got) on still unread = absurd (false≢true (sym unread))
opening_one count (Write d path at bytes ok) on still unread = absurd (false≢true (sym still))
opening_one count (Pick n) on still unread = absurd on
opening_one count e on still unread = tt

quiet_opening : (count : ℕ) (L : List Event) → AllOn (OfFresh 0 count) L → IsUntouched L → NoRead L → NoActs L
unfolding AllOn IsUntouched
quiet_opening count [] on still unread = tt
quiet_opening count (e ∷ L) on still unread = (opening_one count e on.0 still.0 unread.0, quiet_opening count L on.1 still.1 unread.1)

pub opening_quiet : (job : Job) (came : Result Order FreshError) (mid late : World) (before opening : List Event) → Opened job came before opening mid late → NoActs opening
opening_quiet job came mid late before opening o = quiet_opening (length job.drives) opening o.on o.untouched (opening_unread (length job.drives) came opening o.calls)

-- ---- the last lines, and a run that stopped at an attach

pub last_quiet : (end : JobEnd) (result : ℕ) (last : List Event) → Lasts end result last → NoActs last
last_quiet end result last lasts = output_no_acts last lasts.on

seen_quiet : (place : List ℕ) (L : List Event) → MaySee (AttachFailed place) L → NoActs L
seen_quiet place L (inl none) = subst NoActs (sym none) tt
seen_quiet place L (inr one) = subst NoActs (sym one) (tt, tt)

pub stopped_quiet : (job : Job) (end : JobEnd) (result : ℕ) (L : List Event) → StopsAttaching job end result L → NoActs L
stopped_quiet job end result L s =
    subst NoActs (sym s.is)
    (no_acts_then (take s.n (job_attaches job)) (s.failed ++ s.last) (quiet_take s.n (job_attaches job) (job_attaches_quiet job))
    (no_acts_then s.failed s.last (seen_quiet s.place s.failed s.seen) (last_quiet end result s.last (lasts_of end result s.last s.lines))))
