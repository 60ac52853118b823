-- The devices that a run calls, and its attaches.
use Rattle.std.proofs.Common.{◌≡◌, ◌≢◌, inl, inr, ℕ, zero, suc, Bool, true, false, List, [], ◌∷◌, ◌++◌, length, take, refl, sym, ◌∙◌, ap, subst}
use Rattle.std.specs.Prelude.{Result, Ok, Err}
use Rattle.std.proofs.lemmas.Bool.{false≢true}
use Rattle.bay_core.specs.declared.event.Event.{Event}
use Rattle.bay_core.specs.declared.event.Event.TheVariants.{AttachFailed}
use Rattle.bay_core.specs.Replay.{Device, Source, Drive, Attaching, Output, Clock, Picker}
use Rattle.bay_core.specs.Went.{AllOn, Only, MaySee}
use Rattle.bay_core.specs.World.{World}
use Rattle.bay_core.proofs.Runs.{AllOn-append, all_on, none_on, one_on}
use Rattle.card_inventory.specs.declared.error.InventoryError.{InventoryError}
use Rattle.card_inventory.specs.declared.error.InventoryError.TheVariants.{SourceFailed, EmptyCard, TooManyFiles, BadPath, BadDate, TooManyBytes, Control, TooBig, Clash as FilesClash, Memory as CardMemory}
use Rattle.drive_journal.specs.declared.order.Order.{Order}
use Rattle.fresh_opening.specs.declared.error.FreshError.{FreshError}
use Rattle.fresh_opening.specs.declared.error.FreshError.TheVariants.{Inventory, NotAJournal, AlreadyBegun, NoDrive, Clash, Occupied, OutFailed as LineFailed, Memory}
use Rattle.fresh_opening.specs.Openings.{OfFresh}
use Rattle.copy_plan.specs.Plan.{PlanValue}
use Rattle.run_state.specs.declared.outcome.Outcome.{Outcome}
use Rattle.run_state.specs.declared.outcome.Outcome.TheVariants.{Going, Finished, NoDrive as NoneLeft, SourceFailed as CardLost, Changed, Altered, OutFailed as LineLost}
use Rattle.run_state.specs.Calls.{IsOfRun}
use Rattle.run_state.specs.State.{At}
use Rattle.offload_run.specs.Offload.{ordered_of, stands_at}
use Rattle.command_words.specs.Jobs.{Job}
use Rattle.job_story.specs.Ends.{JobEnd, CardUnattached, DriveUnattached, opening_end}
use Rattle.job_story.specs.Story.{EndsAs}
use Rattle.job_calls.specs.Calls.{IsOfJob, NoAttach, job_attaches, drive_attaches, unattached_end, StopsAttaching, AttachesInOrder}
use Rattle.job_calls.proofs.Attaching.{no_attach, no_attach_then, no_device}
use Rattle.job_calls.proofs.Ending.{Lasts, lasts_of, lasts_attach_none}
use Rattle.job_calls.proofs.Parts.{Stands, stocked, Parts, halted, opened, ran, EndsBy, Opened, Turned}
use Rattle.job_calls.proofs.Turning.{IsOfSights, of_sights, called_drive}

-- ---- devices

drives_on : (job : Job) (d : ℕ) (places : List (List ℕ)) → AllOn (IsOfJob job) (drive_attaches d places)
unfolding AllOn
drives_on job d [] = tt
drives_on job d (place ∷ places) = (tt, drives_on job (suc d) places)

attaches_on : (job : Job) → AllOn (IsOfJob job) (job_attaches job)
unfolding AllOn
attaches_on job = (tt, drives_on job 0 job.drives)

take_on : (On : Device → Type 0) (n : ℕ) (L : List Event) → AllOn On L → AllOn On (take n L)
unfolding AllOn
take_on On zero L on = tt
take_on On (suc n) [] on = tt
take_on On (suc n) (e ∷ L) on = (on.0, take_on On n L on.1)

see_on : (job : Job) (place : List ℕ) (L : List Event) → MaySee (AttachFailed place) L → AllOn (IsOfJob job) L
see_on job place L (inl none) = subst (AllOn (IsOfJob job)) (sym none) (none_on (IsOfJob job))
see_on job place L (inr one) = subst (AllOn (IsOfJob job)) (sym one) (one_on (IsOfJob job) (AttachFailed place) tt)

lasts_on : (job : Job) (L : List Event) → AllOn (Only Output) L → AllOn (IsOfJob job) L
lasts_on job L on = all_on (λ x is. subst (IsOfJob job) (sym is) tt) L on

of_fresh : (job : Job) (x : Device) → OfFresh 0 (length job.drives) x → IsOfJob job x
of_fresh job (Source s) on = on
of_fresh job (Drive d) on = on
of_fresh job Output on = tt
of_fresh job Clock on = tt
of_fresh job Attaching on = tt
of_fresh job Picker on = tt

opening_on : (job : Job) (L : List Event) → AllOn (OfFresh 0 (length job.drives)) L → AllOn (IsOfJob job) L
opening_on job L on = all_on (of_fresh job) L on

module _ (job : Job) (order : Order) (end : JobEnd) (before L : List Event) {mid late done : World} (first opening : List Event) (o : Opened job (Ok order) first opening mid late) (t : Turned job order end before L late done) where
  pub sights_of : IsOfSights job order t.turns.run
  sights_of = of_sights job order t.turns.run mid late o.opens t.turns.of

  of_run : (x : Device) → IsOfRun (ordered_of t.turns.run) (stands_at t.turns.run).drives x → IsOfJob job x
  of_run (Source s) on = on ∙ sights_of.source
  of_run (Drive d) on = called_drive job order t.turns.run sights_of d on
  of_run Output on = tt
  of_run Clock on = tt
  of_run Picker on = tt
  of_run Attaching on = tt

  pub turns_on : AllOn (IsOfJob job) L
  turns_on = all_on of_run L t.on

module _ (job : Job) (end : JobEnd) (result : ℕ) (past since : List Event) (old new : World) where
  both_on : (A B : List Event) → AllOn (IsOfJob job) A → AllOn (IsOfJob job) B → AllOn (IsOfJob job) (A ++ B)
  both_on A B one two = AllOn-append (IsOfJob job) A B one two

  halted_on : StopsAttaching job end result since → AllOn (IsOfJob job) since
  halted_on s =
      let last : AllOn (IsOfJob job) s.last = lasts_on job s.last (lasts_of end result s.last s.lines).on in
      subst (AllOn (IsOfJob job)) (sym s.is)
      (both_on (take s.n (job_attaches job)) (s.failed ++ s.last) (take_on (IsOfJob job) s.n (job_attaches job) (attaches_on job)) (both_on s.failed s.last (see_on job s.place s.failed s.seen) last))

  pub own_devices : Parts job end result past since old new → AllOn (IsOfJob job) since
  own_devices (halted s there) = halted_on s
  own_devices (opened came mid late opening last ends b o lasts same is) = subst (AllOn (IsOfJob job)) (sym is)
      (both_on (job_attaches job) (opening ++ last) (attaches_on job) (both_on opening last (opening_on job opening o.on) (lasts_on job last lasts.on)))
  own_devices (ran order mid late done opening turning last b o t lasts same is) = subst (AllOn (IsOfJob job)) (sym is)
      (both_on (job_attaches job) (opening ++ (turning ++ last)) (attaches_on job)
      (both_on opening (turning ++ last) (opening_on job opening o.on)
      (both_on turning last (turns_on job order end ((past ++ job_attaches job) ++ opening) turning (past ++ job_attaches job) opening o t) (lasts_on job last lasts.on))))

-- ---- how a run ends that attached all

-- it ended at an attach
abbrev is_unattached : JobEnd → Bool
is_unattached CardUnattached = true
is_unattached (DriveUnattached d) = true
is_unattached _ = false

unattached_is : (n : ℕ) → is_unattached (unattached_end n) ≡ true
unattached_is zero = refl
unattached_is (suc d) = refl

listing_not : (e : InventoryError) → is_unattached (opening_end (Inventory e)) ≡ false
listing_not SourceFailed = refl
listing_not EmptyCard = refl
listing_not (TooManyFiles count) = refl
listing_not (BadPath index cause) = refl
listing_not (BadDate path) = refl
listing_not (TooManyBytes sum) = refl
listing_not (Control path) = refl
listing_not (TooBig path) = refl
listing_not (FilesClash first second) = refl
listing_not CardMemory = refl

opening_not : (e : FreshError) → is_unattached (opening_end e) ≡ false
opening_not (Inventory e) = listing_not e
opening_not (NotAJournal d at) = refl
opening_not (AlreadyBegun d) = refl
opening_not NoDrive = refl
opening_not (Clash list path) = refl
opening_not (Occupied d path) = refl
opening_not LineFailed = refl
opening_not Memory = refl

pub opened_not : (came : Result Order FreshError) (end : JobEnd) → EndsBy came end → is_unattached end ≡ false
opened_not (Ok order) end is = ap is_unattached is
opened_not (Err e) end is = ap is_unattached is ∙ opening_not e

pub turned_not : (n : ℕ) (p : PlanValue) (at : At) (outcome : Outcome) (end : JobEnd) → EndsAs n p at outcome end → is_unattached end ≡ false
turned_not n p at Finished end (inl (all, is)) = ap is_unattached is
turned_not n p at Finished end (inr (some, is)) = ap is_unattached is
turned_not n p at NoneLeft end is = ap is_unattached is
turned_not n p at CardLost end is = ap is_unattached is
turned_not n p at (Changed index listed read) end (file, there, is) = ap is_unattached is
turned_not n p at LineLost end is = ap is_unattached is
turned_not n p at (Altered index listed read) end never = absurd never
turned_not n p at Going end never = absurd never

pub attached_end : (end : JobEnd) → is_unattached end ≡ false → (n : ℕ) → end ≢ unattached_end n
attached_end end not n is = false≢true (sym not ∙ ap is_unattached is ∙ unattached_is n)

module _ (job : Job) (end : JobEnd) (result : ℕ) (past since : List Event) (old new : World) where
  -- behind its attaches a run that opened makes none
  opened_none : (opening last : List Event) → AllOn (OfFresh 0 (length job.drives)) opening → Lasts end result last → NoAttach (opening ++ last)
  opened_none opening last on lasts = no_attach_then opening last (no_attach (OfFresh 0 (length job.drives)) (λ not. not) opening on) (lasts_attach_none end result last lasts)

  ran_none : (order : Order) (before opening turning last : List Event) (late done : World) → AllOn (OfFresh 0 (length job.drives)) opening → Turned job order end before turning late done → Lasts end result last → NoAttach (opening ++ (turning ++ last))
  ran_none order before opening turning last late done on t lasts =
      no_attach_then opening (turning ++ last) (no_attach (OfFresh 0 (length job.drives)) (λ not. not) opening on)
      (no_attach_then turning last (no_attach (IsOfRun (ordered_of t.turns.run) (stands_at t.turns.run).drives) (λ not. not) turning t.on) (lasts_attach_none end result last lasts))

  pub stands_of : Parts job end result past since old new → Stands job past since old new
  stands_of (halted s there) = there
  stands_of (opened came mid late opening last ends b o lasts same is) =
      stocked job.drives b.attached.mid mid (opening ++ last) b.attached.card b.attached.drives b.now (same ∙ o.opens.untouched.attached) is (no_device (opening ++ last) (opened_none opening last o.on lasts))
  stands_of (ran order mid late done opening turning last b o t lasts same is) =
      stocked job.drives b.attached.mid mid (opening ++ (turning ++ last)) b.attached.card b.attached.drives b.now (same ∙ t.same ∙ o.opens.untouched.attached) is
      (no_device (opening ++ (turning ++ last)) (ran_none order ((past ++ job_attaches job) ++ opening) opening turning last late done o.on t lasts))

  pub in_order : Parts job end result past since old new → AttachesInOrder job end result since
  in_order (halted s there) = inr s
  in_order (opened came mid late opening last ends b o lasts same is) =
      inl (record {
        rest = opening ++ last;
        is = is;
        no_other = opened_none opening last o.on lasts;
        ends = attached_end end (opened_not came end ends);
      })
  in_order (ran order mid late done opening turning last b o t lasts same is) =
      inl (record {
        rest = opening ++ (turning ++ last);
        is = is;
        no_other = ran_none order ((past ++ job_attaches job) ++ opening) opening turning last late done o.on t lasts;
        ends = attached_end end (turned_not (length job.drives) (ordered_of t.turns.run).plan (stands_at t.turns.then_run) (stands_at t.turns.then_run).outcome end t.turns.ends);
      })
