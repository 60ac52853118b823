-- A run is refused exactly where the listing of its card and the maps of its drives give a refusal, with the first one, unless something ended it before.
use Rattle.std.proofs.Common.{◌≡◌, ◌≢◌, ◌⊎◌, inl, inr, ℕ, suc, ◌+◌, ◌≤◌, List, [], ◌∷◌, ◌++◌, length, refl, sym, ap, ◌∙◌, subst, arith}
use Rattle.std.specs.Prelude.{Some, None, Ok, Err}
use Rattle.bay_core.specs.declared.event.Event.{Event}
use Rattle.bay_core.specs.declared.event.Event.TheVariants.{SourceList}
use Rattle.bay_core.specs.declared.event.FileInfo.{FileInfo}
use Rattle.bay_core.specs.Replay.{Drive, Output}
use Rattle.bay_core.specs.World.{World}
use Rattle.card_inventory.specs.declared.error.InventoryError.{InventoryError}
use Rattle.card_inventory.specs.declared.error.InventoryError.TheVariants.{SourceFailed, EmptyCard, TooManyFiles, BadPath, BadDate, TooManyBytes, Control, TooBig, Clash as FilesClash, Memory as CardMemory}
use Rattle.card_inventory.specs.Card.{CardGives}
use Rattle.drive_journal.specs.declared.order.Order.{Order}
use Rattle.fresh_opening.specs.declared.error.FreshError.{FreshError}
use Rattle.fresh_opening.specs.declared.error.FreshError.TheVariants.{Inventory, NotAJournal, AlreadyBegun, NoDrive, Clash, Occupied, OutFailed as LineFailed, Memory}
use Rattle.fresh_opening.specs.Openings.{FreshLooks}
use Rattle.fresh_opening.specs.Refusals.{Scene, Applies, rank, NoneApplies}
use Rattle.last_lines.specs.Ends.{Ended}
use Rattle.offload_run.specs.Offload.{ordered_of, stands_at}
use Rattle.command_words.specs.Jobs.{Job}
use Rattle.job_story.specs.Attaching.{AttachesAll}
use Rattle.job_story.specs.Ends.{JobEnd, Refused, listing_end, last_of, opening_end}
use Rattle.job_story.specs.Plans.{IsCardListing}
use Rattle.job_story.specs.Run.{Run, run_with}
use Rattle.job_story.specs.Story.{asked_by, Opens, Turns, Story, card_unattached, drive_unattached, unopened, unstocked, turned}
use Rattle.job_calls.specs.Calls.{job_attaches, unattached_end}
use Rattle.job_calls.specs.Told.{RanTold}
use Rattle.job_calls.proofs.Ending.{Lasts}
use Rattle.job_calls.proofs.Owning.{in_order}
use Rattle.job_calls.proofs.Parts.{CallsOwn, parts_of, turns_went}
use Rattle.job_calls.proofs.Told.{Tells, tells_went, tells_such, tells_then, since_then}
use Rattle.job_losses.proofs.Attached.{attached_all}
use Rattle.job_losses.proofs.Told.{grows_went, grows_then, rose_in}
use Rattle.job_refusals.specs.First.{RefusesListing, HasInventory, RefusesBehind, IsFirstRefusal}
use Rattle.job_refusals.specs.Mapped.{IsSceneByMaps, IsBehindCard, IsUnheard, EndedBefore, RefusesByMaps}
use Rattle.job_refusals.proofs.Agreeing.{agrees, one_inventory}
use Rattle.job_refusals.proofs.Comparing.{Agrees, listed_not, which, one_first, same_scene, first_of_all, left_not, behind_seen}
use Rattle.job_refusals.proofs.Cutting.{OpenedRun, opened_run}
use Rattle.job_refusals.proofs.Firsts.{attaches_quiet, lines_quiet, halted_quiet, quiet_unlisted, AreUnlisted, none_such, first_one}
use Rattle.job_refusals.proofs.Refusing.{refused_by, turned_not, CardRefused, card_refused, not_failed}
use Rattle.job_refusals.proofs.Steadying.{failed_unlisted}

-- a card without an inventory: its listing failed, memory was wanting, or it refuses the run
refusing : (e : InventoryError) → (e ≡ SourceFailed) ⊎ ((e ≡ CardMemory) ⊎ (listing_end e ≡ Refused (Inventory e)))
refusing SourceFailed = inl refl
refusing CardMemory = inr (inl refl)
refusing EmptyCard = inr (inr refl)
refusing (TooManyFiles count) = inr (inr refl)
refusing (BadPath index cause) = inr (inr refl)
refusing (BadDate path) = inr (inr refl)
refusing (TooManyBytes sum) = inr (inr refl)
refusing (Control path) = inr (inr refl)
refusing (TooBig path) = inr (inr refl)
refusing (FilesClash first second) = inr (inr refl)

behind_card : (s : Scene) (e : FreshError) → Applies s e → IsBehindCard e
behind_card s (Inventory e) x = x
behind_card s _ x = tt

module _ (own : CallsOwn) (job : Job) (end : JobEnd) (result : ℕ) (old new : World) (past since : List Event) (r : RanTold job end result old new past since) (listed : List FileInfo) (s : Scene) (m : IsSceneByMaps (run_with job old new since) listed s) where
  abbrev run : Run
  run = run_with job old new since

  abbrev Claim : FreshError → Type 0
  Claim e = (end ≡ Refused e → IsFirstRefusal listed s e) × (IsFirstRefusal listed s e → (end ≡ Refused e) ⊎ EndedBefore run end e)

  few : s.first + length s.sights ≤ 8
  few = let first = m.first in let whole = m.whole in let eight = r.few in omega (arith, first, whole, eight)

  unlisted_not : AreUnlisted since → ⊥
  unlisted_not none = none_such IsCardListing since m.listing.before m.listing.after (SourceList 0 (Some listed)) none m.listing.is m.listing.such

  -- a run that ended with this first refusal
  refused_claim : (f : FreshError) → end ≡ opening_end f → opening_end f ≡ Refused f → IsFirstRefusal listed s f → (e : FreshError) → Claim e
  refused_claim f ends by first e =
      ((λ is. subst (λ (x : FreshError). IsFirstRefusal listed s x) (refused_by f e (sym ends ∙ is)) first), (λ other. inl (ends ∙ by ∙ ap Refused (one_first listed s few f e first other))))

  -- ---- an opening that gave no order

  module _ (f : FreshError) (mid late : World) (a : AttachesAll job old mid) (o : Opens job (Err f) mid late) (last : Ended (last_of end) result late new) where
    last_told : Tells (Lasts end result) late new
    last_told = tells_such (λ L both. record { on = both.0; calls = both.1 }) (tells_went last.went)

    c : OpenedRun job (Lasts end result) mid late past since
    c = opened_run job (Err f) old mid late new past since a o last_told r.was r.now

    -- ---- with its card alone

    refused_listing : (e : InventoryError) → CardRefused e mid late → RefusesListing listed e
    refused_listing e g = subst (λ (k : List FileInfo). RefusesListing k e) same g.refuses
      where
        one : c.opening ≡ SourceList 0 (Some g.listed) ∷ []
        one = since_then (tells_such (λ L both. both.1) (tells_went g.is.called.went)) (past ++ job_attaches job) c.opening c.was c.now

        both : SourceList 0 (Some g.listed) ≡ SourceList 0 (Some listed)
        both =
            (first_one IsCardListing (job_attaches job) c.more m.listing.before m.listing.after (SourceList 0 (Some g.listed)) (SourceList 0 (Some listed))
            (sym (c.is ∙ ap (λ (k : List Event). job_attaches job ++ (k ++ c.more)) one) ∙ m.listing.is) (quiet_unlisted (job_attaches job) (attaches_quiet job)) m.listing.none tt m.listing.such).0

        same : g.listed ≡ listed
        same = cc both

    failed_not : CardGives 0 (Err SourceFailed) mid late → ⊥
    failed_not g = unlisted_not (failed_unlisted job end result past since old new mid late c.opening c.more c.was c.now c.is (quiet_unlisted c.more (lines_quiet c.more c.such.on)) g)

    -- ---- with its drives

    module _ (l : FreshLooks 0 (length job.drives) job.copies (asked_by job.task) (Err f) mid late) where
      agreed : Agrees (length job.drives) l.scene s
      agreed = agrees job end result old mid late new past since r.was r.few (Err f) a (Lasts end result) c last.went.attached l (λ none. c.such) listed s m

      has : HasInventory listed
      has = (l.files, one_inventory job end result old mid late new past since r.was r.few (Err f) a (Lasts end result) c last.went.attached l (λ none. c.such) listed s m)

      refused_behind : (f ≡ NoDrive → ⊥) → (f ≡ LineFailed → ⊥) → (f ≡ Memory → ⊥) → RefusesBehind listed s f
      refused_behind left heard known = (has, first_of_all (length job.drives) l.scene s agreed f l.answer.0 l.answer.1 left heard known)

      -- so a refusal is one behind the card
      only_behind : (e : FreshError) → IsFirstRefusal listed s e → RefusesBehind listed s e
      only_behind e first = elim (which listed s e first) [ inl card ↦ absurd (listed_not listed card.0 has card.2) | inr behind ↦ behind ]

  -- the line of a lost drive was not said
  unheard : (mid late : World) → AttachesAll job old mid → (o : Opens job (Err LineFailed) mid late) → Ended (last_of end) result late new → (e : FreshError) → length o.opens.scene.sights ≤ rank e → IsUnheard run e
  unheard mid late a o last e early =
      let l = o.opens in
      let before = grows_then (attached_all job old mid a).attached.grows (grows_went l.card.1.called.went) in
      let from = l.from in
      let some = l.answer.0 in
      let rose = l.unsaid refl in
      record {
        d = l.scene.first + length l.scene.sights;
        within = omega (arith, from, some);
        early = omega (arith, from, early);
        lost = rose_in (Drive (l.scene.first + length l.scene.sights)) before (grows_went last.went) rose.0;
        unheard = rose_in Output before (grows_went last.went) rose.1;
      }

  unopened_claim : (f : FreshError) (mid late : World) → end ≡ opening_end f → AttachesAll job old mid → Opens job (Err f) mid late → Ended (last_of end) result late new → (e : FreshError) → Claim e
  unopened_claim (Inventory c) mid late ends a o last e = elim (refusing c) [
    | inl failed ↦ absurd (failed_not (Inventory c) mid late a o last (subst (λ (x : InventoryError). CardGives 0 (Err x) mid late) failed o.opens.1))
    | inr other ↦
        elim other [
          | inl wanting ↦ absurd (o.opens.0 wanting)
          | inr by ↦ refused_claim (Inventory c) ends by (refused_listing (Inventory c) mid late a o last c (card_refused c mid late (not_failed c by) o.opens.0 o.opens.1)) e
        ]
  ]
  unopened_claim (NotAJournal d at) mid late ends a o last e = refused_claim (NotAJournal d at) ends refl (refused_behind (NotAJournal d at) mid late a o last o.opens (λ is. cc is) (λ is. cc is) (λ is. cc is)) e
  unopened_claim (AlreadyBegun d) mid late ends a o last e = refused_claim (AlreadyBegun d) ends refl (refused_behind (AlreadyBegun d) mid late a o last o.opens (λ is. cc is) (λ is. cc is) (λ is. cc is)) e
  unopened_claim (Clash list path) mid late ends a o last e = refused_claim (Clash list path) ends refl (refused_behind (Clash list path) mid late a o last o.opens (λ is. cc is) (λ is. cc is) (λ is. cc is)) e
  unopened_claim (Occupied d path) mid late ends a o last e = refused_claim (Occupied d path) ends refl (refused_behind (Occupied d path) mid late a o last o.opens (λ is. cc is) (λ is. cc is) (λ is. cc is)) e
  unopened_claim NoDrive mid late ends a o last e = (
    (λ is. absurd (cc (sym ends ∙ is))),
    (λ first. absurd (left_not (length job.drives) o.opens.scene s (agreed NoDrive mid late a o last o.opens) o.opens.answer.0 o.opens.answer.1.applies listed e (only_behind NoDrive mid late a o last o.opens e first) first)),
  )
  unopened_claim LineFailed mid late ends a o last e = (
    (λ is. absurd (cc (sym ends ∙ is))),
    (λ first.
        let behind = only_behind LineFailed mid late a o last o.opens e first in
        let early = behind_seen (length job.drives) o.opens.scene s (agreed LineFailed mid late a o last o.opens) o.opens.answer.1 e behind.1.applies in
        inr (inr (behind_card s e behind.1.applies, ends, unheard mid late a o last e early))),
  )
  unopened_claim Memory mid late ends a o last e = ((λ is. absurd (cc (sym ends ∙ is))), (λ first. inr (inl ends)))

  -- ---- an opening that gave an order

  module _ (order : Order) (mid late done : World) (a : AttachesAll job old mid) (o : Opens job (Ok order) mid late) (t : Turns job order end late done) (last : Ended (last_of end) result done new) where
    abbrev l : FreshLooks 0 (length job.drives) job.copies (asked_by job.task) (Ok order) mid late
    l = o.opens

    abbrev Any : List Event → Type 0
    Any L = Unit {0}

    behind_told : Tells Any late new
    behind_told = tells_such (λ L both. tt) (tells_then (tells_went (turns_went own job order end late done t)) (tells_went last.went))

    ordered : OpenedRun job Any mid late past since
    ordered = opened_run job (Ok order) old mid late new past since a o behind_told r.was r.now

    kept : new.attached ≡ late.attached
    kept = last.went.attached ∙ (turns_went own job order end late done t).attached

    planned : l.scene.plan ≡ None → Lasts end result ordered.more
    planned none = let both : Some order.plan ≡ None = sym l.answer.2.plan_is ∙ none in absurd (cc both)

    free : NoneApplies s
    free =
        subst NoneApplies
        (same_scene (length job.drives) l.scene s (agrees job end result old mid late new past since r.was r.few (Ok order) a Any ordered kept l planned listed s m) l.answer.0 order.plan l.answer.2.plan_is)
        l.answer.1

    free_claim : (e : FreshError) → Claim e
    free_claim e = (
      (λ is. absurd (turned_not (length job.drives) (ordered_of t.run).plan (stands_at t.then_run) (stands_at t.then_run).outcome end e t.ends is)),
      (λ first. elim (which listed s e first) [
        | inl card ↦ absurd (listed_not listed card.0 (l.files, one_inventory job end result old mid late new past since r.was r.few (Ok order) a Any ordered kept l planned listed s m) card.2)
        | inr behind ↦ absurd (free e behind.1.applies)
      ]),
    )

  -- ---- the whole

  story_claim : ((n : ℕ) → end ≢ unattached_end n) → Story job end result old new → (e : FreshError) → Claim e
  story_claim attached (card_unattached error mid is attach last) e = absurd (attached 0 is)
  story_claim attached (drive_unattached d mid is lacks last) e = absurd (attached (suc d) is)
  story_claim attached (unopened f mid late is a o last) e = unopened_claim f mid late is a o last e
  story_claim attached (unstocked order mid late is a o last) e = ((λ by. absurd (cc (sym is ∙ by))), (λ first. inr (inl is)))
  story_claim attached (turned order mid late done a o t last) e = free_claim order mid late done a o t last e

  claim : (e : FreshError) → Claim e
  claim e = elim (in_order job end result past since old new (parts_of own job end result old new past since r)) [
    | inl each ↦ story_claim each.ends r.story e
    | inr stops ↦ absurd (unlisted_not (quiet_unlisted since (halted_quiet job end result since stops)))
  ]

pub refuses_by_maps : CallsOwn → (job : Job) (end : JobEnd) (result : ℕ) (old new : World) (past since : List Event) → RanTold job end result old new past since → RefusesByMaps (run_with job old new since) end
refuses_by_maps own job end result old new past since r listed s m e = claim own job end result old new past since r listed s m e
