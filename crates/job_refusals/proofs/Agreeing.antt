-- What the opening of a run saw is what there is to see, by the maps of its drives.
use Rattle.std.proofs.Common.{◌≡◌, ◌⊎◌, inl, inr, ℕ, ◌+◌, ◌<◌, ◌≤◌, true, List, [], ◌∷◌, ◌++◌, length, get_or, refl, sym, ap, ◌∙◌, subst, arith, append_assoc, append-nil}
use Rattle.std.specs.Prelude.{Option, Some, None, Result, Ok}
use Rattle.std.specs.List.{slice_get, AllByRecursion}
use Rattle.std.proofs.lemmas.Option.{slice_get_within, slice_get-get_or}
use Rattle.bay_core.specs.declared.event.Event.{Event}
use Rattle.bay_core.specs.declared.event.Event.TheVariants.{SourceList, Moment, Say}
use Rattle.bay_core.specs.declared.event.FileInfo.{FileInfo}
use Rattle.bay_core.specs.Map.{Map}
use Rattle.bay_core.specs.Replay.{Attaching, device_of, reads, replayed}
use Rattle.bay_core.specs.Went.{AllOn, Only}
use Rattle.bay_core.specs.World.{World, Attached}
use Rattle.bay_core.proofs.Looking.{reads_kept}
use Rattle.card_inventory.specs.Listed.{ListingGives}
use Rattle.card_inventory.proofs.OneAnswer.{one_answer}
use Rattle.copy_plan.specs.Plan.{PlanValue}
use Rattle.drive_journal.specs.declared.order.Order.{Order}
use Rattle.drive_journal.specs.Found.{JournalFound}
use Rattle.fresh_opening.specs.declared.error.FreshError.{FreshError}
use Rattle.fresh_opening.specs.Openings.{FreshLooks, AsksMoment, draft_of}
use Rattle.fresh_opening.specs.Refusals.{Scene}
use Rattle.fresh_opening.specs.Sights.{Sight, Dropped, Found, sight_of, SightIs}
use Rattle.report_text.specs.Losses.{dropped_fault_text}
use Rattle.run_ends.proofs.Lines.{no_line}
use Rattle.run_reads.proofs.Since.{since_at}
use Rattle.command_words.specs.Jobs.{Job}
use Rattle.job_story.specs.Attaching.{AttachesAll}
use Rattle.job_story.specs.Ends.{JobEnd}
use Rattle.job_story.specs.Plans.{IsMomentCall, IsCardListing}
use Rattle.job_story.specs.Run.{Run, run_with}
use Rattle.job_story.specs.Story.{asked_by}
use Rattle.job_calls.specs.Calls.{job_attaches}
use Rattle.job_calls.proofs.Ending.{Lasts}
use Rattle.job_calls.proofs.Told.{since_then}
use Rattle.job_losses.proofs.Attached.{attached_all}
use Rattle.job_losses.proofs.Lines.{Lines, lines_none, lines_then}
use Rattle.job_losses.proofs.Opened.{IsLooking, looked_lines}
use Rattle.job_refusals.specs.Mapped.{IsDroppedAloud, IsSightByMap, IsSceneByMaps}
use Rattle.job_refusals.proofs.Comparing.{Agrees}
use Rattle.job_refusals.proofs.Cutting.{OpenedRun}
use Rattle.job_refusals.proofs.Firsts.{IsQuiet, attaches_attach, attaches_quiet, lines_quiet, quiet_untouched, quiet_unlisted, each_append, each_on, none_such, first_one}
use Rattle.job_refusals.proofs.Looking.{dropped_said, fault_one, last_undropped, lines_front}
use Rattle.job_refusals.proofs.Scenes.{LookedIn, looked_told, calls_seen}

-- ---- no moment

abbrev AreUnasked : List Event → Type 0
AreUnasked L = AllByRecursion (λ e. IsMomentCall e → ⊥) L

quiet_moment : (e : Event) → IsQuiet (device_of e) → IsMomentCall e → ⊥
quiet_moment (Moment t) on such = on
quiet_moment _ on such = such

looking_moment : (e : Event) → IsLooking (device_of e) → IsMomentCall e → ⊥
looking_moment (Moment t) on such = on
looking_moment _ on such = such

quiet_unasked : (L : List Event) → AllOn IsQuiet L → AreUnasked L
quiet_unasked L on = each_on IsQuiet (λ e. IsMomentCall e → ⊥) quiet_moment L on

looking_unasked : (L : List Event) → AllOn IsLooking L → AreUnasked L
looking_unasked L on = each_on IsLooking (λ e. IsMomentCall e → ⊥) looking_moment L on

asked_moment : (plan : Option PlanValue) (p : PlanValue) (L : List Event) → plan ≡ Some p → AsksMoment plan L → L ≡ Moment p.started ∷ []
asked_moment plan p L is asks = subst (λ (o : Option PlanValue). AsksMoment o L → L ≡ Moment p.started ∷ []) (sym is) (λ one. one) asks

asked_none : (plan : Option PlanValue) (L : List Event) → plan ≡ None → AsksMoment plan L → L ≡ []
asked_none plan L is asks = subst (λ (o : Option PlanValue). AsksMoment o L → L ≡ []) (sym is) (λ none. none) asks

-- ---- lines of drives that were dropped

-- drive d was dropped by these looks, or they ended before it
abbrev IsLostBy : List Sight → ℕ → Type 0
IsLostBy sights d = (slice_get sights d ≡ Some Dropped) ⊎ (length sights ≤ d)

abbrev IsLostLine : List Sight → List ℕ → Type 0
IsLostLine sights line = (d : ℕ) → d < 8 → line ≡ dropped_fault_text d → IsLostBy sights d

lost_line : (sights : List Sight) (n k : ℕ) → n ≡ k → n ≤ 8 → IsLostBy sights k → IsLostLine sights (dropped_fault_text n)
lost_line sights n k is low lost d small same =
    let one : n ≡ d = fault_one n d (omega (arith, low)) (omega (arith, small)) same in
    subst (λ (m : ℕ). IsLostBy sights m) (sym is ∙ one) lost

-- ---- the opening

module _ (job : Job) (end : JobEnd) (result : ℕ) (old mid late new : World) (past since : List Event) (was : old.events ≡ Some past) (few : length job.drives ≤ 8) (came : Result Order FreshError)
    (a : AttachesAll job old mid) (P : List Event → Type 0) (c : OpenedRun job P mid late past since) (same : new.attached ≡ late.attached) (l : FreshLooks 0 (length job.drives) job.copies (asked_by job.task) came mid late)
    (lasts : l.scene.plan ≡ None → Lasts end result c.more) (listed : List FileInfo) (s : Scene) (m : IsSceneByMaps (run_with job old new since) listed s) where
  abbrev run : Run
  run = run_with job old new since

  abbrev sights : List Sight
  sights = l.scene.sights

  abbrev call : Event
  call = SourceList 0 (Some l.card.0)

  t : LookedIn l.scene came l.card.0 c.opening
  t = since_then (looked_told job came mid late l) (past ++ job_attaches job) c.opening c.was c.now

  calls : since ≡ job_attaches job ++ (call ∷ (t.looks ++ (t.asked ++ (t.ends ++ c.more))))
  calls = calls_seen job came mid late l since c.opening c.more c.is t

  -- ---- the card

  pub one_listing : l.card.0 ≡ listed
  one_listing =
      let first = first_one IsCardListing (job_attaches job) (t.looks ++ (t.asked ++ (t.ends ++ c.more))) m.listing.before m.listing.after call (SourceList 0 (Some listed)) (sym calls ∙ m.listing.is)
      (quiet_unlisted (job_attaches job) (attaches_quiet job)) m.listing.none tt m.listing.such in
      let both : call ≡ SourceList 0 (Some listed) = first.0 in
      cc both

  pub one_inventory : ListingGives listed (Ok l.files)
  one_inventory = subst (λ (k : List FileInfo). ListingGives k (Ok l.files)) one_listing l.card.2

  -- ---- the lines

  opening_lines : Lines (IsLostLine sights) c.opening
  opening_lines =
      since_at (looked_lines (IsLostLine sights) 0 (length job.drives) job.copies (asked_by job.task) came mid late l
      (λ place is. let within = slice_get_within sights place Dropped is in let first = l.from in let most = l.few in lost_line sights (l.scene.first + place) place (omega (arith, first)) (omega (arith, within, first, most, few)) (inl is))
      (λ is. let first = l.from in let most = l.few in lost_line sights (l.scene.first + length sights) (length sights) (omega (arith, first)) (omega (arith, first, most, few)) (inr (omega arith))))
      (past ++ job_attaches job) c.opening c.was c.now

  attach_lines : Lines (IsLostLine sights) (job_attaches job)
  attach_lines = lines_none (IsLostLine sights) (job_attaches job) (no_line (Only Attaching) (λ y attaching out. cc (attaching, out)) (job_attaches job) (attaches_attach job))

  -- the calls before a first moment are the attaches, the listing, the looks, and what came behind them
  record Reached : Type 0 where
    pub rest : List Event
    pub is : m.opening ≡ job_attaches job ++ (call ∷ (t.looks ++ rest))
    pub lines : Lines (IsLostLine sights) m.opening

  abbrev front : List Event
  front = job_attaches job ++ (call ∷ t.looks)

  front_unasked : AreUnasked front
  front_unasked = each_append (λ e. IsMomentCall e → ⊥) (job_attaches job) (call ∷ t.looks) (quiet_unasked (job_attaches job) (attaches_quiet job)) ((λ such. such), looking_unasked t.looks t.on)

  -- ---- where the moment was asked

  module _ (p : PlanValue) (planned : l.scene.plan ≡ Some p) where
    abbrev behind : List Event
    behind = t.ends ++ c.more

    moment_call : since ≡ front ++ Moment p.started ∷ behind
    moment_call =
        calls ∙ ap (λ (k : List Event). job_attaches job ++ (call ∷ (t.looks ++ (k ++ behind)))) (asked_moment l.scene.plan p t.asked planned t.moment)
        ∙ sym (append_assoc (job_attaches job) (call ∷ t.looks) (Moment p.started ∷ behind))

    front_is : front ≡ m.opening
    front_is = elim m.is.ends [
      | inl none ↦
          let whole : m.opening ≡ since = sym (m.is.is ∙ ap (λ (k : List Event). m.opening ++ k) none ∙ append-nil m.opening) in
          absurd (none_such IsMomentCall m.opening front behind (Moment p.started) m.is.unasked (whole ∙ moment_call) tt)
      | inr asks ↦
          (first_one IsMomentCall front behind m.opening asks.1 (Moment p.started) (Moment asks.0) (sym moment_call ∙ m.is.is ∙ ap (λ (k : List Event). m.opening ++ k) asks.2) front_unasked m.is.unasked tt tt).1
    ]

    asked_reached : Reached
    asked_reached = record {
      rest = [];
      is = sym front_is ∙ ap (λ (k : List Event). job_attaches job ++ (call ∷ k)) (sym (append-nil t.looks));
      lines =
          subst (Lines (IsLostLine sights)) front_is
          (lines_then (IsLostLine sights) (job_attaches job) (call ∷ t.looks) attach_lines (lines_front (IsLostLine sights) (call ∷ t.looks) (t.asked ++ t.ends) c.opening t.is opening_lines));
    }

    -- the plan is the one by the maps
    pub one_plan : s.plan ≡ Some p
    one_plan =
        let found = m.planned (l.files, one_inventory) in
        let q : PlanValue = found.0 in
        let draft = m.plan q found.1 in
        let answers = one_answer listed (Ok l.files) (Ok draft.0.files) one_inventory draft.0.inventory (λ is. absurd (cc is)) (λ is. absurd (cc is)) in
        let files : l.files ≡ draft.0.files = cc answers in
        let moment : q.started ≡ p.started = draft.1 p.started (record { before = front; after = behind; is = moment_call; such = tt; none = front_unasked }) in
        let same : q ≡ p = draft.0.is ∙ (λ i. draft_of (asked_by job.task) (moment i) (sym files i)) ∙ sym (l.drafted p planned).is in
        found.1 ∙ ap Some same

  -- ---- where it was not

  module _ (none : l.scene.plan ≡ None) where
    since_unasked : AreUnasked since
    since_unasked =
        subst AreUnasked (sym (calls ∙ ap (λ (k : List Event). job_attaches job ++ (call ∷ (t.looks ++ (k ++ (t.ends ++ c.more))))) (asked_none l.scene.plan t.asked none t.moment)))
        (each_append (λ e. IsMomentCall e → ⊥) (job_attaches job) (call ∷ (t.looks ++ (t.ends ++ c.more))) (quiet_unasked (job_attaches job) (attaches_quiet job)) (
          (λ such. such),
          each_append (λ e. IsMomentCall e → ⊥) t.looks (t.ends ++ c.more) (looking_unasked t.looks t.on)
              (each_append (λ e. IsMomentCall e → ⊥) t.ends c.more (looking_unasked t.ends t.behind) (quiet_unasked c.more (lines_quiet c.more (lasts none).on))),
        ))

    whole : m.opening ≡ since
    whole = elim m.is.ends [
      | inl nothing ↦ sym (m.is.is ∙ ap (λ (k : List Event). m.opening ++ k) nothing ∙ append-nil m.opening)
      | inr asks ↦ absurd (none_such IsMomentCall since m.opening asks.1 (Moment asks.0) since_unasked (m.is.is ∙ ap (λ (k : List Event). m.opening ++ k) asks.2) tt)
    ]

    last_lines : Lines (IsLostLine sights) c.more
    last_lines before after line ok is d low lost = absurd (last_undropped job old end result c.more (lasts none).calls before after line ok is d low lost)

    whole_reached : Reached
    whole_reached = record {
      rest = t.asked ++ (t.ends ++ c.more);
      is = whole ∙ calls;
      lines =
          subst (Lines (IsLostLine sights)) (sym (whole ∙ c.is))
          (lines_then (IsLostLine sights) (job_attaches job) (c.opening ++ c.more) attach_lines (lines_then (IsLostLine sights) c.opening c.more opening_lines last_lines));
    }

  reached : Reached
  reached = elim l.scene.plan as (λ o. l.scene.plan ≡ o → Reached) [ None ↦ λ is. whole_reached is | Some p ↦ λ is. asked_reached p is ] refl

  -- ---- the drives

  -- a drive that was dropped was so by the lines
  dropped_there : (d : ℕ) → slice_get sights d ≡ Some Dropped → IsDroppedAloud d m.opening
  dropped_there d at =
      let said = dropped_said sights 0 t.looks t.sights d d (omega arith) at in
      let is : m.opening ≡ job_attaches job ++ ((call ∷ said.0) ++ Say (dropped_fault_text d) true ∷ (said.1 ++ reached.rest)) =
      reached.is ∙ ap (λ (k : List Event). job_attaches job ++ (call ∷ (k ++ reached.rest))) said.2
      ∙ ap (λ (k : List Event). job_attaches job ++ (call ∷ k)) (append_assoc said.0 (Say (dropped_fault_text d) true ∷ said.1) reached.rest) in
      (job_attaches job ++ (call ∷ said.0), said.1 ++ reached.rest, is ∙ sym (append_assoc (job_attaches job) (call ∷ said.0) (Say (dropped_fault_text d) true ∷ (said.1 ++ reached.rest))))

  -- and no other
  found_not : (d : ℕ) (size : List ℕ → Option ℕ) (found : JournalFound) → slice_get sights d ≡ Some (Found size found) → IsDroppedAloud d m.opening → ⊥
  found_not d size found at dropped =
      let within = slice_get_within sights d (Found size found) at in
      let most = l.few in
      elim (reached.lines dropped.0 dropped.1 (dropped_fault_text d) true dropped.2 d (omega (arith, within, most, few)) refl) [
        | inl lost ↦ let both : Some (Found size found) ≡ Some Dropped = sym at ∙ lost in absurd (cc both)
        | inr past_it ↦ absurd (omega (arith, within, past_it))
      ]

  -- an honest drive reads then as it was attached
  reads_start : (d : ℕ) (start : Map) → d < length job.drives → reads start ((past ++ job_attaches job) ++ c.opening) d ≡ start
  unfolding reads
  reads_start d start low =
      reads_kept start (past ++ job_attaches job) c.opening d c.untouched
      ∙ reads_kept start past (job_attaches job) d (quiet_untouched (job_attaches job) (attaches_quiet job))
      ∙ ap (λ (k : List Event). replayed start k) ((attached_all job old mid a).unused past (past ++ job_attaches job) was c.was d low)

  found_is : (d : ℕ) (size : List ℕ → Option ℕ) (found : JournalFound) (start : Map) → slice_get sights d ≡ Some (Found size found) → new.attached.honest d ≡ true → new.attached.start d ≡ Some start → Found size found ≡ sight_of start
  found_is d size found start at honest had =
      let first = l.from in
      let within = slice_get_within sights d (Found size found) at in
      let most = l.few in
      let is : SightIs d (Found size found) l.listed late = subst (λ (n : ℕ). SightIs n (Found size found) l.listed late) (omega (arith, first)) (l.sights d (Found size found) at) in
      is start ((past ++ job_attaches job) ++ c.opening) (record { honest = ap (λ (x : Attached). x.honest d) (sym same) ∙ honest; start = ap (λ (x : Attached). x.start d) (sym same) ∙ had; events = c.now })
      ∙ ap sight_of (reads_start d start (omega (arith, within, most)))

  sight_is : (d : ℕ) (x y : Sight) → slice_get sights d ≡ Some x → IsSightByMap run m.opening d y → x ≡ y
  sight_is d Dropped y at (inl (dropped, is)) = sym is
  sight_is d Dropped y at (inr (not, start, honest, is)) = absurd (not (dropped_there d at))
  sight_is d (Found size found) y at (inl (dropped, is)) = absurd (found_not d size found at dropped)
  sight_is d (Found size found) y at (inr (not, start, honest, is)) = found_is d size found start at honest.honest honest.had ∙ sym is

  pub one_sight : (d : ℕ) (x : Sight) → slice_get sights d ≡ Some x → slice_get s.sights d ≡ Some x
  one_sight d x at =
      let within = slice_get_within sights d x at in
      let most = l.few in
      let all = m.whole in
      let y : Sight = get_or s.sights d Dropped in
      let there : slice_get s.sights d ≡ Some y = slice_get-get_or s.sights d Dropped (omega (arith, within, most, all)) in
      there ∙ ap Some (sym (sight_is d x y at (m.sights d y there)))

  -- what was seen is of the first drives
  pub agrees : Agrees (length job.drives) l.scene s
  agrees = record { count_few = few; from = l.from; first = m.first; few = l.few; whole = m.whole; sights = one_sight; plan = λ p planned. one_plan p planned }
