-- A run is refused only with the first refusal by what its calls saw, and it changes a drive only where nothing refuses it.
use Rattle.std.proofs.Common.{◌≡◌, ◌≢◌, inl, inr, ℕ, zero, suc, ◌+◌, true, List, [], ◌∷◌, ◌++◌, length, refl, sym, ap, ◌∙◌, subst}
use Rattle.std.specs.Prelude.{Contains, Some, Result, Ok, Err}
use Rattle.std.proofs.lemmas.Bool.{false≢true}
use Rattle.bay_core.specs.declared.event.Event.{Event}
use Rattle.bay_core.specs.declared.event.Event.TheVariants.{SourceList}
use Rattle.bay_core.specs.declared.event.FileInfo.{FileInfo}
use Rattle.bay_core.specs.Looks.{IsUntouched, is_effect}
use Rattle.bay_core.specs.World.{World}
use Rattle.bay_core.proofs.Looking.{untouched_append}
use Rattle.copy_plan.specs.Plan.{PlanValue}
use Rattle.card_inventory.specs.declared.error.InventoryError.{InventoryError}
use Rattle.card_inventory.specs.declared.error.InventoryError.TheVariants.{SourceFailed, EmptyCard, TooManyFiles, BadPath, BadDate, TooManyBytes, Control, TooBig, Clash as FilesClash, Memory as CardMemory}
use Rattle.card_inventory.specs.Card.{IsListed as CardListed, CardGives}
use Rattle.drive_journal.specs.declared.order.Order.{Order}
use Rattle.fresh_opening.specs.declared.error.FreshError.{FreshError}
use Rattle.fresh_opening.specs.declared.error.FreshError.TheVariants.{Inventory, NotAJournal, AlreadyBegun, NoDrive, Clash, Occupied, OutFailed as LineFailed, Memory}
use Rattle.fresh_opening.specs.Openings.{FreshOpens, FreshLooks, EndsWith}
use Rattle.run_state.specs.declared.outcome.Outcome.{Outcome}
use Rattle.run_state.specs.declared.outcome.Outcome.TheVariants.{Going, Finished, NoDrive as NoneLeft, SourceFailed as CardLost, Changed, Altered, OutFailed as LineLost}
use Rattle.run_state.specs.State.{At}
use Rattle.offload_run.specs.Offload.{ordered_of, stands_at}
use Rattle.last_lines.specs.Ends.{EndCalls}
use Rattle.command_words.specs.Jobs.{Job}
use Rattle.job_story.specs.Ends.{JobEnd, Refused, last_of, listing_end, opening_end}
use Rattle.job_story.specs.Run.{Run, run_with}
use Rattle.job_story.specs.Story.{asked_by, EndsAs}
use Rattle.job_calls.specs.Calls.{job_attaches, unattached_end}
use Rattle.job_calls.proofs.Ending.{Lasts}
use Rattle.job_calls.proofs.Parts.{Parts, halted, opened, ran, Opened}
use Rattle.job_calls.proofs.Told.{tells_went, tells_such, since_then}
use Rattle.job_refusals.specs.First.{RefusesListing, IsFirstRefusal}
use Rattle.job_refusals.specs.Sighted.{ComesTo, IsRefusedBySight, IsFreeBySight, RefusesFirst, PassesUnrefused}
use Rattle.job_refusals.proofs.Firsts.{attaches_quiet, lines_quiet, halted_quiet, quiet_untouched, untouched_at}
use Rattle.job_refusals.proofs.Scenes.{looked_told, scene_seen, scene_rest, bare_scene, bare_seen, bare_rest}

-- ---- which ends are refusals

pub refused_by : (f e : FreshError) → opening_end f ≡ Refused e → f ≡ e
refused_by (Inventory SourceFailed) e is = absurd (cc is)
refused_by (Inventory CardMemory) e is = absurd (cc is)
refused_by (Inventory EmptyCard) e is = cc is
refused_by (Inventory (TooManyFiles count)) e is = cc is
refused_by (Inventory (BadPath index cause)) e is = cc is
refused_by (Inventory (BadDate path)) e is = cc is
refused_by (Inventory (TooManyBytes sum)) e is = cc is
refused_by (Inventory (Control path)) e is = cc is
refused_by (Inventory (TooBig path)) e is = cc is
refused_by (Inventory (FilesClash first second)) e is = cc is
refused_by (NotAJournal d at) e is = cc is
refused_by (AlreadyBegun d) e is = cc is
refused_by (Clash list path) e is = cc is
refused_by (Occupied d path) e is = cc is
refused_by NoDrive e is = absurd (cc is)
refused_by LineFailed e is = absurd (cc is)
refused_by Memory e is = absurd (cc is)

unattached_not : (n : ℕ) (e : FreshError) → unattached_end n ≡ Refused e → ⊥
unattached_not zero e is = cc is
unattached_not (suc n) e is = cc is

pub turned_not : (n : ℕ) (p : PlanValue) (at : At) (outcome : Outcome) (end : JobEnd) (e : FreshError) → EndsAs n p at outcome end → end ≡ Refused e → ⊥
turned_not n p at Finished end e (inl (all, is)) same = cc (sym is ∙ same)
turned_not n p at Finished end e (inr (some, is)) same = cc (sym is ∙ same)
turned_not n p at NoneLeft end e is same = cc (sym is ∙ same)
turned_not n p at CardLost end e is same = cc (sym is ∙ same)
turned_not n p at (Changed index listed read) end e (file, there, is) same = cc (sym is ∙ same)
turned_not n p at LineLost end e is same = cc (sym is ∙ same)
turned_not n p at (Altered index listed read) end e never same = never
turned_not n p at Going end e never same = never

-- ---- a card without an inventory

-- it listed this, which is refused
pub record CardRefused (e : InventoryError) (old new : World) : Type 0 where
  pub listed : List FileInfo
  pub is : CardListed 0 listed old new
  pub refuses : RefusesListing listed e

pub card_refused : (e : InventoryError) (old new : World) → e ≢ SourceFailed → e ≢ CardMemory → CardGives 0 (Err e) old new → CardRefused e old new
card_refused SourceFailed old new there known g = absurd (there refl)
card_refused CardMemory old new there known g = absurd (known refl)
card_refused EmptyCard old new there known g = record { listed = g.0; is = g.1; refuses = g.2 }
card_refused (TooManyFiles count) old new there known g = record { listed = g.0; is = g.1; refuses = g.2 }
card_refused (BadPath index cause) old new there known g = record { listed = g.0; is = g.1; refuses = g.2 }
card_refused (BadDate path) old new there known g = record { listed = g.0; is = g.1; refuses = g.2 }
card_refused (TooManyBytes sum) old new there known g = record { listed = g.0; is = g.1; refuses = g.2 }
card_refused (Control path) old new there known g = record { listed = g.0; is = g.1; refuses = g.2 }
card_refused (TooBig path) old new there known g = record { listed = g.0; is = g.1; refuses = g.2 }
card_refused (FilesClash first second) old new there known g = record { listed = g.0; is = g.1; refuses = g.2 }

pub not_failed : (e : InventoryError) → listing_end e ≡ Refused (Inventory e) → e ≢ SourceFailed
not_failed e is same = let other : listing_end SourceFailed ≡ Refused (Inventory e) = ap listing_end (sym same) ∙ is in cc other

-- ---- a refused run

module _ (job : Job) (end : JobEnd) (result : ℕ) (past since : List Event) (old new : World) where
  abbrev run : Run
  run = run_with job old new since

  -- an opening, and behind it lines alone, change no drive
  opening_untouched : (came : Result Order FreshError) (mid late : World) (opening last : List Event) → Opened job came (past ++ job_attaches job) opening mid late → Lasts end result last → since ≡ job_attaches job ++ (opening ++ last) → IsUntouched since
  opening_untouched came mid late opening last o lasts is =
      subst IsUntouched (sym is)
      (untouched_append (job_attaches job) (opening ++ last) (quiet_untouched (job_attaches job) (attaches_quiet job))
      (untouched_append opening last o.untouched (quiet_untouched last (lines_quiet last lasts.on))))

  module _ (mid late : World) (opening last : List Event) (was : mid.events ≡ Some (past ++ job_attaches job)) (now : late.events ≡ Some ((past ++ job_attaches job) ++ opening)) (is : since ≡ job_attaches job ++ (opening ++ last)) (untouched : IsUntouched since) where
    -- the last lines of a run that was refused so
    abbrev Says : FreshError → List Event → Type 0
    Says e L = EndCalls (last_of (Refused e)) result L

    looked_so : (e : FreshError) → Says e last → (l : FreshLooks 0 (length job.drives) job.copies (asked_by job.task) (Err e) mid late) → ComesTo (length job.drives) l.scene e → IsFirstRefusal l.card.0 l.scene e
        → ((L : List Event) → EndsWith (l.scene.first + length l.scene.sights) (Err e) L → L ≡ []) → IsRefusedBySight run e result
    looked_so e said l comes first none =
        let t = since_then (looked_told job (Err e) mid late l) (past ++ job_attaches job) opening was now in
        record {
          listed = l.card.0;
          scene = l.scene;
          is = scene_seen job (Err e) mid late l old new since opening last is t;
          comes = comes;
          first = first;
          last = subst (Says e) (sym (scene_rest job (Err e) mid late l old new since opening last is t ∙ ap (λ (k : List Event). k ++ last) (none t.ends t.ended))) said;
          untouched = untouched;
        }

    unlisted_so : (e : InventoryError) → Says (Inventory e) last → CardRefused e mid late → IsRefusedBySight run (Inventory e) result
    unlisted_so e said r =
        let one : opening ≡ SourceList 0 (Some r.listed) ∷ [] = since_then (tells_such (λ L both. both.1) (tells_went r.is.called.went)) (past ++ job_attaches job) opening was now in
        record {
          listed = r.listed;
          scene = bare_scene;
          is = bare_seen job old new r.listed since opening last is one;
          comes = (refl, refl);
          first = r.refuses;
          last = subst (Says (Inventory e)) (sym (bare_rest job old new r.listed since opening last is one)) said;
          untouched = untouched;
        }

    refused_so : (e : FreshError) → opening_end e ≡ Refused e → Says e last → FreshOpens 0 (length job.drives) job.copies (asked_by job.task) (Err e) mid late → IsRefusedBySight run e result
    refused_so (Inventory e) ends said o = unlisted_so e said (card_refused e mid late (not_failed e ends) o.0 o.1)
    refused_so (NotAJournal d at) ends said o = looked_so (NotAJournal d at) said o o.answer.0 ((o.files, o.card.2), o.answer.1) (λ L none. none)
    refused_so (AlreadyBegun d) ends said o = looked_so (AlreadyBegun d) said o o.answer.0 ((o.files, o.card.2), o.answer.1) (λ L none. none)
    refused_so (Clash list path) ends said o = looked_so (Clash list path) said o o.answer.0 ((o.files, o.card.2), o.answer.1) (λ L none. none)
    refused_so (Occupied d path) ends said o = looked_so (Occupied d path) said o o.answer.0 ((o.files, o.card.2), o.answer.1) (λ L none. none)
    refused_so NoDrive ends said o = absurd (cc ends)
    refused_so LineFailed ends said o = absurd (cc ends)
    refused_so Memory ends said o = absurd (cc ends)

  pub refuses_first : Parts job end result past since old new → RefusesFirst run end result
  refuses_first (halted s there) e is = absurd (unattached_not s.n e (sym s.ends ∙ is))
  refuses_first (opened (Ok order) mid late opening last ends b o lasts same calls) e is = absurd (cc (sym ends ∙ is))
  refuses_first (opened (Err f) mid late opening last ends b o lasts same calls) e is =
      let by : opening_end f ≡ Refused e = sym ends ∙ is in
      let one : f ≡ e = refused_by f e by in
      let said : EndCalls (last_of (Refused f)) result last = subst (λ (x : JobEnd). EndCalls (last_of x) result last) (is ∙ ap Refused (sym one)) lasts.calls in
      let so : IsRefusedBySight run f result = refused_so mid late opening last o.was o.now calls (opening_untouched (Err f) mid late opening last o lasts calls) f (by ∙ ap Refused (sym one)) said o.opens.opens in
      subst (λ (x : FreshError). IsRefusedBySight run x result) one so
  refuses_first (ran order mid late done opening turning last b o t lasts same calls) e is =
      absurd (turned_not (length job.drives) (ordered_of t.turns.run).plan (stands_at t.turns.then_run) (stands_at t.turns.then_run).outcome end e t.turns.ends is)

  -- ---- a run that may change a drive

  none_of : (e : Event) → IsUntouched since → Contains since e → is_effect e ≡ true → ⊥
  none_of e untouched inside effect = false≢true (sym (untouched_at since e untouched inside) ∙ effect)

  free_so : (order : Order) (mid late : World) (opening more : List Event) → mid.events ≡ Some (past ++ job_attaches job) → late.events ≡ Some ((past ++ job_attaches job) ++ opening) → since ≡ job_attaches job ++ (opening ++ more)
      → FreshLooks 0 (length job.drives) job.copies (asked_by job.task) (Ok order) mid late → IsFreeBySight run
  free_so order mid late opening more was now is l = record {
    listed = l.card.0;
    scene = l.scene;
    is = scene_seen job (Ok order) mid late l old new since opening more is (since_then (looked_told job (Ok order) mid late l) (past ++ job_attaches job) opening was now);
    whole = l.answer.0;
    plan = order.plan;
    planned = l.answer.2.plan_is;
    none = record { inventory = (l.files, l.card.2); none = l.answer.1 };
  }

  pub passes_unrefused : Parts job end result past since old new → PassesUnrefused run
  passes_unrefused (halted s there) e inside effect = absurd (none_of e (quiet_untouched since (halted_quiet job end result since s)) inside effect)
  passes_unrefused (opened came mid late opening last ends b o lasts same calls) e inside effect = absurd (none_of e (opening_untouched came mid late opening last o lasts calls) inside effect)
  passes_unrefused (ran order mid late done opening turning last b o t lasts same calls) e inside effect = free_so order mid late opening (turning ++ last) o.was o.now calls o.opens.opens
