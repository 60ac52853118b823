-- A run calls a drive only behind the listing of its card, which has an inventory.
use Rattle.std.proofs.Common.{◌≡◌, inl, inr, ℕ, List, [], ◌∷◌, ◌++◌, length, refl, sym, ap, ◌∙◌, subst}
use Rattle.std.specs.Prelude.{Some, None, Result, Ok, Err}
use Rattle.bay_core.specs.declared.event.Event.{Event}
use Rattle.bay_core.specs.declared.event.Event.TheVariants.{SourceList}
use Rattle.bay_core.specs.declared.event.FileInfo.{FileInfo}
use Rattle.bay_core.specs.Replay.{Device, Source, Drive, device_of}
use Rattle.bay_core.specs.Went.{AllOn, MaySee}
use Rattle.bay_core.specs.World.{World}
use Rattle.bay_core.proofs.Runs.{AllOn-append, all_on, none_on, one_on}
use Rattle.card_inventory.specs.declared.error.InventoryError.{InventoryError}
use Rattle.card_inventory.specs.Card.{MayList}
use Rattle.drive_journal.specs.declared.order.Order.{Order}
use Rattle.fresh_opening.specs.declared.error.FreshError.{FreshError}
use Rattle.fresh_opening.specs.declared.error.FreshError.TheVariants.{Inventory, NotAJournal, AlreadyBegun, NoDrive, Clash, Occupied, OutFailed as LineFailed, Memory}
use Rattle.fresh_opening.specs.Openings.{FreshOpens, FreshLooks}
use Rattle.run_calls.proofs.Lists.{split_at, on_at}
use Rattle.command_words.specs.Jobs.{Job}
use Rattle.job_story.specs.Ends.{JobEnd}
use Rattle.job_story.specs.Plans.{IsListed}
use Rattle.job_story.specs.Run.{Run, run_with}
use Rattle.job_story.specs.Story.{asked_by}
use Rattle.job_calls.specs.Calls.{job_attaches}
use Rattle.job_calls.proofs.Ending.{Lasts}
use Rattle.job_calls.proofs.Opened.{OpeningCalls, unlisted, listed, looked}
use Rattle.job_calls.proofs.Parts.{Parts, halted, opened, ran, Opened}
use Rattle.job_calls.proofs.Told.{tells_went, tells_such, since_then}
use Rattle.job_refusals.specs.First.{HasInventory}
use Rattle.job_refusals.specs.Sighted.{CallsCardFirst}
use Rattle.job_refusals.proofs.Firsts.{IsQuiet, attaches_quiet, lines_quiet, halted_quiet, quiet_unlisted}
use Rattle.job_refusals.proofs.Scenes.{looked_told, calls_seen}

-- ---- calls on no drive

abbrev IsNoDrive : Device → Type 0
IsNoDrive (Drive d) = ⊥
IsNoDrive _ = Unit {0}

quiet_one : (x : Device) → IsQuiet x → IsNoDrive x
quiet_one (Drive d) on = on
quiet_one x on = tt

quiet_off : (L : List Event) → AllOn IsQuiet L → AllOn IsNoDrive L
quiet_off L on = all_on quiet_one L on

none_off : (L : List Event) → L ≡ [] → AllOn IsNoDrive L
none_off L none = subst (AllOn IsNoDrive) (sym none) (none_on IsNoDrive)

-- the listing of a card, answered or not
list_off : (L : List Event) → MayList 0 L → AllOn IsNoDrive L
list_off L (inl none) = none_off L none
list_off L (inr (files, one)) = subst (AllOn IsNoDrive) (sym one) (one_on IsNoDrive (SourceList 0 (Some files)) tt)

see_off : (L : List Event) → MaySee (SourceList 0 None) L → AllOn IsNoDrive L
see_off L (inl none) = none_off L none
see_off L (inr one) = subst (AllOn IsNoDrive) (sym one) (one_on IsNoDrive (SourceList 0 None) tt)

-- an opening that ended with its card
card_off : (count : ℕ) (e : InventoryError) (L : List Event) → OpeningCalls count (Err (Inventory e)) L → AllOn IsNoDrive L
card_off count e L (unlisted is calls) = see_off L calls
card_off count e L (listed other calls) = list_off L calls
card_off count e L (looked s low t) = absurd (t.there.reaches (Inventory e) refl).0

none_driven : (L before after : List Event) (e : Event) (d : ℕ) → AllOn IsNoDrive L → L ≡ before ++ e ∷ after → device_of e ≡ Drive d → ⊥
none_driven L before after e d off is on = subst IsNoDrive on (on_at IsNoDrive before after e (subst (AllOn IsNoDrive) is off))

-- ---- a run

module _ (job : Job) (end : JobEnd) (result : ℕ) (past since : List Event) (old new : World) where
  abbrev run : Run
  run = run_with job old new since

  off_so : AllOn IsNoDrive since → CallsCardFirst run
  off_so off before after e d is on = absurd (none_driven since before after e d off is on)

  behind_card : (files : List FileInfo) (tail : List Event) → HasInventory files → since ≡ job_attaches job ++ (SourceList 0 (Some files) ∷ tail) → CallsCardFirst run
  behind_card files tail inventory so before after e d is on = elim (split_at (job_attaches job) (SourceList 0 (Some files) ∷ tail) before after e (sym so ∙ is)) [
    | inl found ↦ absurd (none_driven (job_attaches job) before found.0 e d (quiet_off (job_attaches job) (attaches_quiet job)) found.1 on)
    | inr found ↦ by found.0 found.1 found.2
  ]
    where
      by : (first : List Event) → before ≡ job_attaches job ++ first → SourceList 0 (Some files) ∷ tail ≡ first ++ e ∷ after → (l : List FileInfo) × IsListed before l × HasInventory l
      by [] at same =
          let head : SourceList 0 (Some files) ≡ e = cc same in
          let card : Source 0 ≡ Drive d = ap device_of head ∙ on in
          absurd (cc card)
      by (x ∷ first) at same =
          let head : SourceList 0 (Some files) ≡ x = cc same in (
            files,
            record {
              before = job_attaches job;
              after = first;
              is = at ∙ ap (λ (y : Event). job_attaches job ++ y ∷ first) (sym head);
              such = tt;
              none = quiet_unlisted (job_attaches job) (attaches_quiet job);
            },
            inventory,
          )

  -- an opening that looked at its drives
  looked_so : (came : Result Order FreshError) (mid late : World) (opening more : List Event) → mid.events ≡ Some (past ++ job_attaches job) → late.events ≡ Some ((past ++ job_attaches job) ++ opening) → since ≡ job_attaches job ++ (opening ++ more)
      → FreshLooks 0 (length job.drives) job.copies (asked_by job.task) came mid late → CallsCardFirst run
  looked_so came mid late opening more was now is l =
      let t = since_then (looked_told job came mid late l) (past ++ job_attaches job) opening was now in
      behind_card l.card.0 (t.looks ++ (t.asked ++ (t.ends ++ more))) (l.files, l.card.2) (calls_seen job came mid late l since opening more is t)

  module _ (mid late : World) (opening last : List Event) (lasts : Lasts end result last) (is : since ≡ job_attaches job ++ (opening ++ last)) where
    ended_so : AllOn IsNoDrive opening → CallsCardFirst run
    ended_so off = off_so (subst (AllOn IsNoDrive) (sym is)
        (AllOn-append IsNoDrive (job_attaches job) (opening ++ last) (quiet_off (job_attaches job) (attaches_quiet job))
        (AllOn-append IsNoDrive opening last off (quiet_off last (lines_quiet last lasts.on)))))

    opened_so : (f : FreshError) → (o : Opened job (Err f) (past ++ job_attaches job) opening mid late) → FreshOpens 0 (length job.drives) job.copies (asked_by job.task) (Err f) mid late → CallsCardFirst run
    opened_so (Inventory e) o opens = ended_so (card_off (length job.drives) e opening o.calls)
    opened_so Memory o (inl card) = ended_so (list_off opening (since_then (tells_such (λ L both. both.1) (tells_went card.went)) (past ++ job_attaches job) opening o.was o.now))
    opened_so Memory o (inr l) = looked_so (Err Memory) mid late opening last o.was o.now is l
    opened_so (NotAJournal d at) o l = looked_so (Err (NotAJournal d at)) mid late opening last o.was o.now is l
    opened_so (AlreadyBegun d) o l = looked_so (Err (AlreadyBegun d)) mid late opening last o.was o.now is l
    opened_so (Clash list path) o l = looked_so (Err (Clash list path)) mid late opening last o.was o.now is l
    opened_so (Occupied d path) o l = looked_so (Err (Occupied d path)) mid late opening last o.was o.now is l
    opened_so NoDrive o l = looked_so (Err NoDrive) mid late opening last o.was o.now is l
    opened_so LineFailed o l = looked_so (Err LineFailed) mid late opening last o.was o.now is l

  pub calls_card_first : Parts job end result past since old new → CallsCardFirst run
  calls_card_first (halted s there) = off_so (quiet_off since (halted_quiet job end result since s))
  calls_card_first (opened (Ok order) mid late opening last ends b o lasts same is) = looked_so (Ok order) mid late opening last o.was o.now is o.opens.opens
  calls_card_first (opened (Err f) mid late opening last ends b o lasts same is) = opened_so mid late opening last lasts is f o o.opens.opens
  calls_card_first (ran order mid late done opening turning last b o t lasts same is) = looked_so (Ok order) mid late opening (turning ++ last) o.was o.now is o.opens.opens
