-- Each run of a job that ended with the status 0 or 1 leaves its drives so.
use Rattle.std.proofs.Common.{◌≡◌, ◌⊎◌, inl, inr, ℕ, zero, suc, ◌+◌, ◌<◌, ◌≤◌, List, [], ◌∷◌, ◌++◌, length, refl, ap, ◌∙◌, subst, arith}
use Rattle.std.specs.Prelude.{Some, Err}
use Rattle.std.specs.List.{slice_get, AllByRecursion}
use Rattle.bay_core.specs.declared.event.Event.{Event}
use Rattle.bay_core.specs.Map.{Map, Dates}
use Rattle.bay_core.specs.Replay.{Drive}
use Rattle.bay_core.specs.World.{World, Attached}
use Rattle.card_inventory.specs.declared.error.InventoryError.{InventoryError}
use Rattle.card_inventory.specs.declared.error.InventoryError.TheVariants.{SourceFailed, EmptyCard, TooManyFiles, BadPath, BadDate, TooManyBytes, Control, TooBig, Clash as FilesClash, Memory as CardMemory}
use Rattle.copy_plan.specs.Plan.{PlanValue}
use Rattle.fresh_opening.specs.declared.error.FreshError.{FreshError}
use Rattle.fresh_opening.specs.declared.error.FreshError.TheVariants.{Inventory, NotAJournal, AlreadyBegun, NoDrive, Clash, Occupied, OutFailed as LineUnsaid, Memory}
use Rattle.fresh_opening.specs.Openings.{FreshLooks}
use Rattle.fresh_opening.specs.Sights.{Sight, Dropped as WasDropped}
use Rattle.last_lines.specs.Ends.{EndStatus, Ended}
use Rattle.offload_run.specs.Offload.{ordered_of}
use Rattle.run_state.specs.declared.outcome.Outcome.{Outcome}
use Rattle.run_state.specs.declared.outcome.Outcome.TheVariants.{Going, Finished, NoDrive as NoneLeft, SourceFailed as CardFault, Changed, Altered, OutFailed as LineFailed}
use Rattle.run_state.specs.State.{At}
use Rattle.run_lines.specs.Lines.{IsEnd}
use Rattle.command_words.specs.Jobs.{Job}
use Rattle.job_story.specs.Attaching.{AttachesAll}
use Rattle.job_story.specs.Ends.{JobEnd, Sealed, Dropped, Refused, CardUnattached, DriveUnattached, CardFailed, CardChanged, OutFailed, NoMemory, last_of, listing_end, opening_end}
use Rattle.job_story.specs.Run.{Run, IsHonest, IsSteady, run_with}
use Rattle.job_story.specs.Story.{asked_by, Opens, EndsAs, Story, card_unattached, drive_unattached, unopened, unstocked, turned}
use Rattle.job_steps.proofs.Attached.{attached_all}
use Rattle.job_losses.specs.Drops.{Rises, DropsRightly}
use Rattle.job_losses.proofs.Attached.{attached_all as all_attached}
use Rattle.job_losses.proofs.Parts.{finishes, turned_run}
use Rattle.job_losses.proofs.Told.{grows_went, grows_then, rose_in}
use Rattle.job_final.specs.Final.{EndsFinal, IsFinal}
use Rattle.job_final.proofs.Sealed.{FinalLaws, ends_final}

-- the status 0 or 1
abbrev IsGood : ℕ → Type 0
IsGood result = (result ≡ 0) ⊎ (result ≡ 1)

not_good : (result status : ℕ) → 1 < status → result ≡ status → IsGood result → ⊥
not_good result status high is (inl none) = omega (arith, high, is, none)
not_good result status high is (inr one) = omega (arith, high, is, one)

-- how a run ended that has such a status
abbrev IsGoodEnd : JobEnd → Type 0
IsGoodEnd Sealed = Unit {0}
IsGoodEnd Dropped = Unit {0}
IsGoodEnd _ = ⊥

module _ (result : ℕ) (old new : World) (good : IsGood result) where
  not_so : (end : JobEnd) → EndStatus (last_of end) result old new → 1 < (last_of end).status → ⊥
  not_so end (inl is) high = not_good result (last_of end).status high is good
  not_so end (inr other) high = not_good result 5 (omega arith) other.1 good

  good_end : (end : JobEnd) → EndStatus (last_of end) result old new → IsGoodEnd end
  good_end Sealed s = tt
  good_end Dropped s = tt
  good_end (Refused e) s = not_so (Refused e) s (omega arith)
  good_end CardUnattached s = not_so CardUnattached s (omega arith)
  good_end (DriveUnattached d) s = not_so (DriveUnattached d) s (omega arith)
  good_end CardFailed s = not_so CardFailed s (omega arith)
  good_end (CardChanged listed read path) s = not_so (CardChanged listed read path) s (omega arith)
  good_end OutFailed s = not_so OutFailed s (omega arith)
  good_end NoMemory s = not_so NoMemory s (omega arith)

-- the turns of a run that ended so came to their end
came_to_end : (drives : ℕ) (p : PlanValue) (at : At) (end : JobEnd) → IsGoodEnd end → (outcome : Outcome) → EndsAs drives p at outcome end → IsEnd outcome
came_to_end drives p at end good Finished ends = tt
came_to_end drives p at end good NoneLeft ends = tt
came_to_end drives p at end good CardFault ends = absurd (subst IsGoodEnd ends good)
came_to_end drives p at end good (Changed i listed read) ends = absurd (subst IsGoodEnd ends.2 good)
came_to_end drives p at end good LineFailed ends = absurd (subst IsGoodEnd ends good)
came_to_end drives p at end good (Altered i listed read) ends = absurd ends
came_to_end drives p at end good Going ends = absurd ends

-- an opening that gave no order ended so only where no drive was left
left_none_listed : (e : InventoryError) → IsGoodEnd (listing_end e) → ⊥
left_none_listed SourceFailed good = good
left_none_listed EmptyCard good = good
left_none_listed (TooManyFiles count) good = good
left_none_listed (BadPath index cause) good = good
left_none_listed (BadDate path) good = good
left_none_listed (TooManyBytes sum) good = good
left_none_listed (Control path) good = good
left_none_listed (TooBig path) good = good
left_none_listed (FilesClash first second) good = good
left_none_listed CardMemory good = good

left_none : (e : FreshError) → IsGoodEnd (opening_end e) → e ≡ NoDrive
left_none (Inventory e) good = absurd (left_none_listed e good)
left_none (NotAJournal d at) good = absurd good
left_none (AlreadyBegun d) good = absurd good
left_none NoDrive good = refl
left_none (Clash list path) good = absurd good
left_none (Occupied d path) good = absurd good
left_none LineUnsaid good = absurd good
left_none Memory good = absurd good

-- then each look lost its drive
lost_at : (sights : List Sight) (d : ℕ) → d < length sights → AllByRecursion (λ (x : Sight). x ≡ WasDropped) sights → slice_get sights d ≡ Some WasDropped
lost_at [] d low lost = absurd (omega (arith, low))
lost_at (x ∷ sights) zero low lost = ap Some lost.0
lost_at (x ∷ sights) (suc d) low lost = lost_at sights d (omega (arith, low)) lost.1

module _ (laws : FinalLaws) (job : Job) (end : JobEnd) (result : ℕ) (old new : World) (no_drive : old.attached.drives ≡ 0) (few : length job.drives ≤ 8) (past since : List Event) (was : old.events ≡ Some past) (now : new.events ≡ Some (past ++ since)) (rightly : DropsRightly (run_with job old new since)) where
  abbrev run : Run
  run = run_with job old new since

  module _ (good : IsGood result) (card : Map) (dates : Dates) (steady : IsSteady run card dates) (d : ℕ) (start : Map) (honest : IsHonest run d start) (stays : Rises run (Drive d) → ⊥) where
    -- no drive was left, but this one's count did not rise
    none_left : (mid late : World) → AttachesAll job old mid → Opens job (Err NoDrive) mid late → Ended (last_of end) result late new → ⊥
    none_left mid late attaches opens last =
        let l : FreshLooks 0 (length job.drives) job.copies (asked_by job.task) (Err NoDrive) mid late = opens.opens in
        let there : d < new.attached.drives = honest.there in
        let all : new.attached.drives ≡ length job.drives = ap (λ (x : Attached). x.drives) (last.went.attached ∙ opens.untouched.attached) ∙ (attached_all job old mid no_drive attaches).drives in
        let low : d < length l.scene.sights = let count = l.answer.0 in omega (arith, there, all, count) in
        let number : l.scene.first + d ≡ d = let from = l.from in omega (arith, from) in
        let rose = l.sights d WasDropped (lost_at l.scene.sights d low l.answer.1.applies) in
        stays (subst (λ (k : ℕ). Rises run (Drive k)) number (rose_in (Drive (l.scene.first + d)) (grows_then (all_attached job old mid attaches).attached.grows (grows_went l.card.1.called.went)) (grows_went last.went) rose))

    ends : Story job end result old new → EndsFinal run card dates d start
    ends (card_unattached error mid is attach last) = absurd (subst IsGoodEnd is (good_end result mid new good end last.status))
    ends (drive_unattached k mid is lacks last) = absurd (subst IsGoodEnd is (good_end result mid new good end last.status))
    ends (unopened e mid late is attaches opens last) =
        let none = left_none e (subst IsGoodEnd is (good_end result late new good end last.status)) in
        absurd (none_left mid late attaches (subst (λ (x : FreshError). Opens job (Err x) mid late) none opens) last)
    ends (unstocked order mid late is attaches opens last) = absurd (subst IsGoodEnd is (good_end result late new good end last.status))
    ends (turned order mid late done attaches opens turns last) =
        let r = turned_run laws.turns job order end result old mid late done new attaches opens turns last past since was now in
        let at = finishes r.turns in
        let ended = came_to_end (length job.drives) (ordered_of r.turns.run).plan at.at end (good_end result done new good end last.status) at.at.outcome r.turns.ends in
        ends_final laws job order end result old mid late done new no_drive few attaches opens turns last past since was now r ended rightly card dates steady d start honest stays

  pub is_final : Story job end result old new → IsFinal run result
  is_final story good card dates steady d start honest stays = ends good card dates steady d start honest stays story
