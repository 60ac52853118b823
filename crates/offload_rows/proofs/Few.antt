-- How many drives are attached when a run of the station has ended.
use Rattle.std.proofs.Common.{◌≡◌, ℕ, suc, ◌+◌, ◌≤◌, List, [], ◌∷◌, length, take, ap, arith}
use Rattle.std.proofs.lemmas.List.{length-take}
use Rattle.bay_core.specs.World.{World, Attached}
use Rattle.bay_core.specs.Went.{Went}
use Rattle.command_words.specs.Jobs.{Job}
use Rattle.job_story.specs.Attaching.{AttachesDrives}
use Rattle.job_story.specs.Ends.{JobEnd}
use Rattle.job_story.specs.Story.{Story, card_unattached, drive_unattached, unopened, unstocked, turned}
use Rattle.offload_run.specs.Offload.{ordered_of, stands_at}
use Rattle.run_calls.specs.Own.{NoListing}
use Rattle.run_state.specs.Calls.{IsOfRun}
use Rattle.run_state.specs.Rules.{IsRun}
use Rattle.run_state.specs.Runs.{Point, Alone}
use Rattle.run_state.specs.State.{Ordered}
use Rattle.station_run.specs.Print.{PrintRun, unattached as unprinted, attached as printed}
use Rattle.station_run.specs.Station.{Ran, wanting, unread, job, verify, print}
use Rattle.station_run.specs.Verify.{VerifyRun, unattached as unverified, attached as verified}

-- what the law of the calls of turns says
abbrev pub CallsOwn : Type 0
CallsOwn = (o : Ordered) (a b : Point) → IsRun o a.at → Alone o a b → Went (IsOfRun o a.at.drives) NoListing a.world b.world

same_drives : (a b : Attached) → a ≡ b → a.drives ≡ b.drives
same_drives a b is = ap (λ (x : Attached). x.drives) is

-- each of these folders was a drive more
drives_more : (d : ℕ) (places : List (List ℕ)) (old new : World) → AttachesDrives d places old new → new.attached.drives ≡ old.attached.drives + length places
unfolding AttachesDrives
drives_more d [] old new same = let n = ap (λ (w : World). w.attached.drives) same in omega (arith, n)
drives_more d (place ∷ places) old new (mid, one, more) =
    let n = one.numbered.1 in
    let rest = drives_more (suc d) places mid new more in
    omega (arith, n, rest)

-- a job of eight drives at most attaches no more, however it ends
few_in_story : CallsOwn → (asked : Job) (end : JobEnd) (result : ℕ) (old new : World) → length asked.drives ≤ 8 → old.attached.drives ≡ 0 → Story asked end result old new → new.attached.drives ≤ 8
few_in_story own asked end result old new few none (card_unattached error mid ends failed e) =
    let first = same_drives mid.attached old.attached failed.numbered in
    let last = same_drives new.attached mid.attached e.went.attached in
    omega (arith, first, last, none)
few_in_story own asked end result old new few none (drive_unattached d mid ends lacks e) =
    let card = lacks.before.card.numbered.3 in
    let some = drives_more 0 (take d asked.drives) lacks.before.mid lacks.mid lacks.before.drives in
    let part = length-take d asked.drives in
    let failed = same_drives mid.attached lacks.mid.attached lacks.failed.numbered in
    let last = same_drives new.attached mid.attached e.went.attached in
    omega (arith, card, some, part, failed, last, few, none)
few_in_story own asked end result old new few none (unopened error mid late ends a o e) =
    let card = a.card.numbered.3 in
    let all = drives_more 0 asked.drives a.mid mid a.drives in
    let opened = same_drives late.attached mid.attached o.untouched.attached in
    let last = same_drives new.attached late.attached e.went.attached in
    omega (arith, card, all, opened, last, few, none)
few_in_story own asked end result old new few none (unstocked order mid late ends a o e) =
    let card = a.card.numbered.3 in
    let all = drives_more 0 asked.drives a.mid mid a.drives in
    let opened = same_drives late.attached mid.attached o.untouched.attached in
    let last = same_drives new.attached late.attached e.went.attached in
    omega (arith, card, all, opened, last, few, none)
few_in_story own asked end result old new few none (turned order mid late done a o t e) =
    let card = a.card.numbered.3 in
    let all = drives_more 0 asked.drives a.mid mid a.drives in
    let opened = same_drives late.attached mid.attached o.untouched.attached in
    let went = own (ordered_of t.run) (record { at = stands_at t.run; pool = t.pool; world = late }) (record { at = stands_at t.then_run; pool = t.then_pool; world = done }) t.starts.run t.alone in
    let turns = same_drives done.attached late.attached went.attached in
    let last = same_drives new.attached done.attached e.went.attached in
    omega (arith, card, all, opened, turns, last, few, none)

few_verified : (list place : List ℕ) (result : ℕ) (old new : World) → old.attached.drives ≡ 0 → VerifyRun list place result old new → new.attached.drives ≤ 8
few_verified list place result old new none (unverified n) = let same = same_drives new.attached old.attached n.attached in omega (arith, same, none)
few_verified list place result old new none (verified one on) = let n = one.drives in omega (arith, n, none)

few_printed : (list place : List ℕ) (result : ℕ) (old new : World) → old.attached.drives ≡ 0 → PrintRun list place result old new → new.attached.drives ≤ 8
few_printed list place result old new none (unprinted n) = let same = same_drives new.attached old.attached n.attached in omega (arith, same, none)
few_printed list place result old new none (printed one on) = let n = one.drives in omega (arith, n, none)

-- so it is with all words
pub few_drives : CallsOwn → (words : List (List ℕ)) (result : ℕ) (old new : World) → Ran words result old new → old.attached.drives ≡ 0 → new.attached.drives ≤ 8
few_drives own words result old new (wanting e) none = let same = same_drives new.attached old.attached e.went.attached in omega (arith, same, none)
few_drives own words result old new (unread not e) none = let same = same_drives new.attached old.attached e.went.attached in omega (arith, same, none)
few_drives own words result old new (job asked is (end, story)) none = few_in_story own asked end result old new is.few none story
few_drives own words result old new (verify list is run) none = few_verified list _ result old new none run
few_drives own words result old new (print list is run) none = few_printed list _ result old new none run
