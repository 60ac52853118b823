-- How many cards and drives are attached when all folders of a job are, and that the order of its opening can be run then.
use Rattle.std.proofs.Common.{◌≡◌, ◌≢◌, ℕ, zero, suc, ◌+◌, ◌<◌, ◌≤◌, List, [], ◌∷◌, ◌++◌, length, map, replicate, refl, sym, ◌∙◌, ap, arith, length-append}
use Rattle.std.specs.Prelude.{Ok}
use Rattle.std.proofs.lemmas.List.{length-map, length-replicate}
use Rattle.bay_core.specs.World.{World, Attached}
use Rattle.drive_journal.specs.declared.order.DriveStart.{DriveStart}
use Rattle.drive_journal.specs.declared.order.DriveStart.TheVariants.{Gone}
use Rattle.drive_journal.specs.declared.order.Order.{Order}
use Rattle.fresh_opening.specs.Openings.{Asked, FreshOpens, start_of, starts_of}
use Rattle.fresh_opening.specs.Orders.{start_at}
use Rattle.fresh_opening.specs.Sights.{Sight}
use Rattle.command_words.specs.Jobs.{Job}
use Rattle.job_story.specs.Attaching.{AttachesDrives, AttachesAll}
use Rattle.job_run.specs.Asked.{HasNone}
use Rattle.job_run.specs.Turning.{CanRun}

-- so many cards and drives are attached
pub record HasNumbers (sources drives : ℕ) (a : Attached) : Type 0 where
  pub cards : a.sources ≡ sources
  pub disks : a.drives ≡ drives

-- each of these folders was a drive more
more_drives : (d : ℕ) (places : List (List ℕ)) (old new : World) (drives : ℕ) → AttachesDrives d places old new → HasNumbers 1 drives old.attached → HasNumbers 1 (drives + length places) new.attached
unfolding AttachesDrives
more_drives d [] old new drives same was = record {
  cards = ap (λ (w : World). w.attached.sources) same ∙ was.cards;
  disks = let n = ap (λ (w : World). w.attached.drives) same in let b = was.disks in omega (arith, n, b);
}
more_drives d (place ∷ places) old new drives (mid, one, more) was =
    let n = one.numbered in
    let next : HasNumbers 1 (suc drives) mid.attached = record { cards = n.3 ∙ was.cards; disks = (let a = n.1 in let b = was.disks in omega (arith, a, b)) } in
    let rest = more_drives (suc d) places mid new (suc drives) more next in
    record { cards = rest.cards; disks = (let r = rest.disks in omega (arith, r)) }

-- one card, and each drive of the job
pub all_numbered : (job : Job) (old new : World) → HasNone old.attached → AttachesAll job old new → HasNumbers 1 (length job.drives) new.attached
all_numbered job old new none all =
    let n = all.card.numbered in
    let with_card : HasNumbers 1 0 all.mid.attached = record { cards = (let a = n.1 in let b = none.sources in omega (arith, a, b)); disks = n.3 ∙ none.drives } in
    let rest = more_drives 0 job.drives all.mid new 0 all.drives with_card in
    record { cards = rest.cards; disks = (let r = rest.disks in omega (arith, r)) }

-- a drive that is not gone is one of the order
start_low : (starts : List DriveStart) (d : ℕ) → start_at starts d ≢ Gone → d < length starts
start_low [] d live = absurd (live refl)
start_low (x ∷ starts) zero live = omega arith
start_low (x ∷ starts) (suc d) live = let low = start_low starts d live in omega (arith, low)

-- an order has the drives that were looked at, and those before the first
starts_number : (first : ℕ) (sights : List Sight) → length (starts_of first sights) ≡ first + length sights
starts_number first sights =
    let gone = length-replicate first Gone in
    let rest = length-map sights start_of in
    length-append (replicate first Gone) (map start_of sights) ∙ (λ i. gone i + rest i)

-- an opening attaches nothing, and its order is of the card and of these drives
pub can_run : (source count copies : ℕ) (a : Asked) (order : Order) (old new : World) → FreshOpens source count copies a (Ok order) old new → new.attached ≡ old.attached → source < old.attached.sources → count ≤ old.attached.drives → CanRun order new
can_run source count copies a order old new opens same card within =
    let is = opens.answer.2 in
    let long : length order.drives.items ≡ count =
    ap (λ (l : List DriveStart). length l) is.drives_are ∙ starts_number opens.scene.first opens.scene.sights ∙ (let f = opens.from in let n = opens.answer.0 in omega (arith, f, n)) in
    record {
      card = let s = is.source_is in let n = ap (λ (w : Attached). w.sources) same in omega (arith, s, n, card);
      drives = λ d live. let low = start_low order.drives.items d live in let n = ap (λ (w : Attached). w.drives) same in omega (arith, long, low, n, within);
      slots = is.slots_is;
      listed = is.listed_is;
    }
