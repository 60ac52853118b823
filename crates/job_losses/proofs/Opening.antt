-- Each line of the opening of a job is that of a drive whose count rose.
use Rattle.std.proofs.Common.{◌≡◌, inl, inr, ℕ, ◌+◌, ◌<◌, ◌≤◌, length, refl, subst, arith}
use Rattle.std.specs.Prelude.{Some, None, Result, Ok, Err}
use Rattle.std.specs.List.{slice_get}
use Rattle.std.proofs.lemmas.Option.{slice_get_within}
use Rattle.bay_core.specs.Replay.{Drive}
use Rattle.bay_core.specs.World.{World}
use Rattle.report_text.specs.Losses.{dropped_fault_text}
use Rattle.drive_journal.specs.declared.order.Order.{Order}
use Rattle.fresh_opening.specs.declared.error.FreshError.{FreshError}
use Rattle.fresh_opening.specs.declared.error.FreshError.TheVariants.{Inventory, NotAJournal, AlreadyBegun, NoDrive, Clash, Occupied, OutFailed, Memory}
use Rattle.fresh_opening.specs.Openings.{Asked, Answers, IsUnsaidBy, FreshLooks, FreshOpens}
use Rattle.fresh_opening.specs.Sights.{Dropped}
use Rattle.card_inventory.specs.declared.error.InventoryError.TheVariants.{Memory as CardMemory}
use Rattle.run_reads.proofs.Since.{Since}
use Rattle.job_story.specs.Run.{Run}
use Rattle.job_losses.specs.Drops.{Rises}
use Rattle.job_losses.proofs.Lines.{Lines, IsFaultLine, fault_line}
use Rattle.job_losses.proofs.Opened.{looked_lines, unlisted_lines}
use Rattle.job_losses.proofs.Told.{Grows, grows_went, grows_then, rose_in}

module _ (run : Run) (mid late : World) (early : Grows run.before mid) (behind : Grows late run.after) (count copies : ℕ) (a : Asked) (few : count ≤ 8) where
  looked : (came : Result Order FreshError) → FreshLooks 0 count copies a came mid late → Since (Lines (IsFaultLine run)) mid late
  looked came l = looked_lines (IsFaultLine run) 0 count copies a came mid late l dropped unsaid
    where
      before : Grows run.before l.listed
      before = grows_then early (grows_went l.card.1.called.went)

      rises : (n : ℕ) → n < 8 → Rises run (Drive n) → IsFaultLine run (dropped_fault_text n)
      rises n low rose = fault_line run n (omega (arith, low)) rose

      dropped : (place : ℕ) → slice_get l.scene.sights place ≡ Some Dropped → IsFaultLine run (dropped_fault_text (l.scene.first + place))
      dropped place is =
          let within = slice_get_within l.scene.sights place Dropped is in
          let first = l.from in
          let most = l.few in
          rises (l.scene.first + place) (omega (arith, within, first, most, few)) (rose_in (Drive (l.scene.first + place)) before behind (l.sights place Dropped is))

      unsaid : came ≡ Err OutFailed → IsFaultLine run (dropped_fault_text (l.scene.first + length l.scene.sights))
      unsaid is =
          let answer : Answers 0 count copies None l.scene (Err OutFailed) = subst (λ (r : Result Order FreshError). Answers 0 count copies None l.scene r) is l.answer in
          let rose : IsUnsaidBy (l.scene.first + length l.scene.sights) (Err OutFailed) l.listed late = subst (λ (r : Result Order FreshError). IsUnsaidBy (l.scene.first + length l.scene.sights) r l.listed late) is l.unsaid in
          let fewer = answer.0 in
          let first = l.from in
          rises (l.scene.first + length l.scene.sights) (omega (arith, fewer, first, few)) (rose_in (Drive (l.scene.first + length l.scene.sights)) before behind (rose refl).0)

  pub opened : (came : Result Order FreshError) → FreshOpens 0 count copies a came mid late → Since (Lines (IsFaultLine run)) mid late
  opened (Ok order) o = looked (Ok order) o
  opened (Err (Inventory e)) o = unlisted_lines (IsFaultLine run) 0 e mid late o.1
  opened (Err Memory) (inl o) = unlisted_lines (IsFaultLine run) 0 CardMemory mid late o
  opened (Err Memory) (inr o) = looked (Err Memory) o
  opened (Err (NotAJournal d at)) o = looked (Err (NotAJournal d at)) o
  opened (Err (AlreadyBegun d)) o = looked (Err (AlreadyBegun d)) o
  opened (Err NoDrive) o = looked (Err NoDrive) o
  opened (Err (Clash list path)) o = looked (Err (Clash list path)) o
  opened (Err (Occupied d path)) o = looked (Err (Occupied d path)) o
  opened (Err OutFailed) o = looked (Err OutFailed) o
