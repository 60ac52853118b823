-- What leaves the scratch files of the drives as they were.
use Rattle.std.proofs.Common.{◌≡◌, ◌≢◌, ℕ, Bool, true, false, List, [], refl, sym, ap, ◌∙◌, subst, arith}
use Rattle.std.specs.Prelude.{Option, is_some}
use Rattle.std.specs.FinMap.{get}
use Rattle.std.proofs.lemmas.Bool.Decides.{nat_tests}
use Rattle.bay_core.specs.declared.event.Event.{Event}
use Rattle.bay_core.specs.Map.{Map}
use Rattle.bay_core.specs.Paths.{new_path, part_path}
use Rattle.bay_core.specs.Replay.{Drive, Clock, is_on}
use Rattle.bay_core.specs.Went.{Went, Only}
use Rattle.bay_core.specs.World.{World}
use Rattle.block_pool.specs.Lent.{PoolState}
use Rattle.copy_plan.specs.Plan.{PlanValue}
use Rattle.digest_set.specs.declared.triple.Triple.{Triple}
use Rattle.drive_journal.specs.declared.record.Rec.{Rec}
use Rattle.fan_core.specs.Flags.{has}
use Rattle.fan_copier.specs.declared.copy.FileCopy.{FileCopy}
use Rattle.fan_copier.specs.Copying.{live_of, slots_of, NoPart, PartBegins, PartIs}
use Rattle.fan_copier.specs.Keeping.{ReadsSame, ReadsSameBesideThePart, KeepsBlocks}
use Rattle.fan_copier.proofs.Keeping.{copying_stays, same_elsewhere, same_world}
use Rattle.recording.proofs.Leads.{new_not_part}
use Rattle.run_state.specs.declared.phase.Phase.{Phase}
use Rattle.run_state.specs.declared.phase.Phase.TheVariants.{Begins, File, Copies, Dates, Records, Seals, Clears, Ended}
use Rattle.run_state.specs.Acts.{Says}
use Rattle.run_state.specs.Rules.{Fits, slots_in}
use Rattle.run_state.specs.State.{Ordered, DriveAt, Gone, Fresh, Begun, Found, Sealed, drive_at, is_gone, due}
use Rattle.run_steps.specs.Parts.{NoNew, KeepsPart, PartFits, CanKeep, IsTidy, BeingCopied, CameWhole, PartsAt}
use Rattle.run_steps.proofs.Telling.{Later, steady_back}
use Rattle.run_steps.proofs.Drives.{due_not_gone}

-- ---- calls on other devices

-- a line
pub said_same : (line : List ℕ) (ok : Bool) {old new : World} → Says line ok old new → (k : ℕ) → ReadsSame k old new
said_same line ok said k = same_elsewhere k (λ x on. ap (is_on k) on) said.went

-- the clock
pub asked_same : {P : List Event → Type 0} {old new : World} → Went (Only Clock) P old new → (k : ℕ) → ReadsSame k old new
asked_same asked k = same_elsewhere k (λ x on. ap (is_on k) on) asked

other_drive : (k d : ℕ) → k ≢ d → is_on k (Drive d) ≡ false
other_drive k d differ = grind (arith, nat_tests)

-- another drive
pub drive_same : {P : List Event → Type 0} {old new : World} (d : ℕ) → Went (Only (Drive d)) P old new → (k : ℕ) → k ≢ d → ReadsSame k old new
drive_same d went k differ = same_elsewhere k (λ x on. ap (is_on k) on ∙ other_drive k d differ) went

pub same_idle : {old new : World} → new ≡ old → (k : ℕ) → ReadsSame k old new
same_idle {old} {new} same k = subst (λ (v : World). ReadsSame k old v) (sym same) (same_world k old)

pub same_then : {old mid new : World} (k : ℕ) → ReadsSame k old mid → ReadsSame k mid new → ReadsSame k old new
same_then k one two = record {
  back = λ m L h.
      let b = two.back m L h in
      let a = one.back m b.0 b.1 in
      (a.0, a.1, b.2 ∙ a.2);
}

-- ---- the scratch files of one drive

module _ (d : ℕ) {w new : World} (same : ReadsSame d w new) where
  pub no_new_still : NoNew d w → NoNew d new
  no_new_still none = λ m L h. let b = same.back m L h in ap (λ (n : Map). get n new_path) b.2 ∙ none m b.0 b.1

  pub no_part_still : NoPart d w → NoPart d new
  no_part_still none = λ m L h. let b = same.back m L h in ap (λ (n : Map). get n part_path) b.2 ∙ none m b.0 b.1

  pub part_is_still : (bytes : List ℕ) → PartIs d w bytes → PartIs d new bytes
  part_is_still bytes part = λ m L h. let b = same.back m L h in ap (λ (n : Map). get n part_path) b.2 ∙ part m b.0 b.1

  pub part_begins_still : (size : ℕ) (bytes : List ℕ) → PartBegins d size w bytes → PartBegins d size new bytes
  part_begins_still size bytes part = λ m L h.
      let b = same.back m L h in
      let p = part m b.0 b.1 in
      (p.0, ap (λ (n : Map). get n part_path) b.2 ∙ p.1, p.2)

  pub keeps_still : (p : PlanValue) (recs : List Rec) → KeepsPart p d w recs → KeepsPart p d new recs
  keeps_still p recs keeps = λ m L h.
      let b = same.back m L h in
      let k = keeps m b.0 b.1 in
      (k.0, k.1, part_begins_still k.0.size [] k.2)

  pub part_fits_still : (p : PlanValue) (recs : List Rec) (kept : Bool) → PartFits p d w recs kept → PartFits p d new recs kept
  part_fits_still p recs false fits = no_part_still fits
  part_fits_still p recs true fits = keeps_still p recs fits

-- no file waits for its name where all but the part is as before
pub no_new_beside : (d : ℕ) {w new : World} → ReadsSameBesideThePart d w new → NoNew d w → NoNew d new
no_new_beside d same none = λ m L h. let b = same.back m L h in b.2 new_path new_not_part ∙ none m b.0 b.1

module _ (p : PlanValue) (d : ℕ) {w new : World} where
  pub can_still : (x : DriveAt) → (is_gone x ≡ false → ReadsSame d w new) → CanKeep p d w x → CanKeep p d new x
  can_still Gone same can = tt
  can_still Fresh same can = tt
  can_still (Found recs) same can = tt
  can_still Sealed same can = tt
  can_still (Begun recs gate false) same can = tt
  can_still (Begun recs gate true) same can = keeps_still d (same refl) p recs can

  pub tidy_still : (x : DriveAt) → (is_gone x ≡ false → ReadsSame d w new) → IsTidy p d w x → IsTidy p d new x
  tidy_still Gone same tidy = tt
  tidy_still Fresh same tidy = tt
  tidy_still (Found recs) same tidy = tt
  tidy_still Sealed same tidy = tt
  tidy_still (Begun recs gate kept) same tidy = (no_new_still d (same refl) tidy.0, part_fits_still d (same refl) p recs kept tidy.1)

-- ---- the drives of a run, in another world

module _ (o : Ordered) (each : List DriveAt) {w new : World} (same : (k : ℕ) → is_gone (drive_at each k) ≡ false → ReadsSame k w new) (later : Later w new) where
  pub whole_still : (i : ℕ) (t : Triple) (first : ℕ) → CameWhole o i t first each w → CameWhole o i t first each new
  whole_still i t first c = record {
    file = c.file;
    is_file = c.is_file;
    bytes = c.bytes;
    sized = c.sized;
    digests = c.digests;
    card = λ m steady. c.card m (steady_back o.source m later steady);
    parts = λ k from due_k.
        let s = same k (due_not_gone i (drive_at each k) due_k) in
        let h = c.parts k from due_k in
        (no_new_still k s h.0, part_is_still k s c.bytes h.1);
    others = λ k out. tidy_still o.plan k (drive_at each k) (same k) (c.others k out);
  }

  pub copied_still : (i : ℕ) (copy : FileCopy) (pool after : PoolState) → ((k : ℕ) → has (live_of copy) k ≡ true → is_some (due i (drive_at each k)) ≡ true) → KeepsBlocks (slots_of copy) pool after → BeingCopied o i copy each pool w → BeingCopied o i copy each after new
  copied_still i copy pool after live blocks c = record {
    file = c.file;
    is_file = c.is_file;
    bytes = c.bytes;
    copying = copying_stays copy pool after w new c.bytes blocks (λ k there. same k (due_not_gone i (drive_at each k) (live k there))) c.copying;
    card = λ m steady. c.card m (steady_back o.source m later steady);
    no_new = λ k due_k. no_new_still k (same k (due_not_gone i (drive_at each k) due_k)) (c.no_new k due_k);
    others = λ k out. tidy_still o.plan k (drive_at each k) (same k) (c.others k out);
  }

  pub parts_still : (phase : Phase) (pool after : PoolState) → Fits o each phase → KeepsBlocks (slots_in phase) pool after → PartsAt o phase each pool w → PartsAt o phase each after new
  parts_still (Begins d) pool after fits blocks parts = record {
    before = λ k low. tidy_still o.plan k (drive_at each k) (same k) (parts.before k low);
    still = λ k high. can_still o.plan k (drive_at each k) (same k) (parts.still k high);
  }
  parts_still (File i) pool after fits blocks parts = λ k. tidy_still o.plan k (drive_at each k) (same k) (parts k)
  parts_still (Copies i copy) pool after fits blocks parts = copied_still i copy pool after (λ k there. sym (fits.live k) ∙ there) blocks parts
  parts_still (Dates i t) pool after fits blocks parts = whole_still i t 0 parts
  parts_still (Records rec d) pool after fits blocks parts = whole_still rec.index rec.triple d parts
  parts_still (Seals d) pool after fits blocks parts = λ k. tidy_still o.plan k (drive_at each k) (same k) (parts k)
  parts_still Clears pool after fits blocks parts = tt
  parts_still Ended pool after fits blocks parts = tt

-- the same blocks
pub same_blocks : (ring : List (Option ℕ)) (pool : PoolState) → KeepsBlocks ring pool pool
same_blocks ring pool = record { same = λ i n is. refl }
