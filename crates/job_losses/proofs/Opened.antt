-- The calls of an opening: its card is listed, its drives are looked at, and the moment is asked; and the lines among them.
use Rattle.std.proofs.Common.{◌≡◌, inl, inr, ℕ, suc, ◌+◌, true, false, List, [], ◌∷◌, ◌++◌, length, refl, sym, ap, ◌∙◌, subst, arith, append-nil}
use Rattle.std.specs.Prelude.{Option, Some, None, Result, Ok, Err}
use Rattle.std.specs.FinMap.{get}
use Rattle.std.specs.List.{slice_get}
use Rattle.bay_core.specs.declared.event.Event.{Event}
use Rattle.bay_core.specs.declared.event.Event.TheVariants.{SourceList, Moment, Say}
use Rattle.bay_core.specs.declared.event.FileInfo.{FileInfo}
use Rattle.bay_core.specs.Looks.{Tiles, piece}
use Rattle.bay_core.specs.Paths.{journal_path}
use Rattle.bay_core.specs.Replay.{Device, Source, Drive, Output, Clock, device_of}
use Rattle.bay_core.specs.Went.{AllOn, Only, Then}
use Rattle.bay_core.specs.World.{World}
use Rattle.bay_core.proofs.Runs.{AllOn-append, all_on, none_on, one_on}
use Rattle.folder_listing.specs.Listing.{listing}
use Rattle.report_text.specs.Losses.{dropped_fault_text}
use Rattle.card_inventory.specs.declared.error.InventoryError.{InventoryError}
use Rattle.card_inventory.specs.declared.error.InventoryError.TheVariants.{SourceFailed, EmptyCard, TooManyFiles, BadPath, BadDate, TooManyBytes, Control, TooBig, Clash as FilesClash, Memory as CardMemory}
use Rattle.card_inventory.specs.Card.{CardGives}
use Rattle.copy_plan.specs.Plan.{PlanValue}
use Rattle.drive_journal.specs.declared.order.Order.{Order}
use Rattle.drive_journal.specs.Found.{JournalFound, NoJournal, Journal, Vanished, TooLong, JournalReads}
use Rattle.fan_copier.specs.Passed.{is_card}
use Rattle.fresh_opening.specs.declared.error.FreshError.{FreshError}
use Rattle.fresh_opening.specs.declared.error.FreshError.TheVariants.{Inventory, NotAJournal, AlreadyBegun, NoDrive, Clash, Occupied, OutFailed, Memory}
use Rattle.fresh_opening.specs.Looks.{EndCalls}
use Rattle.fresh_opening.specs.Openings.{Asked, AsksMoment, EndsWith, FreshLooks}
use Rattle.fresh_opening.specs.Sights.{Sight, Dropped, Found, FoundCalls, SightCalls, SightsCalls}
use Rattle.run_ends.proofs.Lines.{no_line}
use Rattle.run_reads.specs.Reads.{reads_of}
use Rattle.run_reads.proofs.Cards.{reads_append, reads_off}
use Rattle.run_reads.proofs.Since.{Since, since_such}
use Rattle.job_losses.proofs.Lines.{Lines, lines_none, lines_empty, lines_then, lines_one, lines_of_drive, lines_may}
use Rattle.job_losses.proofs.Told.{since_went, since_then}

-- ---- one drive

tiles_on : (d : ℕ) (path : List ℕ) (at : ℕ) (L : List Event) → Tiles d path at L → AllOn (Only (Drive d)) L
unfolding Tiles AllOn
tiles_on d path at [] t = tt
tiles_on d path at (e ∷ L) ((want, got, is), t) = (ap device_of is, tiles_on d path (at + length (piece e)) L t)

empty_on : (d : ℕ) (L : List Event) → L ≡ [] → AllOn (Only (Drive d)) L
empty_on d L is = subst (AllOn (Only (Drive d))) (sym is) (none_on (Only (Drive d)))

journal_on : (d : ℕ) (size : Option ℕ) (found : JournalFound) (L : List Event) → JournalReads d size found L → AllOn (Only (Drive d)) L
journal_on d size NoJournal L reads = empty_on d L reads.1
journal_on d size (Journal bytes) L reads = tiles_on d journal_path 0 L reads.1.tiles
journal_on d size Vanished L reads = tiles_on d journal_path 0 L reads.1.tiles
journal_on d size TooLong L (inl reads) = empty_on d L reads.3
journal_on d size TooLong L (inr reads) = tiles_on d journal_path 0 L reads.1.tiles

found_on : (d : ℕ) (size : List ℕ → Option ℕ) (found : JournalFound) (L : List Event) → FoundCalls d size found L → AllOn (Only (Drive d)) L
unfolding AllOn
found_on d size found L s = subst (AllOn (Only (Drive d))) (sym s.calls.is) (refl, journal_on d (get (listing s.files) journal_path) found s.calls.reads s.calls.such)

-- the devices that looks call: drives, and the output
abbrev pub IsLooking : Device → Type 0
IsLooking (Drive d) = Unit {0}
IsLooking Output = Unit {0}
IsLooking _ = ⊥

looking_drive : (d : ℕ) (L : List Event) → AllOn (Only (Drive d)) L → AllOn IsLooking L
looking_drive d L on = all_on (λ x is. subst IsLooking (sym is) tt) L on

-- ---- drive after drive

sight_on : (d : ℕ) (x : Sight) (L : List Event) → SightCalls d x L → AllOn IsLooking L
sight_on d Dropped L s =
    subst (AllOn IsLooking) (sym s.is) (AllOn-append IsLooking s.first s.second (looking_drive d s.first s.here.on) (subst (AllOn IsLooking) (sym s.there) (one_on IsLooking (Say (dropped_fault_text d) true) tt)))
sight_on d (Found size found) L s = looking_drive d L (found_on d size found L s)

sights_on : (xs : List Sight) (d : ℕ) (L : List Event) → SightsCalls d xs L → AllOn IsLooking L
unfolding SightsCalls
sights_on [] d L is = subst (AllOn IsLooking) (sym is) (none_on IsLooking)
sights_on (x ∷ xs) d L s = subst (AllOn IsLooking) (sym s.is) (AllOn-append IsLooking s.first s.second (sight_on d x s.first s.here) (sights_on xs (suc d) s.second s.there))

-- ---- the lines

module _ (Q : List ℕ → Type 0) where
  sight_lines : (d : ℕ) (x : Sight) (L : List Event) → (x ≡ Dropped → Q (dropped_fault_text d)) → SightCalls d x L → Lines Q L
  sight_lines d Dropped L so s =
      subst (Lines Q) (sym s.is) (lines_then Q s.first s.second (lines_of_drive Q d s.first s.here.on) (subst (Lines Q) (sym s.there) (lines_one Q (dropped_fault_text d) true (so refl))))
  sight_lines d (Found size found) L so s = lines_of_drive Q d L (found_on d size found L s)

  -- each line is that of a drive that was dropped
  sights_lines : (xs : List Sight) (d : ℕ) (L : List Event) → ((place : ℕ) → slice_get xs place ≡ Some Dropped → Q (dropped_fault_text (d + place))) → SightsCalls d xs L → Lines Q L
  unfolding SightsCalls
  sights_lines [] d L so is = subst (Lines Q) (sym is) (lines_empty Q)
  sights_lines (x ∷ xs) d L so s =
      subst (Lines Q) (sym s.is)
      (lines_then Q s.first s.second (sight_lines d x s.first (λ is. let same : d + 0 ≡ d = omega arith in subst (λ (n : ℕ). Q (dropped_fault_text n)) same (so 0 (ap Some is))) s.here)
      (sights_lines xs (suc d) s.second (λ place is. let same : d + suc place ≡ suc d + place = omega arith in subst (λ (n : ℕ). Q (dropped_fault_text n)) same (so (suc place) is)) s.there))

  -- how the looks end
  end_lines : (d : ℕ) (e : FreshError) (L : List Event) → (e ≡ OutFailed → Q (dropped_fault_text d)) → EndCalls d e L → Lines Q L
  end_lines d OutFailed L so s =
      subst (Lines Q) (sym s.is) (lines_then Q s.first s.second (lines_of_drive Q d s.first s.here.on) (lines_may Q (dropped_fault_text d) s.second (so refl) s.there))
  end_lines d Memory L so s = lines_of_drive Q d L s.on
  end_lines d (Inventory e) L so is = subst (Lines Q) (sym is) (lines_empty Q)
  end_lines d (NotAJournal drive at) L so is = subst (Lines Q) (sym is) (lines_empty Q)
  end_lines d (AlreadyBegun drive) L so is = subst (Lines Q) (sym is) (lines_empty Q)
  end_lines d NoDrive L so is = subst (Lines Q) (sym is) (lines_empty Q)
  end_lines d (Clash list path) L so is = subst (Lines Q) (sym is) (lines_empty Q)
  end_lines d (Occupied drive path) L so is = subst (Lines Q) (sym is) (lines_empty Q)

  ends_lines : (d : ℕ) (came : Result Order FreshError) (L : List Event) → (came ≡ Err OutFailed → Q (dropped_fault_text d)) → EndsWith d came L → Lines Q L
  ends_lines d (Ok order) L so is = subst (Lines Q) (sym is) (lines_empty Q)
  ends_lines d (Err e) L so s = end_lines d e L (λ is. so (ap Err is)) s

  moment_lines : (plan : Option PlanValue) (L : List Event) → AsksMoment plan L → Lines Q L
  moment_lines None L is = subst (Lines Q) (sym is) (lines_empty Q)
  moment_lines (Some p) L is = subst (Lines Q) (sym is) (lines_none Q (Moment p.started ∷ []) (no_line (Only Clock) (λ y clock out. cc (clock, out)) (Moment p.started ∷ []) (one_on (Only Clock) (Moment p.started) refl)))

  card_lines : (s : ℕ) (L : List Event) → AllOn (Only (Source s)) L → Lines Q L
  card_lines s L on = lines_none Q L (no_line (Only (Source s)) (λ y card out. cc (card, out)) L on)

  both_lines : {old mid new : World} → Since (Lines Q) old mid → Since (Lines Q) mid new → Since (Lines Q) old new
  both_lines one two = since_such (λ L (t : Then (Lines Q) (Lines Q) L). subst (Lines Q) (sym t.is) (lines_then Q t.first t.second t.here t.there)) (since_then one two)

  -- each line of an opening is that of a drive that was dropped, or of the one whose line was not said
  pub looked_lines : (source count copies : ℕ) (a : Asked) (came : Result Order FreshError) (old new : World) → (l : FreshLooks source count copies a came old new)
      → ((place : ℕ) → slice_get l.scene.sights place ≡ Some Dropped → Q (dropped_fault_text (l.scene.first + place))) → (came ≡ Err OutFailed → Q (dropped_fault_text (l.scene.first + length l.scene.sights)))
      → Since (Lines Q) old new
  looked_lines source count copies a came old new l dropped unsaid =
      both_lines (since_such (λ L both. card_lines source L both.0) (since_went l.card.1.called.went))
      (since_such (λ L both. rest L both.1) (since_went l.went))
    where
      rest : (L : List Event) → Then (SightsCalls l.scene.first l.scene.sights) (Then (AsksMoment l.scene.plan) (EndsWith (l.scene.first + length l.scene.sights) came)) L → Lines Q L
      rest L s =
          subst (Lines Q) (sym s.is)
          (lines_then Q s.first s.second (sights_lines l.scene.sights l.scene.first s.first dropped s.here)
          (subst (Lines Q) (sym s.there.is)
          (lines_then Q s.there.first s.there.second (moment_lines l.scene.plan s.there.first s.there.here) (ends_lines (l.scene.first + length l.scene.sights) came s.there.second unsaid s.there.there))))

  -- a card that has no inventory was asked alone
  pub unlisted_lines : (source : ℕ) (e : InventoryError) (old new : World) → CardGives source (Err e) old new → Since (Lines Q) old new
  unlisted_lines source SourceFailed old new g = since_such (λ L both. card_lines source L both.0) (since_went g.went)
  unlisted_lines source CardMemory old new g = since_such (λ L both. card_lines source L both.0) (since_went g.went)
  unlisted_lines source EmptyCard old new g = since_such (λ L both. card_lines source L both.0) (since_went g.1.called.went)
  unlisted_lines source (TooManyFiles count) old new g = since_such (λ L both. card_lines source L both.0) (since_went g.1.called.went)
  unlisted_lines source (BadPath index cause) old new g = since_such (λ L both. card_lines source L both.0) (since_went g.1.called.went)
  unlisted_lines source (BadDate path) old new g = since_such (λ L both. card_lines source L both.0) (since_went g.1.called.went)
  unlisted_lines source (TooManyBytes sum) old new g = since_such (λ L both. card_lines source L both.0) (since_went g.1.called.went)
  unlisted_lines source (Control path) old new g = since_such (λ L both. card_lines source L both.0) (since_went g.1.called.went)
  unlisted_lines source (TooBig path) old new g = since_such (λ L both. card_lines source L both.0) (since_went g.1.called.went)
  unlisted_lines source (FilesClash first second) old new g = since_such (λ L both. card_lines source L both.0) (since_went g.1.called.went)

-- ---- an opening that gave an order

-- its calls: the card was listed first, then the drives were looked at, and last the moment was asked
pub record OpeningCalls (source : ℕ) (listed : List FileInfo) (started : ℕ) (L : List Event) : Type 0 where
  pub looks : List Event
  pub is : L ≡ SourceList source (Some listed) ∷ (looks ++ Moment started ∷ [])
  pub on : AllOn IsLooking looks

asked_moment : (plan : Option PlanValue) (p : PlanValue) (L : List Event) → plan ≡ Some p → AsksMoment plan L → L ≡ Moment p.started ∷ []
asked_moment plan p L is asks = subst (λ (o : Option PlanValue). AsksMoment o L → L ≡ Moment p.started ∷ []) (sym is) (λ one. one) asks

ordered_calls : (source : ℕ) (listed : List FileInfo) (d : ℕ) (sights : List Sight) (plan : Option PlanValue) (p : PlanValue) (e : ℕ) (order : Order) (L C S : List Event) → plan ≡ Some p → L ≡ C ++ S → C ≡ SourceList source (Some listed) ∷ []
    → Then (SightsCalls d sights) (Then (AsksMoment plan) (EndsWith e (Ok order))) S → OpeningCalls source listed p.started L
ordered_calls source listed d sights plan p e order L C S planned is card s = record {
  looks = s.first;
  is = is ∙ ap (λ (l : List Event). l ++ S) card ∙ ap (λ (l : List Event). SourceList source (Some listed) ∷ l) (s.is ∙ ap (λ (l : List Event). s.first ++ l) last);
  on = sights_on sights d s.first s.here;
}
  where
    last : s.second ≡ Moment p.started ∷ []
    last = s.there.is ∙ ap (λ (l : List Event). s.there.first ++ l) s.there.there ∙ append-nil s.there.first ∙ asked_moment plan p s.there.first planned s.there.here

pub opening_calls : (source count copies : ℕ) (a : Asked) (order : Order) (old new : World) → (l : FreshLooks source count copies a (Ok order) old new) → Since (OpeningCalls source l.card.0 order.plan.started) old new
opening_calls source count copies a order old new l =
    since_such (λ L t. ordered_calls source l.card.0 l.scene.first l.scene.sights l.scene.plan order.plan (l.scene.first + length l.scene.sights) order L t.first t.second l.answer.2.plan_is t.is t.here.1 t.there.1)
    (since_then (since_went l.card.1.called.went) (since_went l.went))

-- no file of a card is read there
looking_off : (s : ℕ) (y : Device) → IsLooking y → is_card s y ≡ false
looking_off s (Drive d) on = refl
looking_off s Output on = refl
looking_off s y on = absurd on

pub opening_unread : (s source started : ℕ) (path : List ℕ) (listed : List FileInfo) (L : List Event) → OpeningCalls source listed started L → reads_of s path L ≡ []
opening_unread s source started path listed L c =
    ap (reads_of s path) c.is ∙ reads_append s path c.looks (Moment started ∷ []) ∙ ap (λ (l : List Event). l ++ []) (reads_off s path IsLooking (looking_off s) c.looks c.on)
