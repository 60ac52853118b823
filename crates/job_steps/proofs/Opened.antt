-- The calls of an opening: its card is listed, its drives are looked at, and the moment is asked.
use Rattle.std.proofs.Common.{◌≡◌, ◌≢◌, ◌⊎◌, inl, inr, ℕ, suc, ◌+◌, Bool, true, false, List, [], ◌∷◌, ◌++◌, length, refl, sym, ap, ◌∙◌, subst, arith, append-nil}
use Rattle.std.specs.Prelude.{Option, Some, None, Result, Ok, Err}
use Rattle.std.specs.FinMap.{get}
use Rattle.std.specs.List.{AllByRecursion}
use Rattle.bay_core.specs.declared.event.Event.{Event}
use Rattle.bay_core.specs.declared.event.Event.TheVariants.{AttachSource, AttachDrive, AttachFailed, SourceList, SourceRead, DriveList, DriveRead, Write, Sync, Rename, Remove, Moment, Pick, Say}
use Rattle.bay_core.specs.declared.event.FileInfo.{FileInfo}
use Rattle.bay_core.specs.Looks.{Tiles, piece}
use Rattle.bay_core.specs.Replay.{Device, Source, Drive, device_of}
use Rattle.bay_core.specs.Went.{AllOn, Only, Then, MaySee}
use Rattle.bay_core.specs.World.{World}
use Rattle.crash_law.specs.Lines.{LineHas, AllLines}
use Rattle.folder_listing.specs.Listing.{listing}
use Rattle.report_text.specs.Losses.{dropped_fault_text}
use Rattle.card_inventory.specs.declared.error.InventoryError.{InventoryError}
use Rattle.card_inventory.specs.declared.error.InventoryError.TheVariants.{SourceFailed, EmptyCard, TooManyFiles, BadPath, BadDate, TooManyBytes, Control, TooBig, Clash as FilesClash, Memory as CardMemory}
use Rattle.card_inventory.specs.Card.{CardGives}
use Rattle.copy_plan.specs.declared.file.PlannedFile.{PlannedFile}
use Rattle.copy_plan.specs.Plan.{PlanValue}
use Rattle.drive_journal.specs.declared.order.Order.{Order}
use Rattle.drive_journal.specs.Found.{JournalFound, NoJournal, Journal, Vanished, TooLong, JournalReads, LookCalls}
use Rattle.fresh_opening.specs.declared.error.FreshError.{FreshError}
use Rattle.fresh_opening.specs.declared.error.FreshError.TheVariants.{Inventory, NotAJournal, AlreadyBegun, NoDrive, Clash, Occupied, OutFailed, Memory}
use Rattle.fresh_opening.specs.Looks.{EndCalls}
use Rattle.fresh_opening.specs.Openings.{Asked, AsksMoment, EndsWith, FreshLooks, FreshOpens}
use Rattle.fresh_opening.specs.Sights.{Sight, Dropped, Found, SightCalls, SightsCalls}
use Rattle.job_steps.proofs.Plain.{IsPlain}
use Rattle.job_steps.proofs.Quiet.{each_on, each_append, each_more, lines_each}
use Rattle.job_steps.proofs.Told.{Tells, tells_such, tells_then, tells_went}

-- a call on a drive; or the line of a drive on which a call failed
abbrev pub IsLook : Event → Type 0
IsLook (Say line ok) = (d : ℕ) × (line ≡ dropped_fault_text d)
IsLook (DriveList d got) = Unit {0}
IsLook (DriveRead d path at want got) = Unit {0}
IsLook (Write d path at bytes ok) = Unit {0}
IsLook (Sync d ok) = Unit {0}
IsLook (Rename d from to ok) = Unit {0}
IsLook (Remove d path ok) = Unit {0}
IsLook _ = ⊥

abbrev pub AreLooks : List Event → Type 0
AreLooks L = AllByRecursion IsLook L

look_on : (d : ℕ) (e : Event) → device_of e ≡ Drive d → IsLook e
look_on d (AttachSource s place) on = absurd (cc on)
look_on d (AttachDrive k place) on = absurd (cc on)
look_on d (AttachFailed place) on = absurd (cc on)
look_on d (SourceList s got) on = absurd (cc on)
look_on d (SourceRead s path at want got) on = absurd (cc on)
look_on d (DriveList k got) on = tt
look_on d (DriveRead k path at want got) on = tt
look_on d (Write k path at bytes ok) on = tt
look_on d (Sync k ok) on = tt
look_on d (Rename k from to ok) on = tt
look_on d (Remove k path ok) on = tt
look_on d (Moment t) on = absurd (cc on)
look_on d (Pick n) on = absurd (cc on)
look_on d (Say line ok) on = absurd (cc on)

looks_on : (d : ℕ) (L : List Event) → AllOn (Only (Drive d)) L → AreLooks L
looks_on d L on = each_on (Only (Drive d)) IsLook (look_on d) L on

-- ---- one drive

tiles_look : (d : ℕ) (path : List ℕ) (at : ℕ) (L : List Event) → Tiles d path at L → AreLooks L
unfolding Tiles
tiles_look d path at [] t = tt
tiles_look d path at (e ∷ L) ((want, got, is), t) = (subst IsLook (sym is) tt, tiles_look d path (at + length (piece e)) L t)

journal_looks : (d : ℕ) (size : Option ℕ) (found : JournalFound) (L : List Event) → JournalReads d size found L → AreLooks L
journal_looks d size NoJournal L reads = subst AreLooks (sym reads.1) tt
journal_looks d size (Journal bytes) L reads = tiles_look d _ 0 L reads.1.tiles
journal_looks d size Vanished L reads = tiles_look d _ 0 L reads.1.tiles
journal_looks d size TooLong L (inl reads) = subst AreLooks (sym reads.3) tt
journal_looks d size TooLong L (inr reads) = tiles_look d _ 0 L reads.1.tiles

sight_looks : (d : ℕ) (x : Sight) (L : List Event) → SightCalls d x L → AreLooks L
sight_looks d Dropped L s = subst AreLooks (sym s.is) (each_append IsLook s.first s.second (looks_on d s.first s.here.on) (subst AreLooks (sym s.there) ((d, refl), tt)))
sight_looks d (Found size found) L s =
    subst AreLooks (sym s.calls.is) (tt, journal_looks d (get (listing s.files) _) found s.calls.reads s.calls.such)

-- ---- drive after drive

sights_look : (xs : List Sight) (d : ℕ) (L : List Event) → SightsCalls d xs L → AreLooks L
unfolding SightsCalls
sights_look [] d L is = subst AreLooks (sym is) tt
sights_look (x ∷ xs) d L s = subst AreLooks (sym s.is) (each_append IsLook s.first s.second (sight_looks d x s.first s.here) (sights_look xs (suc d) s.second s.there))

unsaid_looks : (d : ℕ) (L : List Event) → MaySee (Say (dropped_fault_text d) false) L → AreLooks L
unsaid_looks d L (inl is) = subst AreLooks (sym is) tt
unsaid_looks d L (inr is) = subst AreLooks (sym is) ((d, refl), tt)

end_looks : (d : ℕ) (e : FreshError) (L : List Event) → EndCalls d e L → AreLooks L
end_looks d OutFailed L s = subst AreLooks (sym s.is) (each_append IsLook s.first s.second (looks_on d s.first s.here.on) (unsaid_looks d s.second s.there))
end_looks d Memory L s = looks_on d L s.on
end_looks d (Inventory e) L is = subst AreLooks (sym is) tt
end_looks d (NotAJournal drive at) L is = subst AreLooks (sym is) tt
end_looks d (AlreadyBegun drive) L is = subst AreLooks (sym is) tt
end_looks d NoDrive L is = subst AreLooks (sym is) tt
end_looks d (Clash list path) L is = subst AreLooks (sym is) tt
end_looks d (Occupied drive path) L is = subst AreLooks (sym is) tt

ends_look : (d : ℕ) (came : Result Order FreshError) (L : List Event) → EndsWith d came L → AreLooks L
ends_look d (Ok order) L is = subst AreLooks (sym is) tt
ends_look d (Err e) L s = end_looks d e L s

-- ---- the lines

card_line : (Q : List ℕ → Type 0) (s : ℕ) (e : Event) → device_of e ≡ Source s → LineHas Q e
card_line Q s (AttachSource k place) on = tt
card_line Q s (AttachDrive k place) on = tt
card_line Q s (AttachFailed place) on = tt
card_line Q s (SourceList k got) on = tt
card_line Q s (SourceRead k path at want got) on = tt
card_line Q s (DriveList k got) on = tt
card_line Q s (DriveRead k path at want got) on = tt
card_line Q s (Write k path at bytes ok) on = tt
card_line Q s (Sync k ok) on = tt
card_line Q s (Rename k from to ok) on = tt
card_line Q s (Remove k path ok) on = tt
card_line Q s (Moment t) on = tt
card_line Q s (Pick n) on = tt
card_line Q s (Say line ok) on = absurd (cc on)

look_line : (Q : List ℕ → Type 0) → ((d : ℕ) → Q (dropped_fault_text d)) → (e : Event) → IsLook e → LineHas Q e
look_line Q so (AttachSource k place) is = tt
look_line Q so (AttachDrive k place) is = tt
look_line Q so (AttachFailed place) is = tt
look_line Q so (SourceList k got) is = tt
look_line Q so (SourceRead k path at want got) is = tt
look_line Q so (DriveList k got) is = tt
look_line Q so (DriveRead k path at want got) is = tt
look_line Q so (Write k path at bytes ok) is = tt
look_line Q so (Sync k ok) is = tt
look_line Q so (Rename k from to ok) is = tt
look_line Q so (Remove k path ok) is = tt
look_line Q so (Moment t) is = tt
look_line Q so (Pick n) is = tt
look_line Q so (Say line ok) (d, is) = subst Q (sym is) (so d)

moment_lines : (Q : List ℕ → Type 0) (plan : Option PlanValue) (L : List Event) → AsksMoment plan L → AllByRecursion (LineHas Q) L
moment_lines Q None L is = subst (AllByRecursion (LineHas Q)) (sym is) tt
moment_lines Q (Some p) L is = subst (AllByRecursion (LineHas Q)) (sym is) (tt, tt)

module _ (Q : List ℕ → Type 0) (so : (d : ℕ) → Q (dropped_fault_text d)) where
  abbrev HaveLines : List Event → Type 0
  HaveLines L = AllByRecursion (LineHas Q) L

  looks_lines : (L : List Event) → AreLooks L → HaveLines L
  looks_lines L looks = each_more IsLook (LineHas Q) (look_line Q so) L looks

  card_lines : (s : ℕ) (L : List Event) → AllOn (Only (Source s)) L → HaveLines L
  card_lines s L on = each_on (Only (Source s)) (LineHas Q) (card_line Q s) L on

  rest_lines : (d : ℕ) (sights : List Sight) (plan : Option PlanValue) (e : ℕ) (came : Result Order FreshError) (L : List Event) → Then (SightsCalls d sights) (Then (AsksMoment plan) (EndsWith e came)) L → HaveLines L
  rest_lines d sights plan e came L s =
      subst HaveLines (sym s.is)
      (each_append (LineHas Q) s.first s.second (looks_lines s.first (sights_look sights d s.first s.here))
      (subst HaveLines (sym s.there.is) (each_append (LineHas Q) s.there.first s.there.second (moment_lines Q plan s.there.first s.there.here) (looks_lines s.there.second (ends_look e came s.there.second s.there.there)))))

  both_lines : {old mid new : World} → Tells HaveLines old mid → Tells HaveLines mid new → Tells HaveLines old new
  both_lines one two = tells_such (λ L (t : Then HaveLines HaveLines L). subst HaveLines (sym t.is) (each_append (LineHas Q) t.first t.second t.here t.there)) (tells_then one two)

  looked_lines : (source count copies : ℕ) (a : Asked) (came : Result Order FreshError) (old new : World) → FreshLooks source count copies a came old new → Tells HaveLines old new
  looked_lines source count copies a came old new l =
      both_lines (tells_such (λ L both. card_lines source L both.0) (tells_went l.card.1.called.went))
      (tells_such (λ L both. rest_lines l.scene.first l.scene.sights l.scene.plan (l.scene.first + length l.scene.sights) came L both.1) (tells_went l.went))

  unlisted_lines : (source : ℕ) (e : InventoryError) (old new : World) → CardGives source (Err e) old new → Tells HaveLines old new
  unlisted_lines source SourceFailed old new g = tells_such (λ L both. card_lines source L both.0) (tells_went g.went)
  unlisted_lines source CardMemory old new g = tells_such (λ L both. card_lines source L both.0) (tells_went g.went)
  unlisted_lines source EmptyCard old new g = tells_such (λ L both. card_lines source L both.0) (tells_went g.1.called.went)
  unlisted_lines source (TooManyFiles count) old new g = tells_such (λ L both. card_lines source L both.0) (tells_went g.1.called.went)
  unlisted_lines source (BadPath index cause) old new g = tells_such (λ L both. card_lines source L both.0) (tells_went g.1.called.went)
  unlisted_lines source (BadDate path) old new g = tells_such (λ L both. card_lines source L both.0) (tells_went g.1.called.went)
  unlisted_lines source (TooManyBytes sum) old new g = tells_such (λ L both. card_lines source L both.0) (tells_went g.1.called.went)
  unlisted_lines source (Control path) old new g = tells_such (λ L both. card_lines source L both.0) (tells_went g.1.called.went)
  unlisted_lines source (TooBig path) old new g = tells_such (λ L both. card_lines source L both.0) (tells_went g.1.called.went)
  unlisted_lines source (FilesClash first second) old new g = tells_such (λ L both. card_lines source L both.0) (tells_went g.1.called.went)

  opened_lines : (source count copies : ℕ) (a : Asked) (came : Result Order FreshError) (old new : World) → FreshOpens source count copies a came old new → Tells HaveLines old new
  opened_lines source count copies a (Ok order) old new o = looked_lines source count copies a (Ok order) old new o
  opened_lines source count copies a (Err (Inventory e)) old new o = unlisted_lines source e old new o.1
  opened_lines source count copies a (Err Memory) old new (inl o) = unlisted_lines source CardMemory old new o
  opened_lines source count copies a (Err Memory) old new (inr o) = looked_lines source count copies a (Err Memory) old new o
  opened_lines source count copies a (Err (NotAJournal d at)) old new o = looked_lines source count copies a (Err (NotAJournal d at)) old new o
  opened_lines source count copies a (Err (AlreadyBegun d)) old new o = looked_lines source count copies a (Err (AlreadyBegun d)) old new o
  opened_lines source count copies a (Err NoDrive) old new o = looked_lines source count copies a (Err NoDrive) old new o
  opened_lines source count copies a (Err (Clash list path)) old new o = looked_lines source count copies a (Err (Clash list path)) old new o
  opened_lines source count copies a (Err (Occupied d path)) old new o = looked_lines source count copies a (Err (Occupied d path)) old new o
  opened_lines source count copies a (Err OutFailed) old new o = looked_lines source count copies a (Err OutFailed) old new o

  -- each line of an opening is that of a drive on which a call failed
  pub opening_lines : (source count copies : ℕ) (a : Asked) (came : Result Order FreshError) (old new : World) → FreshOpens source count copies a came old new → Tells (AllLines Q) old new
  opening_lines source count copies a came old new o = tells_such (λ L each. lines_each Q L each) (opened_lines source count copies a came old new o)

-- ---- an opening that gave an order

-- its calls: the card was listed first, then the drives were looked at, and last the moment was asked
pub record OpeningCalls (source : ℕ) (listed : List FileInfo) (started : ℕ) (L : List Event) : Type 0 where
  pub looks : List Event
  pub is : L ≡ SourceList source (Some listed) ∷ (looks ++ Moment started ∷ [])
  pub are : AreLooks looks

asked_moment : (plan : Option PlanValue) (p : PlanValue) (L : List Event) → plan ≡ Some p → AsksMoment plan L → L ≡ Moment p.started ∷ []
asked_moment plan p L is asks = subst (λ (o : Option PlanValue). AsksMoment o L → L ≡ Moment p.started ∷ []) (sym is) (λ one. one) asks

ordered_calls : (source : ℕ) (listed : List FileInfo) (d : ℕ) (sights : List Sight) (plan : Option PlanValue) (p : PlanValue) (e : ℕ) (order : Order) (L C S : List Event) → plan ≡ Some p → L ≡ C ++ S → C ≡ SourceList source (Some listed) ∷ []
    → Then (SightsCalls d sights) (Then (AsksMoment plan) (EndsWith e (Ok order))) S → OpeningCalls source listed p.started L
ordered_calls source listed d sights plan p e order L C S planned is card s = record {
  looks = s.first;
  is = is ∙ ap (λ (l : List Event). l ++ S) card ∙ ap (λ (l : List Event). SourceList source (Some listed) ∷ l) (s.is ∙ ap (λ (l : List Event). s.first ++ l) last);
  are = sights_look sights d s.first s.here;
}
  where
    last : s.second ≡ Moment p.started ∷ []
    last = s.there.is ∙ ap (λ (l : List Event). s.there.first ++ l) s.there.there ∙ append-nil s.there.first ∙ asked_moment plan p s.there.first planned s.there.here

pub opening_calls : (source count copies : ℕ) (a : Asked) (order : Order) (old new : World) → (l : FreshLooks source count copies a (Ok order) old new) → Tells (OpeningCalls source l.card.0 order.plan.started) old new
opening_calls source count copies a order old new l =
    tells_such (λ L t. ordered_calls source l.card.0 l.scene.first l.scene.sights l.scene.plan order.plan (l.scene.first + length l.scene.sights) order L t.first t.second l.answer.2.plan_is t.is t.here.1 t.there.1)
    (tells_then (tells_went l.card.1.called.went) (tells_went l.went))
