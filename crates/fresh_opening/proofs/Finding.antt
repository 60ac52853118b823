-- What a look at a drive comes to, by what the lower call gives.
use Rattle.std.proofs.Common.{◌≡◌, inl, inr, ℕ, ◌<◌, ◌≤◌, Bool, true, false, List, [], ◌∷◌, length, refl, sym, ◌∙◌, ap, subst, arith}
use Rattle.std.specs.Prelude.{Option, Some, None, option_map, nat_lt, if◌then◌else◌}
use Rattle.std.specs.FinMap.{get}
use Rattle.std.proofs.lemmas.Bool.Decides.{nat_tests}
use Rattle.std.proofs.lemmas.Option.{same_Some}
use Rattle.bay_core.specs.declared.event.Event.{Event}
use Rattle.bay_core.specs.declared.event.Event.TheVariants.{Say}
use Rattle.bay_core.specs.declared.event.FileInfo.{FileInfo}
use Rattle.bay_core.specs.Looks.{IsUntouched}
use Rattle.bay_core.specs.Map.{Map}
use Rattle.bay_core.specs.Paths.{journal_path}
use Rattle.bay_core.specs.Replay.{Device, Drive, Output, reads}
use Rattle.bay_core.specs.Went.{AllOn, Went, Only, Called, Ran, IsCall, MaySee, say_call}
use Rattle.bay_core.specs.World.{World, Honest}
use Rattle.bay_core.proofs.Honesty.{honest_before}
use Rattle.bay_core.proofs.Looking.{drive_here, output_here, reads_kept, stops_keep, untouched_append, untouched_none, untouched_one}
use Rattle.bay_core.proofs.Runs.{all_ran, rose_since, rose_still, told_since, went_such, went_then}
use Rattle.folder_listing.specs.Listing.{listing}
use Rattle.folder_listing.proofs.Listed.{sizes_of_lists}
use Rattle.file_reading.specs.Listed.{IsWithin}
use Rattle.file_reading.specs.Reads.{Halted}
use Rattle.copy_plan.specs.Plan.{PlanValue}
use Rattle.drive_journal.specs.declared.record.Rec.{Rec}
use Rattle.drive_journal.specs.declared.state.State.{State}
use Rattle.drive_journal.specs.declared.state.State.TheVariants.{Fresh, Begun, Sealed}
use Rattle.drive_journal.specs.Found.{largest_journal, JournalFound, NoJournal, Journal, Vanished, TooLong, LookCalls, JournalIs, IsShort, Seen}
use Rattle.drive_journal.specs.Journal.{HoldsJournal}
use Rattle.drive_journal.specs.Look.{FoundState, Looked, NotLooked}
use Rattle.report_text.specs.Losses.{dropped_fault_text}
use Rattle.fresh_opening.specs.declared.error.FreshError.TheVariants.{OutFailed, Memory}
use Rattle.fresh_opening.specs.Looks.{CameTo, EndsAt, IsFaulty, IsBegun}
use Rattle.fresh_opening.specs.Sights.{Sight, Dropped, Found, sizes_of, journal_in, sight_of, HaltCalls, SightIs}

-- ---- what an honest drive has

-- a length is over the limit, or not
over : (n : ℕ) → largest_journal < n → nat_lt largest_journal n ≡ true
over n is = grind (arith, nat_tests)

within : (n : ℕ) → n ≤ largest_journal → nat_lt largest_journal n ≡ false
within n is = grind (arith, nat_tests)

-- the journal of a drive that has this file there is found to be so, but that it does not vanish
journal_is : (found : JournalFound) (file : Option (List ℕ)) → IsShort found → JournalIs found file → (found ≡ Vanished → ⊥) → found ≡ journal_in file
journal_is NoJournal file short is there = ap journal_in (sym is)
journal_is (Journal bytes) file short is there = sym (ap journal_in is ∙ ap (λ (b : Bool). if b then TooLong else Journal bytes) (within (length bytes) short))
journal_is Vanished file short is there = absurd (there refl)
journal_is TooLong file short (bytes, is, long) there = sym (ap journal_in is ∙ ap (λ (b : Bool). if b then TooLong else Journal bytes) (over (length bytes) long))

-- a file that the listing of the map has is not absent
not_absent : (size : Option ℕ) (file : Option (List ℕ)) → size ≡ option_map length file → file ≡ None → IsWithin largest_journal size → ⊥
not_absent size None same none (n, is, below) = absurd (cc (sym is ∙ same))
not_absent size (Some c) same none is = absurd (cc none)

module _ (d : ℕ) (files : List FileInfo) (found : JournalFound) {old new : World} (s : Seen d files found old new) (m : Map) (L : List Event) (h : Honest new d m L) where
  sizes : (q : List ℕ) → get (listing files) q ≡ sizes_of (reads m L d) q
  sizes q = sizes_of_lists (reads m L d) _ files (s.lists m L h) q

  there : found ≡ Vanished → ⊥
  there is =
      let calls : LookCalls d files Vanished (s.went.told L h.events).since = subst (λ (f : JournalFound). LookCalls d files f (s.went.told L h.events).since) is (s.went.told L h.events).such in
      let none : JournalIs Vanished (get (reads m L d) journal_path) = subst (λ (f : JournalFound). JournalIs f (get (reads m L d) journal_path)) is (s.journal m L h) in
      not_absent (get (listing files) journal_path) (get (reads m L d) journal_path) (sizes journal_path) none calls.such.0

  -- a look at an honest drive sees what its map has
  pub seen_is : Found (get (listing files)) found ≡ sight_of (reads m L d)
  seen_is =
      let found : found ≡ journal_in (get (reads m L d) journal_path) = journal_is found (get (reads m L d) journal_path) s.short (s.journal m L h) there in
      λ i. Found (λ q. sizes q i) (found i)

-- ---- how the calls of a look are said

-- each call is on the devices that were called
on_them : {On : Device → Type 0} {P : List Event → Type 0} {old new : World} → Went On P old new → Went On (λ L. AllOn On L × P L) old new
on_them {On} {P} {old} {new} w = record {
  told = λ all now. let t = w.told all now in record { before = t.before; since = t.since; was = t.was; is = t.is; on = t.on; such = (t.on, t.such) };
  later = w.later;
  others = w.others;
  attached = w.attached;
}

halts : (d : ℕ) (at : Option Device) {old new : World} → Halted d at old new → Went (Only (Drive d)) (HaltCalls d at) old new
halts d at h = went_such (λ L p. record { on = p.0; stops = p.1 }) (on_them h.went)

halts_untouched : (d : ℕ) (at : Option Device) {old new : World} → Halted d at old new → Went (Only (Drive d)) IsUntouched old new
halts_untouched d at h = went_such (stops_keep at) h.went

-- a line changes nothing, said or not
unsaid_calls : (line : List ℕ) (L : List Event) → Ran (say_call line ∷ []) false L → MaySee (Say line false) L
unfolding Ran
unsaid_calls line L (inl none) = inl none
unsaid_calls line L (inr (inl one)) = inr one
unsaid_calls line L (inr (inr (rest, is, more))) = absurd more

said_calls : (line : List ℕ) (L : List Event) → Ran (say_call line ∷ []) true L → IsCall (Say line true) L
said_calls line L ran = all_ran (say_call line ∷ []) L ran

said_untouched : (line : List ℕ) (L : List Event) → IsCall (Say line true) L → IsUntouched L
said_untouched line L is = subst IsUntouched (sym is) (untouched_one (Say line true) refl)

unsaid_untouched : (line : List ℕ) (L : List Event) → MaySee (Say line false) L → IsUntouched L
unsaid_untouched line L (inl none) = subst IsUntouched (sym none) untouched_none
unsaid_untouched line L (inr one) = subst IsUntouched (sym one) (untouched_one (Say line false) refl)

-- two runs without a change or a barrier
pub both_untouched : {On : Device → Type 0} {old mid new : World} → Went On IsUntouched old mid → Went On IsUntouched mid new → Went On IsUntouched old new
both_untouched a b = went_such (λ L t. subst IsUntouched (sym t.is) (untouched_append t.first t.second t.here t.there)) (went_then a b)

-- ---- what a look comes to

-- a drive that was seen
seen_came : (d : ℕ) (files : List FileInfo) (found : JournalFound) {old new : World} → Seen d files found old new → Went (Only (Drive d)) IsUntouched old new → CameTo d (Found (get (listing files)) found) old new
seen_came d files found s untouched = record {
  went = went_such (λ L c. record { files = files; sizes = refl; calls = c }) (drive_here d s.went);
  untouched = drive_here d untouched;
  is = λ m L h. seen_is d files found s m L h;
}

-- one without a journal
no_journal : (files : List FileInfo) (found : JournalFound) → FoundState files found Fresh → found ≡ NoJournal
no_journal files NoJournal is = refl
no_journal files (Journal bytes) is = absurd (cc is)
no_journal files Vanished is = absurd is
no_journal files TooLong is = absurd is

pub bare_came : (d : ℕ) (files : List FileInfo) (state : State) {old new : World} → state ≡ Fresh → Looked d files state old new → Went (Only (Drive d)) IsUntouched old new → CameTo d (Found (get (listing files)) NoJournal) old new
bare_came d files state {old} {new} fresh look untouched =
    let none = no_journal files look.found (subst (FoundState files look.found) fresh look.state_is) in
    subst (λ (f : JournalFound). CameTo d (Found (get (listing files)) f) old new) none (seen_came d files look.found look.seen untouched)

-- the bytes that were found are those that hold the journal
held : (found bytes : List ℕ) → Some found ≡ Some bytes → (p : PlanValue) (recs : List Rec) → HoldsJournal bytes p recs → HoldsJournal found p recs
held found bytes is p recs holds = subst (λ (b : List ℕ). HoldsJournal b p recs) (sym (same_Some found bytes is)) holds

-- one with a journal
module _ (d : ℕ) (files : List FileInfo) {old new : World} (untouched : Went (Only (Drive d)) IsUntouched old new) where
  begun_state : (found : JournalFound) (state : State) → (state ≡ Fresh → ⊥) → Seen d files found old new → FoundState files found state → IsBegun d old new
  begun_state found Fresh other s is = absurd (other refl)
  begun_state NoJournal (Begun p entries gate) other s (bytes, is, holds, at, more) = absurd (cc is)
  begun_state NoJournal (Sealed p entries) other s (bytes, is, holds, at, more) = absurd (cc is)
  begun_state (Journal found) (Begun p entries gate) other s (bytes, is, holds, at, more) = record {
    size = get (listing files);
    bytes = found;
    came = seen_came d files (Journal found) s untouched;
    plan = p;
    recs = entries.items;
    holds = held found bytes is p entries.items holds;
  }
  begun_state (Journal found) (Sealed p entries) other s (bytes, is, holds, at, more) = record {
    size = get (listing files);
    bytes = found;
    came = seen_came d files (Journal found) s untouched;
    plan = p;
    recs = entries.items;
    holds = held found bytes is p entries.items holds;
  }
  begun_state Vanished (Begun p entries gate) other s is = absurd is
  begun_state Vanished (Sealed p entries) other s is = absurd is
  begun_state TooLong (Begun p entries gate) other s is = absurd is
  begun_state TooLong (Sealed p entries) other s is = absurd is

pub begun_came : (d : ℕ) (files : List FileInfo) (state : State) {old new : World} → (state ≡ Fresh → ⊥) → Looked d files state old new → Went (Only (Drive d)) IsUntouched old new → IsBegun d old new
begun_came d files state other look untouched = begun_state d files untouched look.found state other look.seen look.state_is

-- one whose journal has a fault
pub faulty_came : (d at : ℕ) {old new : World} → NotLooked d at old new → Went (Only (Drive d)) IsUntouched old new → IsFaulty d at old new
faulty_came d at look untouched = record {
  size = get (listing look.files);
  found = look.found;
  came = seen_came d look.files look.found look.seen untouched;
  fault = look.fault;
}

-- one that was dropped, and that was said
pub dropped_came : (d : ℕ) {old mid new : World} → Halted d (Some (Drive d)) old mid → Called Output (Ran (say_call (dropped_fault_text d) ∷ []) true) true mid new → CameTo d Dropped old new
dropped_came d {old} {mid} {new} halted said =
    let line = went_such (said_calls (dropped_fault_text d)) said.went in
    record {
      went = went_then (drive_here d (halts d (Some (Drive d)) halted)) (output_here d line);
      untouched = both_untouched (drive_here d (halts_untouched d (Some (Drive d)) halted)) (output_here d (went_such (said_untouched (dropped_fault_text d)) line));
      is = rose_still (Drive d) (old.faults (Drive d)) said.went halted.cause;
    }

-- or was not said
pub unsaid_end : (d : ℕ) {old mid new : World} → Halted d (Some (Drive d)) old mid → Called Output (Ran (say_call (dropped_fault_text d) ∷ []) false) false mid new → EndsAt d OutFailed old new
unsaid_end d {old} {mid} {new} halted said =
    let line = went_such (unsaid_calls (dropped_fault_text d)) said.went in
    record {
      went = went_then (drive_here d (halts d (Some (Drive d)) halted)) (output_here d line);
      untouched = both_untouched (drive_here d (halts_untouched d (Some (Drive d)) halted)) (output_here d (went_such (unsaid_untouched (dropped_fault_text d)) line));
      unsaid = λ is. (rose_still (Drive d) (old.faults (Drive d)) said.went halted.cause, rose_since Output (new.faults Output) halted.went (said.cause refl));
    }

-- memory was wanting
pub wanting_end : (d : ℕ) {old new : World} → Halted d None old new → EndsAt d Memory old new
wanting_end d halted = record {
  went = drive_here d (halts d None halted);
  untouched = drive_here d (halts_untouched d None halted);
  unsaid = λ is. absurd (cc is);
}

-- ---- later and earlier

-- what a look saw is so behind calls without a change or a barrier
pub sight_later : (d : ℕ) (x : Sight) (old : World) {On : Device → Type 0} {mid new : World} → Went On IsUntouched mid new → SightIs d x old mid → SightIs d x old new
sight_later d Dropped old w rose = rose_still (Drive d) (old.faults (Drive d)) w rose
sight_later d (Found size found) old w is = λ m L h.
    let b = honest_before d m L w h in
    let t = told_since w b.0 L b.1.events h.events in
    let same : reads m L d ≡ reads m b.0 d = ap (λ (l : List Event). reads m l d) t.is ∙ reads_kept m b.0 t.since d t.such in
    is m b.0 b.1 ∙ ap sight_of (sym same)

-- and since earlier
pub sight_since : (d : ℕ) (x : Sight) (new : World) {On : Device → Type 0} {P : List Event → Type 0} {old mid : World} → Went On P old mid → SightIs d x mid new → SightIs d x old new
sight_since d Dropped new w rose = rose_since (Drive d) (new.faults (Drive d)) w rose
sight_since d (Found size found) new w is = is
