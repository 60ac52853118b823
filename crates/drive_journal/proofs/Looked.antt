-- What a look at a drive says of its journal, where the drive is honest and whatever it is.
use Rattle.std.proofs.Common.{◌≡◌, inl, inr, ℕ, ◌<◌, List, [], ◌∷◌, ◌++◌, length, refl, sym, ◌∙◌, ap, subst, append-nil}
use Rattle.std.specs.Prelude.{Option, Some, None, option_map, is_some, Result, Ok, Err, MatchResult}
use Rattle.std.specs.FinMap.{get}
use Rattle.bay_core.specs.declared.event.Event.{Event}
use Rattle.bay_core.specs.declared.event.FileInfo.{FileInfo}
use Rattle.bay_core.specs.declared.event.Event.TheVariants.{DriveList}
use Rattle.bay_core.specs.Looks.{IsUntouched, Looks}
use Rattle.bay_core.specs.Map.{Map}
use Rattle.bay_core.specs.Paths.{journal_path}
use Rattle.bay_core.specs.Replay.{Drive, calls_on, reads}
use Rattle.bay_core.specs.Went.{Went, Only}
use Rattle.bay_core.specs.World.{World, Honest}
use Rattle.bay_core.proofs.Crash.{calls_all}
use Rattle.bay_core.proofs.Replays.{calls_on-append}
use Rattle.bay_core.proofs.Runs.{told_since, went_such}
use Rattle.bay_core.proofs.Looking.{looks_append, no_looks, one_look, tiles_look, looks_keep, stops_keep}
use Rattle.folder_listing.specs.Listing.{listing}
use Rattle.folder_listing.proofs.Listed.{sizes_of_lists}
use Rattle.file_reading.specs.declared.listed.Content.{Content}
use Rattle.file_reading.specs.declared.listed.Content.TheVariants.{Bytes, Unlisted, Absent, TooLarge}
use Rattle.file_reading.specs.Listed.{Fits, IsWithin, ContentCalls, ContentIs, FileListed}
use Rattle.file_reading.specs.Reads.{Halted}
use Rattle.drive_journal.specs.declared.state.Look.{Look}
use Rattle.drive_journal.specs.declared.state.State.{State}
use Rattle.drive_journal.specs.declared.state.State.TheVariants.{Fresh, Begun, Sealed}
use Rattle.drive_journal.specs.declared.looking.LookError.{LookError}
use Rattle.drive_journal.specs.declared.looking.LookError.TheVariants.{DriveFailed, NotAJournal, Memory}
use Rattle.drive_journal.specs.Found.{largest_journal, JournalFound, NoJournal, Journal, Vanished, TooLong, found_of, JournalReads, LookCalls, JournalIs, IsShort, Seen, IsLookedAt}
use Rattle.drive_journal.specs.Look.{StateIs, IsListed, IsThereIn, FoundState, FoundFault, Looked, LookFails, HasNoJournal, HonestFails}

-- ---- what was seen

reads_of : (d : ℕ) (size : Option ℕ) (content : Content) (calls : List Event) → ContentCalls largest_journal d journal_path size content calls → JournalReads d size (found_of content) calls
reads_of d size (Bytes bytes) calls c = c
reads_of d size Unlisted calls c = c
reads_of d size Absent calls c = c
reads_of d size (TooLarge len) calls (inl (is, over, none)) = inl (len, is, over, none)
reads_of d size (TooLarge len) calls (inr (within, one, past)) = inr (within, past)

journal_of : (content : Content) (file : Option (List ℕ)) → ContentIs largest_journal content file → JournalIs (found_of content) file
journal_of (Bytes bytes) file c = c.0
journal_of Unlisted file c = c
journal_of Absent file c = c
journal_of (TooLarge len) file (bytes, is, long, over) = (bytes, is, subst (λ n. largest_journal < n) long over)

short_of : (content : Content) → Fits largest_journal content → IsShort (found_of content)
short_of (Bytes bytes) fits = fits
short_of Unlisted fits = tt
short_of Absent fits = tt
short_of (TooLarge len) fits = tt

pub seen_of : (d : ℕ) (files : List FileInfo) (content : Content) {old new : World} → Fits largest_journal content → FileListed largest_journal d journal_path files content old new → Seen d files (found_of content) old new
seen_of d files content fits f = record {
  went = went_such (λ L t. record { reads = t.calls; is = t.is; such = reads_of d (get (listing files) journal_path) content t.calls t.such }) f.went;
  short = short_of content fits;
  lists = f.lists;
  journal = λ m L h. journal_of content (get (reads m L d) journal_path) (f.honest m L h);
}

pub looked_at : (d : ℕ) (files : List FileInfo) (found : JournalFound) {old new : World} (before all more : List Event) → Seen d files found old new → old.events ≡ Some before → new.events ≡ Some all → calls_on d before ≡ [] → IsLookedAt d (all ++ more) files found
looked_at d files found before all more seen was now none =
    let t = told_since seen.went before all was now in
    let first : calls_on d all ≡ DriveList d (Some files) ∷ t.such.reads =
    ap (calls_on d) t.is ∙ calls_on-append d before t.since ∙ ap (λ (l : List Event). l ++ calls_on d t.since) none ∙ calls_all d t.since t.on ∙ t.such.is
    in
    record {
      reads = t.such.reads;
      rest = calls_on d more;
      is = calls_on-append d all more ∙ ap (λ (l : List Event). l ++ calls_on d more) first;
      such = t.such.such;
    }

-- ---- nothing is changed

reads_look : (d : ℕ) (size : Option ℕ) (found : JournalFound) (calls : List Event) → JournalReads d size found calls → Looks calls
reads_look d size NoJournal calls (none, is) = subst Looks (sym is) no_looks
reads_look d size (Journal bytes) calls (within, r) = tiles_look d journal_path 0 calls r.tiles
reads_look d size Vanished calls (within, r) = tiles_look d journal_path 0 calls r.tiles
reads_look d size TooLong calls (inl (n, is, over, none)) = subst Looks (sym none) no_looks
reads_look d size TooLong calls (inr (within, r)) = tiles_look d journal_path 0 calls r.tiles

look_calls : (d : ℕ) (files : List FileInfo) (found : JournalFound) (L : List Event) → LookCalls d files found L → Looks L
look_calls d files found L c =
    subst Looks (sym c.is) (looks_append (DriveList d (Some files) ∷ []) c.reads (one_look (DriveList d (Some files)) refl) (reads_look d (get (listing files) journal_path) found c.reads c.such))

seen_keeps : (d : ℕ) (files : List FileInfo) (found : JournalFound) {old new : World} → Seen d files found old new → Went (Only (Drive d)) IsUntouched old new
seen_keeps d files found s = went_such (λ L t. looks_keep L (look_calls d files found L t)) s.went

-- looks of which none failed
pub seen_halted : (d : ℕ) (files : List FileInfo) (found : JournalFound) {old new : World} → Seen d files found old new → Halted d None old new
seen_halted d files found s = record {
  went = went_such (λ L t. record { looks = L; last = []; is = sym (append-nil L); answered = look_calls d files found L t; failed = refl }) s.went;
  cause = tt;
}

abbrev Answered : ℕ → Result Look LookError → World → World → Type 0
Answered d result old new = MatchResult result (λ look. Looked d look.listing.items look.state old new) (λ e. LookFails d e old new)

pub look_keeps : (d : ℕ) (result : Result Look LookError) (old new : World) → Answered d result old new → Went (Only (Drive d)) IsUntouched old new
look_keeps d (Ok look) old new a = seen_keeps d look.listing.items a.found a.seen
look_keeps d (Err (NotAJournal at)) old new a = seen_keeps d a.files a.found a.seen
look_keeps d (Err DriveFailed) old new a = went_such (stops_keep (Some (Drive d))) a.went
look_keeps d (Err Memory) old new a = went_such (stops_keep None) a.went

-- ---- what an honest drive has

-- a listing of a map has exactly its paths
there_as_listed : (m : Map) (files : List FileInfo) → ((q : List ℕ) → get (listing files) q ≡ option_map length (get m q)) → (q : List ℕ) → is_some (get (listing files) q) ≡ is_some (get m q)
there_as_listed m files same q = ap is_some (same q) ∙ sized (get m q)
  where
    sized : (o : Option (List ℕ)) → is_some (option_map length o) ≡ is_some o
    sized None = refl
    sized (Some c) = refl

-- the state, where the same paths are there
state_as : (l k : List ℕ → Type 0) (journal : Option (List ℕ)) (state : State) → ((q : List ℕ) → l q → k q) → ((q : List ℕ) → k q → l q) → StateIs l journal state → StateIs k journal state
state_as l k journal Fresh to back s = s
state_as l k journal (Begun p entries gate) to back (bytes, is, holds, next, open_end) = (bytes, is, holds, next, λ full. open_end (full.0, back _ full.1))
state_as l k journal (Sealed p entries) to back (bytes, is, holds, full, listed) = (bytes, is, holds, full, to _ listed)

module _ (d : ℕ) (files : List FileInfo) (found : JournalFound) (old new : World) (f : Seen d files found old new) (m : Map) (L : List Event) (h : Honest new d m L) where
  same : (q : List ℕ) → get (listing files) q ≡ option_map length (get (reads m L d) q)
  same q = sizes_of_lists _ _ files (f.lists m L h) q

  state_there : (journal : Option (List ℕ)) (state : State) → journal ≡ get (reads m L d) journal_path → StateIs (IsListed files) journal state → StateIs (IsThereIn (reads m L d)) (get (reads m L d) journal_path) state
  state_there journal state is s =
      let there = there_as_listed (reads m L d) files same in
      subst (λ j. StateIs (IsThereIn (reads m L d)) j state) is (state_as (IsListed files) (IsThereIn (reads m L d)) journal state (λ q l. sym (there q) ∙ l) (λ q k. there q ∙ k) s)

found_there : (d : ℕ) (files : List FileInfo) (found : JournalFound) (old new : World) → Seen d files found old new → (m : Map) (L : List Event) → Honest new d m L → (state : State) → FoundState files found state
    → StateIs (IsThereIn (reads m L d)) (get (reads m L d) journal_path) state
found_there d files (Journal bytes) old new f m L h state s = state_there d files (Journal bytes) old new f m L h (Some bytes) state (sym (f.journal m L h)) s
found_there d files NoJournal old new f m L h state s = state_there d files NoJournal old new f m L h None state (sym (f.journal m L h)) s
found_there d files Vanished old new f m L h state s = absurd s
found_there d files TooLong old new f m L h state s = absurd s

-- a file that a listing of the map has is not absent
not_absent : (size : Option ℕ) (file : Option (List ℕ)) → size ≡ option_map length file → file ≡ None → IsWithin largest_journal size → ⊥
not_absent size None same none (n, is, within) = absurd (cc (sym is ∙ same))
not_absent size (Some c) same none within = absurd (cc none)

none_there : (d at : ℕ) (files : List FileInfo) (found : JournalFound) (old new : World) → Seen d files found old new → (m : Map) (L : List Event) → Honest new d m L → FoundFault found at → HasNoJournal (reads m L d) at
none_there d at files (Journal bytes) old new f m L h fault = (bytes, f.journal m L h, inr (f.short, fault))
none_there d at files NoJournal old new f m L h fault = absurd fault
none_there d at files Vanished old new f m L h fault =
    absurd (not_absent _ _ (same d files Vanished old new f m L h journal_path) (f.journal m L h) (f.went.told L h.events).such.such.0)
none_there d at files TooLong old new f m L h fault =
    let (bytes, is, over) = f.journal m L h in
    (bytes, is, inl (over, fault))

pub look_honest : (d : ℕ) (result : Result Look LookError) (old new : World) → Answered d result old new → (m : Map) (L : List Event) → Honest new d m L
    → MatchResult result (λ look. StateIs (IsThereIn (reads m L d)) (get (reads m L d) journal_path) look.state) (HonestFails (reads m L d))
look_honest d (Ok look) old new a m L h = found_there d look.listing.items a.found old new a.seen m L h look.state a.state_is
look_honest d (Err (NotAJournal at)) old new a m L h = none_there d at a.files a.found old new a.seen m L h a.fault
look_honest d (Err DriveFailed) old new a m L h = tt
look_honest d (Err Memory) old new a m L h = tt
