-- Listing a drive, and then reading a file of it.
use Rattle.std.proofs.Common.{◌≡◌, inl, inr, ℕ, ◌+◌, ◌<◌, ◌≤◌, true, List, [], ◌∷◌, ◌++◌, length, refl, sym, ◌∙◌, ap, subst, arith}
use Rattle.std.specs.Prelude.{Option, Some, None, option_map, Vec}
use Rattle.std.specs.Global.{Global}
use Rattle.std.specs.FinMap.{get}
use Rattle.bay_core.specs.declared.event.Event.{Event}
use Rattle.bay_core.specs.declared.event.Event.TheVariants.{DriveList}
use Rattle.bay_core.specs.declared.event.FileInfo.{FileInfo}
use Rattle.bay_core.specs.Map.{Map, Lists}
use Rattle.bay_core.specs.Replay.{Device, Drive, reads, dated}
use Rattle.bay_core.specs.World.{World, Honest}
use Rattle.bay_core.specs.Went.{Went, Only, Called, IsCall}
use Rattle.bay_core.specs.Looks.{Exactly, Looks}
use Rattle.bay_core.proofs.Runs.{went_then, went_such, went_none, told_since}
use Rattle.bay_core.proofs.Honesty.{honest_before}
use Rattle.bay_core.proofs.Looking.{Before, tiles_look, one_look, no_looks, looks_append, reads_looked, dated_looked, looked_before}
use Rattle.folder_listing.specs.Listing.{listing}
use Rattle.folder_listing.proofs.Listed.{sizes_of_lists}
use Rattle.file_reading.specs.declared.whole.ReadWholeError.{ReadWholeError}
use Rattle.file_reading.specs.declared.whole.ReadWholeError.TheVariants.{DriveFailed as ReadFailed, Absent as ReadAbsent, TooLong, Memory as ReadMemory}
use Rattle.file_reading.specs.declared.listed.Content.{Content}
use Rattle.file_reading.specs.declared.listed.Content.TheVariants.{Bytes, Unlisted, Absent, TooLarge}
use Rattle.file_reading.specs.Reads.{Halted}
use Rattle.file_reading.specs.Whole.{IsOver, FileRead, FileNotRead}
use Rattle.file_reading.specs.Listed.{ContentCalls, ContentIs, ContentRead, ListedThen, FileListed}
use Rattle.file_reading.proofs.Sizes.{some_size, no_size}
use Rattle.file_reading.proofs.Stops.{halted_after}

-- ---- the reads, where the size in the listing is known

pub content_unlisted : (limit d : ℕ) (path : List ℕ) (size : Option ℕ) (w : World) → size ≡ None → ContentRead limit d path size Unlisted w w
content_unlisted limit d path size w none = record {
  went = went_such (λ L is. (none, is)) (went_none (Only (Drive d)) w);
  honest = λ m L h same. no_size (get (reads m L d) path) (sym none ∙ same);
}

pub content_large : (limit d : ℕ) (path : List ℕ) (size : Option ℕ) (n : ℕ) (w : World) → size ≡ Some n → limit < n → ContentRead limit d path size (TooLarge n) w w
content_large limit d path size n w is large = record {
  went = went_such (λ L none. inl (is, large, none)) (went_none (Only (Drive d)) w);
  honest = λ m L h same. let c = some_size (get (reads m L d) path) n (sym is ∙ same) in (c.0, c.1, sym c.2, large);
}

pub content_whole : (limit d : ℕ) (path : List ℕ) (size : Option ℕ) (n : ℕ) (bytes : Vec ℕ Global) (old new : World) → size ≡ Some n → n ≤ limit → FileRead limit d path bytes.items old new → ContentRead limit d path size (Bytes bytes) old new
content_whole limit d path size n bytes old new is small f = record {
  went = went_such (λ L r. ((n, is, small), r)) f.went;
  honest = λ m L h same. f.honest m L h;
}

pub content_absent : (limit d : ℕ) (path : List ℕ) (size : Option ℕ) (n : ℕ) (e : ReadWholeError) (old new : World) → size ≡ Some n → n ≤ limit → e ≡ ReadAbsent → FileNotRead limit d path e old new → ContentRead limit d path size Absent old new
content_absent limit d path size n ReadAbsent old new is small e f = record {
  went = went_such (λ L r. ((n, is, small), r)) f.went;
  honest = λ m L h same. f.honest m L h;
}
content_absent limit d path size n ReadFailed old new is small e f = absurd (cc e)
content_absent limit d path size n TooLong old new is small e f = absurd (cc e)
content_absent limit d path size n ReadMemory old new is small e f = absurd (cc e)

not_over : (limit n : ℕ) (size : Option ℕ) (file : Option (List ℕ)) → size ≡ Some n → n ≤ limit → size ≡ option_map length file → IsOver limit file → ⊥
not_over limit n size file is small same (c, there, over) =
    let long : n ≡ length c = cc (sym is ∙ same ∙ ap (option_map length) there) in
    omega (arith, long, small, over)

pub content_past : (limit d : ℕ) (path : List ℕ) (size : Option ℕ) (n : ℕ) (e : ReadWholeError) (old new : World) → size ≡ Some n → n ≤ limit → e ≡ TooLong → FileNotRead limit d path e old new → ContentRead limit d path size (TooLarge (limit + 1)) old new
content_past limit d path size n TooLong old new is small e f = record {
  went = went_such (λ L r. inr ((n, is, small), refl, r)) f.went;
  honest = λ m L h same. absurd (not_over limit n size (get (reads m L d) path) is small same (f.honest m L h));
}
content_past limit d path size n ReadFailed old new is small e f = absurd (cc e)
content_past limit d path size n ReadAbsent old new is small e f = absurd (cc e)
content_past limit d path size n ReadMemory old new is small e f = absurd (cc e)

pub content_failed : (limit d : ℕ) (path : List ℕ) (e : ReadWholeError) (old new : World) → e ≡ ReadFailed → FileNotRead limit d path e old new → Halted d (Some (Drive d)) old new
content_failed limit d path ReadFailed old new e f = f
content_failed limit d path ReadAbsent old new e f = absurd (cc e)
content_failed limit d path TooLong old new e f = absurd (cc e)
content_failed limit d path ReadMemory old new e f = absurd (cc e)

pub content_wanting : (limit d : ℕ) (path : List ℕ) (e : ReadWholeError) (old new : World) → e ≡ ReadMemory → FileNotRead limit d path e old new → Halted d None old new
content_wanting limit d path ReadMemory old new e f = f
content_wanting limit d path ReadFailed old new e f = absurd (cc e)
content_wanting limit d path ReadAbsent old new e f = absurd (cc e)
content_wanting limit d path TooLong old new e f = absurd (cc e)

-- ---- the listing, and then the reads

-- the reads of a file are looks, whatever it was found to be
pub content_looks : (limit d : ℕ) (path : List ℕ) (size : Option ℕ) (content : Content) (calls : List Event) → ContentCalls limit d path size content calls → Looks calls
content_looks limit d path size (Bytes bytes) calls (within, r) = tiles_look d path 0 calls r.tiles
content_looks limit d path size Unlisted calls (none, is) = subst Looks (sym is) no_looks
content_looks limit d path size Absent calls (within, r) = tiles_look d path 0 calls r.tiles
content_looks limit d path size (TooLarge len) calls (inl (is, large, none)) = subst Looks (sym none) no_looks
content_looks limit d path size (TooLarge len) calls (inr (within, is, r)) = tiles_look d path 0 calls r.tiles

-- so are those of a drive that was listed first
pub listed_looks : (limit d : ℕ) (path : List ℕ) (files : List FileInfo) (content : Content) (L : List Event) → ListedThen d path files (λ size calls. ContentCalls limit d path size content calls) L → Looks L
listed_looks limit d path files content L t =
    subst Looks (sym t.is) (looks_append (DriveList d (Some files) ∷ []) t.calls (one_look (DriveList d (Some files)) refl) (content_looks limit d path (get (listing files) path) content t.calls t.such))

-- before looks an honest drive was honest, with the same map and dates
such_before : {On : Device → Type 0} {P : List Event → Type 0} (d : ℕ) (m : Map) (L : List Event) {old new : World} → ((A : List Event) → P A → Looks A) → Went On P old new → Honest new d m L → Before d m L old new
such_before d m L {old} {new} so w h =
    let b = honest_before d m L w h in
    let t = told_since w b.0 L b.1.events h.events in
    let looks = so t.since t.such in
    record {
      before = b.0;
      honest = b.1;
      same = ap (λ K. reads m K d) t.is ∙ reads_looked m b.0 t.since d looks;
      dated = (λ i. dated ((w.attached i).dates d) (t.is i) d) ∙ dated_looked (old.attached.dates d) b.0 t.since d looks;
    }

module _ (d : ℕ) (path : List ℕ) (files : List FileInfo) (old mid : World) (called : Called (Drive d) (IsCall (DriveList d (Some files))) true old mid)
    (lists : (m : Map) (L : List Event) → Honest old d m L → Lists (reads m L d) (dated (old.attached.dates d) L d) files) where
  one : Went (Only (Drive d)) (Exactly (DriveList d (Some files) ∷ [])) old mid
  one = called.went

  -- the listing is still that of an honest drive after looks
  still_lists : {P : List Event → Type 0} (new : World) → ((A : List Event) → P A → Looks A) → Went (Only (Drive d)) P mid new → (m : Map) (L : List Event) → Honest new d m L → Lists (reads m L d) (dated (new.attached.dates d) L d) files
  still_lists new so went m L h =
      let x = such_before d m L so went h in
      let y = looked_before d m x.before (DriveList d (Some files) ∷ []) (one_look (DriveList d (Some files)) refl) one x.honest in
      let same = sym (x.same ∙ y.same) in
      let then_dated = sym (x.dated ∙ y.dated) in
      subst (λ t. Lists (reads m L d) t files) then_dated (subst (λ M. Lists M (dated (old.attached.dates d) y.before d) files) same (lists m y.before y.honest))

  pub file_listed : (limit : ℕ) (size : Option ℕ) (content : Content) (new : World) → size ≡ get (listing files) path → ContentRead limit d path size content mid new → FileListed limit d path files content old new
  file_listed limit size content new is r =
      let so = content_looks limit d path size content in
      record {
        went = went_such (λ L t. record {
          calls = t.second;
          is = t.is ∙ ap (λ (l : List Event). l ++ t.second) t.here;
          such = subst (λ n. ContentCalls limit d path n content t.second) is t.there;
        }) (went_then one r.went);
        honest = λ m L h. r.honest m L h (is ∙ sizes_of_lists _ _ files (still_lists new so r.went m L h) path);
        lists = λ m L h. still_lists new so r.went m L h;
      }

  pub list_then : (at : Option Device) (new : World) → Halted d at mid new → Halted d at old new
  list_then at new s = halted_after d at (DriveList d (Some files) ∷ []) (one_look (DriveList d (Some files)) refl) one s
