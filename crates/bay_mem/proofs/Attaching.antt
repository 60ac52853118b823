-- What an attach in memory does to the state and to its world.
use Rattle.std.proofs.Common.{zero, suc, ◌≡◌, ◌⊎◌, inl, inr, ℕ, ◌+◌, ◌<◌, ◌≤◌, Bool, true, false, not, cond, List, [], ◌∷◌, ◌++◌, length, get_or, refl, sym, ◌∙◌, ap, subst, arith, length-append}
use Rattle.std.specs.Prelude.{Option, Some, None, Ok, Err, option_map, slice_get, slice_index, bytes_eq}
use Rattle.std.specs.Option.{option_or}
use Rattle.std.specs.FinMap.{get}
use Rattle.std.proofs.lemmas.Option.{same_Some, slice_get_within, slice_get-get_or}
use Rattle.bay_core.specs.declared.event.Event.{Event}
use Rattle.bay_core.specs.declared.event.Event.TheVariants.{AttachSource, AttachDrive, AttachFailed}
use Rattle.bay_core.specs.Map.{Map, Dates, AllDated}
use Rattle.bay_core.specs.Replay.{Device, Source, Drive, Attaching, Output, Clock, Picker, calls_on, reads, dated}
use Rattle.bay_core.specs.World.{MadeWith}
use Rattle.bay_core.specs.Went.{Only, IsCall, Called, MaySee}
use Rattle.bay_core.specs.Attach.{Attaches, CardAttaches, GivesSo, IsTrueUnless, attached_by, last_from, files_at, dates_at}
use Rattle.bay_core.proofs.Replays.{calls_elsewhere, no_calls, no_calls_dated}
use Rattle.bay_core.proofs.Runs.{one_on}
use Rattle.bay_mem.specs.Files.{Files, Agrees, no_files}
use Rattle.bay_mem.specs.State.{State, Fixed, Counts, Keeps, Holds, IsThere, AddsCard, AddsDrive, Fails, count, lies, map_of, dates_of, made_with, attached_of, world_of, with_card, with_drive, found_at, placed, lists_truly}
use Rattle.bay_mem.proofs.Keeping.{holds_elsewhere, last_end}
use Rattle.bay_mem.proofs.Shown.{truth_of_card}
use Rattle.bay_mem.proofs.Worlds.{told_list, made, failed_as}

-- an element before the last one
slice_get_before : {A : Type 0} (xs : List A) (y : A) (i : ℕ) → i < length xs → slice_get (xs ++ y ∷ []) i ≡ slice_get xs i
slice_get_before [] y i within = absurd (omega arith)
slice_get_before (x ∷ xs) y zero within = refl
slice_get_before (x ∷ xs) y (suc i) within = slice_get_before xs y i (omega arith)

-- the last element
slice_get_last : {A : Type 0} (xs : List A) (y : A) → slice_get (xs ++ y ∷ []) (length xs) ≡ Some y
slice_get_last [] y = refl
slice_get_last (x ∷ xs) y = slice_get_last xs y

-- an element of a list with one more is an element of the list, or the last
before_or_last : {A : Type 0} (xs : List A) (y x : A) (i : ℕ) → slice_get (xs ++ y ∷ []) i ≡ Some x → (slice_get xs i ≡ Some x) ⊎ ((i ≡ length xs) × (y ≡ x))
before_or_last [] y x zero is = inr (refl, same_Some y x is)
before_or_last [] y x (suc i) is = absurd (cc is)
before_or_last (z ∷ xs) y x zero is = inl is
before_or_last (z ∷ xs) y x (suc i) is = elim (before_or_last xs y x i is) [ inl before ↦ inl before | inr last ↦ inr (ap suc last.0, last.1) ]

-- the count 0 more changes no count
same_counts : (ns : List ℕ) (i : ℕ) → slice_index (ns ++ 0 ∷ []) i ≡ slice_index ns i
same_counts [] zero = refl
same_counts [] (suc i) = refl
same_counts (n ∷ ns) zero = refl
same_counts (n ∷ ns) (suc i) = same_counts ns i

-- two lists that were as long as each other are so with one element more each
one_longer : {A B : Type 0} (xs : List A) (ys : List B) (x : A) (y : B) → length xs ≡ length ys → length (xs ++ x ∷ []) ≡ length (ys ++ y ∷ [])
one_longer xs ys x y same = length-append xs (x ∷ []) ∙ ap (λ n. n + 1) same ∙ sym (length-append ys (y ∷ []))

-- a drive that was not called holds what it began with
holds_first : (files m f : Files) (L : List Event) (d : ℕ) → calls_on d L ≡ [] → files ≡ m → files ≡ f → Holds m L d f
holds_first files m f L d none one two = subst (λ (x : Files). Holds x L d f) one (subst (λ (x : Files). Holds files L d x) two (record {
  map = sym (no_calls files.map L d none);
  dates = subst (λ (D : Dates). Agrees D files.dates) (sym (no_calls_dated files.dates L d none)) (λ q t has. has);
}))

-- what is there is there with more cards and drives
there_more : (f g : Fixed) (o : Option Device) → length f.cards ≤ length g.cards → length f.drives ≤ length g.drives → IsThere f o → IsThere g o
there_more f g None cards drives h = tt
there_more f g (Some (Source s)) cards drives h = omega (arith, h, cards)
there_more f g (Some (Drive d)) cards drives h = omega (arith, h, drives)
there_more f g (Some Attaching) cards drives h = absurd h
there_more f g (Some Output) cards drives h = absurd h
there_more f g (Some Clock) cards drives h = absurd h
there_more f g (Some Picker) cards drives h = absurd h

either_there : (f : Fixed) (a b : Option Device) → IsThere f a → IsThere f b → IsThere f (option_or a b)
either_there f None b first second = second
either_there f (Some x) b first second = first

there_if : (f : Fixed) (b : Bool) (x : Device) → IsThere f (Some x) → IsThere f (cond b (Some x) None)
there_if f true x h = h
there_if f false x h = tt

-- the devices that the calls attached are there, and the one that the next call attaches
there_next : (f g : Fixed) (L : List Event) (e : Event) (place : List ℕ) → length f.cards ≤ length g.cards → length f.drives ≤ length g.drives → IsThere f (last_from place L) → IsThere g (attached_by place e) → IsThere g (last_from place (L ++ e ∷ []))
there_next f g L e place cards drives h now = subst (IsThere g) (sym (last_end L e place)) (either_there g (attached_by place e) (last_from place L) now (there_more f g (last_from place L) cards drives h))

-- where no files are found for a place, none were added for it
pub none_added : (s : State) (place : List ℕ) (x : Option Device) → IsThere s.fixed x → Keeps s → found_at s place x ≡ None → placed s.fixed.places place ≡ None
none_added s place None h k none = none
none_added s place (Some (Source n)) h k none = absurd (let got = slice_get-get_or s.fixed.cards n no_files h in cc)
none_added s place (Some (Drive d)) h k none = absurd (let got = slice_get-get_or s.contents d no_files (let same = k.contents in omega (arith, h, same)) in cc)
none_added s place (Some Attaching) h k none = absurd h
none_added s place (Some Output) h k none = absurd h
none_added s place (Some Clock) h k none = absurd h
none_added s place (Some Picker) h k none = absurd h

-- what is kept is kept with one card more
keeps_card : (s : State) (place : List ℕ) (files : Files) → Keeps s → Keeps (with_card s place files)
keeps_card s place files k = record {
  cards = one_longer s.counts.cards s.fixed.cards 0 files k.cards;
  drives = k.drives;
  contents = k.contents;
  holds = λ d m f start now. holds_elsewhere m f s.events d (AttachSource (length s.fixed.cards) place) refl (k.holds d m f start now);
  unused = λ d past. calls_elsewhere s.events (AttachSource (length s.fixed.cards) place) d refl ∙ k.unused d past;
  there = λ other.
      let long = length-append s.fixed.cards (files ∷ []) in
      let after : Fixed = (with_card s place files).fixed in
      there_next s.fixed after s.events (AttachSource (length s.fixed.cards) place) other (omega (arith, long)) (omega arith) (k.there other) (there_if after (bytes_eq place other) (Source (length s.fixed.cards)) (omega (arith, long)));
}

-- no call was made on a drive that is attached now
unused_yet : (s : State) (place : List ℕ) (d : ℕ) → length s.fixed.drives ≤ d → Keeps s → calls_on d (s.events ++ AttachDrive (length s.fixed.drives) place ∷ []) ≡ []
unused_yet s place d past k = calls_elsewhere s.events (AttachDrive (length s.fixed.drives) place) d refl ∙ k.unused d past

-- what is kept is kept with one drive more
keeps_drive : (s : State) (place : List ℕ) (files : Files) → Keeps s → Keeps (with_drive s place files)
keeps_drive s place files k = record {
  cards = k.cards;
  drives = one_longer s.counts.drives s.fixed.drives 0 files k.drives;
  contents = one_longer s.contents s.fixed.drives files files k.contents;
  holds = λ d m f start now. elim (before_or_last s.fixed.drives files m d start) [
    | inl was ↦ elim (before_or_last s.contents files f d now) [
      | inl had ↦ holds_elsewhere m f s.events d (AttachDrive (length s.fixed.drives) place) refl (k.holds d m f was had)
      | inr last ↦ let within = slice_get_within _ d m was in let at = last.0 in let same = k.contents in absurd (omega (arith, within, at, same))
    ]
    | inr last ↦ elim (before_or_last s.contents files f d now) [
      | inl had ↦ let within = slice_get_within _ d f had in let at = last.0 in let same = k.contents in absurd (omega (arith, within, at, same))
      | inr end ↦ holds_first files m f _ d (unused_yet s place d (let at = last.0 in omega (arith, at)) k) last.1 end.1
    ]
  ];
  unused = λ d past. unused_yet s place d (let long = length-append s.fixed.drives (files ∷ []) in omega (arith, long, past)) k;
  there = λ other.
      let long = length-append s.fixed.drives (files ∷ []) in
      let after : Fixed = (with_drive s place files).fixed in
      there_next s.fixed after s.events (AttachDrive (length s.fixed.drives) place) other (omega arith) (omega (arith, long)) (k.there other) (there_if after (bytes_eq place other) (Drive (length s.fixed.drives)) (omega (arith, long)));
}

-- what is kept is kept after an attach
pub keeps_added_card : (place : List ℕ) (d : ℕ) (s t : State) → AddsCard place d s t → Keeps t
keeps_added_card place d s t a = subst Keeps (sym a.is) (keeps_card s place a.files a.kept)

pub keeps_added_drive : (place : List ℕ) (d : ℕ) (s t : State) → AddsDrive place d s t → Keeps t
keeps_added_drive place d s t a = subst Keeps (sym a.is) (keeps_drive s place a.files a.kept)

-- one element more, in a list that was made ready for it
pub pushed : {A : Type 0} (old mid new : List A) (x y : A) → mid ≡ old → new ≡ mid ++ x ∷ [] → x ≡ y → new ≡ old ++ y ∷ []
pushed old mid new x y ready is same = cc

-- a drive was attached, where the parts of the state before and after are given by equations
pub adds_drive_from : (s r : State) (place : List ℕ) (d : ℕ) (files : Files) (L : List Event) (D C : List Files) (N : List ℕ) → s ≡ r → d ≡ length s.fixed.drives → L ≡ s.events ++ AttachDrive d place ∷ []
    → D ≡ s.fixed.drives ++ files ∷ [] → C ≡ s.contents ++ files ∷ [] → N ≡ s.counts.drives ++ 0 ∷ [] → found_at r place (last_from place r.events) ≡ Some files → Keeps r
    → AddsDrive place d r (record {
      told = s.told;
      events = L;
      contents = C;
      fixed = record { cards = s.fixed.cards; drives = D; places = s.fixed.places; flips = s.fixed.flips; listed = s.fixed.listed };
      counts = record { cards = s.counts.cards; drives = N; attaching = s.counts.attaching; output = s.counts.output };
    })
adds_drive_from s r place d files L D C N was number events drives contents counts found kept =
    let noted : L ≡ s.events ++ AttachDrive (length s.fixed.drives) place ∷ [] = cc in
    record {
      files = files;
      number = number ∙ ap (λ (q : State). length q.fixed.drives) was;
      is = (λ i. record {
        told = s.told;
        events = noted i;
        contents = contents i;
        fixed = record { cards = s.fixed.cards; drives = drives i; places = s.fixed.places; flips = s.fixed.flips; listed = s.fixed.listed };
        counts = record { cards = s.counts.cards; drives = counts i; attaching = s.counts.attaching; output = s.counts.output };
      }) ∙ ap (λ (q : State). with_drive q place files) was;
      found = found;
      kept = kept;
    }

-- a card was attached, where the parts of the state before and after are given by equations
pub adds_card_from : (s r : State) (place : List ℕ) (n : ℕ) (files : Files) (L : List Event) (C : List Files) (N : List ℕ) → s ≡ r → n ≡ length s.fixed.cards → L ≡ s.events ++ AttachSource n place ∷ []
    → C ≡ s.fixed.cards ++ files ∷ [] → N ≡ s.counts.cards ++ 0 ∷ [] → found_at r place (last_from place r.events) ≡ Some files → AllDated files.map files.dates → Keeps r
    → AddsCard place n r (record {
      told = s.told;
      events = L;
      contents = s.contents;
      fixed = record { cards = C; drives = s.fixed.drives; places = s.fixed.places; flips = s.fixed.flips; listed = s.fixed.listed };
      counts = record { cards = N; drives = s.counts.drives; attaching = s.counts.attaching; output = s.counts.output };
    })
adds_card_from s r place n files L C N was number events cards counts found dated kept =
    let noted : L ≡ s.events ++ AttachSource (length s.fixed.cards) place ∷ [] = cc in
    record {
      files = files;
      number = number ∙ ap (λ (q : State). length q.fixed.cards) was;
      is = (λ i. record {
        told = s.told;
        events = noted i;
        contents = s.contents;
        fixed = record { cards = cards i; drives = s.fixed.drives; places = s.fixed.places; flips = s.fixed.flips; listed = s.fixed.listed };
        counts = record { cards = counts i; drives = s.counts.drives; attaching = s.counts.attaching; output = s.counts.output };
      }) ∙ ap (λ (q : State). with_card q place files) was;
      dated = dated;
      found = found;
      kept = kept;
    }

-- a drive that is attached, and what it began with
record Began (s : State) (d : ℕ) (now : Files) : Type 0 where
  start : Files
  at : slice_get s.fixed.drives d ≡ Some start
  holds : Holds start s.events d now

-- a drive that holds files now was attached with some
began : (s : State) (d : ℕ) (now : Files) → slice_get s.contents d ≡ Some now → Keeps s → Began s d now
began s d now has k =
    let within : d < length s.fixed.drives = let in_contents = slice_get_within _ d now has in let same = k.contents in omega (arith, in_contents, same) in
    let at : slice_get s.fixed.drives d ≡ Some (get_or s.fixed.drives d now) = slice_get-get_or s.fixed.drives d now within in
    record { start = get_or s.fixed.drives d now; at = at; holds = k.holds d _ now at has }

-- the files that were found are those of the place
found_map : (s : State) (place : List ℕ) (x : Option Device) (files : Files) → found_at s place x ≡ Some files → Keeps s → Some files.map ≡ files_at (made_with s.fixed) (attached_of s.fixed) s.events place x
found_map s place None files found k = sym (ap map_of found)
found_map s place (Some (Source n)) files found k = sym (ap map_of found)
found_map s place (Some (Drive d)) files found k =
    let b = began s d files found k in ap Some b.holds.map ∙ sym (ap (λ (o : Option Files). option_map (λ m. reads m s.events d) (map_of o)) b.at)
found_map s place (Some Attaching) files found k = absurd (cc found)
found_map s place (Some Output) files found k = absurd (cc found)
found_map s place (Some Clock) files found k = absurd (cc found)
found_map s place (Some Picker) files found k = absurd (cc found)

-- and their dates agree with what is known
found_dates : (s : State) (place : List ℕ) (x : Option Device) (files : Files) → found_at s place x ≡ Some files → Keeps s → Agrees (dates_at (made_with s.fixed) (attached_of s.fixed) s.events place x) files.dates
found_dates s place None files found k = λ q t has. subst (λ (o : Option Files). get (dates_of o) q ≡ Some t) found has
found_dates s place (Some (Source n)) files found k = λ q t has. subst (λ (o : Option Files). get (dates_of o) q ≡ Some t) found has
found_dates s place (Some (Drive d)) files found k =
    let b = began s d files found k in λ q t has. b.holds.dates q t (subst (λ (o : Option Files). get (dated (dates_of o) s.events d) q ≡ Some t) b.at has)
found_dates s place (Some Attaching) files found k = absurd (cc found)
found_dates s place (Some Output) files found k = absurd (cc found)
found_dates s place (Some Clock) files found k = absurd (cc found)
found_dates s place (Some Picker) files found k = absurd (cc found)

-- what the new device is given, where these files were found for it
gives : (s : State) (place : List ℕ) (files : Files) (held : Option Files) → held ≡ Some files → found_at s place (last_from place s.events) ≡ Some files → Keeps s
    → GivesSo place (map_of held) (dates_of held) (world_of s)
gives s place files held has found k L told = record {
  files = λ made is liar.
      let calls = (told_list s.told s.events L told).1 in
      subst (λ (w : MadeWith). map_of held ≡ files_at w (attached_of s.fixed) L place (last_from place L)) (same_Some (made_with s.fixed) made is)
      (subst (λ (K : List Event). map_of held ≡ files_at (made_with s.fixed) (attached_of s.fixed) K place (last_from place K)) calls
      (ap map_of has ∙ found_map s place (last_from place s.events) files found k));
  known = λ made is liar.
      let calls = (told_list s.told s.events L told).1 in
      subst (λ (w : MadeWith). Agrees (dates_at w (attached_of s.fixed) L place (last_from place L)) (dates_of held)) (same_Some (made_with s.fixed) made is)
      (subst (λ (K : List Event). Agrees (dates_at (made_with s.fixed) (attached_of s.fixed) K place (last_from place K)) (dates_of held)) calls
      (subst (λ (o : Option Files). Agrees (dates_at (made_with s.fixed) (attached_of s.fixed) s.events place (last_from place s.events)) (dates_of o)) (sym has)
      (found_dates s place (last_from place s.events) files found k)));
}

-- a device is true where nothing was set to make it lie
true_unless : (s : State) (x : Device) (is_honest : Bool) → (lies s.fixed x ≡ false → is_honest ≡ true) → IsTrueUnless x is_honest (attached_of s.fixed)
true_unless s x is_honest truth made is honest = truth (ap (λ (w : MadeWith). w.may_lie x) (same_Some (made_with s.fixed) made is) ∙ honest)

-- who may lie does not change as devices are attached
lies_alike : (f : Fixed) (C D : List Files) (x : Device) → lies (record { cards = C; drives = D; places = f.places; flips = f.flips; listed = f.listed }) x ≡ lies f x
lies_alike f C D (Source s) = refl
lies_alike f C D (Drive d) = refl
lies_alike f C D Attaching = refl
lies_alike f C D Output = refl
lies_alike f C D Clock = refl
lies_alike f C D Picker = refl

-- what the bay was made with does not change as devices are attached
made_alike : (f : Fixed) (C D : List Files) → made_with (record { cards = C; drives = D; places = f.places; flips = f.flips; listed = f.listed }) ≡ made_with f
made_alike f C D = λ i. record { files = λ place. map_of (placed f.places place); dates = λ place. dates_of (placed f.places place); may_lie = λ x. lies_alike f C D x i }

-- a drive more leaves every count as it was
pub drive_counts : (c : Counts) (x : Device) → count (record { cards = c.cards; drives = c.drives ++ 0 ∷ []; attaching = c.attaching; output = c.output }) x ≡ count c x
drive_counts c (Source s) = refl
drive_counts c (Drive d) = same_counts c.drives d
drive_counts c Attaching = refl
drive_counts c Output = refl
drive_counts c Clock = refl
drive_counts c Picker = refl

-- a card more leaves every count as it was
pub card_counts : (c : Counts) (x : Device) → count (record { cards = c.cards ++ 0 ∷ []; drives = c.drives; attaching = c.attaching; output = c.output }) x ≡ count c x
card_counts c (Source s) = same_counts c.cards s
card_counts c (Drive d) = refl
card_counts c Attaching = refl
card_counts c Output = refl
card_counts c Clock = refl
card_counts c Picker = refl

-- one drive more in the world
attaches : (s : State) (place : List ℕ) (files : Files) → found_at s place (last_from place s.events) ≡ Some files → Keeps s → Attaches place (Ok (length s.fixed.drives)) (world_of s) (world_of (with_drive s place files))
attaches s place files found k =
    let n : ℕ = length s.fixed.drives in
    let e : Event = AttachDrive n place in
    record {
      told = λ all now. made (Only Attaching) (IsCall e) s.told s.events (s.events ++ e ∷ []) (e ∷ []) all now refl (one_on _ _ refl) refl;
      later = omega arith;
      others = λ x off. drive_counts s.counts x;
      numbered = (
        refl,
        length-append s.fixed.drives (files ∷ []),
        λ d was. let is = slice_get_before s.fixed.drives files d was in record { start = ap map_of is; dates = ap dates_of is; honest = refl },
        refl,
        λ c. record { card = refl; dates = refl; steady = refl },
        ap Some (made_alike s.fixed s.fixed.cards (s.fixed.drives ++ files ∷ [])),
      );
      unused = λ L told d past. subst (λ (K : List Event). calls_on d K ≡ []) (told_list s.told s.events L told).1 (k.unused d past);
      cause = tt;
      gives = gives s place files _ (slice_get_last s.fixed.drives files) found k;
      truth = true_unless s (Drive n) _ (ap not);
    }

-- an attach of a drive, as the bay promises it
pub adds_drive : (place : List ℕ) (d : ℕ) (s t : State) → AddsDrive place d s t → Attaches place (Ok d) (world_of s) (world_of t)
adds_drive place d s t a =
    subst (λ n. Attaches place (Ok n) (world_of s) (world_of t)) (sym a.number)
    (subst (λ (q : State). Attaches place (Ok (length s.fixed.drives)) (world_of s) (world_of q)) (sym a.is) (attaches s place a.files a.found a.kept))

-- these files have their dates, however they were found
dated_as : (files : Files) (held : Option Files) → AllDated files.map files.dates → held ≡ Some files → (m : Map) → map_of held ≡ Some m → AllDated m (dates_of held)
dated_as files None dated is m has = absurd (cc has)
dated_as files (Some held) dated is m has =
    let same : files ≡ held = same_Some files held (sym is) in
    subst (λ (map : Map). AllDated map held.dates) (same_Some held.map m has) (subst (λ (f : Files). AllDated f.map f.dates) same dated)

-- one card more in the world
card_attaches : (s : State) (place : List ℕ) (files : Files) → AllDated files.map files.dates → found_at s place (last_from place s.events) ≡ Some files → Keeps s → CardAttaches place (Ok (length s.fixed.cards)) (world_of s) (world_of (with_card s place files))
card_attaches s place files dated found k =
    let n : ℕ = length s.fixed.cards in
    let e : Event = AttachSource n place in
    record {
      told = λ all now. made (Only Attaching) (IsCall e) s.told s.events (s.events ++ e ∷ []) (e ∷ []) all now refl (one_on _ _ refl) refl;
      later = omega arith;
      others = λ x off. card_counts s.counts x;
      numbered = (
        refl,
        length-append s.fixed.cards (files ∷ []),
        λ c was. let is = slice_get_before s.fixed.cards files c was in record { card = ap map_of is; dates = ap dates_of is; steady = ap (lists_truly s.fixed.listed c) is },
        refl,
        λ d. record { start = refl; dates = refl; honest = refl },
        ap Some (made_alike s.fixed (s.fixed.cards ++ files ∷ []) s.fixed.drives),
      );
      cause = tt;
      gives = gives s place files _ (slice_get_last s.fixed.cards files) found k;
      truth = true_unless s (Source n) _ (truth_of_card s.fixed.listed n _);
      dated = λ m steady. dated_as files _ dated (slice_get_last s.fixed.cards files) m steady.card;
    }

-- an attach of a card, as the bay promises it
pub adds_card : (place : List ℕ) (n : ℕ) (s t : State) → AddsCard place n s t → CardAttaches place (Ok n) (world_of s) (world_of t)
adds_card place n s t a =
    subst (λ m. CardAttaches place (Ok m) (world_of s) (world_of t)) (sym a.number)
    (subst (λ (q : State). CardAttaches place (Ok (length s.fixed.cards)) (world_of s) (world_of q)) (sym a.is) (card_attaches s place a.files a.dated a.found a.kept))

-- a failed attach is one call on attaching
failed_attach : (place : List ℕ) (s t : State) → Fails Attaching (AttachFailed place) s t → Called Attaching (MaySee (AttachFailed place)) false (world_of s) (world_of t)
failed_attach place s t f = failed_as s t (AttachFailed place) Attaching (MaySee (AttachFailed place)) refl (inl refl) (inr refl) f

-- a failed attach of a drive, as the bay promises it
pub fails_drive : (place : List ℕ) (s t : State) → Keeps s → Fails Attaching (AttachFailed place) s t → Attaches place (Err (record {})) (world_of s) (world_of t)
fails_drive place s t k f =
    let c = failed_attach place s t f in
    record {
      told = c.went.told;
      later = c.went.later Attaching;
      others = c.went.others;
      numbered = c.went.attached;
      unused = λ L told d past. subst (λ (K : List Event). calls_on d K ≡ []) (told_list s.told s.events L told).1 (k.unused d past);
      cause = c.cause refl;
      gives = tt;
      truth = tt;
    }

-- a failed attach of a card, as the bay promises it
pub fails_card : (place : List ℕ) (s t : State) → Fails Attaching (AttachFailed place) s t → CardAttaches place (Err (record {})) (world_of s) (world_of t)
fails_card place s t f =
    let c = failed_attach place s t f in
    record { told = c.went.told; later = c.went.later Attaching; others = c.went.others; numbered = c.went.attached; cause = c.cause refl; gives = tt; truth = tt; dated = tt }
