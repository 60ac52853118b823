-- The records that calls wrote to the journal of a drive.
use Rattle.std.proofs.Common.{◌≡◌, ℕ, ◌+◌, Bool, true, false, List, [], ◌∷◌, ◌++◌, length, map, refl, sym, ap, ◌∙◌, subst, arith, append-nil, length-append}
use Rattle.std.specs.Prelude.{◌&&◌, nat_eq, if◌then◌else◌, Option, Some, Ok}
use Rattle.std.specs.Str.{bytes_eq}
use Rattle.std.proofs.lemmas.Bool.Decides.{nat_tests}
use Rattle.std.proofs.lemmas.Grind.{flat_map-append}
use Rattle.bay_core.specs.declared.event.Event.{Event}
use Rattle.bay_core.specs.declared.event.Event.TheVariants.{AttachSource, AttachDrive, AttachFailed, SourceList, SourceRead, DriveList, DriveRead, Write, Sync, Rename, Remove, Moment, Pick, Say}
use Rattle.bay_core.specs.Looks.{is_effect, IsUntouched, Tiles, piece, read_call}
use Rattle.bay_core.specs.Paths.{journal_path, new_path, part_path}
use Rattle.bay_core.specs.Replay.{Device, device_of, is_on}
use Rattle.bay_core.specs.Went.{AllOn, Ran}
use Rattle.bay_core.proofs.Runs.{all_ran}
use Rattle.drive_journal.specs.declared.record.Gate.{Gate}
use Rattle.drive_journal.specs.declared.record.Rec.{Rec}
use Rattle.drive_journal.specs.Calls.{publish_calls, place_calls, open_calls, removals, tidied, tidy_calls}
use Rattle.drive_journal.specs.Journal.{IsShape}
use Rattle.drive_journal.specs.Record.{record_code, closed_record}
use Rattle.drive_journal.proofs.Fields.{length-record_code}
use Rattle.fan_copier.specs.Turning.{IsCopyCall, AreCopyCalls}
use Rattle.read_back.specs.Back.{WholeCalls}
use Rattle.recording.specs.Filing.{RecordCalls}
use Rattle.job_losses.specs.Drops.{record_in, records_in}

pub records_append : (d : ℕ) (A B : List Event) → records_in d (A ++ B) ≡ records_in d A ++ records_in d B
records_append d A B = flat_map-append (record_in d) A B

-- more calls among which there is none
pub records_then : (d : ℕ) (A B : List Event) → records_in d B ≡ [] → records_in d (A ++ B) ≡ records_in d A
records_then d A B none = records_append d A B ∙ ap (λ (l : List (List ℕ)). records_in d A ++ l) none ∙ append-nil (records_in d A)

-- and behind such calls
pub records_behind : (d : ℕ) (A B : List Event) → records_in d A ≡ [] → records_in d (A ++ B) ≡ records_in d B
records_behind d A B none = records_append d A B ∙ ap (λ (l : List (List ℕ)). l ++ records_in d B) none

one_less : (d : ℕ) (e : Event) (L : List Event) → record_in d e ≡ [] → records_in d L ≡ [] → records_in d (e ∷ L) ≡ []
one_less d e L first rest = ap (λ (l : List (List ℕ)). l ++ records_in d L) first ∙ rest

and_false : (b : Bool) → (b && false) ≡ false
and_false true = refl
and_false false = refl

-- ---- calls that write no record

-- a call on another device
other_call : (d : ℕ) (e : Event) → is_on d (device_of e) ≡ false → record_in d e ≡ []
other_call d (Write k path at bytes true) off = ap (λ (b : Bool). if b && (bytes_eq path journal_path && nat_eq (length bytes) 65) then bytes ∷ [] else []) off
other_call d (Write k path at bytes false) off = refl
other_call d (AttachSource n place) off = refl
other_call d (AttachDrive n place) off = refl
other_call d (AttachFailed place) off = refl
other_call d (SourceList n got) off = refl
other_call d (SourceRead n path at want got) off = refl
other_call d (DriveList n got) off = refl
other_call d (DriveRead n path at want got) off = refl
other_call d (Sync n ok) off = refl
other_call d (Rename n from to ok) off = refl
other_call d (Remove n path ok) off = refl
other_call d (Moment t) off = refl
other_call d (Pick n) off = refl
other_call d (Say line ok) off = refl

pub records_off : (d : ℕ) (On : Device → Type 0) → ((y : Device) → On y → is_on d y ≡ false) → (L : List Event) → AllOn On L → records_in d L ≡ []
unfolding AllOn
records_off d On off [] on = refl
records_off d On off (e ∷ L) on = one_less d e L (other_call d e (off (device_of e) on.0)) (records_off d On off L on.1)

-- a call that neither changes nor settles a drive
untouched_call : (d : ℕ) (e : Event) → is_effect e ≡ false → record_in d e ≡ []
untouched_call d (Write k path at bytes ok) is = absurd (cc is)
untouched_call d (AttachSource n place) is = refl
untouched_call d (AttachDrive n place) is = refl
untouched_call d (AttachFailed place) is = refl
untouched_call d (SourceList n got) is = refl
untouched_call d (SourceRead n path at want got) is = refl
untouched_call d (DriveList n got) is = refl
untouched_call d (DriveRead n path at want got) is = refl
untouched_call d (Sync n ok) is = refl
untouched_call d (Rename n from to ok) is = refl
untouched_call d (Remove n path ok) is = refl
untouched_call d (Moment t) is = refl
untouched_call d (Pick n) is = refl
untouched_call d (Say line ok) is = refl

pub records_untouched : (d : ℕ) (L : List Event) → IsUntouched L → records_in d L ≡ []
unfolding IsUntouched
records_untouched d [] u = refl
records_untouched d (e ∷ L) u = one_less d e L (untouched_call d e u.0) (records_untouched d L u.1)

-- a write to another file than the journal
other_file : (d k : ℕ) (path : List ℕ) (at : ℕ) (bytes : List ℕ) (ok : Bool) → bytes_eq path journal_path ≡ false → record_in d (Write k path at bytes ok) ≡ []
other_file d k path at bytes true other =
    ap (λ (b : Bool). if nat_eq d k && (b && nat_eq (length bytes) 65) then bytes ∷ [] else []) other ∙ ap (λ (b : Bool). if b then bytes ∷ [] else []) (and_false (nat_eq d k))
other_file d k path at bytes false other = refl

-- a write of another length
other_size : (d k : ℕ) (path : List ℕ) (at : ℕ) (bytes : List ℕ) → nat_eq (length bytes) 65 ≡ false → record_in d (Write k path at bytes true) ≡ []
other_size d k path at bytes other =
    ap (λ (b : Bool). if nat_eq d k && (bytes_eq path journal_path && b) then bytes ∷ [] else []) other
    ∙ ap (λ (b : Bool). if nat_eq d k && b then bytes ∷ [] else []) (and_false (bytes_eq path journal_path)) ∙ ap (λ (b : Bool). if b then bytes ∷ [] else []) (and_false (nat_eq d k))

part_apart : bytes_eq part_path journal_path ≡ false
part_apart = refl

new_apart : bytes_eq new_path journal_path ≡ false
new_apart = refl

-- a copy writes parts alone
copy_call : (d s : ℕ) (path : List ℕ) (e : Event) → IsCopyCall s path e → record_in d e ≡ []
copy_call d s path (Write k written at bytes ok) is = other_file d k written at bytes ok (subst (λ (q : List ℕ). bytes_eq q journal_path ≡ false) (sym is) part_apart)
copy_call d s path (Pick p) is = refl
copy_call d s path (SourceRead n read at want got) is = refl
copy_call d s path (DriveRead n read at want got) is = refl
copy_call d s path e is = absurd is

pub records_copied : (d s : ℕ) (path : List ℕ) (L : List Event) → AreCopyCalls s path L → records_in d L ≡ []
unfolding AreCopyCalls
records_copied d s path [] are = refl
records_copied d s path (e ∷ L) are = one_less d e L (copy_call d s path e are.0) (records_copied d s path L are.1)

-- ---- the calls of a begin

removed_none : (d k : ℕ) (paths : List (List ℕ)) → records_in d (map (λ (c : Bool → Event). c true) (removals k paths)) ≡ []
removed_none d k [] = refl
removed_none d k (path ∷ paths) = removed_none d k paths

published_none : (d k : ℕ) (path bytes : List ℕ) → records_in d (map (λ (c : Bool → Event). c true) (publish_calls k path bytes)) ≡ []
published_none d k path bytes = one_less d (Write k new_path 0 bytes true) (Sync k true ∷ (Rename k new_path path true ∷ (Sync k true ∷ []))) (other_file d k new_path 0 bytes true new_apart) refl

pub tidied_none : (d k : ℕ) (also : Option (List ℕ)) (keep : Bool) (L : List Event) → Ran (tidy_calls k also keep) true L → records_in d L ≡ []
tidied_none d k also keep L ran = ap (records_in d) (all_ran (tidy_calls k also keep) L ran) ∙ removed_none d k (tidied also keep)

pub begun_none : (d k : ℕ) (also : Option (List ℕ)) (keep : Bool) (path bytes : List ℕ) (L : List Event) → Ran (tidy_calls k also keep ++ publish_calls k path bytes) true L → records_in d L ≡ []
begun_none d k also keep path bytes L ran =
    ap (records_in d) (all_ran (tidy_calls k also keep ++ publish_calls k path bytes) L ran ∙ mapped (tidy_calls k also keep) (publish_calls k path bytes))
    ∙ records_behind d (map (λ (c : Bool → Event). c true) (tidy_calls k also keep)) (map (λ (c : Bool → Event). c true) (publish_calls k path bytes)) (removed_none d k (tidied also keep)) ∙ published_none d k path bytes
  where
    mapped : (A B : List (Bool → Event)) → map (λ (c : Bool → Event). c true) (A ++ B) ≡ map (λ (c : Bool → Event). c true) A ++ map (λ (c : Bool → Event). c true) B
    mapped [] B = refl
    mapped (c ∷ A) B = ap (λ (l : List Event). c true ∷ l) (mapped A B)

-- ---- a recording

tiles_none : (d k : ℕ) (path : List ℕ) (at : ℕ) (L : List Event) → Tiles k path at L → records_in d L ≡ []
unfolding Tiles
tiles_none d k path at [] t = refl
tiles_none d k path at (e ∷ L) t = one_less d e L (ap (record_in d) t.0.2) (tiles_none d k path (at + length (piece e)) L t.1)

whole_none : (d k : ℕ) (path : List ℕ) (size : ℕ) (bytes : List ℕ) (L : List Event) → WholeCalls k path size bytes L → records_in d L ≡ []
whole_none d k path size bytes L w =
    let last = w.1.is in
    ap (records_in d) last ∙ records_behind d w.1.first (read_call k path (length bytes) 1 (Some []) ∷ []) (tiles_none d k path 0 w.1.first w.1.pieces.tiles)

same_number : (d : ℕ) → nat_eq d d ≡ true
same_number d = grind (arith, nat_tests)

journal_same : bytes_eq journal_path journal_path ≡ true
journal_same = refl

pub length-closed_record : (rec : Rec) → IsShape rec → length (closed_record rec) ≡ 65
length-closed_record rec s =
    let code = length-record_code rec (record { md5 = s.md5; sha1 = s.sha1; xxh = s.xxh }) in
    length-append (record_code rec) (0 ∷ []) ∙ ap (λ (n : ℕ). n + 1) code

-- its record is written once
filed_one : (d gate : ℕ) (path : List ℕ) (rec : Rec) → IsShape rec → records_in d (map (λ (c : Bool → Event). c true) (place_calls d gate path (closed_record rec) ++ open_calls d gate)) ≡ closed_record rec ∷ []
filed_one d gate path rec s =
    let here : record_in d (Write d journal_path (gate + 1) (closed_record rec) true) ≡ closed_record rec ∷ [] =
    (λ i. if same_number d i && (true && nat_eq (length-closed_record rec s i) 65) then closed_record rec ∷ [] else []) in
    let opened : record_in d (Write d journal_path gate (1 ∷ []) true) ≡ [] = other_size d d journal_path gate (1 ∷ []) refl in
    (λ i. here i ++ (opened i ++ []))

pub recorded_one : (d gate : ℕ) (path : List ℕ) (rec : Rec) (next : Gate) (L : List Event) → IsShape rec → RecordCalls d gate path rec (Ok next) L → records_in d L ≡ closed_record rec ∷ []
recorded_one d gate path rec next L s calls =
    let rest = calls.there in
    let filed : records_in d rest.second ≡ closed_record rec ∷ [] = ap (records_in d) (all_ran (place_calls d gate path (closed_record rec) ++ open_calls d gate) rest.second rest.there) ∙ filed_one d gate path rec s in
    let read : records_in d rest.first ≡ [] = whole_none d d part_path rec.size rest.here.0 rest.first rest.here.1.0 in
    ap (records_in d) (calls.is ∙ ap (λ (l : List Event). l ++ calls.second) calls.here) ∙ ap (records_in d) rest.is ∙ records_behind d rest.first rest.second read ∙ filed
