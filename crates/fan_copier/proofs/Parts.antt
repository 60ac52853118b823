-- What calls leave of the parts on the drives.
use Rattle.std.proofs.Common.{◌≡◌, ◌≢◌, ◌⊎◌, inl, inr, ℕ, ◌+◌, ◌-◌, ◌*◌, ◌≤◌, Bool, true, false, cond, List, [], ◌∷◌, ◌++◌, length, take, drop, slice_index, refl, sym, ◌∙◌, ap, subst, arith, append_assoc, append-nil, length-append, length-take, length-drop, take-append-drop}
use Rattle.std.proofs.Math.Seq.{take-add}
use Rattle.std.proofs.lemmas.Bool.Decides.{nat_tests}
use Rattle.std.proofs.lemmas.List.{take_at, drop_at, take-append-le, length-take-le, nil_from_length}
use Rattle.std.specs.Prelude.{Some, unwrap_or, replicate}
use Rattle.std.specs.FinMap.{get, insert}
use Rattle.bay_core.specs.declared.event.Event.{Event}
use Rattle.bay_core.specs.declared.event.Event.TheVariants.{Write}
use Rattle.bay_core.specs.Looks.{is_change}
use Rattle.bay_core.specs.Map.{Map, content, overwritten}
use Rattle.bay_core.specs.Paths.{part_path}
use Rattle.bay_core.specs.Replay.{Device, Source, Drive, Picker, device_of, is_on, replayed, reads}
use Rattle.bay_core.specs.Went.{AllOn, Went, Only, Called, Ran, Tried, Then, write_call}
use Rattle.bay_core.specs.World.{World, Honest}
use Rattle.bay_core.proofs.Files.{overwritten_is, length-written}
use Rattle.bay_core.proofs.Honesty.{honest_before}
use Rattle.bay_core.proofs.Looking.{reads_unchanged, no_change_one}
use Rattle.bay_core.proofs.Maps.{insert_here}
use Rattle.bay_core.proofs.Replays.{reads-append, reads_by_calls, calls_elsewhere}
use Rattle.bay_core.proofs.Runs.{went_such, told_since, all_ran}
use Rattle.fan_core.specs.Next.{IsWindow}
use Rattle.fan_copier.specs.Copying.{PartBegins, PartIs, NoPart, Parts}
use Rattle.fan_copier.specs.Reads.{File, OnCard, OnDrive, gave, failed, GaveNone, MayFail, IsAbsent, Tiles, EndsAt, CutAt, Gathered, AreAt, AreOn}
use Rattle.fan_copier.specs.Standing.{Standing, block_of}
use Rattle.fan_copier.specs.Turning.{WriteCalls, MendCalls, with_read}

-- a call that changes nothing of drive d: one on another device, or no change
abbrev pub Quiet : ℕ → Event → Type 0
Quiet d e = (is_on d (device_of e) ≡ false) ⊎ (is_change e ≡ false)

-- calls that change nothing of drive d
unfoldable pub AllQuiet : ℕ → List Event → Type 0
AllQuiet d [] = Unit {0}
AllQuiet d (e ∷ L) = Quiet d e × AllQuiet d L

pub quiet_append : (d : ℕ) (A B : List Event) → AllQuiet d A → AllQuiet d B → AllQuiet d (A ++ B)
unfolding AllQuiet
quiet_append d [] B a b = b
quiet_append d (e ∷ A) B a b = (a.0, quiet_append d A B a.1 b)

-- no call
pub quiet_none : (d : ℕ) (L : List Event) → L ≡ [] → AllQuiet d L
unfolding AllQuiet
quiet_none d [] is = tt
quiet_none d (e ∷ L) is = absurd (cc is)

-- one call
pub quiet_one : (d : ℕ) (e : Event) (L : List Event) → Quiet d e → L ≡ e ∷ [] → AllQuiet d L
unfolding AllQuiet
quiet_one d e L quiet is = subst (AllQuiet d) (sym is) (quiet, tt)

one_quiet : (m : Map) (L : List Event) (e : Event) (d : ℕ) → Quiet d e → reads m (L ++ e ∷ []) d ≡ reads m L d
one_quiet m L e d (inl off) = reads_by_calls m (L ++ e ∷ []) L d (calls_elsewhere L e d off)
one_quiet m L e d (inr still) = reads_unchanged m L (e ∷ []) d (no_change_one e still)

-- what drive d holds is the same after them
pub quiet_reads : (m : Map) (L A : List Event) (d : ℕ) → AllQuiet d A → reads m (L ++ A) d ≡ reads m L d
unfolding AllQuiet
quiet_reads m L [] d a = ap (λ (K : List Event). reads m K d) (append-nil L)
quiet_reads m L (e ∷ A) d a = ap (λ (K : List Event). reads m K d) (sym (append_assoc L (e ∷ []) A)) ∙ quiet_reads m (L ++ e ∷ []) A d a.1 ∙ one_quiet m L e d a.0

-- calls on another device alone
pub quiet_elsewhere : (d : ℕ) (x : Device) → is_on d x ≡ false → (A : List Event) → AllOn (Only x) A → AllQuiet d A
unfolding AllOn AllQuiet
quiet_elsewhere d x off [] on = tt
quiet_elsewhere d x off (e ∷ A) on = (inl (ap (is_on d) on.0 ∙ off), quiet_elsewhere d x off A on.1)

pub off_source : (s d : ℕ) → is_on d (Source s) ≡ false
off_source s d = refl

pub off_picker : (d : ℕ) → is_on d Picker ≡ false
off_picker d = refl

pub off_other : (d e : ℕ) → d ≢ e → is_on d (Drive e) ≡ false
off_other d e differ = grind (arith, nat_tests)

-- before some calls an honest drive was honest, and held what it holds after them
pub record Earlier (d : ℕ) (m : Map) (L : List Event) (old : World) : Type 0 where
  pub before : List Event
  pub honest : Honest old d m before
  pub same : reads m L d ≡ reads m before d

pub earlier : {On : Device → Type 0} {P : List Event → Type 0} {old new : World} (d : ℕ) (m : Map) (L : List Event) → ((A : List Event) → AllOn On A → P A → AllQuiet d A) → Went On P old new → Honest new d m L
    → Earlier d m L old
earlier d m L quiet w h =
    let b = honest_before d m L w h in
    let t = told_since w b.0 L b.1.events h.events in
    record { before = b.0; honest = b.1; same = ap (λ (K : List Event). reads m K d) t.is ∙ quiet_reads m b.0 t.since d (quiet t.since t.on t.such) }

-- the part begins as it did
pub part_still : {On : Device → Type 0} {P : List Event → Type 0} {old new : World} (d size : ℕ) (bytes : List ℕ) → ((A : List Event) → AllOn On A → P A → AllQuiet d A) → Went On P old new → PartBegins d size old bytes
    → PartBegins d size new bytes
part_still d size bytes quiet w part = λ m L h.
    let b = earlier d m L quiet w h in
    let p = part m b.before b.honest in
    (p.0, ap (λ (n : Map). get n part_path) b.same ∙ p.1, p.2)

-- there is none, as before
pub no_part_still : {On : Device → Type 0} {P : List Event → Type 0} {old new : World} (d : ℕ) → ((A : List Event) → AllOn On A → P A → AllQuiet d A) → Went On P old new → NoPart d old → NoPart d new
no_part_still d quiet w none = λ m L h. let b = earlier d m L quiet w h in ap (λ (n : Map). get n part_path) b.same ∙ none m b.before b.honest

-- all parts are as they were
pub parts_still : {On : Device → Type 0} {P : List Event → Type 0} {old new : World} (size : ℕ) (at : Standing) (bytes : List ℕ) → ((d : ℕ) (A : List Event) → AllOn On A → P A → AllQuiet d A) → Went On P old new
    → Parts size at old bytes → Parts size at new bytes
parts_still size at bytes quiet w p = record {
  part = λ d live out. part_still d size _ (quiet d) w (p.part d live out);
  no_part = λ d there. no_part_still d (quiet d) w (p.no_part d there);
}

-- a read changes nothing, whatever it gave
gave_quiet : (f : File) (at asked : ℕ) (bytes : List ℕ) → is_change (gave f at asked bytes) ≡ false
gave_quiet (OnCard s path) at asked bytes = refl
gave_quiet (OnDrive d path) at asked bytes = refl

failed_quiet : (f : File) (at asked : ℕ) → is_change (failed f at asked) ≡ false
failed_quiet (OnCard s path) at asked = refl
failed_quiet (OnDrive d path) at asked = refl

absent_quiet : (f : File) (at asked : ℕ) (e : Event) → IsAbsent f at asked e → is_change e ≡ false
absent_quiet (OnCard s path) at asked e absent = absurd absent
absent_quiet (OnDrive d path) at asked e absent = ap is_change absent

-- reads that gave bytes
pub tiles_quiet : (f : File) (at : ℕ) (L : List Event) (bytes : List ℕ) (d : ℕ) → Tiles f at L bytes → AllQuiet d L
unfolding Tiles AllQuiet
tiles_quiet f at [] bytes d tiles = tt
tiles_quiet f at (e ∷ L) bytes d (first, rest, piece, is, tiles) = (inr (ap is_change piece.is ∙ gave_quiet f at piece.asked first), tiles_quiet f (at + length first) L rest d tiles)

-- one that gave none
pub none_quiet : (f : File) (at : ℕ) (L : List Event) (d : ℕ) → GaveNone f at L → AllQuiet d L
none_quiet f at L d (asked, some, e, is, none) = quiet_one d e L (inr (elim none [
  | inl empty ↦ ap is_change empty ∙ gave_quiet f at asked []
  | inr absent ↦ absent_quiet f at asked e absent
])) is

-- one that failed, seen or not
pub fail_quiet : (f : File) (at : ℕ) (L : List Event) (d : ℕ) → MayFail f at L → AllQuiet d L
fail_quiet f at L d (inl unseen) = quiet_none d L unseen
fail_quiet f at L d (inr (asked, is)) = quiet_one d (failed f at asked) L (inr (failed_quiet f at asked)) is

-- some calls and then others
pub then_quiet : {P Q : List Event → Type 0} (d : ℕ) (L : List Event) → ((A : List Event) → P A → AllQuiet d A) → ((A : List Event) → Q A → AllQuiet d A) → Then P Q L → AllQuiet d L
then_quiet d L here there t = subst (AllQuiet d) (sym t.is) (quiet_append d t.first t.second (here t.first t.here) (there t.second t.there))

-- reads that ended before a buffer was full
pub ends_quiet : (f : File) (at want : ℕ) (bytes : List ℕ) (L : List Event) (d : ℕ) → EndsAt f at want bytes L → AllQuiet d L
ends_quiet f at want bytes L d (few, ended) = then_quiet d L (λ A tiles. tiles_quiet f at A bytes d tiles) (λ A none. none_quiet f (at + length bytes) A d none) ended

-- reads that filled a buffer, or ended before
pub gathered_quiet : (f : File) (at want : ℕ) (bytes : List ℕ) (L : List Event) (d : ℕ) → Gathered f at want bytes L → AllQuiet d L
gathered_quiet f at want bytes L d (inl all) = tiles_quiet f at L bytes d all.1
gathered_quiet f at want bytes L d (inr ended) = ends_quiet f at want bytes L d ended

-- reads that were cut short
pub cut_quiet : (f : File) (at want : ℕ) (L : List Event) (d : ℕ) → CutAt f at want L → AllQuiet d L
cut_quiet f at want L d (bytes, few, cut) = then_quiet d L (λ A tiles. tiles_quiet f at A bytes d tiles) (λ A none. fail_quiet f (at + length bytes) A d none) cut

-- the drive before a write that was done, and what the write made of it
record Wrote (old : World) (d : ℕ) (path : List ℕ) (at : ℕ) (bytes : List ℕ) (m : Map) (L : List Event) : Type 0 where
  pub before : List Event
  pub honest : Honest old d m before
  pub now : reads m L d ≡ insert (reads m before d) path (overwritten (content (reads m before d) path) at bytes)

itself : (d : ℕ) → is_on d (Drive d) ≡ true
itself d = grind (arith, nat_tests)

-- calls that change nothing of the drive, and then the write
wrote : {P : List Event → Type 0} {old new : World} (d : ℕ) (path : List ℕ) (at : ℕ) (bytes : List ℕ) (m : Map) (L : List Event) → ((A : List Event) → P A → AllQuiet d A)
    → Went (Only (Drive d)) (Then P (Ran (write_call d path at bytes ∷ []) true)) old new → Honest new d m L → Wrote old d path at bytes m L
wrote d path at bytes m L quiet w h =
    let b = honest_before d m L w h in
    let t = told_since w b.0 L b.1.events h.events in
    let one : List Event = Write d path at bytes true ∷ [] in
    let last : t.such.second ≡ one = all_ran (write_call d path at bytes ∷ []) t.such.second t.such.there in
    let all : L ≡ (b.0 ++ t.such.first) ++ one = t.is ∙ ap (λ (K : List Event). b.0 ++ K) t.such.is ∙ ap (λ (K : List Event). b.0 ++ (t.such.first ++ K)) last ∙ sym (append_assoc b.0 t.such.first one) in
    record {
      before = b.0;
      honest = b.1;
      now = ap (λ (K : List Event). reads m K d) all ∙ reads-append m (b.0 ++ t.such.first) one d
          ∙ ap (λ (on : Bool). replayed (reads m (b.0 ++ t.such.first) d) (cond on one [])) (itself d)
          ∙ ap (λ (R : Map). insert R path (overwritten (content R path) at bytes)) (quiet_reads m b.0 t.such.first d (quiet t.such.first t.such.here));
    }

-- the write alone
plain_write : {old new : World} (d : ℕ) (path : List ℕ) (at : ℕ) (bytes : List ℕ) (m : Map) (L : List Event) → Went (Only (Drive d)) (Ran (write_call d path at bytes ∷ []) true) old new → Honest new d m L
    → Wrote old d path at bytes m L
plain_write d path at bytes m L w h = wrote d path at bytes m L (quiet_none d) (went_such (λ A ran. record { first = []; second = A; is = refl; here = refl; there = ran }) w) h

-- the write after reads that found other bytes
mend_write : {old new : World} (d at : ℕ) (bytes : List ℕ) (m : Map) (L : List Event) → Went (Only (Drive d)) (MendCalls d at bytes true) old new → Honest new d m L → Wrote old d part_path at bytes m L
mend_write d at bytes m L w h =
    wrote {P = λ A. (found : List ℕ) × Gathered (OnDrive d part_path) at (length bytes) found A} d part_path at bytes m L
    (λ A read. gathered_quiet (OnDrive d part_path) at (length bytes) read.0 A d read.1)
    (went_such (λ A mend. record { first = mend.2.first; second = mend.2.second; is = mend.2.is; here = (mend.0, mend.2.here); there = mend.2.there }) w) h

-- the front before the next block
front_more : (bytes : List ℕ) (k : ℕ) → take ((k + 1) * 65536) bytes ≡ take (k * 65536) bytes ++ block_of bytes k
front_more bytes k = let sum : (k + 1) * 65536 ≡ k * 65536 + 65536 = omega arith in ap (λ (n : ℕ). take n bytes) sum ∙ take-add (k * 65536) 65536 bytes

-- a write where a front of the file ends
written_on : (front rest block : List ℕ) (at : ℕ) → length front ≡ at → overwritten (front ++ rest) at block ≡ (front ++ block) ++ drop (at + length block) (front ++ rest)
written_on front rest block at end =
    let gap : at - length (front ++ rest) ≡ 0 = omega (arith, end, length-append front rest) in
    let behind = drop (at + length block) (front ++ rest) in
    overwritten_is (front ++ rest) at block ∙ ap (λ (n : ℕ). take at (front ++ rest) ++ replicate n 0 ++ block ++ behind) gap
    ∙ ap (λ (l : List ℕ). l ++ block ++ behind) (append-nil (take at (front ++ rest)) ∙ take_at front rest at end)

length-overwritten : (old : List ℕ) (at : ℕ) (block : List ℕ) (size : ℕ) → length old ≤ size → at + length block ≤ size → length (overwritten old at block) ≤ size
length-overwritten old at block size within fits = omega (arith, within, fits, ap (length {A = ℕ}) (overwritten_is old at block), length-written old at block)

-- a block ends within the file
block_fits : (bytes : List ℕ) (k size : ℕ) → k * 65536 ≤ length bytes → length bytes ≤ size → k * 65536 + length (block_of bytes k) ≤ size
block_fits bytes k size long within = omega (arith, long, within, length-take 65536 (drop (k * 65536) bytes), length-drop (k * 65536) bytes)

-- the part after its next block was written
put_wrote : {old new : World} (d size k : ℕ) (bytes : List ℕ) → k * 65536 ≤ length bytes → length bytes ≤ size
    → ((m : Map) (L : List Event) → Honest new d m L → Wrote old d part_path (k * 65536) (block_of bytes k) m L) → PartBegins d size old (take (k * 65536) bytes) → PartBegins d size new (take ((k + 1) * 65536) bytes)
put_wrote d size k bytes long within write part = λ m L h.
    let at = k * 65536 in
    let front = take at bytes in
    let block = block_of bytes k in
    let w = write m L h in
    let p = part m w.before w.honest in
    let file = front ++ p.0 in
    let was : content (reads m w.before d) part_path ≡ file = ap (λ o. unwrap_or o []) p.1 in
    let made : overwritten file at block ≡ take ((k + 1) * 65536) bytes ++ drop (at + length block) file =
    written_on front p.0 block at (length-take-le at bytes long) ∙ ap (λ (l : List ℕ). l ++ drop (at + length block) file) (sym (front_more bytes k)) in (
      drop (at + length block) file,
      ap (λ (n : Map). get n part_path) w.now ∙ insert_here (reads m w.before d) part_path _ ∙ ap (λ (o : List ℕ). Some (overwritten o at block)) was ∙ ap Some made,
      subst (λ (l : List ℕ). length l ≤ size) made (length-overwritten file at block size p.2 (block_fits bytes k size long within)),
    )

-- a file that has a front and then a block has the front before the next block
agrees_on : (bytes rest : List ℕ) (k : ℕ) → k * 65536 ≤ length bytes → AreAt (take (k * 65536) bytes ++ rest) (k * 65536) (block_of bytes k)
    → take (k * 65536) bytes ++ rest ≡ take ((k + 1) * 65536) bytes ++ drop (length (block_of bytes k)) rest
agrees_on bytes rest k long same =
    let front = take (k * 65536) bytes in
    let n = length (block_of bytes k) in
    let there : block_of bytes k ≡ take n rest = same ∙ ap (λ (l : List ℕ). take n l) (drop_at front rest (k * 65536) (length-take-le (k * 65536) bytes long)) in
    ap (λ (l : List ℕ). front ++ l) (sym (take-append-drop n rest) ∙ ap (λ (l : List ℕ). l ++ drop n rest) (sym there))
    ∙ sym (append_assoc front (block_of bytes k) (drop n rest)) ∙ ap (λ (l : List ℕ). l ++ drop n rest) (sym (front_more bytes k))

-- the part has its next block already
put_agrees : (w : World) (d size k : ℕ) (bytes : List ℕ) → k * 65536 ≤ length bytes → AreOn d part_path (k * 65536) (block_of bytes k) w → PartBegins d size w (take (k * 65536) bytes) → PartBegins d size w (take ((k + 1) * 65536) bytes)
put_agrees w d size k bytes long agrees part = λ m L h.
    let p = part m L h in
    let file = agrees_on bytes p.0 k long (agrees m L h (take (k * 65536) bytes ++ p.0) p.1) in
    (drop (length (block_of bytes k)) p.0, p.1 ∙ ap Some file, subst (λ (l : List ℕ). length l ≤ size) file p.2)

-- the block was written, or its bytes were there
pub part_put : {old new : World} (d size k : ℕ) (bytes : List ℕ) (keeps still : Bool) → k * 65536 ≤ length bytes → length bytes ≤ size
    → Called (Drive d) (WriteCalls keeps still true d (k * 65536) (block_of bytes k)) true old new → (keeps ≡ true → still ≡ true → AreOn d part_path (k * 65536) (block_of bytes k) new)
    → PartBegins d size old (take (k * 65536) bytes) → PartBegins d size new (take ((k + 1) * 65536) bytes)
part_put d size k bytes false still long within one agrees part = put_wrote d size k bytes long within (λ m L h. plain_write d part_path (k * 65536) (block_of bytes k) m L one.went h) part
part_put {new} d size k bytes true true long within one agrees part =
    put_agrees new d size k bytes long (agrees refl refl) (part_still d size (take (k * 65536) bytes) (λ A on tiles. tiles_quiet (OnDrive d part_path) (k * 65536) A (block_of bytes k) d tiles) one.went part)
part_put d size k bytes true false long within one agrees part = put_wrote d size k bytes long within (λ m L h. mend_write d (k * 65536) (block_of bytes k) m L one.went h) part

-- an empty piece on a drive without a part
pub part_empty : {old new : World} (d size : ℕ) → NoPart d old → Tried d (write_call d part_path 0 [] ∷ []) true old new → PartBegins d size new []
part_empty d size none one = λ m L h.
    let w = plain_write d part_path 0 [] m L one.went h in
    let was : content (reads m w.before d) part_path ≡ [] = ap (λ o. unwrap_or o []) (none m w.before w.honest) in
    ([], ap (λ (n : Map). get n part_path) w.now ∙ insert_here (reads m w.before d) part_path _ ∙ ap (λ (o : List ℕ). Some (overwritten o 0 [])) was, omega arith)

-- a part that begins with the whole file is the file
pub part_whole : (d size : ℕ) (w : World) (bytes : List ℕ) → length bytes ≡ size → PartBegins d size w bytes → PartIs d w bytes
part_whole d size w bytes whole part = λ m L h.
    let p = part m L h in
    let none : p.0 ≡ [] = nil_from_length p.0 (omega (arith, whole, p.2, length-append bytes p.0)) in
    p.1 ∙ ap (λ (rest : List ℕ). Some (bytes ++ rest)) none ∙ ap Some (append-nil bytes)

-- more of the file is known
pub parts_read : (size : ℕ) (at : Standing) (w : World) (bytes more : List ℕ) → IsWindow at.counts → at.counts.read * 65536 ≤ length bytes → Parts size at w bytes → Parts size (with_read at) w (bytes ++ more)
parts_read size at w bytes more window long p = record {
  part = λ d live out. subst (λ (front : List ℕ). PartBegins d size w front)
      (sym (take-append-le (slice_index at.counts.written d * 65536) bytes more (let b = window.behind d live in omega (arith, b, long)))) (p.part d live out);
  no_part = p.no_part;
}
