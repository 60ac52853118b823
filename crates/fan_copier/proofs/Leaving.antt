-- The calls of a turn are calls of a copy, and such calls leave all but the part of a drive as it was.
use Rattle.std.proofs.Common.{◌≡◌, inl, inr, ℕ, ◌+◌, ◌-◌, ◌*◌, Bool, true, false, cond, List, [], ◌∷◌, ◌++◌, length, take, refl, sym, ◌∙◌, ap, subst}
use Rattle.std.specs.Prelude.{Option, Some, None, Result, Ok, Err}
use Rattle.bay_core.specs.declared.event.Event.{Event}
use Rattle.bay_core.specs.declared.event.Event.TheVariants.{Pick, SourceRead, DriveRead, Write as Writes}
use Rattle.bay_core.specs.declared.failed.Failed.{Failed}
use Rattle.bay_core.specs.Map.{Map}
use Rattle.bay_core.specs.Paths.{part_path}
use Rattle.bay_core.specs.Replay.{Device, device_of, is_on, calls_on, reads}
use Rattle.bay_core.specs.Left.{Left}
use Rattle.bay_core.specs.World.{World}
use Rattle.bay_core.specs.Crashes.{Leaves, IsAny, OnlyAt}
use Rattle.bay_core.specs.Went.{Went, Ran, Then, write_call}
use Rattle.bay_core.proofs.Crash.{IsIn, left_any, left_keeps}
use Rattle.bay_core.proofs.Changes.{Changes, torn_other}
use Rattle.bay_core.proofs.Readable.{reads_left}
use Rattle.bay_core.proofs.Runs.{since_made}
use Rattle.fan_core.specs.declared.act.Act.{Act}
use Rattle.fan_core.specs.declared.act.Act.TheVariants.{Read, Write, Finished}
use Rattle.fan_core.specs.Flags.{has}
use Rattle.fan_copier.specs.declared.turn.Turn.{Turn}
use Rattle.fan_copier.specs.declared.turn.Turn.TheVariants.{Going, Dropped, Copied, SourceFailed, Changed}
use Rattle.fan_copier.specs.Standing.{Standing, block_len, block_of}
use Rattle.fan_copier.specs.Reads.{File, OnCard, OnDrive, gave, failed, IsAbsent, GaveNone, MayFail, Tiles, EndsAt, CutAt, Gathered}
use Rattle.fan_copier.specs.Turning.{Doing, EmptyPiece, Acting, MendCalls, WriteCalls, PutCalls, ReadCalls, PastCalls, ReadsOneByte, FailsAtOneByte, ActCalls, TurnCalls, IsCopyCall, AreCopyCalls}

-- the calls of two runs
pub copy_calls_append : (s : ℕ) (path : List ℕ) (A B : List Event) → AreCopyCalls s path A → AreCopyCalls s path B → AreCopyCalls s path (A ++ B)
unfolding AreCopyCalls
copy_calls_append s path [] B a b = b
copy_calls_append s path (e ∷ A) B a b = (a.0, copy_calls_append s path A B a.1 b)

-- the calls up to a moment
pub copy_calls_front : (s : ℕ) (path : List ℕ) (A B : List Event) → AreCopyCalls s path (A ++ B) → AreCopyCalls s path A
unfolding AreCopyCalls
copy_calls_front s path [] B all = tt
copy_calls_front s path (e ∷ A) B all = (all.0, copy_calls_front s path A B all.1)

none_copy : (s : ℕ) (path : List ℕ) (L : List Event) → L ≡ [] → AreCopyCalls s path L
unfolding AreCopyCalls
none_copy s path L none = subst (AreCopyCalls s path) (sym none) tt

one_copy : (s : ℕ) (path : List ℕ) (e : Event) (L : List Event) → L ≡ e ∷ [] → IsCopyCall s path e → AreCopyCalls s path L
unfolding AreCopyCalls
one_copy s path e L is call = subst (AreCopyCalls s path) (sym is) (call, tt)

-- first such calls of a copy and then such
then_copy : {P Q : List Event → Type 0} (s : ℕ) (path : List ℕ) (L : List Event) → ((K : List Event) → P K → AreCopyCalls s path K) → ((K : List Event) → Q K → AreCopyCalls s path K) → Then P Q L → AreCopyCalls s path L
then_copy s path L first second t = subst (AreCopyCalls s path) (sym t.is) (copy_calls_append s path t.first t.second (first t.first t.here) (second t.second t.there))

-- a file that a copy reads: its own on the card, or the part of a drive
abbrev pub IsCopyFile : ℕ → List ℕ → File → Type 0
IsCopyFile s path (OnCard e read) = (e ≡ s) × (read ≡ path)
IsCopyFile s path (OnDrive d read) = read ≡ part_path

gave_copy : (s : ℕ) (path : List ℕ) (f : File) → IsCopyFile s path f → (at asked : ℕ) (bytes : List ℕ) → IsCopyCall s path (gave f at asked bytes)
gave_copy s path (OnCard e read) is at asked bytes = is
gave_copy s path (OnDrive d read) is at asked bytes = is

failed_copy : (s : ℕ) (path : List ℕ) (f : File) → IsCopyFile s path f → (at asked : ℕ) → IsCopyCall s path (failed f at asked)
failed_copy s path (OnCard e read) is at asked = is
failed_copy s path (OnDrive d read) is at asked = is

absent_copy : (s : ℕ) (path : List ℕ) (f : File) → IsCopyFile s path f → (at asked : ℕ) (e : Event) → IsAbsent f at asked e → IsCopyCall s path e
absent_copy s path (OnCard n read) is at asked e absent = absurd absent
absent_copy s path (OnDrive d read) is at asked e absent = subst (IsCopyCall s path) (sym absent) is

-- reads of such a file that each gave some bytes
pub tiles_copy : (s : ℕ) (path : List ℕ) (f : File) → IsCopyFile s path f → (at : ℕ) (L : List Event) (bytes : List ℕ) → Tiles f at L bytes → AreCopyCalls s path L
unfolding Tiles AreCopyCalls
tiles_copy s path f is at [] bytes t = tt
tiles_copy s path f is at (e ∷ L) bytes (first, rest, one, both, more) =
    (subst (IsCopyCall s path) (sym one.is) (gave_copy s path f is at one.asked first), tiles_copy s path f is (at + length first) L rest more)

-- one read of it that gave none
pub gave_none_copy : (s : ℕ) (path : List ℕ) (f : File) → IsCopyFile s path f → (at : ℕ) (L : List Event) → GaveNone f at L → AreCopyCalls s path L
gave_none_copy s path f is at L (asked, some, e, one, none) = one_copy s path e L one (elim none [
  | inl nothing ↦ subst (IsCopyCall s path) (sym nothing) (gave_copy s path f is at asked [])
  | inr absent ↦ absent_copy s path f is at asked e absent
])

-- one read of it that failed, seen or not
pub may_fail_copy : (s : ℕ) (path : List ℕ) (f : File) → IsCopyFile s path f → (at : ℕ) (L : List Event) → MayFail f at L → AreCopyCalls s path L
may_fail_copy s path f is at L (inl none) = none_copy s path L none
may_fail_copy s path f is at L (inr (asked, one)) = one_copy s path (failed f at asked) L one (failed_copy s path f is at asked)

-- reads of it up to one that gave none
pub ends_copy : (s : ℕ) (path : List ℕ) (f : File) → IsCopyFile s path f → (at want : ℕ) (bytes : List ℕ) (L : List Event) → EndsAt f at want bytes L → AreCopyCalls s path L
ends_copy s path f is at want bytes L (fewer, t) = then_copy s path L (λ K k. tiles_copy s path f is at K bytes k) (λ K k. gave_none_copy s path f is (at + length bytes) K k) t

-- reads of it up to one that failed
pub cut_copy : (s : ℕ) (path : List ℕ) (f : File) → IsCopyFile s path f → (at want : ℕ) (L : List Event) → CutAt f at want L → AreCopyCalls s path L
cut_copy s path f is at want L (bytes, fewer, t) = then_copy s path L (λ K k. tiles_copy s path f is at K bytes k) (λ K k. may_fail_copy s path f is (at + length bytes) K k) t

-- reads of it until enough came or one gave none
pub gathered_copy : (s : ℕ) (path : List ℕ) (f : File) → IsCopyFile s path f → (at want : ℕ) (bytes : List ℕ) (L : List Event) → Gathered f at want bytes L → AreCopyCalls s path L
gathered_copy s path f is at want bytes L (inl all) = tiles_copy s path f is at L bytes all.1
gathered_copy s path f is at want bytes L (inr ended) = ends_copy s path f is at want bytes L ended

-- a write to a part, done or not
ran_copy : (s : ℕ) (path : List ℕ) (ok : Bool) (d at : ℕ) (bytes : List ℕ) (L : List Event) → Ran (write_call d part_path at bytes ∷ []) ok L → AreCopyCalls s path L
unfolding Ran
ran_copy s path true d at bytes L (rest, is, none) = one_copy s path (Writes d part_path at bytes true) L (is ∙ ap (λ (l : List Event). Writes d part_path at bytes true ∷ l) none) refl
ran_copy s path false d at bytes L (inl none) = none_copy s path L none
ran_copy s path false d at bytes L (inr (inl one)) = one_copy s path (Writes d part_path at bytes false) L one refl
ran_copy s path false d at bytes L (inr (inr (rest, is, never))) = absurd never

-- the empty piece of a drive
pub piece_copy : (s : ℕ) (path : List ℕ) (ok : Bool) (d : ℕ) (L : List Event) → Ran (write_call d part_path 0 [] ∷ []) ok L → AreCopyCalls s path L
piece_copy s path ok d L ran = ran_copy s path ok d 0 [] L ran

mend_copy : (s : ℕ) (path : List ℕ) (ok : Bool) (d at : ℕ) (bytes : List ℕ) (L : List Event) → MendCalls d at bytes ok L → AreCopyCalls s path L
mend_copy s path ok d at bytes L (found, differ, t) =
    then_copy s path L (λ K k. gathered_copy s path (OnDrive d part_path) refl at (length bytes) found K k) (λ K k. ran_copy s path ok d at bytes K k) t

-- a block is brought to a part
pub write_copy : (s : ℕ) (path : List ℕ) (keeps still ok : Bool) (d at : ℕ) (bytes : List ℕ) (L : List Event) → WriteCalls keeps still ok d at bytes L → AreCopyCalls s path L
write_copy s path false still ok d at bytes L ran = ran_copy s path ok d at bytes L ran
write_copy s path true true true d at bytes L t = tiles_copy s path (OnDrive d part_path) refl at L bytes t
write_copy s path true false true d at bytes L t = mend_copy s path true d at bytes L t
write_copy s path true still false d at bytes L (inl t) = cut_copy s path (OnDrive d part_path) refl at (length bytes) L t
write_copy s path true still false d at bytes L (inr t) = mend_copy s path false d at bytes L t

-- the same, by what bringing it came to
pub put_copy : (s : ℕ) (path : List ℕ) (keeps : Bool) (d at : ℕ) (bytes : List ℕ) (r : Result Bool Failed) (L : List Event) → PutCalls keeps d at bytes r L → AreCopyCalls s path L
put_copy s path keeps d at bytes (Ok still) L t = write_copy s path keeps still true d at bytes L t
put_copy s path keeps d at bytes (Err e) L t = write_copy s path keeps false false d at bytes L t

-- the reads of a block
pub read_copy : (s : ℕ) (path : List ℕ) (at : ℕ) (block : List ℕ) (r : Result (Option ℕ) Failed) (L : List Event) → ReadCalls s path at block r L → AreCopyCalls s path L
read_copy s path at block (Ok None) L t = tiles_copy s path (OnCard s path) (refl, refl) at L block t
read_copy s path at block (Ok (Some n)) L t = ends_copy s path (OnCard s path) (refl, refl) at (length block) (take (n - at) block) L t
read_copy s path at block (Err e) L t = cut_copy s path (OnCard s path) (refl, refl) at (length block) L t

byte_copy : (s : ℕ) (path : List ℕ) (at : ℕ) (got : Option (List ℕ)) (L : List Event) → ReadsOneByte s path at got L → AreCopyCalls s path L
byte_copy s path at got L one = one_copy s path (SourceRead s path at 1 got) L one (refl, refl)

no_byte_copy : (s : ℕ) (path : List ℕ) (at : ℕ) (L : List Event) → FailsAtOneByte s path at L → AreCopyCalls s path L
no_byte_copy s path at L (inl none) = none_copy s path L none
no_byte_copy s path at L (inr one) = byte_copy s path at None L one

-- the read of a byte at the size
pub past_copy : (s : ℕ) (path : List ℕ) (size : ℕ) (r : Result (Option ℕ) Failed) (L : List Event) → PastCalls s path size r L → AreCopyCalls s path L
past_copy s path size (Ok None) L t = byte_copy s path size (Some []) L t
past_copy s path size (Ok (Some byte)) L t = byte_copy s path size (Some (byte ∷ [])) L t
past_copy s path size (Err e) L t = no_byte_copy s path size L t

-- the calls of an act
act_copy : (s : ℕ) (path : List ℕ) (size : ℕ) (at now : Standing) (bytes given : List ℕ) (act : Act) (result : Turn) (L : List Event) → ActCalls s path size at now bytes given act result L → AreCopyCalls s path L
act_copy s path size at now bytes given Read Going L t = tiles_copy s path (OnCard s path) (refl, refl) (at.counts.read * 65536) L given t.0
act_copy s path size at now bytes given Read (Changed listed read) L t = ends_copy s path (OnCard s path) (refl, refl) (at.counts.read * 65536) (block_len size at.counts.read) given L t
act_copy s path size at now bytes given Read SourceFailed L t = cut_copy s path (OnCard s path) (refl, refl) (at.counts.read * 65536) (block_len size at.counts.read) L t.1
act_copy s path size at now bytes given (Write d k) Going L t = write_copy s path (has at.kept d) (has now.kept d) true d (k * 65536) (block_of bytes k) L t.1
act_copy s path size at now bytes given (Write d k) (Dropped e) L t = write_copy s path (has at.kept d) (has now.kept d) false d (k * 65536) (block_of bytes k) L t.1
act_copy s path size at now bytes given Finished (Copied digests) L t = byte_copy s path size (Some []) L t.1
act_copy s path size at now bytes given Finished (Changed listed read) L t = byte_copy s path size (Some given) L t.0
act_copy s path size at now bytes given Finished SourceFailed L t = no_byte_copy s path size L t.1
act_copy s path size at now bytes given act result L t = absurd t

-- the calls of a turn
pub turn_copy : (s : ℕ) (path : List ℕ) (size : ℕ) (at now : Standing) (bytes given : List ℕ) (did : Doing) (result : Turn) (L : List Event)
    → TurnCalls s path size at now bytes given did result L → AreCopyCalls s path L
turn_copy s path size at now bytes given (EmptyPiece d) Going L t = piece_copy s path true d L t.1
turn_copy s path size at now bytes given (EmptyPiece d) result L t = piece_copy s path false d L t.1
turn_copy s path size at now bytes given (Acting p act) result L t =
    then_copy s path L (λ K k. one_copy s path (Pick p) K k tt) (λ K k. act_copy s path size at now bytes given act result K k) t

-- the calls on one drive among these
pub on_copy : (s : ℕ) (path : List ℕ) (d : ℕ) (L : List Event) → AreCopyCalls s path L → AreCopyCalls s path (calls_on d L)
unfolding AreCopyCalls
on_copy s path d [] all = tt
on_copy s path d (e ∷ L) all = kept (is_on d (device_of e)) (on_copy s path d L all.1) where
  kept : (b : Bool) → AreCopyCalls s path (calls_on d L) → AreCopyCalls s path (cond b (e ∷ calls_on d L) (calls_on d L))
  kept true more = (all.0, more)
  kept false more = more

-- one of these calls
in_copy : (s : ℕ) (path : List ℕ) (L : List Event) (e : Event) → AreCopyCalls s path L → IsIn e L → IsCopyCall s path e
unfolding AreCopyCalls
in_copy s path [] e all is = absurd is
in_copy s path (f ∷ L) e all (inl here) = subst (IsCopyCall s path) (sym here) all.0
in_copy s path (f ∷ L) e all (inr there) = in_copy s path L e all.1 there

-- such a call changes the part alone
copy_changes : (s : ℕ) (path : List ℕ) (e : Event) (q : List ℕ) → IsCopyCall s path e → Changes e q → q ≡ part_path
copy_changes s path (Writes d written at bytes ok) q call c = c ∙ call
copy_changes s path (Pick p) q call c = absurd c
copy_changes s path (SourceRead n read at want got) q call c = absurd c
copy_changes s path (DriveRead d read at want got) q call c = absurd c
copy_changes s path e q call c = absurd call

-- such calls change the part alone, whatever the drive: any moment within them leaves a map that differs from one left before at the part alone
pub copy_leaves : {On : Device → Type 0} {old new : World} (s : ℕ) (path : List ℕ) (d : ℕ) → Went On (AreCopyCalls s path) old new → Leaves d IsAny (OnlyAt (λ q. q ≡ part_path)) old new
copy_leaves s path d went = record {
  any_moment = λ m before since rest honest pre now I left.
      let known = since_made went before (since ++ rest) honest.events now in
      let mine = on_copy s path d since (copy_calls_front s path since rest known.such) in
      let R = reads m before d in
      left_keeps (λ K. (J : Map) × Left m before d J × OnlyAt (λ q. q ≡ part_path) J K) (calls_on d since) R (Left m before d) (λ J l. (J, l, λ q off. refl)) (R, reads_left m before d, λ q off. refl)
      (λ e J K is h torn. (h.0, h.1, λ q off. torn_other e J K torn q (λ c. off (copy_changes s path e q (in_copy s path (calls_on d since) e mine is) c)) ∙ h.2 q off)) I (left_any m before since d I left);
}

-- a pick, and no call at all
pub pick_copy : (s : ℕ) (path : List ℕ) (p : ℕ) → AreCopyCalls s path (Pick p ∷ [])
unfolding AreCopyCalls
pick_copy s path p = (tt, tt)

pub no_copy_calls : (s : ℕ) (path : List ℕ) → AreCopyCalls s path []
unfolding AreCopyCalls
no_copy_calls s path = tt
