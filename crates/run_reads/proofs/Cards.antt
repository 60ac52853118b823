-- The reads of a card among the calls of a run.
use Rattle.std.proofs.Common.{◌≡◌, ◌≢◌, inl, inr, ℕ, ◌+◌, ◌*◌, Bool, true, false, cond, List, [], ◌∷◌, ◌++◌, length, refl, sym, ap, ◌∙◌, subst, arith, append_assoc, append-nil}
use Rattle.std.specs.Prelude.{Some, ◌&&◌, nat_eq}
use Rattle.std.specs.List.{flat_map}
use Rattle.std.specs.Str.{bytes_eq}
use Rattle.std.proofs.lemmas.Bool.{cases_Bool, false≢true}
use Rattle.std.proofs.lemmas.Bool.Decides.{nat_tests}
use Rattle.std.proofs.lemmas.Grind.{flat_map-append}
use Rattle.std.proofs.lemmas.List.Elements.{filter-append}
use Rattle.std.proofs.lemmas.Slice.Eq.{bytes_eq-Decides}
use Rattle.bay_core.specs.declared.event.Event.{Event}
use Rattle.bay_core.specs.declared.event.Event.TheVariants.{AttachSource, AttachDrive, AttachFailed, SourceList, SourceRead, DriveList, DriveRead, Write as Writes, Sync, Rename, Remove, Moment, Pick, Say}
use Rattle.bay_core.specs.Replay.{Device, Source, device_of}
use Rattle.bay_core.specs.Went.{AllOn}
use Rattle.fan_core.specs.declared.act.Act.{Act}
use Rattle.fan_core.specs.declared.act.Act.TheVariants.{Read, Write, Finished}
use Rattle.fan_core.specs.Flags.{has}
use Rattle.fan_copier.specs.declared.turn.Turn.{Turn}
use Rattle.fan_copier.specs.declared.turn.Turn.TheVariants.{Going, Dropped, Copied, SourceFailed, Changed, NoDrive}
use Rattle.fan_copier.specs.Follows.{EndsAtSize}
use Rattle.fan_copier.specs.Passed.{is_card, card_calls}
use Rattle.fan_copier.specs.Reads.{OnCard, Tiles}
use Rattle.fan_copier.specs.Standing.{Standing, block_of}
use Rattle.fan_copier.specs.Turning.{Doing, EmptyPiece, Acting, ActCalls, TurnCalls, IsCopyCall, AreCopyCalls}
use Rattle.fan_copier.proofs.Passing.{card_append, card_tiles, card_none, card_none_piece, card_none_pick}
use Rattle.run_state.specs.Runs.{IsPlanned, IsBeside, AreBeside}
use Rattle.run_state.specs.State.{Ordered, Drives}
use Rattle.run_reads.specs.Reads.{is_read, reads_of, got_in, card_given}

pub reads_append : (s : ℕ) (q : List ℕ) (A B : List Event) → reads_of s q (A ++ B) ≡ reads_of s q A ++ reads_of s q B
reads_append s q A B = filter-append (λ e. is_read s q e) A B

pub given_append : (s : ℕ) (q : List ℕ) (A B : List Event) → card_given s q (A ++ B) ≡ card_given s q A ++ card_given s q B
given_append s q A B = ap (flat_map got_in) (reads_append s q A B) ∙ flat_map-append got_in (reads_of s q A) (reads_of s q B)

-- a call that is no such read
skip : (s : ℕ) (q : List ℕ) (e : Event) (L : List Event) → is_read s q e ≡ false → reads_of s q L ≡ [] → reads_of s q (e ∷ L) ≡ []
skip s q e L off none = ap (λ b. cond b (e ∷ reads_of s q L) (reads_of s q L)) off ∙ none

-- more calls among which there is none
pub reads_then : (s : ℕ) (q : List ℕ) (A B : List Event) → reads_of s q B ≡ [] → reads_of s q (A ++ B) ≡ reads_of s q A
reads_then s q A B none = reads_append s q A B ∙ ap (λ (K : List Event). reads_of s q A ++ K) none ∙ append-nil (reads_of s q A)

-- a call that is not on the card
off_read : (s : ℕ) (q : List ℕ) (e : Event) → is_card s (device_of e) ≡ false → is_read s q e ≡ false
off_read s q (SourceRead k path at want got) off = ap (λ b. b && bytes_eq q path) off
off_read s q (AttachSource n place) off = refl
off_read s q (AttachDrive n place) off = refl
off_read s q (AttachFailed place) off = refl
off_read s q (SourceList n got) off = refl
off_read s q (DriveList n got) off = refl
off_read s q (DriveRead n path at want got) off = refl
off_read s q (Writes n path at bytes ok) off = refl
off_read s q (Sync n ok) off = refl
off_read s q (Rename n from to ok) off = refl
off_read s q (Remove n path ok) off = refl
off_read s q (Moment t) off = refl
off_read s q (Pick n) off = refl
off_read s q (Say line ok) off = refl

pub reads_off : (s : ℕ) (q : List ℕ) (On : Device → Type 0) → ((y : Device) → On y → is_card s y ≡ false) → (L : List Event) → AllOn On L → reads_of s q L ≡ []
unfolding AllOn
reads_off s q On off [] on = refl
reads_off s q On off (e ∷ L) on = skip s q e L (off_read s q e (off (device_of e) on.0)) (reads_off s q On off L on.1)

and_true : (b : Bool) → (b && true) ≡ b
and_true true = refl
and_true false = refl

and_false : (b : Bool) → (b && false) ≡ false
and_false true = refl
and_false false = refl

differs : (p q : List ℕ) → p ≢ q → bytes_eq p q ≡ false
differs p q ne = elim (cases_Bool (bytes_eq p q)) [
  | inl same ↦ absurd (ne ((bytes_eq-Decides p q).0 same))
  | inr other ↦ other
]

-- the reads of a copy are those of its card
copy_test : (s : ℕ) (q : List ℕ) (e : Event) → IsCopyCall s q e → is_read s q e ≡ is_card s (device_of e)
copy_test s q (SourceRead n read at want got) is = ap (λ b. nat_eq s n && b) ((bytes_eq-Decides q read).1 (sym is.1)) ∙ and_true (nat_eq s n)
copy_test s q (Pick p) is = refl
copy_test s q (DriveRead d read at want got) is = refl
copy_test s q (Writes d written at bytes ok) is = refl
copy_test s q e is = absurd is

pub copy_reads : (s : ℕ) (q : List ℕ) (L : List Event) → AreCopyCalls s q L → reads_of s q L ≡ card_calls s L
unfolding AreCopyCalls
copy_reads s q [] are = refl
copy_reads s q (e ∷ L) are = λ i. cond (copy_test s q e are.0 i) (e ∷ copy_reads s q L are.1 i) (copy_reads s q L are.1 i)

-- and of no other path
other_test : (s : ℕ) (q path : List ℕ) (e : Event) → q ≢ path → IsCopyCall s path e → is_read s q e ≡ false
other_test s q path (SourceRead n read at want got) ne is = ap (λ b. nat_eq s n && b) (differs q read (λ same. ne (same ∙ is.1))) ∙ and_false (nat_eq s n)
other_test s q path (Pick p) ne is = refl
other_test s q path (DriveRead d read at want got) ne is = refl
other_test s q path (Writes d written at bytes ok) ne is = refl
other_test s q path e ne is = absurd is

pub other_reads : (s : ℕ) (q path : List ℕ) (L : List Event) → q ≢ path → AreCopyCalls s path L → reads_of s q L ≡ []
unfolding AreCopyCalls
other_reads s q path [] ne are = refl
other_reads s q path (e ∷ L) ne are = skip s q e L (other_test s q path e ne are.0) (other_reads s q path L ne are.1)

-- others read no planned path
first_so : (a b : Bool) → (a && b) ≡ true → a ≡ true
first_so true b is = refl
first_so false b is = absurd (false≢true is)

second_so : (a b : Bool) → (a && b) ≡ true → b ≡ true
second_so true b is = is
second_so false b is = absurd (false≢true is)

same_number : (s n : ℕ) → nat_eq s n ≡ true → n ≡ s
same_number s n is = grind (arith, nat_tests)

beside_test : (o : Ordered) (drives : Drives) (q : List ℕ) (e : Event) → IsPlanned o.plan q → IsBeside o drives e → is_read o.source q e ≡ false
beside_test o drives q (SourceRead n read at want got) planned is = elim (cases_Bool (nat_eq o.source n && bytes_eq q read)) [
  | inl both ↦ absurd (is (same_number o.source n (first_so _ _ both)) (subst (IsPlanned o.plan) ((bytes_eq-Decides q read).0 (second_so (nat_eq o.source n) _ both)) planned))
  | inr off ↦ off
]
beside_test o drives q (AttachSource n place) planned is = refl
beside_test o drives q (AttachDrive n place) planned is = refl
beside_test o drives q (AttachFailed place) planned is = refl
beside_test o drives q (SourceList n got) planned is = refl
beside_test o drives q (DriveList n got) planned is = refl
beside_test o drives q (DriveRead n path at want got) planned is = refl
beside_test o drives q (Writes n path at bytes ok) planned is = refl
beside_test o drives q (Sync n ok) planned is = refl
beside_test o drives q (Rename n from to ok) planned is = refl
beside_test o drives q (Remove n path ok) planned is = refl
beside_test o drives q (Moment t) planned is = refl
beside_test o drives q (Pick n) planned is = refl
beside_test o drives q (Say line ok) planned is = refl

pub beside_reads : (o : Ordered) (drives : Drives) (q : List ℕ) (L : List Event) → IsPlanned o.plan q → AreBeside o drives L → reads_of o.source q L ≡ []
unfolding AreBeside
beside_reads o drives q [] planned are = refl
beside_reads o drives q (e ∷ L) planned are = skip o.source q e L (beside_test o drives q e planned are.0) (beside_reads o drives q L planned are.1)

-- ---- what a turn of a copy was given

tiles_got : (s : ℕ) (q : List ℕ) (at : ℕ) (L : List Event) (bytes : List ℕ) → Tiles (OnCard s q) at L bytes → flat_map got_in L ≡ bytes
unfolding Tiles
tiles_got s q at [] bytes t = sym t
tiles_got s q at (e ∷ L) bytes (first, rest, one, is, more) =
    ap (λ x. got_in x ++ flat_map got_in L) one.is ∙ ap (λ (l : List ℕ). first ++ l) (tiles_got s q (at + length first) L rest more) ∙ sym is

-- a turn that was given just what its reads gave
abbrev pub Good : Turn → Type 0
Good Going = Unit {0}
Good (Dropped d) = Unit {0}
Good (Copied t) = Unit {0}
Good r = ⊥

none_got : (s : ℕ) (L : List Event) (given : List ℕ) → card_calls s L ≡ [] → given ≡ [] → flat_map got_in (card_calls s L) ≡ given
none_got s L given none is = ap (flat_map got_in) none ∙ sym is

card_here : (s : ℕ) → is_card s (Source s) ≡ true
card_here s = grind (arith, nat_tests)

last_got : (s : ℕ) (q : List ℕ) (size : ℕ) (L : List Event) → L ≡ SourceRead s q size 1 (Some []) ∷ [] → flat_map got_in (card_calls s L) ≡ []
last_got s q size L is = ap (λ (K : List Event). flat_map got_in (card_calls s K)) is ∙ ap (λ b. flat_map got_in (cond b (SourceRead s q size 1 (Some []) ∷ []) [])) (card_here s)

act_got : (s : ℕ) (q : List ℕ) (size : ℕ) (at now : Standing) (bytes given : List ℕ) (act : Act) (r : Turn) (L : List Event) → Good r → ActCalls s q size at now bytes given act r L → flat_map got_in (card_calls s L) ≡ given
act_got s q size at now bytes given Read Going L good t = ap (flat_map got_in) (card_tiles s q (at.counts.read * 65536) L given t.0) ∙ tiles_got s q (at.counts.read * 65536) L given t.0
act_got s q size at now bytes given (Write d k) Going L good t = none_got s L given (card_none s (has at.kept d) (has now.kept d) true d (k * 65536) (block_of bytes k) L t.1) t.0
act_got s q size at now bytes given (Write d k) (Dropped e) L good t = none_got s L given (card_none s (has at.kept d) (has now.kept d) false d (k * 65536) (block_of bytes k) L t.1) t.0
act_got s q size at now bytes given Finished (Copied x) L good t = last_got s q size L t.1 ∙ sym t.0
act_got s q size at now bytes given act SourceFailed L good t = absurd good
act_got s q size at now bytes given act (Changed x y) L good t = absurd good
act_got s q size at now bytes given act NoDrive L good t = absurd good
act_got s q size at now bytes given act r L good t = absurd t

pub turn_got : (s : ℕ) (q : List ℕ) (size : ℕ) (at now : Standing) (bytes given : List ℕ) (did : Doing) (r : Turn) (L : List Event) → Good r → TurnCalls s q size at now bytes given did r L → flat_map got_in (card_calls s L) ≡ given
turn_got s q size at now bytes given (EmptyPiece d) Going L good t = none_got s L given (card_none_piece s true d L t.1) t.0
turn_got s q size at now bytes given (EmptyPiece d) r L good t = none_got s L given (card_none_piece s false d L t.1) t.0
turn_got s q size at now bytes given (Acting p act) r L good t =
    ap (λ (K : List Event). flat_map got_in K) (ap (card_calls s) t.is ∙ card_append s t.first t.second ∙ ap (λ (K : List Event). K ++ card_calls s t.second) (card_none_pick s p t.first t.here))
    ∙ act_got s q size at now bytes given act r t.second good t.there

-- more reads that end so
pub ends_more : (s : ℕ) (q : List ℕ) (size : ℕ) (A B : List Event) → EndsAtSize s q size (reads_of s q B) → EndsAtSize s q size (reads_of s q (A ++ B))
ends_more s q size A B (front, last) =
    (reads_of s q A ++ front, reads_append s q A B ∙ ap (λ (K : List Event). reads_of s q A ++ K) last ∙ sym (append_assoc (reads_of s q A) front (SourceRead s q size 1 (Some []) ∷ [])))
