-- The reads of the card in the turns of a copy.
use Rattle.std.proofs.Common.{◌≡◌, inl, inr, ℕ, ◌+◌, ◌*◌, true, false, cond, List, [], ◌∷◌, ◌++◌, length, refl, sym, ◌∙◌, ap, subst, arith, length-append, append-nil, append_assoc}
use Rattle.std.proofs.lemmas.Bool.Decides.{nat_tests}
use Rattle.std.specs.Prelude.{Option, Some, None, unwrap_or}
use Rattle.bay_core.specs.declared.event.Event.{Event}
use Rattle.bay_core.specs.declared.event.Event.TheVariants.{SourceRead}
use Rattle.bay_core.specs.Replay.{Source, device_of}
use Rattle.bay_core.specs.Went.{Then}
use Rattle.digest_set.specs.declared.triple.Triple.{Triple}
use Rattle.fan_core.specs.declared.act.Act.{Act}
use Rattle.fan_core.specs.declared.act.Act.TheVariants.{Read, Write, Finished}
use Rattle.fan_core.specs.Flags.{has}
use Rattle.fan_copier.specs.declared.turn.Turn.{Turn}
use Rattle.fan_copier.specs.declared.turn.Turn.TheVariants.{Going, Dropped, Copied, SourceFailed, Changed}
use Rattle.fan_copier.specs.Reads.{OnCard, GaveNone, MayFail, Tiles, EndsAt}
use Rattle.fan_copier.specs.Standing.{Standing, block_len, block_of}
use Rattle.fan_copier.specs.Passed.{is_card, card_calls}
use Rattle.fan_copier.specs.Turning.{Doing, EmptyPiece, Acting, FailsAtOneByte, StandsAfter, ActCalls, TurnCalls}
use Rattle.fan_copier.proofs.Passing.{card_append, card_none, card_none_piece, card_none_pick}
use Rattle.fan_copier.specs.Follows.{GoesOn, InOrder, EndsAtSize}

-- reads of a file of the card from a place up to another, each where the one before ended
unfoldable pub ReadsFrom : ℕ → List ℕ → ℕ → ℕ → List Event → Type 0
ReadsFrom s path at end [] = end ≡ at
ReadsFrom s path at end (e ∷ L) = (asked : ℕ) × (got : Option (List ℕ)) × (e ≡ SourceRead s path at asked got) × ReadsFrom s path (at + length (unwrap_or got [])) end L

pub order_none : (s : ℕ) (path : List ℕ) (at : ℕ) (L : List Event) → L ≡ [] → ReadsFrom s path at at L
unfolding ReadsFrom
order_none s path at [] none = refl
order_none s path at (e ∷ L) none = absurd (cc none)

pub order_append : (s : ℕ) (path : List ℕ) (at mid end : ℕ) (A B : List Event) → ReadsFrom s path at mid A → ReadsFrom s path mid end B → ReadsFrom s path at end (A ++ B)
unfolding ReadsFrom
order_append s path at mid end [] B a b = subst (λ n. ReadsFrom s path n end B) a b
order_append s path at mid end (e ∷ A) B (asked, got, is, more) b = (asked, got, is, order_append s path (at + length (unwrap_or got [])) mid end A B more b)

-- so they are in order
pub order_in : (s : ℕ) (path : List ℕ) (at end : ℕ) (L : List Event) → ReadsFrom s path at end L → InOrder s path at L
unfolding ReadsFrom InOrder
order_in s path at end [] r = tt
order_in s path at end (e ∷ L) (asked, got, is, more) = (asked, got, is, order_in s path (at + length (unwrap_or got [])) end L more)

card_here : (s : ℕ) → is_card s (Source s) ≡ true
card_here s = grind (arith, nat_tests)

-- they are calls on the card
order_card : (s : ℕ) (path : List ℕ) (at end : ℕ) (L : List Event) → ReadsFrom s path at end L → card_calls s L ≡ L
unfolding ReadsFrom
order_card s path at end [] r = refl
order_card s path at end (e ∷ L) (asked, got, is, more) =
    ap (λ b. cond b (e ∷ card_calls s L) (card_calls s L)) (ap (λ x. is_card s (device_of x)) is ∙ card_here s) ∙ ap (λ (K : List Event). e ∷ K) (order_card s path (at + length (unwrap_or got [])) end L more)

order_tiles : (s : ℕ) (path : List ℕ) (at : ℕ) (L : List Event) (bytes : List ℕ) → Tiles (OnCard s path) at L bytes → ReadsFrom s path at (at + length bytes) L
unfolding Tiles ReadsFrom
order_tiles s path at [] bytes none = let n = ap (length {A = ℕ}) none in omega (arith, n)
order_tiles s path at (e ∷ L) bytes (first, rest, one, is, more) =
    let far : at + length bytes ≡ at + length first + length rest = omega (arith, ap (length {A = ℕ}) is, length-append first rest) in
    (one.asked, Some first, one.is, subst (λ n. ReadsFrom s path (at + length first) n L) (sym far) (order_tiles s path (at + length first) L rest more))

-- one read, which gave these bytes or none
order_one : (s : ℕ) (path : List ℕ) (at asked : ℕ) (got : Option (List ℕ)) (L : List Event) → L ≡ SourceRead s path at asked got ∷ [] → ReadsFrom s path at (at + length (unwrap_or got [])) L
unfolding ReadsFrom
order_one s path at asked got L is = subst (λ K. ReadsFrom s path at (at + length (unwrap_or got [])) K) (sym is) (asked, got, refl, refl)

order_gave_none : (s : ℕ) (path : List ℕ) (at : ℕ) (L : List Event) → GaveNone (OnCard s path) at L → ReadsFrom s path at at L
order_gave_none s path at L (asked, some, e, is, inl gave_none) = subst (λ n. ReadsFrom s path at n L) (omega arith) (order_one s path at asked (Some []) L (is ∙ ap (λ x. x ∷ []) gave_none))
order_gave_none s path at L (asked, some, e, is, inr never) = absurd never

order_may_fail : (s : ℕ) (path : List ℕ) (at : ℕ) (L : List Event) → MayFail (OnCard s path) at L → ReadsFrom s path at at L
order_may_fail s path at L (inl none) = order_none s path at L none
order_may_fail s path at L (inr (asked, is)) = subst (λ n. ReadsFrom s path at n L) (omega arith) (order_one s path at asked None L is)

order_no_byte : (s : ℕ) (path : List ℕ) (at : ℕ) (L : List Event) → FailsAtOneByte s path at L → ReadsFrom s path at at L
order_no_byte s path at L (inl none) = order_none s path at L none
order_no_byte s path at L (inr is) = order_may_fail s path at L (inr (1, is))

order_then : (s : ℕ) (path : List ℕ) (at mid end : ℕ) {P Q : List Event → Type 0} (L : List Event) → ((A : List Event) → P A → ReadsFrom s path at mid A) → ((A : List Event) → Q A → ReadsFrom s path mid end A) → Then P Q L → ReadsFrom s path at end L
order_then s path at mid end L here there t = subst (λ K. ReadsFrom s path at end K) (sym t.is) (order_append s path at mid end t.first t.second (here t.first t.here) (there t.second t.there))

order_ends : (s : ℕ) (path : List ℕ) (at want : ℕ) (bytes : List ℕ) (L : List Event) → EndsAt (OnCard s path) at want bytes L → ReadsFrom s path at (at + length bytes) L
order_ends s path at want bytes L (fewer, t) = order_then s path at (at + length bytes) (at + length bytes) L (λ A a. order_tiles s path at A bytes a) (λ A a. order_gave_none s path (at + length bytes) A a) t

-- the reads of the card in some calls, and where they end if the copy goes on
abbrev pub ReadsOn : ℕ → List ℕ → ℕ → Turn → ℕ → List Event → Type 0
ReadsOn s path at r next L = (end : ℕ) × ReadsFrom s path at end (card_calls s L) × (GoesOn r → end ≡ next)

reads_on : (s : ℕ) (path : List ℕ) (at end : ℕ) (r : Turn) (next : ℕ) (L : List Event) → (GoesOn r → end ≡ next) → ReadsFrom s path at end L → ReadsOn s path at r next L
reads_on s path at end r next L is reads = (end, subst (λ K. ReadsFrom s path at end K) (sym (order_card s path at end L reads)) reads, is)

-- no read of the card
reads_none : (s : ℕ) (path bytes given : List ℕ) (r : Turn) (L : List Event) → given ≡ [] → card_calls s L ≡ [] → ReadsOn s path (length bytes) r (length (bytes ++ given)) L
reads_none s path bytes given r L none off = (length bytes, order_none s path (length bytes) (card_calls s L) off, λ on. ap (λ (l : List ℕ). length l) (sym (ap (λ (l : List ℕ). bytes ++ l) none ∙ append-nil bytes)))

act_order : (s : ℕ) (path : List ℕ) (size : ℕ) (at now : Standing) (bytes given : List ℕ) (act : Act) (r : Turn) (L : List Event) → (act ≡ Read → at.counts.read * 65536 ≡ length bytes) → (act ≡ Finished → size ≡ length bytes)
    → ActCalls s path size at now bytes given act r L → ReadsOn s path (length bytes) r (length (bytes ++ given)) L
act_order s path size at now bytes given Read Going L read done t =
    let a = length-append bytes given in
    reads_on s path (length bytes) (length bytes + length given) Going (length (bytes ++ given)) L (λ on. omega (arith, a)) (subst (λ n. ReadsFrom s path n (n + length given) L) (read refl) (order_tiles s path (at.counts.read * 65536) L given t.0))
act_order s path size at now bytes given Read (Changed listed n) L read done t =
    reads_on s path (length bytes) (length bytes + length given) (Changed listed n) (length (bytes ++ given)) L (λ on. absurd on) (subst (λ n. ReadsFrom s path n (n + length given) L) (read refl) (order_ends s path (at.counts.read * 65536) (block_len size at.counts.read) given L t))
act_order s path size at now bytes given Read SourceFailed L read done (none, (came, fewer, t)) =
    reads_on s path (length bytes) (length bytes + length came) SourceFailed (length (bytes ++ given)) L (λ on. absurd on)
    (subst (λ n. ReadsFrom s path n (n + length came) L) (read refl) (order_then s path (at.counts.read * 65536) (at.counts.read * 65536 + length came) (at.counts.read * 65536 + length came) L (λ A a. order_tiles s path (at.counts.read * 65536) A came a) (λ A a. order_may_fail s path (at.counts.read * 65536 + length came) A a) t))
act_order s path size at now bytes given (Write d k) Going L read done t = reads_none s path bytes given Going L t.0 (card_none s (has at.kept d) (has now.kept d) true d (k * 65536) (block_of bytes k) L t.1)
act_order s path size at now bytes given (Write d k) (Dropped e) L read done t = reads_none s path bytes given (Dropped e) L t.0 (card_none s (has at.kept d) (has now.kept d) false d (k * 65536) (block_of bytes k) L t.1)
act_order s path size at now bytes given Finished (Copied digests) L read done t =
    reads_on s path (length bytes) (length bytes + 0) (Copied digests) (length (bytes ++ given)) L (λ on. absurd on) (subst (λ n. ReadsFrom s path n (n + 0) L) (done refl) (order_one s path size 1 (Some []) L t.1))
act_order s path size at now bytes given Finished (Changed listed n) L read done (is, one) =
    reads_on s path (length bytes) (length bytes + length given) (Changed listed n) (length (bytes ++ given)) L (λ on. absurd on) (subst (λ n. ReadsFrom s path n (n + length given) L) (done refl) (order_one s path size 1 (Some given) L is))
act_order s path size at now bytes given Finished SourceFailed L read done t =
    reads_on s path (length bytes) (length bytes) SourceFailed (length (bytes ++ given)) L (λ on. absurd on) (subst (λ n. ReadsFrom s path n n L) (done refl) (order_no_byte s path size L t.1))
act_order s path size at now bytes given act r L read done t = absurd t

-- the card's reads of a turn begin where those before it ended
pub turn_order : (s : ℕ) (path : List ℕ) (size : ℕ) (at now : Standing) (bytes given : List ℕ) (did : Doing) (r : Turn) (L : List Event) → ((p : ℕ) → did ≡ Acting p Read → at.counts.read * 65536 ≡ length bytes) → ((p : ℕ) → did ≡ Acting p Finished → size ≡ length bytes)
    → TurnCalls s path size at now bytes given did r L → ReadsOn s path (length bytes) r (length (bytes ++ given)) L
turn_order s path size at now bytes given (EmptyPiece d) Going L read done t = reads_none s path bytes given Going L t.0 (card_none_piece s true d L t.1)
turn_order s path size at now bytes given (EmptyPiece d) r L read done t = reads_none s path bytes given r L t.0 (card_none_piece s false d L t.1)
turn_order s path size at now bytes given (Acting p act) r L read done t =
    let rest = act_order s path size at now bytes given act r t.second (λ is. read p (ap (Acting p) is)) (λ is. done p (ap (Acting p) is)) t.there in
    let same : card_calls s L ≡ card_calls s t.second = ap (card_calls s) t.is ∙ card_append s t.first t.second ∙ ap (λ (K : List Event). K ++ card_calls s t.second) (card_none_pick s p t.first t.here) in
    (rest.0, subst (λ K. ReadsFrom s path (length bytes) rest.0 K) (sym same) rest.1, rest.2)

-- the card's reads of a turn after which the copy ended well
pub turn_past : (s : ℕ) (path : List ℕ) (size : ℕ) (at now : Standing) (bytes given : List ℕ) (did : Doing) (digests : Triple) (L : List Event) → StandsAfter size at now did (Copied digests) → TurnCalls s path size at now bytes given did (Copied digests) L
    → EndsAtSize s path size (card_calls s L)
turn_past s path size at now bytes given (EmptyPiece d) digests L stands t = absurd stands
turn_past s path size at now bytes given (Acting p Read) digests L stands t = absurd stands
turn_past s path size at now bytes given (Acting p (Write d k)) digests L stands t = absurd stands
turn_past s path size at now bytes given (Acting p Finished) digests L stands t =
    let last : List Event = SourceRead s path size 1 (Some []) ∷ [] in
    let mine : card_calls s last ≡ last = ap (λ b. cond b last []) (card_here s) in
    (card_calls s t.first, ap (card_calls s) t.is ∙ card_append s t.first t.second ∙ ap (λ (K : List Event). card_calls s t.first ++ K) (ap (card_calls s) t.there.1 ∙ mine))

-- and those of all calls up to it
pub past_more : (s : ℕ) (path : List ℕ) (size : ℕ) (A B L : List Event) → L ≡ A ++ B → EndsAtSize s path size (card_calls s B) → EndsAtSize s path size (card_calls s L)
past_more s path size A B L is (front, last) =
    (card_calls s A ++ front, ap (card_calls s) is ∙ card_append s A B ∙ ap (λ (K : List Event). card_calls s A ++ K) last ∙ sym (append_assoc (card_calls s A) front (SourceRead s path size 1 (Some []) ∷ [])))
