-- The calls on the card among those of a turn.
use Rattle.std.proofs.Common.{◌≡◌, inl, inr, ℕ, ◌+◌, Bool, true, false, cond, List, [], ◌∷◌, ◌++◌, length, refl, ◌∙◌, ap, arith}
use Rattle.std.proofs.lemmas.Bool.Decides.{nat_tests}
use Rattle.std.proofs.lemmas.List.Elements.{filter-append}
use Rattle.bay_core.specs.declared.event.Event.{Event}
use Rattle.bay_core.specs.declared.event.Event.TheVariants.{Pick, Write as Writes}
use Rattle.bay_core.specs.Paths.{part_path}
use Rattle.bay_core.specs.Replay.{Source, device_of}
use Rattle.bay_core.specs.Went.{Ran, Then, IsCall, write_call}
use Rattle.fan_copier.specs.Passed.{is_card, card_calls}
use Rattle.fan_copier.specs.Reads.{OnCard, OnDrive, GaveNone, MayFail, Tiles, CutAt, Gathered}
use Rattle.fan_copier.specs.Turning.{MendCalls, WriteCalls}

-- those of two runs
pub card_append : (s : ℕ) (A B : List Event) → card_calls s (A ++ B) ≡ card_calls s A ++ card_calls s B
card_append s A B = filter-append (λ e. is_card s (device_of e)) A B

card_here : (s : ℕ) → is_card s (Source s) ≡ true
card_here s = grind (arith, nat_tests)

-- all of its reads
pub card_tiles : (s : ℕ) (path : List ℕ) (at : ℕ) (L : List Event) (bytes : List ℕ) → Tiles (OnCard s path) at L bytes → card_calls s L ≡ L
unfolding Tiles
card_tiles s path at [] bytes t = refl
card_tiles s path at (e ∷ L) bytes (first, rest, one, is, more) =
    ap (λ b. cond b (e ∷ card_calls s L) (card_calls s L)) (ap (λ x. is_card s (device_of x)) one.is ∙ card_here s)
    ∙ ap (λ (l : List Event). e ∷ l) (card_tiles s path (at + length first) L rest more)

-- none in either of two runs
then_none : {P Q : List Event → Type 0} (s : ℕ) (L : List Event) → ((K : List Event) → P K → card_calls s K ≡ []) → ((K : List Event) → Q K → card_calls s K ≡ []) → Then P Q L → card_calls s L ≡ []
then_none s L first second t = ap (card_calls s) t.is ∙ card_append s t.first t.second ∙ ap (λ (l : List Event). l ++ card_calls s t.second) (first t.first t.here) ∙ second t.second t.there

-- none where a drive is read
tiles_none_of : (s d : ℕ) (path : List ℕ) (at : ℕ) (L : List Event) (bytes : List ℕ) → Tiles (OnDrive d path) at L bytes → card_calls s L ≡ []
unfolding Tiles
tiles_none_of s d path at [] bytes t = refl
tiles_none_of s d path at (e ∷ L) bytes (first, rest, one, is, more) =
    ap (λ x. cond (is_card s (device_of x)) (e ∷ card_calls s L) (card_calls s L)) one.is ∙ tiles_none_of s d path (at + length first) L rest more

gave_none_of : (s d : ℕ) (path : List ℕ) (at : ℕ) (L : List Event) → GaveNone (OnDrive d path) at L → card_calls s L ≡ []
gave_none_of s d path at L (asked, some, e, one, inl nothing) = ap (card_calls s) (one ∙ ap (λ (x : Event). x ∷ []) nothing)
gave_none_of s d path at L (asked, some, e, one, inr absent) = ap (card_calls s) (one ∙ ap (λ (x : Event). x ∷ []) absent)

may_fail_none_of : (s d : ℕ) (path : List ℕ) (at : ℕ) (L : List Event) → MayFail (OnDrive d path) at L → card_calls s L ≡ []
may_fail_none_of s d path at L (inl none) = ap (card_calls s) none
may_fail_none_of s d path at L (inr (asked, one)) = ap (card_calls s) one

cut_none_of : (s d : ℕ) (path : List ℕ) (at want : ℕ) (L : List Event) → CutAt (OnDrive d path) at want L → card_calls s L ≡ []
cut_none_of s d path at want L (bytes, fewer, t) = then_none s L (λ K k. tiles_none_of s d path at K bytes k) (λ K k. may_fail_none_of s d path (at + length bytes) K k) t

gathered_none_of : (s d : ℕ) (path : List ℕ) (at want : ℕ) (bytes : List ℕ) (L : List Event) → Gathered (OnDrive d path) at want bytes L → card_calls s L ≡ []
gathered_none_of s d path at want bytes L (inl all) = tiles_none_of s d path at L bytes all.1
gathered_none_of s d path at want bytes L (inr ended) = then_none s L (λ K k. tiles_none_of s d path at K bytes k) (λ K k. gave_none_of s d path (at + length bytes) K k) ended.1

-- none where a part is written
ran_none_of : (s : ℕ) (ok : Bool) (d at : ℕ) (bytes : List ℕ) (L : List Event) → Ran (write_call d part_path at bytes ∷ []) ok L → card_calls s L ≡ []
unfolding Ran
ran_none_of s true d at bytes L (rest, is, none) = ap (card_calls s) (is ∙ ap (λ (l : List Event). Writes d part_path at bytes true ∷ l) none)
ran_none_of s false d at bytes L (inl none) = ap (card_calls s) none
ran_none_of s false d at bytes L (inr (inl one)) = ap (card_calls s) one
ran_none_of s false d at bytes L (inr (inr (rest, is, never))) = absurd never

mend_none_of : (s : ℕ) (ok : Bool) (d at : ℕ) (bytes : List ℕ) (L : List Event) → MendCalls d at bytes ok L → card_calls s L ≡ []
mend_none_of s ok d at bytes L (found, differ, t) =
    then_none s L (λ K k. gathered_none_of s d part_path at (length bytes) found K k) (λ K k. ran_none_of s ok d at bytes K k) t

-- none where a block is brought to a part
pub card_none : (s : ℕ) (keeps still ok : Bool) (d at : ℕ) (bytes : List ℕ) (L : List Event) → WriteCalls keeps still ok d at bytes L → card_calls s L ≡ []
card_none s false still ok d at bytes L ran = ran_none_of s ok d at bytes L ran
card_none s true true true d at bytes L t = tiles_none_of s d part_path at L bytes t
card_none s true false true d at bytes L t = mend_none_of s true d at bytes L t
card_none s true still false d at bytes L (inl t) = cut_none_of s d part_path at (length bytes) L t
card_none s true still false d at bytes L (inr t) = mend_none_of s false d at bytes L t

-- none in the empty piece of a drive
pub card_none_piece : (s : ℕ) (ok : Bool) (d : ℕ) (L : List Event) → Ran (write_call d part_path 0 [] ∷ []) ok L → card_calls s L ≡ []
card_none_piece s ok d L ran = ran_none_of s ok d 0 [] L ran

-- none in a pick
pub card_none_pick : (s p : ℕ) (L : List Event) → IsCall (Pick p) L → card_calls s L ≡ []
card_none_pick s p L is = ap (card_calls s) is
