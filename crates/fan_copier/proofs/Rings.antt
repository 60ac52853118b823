-- Slots that are taken for places and given back, and what a turn leaves of the pool.
use Rattle.std.proofs.Common.{◌≡◌, ◌≢◌, ◌⊎◌, inl, inr, ℕ, zero, suc, ◌+◌, ◌≤◌, ◌<◌, Bool, true, false, List, [], ◌∷◌, ◌++◌, length, take, slice_index_or, slice_set, refl, sym, ◌∙◌, ap, subst, arith, get_or-set_same, get_or-set_other}
use Rattle.std.proofs.lemmas.Bool.{cases_eq}
use Rattle.std.proofs.lemmas.List.{take_more}
use Rattle.std.specs.Prelude.{Option, Some, None, is_some, IfSome, IfNone, if◌then◌else◌}
use Rattle.block_pool.specs.Lent.{PoolState, is_lent, block_at, free_in, LendsOut, TakesBack}
use Rattle.block_pool.specs.Lending.{with_block}
use Rattle.fan_copier.specs.Ring.{cell, taken, IsOut, Owns, Readies, Gives, KeepsPool}

-- a place that had no slot and has one now counts one more
taken_more : (ring : List (Option ℕ)) (i n : ℕ) → i < length ring → cell ring i ≡ None → taken (slice_set ring i (Some n)) ≡ taken ring + 1
taken_more [] i n in_range none = absurd (omega arith)
taken_more (None ∷ ring) zero n in_range none = refl
taken_more (Some m ∷ ring) zero n in_range none = absurd (cc none)
taken_more (None ∷ ring) (suc i) n in_range none = taken_more ring i n (omega arith) none
taken_more (Some m ∷ ring) (suc i) n in_range none = ap (λ k. k + 1) (taken_more ring i n (omega arith) none)

-- a place that had a slot and has none now counts one less
taken_less : (ring : List (Option ℕ)) (i n : ℕ) → cell ring i ≡ Some n → taken (slice_set ring i None) + 1 ≡ taken ring
taken_less [] i n there = absurd (cc there)
taken_less (None ∷ ring) zero n there = absurd (cc there)
taken_less (Some m ∷ ring) zero n there = refl
taken_less (None ∷ ring) (suc i) n there = taken_less ring i n there
taken_less (Some m ∷ ring) (suc i) n there = ap (λ k. k + 1) (taken_less ring i n there)

-- where no place has a slot, none is counted
pub taken_none : (ring : List (Option ℕ)) → ((j : ℕ) → j < length ring → cell ring j ≡ None) → taken ring ≡ 0
taken_none [] none = refl
taken_none (None ∷ ring) none = taken_none ring (λ j below. none (suc j) (omega (arith, below)))
taken_none (Some m ∷ ring) none = absurd (cc (none 0 (omega arith)))

-- no more slots than places that may have one
pub taken_most : (ring : List (Option ℕ)) (n : ℕ) → ((j : ℕ) → n ≤ j → is_some (cell ring j) ≡ false) → taken ring ≤ n
taken_most [] n outside = omega arith
taken_most (None ∷ ring) zero outside = taken_most ring zero (λ j above. outside (suc j) (omega (arith, above)))
taken_most (Some m ∷ ring) zero outside = absurd (cc (outside 0 (omega arith)))
taken_most (None ∷ ring) (suc n) outside = let rest = taken_most ring n (λ j above. outside (suc j) (omega (arith, above))) in omega (arith, rest)
taken_most (Some m ∷ ring) (suc n) outside = let rest = taken_most ring n (λ j above. outside (suc j) (omega (arith, above))) in omega (arith, rest)

-- where a place below n is empty, and all from n on are, fewer than n have a slot
pub taken_room : (ring : List (Option ℕ)) (n i : ℕ) → ((j : ℕ) → n ≤ j → is_some (cell ring j) ≡ false) → i < n → cell ring i ≡ None → taken ring + 1 ≤ n
taken_room [] n i outside below none = omega (arith, below)
taken_room (o ∷ ring) zero i outside below none = absurd (omega (arith, below))
taken_room (None ∷ ring) (suc n) zero outside below none = let most = taken_most ring n (λ j above. outside (suc j) (omega (arith, above))) in omega (arith, most)
taken_room (Some m ∷ ring) (suc n) zero outside below none = absurd (cc none)
taken_room (None ∷ ring) (suc n) (suc i) outside below none = let rest = taken_room ring n i (λ j above. outside (suc j) (omega (arith, above))) (omega (arith, below)) none in omega (arith, rest)
taken_room (Some m ∷ ring) (suc n) (suc i) outside below none = let rest = taken_room ring n i (λ j above. outside (suc j) (omega (arith, above))) (omega (arith, below)) none in omega (arith, rest)

-- a place without a slot is empty
pub none_at : (o : Option ℕ) → is_some o ≡ false → o ≡ None
none_at None none = refl
none_at (Some n) none = absurd (cc none)

-- an empty place has no slot
no_slot : (o : Option ℕ) → o ≡ None → is_some o ≡ true → ⊥
no_slot None is some = cc some
no_slot (Some n) is some = cc is

-- one place has one slot
same_slot : (n m : ℕ) → Some n ≡ Some m → n ≡ m
same_slot n m is = cc is

-- the cell is the new one, or it stands elsewhere and is as it was
cell_set : (ring : List (Option ℕ)) (place j : ℕ) (o : Option ℕ) → place < length ring → ((j ≡ place) × (cell (slice_set ring place o) j ≡ o)) ⊎ ((j ≢ place) × (cell (slice_set ring place o) j ≡ cell ring j))
cell_set ring place j o in_range = elim (cases_eq j place) [
  | inl here ↦ inl (here, ap (cell (slice_set ring place o)) here ∙ get_or-set_same ring place o None in_range)
  | inr there ↦ inr (there, get_or-set_other ring place j o None there)
]

-- what is lent stays lent where one more is
lent_still : (lent : List Bool) (n k : ℕ) → slice_index_or lent k false ≡ true → slice_index_or (slice_set lent n true) k false ≡ true
lent_still [] n k is = absurd (cc is)
lent_still (flag ∷ lent) zero zero is = refl
lent_still (flag ∷ lent) zero (suc k) is = is
lent_still (flag ∷ lent) (suc n) zero is = is
lent_still (flag ∷ lent) (suc n) (suc k) is = lent_still lent n k is

-- the slot that the pool lent for an empty place was free
pub was_free : (place : ℕ) (ring : List (Option ℕ)) (old new : PoolState) (r : Option ℕ) → place < length ring → IfSome r (λ n. LendsOut n old new) → (k : ℕ) → cell ring place ≡ None → cell (slice_set ring place r) place ≡ Some k
    → is_lent old k ≡ false
was_free place ring old new None in_range some k empty at = absurd (cc (sym (get_or-set_same ring place None None in_range) ∙ at))
was_free place ring old new (Some s) in_range some k empty at = ap (is_lent old) (same_slot k s (sym at ∙ get_or-set_same ring place (Some s) None in_range)) ∙ some.was_free

-- a place that had no slot has the one that the pool lent
pub readied : (place : ℕ) (ring : List (Option ℕ)) (old new : PoolState) (r : Option ℕ) → place < length ring → cell ring place ≡ None → Owns ring old → 0 < free_in old.lent
    → IfNone r ((new ≡ old) × (free_in old.lent ≡ 0)) → IfSome r (λ n. LendsOut n old new) → Readies place ring (slice_set ring place r) old new
readied place ring old new None in_range empty owns room none some = absurd (let z = none.1 in omega (arith, room, z))
readied place ring old new (Some s) in_range empty owns room none some = record {
  there = ap (λ (o : Option ℕ). is_some o) (get_or-set_same ring place (Some s) None in_range);
  others = λ j apart. get_or-set_other ring place j (Some s) None apart;
  same = λ there. absurd (no_slot _ empty there);
  owns = record {
    lent = λ i n at. elim (cell_set ring place i (Some s) in_range) [
      | inl here ↦ subst (λ k. is_lent new k ≡ true) (same_slot s n (sym here.1 ∙ at)) some.lent
      | inr there ↦ still n (owns.lent i n (sym there.1 ∙ at))
    ];
    apart = λ i j n at at_too. elim (cell_set ring place i (Some s) in_range) [
      | inl here ↦ elim (cell_set ring place j (Some s) in_range) [
        | inl here_too ↦ here.0 ∙ sym here_too.0
        | inr there ↦ absurd (never n (sym (same_slot s n (sym here.1 ∙ at))) (owns.lent j n (sym there.1 ∙ at_too)))
      ]
      | inr there ↦ elim (cell_set ring place j (Some s) in_range) [
        | inl here ↦ absurd (never n (sym (same_slot s n (sym here.1 ∙ at_too))) (owns.lent i n (sym there.1 ∙ at)))
        | inr there_too ↦ owns.apart i j n (sym there.1 ∙ at) (sym there_too.1 ∙ at_too)
      ]
    ];
  };
  blocks = ap (λ (p : PoolState). p.blocks) some.is;
  sum = let less = some.one_less in let more = taken_more ring place s in_range empty in omega (arith, less, more);
  still = still;
  fresh = was_free place ring old new (Some s) in_range some;
} where
  still : (n : ℕ) → is_lent old n ≡ true → is_lent new n ≡ true
  still n lent = ap (λ (p : PoolState). is_lent p n) some.is ∙ lent_still old.lent s n lent

  never : (n : ℕ) → n ≡ s → is_lent old n ≡ true → ⊥
  never n is lent = cc (sym lent ∙ ap (is_lent old) is ∙ some.was_free)

-- the place is emptied, and its slot given back
pub gave : (place : ℕ) (ring new : List (Option ℕ)) (old now : PoolState) (s : ℕ) → place < length ring → Some s ≡ cell ring place → new ≡ slice_set ring place None → Owns ring old → TakesBack s old now
    → Gives place ring new old now
gave place ring new old now s in_range there is owns back = subst (λ (r : List (Option ℕ)). Gives place ring r old now) (sym is) (record {
  empty = get_or-set_same ring place None None in_range;
  owns = record {
    lent = λ i n at. elim (cell_set ring place i None in_range) [
      | inl here ↦ absurd (cc (sym at ∙ here.1))
      | inr away ↦ keep n (λ same. away.0 (owns.apart i place n (sym away.1 ∙ at) (sym there ∙ ap Some (sym same)))) (owns.lent i n (sym away.1 ∙ at))
    ];
    apart = λ i j n at at_too. elim (cell_set ring place i None in_range) [
      | inl here ↦ absurd (cc (sym at ∙ here.1))
      | inr away ↦ elim (cell_set ring place j None in_range) [
        | inl here ↦ absurd (cc (sym at_too ∙ here.1))
        | inr away_too ↦ owns.apart i j n (sym away.1 ∙ at) (sym away_too.1 ∙ at_too)
      ]
    ];
  };
  others = λ j apart. get_or-set_other ring place j None None apart;
  blocks = ap (λ (p : PoolState). p.blocks) back.is;
  sum = let less = taken_less ring place s (sym there) in let more = back.one_more in omega (arith, less, more);
  still = λ n lent not_it. keep n (λ same. not_it (sym there ∙ ap Some (sym same))) lent;
}) where
  keep : (n : ℕ) → n ≢ s → is_lent old n ≡ true → is_lent now n ≡ true
  keep n apart lent = (back.others n apart).0 ∙ lent

-- where a block is written, every other has the bytes that it had
pub other_block : (before after : PoolState) (n k : ℕ) → after ≡ with_block before n (block_at after n) → k ≢ n → block_at after k ≡ block_at before k
other_block before after n k wrote apart = ap (λ (p : PoolState). block_at p k) wrote ∙ get_or-set_other before.blocks n k (block_at after n) [] apart

-- a slot that is lent to others is at no place either once a place is made ready, if the slot for a place that was empty was free
stays_out : (place : ℕ) (old new : List (Option ℕ)) (before mid : PoolState) (k : ℕ) → Readies place old new before mid → ((n : ℕ) → cell old place ≡ None → cell new place ≡ Some n → is_lent before n ≡ false)
    → is_lent before k ≡ true → IsOut old k → IsOut new k
stays_out place old new before mid k ready fresh lent out = λ i at. elim (cases_eq i place) [
  | inl here ↦ there (cell old place) refl (ap (cell new) (sym here) ∙ at)
  | inr away ↦ out i (sym (ready.others i away) ∙ at)
] where
  there : (was : Option ℕ) → cell old place ≡ was → cell new place ≡ Some k → ⊥
  there None empty at = cc (sym (fresh k empty at) ∙ lent)
  there (Some n) had at = out place (sym (ready.same (ap is_some had)) ∙ at)

-- a place is made ready, and its block is written
pub keeps_ready : (place compare : ℕ) (old new : List (Option ℕ)) (before mid after : PoolState) (n : ℕ) → Owns old before → is_lent before compare ≡ true → IsOut old compare → Readies place old new before mid
    → cell new place ≡ Some n → after ≡ with_block mid n (block_at after n) → KeepsPool compare old new before after
keeps_ready place compare old new before mid after n owns lent out ready there wrote = record {
  owns = record { lent = λ i k at. same k ∙ ready.owns.lent i k at; apart = ready.owns.apart };
  sum = let free : free_in after.lent ≡ free_in mid.lent = ap (λ (p : PoolState). free_in p.lent) wrote in let s = ready.sum in omega (arith, free, s);
  spares = λ k lent_too out_too. (
    same k ∙ ready.still k lent_too,
    λ such. other_block mid after n k wrote (λ is. stays_out place old new before mid k ready ready.fresh lent_too out_too place (there ∙ ap Some (sym is)))
        ∙ ap (λ (blocks : List (List ℕ)). slice_index_or blocks k []) ready.blocks,
  );
  out = λ k lent_too out_too. stays_out place old new before mid k ready ready.fresh lent_too out_too;
} where
  same : (k : ℕ) → is_lent after k ≡ is_lent mid k
  same k = ap (λ (p : PoolState). is_lent p k) wrote

-- only the block of the slot for comparing is written
pub keeps_compare : (compare : ℕ) (ring : List (Option ℕ)) (before after : PoolState) → Owns ring before → is_lent before compare ≡ true → IsOut ring compare → after ≡ with_block before compare (block_at after compare)
    → KeepsPool compare ring ring before after
keeps_compare compare ring before after owns lent out wrote = record {
  owns = record { lent = λ i k at. same k ∙ owns.lent i k at; apart = owns.apart };
  sum = ap (λ (p : PoolState). free_in p.lent + taken ring) wrote;
  spares = λ k lent_too out_too. (same k ∙ lent_too, λ apart. other_block before after compare k wrote apart);
  out = λ k lent_too out_too. out_too;
} where
  same : (k : ℕ) → is_lent after k ≡ is_lent before k
  same k = ap (λ (p : PoolState). is_lent p k) wrote

-- nothing is taken and nothing written
pub keeps_none : (compare : ℕ) (ring : List (Option ℕ)) (pool : PoolState) → Owns ring pool → IsOut ring compare → KeepsPool compare ring ring pool pool
keeps_none compare ring pool owns out = record { owns = owns; sum = refl; spares = λ k lent_too out_too. (lent_too, λ such. refl); out = λ k lent_too out_too. out_too }

-- two turns, one after the other
pub keeps_then : (compare : ℕ) (first second third : List (Option ℕ)) (before mid after : PoolState) → KeepsPool compare first second before mid → KeepsPool compare second third mid after → KeepsPool compare first third before after
keeps_then compare first second third before mid after one two = record {
  owns = two.owns;
  sum = two.sum ∙ one.sum;
  spares = λ k lent out.
      let a = one.spares k lent out in
      let b = two.spares k a.0 (one.out k lent out) in
      (b.0, λ such. b.1 such ∙ a.1 such);
  out = λ k lent out. two.out k (one.spares k lent out).0 (one.out k lent out);
}

-- one place more
taken_push : (ring : List (Option ℕ)) (o : Option ℕ) → taken (ring ++ o ∷ []) ≡ (if is_some o then taken ring + 1 else taken ring)
taken_push [] None = refl
taken_push [] (Some n) = refl
taken_push (None ∷ ring) o = taken_push ring o
taken_push (Some m ∷ ring) None = ap (λ (k : ℕ). k + 1) (taken_push ring None)
taken_push (Some m ∷ ring) (Some n) = ap (λ (k : ℕ). k + 1) (taken_push ring (Some n))

pub taken_next : (ring : List (Option ℕ)) (i : ℕ) (o : Option ℕ) (b : Bool) → i < length ring → b ≡ is_some (slice_index_or ring i o) → taken (take (i + 1) ring) ≡ (if b then taken (take i ring) + 1 else taken (take i ring))
taken_next ring i o b low is =
    ap taken (take_more ring i o low) ∙ taken_push (take i ring) (slice_index_or ring i o) ∙ ap (λ (x : Bool). if x then taken (take i ring) + 1 else taken (take i ring)) (sym is)

-- no more slots than places
pub taken_few : (ring : List (Option ℕ)) → taken ring ≤ length ring
taken_few [] = omega arith
taken_few (None ∷ ring) = let rest = taken_few ring in omega (arith, rest)
taken_few (Some m ∷ ring) = let rest = taken_few ring in omega (arith, rest)
