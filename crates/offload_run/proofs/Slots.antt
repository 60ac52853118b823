-- A slot that is taken for one act and given back, and what a turn leaves of the pool.
use Rattle.std.proofs.Common.{◌≡◌, ◌≢◌, ℕ, zero, suc, ◌+◌, ◌≤◌, Bool, true, false, List, [], ◌∷◌, ◌++◌, take, slice_index_or, slice_set, refl, sym, ◌∙◌, ap, subst, arith}
use Rattle.std.specs.Prelude.{Option, Some, None}
use Rattle.std.proofs.lemmas.Bool.{false≢true}
use Rattle.bay_core.specs.World.{World}
use Rattle.block_pool.specs.Lent.{PoolState, block_at, free_in, is_lent, LendsOut, TakesBack}
use Rattle.block_pool.specs.Lending.{with_block}
use Rattle.fan_core.specs.Flags.{HasSome, lowest}
use Rattle.fan_core.proofs.Rules.{lowest_has}
use Rattle.fan_copier.specs.declared.copy.FileCopy.{FileCopy}
use Rattle.fan_copier.specs.declared.turn.Turn.{Turn}
use Rattle.fan_copier.specs.declared.turn.Turn.TheVariants.{Going, Dropped, Copied, SourceFailed, Changed, NoDrive}
use Rattle.fan_copier.specs.Copying.{slots_of, slots_at_most, Copying, HoldsBlocks}
use Rattle.fan_copier.specs.Keeping.{ReadsSame}
use Rattle.fan_copier.specs.Ring.{cell, taken, IsOut, Owns, Spares, KeepsPool, GivesAll}
use Rattle.fan_copier.specs.Standing.{block_len, IsWanted}
use Rattle.fan_copier.specs.Turning.{CameTo, Turned, bytes_after}
use Rattle.fan_copier.proofs.Keeping.{copying_stays}
use Rattle.fan_copier.proofs.Rings.{taken_most}
use Rattle.run_state.specs.declared.phase.Phase.{Phase}
use Rattle.run_state.specs.declared.phase.Phase.TheVariants.{Copies}
use Rattle.run_state.specs.Rules.{slots_in, held, KeepsRunPool}

-- a copy that may have fewer slots than it and the pool have leaves one free
pub some_free : (copy : FileCopy) (free : ℕ) → slots_at_most copy + 1 ≤ free + taken (slots_of copy) → free ≡ 0 → ⊥
some_free copy free room none = let few = taken_most copy.ring.slots copy.window.counts.slots copy.keeps.outside in omega (arith, few, room, none)

-- a set with a least number has some
pub some_live : (set : List Bool) → lowest set ≢ None → HasSome set
some_live set some = by (lowest set) refl
  where
    by : (o : Option ℕ) → lowest set ≡ o → HasSome set
    by None is = absurd (some is)
    by (Some d) is = (d, lowest_has set d is)

same_world : (d : ℕ) (w : World) → ReadsSame d w w
same_world d w = record { back = λ m L h. (L, h, refl) }

-- what a copy knows stays where a slot is taken
copying_taken : (copy : FileCopy) (n : ℕ) (old new : PoolState) (w : World) (bytes : List ℕ) → LendsOut n old new → Copying copy old w bytes → Copying copy new w bytes
copying_taken copy n old new w bytes t c = copying_stays copy old new w w bytes (record { same = λ i k is. ap (λ (p : PoolState). block_at p k) t.is }) (λ d live. same_world d w) c

-- and where one is given back
copying_given : (copy : FileCopy) (n : ℕ) (old new : PoolState) (w : World) (bytes : List ℕ) → TakesBack n old new → Copying copy old w bytes → Copying copy new w bytes
copying_given copy n old new w bytes t c = copying_stays copy old new w w bytes (record { same = λ i k is. ap (λ (p : PoolState). block_at p k) t.is }) (λ d live. same_world d w) c

came_given : (old new : FileCopy) (n : ℕ) (pool after : PoolState) (w mid : World) (bytes given : List ℕ) (came : Turn) → TakesBack n pool after → CameTo old new pool w mid bytes given came → CameTo old new after w mid bytes given came
came_given old new n pool after w mid bytes given Going t c = copying_given new n pool after mid (bytes ++ given) t c
came_given old new n pool after w mid bytes given (Dropped d) t c = (c.0, copying_given new n pool after mid (bytes ++ given) t c.1)
came_given old new n pool after w mid bytes given (Copied digests) t c = c
came_given old new n pool after w mid bytes given SourceFailed t c = c
came_given old new n pool after w mid bytes given (Changed a b) t c = c
came_given old new n pool after w mid bytes given NoDrive t c = c

-- the blocks that a copy holds stay where another slot is given back
holds_given : (copy : FileCopy) (n : ℕ) (old new : PoolState) (bytes : List ℕ) → IsOut (slots_of copy) n → TakesBack n old new → HoldsBlocks copy old bytes → HoldsBlocks copy new bytes
holds_given copy n old new bytes out give h = record {
  slot = h.slot;
  lent = λ d k wanted. (give.others (h.slot k) (other d k wanted)).0 ∙ h.lent d k wanted;
  taken = h.taken;
  block = λ d k wanted. ap (λ (p : PoolState). take (block_len copy.size k) (block_at p (h.slot k))) give.is ∙ h.block d k wanted;
  apart = h.apart;
}
  where
    other : (d k : ℕ) → IsWanted copy.window.counts d k → h.slot k ≢ n
    other d k wanted same = let t = h.taken d k wanted in out t.0 (t.1 ∙ ap Some same)

-- a turn of a copy between taking a slot and giving it back
pub copy_turn : (path : List ℕ) (old new : FileCopy) (n : ℕ) (before lent turned after : PoolState) (w mid : World) (bytes : List ℕ) (came : Turn) → LendsOut n before lent → TakesBack n turned after → IsOut (slots_of new) n
    → (Copying old lent w bytes → Turned path old new turned w mid bytes came) → Copying old before w bytes → Turned path old new after w mid bytes came
copy_turn path old new n before lent turned after w mid bytes came take give out turn c =
    let t = turn (copying_taken old n before lent w bytes take c) in
    record {
      pick = t.pick;
      given = t.given;
      stands = t.stands;
      calls = t.calls;
      came = came_given old new n turned after w mid bytes t.given came give t.came;
      holds = holds_given new n turned after (bytes_after bytes t.given came) out give t.holds;
      card = t.card;
    }

-- a slot that is free is none of those that are lent
free_out : (ring : List (Option ℕ)) (n : ℕ) (pool : PoolState) → Owns ring pool → is_lent pool n ≡ false → IsOut ring n
free_out ring n pool owns free i at = absurd (false≢true (sym free ∙ owns.lent i n at))

-- a block that was lent is not the one that was free
other_lent : (n m : ℕ) (pool : PoolState) → is_lent pool n ≡ false → is_lent pool m ≡ true → m ≢ n
other_lent n m pool free lent same = absurd (false≢true (sym free ∙ ap (is_lent pool) (sym same) ∙ lent))

module _ (old new : FileCopy) (n : ℕ) (before lent turned after : PoolState) (owns : Owns (slots_of old) before) (take : LendsOut n before lent) (keep : KeepsPool n (slots_of old) (slots_of new) lent turned) (give : TakesBack n turned after) where
  -- the slot that was taken is none of the copy's
  pub slot_out : IsOut (slots_of new) n
  slot_out = keep.out n take.lent (free_out (slots_of old) n before owns take.was_free)

  still_lent : (m : ℕ) → is_lent before m ≡ true → is_lent lent m ≡ true
  still_lent m was = (take.others m (other_lent n m before take.was_free was)).0 ∙ was

  -- what a turn leaves of the pool, with a slot that was taken for it
  pub slot_pool : (i : ℕ) → KeepsRunPool (Copies i old) (Copies i new) before after
  slot_pool i = record {
    owns = record {
      lent = λ j m at. (give.others m (apart j m at)).0 ∙ keep.owns.lent j m at;
      apart = keep.owns.apart;
    };
    sum = let a = take.one_less in let b = keep.sum in let c = give.one_more in omega (arith, a, b, c);
    spares = λ m was out.
        let differ = other_lent n m before take.was_free was in
        let kept = keep.spares m (still_lent m was) out in
        ((give.others m differ).0 ∙ kept.0, λ u. (give.others m differ).1 ∙ kept.1 differ ∙ (take.others m differ).1);
    out = λ m was out. keep.out m (still_lent m was) out;
  }
    where
      apart : (j m : ℕ) → cell (slots_of new) j ≡ Some m → m ≢ n
      apart j m at same = slot_out j (at ∙ ap Some same)

-- what is lent after a slot was taken and given back
back : (lent : List Bool) (n : ℕ) → slice_index_or lent n false ≡ false → slice_set (slice_set lent n true) n false ≡ lent
back [] n free = refl
back (b ∷ lent) zero free = ap (λ (x : Bool). x ∷ lent) (sym free)
back (b ∷ lent) (suc n) free = ap (λ (l : List Bool). b ∷ l) (back lent n free)

pub lent_back : (n : ℕ) (before lent mid after : PoolState) (bytes : List ℕ) → LendsOut n before lent → mid ≡ with_block lent n bytes → TakesBack n mid after → after.lent ≡ before.lent
lent_back n before lent mid after bytes take is give =
    ap (λ (p : PoolState). p.lent) give.is ∙ ap (λ (p : PoolState). slice_set p.lent n false) is ∙ ap (λ (p : PoolState). slice_set p.lent n false) take.is ∙ back before.lent n take.was_free

-- ---- from one phase to another

-- no slots are owned by whatever pool
pub owns_none : (ring : List (Option ℕ)) (pool : PoolState) → ring ≡ [] → Owns ring pool
owns_none ring pool none = subst (λ (r : List (Option ℕ)). Owns r pool) (sym none) (record { lent = λ i n at. absurd (cc at); apart = λ i j n at. absurd (cc at) })

pub out_none : (ring : List (Option ℕ)) (n : ℕ) → ring ≡ [] → IsOut ring n
out_none ring n none = subst (λ (r : List (Option ℕ)). IsOut r n) (sym none) (λ i at. cc at)

-- no place has a slot where none is counted
pub out_taken : (ring : List (Option ℕ)) → taken ring ≡ 0 → (n : ℕ) → IsOut ring n
out_taken [] none n i at = cc at
out_taken (None ∷ ring) none n zero at = cc at
out_taken (None ∷ ring) none n (suc i) at = out_taken ring none n i at
out_taken (Some m ∷ ring) none n i at = absurd (omega (arith, none))

-- nothing was done
pub pool_still : (now : Phase) (pool : PoolState) → Owns (slots_in now) pool → KeepsRunPool now now pool pool
pool_still now pool owns = record { owns = owns; sum = refl; spares = λ n lent out. (lent, λ u. refl); out = λ n lent out. out }

-- one after another
pub pool_then : (a b c : Phase) (before mid after : PoolState) → KeepsRunPool a b before mid → KeepsRunPool b c mid after → KeepsRunPool a c before after
pool_then a b c before mid after x y = record {
  owns = y.owns;
  sum = y.sum ∙ x.sum;
  spares = λ n lent out.
      let one = x.spares n lent out in
      let two = y.spares n one.0 (x.out n lent out) in
      (two.0, λ u. two.1 tt ∙ one.1 tt);
  out = λ n lent out. y.out n (x.spares n lent out).0 (x.out n lent out);
}

-- the slots of a copy are given back
pub pool_given : (i : ℕ) (copy : FileCopy) (now : Phase) (before after : PoolState) → slots_in now ≡ [] → GivesAll (slots_of copy) before after → KeepsRunPool (Copies i copy) now before after
pool_given i copy now before after none given = record {
  owns = owns_none (slots_in now) after none;
  sum = let s = given.sum in let k = ap taken none in omega (arith, s, k);
  spares = λ n lent out. given.spares n lent out;
  out = λ n lent out. out_none (slots_in now) n none;
}

-- the pool lends what it lent, and a run without slots gets none, or such as no pool has lent
pub pool_same : (was now : Phase) (before after : PoolState) → slots_in was ≡ [] → Owns (slots_in now) after → held now ≡ 0 → after.lent ≡ before.lent → Spares [] (λ n. Unit {0}) before after → KeepsRunPool was now before after
pool_same was now before after none owns fresh lent spares = record {
  owns = owns;
  sum = let free = ap free_in lent in let k = ap taken none in omega (arith, free, k, fresh);
  spares = λ n there out. spares n there (λ i at. cc at);
  out = λ n there out. out_taken (slots_in now) fresh n;
}

-- nothing is taken from the pool or given back
pub pool_idle : (was now : Phase) (pool : PoolState) → slots_in was ≡ [] → Owns (slots_in now) pool → held now ≡ 0 → KeepsRunPool was now pool pool
pool_idle was now pool none owns fresh = pool_same was now pool pool none owns fresh refl (λ n there out. (there, λ u. refl))
