-- Each block that some drive still wants has a slot of its own.
use Rattle.std.proofs.Common.{◌≡◌, ◌≢◌, ◌⊎◌, inl, inr, ℕ, ◌+◌, ◌%◌, ◌≤◌, ◌<◌, true, List, [], take, slice_index_or, refl, sym, ◌∙◌, ap, subst, arith, get_or-set_other}
use Rattle.std.specs.Prelude.{Option, Some, None, is_some}
use Rattle.block_pool.specs.Lent.{PoolState, is_lent, block_at}
use Rattle.block_pool.specs.Lending.{with_block}
use Rattle.fan_core.specs.declared.counts.Counts.{Counts}
use Rattle.fan_core.specs.Next.{IsWindow, CanRead}
use Rattle.fan_core.proofs.Rules.{fewest_le}
use Rattle.fan_copier.specs.declared.copy.FileCopy.{FileCopy}
use Rattle.fan_copier.specs.declared.ring.Ring.{Ring}
use Rattle.fan_copier.specs.Ring.{cell, Owns, Readies}
use Rattle.fan_copier.specs.Standing.{Standing, IsHeld, IsWanted, IsCopy, block_len, block_of, place, number_of, at_place}
use Rattle.fan_copier.specs.Copying.{Has, HoldsBlocks}
use Rattle.fan_copier.proofs.Growing.{places_apart}

some_cell : (o : Option ℕ) → is_some o ≡ true → o ≡ Some (number_of o)
some_cell None is = absurd (cc is)
some_cell (Some n) is = refl

-- a block that a drive wants is held
pub wanted_held : (c : Counts) (d k : ℕ) → IsWindow c → IsWanted c d k → IsHeld c k
wanted_held c d k w wanted =
    let least = fewest_le c.live c.written c.read d (omega (arith, w.eight_live, w.eight_written)) wanted.live in
    let not_yet = wanted.not_yet in
    record { read = wanted.read; near = let s = w.slots in omega (arith, s, least, not_yet) }

apart_places : (k j r s : ℕ) → 1 ≤ s → k < r → j < r → r ≤ k + s → r ≤ j + s → k % s ≡ j % s → k ≡ j
apart_places k j r s some k_below j_below k_near j_near same = elim (three k j) [
  | inl here ↦ here
  | inr differ ↦ elim differ [
    | inl less ↦ absurd (places_apart k j s some less (omega (arith, j_below, k_near)) same)
    | inr more ↦ absurd (places_apart j k s some more (omega (arith, k_below, j_near)) (sym same))
  ]
] where
  three : (a b : ℕ) → (a ≡ b) ⊎ ((a < b) ⊎ (b < a))
  three a b = grind arith

pub holds_blocks : (copy : FileCopy) (pool : PoolState) (xs : List ℕ) → Owns copy.ring.slots pool
    → ((d k : ℕ) → IsWanted copy.window.counts d k → take (block_len copy.size k) (at_place copy.ring.slots pool (place copy.window.counts k)) ≡ block_of xs k) → HoldsBlocks copy pool xs
holds_blocks copy pool xs owns block = record {
  slot = λ k. number_of (cell copy.ring.slots (place copy.window.counts k));
  lent = λ d k wanted. owns.lent (place copy.window.counts k) _ (there d k wanted);
  taken = λ d k wanted. (place copy.window.counts k, there d k wanted);
  block = block;
  apart = λ d e k j one two same.
      let a = wanted_held copy.window.counts d k copy.window.keeps one in
      let b = wanted_held copy.window.counts e j copy.window.keeps two in
      apart_places k j copy.window.counts.read copy.window.counts.slots copy.window.keeps.some_slot a.read b.read a.near b.near
      (owns.apart (place copy.window.counts k) (place copy.window.counts j) _ (there d k one) (there e j two ∙ ap Some (sym same)));
} where
  there : (d k : ℕ) → IsWanted copy.window.counts d k → cell copy.ring.slots (place copy.window.counts k) ≡ Some (number_of (cell copy.ring.slots (place copy.window.counts k)))
  there d k wanted = some_cell (cell copy.ring.slots (place copy.window.counts k)) (copy.keeps.filled k (wanted_held copy.window.counts d k copy.window.keeps wanted))

-- a copy that has its bytes holds the blocks
pub holds_has : (copy : FileCopy) (pool : PoolState) (xs : List ℕ) → Owns copy.ring.slots pool → Has copy pool xs → HoldsBlocks copy pool xs
holds_has copy pool xs owns had = holds_blocks copy pool xs owns (λ d k wanted. had.block k (wanted_held copy.window.counts d k copy.window.keeps wanted))

-- the blocks that are wanted stay where another is read
pub wanted_kept : (size : ℕ) (at : Standing) (ring new : List (Option ℕ)) (pool mid now : PoolState) (n : ℕ) → IsWindow at.counts → IsCopy size at ring → CanRead at.counts → Readies (place at.counts at.counts.read) ring new pool mid
    → cell new (place at.counts at.counts.read) ≡ Some n → now ≡ with_block mid n (block_at now n) → (d k : ℕ) → IsWanted at.counts d k → at_place new now (place at.counts k) ≡ at_place ring pool (place at.counts k)
wanted_kept size at ring new pool mid now n w copy can r there wrote d k wanted =
    ap (λ (o : Option ℕ). block_at now (number_of o)) same_cell ∙ untouched (cell ring (place at.counts k)) refl (copy.filled k (wanted_held at.counts d k w wanted)) where
      away : place at.counts k ≢ place at.counts at.counts.read
      away =
          let least = fewest_le at.counts.live at.counts.written at.counts.read d (omega (arith, w.eight_live, w.eight_written)) wanted.live in
          let not_yet = wanted.not_yet in
          let room = can.room in
          places_apart k at.counts.read at.counts.slots w.some_slot wanted.read (omega (arith, least, not_yet, room))

      same_cell : cell new (place at.counts k) ≡ cell ring (place at.counts k)
      same_cell = r.others (place at.counts k) away

      untouched : (o : Option ℕ) → cell ring (place at.counts k) ≡ o → is_some o ≡ true → block_at now (number_of (cell ring (place at.counts k))) ≡ block_at pool (number_of (cell ring (place at.counts k)))
      untouched None here is = absurd (cc is)
      untouched (Some m) here is = ap (λ (o : Option ℕ). block_at now (number_of o)) here ∙ kept m (λ same. away (r.owns.apart (place at.counts k) (place at.counts at.counts.read) n (same_cell ∙ here ∙ ap Some same) there))
          ∙ ap (λ (o : Option ℕ). block_at pool (number_of o)) (sym here) where
            kept : (m : ℕ) → m ≢ n → block_at now m ≡ block_at pool m
            kept m differ = ap (λ (p : PoolState). block_at p m) wrote ∙ get_or-set_other mid.blocks n m (block_at now n) [] differ ∙ ap (λ (bs : List (List ℕ)). slice_index_or bs m []) r.blocks

-- a block that is written stays lent, and so do the others
pub owns_written : (ring : List (Option ℕ)) (mid now : PoolState) (n : ℕ) → now ≡ with_block mid n (block_at now n) → Owns ring mid → Owns ring now
owns_written ring mid now n wrote owns = record {
  lent = λ i m at. ap (λ (p : PoolState). is_lent p m) wrote ∙ owns.lent i m at;
  apart = owns.apart;
}

-- a copy that differs in nothing of them holds the same blocks
pub holds_as : (old new : FileCopy) (pool : PoolState) (xs : List ℕ) → new.size ≡ old.size → new.ring ≡ old.ring → new.window.counts ≡ old.window.counts → HoldsBlocks old pool xs → HoldsBlocks new pool xs
holds_as old new pool xs size ring counts holds = record {
  slot = holds.slot;
  lent = λ d k wanted. holds.lent d k (was d k wanted);
  taken = λ d k wanted. let t = holds.taken d k (was d k wanted) in (t.0, ap (λ (r : Ring). cell r.slots t.0) ring ∙ t.1);
  block = λ d k wanted. ap (λ n. take (block_len n k) (block_at pool (holds.slot k))) size ∙ holds.block d k (was d k wanted);
  apart = λ d e k j one two. holds.apart d e k j (was d k one) (was e j two);
} where
  was : (d k : ℕ) → IsWanted new.window.counts d k → IsWanted old.window.counts d k
  was d k wanted = subst (λ (c : Counts). IsWanted c d k) counts wanted
