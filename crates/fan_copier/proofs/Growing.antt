-- How a copy grows, and what is always so of it.
use Rattle.std.proofs.Common.{◌≡◌, ◌≢◌, ◌⊎◌, inl, inr, ℕ, zero, suc, ◌+◌, ◌*◌, ◌/◌, ◌%◌, ◌≤◌, ◌<◌, min, Bool, true, false, List, [], ◌∷◌, ◌++◌, length, take, drop, slice_index, slice_index_or, slice_set, refl, sym, ◌∙◌, ap, subst, arith, length-append, length-drop, get_or-set_other}
use Rattle.std.proofs.lemmas.Bool.{cases_eq}
use Rattle.std.proofs.lemmas.List.{take-append-le, drop-append-le, take_all}
use Rattle.std.proofs.Math.Seq.{drop-append_seam}
use Rattle.std.proofs.Math.Nat.{mul-le-mul_left}
use Rattle.std.specs.Prelude.{Option, Some, None, is_some}
use Rattle.block_pool.specs.Lent.{PoolState, block_at}
use Rattle.block_pool.specs.Lending.{with_block}
use Rattle.digest_set.specs.Fed.{AllFed, Md5Fed, Sha1Fed, XxhFed}
use Rattle.fan_core.specs.declared.counts.Counts.{Counts}
use Rattle.fan_core.specs.Flags.{has, lowest}
use Rattle.fan_core.specs.Next.{IsWindow, waiting}
use Rattle.fan_core.proofs.Rules.{fewest_le, none_lowest}
use Rattle.fan_core.proofs.Keeps.{waits}
use Rattle.fan_copier.specs.declared.copy.FileCopy.{FileCopy}
use Rattle.fan_copier.specs.declared.ring.Ring.{Ring}
use Rattle.fan_copier.specs.Ring.{cell, Readies}
use Rattle.fan_copier.specs.Standing.{Standing, blocks_of, block_len, block_of, place, number_of, at_place, IsHeld, IsCopy}
use Rattle.fan_copier.specs.Copying.{Has}
use Rattle.fan_copier.specs.Turning.{with_read, next_block}

pub block_within : (size k : ℕ) → k < blocks_of size → k * 65536 < size
block_within size k below = omega (arith, below)

-- places of blocks that are held at once differ
pub places_apart : (k r s : ℕ) → 1 ≤ s → k < r → r + 1 ≤ k + s → k % s ≢ r % s
places_apart k r s some below near same = elim (le_or_more (r / s) (k / s)) [
  | inl less ↦ absurd (let p = times s (r / s) (k / s) less in omega (arith, p, same, below, some))
  | inr more ↦ absurd (let p = times s (k / s + 1) (r / s) more in let q = one_more s (k / s) in omega (arith, p, q, same, near, some))
] where
  le_or_more : (a b : ℕ) → (a ≤ b) ⊎ (b + 1 ≤ a)
  le_or_more a b = grind arith

  times : (s a b : ℕ) → a ≤ b → s * a ≤ s * b
  times s a b le = mul-le-mul_left s le

  one_more : (s a : ℕ) → s * (a + 1) ≡ s * a + s
  one_more s a = grind arith

-- the block that a waiting drive gets next is held
pub next_held : (c : Counts) → IsWindow c → (d : ℕ) → has (waiting c) d ≡ true → IsHeld c (slice_index c.written d)
next_held c w d wait =
    let v = waits c w d wait in
    let least = fewest_le c.live c.written c.read d (omega (arith, w.eight_live, w.eight_written)) v.live in
    record { read = v.below; near = let s = w.slots in omega (arith, s, least) }

-- it lies at its place
pub held_place : (size : ℕ) (at : Standing) (ring : List (Option ℕ)) → IsWindow at.counts → IsCopy size at ring → (d : ℕ) → has (waiting at.counts) d ≡ true → is_some (cell ring (place at.counts (slice_index at.counts.written d))) ≡ true
held_place size at ring w k d wait = k.filled (slice_index at.counts.written d) (next_held at.counts w d wait)

-- and within the file
pub waiting_within : (size : ℕ) (at : Standing) (ring : List (Option ℕ)) → IsWindow at.counts → IsCopy size at ring → (d : ℕ) → has (waiting at.counts) d ≡ true → slice_index at.counts.written d * 65536 < size
waiting_within size at ring w k d wait =
    let v = waits at.counts w d wait in
    block_within size (slice_index at.counts.written d) (let b = v.below in let r = w.within in let n = k.blocks in omega (arith, b, r, n))

pub keep_ready : (size : ℕ) (at : Standing) (ring new : List (Option ℕ)) (old now : PoolState) → 1 ≤ at.counts.slots → IsCopy size at ring → Readies (place at.counts at.counts.read) ring new old now → IsCopy size at new
keep_ready size at ring new old now some k r = record {
  small = k.small;
  blocks = k.blocks;
  slots = k.slots;
  pieces_live = k.pieces_live;
  pieces_first = k.pieces_first;
  filled = λ b held. elim (cases_eq (place at.counts b) (place at.counts at.counts.read)) [
    | inl here ↦ ap (λ i. is_some (cell new i)) here ∙ r.there
    | inr there ↦ ap (λ (o : Option ℕ). is_some o) (r.others (place at.counts b) there) ∙ k.filled b held
  ];
  outside = λ i above. ap (λ (o : Option ℕ). is_some o) (r.others i (λ is. absurd (let s : at.counts.read % at.counts.slots < at.counts.slots = omega (arith, some) in omega (arith, is, above, s)))) ∙ k.outside i above;
}

pub keep_read : (size : ℕ) (at : Standing) (ring : List (Option ℕ)) → IsCopy size at ring → lowest at.pieces ≡ None → is_some (cell ring (place at.counts at.counts.read)) ≡ true → IsCopy size (with_read at) ring
keep_read size at ring k none there = record {
  small = k.small;
  blocks = k.blocks;
  slots = k.slots;
  pieces_live = k.pieces_live;
  pieces_first = λ d is. absurd (cc (sym is ∙ none_lowest at.pieces none d));
  filled = λ b held. elim (cases_eq b at.counts.read) [
    | inl here ↦ ap (λ n. is_some (cell ring (place at.counts n))) here ∙ there
    | inr apart ↦ k.filled b (let below = held.read in let near = held.near in record { read = omega (arith, below, apart); near = omega (arith, near) })
  ];
  outside = k.outside;
}

-- the bytes at the place of the block that was read
pub next_is : (size want : ℕ) (c : Counts) (ring : List (Option ℕ)) (pool : PoolState) (n : ℕ) → want ≡ block_len size c.read → cell ring (place c c.read) ≡ Some n → take want (block_at pool n) ≡ next_block size c ring pool
next_is size want c ring pool n len at = (λ i. take (len i) (block_at pool (number_of (sym at i))))

-- blocks of bytes that grew
pub block_before : (xs ys : List ℕ) (k : ℕ) → k * 65536 + 65536 ≤ length xs → block_of (xs ++ ys) k ≡ block_of xs k
block_before xs ys k fits =
    let start : k * 65536 ≤ length xs = omega (arith, fits) in
    ap (take 65536) (drop-append-le (k * 65536) xs ys start) ∙ take-append-le 65536 (drop (k * 65536) xs) ys (let n = length-drop (k * 65536) xs in omega (arith, n, fits))

pub block_after : (xs ys : List ℕ) (k : ℕ) → length xs ≡ k * 65536 → length ys ≤ 65536 → block_of (xs ++ ys) k ≡ ys
block_after xs ys k at few = ap (λ n. take 65536 (drop n (xs ++ ys))) (sym at) ∙ ap (take 65536) (drop-append_seam xs ys) ∙ take_all 65536 ys few

-- the parts of what a copy has, by plain values
pub record HasAll (size : ℕ) (c : Counts) (ring : List (Option ℕ)) (pool : PoolState) (xs : List ℕ) : Type 0 where
  pub so_far : length xs ≡ min size (c.read * 65536)
  pub block : (k : ℕ) → IsHeld c k → take (block_len size k) (at_place ring pool (place c k)) ≡ block_of xs k

-- a block more
pub has_more : (size : ℕ) (at : Standing) (ring new : List (Option ℕ)) (pool mid now : PoolState) (n : ℕ) (xs : List ℕ) → 1 ≤ at.counts.slots → IsCopy size at ring → at.counts.read < at.counts.blocks
    → Readies (place at.counts at.counts.read) ring new pool mid → cell new (place at.counts at.counts.read) ≡ Some n → now ≡ with_block mid n (block_at now n)
    → length (next_block size at.counts new now) ≡ block_len size at.counts.read → HasAll size at.counts ring pool xs → HasAll size (with_read at).counts new now (xs ++ next_block size at.counts new now)
has_more size at ring new pool mid now n xs some k more r there wrote len has = record {
  so_far = let a = length-append xs (next_block size at.counts new now) in let h = has.so_far in omega (arith, a, h, len, full);
  block = λ b held. elim (cases_eq b at.counts.read) [
    | inl here ↦ ap (λ m. take (block_len size m) (at_place new now (place at.counts m))) here ∙ sym (block_after xs (next_block size at.counts new now) at.counts.read length_is (omega (arith, len)))
        ∙ ap (block_of (xs ++ next_block size at.counts new now)) (sym here)
    | inr apart ↦
        let below = held.read in
        let near = held.near in
        let b_below : b < at.counts.read = omega (arith, below, apart) in
        let held_then : IsHeld at.counts b = record { read = b_below; near = omega (arith, near) } in
        let away : place at.counts b ≢ place at.counts at.counts.read = places_apart b at.counts.read at.counts.slots some b_below near in
        let same_cell = r.others (place at.counts b) away in
        let blocks_same : at_place new now (place at.counts b) ≡ at_place ring pool (place at.counts b) = ap (λ (o : Option ℕ). block_at now (number_of o)) same_cell ∙ untouched (place at.counts b) (cell ring (place at.counts b)) refl away (k.filled b held_then) in
        ap (take (block_len size b)) blocks_same ∙ has.block b held_then ∙ sym (block_before xs (next_block size at.counts new now) b (omega (arith, b_below, length_is)))
  ];
} where
  full : at.counts.read * 65536 < size
  full = block_within size at.counts.read (let m = k.blocks in omega (arith, more, m))

  length_is : length xs ≡ at.counts.read * 65536
  length_is = let h = has.so_far in omega (arith, h, full)

  other_number : (i m : ℕ) → i ≢ place at.counts at.counts.read → cell ring i ≡ Some m → m ≢ n
  other_number i m away here same = away (r.owns.apart i (place at.counts at.counts.read) n (r.others i away ∙ here ∙ ap Some same) there)

  kept : (m : ℕ) → m ≢ n → block_at now m ≡ block_at pool m
  kept m differ = ap (λ (p : PoolState). block_at p m) wrote ∙ get_or-set_other mid.blocks n m (block_at now n) [] differ ∙ ap (λ (bs : List (List ℕ)). slice_index_or bs m []) r.blocks

  untouched : (i : ℕ) (o : Option ℕ) → cell ring i ≡ o → i ≢ place at.counts at.counts.read → is_some o ≡ true → block_at now (number_of (cell ring i)) ≡ block_at pool (number_of (cell ring i))
  untouched i None here away is = absurd (cc is)
  untouched i (Some m) here away is = ap (λ (o : Option ℕ). block_at now (number_of o)) here ∙ kept m (other_number i m away here) ∙ ap (λ (o : Option ℕ). block_at pool (number_of o)) (sym here)

-- the bytes are the same where as many blocks are read and the held blocks are the same
pub has_same : (size : ℕ) (c now : Counts) (ring : List (Option ℕ)) (pool after : PoolState) (xs : List ℕ) → now.read ≡ c.read → now.slots ≡ c.slots → ((i n : ℕ) → cell ring i ≡ Some n → block_at after n ≡ block_at pool n)
    → ((k : ℕ) → IsHeld c k → is_some (cell ring (place c k)) ≡ true) → HasAll size c ring pool xs → HasAll size now ring after xs
has_same size c now ring pool after xs read slots kept filled had = record {
  so_far = had.so_far ∙ ap (λ n. min size (n * 65536)) (sym read);
  block = λ b held.
      let below = held.read in
      let near = held.near in
      let then : IsHeld c b = record { read = omega (arith, below, read); near = omega (arith, near, read, slots) } in
      ap (λ n. take (block_len size b) (at_place ring after (b % n))) slots ∙ ap (take (block_len size b)) (same (cell ring (place c b)) (place c b) refl (filled b then)) ∙ had.block b then;
} where
  same : (o : Option ℕ) (i : ℕ) → cell ring i ≡ o → is_some o ≡ true → at_place ring after i ≡ at_place ring pool i
  same None i here is = absurd (cc is)
  same (Some n) i here is = ap (λ (o : Option ℕ). block_at after (number_of o)) here ∙ kept i n here ∙ ap (λ (o : Option ℕ). block_at pool (number_of o)) (sym here)

-- what is written is the block of the bytes read
pub written_bytes : (size : ℕ) (at : Standing) (ring : List (Option ℕ)) (pool : PoolState) (xs : List ℕ) → IsWindow at.counts → IsCopy size at ring → HasAll size at.counts ring pool xs
    → (d : ℕ) → has (waiting at.counts) d ≡ true → (b len n m : ℕ) → b ≡ slice_index at.counts.written d → len ≡ block_len size b → n ≡ at.counts.slots → cell ring (b % n) ≡ Some m → take len (block_at pool m) ≡ block_of xs b
written_bytes size at ring pool xs w k had d wait b len n m next len_is slots there =
    let h = next_held at.counts w d wait in
    let below = h.read in
    let near = h.near in
    let here : cell ring (place at.counts b) ≡ Some m = ap (λ i. cell ring (b % i)) (sym slots) ∙ there in
    (λ i. take (len_is i) (block_at pool (number_of (sym here i)))) ∙ had.block b (record { read = omega (arith, below, next); near = omega (arith, near, next) })

pub of_has : (copy : FileCopy) (pool : PoolState) (xs : List ℕ) → Has copy pool xs → HasAll copy.size copy.window.counts copy.ring.slots pool xs
of_has copy pool xs has = record { so_far = has.so_far; block = has.block }

-- a number that was left out is not in the set
pub left_out : (set : List Bool) (d : ℕ) → has (slice_set set d false) d ≡ false
left_out [] d = refl
left_out (x ∷ set) zero = refl
left_out (x ∷ set) (suc d) = left_out set d

-- the bytes are the same where nothing of them changed
pub has_as : (old new : FileCopy) (pool : PoolState) (xs : List ℕ) → new.size ≡ old.size → new.ring ≡ old.ring → new.run ≡ old.run → new.window.counts.read ≡ old.window.counts.read → new.window.counts.slots ≡ old.window.counts.slots → Has old pool xs → Has new pool xs
has_as old new pool xs size ring run read slots had =
    let now = has_same old.size old.window.counts new.window.counts old.ring.slots pool pool xs read slots (λ i n there. refl) (old.keeps.filled) (of_has old pool xs had) in
    let sized = subst (λ n. HasAll n new.window.counts old.ring.slots pool xs) (sym size) now in
    let ringed = subst (λ (r : Ring). HasAll new.size new.window.counts r.slots pool xs) (sym ring) sized in
    record { fed = subst (λ r. AllFed Md5Fed Sha1Fed XxhFed r xs) (sym run) had.fed; so_far = ringed.so_far; block = ringed.block }
