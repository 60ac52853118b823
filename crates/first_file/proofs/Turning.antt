-- A copy between two turns.
use Rattle.std.proofs.Common.{◌≡◌, ◌≢◌, ℕ, List, [], ◌++◌, length, Bool, true, refl, sym, ap, ◌∙◌, subst, arith}
use Rattle.std.proofs.lemmas.List.{take_all}
use Rattle.bay_core.specs.Map.{Map, content}
use Rattle.bay_core.specs.Replay.{Device, Source, Drive}
use Rattle.bay_core.specs.World.{World, Rose, Steady}
use Rattle.bay_core.specs.Went.{Went}
use Rattle.bay_core.proofs.Runs.{went_none, went_such, went_then, rose_since}
use Rattle.block_pool.specs.Lent.{PoolState}
use Rattle.fan_copier.specs.declared.copy.FileCopy.{FileCopy}
use Rattle.fan_copier.specs.Copying.{card_of, size_of, live_of, Copying}
use Rattle.fan_copier.specs.Reads.{AreAt}
use Rattle.fan_copier.specs.Standing.{Standing}
use Rattle.fan_copier.specs.Turning.{Doing, StandsAfter, Touches, AreCopyCalls, Turned}
use Rattle.fan_copier.specs.declared.turn.Turn.TheVariants.{Going, Copied, Changed}
use Rattle.fan_core.specs.Flags.{has}
use Rattle.digest_set.specs.declared.triple.Triple.{Triple}
use Rattle.fan_copier.proofs.Following.{more_at, changed_other}
use Rattle.fan_copier.proofs.Reading.{steady_still}
use Rattle.first_file.specs.Copied.{IsCopied}
use Rattle.fan_copier.proofs.Leaving.{copy_calls_append, no_copy_calls}
use Rattle.fan_copier.proofs.Turns.{at_none}

-- a copy that began in another world, and was given these bytes since
pub record OnTheWay (s size : ℕ) (live : List Bool) (path : List ℕ) (before after : World) (copy : FileCopy) (pool : PoolState) : Type 0 where
  pub source : card_of copy ≡ s
  pub sized : size_of copy ≡ size
  pub drives : live_of copy ≡ live
  pub touches : Went (Touches s live) (AreCopyCalls s path) before after
  pub bytes : List ℕ
  pub copying : Copying copy pool after bytes
  pub card : (m : Map) → Steady before s m → AreAt (content m path) 0 bytes

pub at_begin : (path : List ℕ) (copy : FileCopy) (pool : PoolState) (w : World) → Copying copy pool w [] → OnTheWay (card_of copy) (size_of copy) (live_of copy) path w w copy pool
at_begin path copy pool w copying = record {
  source = refl;
  sized = refl;
  drives = refl;
  touches = went_such (λ L none. subst (λ K. AreCopyCalls (card_of copy) path K) (sym none) (no_copy_calls (card_of copy) path)) (went_none _ _);
  bytes = [];
  copying = copying;
  card = λ m steady. at_none (content m path) 0;
}

module _ (s size : ℕ) (live : List Bool) (path : List ℕ) (before mid after : World) (old : FileCopy) (pool : PoolState) (way : OnTheWay s size live path before mid old pool) where
  -- all calls so far and in a turn
  pub all_touches : Went (Touches (card_of old) (live_of old)) (AreCopyCalls (card_of old) path) mid after → Went (Touches s live) (AreCopyCalls s path) before after
  all_touches t =
      let here = subst (λ k. Went (Touches k (live_of old)) (AreCopyCalls k path) mid after) way.source t in
      let set = subst (λ l. Went (Touches s l) (AreCopyCalls s path) mid after) way.drives here in
      went_such (λ L j. subst (λ K. AreCopyCalls s path K) (sym j.is) (copy_calls_append s path j.first j.second j.here j.there)) (went_then way.touches set)

  -- a drive of the copy is still one
  pub live_still : (d : ℕ) → has live d ≡ true → has (live_of old) d ≡ true
  live_still d there = ap (λ (set : List Bool). has set d) way.drives ∙ there

  -- a device whose count rose in the turn
  pub rose_before : (x : Device) → Rose (mid.faults x) (after.faults x) → Rose (before.faults x) (after.faults x)
  rose_before x rose = rose_since x (after.faults x) way.touches rose

  pub card_rose : Rose (mid.faults (Source (card_of old))) (after.faults (Source (card_of old))) → Rose (before.faults (Source s)) (after.faults (Source s))
  card_rose rose = rose_before (Source s) (subst (λ k. Rose (mid.faults (Source k)) (after.faults (Source k))) way.source rose)

  -- a drive that was dropped is one of the copy
  pub drive_rose : (d : ℕ) → has (live_of old) d ≡ true → Rose (mid.faults (Drive d)) (after.faults (Drive d)) → (e : ℕ) × (has live e ≡ true) × Rose (before.faults (Drive e)) (after.faults (Drive e))
  drive_rose d there rose = (d, ap (λ (set : List Bool). has set d) (sym way.drives) ∙ there, rose_before (Drive d) rose)

  -- another length
  pub other_length : (at now : Standing) (did : Doing) (listed read : ℕ) → StandsAfter (size_of old) at now did (Changed listed read) → (listed ≡ size) × (read ≢ size)
  other_length at now did listed read stands = let c = changed_other (size_of old) at now did listed read stands in (c.0 ∙ way.sized, λ is. c.1 (is ∙ sym way.sized))

module _ (s size : ℕ) (live : List Bool) (path : List ℕ) (before mid after : World) (old new : FileCopy) (pool now : PoolState) (way : OnTheWay s size live path before mid old pool) where
  steady_here : (m : Map) → Steady before s m → Steady mid (card_of old) m
  steady_here m steady = subst (λ k. Steady mid k m) (sym way.source) (steady_still s m way.touches steady)

  -- a turn after which the copy goes on
  pub goes_on : Went (Touches (card_of old) (live_of old)) (AreCopyCalls (card_of old) path) mid after → card_of new ≡ card_of old → size_of new ≡ size_of old → live_of new ≡ live_of old → Turned path old new now mid after way.bytes Going
      → OnTheWay s size live path before after new now
  goes_on touches source sized drives t = record {
    source = source ∙ way.source;
    sized = sized ∙ way.sized;
    drives = drives ∙ way.drives;
    touches = all_touches s size live path before mid after old pool way touches;
    bytes = way.bytes ++ t.given;
    copying = t.came;
    card = λ m steady. more_at (content m path) way.bytes t.given (way.card m steady) (t.card m (steady_here m steady));
  }

  -- the turn in which it ends well
  pub ends_well : (digests : Triple) → Turned path old new now mid after way.bytes (Copied digests) → (d : ℕ) → has live d ≡ true → IsCopied s d path size digests before after
  ends_well digests t d there = record {
    bytes = way.bytes;
    sized = t.came.1 ∙ way.sized;
    digests_are = t.came.2;
    part = t.came.3 d (ap (λ (set : List Bool). has set d) way.drives ∙ there);
    card = λ m steady.
        let short = t.card m (steady_here m steady) in
        let long = t.came.1 in
        sym (way.card m steady ∙ take_all (length way.bytes) (content m path) (omega (arith, long, short)));
  }
