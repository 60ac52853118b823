-- What a copy knows of its blocks and parts stays true where both stay; and what its own calls leave.
use Rattle.std.proofs.Common.{◌≡◌, ◌≢◌, inl, inr, ℕ, ◌≤◌, Bool, true, false, List, [], ◌∷◌, ◌++◌, take, refl, sym, ap, ◌∙◌, arith, append-nil}
use Rattle.std.proofs.lemmas.Bool.{false≢true}
use Rattle.std.proofs.lemmas.Bool.Decides.{nat_tests}
use Rattle.std.specs.Prelude.{Option, Some, None, is_some, cond}
use Rattle.std.specs.FinMap.{get}
use Rattle.bay_core.specs.declared.event.Event.{Event}
use Rattle.bay_core.specs.declared.event.Event.TheVariants.{Pick, SourceRead, DriveRead, Write as Writes}
use Rattle.bay_core.specs.Map.{Map, content, overwritten}
use Rattle.bay_core.specs.Paths.{part_path}
use Rattle.bay_core.specs.Replay.{Device, Source, Drive, device_of, is_on, reads, changed, replayed, calls_on}
use Rattle.bay_core.specs.Went.{AllOn, Went}
use Rattle.bay_core.specs.World.{World}
use Rattle.bay_core.proofs.Honesty.{honest_before}
use Rattle.bay_core.proofs.Maps.{insert_other}
use Rattle.bay_core.proofs.Replays.{reads-append}
use Rattle.bay_core.proofs.Runs.{told_since}
use Rattle.block_pool.specs.Lent.{PoolState, block_at, LendsOut, TakesBack}
use Rattle.fan_core.specs.Flags.{has}
use Rattle.fan_copier.specs.declared.copy.FileCopy.{FileCopy}
use Rattle.fan_copier.specs.Copying.{live_of, slots_of, slots_at_most, Copying, PartBegins, NoPart}
use Rattle.fan_copier.specs.Keeping.{ReadsSame, KeepsBlocks, KeepsTheRest}
use Rattle.fan_copier.specs.Passed.{is_card, card_calls}
use Rattle.fan_copier.specs.Ring.{cell, taken}
use Rattle.fan_copier.specs.Standing.{number_of, at_place, place, block_len}
use Rattle.fan_copier.specs.Turning.{Touches, IsCopyCall, AreCopyCalls}
use Rattle.fan_copier.proofs.Leaving.{on_copy}
use Rattle.fan_copier.proofs.Parts.{AllQuiet, earlier}
use Rattle.fan_copier.proofs.Passing.{card_append}
use Rattle.fan_copier.proofs.Rings.{taken_most}

-- the block at a place that has a slot
at_same : (ring : List (Option ℕ)) (pool after : PoolState) (i : ℕ) → is_some (cell ring i) ≡ true → ((n : ℕ) → cell ring i ≡ Some n → block_at after n ≡ block_at pool n) → at_place ring after i ≡ at_place ring pool i
at_same ring pool after i some same = by (cell ring i) refl
  where
    by : (o : Option ℕ) → cell ring i ≡ o → at_place ring after i ≡ at_place ring pool i
    by None is = absurd (false≢true (sym (ap is_some is) ∙ some))
    by (Some n) is = ap (λ (o : Option ℕ). block_at after (number_of o)) is ∙ same n is ∙ ap (λ (o : Option ℕ). block_at pool (number_of o)) (sym is)

part_stays : (d size : ℕ) (w after : World) (bytes : List ℕ) → ReadsSame d w after → PartBegins d size w bytes → PartBegins d size after bytes
part_stays d size w after bytes same part = λ m L h.
    let b = same.back m L h in
    let p = part m b.0 b.1 in
    (p.0, ap (λ (n : Map). get n part_path) b.2 ∙ p.1, p.2)

no_part_stays : (d : ℕ) (w after : World) → ReadsSame d w after → NoPart d w → NoPart d after
no_part_stays d w after same none = λ m L h.
    let b = same.back m L h in
    ap (λ (n : Map). get n part_path) b.2 ∙ none m b.0 b.1

-- what a copy knows, where its drives read as before and its blocks have the same bytes
pub copying_stays : (copy : FileCopy) (pool after : PoolState) (w new : World) (bytes : List ℕ) → KeepsBlocks (slots_of copy) pool after → ((d : ℕ) → has (live_of copy) d ≡ true → ReadsSame d w new) → Copying copy pool w bytes → Copying copy after new bytes
copying_stays copy pool after w new bytes blocks same c = record {
  has = record {
    fed = c.has.fed;
    so_far = c.has.so_far;
    block = λ k held.
        let i = place copy.window.counts k in
        ap (take (block_len copy.size k)) (at_same copy.ring.slots pool after i (copy.keeps.filled k held) (λ n is. blocks.same i n is)) ∙ c.has.block k held;
  };
  parts = record {
    part = λ d live done. part_stays d copy.size w new _ (same d live) (c.parts.part d live done);
    no_part = λ d piece. no_part_stays d w new (same d (copy.keeps.pieces_live d piece)) (c.parts.no_part d piece);
  };
}

-- a block that is lent, or taken back, leaves all bytes
pub lent_blocks : (ring : List (Option ℕ)) (n : ℕ) (old new : PoolState) → LendsOut n old new → KeepsBlocks ring old new
lent_blocks ring n old new t = record { same = λ i k is. ap (λ (p : PoolState). block_at p k) t.is }

pub back_blocks : (ring : List (Option ℕ)) (n : ℕ) (old new : PoolState) → TakesBack n old new → KeepsBlocks ring old new
back_blocks ring n old new t = record { same = λ i k is. ap (λ (p : PoolState). block_at p k) t.is }

-- a copy has no more slots than it may
pub slots_few : (copy : FileCopy) → taken (slots_of copy) ≤ slots_at_most copy
slots_few copy = taken_most copy.ring.slots copy.window.counts.slots copy.keeps.outside

quiet_off : {On : Device → Type 0} (d : ℕ) → ((x : Device) → On x → is_on d x ≡ false) → (A : List Event) → AllOn On A → AllQuiet d A
unfolding AllOn AllQuiet
quiet_off d off [] on = tt
quiet_off d off (e ∷ A) on = (inl (off (device_of e) on.0), quiet_off d off A on.1)

-- a drive that no call is on reads as before
pub same_elsewhere : {On : Device → Type 0} {P : List Event → Type 0} {old new : World} (d : ℕ) → ((x : Device) → On x → is_on d x ≡ false) → Went On P old new → ReadsSame d old new
same_elsewhere d off w = record { back = λ m L h. let b = earlier d m L (λ A on such. quiet_off d off A on) w h in (b.before, b.honest, b.same) }

pub same_world : (d : ℕ) (w : World) → ReadsSame d w w
same_world d w = record { back = λ m L h. (L, h, refl) }

-- a call of a copy changes the part alone
changed_beside : (s : ℕ) (path : List ℕ) (m : Map) (e : Event) (q : List ℕ) → (q ≡ part_path → ⊥) → IsCopyCall s path e → get (changed m e) q ≡ get m q
changed_beside s path m (Pick p) q off is = refl
changed_beside s path m (SourceRead n read at want got) q off is = refl
changed_beside s path m (DriveRead n read at want got) q off is = refl
changed_beside s path m (Writes n written at bytes true) q off is = insert_other m written (overwritten (content m written) at bytes) q (λ e. off (e ∙ is))
changed_beside s path m (Writes n written at bytes false) q off is = refl
changed_beside s path m e q off is = absurd is

replayed_beside : (s : ℕ) (path : List ℕ) (L : List Event) (m : Map) (q : List ℕ) → (q ≡ part_path → ⊥) → AreCopyCalls s path L → get (replayed m L) q ≡ get m q
unfolding AreCopyCalls
replayed_beside s path [] m q off are = refl
replayed_beside s path (e ∷ L) m q off are = replayed_beside s path L (changed m e) q off are.1 ∙ changed_beside s path m e q off are.0

-- another device than those of a copy
off_drive : (s : ℕ) (live : List Bool) (d : ℕ) → has live d ≡ false → (x : Device) → Touches s live x → is_on d x ≡ false
off_drive s live d out x (inl card) = ap (is_on d) card
off_drive s live d out x (inr (inl pick)) = ap (is_on d) pick
off_drive s live d out x (inr (inr (e, there, drive))) = ap (is_on d) drive ∙ differ (λ same. false≢true (sym out ∙ ap (has live) same ∙ there)) where
  differ : d ≢ e → is_on d (Drive e) ≡ false
  differ ne = grind (arith, nat_tests)

off_card : (s : ℕ) (live : List Bool) (e : ℕ) → e ≢ s → (x : Device) → Touches s live x → is_card e x ≡ false
off_card s live e other x (inl card) = ap (is_card e) card ∙ differ other where
  differ : e ≢ s → is_card e (Source s) ≡ false
  differ ne = grind (arith, nat_tests)
off_card s live e other x (inr (inl pick)) = ap (is_card e) pick
off_card s live e other x (inr (inr (d, there, drive))) = ap (is_card e) drive

-- no call on a card
no_card_calls : {On : Device → Type 0} (e : ℕ) → ((x : Device) → On x → is_card e x ≡ false) → (L : List Event) → AllOn On L → card_calls e L ≡ []
unfolding AllOn
no_card_calls e off [] on = refl
no_card_calls e off (c ∷ L) on = ap (λ b. cond b (c ∷ card_calls e L) (card_calls e L)) (off (device_of c) on.0) ∙ no_card_calls e off L on.1

-- what the calls of a copy leave
pub copy_keeps : (s : ℕ) (live : List Bool) (path : List ℕ) (old new : World) → Went (Touches s live) (AreCopyCalls s path) old new → KeepsTheRest s live old new
copy_keeps s live path old new w = record {
  drives = λ d out. same_elsewhere d (off_drive s live d out) w;
  beside = λ d. record {
    back = λ m L h.
        let b = honest_before d m L w h in
        let t = told_since w b.0 L b.1.events h.events in (
          b.0,
          b.1,
          λ q off. ap (λ (K : List Event). get (reads m K d) q) t.is ∙ ap (λ (n : Map). get n q) (reads-append m b.0 t.since d)
              ∙ replayed_beside s path (calls_on d t.since) (reads m b.0 d) q off (on_copy s path d t.since t.such),
        );
  };
  cards = λ before all was now e other.
      let t = told_since w before all was now in
      ap (card_calls e) t.is ∙ card_append e before t.since ∙ ap (λ (K : List Event). card_calls e before ++ K) (no_card_calls e (off_card s live e other) t.since t.on) ∙ append-nil (card_calls e before);
}
