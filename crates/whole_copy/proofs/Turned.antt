-- What is so of a copy between two of its turns.
use Rattle.std.proofs.Common.{◌≡◌, ◌⊎◌, inl, inr, ℕ, ◌+◌, ◌≤◌, ◌<◌, Bool, true, false, List, [], ◌∷◌, ◌++◌, length, refl, sym, ◌∙◌, ap, subst, arith, length-append, append-nil}
use Rattle.std.specs.Prelude.{None}
use Rattle.bay_core.specs.Replay.{Source, Drive}
use Rattle.bay_core.specs.Map.{Map, content}
use Rattle.bay_core.specs.World.{World, Rose, Steady}
use Rattle.bay_core.specs.Went.{Went}
use Rattle.bay_core.proofs.Runs.{went_none, went_such, went_then, went_on, rose_still, rose_since}
use Rattle.block_pool.specs.Lent.{PoolState}
use Rattle.digest_set.specs.declared.triple.Triple.{Triple}
use Rattle.digest_set.specs.Triple.{triple}
use Rattle.fan_core.specs.Flags.{has, lowest}
use Rattle.fan_copier.specs.declared.copy.FileCopy.{FileCopy}
use Rattle.fan_copier.specs.declared.turn.Turn.{Turn}
use Rattle.fan_copier.specs.declared.turn.Turn.TheVariants.{Going, Dropped, Copied, SourceFailed, Changed, NoDrive}
use Rattle.fan_copier.specs.Standing.{Standing}
use Rattle.fan_copier.specs.Copying.{standing, Copying, PartIs}
use Rattle.fan_copier.specs.Reads.{AreAt}
use Rattle.fan_copier.proofs.Reading.{steady_still}
use Rattle.fan_copier.proofs.Turns.{at_none}
use Rattle.std.proofs.lemmas.List.{take_all}
use Rattle.fan_copier.specs.Passed.{card_calls}
use Rattle.fan_copier.specs.Turning.{doing, StandsAfter, TurnCalls, Touches, AreCopyCalls, CameTo, CardHas, GoOn, Turned, turns_left}
use Rattle.fan_copier.proofs.Leaving.{copy_calls_append, no_copy_calls}
use Rattle.fan_copier.proofs.Passing.{card_append}
use Rattle.fan_copier.specs.Follows.{OneTurn, FollowsWindow, given_in, stands_after, GoesOn, AllGoOn, EndsAtSize, EndedAs, CardIs, CopyEnded}
use Rattle.fan_copier.proofs.Ordering.{ReadsFrom, order_append, order_none, order_in, turn_order, turn_past, past_more}
use Rattle.fan_copier.proofs.Following.{given_more, stands_more, go_on_more, last_more, follows_none, follows_more, some_live, widen, more_at, reads_at, ends_at, this_turn, on_card, changed_other}

-- the turns so far of a copy that stood there with these drives, over which it came to these worlds
pub record SoFar (s : ℕ) (path : List ℕ) (size : ℕ) (at : Standing) (before after : World) (copy : FileCopy) (pool : PoolState) : Type 0 where
  pub turns : List OneTurn
  pub on : AllGoOn turns
  pub calls : Went (Touches s at.counts.live) (FollowsWindow s path size at [] turns) before after
  pub once : Went (Touches s at.counts.live) (λ L. ReadsFrom s path 0 (length (given_in turns)) (card_calls s L)) before after
  pub touches : Went (Touches s at.counts.live) (AreCopyCalls s path) before after
  pub stands : standing copy ≡ stands_after at turns
  pub few : length turns + turns_left (standing copy) ≤ turns_left at
  pub source : copy.source ≡ s
  pub size_is : copy.size ≡ size
  pub still : (d : ℕ) → has copy.window.counts.live d ≡ true → has at.counts.live d ≡ true
  pub dropped : (d : ℕ) → has at.counts.live d ≡ true → has copy.window.counts.live d ≡ false → Rose (before.faults (Drive d)) (after.faults (Drive d))
  pub copying : Copying copy pool after (given_in turns)
  pub card : (m : Map) → Steady before s m → AreAt (content m path) 0 (given_in turns)

-- before the first turn
pub so_far_none : (path : List ℕ) (copy : FileCopy) (pool : PoolState) (w : World) → Copying copy pool w [] → SoFar copy.source path copy.size (standing copy) w w copy pool
so_far_none path copy pool w copying = record {
  turns = [];
  on = tt;
  calls = went_such (λ L none. follows_none copy.source path copy.size (standing copy) [] L none) (went_none _ _);
  once = went_such (λ L none. order_none copy.source path 0 (card_calls copy.source L) (ap (card_calls copy.source) none)) (went_none _ _);
  touches = went_such (λ L none. subst (λ K. AreCopyCalls copy.source path K) (sym none) (no_copy_calls copy.source path)) (went_none _ _);
  stands = refl;
  few = omega arith;
  source = refl;
  size_is = refl;
  still = λ d live. live;
  dropped = λ d live out. absurd (cc (sym live ∙ out));
  copying = copying;
  card = λ m steady. at_none (content m path) 0;
}

either : (b : Bool) → (b ≡ true) ⊎ (b ≡ false)
either true = inl refl
either false = inr refl

module _ (s : ℕ) (path : List ℕ) (size : ℕ) (at : Standing) (before mid after : World) (old new : FileCopy) (pool now : PoolState) (r : Turn) (far : SoFar s path size at before mid old pool) (pick : ℕ) (given : List ℕ)
    (stands : StandsAfter size (standing old) (standing new) (doing (standing old) pick) r)
    (calls : Went (Touches s old.window.counts.live) (TurnCalls s path size (standing old) (standing new) (given_in far.turns) given (doing (standing old) pick) r) mid after)
    (touches : Went (Touches s old.window.counts.live) (AreCopyCalls s path) mid after)
    (card : (m : Map) → Steady mid old.source m → CardHas (content m path) old.size (given_in far.turns) given r) where
  abbrev now_turns : List OneTurn
  now_turns = far.turns ++ this_turn pick given r new ∷ []

  steady_mid : (m : Map) → Steady before s m → Steady mid old.source m
  steady_mid m steady = subst (λ n. Steady mid n m) (sym far.source) (steady_still s m far.touches steady)

  then_calls : Went (Touches s at.counts.live) (FollowsWindow s path size at [] now_turns) before after
  then_calls = went_such (λ L j. follows_more s path size at [] far.turns (this_turn pick given r new) j.first j.second L j.is j.here
      (subst (λ st. StandsAfter size st (standing new) (doing st pick) r) far.stands stands)
      (subst (λ st. TurnCalls s path size st (standing new) (given_in far.turns) given (doing st pick) r j.second) far.stands j.there))
      (went_then far.calls (went_on (widen s old.window.counts.live at.counts.live far.still) calls))

  -- the reads up to the end of this turn
  then_once : Went (Touches s at.counts.live) (λ L. (end : ℕ) × ReadsFrom s path 0 end (card_calls s L) × (GoesOn r → end ≡ length (given_in far.turns ++ given))) before after
  then_once = went_such (λ L j.
      let turn = turn_order s path size (standing old) (standing new) (given_in far.turns) given (doing (standing old) pick) r j.second (λ q is. reads_at old pool mid (given_in far.turns) pick q far.copying is)
      (λ q is. sym far.size_is ∙ ends_at old pool mid (given_in far.turns) pick q far.copying is) j.there in (
        turn.0,
        subst (λ K. ReadsFrom s path 0 turn.0 K) (sym (ap (card_calls s) j.is ∙ card_append s j.first j.second)) (order_append s path 0 (length (given_in far.turns)) turn.0 (card_calls s j.first) (card_calls s j.second) j.here turn.1),
        turn.2,
      )) (went_then far.once (went_on (widen s old.window.counts.live at.counts.live far.still) calls))

  -- where this turn ended the copy well, one byte was asked for last
  then_past : (digests : Triple) → r ≡ Copied digests → Went (Touches s at.counts.live) (λ L. EndsAtSize s path size (card_calls s L)) before after
  then_past digests is = went_such (λ L j. past_more s path size j.first j.second L j.is (turn_past s path size (standing old) (standing new) (given_in far.turns) given (doing (standing old) pick) digests j.second
      (subst (λ q. StandsAfter size (standing old) (standing new) (doing (standing old) pick) q) is stands)
      (subst (λ q. TurnCalls s path size (standing old) (standing new) (given_in far.turns) given (doing (standing old) pick) q j.second) is j.there)))
      (went_then far.calls (went_on (widen s old.window.counts.live at.counts.live far.still) calls))

  then_touches : Went (Touches s at.counts.live) (AreCopyCalls s path) before after
  then_touches = went_such (λ L j. subst (λ K. AreCopyCalls s path K) (sym j.is) (copy_calls_append s path j.first j.second j.here j.there)) (went_then far.touches (went_on (widen s old.window.counts.live at.counts.live far.still) touches))

  then_dropped : ((d : ℕ) → has old.window.counts.live d ≡ true → has new.window.counts.live d ≡ false → Rose (mid.faults (Drive d)) (after.faults (Drive d))) → (d : ℕ) → has at.counts.live d ≡ true → has new.window.counts.live d ≡ false → Rose (before.faults (Drive d)) (after.faults (Drive d))
  then_dropped dropped d was out = elim (either (has old.window.counts.live d)) [
    | inl live ↦ rose_since _ _ far.calls (dropped d live out)
    | inr gone ↦ rose_still _ _ calls (far.dropped d was gone)
  ]

  -- one turn more, after which the copy goes on
  pub so_far_more : GoesOn r → new.source ≡ s → new.size ≡ size → turns_left (standing new) < turns_left (standing old) → ((d : ℕ) → has new.window.counts.live d ≡ true → has old.window.counts.live d ≡ true)
      → ((d : ℕ) → has old.window.counts.live d ≡ true → has new.window.counts.live d ≡ false → Rose (mid.faults (Drive d)) (after.faults (Drive d))) → Copying new now after (given_in far.turns ++ given) → SoFar s path size at before after new now
  so_far_more on source size_is nearer still dropped copying =
      let all = given_more far.turns (this_turn pick given r new) in
      record {
        turns = now_turns;
        on = go_on_more far.turns (this_turn pick given r new) far.on on;
        calls = then_calls;
        once = went_such (λ L j. subst (λ n. ReadsFrom s path 0 n (card_calls s L)) (j.2 on ∙ ap (λ (l : List ℕ). length l) (sym all)) j.1) then_once;
        touches = then_touches;
        stands = sym (stands_more at far.turns (this_turn pick given r new));
        few = let n = length-append far.turns (this_turn pick given r new ∷ []) in let f = far.few in omega (arith, n, f, nearer);
        source = source;
        size_is = size_is;
        still = λ d live. far.still d (still d live);
        dropped = then_dropped dropped;
        copying = subst (λ (l : List ℕ). Copying new now after l) (sym all) copying;
        card = λ m steady. subst (λ (l : List ℕ). AreAt (content m path) 0 l) (sym all) (more_at (content m path) (given_in far.turns) given (far.card m steady) (on_card r on (content m path) old.size (given_in far.turns) given (card m (steady_mid m steady))));
      }

-- a copy whose last turn ended it
module _ (path : List ℕ) (start : FileCopy) (before mid after : World) (old new : FileCopy) (pool now : PoolState) (r : Turn) (far : SoFar start.source path start.size (standing start) before mid old pool) (pick : ℕ) (given : List ℕ)
    (stands : StandsAfter start.size (standing old) (standing new) (doing (standing old) pick) r)
    (calls : Went (Touches start.source old.window.counts.live) (TurnCalls start.source path start.size (standing old) (standing new) (given_in far.turns) given (doing (standing old) pick) r) mid after)
    (touches : Went (Touches start.source old.window.counts.live) (AreCopyCalls start.source path) mid after)
    (card : (m : Map) → Steady mid old.source m → CardHas (content m path) old.size (given_in far.turns) given r) where
  ended_as : (r : Turn) → StandsAfter start.size (standing old) (standing new) (doing (standing old) pick) r → (GoesOn r → ⊥) → CameTo old new now mid after (given_in far.turns) given r → new.window.counts.live ≡ old.window.counts.live
      → EndedAs start new before after (given_in far.turns ++ given) r
  ended_as Going at not_on came same = absurd (not_on tt)
  ended_as (Dropped d) at not_on came same = absurd (not_on tt)
  ended_as (Copied digests) at not_on (none, size, digest, parts) same =
      let all : given_in far.turns ++ given ≡ given_in far.turns = ap (λ (l : List ℕ). given_in far.turns ++ l) none ∙ append-nil (given_in far.turns) in (
        ap (λ (l : List ℕ). length l) all ∙ size ∙ far.size_is,
        digest ∙ ap triple (sym all),
        λ d live. subst (λ (l : List ℕ). PartIs d after l) (sym all) (parts d (ap (λ (set : List Bool). has set d) (sym same) ∙ live)),
      )
  ended_as SourceFailed at not_on came same = rose_since _ _ far.calls (subst (λ n. Rose (mid.faults (Source n)) (after.faults (Source n))) far.source came)
  ended_as (Changed listed read) at not_on came same = let other = changed_other start.size (standing old) (standing new) (doing (standing old) pick) listed read at in (other.0, other.1, came)
  ended_as NoDrive at not_on came same = absurd came

  card_as : (r : Turn) (file : List ℕ) → AreAt file 0 (given_in far.turns) → CameTo old new now mid after (given_in far.turns) given r → CardHas file old.size (given_in far.turns) given r → CardIs file (given_in far.turns ++ given) r
  card_as (Copied digests) file at (none, size, digest, parts) short = ap (λ (l : List ℕ). given_in far.turns ++ l) none ∙ append-nil (given_in far.turns) ∙ at ∙ take_all (length (given_in far.turns)) file (omega (arith, size, short))
  card_as Going file at came card = tt
  card_as (Dropped d) file at came card = tt
  card_as SourceFailed file at came card = tt
  card_as (Changed listed read) file at came card = tt
  card_as NoDrive file at came card = tt

  pub ended : (GoesOn r → ⊥) → new.window.counts.live ≡ old.window.counts.live → CameTo old new now mid after (given_in far.turns) given r → CopyEnded path start new before after r
  ended not_on same came =
      let all = given_more far.turns (this_turn pick given r new) in
      record {
        turns = far.turns ++ this_turn pick given r new ∷ [];
        calls = then_calls start.source path start.size (standing start) before mid after old new pool now r far pick given stands calls touches card;
        few = let n = length-append far.turns (this_turn pick given r new ∷ []) in let f = far.few in omega (arith, n, f);
        ends = inr (last_more far.turns (this_turn pick given r new) far.on, not_on);
        stands = sym (stands_more (standing start) far.turns (this_turn pick given r new));
        once = went_such (λ L j. order_in start.source path 0 j.0 (card_calls start.source L) j.1) (then_once start.source path start.size (standing start) before mid after old new pool now r far pick given stands calls touches card);
        past = then_past start.source path start.size (standing start) before mid after old new pool now r far pick given stands calls touches card;
        still = λ d live. far.still d (ap (λ (set : List Bool). has set d) (sym same) ∙ live);
        dropped = then_dropped start.source path start.size (standing start) before mid after old new pool now r far pick given stands calls touches card (λ d live out. absurd (cc (sym live ∙ ap (λ (set : List Bool). has set d) (sym same) ∙ out)));
        came = subst (λ (l : List ℕ). EndedAs start new before after l r) (sym all) (ended_as r stands not_on came same);
        card = λ m steady. subst (λ (l : List ℕ). CardIs (content m path) l r) (sym all)
            (card_as r (content m path) (far.card m steady) came (card m (steady_mid start.source path start.size (standing start) before mid after old new pool now r far pick given stands calls touches card m steady)));
      }

-- a copy of which no drive is left
pub ended_alone : (path : List ℕ) (start : FileCopy) (before after : World) (copy : FileCopy) (pool : PoolState) → SoFar start.source path start.size (standing start) before after copy pool → lowest copy.window.counts.live ≡ None
    → CopyEnded path start copy before after NoDrive
ended_alone path start before after copy pool far none = record {
  turns = far.turns;
  calls = far.calls;
  few = let f = far.few in omega (arith, f);
  ends = inl (refl, far.on);
  stands = far.stands;
  once = went_such (λ L r. order_in start.source path 0 (length (given_in far.turns)) (card_calls start.source L) r) far.once;
  past = λ digests is. absurd (cc is);
  still = far.still;
  dropped = far.dropped;
  came = none;
  card = λ m steady. tt;
}

-- a turn of the copy, in the words of its start
module _ (s : ℕ) (path : List ℕ) (size : ℕ) (at : Standing) (before mid after : World) (old new : FileCopy) (pool now : PoolState) (r : Turn) (far : SoFar s path size at before mid old pool) (t : Turned path old new now mid after (given_in far.turns) r) where
  pub turn_stands : StandsAfter size (standing old) (standing new) (doing (standing old) t.pick) r
  turn_stands = subst (λ n. StandsAfter n (standing old) (standing new) (doing (standing old) t.pick) r) far.size_is t.stands

  pub turn_calls : Went (Touches s old.window.counts.live) (TurnCalls s path size (standing old) (standing new) (given_in far.turns) t.given (doing (standing old) t.pick) r) mid after
  turn_calls = subst (λ n. Went (Touches n old.window.counts.live) (TurnCalls n path size (standing old) (standing new) (given_in far.turns) t.given (doing (standing old) t.pick) r) mid after) far.source
      (subst (λ n. Went (Touches old.source old.window.counts.live) (TurnCalls old.source path n (standing old) (standing new) (given_in far.turns) t.given (doing (standing old) t.pick) r) mid after) far.size_is t.calls)

-- the calls of a turn, in the words of its start
pub turn_touches : (s : ℕ) (path : List ℕ) (size : ℕ) (at : Standing) (before mid after : World) (old : FileCopy) (pool : PoolState) → SoFar s path size at before mid old pool → Went (Touches old.source old.window.counts.live) (AreCopyCalls old.source path) mid after
    → Went (Touches s old.window.counts.live) (AreCopyCalls s path) mid after
turn_touches s path size at before mid after old pool far touches = subst (λ n. Went (Touches n old.window.counts.live) (AreCopyCalls n path) mid after) far.source touches

-- all calls so far and in a turn
pub all_touches : (s : ℕ) (path : List ℕ) (size : ℕ) (at : Standing) (before mid after : World) (old : FileCopy) (pool : PoolState) → SoFar s path size at before mid old pool → Went (Touches old.source old.window.counts.live) (AreCopyCalls old.source path) mid after
    → Went (Touches s at.counts.live) (AreCopyCalls s path) before after
all_touches s path size at before mid after old pool far touches = went_such (λ L j. subst (λ K. AreCopyCalls s path K) (sym j.is) (copy_calls_append s path j.first j.second j.here j.there))
    (went_then far.touches (went_on (widen s old.window.counts.live at.counts.live far.still) (turn_touches s path size at before mid after old pool far touches)))

-- how a copy ends
pub finish : (path : List ℕ) (start : FileCopy) (before mid after : World) (old new : FileCopy) (pool now : PoolState) (r : Turn) → SoFar start.source path start.size (standing start) before mid old pool → (r ≡ Going → ⊥) → ((d : ℕ) → r ≡ Dropped d → ⊥)
    → (r ≡ NoDrive → lowest old.window.counts.live ≡ None) → (lowest old.window.counts.live ≡ None → (r ≡ NoDrive) × (after ≡ mid) × (now ≡ pool) × (new ≡ old)) → GoOn r old.window.counts.live new.window.counts.live
    → Went (Touches old.source old.window.counts.live) (AreCopyCalls old.source path) mid after
    → ((d : ℕ) → has old.window.counts.live d ≡ true → (bytes : List ℕ) → Copying old pool mid bytes → Turned path old new now mid after bytes r) → CopyEnded path start new before after r
finish path start before mid after old new pool now r far not_going not_dropped no_drive idle on touches turned = by_result r refl where
  some : (r ≡ NoDrive → ⊥) → (d : ℕ) × (has old.window.counts.live d ≡ true)
  some drive = some_live old.window.counts.live (λ none. drive (idle none).0)

  last : (r ≡ NoDrive → ⊥) → (GoesOn r → ⊥) → new.window.counts.live ≡ old.window.counts.live → CopyEnded path start new before after r
  last drive not_on same =
      let live = some drive in
      let t = turned live.0 live.1 (given_in far.turns) far.copying in
      ended path start before mid after old new pool now r far t.pick t.given
      (turn_stands start.source path start.size (standing start) before mid after old new pool now r far t)
      (turn_calls start.source path start.size (standing start) before mid after old new pool now r far t)
      (turn_touches start.source path start.size (standing start) before mid after old pool far touches) t.card not_on same t.came

  by_result : (q : Turn) → r ≡ q → CopyEnded path start new before after r
  by_result Going is = absurd (not_going is)
  by_result (Dropped d) is = absurd (not_dropped d is)
  by_result NoDrive is =
      let none = no_drive is in
      let i = idle none in
      subst (λ q. CopyEnded path start new before after q) (sym is) (subst (λ w. CopyEnded path start new before w NoDrive) (sym i.1) (subst (λ c. CopyEnded path start c before mid NoDrive) (sym i.3) (ended_alone path start before mid old pool far none)))
  by_result (Copied t) is = last (λ q. cc (sym is ∙ q)) (subst (λ q. GoesOn q → ⊥) (sym is) (λ x. x)) (subst (λ q. GoOn q old.window.counts.live new.window.counts.live) is on)
  by_result SourceFailed is = last (λ q. cc (sym is ∙ q)) (subst (λ q. GoesOn q → ⊥) (sym is) (λ x. x)) (subst (λ q. GoOn q old.window.counts.live new.window.counts.live) is on)
  by_result (Changed listed read) is = last (λ q. cc (sym is ∙ q)) (subst (λ q. GoesOn q → ⊥) (sym is) (λ x. x)) (subst (λ q. GoOn q old.window.counts.live new.window.counts.live) is on)
