-- The turns of a copy, one after the other.
use Rattle.std.proofs.Common.{◌≡◌, ◌≢◌, inl, inr, ℕ, ◌*◌, Bool, true, false, List, [], ◌∷◌, ◌++◌, length, take, slice_set, refl, sym, ◌∙◌, ap, subst, arith, append_assoc, append-nil, length-append, get_or-set_other}
use Rattle.std.proofs.Math.Seq.{take-add}
use Rattle.std.proofs.lemmas.Bool.{cases_eq}
use Rattle.std.specs.Prelude.{Option, Some, None}
use Rattle.bay_core.specs.declared.event.Event.{Event}
use Rattle.bay_core.specs.Replay.{Device}
use Rattle.bay_core.specs.World.{World}
use Rattle.block_pool.specs.Lent.{PoolState}
use Rattle.fan_core.specs.declared.act.Act.TheVariants.{Read, Write, Finished}
use Rattle.fan_core.specs.Flags.{has, lowest}
use Rattle.fan_core.specs.Next.{next_act}
use Rattle.fan_core.proofs.Rules.{lowest_has}
use Rattle.fan_core.proofs.Keeps.{act_read, act_finished}
use Rattle.fan_copier.specs.declared.copy.FileCopy.{FileCopy}
use Rattle.fan_copier.specs.declared.turn.Turn.{Turn}
use Rattle.fan_copier.specs.declared.turn.Turn.TheVariants.{Going, Dropped, Copied, SourceFailed, Changed, NoDrive}
use Rattle.fan_copier.specs.Copying.{standing, Copying}
use Rattle.fan_copier.specs.Follows.{OneTurn, FollowsWindow, given_in, stands_after, GoesOn, AllGoOn, LastCame}
use Rattle.fan_copier.specs.Reads.{AreAt}
use Rattle.fan_copier.specs.Standing.{Standing}
use Rattle.fan_copier.specs.Turning.{Doing, EmptyPiece, Acting, doing, doing_next, StandsAfter, TurnCalls, Touches, CardHas}
use Rattle.fan_copier.proofs.Growing.{block_within}

pub given_more : (turns : List OneTurn) (t : OneTurn) → given_in (turns ++ t ∷ []) ≡ given_in turns ++ t.given
given_more [] t = append-nil t.given
given_more (u ∷ turns) t = ap (λ (l : List ℕ). u.given ++ l) (given_more turns t) ∙ sym (append_assoc u.given (given_in turns) t.given)

pub stands_more : (at : Standing) (turns : List OneTurn) (t : OneTurn) → stands_after at (turns ++ t ∷ []) ≡ t.now
stands_more at [] t = refl
stands_more at (u ∷ turns) t = stands_more u.now turns t

pub go_on_more : (turns : List OneTurn) (t : OneTurn) → AllGoOn turns → GoesOn t.came → AllGoOn (turns ++ t ∷ [])
go_on_more [] t all on = (on, tt)
go_on_more (u ∷ turns) t all on = (all.0, go_on_more turns t all.1 on)

pub last_more : (turns : List OneTurn) (t : OneTurn) → AllGoOn turns → LastCame (turns ++ t ∷ []) t.came
last_more [] t all = refl
last_more (u ∷ []) t all = (all.0, refl)
last_more (u ∷ (v ∷ turns)) t all = (all.0, last_more (v ∷ turns) t all.1)

pub follows_none : (s : ℕ) (path : List ℕ) (size : ℕ) (at : Standing) (bytes : List ℕ) (L : List Event) → L ≡ [] → FollowsWindow s path size at bytes [] L
unfolding FollowsWindow
follows_none s path size at bytes L none = none

pub follows_more : (s : ℕ) (path : List ℕ) (size : ℕ) (at : Standing) (bytes : List ℕ) (turns : List OneTurn) (t : OneTurn) (A B L : List Event) → L ≡ A ++ B → FollowsWindow s path size at bytes turns A
    → StandsAfter size (stands_after at turns) t.now (doing (stands_after at turns) t.pick) t.came
    → TurnCalls s path size (stands_after at turns) t.now (bytes ++ given_in turns) t.given (doing (stands_after at turns) t.pick) t.came B → FollowsWindow s path size at bytes (turns ++ t ∷ []) L
unfolding FollowsWindow
follows_more s path size at bytes [] t A B L is a stands b = (
  stands,
  record {
    first = B;
    second = [];
    is = is ∙ ap (λ (K : List Event). K ++ B) a ∙ sym (append-nil B);
    here = subst (λ (l : List ℕ). TurnCalls s path size at t.now l t.given (doing at t.pick) t.came B) (append-nil bytes) b;
    there = refl;
  },
)
follows_more s path size at bytes (u ∷ turns) t A B L is (first, then) stands b = (
  first,
  record {
    first = then.first;
    second = then.second ++ B;
    is = is ∙ ap (λ (K : List Event). K ++ B) then.is ∙ append_assoc then.first then.second B;
    here = then.here;
    there = follows_more s path size u.now (bytes ++ u.given) turns t then.second B (then.second ++ B) refl then.there stands
        (subst (λ (l : List ℕ). TurnCalls s path size (stands_after u.now turns) t.now l t.given (doing (stands_after u.now turns) t.pick) t.came B) (sym (append_assoc bytes u.given (given_in turns))) b);
  },
)

-- some number is in a set that is not empty
pub some_live : (live : List Bool) → (lowest live ≡ None → ⊥) → (d : ℕ) × (has live d ≡ true)
some_live live some = pick (lowest live) refl where
  pick : (o : Option ℕ) → lowest live ≡ o → (d : ℕ) × (has live d ≡ true)
  pick None is = absurd (some is)
  pick (Some d) is = (d, lowest_has live d is)

-- the devices of a copy with fewer drives are among those of one with more
pub widen : (s : ℕ) (less more : List Bool) → ((d : ℕ) → has less d ≡ true → has more d ≡ true) → (x : Device) → Touches s less x → Touches s more x
widen s less more so x (inl card) = inl card
widen s less more so x (inr (inl pick)) = inr (inl pick)
widen s less more so x (inr (inr (d, live, is))) = inr (inr (d, so d live, is))

-- bytes behind others
pub more_at : (file bytes more : List ℕ) → AreAt file 0 bytes → AreAt file (length bytes) more → AreAt file 0 (bytes ++ more)
more_at file bytes more one two =
    (λ i. one' i ++ two i) ∙ sym (take-add (length bytes) (length more) file) ∙ ap (λ n. take n file) (sym (length-append bytes more)) where
      one' : bytes ≡ take (length bytes) file
      one' = one

-- what a turn does, where it reads or ends, and how many bytes were given before it
pub reads_at : (copy : FileCopy) (pool : PoolState) (w : World) (bytes : List ℕ) (p q : ℕ) → Copying copy pool w bytes → doing (standing copy) p ≡ Acting q Read → copy.window.counts.read * 65536 ≡ length bytes
reads_at copy pool w bytes p q copying is = by_piece (lowest copy.pieces) is where
  acts : next_act copy.window.counts p ≡ Read → copy.window.counts.read * 65536 ≡ length bytes
  acts read =
      let can = act_read copy.window.counts p read in
      let more = can.more in
      let n = copy.keeps.blocks in
      let within = block_within copy.size copy.window.counts.read (omega (arith, more, n)) in
      let h = copying.has.so_far in
      omega (arith, within, h)

  by_piece : (o : Option ℕ) → doing_next o copy.window.counts p ≡ Acting q Read → copy.window.counts.read * 65536 ≡ length bytes
  by_piece None is = acts (cc is)
  by_piece (Some d) is = absurd (cc is)

pub ends_at : (copy : FileCopy) (pool : PoolState) (w : World) (bytes : List ℕ) (p q : ℕ) → Copying copy pool w bytes → doing (standing copy) p ≡ Acting q Finished → copy.size ≡ length bytes
ends_at copy pool w bytes p q copying is = by_piece (lowest copy.pieces) is where
  acts : next_act copy.window.counts p ≡ Finished → copy.size ≡ length bytes
  acts finished =
      let done = act_finished copy.window.counts p copy.window.keeps finished in
      let r = done.read in
      let n = copy.keeps.blocks in
      let h = copying.has.so_far in
      omega (arith, r, n, h)

  by_piece : (o : Option ℕ) → doing_next o copy.window.counts p ≡ Acting q Finished → copy.size ≡ length bytes
  by_piece None is = acts (cc is)
  by_piece (Some d) is = absurd (cc is)

-- a turn as one of the turns of a copy
abbrev pub this_turn : ℕ → List ℕ → Turn → FileCopy → OneTurn
this_turn pick given r new = record { pick = pick; given = given; came = r; now = standing new }

-- after a turn that goes on, what the card gave is of its file
pub on_card : (r : Turn) → GoesOn r → (file : List ℕ) (size : ℕ) (bytes given : List ℕ) → CardHas file size bytes given r → AreAt file (length bytes) given
on_card Going on file size bytes given card = card
on_card (Dropped d) on file size bytes given card = card
on_card (Copied t) on file size bytes given card = absurd on
on_card SourceFailed on file size bytes given card = absurd on
on_card (Changed listed read) on file size bytes given card = absurd on
on_card NoDrive on file size bytes given card = absurd on

-- a card whose file has another length than was listed
pub changed_other : (size : ℕ) (at now : Standing) (did : Doing) (listed read : ℕ) → StandsAfter size at now did (Changed listed read) → (listed ≡ size) × (read ≢ size)
changed_other size at now (EmptyPiece d) listed read stands = absurd stands
changed_other size at now (Acting p Read) listed read (same, fewer, still) = (same, λ is. absurd (omega (arith, is, fewer)))
changed_other size at now (Acting p (Write d k)) listed read stands = absurd stands
changed_other size at now (Acting p Finished) listed read (same, more, still) = (same, λ is. absurd (omega (arith, is, more)))

-- the drive that was dropped is the one that is live no longer
pub dropped_that : (set : List Bool) (d e : ℕ) → has set e ≡ true → has (slice_set set d false) e ≡ false → e ≡ d
dropped_that set d e live out = elim (cases_eq e d) [
  | inl here ↦ here
  | inr away ↦ absurd (cc (sym live ∙ sym (get_or-set_other set d e false false away) ∙ out))
]
