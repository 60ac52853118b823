-- A turn of another run that keeps out of the way.
use Rattle.std.proofs.Common.{◌≡◌, ℕ, ◌^◌, ◌<◌, true, List, [], ◌∷◌, refl, sym, ◌∙◌, ap, subst, arith}
use Rattle.std.specs.Prelude.{Some}
use Rattle.bay_core.specs.declared.event.Event.{Event}
use Rattle.bay_core.specs.declared.event.Event.TheVariants.{AttachSource, AttachDrive, AttachFailed, SourceList, SourceRead, DriveList, DriveRead, Write, Sync, Rename, Remove, Moment, Pick, Say}
use Rattle.bay_core.specs.Replay.{Device}
use Rattle.bay_core.proofs.Runs.{went_such, went_on}
use Rattle.block_pool.specs.Lent.{is_lent, block_at}
use Rattle.fan_copier.specs.Ring.{cell, Owns}
use Rattle.run_state.specs.Apart.{IsApart}
use Rattle.run_state.specs.Calls.{IsOfRun, IsTurnCall, AreTurnCalls}
use Rattle.run_state.specs.Rules.{IsOver, IsRun, slots_in, KeepsRunPool}
use Rattle.run_state.specs.Runs.{Point, IsBeside, AreBeside, IsElsewhere, Beside}
use Rattle.run_state.specs.State.{Ordered, At, drive_at, is_gone, is_of_run}
use Rattle.run_state.specs.Turn.{Turned}
use Rattle.run_state.proofs.Passing.{TheCalls, of_run_low, over_uncalled, over_if_gone, turn_passed, turn_of_run}

module _ (o p : Ordered) (at : At) (b c : Point) (first : IsRun o at) (run : IsRun p b.at) (apart : IsApart o at p b.at) (owns : Owns (slots_in at.phase) b.pool) (turn : Turned p b.at c.at b.pool c.pool b.world c.world) (keeps : KeepsRunPool b.at.phase c.at.phase b.pool c.pool) where
  low : (k : ℕ) → is_of_run at.drives k ≡ true → k < 2 ^ 64
  low k there = let few = of_run_low o.plan at.drives k first.drives there in omega (arith, few)

  over : (k : ℕ) → is_of_run at.drives k ≡ true → IsOver (drive_at b.at.drives.each k)
  over k there = over_if_gone (drive_at b.at.drives.each k) (apart.drives k there)

  one_beside : (e : Event) → IsTurnCall p b.at.drives e → IsBeside o at.drives e
  one_beside (SourceRead s path place want got) is = λ card planned. apart.files path (sym card ∙ is.0) planned is.1
  one_beside (Say line ok) is = λ k there. is k (low k there) (over k there)
  one_beside (AttachSource s place) is = tt
  one_beside (AttachDrive d place) is = tt
  one_beside (AttachFailed place) is = tt
  one_beside (SourceList s got) is = tt
  one_beside (DriveList d got) is = tt
  one_beside (DriveRead d path place want got) is = tt
  one_beside (Write d path place bytes ok) is = tt
  one_beside (Sync d ok) is = tt
  one_beside (Rename d from to ok) is = tt
  one_beside (Remove d path ok) is = tt
  one_beside (Moment t) is = tt
  one_beside (Pick n) is = tt

  all_beside : (L : List Event) → AreTurnCalls p b.at.drives L → AreBeside o at.drives L
  unfolding AreTurnCalls AreBeside
  all_beside [] are = tt
  all_beside (e ∷ L) are = (one_beside e are.0, all_beside L are.1)

  elsewhere : (x : Device) → IsOfRun p b.at.drives x → IsElsewhere at.drives x
  elsewhere x on = λ k there is. over_uncalled (drive_at b.at.drives.each k) (over k there) (subst (IsOfRun p b.at.drives) is on)

  -- the slots of the first run are lent still, with their bytes
  spared : (i n : ℕ) → cell (slots_in at.phase) i ≡ Some n → (is_lent c.pool n ≡ true) × (Unit {0} → block_at c.pool n ≡ block_at b.pool n)
  spared i n is = keeps.spares n (owns.lent i n is) (λ j there. apart.slots i j n is there)

  pub is_beside : TheCalls → Beside o (record { at = at; pool = b.pool; world = b.world }) (record { at = at; pool = c.pool; world = c.world })
  is_beside calls = record {
    same = refl;
    went = went_on elsewhere (went_such all_beside (calls p b.at c.at b.pool c.pool b.world c.world run turn));
    blocks = record { same = λ i n is. (spared i n is).1 tt };
  }

  pub still_apart : IsApart o at p c.at
  still_apart = record {
    drives = λ k there.
        let passed = turn_passed p b.at c.at b.pool c.pool b.world c.world run turn k (over_uncalled (drive_at b.at.drives.each k) (over k there)) in
        ap is_gone (passed.over (over k there)) ∙ apart.drives k there;
    files = apart.files;
    slots = λ i j n is there. keeps.out n (owns.lent i n is) (λ k other. apart.slots i k n is other) j there;
  }

  pub still_owns : Owns (slots_in at.phase) c.pool
  still_owns = record { lent = λ i n is. (spared i n is).0; apart = owns.apart }

-- so does the first run where it takes a turn
pub turned_apart : (o p : Ordered) (other : At) (b c : Point) → IsRun o b.at → IsApart o b.at p other → Owns (slots_in other.phase) b.pool → Turned o b.at c.at b.pool c.pool b.world c.world → KeepsRunPool b.at.phase c.at.phase b.pool c.pool → IsApart o c.at p other
turned_apart o p other b c run apart owns turn keeps = record {
  drives = λ k there. apart.drives k (turn_of_run o b.at c.at b.pool c.pool b.world c.world run turn k there);
  files = apart.files;
  slots = λ i j n is there. keeps.out n (owns.lent j n there) (λ k mine. apart.slots k j n mine there) i is;
}
