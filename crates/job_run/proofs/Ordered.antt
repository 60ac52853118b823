-- A run as it is made of an order: what its first turn asks for, and how it ends.
use Rattle.std.proofs.Common.{◌≡◌, ◌≢◌, inl, inr, ℕ, zero, suc, ◌+◌, ◌≤◌, true, false, List, [], ◌∷◌, length, map, replicate, refl, sym, ◌∙◌, ap, subst, arith}
use Rattle.std.specs.Prelude.{Option, None, option_map}
use Rattle.bay_core.specs.World.{World}
use Rattle.block_pool.specs.Lent.{PoolState, free_in}
use Rattle.digest_set.specs.declared.triple.Triple.{Triple}
use Rattle.drive_journal.specs.declared.order.DriveStart.{DriveStart}
use Rattle.drive_journal.specs.declared.order.DriveStart.TheVariants.{Gone as GoneStart, Fresh as FreshStart, Begun as BegunStart, Sealed as SealedStart}
use Rattle.drive_journal.specs.declared.order.Listed.{Listed}
use Rattle.drive_journal.specs.declared.order.Order.{Order}
use Rattle.fan_core.specs.Flags.{count}
use Rattle.fresh_opening.specs.Orders.{start_at}
use Rattle.run_state.specs.declared.outcome.Outcome.{Outcome}
use Rattle.run_state.specs.declared.outcome.Outcome.TheVariants.{Going, Finished, NoDrive, SourceFailed, Changed, Altered, OutFailed as LineFailed}
use Rattle.run_state.specs.declared.phase.Phase.TheVariants.{Ended as IsEnded}
use Rattle.run_state.specs.Acts.{other_listed}
use Rattle.run_state.specs.Rules.{IsRun, IsStart, CanTurn, slots_in}
use Rattle.run_state.specs.Runs.{Point, Alone, Runs}
use Rattle.run_state.specs.State.{Ordered, DriveAt, At, drive_at, is_gone}
use Rattle.run_state.proofs.Drives.{same_or}
use Rattle.offload_run.specs.declared.offload.Offload.{Offload}
use Rattle.offload_run.specs.Offload.{ordered_of, stands_at, begins_at, IsRunOf}
use Rattle.offload_run.proofs.Slots.{owns_none}
use Rattle.run_ends.specs.Ends.{EndsRightly}
use Rattle.last_lines.specs.Ends.{Ended}
use Rattle.command_words.specs.Jobs.{Job}
use Rattle.job_story.specs.Ends.{JobEnd, Sealed, Dropped, CardFailed, CardChanged, OutFailed, last_of}
use Rattle.job_story.specs.Story.{EndsAs, Turns}
use Rattle.job_run.specs.Ending.{HasEnd}
use Rattle.job_run.specs.Turning.{CanRun, OrderGoes}

-- ---- what its first turn asks for

begins_of : (starts : List DriveStart) (d : ℕ) → drive_at (map begins_at starts) d ≡ begins_at (start_at starts d)
begins_of [] d = refl
begins_of (x ∷ starts) zero = refl
begins_of (x ∷ starts) (suc d) = begins_of starts d

not_gone : (x : DriveStart) → is_gone (begins_at x) ≡ false → x ≢ GoneStart
not_gone x there is = let gone : is_gone (begins_at x) ≡ true = ap (λ (y : DriveStart). is_gone (begins_at y)) is in absurd (cc (sym gone ∙ there))

pub can_turn : (order : Order) (run : Offload) (pool : PoolState) (w : World) → IsRunOf order run → IsStart (ordered_of run) (stands_at run) → pool.lent ≡ replicate 17 false → CanRun order w → CanTurn (ordered_of run) (stands_at run) pool w
can_turn order run pool w of start free can = record {
  source = let s = of.source in let c = can.card in omega (arith, s, c);
  drives = λ d there.
      let stands : drive_at (stands_at run).drives.each d ≡ begins_at (start_at order.drives.items d) = ap (λ (l : List DriveAt). drive_at l d) of.drives ∙ begins_of order.drives.items d in
      can.drives d (not_gone (start_at order.drives.items d) (ap is_gone (sym stands) ∙ there));
  owns = owns_none (slots_in (stands_at run).phase) pool (ap slots_in start.phase);
  free =
      let all : free_in pool.lent ≡ 17 = ap free_in free in
      let slots : run.slots ≡ 16 = of.slots ∙ can.slots in
      omega (arith, all, slots);
}

-- ---- how it ends

-- it has an end, since its outcome has its cause, and no source list was compared
module _ (o : Ordered) (a b : Point) (rightly : EndsRightly o a b) (run : IsRun o b.at) (ended : b.at.phase ≡ IsEnded) (plain : o.listed ≡ None) (drives : ℕ) where
  unaltered : (i : ℕ) (l : Listed) (t : Triple) → b.at.outcome ≡ Altered i l t → ⊥
  unaltered i l t is =
      let was = (rightly.altered i l t).0 is in
      let none : other_listed o.listed i t ≡ None = ap (λ (all : Option (List Listed)). other_listed all i t) plain in
      cc (sym none ∙ was.2)

  has_end : (outcome : Outcome) → b.at.outcome ≡ outcome → HasEnd drives o.plan b.at outcome
  has_end Going is = absurd (run.outcome.0 ended is)
  has_end Finished is = elim (same_or (count b.at.drives.sealed) drives) [
    | inl same ↦ (Sealed, inl (same, refl))
    | inr other ↦ (Dropped, inr (other, refl))
  ]
  has_end NoDrive is = (Dropped, refl)
  has_end SourceFailed is = (CardFailed, refl)
  has_end (Changed index listed read) is = let n = rightly.changed index listed read is in (CardChanged listed read n.file.path, (n.file, n.is_file, refl))
  has_end (Altered index listed read) is = absurd (unaltered index listed read is)
  has_end LineFailed is = (OutFailed, refl)

-- ---- the run of an order

-- turns with nothing between them are turns of a run
abbrev pub TurnsAlone : Type 0
TurnsAlone = (o : Ordered) (a b : Point) → Alone o a b → Runs o a b

-- each outcome has its cause
abbrev pub HaveCauses : Type 0
HaveCauses = (o : Ordered) (a b : Point) → IsStart o a.at → Runs o a b → EndsRightly o a b

module _ (order : Order) (run then_run : Offload) (pool then_pool : PoolState) (old done : World) (of : IsRunOf order run) (starts : IsStart (ordered_of run) (stands_at run)) (same : ordered_of then_run ≡ ordered_of run)
    (keeps : IsRun (ordered_of then_run) (stands_at then_run)) (ended : (stands_at then_run).phase ≡ IsEnded)
    (alone : Alone (ordered_of run) (record { at = stands_at run; pool = pool; world = old }) (record { at = stands_at then_run; pool = then_pool; world = done })) where
  abbrev from : Point
  from = record { at = stands_at run; pool = pool; world = old }

  abbrev to : Point
  to = record { at = stands_at then_run; pool = then_pool; world = done }

  pub run_has_end : TurnsAlone → HaveCauses → order.listed ≡ None
      → (drives : ℕ) (outcome : Outcome) → outcome ≡ (stands_at then_run).outcome → HasEnd drives (ordered_of then_run).plan (stands_at then_run) outcome
  run_has_end turns ends plain drives outcome is =
      let o = ordered_of run in
      let rightly = ends o from to starts (turns o from to alone) in
      let runs = subst (λ (p : Ordered). IsRun p (stands_at then_run)) same keeps in
      let none : (ordered_of run).listed ≡ None = ap (option_map (λ all. all.items)) (of.listed ∙ plain) in
      subst (λ (p : Ordered). HasEnd drives p.plan (stands_at then_run) outcome) (sym same) (has_end o from to rightly runs ended none drives outcome (sym is))

  goes_to_end : (drives : ℕ) (outcome : Outcome) → outcome ≡ (stands_at then_run).outcome → (has : HasEnd drives (ordered_of then_run).plan (stands_at then_run) outcome)
      → (result : ℕ) (new : World) → Ended (last_of has.0) result done new → (job : Job) → length job.drives ≡ drives → OrderGoes job order result old new
  goes_to_end drives outcome is has result new last job long = inr (record {
    end = has.0;
    done = done;
    turns = record {
      run = run;
      of = of;
      starts = starts;
      then_run = then_run;
      same = same;
      keeps = keeps;
      pool = pool;
      then_pool = then_pool;
      alone = alone;
      ended = ended;
      ends =
          subst (λ (n : ℕ). EndsAs n (ordered_of run).plan (stands_at then_run) (stands_at then_run).outcome has.0) (sym long)
          (subst (λ (p : Ordered). EndsAs drives p.plan (stands_at then_run) (stands_at then_run).outcome has.0) same
          (subst (λ (x : Outcome). EndsAs drives (ordered_of then_run).plan (stands_at then_run) x has.0) is has.1));
    };
    ended = last;
  })

  -- it was turned to its end, and ended by its last lines
  pub order_goes : TurnsAlone → HaveCauses → order.listed ≡ None → (drives : ℕ) (outcome : Outcome) → outcome ≡ (stands_at then_run).outcome → (result : ℕ) (new : World)
      → ((end : JobEnd) → EndsAs drives (ordered_of then_run).plan (stands_at then_run) outcome end → Ended (last_of end) result done new) → (job : Job) → length job.drives ≡ drives → OrderGoes job order result old new
  order_goes turns ends plain drives outcome is result new last job long =
      let has = run_has_end turns ends plain drives outcome is in
      goes_to_end drives outcome is has result new (last has.0 has.1) job long
