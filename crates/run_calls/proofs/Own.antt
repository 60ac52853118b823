-- What the turns of a run call, and that they list nothing.
use Rattle.std.proofs.Common.{◌≡◌, ◌⊎◌, inl, inr, ℕ, Bool, true, false, List, [], ◌∷◌, ◌++◌, refl, sym, ap, ◌∙◌, subst}
use Rattle.bay_core.specs.declared.event.Event.{Event}
use Rattle.bay_core.specs.declared.event.Event.TheVariants.{Say, Pick, SourceRead, DriveRead, Write as Writes}
use Rattle.bay_core.specs.Replay.{Device, Source, Drive, Attaching, Output, Clock, Picker}
use Rattle.bay_core.specs.Went.{Went, Ran, say_call}
use Rattle.bay_core.specs.World.{World}
use Rattle.bay_core.proofs.Runs.{went_none, went_such, went_on, went_then}
use Rattle.block_pool.specs.Lent.{PoolState}
use Rattle.copy_plan.proofs.Files.{AllByRecursion-append}
use Rattle.fan_copier.specs.declared.copy.FileCopy.{FileCopy}
use Rattle.fan_copier.specs.declared.turn.Turn.{Turn}
use Rattle.fan_copier.specs.declared.turn.Turn.TheVariants.{Going as CopyGoes, Dropped, Copied, SourceFailed as CardFailed, Changed as CardChanged, NoDrive as NoneLeft}
use Rattle.fan_copier.specs.Copying.{card_of}
use Rattle.fan_copier.specs.Turning.{IsCopyCall, AreCopyCalls}
use Rattle.report_text.specs.Losses.{dropped_fault_text}
use Rattle.run_state.specs.declared.phase.Phase.{Phase}
use Rattle.run_state.specs.declared.phase.Phase.TheVariants.{Begins, File, Copies, Dates, Records, Seals, Clears, Ended}
use Rattle.run_state.specs.Acts.{CopySettles, CopyActed}
use Rattle.run_state.specs.Calls.{IsOfRun}
use Rattle.run_state.specs.Rules.{IsRun, Fits}
use Rattle.run_state.specs.Runs.{Point, Alone, still, turned}
use Rattle.run_state.specs.State.{Ordered, DriveAt, Gone, Fresh, Begun, Found, Sealed, At, IsCalled, files_of, drive_at}
use Rattle.run_state.specs.Turn.{Acted}
use Rattle.run_state.proofs.Passing.{TheRules, TheCalls, TurnsAlone, turn_passed}
use Rattle.run_calls.specs.Own.{is_listing, NoListing}
use Rattle.run_calls.proofs.Failing.{none_lists, last_lists}
use Rattle.run_calls.proofs.Lists.{IsAny, went_both}
use Rattle.run_calls.proofs.Turns.{EndsBy, LineIs, OneTurn, acted_turn}

lists_then : (A B : List Event) → NoListing A → NoListing B → NoListing (A ++ B)
lists_then A B a b = AllByRecursion-append (λ (e : Event). is_listing e ≡ false) A B a b

-- ---- one turn

one_lists : (new : At) (B : List Event) → OneTurn new B → NoListing B
one_lists new B t = subst NoListing (sym t.is) (lists_then t.calls t.line (by t.ends) (of_line t.said))
  where
    by : EndsBy new t.calls t.line → NoListing t.calls
    by (inl none) = none_lists t.calls none
    by (inr (inl (d, last, told, dropped))) = last_lists (Drive d) t.calls last
    by (inr (inr (s, last, none, ended))) = last_lists (Source s) t.calls last

    of_line : LineIs new t.line → NoListing t.line
    of_line (inl none) = subst NoListing (sym none) tt
    of_line (inr (text, ok, is, out, drops)) = subst NoListing (sym is) (refl, tt)

-- a copy lists nothing
copy_one : (s : ℕ) (path : List ℕ) (e : Event) → IsCopyCall s path e → is_listing e ≡ false
copy_one s path (Pick p) is = refl
copy_one s path (SourceRead k read at want got) is = refl
copy_one s path (DriveRead d read at want got) is = refl
copy_one s path (Writes d written at bytes ok) is = refl
copy_one s path e is = absurd is

copy_lists : (s : ℕ) (path : List ℕ) (L : List Event) → AreCopyCalls s path L → NoListing L
unfolding AreCopyCalls
copy_lists s path [] are = tt
copy_lists s path (e ∷ L) are = (copy_one s path e are.0, copy_lists s path L are.1)

said_lists : (text : List ℕ) (ok : Bool) (L : List Event) → Ran (say_call text ∷ []) ok L → NoListing L
unfolding Ran
said_lists text true L (rest, is, none) = subst NoListing (sym (is ∙ ap (λ (l : List Event). Say text true ∷ l) none)) (refl, tt)
said_lists text false L (inl none) = subst NoListing (sym none) tt
said_lists text false L (inr (inl one)) = subst NoListing (sym one) (refl, tt)
said_lists text false L (inr (inr (rest, is, more))) = absurd more

module _ (o : Ordered) (old new : At) (rules : IsRun o old) where
  abbrev Plain : World → World → Type 0
  Plain before after = Went IsAny NoListing before after

  plain_then : {before mid after : World} → Plain before mid → Plain mid after → Plain before after
  plain_then one two = went_such (λ L t. subst NoListing (sym t.is) (lists_then t.first t.second t.here t.there)) (went_then one two)

  plain_same : {before after : World} → after ≡ before → Plain before after
  plain_same {before} {after} same = subst (λ (w : World). Plain before w) (sym same) (went_such (λ L none. subst NoListing (sym none) tt) (went_none IsAny before))

  settles_plain : (i : ℕ) (came : Turn) (next : FileCopy) (before after : World) → CopySettles (files_of o.plan) i came next old.drives new before after → Plain before after
  settles_plain i CopyGoes next before after s = plain_same s.2
  settles_plain i (Dropped d) next before after s = went_on (λ y on. tt) (went_such (λ L ran. said_lists (dropped_fault_text d) s.said L ran) s.line.went)
  settles_plain i (Copied t) next before after s = plain_same s.2
  settles_plain i CardFailed next before after s = plain_same s.2
  settles_plain i (CardChanged listed read) next before after s = plain_same s.2
  settles_plain i NoneLeft next before after s = absurd s

  copy_plain : (i : ℕ) (copy : FileCopy) (pool pool_after : PoolState) (before after : World) → CopyActed o i copy old.drives new pool pool_after before after → Plain before after
  copy_plain i copy pool pool_after before after a = plain_then (went_on (λ y on. tt) (went_such (copy_lists (card_of copy) a.file.path) a.touches)) (settles_plain i a.came a.next a.mid after a.settles)

  acted_plain : (phase : Phase) (pool pool_after : PoolState) (before after : World) → Fits o old.drives.each phase → Acted o phase old new pool pool_after before after → Plain before after
  acted_plain (Copies i copy) pool pool_after before after fits a = copy_plain i copy pool pool_after before after a
  acted_plain (Begins d) pool pool_after before after fits a = went_such (one_lists new) (acted_turn o old new rules (Begins d) pool pool_after before after fits tt a)
  acted_plain (File i) pool pool_after before after fits a = went_such (one_lists new) (acted_turn o old new rules (File i) pool pool_after before after fits tt a)
  acted_plain (Dates i t) pool pool_after before after fits a = went_such (one_lists new) (acted_turn o old new rules (Dates i t) pool pool_after before after fits tt a)
  acted_plain (Records rec d) pool pool_after before after fits a = went_such (one_lists new) (acted_turn o old new rules (Records rec d) pool pool_after before after fits tt a)
  acted_plain (Seals d) pool pool_after before after fits a = went_such (one_lists new) (acted_turn o old new rules (Seals d) pool pool_after before after fits tt a)
  acted_plain Clears pool pool_after before after fits a = went_such (one_lists new) (acted_turn o old new rules Clears pool pool_after before after fits tt a)
  acted_plain Ended pool pool_after before after fits a = went_such (one_lists new) (acted_turn o old new rules Ended pool pool_after before after fits tt a)

-- ---- any number of turns

called_or_not : (x : DriveAt) → IsCalled x ⊎ (IsCalled x → ⊥)
called_or_not Gone = inr (λ never. never)
called_or_not Fresh = inl tt
called_or_not (Begun recs gate kept) = inl tt
called_or_not (Found recs) = inr (λ never. never)
called_or_not Sealed = inr (λ never. never)

module _ (rules : TheRules) (calls : TheCalls) (alone : TurnsAlone) (o : Ordered) (a : Point) (run : IsRun o a.at) where
  -- a drive that a turn may call could be called from the first on
  was_called : (b : Point) → Alone o a b → (d : ℕ) → IsCalled (drive_at b.at.drives.each d) → IsCalled (drive_at a.at.drives.each d)
  was_called b still d called = called
  was_called b (turned {b = m} {c = n} before t) d called = elim (called_or_not (drive_at m.at.drives.each d)) [
    | inl then_called ↦ was_called m before d then_called
    | inr uncalled ↦ absurd ((turn_passed o m.at b.at m.pool b.pool m.world b.world (rules o a m run (alone o a m before)) t d uncalled).uncalled called)
  ]

  of_start : (b : Point) → Alone o a b → (y : Device) → IsOfRun o b.at.drives y → IsOfRun o a.at.drives y
  of_start b runs (Source s) is = is
  of_start b runs (Drive d) is = was_called b runs d is
  of_start b runs Attaching is = is
  of_start b runs Output is = tt
  of_start b runs Clock is = tt
  of_start b runs Picker is = tt

  pub own_calls : (b : Point) → Alone o a b → Went (IsOfRun o a.at.drives) NoListing a.world b.world
  own_calls b still = went_such (λ L none. subst NoListing (sym none) tt) (went_none (IsOfRun o a.at.drives) a.world)
  own_calls b (turned {b = m} {c = n} before t) =
      let here = rules o a m run (alone o a m before) in
      let went = went_on (of_start m before) (calls o m.at b.at m.pool b.pool m.world b.world here t) in
      let plain = acted_plain o m.at b.at here m.at.phase m.pool b.pool m.world b.world here.fits t in
      went_such (λ L t. subst NoListing (sym t.is) (lists_then t.first t.second t.here t.there)) (went_then (own_calls m before) (went_such (λ L s. s.1) (went_both went plain)))

pub calls_own : TheRules → TheCalls → TurnsAlone → (o : Ordered) (a b : Point) → IsRun o a.at → Alone o a b → Went (IsOfRun o a.at.drives) NoListing a.world b.world
calls_own rules calls alone o a b run runs = own_calls rules calls alone o a run b runs
