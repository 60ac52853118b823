-- The drives of a run fit its plan after each act.
use Rattle.std.proofs.Common.{◌≡◌, ◌≢◌, ◌⊎◌, inl, inr, ℕ, zero, suc, ◌<◌, ◌≤◌, Bool, true, false, List, [], ◌∷◌, length, refl, sym, ◌∙◌, ap, subst, arith, length-set}
use Rattle.std.specs.Prelude.{eqb}
use Rattle.std.proofs.lemmas.Bool.{false≢true}
use Rattle.std.proofs.lemmas.Bool.Decides.{eqb_tells}
use Rattle.std.proofs.lemmas.List.{get_or-set_same, get_or-set_other}
use Rattle.copy_plan.specs.Plan.{PlanValue}
use Rattle.fan_core.specs.Flags.{has}
use Rattle.run_state.specs.Acts.{Puts, Moves, Drops, SealsDrive}
use Rattle.run_state.specs.Rules.{FitsPlan, FitDrives}
use Rattle.run_state.specs.State.{DriveAt, Gone, Sealed, Drives, drive_at, is_gone, is_sealed}

-- a number is this one or another
pub same_or : (k d : ℕ) → (k ≡ d) ⊎ (k ≢ d)
same_or k d = step (eqb_tells k d)
  where
    step : ((eqb k d ≡ true) × (k ≡ d)) ⊎ ((eqb k d ≡ false) × (k ≢ d)) → (k ≡ d) ⊎ (k ≢ d)
    step (inl is) = inl is.1
    step (inr is) = inr is.1

-- behind the last drive there is none
pub none_past : (each : List DriveAt) (k : ℕ) → length each ≤ k → drive_at each k ≡ Gone
none_past [] k past = refl
none_past (x ∷ each) zero past = absurd (omega arith)
none_past (x ∷ each) (suc k) past = none_past each k (omega arith)

-- a drive that is not gone is one of those that there are
pub there : (each : List DriveAt) (d : ℕ) → is_gone (drive_at each d) ≡ false → d < length each
there [] d is = absurd (false≢true (sym is))
there (x ∷ each) zero is = omega arith
there (x ∷ each) (suc d) is = let rest = there each d is in omega (arith, rest)

-- what holds of each drive, and of where this one now stands
pub puts_all : (P : DriveAt → Type 0) (d : ℕ) (now : DriveAt) (old new : List DriveAt) → ((k : ℕ) → P (drive_at old k)) → P now → Puts d now old new → (k : ℕ) → P (drive_at new k)
puts_all P d now old new before here p k = step (same_or k d)
  where
    step : (k ≡ d) ⊎ (k ≢ d) → P (drive_at new k)
    step (inl e) = subst P (sym (ap (drive_at new) e ∙ p.here)) here
    step (inr other) = subst P (sym (p.others k other)) (before k)

-- what holds of each drive before another
pub puts_before : (P : DriveAt → Type 0) (d e : ℕ) (now : DriveAt) (old new : List DriveAt) → ((k : ℕ) → k < e → P (drive_at old k)) → P now → Puts d now old new → (k : ℕ) → k < e → P (drive_at new k)
puts_before P d e now old new before here p k early = step (same_or k d)
  where
    step : (k ≡ d) ⊎ (k ≢ d) → P (drive_at new k)
    step (inl is) = subst P (sym (ap (drive_at new) is ∙ p.here)) here
    step (inr other) = subst P (sym (p.others k other)) (before k early)

-- what holds of each drive up to this one, if it held of those before it
pub puts_next : (P : DriveAt → Type 0) (d : ℕ) (now : DriveAt) (old new : List DriveAt) → ((k : ℕ) → k < d → P (drive_at old k)) → P now → Puts d now old new → (k : ℕ) → k < suc d → P (drive_at new k)
puts_next P d now old new before here p k early = step (same_or k d)
  where
    step : (k ≡ d) ⊎ (k ≢ d) → P (drive_at new k)
    step (inl is) = subst P (sym (ap (drive_at new) is ∙ p.here)) here
    step (inr other) = subst P (sym (p.others k other)) (before k (omega (arith, early, other)))

module _ (p : PlanValue) (d : ℕ) (old new : Drives) (f : FitDrives p old) where
  -- a drive that was neither gone nor sealed stands otherwise
  pub moves_fit : (now : DriveAt) → is_gone (drive_at old.each d) ≡ false → is_sealed (drive_at old.each d) ≡ false → FitsPlan p now → is_sealed now ≡ false → Moves d now old new → FitDrives p new
  moves_fit now live unsealed fits more m = record {
    some = subst (λ (n : ℕ). 1 ≤ n) (sym m.each.count) f.some;
    few = subst (λ (n : ℕ). n ≤ 8) (sym m.each.count) f.few;
    each = puts_all (FitsPlan p) d now old.each new.each f.each fits m.each;
    sets = (ap (λ (l : List Bool). length l) m.sealed ∙ f.sets.0, ap (λ (l : List Bool). length l) m.dropped ∙ f.sets.1);
    said = λ k. said_at k (same_or k d);
    lost = λ k was. lost_at k was (same_or k d);
  }
    where
      said_at : (k : ℕ) → (k ≡ d) ⊎ (k ≢ d) → has new.sealed k ≡ is_sealed (drive_at new.each k)
      said_at k (inl e) = ap (λ (l : List Bool). has l k) m.sealed ∙ f.said k ∙ ap (λ (j : ℕ). is_sealed (drive_at old.each j)) e ∙ unsealed ∙ sym more
          ∙ ap is_sealed (sym m.each.here) ∙ ap (λ (j : ℕ). is_sealed (drive_at new.each j)) (sym e)
      said_at k (inr other) = ap (λ (l : List Bool). has l k) m.sealed ∙ f.said k ∙ ap is_sealed (sym (m.each.others k other))

      lost_at : (k : ℕ) → has new.dropped k ≡ true → (k ≡ d) ⊎ (k ≢ d) → drive_at new.each k ≡ Gone
      lost_at k was (inl e) = absurd (false≢true (sym live ∙ ap (λ (j : ℕ). is_gone (drive_at old.each j)) (sym e) ∙ ap is_gone (f.lost k (ap (λ (l : List Bool). has l k) (sym m.dropped) ∙ was))))
      lost_at k was (inr other) = m.each.others k other ∙ f.lost k (ap (λ (l : List Bool). has l k) (sym m.dropped) ∙ was)

  -- a drive that was not sealed was dropped
  pub drops_fit : is_sealed (drive_at old.each d) ≡ false → Drops d old new → FitDrives p new
  drops_fit unsealed m = record {
    some = subst (λ (n : ℕ). 1 ≤ n) (sym m.each.count) f.some;
    few = subst (λ (n : ℕ). n ≤ 8) (sym m.each.count) f.few;
    each = puts_all (FitsPlan p) d Gone old.each new.each f.each tt m.each;
    sets = (ap (λ (l : List Bool). length l) m.sealed ∙ f.sets.0, ap (λ (l : List Bool). length l) m.dropped ∙ length-set old.dropped d true ∙ f.sets.1);
    said = λ k. said_at k (same_or k d);
    lost = λ k was. lost_at k was (same_or k d);
  }
    where
      said_at : (k : ℕ) → (k ≡ d) ⊎ (k ≢ d) → has new.sealed k ≡ is_sealed (drive_at new.each k)
      said_at k (inl e) = ap (λ (l : List Bool). has l k) m.sealed ∙ f.said k ∙ ap (λ (j : ℕ). is_sealed (drive_at old.each j)) e ∙ unsealed
          ∙ ap is_sealed (sym m.each.here) ∙ ap (λ (j : ℕ). is_sealed (drive_at new.each j)) (sym e)
      said_at k (inr other) = ap (λ (l : List Bool). has l k) m.sealed ∙ f.said k ∙ ap is_sealed (sym (m.each.others k other))

      lost_at : (k : ℕ) → has new.dropped k ≡ true → (k ≡ d) ⊎ (k ≢ d) → drive_at new.each k ≡ Gone
      lost_at k was (inl e) = ap (drive_at new.each) e ∙ m.each.here
      lost_at k was (inr other) = m.each.others k other ∙ f.lost k (sym (get_or-set_other old.dropped d k true false other) ∙ ap (λ (l : List Bool). has l k) (sym m.dropped) ∙ was)

  -- a drive that was neither gone nor sealed was sealed
  pub seals_fit : is_gone (drive_at old.each d) ≡ false → SealsDrive d old new → FitDrives p new
  seals_fit live m = record {
    some = subst (λ (n : ℕ). 1 ≤ n) (sym m.each.count) f.some;
    few = subst (λ (n : ℕ). n ≤ 8) (sym m.each.count) f.few;
    each = puts_all (FitsPlan p) d Sealed old.each new.each f.each tt m.each;
    sets = (ap (λ (l : List Bool). length l) m.sealed ∙ length-set old.sealed d true ∙ f.sets.0, ap (λ (l : List Bool). length l) m.dropped ∙ f.sets.1);
    said = λ k. said_at k (same_or k d);
    lost = λ k was. lost_at k was (same_or k d);
  }
    where
      within : d < length old.sealed
      within = let few = f.few in let here = there old.each d live in let eight = f.sets.0 in omega (arith, few, here, eight)

      said_at : (k : ℕ) → (k ≡ d) ⊎ (k ≢ d) → has new.sealed k ≡ is_sealed (drive_at new.each k)
      said_at k (inl e) = ap (has new.sealed) e ∙ ap (λ (l : List Bool). has l d) m.sealed ∙ get_or-set_same old.sealed d true false within
          ∙ ap is_sealed (sym m.each.here) ∙ ap (λ (j : ℕ). is_sealed (drive_at new.each j)) (sym e)
      said_at k (inr other) = ap (λ (l : List Bool). has l k) m.sealed ∙ get_or-set_other old.sealed d k true false other ∙ f.said k ∙ ap is_sealed (sym (m.each.others k other))

      lost_at : (k : ℕ) → has new.dropped k ≡ true → (k ≡ d) ⊎ (k ≢ d) → drive_at new.each k ≡ Gone
      lost_at k was (inl e) = absurd (false≢true (sym live ∙ ap (λ (j : ℕ). is_gone (drive_at old.each j)) (sym e) ∙ ap is_gone (f.lost k (ap (λ (l : List Bool). has l k) (sym m.dropped) ∙ was))))
      lost_at k was (inr other) = m.each.others k other ∙ f.lost k (ap (λ (l : List Bool). has l k) (sym m.dropped) ∙ was)
