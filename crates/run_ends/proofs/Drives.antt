-- The drives of a run by their numbers, and what a turn leaves of them.
use Rattle.std.proofs.Common.{◌≡◌, ◌≢◌, ◌⊎◌, inl, inr, ℕ, zero, suc, ◌^◌, ◌<◌, Bool, true, false, List, [], ◌∷◌, length, refl, sym, ap, ◌∙◌, subst, arith, get_or-set_other}
use Rattle.std.specs.Prelude.{Option, Some, None, is_some, not, ◌||◌, if◌then◌else◌}
use Rattle.std.proofs.lemmas.Bool.{cases_eq, false≢true}
use Rattle.std.proofs.lemmas.List.{get_or-set_same}
use Rattle.fan_core.specs.Flags.{has, lowest}
use Rattle.fan_core.proofs.Rules.{lowest_has}
use Rattle.fan_copier.specs.declared.copy.FileCopy.{FileCopy}
use Rattle.fan_copier.specs.Copying.{live_of}
use Rattle.run_state.specs.Acts.{Puts, Drops}
use Rattle.run_state.specs.Rules.{IsOver, FitsCopy, IsRun}
use Rattle.run_state.specs.State.{Ordered, DriveAt, Gone, Fresh, Begun, Found, Sealed, Drives, At, Journaled, drive_at, is_gone, is_sealed, is_of_run, count_sealed, due, IsDueNowhere}
use Rattle.run_ends.specs.Whole.{count_there}

-- ---- one drive

pub drive_within : (each : List DriveAt) (d : ℕ) → is_gone (drive_at each d) ≡ false → d < length each
drive_within [] d is = absurd (false≢true (sym is))
drive_within (x ∷ each) zero is = omega arith
drive_within (x ∷ each) (suc d) is = let rest = drive_within each d is in omega (arith, rest)

pub has_within : (set : List Bool) (d : ℕ) → has set d ≡ true → d < length set
has_within [] d is = absurd (false≢true is)
has_within (x ∷ set) zero is = omega arith
has_within (x ∷ set) (suc d) is = let rest = has_within set d is in omega (arith, rest)

-- a drive that is or was of the run is not gone, or was dropped
pub of_run_or : (drives : Drives) (d : ℕ) → is_of_run drives d ≡ true → (is_gone (drive_at drives.each d) ≡ false) ⊎ (has drives.dropped d ≡ true)
of_run_or drives d of = by (is_gone (drive_at drives.each d)) of
  where
    by : (g : Bool) → (not g || has drives.dropped d) ≡ true → (g ≡ false) ⊎ (has drives.dropped d ≡ true)
    by true of = inr of
    by false of = inl refl

pub of_run : (drives : Drives) (d : ℕ) → is_gone (drive_at drives.each d) ≡ false → is_of_run drives d ≡ true
of_run drives d there = ap (λ (g : Bool). not g || has drives.dropped d) there

-- it has a short number
pub low : (o : Ordered) (at : At) → IsRun o at → (d : ℕ) → is_of_run at.drives d ≡ true → d < 2 ^ 64
low o at run d of = elim (of_run_or at.drives d of) [
  | inl there ↦ let within = drive_within at.drives.each d there in let few = run.drives.few in omega (arith, within, few)
  | inr lost ↦ let within = has_within at.drives.dropped d lost in let eight = run.drives.sets.1 in omega (arith, within, eight)
]

-- a drive on which a file is due
pub due_there : (i : ℕ) (x : DriveAt) → is_some (due i x) ≡ true → is_gone x ≡ false
due_there i Gone some = absurd (false≢true some)
due_there i Fresh some = refl
due_there i (Begun recs gate kept) some = refl
due_there i (Found recs) some = refl
due_there i Sealed some = refl

pub due_not_over : (i : ℕ) (x : DriveAt) → is_some (due i x) ≡ true → IsOver x → ⊥
due_not_over i Gone some over = false≢true some
due_not_over i Fresh some over = over
due_not_over i (Begun recs gate kept) some over = over
due_not_over i (Found recs) some over = over
due_not_over i Sealed some over = false≢true some

pub due_is : (i : ℕ) (x : DriveAt) (was : Journaled) → due i x ≡ Some was → is_some (due i x) ≡ true
due_is i x was is = ap (λ (f : Option Journaled). is_some f) is

-- ---- some drive

-- a file that is not due nowhere is due somewhere
pub due_somewhere : (i : ℕ) (each : List DriveAt) → (IsDueNowhere i each → ⊥) → (d : ℕ) × (is_some (due i (drive_at each d)) ≡ true)
due_somewhere i [] not_none = absurd (not_none (λ d. refl))
due_somewhere i (x ∷ each) not_none = by (due i x) refl (λ nowhere. due_somewhere i each nowhere)
  where
    none : due i x ≡ None → IsDueNowhere i each → IsDueNowhere i (x ∷ each)
    none here rest zero = here
    none here rest (suc d) = rest d

    by : (found : Option Journaled) → due i x ≡ found → ((IsDueNowhere i each → ⊥) → (d : ℕ) × (is_some (due i (drive_at each d)) ≡ true)) → (d : ℕ) × (is_some (due i (drive_at (x ∷ each) d)) ≡ true)
    by (Some was) is further = (0, due_is i x was is)
    by None is further = let rest = further (λ nowhere. not_none (none is nowhere)) in (suc rest.0, rest.1)

-- a copy has a drive on which its file is due
pub copied_somewhere : (o : Ordered) (each : List DriveAt) (i : ℕ) (copy : FileCopy) → FitsCopy o each i copy → (d : ℕ) × (is_some (due i (drive_at each d)) ≡ true)
copied_somewhere o each i copy fits = by (lowest (live_of copy)) refl
  where
    by : (found : Option ℕ) → lowest (live_of copy) ≡ found → (d : ℕ) × (is_some (due i (drive_at each d)) ≡ true)
    by None is = absurd (fits.some is)
    by (Some d) is = (d, sym (fits.live d) ∙ lowest_has (live_of copy) d is)

-- ---- sealed drives

-- none is sealed
pub none_sealed : (each : List DriveAt) → count_sealed each ≡ 0 → (d : ℕ) → is_sealed (drive_at each d) ≡ false
none_sealed [] none d = refl
none_sealed (x ∷ each) none d = by (is_sealed x) refl none (λ rest k. none_sealed each rest k) d
  where
    by : (b : Bool) → is_sealed x ≡ b → (if b then suc (count_sealed each) else count_sealed each) ≡ 0 → (count_sealed each ≡ 0 → (k : ℕ) → is_sealed (drive_at each k) ≡ false) → (d : ℕ) → is_sealed (drive_at (x ∷ each) d) ≡ false
    by true is none further d = absurd (omega (arith, none))
    by false is none further zero = is
    by false is none further (suc d) = further none d

-- some drive is
pub some_sealed : (each : List DriveAt) → count_sealed each ≢ 0 → (d : ℕ) × (is_sealed (drive_at each d) ≡ true)
some_sealed [] some = absurd (some refl)
some_sealed (x ∷ each) some = by (is_sealed x) refl some (λ rest. some_sealed each rest)
  where
    by : (b : Bool) → is_sealed x ≡ b → (if b then suc (count_sealed each) else count_sealed each) ≢ 0 → (count_sealed each ≢ 0 → (d : ℕ) × (is_sealed (drive_at each d) ≡ true)) → (d : ℕ) × (is_sealed (drive_at (x ∷ each) d) ≡ true)
    by true is some further = (0, is)
    by false is some further = let rest = further some in (suc rest.0, rest.1)

-- a drive with which nothing is left to be done is gone or sealed
pub over_gone : (x : DriveAt) → IsOver x → is_sealed x ≡ false → is_gone x ≡ true
over_gone Gone over is = refl
over_gone Fresh over is = absurd over
over_gone (Begun recs gate kept) over is = absurd over
over_gone (Found recs) over is = absurd over
over_gone Sealed over is = absurd (false≢true (sym is))

pub over_sealed : (x : DriveAt) → IsOver x → is_gone x ≡ false → is_sealed x ≡ true
over_sealed Gone over is = absurd (false≢true (sym is))
over_sealed Fresh over is = absurd over
over_sealed (Begun recs gate kept) over is = absurd over
over_sealed (Found recs) over is = absurd over
over_sealed Sealed over is = refl

pub sealed_there : (x : DriveAt) → is_sealed x ≡ true → is_gone x ≡ false
sealed_there Gone is = absurd (false≢true is)
sealed_there Fresh is = refl
sealed_there (Begun recs gate kept) is = refl
sealed_there (Found recs) is = refl
sealed_there Sealed is = refl

pub gone_over : (x : DriveAt) → is_gone x ≡ true → IsOver x
gone_over Gone is = tt
gone_over Fresh is = absurd (false≢true is)
gone_over (Begun recs gate kept) is = absurd (false≢true is)
gone_over (Found recs) is = absurd (false≢true is)
gone_over Sealed is = absurd (false≢true is)

pub sealed_over : (x : DriveAt) → is_sealed x ≡ true → IsOver x
sealed_over Gone is = tt
sealed_over Fresh is = absurd (false≢true is)
sealed_over (Begun recs gate kept) is = absurd (false≢true is)
sealed_over (Found recs) is = absurd (false≢true is)
sealed_over Sealed is = tt

pub gone_unsealed : (x : DriveAt) → is_gone x ≡ true → is_sealed x ≡ false
gone_unsealed Gone is = refl
gone_unsealed Fresh is = refl
gone_unsealed (Begun recs gate kept) is = refl
gone_unsealed (Found recs) is = refl
gone_unsealed Sealed is = absurd (false≢true is)

-- where just the drives that were of the run are sealed, so many are
pub sealed_count : (old new : List DriveAt) → ((k : ℕ) → is_sealed (drive_at new k) ≡ not (is_gone (drive_at old k))) → count_sealed new ≡ count_there old
sealed_count [] [] same = refl
sealed_count (x ∷ old) [] same = by (is_gone x) (same 0) (sealed_count old [] (λ k. same (suc k)))
  where
    by : (gone : Bool) → false ≡ not gone → 0 ≡ count_there old → 0 ≡ (if gone then count_there old else suc (count_there old))
    by true is rest = rest
    by false is rest = absurd (false≢true is)
sealed_count [] (y ∷ new) same = by (is_sealed y) (same 0) (sealed_count [] new (λ k. same (suc k)))
  where
    by : (sealed : Bool) → sealed ≡ false → count_sealed new ≡ 0 → (if sealed then suc (count_sealed new) else count_sealed new) ≡ 0
    by true is rest = absurd (false≢true (sym is))
    by false is rest = rest
sealed_count (x ∷ old) (y ∷ new) same = by (is_sealed y) (is_gone x) (same 0) (sealed_count old new (λ k. same (suc k)))
  where
    by : (sealed gone : Bool) → sealed ≡ not gone → count_sealed new ≡ count_there old → (if sealed then suc (count_sealed new) else count_sealed new) ≡ (if gone then count_there old else suc (count_there old))
    by true true is rest = absurd (false≢true (sym is))
    by true false is rest = ap suc rest
    by false true is rest = rest
    by false false is rest = absurd (false≢true is)

-- ---- one drive stands otherwise

-- each drive is gone if it was
pub still_there : (d : ℕ) (now : DriveAt) (old new : List DriveAt) → Puts d now old new → is_gone (drive_at old d) ≡ false → is_gone now ≡ false → (k : ℕ) → is_gone (drive_at new k) ≡ is_gone (drive_at old k)
still_there d now old new p was is k = elim (cases_eq k d) [
  | inl same ↦ subst (λ (n : ℕ). is_gone (drive_at new n) ≡ is_gone (drive_at old n)) (sym same) (ap is_gone p.here ∙ is ∙ sym was)
  | inr differ ↦ ap is_gone (p.others k differ)
]

module _ (d : ℕ) (old new : Drives) (there : is_gone (drive_at old.each d) ≡ false) (wide : d < length old.dropped) (drops : Drops d old new) where
  -- a drive that was dropped is gone, and among the dropped ones
  pub dropped_here : has new.dropped d ≡ true
  dropped_here = ap (λ (set : List Bool). has set d) drops.dropped ∙ get_or-set_same old.dropped d true false wide

  -- the run has the drives that it had
  pub dropped_of_run : (k : ℕ) → is_of_run new k ≡ is_of_run old k
  dropped_of_run k = elim (cases_eq k d) [
    | inl same ↦ subst (λ (n : ℕ). is_of_run new n ≡ is_of_run old n) (sym same) (now ∙ sym (of_run old d there))
    | inr differ ↦ ap (λ (x : DriveAt). not (is_gone x) || has new.dropped k) (drops.each.others k differ)
        ∙ ap (λ (b : Bool). not (is_gone (drive_at old.each k)) || b) (ap (λ (set : List Bool). has set k) drops.dropped ∙ get_or-set_other old.dropped d k true false differ)
  ]
    where
      now : is_of_run new d ≡ true
      now = ap (λ (x : DriveAt). not (is_gone x) || has new.dropped d) drops.each.here ∙ dropped_here

  -- and each that was gone is
  pub dropped_gone : (k : ℕ) → is_gone (drive_at old.each k) ≡ true → is_gone (drive_at new.each k) ≡ true
  dropped_gone k gone = elim (cases_eq k d) [
    | inl same ↦ ap (λ (n : ℕ). is_gone (drive_at new.each n)) same ∙ ap is_gone drops.each.here
    | inr differ ↦ ap is_gone (drops.each.others k differ) ∙ gone
  ]
