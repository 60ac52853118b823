-- The drives of a run stay its drives.
use Rattle.std.proofs.Common.{◌≡◌, inl, inr, ℕ, ◌≤◌, Bool, true, false, List, length, refl, sym, ap, ◌∙◌, arith, get_or-set_other}
use Rattle.std.specs.Prelude.{not, ◌||◌}
use Rattle.std.proofs.lemmas.Bool.{cases_eq, false≢true}
use Rattle.std.proofs.lemmas.List.{get_or-set_same}
use Rattle.fan_core.specs.Flags.{has}
use Rattle.run_state.specs.Acts.{Puts, Moves, Drops, SealsDrive}
use Rattle.run_state.specs.State.{DriveAt, Gone, Sealed, Drives, drive_at, is_gone, is_of_run}
use Rattle.run_state.proofs.Drives.{there}

-- as many drives, and of the same each is or was one of the run
pub record SameRun (old new : Drives) : Type 0 where
  pub count : length new.each ≡ length old.each
  pub of_run : (k : ℕ) → is_of_run new k ≡ is_of_run old k

pub same_run : (drives : Drives) → SameRun drives drives
same_run drives = record { count = refl; of_run = λ k. refl }

pub then_run : {old mid new : Drives} → SameRun old mid → SameRun mid new → SameRun old new
then_run one two = record { count = two.count ∙ one.count; of_run = λ k. two.of_run k ∙ one.of_run k }

-- a drive that is not gone is of the run
pub is_there : (drives : Drives) (d : ℕ) → is_gone (drive_at drives.each d) ≡ false → is_of_run drives d ≡ true
is_there drives d live = ap (λ (b : Bool). not b || has drives.dropped d) live

or_true : (b : Bool) → (b || true) ≡ true
or_true true = refl
or_true false = refl

kept : (d : ℕ) (now : DriveAt) (old new : Drives) → is_gone (drive_at old.each d) ≡ false → is_gone now ≡ false → Puts d now old.each new.each → new.dropped ≡ old.dropped → SameRun old new
kept d now old new live also_live puts dropped = record {
  count = puts.count;
  of_run = λ k. elim (cases_eq k d) [
    | inl same ↦ ap (is_of_run new) same ∙ is_there new d (ap is_gone puts.here ∙ also_live) ∙ sym (ap (is_of_run old) same ∙ is_there old d live)
    | inr ne ↦ ap (λ (x : DriveAt). not (is_gone x) || has new.dropped k) (puts.others k ne) ∙ ap (λ (set : List Bool). not (is_gone (drive_at old.each k)) || has set k) dropped
  ];
}

pub moves_run : (d : ℕ) (now : DriveAt) (old new : Drives) → is_gone (drive_at old.each d) ≡ false → is_gone now ≡ false → Moves d now old new → SameRun old new
moves_run d now old new live also_live m = kept d now old new live also_live m.each m.dropped

pub seals_run : (d : ℕ) (old new : Drives) → is_gone (drive_at old.each d) ≡ false → SealsDrive d old new → SameRun old new
seals_run d old new live m = kept d Sealed old new live refl m.each m.dropped

pub drops_run : (d : ℕ) (old new : Drives) → is_gone (drive_at old.each d) ≡ false → length old.each ≤ 8 → length old.dropped ≡ 8 → Drops d old new → SameRun old new
drops_run d old new live few wide m = record {
  count = m.each.count;
  of_run = λ k. elim (cases_eq k d) [
    | inl same ↦
        ap (is_of_run new) same ∙ ap (λ (b : Bool). not (is_gone (drive_at new.each d)) || b) here ∙ or_true (not (is_gone (drive_at new.each d))) ∙ sym (ap (is_of_run old) same ∙ is_there old d live)
    | inr ne ↦
        ap (λ (x : DriveAt). not (is_gone x) || has new.dropped k) (m.each.others k ne)
        ∙ ap (λ (b : Bool). not (is_gone (drive_at old.each k)) || b) (ap (λ (set : List Bool). has set k) m.dropped ∙ get_or-set_other old.dropped d k true false ne)
  ];
}
  where
    here : has new.dropped d ≡ true
    here = let within = there old.each d live in ap (λ (set : List Bool). has set d) m.dropped ∙ get_or-set_same old.dropped d true false (omega (arith, within, few, wide))

-- a drive that is not of the run is gone, and its line was not said
pub not_of_run : (drives : Drives) (d : ℕ) → is_of_run drives d ≡ false → (is_gone (drive_at drives.each d) ≡ true) × (has drives.dropped d ≡ false)
not_of_run drives d off = by (is_gone (drive_at drives.each d)) (has drives.dropped d) refl refl
  where
    by : (gone dropped : Bool) → is_gone (drive_at drives.each d) ≡ gone → has drives.dropped d ≡ dropped → (is_gone (drive_at drives.each d) ≡ true) × (has drives.dropped d ≡ false)
    by true false is was = (is, was)
    by true true is was = absurd (false≢true (sym off ∙ ap (λ (b : Bool). not (is_gone (drive_at drives.each d)) || b) was ∙ or_true (not (is_gone (drive_at drives.each d)))))
    by false dropped is was = absurd (false≢true (sym off ∙ is_there drives d is))

-- one of the run that is gone was dropped
pub was_dropped : (drives : Drives) (d : ℕ) → is_of_run drives d ≡ true → is_gone (drive_at drives.each d) ≡ true → has drives.dropped d ≡ true
was_dropped drives d of gone = sym (ap (λ (b : Bool). not b || has drives.dropped d) gone) ∙ of

pub gone_is : (x : DriveAt) → is_gone x ≡ true → x ≡ Gone
gone_is Gone is = refl
gone_is _ is = absurd (false≢true is)
