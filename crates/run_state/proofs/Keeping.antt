-- What is to be done next fits the drives after each act.
use Rattle.std.proofs.Common.{◌≡◌, ◌≢◌, ◌⊎◌, inl, inr, ℕ, suc, ◌<◌, ◌≤◌, Bool, true, false, List, length, slice_set, refl, sym, ◌∙◌, ap, subst, arith}
use Rattle.std.specs.Prelude.{nat_eq, nat_lt, if◌then◌else◌, Option, Some, None, is_some, option_map}
use Rattle.std.specs.List.{slice_get}
use Rattle.std.proofs.lemmas.Bool.{false≢true}
use Rattle.std.proofs.lemmas.Bool.Decides.{nat_tests}
use Rattle.std.proofs.lemmas.List.{get_or-set_other}
use Rattle.std.proofs.lemmas.Option.{slice_get_within}
use Rattle.copy_plan.specs.declared.file.PlannedFile.{PlannedFile}
use Rattle.copy_plan.specs.Plan.{PlanValue}
use Rattle.drive_journal.specs.declared.record.Gate.{Gate}
use Rattle.drive_journal.specs.declared.record.Rec.{Rec}
use Rattle.fan_core.specs.Flags.{has, lowest}
use Rattle.fan_core.proofs.Keeps.{still_live}
use Rattle.fan_core.proofs.Rules.{lowest_has, none_lowest}
use Rattle.run_state.specs.declared.phase.Phase.TheVariants.{Begins, File, Records, Seals, Clears}
use Rattle.run_state.specs.Acts.{Puts, other_listed}
use Rattle.run_state.specs.Rules.{HasAtLeast, IsOver, AllHave, BegunBefore, IsSizeOf, Fits}
use Rattle.run_state.specs.State.{Ordered, DriveAt, Gone, Fresh, Begun, Found, Sealed, Journaled, files_of, drive_at, due, IsDueNowhere, after_begin, after_file, after_record, after_seal}
use Rattle.run_state.proofs.Drives.{same_or, none_past}

-- ---- how many records

pub fewer : (i j : ℕ) (x : DriveAt) → i ≤ j → HasAtLeast j x → HasAtLeast i x
fewer i j Gone less got = tt
fewer i j Fresh less got = got
fewer i j (Begun recs gate kept) less got = omega (arith, less, got)
fewer i j (Found recs) less got = tt
fewer i j Sealed less got = tt

-- what a begun drive has
abbrev journaled : List Rec → Gate → Bool → Journaled
journaled recs gate kept = record { recs = recs; gate = gate; kept = kept }

equal : (a b : ℕ) → nat_eq a b ≡ true → a ≡ b
equal a b is = grind (arith, nat_tests)

-- a file that is not due on a drive that has a record of each before it is recorded there
pub not_due : (i : ℕ) (x : DriveAt) → due i x ≡ None → HasAtLeast i x → HasAtLeast (suc i) x
not_due i Gone none got = tt
not_due i Fresh none got = got
not_due i (Begun recs gate kept) none got = step (nat_eq (length recs) i) refl none
  where
    step : (b : Bool) → nat_eq (length recs) i ≡ b → (if b then Some (journaled recs gate kept) else None) ≡ None → suc i ≤ length recs
    step true is never = absurd (cc never)
    step false is never = grind (arith, nat_tests)
not_due i (Found recs) none got = tt
not_due i Sealed none got = tt

-- a drive on which a file is due has just so many records
pub due_begun : (i : ℕ) (x : DriveAt) (was : Journaled) → due i x ≡ Some was → (x ≡ Begun was.recs was.gate was.kept) × (length was.recs ≡ i)
due_begun i Gone was is = absurd (cc is)
due_begun i Fresh was is = absurd (cc is)
due_begun i (Begun recs gate kept) was is = step (nat_eq (length recs) i) refl is
  where
    step : (b : Bool) → nat_eq (length recs) i ≡ b → (if b then Some (journaled recs gate kept) else None) ≡ Some was → (Begun recs gate kept ≡ Begun was.recs was.gate was.kept) × (length was.recs ≡ i)
    step true same here =
        let e : journaled recs gate kept ≡ was = cc in
        (ap (λ (j : Journaled). Begun j.recs j.gate j.kept) e, sym (ap (λ (j : Journaled). length j.recs) e) ∙ equal (length recs) i same)
    step false same here = absurd (cc here)
due_begun i (Found recs) was is = absurd (cc is)
due_begun i Sealed was is = absurd (cc is)

-- ---- what comes next

less_if : (a b : ℕ) → nat_lt a b ≡ true → a < b
less_if a b is = grind (arith, nat_tests)

more_if : (a b : ℕ) → nat_lt a b ≡ false → b ≤ a
more_if a b is = grind (arith, nat_tests)

-- what holds of each drive before one more than the last, and of none, holds of all
all_of : (P : DriveAt → Type 0) (w : ℕ) (each : List DriveAt) (d : ℕ) → length each ≡ w → w ≤ suc d → P Gone → ((k : ℕ) → k < suc d → P (drive_at each k)) → (k : ℕ) → P (drive_at each k)
all_of P w each d count last none before k = step (nat_lt k (suc d)) refl
  where
    step : (b : Bool) → nat_lt k (suc d) ≡ b → P (drive_at each k)
    step true is = before k (less_if k (suc d) is)
    step false is = subst P (sym (none_past each k (let past = more_if k (suc d) is in omega (arith, past, count, last)))) none

module _ (o : Ordered) (each : List DriveAt) (w : ℕ) (count : length each ≡ w) where
  -- after the begin of a drive
  pub begin_next : (d : ℕ) → 0 < files_of o.plan → BegunBefore (suc d) each → Fits o each (after_begin w d)
  begin_next d some before = step (nat_lt (suc d) w) refl
    where
      step : (b : Bool) → nat_lt (suc d) w ≡ b → Fits o each (if b then Begins (suc d) else File 0)
      step true is = (subst (λ (n : ℕ). suc d < n) (sym count) (less_if (suc d) w is), before)
      step false is = (some, all_of (HasAtLeast 0) w each d count (more_if (suc d) w is) tt before)

  -- after a file
  pub file_next : (i : ℕ) → 1 ≤ w → i < files_of o.plan → AllHave (suc i) each → Fits o each (after_file (files_of o.plan) i)
  file_next i some within have = step (nat_lt (suc i) (files_of o.plan)) refl
    where
      step : (b : Bool) → nat_lt (suc i) (files_of o.plan) ≡ b → Fits o each (if b then File (suc i) else Seals 0)
      step true is = (less_if (suc i) (files_of o.plan) is, have)
      step false is = record {
        there = subst (λ (n : ℕ). 0 < n) (sym count) some;
        before = λ k early. absurd (omega (arith, early));
        have = λ k. fewer (files_of o.plan) (suc i) (drive_at each k) (more_if (suc i) (files_of o.plan) is) (have k);
      }

  -- after a file was recorded on a drive
  pub record_next : (rec : Rec) (d : ℕ) → 1 ≤ w → rec.index < files_of o.plan → IsSizeOf o.plan rec.index rec.size → other_listed o.listed rec.index rec.triple ≡ None → ((k : ℕ) → k < suc d → HasAtLeast (suc rec.index) (drive_at each k)) → AllHave rec.index each
      → Fits o each (after_record w (files_of o.plan) rec d)
  record_next rec d some within sized agrees before have = step (nat_lt (suc d) w) refl
    where
      step : (b : Bool) → nat_lt (suc d) w ≡ b → Fits o each (if b then Records rec (suc d) else after_file (files_of o.plan) rec.index)
      step true is = record { there = subst (λ (n : ℕ). suc d < n) (sym count) (less_if (suc d) w is); sized = sized; agrees = agrees; before = before; have = have }
      step false is = file_next rec.index some within (all_of (HasAtLeast (suc rec.index)) w each d count (more_if (suc d) w is) tt before)

  -- after a drive was sealed
  pub seal_next : (d : ℕ) → ((k : ℕ) → k < suc d → IsOver (drive_at each k)) → AllHave (files_of o.plan) each → Fits o each (after_seal w d)
  seal_next d before have = step (nat_lt (suc d) w) refl
    where
      step : (b : Bool) → nat_lt (suc d) w ≡ b → Fits o each (if b then Seals (suc d) else Clears)
      step true is = record { there = subst (λ (n : ℕ). suc d < n) (sym count) (less_if (suc d) w is); before = before; have = have }
      step false is = all_of IsOver w each d count (more_if (suc d) w is) tt before

-- a file of which the size is known is one of the plan
pub sized_within : (p : PlanValue) (i size : ℕ) → IsSizeOf p i size → i < files_of p
sized_within p i size is = step (slice_get p.files i) refl is
  where
    step : (found : Option PlannedFile) → slice_get p.files i ≡ found → option_map (λ (f : PlannedFile). f.size) found ≡ Some size → i < files_of p
    step None at never = absurd (cc never)
    step (Some f) at size_is = slice_get_within p.files i f at

-- ---- a copy goes on

-- a set without one of its drives
without_has : (live : List Bool) (d k : ℕ) (b : Bool) → has (slice_set live d false) k ≡ b → k ≡ d → b ≡ false
without_has live d k true is same = absurd ((still_live live d k is).1 same)
without_has live d k false is same = refl

-- a file is due nowhere else, once a drive of the copy is gone, than on the others
pub live_still : (i d : ℕ) (old new : List DriveAt) (live : List Bool) → ((k : ℕ) → has live k ≡ is_some (due i (drive_at old k))) → Puts d Gone old new
    → (k : ℕ) → has (slice_set live d false) k ≡ is_some (due i (drive_at new k))
live_still i d old new live were p k = step (same_or k d)
  where
    step : (k ≡ d) ⊎ (k ≢ d) → has (slice_set live d false) k ≡ is_some (due i (drive_at new k))
    step (inl e) = without_has live d k (has (slice_set live d false) k) refl e ∙ sym (ap (λ (x : DriveAt). is_some (due i x)) (ap (drive_at new) e ∙ p.here))
    step (inr other) = get_or-set_other live d k false false other ∙ were k ∙ ap (λ (x : DriveAt). is_some (due i x)) (sym (p.others k other))

-- where no drive is left in a copy, its file is recorded wherever it was due
pub none_due : (i : ℕ) (each : List DriveAt) (live : List Bool) → ((k : ℕ) → has live k ≡ is_some (due i (drive_at each k))) → lowest live ≡ None → AllHave i each → AllHave (suc i) each
none_due i each live are none have k = step (due i (drive_at each k)) refl
  where
    step : (found : Option Journaled) → due i (drive_at each k) ≡ found → HasAtLeast (suc i) (drive_at each k)
    step None is = not_due i (drive_at each k) is (have k)
    step (Some was) is = absurd (false≢true (sym (none_lowest live none k) ∙ are k ∙ ap (λ (f : Option Journaled). is_some f) is))

-- where a drive is left in a copy, its file is due somewhere
pub due_somewhere : (i : ℕ) (each : List DriveAt) (live : List Bool) → ((k : ℕ) → has live k ≡ is_some (due i (drive_at each k))) → lowest live ≢ None → IsDueNowhere i each → ⊥
due_somewhere i each live are some nowhere = step (lowest live) refl
  where
    step : (found : Option ℕ) → lowest live ≡ found → ⊥
    step None is = some is
    step (Some d) is = false≢true (sym (ap (λ (f : Option Journaled). is_some f) (nowhere d)) ∙ sym (are d) ∙ lowest_has live d is)
