-- Drives that are begun, drives on which a file is due, and the drives of a run as it is made.
use Rattle.std.proofs.Common.{◌≡◌, ◌≢◌, ℕ, suc, ◌<◌, ◌≤◌, Bool, true, false, List, [], ◌∷◌, ◌++◌, length, refl, sym, ap, ◌∙◌, arith}
use Rattle.std.specs.Prelude.{not, ◌||◌, if◌then◌else◌}
use Rattle.std.proofs.lemmas.Bool.{false≢true}
use Rattle.copy_plan.specs.Plan.{PlanValue}
use Rattle.drive_journal.specs.Look.{next_gate}
use Rattle.drive_journal.proofs.Entries.{records_few}
use Rattle.fan_core.specs.Flags.{has, no_drives}
use Rattle.fan_core.proofs.Rules.{none_lowest}
use Rattle.run_state.specs.Acts.{records_at, begun_at}
use Rattle.run_state.specs.Rules.{FitsPlan, IsStart}
use Rattle.run_state.specs.State.{Ordered, DriveAt, Gone, Fresh, Begun as BegunDrive, Found, Sealed as SealedDrive, At, Journaled, files_of, drive_at, is_gone, is_sealed, is_of_run, count_sealed}
use Rattle.run_state.proofs.Drives.{there}
use Rattle.run_lines.specs.Words.{Mark, Begun, Lost, Fault}
use Rattle.run_lines.proofs.Marks.{SaysRecords, Told, HasFew, told_begun, told_unbegun}

-- ---- drives that are begun

-- it has no journal, or records
abbrev pub CanBegin : DriveAt → Type 0
CanBegin Fresh = Unit {0}
CanBegin (BegunDrive recs gate kept) = Unit {0}
CanBegin _ = ⊥

pub can_begin_live : (x : DriveAt) → CanBegin x → (is_gone x ≡ false) × (is_sealed x ≡ false)
can_begin_live Fresh can = (refl, refl)
can_begin_live (BegunDrive recs gate kept) can = (refl, refl)
can_begin_live Gone can = absurd can
can_begin_live (Found recs) can = absurd can
can_begin_live SealedDrive can = absurd can

pub begun_live : (p : PlanValue) (x : DriveAt) → CanBegin x → (is_gone (begun_at p x) ≡ false) × (is_sealed (begun_at p x) ≡ false)
begun_live p Fresh can = (refl, refl)
begun_live p (BegunDrive recs gate kept) can = (refl, refl)
begun_live p Gone can = absurd can
begun_live p (Found recs) can = absurd can
begun_live p SealedDrive can = absurd can

pub unbegun : (n : ℕ) (was x : DriveAt) (marks : List Mark) → CanBegin x → Told n was x false marks → (was ≡ x) × (marks ≡ [])
unbegun n was Fresh marks can t = t
unbegun n was (BegunDrive recs gate kept) marks can t = t
unbegun n was Gone marks can t = absurd can
unbegun n was (Found recs) marks can t = absurd can
unbegun n was SealedDrive marks can t = absurd can

pub begun_told : (p : PlanValue) (x : DriveAt) (marks : List Mark) → CanBegin x → marks ≡ [] → Told (files_of p) x (begun_at p x) true (marks ++ Begun (length (records_at x)) ∷ [])
begun_told p Fresh marks can none = told_begun (files_of p) Fresh [] (next_gate p 0) false refl refl marks none
begun_told p (BegunDrive recs gate kept) marks can none = told_begun (files_of p) (BegunDrive recs gate kept) recs gate kept refl refl marks none
begun_told p Gone marks can none = absurd can
begun_told p (Found recs) marks can none = absurd can
begun_told p SealedDrive marks can none = absurd can

pub unbegun_told : (n : ℕ) (x : DriveAt) (marks : List Mark) → CanBegin x → marks ≡ [] → Told n x Gone true (marks ++ Lost Fault ∷ [])
unbegun_told n Fresh marks can none = told_unbegun n Fresh Fault refl marks none
unbegun_told n (BegunDrive recs gate kept) marks can none = told_unbegun n (BegunDrive recs gate kept) Fault refl marks none
unbegun_told n Gone marks can none = absurd can
unbegun_told n (Found recs) marks can none = absurd can
unbegun_told n SealedDrive marks can none = absurd can

-- ---- a run as it is made

-- no drive is sealed
pub none_sealed : (each : List DriveAt) → ((k : ℕ) → is_sealed (drive_at each k) ≡ false) → count_sealed each ≡ 0
none_sealed [] none = refl
none_sealed (x ∷ each) none = ap (λ (b : Bool). if b then suc (count_sealed each) else count_sealed each) (none 0) ∙ none_sealed each (λ k. none (suc k))

pub not_sealed : (x : DriveAt) → x ≢ SealedDrive → is_sealed x ≡ false
not_sealed SealedDrive ne = absurd (ne refl)
not_sealed _ ne = refl

pub few_at : (p : PlanValue) (x : DriveAt) → FitsPlan p x → HasFew (files_of p) x
few_at p (BegunDrive recs gate kept) fits = records_few 0 p.files recs fits.0
few_at p Gone fits = tt
few_at p Fresh fits = tt
few_at p (Found recs) fits = tt
few_at p SealedDrive fits = tt

-- a drive on which a file is due, and what was said of it
pub record IsDueOn (n : ℕ) (was x : DriveAt) (marks : List Mark) (i : ℕ) (j : Journaled) : Type 0 where
  pub live : is_gone x ≡ false
  pub unsealed : is_sealed x ≡ false
  pub index : length j.recs ≡ i
  pub few : length j.recs ≤ n
  pub told : SaysRecords n was j.recs marks

-- a drive of a run as it is made: it is not gone, and has a number of one digit
pub record IsAtStart (each : List DriveAt) (d : ℕ) : Type 0 where
  pub live : is_gone (drive_at each d) ≡ false
  pub low : d < 10

pub at_start : (o : Ordered) (at : At) → IsStart o at → (d : ℕ) → is_of_run at.drives d ≡ true → IsAtStart at.drives.each d
at_start o at start d of = by (is_gone (drive_at at.drives.each d)) refl
  where
    none : has at.drives.dropped d ≡ false
    none = ap (λ (set : List Bool). has set d) start.sets.1 ∙ none_lowest no_drives refl d

    by : (gone : Bool) → is_gone (drive_at at.drives.each d) ≡ gone → IsAtStart at.drives.each d
    by false is = record { live = is; low = let within = there at.drives.each d is in let few = start.run.drives.few in omega (arith, within, few) }
    by true is = absurd (false≢true (sym none ∙ sym (ap (λ (b : Bool). not b || has at.drives.dropped d) is) ∙ of))

-- as a run is made no drive is sealed
pub unsealed : {o : Ordered} {at : At} → IsStart o at → (d : ℕ) → drive_at at.drives.each d ≢ SealedDrive
unsealed start d is = false≢true (sym (none_lowest no_drives refl d) ∙ ap (λ (l : List Bool). has l d) (sym start.sets.0) ∙ start.run.drives.said d ∙ ap is_sealed is)
