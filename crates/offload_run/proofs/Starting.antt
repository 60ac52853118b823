-- A run as it is made of an order.
use Rattle.std.proofs.Common.{◌≡◌, ℕ, zero, suc, ◌≤◌, Bool, false, List, [], ◌∷◌, length, map, refl, sym, ◌∙◌, ap, subst, arith}
use Rattle.std.specs.Prelude.{Option, Some, None, IfSome, Vec, option_map}
use Rattle.std.specs.Global.{Global}
use Rattle.std.specs.List.{AllByRecursion}
use Rattle.std.specs.Coded.{×_prop, Unit-prop, le_prop}
use Rattle.std.proofs.Math.Logic.{∥∥₁_elim, ∥∥₁_map}
use Rattle.std.proofs.Math.Nat.{ℕ_set}
use Rattle.std.proofs.lemmas.Bool.{false≢true}
use Rattle.std.proofs.lemmas.List.{length-map}
use Rattle.copy_plan.specs.declared.file.PlannedFile.{PlannedFile}
use Rattle.copy_plan.specs.Plan.{PlanValue, IsPlan}
use Rattle.drive_journal.specs.declared.order.DriveStart.{DriveStart}
use Rattle.drive_journal.specs.declared.order.DriveStart.TheVariants.{Gone as GoneStart, Fresh as FreshStart, Begun as BegunStart, Sealed as SealedStart}
use Rattle.drive_journal.specs.declared.order.Listed.{Listed}
use Rattle.drive_journal.specs.declared.record.Gate.{Gate}
use Rattle.drive_journal.specs.declared.record.Rec.{Rec}
use Rattle.drive_journal.specs.Journal.{IsShape, IsRecord, AreRecords}
use Rattle.drive_journal.specs.Look.{next_gate}
use Rattle.drive_journal.specs.Order.{Fits as FitsStart, IsOrder}
use Rattle.drive_journal.proofs.Entries.{records_few}
use Rattle.fan_core.specs.Flags.{has, no_drives}
use Rattle.fan_core.proofs.Rules.{none_lowest}
use Rattle.run_state.specs.declared.outcome.Outcome.TheVariants.{Going}
use Rattle.run_state.specs.declared.phase.Phase.{Phase}
use Rattle.run_state.specs.declared.phase.Phase.TheVariants.{Begins}
use Rattle.run_state.specs.Rules.{Fits, FitsPlan, IsStart}
use Rattle.run_state.specs.State.{Ordered, DriveAt, Gone, Fresh, Begun, Found, Sealed, At, drive_at, files_of, is_sealed}
use Rattle.offload_run.specs.Offload.{begins_at, HasAtMost}

-- ---- that some facts have one proof at most

none_prop : IsProp ⊥
none_prop a b = absurd a

shape_prop : (r : Rec) → IsProp (IsShape r)
shape_prop r a b = λ i. record {
  index = le_prop a.index b.index i;
  size = le_prop a.size b.size i;
  md5 = ℕ_set _ _ a.md5 b.md5 i;
  sha1 = ℕ_set _ _ a.sha1 b.sha1 i;
  xxh = ℕ_set _ _ a.xxh b.xxh i;
  hashed = le_prop a.hashed b.hashed i;
}

record_prop : (j : ℕ) (f : PlannedFile) (r : Rec) → IsProp (IsRecord j f r)
record_prop j f r a b = λ i. record {
  shape = shape_prop r a.shape b.shape i;
  index = ℕ_set _ _ a.index b.index i;
  size = ℕ_set _ _ a.size b.size i;
}

records_prop : (j : ℕ) (files : List PlannedFile) (recs : List Rec) → IsProp (AreRecords j files recs)
unfolding AreRecords
records_prop j [] [] = Unit-prop
records_prop j (f ∷ files) [] = Unit-prop
records_prop j [] (r ∷ recs) = none_prop
records_prop j (f ∷ files) (r ∷ recs) = ×_prop (record_prop j f r) (records_prop (suc j) files recs)

-- ---- where its drives stand

-- each drive fits the plan as it begins
fits_at : (p : PlanValue) (starts : List DriveStart) → AllByRecursion (FitsStart p) starts → (d : ℕ) → FitsPlan p (drive_at (map begins_at starts) d)
fits_at p [] all d = tt
fits_at p (GoneStart ∷ starts) all zero = tt
fits_at p (FreshStart ∷ starts) all zero = tt
fits_at p (BegunStart entries gate kept ∷ starts) all zero = all.0
fits_at p (SealedStart entries ∷ starts) all zero = all.0
fits_at p (x ∷ starts) all (suc d) = fits_at p starts all.1 d

-- that a drive fits the plan, where it merely does
fits_of : (p : PlanValue) (x : DriveAt) → ∥ FitsPlan p x ∥₁ → FitsPlan p x
fits_of p Gone merely = tt
fits_of p Fresh merely = tt
fits_of p (Begun recs gate kept) merely = (∥∥₁_elim merely (records_prop 0 p.files recs) (λ f. f.0), gate_is)
  where
    at : gate.at ≡ (next_gate p (length recs)).at
    at = ∥∥₁_elim merely (ℕ_set _ _) (λ f. ap (λ (g : Gate). g.at) f.1)

    index : gate.index ≡ (next_gate p (length recs)).index
    index = ∥∥₁_elim merely (ℕ_set _ _) (λ f. ap (λ (g : Gate). g.index) f.1)

    gate_is : gate ≡ next_gate p (length recs)
    gate_is = λ i. record { at = at i; index = index i }
fits_of p (Found recs) merely = (∥∥₁_elim merely (records_prop 0 p.files recs) (λ f. f.0), ∥∥₁_elim merely (ℕ_set _ _) (λ f. f.1))
fits_of p Sealed merely = tt

-- none is called sealed
unsealed : (starts : List DriveStart) (d : ℕ) → is_sealed (drive_at (map begins_at starts) d) ≡ false
unsealed [] d = refl
unsealed (GoneStart ∷ starts) zero = refl
unsealed (FreshStart ∷ starts) zero = refl
unsealed (BegunStart entries gate kept ∷ starts) zero = refl
unsealed (SealedStart entries ∷ starts) zero = refl
unsealed (x ∷ starts) (suc d) = unsealed starts d

in_none : (set : List Bool) (d : ℕ) → set ≡ no_drives → has set d ≡ false
in_none set d is = ap (λ (l : List Bool). has l d) is ∙ none_lowest no_drives refl d

listed_of : (listed : Option (Vec Listed Global)) (n : ℕ) → ∥ IfSome listed (λ all. length all.items ≡ n) ∥₁ → IfSome (option_map (λ all. all.items) listed) (λ all. length all ≡ n)
listed_of None n merely = tt
listed_of (Some all) n merely = ∥∥₁_elim merely (ℕ_set _ _) (λ same. same)

-- the records of a drive that begins are at most as many as files
most_at : (p : PlanValue) (start : DriveStart) → ∥ FitsStart p start ∥₁ → HasAtMost (files_of p) start
most_at p GoneStart merely = tt
most_at p FreshStart merely = tt
most_at p (BegunStart entries gate kept) merely = ∥∥₁_elim merely le_prop (λ f. records_few 0 p.files entries.items f.0)
most_at p (SealedStart entries) merely = tt

all_most : (p : PlanValue) (starts : List DriveStart) → ∥ AllByRecursion (FitsStart p) starts ∥₁ → AllByRecursion (HasAtMost (files_of p)) starts
all_most p [] merely = tt
all_most p (x ∷ starts) merely = (most_at p x (∥∥₁_map merely (λ a. a.0)), all_most p starts (∥∥₁_map merely (λ a. a.1)))

-- each drive of an order has at most as many records as the plan has files
pub order_most : (slots : ℕ) (p : PlanValue) (listed : Option (Vec Listed Global)) (starts : List DriveStart) → ∥ IsOrder slots p listed starts ∥₁ → AllByRecursion (HasAtMost (files_of p)) starts
order_most slots p listed starts rules = all_most p starts (∥∥₁_map rules (λ r. r.starts))

-- a run of an order is as it is made
pub starts_of : (o : Ordered) (at : At) (listed : Option (Vec Listed Global)) (starts : List DriveStart) → ∥ IsOrder o.slots o.plan listed starts ∥₁ → IsPlan o.plan → o.listed ≡ option_map (λ all. all.items) listed → at.drives.each ≡ map begins_at starts
    → at.drives.sealed ≡ no_drives → at.drives.dropped ≡ no_drives → at.phase ≡ Begins 0 → at.outcome ≡ Going → IsStart o at
starts_of o at listed starts rules plan listed_is each sealed dropped phase outcome = record {
  run = record {
    plan = plan;
    some_slots = ∥∥₁_elim rules le_prop (λ r. r.some_slots);
    few_slots = ∥∥₁_elim rules le_prop (λ r. r.few_slots);
    each_listed = subst (λ (l : Option (List Listed)). IfSome l (λ all. length all ≡ files_of o.plan)) (sym listed_is) (listed_of listed (files_of o.plan) (∥∥₁_map rules (λ r. r.each_listed)));
    drives = record {
      some = subst (λ (n : ℕ). 1 ≤ n) (sym long) (∥∥₁_elim rules le_prop (λ r. r.some_drives));
      few = subst (λ (n : ℕ). n ≤ 8) (sym long) (∥∥₁_elim rules le_prop (λ r. r.few_drives));
      each = λ d. subst (λ (l : List DriveAt). FitsPlan o.plan (drive_at l d)) (sym each) (fits_of o.plan (drive_at (map begins_at starts) d) (∥∥₁_map rules (λ r. fits_at o.plan starts r.starts d)));
      sets = (ap (λ (l : List Bool). length l) sealed, ap (λ (l : List Bool). length l) dropped);
      said = λ d. in_none at.drives.sealed d sealed ∙ sym (none_sealed d);
      lost = λ d was. absurd (false≢true (sym (in_none at.drives.dropped d dropped) ∙ was));
    };
    fits = subst (λ (x : Phase). Fits o at.drives.each x) (sym phase) (subst (λ (n : ℕ). 1 ≤ n) (sym long) (∥∥₁_elim rules le_prop (λ r. r.some_drives)), λ k below. absurd (omega (arith, below)));
    outcome = (λ ended. absurd (cc (sym phase ∙ ended)), λ on. outcome);
  };
  phase = phase;
  sets = (sealed, dropped);
}
  where
    long : length at.drives.each ≡ length starts
    long = ap (λ (l : List DriveAt). length l) each ∙ length-map starts begins_at

    none_sealed : (d : ℕ) → is_sealed (drive_at at.drives.each d) ≡ false
    none_sealed d = ap (λ (l : List DriveAt). is_sealed (drive_at l d)) each ∙ unsealed starts d
