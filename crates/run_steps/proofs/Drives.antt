-- The drives of a run by their numbers, the files of its plan by theirs, and what is done next.
use Rattle.std.proofs.Common.{◌≡◌, ◌≢◌, ◌⊎◌, inl, inr, ℕ, zero, suc, ◌<◌, ◌≤◌, Bool, true, false, List, [], ◌∷◌, ◌++◌, length, refl, sym, ap, ◌∙◌, subst, arith}
use Rattle.std.specs.Prelude.{Option, Some, None, is_some, nat_eq, nat_lt, not, ◌||◌, if◌then◌else◌}
use Rattle.std.specs.List.{slice_get}
use Rattle.std.proofs.lemmas.Bool.{cases_Bool, false≢true, ltb-true, ltb-false}
use Rattle.std.proofs.lemmas.Bool.Decides.{Decides-eqb}
use Rattle.copy_plan.specs.declared.file.PlannedFile.{PlannedFile}
use Rattle.copy_plan.specs.Plan.{PlanValue}
use Rattle.drive_journal.specs.declared.record.Gate.{Gate}
use Rattle.drive_journal.specs.declared.record.Rec.{Rec}
use Rattle.fan_core.specs.Flags.{has}
use Rattle.offload_law.specs.Steps.{IsNext}
use Rattle.run_state.specs.declared.phase.Phase.{Phase}
use Rattle.run_state.specs.declared.phase.Phase.TheVariants.{Begins, File, Records, Seals, Clears}
use Rattle.run_state.specs.State.{Drives, DriveAt, Gone, Fresh, Begun, Found, Sealed, Journaled, drive_at, is_gone, is_of_run, due, after_begin, after_file, after_record, after_seal}

pub some_or_none : {A : Type 0} (o : Option A) → ((x : A) × (o ≡ Some x)) ⊎ (o ≡ None)
some_or_none None = inr refl
some_or_none (Some x) = inl (x, refl)

-- a drive behind the last is none of the run
pub behind_last : (each : List DriveAt) (k : ℕ) → length each ≤ k → drive_at each k ≡ Gone
behind_last [] k low = refl
behind_last (x ∷ each) zero low = absurd (omega (arith, low))
behind_last (x ∷ each) (suc k) low = behind_last each k (omega (arith, low))

pub in_range : (each : List DriveAt) (k : ℕ) → is_gone (drive_at each k) ≡ false → k < length each
in_range [] k there = absurd (false≢true (sym there))
in_range (x ∷ each) zero there = omega arith
in_range (x ∷ each) (suc k) there = let rest = in_range each k there in omega (arith, rest)

-- a drive that is not gone is one of the run
pub of_run : (drives : Drives) (k : ℕ) → is_gone (drive_at drives.each k) ≡ false → is_of_run drives k ≡ true
of_run drives k there = ap (λ (b : Bool). not b || has drives.dropped k) there

-- ---- the drives on which a file is due

pub record IsDue (i : ℕ) (x : DriveAt) (j : Journaled) : Type 0 where
  pub is : x ≡ Begun j.recs j.gate j.kept
  pub index : length j.recs ≡ i

abbrev journaled : List Rec → Gate → Bool → Journaled
journaled recs gate kept = record { recs = recs; gate = gate; kept = kept }

pub is_due : (i : ℕ) (x : DriveAt) (j : Journaled) → due i x ≡ Some j → IsDue i x j
is_due i Gone j is = absurd (cc is)
is_due i Fresh j is = absurd (cc is)
is_due i (Found recs) j is = absurd (cc is)
is_due i Sealed j is = absurd (cc is)
is_due i (Begun recs gate kept) j is = by (nat_eq (length recs) i) refl
  where
    by : (b : Bool) → nat_eq (length recs) i ≡ b → IsDue i (Begun recs gate kept) j
    by true e =
        let found : Some (journaled recs gate kept) ≡ Some j = sym (ap (λ (b : Bool). if b then Some (journaled recs gate kept) else None) e) ∙ is in
        let same : journaled recs gate kept ≡ j = cc found in
        subst (IsDue i (Begun recs gate kept)) same (record { is = refl; index = (Decides-eqb (length recs) i).0 e })
    by false e = let none : None ≡ Some j = sym (ap (λ (b : Bool). if b then Some (journaled recs gate kept) else None) e) ∙ is in absurd (cc none)

pub due_there : (i : ℕ) (recs : List Rec) (gate : Gate) (kept : Bool) → length recs ≡ i → due i (Begun recs gate kept) ≡ Some (journaled recs gate kept)
due_there i recs gate kept at = ap (λ (b : Bool). if b then Some (journaled recs gate kept) else None) ((Decides-eqb (length recs) i).1 at)

pub due_not_gone : (i : ℕ) (x : DriveAt) → is_some (due i x) ≡ true → is_gone x ≡ false
due_not_gone i Gone some = absurd (false≢true some)
due_not_gone i Fresh some = refl
due_not_gone i (Begun recs gate kept) some = refl
due_not_gone i (Found recs) some = refl
due_not_gone i Sealed some = refl

pub not_due : (i : ℕ) (recs : List Rec) (gate : Gate) (kept : Bool) → length recs ≢ i → due i (Begun recs gate kept) ≡ None
not_due i recs gate kept other = elim (cases_Bool (nat_eq (length recs) i)) [
  | inl same ↦ absurd (other ((Decides-eqb (length recs) i).0 same))
  | inr differ ↦ ap (λ (b : Bool). if b then Some (journaled recs gate kept) else None) differ
]

pub none_not_some : {A : Type 0} (o : Option A) → o ≡ None → is_some o ≡ true → ⊥
none_not_some o none some = false≢true (sym (ap is_some none) ∙ some)

-- ---- the files of a plan

-- a file at its place
pub record FileAt (files : List PlannedFile) (i : ℕ) (f : PlannedFile) : Type 0 where
  pub before : List PlannedFile
  pub after : List PlannedFile
  pub is : files ≡ before ++ f ∷ after
  pub place : length before ≡ i

pub file_at : (files : List PlannedFile) (i : ℕ) (f : PlannedFile) → slice_get files i ≡ Some f → FileAt files i f
file_at [] i f is = absurd (cc is)
file_at (x ∷ files) zero f is = let same : x ≡ f = cc is in record { before = []; after = files; is = ap (λ (y : PlannedFile). y ∷ files) same; place = refl }
file_at (x ∷ files) (suc i) f is =
    let r = file_at files i f is in
    record { before = x ∷ r.before; after = r.after; is = ap (λ (l : List PlannedFile). x ∷ l) r.is; place = let at = r.place in omega (arith, at) }

pub next_file : (p : PlanValue) (recs : List Rec) (f : PlannedFile) → slice_get p.files (length recs) ≡ Some f → IsNext p recs f
next_file p recs f is = let a = file_at p.files (length recs) f is in record { before = a.before; after = a.after; is = a.is; place = a.place }

pub one_file : (files : List PlannedFile) (i : ℕ) (f g : PlannedFile) → slice_get files i ≡ Some f → slice_get files i ≡ Some g → f ≡ g
one_file files i f g one two = let both : Some f ≡ Some g = sym one ∙ two in cc both

-- ---- what is done next

abbrev chosen : Phase → Phase → Bool → Phase
chosen a b t = if t then a else b

pub by_less : (a b : ℕ) (x y : Phase) → ((a < b) × (chosen x y (nat_lt a b) ≡ x)) ⊎ ((b ≤ a) × (chosen x y (nat_lt a b) ≡ y))
by_less a b x y = elim (cases_Bool (nat_lt a b)) [
  | inl is ↦ inl (ltb-true a b is, ap (chosen x y) is)
  | inr not_so ↦ inr (ltb-false a b not_so, ap (chosen x y) not_so)
]

pub begin_next : (w d : ℕ) → ((suc d < w) × (after_begin w d ≡ Begins (suc d))) ⊎ ((w ≤ suc d) × (after_begin w d ≡ File 0))
begin_next w d = by_less (suc d) w (Begins (suc d)) (File 0)

pub file_next : (n i : ℕ) → ((suc i < n) × (after_file n i ≡ File (suc i))) ⊎ ((n ≤ suc i) × (after_file n i ≡ Seals 0))
file_next n i = by_less (suc i) n (File (suc i)) (Seals 0)

pub record_next : (w n : ℕ) (rec : Rec) (d : ℕ) → ((suc d < w) × (after_record w n rec d ≡ Records rec (suc d))) ⊎ ((w ≤ suc d) × (after_record w n rec d ≡ after_file n rec.index))
record_next w n rec d = by_less (suc d) w (Records rec (suc d)) (after_file n rec.index)

pub seal_next : (w d : ℕ) → ((suc d < w) × (after_seal w d ≡ Seals (suc d))) ⊎ ((w ≤ suc d) × (after_seal w d ≡ Clears))
seal_next w d = by_less (suc d) w (Seals (suc d)) Clears
