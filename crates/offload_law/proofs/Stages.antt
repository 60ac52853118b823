-- What the stages of an offload say of a map depends on few paths.
use Rattle.std.proofs.Common.{◌≡◌, ◌⊎◌, inl, inr, ℕ, ◌<◌, ◌≤◌, List, length, refl, sym, ◌∙◌, subst, arith}
use Rattle.std.specs.FinMap.{get}
use Rattle.bay_core.specs.Map.{Map}
use Rattle.bay_core.specs.Paths.{IsScratch, journal_path}
use Rattle.copy_plan.specs.Plan.{PlanValue, IsPlan, list_of}
use Rattle.drive_journal.specs.declared.record.Rec.{Rec}
use Rattle.offload_law.specs.Stages.{Offload, Stage, Fresh, Begun, Sealed, HasRecords, IsAt, IsBegun, progress, IsTouched, KeepsRest}
use Rattle.offload_law.specs.Steps.{IsFree}
use Rattle.offload_law.proofs.Plans.{journal_not_new, journal_not_part, not_journal, not_scratch, list_free, file_free, file_clear, files_differ}
use Rattle.offload_law.proofs.Recorded.{recorded_same}

-- a path that the stage speaks of
abbrev pub Counts : PlanValue → Stage → List ℕ → Type 0
Counts p Fresh q = q ≡ journal_path
Counts p (Begun recs) q = (q ≡ journal_path) ⊎ (q ≡ list_of p) ⊎ IsBegun p (length recs) q
Counts p (Sealed recs finish) q = (q ≡ journal_path) ⊎ (q ≡ list_of p) ⊎ IsBegun p (length recs) q

-- the records are those of another map that agrees at the paths that count
pub records_same : {o : Offload} {m new : Map} {recs : List Rec} → HasRecords o m recs → get new journal_path ≡ get m journal_path → ((q : List ℕ) → IsBegun o.plan (length recs) q → get new q ≡ get m q) → HasRecords o new recs
records_same {o = o} {m = m} {new = new} {recs = recs} h e files = record {
  bytes = h.bytes;
  stands = e ∙ h.stands;
  holds = h.holds;
  recorded = recorded_same o.card m new 0 o.plan.files recs h.recorded (λ before f after is early. files f.path (record { before = before; file = f; after = after; is = is; early = early; path = refl }));
}

pub at_same : (o : Offload) (s : Stage) (m new : Map) → IsAt o m s → ((q : List ℕ) → Counts o.plan s q → get new q ≡ get m q) → IsAt o new s
at_same o Fresh m new h e = e journal_path refl ∙ h
at_same o (Begun recs) m new h e = (records_same h.0 (e journal_path (inl refl)) (λ q b. e q (inr (inr b))), e (list_of o.plan) (inr (inl refl)) ∙ h.1)
at_same o (Sealed recs finish) m new h e = (records_same h.0 (e journal_path (inl refl)) (λ q b. e q (inr (inr b))), h.1, e (list_of o.plan) (inr (inl refl)) ∙ h.2, h.3)

journal_no_scratch : IsScratch journal_path → ⊥
journal_no_scratch (inl e) = journal_not_new e
journal_no_scratch (inr e) = journal_not_part e

-- a free path does not count, and may have been touched
module _ (p : PlanValue) (plan : IsPlan p) where
  scratch_not : (recs : List Rec) (q : List ℕ) → IsScratch q → (q ≡ journal_path) ⊎ (q ≡ list_of p) ⊎ IsBegun p (length recs) q → ⊥
  scratch_not recs q h (inl c) = journal_no_scratch (subst IsScratch c h)
  scratch_not recs q h (inr (inl c)) = not_scratch (list_of p) (list_free p plan) (subst IsScratch c h)
  scratch_not recs q h (inr (inr b)) = not_scratch b.file.path (file_free p plan b.before b.file b.after b.is) (subst IsScratch b.path h)

  pub free_not : (s : Stage) (q : List ℕ) → IsFree p s q → Counts p s q → ⊥
  free_not Fresh q f c = journal_no_scratch (subst IsScratch c f)
  free_not (Begun recs) q (inl f) c = scratch_not recs q f c
  free_not (Begun recs) q (inr (f, next, e)) (inl c) = not_journal f.path (file_free p plan next.before f next.after next.is) (sym e ∙ c)
  free_not (Begun recs) q (inr (f, next, e)) (inr (inl c)) = (file_clear p plan next.before f next.after next.is).differs (sym e ∙ c)
  free_not (Begun recs) q (inr (f, next, e)) (inr (inr b)) =
      let before : length b.before < length next.before = omega (arith, b.early, next.place) in
      files_differ p plan next.before f next.after next.is b.before b.file b.after b.is before (sym b.path ∙ e)
  free_not (Sealed recs finish) q f c = scratch_not recs q f c

  pub free_touched : (s : Stage) (q : List ℕ) → IsFree p s q → IsTouched p (progress p s) q
  free_touched Fresh q f = inl f
  free_touched (Begun recs) q (inl f) = inl f
  free_touched (Begun recs) q (inr (f, next, e)) = inr (inr (inl (record { before = next.before; file = f; after = next.after; is = next.is; early = omega (arith, next.place); path = e })))
  free_touched (Sealed recs finish) q f = inl f

-- what was touched stays so
pub touched_more : (p : PlanValue) (a b : ℕ) (q : List ℕ) → a ≤ b → IsTouched p a q → IsTouched p b q
touched_more p a b q le (inl h) = inl h
touched_more p a b q le (inr (inl h)) = inr (inl (omega (arith, h.0), h.1))
touched_more p a b q le (inr (inr (inl h))) = inr (inr (inl (record { before = h.before; file = h.file; after = h.after; is = h.is; early = omega (arith, h.early); path = h.path })))
touched_more p a b q le (inr (inr (inr h))) = inr (inr (inr (omega (arith, h.0), h.1)))

-- a map that differs at touched paths alone
pub rest_step : (p : PlanValue) {m new base : Map} (a b : ℕ) → KeepsRest p m base a → a ≤ b → ((q : List ℕ) → (IsTouched p b q → ⊥) → get new q ≡ get m q) → KeepsRest p new base b
rest_step p a b rest le e = record { same = λ q h. e q h ∙ rest.same q (λ t. h (touched_more p a b q le t)) }

-- one run after another
pub rest_trans : (p : PlanValue) {m new base : Map} (a b : ℕ) → a ≤ b → KeepsRest p m base a → KeepsRest p new m b → KeepsRest p new base b
rest_trans p a b le rest more = rest_step p a b rest le more.same
