-- A map is after one number of steps at most.
use Rattle.std.proofs.Common.{◌≡◌, ℕ, zero, suc, List, length, Option, Some, None, refl, sym, ap, ◌∙◌, subst, arith}
use Rattle.std.specs.FinMap.{get}
use Rattle.bay_core.specs.Map.{Map, Dates}
use Rattle.bay_core.specs.Paths.{journal_path}
use Rattle.copy_plan.specs.Plan.{PlanValue, list_of}
use Rattle.drive_journal.specs.declared.record.Rec.{Rec}
use Rattle.drive_journal.specs.Journal.{HoldsJournal}
use Rattle.drive_journal.proofs.Journals.{one_journal}
use Rattle.offload_law.specs.Sealing.{plan_list_text}
use Rattle.offload_law.specs.Stages.{Offload, Stage, Fresh, Begun, Sealed, IsAt, IsAfter, IsAfterOn, HoldsPlan, HasRecords, progress}

one_content : {a b : List ℕ} {o : Option (List ℕ)} → o ≡ Some a → o ≡ Some b → a ≡ b
one_content e f = cc

absent : {a : List ℕ} {o : Option (List ℕ)} → o ≡ None → o ≡ Some a → ⊥
absent e f = cc

-- two journals of one map are the same
same_records : (o r : Offload) (m : Map) (xs ys : List Rec) → HasRecords o m xs → HasRecords r m ys → (o.plan ≡ r.plan) × (length xs ≡ length ys)
same_records o r m xs ys h k =
    let there = subst (λ (l : List ℕ). HoldsJournal l o.plan xs) (one_content h.stands k.stands) h.holds in
    let one = one_journal k.bytes o.plan r.plan xs ys there k.holds in
    (one.0, ap (λ (l : List Rec). length l) one.1)

-- a sealed drive has a list, and a begun one has none
not_both : (o r : Offload) (m : Map) (xs ys : List Rec) (text : List ℕ) → HasRecords o m xs → HasRecords r m ys → get m (list_of o.plan) ≡ None → get m (list_of r.plan) ≡ Some text → ⊥
not_both o r m xs ys text h k none there =
    let same = (same_records o r m xs ys h k).0 in
    absent (subst (λ (p : PlanValue). get m (list_of p) ≡ None) same none) there

-- a map is at stages with one number of steps, whichever offloads they are of
pub one_stage : (o r : Offload) (m : Map) (s t : Stage) → IsAt o m s → IsAt r m t → progress o.plan s ≡ progress r.plan t
one_stage o r m Fresh Fresh h k = refl
one_stage o r m Fresh (Begun ys) h k = absurd (absent h k.0.stands)
one_stage o r m Fresh (Sealed ys g) h k = absurd (absent h k.0.stands)
one_stage o r m (Begun xs) Fresh h k = absurd (absent k h.0.stands)
one_stage o r m (Begun xs) (Begun ys) h k = ap suc (same_records o r m xs ys h.0 k.0).1
one_stage o r m (Begun xs) (Sealed ys g) h k = absurd (not_both o r m xs ys (plan_list_text r.plan ys g) h.0 k.0 h.1 k.2)
one_stage o r m (Sealed xs f) Fresh h k = absurd (absent k h.0.stands)
one_stage o r m (Sealed xs f) (Begun ys) h k = absurd (not_both r o m ys xs (plan_list_text o.plan xs f) k.0 h.0 k.1 h.2)
one_stage o r m (Sealed xs f) (Sealed ys g) h k = ap (λ (p : PlanValue). suc (suc (length p.files))) (same_records o r m xs ys h.0 k.0).0

pub one_progress : (o r : Offload) (m : Map) (j k : ℕ) → IsAfter o m j → IsAfter r m k → j ≡ k
one_progress o r m j k x y = sym x.done ∙ one_stage o r m x.stage y.stage x.at y.at ∙ y.done

same_plan : (p q : PlanValue) (card m : Map) (xs ys : List Rec) → HasRecords (record { plan = p; card = card }) m xs → HasRecords (record { plan = q; card = card }) m ys → p ≡ q
same_plan p q card m xs ys h k =
    let there = subst (λ (l : List ℕ). HoldsJournal l p xs) (one_content h.stands k.stands) h.holds in
    (one_journal k.bytes p q xs ys there k.holds).0

-- a stage with a journal
has_journal : (o : Offload) (m : Map) (s : Stage) (k : ℕ) → IsAt o m s → progress o.plan s ≡ suc k → (recs : List Rec) × HasRecords o m recs
has_journal o m Fresh k at is = absurd (omega (arith, is))
has_journal o m (Begun recs) k at is = (recs, at.0)
has_journal o m (Sealed recs finish) k at is = (recs, at.0)

-- a run that finds a drive with a journal has the plan of it
pub plan_stays : (p q : PlanValue) (card m : Map) (k : ℕ) → IsAfter (record { plan = p; card = card }) m (suc k) → (s : Stage) → IsAt (record { plan = q; card = card }) m s → p ≡ q
plan_stays p q card m k after s at =
    let mine = has_journal (record { plan = p; card = card }) m after.stage k after.at after.done in
    found s at mine
  where
    found : (s : Stage) → IsAt (record { plan = q; card = card }) m s → (recs : List Rec) × HasRecords (record { plan = p; card = card }) m recs → p ≡ q
    found Fresh at mine = absurd (absent at mine.1.stands)
    found (Begun recs) at mine = same_plan p q card m mine.0 recs mine.1 at.0
    found (Sealed recs finish) at mine = same_plan p q card m mine.0 recs mine.1 at.0

-- no step leaves no journal
no_journal_after : (o : Offload) (m : Map) (k : ℕ) → IsAfter o m (suc k) → get m journal_path ≡ None → ⊥
no_journal_after o m k after none = let has = has_journal o m after.stage k after.at after.done in absent none has.1.stands

pub one_progress_on : (card other : Map) (dates others : Dates) (m : Map) (j k : ℕ) → IsAfterOn card dates m j → IsAfterOn other others m k → j ≡ k
one_progress_on card other dates others m zero zero x y = refl
one_progress_on card other dates others m zero (suc k) x y = absurd (no_journal_after (record { plan = y.0; card = other }) m k y.3 x)
one_progress_on card other dates others m (suc j) zero x y = absurd (no_journal_after (record { plan = x.0; card = card }) m j x.3 y)
one_progress_on card other dates others m (suc j) (suc k) x y = one_progress (record { plan = x.0; card = card }) (record { plan = y.0; card = other }) m (suc j) (suc k) x.3 y.3

-- the journal of a map after some steps holds their plan
pub plan_held : (o : Offload) (m : Map) (k : ℕ) → IsAfter o m (suc k) → HoldsPlan m o.plan
plan_held o m k after = let has = has_journal o m after.stage k after.at after.done in (has.1.bytes, has.0, has.1.stands, has.1.holds)
