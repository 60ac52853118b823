-- The words of a run whose turns were made: the losses of its looks, and then those of its turns.
use Rattle.std.proofs.Common.{◌≡◌, inl, inr, ℕ, zero, suc, ◌<◌, ◌≤◌, Bool, true, false, cond, not, List, [], ◌∷◌, ◌++◌, length, map, refl, sym, ap, ◌∙◌, subst, arith}
use Rattle.std.specs.Prelude.{◌||◌, Option, Some, None, nat_eq, Contains, replicate, slice_index_or}
use Rattle.std.specs.List.{slice_get, filter, AllByRecursion}
use Rattle.std.proofs.lemmas.Bool.{cases_Bool, false≢true}
use Rattle.std.proofs.lemmas.Bool.Decides.{nat_tests}
use Rattle.std.proofs.lemmas.List.{map-append}
use Rattle.std.proofs.lemmas.List.Elements.{filter-append, All-contains, All-from_recursion, Contains-append_cases}
use Rattle.std.proofs.lemmas.Option.{slice_get_within}
use Rattle.copy_plan.specs.Inventory.{EachPair}
use Rattle.copy_plan.specs.Plan.{PlanValue}
use Rattle.drive_journal.specs.Found.{JournalFound}
use Rattle.fan_core.specs.Flags.{has}
use Rattle.fresh_opening.specs.Openings.{start_of}
use Rattle.fresh_opening.specs.Orders.{start_at}
use Rattle.fresh_opening.specs.Sights.{Sight, Dropped, Found}
use Rattle.run_state.specs.Rules.{IsStart}
use Rattle.run_state.specs.Runs.{Point}
use Rattle.run_state.specs.State.{Ordered, DriveAt, Gone, Fresh, drive_at, is_gone, is_of_run, files_of}
use Rattle.offload_run.specs.Offload.{begins_at}
use Rattle.run_lines.specs.Words.{Mark, Lost, Fault, Word, all_marks, begun_marks, marks_of, is_step, is_seal, steps_in, sealed_in, Before, IsSoFar, IsWhole, AreWords}
use Rattle.run_lines.proofs.Marks.{cut_first}
use Rattle.job_story.specs.Plans.{IsRunPlan}
use Rattle.job_story.specs.Run.{Run}
use Rattle.job_ends.specs.Says.{IsFoundBare, AreJobWords}
use Rattle.job_ends.proofs.Looks.{lost_words, sight_marks, lost_steps, lost_sealed, lost_ours, lost_each, lost_marks, marks_append}

-- ---- drives by their looks

-- where a drive stands as the run is made, by the look at it
abbrev pub stand_of : Option Sight → DriveAt
stand_of (Some (Found size found)) = Fresh
stand_of _ = Gone

pub by_sight : (xs : List Sight) (d : ℕ) → begins_at (start_at (map start_of xs) d) ≡ stand_of (slice_get xs d)
by_sight [] d = refl
by_sight (Dropped ∷ xs) zero = refl
by_sight (Found size found ∷ xs) zero = refl
by_sight (x ∷ xs) (suc d) = by_sight xs d

none_has : (n d : ℕ) → slice_index_or (replicate n false) d false ≡ false
none_has zero d = refl
none_has (suc n) zero = refl
none_has (suc n) (suc d) = none_has n d

-- ---- such marks

-- What is said of a drive that was dropped in its look may be said of it, and what may be said of a fresh one.
pub record FitsMarks (Such : List Mark → List Mark → Type 0) : Type 0 where
  pub lost : (n : ℕ) → Such (begun_marks n 0) (Lost Fault ∷ [])

pub fits_so_far : FitsMarks IsSoFar
fits_so_far = record { lost = λ n. inr (cut_first n 0 Fault) }

pub fits_whole : FitsMarks IsWhole
fits_whole = record { lost = λ n. inr (cut_first n 0 Fault) }

-- ---- words of other drives

no_marks : (d : ℕ) (words : List Word) → AllByRecursion (λ (w : Word). nat_eq w.drive d ≡ false) words → marks_of d words ≡ []
no_marks d [] none = refl
no_marks d (w ∷ words) none = ap (λ (b : Bool). map (λ (v : Word). v.mark) (cond b (w ∷ filter (λ (v : Word). nat_eq v.drive d) words) (filter (λ (v : Word). nat_eq v.drive d) words))) none.0 ∙ no_marks d words none.1

all_mapped : (P Q : Word → Type 0) → ((w : Word) → P w → Q w) → (words : List Word) → AllByRecursion P words → AllByRecursion Q words
all_mapped P Q so [] all = tt
all_mapped P Q so (w ∷ words) all = (so w all.0, all_mapped P Q so words all.1)

all_both : (P : Word → Type 0) (A B : List Word) → AllByRecursion P A → AllByRecursion P B → AllByRecursion P (A ++ B)
all_both P [] B one two = two
all_both P (w ∷ A) B one two = (one.0, all_both P A B one.1 two)

pub all_at : (P : Word → Type 0) (words : List Word) (w : Word) → AllByRecursion P words → Contains words w → P w
all_at P words w all has = All-contains P words w (All-from_recursion P words all) has

same_number : (a b : ℕ) → nat_eq a b ≡ true → a ≡ b
same_number a b is = grind (arith, nat_tests)

pub steps_append : (A B : List Word) → steps_in (A ++ B) ≡ steps_in A ++ steps_in B
steps_append A B = filter-append (λ (w : Word). is_step w.mark) A B

pub sealed_append : (A B : List Word) → sealed_in (A ++ B) ≡ sealed_in A ++ sealed_in B
sealed_append A B = ap (map (λ (w : Word). w.drive)) (filter-append (λ (w : Word). is_seal w.mark) A B) ∙ map-append (λ (w : Word). w.drive) (filter (λ (w : Word). is_seal w.mark) A) (filter (λ (w : Word). is_seal w.mark) B)

-- a drive was not dropped in its look
pub record IsSeen (n : ℕ) (xs : List Sight) (d : ℕ) : Type 0 where
  pub size : List ℕ → Option ℕ
  pub found : JournalFound
  pub at : slice_get xs d ≡ Some (Found size found)
  pub low : d < n

pub some_within : (xs : List Sight) (d : ℕ) → d < length xs → slice_get xs d ≡ None → ⊥
some_within [] d low none = omega (arith, low)
some_within (x ∷ xs) zero low none = absurd (cc none)
some_within (x ∷ xs) (suc d) low none = some_within xs d (omega (arith, low)) none

-- ---- a run that made no turn

-- losses of looks are words of a run, of which it has said some
module _ (run : Run) (Such : List Mark → List Mark → Type 0) (p : PlanValue) (xs : List Sight) (few : length xs ≤ length run.job.drives) (each : (d : ℕ) → d < length run.job.drives → Such (begun_marks (files_of p) 0) (sight_marks (slice_get xs d))) where
  no_step : (w : Word) → Contains (lost_words 0 xs) w → is_step w.mark ≡ true → ⊥
  no_step w has step = false≢true (sym (all_at (λ (v : Word). (is_step v.mark ≡ false) × (is_seal v.mark ≡ false)) (lost_words 0 xs) w (lost_each 0 xs) has).0 ∙ step)

  pub losses_are : AreJobWords run Such p (lost_words 0 xs)
  unfolding EachPair
  losses_are = record {
    plan = λ w has step. absurd (no_step w has step);
    bare = λ w has step. absurd (no_step w has step);
    ours = lost_ours (length run.job.drives) 0 xs (omega (arith, few));
    each = λ d low. subst (Such (begun_marks (files_of p) 0)) (sym (lost_marks 0 d d xs (omega arith))) (each d low);
    ordered = subst (EachPair (Before (files_of p))) (sym (lost_steps 0 xs)) tt;
  }

-- ---- a run whose turns were made

module _ (run : Run) (o : Ordered) (a : Point) (start : IsStart o a.at) (xs : List Sight) (count : length xs ≡ length run.job.drives) (stands : (d : ℕ) → drive_at a.at.drives.each d ≡ stand_of (slice_get xs d)) where
  -- no drive was dropped by the run yet
  none_dropped : (d : ℕ) → has a.at.drives.dropped d ≡ false
  none_dropped d = ap (λ (set : List Bool). has set d) start.sets.1 ∙ none_has 8 d

  pub of_run_is : (d : ℕ) → is_of_run a.at.drives d ≡ not (is_gone (stand_of (slice_get xs d)))
  of_run_is d = ap (λ (x : DriveAt). not (is_gone x) || has a.at.drives.dropped d) (stands d) ∙ by (not (is_gone (stand_of (slice_get xs d)))) (has a.at.drives.dropped d) (none_dropped d)
    where
      by : (x y : Bool) → y ≡ false → (x || y) ≡ x
      by true y off = refl
      by false y off = off

  seen_by : (d : ℕ) (x : Option Sight) → slice_get xs d ≡ x → not (is_gone (stand_of x)) ≡ true → IsSeen (length run.job.drives) xs d
  seen_by d None at of = absurd (false≢true of)
  seen_by d (Some Dropped) at of = absurd (false≢true of)
  seen_by d (Some (Found size found)) at of = record { size = size; found = found; at = at; low = (let within = slice_get_within xs d (Found size found) at in omega (arith, within, count)) }

  -- a drive of the run was not dropped in its look
  pub seen_of : (d : ℕ) → is_of_run a.at.drives d ≡ true → IsSeen (length run.job.drives) xs d
  seen_of d of = seen_by d (slice_get xs d) refl (sym (of_run_is d) ∙ of)

  pub lost_off : (d : ℕ) → slice_get xs d ≡ Some Dropped → is_of_run a.at.drives d ≡ false
  lost_off d at = of_run_is d ∙ ap (λ (x : Option Sight). not (is_gone (stand_of x))) at

  pub found_of : (d : ℕ) (size : List ℕ → Option ℕ) (found : JournalFound) → slice_get xs d ≡ Some (Found size found) → is_of_run a.at.drives d ≡ true
  found_of d size found at = of_run_is d ∙ ap (λ (x : Option Sight). not (is_gone (stand_of x))) at

  module _ (Such : List Mark → List Mark → Type 0) (fits : FitsMarks Such) (words : List Word) (are : AreWords o a Such words) where
    -- no word of the turns is of another drive
    other_marks : (d : ℕ) → is_of_run a.at.drives d ≡ false → marks_of d words ≡ []
    other_marks d off = no_marks d words (all_mapped (λ (w : Word). is_of_run a.at.drives w.drive ≡ true) (λ (w : Word). nat_eq w.drive d ≡ false) other words are.ours)
      where
        other : (w : Word) → is_of_run a.at.drives w.drive ≡ true → nat_eq w.drive d ≡ false
        other w of = elim (cases_Bool (nat_eq w.drive d)) [
          | inl same ↦ absurd (false≢true (sym off ∙ ap (is_of_run a.at.drives) (sym (same_number w.drive d same)) ∙ of))
          | inr not_so ↦ not_so
        ]

    by_look : (d : ℕ) (x : Option Sight) → slice_get xs d ≡ x → d < length xs → Such (begun_marks (files_of o.plan) 0) (marks_of d (lost_words 0 xs ++ words))
    by_look d None at low = absurd (some_within xs d low at)
    by_look d (Some Dropped) at low =
        let one : marks_of d (lost_words 0 xs) ≡ Lost Fault ∷ [] = lost_marks 0 d d xs (omega arith) ∙ ap sight_marks at in
        let two : marks_of d words ≡ [] = other_marks d (lost_off d at) in
        subst (Such (begun_marks (files_of o.plan) 0)) (sym (marks_append d (lost_words 0 xs) words ∙ (λ i. one i ++ two i))) (fits.lost (files_of o.plan))
    by_look d (Some (Found size found)) at low =
        let one : marks_of d (lost_words 0 xs) ≡ [] = lost_marks 0 d d xs (omega arith) ∙ ap sight_marks at in
        let fresh : drive_at a.at.drives.each d ≡ Fresh = stands d ∙ ap stand_of at in
        subst (Such (begun_marks (files_of o.plan) 0)) (sym (marks_append d (lost_words 0 xs) words ∙ ap (λ (marks : List Mark). marks ++ marks_of d words) one))
        (subst (λ (x : DriveAt). Such (all_marks (files_of o.plan) x) (marks_of d words)) fresh (are.each d (found_of d size found at)))

    no_loss : (w : Word) → Contains (lost_words 0 xs) w → is_step w.mark ≡ true → ⊥
    no_loss w has step = false≢true (sym (all_at (λ (v : Word). (is_step v.mark ≡ false) × (is_seal v.mark ≡ false)) (lost_words 0 xs) w (lost_each 0 xs) has).0 ∙ step)

    bare_word : ((d : ℕ) → IsSeen (length run.job.drives) xs d → IsFoundBare d run.events) → (w : Word) → Contains (lost_words 0 xs ++ words) w → is_step w.mark ≡ true → IsFoundBare w.drive run.events
    bare_word bare w has step = elim (Contains-append_cases (lost_words 0 xs) words w has) [
      | inl lost ↦ absurd (no_loss w lost step)
      | inr said ↦ bare w.drive (seen_of w.drive (all_at (λ (v : Word). is_of_run a.at.drives v.drive ≡ true) words w are.ours said))
    ]

    pub words_are : IsRunPlan run o.plan → ((d : ℕ) → IsSeen (length run.job.drives) xs d → IsFoundBare d run.events) → AreJobWords run Such o.plan (lost_words 0 xs ++ words)
    words_are plan bare = record {
      plan = λ w has step. plan;
      bare = bare_word bare;
      ours = all_both (λ (w : Word). w.drive < length run.job.drives) (lost_words 0 xs) words (lost_ours (length run.job.drives) 0 xs (omega (arith, count)))
          (all_mapped (λ (w : Word). is_of_run a.at.drives w.drive ≡ true) (λ (w : Word). w.drive < length run.job.drives) (λ w of. (seen_of w.drive of).low) words are.ours);
      each = λ d low. by_look d (slice_get xs d) refl (omega (arith, low, count));
      ordered = subst (EachPair (Before (files_of o.plan))) (sym (steps_append (lost_words 0 xs) words ∙ ap (λ (ws : List Word). ws ++ steps_in words) (lost_steps 0 xs))) are.ordered;
    }

    pub words_sealed : sealed_in (lost_words 0 xs ++ words) ≡ sealed_in words
    words_sealed = sealed_append (lost_words 0 xs) words ∙ ap (λ (ds : List ℕ). ds ++ sealed_in words) (lost_sealed 0 xs)
