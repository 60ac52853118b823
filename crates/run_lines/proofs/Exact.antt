-- The words of a run, by where it stands: just these were said.
use Rattle.std.proofs.Common.{◌≡◌, ◌≢◌, inl, inr, ℕ, suc, ◌<◌, Bool, true, false, List, [], ◌∷◌, ◌++◌, length, refl, sym, ap, ◌∙◌, subst, arith, length-append}
use Rattle.std.specs.List.{AllByRecursion}
use Rattle.std.proofs.lemmas.Bool.{cases_eq}
use Rattle.copy_plan.specs.Inventory.{EachPair}
use Rattle.copy_plan.proofs.Files.{AllByRecursion-append, EachPair-push}
use Rattle.run_state.specs.declared.phase.Phase.{Phase}
use Rattle.run_state.specs.Acts.{Puts}
use Rattle.run_state.specs.Rules.{IsOver}
use Rattle.run_state.specs.Runs.{Point}
use Rattle.run_state.specs.State.{Ordered, DriveAt, Sealed as SealedDrive, Drives, files_of, drive_at, is_sealed, is_of_run, count_sealed}
use Rattle.run_lines.specs.Words.{Mark, Word, marks_of, IsSoFar, IsWhole, is_step, is_seal, steps_in, sealed_in, Before, AreWords}
use Rattle.run_lines.proofs.Marks.{Told, HasFew, told_so_far, told_whole}
use Rattle.run_lines.proofs.Orders.{IsEarly, is_begun}
use Rattle.run_lines.proofs.Counts.{steps_more, steps_same, sealed_more, sealed_same, marks_more, marks_same, all_weaker, same_count, one_more}

module _ (o : Ordered) (a : Point) where
  abbrev pub files : ℕ
  files = files_of o.plan

  -- how a drive stood as the run was made
  abbrev pub was : ℕ → DriveAt
  was d = drive_at a.at.drives.each d

  -- the steps were said in their order, and before what is done next
  abbrev pub InOrder : Phase → List Word → Type 0
  InOrder phase words = AllByRecursion (IsEarly files phase) (steps_in words) × EachPair (Before files) (steps_in words)

  -- just these words were said, by where the run stands
  pub record Exact (drives : Drives) (phase : Phase) (words : List Word) : Type 0 where
    pub ours : AllByRecursion (λ (w : Word). is_of_run a.at.drives w.drive ≡ true) words
    pub told : (d : ℕ) → is_of_run a.at.drives d ≡ true → Told files (was d) (drive_at drives.each d) (is_begun d phase) (marks_of d words)
    pub order : InOrder phase words
    pub count : length (sealed_in words) ≡ count_sealed drives.each

  -- ---- a word more

  pub order_later : (phase next : Phase) (words : List Word) → ((v : Word) → IsEarly files phase v → IsEarly files next v) → InOrder phase words → InOrder next words
  order_later phase next words later h = (all_weaker (IsEarly files phase) (IsEarly files next) later (steps_in words) h.0, h.1)

  pub order_step : (phase next : Phase) (words : List Word) (w : Word) → is_step w.mark ≡ true → ((v : Word) → IsEarly files phase v → IsEarly files next v) → ((v : Word) → IsEarly files phase v → Before files v w) → IsEarly files next w
      → InOrder phase words → InOrder next (words ++ w ∷ [])
  order_step phase next words w step later before now h =
      subst (λ (l : List Word). AllByRecursion (IsEarly files next) l × EachPair (Before files) l) (sym (steps_more words w step)) (
        AllByRecursion-append (IsEarly files next) (steps_in words) (w ∷ []) (all_weaker (IsEarly files phase) (IsEarly files next) later (steps_in words) h.0) (now, tt),
        EachPair-push (Before files) (steps_in words) w h.1 (all_weaker (IsEarly files phase) (λ v. Before files v w) before (steps_in words) h.0),
      )

  pub order_loss : (phase next : Phase) (words : List Word) (w : Word) → is_step w.mark ≡ false → ((v : Word) → IsEarly files phase v → IsEarly files next v) → InOrder phase words → InOrder next (words ++ w ∷ [])
  order_loss phase next words w loss later h =
      subst (λ (l : List Word). AllByRecursion (IsEarly files next) l × EachPair (Before files) l) (sym (steps_same words w loss)) (order_later phase next words later h)

  module _ (old new : Drives) (words : List Word) (w : Word) where
    pub count_kept : (now : DriveAt) → is_seal w.mark ≡ false → is_sealed now ≡ is_sealed (drive_at old.each w.drive) → Puts w.drive now old.each new.each → length (sealed_in words) ≡ count_sealed old.each
        → length (sealed_in (words ++ w ∷ [])) ≡ count_sealed new.each
    count_kept now off same puts count = ap (λ (l : List ℕ). length l) (sealed_same words w off) ∙ count ∙ sym (same_count old.each new.each puts.count (λ k. elim (cases_eq k w.drive) [
      | inl here ↦ ap (λ (j : ℕ). is_sealed (drive_at new.each j)) here ∙ ap is_sealed puts.here ∙ same ∙ ap (λ (j : ℕ). is_sealed (drive_at old.each j)) (sym here)
      | inr ne ↦ ap is_sealed (puts.others k ne)
    ]))

    pub count_more : is_seal w.mark ≡ true → w.drive < length old.each → is_sealed (drive_at old.each w.drive) ≡ false → Puts w.drive SealedDrive old.each new.each → length (sealed_in words) ≡ count_sealed old.each
        → length (sealed_in (words ++ w ∷ [])) ≡ count_sealed new.each
    count_more on within unsealed puts count =
        let long = length-append (sealed_in words) (w.drive ∷ []) in
        let next : count_sealed new.each ≡ suc (count_sealed old.each) = one_more old.each new.each w.drive puts.count within unsealed (ap is_sealed puts.here) (λ k ne. ap is_sealed (puts.others k ne)) in
        ap (λ (l : List ℕ). length l) (sealed_more words w on) ∙ omega (arith, long, count, next)

    pub exact_push : (phase next : Phase) (now : DriveAt) → Exact old phase words → is_of_run a.at.drives w.drive ≡ true → Puts w.drive now old.each new.each → Told files (was w.drive) now (is_begun w.drive next) (marks_of w.drive words ++ w.mark ∷ [])
        → ((k : ℕ) → k ≢ w.drive → is_of_run a.at.drives k ≡ true → is_begun k next ≡ is_begun k phase) → InOrder next (words ++ w ∷ []) → length (sealed_in (words ++ w ∷ [])) ≡ count_sealed new.each
        → Exact new next (words ++ w ∷ [])
    exact_push phase next now exact of puts told begun order count = record {
      ours = AllByRecursion-append (λ (v : Word). is_of_run a.at.drives v.drive ≡ true) words (w ∷ []) exact.ours (of, tt);
      told = λ k of_k. elim (cases_eq k w.drive) [
        | inl same ↦ subst (λ (j : ℕ). Told files (was j) (drive_at new.each j) (is_begun j next) (marks_of j (words ++ w ∷ []))) (sym same) here
        | inr ne ↦ others k ne of_k
      ];
      order = order;
      count = count;
    }
      where
        here : Told files (was w.drive) (drive_at new.each w.drive) (is_begun w.drive next) (marks_of w.drive (words ++ w ∷ []))
        here = subst (λ (x : DriveAt). Told files (was w.drive) x (is_begun w.drive next) (marks_of w.drive (words ++ w ∷ []))) (sym puts.here)
            (subst (λ (l : List Mark). Told files (was w.drive) now (is_begun w.drive next) l) (sym (marks_more w.drive words w refl)) told)

        others : (k : ℕ) → k ≢ w.drive → is_of_run a.at.drives k ≡ true → Told files (was k) (drive_at new.each k) (is_begun k next) (marks_of k (words ++ w ∷ []))
        others k ne of_k = subst (λ (x : DriveAt). Told files (was k) x (is_begun k next) (marks_of k (words ++ w ∷ []))) (sym (puts.others k ne))
            (subst (λ (b : Bool). Told files (was k) (drive_at old.each k) b (marks_of k (words ++ w ∷ []))) (sym (begun k ne of_k))
            (subst (λ (l : List Mark). Told files (was k) (drive_at old.each k) (is_begun k phase) l) (sym (marks_same k words w (λ e. ne (sym e)))) (exact.told k of_k)))

  -- no word more
  pub exact_later : (drives : Drives) (phase next : Phase) (words : List Word) → Exact drives phase words → ((v : Word) → IsEarly files phase v → IsEarly files next v)
      → ((k : ℕ) → is_of_run a.at.drives k ≡ true → Told files (was k) (drive_at drives.each k) (is_begun k phase) (marks_of k words) → Told files (was k) (drive_at drives.each k) (is_begun k next) (marks_of k words)) → Exact drives next words
  exact_later drives phase next words exact later told = record {
    ours = exact.ours;
    told = λ k of. told k of (exact.told k of);
    order = order_later phase next words later exact.order;
    count = exact.count;
  }

  -- ---- the words are some of all, or all

  pub some_words : (drives : Drives) (phase : Phase) (words : List Word) → Exact drives phase words → ((d : ℕ) → HasFew files (drive_at drives.each d)) → AreWords o a IsSoFar words
  some_words drives phase words exact few = record {
    ours = exact.ours;
    each = λ d of. told_so_far files (was d) (drive_at drives.each d) (is_begun d phase) (marks_of d words) (few d) (exact.told d of);
    ordered = exact.order.1;
  }

  pub all_words : (drives : Drives) (phase : Phase) (words : List Word) → Exact drives phase words → ((d : ℕ) → IsOver (drive_at drives.each d)) → AreWords o a IsWhole words
  all_words drives phase words exact over = record {
    ours = exact.ours;
    each = λ d of. told_whole files (was d) (drive_at drives.each d) (is_begun d phase) (marks_of d words) (over d) (exact.told d of);
    ordered = exact.order.1;
  }
