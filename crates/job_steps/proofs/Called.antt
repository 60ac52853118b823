-- A drive that the turns of a run call sealed is one of the run's: it was not gone as the run was made.
use Rattle.std.proofs.Common.{◌≡◌, inl, inr, ℕ, zero, suc, Bool, true, false, List, [], ◌∷◌, ◌++◌, length, map, ap, ◌∙◌, sym, subst, arith, append-nil}
use Rattle.std.specs.Prelude.{Contains, if◌then◌else◌}
use Rattle.std.specs.List.{AllByRecursion}
use Rattle.std.proofs.lemmas.List.Elements.{All-contains, All-from_recursion, Contains-append_cases}
use Rattle.bay_core.specs.declared.event.Event.{Event}
use Rattle.offload_law.specs.Clear.{IsCalledSealed}
use Rattle.report_text.specs.Run.{sealed_text, clear_text}
use Rattle.run_state.specs.declared.outcome.Outcome.{Outcome}
use Rattle.run_state.specs.declared.outcome.Outcome.TheVariants.{Going, Finished, NoDrive, SourceFailed, Changed, Altered, OutFailed}
use Rattle.run_state.specs.Acts.{is_clear}
use Rattle.run_state.specs.Rules.{IsStart}
use Rattle.run_state.specs.Runs.{Point}
use Rattle.run_state.specs.State.{Ordered, drive_at, is_gone, is_of_run}
use Rattle.run_lines.specs.Words.{Mark, Word, word_text, sealed_in, AreWords}
use Rattle.run_lines.specs.Lines.{lines_in, StandAlone, clear_lines, SaysSome, SaysAll, SaysBy}
use Rattle.run_lines.proofs.Counts.{contains_unmap}
use Rattle.run_lines.proofs.Saying.{said_line}
use Rattle.run_lines.proofs.Starts.{at_start}
use Rattle.run_lines.proofs.Texts.{seals_it, clear_not_sealed}

-- the line `clear`, where it is said, calls no drive sealed
not_clear : (required sealed d m : ℕ) (list : List ℕ) → Contains (clear_lines required sealed) (sealed_text d m list) → ⊥
not_clear required sealed d m list has = by (is_clear sealed required) has
  where
    by : (said : Bool) → Contains (if said then clear_text sealed required ∷ [] else []) (sealed_text d m list) → ⊥
    by true (zero, low, is) = clear_not_sealed sealed required d m list is
    by true (suc k, low, is) = absurd (omega (arith, low))
    by false (k, low, is) = absurd (omega (arith, low))

module _ (o : Ordered) (a : Point) (start : IsStart o a.at) (L : List Event) where
  -- it is one of these words that calls the drive sealed
  by_word : (words : List Word) → AllByRecursion (λ (w : Word). is_of_run a.at.drives w.drive ≡ true) words → (d m : ℕ) (list : List ℕ) → Contains (map (word_text o.plan) words) (sealed_text d m list) → is_of_run a.at.drives d ≡ true
  by_word words ours d m list has =
      let found = contains_unmap (word_text o.plan) words (sealed_text d m list) has in
      let w = found.0 in
      let of : is_of_run a.at.drives w.drive ≡ true = All-contains (λ (v : Word). is_of_run a.at.drives v.drive ≡ true) words w (All-from_recursion (λ (v : Word). is_of_run a.at.drives v.drive ≡ true) words ours) found.1 in
      let seal = seals_it o.plan w.drive w.mark d m list (at_start o a.at start w.drive of).low found.2 in
      subst (λ (k : ℕ). is_of_run a.at.drives k ≡ true) seal.1 of

  by_some : (d : ℕ) → IsCalledSealed d L → SaysSome o a (StandAlone L) → is_of_run a.at.drives d ≡ true
  by_some d (m, list, low, said) s = by_word s.words s.are.ours d m list (subst (λ (l : List (List ℕ)). Contains l (sealed_text d m list)) s.lines (said_line L (sealed_text d m list) said))

  by_all : (d : ℕ) → IsCalledSealed d L → SaysAll o a (StandAlone L) → is_of_run a.at.drives d ≡ true
  by_all d (m, list, low, said) s =
      let lines = clear_lines o.copies (length (sealed_in s.words)) in
      elim (Contains-append_cases (map (word_text o.plan) s.words) lines (sealed_text d m list) (subst (λ (l : List (List ℕ)). Contains l (sealed_text d m list)) s.lines (said_line L (sealed_text d m list) said))) [
        | inl word ↦ by_word s.words s.are.ours d m list word
        | inr clear ↦ absurd (not_clear o.copies (length (sealed_in s.words)) d m list clear)
      ]

  by_lines : (d : ℕ) → IsCalledSealed d L → (r : Outcome) → SaysBy o a r (StandAlone L) → is_of_run a.at.drives d ≡ true
  by_lines d called Going s = by_some d called s
  by_lines d called Finished s = by_all d called s
  by_lines d called NoDrive s = by_all d called s
  by_lines d called SourceFailed s = by_some d called s
  by_lines d called (Changed i listed read) s = by_some d called s
  by_lines d called (Altered i listed read) s = by_some d called s
  by_lines d called OutFailed (inl s) = by_some d called s
  by_lines d called OutFailed (inr s) = by_all d called s

  -- where the lines of the turns stand in their order, it is not gone
  pub called_is_there : (r : Outcome) → SaysBy o a r (StandAlone L) → (d : ℕ) → IsCalledSealed d L → is_gone (drive_at a.at.drives.each d) ≡ false
  called_is_there r s d called = (at_start o a.at start d (by_lines d called r s)).live
