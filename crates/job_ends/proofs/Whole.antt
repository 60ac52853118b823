-- Each end of a run, however it went.
use Rattle.std.proofs.Common.{◌≡◌, inl, inr, ℕ, ◌≤◌, false, List, [], ◌++◌, length, take, refl, subst, arith}
use Rattle.std.specs.Prelude.{Contains}
use Rattle.bay_core.specs.declared.event.Event.{Event}
use Rattle.bay_core.specs.declared.event.Event.TheVariants.{Say}
use Rattle.bay_core.specs.Map.{Map, Dates, AllDated}
use Rattle.bay_core.specs.World.{World}
use Rattle.command_words.specs.Jobs.{Job}
use Rattle.offload_law.specs.Clear.{IsSaid}
use Rattle.report_text.specs.Run.{sealed_text}
use Rattle.run_lines.specs.Lines.{lines_in}
use Rattle.run_lines.proofs.Saying.{said_line}
use Rattle.job_story.specs.Ends.{JobEnd}
use Rattle.job_story.specs.Run.{run_with, IsSteady}
use Rattle.job_calls.specs.Calls.{job_attaches, NoneAfterFailure, StopsAttaching}
use Rattle.job_calls.specs.Told.{RanTold}
use Rattle.job_calls.proofs.Ending.{Lasts, lasts_of}
use Rattle.job_calls.proofs.Failing.{place_of}
use Rattle.job_calls.proofs.Given.{places_of}
use Rattle.job_calls.proofs.Owning.{stands_of}
use Rattle.job_calls.proofs.Parts.{CallsOwn, Parts, halted, opened, ran, parts_of}
use Rattle.job_calls.proofs.Stopping.{ReadyWithout}
use Rattle.job_ends.specs.Counts.{EndCounts}
use Rattle.job_ends.specs.Ends.{EndGives, ZeroWhere, FiveWhere}
use Rattle.job_ends.proofs.Counting.{TheRules, AloneRuns, EndsCaused, KnowsOnward, story_counts, the_runs, run_knows}
use Rattle.job_ends.proofs.Gives.{no_plan, no_job_lines, said_either, take_lines, failed_lines, stopped_gives, closed_gives}
use Rattle.job_ends.proofs.Lasts.{last_unsealed}
use Rattle.job_ends.proofs.Looks.{OpeningSays, opening_says}
use Rattle.job_ends.proofs.Ran.{InOrder, OneLine, OtherLengths, ShortFiles, no_text, losses_unsealed, ran_gives, ran_zero}

-- ---- a run that made no turn calls no drive sealed

module _ (job : Job) (end : JobEnd) (result : ℕ) (old new : World) (since : List Event) (few : length job.drives ≤ 8) (some : 1 ≤ length job.drives) where
  unsaid_in : (L : List Event) → lines_in L ≡ [] → (line : List ℕ) → IsSaid L line → ⊥
  unsaid_in L none line said = no_text line (subst (λ (l : List (List ℕ)). Contains l line) none (said_line L line said))

  last_off : (last : List Event) → Lasts end result last → (d m : ℕ) (list : List ℕ) → IsSaid last (sealed_text d m list) → ⊥
  last_off last lasts d m list said = last_unsealed end result last lasts.calls d m list (said_line last (sealed_text d m list) said)

  stopped_off : StopsAttaching job end result since → (d m : ℕ) (list : List ℕ) → IsSaid since (sealed_text d m list) → ⊥
  stopped_off s d m list said = elim (said_either (take s.n (job_attaches job)) (s.failed ++ s.last) (sealed_text d m list) (subst (λ (E : List Event). IsSaid E (sealed_text d m list)) s.is said)) [
    | inl first ↦ unsaid_in (take s.n (job_attaches job)) (take_lines s.n job) (sealed_text d m list) first
    | inr rest ↦ elim (said_either s.failed s.last (sealed_text d m list) rest) [
      | inl second ↦ unsaid_in s.failed (failed_lines s.place s.failed s.seen) (sealed_text d m list) second
      | inr third ↦ last_off s.last (lasts_of end result s.last s.lines) d m list third
    ]
  ]

  closed_off : (opening last : List Event) → ((d m : ℕ) (list : List ℕ) → IsSaid opening (sealed_text d m list) → ⊥) → Lasts end result last → since ≡ job_attaches job ++ (opening ++ last) → (d m : ℕ) (list : List ℕ) → IsSaid since (sealed_text d m list) → ⊥
  closed_off opening last off lasts is d m list said = elim (said_either (job_attaches job) (opening ++ last) (sealed_text d m list) (subst (λ (E : List Event). IsSaid E (sealed_text d m list)) is said)) [
    | inl first ↦ unsaid_in (job_attaches job) (no_job_lines job) (sealed_text d m list) first
    | inr rest ↦ elim (said_either opening last (sealed_text d m list) rest) [
      | inl second ↦ off d m list second
      | inr third ↦ last_off last lasts d m list third
    ]
  ]

  zero_without : ((d m : ℕ) (list : List ℕ) → IsSaid since (sealed_text d m list) → ⊥) → ZeroWhere (run_with job old new since) result
  zero_without off all = let called = all 0 (omega (arith, some)) in absurd (off 0 called.0 called.1 called.3)

-- ---- the whole

module _ (rules : TheRules) (own : CallsOwn) (alone : AloneRuns) (ends_caused : EndsCaused) (knows : KnowsOnward) (ready : ReadyWithout) (in_order : InOrder) (one_line : OneLine) (other_lengths : OtherLengths) (short_files : ShortFiles) where
  module _ (job : Job) (end : JobEnd) (result : ℕ) (old new : World) (past since : List Event) (r : RanTold job end result old new past since) (some : 1 ≤ length job.drives) where
    parts : Parts job end result past since old new
    parts = parts_of own job end result old new past since r

    dated : (card : Map) (dates : Dates) → IsSteady (run_with job old new since) card dates → AllDated card dates
    dated = (places_of job past since old new r.was r.no_card r.no_drive (stands_of job end result past since old new parts)).dated

    counts : EndCounts (run_with job old new []) end result
    counts = story_counts rules own alone ends_caused knows ready job end result old new r.no_card r.no_drive r.story

    parts_give : 1 ≤ job.copies → Parts job end result past since old new → EndGives (run_with job old new since) end result
    parts_give required (halted s there) = stopped_gives job result old new since end s counts
    parts_give required (opened came mid late opening last ends b o lasts same is) =
        closed_gives job result old new since came opening last (opening_says (length job.drives) came opening o.calls) o.untouched is some required end ends lasts counts
    parts_give required (ran order mid late done opening turning last b o t lasts same is) =
        ran_gives rules ends_caused in_order one_line other_lengths short_files job end result old new mid late done past since opening turning last order r.few some o t lasts same is
        (the_runs rules own alone ends_caused knows ready job end order mid late done o.opens t.turns) (run_knows rules own alone ends_caused knows ready job end order mid late done o.opens t.turns) counts dated

    pub told_gives : 1 ≤ job.copies → EndGives (run_with job old new since) end result
    told_gives required = parts_give required parts

    parts_zero : Parts job end result past since old new → ZeroWhere (run_with job old new since) result
    parts_zero (halted s there) = zero_without job end result old new since r.few some (stopped_off job end result old new since r.few some s)
    parts_zero (opened came mid late opening last ends b o lasts same is) =
        let says : OpeningSays (length job.drives) came opening = opening_says (length job.drives) came opening o.calls in
        zero_without job end result old new since r.few some
        (closed_off job end result old new since r.few some opening last
        (λ d m list said. losses_unsealed (length job.drives) no_plan says.sights says.few r.few d m list (subst (λ (l : List (List ℕ)). Contains l (sealed_text d m list)) (says.lines no_plan) (said_line opening (sealed_text d m list) said)))
        lasts is)
    parts_zero (ran order mid late done opening turning last b o t lasts same is) =
        ran_zero rules ends_caused in_order one_line other_lengths short_files job end result old new mid late done past since opening turning last order r.few some o t lasts same is
        (the_runs rules own alone ends_caused knows ready job end order mid late done o.opens t.turns) (run_knows rules own alone ends_caused knows ready job end order mid late done o.opens t.turns) counts dated

    pub told_zero : ZeroWhere (run_with job old new since) result
    told_zero = parts_zero parts

-- a line that was not said
pub told_five : (job : Job) (end : JobEnd) (result : ℕ) (old new : World) (since : List Event) → NoneAfterFailure end result since → FiveWhere (run_with job old new since) result
told_five job end result old new since none line has =
    let at = place_of since (Say line false) has in
    (none.failed at.0 at.1 (Say line false) at.2 refl).1
