-- What is so of a run whose turns were made, by its end.
use Rattle.std.proofs.Common.{◌≡◌, ◌≢◌, ◌⊎◌, inl, inr, ℕ, ◌<◌, ◌≤◌, true, false, List, [], ◌∷◌, ◌++◌, length, map, refl, sym, ap, ◌∙◌, subst, arith, append_assoc, append-nil}
use Rattle.std.specs.Prelude.{Option, Some, None, Ok, Contains}
use Rattle.std.specs.List.{slice_get}
use Rattle.std.proofs.lemmas.Bool.{cases_Bool, false≢true}
use Rattle.std.proofs.lemmas.List.{map-append}
use Rattle.bay_core.specs.declared.event.Event.{Event}
use Rattle.bay_core.specs.declared.event.Event.TheVariants.{Moment}
use Rattle.bay_core.specs.Map.{Map, Dates, AllDated}
use Rattle.bay_core.specs.World.{World, Attached, Steady}
use Rattle.command_words.specs.Jobs.{Job}
use Rattle.copy_plan.specs.Plan.{PlanValue, IsPlan}
use Rattle.drive_journal.specs.declared.order.DriveStart.{DriveStart}
use Rattle.drive_journal.specs.declared.order.Order.{Order}
use Rattle.fan_core.specs.Flags.{has}
use Rattle.fresh_opening.specs.Orders.{start_at}
use Rattle.fresh_opening.specs.Sights.{Sight, Dropped as DroppedSight, Found}
use Rattle.offload_law.specs.Clear.{IsSaid, IsCalledSealed}
use Rattle.offload_law.specs.Lines.{IsShort}
use Rattle.report_text.specs.Losses.{dropped_fault_text}
use Rattle.report_text.specs.Run.{sealed_text}
use Rattle.run_state.specs.declared.outcome.Outcome.{Outcome}
use Rattle.run_state.specs.declared.outcome.Outcome.TheVariants.{Going, Finished, NoDrive as NoneLeft, SourceFailed as CardLost, Changed, Altered, OutFailed as LineLost}
use Rattle.run_state.specs.Rules.{IsStart, IsOver, FitDrives}
use Rattle.run_state.specs.Runs.{Point, Alone, Runs}
use Rattle.run_state.specs.State.{Ordered, Drives, drive_at, is_gone, is_sealed, is_of_run, files_of}
use Rattle.offload_run.specs.Offload.{ordered_of, stands_at, begins_at}
use Rattle.run_ends.specs.Ends.{GaveOtherLength}
use Rattle.run_ends.specs.Known.{KnowsReadsOnward}
use Rattle.run_ends.specs.Reads.{reads_of}
use Rattle.run_ends.proofs.Drives.{of_run, gone_over, sealed_over}
use Rattle.run_ends.proofs.Ending.{EndOf, end_of_runs}
use Rattle.run_ends.proofs.Way.{way}
use Rattle.run_lines.specs.Lines.{lines_in, clear_lines, IsEnd, OneLineEach, StandAlone, SaysBy, SaysSome as TurnsSome, SaysAll as TurnsAll}
use Rattle.run_lines.specs.Words.{Lost, Fault, Word, loss_text, word_text, is_step, is_seal, sealed_in, IsSoFar, IsWhole}
use Rattle.run_lines.proofs.Counts.{contains_map, contains_unmap}
use Rattle.run_lines.proofs.Saying.{lines_append, said_line, line_said}
use Rattle.run_lines.proofs.Texts.{seals_it}
use Rattle.last_lines.specs.Ends.{EndCalls}
use Rattle.job_story.specs.Ends.{JobEnd, Sealed, Dropped, CardFailed, CardChanged, OutFailed, last_of}
use Rattle.job_story.specs.Plans.{IsRunPlan}
use Rattle.job_story.specs.Run.{Run, run_with, IsSteady}
use Rattle.job_story.specs.Story.{EndsAs}
use Rattle.job_calls.specs.Calls.{job_attaches}
use Rattle.job_calls.proofs.Ending.{Lasts}
use Rattle.job_calls.proofs.Failing.{IsNoRead, attaches_unread, opening_unread, lines_unread}
use Rattle.job_calls.proofs.Follows.{each_then}
use Rattle.job_calls.proofs.Owning.{sights_of}
use Rattle.job_calls.proofs.Parts.{Opened, Turned}
use Rattle.job_calls.proofs.Turning.{IsOfSights}
use Rattle.job_ends.specs.Counts.{EndCounts}
use Rattle.job_ends.specs.Ends.{AllSealed, IsDropped, SomeDropped, EndGives, ZeroWhere}
use Rattle.job_ends.specs.Says.{IsFoundBare, SaysAll, SaysSome}
use Rattle.job_ends.proofs.Counting.{TheRules, EndsCaused}
use Rattle.job_ends.proofs.Gives.{no_job_lines, job_lines, said_behind, said_before, said_either}
use Rattle.job_ends.proofs.Lasts.{quiet_end, says_end, last_unsealed}
use Rattle.job_ends.proofs.Lengths.{reads_between, has_other, file_sized}
use Rattle.job_ends.proofs.Looks.{word, lost_words, lost_has, lost_each, lost_ours, looks_lines}
use Rattle.job_ends.proofs.Planned.{WholeOpening, whole_opening, run_plan, found_bare}
use Rattle.job_ends.proofs.Sealing.{full_set, whole_set, search_low, TurnLines, turn_lines, called_sealed, sealed_of_run, sealed_called, sealed_or}
use Rattle.job_ends.proofs.Words.{all_at, stand_of, by_sight, IsSeen, some_within, seen_of, found_of, fits_so_far, fits_whole, words_are, words_sealed}

-- what the laws of runs say
abbrev pub InOrder : Type 0
InOrder = (o : Ordered) (a b : Point) → IsStart o a.at → Alone o a b → (past L : List Event) → a.world.events ≡ Some past → b.world.events ≡ Some (past ++ L) → SaysBy o a b.at.outcome (StandAlone L)

abbrev pub OneLine : Type 0
OneLine = (o : Ordered) (a b : Point) → IsStart o a.at → Runs o a b → (past L : List Event) → a.world.events ≡ Some past → b.world.events ≡ Some (past ++ L) → OneLineEach o a b L

abbrev pub OtherLengths : Type 0
OtherLengths = (o : Ordered) (a b : Point) → IsStart o a.at → KnowsReadsOnward o a → Runs o a b → (i listed read : ℕ) → b.at.outcome ≡ Changed i listed read → (past L : List Event) → a.world.events ≡ Some past → b.world.events ≡ Some (past ++ L)
    → GaveOtherLength o i listed read L

abbrev pub ShortFiles : Type 0
ShortFiles = (p : PlanValue) → IsPlan p → (k : ℕ) → k ≤ length p.files → IsShort k

pub no_text : (line : List ℕ) → Contains [] line → ⊥
no_text line (k, inside, is) = absurd (omega (arith, inside))

-- ---- losses are no lines `sealed`

pub losses_unsealed : (n : ℕ) (p : PlanValue) (xs : List Sight) → length xs ≤ n → n ≤ 8 → (d m : ℕ) (list : List ℕ) → Contains (map (word_text p) (lost_words 0 xs)) (sealed_text d m list) → ⊥
losses_unsealed n p xs few small d m list has =
    let w = contains_unmap (word_text p) (lost_words 0 xs) (sealed_text d m list) has in
    let low : w.0.drive < n = all_at (λ (v : Word). v.drive < n) (lost_words 0 xs) w.0 (lost_ours n 0 xs (omega (arith, few))) w.1 in
    let seals = (seals_it p w.0.drive w.0.mark d m list (omega (arith, low, small)) w.2).0 in
    false≢true (sym (all_at (λ (v : Word). (is_step v.mark ≡ false) × (is_seal v.mark ≡ false)) (lost_words 0 xs) w.0 (lost_each 0 xs) w.1).1 ∙ seals)

-- the lines of four parts
four_lines : (A B D X Y Z : List (List ℕ)) → A ≡ X → B ≡ Y ++ Z → A ++ (B ++ D) ≡ (X ++ Y) ++ (Z ++ D)
four_lines A B D X Y Z one two = (λ i. one i ++ (two i ++ D)) ∙ ap (λ (l : List (List ℕ)). X ++ l) (append_assoc Y Z D) ∙ sym (append_assoc X Y (Z ++ D))

module _ (rules : TheRules) (ends_caused : EndsCaused) (in_order : InOrder) (one_line : OneLine) (other_lengths : OtherLengths) (short_files : ShortFiles)
    (job : Job) (end : JobEnd) (result : ℕ) (old new mid late done : World) (past since opening turning last : List Event) (order : Order) (few : length job.drives ≤ 8) (some : 1 ≤ length job.drives)
    (o : Opened job (Ok order) (past ++ job_attaches job) opening mid late) (t : Turned job order end ((past ++ job_attaches job) ++ opening) turning late done) (lasts : Lasts end result last) (same : new.attached ≡ done.attached)
    (is : since ≡ job_attaches job ++ (opening ++ (turning ++ last))) (alone : Runs (ordered_of t.turns.run) (record { at = stands_at t.turns.run; pool = t.turns.pool; world = late }) (record { at = stands_at t.turns.then_run; pool = t.turns.then_pool; world = done }))
    (knows : KnowsReadsOnward (ordered_of t.turns.run) (record { at = stands_at t.turns.run; pool = t.turns.pool; world = late })) where
  abbrev run : Run
  run = run_with job old new since

  abbrev n : ℕ
  n = length job.drives

  abbrev ordered : Ordered
  ordered = ordered_of t.turns.run

  abbrev behind : List Event
  behind = (past ++ job_attaches job) ++ opening

  abbrev at_first : Point
  at_first = record { at = stands_at t.turns.run; pool = t.turns.pool; world = late }

  abbrev at_last : Point
  at_last = record { at = stands_at t.turns.then_run; pool = t.turns.then_pool; world = done }

  abbrev drives_then : Drives
  drives_then = (stands_at t.turns.then_run).drives

  of_job : IsOfSights job order t.turns.run
  of_job = sights_of job order end behind turning (past ++ job_attaches job) opening o t

  w : WholeOpening job order opening
  w = whole_opening job order (past ++ job_attaches job) opening mid late o

  stands : (d : ℕ) → drive_at (stands_at t.turns.run).drives.each d ≡ stand_of (slice_get w.sights d)
  stands d = of_job.stands d ∙ ap (λ (starts : List DriveStart). begins_at (start_at starts d)) w.are ∙ by_sight w.sights d

  plan : IsRunPlan run ordered.plan
  plan = subst (IsRunPlan run) (sym of_job.plan) (run_plan job order old new since opening (turning ++ last) w is (subst IsPlan of_job.plan t.turns.starts.run.plan))

  bare : (d : ℕ) → IsSeen n w.sights d → IsFoundBare d since
  bare d s = found_bare job order since opening (turning ++ last) w is d s.size s.found s.at

  seen : (d : ℕ) → is_of_run (stands_at t.turns.run).drives d ≡ true → IsSeen n w.sights d
  seen d of = seen_of run ordered at_first t.turns.starts w.sights w.count stands d of

  low_of : (d : ℕ) → is_of_run (stands_at t.turns.run).drives d ≡ true → d < 10
  low_of d of = let low = (seen d of).low in omega (arith, low, few)

  -- ---- lines

  opening_lines : (p : PlanValue) → lines_in opening ≡ map (word_text p) (lost_words 0 w.sights)
  opening_lines p = ap lines_in w.is ∙ lines_append w.looks (Moment order.plan.started ∷ []) ∙ append-nil (lines_in w.looks) ∙ looks_lines p 0 w.sights w.looks w.calls

  all_lines : (words : List Word) (tail : List (List ℕ)) → lines_in turning ≡ map (word_text ordered.plan) words ++ tail → lines_in since ≡ map (word_text ordered.plan) (lost_words 0 w.sights ++ words) ++ (tail ++ lines_in last)
  all_lines words tail lines =
      ap lines_in is ∙ job_lines job (opening ++ (turning ++ last)) ∙ lines_append opening (turning ++ last) ∙ ap (λ (l : List (List ℕ)). lines_in opening ++ l) (lines_append turning last)
      ∙ four_lines (lines_in opening) (lines_in turning) (lines_in last) (map (word_text ordered.plan) (lost_words 0 w.sights)) (map (word_text ordered.plan) words) tail (opening_lines ordered.plan) lines
      ∙ ap (λ (l : List (List ℕ)). l ++ (tail ++ lines_in last)) (sym (map-append (word_text ordered.plan) (lost_words 0 w.sights) words))

  run_some : TurnsSome ordered at_first (StandAlone turning) → (lines : List (List ℕ)) → lines_in last ≡ lines → SaysSome run lines
  run_some s lines these = record {
    p = ordered.plan;
    words = lost_words 0 w.sights ++ s.words;
    are = words_are run ordered at_first t.turns.starts w.sights w.count stands IsSoFar fits_so_far s.words s.are plan bare;
    lines = all_lines s.words [] (s.lines ∙ sym (append-nil (map (word_text ordered.plan) s.words))) ∙ ap (λ (l : List (List ℕ)). map (word_text ordered.plan) (lost_words 0 w.sights ++ s.words) ++ l) these;
  }

  copies_are : ordered.copies ≡ job.copies
  copies_are = t.turns.of.copies ∙ w.copies

  run_all : TurnsAll ordered at_first (StandAlone turning) → lines_in last ≡ [] → SaysAll run
  run_all s none =
      let sealed : sealed_in (lost_words 0 w.sights ++ s.words) ≡ sealed_in s.words = words_sealed run ordered at_first t.turns.starts w.sights w.count stands IsWhole fits_whole s.words s.are in
      let clear : clear_lines ordered.copies (length (sealed_in s.words)) ++ lines_in last ≡ clear_lines job.copies (length (sealed_in (lost_words 0 w.sights ++ s.words))) =
      ap (λ (l : List (List ℕ)). clear_lines ordered.copies (length (sealed_in s.words)) ++ l) none ∙ append-nil (clear_lines ordered.copies (length (sealed_in s.words))) ∙ (λ i. clear_lines (copies_are i) (length (sym sealed i))) in
      record {
        p = ordered.plan;
        words = lost_words 0 w.sights ++ s.words;
        are = words_are run ordered at_first t.turns.starts w.sights w.count stands IsWhole fits_whole s.words s.are plan bare;
        lines = all_lines s.words (clear_lines ordered.copies (length (sealed_in s.words))) s.lines ∙ ap (λ (l : List (List ℕ)). map (word_text ordered.plan) (lost_words 0 w.sights ++ s.words) ++ l) clear;
      }

  -- ---- which drives are sealed

  says : SaysBy ordered at_first (stands_at t.turns.then_run).outcome (StandAlone turning)
  says = in_order ordered at_first at_last t.turns.starts t.turns.alone behind turning t.was t.now

  each : OneLineEach ordered at_first at_last turning
  each = one_line ordered at_first at_last t.turns.starts alone behind turning t.was t.now

  turns_say : TurnLines ordered at_first turning
  turns_say = turn_lines ordered at_first turning (stands_at t.turns.then_run).outcome says

  fit : FitDrives (ordered_of t.turns.then_run).plan drives_then
  fit = t.turns.keeps.drives

  -- a line of the turns, or of the opening, is one of the run
  of_turns : (line : List ℕ) → IsSaid turning line → IsSaid since line
  of_turns line said = subst (λ (E : List Event). IsSaid E line) (sym is) (said_behind (job_attaches job) (opening ++ (turning ++ last)) line (said_behind opening (turning ++ last) line (said_before turning last line said)))

  of_opening : (line : List ℕ) → IsSaid opening line → IsSaid since line
  of_opening line said = subst (λ (E : List Event). IsSaid E line) (sym is) (said_behind (job_attaches job) (opening ++ (turning ++ last)) line (said_before opening (turning ++ last) line said))

  drop_turns : (d : ℕ) → IsDropped d turning → IsDropped d since
  drop_turns d (loss, said) = (loss, of_turns (loss_text d loss) said)

  lost_look : (d : ℕ) → slice_get w.sights d ≡ Some DroppedSight → IsDropped d since
  lost_look d at =
      let has_word : Contains (lost_words 0 w.sights) (word d (Lost Fault)) = subst (λ (e : ℕ). Contains (lost_words 0 w.sights) (word e (Lost Fault))) (omega arith) (lost_has 0 d w.sights at) in
      (Fault, of_opening (dropped_fault_text d) (line_said opening (dropped_fault_text d) (subst (λ (l : List (List ℕ)). Contains l (dropped_fault_text d)) (sym (opening_lines ordered.plan)) (contains_map (word_text ordered.plan) (lost_words 0 w.sights) (word d (Lost Fault)) has_word))))

  module _ (heard : (stands_at t.turns.then_run).outcome ≢ LineLost) where
    sealed_low : (d : ℕ) → has drives_then.sealed d ≡ true → d < n
    sealed_low d on = (seen d (sealed_of_run ordered at_first at_last turning turns_say each heard low_of d on)).low

    -- a drive that is called sealed in the run is sealed
    sealed_on : (d : ℕ) → IsCalledSealed d since → has drives_then.sealed d ≡ true
    sealed_on d (m, list, short, said) = elim (said_either (job_attaches job) (opening ++ (turning ++ last)) (sealed_text d m list) (subst (λ (E : List Event). IsSaid E (sealed_text d m list)) is said)) [
      | inl first ↦ absurd (no_text (sealed_text d m list) (subst (λ (l : List (List ℕ)). Contains l (sealed_text d m list)) (no_job_lines job) (said_line (job_attaches job) (sealed_text d m list) first)))
      | inr rest ↦ elim (said_either opening (turning ++ last) (sealed_text d m list) rest) [
        | inl look ↦ absurd (losses_unsealed n ordered.plan w.sights (let whole = w.count in omega (arith, whole)) few d m list (subst (λ (l : List (List ℕ)). Contains l (sealed_text d m list)) (opening_lines ordered.plan) (said_line opening (sealed_text d m list) look)))
        | inr more ↦ elim (said_either turning last (sealed_text d m list) more) [
          | inl turn ↦ called_sealed ordered at_first at_last turning turns_say each heard low_of d m list turn
          | inr late_line ↦ absurd (last_unsealed end result last lasts.calls d m list (said_line last (sealed_text d m list) late_line))
        ]
      ]
    ]

    all_called : ((d : ℕ) → d < n → has drives_then.sealed d ≡ true) → AllSealed run
    all_called all d low =
        let called = sealed_called ordered at_first at_last turning turns_say each heard low_of d (short_files ordered.plan t.turns.starts.run.plan (files_of ordered.plan) (omega arith)) (all d low) in
        (called.0, called.1, called.2, of_turns (sealed_text d called.0 called.1) called.3)

    -- each drive was dropped, or is sealed
    drive_or : IsEnd (stands_at t.turns.then_run).outcome → (d : ℕ) → d < n → (x : Option Sight) → slice_get w.sights d ≡ x → IsDropped d since ⊎ (has drives_then.sealed d ≡ true)
    drive_or ended d low None at = absurd (some_within w.sights d (let whole = w.count in omega (arith, low, whole)) at)
    drive_or ended d low (Some DroppedSight) at = inl (lost_look d at)
    drive_or ended d low (Some (Found size found)) at =
        elim
        (sealed_or ordered at_first at_last turning turns_say each heard low_of d (found_of run ordered at_first t.turns.starts w.sights w.count stands d size found at) (stands d ∙ ap stand_of at) ended) [
          | inl dropped ↦ inl (drop_turns d dropped)
          | inr on ↦ inr on
        ]

    some_dropped : IsEnd (stands_at t.turns.then_run).outcome → (((d : ℕ) → d < n → has drives_then.sealed d ≡ true) → ⊥) → SomeDropped run
    some_dropped ended not_all = elim (search_low (λ d. IsDropped d since) (λ d. has drives_then.sealed d ≡ true) n (λ d low. drive_or ended d low (slice_get w.sights d) refl)) [
      | inl found ↦ (found.0, found.1, found.2)
      | inr all ↦ absurd (not_all all)
    ]

  -- no drive is left
  none_left : (stands_at t.turns.then_run).outcome ≡ NoneLeft → ((d : ℕ) → d < n → has drives_then.sealed d ≡ true) → ⊥
  none_left left all =
      let heard : (stands_at t.turns.then_run).outcome ≢ LineLost = λ bad. let both : NoneLeft ≡ LineLost = sym left ∙ bad in cc both in
      let on : has drives_then.sealed 0 ≡ true = all 0 (omega (arith, some)) in
      let of = sealed_of_run ordered at_first at_last turning turns_say each heard low_of 0 on in
      let dropped = ((ends_caused ordered at_first at_last t.turns.starts alone).no_drive.0 left).each 0 of in
      false≢true (sym (ap is_sealed (fit.lost 0 dropped)) ∙ sym (fit.said 0) ∙ on)

  -- something is left to be done on a drive
  left_open : (d : ℕ) → (IsOver (drive_at drives_then.each d) → ⊥) → ((e : ℕ) → e < n → has drives_then.sealed e ≡ true) → ⊥
  left_open d open_there all = elim (cases_Bool (is_gone (drive_at drives_then.each d))) [
    | inl gone ↦ open_there (gone_over (drive_at drives_then.each d) gone)
    | inr there ↦
        let of : is_of_run (stands_at t.turns.run).drives d ≡ true = sym ((way ordered at_first (λ b. rules ordered at_first b) t.turns.starts at_last alone).of_run d) ∙ of_run drives_then d there in
        let on = all d (seen d of).low in
        open_there (sealed_over (drive_at drives_then.each d) (sym (fit.said d) ∙ on))
  ]

  end_of : (outcome : Outcome) → (stands_at t.turns.then_run).outcome ≡ outcome → EndOf ordered at_first at_last drives_then outcome
  end_of outcome so = subst (EndOf ordered at_first at_last drives_then) so (end_of_runs ordered at_first (λ b. rules ordered at_first b) t.turns.starts at_last alone)

  -- ---- its end

  module _ (counts : EndCounts (run_with job old new []) end result) (dated : (card : Map) (dates : Dates) → IsSteady run card dates → AllDated card dates) where
    by_end : (x : JobEnd) → end ≡ x → (EndCalls (last_of x) result last → EndCounts (run_with job old new []) x result → EndGives run x result) → EndGives run end result
    by_end x so gives =
        subst (λ (y : JobEnd). EndGives run y result) (sym so)
        (gives (subst (λ (y : JobEnd). EndCalls (last_of y) result last) so lasts.calls) (subst (λ (y : JobEnd). EndCounts (run_with job old new []) y result) so counts))

    by_says : (outcome : Outcome) → (stands_at t.turns.then_run).outcome ≡ outcome → SaysBy ordered at_first outcome (StandAlone turning)
    by_says outcome so = subst (λ (x : Outcome). SaysBy ordered at_first x (StandAlone turning)) so says

    unheard : (outcome : Outcome) → (stands_at t.turns.then_run).outcome ≡ outcome → outcome ≢ LineLost → (stands_at t.turns.then_run).outcome ≢ LineLost
    unheard outcome so other bad = other (sym so ∙ bad)

    is_end : (outcome : Outcome) → (stands_at t.turns.then_run).outcome ≡ outcome → IsEnd outcome → IsEnd (stands_at t.turns.then_run).outcome
    is_end outcome so ended = subst IsEnd (sym so) ended

    reads_all : (q : List ℕ) → reads_of 0 q since ≡ reads_of 0 q turning
    reads_all q =
        ap (reads_of 0 q) (is ∙ sym (append_assoc (job_attaches job) opening (turning ++ last)))
        ∙ reads_between 0 q (job_attaches job ++ opening) turning last (each_then IsNoRead (job_attaches job) opening (attaches_unread job) (opening_unread n (Ok order) opening o.calls)) (lines_unread last lasts.on)

    never_steady : (index listed read : ℕ) → (stands_at t.turns.then_run).outcome ≡ Changed index listed read → (card : Map) (dates : Dates) → IsSteady run card dates → ⊥
    never_steady index listed read so card dates steady =
        let not_planned = (ends_caused ordered at_first at_last t.turns.starts alone).changed index listed read so in
        let late_same : new.attached ≡ late.attached = same ∙ t.same in
        let mid_same : new.attached ≡ mid.attached = late_same ∙ o.opens.untouched.attached in
        let then_steady : Steady mid 0 card = record { steady = ap (λ (a : Attached). a.steady 0) (sym mid_same) ∙ steady.steady; card = ap (λ (a : Attached). a.card 0) (sym mid_same) ∙ steady.has } in
        let late_steady : Steady late 0 card = record { steady = ap (λ (a : Attached). a.steady 0) (sym late_same) ∙ steady.steady; card = ap (λ (a : Attached). a.card 0) (sym late_same) ∙ steady.has } in
        let then_dates : mid.attached.card_dates 0 ≡ dates = ap (λ (a : Attached). a.card_dates 0) (sym mid_same) ∙ steady.dated in
        let files = o.opens.of_card card then_steady (subst (AllDated card) (sym then_dates) (dated card dates steady)) in
        not_planned.never card (subst (λ (s : ℕ). Steady late s card) (sym of_job.source) late_steady)
        (file_sized card (mid.attached.card_dates 0) order.plan files index not_planned.file (subst (λ (p : PlanValue). slice_get p.files index ≡ Some not_planned.file) of_job.plan not_planned.is_file))

    either_says : TurnsSome ordered at_first (StandAlone turning) ⊎ TurnsAll ordered at_first (StandAlone turning) → lines_in last ≡ [] → SaysSome run [] ⊎ SaysAll run
    either_says (inl s) none = inl (run_some s [] none)
    either_says (inr s) none = inr (run_all s none)

    outcome_gives : (outcome : Outcome) → (stands_at t.turns.then_run).outcome ≡ outcome → EndsAs n ordered.plan (stands_at t.turns.then_run) outcome end → EndGives run end result
    outcome_gives Finished so (inl (all, ended)) = by_end Sealed ended (λ calls c.
        let q = quiet_end (last_of Sealed) result last refl calls in
        let heard = unheard Finished so (λ bad. absurd (cc bad)) in
        (run_all (by_says Finished so) q.0, all_called heard (full_set drives_then.sealed n (sealed_low heard) all), q.1))
    outcome_gives Finished so (inr (not_all, ended)) = by_end Dropped ended (λ calls c.
        let q = quiet_end (last_of Dropped) result last refl calls in
        let heard = unheard Finished so (λ bad. absurd (cc bad)) in
        (run_all (by_says Finished so) q.0, some_dropped heard (is_end Finished so tt) (λ every. not_all (whole_set drives_then.sealed n (sealed_low heard) every)), q.1))
    outcome_gives NoneLeft so ended = by_end Dropped ended (λ calls c.
        let q = quiet_end (last_of Dropped) result last refl calls in
        let heard = unheard NoneLeft so (λ bad. absurd (cc bad)) in
        (run_all (by_says NoneLeft so) q.0, some_dropped heard (is_end NoneLeft so tt) (none_left so), q.1))
    outcome_gives CardLost so ended = by_end CardFailed ended (λ calls c. (says_end (last_of CardFailed) result run last calls c.status (λ five. absurd (omega (arith, five))) (run_some (by_says CardLost so)), c.cause))
    outcome_gives (Changed index listed read) so (file, there, ended) = by_end (CardChanged listed read file.path) ended (λ calls c. (
      says_end (last_of (CardChanged listed read file.path)) result run last calls c.status (λ five. absurd (omega (arith, five))) (run_some (by_says (Changed index listed read) so)),
      has_other run ordered index listed read file turning of_job.source plan there (other_lengths ordered at_first at_last t.turns.starts knows alone index listed read so behind turning t.was t.now) reads_all,
      never_steady index listed read so,
    ))
    outcome_gives LineLost so ended = by_end OutFailed ended (λ calls c.
        let q = quiet_end (last_of OutFailed) result last refl calls in
        (either_says (by_says LineLost so) q.0, q.1, c.cause))
    outcome_gives (Altered index listed read) so never = absurd never
    outcome_gives Going so never = absurd never

    pub ran_gives : EndGives run end result
    ran_gives = outcome_gives (stands_at t.turns.then_run).outcome refl t.turns.ends

    -- ---- every drive is called sealed

    outcome_zero : (outcome : Outcome) → (stands_at t.turns.then_run).outcome ≡ outcome → EndsAs n ordered.plan (stands_at t.turns.then_run) outcome end → ZeroWhere run result
    outcome_zero Finished so (inl (all, ended)) called = inl (quiet_end (last_of Sealed) result last refl (subst (λ (y : JobEnd). EndCalls (last_of y) result last) ended lasts.calls)).1
    outcome_zero Finished so (inr (not_all, ended)) called =
        let heard = unheard Finished so (λ bad. absurd (cc bad)) in
        absurd (not_all (whole_set drives_then.sealed n (sealed_low heard) (λ d low. sealed_on heard d (called d low))))
    outcome_zero NoneLeft so ended called = let heard = unheard NoneLeft so (λ bad. absurd (cc bad)) in absurd (none_left so (λ d low. sealed_on heard d (called d low)))
    outcome_zero CardLost so ended called =
        let heard = unheard CardLost so (λ bad. absurd (cc bad)) in
        let left = (end_of CardLost so).1 in
        absurd (left_open left.0 left.1 (λ d low. sealed_on heard d (called d low)))
    outcome_zero (Changed index listed read) so ended called =
        let heard = unheard (Changed index listed read) so (λ bad. absurd (cc bad)) in
        let left = (end_of (Changed index listed read) so).1 in
        absurd (left_open left.0 left.1 (λ d low. sealed_on heard d (called d low)))
    outcome_zero LineLost so ended called =
        let q = quiet_end (last_of OutFailed) result last refl (subst (λ (y : JobEnd). EndCalls (last_of y) result last) ended lasts.calls) in
        inr (q.1, (subst (λ (y : JobEnd). EndCounts (run_with job old new []) y result) ended counts).cause)
    outcome_zero (Altered index listed read) so never called = absurd never
    outcome_zero Going so never called = absurd never

    pub ran_zero : ZeroWhere run result
    ran_zero = outcome_zero (stands_at t.turns.then_run).outcome refl t.turns.ends
