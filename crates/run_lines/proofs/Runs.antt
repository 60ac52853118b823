-- What any number of turns say: of each drive one line each, and all of them in their order.
use Rattle.std.proofs.Common.{◌≡◌, ◌≢◌, ◌⊎◌, inl, inr, ℕ, ◌<◌, Bool, true, false, cond, List, [], ◌∷◌, ◌++◌, length, map, refl, sym, ap, ◌∙◌, subst, arith, append-nil}
use Rattle.std.specs.Prelude.{◌↔◌, Some, Contains, nat_eq, if◌then◌else◌}
use Rattle.std.specs.List.{filter, AllByRecursion}
use Rattle.std.proofs.lemmas.Bool.{cases_eq}
use Rattle.std.proofs.lemmas.Bool.Decides.{nat_tests}
use Rattle.std.proofs.lemmas.List.Elements.{filter-append}
use Rattle.bay_core.specs.declared.event.Event.{Event}
use Rattle.copy_plan.specs.Plan.{PlanValue}
use Rattle.fan_core.specs.Flags.{has}
use Rattle.report_text.specs.Run.{clear_text}
use Rattle.run_state.specs.declared.outcome.Outcome.{Outcome}
use Rattle.run_state.specs.declared.outcome.Outcome.TheVariants.{Going, Finished, NoDrive, SourceFailed, Changed, Altered, OutFailed}
use Rattle.run_state.specs.Acts.{is_clear}
use Rattle.run_state.specs.Rules.{IsOver, IsRun, IsStart}
use Rattle.run_state.specs.Runs.{Point, Runs, starts, turns, beside, Alone, still, turned, is_about, IsAboutNone}
use Rattle.run_state.specs.State.{Ordered, DriveAt, files_of, drive_at, is_gone, is_sealed, is_of_run}
use Rattle.run_lines.specs.Words.{Loss, Mark, Sealed, Lost, Word, mark_text, word_text, marks_of, all_marks, IsSoFar, IsWhole, sealed_in}
use Rattle.run_lines.specs.Lines.{lines_in, lines_about, IsEnd, SaysOf, OneLineEach, Among, StandAmong, StandAlone, clear_lines, SaysSome, SaysAll, SaysBy}
use Rattle.run_lines.proofs.Since.{since_at}
use Rattle.run_lines.proofs.Texts.{about_it, about_no_other, clear_about_none}
use Rattle.run_lines.proofs.Marks.{Told, sealed_said, loss_said, told_so_far, told_whole}
use Rattle.run_lines.proofs.Orders.{is_begun}
use Rattle.run_lines.proofs.Counts.{all_weaker}
use Rattle.run_lines.proofs.Drives.{not_of_run, was_dropped, gone_is}
use Rattle.run_lines.proofs.Starts.{at_start, few_at, unsealed}
use Rattle.run_lines.proofs.Saying.{among_about, among_alone}
use Rattle.run_lines.proofs.Exact.{some_words, all_words}
use Rattle.run_lines.proofs.Keeping.{Stand, all_lines, Standing, Broken, Kept, turn_kept, beside_kept, start_kept}

abbrev pub KeepsRules : Type 0
KeepsRules = (o : Ordered) (a b : Point) → IsRun o a.at → Runs o a b → IsRun o b.at

abbrev pub AreRuns : Type 0
AreRuns = (o : Ordered) (a b : Point) → Alone o a b → Runs o a b

-- no line is another's
abbrev pub Nobody : List ℕ → Type 0
Nobody line = ⊥

module _ (rules : KeepsRules) (o : Ordered) (a : Point) (start : IsStart o a.at) where
  -- with what others do between the turns
  pub runs_kept : (b : Point) → Runs o a b → Kept o a start (IsAboutNone a.at.drives) b.at b.world
  runs_kept b starts = start_kept o a start (IsAboutNone a.at.drives)
  runs_kept b (turns {b = x} so_far t) = turn_kept o a start (IsAboutNone a.at.drives) x b (rules o a x start.run so_far) (rules o a b start.run (turns so_far t)) (runs_kept x so_far) t
  runs_kept b (beside {b = x} so_far t) = beside_kept o a start (IsAboutNone a.at.drives) x b (λ line none. none) (runs_kept x so_far) t

  -- with nothing between them
  pub alone_kept : AreRuns → (b : Point) → Alone o a b → Kept o a start Nobody b.at b.world
  alone_kept runs b still = start_kept o a start Nobody
  alone_kept runs b (turned {b = x} so_far t) = turn_kept o a start Nobody x b (rules o a x start.run (runs o a x so_far)) (rules o a b start.run (runs o a b (turned so_far t))) (alone_kept runs x so_far) t

-- ---- in their order

says_as : (o : Ordered) (a : Point) (r : Outcome) (S T : List (List ℕ) → Type 0) → ((lines : List (List ℕ)) → S lines → T lines) → SaysBy o a r S → SaysBy o a r T
says_as o a r S T so says = by r says
  where
    some : SaysSome o a S → SaysSome o a T
    some x = record { words = x.words; are = x.are; lines = so (map (word_text o.plan) x.words) x.lines }

    all : SaysAll o a S → SaysAll o a T
    all x = record { words = x.words; are = x.are; lines = so (map (word_text o.plan) x.words ++ clear_lines o.copies (length (sealed_in x.words))) x.lines }

    by : (r : Outcome) → SaysBy o a r S → SaysBy o a r T
    by Going x = some x
    by Finished x = all x
    by NoDrive x = all x
    by SourceFailed x = some x
    by (Changed i listed read) x = some x
    by (Altered i listed read) x = some x
    by OutFailed (inl x) = inl (some x)
    by OutFailed (inr x) = inr (all x)

module _ (o : Ordered) (a : Point) (start : IsStart o a.at) (Other : List ℕ → Type 0) where
  says_kept : (b : Point) → IsRun o b.at → Kept o a start Other b.at b.world → (past L : List Event) → a.world.events ≡ Some past → b.world.events ≡ Some (past ++ L) → SaysBy o a b.at.outcome (Stand o a start Other L)
  says_kept b rules k past L was now = state k.state
    where
      by : (s : Standing o a start Other b.at b.world) (r : Outcome) → r ≢ OutFailed → (IsEnd r → (d : ℕ) → IsOver (drive_at b.at.drives.each d)) → Stand o a start Other L (all_lines o a start Other r s.words) → SaysBy o a r (Stand o a start Other L)
      by s Going sound over stand = record { words = s.words; are = some_words o a b.at.drives b.at.phase s.words s.exact (λ d. few_at o.plan (drive_at b.at.drives.each d) (rules.drives.each d)); lines = stand }
      by s Finished sound over stand = record { words = s.words; are = all_words o a b.at.drives b.at.phase s.words s.exact (over tt); lines = stand }
      by s NoDrive sound over stand = record { words = s.words; are = all_words o a b.at.drives b.at.phase s.words s.exact (over tt); lines = stand }
      by s SourceFailed sound over stand = record { words = s.words; are = some_words o a b.at.drives b.at.phase s.words s.exact (λ d. few_at o.plan (drive_at b.at.drives.each d) (rules.drives.each d)); lines = stand }
      by s (Changed i listed read) sound over stand = record { words = s.words; are = some_words o a b.at.drives b.at.phase s.words s.exact (λ d. few_at o.plan (drive_at b.at.drives.each d) (rules.drives.each d)); lines = stand }
      by s (Altered i listed read) sound over stand = record { words = s.words; are = some_words o a b.at.drives b.at.phase s.words s.exact (λ d. few_at o.plan (drive_at b.at.drives.each d) (rules.drives.each d)); lines = stand }
      by s OutFailed sound over stand = absurd (sound refl)

      state : Standing o a start Other b.at b.world ⊎ Broken o a start Other b.at b.world → SaysBy o a b.at.outcome (Stand o a start Other L)
      state (inl s) = by s b.at.outcome s.sound s.over (since_at s.speaks past L was now)
      state (inr broken) = subst (λ (r : Outcome). SaysBy o a r (Stand o a start Other L)) (sym broken.failed) (since_at broken.said past L was now)

pub order_beside : KeepsRules → (o : Ordered) (a b : Point) → IsStart o a.at → Runs o a b → (past L : List Event) → a.world.events ≡ Some past → b.world.events ≡ Some (past ++ L) → SaysBy o a b.at.outcome (StandAmong a L)
order_beside rules o a b start r past L was now = says_kept o a start (IsAboutNone a.at.drives) b (rules o a b start.run r) (runs_kept rules o a start b r) past L was now

pub order_alone : KeepsRules → AreRuns → (o : Ordered) (a b : Point) → IsStart o a.at → Alone o a b → (past L : List Event) → a.world.events ≡ Some past → b.world.events ≡ Some (past ++ L) → SaysBy o a b.at.outcome (StandAlone L)
order_alone rules runs o a b start r past L was now =
    says_as o a b.at.outcome (Stand o a start Nobody L) (StandAlone L) (λ lines stand. among_alone stand)
    (says_kept o a start Nobody b (rules o a b start.run (runs o a b r)) (alone_kept rules o a start runs b r) past L was now)

-- ---- the lines about one drive

module _ (p : PlanValue) (d : ℕ) where
  abbrev about : List (List ℕ) → List (List ℕ)
  about lines = filter (λ (line : List ℕ). is_about d line) lines

  equal : (e : ℕ) → e ≡ d → nat_eq e d ≡ true
  equal e is = grind (arith, nat_tests)

  differ : (e : ℕ) → e ≢ d → nat_eq e d ≡ false
  differ e ne = grind (arith, nat_tests)

  abbrev low : Word → Type 0
  low w = w.drive < 10

  about_more : (w : Word) (words : List Word) → low w → about (map (word_text p) words) ≡ map (mark_text p d) (marks_of d words) → about (map (word_text p) (w ∷ words)) ≡ map (mark_text p d) (marks_of d (w ∷ words))
  about_more w words few rest = elim (cases_eq w.drive d) [
    | inl same ↦
        ap (λ (b : Bool). cond b (word_text p w ∷ rest_lines) rest_lines) (ap (λ (e : ℕ). is_about d (mark_text p e w.mark)) same ∙ about_it p d w.mark)
        ∙ ap (λ (e : ℕ). mark_text p e w.mark ∷ rest_lines) same ∙ ap (λ (l : List (List ℕ)). mark_text p d w.mark ∷ l) rest
        ∙ sym (ap (λ (b : Bool). map (mark_text p d) (map (λ (v : Word). v.mark) (cond b (w ∷ rest_words) rest_words))) (equal w.drive same))
    | inr ne ↦
        ap (λ (b : Bool). cond b (word_text p w ∷ rest_lines) rest_lines) (about_no_other p d w.drive w.mark few (λ e. ne (sym e)))
        ∙ rest ∙ sym (ap (λ (b : Bool). map (mark_text p d) (map (λ (v : Word). v.mark) (cond b (w ∷ rest_words) rest_words))) (differ w.drive ne))
  ]
    where
      rest_lines : List (List ℕ)
      rest_lines = about (map (word_text p) words)

      rest_words : List Word
      rest_words = filter (λ (v : Word). nat_eq v.drive d) words

  about_words : (words : List Word) → AllByRecursion low words → about (map (word_text p) words) ≡ map (mark_text p d) (marks_of d words)
  about_words [] few = refl
  about_words (w ∷ words) few = about_more w words few.0 (about_words words few.1)

  about_clear : (required sealed : ℕ) → about (clear_lines required sealed) ≡ []
  about_clear required sealed = by (is_clear sealed required)
    where
      by : (b : Bool) → about (if b then clear_text sealed required ∷ [] else []) ≡ []
      by true = ap (λ (g : Bool). cond g (clear_text sealed required ∷ []) []) (clear_about_none d sealed required)
      by false = refl

module _ (o : Ordered) (a : Point) (start : IsStart o a.at) (d : ℕ) (of : is_of_run a.at.drives d ≡ true) (L : List Event) where
  abbrev n : ℕ
  n = files_of o.plan

  abbrev was : DriveAt
  was = drive_at a.at.drives.each d

  few : (words : List Word) → AllByRecursion (λ (w : Word). is_of_run a.at.drives w.drive ≡ true) words → AllByRecursion (λ (w : Word). w.drive < 10) words
  few words ours = all_weaker (λ (w : Word). is_of_run a.at.drives w.drive ≡ true) (λ (w : Word). w.drive < 10) (λ w is. (at_start o a.at start w.drive is).low) words ours

  among : {lines : List (List ℕ)} → Among (IsAboutNone a.at.drives) lines (lines_in L) → lines_about d L ≡ about o.plan d lines
  among stand = among_about d (λ line none. none d of) stand

  lines_of : (words : List Word) → AllByRecursion (λ (w : Word). is_of_run a.at.drives w.drive ≡ true) words → Among (IsAboutNone a.at.drives) (map (word_text o.plan) words) (lines_in L)
      → lines_about d L ≡ map (mark_text o.plan d) (marks_of d words)
  lines_of words ours stand = among stand ∙ about_words o.plan d words (few words ours)

  lines_of_all : (words : List Word) (required sealed : ℕ) → AllByRecursion (λ (w : Word). is_of_run a.at.drives w.drive ≡ true) words
      → Among (IsAboutNone a.at.drives) (map (word_text o.plan) words ++ clear_lines required sealed) (lines_in L) → lines_about d L ≡ map (mark_text o.plan d) (marks_of d words)
  lines_of_all words required sealed ours stand =
      among stand ∙ filter-append (λ (line : List ℕ). is_about d line) (map (word_text o.plan) words) (clear_lines required sealed)
      ∙ ap (λ (l : List (List ℕ)). about o.plan d (map (word_text o.plan) words) ++ l) (about_clear o.plan d required sealed) ∙ append-nil (about o.plan d (map (word_text o.plan) words)) ∙ about_words o.plan d words (few words ours)

  whole_so_far : (all said : List Mark) → IsWhole all said → IsSoFar all said
  whole_so_far all said (inl same) = inl ([], sym same ∙ sym (append-nil said))
  whole_so_far all said (inr cut) = inr cut

  module _ (b : Point) (rules : IsRun o b.at) where
    -- where each line was said
    of_standing : (s : Standing o a start (IsAboutNone a.at.drives) b.at b.world) → is_of_run b.at.drives d ≡ true → Among (IsAboutNone a.at.drives) (all_lines o a start (IsAboutNone a.at.drives) b.at.outcome s.words) (lines_in L) → SaysOf o a b d L
    of_standing s still_of stand = record {
      marks = marks_of d s.words;
      lines = by b.at.outcome stand;
      so_far = told_so_far n was now (is_begun d b.at.phase) (marks_of d s.words) (few_at o.plan now (rules.drives.each d)) told;
      whole = λ end. told_whole n was now (is_begun d b.at.phase) (marks_of d s.words) (s.over end d) told;
      sealed = λ sound. (λ h. sealed.0 (sym (rules.drives.said d) ∙ h), λ h. rules.drives.said d ∙ sealed.1 h);
      dropped = λ sound. (λ h. loss.0 (ap is_gone (rules.drives.lost d h)), λ h. was_dropped b.at.drives d still_of (loss.1 h));
    }
      where
        now : DriveAt
        now = drive_at b.at.drives.each d

        told : Told n was (drive_at b.at.drives.each d) (is_begun d b.at.phase) (marks_of d s.words)
        told = s.exact.told d of

        sealed : (is_sealed (drive_at b.at.drives.each d) ≡ true) ↔ Contains (marks_of d s.words) Sealed
        sealed = sealed_said n was (at_start o a.at start d of).live (unsealed start d) (drive_at b.at.drives.each d) (is_begun d b.at.phase) (marks_of d s.words) told

        loss : (is_gone (drive_at b.at.drives.each d) ≡ true) ↔ ((loss : Loss) × Contains (marks_of d s.words) (Lost loss))
        loss = loss_said n was (at_start o a.at start d of).live (unsealed start d) (drive_at b.at.drives.each d) (is_begun d b.at.phase) (marks_of d s.words) told

        by : (r : Outcome) → Among (IsAboutNone a.at.drives) (all_lines o a start (IsAboutNone a.at.drives) r s.words) (lines_in L) → lines_about d L ≡ map (mark_text o.plan d) (marks_of d s.words)
        by Going stand = lines_of s.words s.exact.ours stand
        by Finished stand = lines_of_all s.words o.copies (length (sealed_in s.words)) s.exact.ours stand
        by NoDrive stand = lines_of_all s.words o.copies (length (sealed_in s.words)) s.exact.ours stand
        by SourceFailed stand = lines_of s.words s.exact.ours stand
        by (Changed i listed read) stand = lines_of s.words s.exact.ours stand
        by (Altered i listed read) stand = lines_of s.words s.exact.ours stand
        by OutFailed stand = lines_of s.words s.exact.ours stand

    -- where one was not
    of_broken : b.at.outcome ≡ OutFailed → SaysSome o a (StandAmong a L) ⊎ SaysAll o a (StandAmong a L) → SaysOf o a b d L
    of_broken failed (inl some) = record {
      marks = marks_of d some.words;
      lines = lines_of some.words some.are.ours some.lines;
      so_far = some.are.each d of;
      whole = λ end. absurd (subst IsEnd failed end);
      sealed = λ sound. absurd (sound failed);
      dropped = λ sound. absurd (sound failed);
    }
    of_broken failed (inr all) = record {
      marks = marks_of d all.words;
      lines = lines_of_all all.words o.copies (length (sealed_in all.words)) all.are.ours all.lines;
      so_far = whole_so_far (all_marks n was) (marks_of d all.words) (all.are.each d of);
      whole = λ end. absurd (subst IsEnd failed end);
      sealed = λ sound. absurd (sound failed);
      dropped = λ sound. absurd (sound failed);
    }

gone_unsealed : (x : DriveAt) → is_gone x ≡ true → is_sealed x ≡ false
gone_unsealed x gone = ap is_sealed (gone_is x gone)

pub one_each : KeepsRules → (o : Ordered) (a b : Point) → IsStart o a.at → Runs o a b → (past L : List Event) → a.world.events ≡ Some past → b.world.events ≡ Some (past ++ L) → OneLineEach o a b L
one_each rules o a b start r past L was now = record { each = λ d of. by d of k.state; no_other = λ d off. none d (not_of_run b.at.drives d (k.run.of_run d ∙ off)) }
  where
    is_run : IsRun o b.at
    is_run = rules o a b start.run r

    k : Kept o a start (IsAboutNone a.at.drives) b.at b.world
    k = runs_kept rules o a start b r

    by : (d : ℕ) → is_of_run a.at.drives d ≡ true → Standing o a start (IsAboutNone a.at.drives) b.at b.world ⊎ Broken o a start (IsAboutNone a.at.drives) b.at b.world → SaysOf o a b d L
    by d of (inl s) = of_standing o a start d of L b is_run s (k.run.of_run d ∙ of) (since_at s.speaks past L was now)
    by d of (inr broken) = of_broken o a start d of L b is_run broken.failed (since_at broken.said past L was now)

    none : (d : ℕ) → (is_gone (drive_at b.at.drives.each d) ≡ true) × (has b.at.drives.dropped d ≡ false) → (has b.at.drives.sealed d ≡ false) × (has b.at.drives.dropped d ≡ false)
    none d (gone, off) = (is_run.drives.said d ∙ gone_unsealed (drive_at b.at.drives.each d) gone, off)
