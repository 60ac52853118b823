-- What is so of a run that ended so.
use Rattle.std.proofs.Common.{◌≡◌, ◌≢◌, ◌⊎◌, inl, inr, ℕ, zero, suc, ◌<◌, ◌≤◌, Bool, false, List, [], ◌∷◌, ◌++◌, length, map, take, refl, sym, ap, ◌∙◌, subst, arith}
use Rattle.std.specs.Prelude.{Option, Some, None, Result, Ok, Err, Contains, if◌then◌else◌}
use Rattle.std.specs.List.{slice_get, AllByRecursion}
use Rattle.std.proofs.lemmas.Bool.{cases_Bool}
use Rattle.std.proofs.lemmas.List.Elements.{Contains-append_left, Contains-append_right, Contains-append_cases}
use Rattle.bay_core.specs.declared.event.Event.{Event}
use Rattle.bay_core.specs.declared.event.Event.TheVariants.{AttachFailed, Write, Sync, Rename, Remove, Say}
use Rattle.bay_core.specs.Looks.{IsUntouched, is_effect}
use Rattle.bay_core.specs.Replay.{Output, device_of}
use Rattle.bay_core.specs.Went.{AllOn, Only, MaySee}
use Rattle.bay_core.specs.World.{World}
use Rattle.bay_core.proofs.Looking.{untouched_append}
use Rattle.card_inventory.specs.declared.error.InventoryError.{InventoryError}
use Rattle.card_inventory.specs.declared.error.InventoryError.TheVariants.{SourceFailed, EmptyCard, TooManyFiles, BadPath, BadDate, TooManyBytes, Control, TooBig, Clash as FilesClash, Memory as CardMemory}
use Rattle.command_words.specs.Jobs.{Job, all_kinds}
use Rattle.copy_plan.specs.Plan.{PlanValue}
use Rattle.drive_journal.specs.declared.order.Order.{Order}
use Rattle.fresh_opening.specs.declared.error.FreshError.{FreshError}
use Rattle.fresh_opening.specs.declared.error.FreshError.TheVariants.{Inventory, NotAJournal, AlreadyBegun, NoDrive, Clash, Occupied, OutFailed as LineFailed, Memory}
use Rattle.fresh_opening.specs.Sights.{Sight, Dropped as DroppedSight, Found}
use Rattle.offload_law.specs.Clear.{IsSaid}
use Rattle.report_text.specs.Losses.{dropped_fault_text}
use Rattle.report_text.specs.Run.{clear_text}
use Rattle.run_state.specs.Acts.{is_clear}
use Rattle.run_state.specs.State.{files_of}
use Rattle.run_lines.specs.Lines.{lines_in, clear_lines}
use Rattle.run_lines.specs.Words.{Lost, Fault, word_text, begun_marks, IsSoFar, IsWhole, sealed_in}
use Rattle.run_lines.proofs.Clearing.{clear_means}
use Rattle.run_lines.proofs.Counts.{contains_map}
use Rattle.run_lines.proofs.Marks.{cut_first}
use Rattle.run_lines.proofs.Saying.{lines_append, line_said}
use Rattle.job_story.specs.Ends.{JobEnd, Dropped, Refused, CardUnattached, DriveUnattached, CardFailed, OutFailed, NoMemory, refusal_lines, last_of, opening_end}
use Rattle.job_story.specs.Run.{Run, run_with}
use Rattle.job_calls.specs.Calls.{job_attaches, drive_attaches, unattached_end, StopsAttaching}
use Rattle.job_calls.proofs.Ending.{Lasts, lasts_of}
use Rattle.job_calls.proofs.Parts.{EndsBy}
use Rattle.job_ends.specs.Counts.{EndCounts}
use Rattle.job_ends.specs.Ends.{EndGives}
use Rattle.job_ends.specs.Says.{SaysAll, SaysSome}
use Rattle.job_ends.proofs.Lasts.{quiet_end, says_end}
use Rattle.job_ends.proofs.Looks.{word, lost_words, sight_marks, lost_has, lost_sealed, OpeningSays}
use Rattle.job_ends.proofs.Words.{losses_are}

-- a plan of nothing, by which no more than losses are said
pub no_plan : PlanValue
no_plan = record { name = []; user = []; host = []; started = 0; kinds = all_kinds; source_list = None; files = [] }

-- ---- lines of parts

attach_lines : (d : ℕ) (places : List (List ℕ)) → lines_in (drive_attaches d places) ≡ []
attach_lines d [] = refl
attach_lines d (place ∷ places) = attach_lines (suc d) places

pub no_job_lines : (job : Job) → lines_in (job_attaches job) ≡ []
no_job_lines job = attach_lines 0 job.drives

pub job_lines : (job : Job) (rest : List Event) → lines_in (job_attaches job ++ rest) ≡ lines_in rest
job_lines job rest = lines_append (job_attaches job) rest ∙ ap (λ (l : List (List ℕ)). l ++ lines_in rest) (attach_lines 0 job.drives)

take_attaches : (n d : ℕ) (places : List (List ℕ)) → lines_in (take n (drive_attaches d places)) ≡ []
take_attaches zero d places = refl
take_attaches (suc n) d [] = refl
take_attaches (suc n) d (place ∷ places) = take_attaches n (suc d) places

pub take_lines : (n : ℕ) (job : Job) → lines_in (take n (job_attaches job)) ≡ []
take_lines zero job = refl
take_lines (suc n) job = take_attaches n 0 job.drives

-- a line of a part is one of the whole
pub said_behind : (A L : List Event) (line : List ℕ) → IsSaid L line → IsSaid (A ++ L) line
said_behind A L line (ok, has) = (ok, Contains-append_right A L (Say line ok) has)

pub said_before : (L B : List Event) (line : List ℕ) → IsSaid L line → IsSaid (L ++ B) line
said_before L B line (ok, has) = (ok, Contains-append_left L B (Say line ok) has)

pub said_either : (A B : List Event) (line : List ℕ) → IsSaid (A ++ B) line → IsSaid A line ⊎ IsSaid B line
said_either A B line (ok, has) = elim (Contains-append_cases A B (Say line ok) has) [
  | inl first ↦ inl (ok, first)
  | inr second ↦ inr (ok, second)
]

-- ---- calls that change nothing

attaches_untouched : (d : ℕ) (places : List (List ℕ)) → IsUntouched (drive_attaches d places)
unfolding IsUntouched
attaches_untouched d [] = tt
attaches_untouched d (place ∷ places) = (refl, attaches_untouched (suc d) places)

job_untouched : (job : Job) → IsUntouched (job_attaches job)
unfolding IsUntouched
job_untouched job = (refl, attaches_untouched 0 job.drives)

take_untouched : (n : ℕ) (L : List Event) → IsUntouched L → IsUntouched (take n L)
unfolding IsUntouched
take_untouched zero L none = tt
take_untouched (suc n) [] none = tt
take_untouched (suc n) (e ∷ L) none = (none.0, take_untouched n L none.1)

line_untouched : (e : Event) → device_of e ≡ Output → is_effect e ≡ false
line_untouched (Write d path at bytes ok) on = absurd (cc on)
line_untouched (Sync d ok) on = absurd (cc on)
line_untouched (Rename d from to ok) on = absurd (cc on)
line_untouched (Remove d path ok) on = absurd (cc on)
line_untouched e on = refl

lines_untouched : (L : List Event) → AllOn (Only Output) L → IsUntouched L
unfolding AllOn IsUntouched
lines_untouched [] on = tt
lines_untouched (e ∷ L) on = (line_untouched e on.0, lines_untouched L on.1)

failed_untouched : (place : List ℕ) (L : List Event) → MaySee (AttachFailed place) L → IsUntouched L
unfolding IsUntouched
failed_untouched place L (inl none) = subst IsUntouched (sym none) tt
failed_untouched place L (inr one) = subst IsUntouched (sym one) (refl, tt)

pub failed_lines : (place : List ℕ) (L : List Event) → MaySee (AttachFailed place) L → lines_in L ≡ []
failed_lines place L (inl none) = ap lines_in none
failed_lines place L (inr one) = ap lines_in one

-- ---- losses alone

losses_so_far : (n : ℕ) (x : Option Sight) → IsSoFar (begun_marks n 0) (sight_marks x)
losses_so_far n None = inl (begun_marks n 0, refl)
losses_so_far n (Some DroppedSight) = inr (cut_first n 0 Fault)
losses_so_far n (Some (Found size found)) = inl (begun_marks n 0, refl)

-- losses of looks, and then these lines
losses_say : (run : Run) (xs : List Sight) → length xs ≤ length run.job.drives → (last : List (List ℕ)) → lines_in run.events ≡ map (word_text no_plan) (lost_words 0 xs) ++ last → SaysSome run last
losses_say run xs few last lines = record { p = no_plan; words = lost_words 0 xs; are = losses_are run IsSoFar no_plan xs few (λ d low. losses_so_far (files_of no_plan) (slice_get xs d)); lines = lines }

all_dropped : (xs : List Sight) → AllByRecursion (λ x. x ≡ DroppedSight) xs → (d : ℕ) → d < length xs → slice_get xs d ≡ Some DroppedSight
all_dropped [] all d low = absurd (omega (arith, low))
all_dropped (x ∷ xs) all zero low = ap Some all.0
all_dropped (x ∷ xs) all (suc d) low = all_dropped xs all.1 d (omega (arith, low))

-- no drive is sealed, and one at least is required
not_clear : (required : ℕ) → 1 ≤ required → clear_lines required 0 ≡ []
not_clear required some = elim (cases_Bool (is_clear 0 required)) [
  | inl is ↦ (let means = clear_means 0 required is in let one = means.0 in let two = means.1 in absurd (omega (arith, one, two)))
  | inr not_so ↦ ap (λ (b : Bool). if b then clear_text 0 required ∷ [] else []) not_so
]

-- ---- stopped at an attach

module _ (job : Job) (result : ℕ) (old new : World) (since : List Event) where
  abbrev run : Run
  run = run_with job old new since

  module _ (end : JobEnd) (s : StopsAttaching job end result since) where
    abbrev lasts : Lasts end result s.last
    lasts = lasts_of end result s.last s.lines

    stopped_untouched : IsUntouched since
    stopped_untouched = subst IsUntouched (sym s.is)
        (untouched_append (take s.n (job_attaches job)) (s.failed ++ s.last) (take_untouched s.n (job_attaches job) (job_untouched job))
        (untouched_append s.failed s.last (failed_untouched s.place s.failed s.seen) (lines_untouched s.last lasts.on)))

    stopped_lines : lines_in since ≡ lines_in s.last
    stopped_lines =
        let first : lines_in (take s.n (job_attaches job)) ≡ [] = take_lines s.n job in
        let failed : lines_in s.failed ≡ [] = failed_lines s.place s.failed s.seen in
        ap lines_in s.is ∙ lines_append (take s.n (job_attaches job)) (s.failed ++ s.last) ∙ (λ i. first i ++ lines_append s.failed s.last i) ∙ ap (λ (l : List (List ℕ)). l ++ lines_in s.last) failed

    stopped_some : (lines : List (List ℕ)) → lines_in s.last ≡ lines → SaysSome run lines
    stopped_some lines is = losses_say run [] (omega arith) lines (stopped_lines ∙ is)

  stopped_by : (n : ℕ) (end : JobEnd) → end ≡ unattached_end n → StopsAttaching job end result since → EndCounts (run_with job old new []) end result → EndGives run end result
  stopped_by zero end is s counts =
      subst (λ (x : JobEnd). EndGives run x result) (sym is)
      (card_stopped (subst (λ (x : JobEnd). StopsAttaching job x result since) is s) (subst (λ (x : JobEnd). EndCounts (run_with job old new []) x result) is counts))
    where
      card_stopped : StopsAttaching job CardUnattached result since → EndCounts (run_with job old new []) CardUnattached result → EndGives run CardUnattached result
      card_stopped t c = (says_end (last_of CardUnattached) result run t.last t.lines c.status (λ five. absurd (omega (arith, five))) (stopped_some CardUnattached t), stopped_untouched CardUnattached t, c.attached, c.cause)
  stopped_by (suc d) end is s counts =
      subst (λ (x : JobEnd). EndGives run x result) (sym is)
      (drive_stopped (subst (λ (x : JobEnd). StopsAttaching job x result since) is s) (subst (λ (x : JobEnd). EndCounts (run_with job old new []) x result) is counts))
    where
      drive_stopped : StopsAttaching job (DriveUnattached d) result since → EndCounts (run_with job old new []) (DriveUnattached d) result → EndGives run (DriveUnattached d) result
      drive_stopped t c =
          (says_end (last_of (DriveUnattached d)) result run t.last t.lines c.status (λ five. absurd (omega (arith, five))) (stopped_some (DriveUnattached d) t), stopped_untouched (DriveUnattached d) t, c.attached, c.cause)

  pub stopped_gives : (end : JobEnd) → StopsAttaching job end result since → EndCounts (run_with job old new []) end result → EndGives run end result
  stopped_gives end s counts = stopped_by s.n end s.ends s counts

  -- ---- stopped behind the opening

  module _ (came : Result Order FreshError) (opening last : List Event) (says : OpeningSays (length job.drives) came opening) (untouched : IsUntouched opening) (is : since ≡ job_attaches job ++ (opening ++ last)) where
    closed_lines : lines_in since ≡ map (word_text no_plan) (lost_words 0 says.sights) ++ lines_in last
    closed_lines = ap lines_in is ∙ job_lines job (opening ++ last) ∙ lines_append opening last ∙ ap (λ (l : List (List ℕ)). l ++ lines_in last) (says.lines no_plan)

    closed_some : (lines : List (List ℕ)) → lines_in last ≡ lines → SaysSome run lines
    closed_some lines same = losses_say run says.sights says.few lines (closed_lines ∙ ap (λ (l : List (List ℕ)). map (word_text no_plan) (lost_words 0 says.sights) ++ l) same)

    closed_untouched : AllOn (Only Output) last → IsUntouched since
    closed_untouched on = subst IsUntouched (sym is) (untouched_append (job_attaches job) (opening ++ last) (job_untouched job) (untouched_append opening last untouched (lines_untouched last on)))

    abbrev counts_of : JobEnd → Type 0
    counts_of x = EndCounts (run_with job old new []) x result

    memory_gives : Lasts NoMemory result last → counts_of NoMemory → EndGives run NoMemory result
    memory_gives l c = (says_end (last_of NoMemory) result run last l.calls c.status (λ five. absurd (omega (arith, five))) closed_some, closed_untouched l.on)

    card_gives : Lasts CardFailed result last → counts_of CardFailed → EndGives run CardFailed result
    card_gives l c = (says_end (last_of CardFailed) result run last l.calls c.status (λ five. absurd (omega (arith, five))) closed_some, c.cause)

    refused_gives : (e : FreshError) → refusal_lines e ≢ [] → Lasts (Refused e) result last → counts_of (Refused e) → EndGives run (Refused e) result
    refused_gives e some l c = (says_end (last_of (Refused e)) result run last l.calls c.status (λ five. absurd (omega (arith, five))) closed_some, some, closed_untouched l.on)

    unsaid_gives : Lasts OutFailed result last → counts_of OutFailed → EndGives run OutFailed result
    unsaid_gives l c = let q = quiet_end (last_of OutFailed) result last refl l.calls in (inl (closed_some [] q.0), q.1, c.cause)

    -- no drive is left
    module _ (left : came ≡ Err NoDrive) (some : 1 ≤ length job.drives) (required : 1 ≤ job.copies) where
      lost_each : (d : ℕ) → d < length job.drives → slice_get says.sights d ≡ Some DroppedSight
      lost_each d low = let all = says.none_left left in all_dropped says.sights all.1 d (let whole = all.0 in omega (arith, low, whole))

      none_clear : clear_lines job.copies (length (sealed_in (lost_words 0 says.sights))) ≡ []
      none_clear = ap (λ (ds : List ℕ). clear_lines job.copies (length ds)) (lost_sealed 0 says.sights) ∙ not_clear job.copies required

      left_gives : Lasts Dropped result last → counts_of Dropped → EndGives run Dropped result
      left_gives l c =
          let q = quiet_end (last_of Dropped) result last refl l.calls in
          let all : SaysAll run = record {
            p = no_plan;
            words = lost_words 0 says.sights;
            are = losses_are run IsWhole no_plan says.sights says.few (λ d low. subst (λ (x : Option Sight). IsWhole (begun_marks (files_of no_plan) 0) (sight_marks x)) (sym (lost_each d low)) (inr (cut_first (files_of no_plan) 0 Fault)));
            lines = closed_lines ∙ ap (λ (l : List (List ℕ)). map (word_text no_plan) (lost_words 0 says.sights) ++ l) (q.0 ∙ sym none_clear);
          } in
          let said : IsSaid opening (dropped_fault_text 0) =
          line_said opening (dropped_fault_text 0)
          (subst (λ (l : List (List ℕ)). Contains l (dropped_fault_text 0)) (sym (says.lines no_plan))
          (contains_map (word_text no_plan) (lost_words 0 says.sights) (word 0 (Lost Fault)) (lost_has 0 0 says.sights (lost_each 0 (omega (arith, some)))))) in
          let whole : IsSaid since (dropped_fault_text 0) = subst (λ (E : List Event). IsSaid E (dropped_fault_text 0)) (sym is) (said_behind (job_attaches job) (opening ++ last) (dropped_fault_text 0) (said_before opening last (dropped_fault_text 0) said)) in
          (all, (0, omega (arith, some), (Fault, whole)), q.1)

    inventory_gives : (e : InventoryError) → Lasts (opening_end (Inventory e)) result last → counts_of (opening_end (Inventory e)) → EndGives run (opening_end (Inventory e)) result
    inventory_gives SourceFailed l c = card_gives l c
    inventory_gives CardMemory l c = memory_gives l c
    inventory_gives EmptyCard l c = refused_gives (Inventory EmptyCard) (λ is. absurd (cc is)) l c
    inventory_gives (TooManyFiles count) l c = refused_gives (Inventory (TooManyFiles count)) (λ is. absurd (cc is)) l c
    inventory_gives (BadPath index cause) l c = refused_gives (Inventory (BadPath index cause)) (λ is. absurd (cc is)) l c
    inventory_gives (BadDate path) l c = refused_gives (Inventory (BadDate path)) (λ is. absurd (cc is)) l c
    inventory_gives (TooManyBytes sum) l c = refused_gives (Inventory (TooManyBytes sum)) (λ is. absurd (cc is)) l c
    inventory_gives (Control path) l c = refused_gives (Inventory (Control path)) (λ is. absurd (cc is)) l c
    inventory_gives (TooBig path) l c = refused_gives (Inventory (TooBig path)) (λ is. absurd (cc is)) l c
    inventory_gives (FilesClash first second) l c = refused_gives (Inventory (FilesClash first second)) (λ is. absurd (cc is)) l c

    module _ (some : 1 ≤ length job.drives) (required : 1 ≤ job.copies) where
      error_gives : (e : FreshError) → came ≡ Err e → Lasts (opening_end e) result last → counts_of (opening_end e) → EndGives run (opening_end e) result
      error_gives (Inventory e) so l c = inventory_gives e l c
      error_gives (NotAJournal d at) so l c = refused_gives (NotAJournal d at) (λ is. absurd (cc is)) l c
      error_gives (AlreadyBegun d) so l c = refused_gives (AlreadyBegun d) (λ is. absurd (cc is)) l c
      error_gives NoDrive so l c = left_gives so some required l c
      error_gives (Clash list path) so l c = refused_gives (Clash list path) (λ is. absurd (cc is)) l c
      error_gives (Occupied d path) so l c = refused_gives (Occupied d path) (λ is. absurd (cc is)) l c
      error_gives LineFailed so l c = unsaid_gives l c
      error_gives Memory so l c = memory_gives l c

      by_end : (x end : JobEnd) → (Lasts x result last → counts_of x → EndGives run x result) → end ≡ x → Lasts end result last → counts_of end → EndGives run end result
      by_end x end gives so l c = subst (λ (y : JobEnd). EndGives run y result) (sym so) (gives (subst (λ (y : JobEnd). Lasts y result last) so l) (subst counts_of so c))

      answer_gives : (r : Result Order FreshError) (end : JobEnd) → came ≡ r → EndsBy r end → Lasts end result last → counts_of end → EndGives run end result
      answer_gives (Ok order) end so ends l c = by_end NoMemory end memory_gives ends l c
      answer_gives (Err e) end so ends l c = by_end (opening_end e) end (error_gives e so) ends l c

      pub closed_gives : (end : JobEnd) → EndsBy came end → Lasts end result last → counts_of end → EndGives run end result
      closed_gives end ends l c = answer_gives came end refl ends l c
