-- What the counts and the numbers of devices show of the end of a run.
use Rattle.std.proofs.Common.{◌≡◌, ◌≢◌, inl, inr, ℕ, suc, ◌+◌, ◌<◌, ◌≤◌, List, [], ◌∷◌, length, take, refl, sym, ap, ◌∙◌, subst, arith, length-take}
use Rattle.std.specs.Prelude.{Result, Ok, Err}
use Rattle.std.proofs.lemmas.Option.{slice_get_within}
use Rattle.bay_core.specs.declared.failed.Failed.{Failed as DeviceFailed}
use Rattle.bay_core.specs.Attach.{Attaches, CardAttaches}
use Rattle.bay_core.specs.Replay.{Device, Source, Drive, Attaching, Output, Clock, Picker}
use Rattle.bay_core.specs.Went.{Only}
use Rattle.bay_core.specs.World.{World, Attached, Rose}
use Rattle.card_inventory.specs.declared.error.InventoryError.{InventoryError}
use Rattle.card_inventory.specs.declared.error.InventoryError.TheVariants.{SourceFailed, EmptyCard, TooManyFiles, BadPath, BadDate, TooManyBytes, Control, TooBig, Clash as FilesClash, Memory as CardMemory}
use Rattle.drive_journal.specs.declared.order.Order.{Order}
use Rattle.fresh_opening.specs.declared.error.FreshError.{FreshError}
use Rattle.fresh_opening.specs.declared.error.FreshError.TheVariants.{Inventory, NotAJournal, AlreadyBegun, NoDrive, Clash, Occupied, OutFailed as LineFailed, Memory}
use Rattle.run_state.specs.declared.outcome.Outcome.{Outcome}
use Rattle.run_state.specs.declared.outcome.Outcome.TheVariants.{Going, Finished, NoDrive as NoneLeft, SourceFailed as CardLost, Changed, Altered, OutFailed as LineLost}
use Rattle.run_state.specs.Rules.{IsRun, IsStart}
use Rattle.run_state.specs.Runs.{Point, Alone, Runs}
use Rattle.run_state.specs.State.{Ordered}
use Rattle.run_steps.specs.Parts.{PartsReady}
use Rattle.run_ends.specs.Ends.{EndsRightly}
use Rattle.run_ends.specs.Known.{KnowsReadsOnward}
use Rattle.offload_run.specs.Offload.{ordered_of, stands_at}
use Rattle.command_words.specs.Jobs.{Job}
use Rattle.last_lines.specs.Ends.{End, EndStatus, Ended}
use Rattle.job_story.specs.Attaching.{AttachesDrives, AttachesAll, LacksDrive}
use Rattle.job_story.specs.Ends.{JobEnd, Sealed, Dropped, Refused, CardUnattached, DriveUnattached, CardFailed, CardChanged, OutFailed, NoMemory, last_of, opening_end}
use Rattle.job_story.specs.Run.{Run, run_with}
use Rattle.job_story.specs.Story.{Story, card_unattached, drive_unattached, unopened, unstocked, turned, Opens, Turns, EndsAs}
use Rattle.job_calls.specs.Calls.{unattached_end}
use Rattle.job_calls.proofs.Attaching.{DrivesKept, drives_kept}
use Rattle.job_calls.proofs.Owning.{opened_not, turned_not, attached_end}
use Rattle.job_calls.proofs.Parts.{CallsOwn, turns_went}
use Rattle.job_calls.proofs.Stopping.{ReadyWithout}
use Rattle.job_calls.proofs.Turning.{of_sights, keep_no_parts}
use Rattle.job_ends.specs.Counts.{ShowsCause, AreAttached, EndCounts}
use Rattle.job_ends.proofs.Differing.{Differs, differs_runs}

-- ---- counts do not fall

abbrev pub Grows : World → World → Type 0
Grows old new = (x : Device) → old.faults x ≤ new.faults x

grows_then : (old mid new : World) → Grows old mid → Grows mid new → Grows old new
grows_then old mid new one two x = let first = one x in let second = two x in omega (arith, first, second)

by_attach : (old new : World) → old.faults Attaching ≤ new.faults Attaching → ((x : Device) → (Only Attaching x → ⊥) → new.faults x ≡ old.faults x) → Grows old new
by_attach old new later others Attaching = later
by_attach old new later others (Source s) = let same = others (Source s) (λ is. absurd (cc is)) in omega (arith, same)
by_attach old new later others (Drive d) = let same = others (Drive d) (λ is. absurd (cc is)) in omega (arith, same)
by_attach old new later others Output = let same = others Output (λ is. absurd (cc is)) in omega (arith, same)
by_attach old new later others Clock = let same = others Clock (λ is. absurd (cc is)) in omega (arith, same)
by_attach old new later others Picker = let same = others Picker (λ is. absurd (cc is)) in omega (arith, same)

card_grows : (place : List ℕ) (r : Result ℕ DeviceFailed) (old new : World) → CardAttaches place r old new → Grows old new
card_grows place r old new a = by_attach old new a.later a.others

drive_grows : (place : List ℕ) (r : Result ℕ DeviceFailed) (old new : World) → Attaches place r old new → Grows old new
drive_grows place r old new a = by_attach old new a.later a.others

drives_grow : (places : List (List ℕ)) (d : ℕ) (old new : World) → AttachesDrives d places old new → Grows old new
unfolding AttachesDrives
drives_grow [] d old new is = λ x. let same = ap (λ (w : World). w.faults x) is in omega (arith, same)
drives_grow (place ∷ places) d old new (mid, a, more) = grows_then old mid new (drive_grows place (Ok d) old mid a) (drives_grow places (suc d) mid new more)

pub all_grow : (job : Job) (old mid : World) → AttachesAll job old mid → Grows old mid
all_grow job old mid a = grows_then old a.mid mid (card_grows job.card (Ok 0) old a.mid a.card) (drives_grow job.drives 0 a.mid mid a.drives)

-- a count that rose on the way rose
rose_in : (old mid late new : World) (x : Device) → Grows old mid → Grows late new → Rose (mid.faults x) (late.faults x) → Rose (old.faults x) (new.faults x)
rose_in old mid late new x before behind rose = let one = before x in let two = behind x in omega (arith, one, two, rose)

-- the status of an end
status_in : (e : End) (result : ℕ) (old late new : World) → Grows old late → EndStatus e result late new → EndStatus e result old new
status_in e result old late new grows (inl same) = inl same
status_in e result old late new grows (inr (some, five, rose)) = inr (some, five, let before = grows Output in omega (arith, before, rose))

-- ---- how many are attached

-- the card and all drives
abbrev AllAttached : Job → World → Type 0
AllAttached job w = (w.attached.sources ≡ 1) × (w.attached.drives ≡ length job.drives)

all_attached : (job : Job) (old mid : World) → old.attached.sources ≡ 0 → old.attached.drives ≡ 0 → AttachesAll job old mid → AllAttached job mid
all_attached job old mid no_cards no_drives a =
    let card : a.mid.attached.sources ≡ old.attached.sources + 1 = a.card.numbered.1 in
    let kept : DrivesKept 0 (length job.drives) a.mid.attached mid.attached = drives_kept job.drives 0 a.mid mid (a.card.numbered.3 ∙ no_drives) a.drives in
    let sources = kept.sources in
    let drives = kept.drives in
    (omega (arith, card, sources, no_cards), omega (arith, drives))

same_attached : (job : Job) (mid new : World) → new.attached ≡ mid.attached → AllAttached job mid → AllAttached job new
same_attached job mid new same (sources, drives) = (ap (λ (a : Attached). a.sources) same ∙ sources, ap (λ (a : Attached). a.drives) same ∙ drives)

are_attached : (run : Run) (end : JobEnd) → ((n : ℕ) → end ≢ unattached_end n) → AllAttached run.job run.after → AreAttached run end
are_attached run CardUnattached not all = absurd (not 0 refl)
are_attached run (DriveUnattached d) not all = absurd (not (suc d) refl)
are_attached run Sealed not all = all
are_attached run Dropped not all = all
are_attached run (Refused e) not all = all
are_attached run CardFailed not all = all
are_attached run (CardChanged listed read path) not all = all
are_attached run OutFailed not all = all
are_attached run NoMemory not all = all

-- ---- stopped at an attach

module _ (job : Job) (end : JobEnd) (result : ℕ) (old new : World) (no_cards : old.attached.sources ≡ 0) (no_drives : old.attached.drives ≡ 0) where
  abbrev run : Run
  run = run_with job old new []

  card_counts : (mid : World) (error : DeviceFailed) → end ≡ CardUnattached → CardAttaches job.card (Err error) old mid → Ended (last_of end) result mid new → EndCounts run end result
  card_counts mid error is a e =
      let same : new.attached ≡ old.attached = e.went.attached ∙ a.numbered in
      record {
        status = status_in (last_of end) result old mid new (card_grows job.card (Err error) old mid a) e.status;
        cause = subst (ShowsCause run) (sym is) (rose_in old old mid new Attaching (λ x. omega arith) e.went.later a.cause);
        attached = subst (AreAttached run) (sym is) (ap (λ (b : Attached). b.sources) same ∙ no_cards, ap (λ (b : Attached). b.drives) same ∙ no_drives);
      }

  drive_counts : (d : ℕ) (mid : World) → end ≡ DriveUnattached d → LacksDrive job d old mid → Ended (last_of end) result mid new → EndCounts run end result
  drive_counts d mid is l e =
      let grows : Grows old l.mid = grows_then old l.before.mid l.mid (card_grows job.card (Ok 0) old l.before.mid l.before.card) (drives_grow (take d job.drives) 0 l.before.mid l.mid l.before.drives) in
      let same : new.attached ≡ l.mid.attached = e.went.attached ∙ l.failed.numbered in
      let card : l.before.mid.attached.sources ≡ old.attached.sources + 1 = l.before.card.numbered.1 in
      let kept : DrivesKept 0 (length (take d job.drives)) l.before.mid.attached l.mid.attached = drives_kept (take d job.drives) 0 l.before.mid l.mid (l.before.card.numbered.3 ∙ no_drives) l.before.drives in
      let sources = kept.sources in
      let drives = kept.drives in
      let within : d < length job.drives = slice_get_within job.drives d l.place l.is_place in
      let first = length-take d job.drives in
      record {
        status = status_in (last_of end) result old mid new (grows_then old l.mid mid grows (drive_grows l.place (Err l.error) l.mid mid l.failed)) e.status;
        cause = subst (ShowsCause run) (sym is) (rose_in old l.mid mid new Attaching grows e.went.later l.failed.cause);
        attached = subst (AreAttached run) (sym is)
            (ap (λ (b : Attached). b.sources) same ∙ omega (arith, sources, card, no_cards), ap (λ (b : Attached). b.drives) same ∙ omega (arith, drives, first, within), within);
      }

  -- ---- stopped behind the opening

  inventory_cause : (e : InventoryError) (mid late : World) → Grows old mid → Grows late new → Opens job (Err (Inventory e)) mid late → ShowsCause run (opening_end (Inventory e))
  inventory_cause SourceFailed mid late before behind o = rose_in old mid late new (Source 0) before behind (o.opens.1.cause refl)
  inventory_cause EmptyCard mid late before behind o = tt
  inventory_cause (TooManyFiles count) mid late before behind o = tt
  inventory_cause (BadPath index cause) mid late before behind o = tt
  inventory_cause (BadDate path) mid late before behind o = tt
  inventory_cause (TooManyBytes sum) mid late before behind o = tt
  inventory_cause (Control path) mid late before behind o = tt
  inventory_cause (TooBig path) mid late before behind o = tt
  inventory_cause (FilesClash first second) mid late before behind o = tt
  inventory_cause CardMemory mid late before behind o = tt

  opening_cause : (e : FreshError) (mid late : World) → Grows old mid → Grows late new → Opens job (Err e) mid late → ShowsCause run (opening_end e)
  opening_cause (Inventory e) mid late before behind o = inventory_cause e mid late before behind o
  opening_cause (NotAJournal d at) mid late before behind o = tt
  opening_cause (AlreadyBegun d) mid late before behind o = tt
  opening_cause NoDrive mid late before behind o = tt
  opening_cause (Clash list path) mid late before behind o = tt
  opening_cause (Occupied d path) mid late before behind o = tt
  opening_cause LineFailed mid late before behind o = rose_in old o.opens.listed late new Output (grows_then old mid o.opens.listed before o.opens.card.1.called.went.later) behind (o.opens.unsaid refl).1
  opening_cause Memory mid late before behind o = tt

  unopened_counts : (e : FreshError) (mid late : World) → end ≡ opening_end e → AttachesAll job old mid → Opens job (Err e) mid late → Ended (last_of end) result late new → EndCounts run end result
  unopened_counts e mid late is a o ended =
      let before : Grows old mid = all_grow job old mid a in
      record {
        status = status_in (last_of end) result old late new (grows_then old mid late before o.untouched.later) ended.status;
        cause = subst (ShowsCause run) (sym is) (opening_cause e mid late before ended.went.later o);
        attached = are_attached run end (attached_end end (opened_not (Err e) end is)) (same_attached job mid new (ended.went.attached ∙ o.untouched.attached) (all_attached job old mid no_cards no_drives a));
      }

  unstocked_counts : (order : Order) (mid late : World) → end ≡ NoMemory → AttachesAll job old mid → Opens job (Ok order) mid late → Ended (last_of end) result late new → EndCounts run end result
  unstocked_counts order mid late is a o ended =
      record {
        status = status_in (last_of end) result old late new (grows_then old mid late (all_grow job old mid a) o.untouched.later) ended.status;
        cause = subst (ShowsCause run) (sym is) tt;
        attached = are_attached run end (attached_end end (opened_not (Ok order) end is)) (same_attached job mid new (ended.went.attached ∙ o.untouched.attached) (all_attached job old mid no_cards no_drives a));
      }

-- ---- behind its turns

-- what the laws of runs say
abbrev pub TheRules : Type 0
TheRules = (o : Ordered) (a b : Point) → IsRun o a.at → Runs o a b → IsRun o b.at

abbrev pub AloneRuns : Type 0
AloneRuns = (o : Ordered) (a b : Point) → Alone o a b → Runs o a b

abbrev pub EndsCaused : Type 0
EndsCaused = (o : Ordered) (a b : Point) → IsStart o a.at → Runs o a b → EndsRightly o a b

abbrev pub KnowsOnward : Type 0
KnowsOnward = (o : Ordered) (a : Point) → IsStart o a.at → PartsReady o a → KnowsReadsOnward o a

module _ (rules : TheRules) (own : CallsOwn) (alone : AloneRuns) (ends : EndsCaused) (knows : KnowsOnward) (ready : ReadyWithout) where
  module _ (job : Job) (end : JobEnd) (order : Order) (mid late done : World) (o : Opens job (Ok order) mid late) (t : Turns job order end late done) where
    abbrev pub at_first : Point
    at_first = record { at = stands_at t.run; pool = t.pool; world = late }

    abbrev pub at_last : Point
    at_last = record { at = stands_at t.then_run; pool = t.then_pool; world = done }

    pub the_runs : Runs (ordered_of t.run) at_first at_last
    the_runs = alone (ordered_of t.run) at_first at_last t.alone

    pub run_ready : PartsReady (ordered_of t.run) at_first
    run_ready = ready (ordered_of t.run) at_first t.starts (keep_no_parts job order t.run (of_sights job order t.run mid late o t.of))

    pub run_knows : KnowsReadsOnward (ordered_of t.run) at_first
    run_knows = knows (ordered_of t.run) at_first t.starts run_ready

    turns_grow : Grows late done
    turns_grow = (turns_went own job order end late done t).later

    turns_same : done.attached ≡ late.attached
    turns_same = (turns_went own job order end late done t).attached

    module _ (run : Run) (before : Grows run.before late) (behind : Grows done run.after) where
      outcome_cause : (outcome : Outcome) → (stands_at t.then_run).outcome ≡ outcome → EndsAs (length job.drives) (ordered_of t.run).plan (stands_at t.then_run) outcome end → ShowsCause run end
      outcome_cause Finished is (inl (all, so)) = subst (ShowsCause run) (sym so) tt
      outcome_cause Finished is (inr (some, so)) = subst (ShowsCause run) (sym so) tt
      outcome_cause NoneLeft is so = subst (ShowsCause run) (sym so) tt
      outcome_cause CardLost is so =
          let source : (ordered_of t.run).source ≡ 0 = (of_sights job order t.run mid late o t.of).source in
          subst (ShowsCause run) (sym so) (rose_in run.before late done run.after (Source 0) before behind (subst (λ (s : ℕ). Rose (late.faults (Source s)) (done.faults (Source s))) source ((ends (ordered_of t.run) at_first at_last t.starts the_runs).source is)))
      outcome_cause (Changed index listed read) is (file, there, so) =
          subst (ShowsCause run) (sym so) (subst Differs is (differs_runs (ordered_of t.run) at_first (λ b. rules (ordered_of t.run) at_first b) t.starts run_knows at_last the_runs))
      outcome_cause LineLost is so = subst (ShowsCause run) (sym so) (rose_in run.before late done run.after Output before behind ((ends (ordered_of t.run) at_first at_last t.starts the_runs).out is))
      outcome_cause (Altered index listed read) is never = absurd never
      outcome_cause Going is never = absurd never

  module _ (job : Job) (end : JobEnd) (result : ℕ) (old new : World) (no_cards : old.attached.sources ≡ 0) (no_drives : old.attached.drives ≡ 0) where
    turned_counts : (order : Order) (mid late done : World) → AttachesAll job old mid → Opens job (Ok order) mid late → Turns job order end late done → Ended (last_of end) result done new → EndCounts (run_with job old new []) end result
    turned_counts order mid late done a o t ended =
        let before : Grows old late = grows_then old mid late (all_grow job old mid a) o.untouched.later in
        record {
          status = status_in (last_of end) result old done new (grows_then old late done before (turns_grow job end order mid late done o t)) ended.status;
          cause = outcome_cause job end order mid late done o t (run_with job old new []) before ended.went.later (stands_at t.then_run).outcome refl t.ends;
          attached = are_attached (run_with job old new []) end
              (attached_end end (turned_not (length job.drives) (ordered_of t.run).plan (stands_at t.then_run) (stands_at t.then_run).outcome end t.ends))
              (same_attached job mid new (ended.went.attached ∙ turns_same job end order mid late done o t ∙ o.untouched.attached) (all_attached job old mid no_cards no_drives a));
        }

    pub story_counts : Story job end result old new → EndCounts (run_with job old new []) end result
    story_counts (card_unattached error mid is a e) = card_counts job end result old new no_cards no_drives mid error is a e
    story_counts (drive_unattached d mid is l e) = drive_counts job end result old new no_cards no_drives d mid is l e
    story_counts (unopened error mid late is a o e) = unopened_counts job end result old new no_cards no_drives error mid late is a o e
    story_counts (unstocked order mid late is a o e) = unstocked_counts job end result old new no_cards no_drives order mid late is a o e
    story_counts (turned order mid late done a o t e) = turned_counts order mid late done a o t e

-- ---- the calls show nothing of it

same_cause : (r : Run) (end : JobEnd) → ShowsCause (run_with r.job r.before r.after []) end → ShowsCause r end
same_cause r Sealed cause = tt
same_cause r Dropped cause = tt
same_cause r (Refused e) cause = tt
same_cause r CardUnattached cause = cause
same_cause r (DriveUnattached d) cause = cause
same_cause r CardFailed cause = cause
same_cause r (CardChanged listed read path) cause = cause
same_cause r OutFailed cause = cause
same_cause r NoMemory cause = tt

same_devices : (r : Run) (end : JobEnd) → AreAttached (run_with r.job r.before r.after []) end → AreAttached r end
same_devices r Sealed all = all
same_devices r Dropped all = all
same_devices r (Refused e) all = all
same_devices r CardUnattached none = none
same_devices r (DriveUnattached d) some = some
same_devices r CardFailed all = all
same_devices r (CardChanged listed read path) all = all
same_devices r OutFailed all = all
same_devices r NoMemory all = all

pub with_calls : (r : Run) (end : JobEnd) (result : ℕ) → EndCounts (run_with r.job r.before r.after []) end result → EndCounts r end result
with_calls r end result c = record { status = c.status; cause = same_cause r end c.cause; attached = same_devices r end c.attached }
