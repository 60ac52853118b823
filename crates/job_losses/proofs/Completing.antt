-- A run of a job in which nothing fails is complete, unless memory was wanting.
use Rattle.std.proofs.Common.{◌≡◌, ◌≢◌, ◌⊎◌, inl, inr, ℕ, ◌+◌, ◌<◌, ◌≤◌, Bool, true, false, List, [], ◌∷◌, ◌++◌, length, refl, sym, ap, ◌∙◌, subst, arith}
use Rattle.std.specs.Prelude.{not, ◌||◌, Option, Some, Vec, Err, Contains, option_map}
use Rattle.std.specs.Global.{Global}
use Rattle.std.specs.List.{slice_get, AllByRecursion}
use Rattle.std.proofs.lemmas.List.{get_or_past, length-map}
use Rattle.std.proofs.lemmas.List.Elements.{Contains-append_left, Contains-append_right}
use Rattle.bay_core.specs.declared.event.Event.{Event}
use Rattle.bay_core.specs.declared.event.Event.TheVariants.{Say}
use Rattle.bay_core.specs.Looks.{IsUntouched}
use Rattle.bay_core.specs.Map.{Map, Dates, content}
use Rattle.bay_core.specs.Replay.{Source, Drive, Attaching, Output}
use Rattle.bay_core.specs.Went.{Only, Then}
use Rattle.bay_core.specs.World.{World, Attached, Steady}
use Rattle.bay_core.proofs.Looking.{untouched_append}
use Rattle.card_inventory.specs.declared.error.InventoryError.{InventoryError}
use Rattle.card_inventory.specs.declared.error.InventoryError.TheVariants.{SourceFailed, EmptyCard, TooManyFiles, BadPath, BadDate, TooManyBytes, Control, TooBig, Clash as FilesClash, Memory as CardMemory}
use Rattle.copy_plan.specs.Plan.{PlanValue, IsPlan, list_of}
use Rattle.digest_set.specs.Triple.{triple}
use Rattle.drive_journal.specs.declared.order.DriveStart.TheVariants.{Gone}
use Rattle.drive_journal.specs.declared.order.Listed.{Listed}
use Rattle.drive_journal.specs.declared.order.Order.{Order}
use Rattle.fan_core.specs.Flags.{has, count, no_drives}
use Rattle.fan_core.proofs.Rules.{none_lowest}
use Rattle.fresh_opening.specs.declared.error.FreshError.{FreshError}
use Rattle.fresh_opening.specs.declared.error.FreshError.TheVariants.{Inventory, NotAJournal, AlreadyBegun, NoDrive, Clash, Occupied, OutFailed, Memory}
use Rattle.fresh_opening.specs.Openings.{FreshLooks}
use Rattle.fresh_opening.specs.Orders.{start_at}
use Rattle.fresh_opening.specs.Sights.{Sight, Dropped}
use Rattle.last_lines.specs.Ends.{Ended, EndStatus}
use Rattle.offload_law.specs.Clear.{IsSaid}
use Rattle.offload_law.specs.Lines.{IsShort}
use Rattle.offload_run.specs.declared.offload.Offload.{Offload}
use Rattle.offload_run.specs.Offload.{ordered_of, begins_at}
use Rattle.report_text.specs.Run.{sealed_text, clear_text}
use Rattle.run_state.specs.declared.outcome.Outcome.{Outcome}
use Rattle.run_state.specs.declared.outcome.Outcome.TheVariants.{Finished, OutFailed as LineFailed}
use Rattle.run_state.specs.Acts.{other_listed, is_clear}
use Rattle.run_state.specs.Rules.{IsStart}
use Rattle.run_state.specs.Runs.{Point, Runs, is_about}
use Rattle.run_state.specs.State.{Ordered, DriveAt, files_of, drive_at, is_gone, is_of_run, count_sealed}
use Rattle.run_ends.specs.Ends.{SaysRightly}
use Rattle.run_ends.specs.Whole.{NoneRose, IsAllSealed, IsComplete as RunComplete}
use Rattle.run_ends.proofs.Drives.{of_run}
use Rattle.run_lines.specs.Lines.{lines_in, lines_about, OneLineEach}
use Rattle.run_lines.specs.Words.{Sealed, mark_text}
use Rattle.run_lines.proofs.Clearing.{clear_holds}
use Rattle.run_lines.proofs.Counts.{contains_map}
use Rattle.run_lines.proofs.Saying.{line_said}
use Rattle.run_reads.proofs.Places.{below}
use Rattle.run_reads.proofs.Since.{Since, since_such, since_at}
use Rattle.true_start.specs.Sound.{IsSoundOrder}
use Rattle.true_start.specs.Starts.{StartsTruly}
use Rattle.true_start.proofs.Starting.{not_gone, stands}
use Rattle.command_words.specs.Jobs.{Job}
use Rattle.job_story.specs.Ends.{JobEnd, Sealed as AllAre, Refused, NoMemory, last_of, opening_end}
use Rattle.job_story.specs.Run.{Run, IsSteady, run_with}
use Rattle.job_story.specs.Story.{asked_by, Opens, EndsAs, Story, card_unattached, drive_unattached, unopened, unstocked, turned}
use Rattle.job_losses.specs.Complete.{NoneRises, AreHonest, AllSealed, IsComplete, IsWanting}
use Rattle.job_losses.proofs.Attached.{Attached as AttachedSo, attached_all, grows_before}
use Rattle.job_losses.proofs.Counting.{count_first, all_there, was_there}
use Rattle.job_losses.proofs.Parts.{TurnLaws, TurnedRun, begins, finishes, turned_run, starts_truly}
use Rattle.job_losses.proofs.Quiet.{untouched_off}
use Rattle.job_losses.proofs.Told.{Grows, grows_went, grows_none, grows_then, rose_in, since_went, since_then}

-- what is known of a run of a true order, and of its lines
pub record EndLaws : Type 0 where
  pub turns : TurnLaws
  pub complete : (order : Order) (run : Offload) (a b : Point) (card : Map) → StartsTruly order run a → IsSoundOrder order card a.world → Runs (ordered_of run) a b → NoneRose a.world b.world → (all : List Event) → b.world.events ≡ Some all → RunComplete a b
  pub words : (o : Ordered) (a b : Point) → IsStart o a.at → Runs o a b → (past L : List Event) → a.world.events ≡ Some past → b.world.events ≡ Some (past ++ L) → SaysRightly o a b L
  pub lines : (o : Ordered) (a b : Point) → IsStart o a.at → Runs o a b → (past L : List Event) → a.world.events ≡ Some past → b.world.events ≡ Some (past ++ L) → OneLineEach o a b L
  pub short : (p : PlanValue) → IsPlan p → (k : ℕ) → k ≤ length p.files → IsShort k

-- ---- a run that came to its turns

module _ (laws : EndLaws) (job : Job) (order : Order) (end : JobEnd) (result : ℕ) (old late done new : World) (past since : List Event) (r : TurnedRun job order end old late done new past since) (last : Ended (last_of end) result done new)
    (least : 1 ≤ job.copies) (most : job.copies ≤ length job.drives) (card : Map) (dates : Dates) (steady : IsSteady (run_with job old new since) card dates) (honest : AreHonest (run_with job old new since)) (none : NoneRises (run_with job old new since)) where
  abbrev o : Ordered
  o = ordered_of r.turns.run

  abbrev a : Point
  a = begins r.turns

  abbrev b : Point
  b = finishes r.turns

  starts : StartsTruly order r.turns.run a
  starts = starts_truly job order end old late done new past since r

  runs : Runs o a b
  runs = laws.turns.runs o a b r.turns.alone

  -- ---- nothing is wrong with the order

  none_between : NoneRose late done
  none_between x rose = none x (rose_in x r.early r.behind rose)

  -- no drive is gone
  there : (d : ℕ) → d < length job.drives → start_at order.drives.items d ≢ Gone
  there d low is = none (Drive d) (rose_in (Drive d) (grows_none old) (grows_then r.between r.behind) (r.gone d low is))

  -- and no other is of it
  within : (d : ℕ) → start_at order.drives.items d ≢ Gone → d < length job.drives
  within d live = elim (below d (length job.drives)) [
    | inl low ↦ low.1
    | inr far ↦ absurd (live (get_or_past order.drives.items d Gone (let same = r.of.drives in let high = far.1 in omega (arith, same, high))))
  ]

  sound : IsSoundOrder order card late
  sound = record {
    steady = subst (λ (s : ℕ). Steady late s card) (sym r.of.source) (record { steady = ap (λ (x : Attached). x.steady 0) (sym r.same) ∙ steady.steady; card = ap (λ (x : Attached). x.card 0) (sym r.same) ∙ steady.has });
    honest = λ d live.
        let low = within d live in
        let enough = r.enough in
        let h = honest d (omega (arith, low, enough)) in
        (ap (λ (x : Attached). x.honest d) (sym r.same) ∙ h.1.honest, h.0, ap (λ (x : Attached). x.start d) (sym r.same) ∙ h.1.had);
    some = (0, there 0 (omega (arith, least, most)));
    agree = λ i file is. ap (λ (l : Option (Vec Listed Global)). other_listed (option_map (λ all. all.items) l) i (triple (content card file.path))) r.of.unlisted;
  }

  -- so each drive is sealed
  all : IsAllSealed a b
  all = (laws.complete order r.turns.run a b card starts sound runs none_between ((past ++ r.first) ++ r.turning) r.now).ends r.turns.ended

  there_at : (d : ℕ) → d < length job.drives → is_gone (drive_at a.at.drives.each d) ≡ false
  there_at d low = ap is_gone (stands order r.turns.run a starts d) ∙ not_gone (start_at order.drives.items d) (there d low)

  of : (d : ℕ) → d < length job.drives → is_of_run a.at.drives d ≡ true
  of d low = of_run a.at.drives d (there_at d low)

  -- ---- how many

  drives_are : length a.at.drives.each ≡ length job.drives
  drives_are = ap (λ (each : List DriveAt). length each) r.turns.of.drives ∙ length-map order.drives.items begins_at ∙ r.of.drives

  says : OneLineEach o a b r.turning
  says = laws.lines o a b r.turns.starts runs (past ++ r.first) r.turning r.was r.now

  not_of : (d : ℕ) → length job.drives ≤ d → is_of_run a.at.drives d ≡ false
  not_of d far =
      ap (λ (x : DriveAt). not (is_gone x) || has a.at.drives.dropped d) (get_or_past a.at.drives.each d _ (let same = drives_are in omega (arith, same, far)))
      ∙ ap (λ (set : List Bool). has set d) r.turns.starts.sets.1 ∙ none_there d
    where
      none_there : (d : ℕ) → has no_drives d ≡ false
      none_there d = none_lowest no_drives refl d

  counted : count b.at.drives.sealed ≡ length job.drives
  counted =
      let few = r.turns.starts.run.drives.few in
      let same = drives_are in
      let eight = r.turns.keeps.drives.sets.0 in
      count_first b.at.drives.sealed (length job.drives) (omega (arith, few, same, eight)) (λ d low. all.each d (of d low)) (λ d far. (says.no_other d (not_of d far)).0)

  sealed_count : count_sealed b.at.drives.each ≡ length job.drives
  sealed_count = all.count ∙ all_there a.at.drives.each (λ d low. there_at d (let same = drives_are in omega (arith, low, same))) ∙ drives_are

  -- ---- the status

  ended : EndsAs (length job.drives) o.plan b.at Finished end
  ended = subst (λ (x : Outcome). EndsAs (length job.drives) o.plan b.at x end) all.finished r.turns.ends

  end_is : end ≡ AllAre
  end_is = elim ended [
    | inl one ↦ one.1
    | inr less ↦ absurd (less.0 counted)
  ]

  status : result ≡ 0
  status = by (subst (λ (e : JobEnd). EndStatus (last_of e) result done new) end_is last.status)
    where
      by : EndStatus (last_of AllAre) result done new → result ≡ 0
      by (inl is) = is
      by (inr other) = absurd (other.0 refl)

  -- ---- the lines

  in_turns : (e : Event) → Contains r.turning e → Contains since e
  in_turns e inside = subst (λ (l : List Event). Contains l e) (sym r.is) (Contains-append_right r.first (r.turning ++ r.last) e (Contains-append_left r.turning r.last e inside))

  copies_are : o.copies ≡ job.copies
  copies_are = r.turns.of.copies ∙ r.of.copies

  due : is_clear (count_sealed b.at.drives.each) o.copies ≡ true
  due = clear_holds (count_sealed b.at.drives.each) o.copies (let same = copies_are in omega (arith, least, same)) (let same = copies_are in let many = sealed_count in omega (arith, most, same, many))

  clear : Contains since (Say (clear_text (length job.drives) job.copies) true)
  clear =
      in_turns (Say (clear_text (length job.drives) job.copies) true)
      (subst (λ (c : ℕ). Contains r.turning (Say (clear_text (length job.drives) c) true)) copies_are
      (subst (λ (n : ℕ). Contains r.turning (Say (clear_text n o.copies) true)) sealed_count ((laws.words o a b r.turns.starts runs (past ++ r.first) r.turning r.was r.now).clear all.finished due)))

  heard : b.at.outcome ≢ LineFailed
  heard is = cc (sym all.finished ∙ is)

  sealed_line : (d : ℕ) → d < length job.drives → IsSaid r.turning (sealed_text d (files_of o.plan) (list_of o.plan))
  sealed_line d low =
      let s = says.each d (of d low) in
      let mark = (s.sealed heard).0 (all.each d (of d low)) in
      let text : List ℕ = sealed_text d (files_of o.plan) (list_of o.plan) in
      let line : Contains (lines_about d r.turning) text = subst (λ (l : List (List ℕ)). Contains l text) (sym s.lines) (contains_map (mark_text o.plan d) s.marks Sealed mark) in
      line_said r.turning text (was_there (λ (l : List ℕ). is_about d l) (lines_in r.turning) text line)

  sealed : AllSealed (run_with job old new since)
  sealed d low =
      let said = sealed_line d low in
      (files_of o.plan, list_of o.plan, laws.short o.plan r.turns.starts.run.plan (files_of o.plan) (omega arith), (said.0, in_turns (Say (sealed_text d (files_of o.plan) (list_of o.plan)) said.0) said.1))

  pub complete : IsComplete (run_with job old new since) result
  complete = record { status = status; sealed = sealed; clear = clear }

-- ---- a run that came to none

-- the first of some looks, each of which lost its drive
first_lost : (sights : List Sight) → 1 ≤ length sights → AllByRecursion (λ (x : Sight). x ≡ Dropped) sights → slice_get sights 0 ≡ Some Dropped
first_lost [] some lost = absurd (omega (arith, some))
first_lost (x ∷ sights) some lost = ap Some lost.0

module _ (laws : EndLaws) (job : Job) (end : JobEnd) (result : ℕ) (old new : World) (least : 1 ≤ job.copies) (most : job.copies ≤ length job.drives) (past since : List Event) (was : old.events ≡ Some past) (now : new.events ≡ Some (past ++ since))
    (card : Map) (dates : Dates) (steady : IsSteady (run_with job old new since) card dates) (honest : AreHonest (run_with job old new since)) (none : NoneRises (run_with job old new since)) (unrefused : (e : FreshError) → end ≢ Refused e) where
  abbrev run : Run
  run = run_with job old new since

  both : {first mid last : World} → Since IsUntouched first mid → Since IsUntouched mid last → Since IsUntouched first last
  both one two = since_such (λ L (t : Then IsUntouched IsUntouched L). subst IsUntouched (sym t.is) (untouched_append t.first t.second t.here t.there)) (since_then one two)

  attaching : {first last : World} → AttachedSo first last → Since IsUntouched first last
  attaching a = since_such (λ L on. untouched_off (Only Attaching) (λ d is. cc is) L on) a.calls

  ending : {first last : World} → Ended (last_of end) result first last → Since IsUntouched first last
  ending e = since_such (λ L m. untouched_off (Only Output) (λ d is. cc is) L m.0) (since_went e.went)

  -- memory was wanting
  wanting : (late : World) → Grows old late → Since IsUntouched old late → end ≡ NoMemory → Ended (last_of end) result late new → IsWanting run result
  wanting late early untouched is last = record {
    status = by (subst (λ (e : JobEnd). EndStatus (last_of e) result late new) is last.status);
    untouched = since_at (both untouched (ending last)) past since was now;
  }
    where
      by : EndStatus (last_of NoMemory) result late new → result ≡ 9
      by (inl same) = same
      by (inr other) = absurd (none Output (rose_in Output early (grows_none new) other.2))

  -- no drive was left
  not_left : (mid late : World) → Grows old mid → Grows late new → FreshLooks 0 (length job.drives) job.copies (asked_by job.task) (Err NoDrive) mid late → ⊥
  not_left mid late early behind l =
      let some : 1 ≤ length l.scene.sights = let all = l.answer.0 in omega (arith, all, least, most) in
      let before : Grows old l.listed = grows_then early (grows_went l.card.1.called.went) in
      none (Drive (l.scene.first + 0)) (rose_in (Drive (l.scene.first + 0)) before behind (l.sights 0 Dropped (first_lost l.scene.sights some l.answer.1.applies)))

  -- a card that has no inventory
  not_unlisted : (e : InventoryError) (mid late : World) → Grows old mid → Grows late new → end ≡ opening_end (Inventory e) → Opens job (Err (Inventory e)) mid late → ⊥
  not_unlisted SourceFailed mid late early behind is o = none (Source 0) (rose_in (Source 0) early behind (o.opens.1.cause refl))
  not_unlisted CardMemory mid late early behind is o = o.opens.0 refl
  not_unlisted EmptyCard mid late early behind is o = unrefused (Inventory EmptyCard) is
  not_unlisted (TooManyFiles count) mid late early behind is o = unrefused (Inventory (TooManyFiles count)) is
  not_unlisted (BadPath index cause) mid late early behind is o = unrefused (Inventory (BadPath index cause)) is
  not_unlisted (BadDate path) mid late early behind is o = unrefused (Inventory (BadDate path)) is
  not_unlisted (TooManyBytes sum) mid late early behind is o = unrefused (Inventory (TooManyBytes sum)) is
  not_unlisted (Control path) mid late early behind is o = unrefused (Inventory (Control path)) is
  not_unlisted (TooBig path) mid late early behind is o = unrefused (Inventory (TooBig path)) is
  not_unlisted (FilesClash first second) mid late early behind is o = unrefused (Inventory (FilesClash first second)) is

  -- an opening that gave no order gave none for want of memory
  unopened_so : (e : FreshError) (mid late : World) → Grows old mid → Since IsUntouched old mid → end ≡ opening_end e → Opens job (Err e) mid late → Ended (last_of end) result late new → IsWanting run result
  unopened_so (Inventory e) mid late early quiet is o last = absurd (not_unlisted e mid late early (grows_went last.went) is o)
  unopened_so (NotAJournal d at) mid late early quiet is o last = absurd (unrefused (NotAJournal d at) is)
  unopened_so (AlreadyBegun d) mid late early quiet is o last = absurd (unrefused (AlreadyBegun d) is)
  unopened_so (Clash list path) mid late early quiet is o last = absurd (unrefused (Clash list path) is)
  unopened_so (Occupied d path) mid late early quiet is o last = absurd (unrefused (Occupied d path) is)
  unopened_so NoDrive mid late early quiet is o last = absurd (not_left mid late early (grows_went last.went) o.opens)
  unopened_so OutFailed mid late early quiet is o last =
      let before : Grows old o.opens.listed = grows_then early (grows_went o.opens.card.1.called.went) in
      absurd (none Output (rose_in Output before (grows_went last.went) (o.opens.unsaid refl).1))
  unopened_so Memory mid late early quiet is o last =
      wanting late (grows_then early (grows_went o.untouched)) (both quiet (since_such (λ L m. m.1) (since_went o.untouched))) is last

  pub completes : Story job end result old new → IsComplete run result ⊎ IsWanting run result
  completes (card_unattached error mid is attach last) = absurd (none Attaching (rose_in Attaching (grows_none old) (grows_went last.went) attach.cause))
  completes (drive_unattached d mid is lacks last) = absurd (none Attaching (rose_in Attaching (grows_before job d old mid lacks) (grows_went last.went) lacks.failed.cause))
  completes (unopened e mid late is attaches opens last) =
      let attached = (attached_all job old mid attaches).attached in
      inr (unopened_so e mid late attached.grows (attaching attached) is opens last)
  completes (unstocked order mid late is attaches opens last) =
      let attached = (attached_all job old mid attaches).attached in
      inr (wanting late (grows_then attached.grows (grows_went opens.untouched)) (both (attaching attached) (since_such (λ L m. m.1) (since_went opens.untouched))) is last)
  completes (turned order mid late done attaches opens turns last) =
      let r = turned_run laws.turns job order end result old mid late done new attaches opens turns last past since was now in
      inl (complete laws job order end result old late done new past since r last least most card dates steady honest none)
