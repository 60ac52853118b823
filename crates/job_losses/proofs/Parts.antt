-- The parts of a run that came to its turns, and where its calls are cut between them.
use Rattle.std.proofs.Common.{◌≡◌, ℕ, ◌<◌, ◌≤◌, Bool, cond, List, [], ◌∷◌, ◌++◌, length, refl, sym, ap, ◌∙◌, subst, arith, append_assoc}
use Rattle.std.specs.Prelude.{Some, Ok}
use Rattle.bay_core.specs.declared.event.Event.{Event}
use Rattle.bay_core.specs.declared.event.FileInfo.{FileInfo}
use Rattle.bay_core.specs.Left.{IsSettled}
use Rattle.bay_core.specs.Looks.{IsUntouched}
use Rattle.bay_core.specs.Replay.{Drive, Attaching, calls_on, is_on}
use Rattle.bay_core.specs.Went.{AllOn, Only, Then}
use Rattle.bay_core.specs.World.{World, Attached, Rose}
use Rattle.bay_core.proofs.Replays.{calls_on-append}
use Rattle.bay_core.proofs.Rest.{settled_none}
use Rattle.copy_plan.specs.Plan.{IsPlan}
use Rattle.drive_journal.specs.declared.order.DriveStart.TheVariants.{Gone}
use Rattle.drive_journal.specs.declared.order.Order.{Order}
use Rattle.fan_copier.specs.Passed.{is_card}
use Rattle.fresh_opening.specs.Openings.{FreshLooks}
use Rattle.fresh_opening.specs.Orders.{start_at, AreSettled, IsTrueOrder}
use Rattle.last_lines.specs.Ends.{Ended}
use Rattle.offload_run.specs.Offload.{ordered_of, stands_at}
use Rattle.run_state.specs.Rules.{IsRun}
use Rattle.run_state.specs.Runs.{Point, Alone, Runs}
use Rattle.run_state.specs.State.{Ordered}
use Rattle.run_ends.proofs.Later.{Later}
use Rattle.run_ends.proofs.Way.{way}
use Rattle.run_reads.specs.Reads.{reads_of}
use Rattle.run_reads.proofs.Cards.{reads_append, reads_off}
use Rattle.run_reads.proofs.Since.{Since, since_such, since_at, since_both}
use Rattle.true_start.specs.Starts.{StartsTruly}
use Rattle.command_words.specs.Jobs.{Job}
use Rattle.job_story.specs.Attaching.{AttachesAll}
use Rattle.job_story.specs.Ends.{JobEnd, last_of}
use Rattle.job_story.specs.Plans.{IsRunPlan}
use Rattle.job_story.specs.Run.{run_with}
use Rattle.job_story.specs.Story.{asked_by, Opens, Turns}
use Rattle.job_losses.specs.Drops.{records_in}
use Rattle.job_losses.proofs.Attached.{AreAttaches, IsAttached, attached_all}
use Rattle.job_losses.proofs.Opened.{OpeningCalls, opening_calls, opening_unread}
use Rattle.job_losses.proofs.Planned.{IsOrdered, ordered, run_plan}
use Rattle.job_losses.proofs.Records.{records_append, records_off, records_untouched}
use Rattle.job_losses.proofs.Told.{Cut, Grows, grows_went, grows_none, grows_then, rose_in, since_went, since_then, cut}

-- ---- the turns

-- before the first turn, and behind the last one
abbrev pub begins : {job : Job} {order : Order} {end : JobEnd} {old new : World} → Turns job order end old new → Point
begins {job} {order} {end} {old} {new} turns = record { at = stands_at turns.run; pool = turns.pool; world = old }

abbrev pub finishes : {job : Job} {order : Order} {end : JobEnd} {old new : World} → Turns job order end old new → Point
finishes {job} {order} {end} {old} {new} turns = record { at = stands_at turns.then_run; pool = turns.then_pool; world = new }

-- what is known of any turns
pub record TurnLaws : Type 0 where
  pub runs : (o : Ordered) (a b : Point) → Alone o a b → Runs o a b
  pub rules : (o : Ordered) (a b : Point) → IsRun o a.at → Runs o a b → IsRun o b.at

-- they call what they call, and no count falls
pub turns_later : TurnLaws → (job : Job) (order : Order) (end : JobEnd) (old new : World) → Turns job order end old new → Later old new
turns_later laws job order end old new turns =
    (way (ordered_of turns.run) (begins turns) (laws.rules (ordered_of turns.run) (begins turns)) turns.starts (finishes turns) (laws.runs (ordered_of turns.run) (begins turns) (finishes turns) turns.alone)).later

abbrev AnyCalls : List Event → Type 0
AnyCalls L = Unit {0}

any : {P : List Event → Type 0} {old new : World} → Since P old new → Since AnyCalls old new
any s = since_such (λ L so. tt) s

later_any : {old new : World} → Later old new → Since AnyCalls old new
later_any later = record { told = λ all now. let t = later.told all now in record { before = t.0; since = t.1; was = t.2; is = t.3; such = tt } }

-- ---- a run that came to its turns, with its calls since the station was called

pub record TurnedRun (job : Job) (order : Order) (end : JobEnd) (old late done new : World) (past since : List Event) : Type 0 where
  pub turns : Turns job order end late done
  pub true_order : IsTrueOrder order late
  pub gone : (d : ℕ) → d < length job.drives → start_at order.drives.items d ≡ Gone → Rose (old.faults (Drive d)) (late.faults (Drive d))
  pub listed : List FileInfo
  pub of : IsOrdered job listed order
  pub plan : IsRunPlan (run_with job old new since) order.plan
  -- the calls before the first turn, those of the turns, and those behind the last one
  pub first : List Event
  pub turning : List Event
  pub last : List Event
  pub is : since ≡ first ++ (turning ++ last)
  pub was : late.events ≡ Some (past ++ first)
  pub now : done.events ≡ Some ((past ++ first) ++ turning)
  pub end_is : new.events ≡ Some (((past ++ first) ++ turning) ++ last)
  -- the first ones write no record and read no file of the card
  pub unwritten : (d : ℕ) → records_in d first ≡ []
  pub unread : (path : List ℕ) → reads_of 0 path first ≡ []
  pub early : Grows old late
  pub between : Grows late done
  pub behind : Grows done new
  pub same : new.attached ≡ late.attached
  pub enough : length job.drives ≤ new.attached.drives

-- where a drive has no call, it is settled
settled_when : (n : ℕ) (w : World) (L : List Event) → w.events ≡ Some L → ((d : ℕ) → d < n → calls_on d L ≡ []) → AreSettled 0 n w
settled_when n w L now none = λ d low high m K h.
    let same : L ≡ K = cc (sym now ∙ h.events) in
    subst (λ (l : List Event). IsSettled m l d) same (settled_none m L d (none d (omega (arith, high))))

attaching_off : (d : ℕ) (L : List Event) → AreAttaches L → calls_on d L ≡ []
unfolding AllOn
attaching_off d [] on = refl
attaching_off d (e ∷ L) on = ap (λ (b : Bool). cond b (e ∷ calls_on d L) (calls_on d L)) (ap (is_on d) on.0) ∙ attaching_off d L on.1

module _ (laws : TurnLaws) (job : Job) (order : Order) (end : JobEnd) (result : ℕ) (old mid late done new : World) (attaches : AttachesAll job old mid) (opens : Opens job (Ok order) mid late) (turns : Turns job order end late done)
    (ended : Ended (last_of end) result done new) (past since : List Event) (was : old.events ≡ Some past) (now : new.events ≡ Some (past ++ since)) where
  attached : IsAttached (length job.drives) old mid
  attached = attached_all job old mid attaches

  looks : FreshLooks 0 (length job.drives) job.copies (asked_by job.task) (Ok order) mid late
  looks = opens.opens

  to_turn : Later late done
  to_turn = turns_later laws job order end late done turns

  -- the calls before the turns are attaches, and those of the opening
  to_open : Since (Then AreAttaches (λ L. OpeningCalls 0 looks.card.0 order.plan.started L × IsUntouched L)) old late
  to_open = since_then attached.attached.calls (since_both (opening_calls 0 (length job.drives) job.copies (asked_by job.task) order mid late looks) (since_such (λ L both. both.1) (since_went opens.untouched)))

  at_end : Cut AnyCalls AnyCalls done past since
  at_end = cut (any (since_then to_open (later_any to_turn))) (any (since_went ended.went)) past since was now

  at_turns : Cut AnyCalls AnyCalls late past at_end.first
  at_turns = cut (any to_open) (later_any to_turn) past at_end.first was at_end.at

  at_opening : Cut AreAttaches AnyCalls mid past at_turns.first
  at_opening = cut attached.attached.calls (any (since_went opens.untouched)) past at_turns.first was at_turns.at

  calls : Then AreAttaches (λ L. OpeningCalls 0 looks.card.0 order.plan.started L × IsUntouched L) at_turns.first
  calls = since_at to_open past at_turns.first was at_turns.at

  all_settled : AreSettled 0 (length job.drives) mid
  all_settled = settled_when (length job.drives) mid (past ++ at_opening.first) at_opening.at (λ d low.
      calls_on-append d past at_opening.first ∙ (λ i. attached.unused past (past ++ at_opening.first) was at_opening.at d low i ++ attaching_off d at_opening.first at_opening.here i))

  same_late : new.attached ≡ late.attached
  same_late = ended.went.attached ∙ to_turn.attached

  since_is : since ≡ at_turns.first ++ (at_turns.second ++ at_end.second)
  since_is = at_end.is ∙ ap (λ (l : List Event). l ++ at_end.second) at_turns.is ∙ append_assoc at_turns.first at_turns.second at_end.second

  is_plan : IsPlan order.plan
  is_plan = subst IsPlan turns.of.plan turns.starts.run.plan

  done_is : done.events ≡ Some ((past ++ at_turns.first) ++ at_turns.second)
  done_is = at_end.at ∙ ap (λ (l : List Event). Some (past ++ l)) at_turns.is ∙ ap Some (sym (append_assoc past at_turns.first at_turns.second))

  -- a count that rose in the opening rose since the station was called
  gone_early : (d : ℕ) → d < length job.drives → start_at order.drives.items d ≡ Gone → Rose (old.faults (Drive d)) (late.faults (Drive d))
  gone_early d low is = rose_in (Drive d) attached.attached.grows (grows_none late) (opens.gone.rose d (omega arith) (omega (arith, low)) is)

  pub turned_run : TurnedRun job order end old late done new past since
  turned_run = record {
    turns = turns;
    true_order = opens.true_order all_settled;
    gone = gone_early;
    listed = looks.card.0;
    of = ordered job order mid late looks;
    plan = run_plan job order looks.card.0 calls.first calls.second (at_turns.second ++ at_end.second) since (since_is ∙ ap (λ (l : List Event). l ++ (at_turns.second ++ at_end.second)) calls.is) calls.here calls.there.0 old new is_plan (ordered job order mid late looks);
    first = at_turns.first;
    turning = at_turns.second;
    last = at_end.second;
    is = since_is;
    was = at_turns.at;
    now = done_is;
    end_is = now ∙ ap Some (ap (λ (l : List Event). past ++ l) since_is ∙ sym (append_assoc past at_turns.first (at_turns.second ++ at_end.second)) ∙ sym (append_assoc (past ++ at_turns.first) at_turns.second at_end.second));
    unwritten = λ d.
        ap (records_in d) calls.is ∙ records_append d calls.first calls.second ∙ (λ i. records_off d (Only Attaching) (λ y on. ap (is_on d) on) calls.first calls.here i ++ records_untouched d calls.second calls.there.1 i);
    unread = λ path.
        ap (reads_of 0 path) calls.is ∙ reads_append 0 path calls.first calls.second
        ∙ (λ i. reads_off 0 path (Only Attaching) (λ y on. ap (is_card 0) on) calls.first calls.here i ++ opening_unread 0 0 order.plan.started path looks.card.0 calls.second calls.there.0 i);
    early = grows_then attached.attached.grows (grows_went opens.untouched);
    between = record { each = to_turn.faults };
    behind = grows_went ended.went;
    same = same_late;
    enough = let all = attached.enough in subst (λ (b : Attached). length job.drives ≤ b.drives) (sym (same_late ∙ opens.untouched.attached)) all;
  }

-- the run as it is made is that of a true order
pub starts_truly : (job : Job) (order : Order) (end : JobEnd) (old late done new : World) (past since : List Event) → (r : TurnedRun job order end old late done new past since) → StartsTruly order r.turns.run (begins r.turns)
starts_truly job order end old late done new past since r = record { of = r.turns.of; starts = r.turns.starts; at = refl; true_order = r.true_order }
