-- The parts of a run: those before its turns, and its last lines, are quiet; and where its calls are cut between them.
use Rattle.std.proofs.Common.{◌≡◌, ◌≢◌, ℕ, ◌+◌, ◌<◌, ◌≤◌, List, [], ◌∷◌, ◌++◌, length, map, refl, sym, ap, ◌∙◌, subst, arith, append_assoc}
use Rattle.std.specs.Prelude.{Some, Result, Ok, Err}
use Rattle.std.proofs.lemmas.List.{get_or_past}
use Rattle.bay_core.specs.declared.event.Event.{Event}
use Rattle.bay_core.specs.declared.event.FileInfo.{FileInfo}
use Rattle.bay_core.specs.Left.{IsSettled}
use Rattle.bay_core.specs.Map.{Map, AllDated}
use Rattle.bay_core.specs.Replay.{Drive, Output, calls_on}
use Rattle.bay_core.specs.Went.{AllOn, Only, Then, Went}
use Rattle.bay_core.specs.World.{World, Attached, Honest, Steady}
use Rattle.bay_core.proofs.Rest.{settled_none}
use Rattle.card_inventory.specs.Card.{IsInventoryOfCard}
use Rattle.drive_journal.specs.declared.order.Order.{Order}
use Rattle.fresh_opening.specs.declared.error.FreshError.{FreshError}
use Rattle.fresh_opening.specs.Openings.{FreshLooks}
use Rattle.fresh_opening.specs.Orders.{AreSettled, IsTrueOrder}
use Rattle.last_lines.specs.Ends.{Ended}
use Rattle.offload_run.specs.declared.offload.Offload.{Offload}
use Rattle.offload_run.specs.Offload.{ordered_of, stands_at}
use Rattle.run_state.specs.Rules.{IsRun}
use Rattle.run_state.specs.Runs.{Point}
use Rattle.run_state.specs.State.{DriveAt, Gone, IsCalled, drive_at}
use Rattle.command_words.specs.Jobs.{Job}
use Rattle.job_story.specs.Attaching.{AttachesAll}
use Rattle.job_story.specs.Ends.{JobEnd, last_of}
use Rattle.job_story.specs.Story.{asked_by, Opens, Turns}
use Rattle.job_steps.proofs.Attached.{AreAttaches, IsAttached, attached_all}
use Rattle.job_steps.proofs.Begun.{calls_same}
use Rattle.job_steps.proofs.Lasts.{last_calls}
use Rattle.job_steps.proofs.Lower.{RunLaws}
use Rattle.job_steps.proofs.Opened.{OpeningCalls, opening_lines, opening_calls}
use Rattle.job_steps.proofs.Plain.{IsPlain, OtherWord, plain_dropped}
use Rattle.job_steps.proofs.Planned.{IsOrdered, ordered}
use Rattle.job_steps.proofs.Quiet.{IsQuiet, quiet_append, attaching_quiet, attaching_off}
use Rattle.job_steps.proofs.Told.{Tells, Cut, tells_such, tells_then, tells_both, tells_went, cut}

-- ---- parts that are quiet

pub quiet_then : {old mid new : World} → Tells IsQuiet old mid → Tells IsQuiet mid new → Tells IsQuiet old new
quiet_then one two = tells_such (λ L (t : Then IsQuiet IsQuiet L). subst IsQuiet (sym t.is) (quiet_append t.first t.second t.here t.there)) (tells_then one two)

pub attaches_quiet : {old new : World} → Tells AreAttaches old new → Tells IsQuiet old new
attaches_quiet t = tells_such attaching_quiet t

pub last_quiet : (other : OtherWord) (end : JobEnd) (result : ℕ) (old new : World) → Ended (last_of end) result old new → Tells IsQuiet old new
last_quiet other end result old new e = tells_such (λ L both. both.0) (last_calls other end result old new e)

pub opening_quiet : (other : OtherWord) (job : Job) (came : Result Order FreshError) (old new : World) → Opens job came old new → Tells IsQuiet old new
opening_quiet other job came old new o =
    tells_such (λ L both. record { untouched = both.0.1; plain = both.1 })
    (tells_both (tells_went o.untouched) (opening_lines IsPlain (plain_dropped other) 0 (length job.drives) job.copies (asked_by job.task) came old new o.opens))

-- ---- the turns

-- before the first turn, and behind the last one
abbrev pub begins : {job : Job} {order : Order} {end : JobEnd} {old new : World} → Turns job order end old new → Point
begins {job} {order} {end} {old} {new} turns = record { at = stands_at turns.run; pool = turns.pool; world = old }

abbrev pub finishes : {job : Job} {order : Order} {end : JobEnd} {old new : World} → Turns job order end old new → Point
finishes {job} {order} {end} {old} {new} turns = record { at = stands_at turns.then_run; pool = turns.then_pool; world = new }

-- there are eight drives at most
ninth_is_none : (run : Offload) → IsRun (ordered_of run) (stands_at run) → drive_at (stands_at run).drives.each 8 ≡ Gone
ninth_is_none run is_run = get_or_past (stands_at run).drives.each 8 Gone is_run.drives.few

-- the turns attach nothing
turned : RunLaws → (job : Job) (order : Order) (end : JobEnd) (old new : World) → Turns job order end old new → Went (λ x. x ≢ Drive 8) (λ L. Unit {0}) old new
turned laws job order end old new turns =
    laws.calls (ordered_of turns.run) (begins turns) (finishes turns) turns.starts.run turns.alone 8 (λ called. subst IsCalled (ninth_is_none turns.run turns.starts.run) called)

-- ---- a run that came to its turns, with its calls since the station was called

pub record TurnedRun (job : Job) (order : Order) (old new : World) (past since : List Event) : Type 0 where
  pub late : World
  pub done : World
  pub end : JobEnd
  pub turns : Turns job order end late done
  pub true_order : IsTrueOrder order late
  pub attaches : List Event
  pub opening : List Event
  pub turning : List Event
  pub last : List Event
  pub is : since ≡ (attaches ++ opening) ++ (turning ++ last)
  pub was : late.events ≡ Some (past ++ (attaches ++ opening))
  pub now : done.events ≡ Some (past ++ ((attaches ++ opening) ++ turning))
  pub are_attaches : AreAttaches attaches
  pub listed : List FileInfo
  pub opened : OpeningCalls 0 listed order.plan.started opening
  pub of : IsOrdered job listed order
  pub quiet : IsQuiet (attaches ++ opening)
  pub quiet_last : IsQuiet last
  pub on_output : AllOn (Only Output) last
  pub same : new.attached ≡ late.attached
  pub drives : new.attached.drives ≡ length job.drives
  pub unused : (d : ℕ) → d < length job.drives → calls_on d past ≡ []
  pub dated : (m : Map) → Steady late 0 m → AllDated m (late.attached.card_dates 0)
  pub of_card : (m : Map) → Steady late 0 m → IsInventoryOfCard m (late.attached.card_dates 0) order.plan.files

-- where a drive has no call, it is settled
settled_when : (n : ℕ) (w : World) (L : List Event) → w.events ≡ Some L → ((d : ℕ) → d < n → calls_on d L ≡ []) → AreSettled 0 n w
settled_when n w L now none = λ d low high m K h.
    let same : L ≡ K = cc (sym now ∙ h.events) in
    subst (λ (l : List Event). IsSettled m l d) same (settled_none m L d (none d (omega (arith, high))))

steady_then : {old new : World} (m : Map) → new.attached ≡ old.attached → Steady new 0 m → Steady old 0 m
steady_then m same s = record { steady = ap (λ (a : Attached). a.steady 0) (sym same) ∙ s.steady; card = ap (λ (a : Attached). a.card 0) (sym same) ∙ s.card }

abbrev OpenedSo : Job → Order → List FileInfo → List Event → Type 0
OpenedSo job order listed L = IsQuiet L × OpeningCalls 0 listed order.plan.started L

module _ (other : OtherWord) (laws : RunLaws) (job : Job) (order : Order) (end : JobEnd) (result : ℕ) (old mid late done new : World) (none : old.attached.drives ≡ 0) (attaches : AttachesAll job old mid) (opens : Opens job (Ok order) mid late) (turns : Turns job order end late done)
    (ended : Ended (last_of end) result done new) (past since : List Event) (was : old.events ≡ Some past) (now : new.events ≡ Some (past ++ since)) where
  attached : IsAttached (length job.drives) old mid
  attached = attached_all job old mid none attaches

  looks : FreshLooks 0 (length job.drives) job.copies (asked_by job.task) (Ok order) mid late
  looks = opens.opens

  to_open : Tells (OpenedSo job order looks.card.0) mid late
  to_open = tells_both (opening_quiet other job (Ok order) mid late opens) (opening_calls 0 (length job.drives) job.copies (asked_by job.task) order mid late looks)

  to_turn : Tells (λ L. AllOn (λ x. x ≢ Drive 8) L × Unit {0}) late done
  to_turn = tells_went (turned laws job order end late done turns)

  to_end : Tells (λ L. IsQuiet L × AllOn (Only Output) L) done new
  to_end = last_calls other end result done new ended

  at_end : Cut (Then (Then AreAttaches (OpenedSo job order looks.card.0)) (λ L. AllOn (λ x. x ≢ Drive 8) L × Unit {0})) (λ L. IsQuiet L × AllOn (Only Output) L) done past since
  at_end = cut (tells_then (tells_then attached.tells to_open) to_turn) to_end past since was now

  at_turns : Cut (Then AreAttaches (OpenedSo job order looks.card.0)) (λ L. AllOn (λ x. x ≢ Drive 8) L × Unit {0}) late past at_end.first
  at_turns = cut (tells_then attached.tells to_open) to_turn past at_end.first was at_end.at

  at_opening : Cut AreAttaches (OpenedSo job order looks.card.0) mid past at_turns.first
  at_opening = cut attached.tells to_open past at_turns.first was at_turns.at

  no_calls_yet : (d : ℕ) → d < length job.drives → calls_on d past ≡ []
  no_calls_yet d low = attached.unused past (past ++ at_opening.first) was at_opening.at d low

  all_settled : AreSettled 0 (length job.drives) mid
  all_settled = settled_when (length job.drives) mid (past ++ at_opening.first) at_opening.at (λ d low. calls_same d past at_opening.first (attaching_off d at_opening.first at_opening.here) ∙ no_calls_yet d low)

  same_late : new.attached ≡ late.attached
  same_late = ended.went.attached ∙ (turned laws job order end late done turns).attached

  opened_same : late.attached ≡ mid.attached
  opened_same = opens.untouched.attached

  steady_mid : (m : Map) → Steady late 0 m → Steady mid 0 m
  steady_mid m s = steady_then m opened_same s

  pub turned_run : TurnedRun job order old new past since
  turned_run = record {
    late = late;
    done = done;
    end = end;
    turns = turns;
    true_order = opens.true_order all_settled;
    attaches = at_opening.first;
    opening = at_opening.second;
    turning = at_turns.second;
    last = at_end.second;
    is = at_end.is ∙ ap (λ (l : List Event). l ++ at_end.second) (at_turns.is ∙ ap (λ (l : List Event). l ++ at_turns.second) at_opening.is) ∙ append_assoc (at_opening.first ++ at_opening.second) at_turns.second at_end.second;
    was = at_turns.at ∙ ap (λ (l : List Event). Some (past ++ l)) at_opening.is;
    now = at_end.at ∙ ap (λ (l : List Event). Some (past ++ l)) (at_turns.is ∙ ap (λ (l : List Event). l ++ at_turns.second) at_opening.is);
    are_attaches = at_opening.here;
    listed = looks.card.0;
    opened = at_opening.there.1;
    of = ordered job order mid late looks;
    quiet = quiet_append at_opening.first at_opening.second (attaching_quiet at_opening.first at_opening.here) at_opening.there.0;
    quiet_last = at_end.there.0;
    on_output = at_end.there.1;
    same = same_late;
    drives = ap (λ (a : Attached). a.drives) (same_late ∙ opened_same) ∙ attached.drives;
    unused = no_calls_yet;
    dated = λ m s. subst (λ (a : Attached). AllDated m (a.card_dates 0)) (sym opened_same) (attached.dated m (steady_mid m s));
    of_card = λ m s.
        let before = steady_mid m s in
        subst (λ (a : Attached). IsInventoryOfCard m (a.card_dates 0) order.plan.files) (sym opened_same) (opens.of_card m before (attached.dated m before));
  }
