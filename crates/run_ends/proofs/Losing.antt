-- Each loss of a drive has its cause.
use Rattle.std.proofs.Common.{◌≡◌, inl, inr, ℕ, ◌^◌, ◌<◌, Bool, true, false, List, ◌++◌, refl, sym, ◌∙◌, subst}
use Rattle.std.specs.Prelude.{Some, codes}
use Rattle.std.proofs.lemmas.Bool.{false≢true}
use Rattle.bay_core.specs.declared.event.Event.{Event}
use Rattle.bay_core.specs.Replay.{Drive}
use Rattle.report_text.specs.Run.{clear_text}
use Rattle.run_state.specs.Acts.{is_clear, ClearTurn}
use Rattle.run_state.specs.Rules.{IsRun, IsStart}
use Rattle.run_state.specs.Runs.{Point, Runs, starts, turns, beside, begins_with}
use Rattle.run_state.specs.State.{Ordered, is_of_run, count_sealed}
use Rattle.run_ends.specs.Losses.{Loss, ByFault, ByAbsence, ByLength, ByDigests, ByByte, loss_text, PartSaw, Saw, HasCause, LosesRightly}
use Rattle.read_back.specs.declared.back.ReadBackError.{ReadBackError}
use Rattle.run_ends.proofs.Drives.{of_run, low}
use Rattle.run_ends.proofs.Later.{Later, later_none, later_went, later_then, rose_around}
use Rattle.run_ends.proofs.Lines.{loss_of, not_about}
use Rattle.run_ends.proofs.Saying.{EachSince, each_such, since_none, since_silent, since_said, since_same, since_beside}
use Rattle.run_ends.proofs.Turns.{Came, Passed, Told, Lost, Broke, Closed, Rested, Losing}
use Rattle.run_ends.proofs.Way.{Way, way, came_at, came_later, beside_later}
use Rattle.run_ends.proofs.Whole.{LeadsOn, copied_on}

module _ (o : Ordered) (a : Point) where
  -- ---- what was seen stays so

  part_on : (m c : Point) (d : ℕ) (path : List ℕ) (e : ReadBackError) (L : List Event) → LeadsOn o m c → PartSaw o a m d path e L → PartSaw o a c d path e L
  part_on m c d path e L on s = record {
    index = s.index;
    file = s.file;
    is_file = s.is_file;
    is_path = s.is_path;
    digests = s.digests;
    whole = copied_on o a m c s.index s.digests on s.whole;
    front = s.front;
    back = s.back;
    calls = s.calls;
    bytes = s.bytes;
    saw = s.saw;
  }

  saw_on : (m c : Point) (d : ℕ) (loss : Loss) (L : List Event) → LeadsOn o m c → Saw o a m d loss L → Saw o a c d loss L
  saw_on m c d ByFault L on s = tt
  saw_on m c d (ByAbsence path) L on (inl s) = inl (part_on m c d path _ L on s)
  saw_on m c d (ByAbsence path) L on (inr s) = inr s
  saw_on m c d (ByLength x y path) L on (inl s) = inl (part_on m c d path _ L on s)
  saw_on m c d (ByLength x y path) L on (inr s) = inr s
  saw_on m c d (ByDigests x y path) L on s = part_on m c d path _ L on s
  saw_on m c d (ByByte p x y path) L on s = s

  cause_on : (m c : Point) (d : ℕ) (line : List ℕ) (L : List Event) → LeadsOn o m c → Later m.world c.world → HasCause o a m d line L → HasCause o a c d line L
  cause_on m c d line L on later h = record {
    loss = h.loss;
    says = h.says;
    fault = λ is. rose_around (Drive d) (later_none a.world) later (h.fault is);
    saw = saw_on m c d h.loss L on h.saw;
  }

  -- a line `dropped` of any drive of the run has its cause
  abbrev Caused : Point → List Event → List ℕ → Bool → Type 0
  Caused b before line ok = (d : ℕ) → is_of_run a.at.drives d ≡ true → begins_with (codes "dropped") d line ≡ true → HasCause o a b d line before

  caused_on : (m c : Point) → LeadsOn o m c → Later m.world c.world → EachSince (Caused m) a.world m.world → EachSince (Caused c) a.world m.world
  caused_on m c on later each = each_such (Caused m) (Caused c) a.world m.world (λ before line ok so d of is. cause_on m c d line before on later (so d of is)) each

  module _ (start : IsRun o a.at) (m c : Point) (w : Way o a m) (on : LeadsOn o m c) (later : Later m.world c.world) (each : EachSince (Caused c) a.world m.world) where
    -- the line of a loss
    lost : (t : Losing o a m c) → EachSince (Caused c) a.world c.world
    lost t = since_said (Caused c) (loss_text t.d t.loss) t.said (later_then w.later t.silent.later) t.line right (since_silent (Caused c) w.later t.silent each)
      where
        low_d : t.d < 2 ^ 64
        low_d = low o m.at w.run t.d (of_run m.at.drives t.d t.there)

        cause : (past L : List Event) → a.world.events ≡ Some past → t.mid.events ≡ Some (past ++ L) → HasCause o a c t.d (loss_text t.d t.loss) L
        cause past L was now = record {
          loss = t.loss;
          says = refl;
          fault = λ is. rose_around (Drive t.d) w.later (later_went t.line.went) (t.fault is);
          saw = saw_on m c t.d t.loss L on (t.saw past L was now);
        }

        right : (past L : List Event) → a.world.events ≡ Some past → t.mid.events ≡ Some (past ++ L) → Caused c L (loss_text t.d t.loss) t.said
        right past L was now = λ d of begins. subst (λ (k : ℕ). HasCause o a c k (loss_text t.d t.loss) L) (loss_of t.d d t.loss low_d (low o a.at start d of) begins) (cause past L was now)

    clear : (required sealed : ℕ) (is_due : Bool) → ClearTurn required sealed is_due c.at m.world c.world → EachSince (Caused c) a.world c.world
    clear required sealed true t = since_said (Caused c) (clear_text sealed required) t.said w.later t.line (λ past L was now d of begins. absurd (false≢true begins)) each
    clear required sealed false t = since_same (Caused c) a.world t.1 each

    came : Came o a m c → EachSince (Caused c) a.world c.world
    came (Passed t) = since_silent (Caused c) w.later t.silent each
    came (Told t) = since_said (Caused c) t.text t.said (later_then w.later t.silent.later) t.line (λ past L was now d of begins. absurd (false≢true (sym (t.other d) ∙ begins))) (since_silent (Caused c) w.later t.silent each)
    came (Lost t) = lost t
    came (Broke t) = since_silent (Caused c) w.later t.silent each
    came (Closed t) = clear o.copies (count_sealed m.at.drives.each) (is_clear (count_sealed m.at.drives.each) o.copies) t.clear
    came (Rested t) = since_same (Caused c) a.world t.idle each

  module _ (rules : (b : Point) → IsRun o a.at → Runs o a b → IsRun o b.at) (start : IsStart o a.at) where
    caused : (b : Point) → Runs o a b → EachSince (Caused b) a.world b.world
    caused b starts = since_none (Caused a) a.world
    caused b (turns {b = x} so_far t) =
        let w = way o a rules start x so_far in
        let act = came_at o a x b w t in
        let later = came_later o a x b act in
        came start.run x b w (λ y r. turns r t) later (caused_on x b (λ y r. turns r t) later (caused x so_far)) act
    caused b (beside {b = x} so_far t) =
        let w = way o a rules start x so_far in
        let later = beside_later o x b t in
        since_beside (Caused b) o a.world x b w.later t (λ before line ok none d of begins. absurd (false≢true (sym (not_about d line (none d (w.of_run d ∙ of))) ∙ begins))) (caused_on x b (λ y r. beside r t) later (caused x so_far))

-- each loss since the run was made has its cause
pub losses : (o : Ordered) (a b : Point) → ((b : Point) → IsRun o a.at → Runs o a b → IsRun o b.at) → IsStart o a.at → Runs o a b → (past L : List Event) → a.world.events ≡ Some past → b.world.events ≡ Some (past ++ L) → LosesRightly o a b L
losses o a b rules start runs past L was now = record {
  each = λ d of before after line ok is begins. caused o a rules start b runs past L was now before after line ok is d of begins;
}
