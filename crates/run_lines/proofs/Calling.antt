-- Which turn said the line `clear`, and that it was said where it was due.
use Rattle.std.proofs.Common.{◌≡◌, ◌≢◌, ◌⊎◌, inl, inr, ℕ, zero, suc, ◌<◌, ◌≤◌, Bool, true, false, List, [], ◌∷◌, ◌++◌, length, refl, sym, ap, ◌∙◌, subst, arith, append_assoc, append-nil}
use Rattle.std.specs.Prelude.{Option, Some, None, Contains, if◌then◌else◌}
use Rattle.std.proofs.lemmas.List.{append_cancel_left}
use Rattle.std.proofs.lemmas.List.Elements.{Contains-append_right}
use Rattle.bay_core.specs.declared.event.Event.{Event}
use Rattle.bay_core.specs.declared.event.Event.TheVariants.{Say}
use Rattle.bay_core.specs.World.{World}
use Rattle.digest_set.specs.declared.triple.Triple.{Triple}
use Rattle.drive_journal.specs.declared.order.Listed.{Listed}
use Rattle.drive_journal.specs.declared.record.Rec.{Rec}
use Rattle.fan_copier.specs.declared.copy.FileCopy.{FileCopy}
use Rattle.fan_copier.specs.declared.turn.Turn.{Turn}
use Rattle.fan_copier.specs.declared.turn.Turn.TheVariants.{Going as CopyGoes, Dropped, Copied, SourceFailed as CardFailed, Changed as CardChanged, NoDrive as NoneLeft}
use Rattle.offload_law.specs.Clear.{IsCalledSealed, AreCalledSealed}
use Rattle.report_text.specs.Run.{clear_text}
use Rattle.run_state.specs.declared.outcome.Outcome.{Outcome}
use Rattle.run_state.specs.declared.outcome.Outcome.TheVariants.{Going, SourceFailed, Changed, Altered, OutFailed}
use Rattle.run_state.specs.declared.phase.Phase.{Phase}
use Rattle.run_state.specs.declared.phase.Phase.TheVariants.{Begins, File, Copies, Dates, Records, Seals, Clears, Ended}
use Rattle.run_state.specs.Acts.{Says, Goes, Ends, BeginTurn, CopySettles, other_listed, DateTurn, RecordTurn, SealTurn, is_clear, end_of, ClearTurn}
use Rattle.run_state.specs.Rules.{IsRun, IsStart}
use Rattle.run_state.specs.Runs.{Point, Runs, starts, turns, beside, Alone, still, turned, IsAboutNone}
use Rattle.run_state.specs.State.{Ordered, DriveAt, Gone, Fresh, Begun as BegunDrive, Found, Sealed as SealedDrive, At, Drives, Journaled, files_of, drive_at, is_of_run, count_sealed, due as due_on}
use Rattle.run_state.specs.Turn.{Acted, Turned}
use Rattle.run_lines.specs.Words.{mark_text}
use Rattle.run_lines.specs.Lines.{lines_in, IsEnd}
use Rattle.run_lines.specs.Clear.{AreSealedOf, IsClear, IsTurnsCall, StandsBehind, ClearsRightly}
use Rattle.run_lines.proofs.Since.{since_at, split, since_went}
use Rattle.run_lines.proofs.Texts.{one_clear, clear_no_mark}
use Rattle.run_lines.proofs.Saying.{said_line, one_line}
use Rattle.run_lines.proofs.Turns.{TurnSays, turn_says, runs_since}
use Rattle.run_lines.proofs.Runs.{KeepsRules, AreRuns, Nobody, runs_kept, alone_kept}
use Rattle.run_lines.proofs.Clearing.{ShortFiles, clear_means, clear_holds, few_sealed, one_length, SealedSo, sealed_kept, sealed_of_run, sealed_alone, rightly}

-- ---- which turn it was

nothing : (line : List ℕ) → Contains [] line → ⊥
nothing line (k, inside, is) = absurd (omega (arith, inside))

only : (x line : List ℕ) → Contains (x ∷ []) line → x ≡ line
only x line (zero, inside, is) = is
only x line (suc k, inside, is) = absurd (omega (arith, inside))

single : (front : List Event) (e x : Event) (rest : List Event) → front ++ e ∷ rest ≡ x ∷ [] → (front ≡ []) × (e ≡ x)
single [] e x rest is = (refl, cc is)
single (y ∷ []) e x rest is = absurd (cc is)
single (y ∷ (z ∷ front)) e x rest is = absurd (cc is)

one_text : (x y : List ℕ) (ok ko : Bool) → Say x ok ≡ Say y ko → x ≡ y
one_text x y ok ko is = cc is

-- the turn that calls the card clear, by these numbers
record CallsClear (o : Ordered) (b : Point) (front : List Event) (count required : ℕ) : Type 0 where
  phase : b.at.phase ≡ Clears
  due : is_clear (count_sealed b.at.drives.each) o.copies ≡ true
  none : front ≡ []
  counted : count ≡ count_sealed b.at.drives.each
  ordered : required ≡ o.copies

-- a line `clear` in a turn is of the turn that calls the card clear
clear_turn : (o : Ordered) (b : Point) → IsRun o b.at → (B front rest : List Event) (count required : ℕ) (ok : Bool) → B ≡ front ++ Say (clear_text count required) ok ∷ rest → TurnSays o b B → CallsClear o b front count required
clear_turn o b rules B front rest count required ok at says = by says
  where
    inside : Contains (lines_in B) (clear_text count required)
    inside = said_line B (clear_text count required)
        (ok, subst (λ (l : List Event). Contains l (Say (clear_text count required) ok)) (sym at) (Contains-append_right front (Say (clear_text count required) ok ∷ rest) (Say (clear_text count required) ok) (0, omega arith, refl)))

    few : count_sealed b.at.drives.each < 10
    few = let most = few_sealed b.at.drives.each in let eight = rules.drives.few in omega (arith, most, eight)

    by : TurnSays o b B → CallsClear o b front count required
    by (inl quiet) = absurd (nothing (clear_text count required) (subst (λ (l : List (List ℕ)). Contains l (clear_text count required)) quiet inside))
    by (inr (inl (d, m, is))) = absurd (clear_no_mark o.plan d m count required (only (mark_text o.plan d m) (clear_text count required) (subst (λ (l : List (List ℕ)). Contains l (clear_text count required)) is inside)))
    by (inr (inr c)) =
        let one = single front (Say (clear_text count required) ok) (Say (clear_text (count_sealed b.at.drives.each) o.copies) c.ok) rest (sym at ∙ c.is) in
        let required_too = (clear_means (count_sealed b.at.drives.each) o.copies c.due).1 in
        let same = one_clear count required (count_sealed b.at.drives.each) o.copies few (omega (arith, few, required_too)) (one_text (clear_text count required) (clear_text (count_sealed b.at.drives.each) o.copies) ok c.ok one.1) in
        record { phase = c.phase; due = c.due; none = one.0; counted = same.0; ordered = same.1 }

-- before the card is called clear each line was said
sound_at : (o : Ordered) (b : Point) → IsRun o b.at → b.at.phase ≡ Clears → b.at.outcome ≢ OutFailed
sound_at o b rules is failed =
    let going : b.at.outcome ≡ Going = rules.outcome.1 (λ ended. absurd (let never : Clears ≡ Ended = sym is ∙ ended in cc never)) in
    let never : Going ≡ OutFailed = sym going ∙ failed in
    absurd (cc never)

sound_end : (outcome : Outcome) → IsEnd outcome → outcome ≢ OutFailed
sound_end outcome end failed = subst IsEnd failed end

-- ---- the end of a run

goes_on : (ok : Bool) (next : Phase) (at : At) → Goes ok next at → IsEnd at.outcome → ⊥
goes_on true next at goes end = subst IsEnd goes.1 end
goes_on false next at goes end = subst IsEnd goes.1 end

ends_as : (outcome : Outcome) (at : At) → Ends outcome at → (IsEnd outcome → ⊥) → IsEnd at.outcome → ⊥
ends_as outcome at ends not end = not (subst IsEnd ends.1 end)

module _ (o : Ordered) (b c : Point) where
  begin_goes : (d : ℕ) (x : DriveAt) → BeginTurn o d x b.at.drives c.at b.world c.world → IsEnd c.at.outcome → ⊥
  begin_goes d Fresh t end = goes_on t.said _ c.at t.goes end
  begin_goes d (BegunDrive recs gate kept) t end = goes_on t.said _ c.at t.goes end
  begin_goes d Gone t end = goes_on true _ c.at t.goes end
  begin_goes d (Found recs) t end = goes_on true _ c.at t.goes end
  begin_goes d SealedDrive t end = goes_on true _ c.at t.goes end

  copy_goes : (i : ℕ) (came : Turn) (next : FileCopy) (mid : World) → CopySettles (files_of o.plan) i came next b.at.drives c.at mid c.world → IsEnd c.at.outcome → ⊥
  copy_goes i CopyGoes next mid s end = goes_on true _ c.at s.1 end
  copy_goes i (Dropped d) next mid s end = goes_on s.said _ c.at s.goes end
  copy_goes i (Copied x) next mid s end = goes_on true _ c.at s.1 end
  copy_goes i CardFailed next mid s end = ends_as SourceFailed c.at s.1 (λ e. e) end
  copy_goes i (CardChanged listed read) next mid s end = ends_as (Changed i listed read) c.at s.1 (λ e. e) end
  copy_goes i NoneLeft next mid s end = absurd s

  date_goes : (i : ℕ) (x : Triple) (found : Option Listed) → DateTurn o i x found b.at.drives c.at b.world c.world → IsEnd c.at.outcome → ⊥
  date_goes i x None t end = goes_on true _ c.at t.goes end
  date_goes i x (Some l) t end = ends_as (Altered i l x) c.at t.1 (λ e. e) end

  record_goes : (rec : Rec) (d : ℕ) (found : Option Journaled) → RecordTurn o rec d found b.at.drives c.at b.world c.world → IsEnd c.at.outcome → ⊥
  record_goes rec d None t end = goes_on true _ c.at t.goes end
  record_goes rec d (Some j) t end = goes_on t.said _ c.at t.goes end

  seal_goes : (d : ℕ) (x : DriveAt) → SealTurn o d x b.at.drives c.at b.world c.world → IsEnd c.at.outcome → ⊥
  seal_goes d (BegunDrive recs gate kept) t end = goes_on t.said _ c.at t.goes end
  seal_goes d (Found recs) t end = goes_on t.said _ c.at t.goes end
  seal_goes d Fresh t end = absurd t
  seal_goes d Gone t end = goes_on true _ c.at t.goes end
  seal_goes d SealedDrive t end = goes_on true _ c.at t.goes end

-- ---- it was said where it was due

abbrev DueCall : Ordered → Point → Point → List Event → At → Type 0
DueCall o a b past at = (before : List Event) × IsTurnsCall o a b past before (Say (clear_text (count_sealed at.drives.each) o.copies) true)

module _ (o : Ordered) (a : Point) (start : IsStart o a.at) (past : List Event) (was : a.world.events ≡ Some past) where
  -- a run that has just been made did not end
  not_over : IsEnd a.at.outcome → ⊥
  not_over end = subst IsEnd (start.run.outcome.1 (λ ended. absurd (let never : Begins 0 ≡ Ended = sym start.phase ∙ ended in cc never))) end

  later_turn : (x b : Point) (at : At) → Turned o x.at b.at x.pool b.pool x.world b.world → DueCall o a x past at → DueCall o a b past at
  later_turn x b at t (before, c) = (before, record { mid = c.mid; next = c.next; front = c.front; turn = c.turn; back = turns c.back t; was = c.was; now = c.now })

  -- the turn that says it
  due_here : (x b : Point) → Runs o a x → Turned o x.at b.at x.pool b.pool x.world b.world → b.at.drives ≡ x.at.drives → is_clear (count_sealed b.at.drives.each) o.copies ≡ true → IsEnd b.at.outcome
      → ClearTurn o.copies (count_sealed x.at.drives.each) (is_clear (count_sealed x.at.drives.each) o.copies) b.at x.world b.world → (L : List Event) → b.world.events ≡ Some (past ++ L) → DueCall o a b past b.at
  due_here x b r turn same due end t L now =
      subst (λ (d : Drives). (before : List Event) × IsTurnsCall o a b past before (Say (clear_text (count_sealed d.each) o.copies) true)) (sym same)
      (by (subst (λ (g : Bool). ClearTurn o.copies sealed g b.at x.world b.world) (subst (λ (d : Drives). is_clear (count_sealed d.each) o.copies ≡ true) same due) t))
    where
      sealed : ℕ
      sealed = count_sealed x.at.drives.each

      said : (ok : Bool) → Says (clear_text (count_sealed x.at.drives.each) o.copies) ok x.world b.world → Ends (if ok then end_of (count_sealed x.at.drives.each) else OutFailed) b.at
          → (before : List Event) × IsTurnsCall o a b past before (Say (clear_text (count_sealed x.at.drives.each) o.copies) true)
      said false line ends = absurd (subst IsEnd ends.1 end)
      said true line ends =
          let s = split (runs_since o a x r) (since_went line.went) past L was now in
          let e : Event = Say (clear_text (count_sealed x.at.drives.each) o.copies) true in
          let one : s.added ≡ e ∷ [] = one_line (clear_text (count_sealed x.at.drives.each) o.copies) true s.added s.such in
          (s.first, record { mid = x; next = b; front = r; turn = turn; back = starts; was = s.was; now = now ∙ ap (λ (l : List Event). Some (past ++ l)) (s.is ∙ ap (λ (l : List Event). s.first ++ l) one) })

      by : ClearTurn o.copies (count_sealed x.at.drives.each) true b.at x.world b.world → (before : List Event) × IsTurnsCall o a b past before (Say (clear_text (count_sealed x.at.drives.each) o.copies) true)
      by t = said t.said t.line t.ends

  -- ---- any number of turns

  abbrev IsDue : At → Type 0
  IsDue at = is_clear (count_sealed at.drives.each) o.copies ≡ true

  due_turn : (x b : Point) → Runs o a x → (phase : Phase) → x.at.phase ≡ phase → Turned o x.at b.at x.pool b.pool x.world b.world → Acted o phase x.at b.at x.pool b.pool x.world b.world → IsEnd b.at.outcome → IsDue b.at
      → (L : List Event) → b.world.events ≡ Some (past ++ L) → (IsEnd x.at.outcome → IsDue x.at → x.world.events ≡ Some (past ++ L) → DueCall o a x past x.at) → DueCall o a b past b.at
  due_turn x b r (Begins d) is turn t end due L now so = absurd (begin_goes o x b d (drive_at x.at.drives.each d) t end)
  due_turn x b r (File i) is turn (inl t) end due L now so = absurd (goes_on true _ b.at t.goes end)
  due_turn x b r (File i) is turn (inr t) end due L now so = absurd (goes_on true _ b.at t.1.goes end)
  due_turn x b r (Copies i copy) is turn t end due L now so = absurd (copy_goes o x b i t.came t.next t.mid t.settles end)
  due_turn x b r (Dates i k) is turn t end due L now so = absurd (date_goes o x b i k (other_listed o.listed i k) t end)
  due_turn x b r (Records rec d) is turn t end due L now so = absurd (record_goes o x b rec d (due_on rec.index (drive_at x.at.drives.each d)) t end)
  due_turn x b r (Seals d) is turn t end due L now so = absurd (seal_goes o x b d (drive_at x.at.drives.each d) t end)
  due_turn x b r Clears is turn t end due L now so = due_here x b r turn t.0 due end t.1 L now
  due_turn x b r Ended is turn t end due L now so =
      subst (λ (at : At). DueCall o a b past at) (sym t.0)
      (later_turn x b x.at turn (so (subst (λ (at : At). IsEnd at.outcome) t.0 end) (subst IsDue t.0 due) (ap (λ (w : World). w.events) (sym t.2) ∙ now)))

  due_said : (b : Point) → Runs o a b → IsEnd b.at.outcome → IsDue b.at → (L : List Event) → b.world.events ≡ Some (past ++ L) → DueCall o a b past b.at
  due_said b starts end due L now = absurd (not_over end)
  due_said b (turns {b = x} r t) end due L now = due_turn x b r x.at.phase refl t t end due L now (λ end_x due_x now_x. due_said x r end_x due_x L now_x)
  due_said b (beside {b = x} r t) end due L now =
      let s = split (runs_since o a x r) (since_went t.went) past L was now in
      let d = due_said x r (subst (λ (at : At). IsEnd at.outcome) t.same end) (subst IsDue t.same due) s.first s.was in
      let c = d.1 in
      subst (λ (at : At). DueCall o a b past at) (sym t.same)
      (d.0, record { mid = c.mid; next = c.next; front = c.front; turn = c.turn; back = beside c.back t; was = c.was; now = c.now })

-- ---- the law, with what others do between the turns

pub clears_beside : KeepsRules → ShortFiles → (o : Ordered) (a b : Point) → IsStart o a.at → Runs o a b → (past L : List Event) → a.world.events ≡ Some past → b.world.events ≡ Some (past ++ L)
    → ClearsRightly o b L (AreSealedOf a.at.drives) (IsTurnsCall o a b past)
clears_beside rules short o a b start r past L was now = record { rightly = λ before count required ok c. by before count required ok c; due = λ end drives are some enough. due end drives are some enough }
  where
    sealed_at : (x : Point) → Runs o a x → x.at.outcome ≢ OutFailed → (K : List Event) → x.world.events ≡ Some (past ++ K) → SealedSo short o a start (IsAboutNone a.at.drives) x.at K
    sealed_at x run sound K here = sealed_kept short o a start (IsAboutNone a.at.drives) x.at x.world (runs_kept rules o a start x run) sound past K was here

    by : (before : List Event) (count required : ℕ) (ok : Bool) → IsTurnsCall o a b past before (Say (clear_text count required) ok) → IsClear (AreSealedOf a.at.drives) o before count required
    by before count required ok c =
        let e : Event = Say (clear_text count required) ok in
        let is_run : IsRun o c.mid.at = rules o a c.mid start.run c.front in
        let says : TurnSays o c.mid (e ∷ []) = since_at (turn_says o c.mid c.next c.mid.at.phase refl c.turn) (past ++ before) (e ∷ []) c.was (c.now ∙ ap Some (sym (append_assoc past before (e ∷ [])))) in
        let t = clear_turn o c.mid is_run (e ∷ []) [] [] count required ok refl says in
        let s = sealed_at c.mid c.front (sound_at o c.mid is_run t.phase) before c.was in
        rightly (AreSealedOf a.at.drives) o c.mid.at before s.drives (sealed_of_run short o a start c.mid.at before s) s.count t.due count required t.counted t.ordered

    due : IsEnd b.at.outcome → (drives : List ℕ) → AreSealedOf a.at.drives drives L → 1 ≤ o.copies → o.copies ≤ length drives → (before : List Event) × IsTurnsCall o a b past before (Say (clear_text (length drives) o.copies) true)
    due end drives are some enough =
        let s = sealed_at b r (sound_end b.at.outcome end) L now in
        let mine = sealed_of_run short o a start b.at L s in
        let same : length drives ≡ count_sealed b.at.drives.each = one_length (λ d. (is_of_run a.at.drives d ≡ true) × IsCalledSealed d L) drives s.drives are.once mine.once are.each mine.each ∙ s.count in
        subst (λ (k : ℕ). (before : List Event) × IsTurnsCall o a b past before (Say (clear_text k o.copies) true)) (sym same)
        (due_said o a start past was b r end (clear_holds (count_sealed b.at.drives.each) o.copies some (omega (arith, enough, same))) L now)

-- ---- with nothing between them

-- a call among those of turns: it is of one of them
record IsInTurn (o : Ordered) (a : Point) (past before : List Event) (e : Event) : Type 0 where
  mid : Point
  next : Point
  front : Alone o a mid
  turn : Turned o mid.at next.at mid.pool next.pool mid.world next.world
  first : List Event
  within : List Event
  rest : List Event
  was : mid.world.events ≡ Some (past ++ first)
  is : before ≡ first ++ within
  says : TurnSays o mid (within ++ e ∷ rest)

split_at : (A B before after : List Event) (e : Event) → A ++ B ≡ before ++ e ∷ after → ((rest : List Event) × (A ≡ before ++ e ∷ rest)) ⊎ ((first : List Event) × (before ≡ A ++ first) × (B ≡ first ++ e ∷ after))
split_at [] B before after e is = inr (before, refl, is)
split_at (x ∷ A) B [] after e is = let head : x ≡ e = cc is in inl (A, ap (λ (y : Event). y ∷ A) head)
split_at (x ∷ A) B (y ∷ before) after e is =
    let head : x ≡ y = cc is in
    let rest : A ++ B ≡ before ++ e ∷ after = cc is in
    elim (split_at A B before after e rest) [
      | inl found ↦ inl (found.0, ap (λ (z : Event). z ∷ A) head ∙ ap (λ (l : List Event). y ∷ l) found.1)
      | inr found ↦ inr (found.0, ap (λ (z : Event). z ∷ before) (sym head) ∙ ap (λ (l : List Event). x ∷ l) found.1, found.2)
    ]

module _ (runs : AreRuns) (o : Ordered) (a : Point) (past : List Event) (was : a.world.events ≡ Some past) where
  in_turn : (b : Point) → Alone o a b → (L : List Event) → b.world.events ≡ Some (past ++ L) → (before after : List Event) (e : Event) → L ≡ before ++ e ∷ after → IsInTurn o a past before e
  in_turn b still L now before after e at =
      let none : L ≡ [] = append_cancel_left past L [] (some_same (past ++ L) (past ++ []) (sym now ∙ was ∙ ap Some (sym (append-nil past)))) in
      absurd (no_call before after e (sym none ∙ at))
    where
      some_same : (A B : List Event) → Some A ≡ Some B → A ≡ B
      some_same A B is = cc is

      no_call : (before after : List Event) (e : Event) → [] ≡ before ++ e ∷ after → ⊥
      no_call [] after e is = absurd (cc is)
      no_call (x ∷ before) after e is = absurd (cc is)
  in_turn b (turned {b = x} r t) L now before after e at =
      let s = split (runs_since o a x (runs o a x r)) (turn_says o x b x.at.phase refl t) past L was now in
      elim (split_at s.first s.added before after e (sym s.is ∙ at)) [
        | inl found ↦ in_turn x r s.first s.was before found.0 e found.1
        | inr found ↦ record { mid = x; next = b; front = r; turn = t; first = s.first; within = found.0; rest = after; was = s.was; is = found.1; says = subst (TurnSays o x) found.2 s.such }
      ]

pub clears_alone : KeepsRules → AreRuns → ShortFiles → (o : Ordered) (a b : Point) → IsStart o a.at → Alone o a b → (past L : List Event) → a.world.events ≡ Some past → b.world.events ≡ Some (past ++ L)
    → ClearsRightly o b L AreCalledSealed (StandsBehind L)
clears_alone rules runs short o a b start r past L was now = record { rightly = λ before count required ok at. by before count required ok at; due = λ end drives are some enough. due end drives are some enough }
  where
    sealed_at : (x : Point) → Alone o a x → x.at.outcome ≢ OutFailed → (K : List Event) → x.world.events ≡ Some (past ++ K) → SealedSo short o a start Nobody x.at K
    sealed_at x run sound K here = sealed_kept short o a start Nobody x.at x.world (alone_kept rules o a start runs x run) sound past K was here

    by : (before : List Event) (count required : ℕ) (ok : Bool) → StandsBehind L before (Say (clear_text count required) ok) → IsClear AreCalledSealed o before count required
    by before count required ok (after, at) =
        let e : Event = Say (clear_text count required) ok in
        let c = in_turn runs o a past was b r L now before after e at in
        let is_run : IsRun o c.mid.at = rules o a c.mid start.run (runs o a c.mid c.front) in
        let t = clear_turn o c.mid is_run (c.within ++ e ∷ c.rest) c.within c.rest count required ok refl c.says in
        let here : before ≡ c.first = c.is ∙ ap (λ (l : List Event). c.first ++ l) t.none ∙ append-nil c.first in
        let s = sealed_at c.mid c.front (sound_at o c.mid is_run t.phase) c.first c.was in
        subst (λ (l : List Event). IsClear AreCalledSealed o l count required) (sym here)
        (rightly AreCalledSealed o c.mid.at c.first s.drives (sealed_alone short o a start c.mid.at c.first s) s.count t.due count required t.counted t.ordered)

    -- a turn's call stands among the calls
    stands : (before : List Event) (e : Event) → IsTurnsCall o a b past before e → StandsBehind L before e
    stands before e c =
        let s = split (runs_since o a c.next (turns c.front c.turn)) (runs_since o c.next b c.back) past L was now in
        let same : past ++ s.first ≡ past ++ (before ++ e ∷ []) = some_same (past ++ s.first) (past ++ (before ++ e ∷ [])) (sym s.was ∙ c.now) in
        let first : s.first ≡ before ++ e ∷ [] = append_cancel_left past s.first (before ++ e ∷ []) same in
        (s.added, s.is ∙ ap (λ (l : List Event). l ++ s.added) first ∙ append_assoc before (e ∷ []) s.added)
      where
        some_same : (A B : List Event) → Some A ≡ Some B → A ≡ B
        some_same A B is = cc is

    due : IsEnd b.at.outcome → (drives : List ℕ) → AreCalledSealed drives L → 1 ≤ o.copies → o.copies ≤ length drives → (before : List Event) × StandsBehind L before (Say (clear_text (length drives) o.copies) true)
    due end drives are some enough =
        let s = sealed_at b r (sound_end b.at.outcome end) L now in
        let mine = sealed_alone short o a start b.at L s in
        let same : length drives ≡ count_sealed b.at.drives.each = one_length (λ d. IsCalledSealed d L) drives s.drives are.once mine.once are.each mine.each ∙ s.count in
        let c = due_said o a start past was b (runs o a b r) end (clear_holds (count_sealed b.at.drives.each) o.copies some (omega (arith, enough, same))) L now in
        subst (λ (k : ℕ). (before : List Event) × StandsBehind L before (Say (clear_text k o.copies) true)) (sym same)
        (c.0, stands c.0 (Say (clear_text (count_sealed b.at.drives.each) o.copies) true) c.1)
