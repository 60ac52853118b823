-- What follows a call that failed, over any number of turns.
use Rattle.std.proofs.Common.{◌≡◌, ◌⊎◌, inl, inr, ℕ, ◌<◌, ◌≤◌, Bool, true, false, List, [], ◌∷◌, ◌++◌, refl, sym, ap, ◌∙◌, subst, arith}
use Rattle.std.specs.Prelude.{codes, not, ◌||◌, nat_lt, Some}
use Rattle.std.proofs.lemmas.Bool.{cases_Bool, false≢true, ltb-true, ltb-false}
use Rattle.bay_core.specs.declared.event.Event.{Event}
use Rattle.bay_core.specs.declared.event.Event.TheVariants.{Say}
use Rattle.bay_core.specs.Looks.{has_failed}
use Rattle.bay_core.specs.Replay.{Device, Source, Drive, Attaching, Output, Clock, Picker, calls_on, device_of}
use Rattle.bay_core.specs.Went.{AllOn, Went, NoCall}
use Rattle.bay_core.specs.World.{World}
use Rattle.bay_core.proofs.Replays.{calls_on-append}
use Rattle.bay_core.proofs.Runs.{went_none, went_such, went_then, since_made}
use Rattle.fan_core.specs.Flags.{has}
use Rattle.run_state.specs.declared.phase.Phase.{Phase}
use Rattle.run_state.specs.declared.phase.Phase.TheVariants.{Begins, File, Copies, Dates, Records, Seals, Clears, Ended}
use Rattle.run_state.specs.declared.outcome.Outcome.{Outcome}
use Rattle.run_state.specs.declared.outcome.Outcome.TheVariants.{SourceFailed, OutFailed}
use Rattle.run_state.specs.Acts.{Ends}
use Rattle.run_state.specs.Calls.{IsOfRun, AreTurnCalls}
use Rattle.run_state.specs.Rules.{IsOver, IsRun}
use Rattle.run_state.specs.Runs.{Point, begins_with, IsElsewhere, AreBeside, Beside, Alone, still, turned, Runs, starts, turns, beside}
use Rattle.run_state.specs.State.{Ordered, DriveAt, Gone, At, IsCalled, drive_at, is_gone, is_of_run}
use Rattle.run_state.specs.Turn.{Acted, Turned}
use Rattle.run_state.proofs.Drives.{none_past}
use Rattle.run_state.proofs.Passing.{TheRules, TheCalls, TurnsAlone, turn_passed, of_run_low}
use Rattle.run_ends.proofs.Lines.{none_there, no_line, line_beside, not_about}
use Rattle.run_calls.specs.Failures.{IsDropped, IsLeft, IsToldNext, Halts, NoneAfterFailure, NoneAfterLoss}
use Rattle.run_calls.proofs.Lists.{IsAny, IsMute, split_at, only_one, none_failed, failed_last, with_on, went_both, on_at, on_behind, calls_off, apart_off}
use Rattle.run_calls.proofs.Own.{own_calls}
use Rattle.run_calls.proofs.Turns.{EndsBy, LineIs, OneTurn, CopyKnown, acted_turn}

-- ---- in one turn

module _ (new : At) (B : List Event) (t : OneTurn new B) where
  -- no line is on a drive
  line_off : (d : ℕ) → LineIs new t.line → calls_on d t.line ≡ []
  line_off d (inl none) = ap (calls_on d) none
  line_off d (inr (text, ok, is, out, drops)) = ap (calls_on d) is

  -- the call is one of those before the line
  halts_before : (front rest back : List Event) (e : Event) → t.calls ≡ front ++ e ∷ rest → back ≡ rest ++ t.line → has_failed e ≡ true → EndsBy new t.calls t.line → Halts new (device_of e) back
  halts_before front rest back e is after bad (inl none) = absurd (none_failed t.calls none front rest e is bad)
  halts_before front rest back e is after bad (inr (inl (d, last, told, dropped))) =
      let f = failed_last (Drive d) t.calls last front rest e is bad in
      let whole : back ≡ t.line = after ∙ ap (λ (l : List Event). l ++ t.line) f.1 in
      subst (λ (x : Device). Halts new x back) (sym f.0) (subst (λ (l : List Event). Halts new (Drive d) l) (sym whole) (told, (line_off d t.said, dropped)))
  halts_before front rest back e is after bad (inr (inr (s, last, none, ended))) =
      let f = failed_last (Source s) t.calls last front rest e is bad in
      let whole : back ≡ [] = after ∙ ap (λ (l : List Event). l ++ t.line) f.1 ∙ none in
      subst (λ (x : Device). Halts new x back) (sym f.0) (whole, ended)

  not_said : (text : List ℕ) (ok : Bool) → has_failed (Say text ok) ≡ true → ok ≡ false
  not_said text true bad = absurd (false≢true bad)
  not_said text false bad = refl

  -- it is the line
  halts_line : (first back : List Event) (e : Event) → t.line ≡ first ++ e ∷ back → has_failed e ≡ true → LineIs new t.line → Halts new (device_of e) back
  halts_line first back e is bad (inl none) = absurd (none_there first back e (sym none ∙ is))
  halts_line first back e is bad (inr (text, ok, one, out, drops)) =
      let f = only_one (Say text ok) e first back (sym one ∙ is) in
      subst (λ (x : Device). Halts new x back) (sym (ap device_of f.0)) (f.1, out (not_said text ok (sym (ap has_failed f.0) ∙ bad)))

  turn_halts : (front back : List Event) (e : Event) → B ≡ front ++ e ∷ back → has_failed e ≡ true → Halts new (device_of e) back
  turn_halts front back e is bad = elim (split_at t.calls t.line front back e (sym t.is ∙ is)) [
    | inl found ↦ halts_before front found.0 back e found.1 found.2 bad t.ends
    | inr found ↦ halts_line found.0 back e found.2 bad t.said
  ]

  lost_line : (k : ℕ) → k < 8 → (first back : List Event) (line : List ℕ) (ok : Bool) → t.line ≡ first ++ Say line ok ∷ back → begins_with (codes "dropped") k line ≡ true → LineIs new t.line → IsLeft k new back
  lost_line k small first back line ok is begins (inl none) = absurd (none_there first back (Say line ok) (sym none ∙ is))
  lost_line k small first back line ok is begins (inr (text, how, one, out, drops)) =
      let f = only_one (Say text how) (Say line ok) first back (sym one ∙ is) in
      let said : Say line ok ≡ Say text how = f.0 in
      let same : line ≡ text = cc said in
      (ap (calls_on k) f.1, drops k small (ap (begins_with (codes "dropped") k) (sym same) ∙ begins))

  turn_drops : (k : ℕ) → k < 8 → (front back : List Event) (line : List ℕ) (ok : Bool) → B ≡ front ++ Say line ok ∷ back → begins_with (codes "dropped") k line ≡ true → IsLeft k new back
  turn_drops k small front back line ok is begins = elim (split_at t.calls t.line front back (Say line ok) (sym t.is ∙ is)) [
    | inl found ↦ absurd (no_line IsMute (λ y on. on) t.calls t.mute front found.0 line ok found.1)
    | inr found ↦ lost_line k small found.0 back line ok found.2 begins t.said
  ]

-- ---- a drive that was dropped

left_more : (d : ℕ) (old new : At) (back B : List Event) → (IsDropped d old.drives → (calls_on d B ≡ []) × IsDropped d new.drives) → IsLeft d old back → IsLeft d new (back ++ B)
left_more d old new back B kept left =
    let k = kept left.1 in
    (calls_on-append d back B ∙ ap (λ (l : List Event). l ++ calls_on d B) left.0 ∙ k.0, k.1)

gone_uncalled : (x : DriveAt) → x ≡ Gone → IsCalled x → ⊥
gone_uncalled x is called = subst IsCalled is called

gone_over : (x : DriveAt) → x ≡ Gone → IsOver x
gone_over x is = subst IsOver (sym is) tt

module _ (o : Ordered) (b c : Point) (run : IsRun o b.at) (t : Turned o b.at c.at b.pool c.pool b.world c.world) where
  -- it stays dropped
  dropped_stays : (d : ℕ) → IsDropped d b.at.drives → IsDropped d c.at.drives
  dropped_stays d dropped =
      let gone = dropped.0 in
      let p = turn_passed o b.at c.at b.pool c.pool b.world c.world run t d (gone_uncalled (drive_at b.at.drives.each d) gone) in
      let now : drive_at c.at.drives.each d ≡ Gone = p.over (gone_over (drive_at b.at.drives.each d) gone) ∙ gone in
      let of : is_of_run b.at.drives d ≡ true = ap (λ (x : DriveAt). not (is_gone x) || has b.at.drives.dropped d) gone ∙ dropped.1 in
      (now, sym (ap (λ (x : DriveAt). not (is_gone x) || has c.at.drives.dropped d) now) ∙ p.of_run of)

  -- and is not called
  dropped_off : (d : ℕ) (B : List Event) → AllOn (IsOfRun o b.at.drives) B → IsDropped d b.at.drives → (calls_on d B ≡ []) × IsDropped d c.at.drives
  dropped_off d B on dropped = (calls_off d (IsOfRun o b.at.drives) (apart_off d (IsOfRun o b.at.drives) (gone_uncalled (drive_at b.at.drives.each d) dropped.0)) B on, dropped_stays d dropped)

-- ---- what a turn adds

-- the calls of a turn, on which devices, and that there is none where the run has ended
pub record Adds (o : Ordered) (b c : Point) (B : List Event) : Type 0 where
  pub on : AllOn (IsOfRun o b.at.drives) B
  pub turn : OneTurn c.at B
  pub rests : b.at.phase ≡ Ended → (B ≡ []) × (c.at ≡ b.at)

no_call_same : {b c : World} → c ≡ b → Went IsAny NoCall b c
no_call_same {b} {c} same = subst (λ (w : World). Went IsAny NoCall b w) (sym same) (went_none IsAny b)

-- where the run has ended a turn makes no call
abbrev Rests : Point → Point → List Event → Type 0
Rests b c B = b.at.phase ≡ Ended → (B ≡ []) × (c.at ≡ b.at)

module _ (b c : Point) where
  goes_on : (phase : Phase) → b.at.phase ≡ phase → (phase ≡ Ended → ⊥) → Went IsAny (OneTurn c.at) b.world c.world → Went IsAny (λ B. OneTurn c.at B × Rests b c B) b.world c.world
  goes_on phase is on went = went_such also went
    where
      also : (B : List Event) → OneTurn c.at B → OneTurn c.at B × Rests b c B
      also B one = (one, λ ended. absurd (on (sym is ∙ ended)))

  is_over : c.at ≡ b.at → c.world ≡ b.world → Went IsAny (OneTurn c.at) b.world c.world → Went IsAny (λ B. OneTurn c.at B × Rests b c B) b.world c.world
  is_over same idle went = went_such also (went_both went (no_call_same idle))
    where
      also : (B : List Event) → OneTurn c.at B × NoCall B → OneTurn c.at B × Rests b c B
      also B both = (both.0, λ ended. (both.1, same))

with_rest : (o : Ordered) (b c : Point) (phase : Phase) → b.at.phase ≡ phase → Acted o phase b.at c.at b.pool c.pool b.world c.world → Went IsAny (OneTurn c.at) b.world c.world → Went IsAny (λ B. OneTurn c.at B × Rests b c B) b.world c.world
with_rest o b c (Begins d) is t went = goes_on b c (Begins d) is (λ e. absurd (cc e)) went
with_rest o b c (File i) is t went = goes_on b c (File i) is (λ e. absurd (cc e)) went
with_rest o b c (Copies i copy) is t went = goes_on b c (Copies i copy) is (λ e. absurd (cc e)) went
with_rest o b c (Dates i x) is t went = goes_on b c (Dates i x) is (λ e. absurd (cc e)) went
with_rest o b c (Records rec d) is t went = goes_on b c (Records rec d) is (λ e. absurd (cc e)) went
with_rest o b c (Seals d) is t went = goes_on b c (Seals d) is (λ e. absurd (cc e)) went
with_rest o b c Clears is t went = goes_on b c Clears is (λ e. absurd (cc e)) went
with_rest o b c Ended is t went = is_over b c t.0 t.2 went

as_adds : (o : Ordered) (b c : Point) (B : List Event) → (AllOn (IsOfRun o b.at.drives) B × AreTurnCalls o b.at.drives B) × (OneTurn c.at B × Rests b c B) → Adds o b c B
as_adds o b c B s = record { on = s.0.0; turn = s.1.0; rests = s.1.1 }

adds : TheCalls → (o : Ordered) (b c : Point) → IsRun o b.at → CopyKnown b.at.phase b.pool b.world → Turned o b.at c.at b.pool c.pool b.world c.world → Went IsAny (Adds o b c) b.world c.world
adds calls o b c run known t =
    let went = acted_turn o b.at c.at run b.at.phase b.pool c.pool b.world c.world run.fits known t in
    went_such (as_adds o b c) (went_both (with_on (calls o b.at c.at b.pool c.pool b.world c.world run t)) (with_rest o b c b.at.phase refl t went))

-- what is so of the calls so far
record AllHalt (now : At) (L : List Event) : Type 0 where
  failed : (front back : List Event) (e : Event) → L ≡ front ++ e ∷ back → has_failed e ≡ true → Halts now (device_of e) back
  dropped : (k : ℕ) → k < 8 → (front back : List Event) (line : List ℕ) (ok : Bool) → L ≡ front ++ Say line ok ∷ back → begins_with (codes "dropped") k line ≡ true → IsLeft k now back

none_halts : (now : At) (L : List Event) → NoCall L → AllHalt now L
none_halts now L none = record {
  failed = λ front back e is bad. absurd (none_there front back e (sym none ∙ is));
  dropped = λ k small front back line ok is begins. absurd (none_there front back (Say line ok) (sym none ∙ is));
}

module _ (o : Ordered) (b c : Point) (run : IsRun o b.at) (t : Turned o b.at c.at b.pool c.pool b.world c.world) (L B : List Event) (more : Adds o b c B) where
  ended_more : (outcome : Outcome) (back : List Event) → back ≡ [] → Ends outcome b.at → (back ++ B ≡ []) × Ends outcome c.at
  ended_more outcome back none ended =
      let r = more.rests ended.0 in
      (ap (λ (l : List Event). l ++ B) none ∙ r.0, subst (Ends outcome) (sym r.1) ended)

  told_more : (d : ℕ) (back : List Event) → IsToldNext d b.at back → IsToldNext d c.at (back ++ B)
  told_more d [] ended = let r = more.rests ended.0 in subst (IsToldNext d c.at) (sym r.0) (subst (Ends OutFailed) (sym r.1) ended)
  told_more d (e ∷ back) told = told

  left_turn : (d : ℕ) (back : List Event) → IsLeft d b.at back → IsLeft d c.at (back ++ B)
  left_turn d back left = left_more d b.at c.at back B (dropped_off o b c run t d B more.on) left

  halts_more : (x : Device) (back : List Event) → Halts b.at x back → Halts c.at x (back ++ B)
  halts_more (Drive d) back h = (told_more d back h.0, left_turn d back h.1)
  halts_more (Source s) back h = ended_more SourceFailed back h.0 h.1
  halts_more Output back h = ended_more OutFailed back h.0 h.1
  halts_more Attaching back h = absurd h
  halts_more Clock back h = absurd h
  halts_more Picker back h = absurd h

  halts_then : AllHalt b.at L → AllHalt c.at (L ++ B)
  halts_then h = record {
    failed = λ front back e is bad. elim (split_at L B front back e is) [
      | inl found ↦ subst (Halts c.at (device_of e)) (sym found.2) (halts_more (device_of e) found.0 (h.failed front found.0 e found.1 bad))
      | inr found ↦ turn_halts c.at B more.turn found.0 back e found.2 bad
    ];
    dropped = λ k small front back line ok is begins. elim (split_at L B front back (Say line ok) is) [
      | inl found ↦ subst (IsLeft k c.at) (sym found.2) (left_turn k found.0 (h.dropped k small front found.0 line ok found.1 begins))
      | inr found ↦ turn_drops c.at B more.turn k small found.0 back line ok found.2 begins
    ];
  }

  -- the same of one drive
  of_drive : (d : ℕ) (x : Device) (back : List Event) → x ≡ Drive d → Halts c.at x back → IsLeft d c.at back
  of_drive d x back on h = (subst (λ (y : Device). Halts c.at y back) on h).1

  loss_then : (d : ℕ) → d < 8 → NoneAfterLoss d b.at L → NoneAfterLoss d c.at (L ++ B)
  loss_then d small h = record {
    failed = λ front back e is bad on. elim (split_at L B front back e is) [
      | inl found ↦ subst (IsLeft d c.at) (sym found.2) (left_turn d found.0 (h.failed front found.0 e found.1 bad on))
      | inr found ↦ of_drive d (device_of e) back on (turn_halts c.at B more.turn found.0 back e found.2 bad)
    ];
    dropped = λ front back line ok is begins. elim (split_at L B front back (Say line ok) is) [
      | inl found ↦ subst (IsLeft d c.at) (sym found.2) (left_turn d found.0 (h.dropped front found.0 line ok found.1 begins))
      | inr found ↦ turn_drops c.at B more.turn d small found.0 back line ok found.2 begins
    ];
  }

-- ---- turns with nothing between them

small_or : (d : ℕ) → (d < 8) ⊎ (8 ≤ d)
small_or d = elim (cases_Bool (nat_lt d 8)) [
  | inl is ↦ inl (ltb-true d 8 is)
  | inr not_so ↦ inr (ltb-false d 8 not_so)
]

module _ (rules : TheRules) (calls : TheCalls) (alone : TurnsAlone) (o : Ordered) (a : Point) (run : IsRun o a.at) (knows : (m : Point) → Runs o a m → CopyKnown m.at.phase m.pool m.world) where
  alone_halts : (b : Point) → Alone o a b → Went IsAny (AllHalt b.at) a.world b.world
  alone_halts b still = went_such (none_halts a.at) (went_none IsAny a.world)
  alone_halts b (turned {b = m} {c = n} before t) =
      let here = rules o a m run (alone o a m before) in
      went_such (λ L s. subst (AllHalt b.at) (sym s.is) (halts_then o m b here t s.first s.second s.there s.here)) (went_then (alone_halts m before) (adds calls o m b here (knows m (alone o a m before)) t))

  uncalled : (d : ℕ) → 8 ≤ d → IsOfRun o a.at.drives (Drive d) → ⊥
  uncalled d large = let few = run.drives.few in gone_uncalled (drive_at a.at.drives.each d) (none_past a.at.drives.each d (omega (arith, few, large)))

  pub none_alone : (b : Point) → Alone o a b → (past L : List Event) → a.world.events ≡ Some past → b.world.events ≡ Some (past ++ L) → NoneAfterFailure b.at L
  none_alone b runs past L was now =
      let s = since_made (alone_halts b runs) past L was now in
      let own = since_made (own_calls rules calls alone o a run b runs) past L was now in
      record {
        failed = s.such.failed;
        dropped = λ d front back line ok is begins. elim (small_or d) [
          | inl small ↦ (s.such.dropped d small front back line ok is begins).0
          | inr large ↦ calls_off d (IsOfRun o a.at.drives) (apart_off d (IsOfRun o a.at.drives) (uncalled d large)) back (on_behind (IsOfRun o a.at.drives) front back (Say line ok) (subst (AllOn (IsOfRun o a.at.drives)) is own.on))
        ];
      }

-- ---- others between them

module _ (o : Ordered) (m b : Point) (d : ℕ) (of : is_of_run m.at.drives d ≡ true) (x : Beside o m b) (L B : List Event) (on : AllOn (IsElsewhere m.at.drives) B) (are : AreBeside o m.at.drives B) where
  left_beside : (back : List Event) → IsLeft d m.at back → IsLeft d b.at (back ++ B)
  left_beside back left =
      left_more d m.at b.at back B (λ dropped. (calls_off d (IsElsewhere m.at.drives) (apart_off d (IsElsewhere m.at.drives) (λ off. off d of refl)) B on, subst (λ (at : At). IsDropped d at.drives) (sym x.same) dropped)) left

  loss_beside : NoneAfterLoss d m.at L → NoneAfterLoss d b.at (L ++ B)
  loss_beside h = record {
    failed = λ front back e is bad here. elim (split_at L B front back e is) [
      | inl found ↦ subst (IsLeft d b.at) (sym found.2) (left_beside found.0 (h.failed front found.0 e found.1 bad here))
      | inr found ↦ absurd (on_at (IsElsewhere m.at.drives) found.0 back e (subst (AllOn (IsElsewhere m.at.drives)) found.2 on) d of here)
    ];
    dropped = λ front back line ok is begins. elim (split_at L B front back (Say line ok) is) [
      | inl found ↦ subst (IsLeft d b.at) (sym found.2) (left_beside found.0 (h.dropped front found.0 line ok found.1 begins))
      | inr found ↦ absurd (false≢true (sym (not_about d line (line_beside o m.at.drives found.0 back line ok (subst (AreBeside o m.at.drives) found.2 are) d of)) ∙ begins))
    ];
  }

no_loss : (d : ℕ) (now : At) (L : List Event) → NoCall L → NoneAfterLoss d now L
no_loss d now L none = record {
  failed = λ front back e is bad on. absurd (none_there front back e (sym none ∙ is));
  dropped = λ front back line ok is begins. absurd (none_there front back (Say line ok) (sym none ∙ is));
}

module _ (rules : TheRules) (calls : TheCalls) (o : Ordered) (a : Point) (run : IsRun o a.at) (knows : (m : Point) → Runs o a m → CopyKnown m.at.phase m.pool m.world) (d : ℕ) (of : (m : Point) → Runs o a m → is_of_run m.at.drives d ≡ true) where
  runs_lose : (b : Point) → Runs o a b → Went IsAny (NoneAfterLoss d b.at) a.world b.world
  runs_lose b starts = went_such (no_loss d a.at) (went_none IsAny a.world)
  runs_lose b (turns {b = m} {c = n} before t) =
      let here = rules o a m run before in
      let small = of_run_low o.plan m.at.drives d here.drives (of m before) in
      went_such (λ L s. subst (NoneAfterLoss d b.at) (sym s.is) (loss_then o m b here t s.first s.second s.there d small s.here)) (went_then (runs_lose m before) (adds calls o m b here (knows m before) t))
  runs_lose b (beside {b = m} {c = n} before x) =
      went_such (λ L s. subst (NoneAfterLoss d b.at) (sym s.is) (loss_beside o m b d (of m before) x s.first s.second s.there.0 s.there.1 s.here)) (went_then (runs_lose m before) (with_on x.went))

  pub none_beside : (b : Point) → Runs o a b → (past L : List Event) → a.world.events ≡ Some past → b.world.events ≡ Some (past ++ L) → NoneAfterLoss d b.at L
  none_beside b runs past L was now = (since_made (runs_lose b runs) past L was now).such
