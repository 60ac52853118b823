-- The whole opening of a run: what it calls, by its answer, and what follows its failures.
use Rattle.std.proofs.Common.{◌≡◌, ◌≢◌, inl, inr, ℕ, ◌<◌, ◌≤◌, Bool, true, false, List, [], ◌∷◌, ◌++◌, length, refl, sym, ap, ◌∙◌, subst, arith, append_assoc, append-nil}
use Rattle.std.specs.Prelude.{codes, Option, Some, None, Result, Ok, Err}
use Rattle.bay_core.specs.declared.event.Event.{Event}
use Rattle.bay_core.specs.declared.event.Event.TheVariants.{SourceList, Say}
use Rattle.bay_core.specs.Looks.{has_failed}
use Rattle.bay_core.specs.Replay.{Device, Drive, calls_on, device_of}
use Rattle.bay_core.specs.Went.{AllOn, Then, MaySee}
use Rattle.bay_core.specs.World.{World}
use Rattle.bay_core.proofs.Replays.{calls_on-append}
use Rattle.copy_plan.specs.Plan.{PlanValue}
use Rattle.card_inventory.specs.declared.error.InventoryError.{InventoryError}
use Rattle.card_inventory.specs.declared.error.InventoryError.TheVariants.{SourceFailed, EmptyCard, TooManyFiles, BadPath, BadDate, TooManyBytes, Control, TooBig, Clash as FilesClash, Memory as CardMemory}
use Rattle.card_inventory.specs.Card.{MayList, CardGives}
use Rattle.drive_journal.specs.declared.order.Order.{Order}
use Rattle.fresh_opening.specs.declared.error.FreshError.{FreshError}
use Rattle.fresh_opening.specs.declared.error.FreshError.TheVariants.{Inventory, NotAJournal, AlreadyBegun, NoDrive, Clash, Occupied, OutFailed, Memory}
use Rattle.fresh_opening.specs.Looks.{EndCalls as EndingCalls, Reaches, Refuses}
use Rattle.fresh_opening.specs.Openings.{Asked, FreshOpens, FreshLooks, Answers, AsksMoment, EndsWith, OfDrives}
use Rattle.fresh_opening.specs.Refusals.{Scene}
use Rattle.fresh_opening.specs.Sights.{HaltCalls, SightsCalls}
use Rattle.report_text.specs.Losses.{dropped_fault_text}
use Rattle.run_state.specs.Runs.{begins_with}
use Rattle.last_lines.specs.Ends.{EndCalls}
use Rattle.run_ends.proofs.Lines.{none_there}
use Rattle.run_calls.proofs.Lists.{split_at, only_one}
use Rattle.job_story.specs.Ends.{JobEnd, CardFailed, last_of}
use Rattle.job_calls.specs.Calls.{MayFollow}
use Rattle.job_calls.proofs.Follows.{Halts, AreCalm, halts_then, calm_halts, calm_none, off_drive, looks_answered}
use Rattle.job_calls.proofs.Opening.{LostOff, sights_halt, failed_halt, mute_drive}
use Rattle.job_calls.proofs.Told.{Tells, tells_went, tells_such, tells_then}

-- ---- what it calls

-- the calls of an opening behind its card: the looks at its drives, the moment of its plan, and what ended them
pub record LookCalls (count : ℕ) (s : Scene) (came : Result Order FreshError) (L : List Event) : Type 0 where
  pub on : AllOn (OfDrives count) L
  pub reaches : (e : FreshError) → came ≡ Err e → Reaches count s e × Refuses s e
  pub calls : Then (SightsCalls 0 s.sights) (Then (AsksMoment s.plan) (EndsWith (length s.sights) came)) L

-- The calls of an opening to so many drives that answered this: the listing of the card, which failed; the listing of the card alone; or that, and the
-- calls behind it.
pub data OpeningCalls (count : ℕ) (came : Result Order FreshError) (L : List Event) : Type 0 where
  unlisted : came ≡ Err (Inventory SourceFailed) → MaySee (SourceList 0 None) L → OpeningCalls count came L
  listed : came ≢ Err NoDrive → MayList 0 L → OpeningCalls count came L
  looked : (s : Scene) → length s.sights ≤ count → Then (MayList 0) (LookCalls count s came) L → OpeningCalls count came L

looks_told : (count copies : ℕ) (a : Asked) (came : Result Order FreshError) (old new : World) → FreshLooks 0 count copies a came old new → Tells (OpeningCalls count came) old new
looks_told count copies a came old new l =
    let card : Tells (MayList 0) old l.listed = tells_such (λ L both. inr (l.card.0, both.1)) (tells_went l.card.1.called.went) in
    let behind : Tells (LookCalls count l.scene came) l.listed new =
    tells_such
    (λ L both. record {
      on = both.0;
      reaches = λ e is. subst (λ (c : Result Order FreshError). Answers 0 count copies None l.scene c) is l.answer;
      calls =
          subst (λ (first : ℕ). Then (SightsCalls first l.scene.sights) (Then (AsksMoment l.scene.plan) (EndsWith (length l.scene.sights) came)) L) l.from
          (subst (λ (last : ℕ). Then (SightsCalls l.scene.first l.scene.sights) (Then (AsksMoment l.scene.plan) (EndsWith last came)) L) (let from = l.from in omega (arith, from)) both.1);
    })
    (tells_went l.went) in
    tells_such (λ L t. looked l.scene l.few t) (tells_then card behind)

-- a card without an inventory
refused_told : (count : ℕ) (e : InventoryError) (old new : World) → CardGives 0 (Err e) old new → Tells (OpeningCalls count (Err (Inventory e))) old new
refused_told count SourceFailed old new c = tells_such (λ L both. unlisted refl both.1) (tells_went c.went)
refused_told count CardMemory old new c = tells_such (λ L both. listed (λ is. absurd (cc is)) both.1) (tells_went c.went)
refused_told count EmptyCard old new c = tells_such (λ L both. listed (λ is. absurd (cc is)) (inr (c.0, both.1))) (tells_went c.1.called.went)
refused_told count (TooManyFiles n) old new c = tells_such (λ L both. listed (λ is. absurd (cc is)) (inr (c.0, both.1))) (tells_went c.1.called.went)
refused_told count (BadPath index cause) old new c = tells_such (λ L both. listed (λ is. absurd (cc is)) (inr (c.0, both.1))) (tells_went c.1.called.went)
refused_told count (BadDate path) old new c = tells_such (λ L both. listed (λ is. absurd (cc is)) (inr (c.0, both.1))) (tells_went c.1.called.went)
refused_told count (TooManyBytes sum) old new c = tells_such (λ L both. listed (λ is. absurd (cc is)) (inr (c.0, both.1))) (tells_went c.1.called.went)
refused_told count (Control path) old new c = tells_such (λ L both. listed (λ is. absurd (cc is)) (inr (c.0, both.1))) (tells_went c.1.called.went)
refused_told count (TooBig path) old new c = tells_such (λ L both. listed (λ is. absurd (cc is)) (inr (c.0, both.1))) (tells_went c.1.called.went)
refused_told count (FilesClash first second) old new c = tells_such (λ L both. listed (λ is. absurd (cc is)) (inr (c.0, both.1))) (tells_went c.1.called.went)

pub opening_told : (count copies : ℕ) (a : Asked) (came : Result Order FreshError) (old new : World) → FreshOpens 0 count copies a came old new → Tells (OpeningCalls count came) old new
opening_told count copies a (Ok order) old new o = looks_told count copies a (Ok order) old new o
opening_told count copies a (Err (Inventory e)) old new o = refused_told count e old new o.1
opening_told count copies a (Err Memory) old new (inl c) = tells_such (λ L both. listed (λ is. absurd (cc is)) both.1) (tells_went c.went)
opening_told count copies a (Err Memory) old new (inr l) = looks_told count copies a (Err Memory) old new l
opening_told count copies a (Err (NotAJournal d at)) old new o = looks_told count copies a (Err (NotAJournal d at)) old new o
opening_told count copies a (Err (AlreadyBegun d)) old new o = looks_told count copies a (Err (AlreadyBegun d)) old new o
opening_told count copies a (Err NoDrive) old new o = looks_told count copies a (Err NoDrive) old new o
opening_told count copies a (Err (Clash list path)) old new o = looks_told count copies a (Err (Clash list path)) old new o
opening_told count copies a (Err (Occupied d path)) old new o = looks_told count copies a (Err (Occupied d path)) old new o
opening_told count copies a (Err OutFailed) old new o = looks_told count copies a (Err OutFailed) old new o

-- ---- the parts of it

-- the listing of a card that did not fail
list_halts : (end : JobEnd) (result : ℕ) (L more : List Event) → MayList 0 L → Halts end result L more
list_halts end result L more (inl none) = calm_none end result L more none
list_halts end result L more (inr (files, one)) = calm_halts end result L more (subst AreCalm (sym one) ((refl, λ is. absurd (cc is)), tt))

list_off : (k : ℕ) (L : List Event) → MayList 0 L → calls_on k L ≡ []
list_off k L (inl none) = ap (calls_on k) none
list_off k L (inr (files, one)) = ap (calls_on k) one

-- the moment of the plan
asks_halts : (end : JobEnd) (result : ℕ) (plan : Option PlanValue) (L more : List Event) → AsksMoment plan L → Halts end result L more
asks_halts end result None L more none = calm_none end result L more none
asks_halts end result (Some p) L more one = calm_halts end result L more (subst AreCalm (sym one) ((refl, λ is. absurd (cc is)), tt))

asks_off : (k : ℕ) (plan : Option PlanValue) (L : List Event) → AsksMoment plan L → calls_on k L ≡ []
asks_off k None L none = ap (calls_on k) none
asks_off k (Some p) L one = ap (calls_on k) one

-- the listing of a card that failed
unlisted_halts : (end : JobEnd) (result : ℕ) (L more : List Event) → MaySee (SourceList 0 None) L → end ≡ CardFailed → EndCalls (last_of end) result more → Halts end result L more
unlisted_halts end result L more (inl none) is calls = calm_none end result L more none
unlisted_halts end result L more (inr one) is calls = record {
  failed = λ front back e at bad.
      let last = only_one (SourceList 0 None) e front back (sym one ∙ at) in
      subst (λ (x : Device). MayFollow end result x (back ++ more)) (sym (ap device_of last.0))
      (subst (λ (l : List Event). MayFollow end result (device_of (SourceList 0 None)) (l ++ more)) (sym last.1) (is, calls));
  dropped = λ front back d small line ok at begins. let last = only_one (SourceList 0 None) (Say line ok) front back (sym one ∙ at) in absurd (cc last.0);
}

-- ---- how looks end

-- they ended with a look at drive d, of which no call failed
quiet_halts : (end : JobEnd) (result : ℕ) (d : ℕ) (L more : List Event) → HaltCalls d None L → Halts end result L more
quiet_halts end result d L more h =
    let none : L ≡ h.stops.looks = h.stops.is ∙ ap (λ (l : List Event). h.stops.looks ++ l) h.stops.failed ∙ append-nil h.stops.looks in
    record {
      failed = λ front back e at bad. absurd (looks_answered h.stops.looks h.stops.answered front back e (sym none ∙ at) bad);
      dropped = λ front back k small line ok at begins. absurd (mute_drive d L h.on front back line ok at);
    }

-- The look at drive d failed, and its line was not said.
module _ (end : JobEnd) (result : ℕ) (d : ℕ) (L more : List Event) (t : Then (HaltCalls d (Some (Drive d))) (MaySee (Say (dropped_fault_text d) false)) L) (none : more ≡ []) (status : result ≡ 5) where
  abbrev line_of_it : Event
  line_of_it = Say (dropped_fault_text d) false

  look_failed : (second : List Event) → MaySee line_of_it second → (e : Event) → device_of e ≡ Drive d → MayFollow end result (device_of e) second
  look_failed second (inl nothing) e on =
      subst (λ (x : Device). MayFollow end result x second) (sym on) (subst (MayFollow end result (Drive d)) (sym nothing) (status, refl))
  look_failed second (inr one) e on =
      subst (λ (x : Device). MayFollow end result x second) (sym on) (subst (MayFollow end result (Drive d)) (sym one) ((false, refl), refl))

  line_failed : (second : List Event) → MaySee line_of_it second → (front back : List Event) (e : Event) → second ≡ front ++ e ∷ back → MayFollow end result (device_of e) back
  line_failed second (inl nothing) front back e at = absurd (none_there front back e (sym nothing ∙ at))
  line_failed second (inr one) front back e at =
      let last = only_one line_of_it e front back (sym one ∙ at) in
      subst (λ (x : Device). MayFollow end result x back) (sym (ap device_of last.0)) (last.1, status)

  just : (back : List Event) → back ≡ back ++ more
  just back = sym (ap (λ (l : List Event). back ++ l) none ∙ append-nil back)

  behind : (front back : List Event) (e : Event) → L ≡ front ++ e ∷ back → has_failed e ≡ true → MayFollow end result (device_of e) (back ++ more)
  behind front back e at bad = subst (MayFollow end result (device_of e)) (just back) (elim (split_at t.first t.second front back e (sym t.is ∙ at)) [
    | inl found ↦
        let halt = failed_halt d (Some (Drive d)) t.first t.here front found.0 e found.1 bad in
        subst (MayFollow end result (device_of e)) (sym (found.2 ∙ ap (λ (l : List Event). l ++ t.second) halt.1)) (look_failed t.second t.there e halt.0)
    | inr found ↦ line_failed t.second t.there found.0 back e found.2
  ])

  off_line : (second : List Event) → MaySee line_of_it second → (front back : List Event) (k : ℕ) (line : List ℕ) (ok : Bool) → second ≡ front ++ Say line ok ∷ back → calls_on k back ≡ []
  off_line second (inl nothing) front back k line ok at = absurd (none_there front back (Say line ok) (sym nothing ∙ at))
  off_line second (inr one) front back k line ok at = ap (calls_on k) (only_one line_of_it (Say line ok) front back (sym one ∙ at)).1

  off : (front back : List Event) (k : ℕ) → k < 8 → (line : List ℕ) (ok : Bool) → L ≡ front ++ Say line ok ∷ back → begins_with (codes "dropped") k line ≡ true → calls_on k (back ++ more) ≡ []
  off front back k small line ok at begins = ap (calls_on k) (sym (just back)) ∙ elim (split_at t.first t.second front back (Say line ok) (sym t.is ∙ at)) [
    | inl found ↦ absurd (mute_drive d t.first t.here.on front found.0 line ok found.1)
    | inr found ↦ off_line t.second t.there found.0 back k line ok found.2
  ]

  unsaid_halts : Halts end result L more
  unsaid_halts = record { failed = behind; dropped = off }

-- what ended the looks, where the run ends by a line that was not said
ending_halts : (end : JobEnd) (result : ℕ) (d : ℕ) (e : FreshError) (L more : List Event) → EndingCalls d e L → (e ≡ OutFailed → (more ≡ []) × (result ≡ 5)) → Halts end result L more
ending_halts end result d OutFailed L more calls unsaid = unsaid_halts end result d L more calls (unsaid refl).0 (unsaid refl).1
ending_halts end result d Memory L more calls unsaid = quiet_halts end result d L more calls
ending_halts end result d (Inventory e) L more calls unsaid = calm_none end result L more calls
ending_halts end result d (NotAJournal drive at) L more calls unsaid = calm_none end result L more calls
ending_halts end result d (AlreadyBegun drive) L more calls unsaid = calm_none end result L more calls
ending_halts end result d NoDrive L more calls unsaid = calm_none end result L more calls
ending_halts end result d (Clash list path) L more calls unsaid = calm_none end result L more calls
ending_halts end result d (Occupied drive path) L more calls unsaid = calm_none end result L more calls

ending_off : (k d : ℕ) → (k ≡ d → ⊥) → (e : FreshError) (L : List Event) → EndingCalls d e L → calls_on k L ≡ []
ending_off k d apart OutFailed L t =
    let halt : calls_on k t.first ≡ [] = off_drive k d apart t.first t.here.on in
    let line : calls_on k t.second ≡ [] = by t.second t.there in
    ap (calls_on k) t.is ∙ calls_on-append k t.first t.second ∙ (λ i. halt i ++ line i)
  where
    by : (second : List Event) → MaySee (Say (dropped_fault_text d) false) second → calls_on k second ≡ []
    by second (inl none) = ap (calls_on k) none
    by second (inr one) = ap (calls_on k) one
ending_off k d apart Memory L h = off_drive k d apart L h.on
ending_off k d apart (Inventory e) L none = ap (calls_on k) none
ending_off k d apart (NotAJournal drive at) L none = ap (calls_on k) none
ending_off k d apart (AlreadyBegun drive) L none = ap (calls_on k) none
ending_off k d apart NoDrive L none = ap (calls_on k) none
ending_off k d apart (Clash list path) L none = ap (calls_on k) none
ending_off k d apart (Occupied drive path) L none = ap (calls_on k) none

ends_halt : (end : JobEnd) (result : ℕ) (d : ℕ) (came : Result Order FreshError) (L more : List Event) → EndsWith d came L → (came ≡ Err OutFailed → (more ≡ []) × (result ≡ 5)) → Halts end result L more
ends_halt end result d (Ok order) L more none unsaid = calm_none end result L more none
ends_halt end result d (Err e) L more calls unsaid = ending_halts end result d e L more calls (λ is. unsaid (ap Err is))

ends_off : (k d : ℕ) → (k ≡ d → ⊥) → (came : Result Order FreshError) (L : List Event) → EndsWith d came L → calls_on k L ≡ []
ends_off k d apart (Ok order) L none = ap (calls_on k) none
ends_off k d apart (Err e) L calls = ending_off k d apart e L calls

-- ---- the whole

-- what has to follow an opening that answered this: nothing, where a line was not said; the last lines of a run whose card failed, where that failed; and no call on a
-- drive that was dropped
pub record GoesOn (end : JobEnd) (result count : ℕ) (came : Result Order FreshError) (L more : List Event) : Type 0 where
  pub unsaid : came ≡ Err OutFailed → (more ≡ []) × (result ≡ 5)
  pub card : came ≡ Err (Inventory SourceFailed) → (end ≡ CardFailed) × EndCalls (last_of end) result more
  pub off : LostOff count L more

module _ (end : JobEnd) (result count : ℕ) (few : count ≤ 8) (came : Result Order FreshError) (L more : List Event) (goes : GoesOn end result count came L more) where
  module _ (s : Scene) (low : length s.sights ≤ count) (t : Then (MayList 0) (LookCalls count s came) L) where
    abbrev behind_card : Then (SightsCalls 0 s.sights) (Then (AsksMoment s.plan) (EndsWith (length s.sights) came)) t.second
    behind_card = t.there.calls

    abbrev looks : List Event
    looks = behind_card.first

    abbrev asks : List Event
    asks = behind_card.there.first

    abbrev ends : List Event
    ends = behind_card.there.second

    -- all calls, grouped
    grouped : L ≡ t.first ++ (looks ++ (asks ++ ends))
    grouped = t.is ∙ ap (λ (l : List Event). t.first ++ l) (behind_card.is ∙ ap (λ (l : List Event). looks ++ l) behind_card.there.is)

    deeper : (front back : List Event) (e : Event) → looks ≡ front ++ e ∷ back → L ≡ (t.first ++ front) ++ e ∷ (back ++ (asks ++ ends))
    deeper front back e at =
        grouped
        ∙ ap (λ (l : List Event). t.first ++ (l ++ (asks ++ ends))) at
        ∙ ap (λ (l : List Event). t.first ++ l) (append_assoc front (e ∷ back) (asks ++ ends))
        ∙ sym (append_assoc t.first front (e ∷ (back ++ (asks ++ ends))))

    looks_off : LostOff (length s.sights) looks ((asks ++ ends) ++ more)
    looks_off k small front back at =
        let one : calls_on k asks ≡ [] = asks_off k s.plan asks behind_card.there.here in
        let two : calls_on k ends ≡ [] = ends_off k (length s.sights) (λ is. omega (arith, is, small)) came ends behind_card.there.there in
        let three : calls_on k more ≡ [] = goes.off k (omega (arith, small, low)) (t.first ++ front) (back ++ (asks ++ ends)) (deeper front back (Say (dropped_fault_text k) true) at) in
        calls_on-append k (asks ++ ends) more ∙ (λ i. calls_on-append k asks ends i ++ three i) ∙ (λ i. (one i ++ two i) ++ [])

    looked_halt : Halts end result L more
    looked_halt =
        let ending : Halts end result ends more = ends_halt end result (length s.sights) came ends more behind_card.there.there goes.unsaid in
        let asking : Halts end result asks (ends ++ more) = asks_halts end result s.plan asks (ends ++ more) behind_card.there.here in
        let looking : Halts end result looks ((asks ++ ends) ++ more) = sights_halt end result s.sights (omega (arith, low, few)) looks ((asks ++ ends) ++ more) behind_card.here looks_off in
        let listing : Halts end result t.first ((looks ++ (asks ++ ends)) ++ more) = list_halts end result t.first ((looks ++ (asks ++ ends)) ++ more) t.here in
        subst (λ (l : List Event). Halts end result l more) (sym grouped)
        (halts_then end result t.first (looks ++ (asks ++ ends)) more listing
        (halts_then end result looks (asks ++ ends) more looking
        (halts_then end result asks ends more asking ending)))

  pub opening_halts : OpeningCalls count came L → Halts end result L more
  opening_halts (unlisted is calls) = unlisted_halts end result L more calls (goes.card is).0 (goes.card is).1
  opening_halts (listed other calls) = list_halts end result L more calls
  opening_halts (looked s low t) = looked_halt s low t
