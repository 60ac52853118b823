-- How runs of calls join.
use Rattle.std.proofs.Common.{◌≡◌, ℕ, Bool, true, false, List, [], ◌∷◌, ◌++◌, map, refl, sym, ◌∙◌, ap, subst, inl, inr, append_assoc, append-nil, arith}
use Rattle.std.specs.Prelude.{Option, Some}
use Rattle.std.proofs.lemmas.List.{append_cancel_left}
use Rattle.bay_core.specs.declared.event.Event.{Event}
use Rattle.bay_core.specs.Replay.{Device, device_of}
use Rattle.bay_core.specs.World.{World, Rose}
use Rattle.bay_core.specs.Went.{AllOn, Made, Went, Ran, Then, NoCall}

-- the calls of two runs
pub AllOn-append : (On : Device → Type 0) (A B : List Event) → AllOn On A → AllOn On B → AllOn On (A ++ B)
unfolding AllOn
AllOn-append On [] B a b = b
AllOn-append On (e ∷ A) B a b = (a.0, AllOn-append On A B a.1 b)

-- no calls
pub none_on : (On : Device → Type 0) → AllOn On []
unfolding AllOn
none_on On = tt

pub all_on : {On More : Device → Type 0} → ((x : Device) → On x → More x) → (L : List Event) → AllOn On L → AllOn More L
unfolding AllOn
all_on so [] on = tt
all_on so (e ∷ L) on = (so (device_of e) on.0, all_on so L on.1)

pub made_then : {On : Device → Type 0} {P Q : List Event → Type 0} {old mid : Option (List Event)} {all : List Event}
    → ((some : List Event) → mid ≡ Some some → Made On P old some) → Made On Q mid all → Made On (Then P Q) old all
made_then {On} {P} {Q} {old} {mid} {all} one two =
    let m = one two.before two.was in
    record {
      before = m.before;
      since = m.since ++ two.since;
      was = m.was;
      is = two.is ∙ ap (λ (l : List Event). l ++ two.since) m.is ∙ append_assoc m.before m.since two.since;
      on = AllOn-append On m.since two.since m.on two.on;
      such = record { first = m.since; second = two.since; is = refl; here = m.such; there = two.such };
    }

-- one run and then another
pub went_then : {On : Device → Type 0} {P Q : List Event → Type 0} {old mid new : World} → Went On P old mid → Went On Q mid new → Went On (Then P Q) old new
went_then {On} {P} {Q} {old} {mid} {new} one two = record {
  told = λ all now. made_then one.told (two.told all now);
  later = λ x. omega (arith, one.later x, two.later x);
  others = λ x apart. two.others x apart ∙ one.others x apart;
  attached = two.attached ∙ one.attached;
}

-- what is said of the calls may say less
pub went_such : {On : Device → Type 0} {P Q : List Event → Type 0} {old new : World} → ((L : List Event) → P L → Q L) → Went On P old new → Went On Q old new
went_such {On} {P} {Q} {old} {new} so w = record {
  told = λ all now. let m = w.told all now in record { before = m.before; since = m.since; was = m.was; is = m.is; on = m.on; such = so m.since m.such };
  later = w.later;
  others = w.others;
  attached = w.attached;
}

-- nothing was called
pub went_none : (On : Device → Type 0) (w : World) → Went On NoCall w w
went_none On w = record {
  told = λ all now. record { before = all; since = []; was = now; is = sym (append-nil all); on = none_on On; such = refl };
  later = λ x. omega arith;
  others = λ x apart. refl;
  attached = refl;
}

-- more devices
pub went_on : {On More : Device → Type 0} {P : List Event → Type 0} {old new : World} → ((x : Device) → On x → More x) → Went On P old new → Went More P old new
went_on {On} {More} {P} {old} {new} so w = record {
  told = λ all now. let m = w.told all now in record { before = m.before; since = m.since; was = m.was; is = m.is; on = all_on so m.since m.on; such = m.such };
  later = w.later;
  others = λ x apart. w.others x (λ on. apart (so x on));
  attached = w.attached;
}

-- a count that rose stays risen
pub rose_still : {On : Device → Type 0} {P : List Event → Type 0} {mid new : World} (x : Device) (n : ℕ) → Went On P mid new → Rose n (mid.faults x) → Rose n (new.faults x)
rose_still x n w rose = let later = w.later x in omega (arith, later, rose)

-- and it rose since earlier
pub rose_since : {On : Device → Type 0} {P : List Event → Type 0} {old mid : World} (x : Device) (n : ℕ) → Went On P old mid → Rose (mid.faults x) n → Rose (old.faults x) n
rose_since x n w rose = let later = w.later x in omega (arith, later, rose)

-- one call
pub one_on : (On : Device → Type 0) (e : Event) → On (device_of e) → AllOn On (e ∷ [])
unfolding AllOn
one_on On e on = (on, tt)

-- one call that was answered
pub ran_one : (c : Bool → Event) → Ran (c ∷ []) true (c true ∷ [])
unfolding Ran
ran_one c = ([], refl, refl)

-- a first call that failed
pub ran_failed : (c : Bool → Event) (cs : List (Bool → Event)) → Ran (c ∷ cs) false (c false ∷ [])
unfolding Ran
ran_failed c cs = inr (inl refl)

-- a first call that failed unseen
pub ran_none : (c : Bool → Event) (cs : List (Bool → Event)) → Ran (c ∷ cs) false []
unfolding Ran
ran_none c cs = inl refl

pub AllOn-front : (On : Device → Type 0) (A B : List Event) → AllOn On (A ++ B) → AllOn On A
unfolding AllOn
AllOn-front On [] B on = tt
AllOn-front On (e ∷ A) B on = (on.0, AllOn-front On A B on.1)

same_rest : (A B C : List Event) → A ++ B ≡ A ++ C → B ≡ C
same_rest [] B C e = e
same_rest (x ∷ A) B C e = same_rest A B C (cc e)

same_list : (A B : List Event) → Some A ≡ Some B → A ≡ B
same_list A B e = cc e

-- a run that ended well made each of its calls
pub all_ran : (cs : List (Bool → Event)) (L : List Event) → Ran cs true L → L ≡ map (λ c. c true) cs
unfolding Ran
all_ran [] L ran = ran
all_ran (c ∷ cs) L (rest, is, more) = is ∙ ap (λ (l : List Event). c true ∷ l) (all_ran cs rest more)

-- what is known of the calls since, where both lists are told
pub record Since (On : Device → Type 0) (P : List Event → Type 0) (since : List Event) : Type 0 where
  pub on : AllOn On since
  pub such : P since

pub since_made : {On : Device → Type 0} {P : List Event → Type 0} {old new : World} → Went On P old new → (before since : List Event) → old.events ≡ Some before → new.events ≡ Some (before ++ since) → Since On P since
since_made {On} {P} {old} {new} w before since was now =
    let m = w.told (before ++ since) now in
    let start : m.before ≡ before = same_list _ _ (sym m.was ∙ was) in
    let rest : m.since ≡ since = same_rest before m.since since (sym (m.is ∙ ap (λ (l : List Event). l ++ m.since) start)) in
    record { on = subst (AllOn On) rest m.on; such = subst P rest m.such }

-- where the calls so far are told, those before it were
pub record Told (before all : List Event) (On : Device → Type 0) (P : List Event → Type 0) : Type 0 where
  pub since : List Event
  pub is : all ≡ before ++ since
  pub on : AllOn On since
  pub such : P since

pub told_since : {On : Device → Type 0} {P : List Event → Type 0} {old new : World} → Went On P old new → (before all : List Event) → old.events ≡ Some before → new.events ≡ Some all → Told before all On P
told_since {On} {P} {old} {new} w before all was now =
    let m = w.told all now in
    let start : m.before ≡ before = same_list _ _ (sym m.was ∙ was) in
    record { since = m.since; is = m.is ∙ ap (λ (l : List Event). l ++ m.since) start; on = m.on; such = m.such }

-- the same behind calls that were made before the run
pub told_behind : {On : Device → Type 0} {P : List Event → Type 0} {old new : World} → Went On P old new → (past before all : List Event) → old.events ≡ Some (past ++ before) → new.events ≡ Some (past ++ all) → Told before all On P
told_behind w past before all was now =
    let t = told_since w (past ++ before) (past ++ all) was now in
    record { since = t.since; is = append_cancel_left past all (before ++ t.since) (t.is ∙ append_assoc past before t.since); on = t.on; such = t.such }

-- a moment between two runs is behind those calls too
pub told_between : {On More : Device → Type 0} {P Q : List Event → Type 0} {old mid new : World} → Went On P old mid → Went More Q mid new →
    (past before all : List Event) → old.events ≡ Some (past ++ before) → new.events ≡ Some (past ++ all) → (some : List Event) × (mid.events ≡ Some (past ++ some))
told_between one two past before all was now =
    let m = two.told (past ++ all) now in
    let t = told_since one (past ++ before) m.before was m.was in
    (before ++ t.since, m.was ∙ ap Some (t.is ∙ append_assoc past before t.since))
