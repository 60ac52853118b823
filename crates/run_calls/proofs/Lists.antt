-- A call among calls, and the devices of calls.
use Rattle.std.proofs.Common.{◌≡◌, ◌≢◌, ◌⊎◌, inl, inr, ℕ, Bool, true, false, cond, List, [], ◌∷◌, ◌++◌, refl, sym, ap, ◌∙◌, subst, arith}
use Rattle.std.specs.Prelude.{nat_eq}
use Rattle.std.proofs.lemmas.Bool.{cases_Bool, false≢true}
use Rattle.std.proofs.lemmas.Bool.Decides.{nat_tests}
use Rattle.std.proofs.lemmas.List.{append_cancel_left}
use Rattle.bay_core.specs.declared.event.Event.{Event}
use Rattle.bay_core.specs.Looks.{has_failed}
use Rattle.bay_core.specs.Replay.{Device, Drive, Output, calls_on, device_of, is_on}
use Rattle.bay_core.specs.Went.{AllOn, Went}
use Rattle.bay_core.specs.World.{World}
use Rattle.bay_core.proofs.Runs.{told_since}
use Rattle.run_ends.proofs.Lines.{none_there}
use Rattle.run_calls.proofs.Failing.{NoneFails, LastFails}

-- ---- a call among calls

-- a call of two runs is in the first or the second
pub split_at : (A B before after : List Event) (e : Event) → A ++ B ≡ before ++ e ∷ after
    → ((rest : List Event) × (A ≡ before ++ e ∷ rest) × (after ≡ rest ++ B)) ⊎ ((first : List Event) × (before ≡ A ++ first) × (B ≡ first ++ e ∷ after))
split_at [] B before after e is = inr (before, refl, is)
split_at (x ∷ A) B [] after e is = let head : x ≡ e = cc is in let rest : A ++ B ≡ after = cc is in inl (A, ap (λ (y : Event). y ∷ A) head, sym rest)
split_at (x ∷ A) B (y ∷ before) after e is =
    let head : x ≡ y = cc is in
    let rest : A ++ B ≡ before ++ e ∷ after = cc is in
    elim (split_at A B before after e rest) [
      | inl found ↦ inl (found.0, ap (λ (z : Event). z ∷ A) head ∙ ap (λ (l : List Event). y ∷ l) found.1, found.2)
      | inr found ↦ inr (found.0, ap (λ (z : Event). z ∷ before) (sym head) ∙ ap (λ (l : List Event). x ∷ l) found.1, found.2)
    ]

-- the one call of a list
pub only_one : (x e : Event) (front back : List Event) → x ∷ [] ≡ front ++ e ∷ back → (e ≡ x) × (back ≡ [])
only_one x e [] back is = (cc is, cc is)
only_one x e (y ∷ front) back is = let rest : [] ≡ front ++ e ∷ back = cc is in absurd (none_there front back e rest)

-- none of such calls failed
pub none_failed : (L : List Event) → NoneFails L → (front back : List Event) (e : Event) → L ≡ front ++ e ∷ back → has_failed e ≡ true → ⊥
none_failed [] n front back e is bad = none_there front back e is
none_failed (x ∷ L) n [] back e is bad = let head : x ≡ e = cc is in false≢true (sym n.0.0 ∙ ap has_failed head ∙ bad)
none_failed (x ∷ L) n (y ∷ front) back e is bad = let rest : L ≡ front ++ e ∷ back = cc is in none_failed L n.1 front back e rest bad

-- one that failed is the last, and on this device
pub failed_last : (x : Device) (L : List Event) → LastFails x L → (front back : List Event) (e : Event) → L ≡ front ++ e ∷ back → has_failed e ≡ true → (device_of e ≡ x) × (back ≡ [])
failed_last x [] l front back e is bad = absurd (none_there front back e is)
failed_last x (h ∷ L) l [] back e is bad =
    let head : h ≡ e = cc is in
    let rest : L ≡ back = cc is in
    elim l.1 [
      | inl last ↦ (ap device_of (sym head) ∙ last.0, sym rest ∙ last.1)
      | inr more ↦ absurd (false≢true (sym more.0 ∙ ap has_failed head ∙ bad))
    ]
failed_last x (h ∷ L) l (y ∷ front) back e is bad =
    let rest : L ≡ front ++ e ∷ back = cc is in
    elim l.1 [
      | inl last ↦ absurd (none_there front back e (sym last.1 ∙ rest))
      | inr more ↦ failed_last x L more.1 front back e rest bad
    ]

-- ---- devices

-- any device but the output
abbrev pub IsMute : Device → Type 0
IsMute x = x ≢ Output

-- any device
abbrev pub IsAny : Device → Type 0
IsAny x = Unit {0}

any_on : (L : List Event) → AllOn IsAny L
unfolding AllOn
any_on [] = tt
any_on (e ∷ L) = (tt, any_on L)

-- the devices are told with the calls
pub with_on : {On : Device → Type 0} {P : List Event → Type 0} {old new : World} → Went On P old new → Went IsAny (λ L. AllOn On L × P L) old new
with_on {On} {P} {old} {new} w = record {
  told = λ all now. let m = w.told all now in record { before = m.before; since = m.since; was = m.was; is = m.is; on = any_on m.since; such = (m.on, m.such) };
  later = w.later;
  others = λ x apart. absurd (apart tt);
  attached = w.attached;
}

-- what is said of the same calls in two ways
pub went_both : {On More : Device → Type 0} {P Q : List Event → Type 0} {old new : World} → Went On P old new → Went More Q old new → Went On (λ L. P L × Q L) old new
went_both {On} {More} {P} {Q} {old} {new} one two = record {
  told = λ all now.
      let m = one.told all now in
      let t = told_since two m.before all m.was now in
      let same : m.since ≡ t.since = append_cancel_left m.before m.since t.since (sym m.is ∙ t.is) in
      record { before = m.before; since = m.since; was = m.was; is = m.is; on = m.on; such = (m.such, subst Q (sym same) t.such) };
  later = one.later;
  others = one.others;
  attached = one.attached;
}

pub on_at : (On : Device → Type 0) (front back : List Event) (e : Event) → AllOn On (front ++ e ∷ back) → On (device_of e)
unfolding AllOn
on_at On [] back e on = on.0
on_at On (x ∷ front) back e on = on_at On front back e on.1

pub on_behind : (On : Device → Type 0) (front back : List Event) (e : Event) → AllOn On (front ++ e ∷ back) → AllOn On back
unfolding AllOn
on_behind On [] back e on = on.1
on_behind On (x ∷ front) back e on = on_behind On front back e on.1

-- calls on other devices than drive d
pub calls_off : (d : ℕ) (On : Device → Type 0) → ((y : Device) → On y → is_on d y ≡ false) → (L : List Event) → AllOn On L → calls_on d L ≡ []
unfolding AllOn
calls_off d On off [] on = refl
calls_off d On off (e ∷ L) on = ap (λ (b : Bool). cond b (e ∷ calls_on d L) (calls_on d L)) (off (device_of e) on.0) ∙ calls_off d On off L on.1

same_number : (d e : ℕ) → nat_eq d e ≡ true → d ≡ e
same_number d e is = grind (arith, nat_tests)

-- a device that is drive d
pub is_drive : (d : ℕ) (y : Device) → is_on d y ≡ true → y ≡ Drive d
is_drive d (Drive e) on = ap Drive (sym (same_number d e on))
is_drive d y on = absurd (false≢true on)

-- devices of which drive d is none
pub apart_off : (d : ℕ) (On : Device → Type 0) → (On (Drive d) → ⊥) → (y : Device) → On y → is_on d y ≡ false
apart_off d On none y on = elim (cases_Bool (is_on d y)) [
  | inl is ↦ absurd (none (subst On (is_drive d y is) on))
  | inr not_so ↦ not_so
]
