-- One world after another, and what is known of the calls between them.
use Rattle.std.proofs.Common.{◌≡◌, ℕ, ◌≤◌, List, [], ◌++◌, refl, sym, ap, ◌∙◌, subst, arith, append_assoc, append-nil}
use Rattle.std.specs.Prelude.{Some}
use Rattle.std.proofs.lemmas.List.{append_cancel_left}
use Rattle.bay_core.specs.declared.event.Event.{Event}
use Rattle.bay_core.specs.Map.{Map}
use Rattle.bay_core.specs.Replay.{Device, Output}
use Rattle.bay_core.specs.World.{World, Attached, Rose, Steady}
use Rattle.bay_core.specs.Went.{AllOn, Went}
use Rattle.run_ends.proofs.Lines.{NoLine, no_line, no_line_none, no_line_then}

-- one world after another: its calls are those of before and more, no count fell, and nothing was attached
pub record Later (old new : World) : Type 0 where
  pub told : (all : List Event) → new.events ≡ Some all → (before : List Event) × (since : List Event) × (old.events ≡ Some before) × (all ≡ before ++ since)
  pub faults : (x : Device) → old.faults x ≤ new.faults x
  pub attached : new.attached ≡ old.attached

pub later_went : {On : Device → Type 0} {P : List Event → Type 0} {old new : World} → Went On P old new → Later old new
later_went w = record {
  told = λ all now. let m = w.told all now in (m.before, m.since, m.was, m.is);
  faults = w.later;
  attached = w.attached;
}

pub later_none : (w : World) → Later w w
later_none w = record { told = λ all now. (all, [], now, sym (append-nil all)); faults = λ x. omega arith; attached = refl }

pub later_same : {old new : World} → new ≡ old → Later old new
later_same {old} {new} same = subst (λ (v : World). Later old v) (sym same) (later_none old)

pub later_then : {old mid new : World} → Later old mid → Later mid new → Later old new
later_then one two = record {
  told = λ all now.
      let b = two.told all now in
      let a = one.told b.0 b.2 in
      (a.0, a.1 ++ b.1, a.2, b.3 ∙ ap (λ (l : List Event). l ++ b.1) a.3 ∙ append_assoc a.0 a.1 b.1);
  faults = λ x. let p = one.faults x in let q = two.faults x in omega (arith, p, q);
  attached = two.attached ∙ one.attached;
}

-- a count that rose between two worlds rose around them
pub rose_around : {first old new last : World} (x : Device) → Later first old → Later new last → Rose (old.faults x) (new.faults x) → Rose (first.faults x) (last.faults x)
rose_around x one two rose = let p = one.faults x in let q = two.faults x in omega (arith, p, q, rose)

pub steady_later : {old new : World} (s : ℕ) (m : Map) → Later old new → Steady old s m → Steady new s m
steady_later s m l h = record { steady = ap (λ (a : Attached). a.steady s) l.attached ∙ h.steady; card = ap (λ (a : Attached). a.card s) l.attached ∙ h.card }

pub steady_back : {old new : World} (s : ℕ) (m : Map) → Later old new → Steady new s m → Steady old s m
steady_back s m l h = record { steady = ap (λ (a : Attached). a.steady s) (sym l.attached) ∙ h.steady; card = ap (λ (a : Attached). a.card s) (sym l.attached) ∙ h.card }

-- ---- calls behind others

same_list : (A B : List Event) → Some A ≡ Some B → A ≡ B
same_list A B e = cc e

-- the calls since the first world are those up to the second and then such ones
pub record Joined (old : World) (past : List Event) (P : List Event → Type 0) (L : List Event) : Type 0 where
  pub front : List Event
  pub since : List Event
  pub was : old.events ≡ Some (past ++ front)
  pub is : L ≡ front ++ since
  pub such : P since

-- behind those of before
joined : {first old : World} {P : List Event → Type 0} → Later first old → (past L before since : List Event) → first.events ≡ Some past → old.events ≡ Some before → past ++ L ≡ before ++ since → P since → Joined old past P L
joined {first} {old} {P} l past L before since start was is such =
    let a = l.told before was in
    let same : a.0 ≡ past = same_list a.0 past (sym a.2 ∙ start) in
    let whole : before ≡ past ++ a.1 = a.3 ∙ ap (λ (k : List Event). k ++ a.1) same in
    record {
      front = a.1;
      since = since;
      was = was ∙ ap Some whole;
      is = append_cancel_left past L (a.1 ++ since) (is ∙ ap (λ (k : List Event). k ++ since) whole ∙ append_assoc past a.1 since);
      such = such;
    }

pub joined_went : {first old new : World} {On : Device → Type 0} {P : List Event → Type 0} → Later first old → Went On P old new → (past L : List Event) → first.events ≡ Some past → new.events ≡ Some (past ++ L) → Joined old past (λ B. AllOn On B × P B) L
joined_went l w past L start now = let m = w.told (past ++ L) now in joined l past L m.before m.since start m.was m.is (m.on, m.such)

-- ---- calls without a line

-- calls among which there is no line
pub record Silent (old new : World) : Type 0 where
  pub told : (all : List Event) → new.events ≡ Some all → (before : List Event) × (since : List Event) × (old.events ≡ Some before) × (all ≡ before ++ since) × NoLine since
  pub later : Later old new

pub silent_went : {On : Device → Type 0} {P : List Event → Type 0} {old new : World} → Went On P old new → ((y : Device) → On y → y ≡ Output → ⊥) → Silent old new
silent_went {On} w off = record {
  told = λ all now. let m = w.told all now in (m.before, m.since, m.was, m.is, no_line On off m.since m.on);
  later = later_went w;
}

pub silent_none : (w : World) → Silent w w
silent_none w = record { told = λ all now. (all, [], now, sym (append-nil all), no_line_none); later = later_none w }

pub silent_same : {old new : World} → new ≡ old → Silent old new
silent_same {old} {new} same = subst (λ (v : World). Silent old v) (sym same) (silent_none old)

pub silent_then : {old mid new : World} → Silent old mid → Silent mid new → Silent old new
silent_then one two = record {
  told = λ all now.
      let b = two.told all now in
      let a = one.told b.0 b.2 in
      (a.0, a.1 ++ b.1, a.2, b.3 ∙ ap (λ (l : List Event). l ++ b.1) a.3 ∙ append_assoc a.0 a.1 b.1, no_line_then a.1 b.1 a.4 b.4);
  later = later_then one.later two.later;
}

pub joined_silent : {first old new : World} → Later first old → Silent old new → (past L : List Event) → first.events ≡ Some past → new.events ≡ Some (past ++ L) → Joined old past NoLine L
joined_silent l s past L start now = let m = s.told (past ++ L) now in joined l past L m.0 m.1 start m.2 m.3 m.4

-- no call
pub joined_same : {old new : World} → new ≡ old → (past L : List Event) → new.events ≡ Some (past ++ L) → old.events ≡ Some (past ++ L)
joined_same same past L now = ap (λ (w : World). w.events) (sym same) ∙ now
