-- Where the calls so far are told, those before were; and where one part of a run ends and the next begins among them.
use Rattle.std.proofs.Common.{◌≡◌, ◌≤◌, List, ◌++◌, refl, sym, ap, ◌∙◌, arith, append_assoc}
use Rattle.std.specs.Prelude.{Some}
use Rattle.std.proofs.lemmas.List.{append_cancel_left}
use Rattle.bay_core.specs.declared.event.Event.{Event}
use Rattle.bay_core.specs.Replay.{Device}
use Rattle.bay_core.specs.Went.{AllOn, Made, Went, Then}
use Rattle.bay_core.specs.World.{World, Rose}
use Rattle.run_reads.proofs.Since.{Since}

-- ---- the calls of a part of a run

pub since_made : {On : Device → Type 0} {P : List Event → Type 0} {old new : World} → ((all : List Event) → new.events ≡ Some all → Made On P old.events all) → Since (λ L. AllOn On L × P L) old new
since_made told = record { told = λ all now. let m = told all now in record { before = m.before; since = m.since; was = m.was; is = m.is; such = (m.on, m.such) } }

pub since_went : {On : Device → Type 0} {P : List Event → Type 0} {old new : World} → Went On P old new → Since (λ L. AllOn On L × P L) old new
since_went w = since_made w.told

pub since_then : {P Q : List Event → Type 0} {old mid new : World} → Since P old mid → Since Q mid new → Since (Then P Q) old new
since_then one two = record {
  told = λ all now.
      let s = two.told all now in
      let r = one.told s.before s.was in
      record {
        before = r.before;
        since = r.since ++ s.since;
        was = r.was;
        is = s.is ∙ ap (λ (l : List Event). l ++ s.since) r.is ∙ append_assoc r.before r.since s.since;
        such = record { first = r.since; second = s.since; is = refl; here = r.such; there = s.such };
      };
}

same_list : (A B : List Event) → Some A ≡ Some B → A ≡ B
same_list A B e = cc e

-- The calls since some moment, cut where one part of a run ends and the next begins.
pub record Cut (P Q : List Event → Type 0) (mid : World) (past all : List Event) : Type 0 where
  pub first : List Event
  pub second : List Event
  pub is : all ≡ first ++ second
  pub here : P first
  pub there : Q second
  pub at : mid.events ≡ Some (past ++ first)

pub cut : {P Q : List Event → Type 0} {old mid new : World} → Since P old mid → Since Q mid new → (past all : List Event) → old.events ≡ Some past → new.events ≡ Some (past ++ all) → Cut P Q mid past all
cut one two past all was now =
    let s = two.told (past ++ all) now in
    let r = one.told s.before s.was in
    let start : r.before ≡ past = same_list r.before past (sym r.was ∙ was) in
    let before_is : s.before ≡ past ++ r.since = r.is ∙ ap (λ (l : List Event). l ++ r.since) start in
    record {
      first = r.since;
      second = s.since;
      is = append_cancel_left past all (r.since ++ s.since) (s.is ∙ ap (λ (l : List Event). l ++ s.since) before_is ∙ append_assoc past r.since s.since);
      here = r.such;
      there = s.such;
      at = s.was ∙ ap Some before_is;
    }

-- ---- counts

-- no count fell
pub record Grows (old new : World) : Type 0 where
  pub each : (x : Device) → old.faults x ≤ new.faults x

pub grows_went : {On : Device → Type 0} {P : List Event → Type 0} {old new : World} → Went On P old new → Grows old new
grows_went w = record { each = w.later }

pub grows_none : (w : World) → Grows w w
grows_none w = record { each = λ x. omega arith }

pub grows_then : {old mid new : World} → Grows old mid → Grows mid new → Grows old new
grows_then one two = record { each = λ x. let p = one.each x in let q = two.each x in omega (arith, p, q) }

-- a count that rose in a part of a run rose in the run
pub rose_in : {first old new last : World} (x : Device) → Grows first old → Grows new last → Rose (old.faults x) (new.faults x) → Rose (first.faults x) (last.faults x)
rose_in x one two rose = let p = one.each x in let q = two.each x in omega (arith, p, q, rose)
