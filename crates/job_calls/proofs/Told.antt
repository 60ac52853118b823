-- The calls of a run, cut where one part of it ends and the next begins.
use Rattle.std.proofs.Common.{◌≡◌, List, [], ◌++◌, refl, sym, ap, ◌∙◌, subst, append_assoc, append-nil}
use Rattle.std.specs.Prelude.{Some}
use Rattle.std.proofs.lemmas.List.{append_cancel_left}
use Rattle.bay_core.specs.declared.event.Event.{Event}
use Rattle.bay_core.specs.Replay.{Device}
use Rattle.bay_core.specs.Went.{AllOn, Made, Went, Then, NoCall}
use Rattle.bay_core.specs.World.{World}

-- these calls were told, and then such ones were made
pub record Since (P : List Event → Type 0) (old : World) (all : List Event) : Type 0 where
  pub before : List Event
  pub since : List Event
  pub was : old.events ≡ Some before
  pub is : all ≡ before ++ since
  pub such : P since

-- the calls of a part of a run are such, where they are told
pub record Tells (P : List Event → Type 0) (old new : World) : Type 0 where
  pub told : (all : List Event) → new.events ≡ Some all → Since P old all

pub tells_made : {On : Device → Type 0} {P : List Event → Type 0} {old new : World} → ((all : List Event) → new.events ≡ Some all → Made On P old.events all) → Tells (λ L. AllOn On L × P L) old new
tells_made told = record { told = λ all now. let m = told all now in record { before = m.before; since = m.since; was = m.was; is = m.is; such = (m.on, m.such) } }

pub tells_went : {On : Device → Type 0} {P : List Event → Type 0} {old new : World} → Went On P old new → Tells (λ L. AllOn On L × P L) old new
tells_went w = tells_made w.told

pub tells_such : {P Q : List Event → Type 0} {old new : World} → ((L : List Event) → P L → Q L) → Tells P old new → Tells Q old new
tells_such so t = record { told = λ all now. let s = t.told all now in record { before = s.before; since = s.since; was = s.was; is = s.is; such = so s.since s.such } }

pub tells_none : (w : World) → Tells NoCall w w
tells_none w = record { told = λ all now. record { before = all; since = []; was = now; is = sym (append-nil all); such = refl } }

pub tells_then : {P Q : List Event → Type 0} {old mid new : World} → Tells P old mid → Tells Q mid new → Tells (Then P Q) old new
tells_then one two = record {
  told = λ all now.
      let s = two.told all now in
      let r = one.told s.before s.was in
      record {
        before = r.before;
        since = r.since ++ s.since;
        was = r.was;
        is = s.is ∙ ap (λ (l : List Event). l ++ s.since) r.is ∙ append_assoc r.before r.since s.since;
        such = record { first = r.since; second = s.since; is = refl; here = r.such; there = s.such };
      };
}

pub same_list : (A B : List Event) → Some A ≡ Some B → A ≡ B
same_list A B e = cc e

-- what is known of the calls behind those of before
pub since_then : {P : List Event → Type 0} {old new : World} → Tells P old new → (past since : List Event) → old.events ≡ Some past → new.events ≡ Some (past ++ since) → P since
since_then {P} t past since was now =
    let s = t.told (past ++ since) now in
    let start : s.before ≡ past = same_list s.before past (sym s.was ∙ was) in
    subst P (append_cancel_left past s.since since (sym (s.is ∙ ap (λ (l : List Event). l ++ s.since) start))) s.such

-- both are known of the calls of a part
pub tells_both : {P Q : List Event → Type 0} {old new : World} → Tells P old new → Tells Q old new → Tells (λ L. P L × Q L) old new
tells_both one two = record {
  told = λ all now.
      let s = one.told all now in
      record { before = s.before; since = s.since; was = s.was; is = s.is; such = (s.such, since_then two s.before s.since s.was (now ∙ ap Some s.is)) };
}

-- The calls since some moment, cut where one part of a run ends and the next begins.
pub record Cut (P Q : List Event → Type 0) (mid : World) (past all : List Event) : Type 0 where
  pub first : List Event
  pub second : List Event
  pub is : all ≡ first ++ second
  pub here : P first
  pub there : Q second
  pub at : mid.events ≡ Some (past ++ first)

pub cut : {P Q : List Event → Type 0} {old mid new : World} → Tells P old mid → Tells Q mid new → (past all : List Event) → old.events ≡ Some past → new.events ≡ Some (past ++ all) → Cut P Q mid past all
cut one two past all was now =
    let s = two.told (past ++ all) now in
    let r = one.told s.before s.was in
    let start : r.before ≡ past = same_list r.before past (sym r.was ∙ was) in
    let before_is : s.before ≡ past ++ r.since = r.is ∙ ap (λ (l : List Event). l ++ r.since) start in
    record {
      first = r.since;
      second = s.since;
      is = append_cancel_left past all (r.since ++ s.since) (s.is ∙ ap (λ (l : List Event). l ++ s.since) before_is ∙ append_assoc past r.since s.since);
      here = r.such;
      there = s.such;
      at = s.was ∙ ap Some before_is;
    }

-- ---- calls that were told, with their first ones by what they are

pub first_is : (all B C rest : List Event) → all ≡ B ++ rest → B ≡ C → all ≡ C ++ rest
first_is all B C rest is same = is ∙ ap (λ (l : List Event). l ++ rest) same

pub told_first : (w : World) (past B C : List Event) → w.events ≡ Some (past ++ B) → B ≡ C → w.events ≡ Some (past ++ C)
told_first w past B C now same = now ∙ ap (λ (l : List Event). Some (past ++ l)) same

pub told_behind : (w : World) (past all C rest : List Event) → w.events ≡ Some (past ++ all) → all ≡ C ++ rest → w.events ≡ Some ((past ++ C) ++ rest)
told_behind w past all C rest now is = now ∙ ap (λ (l : List Event). Some (past ++ l)) is ∙ ap Some (sym (append_assoc past C rest))

pub next_is : (all A rest B more : List Event) → all ≡ A ++ rest → rest ≡ B ++ more → all ≡ A ++ (B ++ more)
next_is all A rest B more is then_is = is ∙ ap (λ (l : List Event). A ++ l) then_is
