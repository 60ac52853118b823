-- The calls from one moment to another.
use Rattle.std.proofs.Common.{◌≡◌, List, [], ◌++◌, sym, ap, ◌∙◌, subst, append_assoc, append-nil}
use Rattle.std.specs.Prelude.{Option, Some}
use Rattle.std.proofs.lemmas.List.{append_cancel_left}
use Rattle.bay_core.specs.declared.event.Event.{Event}
use Rattle.bay_core.specs.Replay.{Device}
use Rattle.bay_core.specs.World.{World}
use Rattle.bay_core.specs.Went.{AllOn, Went}

-- the calls so far are those of before and then such ones
pub record Behind (P : List Event → Type 0) (old : Option (List Event)) (all : List Event) : Type 0 where
  pub before : List Event
  pub since : List Event
  pub was : old ≡ Some before
  pub is : all ≡ before ++ since
  pub such : P since

-- such calls were made since
pub record Since (P : List Event → Type 0) (old new : World) : Type 0 where
  pub told : (all : List Event) → new.events ≡ Some all → Behind P old.events all

pub since_none : {P : List Event → Type 0} (w : World) → P [] → Since P w w
since_none w p = record { told = λ all now. record { before = all; since = []; was = now; is = sym (append-nil all); such = p } }

-- more calls
pub since_more : {On : Device → Type 0} {P Q R : List Event → Type 0} {a b c : World} → Since P a b → Went On Q b c → ((A B : List Event) → P A → AllOn On B → Q B → R (A ++ B)) → Since R a c
since_more {On} {P} {Q} {R} {a} {b} {c} far step so = record {
  told = λ all now.
      let m = step.told all now in
      let f = far.told m.before m.was in
      record {
        before = f.before;
        since = f.since ++ m.since;
        was = f.was;
        is = m.is ∙ ap (λ (l : List Event). l ++ m.since) f.is ∙ append_assoc f.before f.since m.since;
        such = so f.since m.since f.such m.on m.such;
      };
}

-- such calls, and then such
pub since_then : {P Q R : List Event → Type 0} {a b c : World} → Since P a b → Since Q b c → ((A B : List Event) → P A → Q B → R (A ++ B)) → Since R a c
since_then one two so = record {
  told = λ all now.
      let m = two.told all now in
      let f = one.told m.before m.was in
      record {
        before = f.before;
        since = f.since ++ m.since;
        was = f.was;
        is = m.is ∙ ap (λ (l : List Event). l ++ m.since) f.is ∙ append_assoc f.before f.since m.since;
        such = so f.since m.since f.such m.such;
      };
}

pub since_went : {On : Device → Type 0} {P : List Event → Type 0} {a b : World} → Went On P a b → Since P a b
since_went went = record { told = λ all now. let m = went.told all now in record { before = m.before; since = m.since; was = m.was; is = m.is; such = m.such } }

-- no more calls
pub since_same : {P : List Event → Type 0} {a b c : World} → c ≡ b → Since P a b → Since P a c
since_same {P} {a} is far = subst (λ (w : World). Since P a w) (sym is) far

pub since_such : {P Q : List Event → Type 0} {a b : World} → ((L : List Event) → P L → Q L) → Since P a b → Since Q a b
since_such so far = record { told = λ all now. let f = far.told all now in record { before = f.before; since = f.since; was = f.was; is = f.is; such = so f.since f.such } }

same_list : (A B : List Event) → Some A ≡ Some B → A ≡ B
same_list A B e = cc e

-- behind those of before the calls are such
pub since_at : {P : List Event → Type 0} {a b : World} → Since P a b → (past L : List Event) → a.events ≡ Some past → b.events ≡ Some (past ++ L) → P L
since_at {P} far past L was now =
    let f = far.told (past ++ L) now in
    let start : f.before ≡ past = same_list _ _ (sym f.was ∙ was) in
    let rest : f.since ≡ L = append_cancel_left past f.since L (sym (f.is ∙ ap (λ (l : List Event). l ++ f.since) start)) in
    subst P rest f.such

pub since_both : {P Q : List Event → Type 0} {a b : World} → Since P a b → Since Q a b → Since (λ L. P L × Q L) a b
since_both p q = record {
  told = λ all now.
      let f = p.told all now in
      record { before = f.before; since = f.since; was = f.was; is = f.is; such = (f.such, since_at q f.before f.since f.was (now ∙ ap Some f.is)) };
}

-- the calls up to a moment, and such ones behind it
pub record Split (P : List Event → Type 0) (past L : List Event) (mid : World) : Type 0 where
  pub first : List Event
  pub added : List Event
  pub was : mid.events ≡ Some (past ++ first)
  pub is : L ≡ first ++ added
  pub such : P added

pub split : {P Q : List Event → Type 0} {a mid b : World} → Since Q a mid → Since P mid b → (past L : List Event) → a.events ≡ Some past → b.events ≡ Some (past ++ L) → Split P past L mid
split one two past L was now =
    let m = two.told (past ++ L) now in
    let f = one.told m.before m.was in
    let start : f.before ≡ past = same_list _ _ (sym f.was ∙ was) in
    let before : m.before ≡ past ++ f.since = f.is ∙ ap (λ (l : List Event). l ++ f.since) start in
    record {
      first = f.since;
      added = m.since;
      was = m.was ∙ ap Some before;
      is = append_cancel_left past L (f.since ++ m.since) (m.is ∙ ap (λ (l : List Event). l ++ m.since) before ∙ append_assoc past f.since m.since);
      such = m.such;
    }
