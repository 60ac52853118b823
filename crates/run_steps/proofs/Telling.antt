-- What is known of the calls of a run, as worlds tell them.
use Rattle.std.proofs.Common.{◌≡◌, ℕ, List, [], ◌++◌, ap, ◌∙◌, refl, sym, subst, append_assoc, append-nil}
use Rattle.std.specs.Prelude.{Some}
use Rattle.std.proofs.lemmas.List.{append_cancel_left}
use Rattle.bay_core.specs.declared.event.Event.{Event}
use Rattle.bay_core.specs.Map.{Map}
use Rattle.bay_core.specs.Replay.{Device}
use Rattle.bay_core.specs.Went.{Went}
use Rattle.bay_core.specs.World.{World, Attached, Steady}
use Rattle.run_steps.specs.Stands.{Since}

-- one world after another: its calls are those of before and more, and nothing was attached
pub record Later (old new : World) : Type 0 where
  pub told : (all : List Event) → new.events ≡ Some all → (before : List Event) × (since : List Event) × (old.events ≡ Some before) × (all ≡ before ++ since)
  pub attached : new.attached ≡ old.attached

pub later_went : {On : Device → Type 0} {P : List Event → Type 0} {old new : World} → Went On P old new → Later old new
later_went w = record {
  told = λ all now. let m = w.told all now in (m.before, m.since, m.was, m.is);
  attached = w.attached;
}

pub later_none : (w : World) → Later w w
later_none w = record { told = λ all now. (all, [], now, sym (append-nil all)); attached = refl }

pub later_same : {old new : World} → new ≡ old → Later old new
later_same {old} {new} same = subst (λ (v : World). Later old v) (sym same) (later_none old)

pub later_then : {old mid new : World} → Later old mid → Later mid new → Later old new
later_then one two = record {
  told = λ all now.
      let b = two.told all now in
      let a = one.told b.0 b.2 in
      (a.0, a.1 ++ b.1, a.2, b.3 ∙ ap (λ (l : List Event). l ++ b.1) a.3 ∙ append_assoc a.0 a.1 b.1);
  attached = two.attached ∙ one.attached;
}

same_calls : (A B : List Event) → Some A ≡ Some B → A ≡ B
same_calls A B e = cc e

-- a moment between two worlds is behind the calls of before too
pub between : {old mid new : World} → Later old mid → Later mid new → (past before all : List Event) → old.events ≡ Some (past ++ before) → new.events ≡ Some (past ++ all) → (some : List Event) × (mid.events ≡ Some (past ++ some))
between one two past before all was now =
    let b = two.told (past ++ all) now in
    let a = one.told b.0 b.2 in
    let start : a.0 ≡ past ++ before = same_calls a.0 (past ++ before) (sym a.2 ∙ was) in
    (before ++ a.1, b.2 ∙ ap Some (a.3 ∙ ap (λ (l : List Event). l ++ a.1) start ∙ append_assoc past before a.1))

-- two lists of calls of one world, behind the same calls
pub one_list : (past A B : List Event) (w : World) → w.events ≡ Some (past ++ A) → w.events ≡ Some (past ++ B) → A ≡ B
one_list past A B w a b = append_cancel_left past A B (same_calls (past ++ A) (past ++ B) (sym a ∙ b))

-- calls more
pub since_later : {old new : World} → Later old new → (past : List Event) (P R : List Event → Type 0)
    → ((before all : List Event) → old.events ≡ Some (past ++ before) → new.events ≡ Some (past ++ all) → P before → R all) → Since past P old → Since past R new
since_later l past P R so h = record {
  calls = λ all now.
      let m = l.told all now in
      let b = h.calls m.0 m.2 in
      let is : all ≡ past ++ (b.0 ++ m.1) = m.3 ∙ ap (λ (k : List Event). k ++ m.1) b.1 ∙ append_assoc past b.0 m.1 in
      (b.0 ++ m.1, is, so b.0 (b.0 ++ m.1) (m.2 ∙ ap Some b.1) (now ∙ ap Some is) b.2);
}

-- more is known of the same calls
pub since_more : {w : World} (past : List Event) (P R : List Event → Type 0) → ((L : List Event) → w.events ≡ Some (past ++ L) → P L → R L) → Since past P w → Since past R w
since_more past P R so h = record { calls = λ all now. let b = h.calls all now in (b.0, b.1, so b.0 (now ∙ ap Some b.1) b.2) }

-- both are known of them
pub since_both : {w : World} (past : List Event) (P R S : List Event → Type 0) → ((L : List Event) → P L → R L → S L) → Since past P w → Since past R w → Since past S w
since_both {w} past P R S so one two = record {
  calls = λ all now.
      let a = one.calls all now in
      let b = two.calls all now in
      let same : b.0 ≡ a.0 = append_cancel_left past b.0 a.0 (sym b.1 ∙ a.1) in
      (a.0, a.1, so a.0 a.2 (subst R same b.2));
}

-- a steady card is so in another world
pub steady_later : {old new : World} (s : ℕ) (m : Map) → Later old new → Steady old s m → Steady new s m
steady_later s m l h = record { steady = ap (λ (a : Attached). a.steady s) l.attached ∙ h.steady; card = ap (λ (a : Attached). a.card s) l.attached ∙ h.card }

pub steady_back : {old new : World} (s : ℕ) (m : Map) → Later old new → Steady new s m → Steady old s m
steady_back s m l h = record { steady = ap (λ (a : Attached). a.steady s) (sym l.attached) ∙ h.steady; card = ap (λ (a : Attached). a.card s) (sym l.attached) ∙ h.card }
