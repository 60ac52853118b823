-- What is so of each line among the calls of a run.
use Rattle.std.proofs.Common.{◌≡◌, inl, inr, ℕ, Bool, List, [], ◌∷◌, ◌++◌, sym, ap, ◌∙◌, subst, append-nil}
use Rattle.std.specs.Prelude.{Some}
use Rattle.bay_core.specs.declared.event.Event.{Event}
use Rattle.bay_core.specs.declared.event.Event.TheVariants.{Say}
use Rattle.bay_core.specs.World.{World}
use Rattle.run_state.specs.Acts.{Says}
use Rattle.run_state.specs.Runs.{Point, Beside, AreBeside, IsAboutNone}
use Rattle.run_state.specs.State.{Ordered}
use Rattle.run_ends.proofs.Later.{Later, Silent, joined_went, joined_silent, joined_same}
use Rattle.run_ends.proofs.Lines.{split_at, none_there, one_say, line_beside}

-- of each line, with the calls before it, its text and whether it was said
abbrev pub Each : (List Event → List ℕ → Bool → Type 0) → List Event → Type 0
Each Q L = (before after : List Event) (line : List ℕ) (ok : Bool) → L ≡ before ++ Say line ok ∷ after → Q before line ok

-- of each line since a world
abbrev pub EachSince : (List Event → List ℕ → Bool → Type 0) → World → World → Type 0
EachSince Q first w = (past L : List Event) → first.events ≡ Some past → w.events ≡ Some (past ++ L) → Each Q L

pub each_none : (Q : List Event → List ℕ → Bool → Type 0) → Each Q []
each_none Q before after line ok is = absurd (none_there before after (Say line ok) is)

each_more : (Q : List Event → List ℕ → Bool → Type 0) (A B : List Event) → Each Q A → ((front after : List Event) (line : List ℕ) (ok : Bool) → B ≡ front ++ Say line ok ∷ after → Q (A ++ front) line ok) → Each Q (A ++ B)
each_more Q A B old new before after line ok is = elim (split_at A B before after (Say line ok) is) [
  | inl found ↦ old before found.0 line ok found.1
  | inr found ↦ subst (λ (L : List Event). Q L line ok) (sym found.1) (new found.0 after line ok found.2)
]

-- where it is so of each line, so is what follows from it
pub each_such : (Q R : List Event → List ℕ → Bool → Type 0) (first w : World) → ((before : List Event) (line : List ℕ) (ok : Bool) → Q before line ok → R before line ok) → EachSince Q first w → EachSince R first w
each_such Q R first w so each past L start now before after line ok is = so before line ok (each past L start now before after line ok is)

pub since_none : (Q : List Event → List ℕ → Bool → Type 0) (w : World) → EachSince Q w w
since_none Q w past L start now = subst (Each Q) (sym (nothing past L (same_list (past ++ L) past (sym now ∙ start)))) (each_none Q)
  where
    same_list : (A B : List Event) → Some A ≡ Some B → A ≡ B
    same_list A B e = cc e

    nothing : (past L : List Event) → past ++ L ≡ past → L ≡ []
    nothing [] L is = is
    nothing (x ∷ past) L is = nothing past L (cc is)

-- after calls without a line
pub since_silent : (Q : List Event → List ℕ → Bool → Type 0) {first w new : World} → Later first w → Silent w new → EachSince Q first w → EachSince Q first new
since_silent Q later silent each past L start now =
    let j = joined_silent later silent past L start now in
    subst (Each Q) (sym j.is) (each_more Q j.front j.since (each past j.front start j.was) (λ front after line ok is. absurd (j.such front after line ok is)))

-- after a line of which it is so
pub since_said : (Q : List Event → List ℕ → Bool → Type 0) (line : List ℕ) (ok : Bool) {first w new : World} → Later first w → Says line ok w new → ((past L : List Event) → first.events ≡ Some past → w.events ≡ Some (past ++ L) → Q L line ok) → EachSince Q first w → EachSince Q first new
since_said Q line ok later says so each past L start now =
    let j = joined_went later says.went past L start now in
    let here = so past j.front start j.was in
    subst (Each Q) (sym j.is) (each_more Q j.front j.since (each past j.front start j.was) (λ front after text how is.
    let one = one_say line ok j.since j.such.1 front after text how is in
    let place : j.front ++ front ≡ j.front = ap (λ (K : List Event). j.front ++ K) one.0 ∙ append-nil j.front in
    subst (λ (K : List Event). Q K text how) (sym place) (subst (λ (t : List ℕ). Q j.front t how) (sym one.1) (subst (λ (b : Bool). Q j.front line b) (sym one.2) here))))

pub since_same : (Q : List Event → List ℕ → Bool → Type 0) (first : World) {w new : World} → new ≡ w → EachSince Q first w → EachSince Q first new
since_same Q first same each past L start now = each past L start (joined_same same past L now)

-- after what others did, of whose lines it is so
pub since_beside : (Q : List Event → List ℕ → Bool → Type 0) (o : Ordered) (first : World) (m c : Point) → Later first m.world → Beside o m c → ((before : List Event) (line : List ℕ) (ok : Bool) → IsAboutNone m.at.drives line → Q before line ok) → EachSince Q first m.world → EachSince Q first c.world
since_beside Q o first m c later t so each past L start now =
    let j = joined_went later t.went past L start now in
    subst (Each Q) (sym j.is) (each_more Q j.front j.since (each past j.front start j.was) (λ front after line ok is.
    so (j.front ++ front) line ok (line_beside o m.at.drives front after line ok (subst (AreBeside o m.at.drives) is j.such.1))))
