-- Lines that were said, and drives that were called sealed.
use Rattle.std.proofs.Common.{◌≡◌, ◌≢◌, ◌⊎◌, inl, inr, ℕ, zero, suc, ◌≤◌, max, Bool, List, [], ◌∷◌, ◌++◌, length, refl, sym, ◌∙◌, subst, arith}
use Rattle.std.proofs.lemmas.List.Elements.{Contains-append_left}
use Rattle.std.proofs.lemmas.Bool.{cases_eq}
use Rattle.std.specs.Prelude.{nat_eq}
use Rattle.std.specs.Cmp.{both_ways, nat_eq_equiv}
use Rattle.std.specs.Set.{is_member}
use Rattle.std.proofs.lemmas.Bool.Decides.{Decides-eqb}
use Rattle.std.proofs.lemmas.Map.Made.{length-from_same_keys, is_member-Decides}
use Rattle.bay_core.specs.declared.event.Event.{Event}
use Rattle.bay_core.specs.declared.event.Event.TheVariants.{Say}
use Rattle.bay_core.specs.Map.{Map, Dates}
use Rattle.bay_core.specs.Left.{Left}
use Rattle.crash_law.specs.Protocol.{Protocol, State, IsIn, told_after, Announced}
use Rattle.copy_plan.specs.Plan.{IsPlan}
use Rattle.offload_law.specs.Clear.{IsSaid, IsTold, IsCalledSealed, AreCalledSealed}
use Rattle.report_text.specs.Run.{sealed_text}
use Rattle.offload_law.specs.Lines.{Announces, announces}
use Rattle.offload_law.specs.Stages.{Offload, Stage, IsAt, IsAfter, IsAfterOn, IsOfCard, all_steps, progress}
use Rattle.offload_law.specs.Steps.{offload}
use Rattle.offload_law.proofs.Counted.{one_file_each}
use Rattle.offload_law.proofs.Runs.{told_more, after_on}
use Rattle.offload_law.proofs.Said.{sealed_announces}
use Rattle.offload_law.proofs.Safe.{AllSafe, sealed_for_good}

-- a line that was said announces its steps
said_announces : (P : Protocol) (line : List ℕ) (L : List Event) (told : ℕ) → IsSaid L line → P.announces line ≤ Announced P told L
said_announces P line [] told (ok, (k, inside, is)) = absurd (omega (arith, inside))
said_announces P line (e ∷ L) told (ok, (zero, inside, is)) =
    let here : P.announces line ≤ told_after P e told = subst (λ (f : Event). P.announces line ≤ told_after P f told) (sym is) (omega arith) in
    omega (arith, here, told_more P L (told_after P e told))
said_announces P line (e ∷ L) told (ok, (suc k, inside, is)) = said_announces P line L (told_after P e told) (ok, (k, omega arith, is))

-- a call raises the announced steps only where it is a line that announces them
told_by : (P : Protocol) (e : Event) (told : ℕ) → (told_after P e told ≡ told) ⊎ ((line : List ℕ) × (ok : Bool) × (e ≡ Say line ok) × (told_after P e told ≡ P.announces line))
told_by P (Say line ok) told = elim (cases_eq (max told (P.announces line)) told) [ inl same ↦ inl same | inr more ↦ inr (line, ok, refl, omega arith) ]
told_by P _ told = inl refl

said_here : (line : List ℕ) (e : Event) (L : List Event) (ok : Bool) → e ≡ Say line ok → IsSaid (e ∷ L) line
said_here line e L ok is = (ok, (0, omega arith, is))

said_later : (line : List ℕ) (e : Event) (L : List Event) → IsSaid L line → IsSaid (e ∷ L) line
said_later line e L (ok, (k, inside, is)) = (ok, (suc k, omega arith, is))

-- the announced steps are those that were told before, or those of a line
announced_by : (P : Protocol) (L : List Event) (told : ℕ) → (Announced P told L ≡ told) ⊎ ((line : List ℕ) × IsSaid L line × (Announced P told L ≡ P.announces line))
announced_by P [] told = inl refl
announced_by P (e ∷ L) told = elim (announced_by P L (told_after P e told)) [
  | inr later ↦ inr (later.0, said_later later.0 e L later.1, later.2)
  | inl none ↦ elim (told_by P e told) [
    | inl same ↦ inl (none ∙ same)
    | inr here ↦ inr (here.0, said_here here.0 e L here.1 here.2, none ∙ here.3)
  ]
]

-- where the number of steps of a line is the one that it announces
module _ (o : Offload) (start : Map) (d told : ℕ) (L : List Event) (each : (line : List ℕ) (steps : ℕ) → Announces d (length o.plan.files) line steps → announces d (length o.plan.files) line ≡ steps)
    (only : (line : List ℕ) → announces d (length o.plan.files) line ≢ 0 → Announces d (length o.plan.files) line (announces d (length o.plan.files) line)) where
  pub told_least : (steps : ℕ) → IsTold d (length o.plan.files) L steps → steps ≤ Announced (offload d o start) told L
  told_least steps (line, said, says) =
      let is = each line steps says in
      let least = said_announces (offload d o start) line L told said in
      omega (arith, is, least)

  pub told_one : (Announced (offload d o start) told L ≡ told) ⊎ IsTold d (length o.plan.files) L (Announced (offload d o start) told L)
  told_one = elim (announced_by (offload d o start) L told) [
    | inl same ↦ inl same
    | inr some ↦ elim (cases_eq (announces d (length o.plan.files) some.0) 0) [
      | inl none ↦ let least = told_more (offload d o start) L told in inl (omega (arith, some.2, none, least))
      | inr says ↦ inr (subst (IsTold d (length o.plan.files) L) (sym some.2) (some.0, some.1, only some.0 says))
    ]
  ]

-- a drive that was called sealed has all its steps, wherever the run stops from then on
pub called_sealed : AllSafe → (o : Offload) → IsPlan o.plan → (start : Map) (s : Stage) → IsAt o start s →
    (d : ℕ) (before since more : List Event) (end : State (offload d o start)) → IsIn (offload d o start) d start s ((before ++ since) ++ more) end →
    IsCalledSealed d before → (I : Map) → Left start (before ++ since) d I → IsAfter o I (suc (suc (length o.plan.files)))
called_sealed safe o plan start s at d before since more end is_in (m, list, short, (ok, said)) I left_I =
    let line = sealed_text d m list in
    let still : IsSaid (before ++ since) line = (ok, Contains-append_left before since (Say line ok) said) in
    let all = said_announces (offload d o start) line (before ++ since) (progress o.plan s) still in
    let steps = sealed_announces d (length o.plan.files) line m list short refl in
    sealed_for_good safe o plan start s at d (before ++ since) more end is_in (omega (arith, all, steps)) I left_I

pub all_on_card : (o : Offload) → IsPlan o.plan → (dates : Dates) → IsOfCard o.card dates o.plan → (I : Map) → IsAfter o I (suc (suc (length o.plan.files))) → IsAfterOn o.card dates I (all_steps o.card)
all_on_card o plan dates of I after =
    subst (λ (n : ℕ). IsAfterOn o.card dates I (suc (suc n))) (one_file_each o.card dates o.plan plan of) (after_on o.card dates o.plan of plan I (suc (suc (length o.plan.files))) after)

-- two lists of the drives that were called sealed have one length
pub one_count : (drives others : List ℕ) (L : List Event) → AreCalledSealed drives L → AreCalledSealed others L → length drives ≡ length others
one_count drives others L are too =
    length-from_same_keys nat_eq_equiv drives others are.once too.once
    (λ q.
    let here = is_member-Decides Decides-eqb drives q in
    let there = is_member-Decides Decides-eqb others q in
    both_ways (is_member nat_eq drives q) (is_member nat_eq others q) (λ t. there.1 ((too.each q).1 ((are.each q).0 (here.0 t)))) (λ t. here.1 ((are.each q).1 ((too.each q).0 (there.0 t)))))
