-- Why counts of faults rose.
use Rattle.std.proofs.Common.{◌≡◌, ◌⊎◌, inl, inr, ◌≤◌, ℕ, true, List, [], ◌∷◌, sym, ◌∙◌, ap, subst, arith}
use Rattle.bay_core.specs.World.{Rose}
use Rattle.bay_core.specs.declared.event.Event.{Event}
use Rattle.bay_core.specs.Replay.{Device, device_of}
use Rattle.bay_core.specs.Went.{Called}
use Rattle.bay_mem.specs.State.{State, Counts, AddsCard, AddsDrive, count, noted, hushed, world_of}
use Rattle.bay_mem.specs.Failing.{Failing, BayState, seeing, refusing, is_due, Excused, NoFault, Blamed, NotedOrHushed}
use Rattle.bay_mem.proofs.Worlds.{noted_as, hushed_as}
use Rattle.bay_mem.proofs.Attaching.{drive_counts, card_counts}

-- an excuse stands when more growths were refused
excused_later : (own : Type 0) (old mid new : Failing) → (is_due old ≡ true) ⊎ Rose old.refused mid.refused ⊎ own → mid.refused ≤ new.refused → Excused own old new
excused_later own old mid new (inl due) later = record { why = inl due }
excused_later own old mid new (inr (inl rose)) later = record { why = inr (inl (omega arith)) }
excused_later own old mid new (inr (inr so)) later = record { why = inr (inr so) }

-- the failed call is blamed on what excused its first part
pub blamed_later : (own : Type 0) (old mid new : BayState) (f : Failing) → f ≡ mid.failing → Excused own old.failing mid.failing → f.refused ≤ new.failing.refused → Blamed own old new
blamed_later own old mid new f is e later = record { why = inr (excused_later own old.failing f new.failing (subst (Excused own old.failing) (sym is) e).why later) }

-- no count rose
pub blameless : (own : Type 0) (old new : BayState) → new.seen.counts ≡ old.seen.counts → Blamed own old new
blameless own old new same = record { why = inl (λ x. ap (λ (c : Counts). count c x) same) }

pub blameless_drive : (own : Type 0) (place : List ℕ) (d : ℕ) (old new : BayState) → AddsDrive place d old.seen new.seen → Blamed own old new
blameless_drive own place d old new a = record { why = inl (λ x. ap (λ (s : State). count s.counts x) a.is ∙ drive_counts old.seen.counts x) }

pub blameless_card : (own : Type 0) (place : List ℕ) (n : ℕ) (old new : BayState) → AddsCard place n old.seen new.seen → Blamed own old new
blameless_card own place n old new a = record { why = inl (λ x. ap (λ (s : State). count s.counts x) a.is ∙ card_counts old.seen.counts x) }

called_by : (e : Event) (old new : BayState) (x : Device) (P : List Event → Type 0) → device_of e ≡ x → P (e ∷ []) → (new ≡ seeing old (noted old.seen e)) ⊎ (new ≡ refusing (seeing old (hushed old.seen)))
    → Called x P true (world_of old.seen) (world_of new.seen)
called_by e old new x P device such (inl is) = noted_as old.seen new.seen e x P (ap (λ (b : BayState). b.seen) is) device such
called_by e old new x P device such (inr is) = hushed_as old.seen new.seen x P (ap (λ (b : BayState). b.seen) is)

counts_by : (e : Event) (old new : BayState) → (new ≡ seeing old (noted old.seen e)) ⊎ (new ≡ refusing (seeing old (hushed old.seen))) → NoFault old new
counts_by e old new (inl is) x = ap (λ (b : BayState). count b.seen.counts x) is
counts_by e old new (inr is) x = ap (λ (b : BayState). count b.seen.counts x) is

-- a call of the clock or the picker, from a bay that is as it was before
pub clock_called : (e : Event) (old mid new : BayState) (x : Device) (P : List Event → Type 0) → mid ≡ old → device_of e ≡ x → P (e ∷ []) → NotedOrHushed e mid new → Called x P true (world_of old.seen) (world_of new.seen)
clock_called e old mid new x P same device such n = subst (λ (b : BayState). Called x P true (world_of b.seen) (world_of new.seen)) same (called_by e mid new x P device such n.so)

pub clock_blameless : (e : Event) (old mid new : BayState) → mid ≡ old → NotedOrHushed e mid new → NoFault old new
clock_blameless e old mid new same n x = counts_by e mid new n.so x ∙ ap (λ (b : BayState). count b.seen.counts x) same
