-- The calls of looks at drives, and the lines among them.
use Rattle.std.proofs.Common.{◌≡◌, inl, inr, ℕ, zero, suc, ◌+◌, ◌<◌, ◌^◌, true, false, List, [], ◌∷◌, ◌++◌, refl, sym, ap, ◌∙◌, subst, arith, append_assoc}
use Rattle.std.specs.Prelude.{codes, decimal, Some, Result, Ok, Err}
use Rattle.std.specs.List.{slice_get}
use Rattle.std.proofs.lemmas.Bool.Decides.{Decides-eqb}
use Rattle.std.proofs.lemmas.Option.{slice_get_within}
use Rattle.std.proofs.lemmas.Slice.Eq.{starts_is}
use Rattle.bay_core.specs.declared.event.Event.{Event}
use Rattle.bay_core.specs.declared.event.Event.TheVariants.{Say}
use Rattle.bay_core.specs.Replay.{Drive}
use Rattle.bay_core.specs.Went.{AllOn, Only, MaySee}
use Rattle.bay_core.specs.World.{World, Rose}
use Rattle.bay_core.proofs.Runs.{AllOn-append, all_on, none_on, one_on}
use Rattle.drive_journal.specs.declared.order.Order.{Order}
use Rattle.fresh_opening.specs.declared.error.FreshError.{FreshError}
use Rattle.fresh_opening.specs.declared.error.FreshError.TheVariants.{Inventory, NotAJournal, AlreadyBegun, NoDrive, Clash, Occupied, OutFailed, Memory}
use Rattle.fresh_opening.specs.Looks.{EndCalls}
use Rattle.fresh_opening.specs.Openings.{EndsWith}
use Rattle.fresh_opening.specs.Sights.{Sight, Dropped, Found, SightCalls, SightsCalls}
use Rattle.last_lines.specs.Ends.{EndCalls as LastCalls}
use Rattle.report_text.specs.Losses.{dropped_fault_text}
use Rattle.run_ends.specs.Losses.{ByFault}
use Rattle.run_ends.proofs.Lines.{loss_of}
use Rattle.run_state.specs.Runs.{begins_with}
use Rattle.command_words.specs.Jobs.{Job}
use Rattle.job_story.specs.Ends.{JobEnd, last_of}
use Rattle.job_story.specs.Run.{Run, run_with}
use Rattle.job_calls.proofs.Opening.{found_at}
use Rattle.job_losses.proofs.Lines.{Lines, last_lines}
use Rattle.job_losses.proofs.Opened.{IsLooking}
use Rattle.job_refusals.specs.Mapped.{IsDroppedAloud}

-- ---- the devices

drive_looking : (d : ℕ) (L : List Event) → AllOn (Only (Drive d)) L → AllOn IsLooking L
drive_looking d L on = all_on (λ x is. subst IsLooking (sym is) tt) L on

sight_looking : (d : ℕ) (x : Sight) (L : List Event) → SightCalls d x L → AllOn IsLooking L
sight_looking d Dropped L t =
    subst (AllOn IsLooking) (sym t.is)
    (AllOn-append IsLooking t.first t.second (drive_looking d t.first t.here.on) (subst (AllOn IsLooking) (sym t.there) (one_on IsLooking (Say (dropped_fault_text d) true) tt)))
sight_looking d (Found size found) L t = drive_looking d L (found_at d size found L t).on

pub sights_looking : (xs : List Sight) (d : ℕ) (L : List Event) → SightsCalls d xs L → AllOn IsLooking L
unfolding SightsCalls
sights_looking [] d L is = subst (AllOn IsLooking) (sym is) (none_on IsLooking)
sights_looking (x ∷ xs) d L t = subst (AllOn IsLooking) (sym t.is) (AllOn-append IsLooking t.first t.second (sight_looking d x t.first t.here) (sights_looking xs (suc d) t.second t.there))

none_looking : (L : List Event) → L ≡ [] → AllOn IsLooking L
none_looking L is = subst (AllOn IsLooking) (sym is) (none_on IsLooking)

see_looking : (line : List ℕ) (L : List Event) → MaySee (Say line false) L → AllOn IsLooking L
see_looking line L (inl none) = none_looking L none
see_looking line L (inr one) = subst (AllOn IsLooking) (sym one) (one_on IsLooking (Say line false) tt)

end_looking : (d : ℕ) (e : FreshError) (L : List Event) → EndCalls d e L → AllOn IsLooking L
end_looking d OutFailed L t = subst (AllOn IsLooking) (sym t.is) (AllOn-append IsLooking t.first t.second (drive_looking d t.first t.here.on) (see_looking (dropped_fault_text d) t.second t.there))
end_looking d Memory L t = drive_looking d L t.on
end_looking d (Inventory e) L is = none_looking L is
end_looking d (NotAJournal drive at) L is = none_looking L is
end_looking d (AlreadyBegun drive) L is = none_looking L is
end_looking d NoDrive L is = none_looking L is
end_looking d (Clash list path) L is = none_looking L is
end_looking d (Occupied drive path) L is = none_looking L is

pub ends_looking : (d : ℕ) (came : Result Order FreshError) (L : List Event) → EndsWith d came L → AllOn IsLooking L
ends_looking d (Ok order) L is = none_looking L is
ends_looking d (Err e) L t = end_looking d e L t

-- ---- the lines

-- a drive that was dropped has its line among the looks
pub dropped_said : (xs : List Sight) (d : ℕ) (L : List Event) → SightsCalls d xs L → (k n : ℕ) → n ≡ d + k → slice_get xs k ≡ Some Dropped → IsDroppedAloud n L
unfolding SightsCalls
dropped_said [] d L t k n number at = let none : List Sight = [] in let within = slice_get_within none k Dropped at in absurd (omega (arith, within))
dropped_said (x ∷ xs) d L t zero n number at = (said.0, t.second, t.is ∙ ap (λ (l : List Event). l ++ t.second) said.1 ∙ append_assoc said.0 (Say (dropped_fault_text n) true ∷ []) t.second)
  where
    lost : x ≡ Dropped
    lost = cc at

    here : d ≡ n
    here = omega (arith, number)

    said : (front : List Event) × (t.first ≡ front ++ Say (dropped_fault_text n) true ∷ [])
    said =
        let s = subst (λ (y : Sight). SightCalls d y t.first) lost t.here in
        (s.first, s.is ∙ ap (λ (l : List Event). s.first ++ l) (s.there ∙ ap (λ (m : ℕ). Say (dropped_fault_text m) true ∷ []) here))
dropped_said (x ∷ xs) d L t (suc k) n number at =
    let s = dropped_said xs (suc d) t.second t.there k n (omega (arith, number)) at in
    (t.first ++ s.0, s.1, t.is ∙ ap (λ (l : List Event). t.first ++ l) s.2 ∙ sym (append_assoc t.first s.0 (Say (dropped_fault_text n) true ∷ s.1)))

-- a line of a fault begins with the number of its drive
fault_begins : (d : ℕ) → begins_with (codes "dropped") d (dropped_fault_text d) ≡ true
fault_begins d =
    let head : List ℕ = (codes "dropped" ++ 32 ∷ decimal d) ++ 32 ∷ [] in
    let is : dropped_fault_text d ≡ head ++ codes "fault" = sym (append_assoc (codes "dropped" ++ 32 ∷ decimal d) (32 ∷ []) (codes "fault")) in
    (starts_is Decides-eqb (dropped_fault_text d) head (begins_with (codes "dropped") d (dropped_fault_text d)) refl).1 (codes "fault") is

-- so there is one such line of each drive
pub fault_one : (d e : ℕ) → d < 2 ^ 64 → e < 2 ^ 64 → dropped_fault_text d ≡ dropped_fault_text e → d ≡ e
fault_one d e low also same = loss_of d e ByFault low also (ap (begins_with (codes "dropped") e) same ∙ fault_begins e)

-- a run in which no count rises
abbrev quiet : World → World
quiet w = record { events = w.events; faults = λ x. 0; attached = w.attached }

abbrev still : Job → World → Run
still job w = run_with job (quiet w) (quiet w) []

-- the last lines of a run are of no drive that was dropped
pub last_undropped : (job : Job) (w : World) (end : JobEnd) (result : ℕ) (L : List Event) → LastCalls (last_of end) result L → Lines (λ line. (d : ℕ) → d < 8 → line ≡ dropped_fault_text d → ⊥) L
last_undropped job w end result L calls front after line ok is d low same =
    let all : Lines _ L = last_lines (still job w) end result L calls in
    let rose : Rose 0 0 = (all front after line ok is d (omega (arith, low)) (ap (begins_with (codes "dropped") d) same ∙ fault_begins d)).1 in
    omega (arith, rose)

-- the lines of a first part of some calls are among theirs
pub lines_front : (Q : List ℕ → Type 0) (L rest all : List Event) → all ≡ L ++ rest → Lines Q all → Lines Q L
lines_front Q L rest all is lines front after line ok at =
    lines front (after ++ rest) line ok (is ∙ ap (λ (l : List Event). l ++ rest) at ∙ append_assoc front (Say line ok ∷ after) rest)
