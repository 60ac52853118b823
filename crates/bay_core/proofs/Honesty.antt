-- An honest drive over calls and attaches.
use Rattle.std.proofs.Common.{◌≡◌, ℕ, List, [], ◌++◌, refl, ◌∙◌, sym, ap, arith}
use Rattle.std.specs.Prelude.{Some, Ok}
use Rattle.bay_core.specs.declared.event.Event.{Event}
use Rattle.bay_core.specs.declared.event.Event.TheVariants.{AttachDrive}
use Rattle.bay_core.specs.Map.{Map, Dates}
use Rattle.bay_core.specs.Replay.{Device, calls_on, reads, dated}
use Rattle.bay_core.specs.World.{World, Attached, Honest}
use Rattle.bay_core.specs.Went.{Went}
use Rattle.bay_core.specs.Attach.{Attaches}
use Rattle.bay_core.proofs.Replays.{calls_elsewhere, no_calls, no_calls_dated}

-- an honest drive is honest after calls
pub honest_later : {On : Device → Type 0} {P : List Event → Type 0} {old new : World} (d : ℕ) (m : Map) (before all : List Event) → Went On P old new → Honest old d m before → new.events ≡ Some all → Honest new d m all
honest_later d m before all w h now = record {
  honest = ap (λ (a : Attached). a.honest d) w.attached ∙ h.honest;
  start = ap (λ (a : Attached). a.start d) w.attached ∙ h.start;
  events = now;
}

-- an honest drive was honest before calls, where the calls so far are told
pub honest_before : {On : Device → Type 0} {P : List Event → Type 0} {old new : World} (d : ℕ) (m : Map) (all : List Event) → Went On P old new → Honest new d m all → (before : List Event) × Honest old d m before
honest_before d m all w h =
    let t = w.told all h.events in (
      t.before,
      record {
        honest = ap (λ (a : Attached). a.honest d) (sym w.attached) ∙ h.honest;
        start = ap (λ (a : Attached). a.start d) (sym w.attached) ∙ h.start;
        events = t.was;
      },
    )

-- a drive that was just attached has no call
pub no_calls_yet : (d : ℕ) (place : List ℕ) {old new : World} → Attaches place (Ok d) old new → (L : List Event) → new.events ≡ Some L → calls_on d L ≡ []
no_calls_yet d place a L now =
    let t = a.told L now in
    ap (calls_on d) (t.is ∙ ap (λ (l : List Event). t.before ++ l) t.such) ∙ calls_elsewhere t.before (AttachDrive d place) d refl
    ∙ a.unused t.before t.was d (let n = a.numbered.0 in omega (arith, n))

-- a drive that was just attached reads as its start
pub attached_at_start : (d : ℕ) (place : List ℕ) {old new : World} → Attaches place (Ok d) old new → (m : Map) (L : List Event) → new.events ≡ Some L → reads m L d ≡ m
attached_at_start d place a m L now = no_calls m L d (no_calls_yet d place a L now)

pub attached_dates : (d : ℕ) (place : List ℕ) {old new : World} → Attaches place (Ok d) old new → (t : Dates) (L : List Event) → new.events ≡ Some L → dated t L d ≡ t
attached_dates d place a t L now = no_calls_dated t L d (no_calls_yet d place a L now)
