-- Calls that change and settle no drive, by their devices.
use Rattle.std.proofs.Common.{◌≡◌, ℕ, false, List, [], ◌∷◌, refl, subst}
use Rattle.bay_core.specs.declared.event.Event.{Event}
use Rattle.bay_core.specs.declared.event.Event.TheVariants.{AttachSource, AttachDrive, AttachFailed, SourceList, SourceRead, DriveList, DriveRead, Write, Sync, Rename, Remove, Moment, Pick, Say}
use Rattle.bay_core.specs.Looks.{is_effect, IsUntouched}
use Rattle.bay_core.specs.Replay.{Device, Drive, device_of}
use Rattle.bay_core.specs.Went.{AllOn}

-- a call that is on no drive changes and settles none
off_drives : (e : Event) → ((d : ℕ) → device_of e ≡ Drive d → ⊥) → is_effect e ≡ false
off_drives (AttachSource s place) off = refl
off_drives (AttachDrive d place) off = refl
off_drives (AttachFailed place) off = refl
off_drives (SourceList s got) off = refl
off_drives (SourceRead s path at want got) off = refl
off_drives (DriveList d got) off = refl
off_drives (DriveRead d path at want got) off = refl
off_drives (Write d path at bytes ok) off = absurd (off d refl)
off_drives (Sync d ok) off = absurd (off d refl)
off_drives (Rename d from to ok) off = absurd (off d refl)
off_drives (Remove d path ok) off = absurd (off d refl)
off_drives (Moment t) off = refl
off_drives (Pick n) off = refl
off_drives (Say line ok) off = refl

pub untouched_off : (On : Device → Type 0) → ((d : ℕ) → On (Drive d) → ⊥) → (L : List Event) → AllOn On L → IsUntouched L
unfolding AllOn IsUntouched
untouched_off On off [] on = tt
untouched_off On off (e ∷ L) on = (off_drives e (λ d is. off d (subst On is on.0)), untouched_off On off L on.1)
