-- The causes of errors.
use Rattle.std.proofs.Common.{ℕ, refl, sym, subst}
use Rattle.std.specs.Prelude.{Result, Err}
use Rattle.bay_core.specs.World.{World}
use Rattle.drive_journal.specs.declared.record.Gate.{Gate}
use Rattle.drive_journal.specs.declared.record.Rec.{Rec}
use Rattle.read_back.specs.declared.back.ReadBackError.{ReadBackError}
use Rattle.read_back.specs.declared.back.ReadBackError.TheVariants.{DriveFailed, Absent, Length, Differs}
use Rattle.recording.specs.Filing.{FailsAlone, RecordCause as FileCause}
use Rattle.first_file.specs.declared.error.FirstFileError.{FirstFileError}
use Rattle.first_file.specs.Causes.{LostBy, RecordCause, RecordsAlone}

abbrev because : ℕ → World → World → FirstFileError → Type 0
because d old new e = RecordCause d (Err e) old new

abbrev lost : ReadBackError → Result Gate ReadBackError
lost found = Err found

-- a recording that ended in an error
pub lost_cause : (d : ℕ) (found : ReadBackError) (e : FirstFileError) (old new : World) → LostBy found e → FileCause d (lost found) old new → RecordCause d (Err e) old new
lost_cause d DriveFailed e old new is cause = subst (because d old new) (sym is) (cause refl)
lost_cause d Absent e old new is cause = subst (because d old new) (sym is) (λ same. absurd (cc same))
lost_cause d (Length a b) e old new is cause = subst (because d old new) (sym is) (λ same. absurd (cc same))
lost_cause d (Differs a b) e old new is cause = subst (because d old new) (sym is) (λ same. absurd (cc same))

abbrev alone : ℕ → Rec → World → World → FirstFileError → Type 0
alone d rec old new e = RecordsAlone d rec (Err e) old new

-- one that ended by what was read back did so on a drive that had other bytes, or lies
pub lost_alone : (d : ℕ) (rec : Rec) (found : ReadBackError) (e : FirstFileError) (old new : World) → LostBy found e → FailsAlone d rec (lost found) old new → RecordsAlone d rec (Err e) old new
lost_alone d rec DriveFailed e old new is only = subst (alone d rec old new) (sym is) (λ m before all h now has. tt)
lost_alone d rec Absent e old new is only = λ m before all h now has. absurd (only.only m before all h now has)
lost_alone d rec (Length a b) e old new is only = λ m before all h now has. absurd (only.only m before all h now has)
lost_alone d rec (Differs a b) e old new is only = λ m before all h now has. absurd (only.only m before all h now has)
