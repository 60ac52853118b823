-- What the lines of a recording and of a sealing say of a drive that is lost.
use Rattle.std.proofs.Common.{◌≡◌, ℕ, List, [], refl, ap}
use Rattle.std.specs.Prelude.{Option, Some, Err, unwrap_or, option_map}
use Rattle.std.specs.List.{slice_get}
use Rattle.copy_plan.specs.declared.file.PlannedFile.{PlannedFile}
use Rattle.copy_plan.specs.Plan.{PlanValue, list_of}
use Rattle.drive_journal.specs.declared.record.Rec.{Rec}
use Rattle.read_back.specs.declared.back.ReadBackError.{ReadBackError}
use Rattle.read_back.specs.declared.back.ReadBackError.TheVariants.{DriveFailed as BackFailed, Absent as BackAbsent, Length as BackLength, Differs}
use Rattle.seal_step.specs.declared.error.SealError.{SealError}
use Rattle.seal_step.specs.declared.error.SealError.TheVariants.{DriveFailed as SealFailed, Absent as ListAbsent, Byte as ListByte, Length as ListLength}
use Rattle.run_state.specs.Acts.{record_line, seal_line}
use Rattle.run_lines.specs.Words.{Loss, Fault, Absent, Length, Altered, Byte, path_at, loss_text}

abbrev pub record_loss : List ℕ → ReadBackError → Loss
record_loss path BackFailed = Fault
record_loss path BackAbsent = Absent path
record_loss path (BackLength recorded read) = Length recorded read path
record_loss path (Differs recorded read) = Altered recorded read path

pub record_loss_line : (d n : ℕ) (path : List ℕ) (rec : Rec) (e : ReadBackError) → record_line d n path rec (Err e) ≡ loss_text d (record_loss path e)
record_loss_line d n path rec BackFailed = refl
record_loss_line d n path rec BackAbsent = refl
record_loss_line d n path rec (BackLength recorded read) = refl
record_loss_line d n path rec (Differs recorded read) = refl

abbrev pub seal_loss : List ℕ → SealError → Loss
seal_loss list SealFailed = Fault
seal_loss list ListAbsent = Absent list
seal_loss list (ListByte at written read) = Byte at written read list
seal_loss list (ListLength written read) = Length written read list

pub seal_loss_line : (d : ℕ) (p : PlanValue) (e : SealError) → seal_line d p (Err e) ≡ loss_text d (seal_loss (list_of p) e)
seal_loss_line d p SealFailed = refl
seal_loss_line d p ListAbsent = refl
seal_loss_line d p (ListByte at written read) = refl
seal_loss_line d p (ListLength written read) = refl

-- the path of a file of the plan
pub path_is : (p : PlanValue) (i : ℕ) (file : PlannedFile) → slice_get p.files i ≡ Some file → path_at p i ≡ file.path
path_is p i file is = ap (λ (f : Option PlannedFile). unwrap_or (option_map (λ (g : PlannedFile). g.path) f) []) is
