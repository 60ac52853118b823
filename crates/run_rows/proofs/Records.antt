-- Records of the first files of a plan, made one after another.
use Rattle.std.proofs.Common.{arith, ◌+◌, ◌≡◌, ◌∙◌, ℕ, suc, List, [], ◌∷◌, ◌++◌, length, drop, refl, ap, subst}
use Rattle.std.specs.Prelude.{Some}
use Rattle.std.specs.List.{slice_get}
use Rattle.std.specs.Borrow.{Bor}
use Rattle.std.specs.Slice.{IsItemAt}
use Rattle.std.proofs.Math.Seq.{drop-cons}
use Rattle.std.proofs.lemmas.Option.{slice_get_within, slice_get_read, get_or_from_slice_get}
use Rattle.copy_plan.specs.declared.file.PlannedFile.{PlannedFile}
use Rattle.drive_journal.specs.declared.record.Rec.{Rec}
use Rattle.drive_journal.specs.Journal.{IsRecord, AreRecords}
use Rattle.drive_journal.proofs.Entries.{records_push}

-- the files from one on
from : (files : List PlannedFile) (i : ℕ) (f : PlannedFile) → slice_get files i ≡ Some f → drop i files ≡ f ∷ drop (suc i) files
from files i f is = drop-cons files i f (slice_get_within files i f is) ∙ ap (λ (x : PlannedFile). x ∷ drop (suc i) files) (get_or_from_slice_get files i f f is)

-- a file that was got at a place stands there
pub got_at : (files : List PlannedFile) (i : ℕ) (f : Bor PlannedFile) → IsItemAt files i (Some f) → slice_get files i ≡ Some f.now
got_at files i f at = slice_get_read files (length files) i f.now refl at.3.0 at.1

-- one record more
pub add_record : (files : List PlannedFile) (recs : List Rec) (i : ℕ) (f : PlannedFile) (r : Rec) → AreRecords 0 files recs → length recs ≡ i → slice_get files i ≡ Some f → IsRecord i f r → AreRecords 0 files (recs ++ r ∷ [])
add_record files recs i f r are long is made =
    let zero_on : i ≡ 0 + length recs = omega (arith, long) in
    records_push 0 files recs f (drop (suc (length recs)) files) r are (from files (length recs) f (ap (slice_get files) long ∙ is)) (subst (λ (n : ℕ). IsRecord n f r) zero_on made)
