use Rattle.std.proofs.Common.{◌≡◌, ◌⊎◌, subst, inl, inr}
use Rattle.mhl_reader.specs.declared.error.ReadError.TheVariants.{Memory as NoMemoryRead}
use Rattle.mhl_reader.specs.Reading.{FirstFault}
use Rattle.mhl_writer.specs.ListText.{values_of}
use Rattle.mhl_reader.specs.Reading.{Reading}
use Rattle.verify_run.proofs.Loads.{load_failed, load_wanting, list_unlisted, list_absent, list_large, list_loaded, list_refused, list_wanting}
use Rattle.verify_run.proofs.loading.load.Goals as goal

pub returns-in-Err-DriveFailed : goal.returns-in-Err-DriveFailed
returns-in-Err-DriveFailed g c = load_failed _ _ _ _ _ c.in-Err-DriveFailed.field-0-is c.in-Err-DriveFailed.ensures.read

pub returns-in-Err-Memory : goal.returns-in-Err-Memory
returns-in-Err-Memory g c = load_wanting _ _ _ _ _ c.in-Err-Memory.field-0-is c.in-Err-Memory.ensures.read

pub returns-in-Unlisted : goal.returns-in-Unlisted
returns-in-Unlisted g c = elim c.in-Unlisted.is [
  | inl is ↦ list_unlisted _ _ c.in-Ok.found.files.items _ _ c.in-Ok.found.content is c.in-Ok.ensures.read
  | inr is ↦ list_absent _ _ c.in-Ok.found.files.items _ _ c.in-Ok.found.content is c.in-Ok.ensures.read
]

pub returns-in-TooLarge : goal.returns-in-TooLarge
returns-in-TooLarge g c = list_large _ _ c.in-Ok.found.files.items _ _ c.in-Ok.found.content c.in-TooLarge.len c.in-TooLarge.is c.in-Ok.ensures.read

pub returns-in-Ok-read_list : goal.returns-in-Ok-read_list
returns-in-Ok-read_list g c =
    list_loaded _ _ c.in-Ok.found.files.items _ _ c.in-Ok.found.content c.in-Bytes.text c.in-Bytes.is c.in-Ok.ensures.read _
    (subst (λ b. Reading b (values_of c.in-Ok-read_list.list)) c.deref.ensures.value c.in-Ok-read_list.ensures.found) c.in-Ok-read_list.ensures.distinct

pub returns-in-Memory : goal.returns-in-Memory
returns-in-Memory g c = list_wanting _ _ c.in-Ok.found.files.items _ _ c.in-Ok.found.content c.in-Bytes.text c.in-Bytes.is c.in-Ok.ensures.read

pub returns : goal.returns
returns g c =
    list_refused _ _ c.in-Ok.found.files.items _ _ c.in-Ok.found.content c.in-Bytes.text c.in-Bytes.is c.in-Ok.ensures.read c.in-Err.error
    (subst (λ b. (c.in-Err.error ≡ NoMemoryRead) ⊎ FirstFault b c.in-Err.error) c.deref.ensures.value c.in-Err.ensures.fault) c.in_default.not-Memory
