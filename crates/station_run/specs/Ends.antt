-- How a run ends that reads a drive, by its cause: docs/FORMATS.md, "Statuses".
use Rattle.std.specs.Prelude.{ℕ, codes}
use Rattle.mhl_reader.specs.declared.error.ReadError.{ReadError}
use Rattle.mhl_reader.specs.declared.error.ReadError.TheVariants.{NotUtf8, Malformed, Doctype, Cdata, Version, NoFile, Twice, BadPath, BadSize, BadDigest, TooMany, Memory as MemoryRead}
use Rattle.report_text.specs.Line.{line_text, unreadable_toolarge_text, unreadable_text}
use Rattle.report_text.specs.Losses.{failed_attach_drive_text}
use Rattle.report_text.specs.declared.line.Line.TheVariants.{RefusedWords, FailedDrive, UnreadableAbsent, UnreadableVersion}
use Rattle.last_lines.specs.Ends.{End, with_line, with_status, memory_end}
use Rattle.verify_run.specs.declared.loading.LoadError.{LoadError}
use Rattle.verify_run.specs.declared.loading.LoadError.TheVariants.{DriveFailed, Absent, TooLarge, Unreadable, Memory}
use Rattle.verify_run.specs.declared.verdict.VerifyError.{VerifyError}
use Rattle.verify_run.specs.declared.verdict.VerifyError.TheVariants.{DriveFailed as DriveFailedThen, OutFailed, Memory as MemoryThen}
use Rattle.verify_run.specs.declared.verdict.Outcome.{Outcome}
use Rattle.verify_run.specs.declared.verdict.Outcome.TheVariants.{AllGood, SomeBad, SomeUnchecked}

abbrev pub words_end : End
words_end = with_line (line_text RefusedWords) 2

abbrev pub attach_end : End
attach_end = with_line (failed_attach_drive_text 0) 4

abbrev pub drive_end : End
drive_end = with_line (line_text FailedDrive) 8

-- good 0, bad 1, unchecked 6
abbrev pub outcome_status : Outcome → ℕ
outcome_status AllGood = 0
outcome_status SomeBad = 1
outcome_status SomeUnchecked = 6

-- the fault of a list, with its place; want of memory is never one, by LoadCalls
abbrev pub fault_end : ReadError → End
fault_end (NotUtf8 at) = with_line (unreadable_text (codes "notutf8") at) 7
fault_end (Malformed at) = with_line (unreadable_text (codes "malformed") at) 7
fault_end (Doctype at) = with_line (unreadable_text (codes "doctype") at) 7
fault_end (Cdata at) = with_line (unreadable_text (codes "cdata") at) 7
fault_end Version = with_line (line_text UnreadableVersion) 7
fault_end (NoFile at) = with_line (unreadable_text (codes "nofile") at) 7
fault_end (Twice at) = with_line (unreadable_text (codes "twice") at) 7
fault_end (BadPath at) = with_line (unreadable_text (codes "badpath") at) 7
fault_end (BadSize at) = with_line (unreadable_text (codes "badsize") at) 7
fault_end (BadDigest at) = with_line (unreadable_text (codes "baddigest") at) 7
fault_end (TooMany at) = with_line (unreadable_text (codes "toomany") at) 7
fault_end MemoryRead = memory_end

-- a list that was not loaded
abbrev pub load_end : LoadError → End
load_end DriveFailed = drive_end
load_end Absent = with_line (line_text UnreadableAbsent) 7
load_end (TooLarge len) = with_line (unreadable_toolarge_text len) 7
load_end (Unreadable e) = fault_end e
load_end Memory = memory_end

-- a verification that broke off
abbrev pub broken_end : VerifyError → End
broken_end DriveFailedThen = drive_end
broken_end OutFailed = with_status 5
broken_end MemoryThen = memory_end
