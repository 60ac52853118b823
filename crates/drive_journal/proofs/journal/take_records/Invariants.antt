use Rattle.drive_journal.proofs.Entries.{SoFar}
use Rattle.drive_journal.proofs.journal.take_records.Given as goal

abbrev pub invariant-loop-file : goal.invariant-loop-file
invariant-loop-file l = SoFar l.files l.initial.rest l.entries.items l.file-index l.rest
