use Rattle.std.proofs.Common.{ap, length, arith}
use Rattle.mhl_writer.proofs.Notes.{is_note-short}
use Rattle.station_run.proofs.printing.note.Goals as goal

pub returns-in-Some-clause-short : goal.returns-in-Some-clause-short
returns-in-Some-clause-short c = omega (arith, is_note-short _ c.as_str.ensures.note, ap length c.as_str.ensures.same)
