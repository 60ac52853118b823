use Rattle.std.proofs.Common.{ap, length, arith}
use Rattle.mhl_writer.proofs.Notes.{is_note-short}
use Rattle.mhl_writer.proofs.lines.put_note.Goals as goal

pub put_escaped_line-requires-clause-room : goal.put_escaped_line-requires-clause-room
put_escaped_line-requires-clause-room c = omega (arith, is_note-short c.args.note.now c.requires.note, ap length c.as_bytes.ensures.value)

pub returns-clause-len : goal.returns-clause-len
returns-clause-len c = omega (arith, is_note-short c.args.note.now c.requires.note, ap length c.as_bytes.ensures.value)
