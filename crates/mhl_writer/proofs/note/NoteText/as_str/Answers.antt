use Rattle.mhl_writer.proofs.Notes.{note_holds}
use Rattle.mhl_writer.proofs.note.NoteText.as_str.Goals as goal

pub returns-clause-note : goal.returns-clause-note
returns-clause-note c = note_holds _ _ _ c.deref.utf8 c.deref.ensures c.self.view_is c.self.invariant
