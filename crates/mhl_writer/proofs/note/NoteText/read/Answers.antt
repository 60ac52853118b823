use Rattle.std.proofs.Common.{◌∙◌, sym, ap}
use Rattle.std.specs.Prelude.{Some}
use Rattle.mhl_writer.specs.Note.{is_note, is_note_rule}
use Rattle.mhl_writer.proofs.Notes.{is_note-text, choose_false, choose_true}
use Rattle.mhl_writer.proofs.note.NoteText.read.Goals as goal

pub returns-then-not-meets_rule : goal.returns-then-not-meets_rule
returns-then-not-meets_rule c = choose_false (is_note c.args.text.now) _ (is_note-text _ c.utf8.text ∙ ap is_note_rule (sym c.as_bytes.ensures.value) ∙ sym c.meets_rule.ensures ∙ c.if-not-meets_rule.true)

pub returns : goal.returns
returns c = ap Some c.in_ok-to_owned.ensures.ok ∙ choose_true (is_note c.args.text.now) _ (is_note-text _ c.utf8.text ∙ ap is_note_rule (sym c.as_bytes.ensures.value) ∙ sym c.meets_rule.ensures ∙ c.if-not-meets_rule.false)
