use Rattle.std.proofs.Common.{◌≡◌, List, ℕ, Option, subst}
use Rattle.std.specs.Prelude.{IfOk}
use Rattle.mhl_reader.proofs.Texts.{note_is, note_unread}
use Rattle.mhl_reader.proofs.values.note.Goals as goal

pub returns-in-Ok : goal.returns-in-Ok
returns-in-Ok c = subst (λ (kept : Option (List ℕ)). IfOk c.read.result (λ note. note ≡ kept)) (note_is c.args.text.now c.trim.result.now c.in-Ok.text.now c.trim.ensures c.in-Ok.ensures.cases.0) c.read.ensures

pub returns-in-Err : goal.returns-in-Err
returns-in-Err c = note_unread c.args.text.now c.trim.result.now c.trim.ensures c.in-Err.ensures.cases.0
