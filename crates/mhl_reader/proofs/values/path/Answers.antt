use Rattle.mhl_reader.proofs.Texts.{path_no_text, path_is, path_unread}
use Rattle.mhl_reader.proofs.values.path.Goals as goal

pub returns-in_default : goal.returns-in_default
returns-in_default c = path_no_text c.args.text.now c.in_default.ensures.cases.0

pub returns-in-Ok-read : goal.returns-in-Ok-read
returns-in-Ok-read c = path_is c.args.text.now c.in-Ok.text.now c.in-Ok-read.path c.in-Ok.ensures.cases.1 c.in-Ok.ensures.cases.0 c.in-Ok-read.ensures.0 c.in-Ok-read.ensures.1

pub returns-in_default-error : goal.returns-in_default-error
returns-in_default-error c = path_unread c.args.text.now c.in-Ok.text.now c.in-Err.error c.in-Ok.ensures.cases.1 c.in-Ok.ensures.cases.0 c.in_default-error.not-Memory c.in-Err.ensures
