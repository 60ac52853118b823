use Rattle.mhl_reader.proofs.Texts.{digest_yes, digest_no}
use Rattle.mhl_reader.proofs.values.digest.Goals as goal

pub returns-in-Ok : goal.returns-in-Ok
returns-in-Ok g c = digest_yes g.row.N c.args.text.now c.trim.result.now c.in-Ok.digest c.trim.ensures c.in-Ok.ensures

pub returns-in-Err : goal.returns-in-Err
returns-in-Err g c = digest_no g.row.N c.args.text.now c.trim.result.now c.in-Err.field-0 c.trim.ensures c.in-Err.ensures
