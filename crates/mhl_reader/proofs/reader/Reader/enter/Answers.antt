use Rattle.std.proofs.Common.{sym, ◌∙◌, arith}
use Rattle.mhl_reader.specs.Code.{reader_seen}
use Rattle.markup.specs.Taking.{attributes_of}
use Rattle.mhl_reader.proofs.Skips.{deep_fails}
use Rattle.mhl_reader.proofs.reader.Reader.enter.Goals as goal

pub returns-then-len-depth : goal.returns-then-len-depth
returns-then-len-depth c =
    deep_fails c.malformed.result (reader_seen c.args.self).base (reader_seen c.args.self).found c.args.self.skipped c.args.place c.args.name.now (attributes_of c.args.attributes.now) (sym c.is_empty.ensures ∙ c.if-is_empty.false)
    (omega (arith, c.if-len-depth.true, c.len.ensures, c.depth.ensures)) c.malformed.ensures
