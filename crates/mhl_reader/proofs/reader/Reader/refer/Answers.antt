use Rattle.std.proofs.Common.{sym, ◌∙◌}
use Rattle.mhl_reader.specs.Code.{reader_seen}
use Rattle.mhl_reader.proofs.Skips.{reference_fails}
use Rattle.mhl_reader.proofs.reader.Reader.refer.Goals as goal

pub returns-then-not-is_in_leaf : goal.returns-then-not-is_in_leaf
returns-then-not-is_in_leaf c =
    reference_fails c.malformed.result (reader_seen c.args.self).base (reader_seen c.args.self).found c.args.self.skipped c.args.place c.args.bytes.now (sym c.is_empty.ensures ∙ c.if-not-is_empty.false) (sym c.is_in_leaf.ensures ∙ c.if-not-is_in_leaf.true) c.malformed.ensures
