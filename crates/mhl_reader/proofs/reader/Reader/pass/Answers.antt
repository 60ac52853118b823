use Rattle.std.proofs.Common.{sym, ◌∙◌}
use Rattle.mhl_reader.specs.Code.{reader_seen}
use Rattle.mhl_reader.proofs.Skips.{aside_fails}
use Rattle.mhl_reader.proofs.reader.Reader.pass.Goals as goal

pub returns-then-is_in_leaf : goal.returns-then-is_in_leaf
returns-then-is_in_leaf c =
    aside_fails c.malformed.result (reader_seen c.args.self).base (reader_seen c.args.self).found c.args.self.skipped c.args.place (sym c.is_empty.ensures ∙ c.if-is_empty.true) (sym c.is_in_leaf.ensures ∙ c.if-is_in_leaf.true) c.malformed.ensures
