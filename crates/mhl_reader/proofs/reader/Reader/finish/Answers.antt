use Rattle.std.proofs.Common.{sym, ◌∙◌}
use Rattle.mhl_reader.specs.Code.{reader_seen}
use Rattle.mhl_reader.proofs.Skips.{end_skipped_fails, end_fails, all_ended}
use Rattle.mhl_reader.proofs.reader.Reader.finish.Goals as goal

pub returns-then-not-is_empty : goal.returns-then-not-is_empty
returns-then-not-is_empty c =
    end_skipped_fails c.malformed.result (reader_seen c.args.self).base (reader_seen c.args.self).found c.args.self.skipped c.args.len (sym c.is_empty.ensures ∙ c.if-not-is_empty.true) c.malformed.ensures

pub returns-then-not-is_after : goal.returns-then-not-is_after
returns-then-not-is_after c =
    end_fails c.malformed-then-not-is_after.result (reader_seen c.args.self).base (reader_seen c.args.self).found c.args.self.skipped c.args.len (sym c.is_empty.ensures ∙ c.if-not-is_empty.false)
    (sym c.is_after.ensures ∙ c.if-not-is_after.true) c.malformed-then-not-is_after.ensures

pub returns : goal.returns
returns c =
    all_ended (reader_seen c.args.self).base (reader_seen c.args.self).found c.args.self.skipped c.args.len (sym c.is_empty.ensures ∙ c.if-not-is_empty.false) (sym c.is_after.ensures ∙ c.if-not-is_after.false)
