use Rattle.std.proofs.Common.{sym, ◌∙◌}
use Rattle.mhl_reader.specs.Code.{reader_seen}
use Rattle.mhl_reader.proofs.Machine.{back_short}
use Rattle.mhl_reader.proofs.Skips.{run_passed, run_added, run_blank, run_fails}
use Rattle.mhl_reader.proofs.reader.Reader.read_run.Goals as goal

pub returns-then-not-is_empty : goal.returns-then-not-is_empty
returns-then-not-is_empty c = run_passed (reader_seen c.args.self).base (reader_seen c.args.self).found c.args.self.skipped c.args.place c.args.run.now (sym c.is_empty.ensures ∙ c.if-not-is_empty.true)

pub returns-then-is_in_leaf : goal.returns-then-is_in_leaf
returns-then-is_in_leaf c =
    run_added c.args.self.text.items c.extend_from_slice.new.self.items c.args.self.base (reader_seen c.args.self).found c.args.self.skipped c.args.place c.args.run.now (sym c.is_empty.ensures ∙ c.if-not-is_empty.false)
    (sym c.is_in_leaf.ensures ∙ c.if-is_in_leaf.true) c.in_ok-extend_from_slice.ensures.items

pub returns-then-is_empty : goal.returns-then-is_empty
returns-then-is_empty c =
    run_blank (reader_seen c.args.self).base (reader_seen c.args.self).found c.args.self.skipped c.args.place c.args.run.now c.skip_space-rest.result.now (sym c.is_empty.ensures ∙ c.if-not-is_empty.false)
    (sym c.is_in_leaf.ensures ∙ c.if-is_in_leaf.false) c.skip_space-rest.ensures (sym c.is_empty-2.ensures ∙ c.if-is_empty.true)

pub overflow_sub-run : goal.overflow_sub-run
overflow_sub-run c = rw c.skip_space-rest.ensures (back_short c.args.run.now)

pub returns : goal.returns
returns c =
    run_fails c.malformed.result (reader_seen c.args.self).base (reader_seen c.args.self).found c.args.self.skipped c.args.place c.args.run.now c.skip_space-rest.result.now (sym c.is_empty.ensures ∙ c.if-not-is_empty.false)
    (sym c.is_in_leaf.ensures ∙ c.if-is_in_leaf.false) c.skip_space-rest.ensures (sym c.is_empty-2.ensures ∙ c.if-is_empty.false) c.malformed.ensures
