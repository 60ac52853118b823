use Rattle.std.proofs.Common.{ℕ, sym, ap, ◌∙◌, drop, arith}
use Rattle.std.proofs.lemmas.List.{take_rest}
use Rattle.mhl_reader.specs.Code.{reader_seen}
use Rattle.mhl_reader.proofs.Scanning.{begun, goes_on, step_fails, piece_fails, end_fails, all_read, none_left, some_left}
use Rattle.mhl_reader.proofs.reading.read_text.Goals as goal

pub loop-rest-init : goal.loop-rest-init
loop-rest-init c =
    begun c.args.bytes.now _ (reader_seen c.new-reader.result) (omega (arith, c.start.ensures.start, c.start.ensures.within))
    (take_rest c.args.bytes.now c.start.result ∙ ap (λ (n : ℕ). drop n c.args.bytes.now) c.start.ensures.start) c.new-reader.ensures

pub returns-in-Err-clause-fault : goal.returns-in-Err-clause-fault
returns-in-Err-clause-fault c =
    piece_fails c.args.bytes.now c.loop-rest.rest.now (reader_seen c.loop-rest.reader) c.in-Err.error c.refused_markup.result c.loop-rest.invariant (some_left c.loop-rest.rest.now (sym c.is_empty.ensures ∙ c.loop-rest-test.true))
    c.in-Err.ensures.0 c.in-Err.ensures.1 c.refused_markup.ensures

pub returns-in-Err-step-clause-fault : goal.returns-in-Err-step-clause-fault
returns-in-Err-step-clause-fault c =
    step_fails c.args.bytes.now c.loop-rest.rest.now c.in-Ok.taken.1.now (reader_seen c.loop-rest.reader) c.in-Ok.taken.0 c.in-Err-step.e c.loop-rest.invariant c.in-Ok.ensures c.in-Err-step.ensures

pub loop-rest-preserved : goal.loop-rest-preserved
loop-rest-preserved c =
    goes_on c.args.bytes.now c.loop-rest.rest.now c.in-Ok.taken.1.now (reader_seen c.loop-rest.reader) (reader_seen c.in-Ok-step.next) c.in-Ok.taken.0 c.loop-rest.invariant c.in-Ok.ensures c.in-Ok-step.ensures

pub returns-in-Ok-finish-clause-found : goal.returns-in-Ok-finish-clause-found
returns-in-Ok-finish-clause-found c =
    rw (c.creator.ensures, c.into_list.ensures) (all_read c.args.bytes.now c.loop-rest.rest.now (reader_seen c.loop-rest.reader) _ c.requires c.loop-rest.invariant (none_left c.loop-rest.rest.now (sym c.is_empty.ensures ∙ c.loop-rest-test.false)) c.in-Ok-finish.ensures)

pub returns-in-Err-finish-clause-fault : goal.returns-in-Err-finish-clause-fault
returns-in-Err-finish-clause-fault c =
    end_fails c.args.bytes.now c.loop-rest.rest.now (reader_seen c.loop-rest.reader) c.in-Err-finish.e c.loop-rest.invariant (none_left c.loop-rest.rest.now (sym c.is_empty.ensures ∙ c.loop-rest-test.false)) c.in-Err-finish.ensures
