use Rattle.std.proofs.Common.{◌∙◌}
use Rattle.mhl_reader.specs.Code.{reader_seen}
use Rattle.mhl_reader.proofs.Machine.{start_gives, end_gives, aside_gives, reference_gives, empty_gives, empty_fails}
use Rattle.mhl_reader.proofs.reader.Reader.step.Goals as goal

pub returns-in-Start : goal.returns-in-Start
returns-in-Start c = start_gives reader_seen c.enter.result (reader_seen c.args.self) c.args.place c.args.token c.in-Start.name c.in-Start.attributes c.in-Start.is c.enter.ensures

pub returns-in-Ok : goal.returns-in-Ok
returns-in-Ok c =
    empty_gives reader_seen c.leave.result (reader_seen c.args.self) (reader_seen c.in-Ok.inner) c.args.place c.args.token c.in-Empty.name c.in-Empty.attributes c.in-Empty.is c.in-Ok.ensures c.leave.ensures

pub returns-in-Err : goal.returns-in-Err
returns-in-Err c = empty_fails c.in-Err.e (reader_seen c.args.self) c.args.place c.args.token c.in-Empty.name c.in-Empty.attributes c.in-Empty.is c.in-Err.ensures

pub returns-in-End : goal.returns-in-End
returns-in-End c = end_gives reader_seen c.leave-in-End.result (reader_seen c.args.self) c.args.place c.args.token c.in-End.name c.in-End.is c.leave-in-End.ensures

pub returns-in-Aside : goal.returns-in-Aside
returns-in-Aside c = aside_gives reader_seen c.pass.result (reader_seen c.args.self) c.args.place c.args.token c.in-Aside.is c.pass.ensures

pub returns-in-Reference : goal.returns-in-Reference
returns-in-Reference c =
    reference_gives reader_seen c.refer.result (reader_seen c.args.self) c.args.place c.args.token c.in-Reference.c c.as_bytes.result.now c.in-Reference.is (c.as_bytes.ensures.value ∙ c.encode_utf8.ensures.value) c.refer.ensures
