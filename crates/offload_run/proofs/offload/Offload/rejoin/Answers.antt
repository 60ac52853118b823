use Rattle.std.proofs.Common.{◌≡◌, length, rules}
use Rattle.std.specs.Prelude.{is_ok}
use Rattle.offload_run.proofs.Acting.{rejoin_aloud}
use Rattle.offload_run.proofs.offload.Offload.rejoin.Goals as goal

pub returns-clause-acted : goal.returns-clause-acted
returns-clause-acted g c =
    let long : length c.args.entries.items ≡ c.len.result = search rules in
    rejoin_aloud _ _ _ _ c.args.entries.items c.args.gate c.args.kept _ c.is_ok-begun.result (is_ok c.rejoin_on.result) _ _ _ (c.next_path-path.ensures c.args.entries.items long) c.is_ok-begun.ensures.value
    c.rejoin_on.ensures.tried c.rejoin_on.ensures.rejoins c.rejoin_on.ensures.gone c.settle_begin.ensures.stands c.settle_begin.ensures.said
