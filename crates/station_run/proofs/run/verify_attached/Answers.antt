use Rattle.std.proofs.Common.{◌∙◌, ap}
use Rattle.station_run.specs.Ends.{outcome_status}
use Rattle.station_run.proofs.Verified.{verified_looks, verify_unloaded, verify_came, verify_broken}
use Rattle.station_run.proofs.run.verify_attached.Goals as goal

pub returns-in-Err : goal.returns-in-Err
returns-in-Err g c =
    let loaded = c.in-Err.ensures in
    verify_unloaded _ _ _ _ _ _ _ record { went = loaded.alone; cause = loaded.cause; honest = loaded.honest; distinct = loaded.distinct } c.end_unloaded.ensures

pub returns-in-Ok-verify : goal.returns-in-Ok-verify
returns-in-Ok-verify g c =
    let loaded = c.in-Ok.ensures in
    let came = c.in-Ok-verify.ensures in
    verify_came _ _ c.in-Ok.hashes c.in-Ok-verify.verdict _ _ _ _ record { went = loaded.alone; cause = loaded.cause; honest = loaded.honest; distinct = loaded.distinct }
    record { seen = came.seen; answered = verified_looks _ _ _ _ came.verified; lines = came.lines; numbers = came.numbers }
    (c.status_of.ensures ∙ ap outcome_status c.outcome.ensures)

pub returns : goal.returns
returns g c =
    let loaded = c.in-Ok.ensures in
    verify_broken _ _ c.in-Ok.hashes c.in-Err-verify.e _ _ _ _ _ record { went = loaded.alone; cause = loaded.cause; honest = loaded.honest; distinct = loaded.distinct } c.in-Err-verify.ensures.verified c.in-Err-verify.ensures.begun c.end_unverified.ensures
