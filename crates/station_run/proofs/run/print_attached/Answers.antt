use Rattle.station_run.proofs.Printed.{print_unloaded, print_whole, print_broken}
use Rattle.station_run.proofs.run.print_attached.Goals as goal

pub returns-in-Err : goal.returns-in-Err
returns-in-Err g c =
    let loaded = c.in-Err.ensures in
    print_unloaded _ _ _ _ _ _ _ record { went = loaded.alone; cause = loaded.cause; honest = loaded.honest; distinct = loaded.distinct } c.end_unloaded.ensures

pub returns-in-Ok-print_list : goal.returns-in-Ok-print_list
returns-in-Ok-print_list g c =
    let loaded = c.in-Ok.ensures in
    print_whole _ _ c.in-Ok.hashes _ _ _ record { went = loaded.alone; cause = loaded.cause; honest = loaded.honest; distinct = loaded.distinct } c.in-Ok-print_list.ensures

pub returns : goal.returns
returns g c =
    let loaded = c.in-Ok.ensures in
    print_broken _ _ c.in-Ok.hashes _ _ _ record { went = loaded.alone; cause = loaded.cause; honest = loaded.honest; distinct = loaded.distinct } c.in-Err-print_list.ensures
