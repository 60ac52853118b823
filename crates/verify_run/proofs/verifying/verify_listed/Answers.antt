use Rattle.std.proofs.Common.{refl}
use Rattle.folder_listing.specs.Listing.{names}
use Rattle.verify_run.specs.Report.{unlisted}
use Rattle.verify_run.proofs.Reported.{listing_failed, listing_wanting, wanting_listed, folder_stopped, verified}
use Rattle.verify_run.proofs.verifying.verify_listed.Goals as goal

pub returns-in-Err-Failed : goal.returns-in-Err-Failed
returns-in-Err-Failed g c = listing_failed _ _ _ c.in-Err-Failed.field-0 c.in-Err-Failed.field-0-is c.in-Err-Failed.ensures.called

pub returns-in-Err-Memory : goal.returns-in-Err-Memory
returns-in-Err-Memory g c = listing_wanting _ _ _ c.in-Err-Memory.field-0 c.in-Err-Memory.field-0-is c.in-Err-Memory.ensures.called

pub returns-in-Err : goal.returns-in-Err
returns-in-Err g c = wanting_listed _ c.in-Ok.files.items _ _ _ _ c.in-Ok.ensures.called c.in-Ok.ensures.honest

pub returns-in-Ok-verify_folder : goal.returns-in-Ok-verify_folder
returns-in-Ok-verify_folder g c =
    verified _ c.in-Ok.files.items c.args.entries.now c.args.own.now _ _ _ _ _ _ c.in-Ok.ensures.called c.in-Ok.ensures.honest c.in-Ok-prepared.ensures.folder refl
    (c.in-Ok-verify_folder.ensures (unlisted c.args.entries.now (names c.in-Ok.files.items) c.args.own.now) c.in-Ok-prepared.ensures.others)

pub returns : goal.returns
returns g c =
    folder_stopped _ c.in-Ok.files.items c.args.entries.now c.args.own.now _ _ c.in-Ok.ensures.called c.in-Ok.ensures.honest _ _ _ c.in-Ok-prepared.ensures.folder
    (c.in-Err-verify_folder.ensures (unlisted c.args.entries.now (names c.in-Ok.files.items) c.args.own.now) c.in-Ok-prepared.ensures.others)
