use Rattle.std.proofs.Common.{◌≡◌, sym, ◌∙◌, ap, subst, List}
use Rattle.std.specs.Prelude.{Err, None}
use Rattle.std.specs.FinMap.{get}
use Rattle.bay_core.specs.World.{World}
use Rattle.bay_core.specs.declared.event.FileInfo.{FileInfo}
use Rattle.folder_listing.specs.Listing.{listing}
use Rattle.file_reading.specs.Reads.{Halted}
use Rattle.file_reading.proofs.Stops.{halted_none, list_halted}
use Rattle.file_reading.proofs.Listings.{file_listed, list_then}
use Rattle.file_reading.proofs.listed.list_and_read.Goals as goal

pub returns-in-Err-Failed-clause-read : goal.returns-in-Err-Failed-clause-read
returns-in-Err-Failed-clause-read g c = list_halted _ c.in-Err-Failed.field-0 c.in-Err-Failed.field-0-is c.in-Err-Failed.ensures.called

pub returns-in-Err-Memory-clause-read : goal.returns-in-Err-Memory-clause-read
returns-in-Err-Memory-clause-read g c =
    subst (λ (w : World). Halted c.args.d None (g.B.Bay.world c.args.bay.now) w) (sym (c.in-Err-Memory.ensures.memory (ap (λ x. Err x) c.in-Err-Memory.field-0-is))) (halted_none c.args.d (g.B.Bay.world c.args.bay.now))

pub returns-in-Ok-content_of-clause-read : goal.returns-in-Ok-content_of-clause-read
returns-in-Ok-content_of-clause-read g c =
    file_listed _ _ c.in-Ok.files.items _ _ c.in-Ok.ensures.called c.in-Ok.ensures.honest _ _ _ _
    (c.listed_size-size.ensures ∙ ap (λ (fs : List FileInfo). get (listing fs) c.args.path.now) c.deref.ensures.value) c.in-Ok-content_of.ensures.read

pub returns-in-Err-clause-read : goal.returns-in-Err-clause-read
returns-in-Err-clause-read g c = list_then _ c.args.path.now c.in-Ok.files.items _ _ c.in-Ok.ensures.called c.in-Ok.ensures.honest _ _ c.in-Err.ensures.read
