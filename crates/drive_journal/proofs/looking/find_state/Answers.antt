use Rattle.std.proofs.Common.{List, subst}
use Rattle.bay_core.specs.declared.event.FileInfo.{FileInfo}
use Rattle.drive_journal.specs.Found.{found_of}
use Rattle.drive_journal.specs.Look.{FoundState, FoundFails}
use Rattle.drive_journal.proofs.Looked.{seen_of, seen_halted}
use Rattle.drive_journal.proofs.looking.find_state.Goals as goal

pub returns-in-Ok-state_of : goal.returns-in-Ok-state_of
returns-in-Ok-state_of g c = record {
  found = _;
  seen = seen_of _ c.in-Ok.found.files.items c.in-Ok.found.content c.in-Ok.ensures.fits c.in-Ok.ensures.read;
  state_is = subst (λ (listed : List FileInfo). FoundState listed (found_of c.in-Ok.found.content) c.in-Ok-state_of.state) c.deref.ensures.value c.in-Ok-state_of.ensures;
}

pub returns-in-Err-NotAJournal : goal.returns-in-Err-NotAJournal
returns-in-Err-NotAJournal g c = record {
  files = c.in-Ok.found.files.items;
  found = _;
  seen = seen_of _ c.in-Ok.found.files.items c.in-Ok.found.content c.in-Ok.ensures.fits c.in-Ok.ensures.read;
  fault = subst (FoundFails (found_of c.in-Ok.found.content)) c.in-Err-NotAJournal.field-0-is c.in-Err-NotAJournal.ensures;
}

pub returns : goal.returns
returns g c = seen_halted _ c.in-Ok.found.files.items _ (seen_of _ c.in-Ok.found.files.items c.in-Ok.found.content c.in-Ok.ensures.fits c.in-Ok.ensures.read)
