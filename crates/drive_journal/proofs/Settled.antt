-- Calls that change nothing leave a drive settled.
use Rattle.std.proofs.Common.{◌≡◌, ℕ, List, ◌∙◌, ap, subst, sym}
use Rattle.bay_core.specs.declared.event.Event.{Event}
use Rattle.bay_core.specs.Left.{IsSettled}
use Rattle.bay_core.specs.Looks.{IsUntouched}
use Rattle.bay_core.specs.Replay.{Drive, reads}
use Rattle.bay_core.specs.Went.{Went, Only}
use Rattle.bay_core.specs.World.{World}
use Rattle.bay_core.proofs.Looking.{reads_kept, untouched_on}
use Rattle.bay_core.proofs.Rest.{untouched_settled}
use Rattle.bay_core.proofs.Runs.{told_since}
use Rattle.drive_journal.specs.Look.{StaysSettled}

pub stays_settled : (d : ℕ) {old new : World} → Went (Only (Drive d)) IsUntouched old new → StaysSettled d old new
stays_settled d {old} {new} w = record {
  same = λ m before all h now.
      let t = told_since w before all h.events now in
      ap (λ (l : List Event). reads m l d) t.is ∙ reads_kept m before t.since d t.such;
  settled = λ m before all h now rest.
      let t = told_since w before all h.events now in
      subst (λ (l : List Event). IsSettled m l d) (sym t.is) (untouched_settled m before t.since d (untouched_on d t.since t.such) rest);
}
