-- How a run of a job ends, with which lines and which status: docs/FORMATS.md, "Statuses".
use Rattle.std.specs.Prelude.{ℕ, List, [], ◌∷◌, codes}
use Rattle.card_inventory.specs.declared.error.InventoryError.{InventoryError}
use Rattle.card_inventory.specs.declared.error.InventoryError.TheVariants.{SourceFailed, EmptyCard, TooManyFiles, BadPath, BadDate, TooManyBytes, Control, TooBig, Clash as FilesClash, Memory as CardMemory}
use Rattle.report_text.specs.Losses.{failed_attach_drive_text, failed_card_changed_text}
use Rattle.report_text.specs.Refusals.{refused_toomanyfiles_text, refused_badpath_text, refused_baddate_text, refused_toomanybytes_text, refused_control_text, refused_toobig_text, refused_clash_text, with_text, refused_begun_text, refused_notajournal_text, refused_occupied_text}
use Rattle.fresh_opening.specs.declared.error.FreshError.{FreshError}
use Rattle.fresh_opening.specs.declared.error.FreshError.TheVariants.{Inventory, NotAJournal, AlreadyBegun, NoDrive, Clash, Occupied, OutFailed as LineFailed, Memory}
use Rattle.last_lines.specs.Ends.{End, with_line, with_lines, with_status, memory_end}

-- How a run ends: each drive is sealed; each is sealed or dropped, and one at least is dropped; it is refused; the card, or the drive with this number, could not be
-- attached; a call on the card failed; a file of the card has another length than is listed; a line was not said; or memory was wanting.
pub data JobEnd : Type 0 where
  Sealed : JobEnd
  Dropped : JobEnd
  Refused : FreshError → JobEnd
  CardUnattached : JobEnd
  DriveUnattached : ℕ → JobEnd
  CardFailed : JobEnd
  CardChanged : ℕ → ℕ → List ℕ → JobEnd  -- listed, read, path
  OutFailed : JobEnd
  NoMemory : JobEnd

-- the lines of a card that has no inventory
abbrev pub listing_lines : InventoryError → List (List ℕ)
listing_lines EmptyCard = codes "refused emptycard" ∷ []
listing_lines (TooManyFiles count) = refused_toomanyfiles_text count ∷ []
listing_lines (BadPath index cause) = refused_badpath_text index cause ∷ []
listing_lines (BadDate path) = refused_baddate_text path ∷ []
listing_lines (TooManyBytes sum) = refused_toomanybytes_text sum ∷ []
listing_lines (Control path) = refused_control_text path ∷ []
listing_lines (TooBig path) = refused_toobig_text path ∷ []
listing_lines (FilesClash first second) = refused_clash_text first ∷ with_text second ∷ []
listing_lines SourceFailed = []
listing_lines CardMemory = []

-- the lines of a refusal; of a clash there are two, and the name of a list comes first
abbrev pub refusal_lines : FreshError → List (List ℕ)
refusal_lines (Inventory e) = listing_lines e
refusal_lines (NotAJournal d at) = refused_notajournal_text d at ∷ []
refusal_lines (AlreadyBegun d) = refused_begun_text d ∷ []
refusal_lines (Clash list path) = refused_clash_text list ∷ with_text path ∷ []
refusal_lines (Occupied d path) = refused_occupied_text d path ∷ []
refusal_lines NoDrive = []
refusal_lines LineFailed = []
refusal_lines Memory = []

-- the last lines of a run that ended so, and its status
abbrev pub last_of : JobEnd → End
last_of Sealed = with_status 0
last_of Dropped = with_status 1
last_of (Refused e) = with_lines (refusal_lines e) 3
last_of CardUnattached = with_line (codes "failed attach card") 4
last_of (DriveUnattached d) = with_line (failed_attach_drive_text d) 4
last_of CardFailed = with_line (codes "failed card") 4
last_of (CardChanged listed read path) = with_line (failed_card_changed_text listed read path) 4
last_of OutFailed = with_status 5
last_of NoMemory = memory_end

-- how a run ends whose opening answered so
abbrev pub listing_end : InventoryError → JobEnd
listing_end SourceFailed = CardFailed
listing_end CardMemory = NoMemory
listing_end e = Refused (Inventory e)

abbrev pub opening_end : FreshError → JobEnd
opening_end (Inventory e) = listing_end e
opening_end (NotAJournal d at) = Refused (NotAJournal d at)
opening_end (AlreadyBegun d) = Refused (AlreadyBegun d)
opening_end (Clash list path) = Refused (Clash list path)
opening_end (Occupied d path) = Refused (Occupied d path)
opening_end NoDrive = Dropped
opening_end LineFailed = OutFailed
opening_end Memory = NoMemory
