-- The lines by what they are of.
use Rattle.std.specs.Prelude.{Bool, true, false}
use Rattle.report_text.specs.declared.line.Line.{Line}
use Rattle.report_text.specs.declared.line.Line.TheVariants.{Begun, Done, Sealed, Clear, Unused, Repaired, Unrepaired, RepairRepairedUnrepaired, InJob, Jobclear, Rehearse, Bytes, DriveSealedGood, DroppedFault, DroppedAbsent, DroppedLength, DroppedAltered, DroppedByte, FailedListAbsent, FailedListLength, FailedListByte, FailedGone, FailedLength, FailedAttachCard, FailedAttachDrive, FailedCard, FailedCardChanged, FailedCardAlteredMd5, FailedCardAlteredSha1, FailedCardAlteredXxhash64be, FailedDrive, JobfailedCard, JobfailedChanged, JobfailedAlteredMd5, JobfailedAlteredSha1, JobfailedAlteredXxhash64be, RefusedWords, RefusedEmptycard, RefusedToomanyfiles, RefusedToomanybytes, RefusedBadpath, RefusedBaddate, RefusedControl, RefusedToobig, RefusedClash, With, RefusedUnsealed, RefusedSourcemissing, RefusedSourcesize, RefusedOtherlist, RefusedNoroom, RefusedBegun, RefusedNotajournal, RefusedOccupied, RefusedNothingbegun, RefusedPlandiffers, RefusedCarddiffers, RefusedJournalfalseAbsent, RefusedJournalfalseLength, RefusedJournalfalseAltered, RefusedSpandiffers, Name, Username, Hostname, Tool, Startdate, Finishdate, Entry, Entries}

-- a line of a run, of a repair, of a shift or of a rehearsal
abbrev pub is_run : Line → Bool
is_run (Begun _ _ _) = true
is_run (Done _ _ _ _) = true
is_run (Sealed _ _ _) = true
is_run (Clear _ _) = true
is_run (Unused _) = true
is_run (Repaired _) = true
is_run (Unrepaired _) = true
is_run (RepairRepairedUnrepaired _ _) = true
is_run (InJob _) = true
is_run (Jobclear _ _ _) = true
is_run (Rehearse _ _) = true
is_run (Bytes _) = true
is_run (DriveSealedGood _ _) = true
is_run _ = false

-- a line on what was not as it was written or listed
abbrev pub is_loss : Line → Bool
is_loss (DroppedFault _) = true
is_loss (DroppedAbsent _ _) = true
is_loss (DroppedLength _ _ _ _) = true
is_loss (DroppedAltered _ _ _ _) = true
is_loss (DroppedByte _ _ _ _ _) = true
is_loss (FailedListAbsent _) = true
is_loss (FailedListLength _ _ _) = true
is_loss (FailedListByte _ _ _ _) = true
is_loss (FailedGone _) = true
is_loss (FailedLength _ _ _) = true
is_loss _ = false

-- a line on a call that failed, or on a card that was not as it was listed
abbrev pub is_failure : Line → Bool
is_failure FailedAttachCard = true
is_failure (FailedAttachDrive _) = true
is_failure FailedCard = true
is_failure (FailedCardChanged _ _ _) = true
is_failure (FailedCardAlteredMd5 _ _ _) = true
is_failure (FailedCardAlteredSha1 _ _ _) = true
is_failure (FailedCardAlteredXxhash64be _ _ _) = true
is_failure FailedDrive = true
is_failure (JobfailedCard _) = true
is_failure (JobfailedChanged _ _ _ _) = true
is_failure (JobfailedAlteredMd5 _ _ _ _) = true
is_failure (JobfailedAlteredSha1 _ _ _ _) = true
is_failure (JobfailedAlteredXxhash64be _ _ _ _) = true
is_failure _ = false

-- a line that refuses words, a card or a source
abbrev pub is_refusal : Line → Bool
is_refusal RefusedWords = true
is_refusal RefusedEmptycard = true
is_refusal (RefusedToomanyfiles _) = true
is_refusal (RefusedToomanybytes _) = true
is_refusal (RefusedBadpath _ _) = true
is_refusal (RefusedBaddate _) = true
is_refusal (RefusedControl _) = true
is_refusal (RefusedToobig _) = true
is_refusal (RefusedClash _) = true
is_refusal (With _) = true
is_refusal (RefusedUnsealed _) = true
is_refusal (RefusedSourcemissing _) = true
is_refusal (RefusedSourcesize _ _ _) = true
is_refusal (RefusedOtherlist _) = true
is_refusal (RefusedNoroom _) = true
is_refusal _ = false

-- a line that refuses what stands on the drives
abbrev pub is_standing : Line → Bool
is_standing (RefusedBegun _) = true
is_standing (RefusedNotajournal _ _) = true
is_standing (RefusedOccupied _ _) = true
is_standing RefusedNothingbegun = true
is_standing (RefusedPlandiffers _ _ _) = true
is_standing (RefusedCarddiffers _) = true
is_standing (RefusedJournalfalseAbsent _ _) = true
is_standing (RefusedJournalfalseLength _ _ _ _) = true
is_standing (RefusedJournalfalseAltered _ _ _ _) = true
is_standing (RefusedSpandiffers _) = true
is_standing _ = false

-- a line of a printed list
abbrev pub is_table : Line → Bool
is_table (Name _) = true
is_table (Username _) = true
is_table (Hostname _) = true
is_table (Tool _) = true
is_table (Startdate _) = true
is_table (Finishdate _) = true
is_table (Entry _ _ _ _ _ _) = true
is_table (Entries _) = true
is_table _ = false
