-- The text of each line that the station says, without its line feed: docs/FORMATS.md, "Lines".
use Rattle.std.specs.Prelude.{ℕ, ◌≤◌, ◌-◌, ◌++◌, List, [], ◌∷◌, length, replicate, Option, Some, None, IfSome, option_map, codes, decimal}
use Rattle.hex.specs.Hex.{encode_lower}
use Rattle.path_text.specs.Moment.{moment_text}
use Rattle.report_text.specs.Fields.{fields, IsCause}
use Rattle.report_text.specs.Run.{begun_text, done_text, sealed_text, clear_text, unused_text, repaired_text, unrepaired_text, repair_text, in_job_text, jobclear_text, rehearse_text, bytes_text, drive_sealed_good_text}
use Rattle.report_text.specs.Losses.{dropped_fault_text, dropped_absent_text, dropped_length_text, dropped_altered_text, dropped_byte_text, failed_list_absent_text, failed_list_length_text, failed_list_byte_text, failed_gone_text, failed_length_text, failed_attach_drive_text, failed_card_changed_text, failed_card_altered_md5_text, failed_card_altered_sha1_text, failed_card_altered_xxhash64be_text, jobfailed_card_text, jobfailed_changed_text, jobfailed_altered_md5_text, jobfailed_altered_sha1_text, jobfailed_altered_xxhash64be_text}
use Rattle.report_text.specs.Refusals.{refused_toomanyfiles_text, refused_toomanybytes_text, refused_badpath_text, refused_baddate_text, refused_control_text, refused_toobig_text, refused_clash_text, with_text, refused_unsealed_text, refused_sourcemissing_text, refused_sourcesize_text, refused_otherlist_text, refused_noroom_text, refused_begun_text, refused_notajournal_text, refused_occupied_text, refused_plandiffers_text, refused_carddiffers_text, refused_journalfalse_absent_text, refused_journalfalse_length_text, refused_journalfalse_altered_text, refused_spandiffers_text}
use Rattle.report_text.specs.declared.line.Line.{Line}
use Rattle.report_text.specs.declared.line.Line.TheVariants.{Begun, Done, Sealed, Clear, Unused, Repaired, Unrepaired, RepairRepairedUnrepaired, InJob, Jobclear, Rehearse, Bytes, DriveSealedGood, DroppedFault, DroppedAbsent, DroppedLength, DroppedAltered, DroppedByte, FailedListAbsent, FailedListLength, FailedListByte, FailedGone, FailedLength, FailedAttachCard, FailedAttachDrive, FailedCard, FailedCardChanged, FailedCardAlteredMd5, FailedCardAlteredSha1, FailedCardAlteredXxhash64be, FailedDrive, JobfailedCard, JobfailedChanged, JobfailedAlteredMd5, JobfailedAlteredSha1, JobfailedAlteredXxhash64be, RefusedWords, RefusedEmptycard, RefusedToomanyfiles, RefusedToomanybytes, RefusedBadpath, RefusedBaddate, RefusedControl, RefusedToobig, RefusedClash, With, RefusedUnsealed, RefusedSourcemissing, RefusedSourcesize, RefusedOtherlist, RefusedNoroom, RefusedBegun, RefusedNotajournal, RefusedOccupied, RefusedNothingbegun, RefusedPlandiffers, RefusedCarddiffers, RefusedJournalfalseAbsent, RefusedJournalfalseLength, RefusedJournalfalseAltered, RefusedSpandiffers, Missing, Unchecked, Unlisted, AlteredSize, AlteredMd5, AlteredSha1, AlteredXxhash64be, Verdict, UnreadableAbsent, UnreadableToolarge, UnreadableVersion, Unreadable, Name, Username, Hostname, Tool, Startdate, Finishdate, Entry, Entries, Memory}

-- a text right in so many places, with spaces before it
abbrev pub right : ℕ → List ℕ → List ℕ
right places text = replicate (places - length text) 32 ++ text

-- a text left in so many places, with spaces behind it
abbrev pub left : ℕ → List ℕ → List ℕ
left places text = text ++ replicate (places - length text) 32

-- a text, or `-` for what is absent
abbrev pub or_dash : Option (List ℕ) → List ℕ
or_dash None = codes "-"
or_dash (Some text) = text

-- The text of each form: a path is last, numbers are decimal, digests are in lower case digits.
abbrev pub missing_text : List ℕ → List ℕ
missing_text path = fields (codes "missing") (path ∷ [])

abbrev pub unchecked_text : List ℕ → List ℕ
unchecked_text path = fields (codes "unchecked") (path ∷ [])

abbrev pub unlisted_text : List ℕ → List ℕ
unlisted_text path = fields (codes "unlisted") (path ∷ [])

abbrev pub altered_size_text : ℕ → ℕ → List ℕ → List ℕ
altered_size_text listed found path = fields (codes "altered size") (decimal listed ∷ decimal found ∷ path ∷ [])

abbrev pub altered_md5_text : List ℕ → List ℕ → List ℕ → List ℕ
altered_md5_text listed found path = fields (codes "altered md5") (encode_lower listed ∷ encode_lower found ∷ path ∷ [])

abbrev pub altered_sha1_text : List ℕ → List ℕ → List ℕ → List ℕ
altered_sha1_text listed found path = fields (codes "altered sha1") (encode_lower listed ∷ encode_lower found ∷ path ∷ [])

abbrev pub altered_xxhash64be_text : List ℕ → List ℕ → List ℕ → List ℕ
altered_xxhash64be_text listed found path = fields (codes "altered xxhash64be") (encode_lower listed ∷ encode_lower found ∷ path ∷ [])

abbrev pub verdict_text : List ℕ → ℕ → ℕ → ℕ → ℕ → ℕ → List ℕ
verdict_text word entries missing altered unchecked unlisted =
    fields (codes "verdict") (word ∷ decimal entries ∷ codes "entries" ∷ decimal missing ∷ codes "missing" ∷ decimal altered ∷ codes "altered"
    ∷ decimal unchecked ∷ codes "unchecked" ∷ decimal unlisted ∷ codes "unlisted" ∷ [])

abbrev pub unreadable_toolarge_text : ℕ → List ℕ
unreadable_toolarge_text len = fields (codes "unreadable toolarge") (decimal len ∷ [])

abbrev pub unreadable_text : List ℕ → ℕ → List ℕ
unreadable_text what at = fields (codes "unreadable") (what ∷ decimal at ∷ [])

-- The lines of a printed list. Of its creator: a word, and the text or the moment.
abbrev pub note_text : List ℕ → Option (List ℕ) → List ℕ
note_text word note = fields word (or_dash note ∷ [])

abbrev pub date_text : List ℕ → Option ℕ → List ℕ
date_text word moment = fields word (or_dash (option_map moment_text moment) ∷ [])

-- of an entry: its size, its date and its three digests in columns, and its path
abbrev pub entry_row : Option ℕ → Option ℕ → Option (List ℕ) → Option (List ℕ) → Option (List ℕ) → List ℕ → List ℕ
entry_row size modified md5 sha1 xxh path =
    fields (right 20 (or_dash (option_map decimal size)))
    (left 20 (or_dash (option_map moment_text modified))
    ∷ left 32 (or_dash (option_map encode_lower md5))
    ∷ left 40 (or_dash (option_map encode_lower sha1))
    ∷ left 16 (or_dash (option_map encode_lower xxh))
    ∷ path ∷ [])

-- of them all: their number
abbrev pub entries_text : ℕ → List ℕ
entries_text count = fields (codes "entries") (decimal count ∷ [])

-- the text of a line
abbrev pub line_text : Line → List ℕ
line_text (Begun d records files) = begun_text d records files
line_text (Done d records files path) = done_text d records files path.now
line_text (Sealed d files list) = sealed_text d files list.now
line_text (Clear drives required) = clear_text drives required
line_text (Unused d) = unused_text d
line_text (Repaired path) = repaired_text path.now
line_text (Unrepaired path) = unrepaired_text path.now
line_text (RepairRepairedUnrepaired repaired unrepaired) = repair_text repaired unrepaired
line_text (InJob job) = in_job_text job
line_text (Jobclear job drives required) = jobclear_text job drives required
line_text (Rehearse number files) = rehearse_text number files
line_text (Bytes sum) = bytes_text sum
line_text (DriveSealedGood d list) = drive_sealed_good_text d list.now
line_text (DroppedFault d) = dropped_fault_text d
line_text (DroppedAbsent d path) = dropped_absent_text d path.now
line_text (DroppedLength d recorded read path) = dropped_length_text d recorded read path.now
line_text (DroppedAltered d recorded read path) = dropped_altered_text d recorded.now read.now path.now
line_text (DroppedByte d at written read list) = dropped_byte_text d at written read list.now
line_text (FailedListAbsent list) = failed_list_absent_text list.now
line_text (FailedListLength written read list) = failed_list_length_text written read list.now
line_text (FailedListByte at written read list) = failed_list_byte_text at written read list.now
line_text (FailedGone path) = failed_gone_text path.now
line_text (FailedLength listed read path) = failed_length_text listed read path.now
line_text FailedAttachCard = codes "failed attach card"
line_text (FailedAttachDrive d) = failed_attach_drive_text d
line_text FailedCard = codes "failed card"
line_text (FailedCardChanged listed read path) = failed_card_changed_text listed read path.now
line_text (FailedCardAlteredMd5 listed read path) = failed_card_altered_md5_text listed read path.now
line_text (FailedCardAlteredSha1 listed read path) = failed_card_altered_sha1_text listed read path.now
line_text (FailedCardAlteredXxhash64be listed read path) = failed_card_altered_xxhash64be_text listed read path.now
line_text FailedDrive = codes "failed drive"
line_text (JobfailedCard job) = jobfailed_card_text job
line_text (JobfailedChanged job listed read path) = jobfailed_changed_text job listed read path.now
line_text (JobfailedAlteredMd5 job listed read path) = jobfailed_altered_md5_text job listed read path.now
line_text (JobfailedAlteredSha1 job listed read path) = jobfailed_altered_sha1_text job listed read path.now
line_text (JobfailedAlteredXxhash64be job listed read path) = jobfailed_altered_xxhash64be_text job listed read path.now
line_text RefusedWords = codes "refused words"
line_text RefusedEmptycard = codes "refused emptycard"
line_text (RefusedToomanyfiles count) = refused_toomanyfiles_text count
line_text (RefusedToomanybytes sum) = refused_toomanybytes_text sum
line_text (RefusedBadpath index cause) = refused_badpath_text index cause.now
line_text (RefusedBaddate path) = refused_baddate_text path.now
line_text (RefusedControl path) = refused_control_text path.now
line_text (RefusedToobig path) = refused_toobig_text path.now
line_text (RefusedClash path) = refused_clash_text path.now
line_text (With path) = with_text path.now
line_text (RefusedUnsealed path) = refused_unsealed_text path.now
line_text (RefusedSourcemissing path) = refused_sourcemissing_text path.now
line_text (RefusedSourcesize listed found path) = refused_sourcesize_text listed found path.now
line_text (RefusedOtherlist list) = refused_otherlist_text list.now
line_text (RefusedNoroom path) = refused_noroom_text path.now
line_text (RefusedBegun d) = refused_begun_text d
line_text (RefusedNotajournal d at) = refused_notajournal_text d at
line_text (RefusedOccupied d path) = refused_occupied_text d path.now
line_text RefusedNothingbegun = codes "refused nothingbegun"
line_text (RefusedPlandiffers first second at) = refused_plandiffers_text first second at
line_text (RefusedCarddiffers at) = refused_carddiffers_text at
line_text (RefusedJournalfalseAbsent d path) = refused_journalfalse_absent_text d path.now
line_text (RefusedJournalfalseLength d recorded read path) = refused_journalfalse_length_text d recorded read path.now
line_text (RefusedJournalfalseAltered d recorded read path) = refused_journalfalse_altered_text d recorded.now read.now path.now
line_text (RefusedSpandiffers d) = refused_spandiffers_text d
line_text (Missing path) = missing_text path.now
line_text (Unchecked path) = unchecked_text path.now
line_text (Unlisted path) = unlisted_text path.now
line_text (AlteredSize listed found path) = altered_size_text listed found path.now
line_text (AlteredMd5 listed found path) = altered_md5_text listed found path.now
line_text (AlteredSha1 listed found path) = altered_sha1_text listed found path.now
line_text (AlteredXxhash64be listed found path) = altered_xxhash64be_text listed found path.now
line_text (Verdict word entries missing altered unchecked unlisted) = verdict_text word.now entries missing altered unchecked unlisted
line_text UnreadableAbsent = codes "unreadable absent"
line_text (UnreadableToolarge len) = unreadable_toolarge_text len
line_text UnreadableVersion = codes "unreadable version"
line_text (Unreadable what at) = unreadable_text what.now at
line_text (Name note) = note_text (codes "name") (option_map (λ t. t.now) note)
line_text (Username note) = note_text (codes "username") (option_map (λ t. t.now) note)
line_text (Hostname note) = note_text (codes "hostname") (option_map (λ t. t.now) note)
line_text (Tool note) = note_text (codes "tool") (option_map (λ t. t.now) note)
line_text (Startdate moment) = date_text (codes "startdate") moment
line_text (Finishdate moment) = date_text (codes "finishdate") moment
line_text (Entry size modified md5 sha1 xxh path) = entry_row size modified md5 sha1 xxh path.now
line_text (Entries count) = entries_text count
line_text Memory = codes "memory"

-- each text in the line has at most 1,024 bytes, and a cause is one that a text has
abbrev pub IsSayable : Line → Type 0
IsSayable (Done d records files path) = length path.now ≤ 1024
IsSayable (Sealed d files list) = length list.now ≤ 1024
IsSayable (Repaired path) = length path.now ≤ 1024
IsSayable (Unrepaired path) = length path.now ≤ 1024
IsSayable (DriveSealedGood d list) = length list.now ≤ 1024
IsSayable (DroppedAbsent d path) = length path.now ≤ 1024
IsSayable (DroppedLength d recorded read path) = length path.now ≤ 1024
IsSayable (DroppedAltered d recorded read path) = length path.now ≤ 1024
IsSayable (DroppedByte d at written read list) = length list.now ≤ 1024
IsSayable (FailedListAbsent list) = length list.now ≤ 1024
IsSayable (FailedListLength written read list) = length list.now ≤ 1024
IsSayable (FailedListByte at written read list) = length list.now ≤ 1024
IsSayable (FailedGone path) = length path.now ≤ 1024
IsSayable (FailedLength listed read path) = length path.now ≤ 1024
IsSayable (FailedCardChanged listed read path) = length path.now ≤ 1024
IsSayable (FailedCardAlteredMd5 listed read path) = length path.now ≤ 1024
IsSayable (FailedCardAlteredSha1 listed read path) = length path.now ≤ 1024
IsSayable (FailedCardAlteredXxhash64be listed read path) = length path.now ≤ 1024
IsSayable (JobfailedChanged job listed read path) = length path.now ≤ 1024
IsSayable (JobfailedAlteredMd5 job listed read path) = length path.now ≤ 1024
IsSayable (JobfailedAlteredSha1 job listed read path) = length path.now ≤ 1024
IsSayable (JobfailedAlteredXxhash64be job listed read path) = length path.now ≤ 1024
IsSayable (RefusedBadpath index cause) = IsCause cause.now
IsSayable (RefusedBaddate path) = length path.now ≤ 1024
IsSayable (RefusedControl path) = length path.now ≤ 1024
IsSayable (RefusedToobig path) = length path.now ≤ 1024
IsSayable (RefusedClash path) = length path.now ≤ 1024
IsSayable (With path) = length path.now ≤ 1024
IsSayable (RefusedUnsealed path) = length path.now ≤ 1024
IsSayable (RefusedSourcemissing path) = length path.now ≤ 1024
IsSayable (RefusedSourcesize listed found path) = length path.now ≤ 1024
IsSayable (RefusedOtherlist list) = length list.now ≤ 1024
IsSayable (RefusedNoroom path) = length path.now ≤ 1024
IsSayable (RefusedOccupied d path) = length path.now ≤ 1024
IsSayable (RefusedJournalfalseAbsent d path) = length path.now ≤ 1024
IsSayable (RefusedJournalfalseLength d recorded read path) = length path.now ≤ 1024
IsSayable (RefusedJournalfalseAltered d recorded read path) = length path.now ≤ 1024
IsSayable (Missing path) = length path.now ≤ 1024
IsSayable (Unchecked path) = length path.now ≤ 1024
IsSayable (Unlisted path) = length path.now ≤ 1024
IsSayable (AlteredSize listed found path) = length path.now ≤ 1024
IsSayable (AlteredMd5 listed found path) = length path.now ≤ 1024
IsSayable (AlteredSha1 listed found path) = length path.now ≤ 1024
IsSayable (AlteredXxhash64be listed found path) = length path.now ≤ 1024
IsSayable (Verdict word entries missing altered unchecked unlisted) = length word.now ≤ 1024
IsSayable (Unreadable what at) = length what.now ≤ 1024
IsSayable (Name note) = IfSome note (λ t. length t.now ≤ 1024)
IsSayable (Username note) = IfSome note (λ t. length t.now ≤ 1024)
IsSayable (Hostname note) = IfSome note (λ t. length t.now ≤ 1024)
IsSayable (Tool note) = IfSome note (λ t. length t.now ≤ 1024)
IsSayable (Entry size modified md5 sha1 xxh path) = length path.now ≤ 1024
IsSayable _ = Unit {0}
