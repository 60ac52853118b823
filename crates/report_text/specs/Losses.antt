-- The text of each line on what was lost or failed: docs/FORMATS.md, "Lines".
use Rattle.std.specs.Prelude.{ℕ, ◌++◌, List, [], ◌∷◌, codes, decimal}
use Rattle.hex.specs.Hex.{encode_lower}
use Rattle.digest_set.specs.declared.triple.Triple.{Triple}
use Rattle.report_text.specs.Fields.{fields, triple_fields}

-- `dropped D fault`: a call on the drive failed
abbrev pub dropped_fault_text : ℕ → List ℕ
dropped_fault_text d = fields (codes "dropped") (decimal d ∷ codes "fault" ∷ [])

-- `dropped D absent PATH`: the file was not there to be read back
abbrev pub dropped_absent_text : ℕ → List ℕ → List ℕ
dropped_absent_text d path = fields (codes "dropped") (decimal d ∷ codes "absent" ∷ path ∷ [])

-- `dropped D length RECORDED READ PATH`: the file read back has another length
abbrev pub dropped_length_text : ℕ → ℕ → ℕ → List ℕ → List ℕ
dropped_length_text d recorded read path = fields (codes "dropped") (decimal d ∷ codes "length" ∷ decimal recorded ∷ decimal read ∷ path ∷ [])

-- `dropped D altered RECORDED READ PATH`: it has other digests; each three are said as MD5, SHA-1, XXH64
abbrev pub dropped_altered_text : ℕ → Triple → Triple → List ℕ → List ℕ
dropped_altered_text d recorded read path = fields (codes "dropped") (decimal d ∷ codes "altered" ∷ triple_fields recorded ++ triple_fields read ++ path ∷ [])

-- `dropped D byte AT WRITTEN READ LIST`: the first byte of the list that was read back otherwise
abbrev pub dropped_byte_text : ℕ → ℕ → ℕ → ℕ → List ℕ → List ℕ
dropped_byte_text d at written read list = fields (codes "dropped") (decimal d ∷ codes "byte" ∷ decimal at ∷ decimal written ∷ decimal read ∷ list ∷ [])

-- `failed list absent LIST`: the list was not there to be read back
abbrev pub failed_list_absent_text : List ℕ → List ℕ
failed_list_absent_text list = fields (codes "failed list absent") (list ∷ [])

-- `failed list length WRITTEN READ LIST`: the list read back has another length
abbrev pub failed_list_length_text : ℕ → ℕ → List ℕ → List ℕ
failed_list_length_text written read list = fields (codes "failed list length") (decimal written ∷ decimal read ∷ list ∷ [])

-- `failed list byte AT WRITTEN READ LIST`: its first byte that was read back otherwise
abbrev pub failed_list_byte_text : ℕ → ℕ → ℕ → List ℕ → List ℕ
failed_list_byte_text at written read list = fields (codes "failed list byte") (decimal at ∷ decimal written ∷ decimal read ∷ list ∷ [])

-- `failed gone PATH`: a listed file was not there to be read
abbrev pub failed_gone_text : List ℕ → List ℕ
failed_gone_text path = fields (codes "failed gone") (path ∷ [])

-- `failed length LISTED READ PATH`: the file has another length than is listed
abbrev pub failed_length_text : ℕ → ℕ → List ℕ → List ℕ
failed_length_text listed read path = fields (codes "failed length") (decimal listed ∷ decimal read ∷ path ∷ [])

-- `failed attach drive D`
abbrev pub failed_attach_drive_text : ℕ → List ℕ
failed_attach_drive_text d = fields (codes "failed attach drive") (decimal d ∷ [])

-- `failed card changed LISTED READ PATH`: the file of the card has another length than is listed
abbrev pub failed_card_changed_text : ℕ → ℕ → List ℕ → List ℕ
failed_card_changed_text listed read path = fields (codes "failed card changed") (decimal listed ∷ decimal read ∷ path ∷ [])

-- `failed card altered md5 LISTED READ PATH`: the file has another MD5 than the list of its folder says
abbrev pub failed_card_altered_md5_text : List ℕ → List ℕ → List ℕ → List ℕ
failed_card_altered_md5_text listed read path = fields (codes "failed card altered md5") (encode_lower listed ∷ encode_lower read ∷ path ∷ [])

-- `failed card altered sha1 LISTED READ PATH`
abbrev pub failed_card_altered_sha1_text : List ℕ → List ℕ → List ℕ → List ℕ
failed_card_altered_sha1_text listed read path = fields (codes "failed card altered sha1") (encode_lower listed ∷ encode_lower read ∷ path ∷ [])

-- `failed card altered xxhash64be LISTED READ PATH`
abbrev pub failed_card_altered_xxhash64be_text : List ℕ → List ℕ → List ℕ → List ℕ
failed_card_altered_xxhash64be_text listed read path = fields (codes "failed card altered xxhash64be") (encode_lower listed ∷ encode_lower read ∷ path ∷ [])

-- `jobfailed J card`: a call on the card of a job failed
abbrev pub jobfailed_card_text : ℕ → List ℕ
jobfailed_card_text job = fields (codes "jobfailed") (decimal job ∷ codes "card" ∷ [])

-- `jobfailed J changed LISTED READ PATH`
abbrev pub jobfailed_changed_text : ℕ → ℕ → ℕ → List ℕ → List ℕ
jobfailed_changed_text job listed read path = fields (codes "jobfailed") (decimal job ∷ codes "changed" ∷ decimal listed ∷ decimal read ∷ path ∷ [])

-- `jobfailed J altered md5 LISTED READ PATH`
abbrev pub jobfailed_altered_md5_text : ℕ → List ℕ → List ℕ → List ℕ → List ℕ
jobfailed_altered_md5_text job listed read path = fields (codes "jobfailed") (decimal job ∷ codes "altered md5" ∷ encode_lower listed ∷ encode_lower read ∷ path ∷ [])

-- `jobfailed J altered sha1 LISTED READ PATH`
abbrev pub jobfailed_altered_sha1_text : ℕ → List ℕ → List ℕ → List ℕ → List ℕ
jobfailed_altered_sha1_text job listed read path = fields (codes "jobfailed") (decimal job ∷ codes "altered sha1" ∷ encode_lower listed ∷ encode_lower read ∷ path ∷ [])

-- `jobfailed J altered xxhash64be LISTED READ PATH`
abbrev pub jobfailed_altered_xxhash64be_text : ℕ → List ℕ → List ℕ → List ℕ → List ℕ
jobfailed_altered_xxhash64be_text job listed read path = fields (codes "jobfailed") (decimal job ∷ codes "altered xxhash64be" ∷ encode_lower listed ∷ encode_lower read ∷ path ∷ [])
