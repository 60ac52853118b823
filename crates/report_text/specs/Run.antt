-- The text of each line of a run: of an offload, of a repair, of a shift and of a rehearsal: docs/FORMATS.md, "Lines".
use Rattle.std.specs.Prelude.{ℕ, List, [], ◌∷◌, codes, decimal}
use Rattle.report_text.specs.Fields.{fields}

-- `begun D K N`: the journal of the drive is settled, with K records of N files
abbrev pub begun_text : ℕ → ℕ → ℕ → List ℕ
begun_text d records files = fields (codes "begun") (decimal d ∷ decimal records ∷ decimal files ∷ [])

-- `done D K N PATH`: the record of the file is settled on the drive, as its K-th of N
abbrev pub done_text : ℕ → ℕ → ℕ → List ℕ → List ℕ
done_text d records files path = fields (codes "done") (decimal d ∷ decimal records ∷ decimal files ∷ path ∷ [])

-- `sealed D N LIST`: the list of N files is settled on the drive under its name
abbrev pub sealed_text : ℕ → ℕ → List ℕ → List ℕ
sealed_text d files list = fields (codes "sealed") (decimal d ∷ decimal files ∷ list ∷ [])

-- `clear C COPIES`: C drives are sealed, of which COPIES are required
abbrev pub clear_text : ℕ → ℕ → List ℕ
clear_text drives required = fields (codes "clear") (decimal drives ∷ decimal required ∷ [])

-- `unused D`: no file of the card goes to the drive
abbrev pub unused_text : ℕ → List ℕ
unused_text d = fields (codes "unused") (decimal d ∷ [])

-- `repaired PATH`: the file was replaced by a good one
abbrev pub repaired_text : List ℕ → List ℕ
repaired_text path = fields (codes "repaired") (path ∷ [])

-- `unrepaired PATH`: there was no good file to replace it by
abbrev pub unrepaired_text : List ℕ → List ℕ
unrepaired_text path = fields (codes "unrepaired") (path ∷ [])

-- `repair R repaired U unrepaired`: how many files were replaced, and how many not
abbrev pub repair_text : ℕ → ℕ → List ℕ
repair_text repaired unrepaired = fields (codes "repair") (decimal repaired ∷ codes "repaired" ∷ decimal unrepaired ∷ codes "unrepaired" ∷ [])

-- `in job J`: the line before is of that job
abbrev pub in_job_text : ℕ → List ℕ
in_job_text job = fields (codes "in job") (decimal job ∷ [])

-- `jobclear J C COPIES`: of a job, what `clear` says of a card
abbrev pub jobclear_text : ℕ → ℕ → ℕ → List ℕ
jobclear_text job drives required = fields (codes "jobclear") (decimal job ∷ decimal drives ∷ decimal required ∷ [])

-- `rehearse NUMBER FILES`: what was rehearsed
abbrev pub rehearse_text : ℕ → ℕ → List ℕ
rehearse_text number files = fields (codes "rehearse") (decimal number ∷ decimal files ∷ [])

-- `bytes SUM`: the bytes of the files of the rehearsed card
abbrev pub bytes_text : ℕ → List ℕ
bytes_text sum = fields (codes "bytes") (decimal sum ∷ [])

-- `drive D sealed LIST good`: a drive of the rehearsal is sealed by the list, and verified good
abbrev pub drive_sealed_good_text : ℕ → List ℕ → List ℕ
drive_sealed_good_text d list = fields (codes "drive") (decimal d ∷ codes "sealed" ∷ list ∷ codes "good" ∷ [])
