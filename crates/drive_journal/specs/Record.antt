-- The record of a file in a drive's journal: docs/FORMATS.md, "The journal".
use Rattle.std.specs.Prelude.{ℕ, List, [], ◌∷◌, ◌++◌}
use Rattle.std.specs.Int.{to_be_bytes, w32, w64}
use Rattle.drive_journal.specs.declared.record.Rec.{Rec}

-- number of the file, size, MD5, SHA-1, XXH64 and the second at which it was hashed; each number with its most significant byte first
unfoldable pub record_code : Rec → List ℕ
record_code rec = to_be_bytes w32 rec.index ++ to_be_bytes w64 rec.size ++ rec.triple.md5 ++ rec.triple.sha1 ++ rec.triple.xxh ++ to_be_bytes w64 rec.hashed

-- a record with a closed gate behind it
abbrev pub closed_record : Rec → List ℕ
closed_record rec = record_code rec ++ 0 ∷ []
