-- The one canonical text of a list, and which lists have one. This station's own layout: docs/FORMATS.md, "Lists".
use Rattle.std.specs.Prelude.{ℕ, ◌≡◌, ◌≤◌, ◌<◌, ◌^◌, ◌++◌, Bool, ◌||◌, List, [], ◌∷◌, length, map, Option, Some, None, is_some, IfSome, IsSomeAnd, IsTrue, codes, decimal, if◌then◌else◌, ◌==◌}
use Rattle.std.specs.List.{flat_map, AllByRecursion, IsDistinct}
use Rattle.std.specs.Str.{bytes_eq}
use Rattle.hex.specs.Hex.{encode_lower, IsBytes}
use Rattle.path_text.specs.Path.{is_path}
use Rattle.mhl_writer.specs.Note.{is_note}
use Rattle.path_text.specs.Moment.{last_moment, moment_text}
use Rattle.mhl_writer.specs.declared.values.HashEntry.{HashEntry}
use Rattle.mhl_writer.specs.declared.values.Creator.{Creator}
use Rattle.mhl_writer.specs.declared.values.HashList.{HashList}
use Rattle.mhl_writer.specs.declared.parts.HeadPart.{HeadPart}
use Rattle.mhl_writer.specs.declared.parts.EntryPart.{EntryPart}

-- a byte of a text as it is written: & (38), < (60) and > (62) by their names
abbrev pub escape : ℕ → List ℕ
escape b = if b == 38 then codes "&amp;" else (if b == 60 then codes "&lt;" else (if b == 62 then codes "&gt;" else b ∷ []))

-- a whole text, so written
abbrev pub escaped : List ℕ → List ℕ
escaped text = flat_map escape text

-- a part that is there, and nothing for one that is not
abbrev pub part : {A : Type 0} → (A → List ℕ) → Option A → List ℕ
part text None = []
part text (Some x) = text x

-- one line of the list
abbrev pub line : List ℕ → List ℕ → List ℕ → List ℕ
line opening text closing = opening ++ (text ++ closing)

-- the lines of an entry
abbrev pub file_line : List ℕ → List ℕ
file_line path = line (codes "    <file>") (escaped path) (codes "</file>\n")

abbrev pub size_line : ℕ → List ℕ
size_line n = line (codes "    <size>") (decimal n) (codes "</size>\n")

abbrev pub modified_line : ℕ → List ℕ
modified_line t = line (codes "    <lastmodificationdate>") (moment_text t) (codes "</lastmodificationdate>\n")

abbrev pub md5_line : List ℕ → List ℕ
md5_line digest = line (codes "    <md5>") (encode_lower digest) (codes "</md5>\n")

abbrev pub sha1_line : List ℕ → List ℕ
sha1_line digest = line (codes "    <sha1>") (encode_lower digest) (codes "</sha1>\n")

abbrev pub xxh_line : List ℕ → List ℕ
xxh_line digest = line (codes "    <xxhash64be>") (encode_lower digest) (codes "</xxhash64be>\n")

abbrev pub hashed_line : ℕ → List ℕ
hashed_line t = line (codes "    <hashdate>") (moment_text t) (codes "</hashdate>\n")

-- the lines of a creator
abbrev pub name_line : List ℕ → List ℕ
name_line note = line (codes "    <name>") (escaped note) (codes "</name>\n")

abbrev pub username_line : List ℕ → List ℕ
username_line note = line (codes "    <username>") (escaped note) (codes "</username>\n")

abbrev pub hostname_line : List ℕ → List ℕ
hostname_line note = line (codes "    <hostname>") (escaped note) (codes "</hostname>\n")

abbrev pub tool_line : List ℕ → List ℕ
tool_line note = line (codes "    <tool>") (escaped note) (codes "</tool>\n")

abbrev pub started_line : ℕ → List ℕ
started_line t = line (codes "    <startdate>") (moment_text t) (codes "</startdate>\n")

abbrev pub finished_line : ℕ → List ℕ
finished_line t = line (codes "    <finishdate>") (moment_text t) (codes "</finishdate>\n")

-- an entry: its lines in this order, without those of what it does not have
unfoldable pub entry_text : HashEntry → List ℕ
entry_text e =
    codes "  <hash>\n"
    ++ (file_line e.path
    ++ (part size_line e.size
    ++ (part modified_line e.modified
    ++ (part md5_line e.md5
    ++ (part sha1_line e.sha1
    ++ (part xxh_line e.xxh
    ++ (part hashed_line e.hashed
    ++ codes "  </hash>\n")))))))

-- a creator, likewise
unfoldable pub creator_text : Creator → List ℕ
creator_text c =
    codes "  <creatorinfo>\n"
    ++ (part name_line c.name
    ++ (part username_line c.username
    ++ (part hostname_line c.hostname
    ++ (part tool_line c.tool
    ++ (part started_line c.started
    ++ (part finished_line c.finished
    ++ codes "  </creatorinfo>\n"))))))

-- a list without where it lies in memory
pub record Values : Type 0 where
  pub creator : Creator
  pub entries : List HashEntry

abbrev pub values_of : HashList → Values
values_of l = record { creator = l.creator; entries = l.entries.items }

-- what a list begins with
abbrev pub first_lines : List ℕ
first_lines = codes "<?xml version=\"1.0\" encoding=\"UTF-8\"?>\n<hashlist version=\"1.1\">\n"

-- the part before the entries, and the part behind them
abbrev pub head_text : Creator → List ℕ
head_text c = first_lines ++ creator_text c

abbrev pub tail_text : List ℕ
tail_text = codes "</hashlist>\n"

-- the text of a list: its head, then each entry, then its tail
abbrev pub list_text : Values → List ℕ
list_text l = head_text l.creator ++ (flat_map entry_text l.entries ++ tail_text)

-- what the two parts with values borrow
abbrev pub creator_of : HeadPart → Creator
creator_of head = record {
  name = Some head.name.now;
  username = Some head.username.now;
  hostname = Some head.hostname.now;
  tool = Some head.tool.now;
  started = Some head.started;
  finished = Some head.finished;
}

abbrev pub entry_of : EntryPart → HashEntry
entry_of e = record {
  path = e.path.now;
  size = Some e.size;
  modified = Some e.modified;
  hashed = Some e.hashed;
  md5 = e.md5;
  sha1 = e.sha1;
  xxh = e.xxh;
}

-- a digest of n bytes
pub record IsDigest (n : ℕ) (digest : List ℕ) : Type 0 where
  pub long : length digest ≡ n
  pub bytes : IsBytes digest

-- at least one digest is there
abbrev pub has_digest : HashEntry → Bool
has_digest e = is_some e.md5 || (is_some e.sha1 || is_some e.xxh)

-- an entry with its size, both its moments and at least one digest
pub record IsWholeEntry (e : HashEntry) : Type 0 where
  pub path : IsTrue (is_path e.path)
  pub size : IsSomeAnd e.size (λ n. n < 2 ^ 64)
  pub modified : IsSomeAnd e.modified (λ t. t ≤ last_moment)
  pub hashed : IsSomeAnd e.hashed (λ t. t ≤ last_moment)
  pub md5 : IfSome e.md5 (IsDigest 16)
  pub sha1 : IfSome e.sha1 (IsDigest 20)
  pub xxh : IfSome e.xxh (IsDigest 8)
  pub digest : IsTrue (has_digest e)

-- a creator with all its notes and both its moments
pub record IsWholeCreator (c : Creator) : Type 0 where
  pub name : IsSomeAnd c.name (λ note. IsTrue (is_note note))
  pub username : IsSomeAnd c.username (λ note. IsTrue (is_note note))
  pub hostname : IsSomeAnd c.hostname (λ note. IsTrue (is_note note))
  pub tool : IsSomeAnd c.tool (λ note. IsTrue (is_note note))
  pub started : IsSomeAnd c.started (λ t. t ≤ last_moment)
  pub finished : IsSomeAnd c.finished (λ t. t ≤ last_moment)

-- the paths of the entries, in their order
abbrev pub paths_of : List HashEntry → List (List ℕ)
paths_of entries = map (λ e. e.path) entries

-- a list that has a canonical text: all is there, no two entries have the same path, and there are few enough of them
pub record IsCanonical (l : Values) : Type 0 where
  pub creator : IsWholeCreator l.creator
  pub entries : AllByRecursion IsWholeEntry l.entries
  pub distinct : IsDistinct bytes_eq (paths_of l.entries)
  pub few : length l.entries ≤ 262144
