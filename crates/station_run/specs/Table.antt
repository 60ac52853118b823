-- The table of a printed list: docs/FORMATS.md, "The table of a list".
use Rattle.std.specs.Prelude.{ℕ, List, [], ◌∷◌, ◌++◌, map, length, codes}
use Rattle.mhl_writer.specs.declared.values.Creator.{Creator}
use Rattle.mhl_writer.specs.declared.values.HashEntry.{HashEntry}
use Rattle.mhl_writer.specs.ListText.{Values}
use Rattle.report_text.specs.Line.{note_text, date_text, entry_row, entries_text}

-- the six lines of the creator
abbrev pub creator_rows : Creator → List (List ℕ)
creator_rows c =
    note_text (codes "name") c.name
    ∷ note_text (codes "username") c.username
    ∷ note_text (codes "hostname") c.hostname
    ∷ note_text (codes "tool") c.tool
    ∷ date_text (codes "startdate") c.started
    ∷ date_text (codes "finishdate") c.finished
    ∷ []

-- the line of an entry
abbrev pub row_of : HashEntry → List ℕ
row_of e = entry_row e.size e.modified e.md5 e.sha1 e.xxh e.path

-- the table: the creator, a line for each entry in the order of the list, and how many there are
unfoldable pub print_lines : Values → List (List ℕ)
print_lines l = creator_rows l.creator ++ (map row_of l.entries ++ entries_text (length l.entries) ∷ [])
