-- Which words are a command: docs/FORMATS.md, "Words".
use Rattle.std.specs.Prelude.{◌≡◌, ◌≢◌, ℕ, Bool, not, true, ◌&&◌, ◌==◌, List, [], ◌∷◌, length, drop, slice_index_or, codes, Option, Some, None, bytes_eq, if◌then◌else◌}
use Rattle.std.specs.List.{list_any}
use Rattle.path_text.specs.Path.{is_path, is_control_path}
use Rattle.path_text.specs.declared.kinds.Kinds.{Kinds}
use Rattle.command_words.specs.declared.command.Command.{Command}
use Rattle.command_words.specs.declared.command.Command.TheVariants.{Offload, Verify, Print}
use Rattle.command_words.specs.Jobs.{Job, Offloads, IsJob}

-- LIST is a valid path of one part (the slash is 47) and no control path
abbrev pub is_list_word : List ℕ → Bool
is_list_word word = is_path word && not (is_control_path word) && not (list_any (λ b. b == 47) word)

-- what a first word does with a list
abbrev pub named : List ℕ → List ℕ → Option Command
named name list =
    if bytes_eq name (codes "verify") then Some (Verify list)
    else (if bytes_eq name (codes "print") then Some (Print list) else None)

-- `verify LIST DRIVE` or `print LIST DRIVE`, by its first word
pub record IsListRow (name list : List ℕ) (words : List (List ℕ)) : Type 0 where
  pub drive : List ℕ
  pub words_are : words ≡ name ∷ list ∷ drive ∷ []
  pub list_word : is_list_word list ≡ true
  pub folder : drive ≢ []

-- the job of `offload NAME USER@HOST COPIES[:KINDS] CARD DRIVE..`: CARD is the fifth word, and the DRIVE words stand behind it
abbrev pub offload_job : List ℕ → List ℕ → List ℕ → ℕ → Kinds → List (List ℕ) → Job
offload_job name user host copies kinds words = record { task = Offloads name user host kinds; copies = copies; card = slice_index_or words 4 []; drives = drop 5 words }

-- the words are just those of that job, with so many DRIVE words
pub record IsOffloadRow (name user host : List ℕ) (copies : ℕ) (kinds : Kinds) (drives : ℕ) (words : List (List ℕ)) : Type 0 where
  pub is_job : IsJob words (offload_job name user host copies kinds words)
  pub count : length (drop 5 words) ≡ drives

-- the words are this command
abbrev pub IsCommand : List (List ℕ) → Command → Type 0
IsCommand words (Offload name user host copies kinds drives) = IsOffloadRow name user host copies kinds drives words
IsCommand words (Verify list) = IsListRow (codes "verify") list words
IsCommand words (Print list) = IsListRow (codes "print") list words

-- the words are no command
abbrev pub FitsNoRow : List (List ℕ) → Type 0
FitsNoRow words = (command : Command) → IsCommand words command → ⊥

-- they are none that takes a list
abbrev pub FitsNoListRow : List (List ℕ) → Type 0
FitsNoListRow words = (list : List ℕ) → (IsListRow (codes "verify") list words → ⊥) × (IsListRow (codes "print") list words → ⊥)

-- the word that names the drive's folder in a row with a list
abbrev pub drive_word : List (List ℕ) → List ℕ
drive_word (name ∷ list ∷ drive ∷ []) = drive
drive_word _ = []
