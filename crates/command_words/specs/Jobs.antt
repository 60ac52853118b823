-- Which words ask for a job, the copying of a card to drives: docs/FORMATS.md, "Words".
use Rattle.std.specs.Prelude.{◌≡◌, ◌≢◌, ◌⊎◌, ℕ, ◌≤◌, Bool, true, if◌then◌else◌, List, [], ◌∷◌, ◌++◌, length, codes, decimal, bytes_eq}
use Rattle.std.specs.List.{AllByRecursion, IsDistinct}
use Rattle.path_text.specs.Label.{is_label}
use Rattle.path_text.specs.Kinds.{has_kind}
use Rattle.path_text.specs.declared.kinds.Kinds.{Kinds}

-- what is asked for: an offload of a card by these labels, of the card, the user and the host, whose lists show digests of these kinds
pub data Task : Type 0 where
  Offloads : List ℕ → List ℕ → List ℕ → Kinds → Task

-- a job: what is asked for, how many sealed drives are required, and the folders of the card and of the drives, drive d at place d
pub record Job : Type 0 where
  pub task : Task
  pub copies : ℕ
  pub card : List ℕ
  pub drives : List (List ℕ)

-- all three kinds
abbrev pub all_kinds : Kinds
all_kinds = record { md5 = true; sha1 = true; xxh = true }

-- names with `+` between each two
abbrev pub plus : List (List ℕ) → List ℕ
plus [] = []
plus (name ∷ []) = name
plus (name ∷ other ∷ more) = name ++ codes "+" ++ plus (other ∷ more)

-- a name where it is chosen
abbrev pub name_if : Bool → List ℕ → List (List ℕ)
name_if chosen name = if chosen then name ∷ [] else []

-- KINDS: the names of the chosen kinds, in this order
abbrev pub kinds_text : Kinds → List ℕ
kinds_text kinds = plus (name_if kinds.md5 (codes "md5") ++ name_if kinds.sha1 (codes "sha1") ++ name_if kinds.xxh (codes "xxh"))

-- COPIES, which stands for all kinds, or COPIES:KINDS, with at least one
abbrev pub IsCopiesWord : Kinds → ℕ → List ℕ → Type 0
IsCopiesWord kinds copies word = ((kinds ≡ all_kinds) × (word ≡ decimal copies)) ⊎ ((has_kind kinds ≡ true) × (word ≡ decimal copies ++ codes ":" ++ kinds_text kinds))

-- the words of `offload`, with its COPIES word
pub record IsOffloadSpelled (name user host : List ℕ) (kinds : Kinds) (copies : ℕ) (folders : List (List ℕ)) (words : List (List ℕ)) : Type 0 where
  pub word : List ℕ
  pub chosen : IsCopiesWord kinds copies word
  pub labels : (is_label name ≡ true) × (is_label user ≡ true) × (is_label host ≡ true)
  pub words_are : words ≡ codes "offload" ∷ name ∷ (user ++ codes "@" ++ host) ∷ word ∷ folders

-- the words of a task for so many copies, with these folders
abbrev pub SpellsTask : Task → ℕ → List (List ℕ) → List (List ℕ) → Type 0
SpellsTask (Offloads name user host kinds) copies folders words = IsOffloadSpelled name user host kinds copies folders words

-- no folder word is empty, and no two are equal
pub record AreFolders (folders : List (List ℕ)) : Type 0 where
  pub there : AllByRecursion (λ folder. folder ≢ []) folders
  pub apart : IsDistinct bytes_eq folders

-- the folders of a job, in the order of its words
abbrev pub job_places : Job → List (List ℕ)
job_places job = job.card ∷ job.drives

-- These words are just this job's. There are one to eight drives, and no more copies than drives, one at least.
pub record IsJob (words : List (List ℕ)) (job : Job) : Type 0 where
  pub spelled : SpellsTask job.task job.copies (job_places job) words
  pub folders : AreFolders (job_places job)
  pub some : 1 ≤ length job.drives
  pub few : length job.drives ≤ 8
  pub least : 1 ≤ job.copies
  pub most : job.copies ≤ length job.drives
