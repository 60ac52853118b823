-- Which words are a row with a list.
use Rattle.std.proofs.Common.{◌≡◌, ◌≢◌, ◌⊎◌, inl, inr, ℕ, Bool, true, false, List, [], ◌∷◌, length, get_or, codes, refl, sym, ◌∙◌, ap, subst}
use Rattle.std.specs.Prelude.{Some, None, Result, Ok, Err, MatchResult, if◌then◌else◌, bytes_eq, not}
use Rattle.std.proofs.lemmas.Slice.Eq.{bytes_eq-Decides}
use Rattle.path_text.specs.declared.kinds.Kinds.{Kinds}
use Rattle.command_words.specs.declared.command.Command.{Command}
use Rattle.command_words.specs.declared.command.Command.TheVariants.{Offload, Verify, Print}
use Rattle.command_words.specs.declared.command.WordsError.{WordsError}
use Rattle.command_words.specs.declared.command.WordsError.TheVariants.{Words}
use Rattle.command_words.specs.Words.{is_list_word, named, IsListRow, IsOffloadRow, IsCommand, FitsNoRow, FitsNoListRow}

-- three words
pub three : (words : List (List ℕ)) → length words ≡ 3 → words ≡ get_or words 0 [] ∷ get_or words 1 [] ∷ get_or words 2 [] ∷ []
three [] many = absurd (cc many)
three (a ∷ []) many = absurd (cc many)
three (a ∷ b ∷ []) many = absurd (cc many)
three (a ∷ b ∷ c ∷ []) many = refl
three (a ∷ b ∷ c ∷ d ∷ rest) many = absurd (cc many)

pub not_three : (words : List (List ℕ)) → length words ≢ 3 → FitsNoListRow words
not_three words other list = (λ row. other (ap length row.words_are), λ row. other (ap length row.words_are))

drive_is : {words : List (List ℕ)} (name list : List ℕ) (row : IsListRow name list words) → get_or words 2 [] ≡ row.drive
drive_is name list row = ap (λ (w : List (List ℕ)). get_or w 2 []) row.words_are

pub empty_drive : (words : List (List ℕ)) → get_or words 2 [] ≡ [] → FitsNoListRow words
empty_drive words empty list = (λ row. row.folder (sym (drive_is _ list row) ∙ empty), λ row. row.folder (sym (drive_is _ list row) ∙ empty))

listed : {words : List (List ℕ)} (name list : List ℕ) → IsListRow name list words → is_list_word (get_or words 1 []) ≡ true
listed name list row = ap (λ (w : List (List ℕ)). is_list_word (get_or w 1 [])) row.words_are ∙ row.list_word

pub no_list : (words : List (List ℕ)) → is_list_word (get_or words 1 []) ≡ false → FitsNoListRow words
no_list words bad list = (λ row. let good = listed _ list row in cc, λ row. let good = listed _ list row in cc)

-- what a first word does
one_of : (v p : Bool) (list : List ℕ) (command : Command) → (if v then Some (Verify list) else (if p then Some (Print list) else None)) ≡ Some command → ((v ≡ true) × (Verify list ≡ command)) ⊎ ((p ≡ true) × (Print list ≡ command))
one_of true p list command is = inl (refl, cc)
one_of false true list command is = inr (refl, cc)
one_of false false list command is = absurd (cc is)

row_of : (words : List (List ℕ)) (name list : List ℕ) → length words ≡ 3 → get_or words 0 [] ≡ name → get_or words 1 [] ≡ list → is_list_word list ≡ true → get_or words 2 [] ≢ [] → IsListRow name list words
row_of words name list many first second good some = record {
  drive = get_or words 2 [];
  words_are = three words many ∙ (λ i. first i ∷ second i ∷ get_or words 2 [] ∷ []);
  list_word = good;
  folder = some;
}

pub is_row : (words : List (List ℕ)) (name list : List ℕ) (command : Command) → length words ≡ 3 → get_or words 0 [] ≡ name → get_or words 1 [] ≡ list → is_list_word list ≡ true → get_or words 2 [] ≢ [] → named name list ≡ Some command → IsCommand words command
is_row words name list command many first second good some is = elim (one_of (bytes_eq name (codes "verify")) (bytes_eq name (codes "print")) list command is) [
  | inl v ↦ subst (IsCommand words) v.1 (row_of words (codes "verify") list many (first ∙ (bytes_eq-Decides name (codes "verify")).0 v.0) second good some)
  | inr p ↦ subst (IsCommand words) p.1 (row_of words (codes "print") list many (first ∙ (bytes_eq-Decides name (codes "print")).0 p.0) second good some)
]

neither : (v p : Bool) (list : List ℕ) → (if v then Some (Verify list) else (if p then Some (Print list) else None)) ≡ None → (v ≡ false) × (p ≡ false)
neither true p list is = absurd (cc is)
neither false true list is = absurd (cc is)
neither false false list is = (refl, refl)

pub no_name : (words : List (List ℕ)) (name list : List ℕ) → get_or words 0 [] ≡ name → named name list ≡ None → FitsNoListRow words
no_name words name list first is other =
    let no = neither (bytes_eq name (codes "verify")) (bytes_eq name (codes "print")) list is in (
      λ row. let yes = (bytes_eq-Decides name (codes "verify")).1 (sym first ∙ ap (λ (w : List (List ℕ)). get_or w 0 []) row.words_are) in cc,
      λ row. let yes = (bytes_eq-Decides name (codes "print")).1 (sym first ∙ ap (λ (w : List (List ℕ)). get_or w 0 []) row.words_are) in cc,
    )

-- words that compare as other, and words that do not
pub other_word : (a b : List ℕ) → true ≡ not (bytes_eq a b) → a ≢ b
other_word a b is same = let equal = (bytes_eq-Decides a b).1 same in let t : true ≡ false = is ∙ ap not equal in cc

pub same_word : (a b : List ℕ) → false ≡ not (bytes_eq a b) → a ≡ b
same_word a b is = (bytes_eq-Decides a b).0 (unnot (bytes_eq a b) is)
  where
    unnot : (t : Bool) → false ≡ not t → t ≡ true
    unnot true e = refl
    unnot false e = absurd (cc e)

-- the first word of an offload
pub offload_first : {words : List (List ℕ)} (name user host : List ℕ) (copies drives : ℕ) (kinds : Kinds) → IsOffloadRow name user host copies kinds drives words → (length words ≢ 0) × (get_or words 0 [] ≡ codes "offload")
offload_first name user host copies drives kinds row =
    let are = row.is_job.spelled.words_are in (
      λ none. let many = ap length are in cc,
      ap (λ (w : List (List ℕ)). get_or w 0 []) are,
    )

-- words that are no offload are those of a row with a list, or of none
pub by_list : (words : List (List ℕ)) (r : Result Command WordsError) → ((name user host : List ℕ) (copies drives : ℕ) (kinds : Kinds) → IsOffloadRow name user host copies kinds drives words → ⊥) → MatchResult r (IsCommand words) (λ e. e ≡ Words → FitsNoListRow words) → MatchResult r (IsCommand words) (λ e. e ≡ Words → FitsNoRow words)
by_list words (Ok command) other found = found
by_list words (Err e) other found = λ same. none (found same)
  where
    none : FitsNoListRow words → FitsNoRow words
    none list (Offload name user host copies kinds drives) row = other name user host copies drives kinds row
    none list (Verify path) row = (list path).0 row
    none list (Print path) row = (list path).1 row

-- words that begin as an offload, and are none
pub no_offload : (words : List (List ℕ)) → get_or words 0 [] ≡ codes "offload" → ((name user host : List ℕ) (copies drives : ℕ) (kinds : Kinds) → IsOffloadRow name user host copies kinds drives words → ⊥) → FitsNoRow words
no_offload words first other (Offload name user host copies kinds drives) row = other name user host copies drives kinds row
no_offload words first other (Verify path) row = absurd (let name = ap (λ (w : List (List ℕ)). get_or w 0 []) row.words_are in let same : codes "offload" ≡ codes "verify" = sym first ∙ name in cc)
no_offload words first other (Print path) row = absurd (let name = ap (λ (w : List (List ℕ)). get_or w 0 []) row.words_are in let same : codes "offload" ≡ codes "print" = sym first ∙ name in cc)
