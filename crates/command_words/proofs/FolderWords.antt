-- Which words name folders.
use Rattle.std.proofs.Common.{◌≡◌, ◌≢◌, ℕ, zero, suc, ◌+◌, ◌-◌, ◌≤◌, ◌<◌, Bool, true, false, List, [], ◌∷◌, ◌++◌, length, take, drop, get_or, Contains, refl, sym, ◌∙◌, ap, subst, arith}
use Rattle.std.specs.Prelude.{bytes_eq, ◌||◌, ◌==◌}
use Rattle.std.specs.List.{AllByRecursion, IsDistinct, list_any}
use Rattle.std.proofs.lemmas.List.{get_or-drop, get_or-take, length-drop, length-take-le, take_more, drop-append-le, drop_all, nil_from_length}
use Rattle.std.proofs.lemmas.Bool.Decides.{nat_tests}
use Rattle.std.proofs.lemmas.Map.Keys.{IsDistinct-push, apart_from_distinct}
use Rattle.std.proofs.lemmas.Slice.Eq.{bytes_eq-Decides}
use Rattle.std.proofs.lemmas.Cmp.{nat_list_eq_equiv}
use Rattle.command_words.specs.Jobs.{AreFolders}

-- a word between two places
pub among : (words : List (List ℕ)) (first end i : ℕ) (word : List ℕ) → first ≤ i → i < end → end ≤ length words → get_or words i word ≡ word → Contains (drop first (take end words)) word
among words first end i word from below within is =
    let size : length (take end words) ≡ end = length-take-le end words within in
    let place : first + (i - first) ≡ i = omega arith in (
      i - first,
      omega (arith, length-drop first (take end words), size),
      get_or-drop first (take end words) (i - first) word ∙ ap (λ n. get_or (take end words) n word) place ∙ get_or-take end words i word below ∙ is,
    )

same_texts : (a b : List ℕ) → a ≡ b → bytes_eq a b ≡ true
same_texts a b is = (bytes_eq-Decides a b).1 is

other_texts : (a b : List ℕ) → a ≢ b → bytes_eq a b ≡ false
other_texts a b other = by_test (bytes_eq a b) (bytes_eq-Decides a b).0
  where
    by_test : (t : Bool) → (t ≡ true → a ≡ b) → t ≡ false
    by_test true is = absurd (other (is refl))
    by_test false is = refl

none_same : (word : List ℕ) (words : List (List ℕ)) → (Contains words word → ⊥) → list_any (bytes_eq word) words ≡ false
none_same word [] none = refl
none_same word (x ∷ words) none =
    ap (λ t. t || list_any (bytes_eq word) words) (other_texts word x (λ is. none (zero, omega arith, sym is)))
    ∙ none_same word words (λ there. none (suc there.0, omega (arith, there.1), there.2))

all_push : (words : List (List ℕ)) (word : List ℕ) → AllByRecursion (λ folder. folder ≢ []) words → word ≢ [] → AllByRecursion (λ folder. folder ≢ []) (words ++ word ∷ [])
all_push [] word all some = (some, tt)
all_push (x ∷ words) word all some = (all.0, all_push words word all.1 some)

-- one more folder
folders_push : (words : List (List ℕ)) (word : List ℕ) → AreFolders words → word ≢ [] → (Contains words word → ⊥) → AreFolders (words ++ word ∷ [])
folders_push words word folders some other = record {
  there = all_push words word folders.there some;
  apart = IsDistinct-push nat_list_eq_equiv words word folders.apart (none_same word words other);
}

pub folders_more : (words : List (List ℕ)) (first i : ℕ) (word : List ℕ) → first ≤ i → i < length words → word ≡ get_or words i word → AreFolders (drop first (take i words)) → word ≢ [] → (Contains (drop first (take i words)) word → ⊥) → AreFolders (drop first (take (i + 1) words))
folders_more words first i word from below is folders some other =
    let size : length (take i words) ≡ i = length-take-le i words (omega arith) in
    let more = ap (drop first) (take_more words i word below) ∙ drop-append-le first (take i words) (get_or words i word ∷ []) (omega (arith, size)) ∙ ap (λ w. drop first (take i words) ++ w ∷ []) (sym is) in
    subst AreFolders (sym more) (folders_push (drop first (take i words)) word folders some other)

no_folders : AreFolders []
unfolding IsDistinct
no_folders = record { there = tt; apart = tt }

pub folders_none : (words : List (List ℕ)) (first : ℕ) → first ≤ length words → AreFolders (drop first (take first words))
folders_none words first within = subst AreFolders (sym (drop_all first (take first words) (omega (arith, length-take-le first words within)))) no_folders

no_bytes : (n : ℕ) → true ≡ (n == 0) → n ≡ 0
no_bytes n is = grind (arith, nat_tests)

pub empty_word : (text : List ℕ) → true ≡ (length text == 0) → text ≡ []
empty_word text is = nil_from_length text (no_bytes (length text) is)

pub some_word : (text : List ℕ) → false ≡ (length text == 0) → text ≢ []
some_word text is none = let other = is ∙ ap (λ (t : List ℕ). length t == 0) none in cc

all_at : (words : List (List ℕ)) (k : ℕ) → AllByRecursion (λ folder. folder ≢ []) words → k < length words → get_or words k [] ≢ []
all_at [] k all below = absurd (omega arith)
all_at (x ∷ words) zero all below = all.0
all_at (x ∷ words) (suc k) all below = all_at words k all.1 (omega arith)

-- an empty word is none
pub empty_refused : (words : List (List ℕ)) (first i : ℕ) → first ≤ i → i < length words → get_or words i [] ≡ [] → AreFolders (drop first words) → ⊥
empty_refused words first i from below empty folders =
    let place : first + (i - first) ≡ i = omega arith in
    all_at (drop first words) (i - first) folders.there (omega (arith, length-drop first words)) (get_or-drop first words (i - first) [] ∙ ap (λ n. get_or words n []) place ∙ empty)

-- nor is a word that stands among those before it
pub twice_refused : (words : List (List ℕ)) (first i : ℕ) (word : List ℕ) → first ≤ i → i < length words → word ≡ get_or words i word → Contains (drop first (take i words)) word → AreFolders (drop first words) → ⊥
twice_refused words first i word from below is (k, lt, there) folders =
    let size : length (take i words) ≡ i = length-take-le i words (omega arith) in
    let before : first + k < i = omega (arith, lt, length-drop first (take i words), size) in
    let place : first + (i - first) ≡ i = omega arith in
    let earlier : get_or (drop first words) k word ≡ word = get_or-drop first words k word ∙ sym (get_or-take i words (first + k) word before) ∙ sym (get_or-drop first (take i words) k word) ∙ there in
    let later : get_or (drop first words) (i - first) word ≡ word = get_or-drop first words (i - first) word ∙ ap (λ n. get_or words n word) place ∙ sym is in
    let other = apart_from_distinct bytes_eq (drop first words) k (i - first) word folders.apart (omega arith) (omega (arith, length-drop first words)) in
    let same = same_texts (get_or (drop first words) k word) (get_or (drop first words) (i - first) word) (earlier ∙ sym later) in
    cc
