-- Which words are those of an offload.
use Rattle.std.proofs.Common.{◌≡◌, ◌≢◌, ℕ, ◌+◌, ◌≤◌, ◌<◌, true, List, [], ◌∷◌, ◌++◌, length, drop, get_or, codes, decimal, refl, sym, ◌∙◌, ap, subst, append_assoc, arith, Bor}
use Rattle.std.specs.Prelude.{Option, Some, None, is_none, MatchOption}
use Rattle.std.proofs.lemmas.List.{length-append}
use Rattle.std.proofs.lemmas.Fmt.{decimal_digit}
use Rattle.std.proofs.lemmas.Str.Pattern.{IsSplitOnceResult, split_after, split_parts}
use Rattle.path_text.specs.declared.kinds.Kinds.{Kinds}
use Rattle.path_text.specs.declared.label.NameError.{NameError}
use Rattle.path_text.specs.Label.{is_label_byte, label_refusal_of, is_label}
use Rattle.path_text.proofs.Labels.{is_label-name}
use Rattle.command_words.specs.Jobs.{IsCopiesWord, AreFolders}
use Rattle.command_words.specs.Words.{IsOffloadRow}

-- ---- labels

no_at : (label : List ℕ) (k : ℕ) → is_label label ≡ true → k < length label → get_or label k 0 ≢ 64
no_at label k h below at = let is : is_label_byte 64 ≡ true = ap is_label_byte (sym at) ∙ (is_label-name label h).0.bytes k below in cc

pub no_label : (text : List ℕ) (e : NameError) → label_refusal_of text ≡ Some e → is_label text ≢ true
no_label text e refused is = let other = ap is_none refused in cc

pub a_label : (text : List ℕ) → label_refusal_of text ≡ None → is_label text ≡ true
a_label text none = ap is_none none

-- a user and a host, split at the first `@`
pub at_split : (text user host : List ℕ) (r : Option (Bor (List ℕ) × Bor (List ℕ))) → IsSplitOnceResult 64 text r → is_label user ≡ true → text ≡ user ++ codes "@" ++ host → MatchOption r ⊥ (λ both. (both.0.now ≡ user) × (both.1.now ≡ host))
at_split text user host r split label is = split_after 64 text user host r split (omega arith) (is ∙ append_assoc user (codes "@") host) (λ k below. no_at user k label below)

-- ---- a count of copies, one digit

no_colon : (n k : ℕ) → n ≤ 8 → k < length (decimal n) → get_or (decimal n) k 0 ≢ 58
no_colon n k small below colon =
    let is = decimal_digit n (omega arith) in
    let first : k ≡ 0 = omega (arith, below, ap length is) in
    let digit : 48 + n ≡ 58 = sym (ap (λ (t : List ℕ). get_or t 0 0) is) ∙ ap (λ i. get_or (decimal n) i 0) (sym first) ∙ colon in
    omega arith

-- COPIES:KINDS, split at the colon
pub colon_split : (text : List ℕ) (copies : ℕ) (rest : List ℕ) (r : Option (Bor (List ℕ) × Bor (List ℕ))) → IsSplitOnceResult 58 text r → copies ≤ 8 → text ≡ decimal copies ++ codes ":" ++ rest → MatchOption r ⊥ (λ both. (both.0.now ≡ decimal copies) × (both.1.now ≡ rest))
colon_split text copies rest r split small is = split_after 58 text (decimal copies) rest r split (omega arith) (is ∙ append_assoc (decimal copies) (codes ":") rest) (λ k below. no_colon copies k small below)

pub colon_parts : (text : List ℕ) (both : Bor (List ℕ) × Bor (List ℕ)) → IsSplitOnceResult 58 text (Some both) → text ≡ both.0.now ++ (58 ∷ both.1.now)
colon_parts text both split = (split_parts 58 text (Some both) split (omega arith)).0

-- a number of one digit
pub digit_is : (text : List ℕ) (n : ℕ) → n ≤ 8 → text ≡ decimal n → (length text ≡ 1) × (get_or text 0 0 ≡ 48 + n)
digit_is text n small is =
    let one : text ≡ (48 + n) ∷ [] = is ∙ decimal_digit n (omega arith) in
    (ap length one, ap (λ (t : List ℕ). get_or t 0 0) one)

pub is_digit : (text : List ℕ) (n : ℕ) → n ≤ 8 → length text ≡ 1 → get_or text 0 0 ≡ 48 + n → text ≡ decimal n
is_digit text n small one digit = single text one ∙ ap (λ b. b ∷ []) digit ∙ sym (decimal_digit n (omega arith))
  where
    single : (t : List ℕ) → length t ≡ 1 → t ≡ get_or t 0 0 ∷ []
    single [] e = absurd (cc e)
    single (x ∷ []) e = refl
    single (x ∷ y ∷ t) e = absurd (cc e)

-- COPIES has no colon
pub no_split : (text before after : List ℕ) (copies : ℕ) → copies ≤ 8 → text ≡ before ++ (58 ∷ after) → text ≢ decimal copies
no_split text before after copies small is other =
    let one : text ≡ (48 + copies) ∷ [] = other ∙ decimal_digit copies (omega arith) in
    by_length before (sym is ∙ one)
  where
    by_length : (b : List ℕ) → b ++ (58 ∷ after) ≡ (48 + copies) ∷ [] → ⊥
    by_length [] e = let digit : 58 ≡ 48 + copies = cc in omega arith
    by_length (x ∷ b) e = let many = ap length e in omega (arith, length-append b (58 ∷ after))

-- ---- the words

five : (words : List (List ℕ)) → 5 ≤ length words → words ≡ get_or words 0 [] ∷ get_or words 1 [] ∷ get_or words 2 [] ∷ get_or words 3 [] ∷ get_or words 4 [] ∷ drop 5 words
five [] many = absurd (omega arith)
five (a ∷ []) many = absurd (omega arith)
five (a ∷ b ∷ []) many = absurd (omega arith)
five (a ∷ b ∷ c ∷ []) many = absurd (omega arith)
five (a ∷ b ∷ c ∷ d ∷ []) many = absurd (omega arith)
five (a ∷ b ∷ c ∷ d ∷ e ∷ rest) many = refl

pub folder_words : (words : List (List ℕ)) → 5 ≤ length words → drop 4 words ≡ get_or words 4 [] ∷ drop 5 words
folder_words words many = ap (drop 4) (five words many)

-- the words of a row, by their places
pub record RowWords (name user host : List ℕ) (copies : ℕ) (kinds : Kinds) (words : List (List ℕ)) : Type 0 where
  pub many : length words ≡ 5 + length (drop 5 words)
  pub some : 1 ≤ length (drop 5 words)
  pub few : length (drop 5 words) ≤ 8
  pub name_word : get_or words 1 [] ≡ name
  pub name_label : is_label name ≡ true
  pub user_word : get_or words 2 [] ≡ user ++ codes "@" ++ host
  pub user_label : is_label user ≡ true
  pub host_label : is_label host ≡ true
  pub copies_word : IsCopiesWord kinds copies (get_or words 3 [])
  pub least : 1 ≤ copies
  pub most : copies ≤ length (drop 5 words)
  pub folders : AreFolders (drop 4 words)

pub row_words : {words : List (List ℕ)} (name user host : List ℕ) (copies drives : ℕ) (kinds : Kinds) → IsOffloadRow name user host copies kinds drives words → RowWords name user host copies kinds words
row_words {words} name user host copies drives kinds row =
    let spelled = row.is_job.spelled in
    let are = spelled.words_are in
    let many : length words ≡ 5 + length (drop 5 words) = omega (arith, ap length are) in
    record {
      many = many;
      some = row.is_job.some;
      few = row.is_job.few;
      name_word = ap (λ (w : List (List ℕ)). get_or w 1 []) are;
      name_label = spelled.labels.0;
      user_word = ap (λ (w : List (List ℕ)). get_or w 2 []) are;
      user_label = spelled.labels.1;
      host_label = spelled.labels.2;
      copies_word = subst (IsCopiesWord kinds copies) (sym (ap (λ (w : List (List ℕ)). get_or w 3 []) are)) spelled.chosen;
      least = row.is_job.least;
      most = row.is_job.most;
      folders = subst AreFolders (sym (folder_words words (omega arith))) row.is_job.folders;
    }

pub is_offload : (words : List (List ℕ)) (name user host : List ℕ) (copies drives : ℕ) (kinds : Kinds) → get_or words 0 [] ≡ codes "offload" → length (drop 5 words) ≡ drives → RowWords name user host copies kinds words → IsOffloadRow name user host copies kinds drives words
is_offload words name user host copies drives kinds first count row = record {
  is_job = record {
    spelled = record {
      word = get_or words 3 [];
      chosen = row.copies_word;
      labels = (row.name_label, row.user_label, row.host_label);
      words_are = five words (omega (arith, row.many)) ∙ (λ i. first i ∷ row.name_word i ∷ row.user_word i ∷ get_or words 3 [] ∷ get_or words 4 [] ∷ drop 5 words);
    };
    folders = subst AreFolders (folder_words words (omega (arith, row.many))) row.folders;
    some = row.some;
    few = row.few;
    least = row.least;
    most = row.most;
  };
  count = count;
}
