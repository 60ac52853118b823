-- Words are one job's at most, and those of a job are no other command.
use Rattle.std.proofs.Common.{◌≡◌, ◌≢◌, inl, inr, ℕ, suc, ◌+◌, ◌≤◌, ◌<◌, ◌-◌, true, false, List, [], ◌∷◌, ◌++◌, length, get_or, codes, decimal, refl, sym, ◌∙◌, ap, subst, append_assoc, arith}
use Rattle.std.specs.Prelude.{Bool, ◌||◌, ◌==◌}
use Rattle.std.proofs.lemmas.Fmt.{decimal_digit}
use Rattle.path_text.specs.declared.kinds.Kinds.{Kinds}
use Rattle.path_text.specs.Label.{is_label_byte, is_label}
use Rattle.path_text.proofs.Labels.{is_label-name}
use Rattle.command_words.specs.Jobs.{Task, Offloads, Job, kinds_text, IsCopiesWord, SpellsTask, job_places, IsJob}
use Rattle.command_words.specs.Words.{IsListRow}

-- ---- a text is cut in one way at the first of a byte

abbrev HasNo : ℕ → List ℕ → Type 0
HasNo c text = (k : ℕ) → k < length text → get_or text k 0 ≢ c

one_cut : (c : ℕ) (u v x y : List ℕ) → HasNo c u → HasNo c v → u ++ (c ∷ x) ≡ v ++ (c ∷ y) → (u ≡ v) × (x ≡ y)
one_cut c [] [] x y none other same = (refl, cc same)
one_cut c [] (b ∷ v) x y none other same = let is : b ≡ c = cc same in absurd (other 0 (omega arith) is)
one_cut c (a ∷ u) [] x y none other same = let is : a ≡ c = cc same in absurd (none 0 (omega arith) is)
one_cut c (a ∷ u) (b ∷ v) x y none other same =
    let first : a ≡ b = cc same in
    let rest : u ++ (c ∷ x) ≡ v ++ (c ∷ y) = cc same in
    let more = one_cut c u v x y (λ k low. none (suc k) (omega (arith, low))) (λ k low. other (suc k) (omega (arith, low))) rest in
    ((λ i. first i ∷ more.0 i), more.1)

no_at : (label : List ℕ) → is_label label ≡ true → HasNo 64 label
no_at label h k below at = let is : is_label_byte 64 ≡ true = ap is_label_byte (sym at) ∙ (is_label-name label h).0.bytes k below in cc

-- ---- the word of the copies and the kinds

-- the kinds that such a text names: `md5` begins with m, `xxh` ends with h, and `sha1` has four letters
abbrev kinds_in : List ℕ → Kinds
kinds_in t = record { md5 = get_or t 0 0 == 109; sha1 = length t == 4 || length t == 8 || length t == 12; xxh = get_or t (length t - 1) 0 == 104 }

named : (md5 sha1 xxh : Bool) → kinds_in (kinds_text (record { md5 = md5; sha1 = sha1; xxh = xxh })) ≡ record { md5 = md5; sha1 = sha1; xxh = xxh }
named true true true = refl
named true true false = refl
named true false true = refl
named true false false = refl
named false true true = refl
named false true false = refl
named false false true = refl
named false false false = refl

one_kinds : (a b : Kinds) → kinds_text a ≡ kinds_text b → a ≡ b
one_kinds a b same = sym (named a.md5 a.sha1 a.xxh) ∙ ap kinds_in same ∙ named b.md5 b.sha1 b.xxh

-- a count of one digit, alone or with kinds behind it
alone : (n : ℕ) (word : List ℕ) → n ≤ 8 → word ≡ decimal n → word ≡ (48 + n) ∷ []
alone n word low is = is ∙ decimal_digit n (omega (arith, low))

with_kinds : (kinds : Kinds) (n : ℕ) (word : List ℕ) → n ≤ 8 → word ≡ decimal n ++ codes ":" ++ kinds_text kinds → word ≡ (48 + n) ∷ 58 ∷ kinds_text kinds
with_kinds kinds n word low is = is ∙ ap (λ (digits : List ℕ). digits ++ codes ":" ++ kinds_text kinds) (decimal_digit n (omega (arith, low)))

one_copies : (word : List ℕ) (ka kb : Kinds) (a b : ℕ) → a ≤ 8 → b ≤ 8 → IsCopiesWord ka a word → IsCopiesWord kb b word → (ka ≡ kb) × (a ≡ b)
one_copies word ka kb a b low also (inl x) (inl y) =
    let same = sym (alone a word low x.1) ∙ alone b word also y.1 in
    let digit : 48 + a ≡ 48 + b = cc same in
    (x.0 ∙ sym y.0, omega (arith, digit))
one_copies word ka kb a b low also (inl x) (inr y) = let same = sym (alone a word low x.1) ∙ with_kinds kb b word also y.1 in absurd (cc same)
one_copies word ka kb a b low also (inr x) (inl y) = let same = sym (with_kinds ka a word low x.1) ∙ alone b word also y.1 in absurd (cc same)
one_copies word ka kb a b low also (inr x) (inr y) =
    let same = sym (with_kinds ka a word low x.1) ∙ with_kinds kb b word also y.1 in
    let digit : 48 + a ≡ 48 + b = cc same in
    let kinds : kinds_text ka ≡ kinds_text kb = cc same in
    (one_kinds ka kb kinds, omega (arith, digit))

-- ---- the job

record Same (ta tb : Task) (a b : ℕ) (fa fb : List (List ℕ)) : Type 0 where
  task : ta ≡ tb
  copies : a ≡ b
  folders : fa ≡ fb

one_task : (words : List (List ℕ)) (ta tb : Task) (a b : ℕ) (fa fb : List (List ℕ)) → a ≤ 8 → b ≤ 8 → SpellsTask ta a fa words → SpellsTask tb b fb words → Same ta tb a b fa fb
one_task words (Offloads name user host kinds) (Offloads name2 user2 host2 kinds2) a b fa fb low also x y =
    let same = sym x.words_are ∙ y.words_are in
    let names : name ≡ name2 = cc same in
    let users : user ++ codes "@" ++ host ≡ user2 ++ codes "@" ++ host2 = cc same in
    let word : x.word ≡ y.word = cc same in
    let folders : fa ≡ fb = cc same in
    let cut = one_cut 64 user user2 host host2 (no_at user x.labels.1) (no_at user2 y.labels.1) (sym (append_assoc user (codes "@") host) ∙ users ∙ append_assoc user2 (codes "@") host2) in
    let both = one_copies y.word kinds kinds2 a b low also (subst (IsCopiesWord kinds a) word x.chosen) y.chosen in
    record { task = λ i. Offloads (names i) (cut.0 i) (cut.1 i) (both.0 i); copies = both.1; folders = folders }

-- words are one job's at most
pub one_job : {words : List (List ℕ)} (x y : Job) → IsJob words x → IsJob words y → x ≡ y
one_job {words} x y is also =
    let same = one_task words x.task y.task x.copies y.copies (job_places x) (job_places y) (omega (arith, is.few, is.most)) (omega (arith, also.few, also.most)) is.spelled also.spelled in
    let card : x.card ≡ y.card = cc same.folders in
    let drives : x.drives ≡ y.drives = cc same.folders in
    λ i. record { task = same.task i; copies = same.copies i; card = card i; drives = drives i }

-- the words of a list's command are no job's
pub no_job : {words : List (List ℕ)} (first : ℕ) (name list : List ℕ) → first ≢ 111 → IsListRow (first ∷ name) list words → (x : Job) → IsJob words x → ⊥
no_job {words} first name list other row x is = by_task x.task x.copies (job_places x) is.spelled
  where
    by_task : (t : Task) (copies : ℕ) (folders : List (List ℕ)) → SpellsTask t copies folders words → ⊥
    by_task (Offloads label user host kinds) copies folders s = other (ap (λ (w : List (List ℕ)). get_or (get_or w 0 []) 0 0) (sym row.words_are ∙ s.words_are))
