-- What is known of occupied paths.
use Rattle.std.proofs.Common.{◌≡◌, ◌≢◌, ◌⊎◌, inl, inr, ℕ, zero, suc, ◌<◌, ◌≤◌, Bool, true, false, List, [], ◌∷◌, length, refl, sym, ◌∙◌, ap, arith, subst}
use Rattle.std.specs.Prelude.{◌↔◌, ◌&&◌, nat_eq, Option, Some, None, slice_get, slice_index, Result, Ok, Err, IfOk, IsTrue}
use Rattle.std.proofs.lemmas.Bool.{false≢true}
use Rattle.std.proofs.lemmas.Option.{same_Some, none-some, slice_get_within}
use Rattle.std.proofs.lemmas.Bool.Decides.{nat_tests}
use Rattle.path_text.specs.Path.{is_ancestor}
use Rattle.folder_listing.specs.Listing.{IsCrossed, IsTaken}
use Rattle.copy_plan.specs.declared.file.PlannedFile.{PlannedFile}
use Rattle.copy_plan.specs.Plan.{PlanValue, list_of, IsPlan}
use Rattle.path_text.proofs.ListNames.{list_name-no_slash}
use Rattle.occupied_paths.specs.Occupied.{IsOccupied, IsListOccupied, IsFileOccupied, AreFilesFree, IsFirstFile, IsFirstOccupied, IsFree}

-- a test of one fact is a test of another that holds just where it does
tests_too : {E P Q : Type 0} (r : Result Bool E) → (P → Q) → (Q → P) → IfOk r (λ b. IsTrue b ↔ P) → IfOk r (λ b. IsTrue b ↔ Q)
tests_too (Ok b) to from is = (λ yes. to (is.0 yes), λ q. is.1 (from q))
tests_too (Err e) to from is = tt

-- the next file of a drive is occupied just where its path is crossed
next_occupied : (size : List ℕ → Option ℕ) (next number : ℕ) (path : List ℕ) → number ≡ next → IsOccupied size (Some next) number path → IsCrossed size path
next_occupied size next number path is (inl (at, crossed)) = crossed
next_occupied size next number path is (inr (behind, taken)) = absurd (omega arith)

pub next_decided : {E : Type 0} (size : List ℕ → Option ℕ) (records : Option ℕ) (next number : ℕ) (path name : List ℕ) (r : Result Bool E) → records ≡ Some next → number ≡ next → name ≡ path
    → IfOk r (λ b. IsTrue b ↔ IsCrossed size name) → IfOk r (λ b. IsTrue b ↔ IsOccupied size records number path)
next_decided size records next number path name r begun is same crossed = rw (begun, ← same) (tests_too r (λ c. inl (is, c)) (next_occupied size next number name is) crossed)

-- a file behind it just where its path is taken
later_occupied : (size : List ℕ → Option ℕ) (next number : ℕ) (path : List ℕ) → next < number → IsOccupied size (Some next) number path → IsTaken size path
later_occupied size next number path behind (inl (at, crossed)) = absurd (omega arith)
later_occupied size next number path behind (inr (is, taken)) = taken

pub later_decided : {E : Type 0} (size : List ℕ → Option ℕ) (records : Option ℕ) (next number : ℕ) (path name : List ℕ) (r : Result Bool E) → records ≡ Some next → next < number → name ≡ path
    → IfOk r (λ b. IsTrue b ↔ IsTaken size name) → IfOk r (λ b. IsTrue b ↔ IsOccupied size records number path)
later_decided size records next number path name r begun behind same taken = rw (begun, ← same) (tests_too r (λ t. inr (behind, t)) (later_occupied size next number name behind) taken)

-- each file of a fresh drive just where its path is taken
pub fresh_decided : {E : Type 0} (size : List ℕ → Option ℕ) (records : Option ℕ) (number : ℕ) (path name : List ℕ) (r : Result Bool E) → records ≡ None → name ≡ path
    → IfOk r (λ b. IsTrue b ↔ IsTaken size name) → IfOk r (λ b. IsTrue b ↔ IsOccupied size records number path)
fresh_decided size records number path name r fresh same taken = rw (fresh, ← same) taken

both : (a b : Bool) → (a && b) ≡ true → (a ≡ true) × (b ≡ true)
both true b is = (refl, is)
both false b is = absurd (false≢true is)

same : (x y : ℕ) → nat_eq x y ≡ true → x ≡ y
same x y is = grind (arith, nat_tests)

-- nothing lies above a path without a slash
none_above : (above path : List ℕ) → ((k : ℕ) → slice_index path k ≢ 47) → is_ancestor above path ≡ true → ⊥
none_above [] [] apart is = false≢true is
none_above [] (y ∷ ys) apart is = apart 0 (sym (same 47 y (both (nat_eq 47 y) true is).0))
none_above (x ∷ xs) [] apart is = false≢true is
none_above (x ∷ xs) (y ∷ ys) apart is = none_above xs ys (λ k. apart (suc k)) (both (nat_eq x y) (is_ancestor xs ys) is).1

-- the name of a list is occupied just where it is taken
list_occupied : (size : List ℕ → Option ℕ) (plan : PlanValue) → IsPlan plan → IsTaken size (list_of plan) → IsListOccupied size (list_of plan)
list_occupied size plan rules (name, there, inl is) = (name, there, inl is)
list_occupied size plan rules (name, there, inr (inl above)) = absurd (none_above name (list_of plan) (list_name-no_slash plan.name plan.started rules.name) above)
list_occupied size plan rules (name, there, inr (inr below)) = (name, there, inr below)

list_taken : (size : List ℕ → Option ℕ) (list : List ℕ) → IsListOccupied size list → IsTaken size list
list_taken size list (name, there, inl is) = (name, there, inl is)
list_taken size list (name, there, inr below) = (name, there, inr (inr below))

pub list_decided : {E : Type 0} (size : List ℕ → Option ℕ) (plan : PlanValue) (name : List ℕ) (r : Result Bool E) → IsPlan plan → name ≡ list_of plan
    → IfOk r (λ b. IsTrue b ↔ IsTaken size name) → IfOk r (λ b. IsTrue b ↔ IsListOccupied size (list_of plan))
list_decided size plan name r rules same taken = tests_too r (list_occupied size plan rules) (list_taken size (list_of plan)) (rw same at taken)

-- of two numbers one is smaller, or they are the same
order : (m n : ℕ) → (m < n) ⊎ ((m ≡ n) ⊎ (n < m))
order zero zero = inr (inl refl)
order zero (suc n) = inl (omega arith)
order (suc m) zero = inr (inr (omega arith))
order (suc m) (suc n) = step (order m n)
  where
    step : (m < n) ⊎ ((m ≡ n) ⊎ (n < m)) → (suc m < suc n) ⊎ ((suc m ≡ suc n) ⊎ (suc n < suc m))
    step (inl less) = inl (omega arith)
    step (inr (inl is)) = inr (inl (omega arith))
    step (inr (inr more)) = inr (inr (omega arith))

-- a plan has one path that is occupied first
one_file : (size : List ℕ → Option ℕ) (records : Option ℕ) (files : List PlannedFile) (p q : List ℕ) → IsFirstFile size records files p → IsFirstFile size records files q → p ≡ q
one_file size records files p q a b = step (order a.number b.number)
  where
    step : (a.number < b.number) ⊎ ((a.number ≡ b.number) ⊎ (b.number < a.number)) → p ≡ q
    step (inl less) = absurd (b.first a.number less a.occupied)
    step (inr (inl is)) =
        let at : slice_get files a.number ≡ Some b.occupied.file = ap (slice_get files) is ∙ b.occupied.is in
        let one : a.occupied.file ≡ b.occupied.file = cc (a.occupied.is, at) in
        a.named ∙ ap (λ (f : PlannedFile). f.path) one ∙ sym b.named
    step (inr (inr more)) = absurd (a.first b.number more b.occupied)

one_first : (size : List ℕ → Option ℕ) (records : Option ℕ) (plan : PlanValue) (p q : List ℕ) → IsFirstOccupied size records plan p → IsFirstOccupied size records plan q → p ≡ q
one_first size records plan p q (inl a) (inl b) = one_file size records plan.files p q a b
one_first size records plan p q (inl a) (inr b) = absurd (b.files a.number a.occupied)
one_first size records plan p q (inr a) (inl b) = absurd (a.files b.number b.occupied)
one_first size records plan p q (inr a) (inr b) = a.named ∙ sym b.named

-- and none where no path is
none_free : (size : List ℕ → Option ℕ) (records : Option ℕ) (plan : PlanValue) (path : List ℕ) → IsFirstOccupied size records plan path → IsFree size records plan → ⊥
none_free size records plan path (inl a) free = free.files a.number a.occupied
none_free size records plan path (inr a) free = free.list a.list

-- the answer where a path is occupied first
pub named_first : (size : List ℕ → Option ℕ) (records : Option ℕ) (plan : PlanValue) (p : List ℕ) → IsFirstOccupied size records plan p → (path : List ℕ) → (Some p ≡ Some path) ↔ IsFirstOccupied size records plan path
named_first size records plan p is path = (λ e. subst (IsFirstOccupied size records plan) (same_Some p path e) is, λ q. ap Some (one_first size records plan p path is q))

pub named_not_free : (size : List ℕ → Option ℕ) (records : Option ℕ) (plan : PlanValue) (p : List ℕ) → IsFirstOccupied size records plan p → (true ≡ false) ↔ IsFree size records plan
named_not_free size records plan p is = (λ e. absurd (cc), λ free. absurd (none_free size records plan p is free))

-- the answer where none is
pub free_names_none : (size : List ℕ → Option ℕ) (records : Option ℕ) (plan : PlanValue) → IsFree size records plan → (path : List ℕ) → (None ≡ Some path) ↔ IsFirstOccupied size records plan path
free_names_none size records plan free path = (λ e. absurd (none-some path e), λ q. absurd (none_free size records plan path q free))

-- up to this number no file is occupied
abbrev pub AreFreeBelow : (List ℕ → Option ℕ) → Option ℕ → List PlannedFile → ℕ → Type 0
AreFreeBelow size records files number = (earlier : ℕ) → earlier < number → ¬ IsFileOccupied size records files earlier

-- the first file that was found occupied
pub found_file : (size : List ℕ → Option ℕ) (records : Option ℕ) (plan : PlanValue) (files : List PlannedFile) (number : ℕ) (file : PlannedFile) → files ≡ plan.files → slice_get files number ≡ Some file
    → IsOccupied size records number file.path → AreFreeBelow size records files number → IsFirstOccupied size records plan file.path
found_file size records plan files number file same is occupied free =
    let first : IsFirstFile size records files file.path = record { number = number; occupied = record { file = file; is = is; occupied = occupied }; first = free; named = refl } in
    inl (subst (λ (fs : List PlannedFile). IsFirstFile size records fs file.path) same first)

-- one file more that is not
pub free_here : (size : List ℕ → Option ℕ) (records : Option ℕ) (files : List PlannedFile) (number : ℕ) (file : PlannedFile) → slice_get files number ≡ Some file → ¬ IsOccupied size records number file.path → ¬ IsFileOccupied size records files number
free_here size records files number file is free at =
    let one : at.file ≡ file = same_Some at.file file (sym at.is ∙ is) in
    free (subst (λ (f : PlannedFile). IsOccupied size records number f.path) one at.occupied)

-- where the files end, none of the plan's is
all_free : (size : List ℕ → Option ℕ) (records : Option ℕ) (plan : PlanValue) (files : List PlannedFile) (number : ℕ) → files ≡ plan.files → length files ≤ number → AreFreeBelow size records files number → AreFilesFree size records plan.files
all_free size records plan files number same end free = subst (AreFilesFree size records) same (λ k at. free k (let within : k < length files = slice_get_within files k at.file at.is in omega arith) at)

-- so the name of the list is the first, or nothing is
pub found_list : (size : List ℕ → Option ℕ) (records : Option ℕ) (plan : PlanValue) (files : List PlannedFile) (number : ℕ) (path : List ℕ) → files ≡ plan.files → length files ≤ number → AreFreeBelow size records files number
    → IsListOccupied size (list_of plan) → path ≡ list_of plan → IsFirstOccupied size records plan path
found_list size records plan files number path same end free occupied named = inr (record { files = all_free size records plan files number same end free; list = occupied; named = named })

pub found_none : (size : List ℕ → Option ℕ) (records : Option ℕ) (plan : PlanValue) (files : List PlannedFile) (number : ℕ) → files ≡ plan.files → length files ≤ number → AreFreeBelow size records files number
    → ¬ IsListOccupied size (list_of plan) → IsFree size records plan
found_none size records plan files number same end free list = record { files = all_free size records plan files number same end free; list = list }
