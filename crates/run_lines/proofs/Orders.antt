-- The order in which the words of a run are said, by what is done next.
use Rattle.std.proofs.Common.{◌≡◌, ◌≢◌, ◌⊎◌, inl, inr, ℕ, suc, ◌<◌, ◌≤◌, Bool, true, false, refl, sym, ◌∙◌, arith}
use Rattle.std.specs.Prelude.{nat_lt, is_some, if◌then◌else◌}
use Rattle.std.proofs.lemmas.Bool.{cases_Bool, lt-ltb}
use Rattle.std.proofs.lemmas.Bool.Decides.{nat_tests}
use Rattle.drive_journal.specs.declared.record.Rec.{Rec}
use Rattle.fan_core.specs.Flags.{lowest}
use Rattle.fan_copier.specs.declared.copy.FileCopy.{FileCopy}
use Rattle.fan_copier.specs.Copying.{live_of}
use Rattle.run_state.specs.declared.phase.Phase.{Phase}
use Rattle.run_state.specs.declared.phase.Phase.TheVariants.{Begins, File, Copies, Dates, Records, Seals, Clears}
use Rattle.run_state.specs.Acts.{copies_on}
use Rattle.run_state.specs.State.{after_begin, after_file, after_record, after_seal}
use Rattle.run_lines.specs.Words.{Word, round_of}

-- it was said before this round, or in it of a drive before this one
abbrev pub IsBefore : ℕ → ℕ → ℕ → Word → Type 0
IsBefore n round d w = (round_of n w.mark < round) ⊎ ((round_of n w.mark ≡ round) × (w.drive < d))

-- a step was said before what is done next
abbrev pub IsEarly : ℕ → Phase → Word → Type 0
IsEarly n (Begins d) w = IsBefore n 0 d w
IsEarly n (File i) w = IsBefore n (suc i) 0 w
IsEarly n (Copies i copy) w = IsBefore n (suc i) 0 w
IsEarly n (Dates i t) w = IsBefore n (suc i) 0 w
IsEarly n (Records rec d) w = IsBefore n (suc rec.index) d w
IsEarly n (Seals d) w = IsBefore n (suc n) d w
IsEarly n _ w = Unit {0}

-- drive k was begun, if it was to be
abbrev pub is_begun : ℕ → Phase → Bool
is_begun k (Begins d) = nat_lt k d
is_begun k _ = true

before_round : (n r d round e : ℕ) (w : Word) → r < round → IsBefore n r d w → IsBefore n round e w
before_round n r d round e w less (inl early) = inl (omega (arith, less, early))
before_round n r d round e w less (inr (same, low)) = inl (omega (arith, less, same))

before_drive : (n r d e : ℕ) (w : Word) → d ≤ e → IsBefore n r d w → IsBefore n r e w
before_drive n r d e w less (inl early) = inl early
before_drive n r d e w less (inr (same, low)) = inr (same, omega (arith, less, low))

-- ---- what comes next

either : (P : Phase → Type 0) (b : Bool) (x y : Phase) → (b ≡ true → P x) → (b ≡ false → P y) → P (if b then x else y)
either P true x y one two = one refl
either P false x y one two = two refl

more_if : (a b : ℕ) → nat_lt a b ≡ false → b ≤ a
more_if a b is = grind (arith, nat_tests)

less_if : (a b : ℕ) → nat_lt a b ≡ true → a < b
less_if a b is = grind (arith, nat_tests)

pub not_less : (a b : ℕ) → b ≤ a → nat_lt a b ≡ false
not_less a b more = grind (arith, nat_tests)

-- after the begin of a drive
pub begin_later : (n w d : ℕ) (v : Word) → IsBefore n 0 d v → IsEarly n (after_begin w d) v
begin_later n w d v early = either (λ p. IsEarly n p v) (nat_lt (suc d) w) (Begins (suc d)) (File 0) (λ is. before_drive n 0 d (suc d) v (omega arith) early) (λ is. before_round n 0 d 1 0 v (omega arith) early)

pub begin_now : (n w d : ℕ) (v : Word) → round_of n v.mark ≡ 0 → v.drive ≡ d → IsEarly n (after_begin w d) v
begin_now n w d v round of = either (λ p. IsEarly n p v) (nat_lt (suc d) w) (Begins (suc d)) (File 0) (λ is. inr (round, omega (arith, of))) (λ is. inl (omega (arith, round)))

pub begun_here : (w d : ℕ) → is_begun d (after_begin w d) ≡ true
begun_here w d = either (λ p. is_begun d p ≡ true) (nat_lt (suc d) w) (Begins (suc d)) (File 0) (λ is. lt-ltb d (suc d) (omega arith)) (λ is. refl)

pub not_begun : (d : ℕ) → is_begun d (Begins d) ≡ false
not_begun d = not_less d d (omega arith)

pub begun_others : (w d k : ℕ) → k ≢ d → k < w → is_begun k (after_begin w d) ≡ is_begun k (Begins d)
begun_others w d k ne within = either (λ p. is_begun k p ≡ nat_lt k d) (nat_lt (suc d) w) (Begins (suc d)) (File 0) (λ is. still) (λ is. over (more_if (suc d) w is))
  where
    still : nat_lt k (suc d) ≡ nat_lt k d
    still = elim (cases_Bool (nat_lt k d)) [
      | inl less ↦ let low = less_if k d less in lt-ltb k (suc d) (omega (arith, low)) ∙ sym less
      | inr more ↦ let high = more_if k d more in not_less k (suc d) (omega (arith, high, ne)) ∙ sym more
    ]

    over : w ≤ suc d → true ≡ nat_lt k d
    over last = sym (lt-ltb k d (omega (arith, last, within, ne)))

-- after a file
pub file_later : (n i e : ℕ) (v : Word) → i < n → IsBefore n (suc i) e v → IsEarly n (after_file n i) v
file_later n i e v within early = either (λ p. IsEarly n p v) (nat_lt (suc i) n) (File (suc i)) (Seals 0) (λ is. before_round n (suc i) e (suc (suc i)) 0 v (omega arith) early) (λ is. before_round n (suc i) e (suc n) 0 v (omega (arith, within)) early)

file_now : (n i : ℕ) (v : Word) → i < n → round_of n v.mark ≡ suc i → IsEarly n (after_file n i) v
file_now n i v within round = either (λ p. IsEarly n p v) (nat_lt (suc i) n) (File (suc i)) (Seals 0) (λ is. inl (omega (arith, round))) (λ is. inl (omega (arith, round, within)))

pub file_begun : (n i k : ℕ) → is_begun k (after_file n i) ≡ true
file_begun n i k = either (λ p. is_begun k p ≡ true) (nat_lt (suc i) n) (File (suc i)) (Seals 0) (λ is. refl) (λ is. refl)

-- after a drive of a copy was dropped
pub copies_later : (n i : ℕ) (copy : FileCopy) (v : Word) → i < n → IsBefore n (suc i) 0 v → IsEarly n (copies_on n i copy) v
copies_later n i copy v within early = either (λ p. IsEarly n p v) (is_some (lowest (live_of copy))) (Copies i copy) (after_file n i) (λ is. early) (λ is. file_later n i 0 v within early)

pub copies_begun : (n i : ℕ) (copy : FileCopy) (k : ℕ) → is_begun k (copies_on n i copy) ≡ true
copies_begun n i copy k = either (λ p. is_begun k p ≡ true) (is_some (lowest (live_of copy))) (Copies i copy) (after_file n i) (λ is. refl) (λ is. file_begun n i k)

-- after a file was recorded on a drive
pub record_later : (n w : ℕ) (rec : Rec) (d : ℕ) (v : Word) → rec.index < n → IsBefore n (suc rec.index) d v → IsEarly n (after_record w n rec d) v
record_later n w rec d v within early = either (λ p. IsEarly n p v) (nat_lt (suc d) w) (Records rec (suc d)) (after_file n rec.index) (λ is. before_drive n (suc rec.index) d (suc d) v (omega arith) early) (λ is. file_later n rec.index d v within early)

pub record_now : (n w : ℕ) (rec : Rec) (d : ℕ) (v : Word) → rec.index < n → round_of n v.mark ≡ suc rec.index → v.drive ≡ d → IsEarly n (after_record w n rec d) v
record_now n w rec d v within round of = either (λ p. IsEarly n p v) (nat_lt (suc d) w) (Records rec (suc d)) (after_file n rec.index) (λ is. inr (round, omega (arith, of))) (λ is. file_now n rec.index v within round)

pub record_begun : (n w : ℕ) (rec : Rec) (d k : ℕ) → is_begun k (after_record w n rec d) ≡ true
record_begun n w rec d k = either (λ p. is_begun k p ≡ true) (nat_lt (suc d) w) (Records rec (suc d)) (after_file n rec.index) (λ is. refl) (λ is. file_begun n rec.index k)

-- after a drive was sealed
pub seal_later : (n w d : ℕ) (v : Word) → IsBefore n (suc n) d v → IsEarly n (after_seal w d) v
seal_later n w d v early = either (λ p. IsEarly n p v) (nat_lt (suc d) w) (Seals (suc d)) Clears (λ is. before_drive n (suc n) d (suc d) v (omega arith) early) (λ is. tt)

pub seal_now : (n w d : ℕ) (v : Word) → round_of n v.mark ≡ suc n → v.drive ≡ d → IsEarly n (after_seal w d) v
seal_now n w d v round of = either (λ p. IsEarly n p v) (nat_lt (suc d) w) (Seals (suc d)) Clears (λ is. inr (round, omega (arith, of))) (λ is. tt)

pub seal_begun : (w d k : ℕ) → is_begun k (after_seal w d) ≡ true
seal_begun w d k = either (λ p. is_begun k p ≡ true) (nat_lt (suc d) w) (Seals (suc d)) Clears (λ is. refl) (λ is. refl)
