-- The state of a hasher as the list grows.
use Rattle.std.proofs.Common.{◌≡◌, ℕ, ◌+◌, ◌%◌, ◌^◌, ◌<◌, ◌≤◌, Bool, true, List, [], ◌++◌, length, refl, sym, ap, ◌∙◌, arith, append_assoc, length-append}
use Rattle.std.specs.Prelude.{nat_le}
use Rattle.std.specs.List.{fold}
use Rattle.std.proofs.lemmas.Bool.Decides.{nat_tests}
use Rattle.std.proofs.lemmas.List.Sums.{fold-append}
use Rattle.xxh64_stream.specs.Xxh64.{accumulators, absorb, groups, after_groups, start}
use Rattle.xxh64_stream.specs.State.{State, state_of}
use Rattle.xxh64_stream.proofs.Groups.{groups-append, after_groups-append, groups-one, after_groups-one, groups-none, after_groups-none, after_groups-empty, length-after_groups}

-- each part of a state is that of this seed and this list
pub record IsStateOf (seed : ℕ) (fed : List ℕ) (s : State) : Type 0 where
  pub seed_is : s.seed ≡ seed
  pub accs_are : s.accs ≡ accumulators seed fed
  pub rest_is : s.rest ≡ after_groups 32 fed
  pub striped_is : s.striped ≡ nat_le 32 (length fed)
  pub total_is : s.total ≡ length fed % 2 ^ 64

pub parts_of : {seed : ℕ} {fed : List ℕ} {s : State} → s ≡ state_of seed fed → IsStateOf seed fed s
unfolding state_of
parts_of e = record {
  seed_is = ap (λ (s : State). s.seed) e;
  accs_are = ap (λ (s : State). s.accs) e;
  rest_is = ap (λ (s : State). s.rest) e;
  striped_is = ap (λ (s : State). s.striped) e;
  total_is = ap (λ (s : State). s.total) e;
}

-- states with the same parts
same_state : (sd sd' : ℕ) (a a' r r' : List ℕ) (b b' : Bool) (t t' : ℕ) → sd ≡ sd' → a ≡ a' → r ≡ r' → b ≡ b' → t ≡ t'
    → ◌≡◌ {A = State} (record { seed = sd; accs = a; rest = r; striped = b; total = t }) (record { seed = sd'; accs = a'; rest = r'; striped = b'; total = t' })
same_state sd sd' a a' r r' b b' t t' e1 e2 e3 e4 e5 = rw (e1, e2, e3, e4, e5)

pub from_parts : {seed : ℕ} {fed : List ℕ} {s : State} → IsStateOf seed fed s → s ≡ state_of seed fed
unfolding state_of
from_parts {seed} {fed} {s} p = same_state s.seed _ s.accs _ s.rest _ s.striped _ s.total _ p.seed_is p.accs_are p.rest_is p.striped_is p.total_is

-- the accumulators go on from where they are
pub accumulators-append : (seed : ℕ) (xs ys : List ℕ) → accumulators seed (xs ++ ys) ≡ fold absorb (accumulators seed xs) (groups 32 (after_groups 32 xs ++ ys))
unfolding accumulators
accumulators-append seed xs ys =
    rw (groups-append xs ys, fold-append absorb (start seed) (groups 32 xs) (groups 32 (after_groups 32 xs ++ ys)))

-- the length of a longer list, as the code counts it
pub total-append : (t : ℕ) (xs ys : List ℕ) → t ≡ length xs % 2 ^ 64 → (t + length ys) % 2 ^ 64 ≡ length (xs ++ ys) % 2 ^ 64
total-append t xs ys e = omega (arith, length-append xs ys)

-- a list that stays within a stripe is as long as a stripe where it was before
striped_same : (m k : ℕ) → m % 32 + k < 32 → nat_le 32 m ≡ nat_le 32 (m + k)
striped_same m k h = grind (arith, nat_tests)

striped_true : (m : ℕ) → 32 ≤ m → true ≡ nat_le 32 m
striped_true m h = grind (arith, nat_tests)

-- fewer bytes than fill a stripe: they join those that are left
pub state_short : {seed : ℕ} {fed : List ℕ} {s : State} (d r : List ℕ) (t : ℕ) → IsStateOf seed fed s → s.total % 32 + length d < 32
    → r ≡ s.rest ++ d → t ≡ (s.total + length d) % 2 ^ 64 → IsStateOf seed (fed ++ d) (record s { rest = r; total = t })
state_short {seed} {fed} {s} d r t p short er et =
    let held : length (after_groups 32 fed) ≡ length fed % 32 = length-after_groups fed in
    let few : length (after_groups 32 fed ++ d) < 32 = omega (arith, p.total_is, length-append (after_groups 32 fed) d) in
    let long : length (fed ++ d) ≡ length fed + length d = length-append fed d in
    record {
      seed_is = p.seed_is;
      accs_are = p.accs_are ∙ sym (rw (accumulators-append seed fed d, groups-none (after_groups 32 fed ++ d) few));
      rest_is = er ∙ rw (p.rest_is, after_groups-append fed d, after_groups-none (after_groups 32 fed ++ d) few);
      striped_is = p.striped_is ∙ rw long (striped_same (length fed) (length d) (omega (arith, p.total_is)));
      total_is = et ∙ total-append s.total fed d p.total_is;
    }

-- of all bytes, those of whole stripes in front are in the accumulators, and these remain
pub record Remains (seed : ℕ) (all accs rest : List ℕ) : Type 0 where
  pub front : List ℕ
  pub accs_are : accs ≡ accumulators seed front
  pub nothing_left : after_groups 32 front ≡ []
  pub joined : front ++ rest ≡ all

-- after bytes that fill the stripe
pub remains_filled : {seed : ℕ} {fed : List ℕ} {s : State} (d rest all stripe accs : List ℕ) → IsStateOf seed fed s → s.total % 32 + length d ≡ 32
    → stripe ≡ s.rest ++ d → accs ≡ absorb s.accs stripe → all ≡ d ++ rest → Remains seed (fed ++ all) accs rest
remains_filled {seed} {fed} {s} d rest all stripe accs p full es ea ed =
    let held : length (after_groups 32 fed) ≡ length fed % 32 = length-after_groups fed in
    let one : length (after_groups 32 fed ++ d) ≡ 32 = omega (arith, p.total_is, length-append (after_groups 32 fed) d) in
    let same : stripe ≡ after_groups 32 fed ++ d = es ∙ rw p.rest_is in
    record {
      front = fed ++ d;
      accs_are = ea ∙ sym (rw (accumulators-append seed fed d, groups-one (after_groups 32 fed ++ d) one, ← same, ← p.accs_are));
      nothing_left = after_groups-append fed d ∙ after_groups-one (after_groups 32 fed ++ d) one;
      joined = append_assoc fed d rest ∙ rw ed;
    }

-- where nothing was left
pub remains_all : {seed : ℕ} {fed : List ℕ} {s : State} (all : List ℕ) → IsStateOf seed fed s → s.total % 32 ≤ 0 → Remains seed (fed ++ all) s.accs all
remains_all {seed} {fed} {s} all p none = record {
  front = fed;
  accs_are = p.accs_are;
  nothing_left = after_groups-empty fed (omega (arith, p.total_is));
  joined = refl;
}

pub remains_length : {seed : ℕ} {all accs rest : List ℕ} → Remains seed all accs rest → length rest % 32 ≡ length all % 32
remains_length {seed} {all} {accs} {rest} p =
    let none : length p.front % 32 ≡ 0 = sym (length-after_groups p.front) ∙ ap length p.nothing_left in
    let both : length p.front + length rest ≡ length all = sym (length-append p.front rest) ∙ ap length p.joined in
    omega arith

-- the bytes that remain taken in, where all bytes have a whole stripe
pub state_whole : {seed : ℕ} {all accs rest : List ℕ} (sd : ℕ) (new_accs tail : List ℕ) (t : ℕ) → Remains seed all accs rest → 32 ≤ length all
    → sd ≡ seed → new_accs ≡ fold absorb accs (groups 32 rest) → tail ≡ after_groups 32 rest → t ≡ length all % 2 ^ 64
    → IsStateOf seed all (record { seed = sd; accs = new_accs; rest = tail; striped = true; total = t })
state_whole {seed} {all} {accs} {rest} sd new_accs tail t p long es ea er et =
    record {
      seed_is = es;
      accs_are = ea ∙ sym (rw (← p.joined, accumulators-append seed p.front rest, p.nothing_left, ← p.accs_are));
      rest_is = er ∙ sym (rw (← p.joined, after_groups-append p.front rest, p.nothing_left));
      striped_is = striped_true (length all) long;
      total_is = et;
    }
