-- The drives of a run that are such: those on which a file is due, and those that are sealed.
use Rattle.std.proofs.Common.{◌≡◌, ◌≢◌, ◌⊎◌, inl, inr, ℕ, zero, suc, ◌+◌, ◌*◌, ◌<◌, ◌≤◌, Bool, true, false, List, [], ◌∷◌, ◌++◌, length, map, take, drop, slice_set, refl, sym, ◌∙◌, ap, subst, arith, length-set, get_or-set_same, get_or-set_other}
use Rattle.std.specs.Prelude.{Option, Some, None, is_some, slice_index_or, if◌then◌else◌}
use Rattle.std.specs.List.{slice_get}
use Rattle.std.proofs.lemmas.Bool.{cases_eq, cases_lt, false≢true}
use Rattle.std.proofs.lemmas.List.{map_more}
use Rattle.std.proofs.lemmas.Option.{slice_get_within, get_or_from_slice_get}
use Rattle.std.proofs.Math.ListN.{get_or-eq_default}
use Rattle.std.proofs.Math.Nat.{mul-le-mul_left}
use Rattle.bay_core.specs.World.{World}
use Rattle.block_pool.specs.Lent.{PoolState}
use Rattle.copy_plan.specs.declared.file.PlannedFile.{PlannedFile}
use Rattle.copy_plan.specs.Plan.{PlanValue}
use Rattle.fan_core.specs.Flags.{has, HasSome, lowest, count, no_drives}
use Rattle.fan_core.proofs.Rules.{lowest_has, none_lowest}
use Rattle.fan_copier.specs.declared.copy.FileCopy.{FileCopy}
use Rattle.fan_copier.specs.Copying.{card_of, size_of, live_of, kept_of, slots_at_most, standing, Copying, NoPart, PartBegins}
use Rattle.fan_copier.specs.Standing.{IsAtStart, blocks_of}
use Rattle.fan_copier.specs.Turning.{turns_left}
use Rattle.run_state.specs.declared.drive.DriveRun.{DriveRun}
use Rattle.run_state.specs.declared.drive.DriveRun.TheVariants.{Gone as GoneRun, Fresh as FreshRun, Begun as BegunRun, Found as FoundRun, Sealed as SealedRun}
use Rattle.run_state.specs.declared.phase.Phase.TheVariants.{File, Copies}
use Rattle.run_state.specs.Copies.{Opens}
use Rattle.run_state.specs.Rules.{file_turns, turns_of, turns_after, last_turns, left_at}
use Rattle.run_state.specs.State.{Ordered, DriveAt, Gone, Journaled, at_of, drive_at, is_sealed, due, keeps_part, count_sealed, IsDueNowhere}
use Rattle.offload_run.proofs.Nearing.{count_most}

-- ---- sealed drives

-- one drive more
count_push : (each : List DriveAt) (x : DriveAt) → count_sealed (each ++ x ∷ []) ≡ (if is_sealed x then suc (count_sealed each) else count_sealed each)
count_push [] x = refl
count_push (y ∷ each) x = step (is_sealed y) (is_sealed x) (count_push each x)
  where
    step : (b c : Bool) → count_sealed (each ++ x ∷ []) ≡ (if c then suc (count_sealed each) else count_sealed each)
        → (if b then suc (count_sealed (each ++ x ∷ [])) else count_sealed (each ++ x ∷ [])) ≡ (if c then suc (if b then suc (count_sealed each) else count_sealed each) else (if b then suc (count_sealed each) else count_sealed each))
    step true true rest = ap suc rest
    step true false rest = ap suc rest
    step false true rest = rest
    step false false rest = rest

count_more : (items : List DriveRun) (i : ℕ) (x : DriveRun) → i < length items → x ≡ slice_index_or items i x → count_sealed (map at_of (take (i + 1) items)) ≡ (if is_sealed (at_of x) then suc (count_sealed (map at_of (take i items))) else count_sealed (map at_of (take i items)))
count_more items i x within is =
    ap count_sealed (map_more at_of items i x within) ∙ count_push (map at_of (take i items)) (at_of (slice_index_or items i x)) ∙ ap (λ (y : DriveAt). if is_sealed y then suc (count_sealed (map at_of (take i items))) else count_sealed (map at_of (take i items))) same
  where
    same : at_of (slice_index_or items i x) ≡ at_of x
    same = ap at_of (sym is)

-- a drive more that is sealed
pub count_one : (items : List DriveRun) (i : ℕ) (x : DriveRun) → i < length items → x ≡ slice_index_or items i x → x ≡ SealedRun → count_sealed (map at_of (take (i + 1) items)) ≡ count_sealed (map at_of (take i items)) + 1
count_one items i x within read is =
    let more = count_more items i x within read in
    let one : count_sealed (map at_of (take (i + 1) items)) ≡ suc (count_sealed (map at_of (take i items))) = more ∙ ap (λ (y : DriveRun). if is_sealed (at_of y) then suc (count_sealed (map at_of (take i items))) else count_sealed (map at_of (take i items))) is in
    omega (arith, one)

unsealed : (x : DriveRun) → x ≢ SealedRun → is_sealed (at_of x) ≡ false
unsealed GoneRun other = refl
unsealed (FreshRun room) other = refl
unsealed (BegunRun entries gate kept) other = refl
unsealed (FoundRun entries) other = refl
unsealed SealedRun other = absurd (other refl)

-- or is not
pub count_same : (items : List DriveRun) (i : ℕ) (x : DriveRun) → i < length items → x ≡ slice_index_or items i x → x ≢ SealedRun → count_sealed (map at_of (take (i + 1) items)) ≡ count_sealed (map at_of (take i items))
count_same items i x within read other = count_more items i x within read ∙ ap (λ (b : Bool). if b then suc (count_sealed (map at_of (take i items))) else count_sealed (map at_of (take i items))) (unsealed x other)

-- no more are sealed than there are
pub count_few : (each : List DriveAt) → count_sealed each ≤ length each
count_few [] = omega arith
count_few (x ∷ each) = step (is_sealed x) (count_few each)
  where
    step : (b : Bool) → count_sealed each ≤ length each → (if b then suc (count_sealed each) else count_sealed each) ≤ suc (length each)
    step true rest = omega (arith, rest)
    step false rest = omega (arith, rest)

-- ---- a set of the numbers that are such

-- the set has just those numbers below i that are such
pub record Below (such : ℕ → Bool) (i : ℕ) (set : List Bool) : Type 0 where
  pub eight : length set ≡ 8
  pub low : (k : ℕ) → k < i → has set k ≡ such k
  pub high : (k : ℕ) → i ≤ k → has set k ≡ false

pub below_none : (such : ℕ → Bool) (set : List Bool) → set ≡ no_drives → Below such 0 set
below_none such set is = record {
  eight = ap (λ (l : List Bool). length l) is;
  low = λ k below. absurd (omega (arith, below));
  high = λ k above. ap (λ (l : List Bool). has l k) is ∙ none_lowest no_drives refl k;
}

pub below_next : (such : ℕ → Bool) (i : ℕ) (set new : List Bool) (b : Bool) → i < 8 → b ≡ such i → new ≡ (if b then slice_set set i true else set) → Below such i set → Below such (i + 1) new
below_next such i set new true small is made h = record {
  eight = ap (λ (l : List Bool). length l) made ∙ length-set set i true ∙ h.eight;
  low = λ k below. low k below (cases_eq k i);
  high = λ k above. ap (λ (l : List Bool). has l k) made ∙ get_or-set_other set i k true false (λ same. absurd (omega (arith, above, same))) ∙ h.high k (omega (arith, above));
}
  where
    low : (k : ℕ) → k < i + 1 → (k ≡ i) ⊎ (k ≡ i → ⊥) → has new k ≡ such k
    low k below (inl same) = ap (has new) same ∙ ap (λ (l : List Bool). has l i) made ∙ get_or-set_same set i true false (let eight = h.eight in omega (arith, eight, small)) ∙ is ∙ ap such (sym same)
    low k below (inr other) = ap (λ (l : List Bool). has l k) made ∙ get_or-set_other set i k true false other ∙ h.low k (omega (arith, below, other))
below_next such i set new false small is made h = record {
  eight = ap (λ (l : List Bool). length l) made ∙ h.eight;
  low = λ k below. low k below (cases_eq k i);
  high = λ k above. ap (λ (l : List Bool). has l k) made ∙ h.high k (omega (arith, above));
}
  where
    low : (k : ℕ) → k < i + 1 → (k ≡ i) ⊎ (k ≡ i → ⊥) → has new k ≡ such k
    low k below (inl same) = ap (λ (l : List Bool). has l k) made ∙ h.high k (omega (arith, same)) ∙ is ∙ ap such (sym same)
    low k below (inr other) = ap (λ (l : List Bool). has l k) made ∙ h.low k (omega (arith, below, other))

pub below_all : (such : ℕ → Bool) (i : ℕ) (set : List Bool) → ((k : ℕ) → i ≤ k → such k ≡ false) → Below such i set → (k : ℕ) → has set k ≡ such k
below_all such i set past h k = step (cases_lt k i)
  where
    step : (k < i) ⊎ (i ≤ k) → has set k ≡ such k
    step (inl below) = h.low k below
    step (inr above) = h.high k above ∙ sym (past k above)

-- ---- a file that is due

-- behind the last drive none is due
pub due_past : (each : List DriveAt) (index k : ℕ) → length each ≤ k → due index (drive_at each k) ≡ None
due_past each index k past = ap (due index) (get_or-eq_default each Gone past)

-- one that keeps its part is due
pub kept_due : (o : Option Journaled) → keeps_part o ≡ true → is_some o ≡ true
kept_due None is = is
kept_due (Some j) is = refl

due_no : (o : Option Journaled) → is_some o ≡ false → o ≡ None
due_no None is = refl
due_no (Some j) is = absurd (false≢true (sym is))

-- a set with no least number
pub due_nowhere : (each : List DriveAt) (index : ℕ) (set : List Bool) → ((d : ℕ) → has set d ≡ is_some (due index (drive_at each d))) → lowest set ≡ None → IsDueNowhere index each
due_nowhere each index set are none = λ d. due_no (due index (drive_at each d)) (sym (are d) ∙ none_lowest set none d)

pub some_number : (set : List Bool) (found : Option ℕ) → found ≡ lowest set → is_some found ≡ true → HasSome set
some_number set None is some = absurd (false≢true some)
some_number set (Some d) is some = (d, lowest_has set d (sym is))

-- each of a set of just these drives is there
pub due_within : (each : List DriveAt) (index : ℕ) (set : List Bool) → ((d : ℕ) → has set d ≡ is_some (due index (drive_at each d))) → (d : ℕ) → has set d ≡ true → d < length each
due_within each index set are d there = step (cases_lt d (length each))
  where
    step : (d < length each) ⊎ (length each ≤ d) → d < length each
    step (inl below) = below
    step (inr past) = absurd (false≢true (sym (ap is_some (due_past each index d past)) ∙ sym (are d) ∙ there))

-- a set with some drive has a least one
pub some_lowest : (set live : List Bool) → live ≡ set → HasSome set → lowest live ≢ None
some_lowest set live is some none = absurd (false≢true (sym (none_lowest set (sym (ap lowest is) ∙ none) some.0) ∙ some.1))

-- ---- a copy begins

pub opens : (o : Ordered) (each : List DriveAt) (i size : ℕ) (copy : FileCopy) (drives kept : List Bool) → card_of copy ≡ o.source → size_of copy ≡ size → live_of copy ≡ drives → slots_at_most copy ≡ o.slots → kept_of copy ≡ kept
    → ((d : ℕ) → has drives d ≡ is_some (due i (drive_at each d))) → ((d : ℕ) → has kept d ≡ keeps_part (due i (drive_at each d))) → IsAtStart size drives kept o.slots (standing copy)
    → ((pool : PoolState) (w : World) → ((d : ℕ) → has drives d ≡ true → has kept d ≡ false → NoPart d w) → ((d : ℕ) → has kept d ≡ true → PartBegins d size w []) → Copying copy pool w [])
    → Opens o each i size copy
opens o each i size copy drives kept card sized live slots keeping due_on kept_on stands copying = record {
  card = card;
  sized = sized;
  slots = slots;
  live = λ d. ap (λ (l : List Bool). has l d) live ∙ due_on d;
  kept = λ d. ap (λ (l : List Bool). has l d) keeping ∙ kept_on d;
  stands = subst (λ (k : List Bool). IsAtStart size (live_of copy) k o.slots (standing copy)) (sym keeping) (subst (λ (l : List Bool). IsAtStart size l kept o.slots (standing copy)) (sym live) stands);
  copying = λ pool w none begins. copying pool w
      (λ d there out. none d (ap (λ (l : List Bool). has l d) live ∙ there) (ap (λ (l : List Bool). has l d) keeping ∙ out))
      (λ d there. begins d (ap (λ (l : List Bool). has l d) keeping ∙ there));
}

-- ---- the turns of a copy that begins

turns_get : (w : ℕ) (files : List PlannedFile) (i : ℕ) (f : PlannedFile) → i < length files → turns_of w (drop i files) ≡ file_turns w (slice_index_or files i f).size + turns_of w (drop (suc i) files)
turns_get w [] i f low = absurd (omega (arith, low))
turns_get w (g ∷ []) zero f low = refl
turns_get w (g ∷ (h ∷ files)) zero f low = refl
turns_get w (g ∷ files) (suc i) f low = turns_get w files i f (omega (arith, low))

less_turns : (b n w rest left : ℕ) → n ≤ w → left ≤ (b + 1) * (n + 1) → left + (1 + w + rest) < ((b + 1) * (w + 1) + (w + 2)) + rest
less_turns b n w rest left few most =
    let wide : (b + 1) * (n + 1) ≤ (b + 1) * (w + 1) = mul-le-mul_left (b + 1) (omega (arith, few)) in
    omega (arith, wide, most)

pub open_left : (w : ℕ) (p : PlanValue) (i : ℕ) (f : PlannedFile) (copy : FileCopy) (drives : List Bool) → slice_get p.files i ≡ Some f → ((d : ℕ) → has drives d ≡ true → d < w) → turns_left (standing copy) ≤ (blocks_of f.size + 1) * (count drives + 1) → left_at w p (Copies i copy) < left_at w p (File i)
open_left w p i f copy drives is within few =
    let most = count_most drives w within in
    let at : turns_of w (drop i p.files) ≡ file_turns w f.size + turns_of w (drop (suc i) p.files) = turns_get w p.files i f (slice_get_within p.files i f is) ∙ ap (λ (g : PlannedFile). file_turns w g.size + turns_of w (drop (suc i) p.files)) (get_or_from_slice_get p.files i f f is) in
    let less = less_turns (blocks_of f.size) (count drives) w (turns_after w p i) (turns_left (standing copy)) most few in
    subst (λ (k : ℕ). turns_left (standing copy) + (1 + w + turns_after w p i) < k + last_turns w) (sym at) (regroup ((blocks_of f.size + 1) * (w + 1) + (w + 2)) (turns_of w (drop (suc i) p.files)) (last_turns w) _ less)
  where
    regroup : (a b c x : ℕ) → x < a + (b + c) → x < (a + b) + c
    regroup a b c x less = omega (arith, less)
