-- Which drives of a run are sealed, by its lines and by where it stands.
use Rattle.std.proofs.Common.{◌≡◌, ◌≢◌, ◌⊎◌, inl, inr, ℕ, zero, suc, ◌-◌, ◌<◌, ◌≤◌, Bool, true, false, cond, List, [], ◌∷◌, ◌++◌, length, map, refl, sym, ap, ◌∙◌, subst, arith, append-nil}
use Rattle.std.specs.Prelude.{Contains, nat_lt, if◌then◌else◌}
use Rattle.std.specs.List.{filter, AllByRecursion}
use Rattle.std.proofs.lemmas.Bool.{cases_Bool, false≢true, ltb-true, ltb-false}
use Rattle.std.proofs.lemmas.List.Elements.{All-contains, All-from_recursion, Contains-append_right, Contains-append_cases}
use Rattle.bay_core.specs.declared.event.Event.{Event}
use Rattle.copy_plan.specs.Plan.{list_of}
use Rattle.fan_core.specs.Flags.{has, count}
use Rattle.offload_law.specs.Clear.{IsSaid, IsCalledSealed}
use Rattle.offload_law.specs.Lines.{IsShort}
use Rattle.report_text.specs.Run.{sealed_text, clear_text}
use Rattle.run_state.specs.declared.outcome.Outcome.{Outcome}
use Rattle.run_state.specs.declared.outcome.Outcome.TheVariants.{Going, Finished, NoDrive, SourceFailed, Changed, Altered, OutFailed}
use Rattle.run_state.specs.Acts.{is_clear}
use Rattle.run_state.specs.Runs.{Point, is_about}
use Rattle.run_state.specs.State.{Ordered, Fresh, is_of_run, files_of, drive_at}
use Rattle.run_lines.specs.Lines.{lines_in, lines_about, IsEnd, OneLineEach, StandAlone, clear_lines, SaysSome, SaysAll, SaysBy}
use Rattle.run_lines.specs.Words.{Mark, Begun, Done, Sealed, Lost, Word, mark_text, word_text, all_marks, begun_marks, dones, is_seal, sealed_in, IsWhole}
use Rattle.run_lines.proofs.Counts.{contains_map, contains_unmap}
use Rattle.run_lines.proofs.Saying.{said_line, line_said}
use Rattle.run_lines.proofs.Texts.{seals_it, sealed_about, clear_not_sealed}
use Rattle.job_ends.specs.Ends.{IsDropped}

-- ---- sets of flags

few_set : (set : List Bool) (n : ℕ) → ((d : ℕ) → has set d ≡ true → d < n) → count set ≤ n
few_set [] n low = omega arith
few_set (true ∷ set) zero low = absurd (let none = low 0 refl in omega (arith, none))
few_set (true ∷ set) (suc n) low = let rest = few_set set n (λ d on. let next = low (suc d) on in omega (arith, next)) in omega (arith, rest)
few_set (false ∷ set) zero low = few_set set zero (λ d on. let next = low (suc d) on in omega (arith, next))
few_set (false ∷ set) (suc n) low = let rest = few_set set n (λ d on. let next = low (suc d) on in omega (arith, next)) in omega (arith, rest)

-- so many of as many are all
pub full_set : (set : List Bool) (n : ℕ) → ((d : ℕ) → has set d ≡ true → d < n) → count set ≡ n → (d : ℕ) → d < n → has set d ≡ true
full_set [] n low is d small = absurd (omega (arith, is, small))
full_set (b ∷ set) zero low is d small = absurd (omega (arith, small))
full_set (true ∷ set) (suc n) low is zero small = refl
full_set (true ∷ set) (suc n) low is (suc d) small = full_set set n (λ e on. let next = low (suc e) on in omega (arith, next)) (omega (arith, is)) d (omega (arith, small))
full_set (false ∷ set) (suc n) low is d small = absurd (let few = few_set set n (λ e on. let next = low (suc e) on in omega (arith, next)) in omega (arith, few, is))

-- and all are so many
pub whole_set : (set : List Bool) (n : ℕ) → ((d : ℕ) → has set d ≡ true → d < n) → ((d : ℕ) → d < n → has set d ≡ true) → count set ≡ n
whole_set [] zero low all = refl
whole_set [] (suc n) low all = absurd (false≢true (all 0 (omega arith)))
whole_set (true ∷ set) zero low all = absurd (let none = low 0 refl in omega (arith, none))
whole_set (false ∷ set) zero low all = whole_set set zero (λ d on. let next = low (suc d) on in omega (arith, next)) (λ d small. absurd (omega (arith, small)))
whole_set (false ∷ set) (suc n) low all = absurd (false≢true (all 0 (omega arith)))
whole_set (true ∷ set) (suc n) low all =
    let rest = whole_set set n (λ d on. let next = low (suc d) on in omega (arith, next)) (λ d small. all (suc d) (omega (arith, small))) in
    omega (arith, rest)

lower_or : (d n : ℕ) → d ≤ n → (d < n) ⊎ (d ≡ n)
lower_or d n most = elim (cases_Bool (nat_lt d n)) [
  | inl is ↦ inl (ltb-true d n is)
  | inr not_so ↦ (let high = ltb-false d n not_so in inr (omega (arith, high, most)))
]

last_too : (P Q : ℕ → Type 0) (n : ℕ) → ((e : ℕ) → e < n → Q e) → Q n → (d : ℕ) → d < suc n → Q d
last_too P Q n all last d low = elim (lower_or d n (omega (arith, low))) [
  | inl less ↦ all d less
  | inr same ↦ subst Q (sym same) last
]

-- one is such, or all are otherwise
pub search_low : (P Q : ℕ → Type 0) (n : ℕ) → ((d : ℕ) → d < n → P d ⊎ Q d) → ((d : ℕ) × (d < n) × P d) ⊎ ((d : ℕ) → d < n → Q d)
search_low P Q zero either = inr (λ d low. absurd (omega (arith, low)))
search_low P Q (suc n) either = elim (either n (omega arith)) [
  | inl here ↦ inl (n, omega arith, here)
  | inr not_here ↦ elim (search_low P Q n (λ d low. either d (omega (arith, low)))) [
    | inl found ↦ (let low = found.1 in inl (found.0, omega (arith, low), found.2))
    | inr all ↦ inr (λ d low. last_too P Q n all not_here d low)
  ]
]

-- ---- what stands in lists

keeps_if : {X : Type 0} (b : Bool) (y x : X) (ys xs : List X) → (Contains ys x → Contains xs x) → Contains (cond b (y ∷ ys) ys) x → Contains (y ∷ xs) x
keeps_if true y x ys xs so (zero, inside, is) = (0, omega arith, is)
keeps_if true y x ys xs so (suc k, inside, is) = let r = so (k, omega (arith, inside), is) in let within = r.1 in (suc r.0, omega (arith, within), r.2)
keeps_if false y x ys xs so has = let r = so has in let within = r.1 in (suc r.0, omega (arith, within), r.2)

contains_unfilter : {X : Type 0} (p : X → Bool) (xs : List X) (x : X) → Contains (filter p xs) x → Contains xs x
contains_unfilter p [] x has = has
contains_unfilter p (y ∷ xs) x has = keeps_if (p y) y x (filter p xs) xs (contains_unfilter p xs x) has

has_if : {X : Type 0} (b : Bool) (y x : X) (ys : List X) → Contains ys x → Contains (cond b (y ∷ ys) ys) x
has_if true y x ys (k, inside, is) = (suc k, omega (arith, inside), is)
has_if false y x ys has = has

contains_filter : {X : Type 0} (p : X → Bool) (xs : List X) (x : X) → p x ≡ true → Contains xs x → Contains (filter p xs) x
contains_filter p [] x on (k, inside, is) = absurd (omega (arith, inside))
contains_filter p (y ∷ xs) x on (zero, inside, is) =
    let here : p y ≡ true = ap p is ∙ on in
    subst (λ (l : List _). Contains l x) (sym (ap (λ (b : Bool). cond b (y ∷ filter p xs) (filter p xs)) here)) (0, omega arith, is)
contains_filter p (y ∷ xs) x on (suc k, inside, is) = has_if (p y) y x (filter p xs) (contains_filter p xs x on (k, omega (arith, inside), is))

-- ---- lines and marks

seal_mark : (m : Mark) → is_seal m ≡ true → m ≡ Sealed
seal_mark Sealed is = refl
seal_mark (Begun k) is = absurd (false≢true is)
seal_mark (Done j) is = absurd (false≢true is)
seal_mark (Lost loss) is = absurd (false≢true is)

-- all that is to be said of a drive has `sealed`
begun_sealed : (n : ℕ) → Contains (begun_marks n 0) Sealed
begun_sealed n = Contains-append_right (Begun 0 ∷ dones 0 (n - 0)) (Sealed ∷ []) Sealed (0, omega arith, refl)

-- The lines of turns: of drives of the run, and then none `sealed`.
pub record TurnLines (o : Ordered) (a : Point) (T : List Event) : Type 0 where
  pub words : List Word
  pub tail : List (List ℕ)
  pub lines : lines_in T ≡ map (word_text o.plan) words ++ tail
  pub ours : AllByRecursion (λ (w : Word). is_of_run a.at.drives w.drive ≡ true) words
  pub off : (d m : ℕ) (list : List ℕ) → Contains tail (sealed_text d m list) → ⊥

clear_off : (required sealed d m : ℕ) (list : List ℕ) (b : Bool) → Contains (if b then clear_text sealed required ∷ [] else []) (sealed_text d m list) → ⊥
clear_off required sealed d m list true (zero, inside, is) = clear_not_sealed sealed required d m list is
clear_off required sealed d m list true (suc k, inside, is) = absurd (omega (arith, inside))
clear_off required sealed d m list false (k, inside, is) = absurd (omega (arith, inside))

none_off : (d m : ℕ) (list : List ℕ) → Contains [] (sealed_text d m list) → ⊥
none_off d m list (k, inside, is) = absurd (omega (arith, inside))

some_lines : (o : Ordered) (a : Point) (T : List Event) → SaysSome o a (StandAlone T) → TurnLines o a T
some_lines o a T s = record { words = s.words; tail = []; lines = s.lines ∙ sym (append-nil (map (word_text o.plan) s.words)); ours = s.are.ours; off = none_off }

all_lines : (o : Ordered) (a : Point) (T : List Event) → SaysAll o a (StandAlone T) → TurnLines o a T
all_lines o a T s = record {
  words = s.words;
  tail = clear_lines o.copies (length (sealed_in s.words));
  lines = s.lines;
  ours = s.are.ours;
  off = λ d m list has. clear_off o.copies (length (sealed_in s.words)) d m list (is_clear (length (sealed_in s.words)) o.copies) has;
}

pub turn_lines : (o : Ordered) (a : Point) (T : List Event) (outcome : Outcome) → SaysBy o a outcome (StandAlone T) → TurnLines o a T
turn_lines o a T Finished s = all_lines o a T s
turn_lines o a T NoDrive s = all_lines o a T s
turn_lines o a T OutFailed (inl s) = some_lines o a T s
turn_lines o a T OutFailed (inr s) = all_lines o a T s
turn_lines o a T Going s = some_lines o a T s
turn_lines o a T SourceFailed s = some_lines o a T s
turn_lines o a T (Changed i listed read) s = some_lines o a T s
turn_lines o a T (Altered i l t) s = some_lines o a T s

module _ (o : Ordered) (a b : Point) (T : List Event) (lines : TurnLines o a T) (each : OneLineEach o a b T) (heard : b.at.outcome ≢ OutFailed) (low : (d : ℕ) → is_of_run a.at.drives d ≡ true → d < 10) where
  -- ---- drives of the run

  -- a drive that is called sealed is one of the run
  called_of_run : (d m : ℕ) (list : List ℕ) → IsSaid T (sealed_text d m list) → is_of_run a.at.drives d ≡ true
  called_of_run d m list said = elim (Contains-append_cases (map (word_text o.plan) lines.words) lines.tail (sealed_text d m list) (subst (λ (l : List (List ℕ)). Contains l (sealed_text d m list)) lines.lines (said_line T (sealed_text d m list) said))) [
    | inl here ↦
        let w = contains_unmap (word_text o.plan) lines.words (sealed_text d m list) here in
        let of : is_of_run a.at.drives w.0.drive ≡ true = All-contains (λ (v : Word). is_of_run a.at.drives v.drive ≡ true) lines.words w.0 (All-from_recursion (λ (v : Word). is_of_run a.at.drives v.drive ≡ true) lines.words lines.ours) w.1 in
        let seals = seals_it o.plan w.0.drive w.0.mark d m list (low w.0.drive of) w.2 in
        subst (λ (e : ℕ). is_of_run a.at.drives e ≡ true) seals.1 of
    | inr there ↦ absurd (lines.off d m list there)
  ]

  -- so it is sealed
  pub called_sealed : (d m : ℕ) (list : List ℕ) → IsSaid T (sealed_text d m list) → has b.at.drives.sealed d ≡ true
  called_sealed d m list said =
      let of = called_of_run d m list said in
      let s = each.each d of in
      let about : Contains (lines_about d T) (sealed_text d m list) = contains_filter (λ (line : List ℕ). is_about d line) (lines_in T) (sealed_text d m list) (sealed_about d m list) (said_line T (sealed_text d m list) said) in
      let mark = contains_unmap (mark_text o.plan d) s.marks (sealed_text d m list) (subst (λ (l : List (List ℕ)). Contains l (sealed_text d m list)) s.lines about) in
      let is : mark.0 ≡ Sealed = seal_mark mark.0 (seals_it o.plan d mark.0 d m list (low d of) mark.2).0 in
      (s.sealed heard).1 (subst (Contains s.marks) is mark.1)

  -- a line of a mark was said
  mark_said : (d : ℕ) (of : is_of_run a.at.drives d ≡ true) (m : Mark) → Contains (each.each d of).marks m → IsSaid T (mark_text o.plan d m)
  mark_said d of m has =
      let s = each.each d of in
      line_said T (mark_text o.plan d m)
      (contains_unfilter (λ (line : List ℕ). is_about d line) (lines_in T) (mark_text o.plan d m)
      (subst (λ (l : List (List ℕ)). Contains l (mark_text o.plan d m)) (sym s.lines) (contains_map (mark_text o.plan d) s.marks m has)))

  -- and one that is sealed is of the run, and is called so
  pub sealed_of_run : (d : ℕ) → has b.at.drives.sealed d ≡ true → is_of_run a.at.drives d ≡ true
  sealed_of_run d on = elim (cases_Bool (is_of_run a.at.drives d)) [
    | inl is ↦ is
    | inr off ↦ absurd (false≢true (sym (each.no_other d off).0 ∙ on))
  ]

  pub sealed_called : (d : ℕ) → IsShort (files_of o.plan) → has b.at.drives.sealed d ≡ true → IsCalledSealed d T
  sealed_called d short on =
      let of = sealed_of_run d on in
      (files_of o.plan, list_of o.plan, short, mark_said d of Sealed (((each.each d of).sealed heard).0 on))

  -- at the end of the run each drive of it that was fresh is sealed, or was dropped
  pub sealed_or : (d : ℕ) → is_of_run a.at.drives d ≡ true → drive_at a.at.drives.each d ≡ Fresh → IsEnd b.at.outcome → IsDropped d T ⊎ (has b.at.drives.sealed d ≡ true)
  sealed_or d of fresh ended = by ((each.each d of).whole ended)
    where
      by : IsWhole (all_marks (files_of o.plan) (drive_at a.at.drives.each d)) (each.each d of).marks → IsDropped d T ⊎ (has b.at.drives.sealed d ≡ true)
      by (inl all) = inr (((each.each d of).sealed heard).1 (subst (λ (marks : List Mark). Contains marks Sealed) (sym (all ∙ ap (all_marks (files_of o.plan)) fresh)) (begun_sealed (files_of o.plan))))
      by (inr cut) = inl (cut.loss, mark_said d of (Lost cut.loss) (subst (λ (marks : List Mark). Contains marks (Lost cut.loss)) (sym cut.is) (Contains-append_right cut.first (Lost cut.loss ∷ []) (Lost cut.loss) (0, omega arith, refl))))
