-- When a run says the line `clear`, and over which drives.
use Rattle.std.proofs.Common.{◌≡◌, ◌≢◌, ◌⊎◌, inl, inr, ℕ, zero, suc, ◌≤◌, Bool, true, false, List, [], ◌∷◌, ◌++◌, length, map, refl, sym, ap, ◌∙◌, subst, arith, append-nil}
use Rattle.std.specs.Prelude.{◌↔◌, Some, Contains, nat_eq, nat_le, ◌&&◌, if◌then◌else◌}
use Rattle.std.specs.Cmp.{both_ways, nat_eq_equiv}
use Rattle.std.specs.List.{AllByRecursion, IsDistinct}
use Rattle.std.specs.Set.{is_member}
use Rattle.std.proofs.lemmas.Bool.{false≢true}
use Rattle.std.proofs.lemmas.Bool.Decides.{Decides-eqb, nat_tests}
use Rattle.std.proofs.lemmas.List.Elements.{All-contains, All-from_recursion, Contains-append_left, Contains-append_cases}
use Rattle.std.proofs.lemmas.Map.Made.{length-from_same_keys, is_member-Decides}
use Rattle.bay_core.specs.declared.event.Event.{Event}
use Rattle.bay_core.specs.World.{World}
use Rattle.copy_plan.specs.Plan.{PlanValue, IsPlan, list_of}
use Rattle.offload_law.specs.Clear.{IsCalledSealed, AreCalledSealed}
use Rattle.offload_law.specs.Lines.{IsShort}
use Rattle.report_text.specs.Run.{sealed_text, clear_text}
use Rattle.run_state.specs.declared.outcome.Outcome.{Outcome}
use Rattle.run_state.specs.declared.outcome.Outcome.TheVariants.{Going, Finished, NoDrive, SourceFailed, Changed, Altered, OutFailed}
use Rattle.run_state.specs.Acts.{is_clear}
use Rattle.run_state.specs.Rules.{IsStart}
use Rattle.run_state.specs.Runs.{Point, IsAboutNone}
use Rattle.run_state.specs.State.{Ordered, DriveAt, Drives, At, files_of, is_sealed, is_of_run, count_sealed}
use Rattle.run_lines.specs.Words.{Sealed, Word, word_text, sealed_in}
use Rattle.run_lines.specs.Lines.{lines_in, Among, clear_lines}
use Rattle.run_lines.specs.Clear.{AreSealedOf, IsClear}
use Rattle.run_lines.proofs.Since.{since_at}
use Rattle.run_lines.proofs.Texts.{sealed_about, seals_it, clear_not_sealed}
use Rattle.run_lines.proofs.Counts.{once, contains_map, contains_unmap, sealed_has, sealed_from}
use Rattle.run_lines.proofs.Starts.{at_start}
use Rattle.run_lines.proofs.Saying.{said_line, line_said, among_has, among_cases}
use Rattle.run_lines.proofs.Keeping.{all_lines, Standing, Broken, Kept}

abbrev pub ShortFiles : Type 0
ShortFiles = (p : PlanValue) → IsPlan p → (k : ℕ) → k ≤ length p.files → IsShort k

-- ---- numbers

leq : (a b : ℕ) → nat_le a b ≡ true → a ≤ b
leq a b is = grind (arith, nat_tests)

leq_true : (a b : ℕ) → a ≤ b → nat_le a b ≡ true
leq_true a b less = grind (arith, nat_tests)

both_true : (a b : Bool) → (a && b) ≡ true → (a ≡ true) × (b ≡ true)
both_true true b is = (refl, is)
both_true false b is = absurd (false≢true is)

pub clear_means : (sealed required : ℕ) → is_clear sealed required ≡ true → (1 ≤ required) × (required ≤ sealed)
clear_means sealed required is = let h = both_true (nat_le 1 required) (nat_le required sealed) is in (leq 1 required h.0, leq required sealed h.1)

pub clear_holds : (sealed required : ℕ) → 1 ≤ required → required ≤ sealed → is_clear sealed required ≡ true
clear_holds sealed required some enough = ap (λ (b : Bool). b && nat_le required sealed) (leq_true 1 required some) ∙ leq_true required sealed enough

one_or : (b : Bool) (c n : ℕ) → c ≤ n → (if b then suc c else c) ≤ suc n
one_or true c n less = omega (arith, less)
one_or false c n less = omega (arith, less)

pub few_sealed : (each : List DriveAt) → count_sealed each ≤ length each
few_sealed [] = omega arith
few_sealed (x ∷ each) = one_or (is_sealed x) (count_sealed each) (length each) (few_sealed each)

-- lists of the same numbers, each once, are of one length
pub one_length : (P : ℕ → Type 0) (xs ys : List ℕ) → IsDistinct nat_eq xs → IsDistinct nat_eq ys → ((d : ℕ) → Contains xs d ↔ P d) → ((d : ℕ) → Contains ys d ↔ P d) → length xs ≡ length ys
one_length P xs ys once twice are too =
    length-from_same_keys nat_eq_equiv xs ys once twice
    (λ q.
    let here = is_member-Decides Decides-eqb xs q in
    let there = is_member-Decides Decides-eqb ys q in
    both_ways (is_member nat_eq xs q) (is_member nat_eq ys q) (λ t. there.1 ((too q).1 ((are q).0 (here.0 t)))) (λ t. here.1 ((are q).1 ((too q).0 (there.0 t)))))

-- ---- the drives that are called sealed

module _ (short : ShortFiles) (o : Ordered) (a : Point) (start : IsStart o a.at) (Other : List ℕ → Type 0) where
  abbrev n : ℕ
  n = files_of o.plan

  -- just the drives of these words are called sealed among the calls
  pub record SealedSo (at : At) (L : List Event) : Type 0 where
    pub drives : List ℕ
    pub once : IsDistinct nat_eq drives
    pub called : (d : ℕ) → Contains drives d → (is_of_run a.at.drives d ≡ true) × IsCalledSealed d L
    pub back : (d : ℕ) → ((m : ℕ) (list : List ℕ) → Other (sealed_text d m list) → ⊥) → IsCalledSealed d L → Contains drives d
    pub count : length drives ≡ count_sealed at.drives.each

  module _ (words : List Word) (ours : AllByRecursion (λ (w : Word). is_of_run a.at.drives w.drive ≡ true) words) (clear : List (List ℕ)) (of_clear : (line : List ℕ) → Contains clear line → (s : ℕ) × (c : ℕ) × (line ≡ clear_text s c)) (L : List Event)
      (stand : Among Other (map (word_text o.plan) words ++ clear) (lines_in L)) where
    is_called : (d : ℕ) → Contains (sealed_in words) d → (is_of_run a.at.drives d ≡ true) × IsCalledSealed d L
    is_called d has =
        let w : Word = record { drive = d; mark = Sealed } in
        let inside : Contains words w = sealed_from words d has in
        let line : List ℕ = sealed_text d n (list_of o.plan) in
        let said = among_has line stand (Contains-append_left (map (word_text o.plan) words) clear line (contains_map (word_text o.plan) words w inside)) in (
          All-contains (λ (v : Word). is_of_run a.at.drives v.drive ≡ true) words w (All-from_recursion (λ (v : Word). is_of_run a.at.drives v.drive ≡ true) words ours) inside,
          (n, list_of o.plan, short o.plan start.run.plan n (omega arith), line_said L line said),
        )

    by_word : (d m : ℕ) (list : List ℕ) → (w : Word) × Contains words w × (word_text o.plan w ≡ sealed_text d m list) → Contains (sealed_in words) d
    by_word d m list (w, inside, is) =
        let of : is_of_run a.at.drives w.drive ≡ true = All-contains (λ (v : Word). is_of_run a.at.drives v.drive ≡ true) words w (All-from_recursion (λ (v : Word). is_of_run a.at.drives v.drive ≡ true) words ours) inside in
        let seal = seals_it o.plan w.drive w.mark d m list (at_start o a.at start w.drive of).low is in
        subst (Contains (sealed_in words)) seal.1 (sealed_has words w seal.0 inside)

    called_is : (d : ℕ) → ((m : ℕ) (list : List ℕ) → Other (sealed_text d m list) → ⊥) → IsCalledSealed d L → Contains (sealed_in words) d
    called_is d off (m, list, low, said) = by (among_cases (sealed_text d m list) stand (said_line L (sealed_text d m list) said))
      where
        own_line : Contains (map (word_text o.plan) words) (sealed_text d m list) ⊎ Contains clear (sealed_text d m list) → Contains (sealed_in words) d
        own_line (inl has) = by_word d m list (contains_unmap (word_text o.plan) words (sealed_text d m list) has)
        own_line (inr has) = let c = of_clear (sealed_text d m list) has in absurd (clear_not_sealed c.0 c.1 d m list (sym c.2))

        by : Contains (map (word_text o.plan) words ++ clear) (sealed_text d m list) ⊎ Other (sealed_text d m list) → Contains (sealed_in words) d
        by (inl has) = own_line (Contains-append_cases (map (word_text o.plan) words) clear (sealed_text d m list) has)
        by (inr not) = absurd (off m list not)

  nothing : (line : List ℕ) → Contains [] line → (s : ℕ) × (c : ℕ) × (line ≡ clear_text s c)
  nothing line (k, inside, is) = absurd (omega (arith, inside))

  in_clear : (required sealed : ℕ) (line : List ℕ) → Contains (clear_lines required sealed) line → (s : ℕ) × (c : ℕ) × (line ≡ clear_text s c)
  in_clear required sealed line has = by (is_clear sealed required) has
    where
      one : Contains (clear_text sealed required ∷ []) line → (s : ℕ) × (c : ℕ) × (line ≡ clear_text s c)
      one (zero, inside, is) = (sealed, required, sym is)
      one (suc k, inside, is) = absurd (omega (arith, inside))

      by : (b : Bool) → Contains (if b then clear_text sealed required ∷ [] else []) line → (s : ℕ) × (c : ℕ) × (line ≡ clear_text s c)
      by true has = one has
      by false has = nothing line has

  -- where each line was said
  sealed_so : (at : At) (w : World) → Standing o a start Other at w → (past L : List Event) → a.world.events ≡ Some past → w.events ≡ Some (past ++ L) → SealedSo at L
  sealed_so at w s past L was now = by at.outcome (since_at s.speaks past L was now)
    where
      some : Among Other (map (word_text o.plan) s.words) (lines_in L) → SealedSo at L
      some stand =
          let plain : Among Other (map (word_text o.plan) s.words ++ []) (lines_in L) = subst (λ (l : List (List ℕ)). Among Other l (lines_in L)) (sym (append-nil (map (word_text o.plan) s.words))) stand in
          record {
            drives = sealed_in s.words;
            once = once n s.words s.exact.order.1;
            called = is_called s.words s.exact.ours [] nothing L plain;
            back = called_is s.words s.exact.ours [] nothing L plain;
            count = s.exact.count;
          }

      all : Among Other (map (word_text o.plan) s.words ++ clear_lines o.copies (length (sealed_in s.words))) (lines_in L) → SealedSo at L
      all stand = record {
        drives = sealed_in s.words;
        once = once n s.words s.exact.order.1;
        called = is_called s.words s.exact.ours (clear_lines o.copies (length (sealed_in s.words))) (in_clear o.copies (length (sealed_in s.words))) L stand;
        back = called_is s.words s.exact.ours (clear_lines o.copies (length (sealed_in s.words))) (in_clear o.copies (length (sealed_in s.words))) L stand;
        count = s.exact.count;
      }

      by : (r : Outcome) → Among Other (all_lines o a start Other r s.words) (lines_in L) → SealedSo at L
      by Going stand = some stand
      by Finished stand = all stand
      by NoDrive stand = all stand
      by SourceFailed stand = some stand
      by (Changed i listed read) stand = some stand
      by (Altered i listed read) stand = some stand
      by OutFailed stand = some stand

  pub sealed_kept : (at : At) (w : World) → Kept o a start Other at w → at.outcome ≢ OutFailed → (past L : List Event) → a.world.events ≡ Some past → w.events ≡ Some (past ++ L) → SealedSo at L
  sealed_kept at w k sound past L was now = by k.state
    where
      by : Standing o a start Other at w ⊎ Broken o a start Other at w → SealedSo at L
      by (inl s) = sealed_so at w s past L was now
      by (inr broken) = absurd (sound broken.failed)

-- the line `sealed` of a drive of the run is not another's
pub not_others : (run : Drives) (d : ℕ) → is_of_run run d ≡ true → (m : ℕ) (list : List ℕ) → IsAboutNone run (sealed_text d m list) → ⊥
not_others run d of m list none = false≢true (sym (none d of) ∙ sealed_about d m list)

-- as the two laws say it
pub sealed_of_run : (short : ShortFiles) (o : Ordered) (a : Point) (start : IsStart o a.at) (at : At) (L : List Event) (s : SealedSo short o a start (IsAboutNone a.at.drives) at L) → AreSealedOf a.at.drives s.drives L
sealed_of_run short o a start at L s = record { once = s.once; each = λ d. (λ has. s.called d has, λ h. s.back d (not_others a.at.drives d h.0) h.1) }

pub sealed_alone : (short : ShortFiles) (o : Ordered) (a : Point) (start : IsStart o a.at) (at : At) (L : List Event) (s : SealedSo short o a start (λ (line : List ℕ). ⊥) at L) → AreCalledSealed s.drives L
sealed_alone short o a start at L s = record { once = s.once; each = λ d. (λ has. (s.called d has).1, λ h. s.back d (λ m list never. absurd never) h) }

-- the card is called clear rightly
pub rightly : (AreSealed : List ℕ → List Event → Type 0) (o : Ordered) (at : At) (before : List Event) (drives : List ℕ) → AreSealed drives before → length drives ≡ count_sealed at.drives.each → is_clear (count_sealed at.drives.each) o.copies ≡ true
    → (count required : ℕ) → count ≡ count_sealed at.drives.each → required ≡ o.copies → IsClear AreSealed o before count required
rightly AreSealed o at before drives are long due count required is ordered =
    let h = clear_means (count_sealed at.drives.each) o.copies due in
    let some = h.0 in
    let enough = h.1 in
    record {
      drives = drives;
      sealed = are;
      counted = long ∙ sym is;
      ordered = ordered;
      some = omega (arith, some, ordered);
      enough = omega (arith, enough, ordered, is);
    }
