-- A plan of a card names each of its files once.
use Rattle.std.proofs.Common.{◌≡◌, ◌≢◌, ◌⊎◌, inl, inr, ℕ, Bool, true, false, List, [], ◌∷◌, ◌++◌, length, map, Option, Some, None, refl, sym, ap, ◌∙◌, subst}
use Rattle.std.specs.Prelude.{◌&&◌, T}
use Rattle.std.specs.List.{AllByRecursion}
use Rattle.std.specs.Ordering.{is_eq, is_lt, nat_cmp, eq_by_cmp}
use Rattle.std.specs.Cmp.Lexicographic.{slice_cmp, nat_list_cmp_total}
use Rattle.std.specs.FinMap.{get, keys, entries, entries_sorted, get-entries, slice_cmp-IsAntisymmetric, nat_cmp-IsAntisymmetric}
use Rattle.std.specs.FinMap.Entries.{find, below_all, is_sorted, same_entries}
use Rattle.std.specs.declared.cmp.Ordering.{Ordering}
use Rattle.std.specs.declared.cmp.Ordering.TheVariants.{Less, Equal, Greater}
use Rattle.std.proofs.lemmas.Bool.{cases_Bool, cond-true, cond-false, false≢true}
use Rattle.std.proofs.lemmas.Cmp.{tied_itself}
use Rattle.std.proofs.lemmas.List.{length-map}
use Rattle.bay_core.specs.Map.{Map, Dates, content}
use Rattle.copy_plan.specs.declared.file.PlannedFile.{PlannedFile}
use Rattle.copy_plan.specs.Inventory.{Precedes, EachPair}
use Rattle.copy_plan.specs.Plan.{PlanValue, IsPlan}
use Rattle.offload_law.specs.Stages.{IsOfCard}

abbrev order : List ℕ → List ℕ → Ordering
order = slice_cmp nat_cmp

-- the entry that a card has for a planned file
abbrev entry : Map → PlannedFile → List ℕ × List ℕ
entry card f = (f.path, content card f.path)

abbrev planned : Map → List PlannedFile → List (List ℕ × List ℕ)
planned card files = map (entry card) files

both : (a b : Bool) → T a → T b → T (a && b)
both true b p q = q
both false b p q = p

lower : (a b : List ℕ) → order a b ≡ Less → T (is_lt (order a b))
lower a b e = subst (λ r. T (is_lt r)) (sym e) tt

-- the entries stand in the order of their paths
below : (card : Map) (f : PlannedFile) (files : List PlannedFile) → AllByRecursion (Precedes f) files → T (below_all order f.path (planned card files))
below card f [] all = tt
below card f (g ∷ files) all = both (is_lt (order f.path g.path)) (below_all order f.path (planned card files)) (lower f.path g.path all.0.less) (below card f files all.1)

in_order : (card : Map) (files : List PlannedFile) → EachPair Precedes files → T (is_sorted order (planned card files))
unfolding EachPair
in_order card [] all = tt
in_order card (f ∷ files) all = both (below_all order f.path (planned card files)) (is_sorted order (planned card files)) (below card f files all.0) (in_order card files all.1)

-- paths that tie are equal
equal : (r : Ordering) → is_eq r ≡ true → r ≡ Equal
equal Less e = absurd (false≢true e)
equal Equal e = refl
equal Greater e = absurd (false≢true e)

tied : (q p : List ℕ) → eq_by_cmp order q p ≡ true → q ≡ p
tied q p e = slice_cmp-IsAntisymmetric nat_cmp-IsAntisymmetric q p (equal (order q p) e)

not_tied : (q p : List ℕ) → eq_by_cmp order q p ≡ false → q ≢ p
not_tied q p e same =
    let itself : eq_by_cmp order q q ≡ true = ap is_eq (tied_itself nat_list_cmp_total q) in
    false≢true (sym e ∙ ap (eq_by_cmp order q) (sym same) ∙ itself)

-- a planned file with this path
abbrev Names : List PlannedFile → List ℕ → Type 0
Names files q = (before after : List PlannedFile) × (f : PlannedFile) × (files ≡ before ++ f ∷ after) × (q ≡ f.path)

later : (g : PlannedFile) (files : List PlannedFile) (q : List ℕ) → Names files q → Names (g ∷ files) q
later g files q n = (g ∷ n.0, n.1, n.2, ap (λ (l : List PlannedFile). g ∷ l) n.3, n.4)

head_or_later : (g : PlannedFile) (files : List PlannedFile) (q : List ℕ) → Names (g ∷ files) q → (q ≡ g.path) ⊎ Names files q
head_or_later g files q ([], after, f, is, e) = let same : g ≡ f = cc in inl (e ∙ ap (λ (h : PlannedFile). h.path) (sym same))
head_or_later g files q (h ∷ before, after, f, is, e) = let rest : files ≡ before ++ f ∷ after = cc in inr (before, after, f, rest, e)

-- what is found among the entries: the card's bytes, where a planned file has the path
found : (card : Map) (q : List ℕ) (files : List PlannedFile) → ((find order q (planned card files) ≡ None) × (Names files q → ⊥)) ⊎ ((find order q (planned card files) ≡ Some (content card q)) × Names files q)
found card q [] = inl (refl, λ n. no_file n)
  where
    no_file : Names [] q → ⊥
    no_file ([], after, f, is, e) = cc is
    no_file (h ∷ before, after, f, is, e) = cc is
found card q (g ∷ files) = elim (cases_Bool (eq_by_cmp order q g.path)) [
  | inl is ↦
      let same = tied q g.path is in
      inr (cond-true (eq_by_cmp order q g.path) (Some (content card g.path)) (find order q (planned card files)) is ∙ ap (λ (p : List ℕ). Some (content card p)) (sym same), ([], files, g, refl, same))
  | inr other ↦
      let past = cond-false (eq_by_cmp order q g.path) (Some (content card g.path)) (find order q (planned card files)) other in
      elim (found card q files) [
        | inl none ↦ inl (past ∙ none.0, λ n. elim (head_or_later g files q n) [ inl here ↦ not_tied q g.path other here | inr there ↦ none.1 there ])
        | inr some ↦ inr (past ∙ some.0, later g files q some.1)
      ]
]

module _ (card : Map) (dates : Dates) (p : PlanValue) (plan : IsPlan p) (of : IsOfCard card dates p) where
  on_card : (q : List ℕ) → Names p.files q → get card q ≡ Some (content card q)
  on_card q n = ap (get card) n.4 ∙ (of.on_card n.0 n.1 n.2 n.3).there ∙ ap (λ (r : List ℕ). Some (content card r)) (sym n.4)

  absent : (q : List ℕ) → (Names p.files q → ⊥) → get card q ≡ None
  absent q none = seen (get card q) refl
    where
      seen : (o : Option (List ℕ)) → get card q ≡ o → get card q ≡ None
      seen None is = is
      seen (Some bytes) is = let n = of.all q bytes is in absurd (none (n.0, n.1, n.2, n.3, n.4))

  same_found : (q : List ℕ) → find order q (entries card) ≡ find order q (planned card p.files)
  same_found q = sym (get-entries card q) ∙ elim (found card q p.files) [ inl none ↦ absent q none.1 ∙ sym none.0 | inr some ↦ on_card q some.1 ∙ sym some.0 ]

  pub one_file_each : length p.files ≡ length (keys card)
  one_file_each =
      let same = same_entries order nat_list_cmp_total (slice_cmp-IsAntisymmetric nat_cmp-IsAntisymmetric) (entries card) (planned card p.files) (entries_sorted card) (in_order card p.files plan.inventory.pairs) same_found in
      sym (length-map p.files (entry card)) ∙ ap length (sym same) ∙ sym (length-map (entries card) (λ e. e.0))
