-- The last lines of a run, as it said them.
use Rattle.std.proofs.Common.{◌≡◌, ◌≢◌, ◌⊎◌, inl, inr, ℕ, zero, suc, false, List, [], ◌∷◌, ◌++◌, length, take, refl, sym, ap, ◌∙◌, subst, arith, append-nil, get_or}
use Rattle.std.specs.Prelude.{codes, decimal, Contains}
use Rattle.std.specs.List.{AllByRecursion}
use Rattle.std.proofs.lemmas.List.Elements.{All-contains, All-from_recursion}
use Rattle.bay_core.specs.declared.event.Event.{Event}
use Rattle.bay_core.specs.declared.event.Event.TheVariants.{Say}
use Rattle.bay_core.specs.Looks.{says}
use Rattle.bay_core.specs.Replay.{Output}
use Rattle.bay_core.specs.Went.{MaySee}
use Rattle.card_inventory.specs.declared.error.InventoryError.{InventoryError}
use Rattle.card_inventory.specs.declared.error.InventoryError.TheVariants.{SourceFailed, EmptyCard, TooManyFiles, BadPath, BadDate, TooManyBytes, Control, TooBig, Clash as FilesClash, Memory as CardMemory}
use Rattle.fresh_opening.specs.declared.error.FreshError.{FreshError}
use Rattle.fresh_opening.specs.declared.error.FreshError.TheVariants.{Inventory, NotAJournal, AlreadyBegun, NoDrive, Clash, Occupied, OutFailed as LineFailed, Memory}
use Rattle.report_text.specs.Fields.{fields, cause_fields}
use Rattle.report_text.specs.Run.{sealed_text}
use Rattle.run_lines.specs.Lines.{lines_in}
use Rattle.run_lines.proofs.Saying.{lines_append}
use Rattle.last_lines.specs.Ends.{End, EndCalls, EndStatus}
use Rattle.last_lines.specs.Said.{BrokeOff}
use Rattle.job_story.specs.Ends.{JobEnd, Sealed, Dropped, Refused, CardUnattached, DriveUnattached, CardFailed, CardChanged, OutFailed, NoMemory, refusal_lines, last_of}
use Rattle.job_story.specs.Run.{Run}
use Rattle.job_ends.specs.Counts.{Rises}
use Rattle.job_ends.specs.Ends.{SaysEnd}
use Rattle.job_ends.specs.Says.{SaysSome}

-- ---- which lines were said

says_lines : (lines : List (List ℕ)) → lines_in (says lines) ≡ lines
says_lines [] = refl
says_lines (line ∷ lines) = ap (λ (l : List (List ℕ)). line ∷ l) (says_lines lines)

take_first : (xs ys : List (List ℕ)) → take (length xs) (xs ++ ys) ≡ xs
take_first [] ys = refl
take_first (x ∷ xs) ys = ap (λ (l : List (List ℕ)). x ∷ l) (take_first xs ys)

take_next : (xs : List (List ℕ)) (y : List ℕ) (ys : List (List ℕ)) → take (suc (length xs)) (xs ++ y ∷ ys) ≡ xs ++ y ∷ []
take_next [] y ys = refl
take_next (x ∷ xs) y ys = ap (λ (l : List (List ℕ)). x ∷ l) (take_next xs y ys)

-- all of them, or first ones
abbrev pub LastSaid : End → ℕ → List Event → Type 0
LastSaid e result L = ((lines_in L ≡ e.lines) × (result ≡ e.status)) ⊎ ((n : ℕ) × (lines_in L ≡ take n e.lines) × (result ≡ 5))

module _ (e : End) (result : ℕ) (L : List Event) (broke : BrokeOff e.lines L) (five : result ≡ 5) where
  broke_lines : lines_in L ≡ broke.first ++ lines_in broke.last
  broke_lines = ap lines_in broke.calls_are ∙ lines_append (says broke.first) broke.last ∙ ap (λ (l : List (List ℕ)). l ++ lines_in broke.last) (says_lines broke.first)

  broke_said : MaySee (Say broke.next false) broke.last → LastSaid e result L
  broke_said (inl none) =
      inr
      (length broke.first, broke_lines ∙ ap (λ (M : List Event). broke.first ++ lines_in M) none ∙ append-nil broke.first ∙ sym (ap (take (length broke.first)) broke.lines_are ∙ take_first broke.first (broke.next ∷ broke.rest)), five)
  broke_said (inr one) =
      inr
      (suc (length broke.first), broke_lines ∙ ap (λ (M : List Event). broke.first ++ lines_in M) one ∙ sym (ap (take (suc (length broke.first))) broke.lines_are ∙ take_next broke.first broke.next broke.rest), five)

pub last_said : (e : End) (result : ℕ) (L : List Event) → EndCalls e result L → LastSaid e result L
last_said e result L (inl (all, status)) = inl (ap lines_in all ∙ says_lines e.lines, status)
last_said e result L (inr (broke, five)) = broke_said e result L broke five broke.failed

-- a run that ends with no line has its status
pub quiet_end : (e : End) (result : ℕ) (L : List Event) → e.lines ≡ [] → EndCalls e result L → (lines_in L ≡ []) × (result ≡ e.status)
quiet_end e result L none (inl (all, status)) = (ap lines_in all ∙ says_lines e.lines ∙ none, status)
quiet_end e result L none (inr (broke, five)) = absurd (by broke.first (sym none ∙ broke.lines_are))
  where
    by : (first : List (List ℕ)) → [] ≡ first ++ broke.next ∷ broke.rest → ⊥
    by [] is = absurd (cc is)
    by (x ∷ first) is = absurd (cc is)

-- the count of the output rose where the status is 5 in place of another
pub rises_by : (e : End) (result : ℕ) (run : Run) → EndStatus e result run.before run.after → e.status ≢ 5 → result ≡ 5 → Rises run Output
rises_by e result run (inl same) not five = absurd (not (sym same ∙ five))
rises_by e result run (inr (some, is, rose)) not five = rose

pub says_end : (e : End) (result : ℕ) (run : Run) (L : List Event) → EndCalls e result L → EndStatus e result run.before run.after → e.status ≢ 5 → ((lines : List (List ℕ)) → lines_in L ≡ lines → SaysSome run lines) → SaysEnd run e result
says_end e result run L calls status not some = by (last_said e result L calls)
  where
    by : LastSaid e result L → SaysEnd run e result
    by (inl (all, same)) = inl (some e.lines all, same)
    by (inr (n, first, five)) = inr (n, some (take n e.lines) first, five, rises_by e result run status not five)

-- ---- none of them is a line `sealed`

abbrev first_of : List ℕ → ℕ
first_of line = get_or line 0 0

-- the line begins otherwise than `sealed`
abbrev IsOther : List ℕ → Type 0
IsOther line = first_of line ≢ 115

differs : (n : ℕ) → (n ≡ 115 → ⊥) → (m : ℕ) → m ≡ n → m ≢ 115
differs n not m is same = not (sym is ∙ same)

first_fields : (c : ℕ) (rest : List ℕ) (more : List (List ℕ)) → first_of (fields (c ∷ rest) more) ≡ c
first_fields c rest [] = refl
first_fields c rest (field ∷ more) = first_fields c (rest ++ 32 ∷ field) more

listing_other : (e : InventoryError) → AllByRecursion IsOther (refusal_lines (Inventory e))
listing_other SourceFailed = tt
listing_other EmptyCard = (differs 114 (λ is. omega (arith, is)) _ refl, tt)
listing_other (TooManyFiles count) = (differs 114 (λ is. omega (arith, is)) _ refl, tt)
listing_other (BadPath index cause) = (differs 114 (λ is. omega (arith, is)) _ (first_fields 114 (codes "efused badpath") (decimal index ∷ cause_fields cause)), tt)
listing_other (BadDate path) = (differs 114 (λ is. omega (arith, is)) _ refl, tt)
listing_other (TooManyBytes sum) = (differs 114 (λ is. omega (arith, is)) _ refl, tt)
listing_other (Control path) = (differs 114 (λ is. omega (arith, is)) _ refl, tt)
listing_other (TooBig path) = (differs 114 (λ is. omega (arith, is)) _ refl, tt)
listing_other (FilesClash first second) = (differs 114 (λ is. omega (arith, is)) _ refl, (differs 119 (λ is. omega (arith, is)) _ refl, tt))
listing_other CardMemory = tt

refusal_other : (e : FreshError) → AllByRecursion IsOther (refusal_lines e)
refusal_other (Inventory e) = listing_other e
refusal_other (NotAJournal d at) = (differs 114 (λ is. omega (arith, is)) _ refl, tt)
refusal_other (AlreadyBegun d) = (differs 114 (λ is. omega (arith, is)) _ refl, tt)
refusal_other (Clash list path) = (differs 114 (λ is. omega (arith, is)) _ refl, (differs 119 (λ is. omega (arith, is)) _ refl, tt))
refusal_other (Occupied d path) = (differs 114 (λ is. omega (arith, is)) _ refl, tt)
refusal_other NoDrive = tt
refusal_other LineFailed = tt
refusal_other Memory = tt

end_other : (end : JobEnd) → AllByRecursion IsOther (last_of end).lines
end_other Sealed = tt
end_other Dropped = tt
end_other (Refused e) = refusal_other e
end_other CardUnattached = (differs 102 (λ is. omega (arith, is)) _ refl, tt)
end_other (DriveUnattached d) = (differs 102 (λ is. omega (arith, is)) _ refl, tt)
end_other CardFailed = (differs 102 (λ is. omega (arith, is)) _ refl, tt)
end_other (CardChanged listed read path) = (differs 102 (λ is. omega (arith, is)) _ refl, tt)
end_other OutFailed = tt
end_other NoMemory = (differs 109 (λ is. omega (arith, is)) _ refl, tt)

other_take : (n : ℕ) (lines : List (List ℕ)) → AllByRecursion IsOther lines → AllByRecursion IsOther (take n lines)
other_take zero lines all = tt
other_take (suc n) [] all = tt
other_take (suc n) (line ∷ lines) all = (all.0, other_take n lines all.1)

last_other : (end : JobEnd) (result : ℕ) (L : List Event) → LastSaid (last_of end) result L → AllByRecursion IsOther (lines_in L)
last_other end result L (inl (all, status)) = subst (AllByRecursion IsOther) (sym all) (end_other end)
last_other end result L (inr (n, first, five)) = subst (AllByRecursion IsOther) (sym first) (other_take n (last_of end).lines (end_other end))

sealed_first : (d m : ℕ) (list : List ℕ) → first_of (sealed_text d m list) ≡ 115
sealed_first d m list = refl

pub last_unsealed : (end : JobEnd) (result : ℕ) (L : List Event) → EndCalls (last_of end) result L → (d m : ℕ) (list : List ℕ) → Contains (lines_in L) (sealed_text d m list) → ⊥
last_unsealed end result L calls d m list has = All-contains IsOther (lines_in L) (sealed_text d m list) (All-from_recursion IsOther (lines_in L) (last_other end result L (last_said (last_of end) result L calls))) has (sealed_first d m list)
