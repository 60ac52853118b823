-- Lines that are said one after another.
use Rattle.std.proofs.Common.{◌≡◌, inl, inr, ◌<◌, ◌≤◌, ◌+◌, ℕ, false, true, List, [], ◌∷◌, ◌++◌, map, length, take, drop, get_or, refl, sym, ◌∙◌, ap, subst, append_assoc, append-nil}
use Rattle.std.proofs.lemmas.List.{map-append, take_more, take_all, take-append-drop}
use Rattle.bay_core.specs.declared.event.Event.{Event}
use Rattle.bay_core.specs.declared.event.Event.TheVariants.{Say}
use Rattle.bay_core.specs.Replay.{Output}
use Rattle.bay_core.specs.World.{World}
use Rattle.bay_core.specs.Went.{Only, Called, Ran, MaySee, say_call}
use Rattle.bay_core.specs.Looks.{IsUntouched, Looks, says, said}
use Rattle.bay_core.proofs.Runs.{went_then, went_such, went_none, rose_since, all_ran}
use Rattle.bay_core.proofs.Looking.{exact_then, exact_as, looks_keep, says_looks, untouched_none, untouched_one, untouched_append, said_append, said_says}
use Rattle.last_lines.specs.Said.{BrokeOff, Told, Untold}

seen_or_not : (line : List ℕ) (L : List Event) → Ran (say_call line ∷ []) false L → MaySee (Say line false) L
unfolding Ran
seen_or_not line L (inl none) = inl none
seen_or_not line L (inr (inl one)) = inr one
seen_or_not line L (inr (inr (rest, is, more))) = absurd more

says_append : (A B : List (List ℕ)) → says (A ++ B) ≡ says A ++ says B
says_append A B = map-append (λ t. Say t true) A B

-- lines that are said, and a line that is not, change nothing
pub lines_keep : (lines : List (List ℕ)) (L : List Event) → L ≡ says lines → IsUntouched L
lines_keep lines L is = looks_keep L (subst Looks (sym is) (says_looks lines))

unsaid_keeps : (line : List ℕ) (L : List Event) → MaySee (Say line false) L → IsUntouched L
unsaid_keeps line L (inl is) = subst IsUntouched (sym is) untouched_none
unsaid_keeps line L (inr is) = subst IsUntouched (sym is) (untouched_one (Say line false) refl)

pub broken_keeps : (lines : List (List ℕ)) (L : List Event) → BrokeOff lines L → IsUntouched L
broken_keeps lines L b = subst IsUntouched (sym b.calls_are) (untouched_append (says b.first) b.last (lines_keep b.first (says b.first) refl) (unsaid_keeps b.next b.last b.failed))

-- what was said of lines that broke off
unsaid_says : (line : List ℕ) (L : List Event) → MaySee (Say line false) L → said L ≡ []
unsaid_says line L (inl is) = ap said is
unsaid_says line L (inr is) = ap said is

pub broken_said : (lines : List (List ℕ)) (L : List Event) (b : BrokeOff lines L) → said L ≡ b.first
broken_said lines L b = ap said b.calls_are ∙ said_append (says b.first) b.last ∙ (λ i. said_says b.first i ++ unsaid_says b.next b.last b.failed i) ∙ append-nil b.first

-- no line
pub told_none : (w : World) → Told [] w w
told_none w = went_none (Only Output) w

-- the same lines, otherwise written
pub told_as : (A B : List (List ℕ)) {old new : World} → A ≡ B → Told A old new → Told B old new
told_as A B same w = exact_as (says A) (says B) (ap says same) w

pub untold_as : (A B : List (List ℕ)) {old new : World} → A ≡ B → Untold A old new → Untold B old new
untold_as A B {old} {new} same u = subst (λ lines. Untold lines old new) same u

-- lines and then more lines
pub told_then : (A B : List (List ℕ)) {old mid new : World} → Told A old mid → Told B mid new → Told (A ++ B) old new
told_then A B one two = exact_as (says A ++ says B) (says (A ++ B)) (sym (says_append A B)) (exact_then (says A) (says B) one two)

-- one of the first lines could not be said
pub untold_early : (A B : List (List ℕ)) {old new : World} → Untold A old new → Untold (A ++ B) old new
untold_early A B u = record {
  went = went_such (λ L b. record {
    first = b.first;
    next = b.next;
    rest = b.rest ++ B;
    last = b.last;
    lines_are = ap (λ (l : List (List ℕ)). l ++ B) b.lines_are ∙ append_assoc b.first (b.next ∷ b.rest) B;
    calls_are = b.calls_are;
    failed = b.failed;
  }) u.went;
  cause = u.cause;
}

-- the first lines were said, and one of those after them could not be said
pub untold_late : (A B : List (List ℕ)) {old mid new : World} → Told A old mid → Untold B mid new → Untold (A ++ B) old new
untold_late A B {old} {mid} {new} one u = record {
  went = went_such (λ L t. record {
    first = A ++ t.there.first;
    next = t.there.next;
    rest = t.there.rest;
    last = t.there.last;
    lines_are = ap (λ (l : List (List ℕ)). A ++ l) t.there.lines_are ∙ sym (append_assoc A t.there.first (t.there.next ∷ t.there.rest));
    calls_are = t.is ∙ (λ i. t.here i ++ t.there.calls_are i) ∙ sym (append_assoc (says A) (says t.there.first) t.there.last) ∙ ap (λ (l : List Event). l ++ t.there.last) (sym (says_append A t.there.first));
    failed = t.there.failed;
  }) (went_then one u.went);
  cause = rose_since Output (new.faults Output) one u.cause;
}

-- one line that was said
pub told_one : (line text : List ℕ) {old new : World} → line ≡ text → Called Output (Ran (say_call line ∷ []) true) true old new → Told (text ∷ []) old new
told_one line text same called = went_such (λ L ran. all_ran (say_call line ∷ []) L ran ∙ ap (λ t. Say t true ∷ []) same) called.went

-- one that could not be said
pub untold_one : (line text : List ℕ) {old new : World} → line ≡ text → Called Output (Ran (say_call line ∷ []) false) false old new → Untold (text ∷ []) old new
untold_one line text same called = record {
  went = went_such (λ L ran. record {
    first = [];
    next = text;
    rest = [];
    last = L;
    lines_are = refl;
    calls_are = refl;
    failed = subst (λ t. MaySee (Say t false) L) same (seen_or_not line L ran);
  }) called.went;
  cause = called.cause refl;
}

-- ---- lines that a loop says, one for each item

module _ {A : Type 0} (text : A → List ℕ) (items : List A) (i : ℕ) (item : A) (within : i < length items) (is : item ≡ get_or items i item) where
  one_more : map text (take (i + 1) items) ≡ map text (take i items) ++ text item ∷ []
  one_more = ap (map text) (take_more items i item within ∙ ap (λ y. take i items ++ y ∷ []) (sym is)) ∙ map-append text (take i items) (item ∷ [])

  -- one more was said
  pub told_more : (line : List ℕ) {old mid new : World} → line ≡ text item → Told (map text (take i items)) old mid → Told (line ∷ []) mid new → Told (map text (take (i + 1) items)) old new
  told_more line same one two = told_as _ _ (ap (λ t. map text (take i items) ++ t ∷ []) same ∙ sym one_more) (told_then (map text (take i items)) (line ∷ []) one two)

  rest_of : map text (take (i + 1) items) ++ map text (drop (i + 1) items) ≡ map text items
  rest_of = sym (map-append text (take (i + 1) items) (drop (i + 1) items)) ∙ ap (map text) (take-append-drop (i + 1) items)

  -- it could not be said
  pub untold_more : (line : List ℕ) {old mid new : World} → line ≡ text item → Told (map text (take i items)) old mid → Untold (line ∷ []) mid new → Untold (map text items) old new
  untold_more line same one two =
      untold_as _ _ rest_of
      (untold_early (map text (take (i + 1) items)) (map text (drop (i + 1) items))
      (untold_as _ _ (ap (λ t. map text (take i items) ++ t ∷ []) same ∙ sym one_more) (untold_late (map text (take i items)) (line ∷ []) one two)))

-- all were said
pub told_all : {A : Type 0} (text : A → List ℕ) (items : List A) (i : ℕ) {old new : World} → length items ≤ i → Told (map text (take i items)) old new → Told (map text items) old new
told_all text items i past t = told_as _ _ (ap (map text) (take_all i items past)) t
