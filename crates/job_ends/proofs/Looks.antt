-- What the opening of a run says: the losses of its looks.
use Rattle.std.proofs.Common.{◌≡◌, ◌≢◌, ◌⊎◌, inl, inr, ℕ, zero, suc, ◌+◌, ◌<◌, ◌≤◌, Bool, true, false, cond, List, [], ◌∷◌, ◌++◌, length, map, refl, sym, ap, ◌∙◌, subst, arith, append-nil}
use Rattle.std.specs.Prelude.{Option, Some, None, Result, Ok, Err, nat_eq, Contains}
use Rattle.std.specs.List.{slice_get, filter, AllByRecursion}
use Rattle.std.proofs.lemmas.Bool.Decides.{nat_tests}
use Rattle.std.proofs.lemmas.List.{map-append, length-append}
use Rattle.std.proofs.lemmas.List.Elements.{filter-append}
use Rattle.bay_core.specs.declared.event.Event.{Event}
use Rattle.bay_core.specs.declared.event.Event.TheVariants.{Say}
use Rattle.bay_core.specs.Replay.{Device, Drive}
use Rattle.bay_core.specs.Went.{Only, Then, MaySee}
use Rattle.card_inventory.specs.declared.error.InventoryError.TheVariants.{SourceFailed}
use Rattle.card_inventory.specs.Card.{MayList}
use Rattle.copy_plan.specs.Plan.{PlanValue}
use Rattle.drive_journal.specs.declared.order.Order.{Order}
use Rattle.fresh_opening.specs.declared.error.FreshError.{FreshError}
use Rattle.fresh_opening.specs.declared.error.FreshError.TheVariants.{Inventory, NotAJournal, AlreadyBegun, NoDrive, Clash, Occupied, OutFailed, Memory}
use Rattle.fresh_opening.specs.Looks.{EndCalls as EndingCalls}
use Rattle.fresh_opening.specs.Openings.{AsksMoment, EndsWith}
use Rattle.fresh_opening.specs.Refusals.{Scene}
use Rattle.fresh_opening.specs.Sights.{Sight, Dropped, Found, HaltCalls, SightsCalls}
use Rattle.report_text.specs.Losses.{dropped_fault_text}
use Rattle.run_lines.specs.Lines.{lines_in}
use Rattle.run_lines.specs.Words.{Mark, Lost, Fault, Word, word_text, marks_of, is_step, is_seal, steps_in, sealed_in}
use Rattle.run_lines.proofs.Saying.{lines_append, no_lines, drive_silent}
use Rattle.job_calls.proofs.Opened.{OpeningCalls, unlisted, listed, looked, LookCalls}
use Rattle.job_calls.proofs.Opening.{found_at}

-- ---- the words of looks

abbrev pub word : ℕ → Mark → Word
word d mark = record { drive = d; mark = mark }

-- looks at drives from drive d on say just the losses
abbrev pub lost_words : ℕ → List Sight → List Word
lost_words d [] = []
lost_words d (Dropped ∷ xs) = word d (Lost Fault) ∷ lost_words (suc d) xs
lost_words d (Found size found ∷ xs) = lost_words (suc d) xs

-- what is said of a drive by what the look at it came to
abbrev pub sight_marks : Option Sight → List Mark
sight_marks (Some Dropped) = Lost Fault ∷ []
sight_marks _ = []

pub lost_steps : (d : ℕ) (xs : List Sight) → steps_in (lost_words d xs) ≡ []
lost_steps d [] = refl
lost_steps d (Dropped ∷ xs) = lost_steps (suc d) xs
lost_steps d (Found size found ∷ xs) = lost_steps (suc d) xs

pub lost_sealed : (d : ℕ) (xs : List Sight) → sealed_in (lost_words d xs) ≡ []
lost_sealed d [] = refl
lost_sealed d (Dropped ∷ xs) = lost_sealed (suc d) xs
lost_sealed d (Found size found ∷ xs) = lost_sealed (suc d) xs

pub lost_ours : (n d : ℕ) (xs : List Sight) → d + length xs ≤ n → AllByRecursion (λ (w : Word). w.drive < n) (lost_words d xs)
lost_ours n d [] low = tt
lost_ours n d (Dropped ∷ xs) low = (omega (arith, low), lost_ours n (suc d) xs (omega (arith, low)))
lost_ours n d (Found size found ∷ xs) low = lost_ours n (suc d) xs (omega (arith, low))

-- each of them says a loss
pub lost_each : (d : ℕ) (xs : List Sight) → AllByRecursion (λ (w : Word). (is_step w.mark ≡ false) × (is_seal w.mark ≡ false)) (lost_words d xs)
lost_each d [] = tt
lost_each d (Dropped ∷ xs) = ((refl, refl), lost_each (suc d) xs)
lost_each d (Found size found ∷ xs) = lost_each (suc d) xs

-- ---- of one drive

same_drive : (a b : ℕ) → a ≡ b → nat_eq a b ≡ true
same_drive a b is = grind (arith, nat_tests)

other_drive : (a b : ℕ) → (a ≡ b → ⊥) → nat_eq a b ≡ false
other_drive a b ne = grind (arith, nat_tests)

marks_here : (d : ℕ) (mark : Mark) (words : List Word) (e : ℕ) → d ≡ e → marks_of e (word d mark ∷ words) ≡ mark ∷ marks_of e words
marks_here d mark words e is = ap (λ (b : Bool). map (λ (w : Word). w.mark) (cond b (word d mark ∷ filter (λ (w : Word). nat_eq w.drive e) words) (filter (λ (w : Word). nat_eq w.drive e) words))) (same_drive d e is)

marks_off : (d : ℕ) (mark : Mark) (words : List Word) (e : ℕ) → (d ≡ e → ⊥) → marks_of e (word d mark ∷ words) ≡ marks_of e words
marks_off d mark words e ne = ap (λ (b : Bool). map (λ (w : Word). w.mark) (cond b (word d mark ∷ filter (λ (w : Word). nat_eq w.drive e) words) (filter (λ (w : Word). nat_eq w.drive e) words))) (other_drive d e ne)

lost_low : (d e : ℕ) (xs : List Sight) → e < d → marks_of e (lost_words d xs) ≡ []
lost_low d e [] low = refl
lost_low d e (Dropped ∷ xs) low = marks_off d (Lost Fault) (lost_words (suc d) xs) e (λ is. omega (arith, is, low)) ∙ lost_low (suc d) e xs (omega (arith, low))
lost_low d e (Found size found ∷ xs) low = lost_low (suc d) e xs (omega (arith, low))

pub lost_marks : (d e j : ℕ) (xs : List Sight) → e ≡ d + j → marks_of e (lost_words d xs) ≡ sight_marks (slice_get xs j)
lost_marks d e j [] is = refl
lost_marks d e zero (Dropped ∷ xs) is = marks_here d (Lost Fault) (lost_words (suc d) xs) e (omega (arith, is)) ∙ ap (λ (marks : List Mark). Lost Fault ∷ marks) (lost_low (suc d) e xs (omega (arith, is)))
lost_marks d e zero (Found size found ∷ xs) is = lost_low (suc d) e xs (omega (arith, is))
lost_marks d e (suc j) (Dropped ∷ xs) is = marks_off d (Lost Fault) (lost_words (suc d) xs) e (λ same. omega (arith, is, same)) ∙ lost_marks (suc d) e j xs (omega (arith, is))
lost_marks d e (suc j) (Found size found ∷ xs) is = lost_marks (suc d) e j xs (omega (arith, is))

-- of words one after another
pub marks_append : (d : ℕ) (A B : List Word) → marks_of d (A ++ B) ≡ marks_of d A ++ marks_of d B
marks_append d A B =
    ap (map (λ (w : Word). w.mark)) (filter-append (λ (w : Word). nat_eq w.drive d) A B)
    ∙ map-append (λ (w : Word). w.mark) (filter (λ (w : Word). nat_eq w.drive d) A) (filter (λ (w : Word). nat_eq w.drive d) B)

-- a loss is said of a drive that was dropped
pub lost_has : (d j : ℕ) (xs : List Sight) → slice_get xs j ≡ Some Dropped → Contains (lost_words d xs) (word (d + j) (Lost Fault))
lost_has d j [] is = absurd (cc is)
lost_has d zero (Dropped ∷ xs) is = (0, omega arith, ap (λ (k : ℕ). word k (Lost Fault)) (omega arith))
lost_has d zero (Found size found ∷ xs) is = absurd (cc is)
lost_has d (suc j) (Dropped ∷ xs) is =
    let r : Contains (lost_words (suc d) xs) (word (suc d + j) (Lost Fault)) = lost_has (suc d) j xs is in
    let within = r.1 in
    let same : suc d + j ≡ d + suc j = omega arith in
    subst (λ (k : ℕ). Contains (lost_words d (Dropped ∷ xs)) (word k (Lost Fault))) same (suc r.0, omega (arith, within), r.2)
lost_has d (suc j) (Found size found ∷ xs) is =
    let same : suc d + j ≡ d + suc j = omega arith in
    subst (λ (k : ℕ). Contains (lost_words (suc d) xs) (word k (Lost Fault))) same (lost_has (suc d) j xs is)

-- ---- their lines

drive_lines : (d : ℕ) (at : Option Device) (L : List Event) → HaltCalls d at L → lines_in L ≡ []
drive_lines d at L h = no_lines (Only (Drive d)) (drive_silent d) L h.on

pub looks_lines : (p : PlanValue) (d : ℕ) (xs : List Sight) (L : List Event) → SightsCalls d xs L → lines_in L ≡ map (word_text p) (lost_words d xs)
unfolding SightsCalls
looks_lines p d [] L none = ap lines_in none
looks_lines p d (Dropped ∷ xs) L t =
    let look : lines_in t.first ≡ dropped_fault_text d ∷ [] = ap lines_in t.here.is ∙ lines_append t.here.first t.here.second ∙ (λ i. drive_lines d (Some (Drive d)) t.here.first t.here.here i ++ lines_in (t.here.there i)) in
    let more : lines_in t.second ≡ map (word_text p) (lost_words (suc d) xs) = looks_lines p (suc d) xs t.second t.there in
    ap lines_in t.is ∙ lines_append t.first t.second ∙ (λ i. look i ++ more i)
looks_lines p d (Found size found ∷ xs) L t =
    let look : lines_in t.first ≡ [] = no_lines (Only (Drive d)) (drive_silent d) t.first (found_at d size found t.first t.here).on in
    let more : lines_in t.second ≡ map (word_text p) (lost_words (suc d) xs) = looks_lines p (suc d) xs t.second t.there in
    ap lines_in t.is ∙ lines_append t.first t.second ∙ (λ i. look i ++ more i)

-- the line of the look that ended them, if it says one
abbrev EndSays : ℕ → ℕ → List Event → Type 0
EndSays d n L = (lines_in L ≡ []) ⊎ ((d < n) × (lines_in L ≡ dropped_fault_text d ∷ []))

unsaid_lines : (d n : ℕ) (L : List Event) → Then (HaltCalls d (Some (Drive d))) (MaySee (Say (dropped_fault_text d) false)) L → d < n → EndSays d n L
unsaid_lines d n L t low = by t.there
  where
    first : lines_in t.first ≡ []
    first = drive_lines d (Some (Drive d)) t.first t.here

    whole : lines_in L ≡ lines_in t.second
    whole = ap lines_in t.is ∙ lines_append t.first t.second ∙ ap (λ (l : List (List ℕ)). l ++ lines_in t.second) first

    by : MaySee (Say (dropped_fault_text d) false) t.second → EndSays d n L
    by (inl none) = inl (whole ∙ ap lines_in none)
    by (inr one) = inr (low, whole ∙ ap lines_in one)

ending_lines : (d n : ℕ) (e : FreshError) (L : List Event) → EndingCalls d e L → (e ≡ OutFailed → d < n) → EndSays d n L
ending_lines d n OutFailed L t low = unsaid_lines d n L t (low refl)
ending_lines d n Memory L h low = inl (drive_lines d None L h)
ending_lines d n (Inventory e) L none low = inl (ap lines_in none)
ending_lines d n (NotAJournal drive at) L none low = inl (ap lines_in none)
ending_lines d n (AlreadyBegun drive) L none low = inl (ap lines_in none)
ending_lines d n NoDrive L none low = inl (ap lines_in none)
ending_lines d n (Clash list path) L none low = inl (ap lines_in none)
ending_lines d n (Occupied drive path) L none low = inl (ap lines_in none)

ends_lines : (d n : ℕ) (came : Result Order FreshError) (L : List Event) → EndsWith d came L → (came ≡ Err OutFailed → d < n) → EndSays d n L
ends_lines d n (Ok order) L none low = inl (ap lines_in none)
ends_lines d n (Err e) L calls low = ending_lines d n e L calls (λ is. low (ap Err is))

list_lines : (L : List Event) → MayList 0 L → lines_in L ≡ []
list_lines L (inl none) = ap lines_in none
list_lines L (inr (files, one)) = ap lines_in one

asks_lines : (plan : Option PlanValue) (L : List Event) → AsksMoment plan L → lines_in L ≡ []
asks_lines None L none = ap lines_in none
asks_lines (Some p) L one = ap lines_in one

-- ---- the whole

-- An opening to so many drives that answered this says just the losses of these looks; where no drive is left each was dropped.
pub record OpeningSays (n : ℕ) (came : Result Order FreshError) (L : List Event) : Type 0 where
  pub sights : List Sight
  pub few : length sights ≤ n
  pub lines : (p : PlanValue) → lines_in L ≡ map (word_text p) (lost_words 0 sights)
  pub none_left : came ≡ Err NoDrive → (length sights ≡ n) × AllByRecursion (λ x. x ≡ Dropped) sights

says_none : (n : ℕ) (came : Result Order FreshError) (L : List Event) → came ≢ Err NoDrive → lines_in L ≡ [] → OpeningSays n came L
says_none n came L other none = record { sights = []; few = omega arith; lines = λ p. none; none_left = λ is. absurd (other is) }

-- one more look, which was dropped
lost_more : (d : ℕ) (xs : List Sight) → lost_words d (xs ++ Dropped ∷ []) ≡ lost_words d xs ++ word (d + length xs) (Lost Fault) ∷ []
lost_more d [] = ap (λ (k : ℕ). word k (Lost Fault) ∷ []) (omega arith)
lost_more d (Dropped ∷ xs) = ap (λ (ws : List Word). word d (Lost Fault) ∷ ws) (lost_more (suc d) xs ∙ ap (λ (k : ℕ). lost_words (suc d) xs ++ word k (Lost Fault) ∷ []) (omega arith))
lost_more d (Found size found ∷ xs) = lost_more (suc d) xs ∙ ap (λ (k : ℕ). lost_words (suc d) xs ++ word k (Lost Fault) ∷ []) (omega arith)

module _ (n : ℕ) (s : Scene) (came : Result Order FreshError) (L : List Event) (few : length s.sights ≤ n) (t : Then (MayList 0) (LookCalls n s came) L) where
  abbrev looks : Then (SightsCalls 0 s.sights) (Then (AsksMoment s.plan) (EndsWith (length s.sights) came)) t.second
  looks = t.there.calls

  -- all lines are those of the looks, and of what ended them
  both_lines : (p : PlanValue) → lines_in L ≡ map (word_text p) (lost_words 0 s.sights) ++ lines_in looks.there.second
  both_lines p =
      let asks : lines_in looks.there.first ≡ [] = asks_lines s.plan looks.there.first looks.there.here in
      ap lines_in t.is ∙ lines_append t.first t.second ∙ ap (λ (l : List (List ℕ)). l ++ lines_in t.second) (list_lines t.first t.here)
      ∙ ap lines_in looks.is ∙ lines_append looks.first looks.second
      ∙ (λ i. looks_lines p 0 s.sights looks.first looks.here i ++ (ap lines_in looks.there.is ∙ lines_append looks.there.first looks.there.second ∙ ap (λ (l : List (List ℕ)). l ++ lines_in looks.there.second) asks) i)

  looks_say : EndSays (length s.sights) n looks.there.second → OpeningSays n came L
  looks_say (inl none) = record {
    sights = s.sights;
    few = few;
    lines = λ p. both_lines p ∙ ap (λ (l : List (List ℕ)). map (word_text p) (lost_words 0 s.sights) ++ l) none ∙ append-nil (map (word_text p) (lost_words 0 s.sights));
    none_left = λ is. let r = t.there.reaches NoDrive is in (r.0, r.1.applies);
  }
  looks_say (inr (low, one)) = record {
    sights = s.sights ++ Dropped ∷ [];
    few = let long = length-append s.sights (Dropped ∷ []) in omega (arith, long, low);
    lines = λ p.
        both_lines p ∙ ap (λ (l : List (List ℕ)). map (word_text p) (lost_words 0 s.sights) ++ l) one
        ∙ sym
        (ap (map (word_text p)) (lost_more 0 s.sights ∙ ap (λ (k : ℕ). lost_words 0 s.sights ++ word k (Lost Fault) ∷ []) (omega arith))
        ∙ map-append (word_text p) (lost_words 0 s.sights) (word (length s.sights) (Lost Fault) ∷ []));
    none_left = λ is. let whole = (t.there.reaches NoDrive is).0 in absurd (omega (arith, whole, low));
  }

  pub looked_says : OpeningSays n came L
  looked_says = looks_say (ends_lines (length s.sights) n came looks.there.second looks.there.there (λ is. (t.there.reaches OutFailed is).0))

-- a card that failed is another answer
other_answer : (came : Result Order FreshError) → came ≡ Err (Inventory SourceFailed) → came ≢ Err NoDrive
other_answer came is also = let both : Err (Inventory SourceFailed) ≡ Err NoDrive = sym is ∙ also in cc both

pub opening_says : (n : ℕ) (came : Result Order FreshError) (L : List Event) → OpeningCalls n came L → OpeningSays n came L
opening_says n came L (unlisted is (inl none)) = says_none n came L (other_answer came is) (ap lines_in none)
opening_says n came L (unlisted is (inr one)) = says_none n came L (other_answer came is) (ap lines_in one)
opening_says n came L (listed other calls) = says_none n came L other (list_lines L calls)
opening_says n came L (looked s few t) = looked_says n s came L few t
