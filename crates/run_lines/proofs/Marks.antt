-- What is said of one drive, by how it stood as the run was made and how it stands now.
use Rattle.std.proofs.Common.{◌≡◌, ◌≢◌, ◌⊎◌, inl, inr, ℕ, zero, suc, ◌+◌, ◌-◌, ◌≤◌, Bool, true, false, List, [], ◌∷◌, ◌++◌, length, refl, sym, ap, ◌∙◌, subst, arith, append_assoc, append-nil}
use Rattle.std.specs.Prelude.{◌↔◌, Contains}
use Rattle.std.specs.List.{AllByRecursion}
use Rattle.std.proofs.lemmas.Bool.{false≢true}
use Rattle.std.proofs.lemmas.List.Elements.{All-from_recursion, All-contains, Contains-push, Contains-push_cases}
use Rattle.drive_journal.specs.declared.record.Gate.{Gate}
use Rattle.drive_journal.specs.declared.record.Rec.{Rec}
use Rattle.run_state.specs.Acts.{records_at}
use Rattle.run_state.specs.Rules.{IsOver}
use Rattle.run_state.specs.State.{DriveAt, Gone, Fresh, Begun as BegunDrive, Found, Sealed as SealedDrive, is_gone, is_sealed}
use Rattle.run_lines.specs.Words.{Loss, Mark, Begun, Done, Sealed, Lost, dones, begun_marks, all_marks, IsCutShort, IsSoFar, IsWhole}

-- ---- the files that are recorded

pub dones_next : (j m : ℕ) → dones j (suc m) ≡ dones j m ++ Done (j + m) ∷ []
dones_next j zero = let here : j ≡ j + 0 = omega arith in ap (λ (i : ℕ). Done i ∷ []) here
dones_next j (suc m) =
    let place : suc j + m ≡ j + suc m = omega arith in
    ap (λ (l : List Mark). Done j ∷ l) (dones_next (suc j) m ∙ ap (λ (i : ℕ). dones (suc j) m ++ Done i ∷ []) place)

dones_split : (j m k : ℕ) → dones j (m + k) ≡ dones j m ++ dones (j + m) k
dones_split j zero k =
    let count : 0 + k ≡ k = omega arith in
    let place : j ≡ j + 0 = omega arith in
    ap (dones j) count ∙ ap (λ (i : ℕ). dones i k) place
dones_split j (suc m) k =
    let count : suc m + k ≡ suc (m + k) = omega arith in
    let place : suc j + m ≡ j + suc m = omega arith in
    ap (dones j) count ∙ ap (λ (l : List Mark). Done j ∷ l) (dones_split (suc j) m k ∙ ap (λ (i : ℕ). dones (suc j) m ++ dones i k) place)

-- what was said of a drive that was begun with k records and has so many now
abbrev pub said_marks : ℕ → ℕ → List Mark
said_marks k now = Begun k ∷ dones k (now - k)

pub said_part : (n k now : ℕ) → k ≤ now → now ≤ n → begun_marks n k ≡ said_marks k now ++ (dones now (n - now) ++ Sealed ∷ [])
said_part n k now low high =
    let count : n - k ≡ (now - k) + (n - now) = omega (arith, low, high) in
    let place : k + (now - k) ≡ now = omega (arith, low) in
    ap (λ (l : List Mark). Begun k ∷ l)
    (ap (λ (l : List Mark). l ++ Sealed ∷ []) (ap (dones k) count ∙ dones_split k (now - k) (n - now) ∙ ap (λ (i : ℕ). dones k (now - k) ++ dones i (n - now)) place)
    ∙ append_assoc (dones k (now - k)) (dones now (n - now)) (Sealed ∷ []))

-- a file more
pub said_more : (k now : ℕ) → k ≤ now → said_marks k (suc now) ≡ said_marks k now ++ Done now ∷ []
said_more k now low =
    let count : suc now - k ≡ suc (now - k) = omega (arith, low) in
    let place : k + (now - k) ≡ now = omega (arith, low) in
    ap (λ (l : List Mark). Begun k ∷ l) (ap (dones k) count ∙ dones_next k (now - k) ∙ ap (λ (i : ℕ). dones k (now - k) ++ Done i ∷ []) place)

-- the first records
pub said_first : (k : ℕ) → Begun k ∷ [] ≡ said_marks k k
said_first k = let none : 0 ≡ k - k = omega arith in ap (λ (m : ℕ). Begun k ∷ dones k m) none

-- ---- drives that are lost

some_first : (xs : List Mark) (z : Mark) → (y : Mark) × (ys : List Mark) × (xs ++ z ∷ [] ≡ y ∷ ys)
some_first [] z = (z, [], refl)
some_first (x ∷ xs) z = (x, xs ++ z ∷ [], refl)

pub cut_begun : (n k now : ℕ) (loss : Loss) → k ≤ now → now ≤ n → IsCutShort (begun_marks n k) (said_marks k now ++ Lost loss ∷ [])
cut_begun n k now loss low high =
    let s = some_first (dones now (n - now)) Sealed in
    record {
      first = said_marks k now;
      next = s.0;
      rest = s.1;
      loss = loss;
      part = said_part n k now low high ∙ ap (λ (l : List Mark). said_marks k now ++ l) s.2;
      is = refl;
    }

pub cut_first : (n k : ℕ) (loss : Loss) → IsCutShort (begun_marks n k) (Lost loss ∷ [])
cut_first n k loss = record { first = []; next = Begun k; rest = dones k (n - k) ++ Sealed ∷ []; loss = loss; part = refl; is = refl }

-- the same, otherwise written
cut_as : {all said all_too said_too : List Mark} → all ≡ all_too → said ≡ said_too → IsCutShort all_too said_too → IsCutShort all said
cut_as one two cut = record { first = cut.first; next = cut.next; rest = cut.rest; loss = cut.loss; part = one ∙ cut.part; is = two ∙ cut.is }

-- ---- where a drive stands

-- what was said of a drive that has these records: all up to the last of them
pub record SaysRecords (n : ℕ) (was : DriveAt) (recs : List Rec) (marks : List Mark) : Type 0 where
  pub all : all_marks n was ≡ begun_marks n (length (records_at was))
  pub low : length (records_at was) ≤ length recs
  pub is : marks ≡ said_marks (length (records_at was)) (length recs)

-- what was said of a drive that now stands so, and was begun or not
abbrev pub Told : ℕ → DriveAt → DriveAt → Bool → List Mark → Type 0
Told n was Gone begun marks = IsCutShort (all_marks n was) marks
Told n was Fresh true marks = ⊥
Told n was Fresh false marks = (was ≡ Fresh) × (marks ≡ [])
Told n was (BegunDrive recs gate kept) true marks = SaysRecords n was recs marks
Told n was (BegunDrive recs gate kept) false marks = (was ≡ BegunDrive recs gate kept) × (marks ≡ [])
Told n was (Found recs) begun marks = (was ≡ Found recs) × (marks ≡ [])
Told n was SealedDrive begun marks = marks ≡ all_marks n was

-- the drive has no more records than there are files
abbrev pub HasFew : ℕ → DriveAt → Type 0
HasFew n (BegunDrive recs gate kept) = length recs ≤ n
HasFew n _ = Unit {0}

-- nothing was said yet
pub told_first : (n : ℕ) (was : DriveAt) → is_gone was ≡ false → was ≢ SealedDrive → Told n was was false []
told_first n Gone there unsealed = absurd (false≢true (sym there))
told_first n Fresh there unsealed = (refl, refl)
told_first n (BegunDrive recs gate kept) there unsealed = (refl, refl)
told_first n (Found recs) there unsealed = (refl, refl)
told_first n SealedDrive there unsealed = absurd (unsealed refl)

-- a drive that is passed over
abbrev pub IsPassed : DriveAt → Type 0
IsPassed Fresh = ⊥
IsPassed (BegunDrive recs gate kept) = ⊥
IsPassed _ = Unit {0}

pub told_passed : (n : ℕ) (was now : DriveAt) (before after : Bool) (marks : List Mark) → IsPassed now → Told n was now before marks → Told n was now after marks
told_passed n was Gone before after marks passed t = t
told_passed n was Fresh before after marks passed t = absurd passed
told_passed n was (BegunDrive recs gate kept) before after marks passed t = absurd passed
told_passed n was (Found recs) before after marks passed t = t
told_passed n was SealedDrive before after marks passed t = t

-- ---- a drive that is begun

pub told_begun : (n : ℕ) (was : DriveAt) (recs : List Rec) (gate : Gate) (kept : Bool) → all_marks n was ≡ begun_marks n (length (records_at was)) → length recs ≡ length (records_at was) → (marks : List Mark) → marks ≡ []
    → Told n was (BegunDrive recs gate kept) true (marks ++ Begun (length (records_at was)) ∷ [])
told_begun n was recs gate kept all same marks none = record {
  all = all;
  low = omega (arith, same);
  is = ap (λ (l : List Mark). l ++ Begun (length (records_at was)) ∷ []) none ∙ said_first (length (records_at was)) ∙ ap (said_marks (length (records_at was))) (sym same);
}

pub told_unbegun : (n : ℕ) (was : DriveAt) (loss : Loss) → all_marks n was ≡ begun_marks n (length (records_at was)) → (marks : List Mark) → marks ≡ [] → Told n was Gone true (marks ++ Lost loss ∷ [])
told_unbegun n was loss all marks none = cut_as all (ap (λ (l : List Mark). l ++ Lost loss ∷ []) none) (cut_first n (length (records_at was)) loss)

-- a file more is recorded on it
pub told_done : (n : ℕ) (was : DriveAt) (recs more : List Rec) (gate : Gate) (kept : Bool) (i : ℕ) (marks : List Mark) → length recs ≡ i → length more ≡ suc i → SaysRecords n was recs marks
    → Told n was (BegunDrive more gate kept) true (marks ++ Done i ∷ [])
told_done n was recs more gate kept i marks count next t =
    let low = t.low in
    let least : length (records_at was) ≤ i = omega (arith, low, count) in
    record {
      all = t.all;
      low = omega (arith, least, next);
      is = ap (λ (l : List Mark). l ++ Done i ∷ []) (t.is ∙ ap (said_marks (length (records_at was))) count) ∙ sym (said_more (length (records_at was)) i least) ∙ ap (said_marks (length (records_at was))) (sym next);
    }

-- it is lost
pub told_lost : (n : ℕ) (was : DriveAt) (recs : List Rec) (loss : Loss) (marks : List Mark) → length recs ≤ n → SaysRecords n was recs marks → Told n was Gone true (marks ++ Lost loss ∷ [])
told_lost n was recs loss marks few t = cut_as t.all (ap (λ (l : List Mark). l ++ Lost loss ∷ []) t.is) (cut_begun n (length (records_at was)) (length recs) loss t.low few)

-- it is sealed
pub told_sealed : (n : ℕ) (was : DriveAt) (recs : List Rec) (marks : List Mark) → length recs ≡ n → SaysRecords n was recs marks → Told n was SealedDrive true (marks ++ Sealed ∷ [])
told_sealed n was recs marks whole t =
    let k = length (records_at was) in
    ap (λ (l : List Mark). l ++ Sealed ∷ []) (t.is ∙ ap (said_marks k) whole) ∙ sym t.all

pub told_found : (n : ℕ) (was : DriveAt) (recs : List Rec) (marks : List Mark) → was ≡ Found recs → marks ≡ [] → Told n was SealedDrive true (marks ++ Sealed ∷ [])
told_found n was recs marks same none = ap (λ (l : List Mark). l ++ Sealed ∷ []) none ∙ sym (ap (all_marks n) same)

-- ---- what it comes to

none_said : (all marks : List Mark) → marks ≡ [] → IsSoFar all marks
none_said all marks none = inl (all, ap (λ (l : List Mark). l ++ all) (sym none))

-- what was said is a part of all
pub told_so_far : (n : ℕ) (was now : DriveAt) (begun : Bool) (marks : List Mark) → HasFew n now → Told n was now begun marks → IsSoFar (all_marks n was) marks
told_so_far n was Gone begun marks few t = inr t
told_so_far n was Fresh true marks few t = absurd t
told_so_far n was Fresh false marks few t = none_said (all_marks n was) marks t.1
told_so_far n was (BegunDrive recs gate kept) false marks few t = none_said (all_marks n was) marks t.1
told_so_far n was (BegunDrive recs gate kept) true marks few t =
    let k = length (records_at was) in
    let rest : List Mark = dones (length recs) (n - length recs) ++ Sealed ∷ [] in
    inl (rest, t.all ∙ said_part n k (length recs) t.low few ∙ ap (λ (l : List Mark). l ++ rest) (sym t.is))
told_so_far n was (Found recs) begun marks few t = none_said (all_marks n was) marks t.1
told_so_far n was SealedDrive begun marks few t = inl ([], sym t ∙ sym (append-nil marks))

-- once nothing is left to be done on the drive, it is all of it
pub told_whole : (n : ℕ) (was now : DriveAt) (begun : Bool) (marks : List Mark) → IsOver now → Told n was now begun marks → IsWhole (all_marks n was) marks
told_whole n was Gone begun marks over t = inr t
told_whole n was Fresh begun marks over t = absurd over
told_whole n was (BegunDrive recs gate kept) begun marks over t = absurd over
told_whole n was (Found recs) begun marks over t = absurd over
told_whole n was SealedDrive begun marks over t = inl t

-- ---- where `sealed` and a loss stand

-- neither of them
pub record IsPlain (m : Mark) : Type 0 where
  pub unsealed : m ≢ Sealed
  pub kept : (loss : Loss) → m ≢ Lost loss

begun_plain : (k : ℕ) → IsPlain (Begun k)
begun_plain k = record { unsealed = λ e. absurd (cc e); kept = λ loss e. absurd (cc e) }

done_plain : (j : ℕ) → IsPlain (Done j)
done_plain j = record { unsealed = λ e. absurd (cc e); kept = λ loss e. absurd (cc e) }

dones_plain : (j m : ℕ) → AllByRecursion IsPlain (dones j m)
dones_plain j zero = tt
dones_plain j (suc m) = (done_plain j, dones_plain (suc j) m)

said_plain : (k now : ℕ) → AllByRecursion IsPlain (said_marks k now)
said_plain k now = (begun_plain k, dones_plain k (now - k))

among_plain : (marks : List Mark) (m : Mark) → AllByRecursion IsPlain marks → Contains marks m → IsPlain m
among_plain marks m all has = All-contains IsPlain marks m (All-from_recursion IsPlain marks all) has

no_sealed : (marks : List Mark) → AllByRecursion IsPlain marks → Contains marks Sealed → ⊥
no_sealed marks all has = (among_plain marks Sealed all has).unsealed refl

no_loss : (marks : List Mark) (loss : Loss) → AllByRecursion IsPlain marks → Contains marks (Lost loss) → ⊥
no_loss marks loss all has = (among_plain marks (Lost loss) all has).kept loss refl

none_plain : (marks : List Mark) → marks ≡ [] → AllByRecursion IsPlain marks
none_plain marks none = subst (AllByRecursion IsPlain) (sym none) tt

-- all that is said ends with `sealed`
pub record EndsSealed (all : List Mark) : Type 0 where
  pub before : List Mark
  pub is : all ≡ before ++ Sealed ∷ []
  pub plain : AllByRecursion IsPlain before

pub ends_sealed : (n : ℕ) (was : DriveAt) → is_gone was ≡ false → was ≢ SealedDrive → EndsSealed (all_marks n was)
ends_sealed n Gone there unsealed = absurd (false≢true (sym there))
ends_sealed n Fresh there unsealed = record { before = said_marks 0 n; is = refl; plain = said_plain 0 n }
ends_sealed n (BegunDrive recs gate kept) there unsealed = record { before = said_marks (length recs) n; is = refl; plain = said_plain (length recs) n }
ends_sealed n (Found recs) there unsealed = record { before = []; is = refl; plain = tt }
ends_sealed n SealedDrive there unsealed = absurd (unsealed refl)

not_nothing : (first : List Mark) (next : Mark) (rest : List Mark) → [] ≡ first ++ next ∷ rest → ⊥
not_nothing [] next rest is = absurd (cc is)
not_nothing (x ∷ first) next rest is = absurd (cc is)

front_plain : (before first : List Mark) (z next : Mark) (rest : List Mark) → AllByRecursion IsPlain before → before ++ z ∷ [] ≡ first ++ next ∷ rest → AllByRecursion IsPlain first
front_plain before [] z next rest all is = tt
front_plain [] (x ∷ first) z next rest all is = let tail : [] ≡ first ++ next ∷ rest = cc is in absurd (not_nothing first next rest tail)
front_plain (y ∷ before) (x ∷ first) z next rest all is =
    let head : y ≡ x = cc is in
    let tail : before ++ z ∷ [] ≡ first ++ next ∷ rest = cc is in
    (subst IsPlain head all.0, front_plain before first z next rest all.1 tail)

module _ (n : ℕ) (was : DriveAt) (there : is_gone was ≡ false) (unsealed : was ≢ SealedDrive) where
  ends : EndsSealed (all_marks n was)
  ends = ends_sealed n was there unsealed

  -- of a drive that is lost nothing else is said but what came before
  cut_plain : (marks : List Mark) (t : IsCutShort (all_marks n was) marks) → AllByRecursion IsPlain t.first
  cut_plain marks t = front_plain ends.before t.first Sealed t.next t.rest ends.plain (sym ends.is ∙ t.part)

  cut_unsealed : (marks : List Mark) → IsCutShort (all_marks n was) marks → Contains marks Sealed → ⊥
  cut_unsealed marks t has = by (Contains-push_cases t.first (Lost t.loss) Sealed (subst (λ (l : List Mark). Contains l Sealed) t.is has))
    where
      by : Contains t.first Sealed ⊎ (Lost t.loss ≡ Sealed) → ⊥
      by (inl early) = no_sealed t.first (cut_plain marks t) early
      by (inr last) = absurd (cc last)

  -- `sealed` is said of a drive just where it stands so
  pub sealed_said : (now : DriveAt) (begun : Bool) (marks : List Mark) → Told n was now begun marks → (is_sealed now ≡ true) ↔ Contains marks Sealed
  sealed_said Gone begun marks t = (λ is. absurd (false≢true is), λ has. absurd (cut_unsealed marks t has))
  sealed_said Fresh true marks t = absurd t
  sealed_said Fresh false marks t = (λ is. absurd (false≢true is), λ has. absurd (no_sealed marks (none_plain marks t.1) has))
  sealed_said (BegunDrive recs gate kept) true marks t = (λ is. absurd (false≢true is), λ has. absurd (no_sealed marks (subst (AllByRecursion IsPlain) (sym t.is) (said_plain (length (records_at was)) (length recs))) has))
  sealed_said (BegunDrive recs gate kept) false marks t = (λ is. absurd (false≢true is), λ has. absurd (no_sealed marks (none_plain marks t.1) has))
  sealed_said (Found recs) begun marks t = (λ is. absurd (false≢true is), λ has. absurd (no_sealed marks (none_plain marks t.1) has))
  sealed_said SealedDrive begun marks t = (λ is. subst (λ (l : List Mark). Contains l Sealed) (sym (t ∙ ends.is)) (Contains-push ends.before Sealed), λ has. refl)

  whole_kept : (loss : Loss) → Contains (all_marks n was) (Lost loss) → ⊥
  whole_kept loss has = by (Contains-push_cases ends.before Sealed (Lost loss) (subst (λ (l : List Mark). Contains l (Lost loss)) ends.is has))
    where
      by : Contains ends.before (Lost loss) ⊎ (Sealed ≡ Lost loss) → ⊥
      by (inl early) = no_loss ends.before loss ends.plain early
      by (inr last) = absurd (cc last)

  -- a loss is said of it just where it is gone
  pub loss_said : (now : DriveAt) (begun : Bool) (marks : List Mark) → Told n was now begun marks → (is_gone now ≡ true) ↔ ((loss : Loss) × Contains marks (Lost loss))
  loss_said Gone begun marks t = (λ is. (t.loss, subst (λ (l : List Mark). Contains l (Lost t.loss)) (sym t.is) (Contains-push t.first (Lost t.loss))), λ has. refl)
  loss_said Fresh true marks t = absurd t
  loss_said Fresh false marks t = (λ is. absurd (false≢true is), λ has. absurd (no_loss marks has.0 (none_plain marks t.1) has.1))
  loss_said (BegunDrive recs gate kept) true marks t = (λ is. absurd (false≢true is), λ has. absurd (no_loss marks has.0 (subst (AllByRecursion IsPlain) (sym t.is) (said_plain (length (records_at was)) (length recs))) has.1))
  loss_said (BegunDrive recs gate kept) false marks t = (λ is. absurd (false≢true is), λ has. absurd (no_loss marks has.0 (none_plain marks t.1) has.1))
  loss_said (Found recs) begun marks t = (λ is. absurd (false≢true is), λ has. absurd (no_loss marks has.0 (none_plain marks t.1) has.1))
  loss_said SealedDrive begun marks t = (λ is. absurd (false≢true is), λ has. absurd (whole_kept has.0 (subst (λ (l : List Mark). Contains l (Lost has.0)) t has.1)))
