-- Calls of a run that change and list nothing, and the first call of a kind.
use Rattle.std.proofs.Common.{◌≡◌, inl, inr, ℕ, zero, suc, false, List, [], ◌∷◌, ◌++◌, take, refl, sym, subst}
use Rattle.std.specs.Prelude.{Contains, Some}
use Rattle.std.specs.List.{AllByRecursion}
use Rattle.std.proofs.lemmas.List.Elements.{All-contains, All-from_recursion}
use Rattle.bay_core.specs.declared.event.Event.{Event}
use Rattle.bay_core.specs.declared.event.Event.TheVariants.{AttachFailed, SourceList}
use Rattle.bay_core.specs.Looks.{is_effect, IsUntouched}
use Rattle.bay_core.specs.Replay.{Device, Attaching, Output, device_of}
use Rattle.bay_core.specs.Went.{AllOn, Only, MaySee}
use Rattle.bay_core.proofs.Runs.{AllOn-append, all_on, none_on, one_on}
use Rattle.command_words.specs.Jobs.{Job}
use Rattle.job_story.specs.Ends.{JobEnd}
use Rattle.job_story.specs.Plans.{IsCardListing}
use Rattle.job_calls.specs.Calls.{job_attaches, drive_attaches, StopsAttaching}
use Rattle.job_calls.proofs.Ending.{lasts_of}
use Rattle.job_losses.proofs.Quiet.{untouched_off}

-- ---- calls that attach, and lines

abbrev pub IsQuiet : Device → Type 0
IsQuiet Attaching = Unit {0}
IsQuiet Output = Unit {0}
IsQuiet _ = ⊥

drives_attach : (d : ℕ) (places : List (List ℕ)) → AllOn (Only Attaching) (drive_attaches d places)
unfolding AllOn
drives_attach d [] = tt
drives_attach d (place ∷ places) = (refl, drives_attach (suc d) places)

pub attaches_attach : (job : Job) → AllOn (Only Attaching) (job_attaches job)
unfolding AllOn
attaches_attach job = (refl, drives_attach 0 job.drives)

pub attaches_quiet : (job : Job) → AllOn IsQuiet (job_attaches job)
attaches_quiet job = all_on (λ x is. subst IsQuiet (sym is) tt) (job_attaches job) (attaches_attach job)

take_quiet : (n : ℕ) (L : List Event) → AllOn IsQuiet L → AllOn IsQuiet (take n L)
unfolding AllOn
take_quiet zero L on = tt
take_quiet (suc n) [] on = tt
take_quiet (suc n) (e ∷ L) on = (on.0, take_quiet n L on.1)

see_quiet : (place : List ℕ) (L : List Event) → MaySee (AttachFailed place) L → AllOn IsQuiet L
see_quiet place L (inl none) = subst (AllOn IsQuiet) (sym none) (none_on IsQuiet)
see_quiet place L (inr one) = subst (AllOn IsQuiet) (sym one) (one_on IsQuiet (AttachFailed place) tt)

pub lines_quiet : (L : List Event) → AllOn (Only Output) L → AllOn IsQuiet L
lines_quiet L on = all_on (λ x is. subst IsQuiet (sym is) tt) L on

-- a run that stopped at an attach has no other
pub halted_quiet : (job : Job) (end : JobEnd) (result : ℕ) (since : List Event) → StopsAttaching job end result since → AllOn IsQuiet since
halted_quiet job end result since s =
    subst (AllOn IsQuiet) (sym s.is)
    (AllOn-append IsQuiet (take s.n (job_attaches job)) (s.failed ++ s.last) (take_quiet s.n (job_attaches job) (attaches_quiet job))
    (AllOn-append IsQuiet s.failed s.last (see_quiet s.place s.failed s.seen) (lines_quiet s.last (lasts_of end result s.last s.lines).on)))

-- ---- no change

pub quiet_untouched : (L : List Event) → AllOn IsQuiet L → IsUntouched L
quiet_untouched L on = untouched_off IsQuiet (λ d is. is) L on

each_untouched : (L : List Event) → IsUntouched L → AllByRecursion (λ e. is_effect e ≡ false) L
unfolding IsUntouched
each_untouched [] none = tt
each_untouched (e ∷ L) none = (none.0, each_untouched L none.1)

pub untouched_at : (L : List Event) (e : Event) → IsUntouched L → Contains L e → is_effect e ≡ false
untouched_at L e none inside = All-contains (λ (x : Event). is_effect x ≡ false) L e (All-from_recursion (λ (x : Event). is_effect x ≡ false) L (each_untouched L none)) inside

-- ---- no listing of a card

pub each_append : (P : Event → Type 0) (A B : List Event) → AllByRecursion P A → AllByRecursion P B → AllByRecursion P (A ++ B)
each_append P [] B a b = b
each_append P (e ∷ A) B a b = (a.0, each_append P A B a.1 b)

pub each_on : (On : Device → Type 0) (P : Event → Type 0) → ((e : Event) → On (device_of e) → P e) → (L : List Event) → AllOn On L → AllByRecursion P L
unfolding AllOn
each_on On P so [] on = tt
each_on On P so (e ∷ L) on = (so e on.0, each_on On P so L on.1)

abbrev pub AreUnlisted : List Event → Type 0
AreUnlisted L = AllByRecursion (λ e. IsCardListing e → ⊥) L

quiet_one : (e : Event) → IsQuiet (device_of e) → IsCardListing e → ⊥
quiet_one (SourceList s (Some files)) on such = on
quiet_one _ on such = such

pub quiet_unlisted : (L : List Event) → AllOn IsQuiet L → AreUnlisted L
quiet_unlisted L on = each_on IsQuiet (λ e. IsCardListing e → ⊥) quiet_one L on

-- ---- the first call of a kind

module _ (Such : Event → Type 0) where
  none_at : (A B : List Event) (e : Event) → AllByRecursion (λ x. Such x → ⊥) (A ++ e ∷ B) → Such e → ⊥
  none_at [] B e none such = none.0 such
  none_at (x ∷ A) B e none such = none_at A B e none.1 such

  pub none_such : (L A B : List Event) (e : Event) → AllByRecursion (λ x. Such x → ⊥) L → L ≡ A ++ e ∷ B → Such e → ⊥
  none_such L A B e none is such = none_at A B e (subst (AllByRecursion (λ x. Such x → ⊥)) is none) such

  -- there is one first
  pub first_one : (A B C D : List Event) (x y : Event) → A ++ x ∷ B ≡ C ++ y ∷ D → AllByRecursion (λ e. Such e → ⊥) A → AllByRecursion (λ e. Such e → ⊥) C → Such x → Such y → (x ≡ y) × (A ≡ C)
  first_one [] B [] D x y is a c here there = let head : x ≡ y = cc is in (head, refl)
  first_one [] B (z ∷ C) D x y is a c here there = let head : x ≡ z = cc is in absurd (c.0 (subst Such head here))
  first_one (w ∷ A) B [] D x y is a c here there = let head : y ≡ w = cc is in absurd (a.0 (subst Such head there))
  first_one (w ∷ A) B (z ∷ C) D x y is a c here there =
      let head : w ≡ z = cc is in
      let rest : A ++ x ∷ B ≡ C ++ y ∷ D = cc is in
      let more = first_one A B C D x y rest a.1 c.1 here there in
      (more.0, λ i. head i ∷ more.1 i)
