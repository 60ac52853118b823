-- What follows a call that failed, and a line `dropped`, in calls behind which others come.
use Rattle.std.proofs.Common.{◌≡◌, ◌≢◌, ◌⊎◌, inl, inr, ℕ, ◌<◌, ◌≤◌, Bool, true, false, List, [], ◌∷◌, ◌++◌, refl, sym, ap, ◌∙◌, subst, arith, append_assoc, append-nil}
use Rattle.std.specs.Prelude.{Some, codes, nat_lt}
use Rattle.std.specs.List.{AllByRecursion}
use Rattle.std.proofs.lemmas.Bool.{cases_Bool, false≢true, ltb-true, ltb-false}
use Rattle.bay_core.specs.declared.event.Event.{Event}
use Rattle.bay_core.specs.declared.event.Event.TheVariants.{SourceList, SourceRead, DriveList, DriveRead, Say}
use Rattle.bay_core.specs.declared.event.DriveGot.TheVariants.{Read, Absent}
use Rattle.bay_core.specs.Looks.{has_failed, is_look, Looks}
use Rattle.bay_core.specs.Replay.{Device, Drive, Output, calls_on, device_of}
use Rattle.bay_core.specs.Went.{AllOn, Only}
use Rattle.run_state.specs.Runs.{begins_with}
use Rattle.run_ends.proofs.Lines.{none_there}
use Rattle.run_calls.proofs.Lists.{split_at, on_behind, calls_off, apart_off}
use Rattle.job_story.specs.Ends.{JobEnd}
use Rattle.job_calls.specs.Calls.{MayFollow, NoneAfterFailure}

-- ---- the rule, for some calls behind which others come

-- behind each call that failed among these comes what may, with the others behind
abbrev pub FollowsIn : JobEnd → ℕ → List Event → List Event → Type 0
FollowsIn end result L more = (front back : List Event) (e : Event) → L ≡ front ++ e ∷ back → has_failed e ≡ true → MayFollow end result (device_of e) (back ++ more)

-- behind each line `dropped` of one of eight drives among these comes no call on it, neither of these nor of the others
abbrev pub DropsIn : List Event → List Event → Type 0
DropsIn L more = (front back : List Event) (d : ℕ) → d < 8 → (line : List ℕ) (ok : Bool) → L ≡ front ++ Say line ok ∷ back → begins_with (codes "dropped") d line ≡ true → calls_on d (back ++ more) ≡ []

small_or : (d : ℕ) → (d < 8) ⊎ (8 ≤ d)
small_or d = elim (cases_Bool (nat_lt d 8)) [
  | inl is ↦ inl (ltb-true d 8 is)
  | inr not_so ↦ inr (ltb-false d 8 not_so)
]

-- both
pub record Halts (end : JobEnd) (result : ℕ) (L more : List Event) : Type 0 where
  pub failed : FollowsIn end result L more
  pub dropped : DropsIn L more

pub halts_then : (end : JobEnd) (result : ℕ) (A B more : List Event) → Halts end result A (B ++ more) → Halts end result B more → Halts end result (A ++ B) more
halts_then end result A B more one two = record {
  failed = λ front back e is bad. elim (split_at A B front back e is) [
    | inl found ↦ subst (MayFollow end result (device_of e)) (sym (ap (λ (l : List Event). l ++ more) found.2 ∙ append_assoc found.0 B more)) (one.failed front found.0 e found.1 bad)
    | inr found ↦ two.failed found.0 back e found.2 bad
  ];
  dropped = λ front back d small line ok is begins. elim (split_at A B front back (Say line ok) is) [
    | inl found ↦ ap (calls_on d) (ap (λ (l : List Event). l ++ more) found.2 ∙ append_assoc found.0 B more) ∙ one.dropped front found.0 d small line ok found.1 begins
    | inr found ↦ two.dropped found.0 back d small line ok found.2 begins
  ];
}

-- Where nothing comes behind, it is the rule of a whole run, which calls no drive beyond the eighth.
pub halts_all : (end : JobEnd) (result : ℕ) (L : List Event) (On : Device → Type 0) → ((d : ℕ) → On (Drive d) → d < 8) → AllOn On L → Halts end result L [] → NoneAfterFailure end result L
halts_all end result L On few on h = record {
  failed = λ front back e is bad. subst (MayFollow end result (device_of e)) (append-nil back) (h.failed front back e is bad);
  dropped = λ front back d line ok is begins. elim (small_or d) [
    | inl small ↦ ap (calls_on d) (sym (append-nil back)) ∙ h.dropped front back d small line ok is begins
    | inr large ↦ calls_off d On (apart_off d On (λ here. let low = few d here in omega (arith, low, large))) back (on_behind On front back (Say line ok) (subst (AllOn On) is on))
  ];
}

-- ---- calls of which none fails, and none is a line

-- neither failed nor on the output
abbrev pub IsCalm : Event → Type 0
IsCalm e = (has_failed e ≡ false) × (device_of e ≢ Output)

abbrev pub AreCalm : List Event → Type 0
AreCalm L = AllByRecursion IsCalm L

-- each of some calls is such
pub each_at : (P : Event → Type 0) (front back : List Event) (e : Event) → AllByRecursion P (front ++ e ∷ back) → P e
each_at P [] back e all = all.0
each_at P (x ∷ front) back e all = each_at P front back e all.1

-- each of some calls and of others is such
pub each_then : (P : Event → Type 0) (A B : List Event) → AllByRecursion P A → AllByRecursion P B → AllByRecursion P (A ++ B)
each_then P [] B one two = two
each_then P (e ∷ A) B one two = (one.0, each_then P A B one.1 two)

pub calm_halts : (end : JobEnd) (result : ℕ) (L more : List Event) → AreCalm L → Halts end result L more
calm_halts end result L more calm = record {
  failed = λ front back e is bad. absurd (false≢true (sym (each_at IsCalm front back e (subst AreCalm is calm)).0 ∙ bad));
  dropped = λ front back d small line ok is begins. absurd ((each_at IsCalm front back (Say line ok) (subst AreCalm is calm)).1 refl);
}

pub calm_none : (end : JobEnd) (result : ℕ) (L more : List Event) → L ≡ [] → Halts end result L more
calm_none end result L more none = calm_halts end result L more (subst AreCalm (sym none) tt)

-- ---- looks

look_answered : (e : Event) → is_look e ≡ true → has_failed e ≡ false
look_answered (SourceList s (Some files)) look = refl
look_answered (SourceRead s path at want (Some bytes)) look = refl
look_answered (DriveList d (Some files)) look = refl
look_answered (DriveRead d path at want (Read bytes)) look = refl
look_answered (DriveRead d path at want Absent) look = refl
look_answered (Say line true) look = refl
look_answered e look = absurd (false≢true look)

pub looks_answered : (L : List Event) → Looks L → (front back : List Event) (e : Event) → L ≡ front ++ e ∷ back → has_failed e ≡ true → ⊥
unfolding Looks
looks_answered [] looks front back e is bad = none_there front back e is
looks_answered (x ∷ L) looks [] back e is bad = let head : x ≡ e = cc is in false≢true (sym (look_answered x looks.0) ∙ ap has_failed head ∙ bad)
looks_answered (x ∷ L) looks (y ∷ front) back e is bad = let rest : L ≡ front ++ e ∷ back = cc is in looks_answered L looks.1 front back e rest bad

-- ---- calls on other devices

pub off_output : (d : ℕ) (L : List Event) → AllOn (Only Output) L → calls_on d L ≡ []
off_output d L on = calls_off d (Only Output) (apart_off d (Only Output) (λ is. absurd (cc is))) L on

pub off_drive : (k d : ℕ) → (k ≡ d → ⊥) → (L : List Event) → AllOn (Only (Drive d)) L → calls_on k L ≡ []
off_drive k d apart L on = calls_off k (Only (Drive d)) (apart_off k (Only (Drive d)) (λ is. apart (cc is))) L on
