-- A call of a run among its turns, where there is none such outside them.
use Rattle.std.proofs.Common.{◌≡◌, inl, inr, ℕ, Bool, false, List, [], ◌∷◌, ◌++◌, sym, subst}
use Rattle.std.specs.Prelude.{Option}
use Rattle.std.proofs.lemmas.Bool.{false≢true}
use Rattle.bay_core.specs.declared.event.Event.{Event}
use Rattle.bay_core.specs.declared.event.Event.TheVariants.{SourceRead, Rename}
use Rattle.bay_core.specs.Looks.{is_effect, IsUntouched}
use Rattle.run_calls.proofs.Lists.{split_at}
use Rattle.job_calls.proofs.Failing.{IsNoRead, NoRead}
use Rattle.job_calls.proofs.Follows.{each_at}

-- this call is not among these
abbrev pub NotIn : Event → List Event → Type 0
NotIn e L = (front rest : List Event) → L ≡ front ++ e ∷ rest → ⊥

-- the call is among the ones between the first and the last
pub record Between (A T Z before after : List Event) (e : Event) : Type 0 where
  pub front : List Event
  pub rest : List Event
  pub before_is : before ≡ A ++ front
  pub at : T ≡ front ++ e ∷ rest
  pub after_is : after ≡ rest ++ Z

pub between : (A T Z before after : List Event) (e : Event) → NotIn e A → NotIn e Z → A ++ (T ++ Z) ≡ before ++ e ∷ after → Between A T Z before after e
between A T Z before after e first last is = elim (split_at A (T ++ Z) before after e is) [
  | inl found ↦ absurd (first before found.0 found.1)
  | inr one ↦ elim (split_at T Z one.0 after e one.2) [
    | inl found ↦ record { front = one.0; rest = found.0; before_is = one.1; at = found.1; after_is = found.2 }
    | inr two ↦ absurd (last two.0 after two.2)
  ]
]

-- ---- calls that are not there

untouched_at : (front rest : List Event) (e : Event) → IsUntouched (front ++ e ∷ rest) → is_effect e ≡ false
unfolding IsUntouched
untouched_at [] rest e u = u.0
untouched_at (x ∷ front) rest e u = untouched_at front rest e u.1

pub no_rename : (L : List Event) (d : ℕ) (from to : List ℕ) (ok : Bool) → IsUntouched L → NotIn (Rename d from to ok) L
no_rename L d from to ok u front rest is = false≢true (sym (untouched_at front rest (Rename d from to ok) (subst IsUntouched is u)))

pub no_read : (L : List Event) (s : ℕ) (path : List ℕ) (at want : ℕ) (got : Option (List ℕ)) → NoRead L → NotIn (SourceRead s path at want got) L
no_read L s path at want got none front rest is = false≢true (sym (each_at IsNoRead front rest (SourceRead s path at want got) (subst NoRead is none)))
