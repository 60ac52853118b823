-- The last lines of a run, and what follows among them.
use Rattle.std.proofs.Common.{◌≡◌, inl, inr, ℕ, ◌<◌, Bool, true, false, List, [], ◌∷◌, ◌++◌, refl, sym, ap, ◌∙◌, subst, append-nil}
use Rattle.std.specs.Prelude.{codes}
use Rattle.bay_core.specs.declared.event.Event.{Event}
use Rattle.bay_core.specs.declared.event.Event.TheVariants.{Say}
use Rattle.bay_core.specs.Looks.{has_failed, says, Looks}
use Rattle.bay_core.specs.Replay.{Device, Output, calls_on, device_of}
use Rattle.bay_core.specs.Went.{AllOn, Only, MaySee}
use Rattle.bay_core.proofs.Looking.{says_looks}
use Rattle.bay_core.proofs.Runs.{AllOn-append, none_on, one_on}
use Rattle.run_state.specs.Runs.{begins_with}
use Rattle.last_lines.specs.Ends.{End, EndCalls}
use Rattle.last_lines.specs.Said.{BrokeOff}
use Rattle.run_ends.proofs.Lines.{none_there}
use Rattle.run_calls.proofs.Lists.{split_at, only_one, on_behind}
use Rattle.job_story.specs.Ends.{JobEnd, OutFailed, last_of}
use Rattle.job_calls.specs.Calls.{MayFollow, NoAttach}
use Rattle.job_calls.proofs.Attaching.{no_attach}
use Rattle.job_calls.proofs.Follows.{Halts, looks_answered, off_output}

-- the last lines of a run: lines alone
pub record Lasts (end : JobEnd) (result : ℕ) (last : List Event) : Type 0 where
  pub on : AllOn (Only Output) last
  pub calls : EndCalls (last_of end) result last

says_on : (lines : List (List ℕ)) → AllOn (Only Output) (says lines)
unfolding AllOn
says_on [] = tt
says_on (line ∷ lines) = (refl, says_on lines)

-- a line that may not have been said
see_on : (line : List ℕ) (L : List Event) → MaySee (Say line false) L → AllOn (Only Output) L
see_on line L (inl none) = subst (AllOn (Only Output)) (sym none) (none_on (Only Output))
see_on line L (inr one) = subst (AllOn (Only Output)) (sym one) (one_on (Only Output) (Say line false) refl)

end_on : (e : End) (result : ℕ) (L : List Event) → EndCalls e result L → AllOn (Only Output) L
end_on e result L (inl (all, status)) = subst (AllOn (Only Output)) (sym all) (says_on e.lines)
end_on e result L (inr (broke, status)) =
    subst (AllOn (Only Output)) (sym broke.calls_are) (AllOn-append (Only Output) (says broke.first) broke.last (says_on broke.first) (see_on broke.next broke.last broke.failed))

pub lasts_of : (end : JobEnd) (result : ℕ) (L : List Event) → EndCalls (last_of end) result L → Lasts end result L
lasts_of end result L calls = record { on = end_on (last_of end) result L calls; calls = calls }

-- ---- a line that was not said

no_lines : (lines : List (List ℕ)) (L : List Event) → lines ≡ [] → BrokeOff lines L → ⊥
no_lines lines L none b = by b.first (sym none ∙ b.lines_are)
  where
    by : (first : List (List ℕ)) → [] ≡ first ++ b.next ∷ b.rest → ⊥
    by [] is = absurd (cc is)
    by (x ∷ first) is = absurd (cc is)

-- a run that ends so has no last line, and its status is 5
pub unsaid_end : (end : JobEnd) (result : ℕ) (L : List Event) → end ≡ OutFailed → EndCalls (last_of end) result L → (L ≡ []) × (result ≡ 5)
unsaid_end end result L is calls = by (subst (λ (x : JobEnd). EndCalls (last_of x) result L) is calls)
  where
    by : EndCalls (last_of OutFailed) result L → (L ≡ []) × (result ≡ 5)
    by (inl (none, status)) = (none, status)
    by (inr (broke, status)) = absurd (no_lines [] L refl broke)

-- the call that failed among lines of which one was not said is the last, and is a line
broke_failed : (lines : List (List ℕ)) (L : List Event) → BrokeOff lines L → (front back : List Event) (e : Event) → L ≡ front ++ e ∷ back → has_failed e ≡ true → (device_of e ≡ Output) × (back ≡ [])
broke_failed lines L b front back e is bad = elim (split_at (says b.first) b.last front back e (sym b.calls_are ∙ is)) [
  | inl found ↦ absurd (looks_answered (says b.first) (says_looks b.first) front found.0 e found.1 bad)
  | inr found ↦ by b.failed found.0 found.2
]
  where
    by : MaySee (Say b.next false) b.last → (first : List Event) → b.last ≡ first ++ e ∷ back → (device_of e ≡ Output) × (back ≡ [])
    by (inl none) first at = absurd (none_there first back e (sym none ∙ at))
    by (inr one) first at = let last = only_one (Say b.next false) e first back (sym one ∙ at) in (ap device_of last.0, last.1)

module _ (end : JobEnd) (result : ℕ) (L : List Event) (lasts : Lasts end result L) where
  last_failed : (front back : List Event) (e : Event) → L ≡ front ++ e ∷ back → has_failed e ≡ true → MayFollow end result (device_of e) (back ++ [])
  last_failed front back e is bad = by lasts.calls
    where
      by : EndCalls (last_of end) result L → MayFollow end result (device_of e) (back ++ [])
      by (inl (all, status)) = absurd (looks_answered L (subst Looks (sym all) (says_looks (last_of end).lines)) front back e is bad)
      by (inr (broke, status)) =
          let last = broke_failed (last_of end).lines L broke front back e is bad in
          subst (λ (x : Device). MayFollow end result x (back ++ [])) (sym last.0) (append-nil back ∙ last.1, status)

  last_dropped : (front back : List Event) (d : ℕ) → d < 8 → (line : List ℕ) (ok : Bool) → L ≡ front ++ Say line ok ∷ back → begins_with (codes "dropped") d line ≡ true → calls_on d (back ++ []) ≡ []
  last_dropped front back d small line ok is begins =
      ap (calls_on d) (append-nil back) ∙ off_output d back (on_behind (Only Output) front back (Say line ok) (subst (AllOn (Only Output)) is lasts.on))

  pub lasts_halt : Halts end result L []
  lasts_halt = record { failed = last_failed; dropped = last_dropped }

pub lasts_attach_none : (end : JobEnd) (result : ℕ) (L : List Event) → Lasts end result L → NoAttach L
lasts_attach_none end result L lasts = no_attach (Only Output) (λ is. absurd (cc is)) L lasts.on
