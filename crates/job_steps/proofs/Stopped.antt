-- What a stop leaves of a drive where calls announce nothing: before its first change, and behind calls that are none on it.
use Rattle.std.proofs.Common.{◌≡◌, ◌≢◌, ◌⊎◌, inl, inr, ℕ, zero, suc, ◌≤◌, Bool, List, [], ◌∷◌, ◌++◌, length, refl, sym, ap, ◌∙◌, subst, arith}
use Rattle.std.specs.Prelude.{Contains}
use Rattle.std.specs.FinMap.{keys}
use Rattle.std.proofs.lemmas.List.Elements.{Contains-append_left, Contains-append_cases}
use Rattle.bay_core.specs.declared.event.Event.{Event}
use Rattle.bay_core.specs.declared.event.Event.TheVariants.{Say}
use Rattle.bay_core.specs.Left.{Left}
use Rattle.bay_core.specs.Map.{Map, Dates}
use Rattle.bay_core.specs.Replay.{reads}
use Rattle.bay_core.proofs.Replays.{no_calls}
use Rattle.bay_core.proofs.Rest.{settled_none}
use Rattle.crash_law.specs.Lines.{LineHas, AllLines}
use Rattle.crash_law.proofs.Lines.{more_lines}
use Rattle.copy_plan.specs.Plan.{PlanValue}
use Rattle.offload_law.specs.Clear.{IsTold, IsCalledSealed}
use Rattle.offload_law.specs.Stages.{IsOurs, HoldsPlan}
use Rattle.report_text.specs.Run.{sealed_text}
use Rattle.true_start.specs.Stops.{IsAnnounced, IsLeftWell, AnnouncesNone}
use Rattle.job_steps.proofs.Lower.{LineLaws}
use Rattle.job_steps.proofs.Plain.{IsPlain}
use Rattle.job_steps.proofs.Quiet.{IsQuiet}

-- a line that was said is such
line_said : (Q : List ℕ → Type 0) (L : List Event) (line : List ℕ) (ok : Bool) → AllLines Q L → Contains L (Say line ok) → Q line
unfolding AllLines
line_said Q [] line ok lines (k, low, is) = absurd (omega (arith, low))
line_said Q (e ∷ L) line ok lines (zero, low, is) = subst (LineHas Q) is lines.0
line_said Q (e ∷ L) line ok lines (suc k, low, is) = line_said Q L line ok lines.1 (k, omega (arith, low), is)

-- plain lines announce nothing for any drive
pub silent_lines : (d n : ℕ) (L : List Event) → AllLines IsPlain L → AllLines (AnnouncesNone d n) L
silent_lines d n L lines = more_lines IsPlain (AnnouncesNone d n) (λ line plain. plain.silent d n) L lines

module _ (laws : LineLaws) where
  told_none : (d n : ℕ) (L : List Event) (steps : ℕ) → AllLines (AnnouncesNone d n) L → IsTold d n L steps → steps ≡ 0
  told_none d n L steps lines (line, (ok, inside), says) = sym (laws.each d n line steps says) ∙ line_said (AnnouncesNone d n) L line ok lines inside

  -- where nothing is announced for a drive, it is not called sealed
  pub not_sealed : (d n : ℕ) (L : List Event) → AllLines (AnnouncesNone d n) L → IsCalledSealed d L → ⊥
  not_sealed d n L lines (m, list, low, (ok, inside)) =
      let none : suc (suc n) ≡ 0 = sym (laws.sealed d n m list low) ∙ line_said (AnnouncesNone d n) L (sealed_text d m list) ok lines inside in
      omega (arith, none)

  -- a drive that is left well is so behind calls that announce nothing for it
  pub left_still : (Such : PlanValue → Type 0) (card : Map) (dates : Dates) (d : ℕ) (start : Map) (L E : List Event) (I : Map) → AllLines (AnnouncesNone d (length (keys card))) E → IsLeftWell Such card dates d start L I → IsLeftWell Such card dates d start (L ++ E) I
  left_still Such card dates d start L E I lines h = record { steps = h.steps; stands = h.stands; announced = announced; at_most_one = (h.at_most_one.0, some h.at_most_one.0 h.at_most_one.1, h.at_most_one.2) }
    where
      announced : (told : ℕ) → IsAnnounced card dates start d (L ++ E) told → told ≤ h.steps
      announced told (inl after) = h.announced told (inl after)
      announced told (inr (line, (ok, inside), says)) = elim (Contains-append_cases L E (Say line ok) inside) [
        | inl before ↦ h.announced told (inr (line, (ok, before), says))
        | inr since ↦ let none = told_none d (length (keys card)) E told lines (line, (ok, since), says) in omega (arith, none)
      ]

      some : (told : ℕ) → IsAnnounced card dates start d L told → IsAnnounced card dates start d (L ++ E) told
      some told (inl after) = inl after
      some told (inr (line, (ok, inside), says)) = inr (line, (ok, Contains-append_left L E (Say line ok) inside), says)

  -- quiet calls leave a drive as it was
  pub quiet_left : (card : Map) (dates : Dates) (d : ℕ) (start : Map) → IsOurs card dates start → (L : List Event) → IsQuiet L → (I : Map) → Left start L d I → IsLeftWell (HoldsPlan start) card dates d start L I
  quiet_left card dates d start ours L quiet I left =
      let same : reads start [] d ≡ start = no_calls start [] d refl in
      subst (λ (m : Map). IsLeftWell (HoldsPlan m) card dates d m L I) same
      (laws.stops d start card [] dates (settled_none start [] d refl) (subst (IsOurs card dates) (sym same) ours) L quiet.untouched (silent_lines d (length (keys card)) L quiet.plain) I left)
