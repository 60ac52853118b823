-- A drive on which a run makes no call, and the calls before those of a run.
use Rattle.std.proofs.Common.{◌≡◌, ◌≢◌, inl, inr, ℕ, zero, suc, ◌≤◌, Bool, false, cond, List, [], ◌∷◌, ◌++◌, length, refl, sym, ap, ◌∙◌, subst, arith, append-nil}
use Rattle.std.proofs.lemmas.Bool.{false_from_ne_true}
use Rattle.std.proofs.lemmas.List.Elements.{Contains-append_right, Contains-append_cases}
use Rattle.std.specs.Prelude.{Some, Contains}
use Rattle.std.specs.FinMap.{keys}
use Rattle.bay_core.specs.declared.event.Event.{Event}
use Rattle.bay_core.specs.declared.event.Event.TheVariants.{Say}
use Rattle.bay_core.specs.Left.{Left, IsSettled}
use Rattle.bay_core.specs.Map.{Map, Dates}
use Rattle.bay_core.specs.Replay.{Drive, device_of, is_on, calls_on, reads}
use Rattle.bay_core.specs.Went.{AllOn, Went}
use Rattle.bay_core.specs.World.{World}
use Rattle.bay_core.proofs.Replays.{calls_on-append}
use Rattle.bay_core.proofs.Rest.{left_same}
use Rattle.bay_core.proofs.Runs.{AllOn-front, since_made}
use Rattle.crash_law.specs.Lines.{LineHas, AllLines}
use Rattle.crash_law.proofs.Lines.{more_lines}
use Rattle.crash_law.proofs.Safe.{of_here}
use Rattle.copy_plan.specs.Plan.{PlanValue}
use Rattle.offload_law.specs.Lines.{Announces, announces}
use Rattle.offload_law.specs.Stages.{IsAfterOn, StandsAfter, HoldsPlan, IsOurs}
use Rattle.run_state.specs.Runs.{is_about}
use Rattle.true_start.specs.Stops.{IsAnnounced, IsLeftWell, AnnouncesNone}
use Rattle.true_start.proofs.Stopping.{OneProgress}

-- the first of these lines are such too
lines_front : (Q : List ℕ → Type 0) (A B : List Event) → AllLines Q (A ++ B) → AllLines Q A
unfolding AllLines
lines_front Q [] B lines = tt
lines_front Q (e ∷ A) B lines = (lines.0, lines_front Q A B lines.1)

-- a line that was said is such
line_said : (Q : List ℕ → Type 0) (L : List Event) (line : List ℕ) (ok : Bool) → AllLines Q L → Contains L (Say line ok) → Q line
unfolding AllLines
line_said Q [] line ok lines (k, low, is) = absurd (omega (arith, low))
line_said Q (e ∷ L) line ok lines (zero, low, is) = subst (LineHas Q) is lines.0
line_said Q (e ∷ L) line ok lines (suc k, low, is) = line_said Q L line ok lines.1 (k, omega (arith, low), is)

-- calls on other devices are none on the drive
calls_off : (d : ℕ) (L : List Event) → AllOn (λ x. x ≢ Drive d) L → calls_on d L ≡ []
unfolding AllOn
calls_off d [] on = refl
calls_off d (e ∷ L) on =
    let off : is_on d (device_of e) ≡ false = false_from_ne_true (is_on d (device_of e)) (λ here. on.0 (of_here d (device_of e) here)) in
    ap (λ (b : Bool). cond b (e ∷ calls_on d L) (calls_on d L)) off ∙ calls_off d L on.1

-- they leave what was left
left_apart : (d : ℕ) (attached : Map) (past L : List Event) → IsSettled attached past d → AllOn (λ x. x ≢ Drive d) L → (I : Map) → Left attached (past ++ L) d I → I ≡ reads attached past d
left_apart d attached past L settled on I left =
    let same : calls_on d (past ++ L) ≡ calls_on d past = calls_on-append d past L ∙ ap (λ (K : List Event). calls_on d past ++ K) (calls_off d L on) ∙ append-nil (calls_on d past) in
    settled I (left_same attached (past ++ L) past d I same left)

-- lines that are about another drive, or about none, announce nothing
pub none_announced : (d n : ℕ) → ((line : List ℕ) → is_about d line ≡ false → announces d n line ≡ 0) → (L : List Event) → AllLines (λ line. is_about d line ≡ false) L → AllLines (AnnouncesNone d n) L
none_announced d n none L lines = more_lines (λ line. is_about d line ≡ false) (AnnouncesNone d n) none L lines

-- ---- a drive that is left as it was

-- the number of steps of a line is the one that it announces
abbrev pub EachAnnounced : Type 0
EachAnnounced = (d n : ℕ) (line : List ℕ) (steps : ℕ) → Announces d n line steps → announces d n line ≡ steps

-- a line among those that announce nothing announces no step
told_none : EachAnnounced → (d n : ℕ) (L : List Event) → AllLines (AnnouncesNone d n) L → (line : List ℕ) (ok : Bool) → Contains L (Say line ok) → (steps : ℕ) → Announces d n line steps → steps ≡ 0
told_none each d n L lines line ok inside steps says = sym (each d n line steps says) ∙ line_said (AnnouncesNone d n) L line ok lines inside

module _ (same : OneProgress) (unchanged : (card : Map) (dates : Dates) (m : Map) (steps : ℕ) → IsAfterOn card dates m steps → StandsAfter (HoldsPlan m) card dates m m steps) (each : EachAnnounced) (card : Map) (dates : Dates) (d : ℕ) (start : Map) (ours : IsOurs card dates start) where
  announced_low : (L : List Event) → AllLines (AnnouncesNone d (length (keys card))) L → (told : ℕ) → IsAnnounced card dates start d L told → told ≤ ours.0
  announced_low L lines told (inl after) = let is = same card card dates dates start told ours.0 after ours.1 in omega (arith, is)
  announced_low L lines told (inr (line, (ok, inside), says)) = let is = told_none each d (length (keys card)) L lines line ok inside told says in omega (arith, is)

  -- where no line announces a step
  pub still_left : (L : List Event) → AllLines (AnnouncesNone d (length (keys card))) L → (I : Map) → I ≡ start → IsLeftWell (HoldsPlan start) card dates d start L I
  still_left L lines I is =
      subst (λ (J : Map). IsLeftWell (HoldsPlan start) card dates d start L J) (sym is)
      (record { steps = ours.0; stands = unchanged card dates start ours.0 ours.1; announced = announced_low L lines; at_most_one = (ours.0, inl ours.1, omega arith) })

-- a drive on which no call was made, and about which no line was said
pub gone_left : {old new : World} (d : ℕ) (attached : Map) (past : List Event) → Went (λ x. x ≢ Drive d) (AllLines (λ line. is_about d line ≡ false)) old new → old.events ≡ Some past → IsSettled attached past d → (L more : List Event) → new.events ≡ Some (past ++ (L ++ more)) → (I : Map) → Left attached (past ++ L) d I
    → AllLines (λ line. is_about d line ≡ false) L × (I ≡ reads attached past d)
gone_left d attached past went was settled L more now I left =
    let made = since_made went past (L ++ more) was now in
    (lines_front (λ line. is_about d line ≡ false) L more made.such, left_apart d attached past L settled (AllOn-front (λ x. x ≢ Drive d) L more made.on) I left)

-- ---- calls before those of a run

-- where they announce nothing, the drive is left well behind them too
pub left_behind : EachAnnounced → (Such : PlanValue → Type 0) (card : Map) (dates : Dates) (d : ℕ) (start : Map) (E L : List Event) (I : Map) → AllLines (AnnouncesNone d (length (keys card))) E → IsLeftWell Such card dates d start L I → IsLeftWell Such card dates d start (E ++ L) I
left_behind each Such card dates d start E L I lines h = record { steps = h.steps; stands = h.stands; announced = announced; at_most_one = (h.at_most_one.0, some h.at_most_one.0 h.at_most_one.1, h.at_most_one.2) }
  where
    announced : (told : ℕ) → IsAnnounced card dates start d (E ++ L) told → told ≤ h.steps
    announced told (inl after) = h.announced told (inl after)
    announced told (inr (line, (ok, inside), says)) = elim (Contains-append_cases E L (Say line ok) inside) [
      | inl before ↦ let none = told_none each d (length (keys card)) E lines line ok before told says in omega (arith, none)
      | inr since ↦ h.announced told (inr (line, (ok, since), says))
    ]

    some : (told : ℕ) → IsAnnounced card dates start d L told → IsAnnounced card dates start d (E ++ L) told
    some told (inl after) = inl after
    some told (inr (line, (ok, inside), says)) = inr (line, (ok, Contains-append_right E L (Say line ok) inside), says)
