-- A run of a job that ended before any change.
use Rattle.std.proofs.Common.{◌≡◌, inl, inr, ℕ, suc, List, [], ◌∷◌, length, refl, sym, ◌∙◌, subst, append-nil, arith}
use Rattle.std.specs.Prelude.{◌⊎◌, ◌≢◌, Result, Ok, Err}
use Rattle.bay_core.specs.declared.event.Event.{Event}
use Rattle.bay_core.specs.declared.event.Event.TheVariants.{AttachSource, AttachDrive, AttachFailed}
use Rattle.bay_core.specs.declared.failed.Failed.{Failed as DeviceFailed}
use Rattle.bay_core.specs.Attach.{Attaches, CardAttaches, AttachCall, CardAttachCall}
use Rattle.bay_core.specs.Looks.{IsUntouched}
use Rattle.bay_core.specs.Went.{MaySee, Went}
use Rattle.bay_core.specs.Replay.{Device}
use Rattle.bay_core.specs.World.{World}
use Rattle.bay_core.proofs.Runs.{made_then, none_on}
use Rattle.bay_core.proofs.Looking.{untouched_none, untouched_one}
use Rattle.copy_plan.specs.Plan.{PlanValue}
use Rattle.run_state.specs.declared.outcome.Outcome.{Outcome}
use Rattle.run_state.specs.declared.outcome.Outcome.TheVariants.{Going, Finished, NoDrive, SourceFailed, Changed, Altered, OutFailed as LineFailed}
use Rattle.run_state.specs.State.{At}
use Rattle.drive_journal.specs.declared.order.Order.{Order}
use Rattle.offload_run.specs.Offload.{ordered_of, stands_at}
use Rattle.command_words.specs.Jobs.{Job}
use Rattle.last_lines.specs.Ends.{End, EndStatus}
use Rattle.job_story.specs.Attaching.{AttachesDrives, AttachesSome, AttachesAll, LacksDrive}
use Rattle.job_story.specs.Ends.{JobEnd, last_of}
use Rattle.job_story.specs.Story.{EndsAs, Turns, Story, card_unattached, drive_unattached, unopened, unstocked, turned, RanJob}
use Rattle.station_run.specs.Runs.{Unchanged}
use Rattle.station_run.specs.Station.{IsBeforeChange}
use Rattle.station_run.proofs.Attached.{then_keeps, made_unchanged, end_unchanged}

-- ---- one part after another

none_unchanged : (w : World) → Unchanged w w
none_unchanged w = λ all now. record { before = all; since = []; was = now; is = sym (append-nil all); on = none_on (λ x. Unit {0}); such = untouched_none }

then_unchanged : (old mid new : World) → Unchanged old mid → Unchanged mid new → Unchanged old new
then_unchanged old mid new one two = λ all now. made_unchanged (then_keeps (λ L is. is) (λ L is. is)) (made_then one (two all now))

went_unchanged : {On : Device → Type 0} {old new : World} → Went On IsUntouched old new → Unchanged old new
went_unchanged went = λ all now. made_unchanged (λ L is. is) (went.told all now)

-- ---- the attaches

call_keeps : (e : Event) → IsUntouched (e ∷ []) → (L : List Event) → L ≡ e ∷ [] → IsUntouched L
call_keeps e one L is = subst IsUntouched (sym is) one

seen_keeps : (e : Event) → IsUntouched (e ∷ []) → (L : List Event) → MaySee e L → IsUntouched L
seen_keeps e one L (inl is) = subst IsUntouched (sym is) untouched_none
seen_keeps e one L (inr is) = call_keeps e one L is

card_keeps : (place : List ℕ) (result : Result ℕ DeviceFailed) (L : List Event) → CardAttachCall place result L → IsUntouched L
card_keeps place (Ok s) L call = call_keeps (AttachSource s place) (untouched_one (AttachSource s place) refl) L call
card_keeps place (Err e) L call = seen_keeps (AttachFailed place) (untouched_one (AttachFailed place) refl) L call

drive_keeps : (place : List ℕ) (result : Result ℕ DeviceFailed) (L : List Event) → AttachCall place result L → IsUntouched L
drive_keeps place (Ok d) L call = call_keeps (AttachDrive d place) (untouched_one (AttachDrive d place) refl) L call
drive_keeps place (Err e) L call = seen_keeps (AttachFailed place) (untouched_one (AttachFailed place) refl) L call

card_unchanged : {place : List ℕ} {result : Result ℕ DeviceFailed} {old new : World} → CardAttaches place result old new → Unchanged old new
card_unchanged {place} {result} a = λ all now. made_unchanged (card_keeps place result) (a.told all now)

drive_unchanged : {place : List ℕ} {result : Result ℕ DeviceFailed} {old new : World} → Attaches place result old new → Unchanged old new
drive_unchanged {place} {result} a = λ all now. made_unchanged (drive_keeps place result) (a.told all now)

drives_unchanged : (d : ℕ) (places : List (List ℕ)) (old new : World) → AttachesDrives d places old new → Unchanged old new
unfolding AttachesDrives
drives_unchanged d [] old new same = subst (λ w. Unchanged old w) (sym same) (none_unchanged old)
drives_unchanged d (place ∷ places) old new (mid, one, rest) = then_unchanged old mid new (drive_unchanged one) (drives_unchanged (suc d) places mid new rest)

some_unchanged : {job : Job} {n : ℕ} {old new : World} → AttachesSome job n old new → Unchanged old new
some_unchanged {job} {n} {old} {new} a = then_unchanged old a.mid new (card_unchanged a.card) (drives_unchanged 0 _ a.mid new a.drives)

all_unchanged : {job : Job} {old new : World} → AttachesAll job old new → Unchanged old new
all_unchanged {job} {old} {new} a = then_unchanged old a.mid new (card_unchanged a.card) (drives_unchanged 0 _ a.mid new a.drives)

lacking_unchanged : {job : Job} {d : ℕ} {old new : World} → LacksDrive job d old new → Unchanged old new
lacking_unchanged {job} {d} {old} {new} a = then_unchanged old a.mid new (some_unchanged a.before) (drive_unchanged a.failed)

-- ---- a run that was turned has another status

-- the statuses of such runs
abbrev IsLate : ℕ → Type 0
IsLate n = (n ≡ 0) ⊎ (n ≡ 1) ⊎ (n ≡ 4) ⊎ (n ≡ 5)

not_such : (n m : ℕ) → n ≡ m → m ≢ 2 → m ≢ 3 → m ≢ 7 → m ≢ 9 → IsBeforeChange n → ⊥
not_such n m is a b c d (inl two) = a (sym is ∙ two)
not_such n m is a b c d (inr (inl three)) = b (sym is ∙ three)
not_such n m is a b c d (inr (inr (inl seven))) = c (sym is ∙ seven)
not_such n m is a b c d (inr (inr (inr nine))) = d (sym is ∙ nine)

apart : (m n : ℕ) → IsLate m → n ≡ m → IsBeforeChange n → ⊥
apart m n (inl zero) is = not_such n 0 (is ∙ zero) (omega arith) (omega arith) (omega arith) (omega arith)
apart m n (inr (inl one)) is = not_such n 1 (is ∙ one) (omega arith) (omega arith) (omega arith) (omega arith)
apart m n (inr (inr (inl four))) is = not_such n 4 (is ∙ four) (omega arith) (omega arith) (omega arith) (omega arith)
apart m n (inr (inr (inr five))) is = not_such n 5 (is ∙ five) (omega arith) (omega arith) (omega arith) (omega arith)

is_late : (drives : ℕ) (p : PlanValue) (at : At) (outcome : Outcome) (end : JobEnd) → EndsAs drives p at outcome end → IsLate (last_of end).status
is_late drives p at Finished end (inl (all, is)) = subst (λ e. IsLate (last_of e).status) (sym is) (inl refl)
is_late drives p at Finished end (inr (some, is)) = subst (λ e. IsLate (last_of e).status) (sym is) (inr (inl refl))
is_late drives p at NoDrive end is = subst (λ e. IsLate (last_of e).status) (sym is) (inr (inl refl))
is_late drives p at SourceFailed end is = subst (λ e. IsLate (last_of e).status) (sym is) (inr (inr (inl refl)))
is_late drives p at (Changed index listed read) end (file, there, is) = subst (λ e. IsLate (last_of e).status) (sym is) (inr (inr (inl refl)))
is_late drives p at LineFailed end is = subst (λ e. IsLate (last_of e).status) (sym is) (inr (inr (inr refl)))
is_late drives p at (Altered index listed read) end none = absurd none
is_late drives p at Going end none = absurd none

ended_late : (end : End) (result : ℕ) (old new : World) → IsLate end.status → EndStatus end result old new → IsBeforeChange result → ⊥
ended_late end result old new is_late (inl is) = apart end.status result is_late is
ended_late end result old new is_late (inr (lines, five, rose)) = apart 5 result (inr (inr (inr refl))) five

turned_late : {job : Job} {order : Order} {end : JobEnd} {old new : World} → Turns job order end old new → IsLate (last_of end).status
turned_late {job} {order} {end} {old} {new} turns = is_late (length job.drives) (ordered_of turns.run).plan (stands_at turns.then_run) (stands_at turns.then_run).outcome end turns.ends

-- ---- the whole

story_unchanged : {job : Job} {end : JobEnd} {result : ℕ} {old new : World} → Story job end result old new → IsBeforeChange result → Unchanged old new
story_unchanged {job} {end} {result} {old} {new} (card_unattached error mid is card ended) before = then_unchanged old mid new (card_unchanged card) (end_unchanged ended)
story_unchanged {job} {end} {result} {old} {new} (drive_unattached d mid is lacks ended) before = then_unchanged old mid new (lacking_unchanged lacks) (end_unchanged ended)
story_unchanged {job} {end} {result} {old} {new} (unopened e mid late is all opens ended) before =
    then_unchanged old mid new (all_unchanged all) (then_unchanged mid late new (went_unchanged opens.untouched) (end_unchanged ended))
story_unchanged {job} {end} {result} {old} {new} (unstocked order mid late is all opens ended) before =
    then_unchanged old mid new (all_unchanged all) (then_unchanged mid late new (went_unchanged opens.untouched) (end_unchanged ended))
story_unchanged {job} {end} {result} {old} {new} (turned order mid late done all opens turns ended) before = absurd (ended_late (last_of end) result done new (turned_late turns) ended.status before)

pub job_unchanged : {job : Job} {result : ℕ} {old new : World} → RanJob job result old new → IsBeforeChange result → Unchanged old new
job_unchanged ran before = story_unchanged ran.1 before
