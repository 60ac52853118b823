-- What a stop leaves of a drive that keeps to the steps.
use Rattle.std.proofs.Common.{◌≡◌, ◌⊎◌, inl, inr, ℕ, zero, suc, ◌≤◌, List, ◌++◌, length, refl, sym, subst, arith}
use Rattle.std.specs.Prelude.{Some}
use Rattle.std.specs.FinMap.{keys}
use Rattle.std.proofs.lemmas.List.{append_cancel_left}
use Rattle.bay_core.specs.declared.event.Event.{Event}
use Rattle.bay_core.specs.Left.{Left, IsSettled}
use Rattle.bay_core.specs.Map.{Map, Dates}
use Rattle.bay_core.specs.Replay.{reads}
use Rattle.bay_core.specs.World.{World}
use Rattle.crash_law.specs.Protocol.{State, IsIn, Announced}
use Rattle.crash_law.proofs.Safe.{restarts}
use Rattle.copy_plan.specs.Plan.{PlanValue, IsPlan}
use Rattle.offload_law.specs.Clear.{IsTold, IsCalledSealed}
use Rattle.offload_law.specs.Stages.{Offload as Work, Stage, IsAt, IsAfter, IsAfterOn, StandsAfter, IsOfCard, progress, all_steps}
use Rattle.offload_law.specs.Steps.{offload}
use Rattle.offload_law.proofs.Clear.{all_on_card}
use Rattle.offload_law.proofs.Counted.{one_file_each}
use Rattle.offload_law.proofs.Runs.{after_on}
use Rattle.recording.specs.Drives.{Copying, Keeps}
use Rattle.run_steps.specs.Stands.{Since}
use Rattle.true_start.specs.Starts.{offload_at}
use Rattle.true_start.specs.Stops.{IsAnnounced, IsLeftWell}

-- after a prefix of the steps by a plan of another kind
stands_by : (Such Other : PlanValue → Type 0) → ((p : PlanValue) → Such p → Other p) → (card : Map) (dates : Dates) (base m : Map) (steps : ℕ) → StandsAfter Such card dates base m steps → StandsAfter Other card dates base m steps
stands_by Such Other so card dates base m zero h = h
stands_by Such Other so card dates base m (suc k) h = (h.0, so h.0 h.1, h.2, h.3, h.4, h.5)

-- a drive that is left well by such a plan is so by one of another kind
pub left_by : (Such Other : PlanValue → Type 0) → ((p : PlanValue) → Such p → Other p) → (card : Map) (dates : Dates) (d : ℕ) (start : Map) (L : List Event) (I : Map) → IsLeftWell Such card dates d start L I → IsLeftWell Other card dates d start L I
left_by Such Other so card dates d start L I h = record { steps = h.steps; stands = stands_by Such Other so card dates start I h.steps h.stands; announced = h.announced; at_most_one = h.at_most_one }

-- what the laws of an offload say
abbrev pub CrashPrefix : Type 0
CrashPrefix = (o : Work) → IsPlan o.plan → (dates : Dates) → IsOfCard o.card dates o.plan → (start : Map) (s : Stage) → IsAt o start s →
    (d : ℕ) (L more : List Event) (end : State (offload d o start)) → IsIn (offload d o start) d start s (L ++ more) end → (I : Map) → Left start L d I →
    (steps : ℕ) × StandsAfter (λ p. p ≡ o.plan) o.card dates start I steps × (Announced (offload d o start) (progress o.plan s) L ≤ steps) × (steps ≤ suc (Announced (offload d o start) (progress o.plan s) L))

abbrev pub CalledSealed : Type 0
CalledSealed = (o : Work) → IsPlan o.plan → (start : Map) (s : Stage) → IsAt o start s →
    (d : ℕ) (before since more : List Event) (end : State (offload d o start)) → IsIn (offload d o start) d start s ((before ++ since) ++ more) end →
    IsCalledSealed d before → (I : Map) → Left start (before ++ since) d I → IsAfter o I (suc (suc (length o.plan.files)))

abbrev pub LeastTold : Type 0
LeastTold = (o : Work) (start : Map) (d told : ℕ) (L : List Event) → (told ≤ Announced (offload d o start) told L) × ((steps : ℕ) → IsTold d (length o.plan.files) L steps → steps ≤ Announced (offload d o start) told L)

abbrev pub OneTold : Type 0
OneTold = (o : Work) (start : Map) (d told : ℕ) (L : List Event) → (Announced (offload d o start) told L ≡ told) ⊎ IsTold d (length o.plan.files) L (Announced (offload d o start) told L)

abbrev pub OneProgress : Type 0
OneProgress = (card other : Map) (dates others : Dates) (m : Map) (j k : ℕ) → IsAfterOn card dates m j → IsAfterOn other others m k → j ≡ k

-- what is known of the calls of a run is known of these, behind those of before
keeps_at : (D : Copying) (d : ℕ) (past all : List Event) (w : World) → Since past (Keeps D d) w → w.events ≡ Some (past ++ all) → Keeps D d all
keeps_at D d past all w h now =
    let found = h.calls (past ++ all) now in
    subst (Keeps D d) (sym (append_cancel_left past all found.0 found.1)) found.2

module _ (prefix : CrashPrefix) (sealed : CalledSealed) (least : LeastTold) (one : OneTold) (same : OneProgress) (p : PlanValue) (plan : IsPlan p) (card : Map) (dates : Dates) (of : IsOfCard card dates p) (d : ℕ) (attached : Map) (past : List Event) (settled : IsSettled attached past d) (stage : Stage)
    (at : IsAt (record { plan = p; card = card }) (reads attached past d) stage) (w : World) (keeps : Since past (Keeps (offload_at p card (reads attached past d) stage) d) w) where
  abbrev start : Map
  start = reads attached past d

  abbrev work : Work
  work = record { plan = p; card = card }

  -- the steps that the drive had
  abbrev had : ℕ
  had = progress p stage

  abbrev told : List Event → ℕ
  told L = Announced (offload d work start) had L

  start_after : IsAfterOn card dates start had
  start_after = after_on card dates p of plan start had (record { stage = stage; at = at; done = refl })

  files_are : length p.files ≡ length (keys card)
  files_are = one_file_each card dates p plan of

  by_card : (L : List Event) (steps : ℕ) → IsTold d (length p.files) L steps → IsTold d (length (keys card)) L steps
  by_card L steps h = subst (λ (n : ℕ). IsTold d n L steps) files_are h

  by_plan : (L : List Event) (steps : ℕ) → IsTold d (length (keys card)) L steps → IsTold d (length p.files) L steps
  by_plan L steps h = subst (λ (n : ℕ). IsTold d n L steps) (sym files_are) h

  announced_low : (L : List Event) (steps : ℕ) → IsAnnounced card dates start d L steps → steps ≤ told L
  announced_low L steps (inl after) = let is = same card card dates dates start steps had after start_after in let low = (least work start d had L).0 in omega (arith, is, low)
  announced_low L steps (inr line) = (least work start d had L).1 steps (by_plan L steps line)

  announced_so : (L : List Event) → (steps : ℕ) × IsAnnounced card dates start d L steps × (told L ≤ steps)
  announced_so L = elim (one work start d had L) [
    | inl none ↦ (had, inl start_after, omega (arith, none))
    | inr line ↦ (told L, inr (by_card L (told L) line), omega arith)
  ]

  left_since : (L : List Event) (I : Map) → Left attached (past ++ L) d I → Left start L d I
  left_since L I left = (restarts attached past d).left settled L I left

  -- each map that a stop leaves
  pub left_well : (L more : List Event) → w.events ≡ Some (past ++ (L ++ more)) → (I : Map) → Left attached (past ++ L) d I → IsLeftWell (λ q. q ≡ p) card dates d start L I
  left_well L more now I left =
      let k = keeps_at (offload_at p card start stage) d past (L ++ more) w keeps now in
      let found = prefix work plan dates of start stage at d L more k.state k.is_in I (left_since L I left) in
      let some = announced_so L in
      record {
        steps = found.0;
        stands = found.1;
        announced = λ steps h. let low = announced_low L steps h in let high = found.2 in omega (arith, low, high);
        at_most_one = (some.0, some.1, let most = found.3 in let few = some.2 in omega (arith, most, few));
      }

  -- once it was called sealed
  pub left_sealed : (before since more : List Event) → w.events ≡ Some (past ++ ((before ++ since) ++ more)) → IsCalledSealed d before → (I : Map) → Left attached (past ++ (before ++ since)) d I → IsAfterOn card dates I (all_steps card)
  left_sealed before since more now called I left =
      let k = keeps_at (offload_at p card start stage) d past ((before ++ since) ++ more) w keeps now in
      all_on_card work plan dates of I (sealed work plan start stage at d before since more k.state k.is_in called I (left_since (before ++ since) I left))
