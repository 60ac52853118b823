-- A run as it is made of a true order: its drives, and the parts that they keep.
use Rattle.std.proofs.Common.{◌≡◌, ◌≢◌, ℕ, zero, suc, ◌≤◌, true, false, List, [], ◌∷◌, length, map, refl, sym, ap, ◌∙◌, subst, arith}
use Rattle.bay_core.specs.declared.event.Event.{Event}
use Rattle.bay_core.specs.Map.{Map}
use Rattle.bay_core.specs.World.{World, Honest}
use Rattle.copy_plan.specs.declared.file.PlannedFile.{PlannedFile}
use Rattle.copy_plan.specs.Plan.{PlanValue}
use Rattle.drive_journal.specs.declared.order.DriveStart.{DriveStart}
use Rattle.drive_journal.specs.declared.order.DriveStart.TheVariants.{Gone as GoneStart, Fresh as FreshStart, Begun as BegunStart, Sealed as SealedStart}
use Rattle.drive_journal.specs.declared.order.Order.{Order}
use Rattle.fresh_opening.specs.Orders.{start_at, IsTrueStart}
use Rattle.run_state.specs.declared.phase.Phase.{Phase}
use Rattle.run_state.specs.Rules.{IsStart}
use Rattle.run_state.specs.Runs.{Point}
use Rattle.run_state.specs.State.{Ordered, DriveAt, Gone, Fresh, Begun, Found, Sealed, At, drive_at, is_gone}
use Rattle.offload_run.specs.declared.offload.Offload.{Offload}
use Rattle.offload_run.specs.Offload.{ordered_of, begins_at}
use Rattle.run_steps.specs.Parts.{CanKeep, PartsAt, PartsReady}
use Rattle.run_steps.proofs.Drives.{one_file}
use Rattle.run_reads.specs.Parts.{KeepsFit, Starts}
use Rattle.true_start.specs.Starts.{StartsTruly}

-- where a drive of a run stands as its order says
begins_of : (starts : List DriveStart) (d : ℕ) → drive_at (map begins_at starts) d ≡ begins_at (start_at starts d)
begins_of [] d = refl
begins_of (x ∷ starts) zero = refl
begins_of (x ∷ starts) (suc d) = begins_of starts d

pub not_gone : (x : DriveStart) → x ≢ GoneStart → is_gone (begins_at x) ≡ false
not_gone GoneStart live = absurd (live refl)
not_gone FreshStart live = refl
not_gone (BegunStart entries gate kept) live = refl
not_gone (SealedStart entries) live = refl

pub gone_or : (x : DriveStart) → is_gone (begins_at x) ≡ false → x ≢ GoneStart
gone_or x there is = let gone : is_gone (begins_at x) ≡ true = ap (λ (y : DriveStart). is_gone (begins_at y)) is in absurd (cc (sym gone ∙ there))

-- an honest drive that is not gone is as the order says
abbrev pub IsTrueOf : PlanValue → DriveStart → ℕ → World → Type 0
IsTrueOf p x d w = x ≢ GoneStart → (m : Map) (L : List Event) → Honest w d m L → IsTrueStart p x d m L

-- a part that is kept is that of the next file
kept_fit : (p : PlanValue) (x : DriveStart) (d : ℕ) (w : World) → IsTrueOf p x d w → KeepsFit p (begins_at x) d w
kept_fit p GoneStart d w true_of = tt
kept_fit p FreshStart d w true_of = tt
kept_fit p (SealedStart entries) d w true_of = tt
kept_fit p (BegunStart entries gate false) d w true_of = tt
kept_fit p (BegunStart entries gate true) d w true_of = λ m L h.
    let of = λ (n : Map) (K : List Event) (k : Honest w d n K). (true_of (gone_or (BegunStart entries gate true) refl) n K k).kept.0 refl in
    let part = of m L h in (
      part.file,
      part.next,
      λ n K k.
          let other = of n K k in
          let same : other.file ≡ part.file = one_file p.files (length entries.items) other.file part.file other.next part.next in
          (other.bytes, other.part, subst (λ (f : PlannedFile). length other.bytes ≤ f.size) same other.short),
    )

-- so it may be kept
can_keep : (p : PlanValue) (x : DriveAt) (d : ℕ) (w : World) → KeepsFit p x d w → CanKeep p d w x
can_keep p Gone d w fit = tt
can_keep p Fresh d w fit = tt
can_keep p (Begun recs gate true) d w fit = fit
can_keep p (Begun recs gate false) d w fit = tt
can_keep p (Found recs) d w fit = tt
can_keep p Sealed d w fit = tt

module _ (order : Order) (run : Offload) (a : Point) (s : StartsTruly order run a) where
  abbrev pub o : Ordered
  o = ordered_of run

  pub start : IsStart o a.at
  start = subst (λ (k : At). IsStart o k) (sym s.at) s.starts

  -- where each drive stands
  pub stands : (d : ℕ) → drive_at a.at.drives.each d ≡ begins_at (start_at order.drives.items d)
  stands d = ap (λ (k : At). drive_at k.drives.each d) s.at ∙ ap (λ (l : List DriveAt). drive_at l d) s.of.drives ∙ begins_of order.drives.items d

  kept : (d : ℕ) → KeepsFit o.plan (drive_at a.at.drives.each d) d a.world
  kept d =
      subst (λ (x : DriveAt). KeepsFit o.plan x d a.world) (sym (stands d))
      (subst (λ (p : PlanValue). KeepsFit p (begins_at (start_at order.drives.items d)) d a.world) (sym s.of.plan) (kept_fit order.plan (start_at order.drives.items d) d a.world (s.true_order.drives d)))

  pub starts : Starts o a
  starts = record { run = start; kept = kept }

  pub ready : PartsReady o a
  ready =
      subst (λ (k : Phase). PartsAt o k a.at.drives.each a.pool a.world) (sym start.phase)
      (record { before = λ k low. absurd (omega (arith, low)); still = λ k high. can_keep o.plan (drive_at a.at.drives.each k) k a.world (kept k) })
