use Rattle.std.proofs.Common.{◌≡◌, length, inl, inr, sym, ap, ◌∙◌, subst}
use Rattle.std.specs.FinMap.{keys}
use Rattle.bay_core.specs.Replay.{reads}
use Rattle.offload_law.specs.Stages.{HoldsPlan}
use Rattle.offload_run.specs.Offload.{ordered_of, begins_at}
use Rattle.run_state.specs.Rules.{IsOver}
use Rattle.true_start.specs.Starts.{offload_at}
use Rattle.true_start.specs.Stops.{IsPlanOf}
use Rattle.true_start.proofs.Passed.{none_announced, still_left, gone_left}
use Rattle.true_start.proofs.Starting.{stands}
use Rattle.true_start.proofs.Stopping.{left_by, left_well, left_sealed}
use Rattle.true_start.proofs.laws.steps_of_true_orders.Goals as goal

pub returns-clause-keeps : goal.returns-clause-keeps
returns-clause-keeps c = λ order run a b s runs d attached card past dates h.
    let f = c.true_orders_start_ready.ensures.drives order run a s d attached card past dates h in
    let start = (c.true_orders_start_ready.ensures.starts order run a s).run in
    (f.0, f.1.offload, c.turns_keep_to_the_steps.ensures (ordered_of run) a b start.run (c.true_orders_start_ready.ensures.parts order run a s) d (offload_at order.plan card (reads attached past d) f.0) attached card past f.1 runs)

pub returns-clause-stops : goal.returns-clause-stops
returns-clause-stops c = λ order run a b s runs d attached card past dates h of L more now I left.
    let f = c.true_orders_start_ready.ensures.drives order run a s d attached card past dates h in
    let start = (c.true_orders_start_ready.ensures.starts order run a s).run in
    let k = c.turns_keep_to_the_steps.ensures (ordered_of run) a b start.run (c.true_orders_start_ready.ensures.parts order run a s) d (offload_at order.plan card (reads attached past d) f.0) attached card past f.1 runs in
    left_by (λ q. q ≡ order.plan) (IsPlanOf order.plan (reads attached past d)) (λ q is. inl is) card dates d (reads attached past d) L I
    (left_well c.crash_prefix.ensures.on_card c.called_sealed.ensures.each c.greatest_told.ensures.least c.greatest_told.ensures.one c.one_progress.ensures.on_card order.plan f.1.offload.plan card dates of d attached past f.1.found.settled f.0 f.1.offload.at b.world k.keeps L more now I left)

pub returns-clause-sealed : goal.returns-clause-sealed
returns-clause-sealed c = λ order run a b s runs d attached card past dates h of before since more now called I left.
    let f = c.true_orders_start_ready.ensures.drives order run a s d attached card past dates h in
    let start = (c.true_orders_start_ready.ensures.starts order run a s).run in
    let k = c.turns_keep_to_the_steps.ensures (ordered_of run) a b start.run (c.true_orders_start_ready.ensures.parts order run a s) d (offload_at order.plan card (reads attached past d) f.0) attached card past f.1 runs in
    left_sealed c.crash_prefix.ensures.on_card c.called_sealed.ensures.each c.greatest_told.ensures.least c.greatest_told.ensures.one c.one_progress.ensures.on_card order.plan f.1.offload.plan card dates of d attached past f.1.found.settled f.0 f.1.offload.at b.world k.keeps before since more now called I left

pub returns-clause-gone : goal.returns-clause-gone
returns-clause-gone c = λ order run a b s alone d low is attached card past dates honest settled ours L more now I left.
    let start = (c.true_orders_start_ready.ensures.starts order run a s).run in
    let over = subst IsOver (sym (stands order run a s d ∙ ap begins_at is)) tt in
    let went = c.turns_pass_over_drives.ensures.lines (ordered_of run) a b start.run alone d low over in
    let found = gone_left d attached past went honest.events settled L more now I left in
    let lines = none_announced d (length (keys card)) (c.lines_about_others_announce_nothing.ensures d (length (keys card))) L found.0 in
    left_by (HoldsPlan (reads attached past d)) (IsPlanOf order.plan (reads attached past d)) (λ q holds. inr holds) card dates d (reads attached past d) L I
    (still_left c.one_progress.ensures.on_card c.crash_prefix.ensures.unchanged c.announced_steps.ensures.each card dates d (reads attached past d) ours L lines I found.1)
