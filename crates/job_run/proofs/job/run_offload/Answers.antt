use Rattle.std.proofs.Common.{refl}
use Rattle.std.specs.Prelude.{Ok, Err}
use Rattle.job_story.specs.Story.{asked_by}
use Rattle.job_run.specs.Asked.{job_by}
use Rattle.job_run.proofs.Numbers.{can_run}
use Rattle.job_run.proofs.Sayable.{can_be_said}
use Rattle.job_run.proofs.Whole.{how_many, all_of, card_there, drives_there, opens_job, ran_unattached, ran_unopened, ran_order}
use Rattle.job_run.proofs.job.run_offload.Goals as goal

pub attach_all-requires-clause-words : goal.attach_all-requires-clause-words
attach_all-requires-clause-words g c = how_many c.args.asked.now c.args.words.now c.requires.job c.requires.count

pub returns-in-Err : goal.returns-in-Err
returns-in-Err g c =
    let job = job_by c.args.asked.now c.args.words.now in
    record {
      ran = ran_unattached job c.in-Err.unattached c.end_unattached.result (g.B.Bay.world c.args.bay.now) (g.B.Bay.world c.attach_all.new.bay) (g.B.Bay.world c.end_unattached.new.bay)
          (c.in-Err.ensures job (record { card = refl; drives = refl })) c.end_unattached.ensures;
    }

pub open_fresh-requires-clause-card : goal.open_fresh-requires-clause-card
open_fresh-requires-clause-card g c =
    card_there c.args.asked.now c.args.words.now c.in-Ok.source (g.B.Bay.world c.args.bay.now) (g.B.Bay.world c.attach_all.new.bay) c.requires.none c.requires.count c.in-Ok.ensures

pub open_fresh-requires-clause-attached : goal.open_fresh-requires-clause-attached
open_fresh-requires-clause-attached g c =
    drives_there c.args.asked.now c.args.words.now c.in-Ok.source (g.B.Bay.world c.args.bay.now) (g.B.Bay.world c.attach_all.new.bay) c.requires.none c.requires.count c.in-Ok.ensures

pub run_order-requires : goal.run_order-requires
run_order-requires g c =
    let asked = c.args.asked.now in
    let words = c.args.words.now in
    let old = g.B.Bay.world c.args.bay.now in
    let mid = g.B.Bay.world c.attach_all.new.bay in
    let e = c.in-Ok-open_fresh.ensures in
    record {
      can = can_run c.in-Ok.source asked.drives asked.copies (asked_by (job_by asked words).task) c.in-Ok-open_fresh.order mid (g.B.Bay.world c.open_fresh.new.bay) e.opens e.untouched.attached
          (card_there asked words c.in-Ok.source old mid c.requires.none c.requires.count c.in-Ok.ensures) (drives_there asked words c.in-Ok.source old mid c.requires.none c.requires.count c.in-Ok.ensures);
    }

pub end_unopened-requires : goal.end_unopened-requires
end_unopened-requires g c =
    let asked = c.args.asked.now in
    can_be_said c.in-Ok.source asked.drives asked.copies (asked_by (job_by asked c.args.words.now).task) c.in-Err-open_fresh.error (g.B.Bay.world c.attach_all.new.bay) (g.B.Bay.world c.open_fresh.new.bay) c.in-Err-open_fresh.ensures.opens

pub returns-in-Ok-open_fresh : goal.returns-in-Ok-open_fresh
returns-in-Ok-open_fresh g c =
    let asked = c.args.asked.now in
    let words = c.args.words.now in
    let job = job_by asked words in
    let old = g.B.Bay.world c.args.bay.now in
    let mid = g.B.Bay.world c.attach_all.new.bay in
    let late = g.B.Bay.world c.open_fresh.new.bay in
    let order = c.in-Ok-open_fresh.order in
    let e = c.in-Ok-open_fresh.ensures in
    let all = all_of asked words c.in-Ok.source old mid c.requires.none c.requires.count c.in-Ok.ensures in
    record {
      ran = ran_order job order c.run_order.result old mid late (g.B.Bay.world c.run_order.new.bay) all.1
          (opens_job job c.in-Ok.source asked.drives (Ok order) mid late all.0 c.requires.count e.opens e.true_order e.of_card e.untouched e.gone) (c.run_order.ensures job c.requires.count);
    }

pub returns-in-Err-open_fresh : goal.returns-in-Err-open_fresh
returns-in-Err-open_fresh g c =
    let asked = c.args.asked.now in
    let words = c.args.words.now in
    let job = job_by asked words in
    let old = g.B.Bay.world c.args.bay.now in
    let mid = g.B.Bay.world c.attach_all.new.bay in
    let late = g.B.Bay.world c.open_fresh.new.bay in
    let error = c.in-Err-open_fresh.error in
    let e = c.in-Err-open_fresh.ensures in
    let all = all_of asked words c.in-Ok.source old mid c.requires.none c.requires.count c.in-Ok.ensures in
    record {
      ran = ran_unopened job error c.end_unopened.result old mid late (g.B.Bay.world c.end_unopened.new.bay) all.1
          (opens_job job c.in-Ok.source asked.drives (Err error) mid late all.0 c.requires.count e.opens e.true_order e.of_card e.untouched e.gone) c.end_unopened.ensures;
    }
