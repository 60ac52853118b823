-- One drive more at each turn; the first that fails ends it.
use Rattle.std.proofs.Common.{◌≡◌, ◌∙◌, ◌+◌, List, ℕ, suc, take, drop, slice_get, Some, Ok, rules, arith, subst}
use Rattle.bay_core.specs.Attach.{Attaches}
use Rattle.job_story.specs.Attaching.{AttachesDrives}
use Rattle.job_run.proofs.Folders.{card_number, first_card, place_at, attaches_none, attaches_more, failed_by, given_by, attaches_all}
use Rattle.job_run.proofs.attaching.attach_all.Goals as goal

pub loop-d-init : goal.loop-d-init
loop-d-init g c = record {
  count = (card_number c.word.result.now c.in-Ok.source (g.B.Bay.world c.args.bay.now) (g.B.Bay.world c.attach_source.new.self) c.requires.none c.in-Ok.ensures).1;
  attached = attaches_none 0 (g.B.Bay.world c.attach_source.new.self);
}

pub returns-then-is_err : goal.returns-then-is_err
returns-then-is_err g c = λ job has.
    let failed = failed_by c.word-place.result.now c.attach_drive.result (g.B.Bay.world c.loop-d.bay) (g.B.Bay.world c.attach_drive.new.self) (search rules) c.attach_drive.ensures in
    record {
      mid = g.B.Bay.world c.loop-d.bay;
      before = record {
        mid = g.B.Bay.world c.attach_source.new.self;
        card = first_card c.args.words.now job c.word.result.now c.in-Ok.source (g.B.Bay.world c.args.bay.now) (g.B.Bay.world c.attach_source.new.self) has c.requires.none c.word.ensures c.in-Ok.ensures;
        drives = subst (λ (places : List (List ℕ)). AttachesDrives 0 (take c.loop-d.d places) (g.B.Bay.world c.attach_source.new.self) (g.B.Bay.world c.loop-d.bay)) has.drives c.loop-d.invariant.attached;
      };
      place = c.word-place.result.now;
      is_place = subst (λ (places : List (List ℕ)). slice_get places c.loop-d.d ≡ Some c.word-place.result.now) has.drives
          (place_at c.args.words.now 5 c.args.drives c.loop-d.d c.word-place.result.now c.requires.words c.loop-d-test.true c.word-place.ensures);
      error = failed.0;
      failed = failed.1;
    }

pub loop-d-preserved : goal.loop-d-preserved
loop-d-preserved g c =
    let one = given_by c.word-place.result.now c.attach_drive.result (g.B.Bay.world c.loop-d.bay) (g.B.Bay.world c.attach_drive.new.self) (search rules) c.attach_drive.ensures in
    let next : suc c.loop-d.d ≡ c.loop-d.d + 1 = omega arith in
    let number : (g.B.Bay.world c.loop-d.bay).attached.drives ≡ 0 + c.loop-d.d = c.loop-d.invariant.count ∙ omega arith in
    record {
      count = one.1 ∙ omega (arith, c.loop-d.invariant.count);
      attached = subst (λ (n : ℕ). AttachesDrives 0 (take n (drop 5 c.args.words.now)) (g.B.Bay.world c.attach_source.new.self) (g.B.Bay.world c.attach_drive.new.self)) next
          (attaches_more 0 (drop 5 c.args.words.now) c.loop-d.d c.word-place.result.now (g.B.Bay.world c.attach_source.new.self) (g.B.Bay.world c.loop-d.bay) (g.B.Bay.world c.attach_drive.new.self)
          (place_at c.args.words.now 5 c.args.drives c.loop-d.d c.word-place.result.now c.requires.words c.loop-d-test.true c.word-place.ensures) c.loop-d.invariant.attached
          (subst (λ (n : ℕ). Attaches c.word-place.result.now (Ok n) (g.B.Bay.world c.loop-d.bay) (g.B.Bay.world c.attach_drive.new.self)) number one.0));
    }

pub returns : goal.returns
returns g c = λ job has. (
  (card_number c.word.result.now c.in-Ok.source (g.B.Bay.world c.args.bay.now) (g.B.Bay.world c.attach_source.new.self) c.requires.none c.in-Ok.ensures).0,
  attaches_all job c.loop-d.d c.args.words.now (g.B.Bay.world c.args.bay.now) (g.B.Bay.world c.attach_source.new.self) (g.B.Bay.world c.loop-d.bay) has (omega arith)
      (first_card c.args.words.now job c.word.result.now c.in-Ok.source (g.B.Bay.world c.args.bay.now) (g.B.Bay.world c.attach_source.new.self) has c.requires.none c.word.ensures c.in-Ok.ensures) c.loop-d.invariant.attached,
)
