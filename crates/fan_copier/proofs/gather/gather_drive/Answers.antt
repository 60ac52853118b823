use Rattle.std.proofs.Common.{◌≡◌, ◌⊎◌, inl, inr, ℕ, ◌+◌, ◌-◌, ◌<◌, List, [], length, take, drop, refl, arith, sym, ap, subst, true, ◌∙◌}
use Rattle.std.specs.Prelude.{Option, Some, None, Ok, unwrap_or}
use Rattle.std.specs.FinMap.{get}
use Rattle.bay_core.specs.Map.{ReadsAs}
use Rattle.bay_core.specs.Replay.{Drive, reads}
use Rattle.bay_core.specs.Went.{Called, ReadCall}
use Rattle.bay_core.proofs.Looking.{looked_before, one_look}
use Rattle.bay_core.proofs.Runs.{went_none, went_such}
use Rattle.fan_copier.specs.Reads.{OnDrive, AreAt}
use Rattle.fan_copier.proofs.Reading.{tiles_none, read_more, read_ended, read_full, read_cut, drive_gave, drive_none, drive_failed, bytes_more, gather_exit, some_got, some_bound, got_look, front_kept, are_at}
use Rattle.fan_copier.proofs.gather.gather_drive.Goals as goal

-- a read gives none where it answers none, or nothing
no_bytes : (got : Option ℕ) → unwrap_or got 0 ≡ 0 → (got ≡ None) ⊎ (got ≡ Some 0)
no_bytes None none = inl refl
no_bytes (Some n) none = inr (ap Some none)

pub loop-n-init : goal.loop-n-init
loop-n-init g c = record {
  within = omega arith;
  size = refl;
  went = went_such (λ L none. tiles_none _ _ L none) (went_none _ _);
  honest = λ m L honest file there. refl;
}

pub returns-in_err-drive_read-clause-called : goal.returns-in_err-drive_read-clause-called
returns-in_err-drive_read-clause-called g c =
    let within = c.loop-n-test.true in
    let size : length c.drive_read.new.into ≡ length c.loop-n.into - c.loop-n.n = omega arith in
    gather_exit (OnDrive c.args.d c.args.path.now) c.args.at _ _ _ c.from_residual.result _ c.from_residual.ensures.1 refl
    (read_cut (OnDrive c.args.d c.args.path.now) c.args.at c.loop-n.n c.loop-n.into _ _ within (omega arith) c.loop-n.invariant.went
    (drive_failed c.args.d c.args.path.now (c.args.at + c.loop-n.n) c.drive_read.new.into _ c.in_err-drive_read.ensures.called))

pub returns-then-got-eq0-clause-called : goal.returns-then-got-eq0-clause-called
returns-then-got-eq0-clause-called g c =
    let within = c.loop-n-test.true in
    let size : length c.drive_read.new.into ≡ length c.loop-n.into - c.loop-n.n = omega arith in
    read_ended (OnDrive c.args.d c.args.path.now) c.args.at c.loop-n.n c.loop-n.into c.drive_read.new.into within size c.loop-n.invariant.went
    (drive_none c.args.d c.args.path.now (c.args.at + c.loop-n.n) c.drive_read.new.into c.in_ok-drive_read.field-0 (no_bytes _ (sym c.unwrap_or-got.ensures ∙ c.if-got-eq0.true)) (omega (arith, within, size)) c.in_ok-drive_read.ensures.called)

pub returns-then-got-eq0-clause-honest : goal.returns-then-got-eq0-clause-honest
returns-then-got-eq0-clause-honest g c = λ m L h file there.
    let within = c.loop-n.invariant.within in
    let size : length c.drive_read.new.into ≡ length c.loop-n.into - c.loop-n.n = omega arith in
    let b = looked_before c.args.d m L _ (one_look _ (got_look c.args.d c.args.path.now (c.args.at + c.loop-n.n) (length c.drive_read.new.into) c.in_ok-drive_read.field-0 c.drive_read.new.into)) c.in_ok-drive_read.ensures.called.went h in
    let same = front_kept c.loop-n.n c.loop-n.into c.drive_read.new.into within size in
    let was = c.loop-n.invariant.honest m b.before b.honest file (ap (λ n. get n c.args.path.now) (sym b.same) ∙ there) in
    subst (λ (bytes : List ℕ). AreAt file c.args.at bytes) (sym same) (are_at file c.args.at c.loop-n.n c.loop-n.into within was)

pub loop-n-preserved : goal.loop-n-preserved
loop-n-preserved g c =
    let size : length c.drive_read.new.into ≡ length c.loop-n.into - c.loop-n.n = omega arith in
    let got = c.unwrap_or-got.result in
    let some : 0 < got = omega (arith, c.if-got-eq0.false) in
    let is = some_got c.in_ok-drive_read.field-0 got c.unwrap_or-got.ensures some in
    let few = some_bound c.in_ok-drive_read.field-0 got (length c.drive_read.new.into) is c.in_ok-drive_read.ensures.bound in
    let one = drive_gave c.args.d c.args.path.now (c.args.at + c.loop-n.n) got c.drive_read.new.into
    (subst (λ (o : Option ℕ). Called (Drive c.args.d) (ReadCall c.args.d c.args.path.now (c.args.at + c.loop-n.n) c.drive_read.new.into (Ok o)) true (g.B.Bay.world c.loop-n.bay) (g.B.Bay.world c.drive_read.new.self)) is c.in_ok-drive_read.ensures.called) in
    record {
      within = omega (arith, few);
      size = omega (arith, c.loop-n.invariant.size);
      went = read_more (OnDrive c.args.d c.args.path.now) c.args.at c.loop-n.n got c.loop-n.into c.drive_read.new.into c.loop-n.invariant.within some few size c.loop-n.invariant.went one;
      honest = λ m L h file there.
          let b = looked_before c.args.d m L _ (one_look _ refl) one h in
          let was = ap (λ n. get n c.args.path.now) (sym b.same) ∙ there in
          let read = subst (λ (o : Option ℕ). ReadsAs (reads m b.before c.args.d) c.args.path.now (c.args.at + c.loop-n.n) c.drive_read.new.into o) is (c.in_ok-drive_read.ensures.honest m b.before b.honest) in
          bytes_more file c.args.at c.loop-n.n got c.loop-n.into c.drive_read.new.into c.loop-n.invariant.within few size (c.loop-n.invariant.honest m b.before b.honest file was)
          (read.bytes ∙ ap (λ (o : Option (List ℕ)). take got (drop (c.args.at + c.loop-n.n) (unwrap_or o []))) was);
    }

pub returns-clause-called : goal.returns-clause-called
returns-clause-called g c =
    let within = c.loop-n.invariant.within in
    read_full (OnDrive c.args.d c.args.path.now) c.args.at c.loop-n.n c.loop-n.into (omega (arith, within, c.loop-n-test.false)) c.loop-n.invariant.went
