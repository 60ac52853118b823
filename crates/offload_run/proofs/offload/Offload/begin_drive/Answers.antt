use Rattle.std.proofs.Common.{◌∙◌, ℕ, true, ap, subst}
use Rattle.run_state.specs.declared.phase.Phase.{Phase}
use Rattle.run_state.specs.Acts.{BeginTurn, Goes}
use Rattle.run_state.specs.State.{DriveAt, after_begin}
use Rattle.offload_run.specs.Offload.{ordered_of, drives_of, stands_at}
use Rattle.offload_run.proofs.Acting.{begun_over, begin_passed, passed}
use Rattle.offload_run.proofs.offload.Offload.begin_drive.Goals as goal

pub returns-in-Fresh-clause-acted : goal.returns-in-Fresh-clause-acted
returns-in-Fresh-clause-acted g c =
    subst (λ (x : DriveAt). BeginTurn (ordered_of c.args.self.now) c.args.d x (drives_of c.args.self.now) (stands_at c.begin_fresh.new.self) (g.B.Bay.world c.args.bay.now) (g.B.Bay.world c.begin_fresh.new.bay)) c.in-Fresh.ensures.was
    (begun_over _ _ _ _ _ _ _ _ _ c.in-Fresh.ensures.same c.in-Fresh.ensures.moves c.begin_fresh.ensures.acted)

pub returns-in-Begun-clause-acted : goal.returns-in-Begun-clause-acted
returns-in-Begun-clause-acted g c =
    subst (λ (x : DriveAt). BeginTurn (ordered_of c.args.self.now) c.args.d x (drives_of c.args.self.now) (stands_at c.rejoin.new.self) (g.B.Bay.world c.args.bay.now) (g.B.Bay.world c.rejoin.new.bay)) c.in-Begun.ensures.was
    (begun_over _ _ _ _ _ _ _ _ _ c.in-Begun.ensures.same c.in-Begun.ensures.moves c.rejoin.ensures.acted)

pub returns-in_default-clause-acted : goal.returns-in_default-clause-acted
returns-in_default-clause-acted g c =
    let goes = subst (λ (n : Phase). Goes true n (stands_at c.pass_drive.new.self)) (c.after_begin-next.ensures ∙ ap (λ (w : ℕ). after_begin w c.args.d) c.take_drive.ensures.moves.each.count) c.pass_drive.ensures.goes in
    subst (λ (x : DriveAt). BeginTurn (ordered_of c.args.self.now) c.args.d x (drives_of c.args.self.now) (stands_at c.pass_drive.new.self) (g.B.Bay.world c.args.bay.now) (g.B.Bay.world c.args.bay.now)) c.take_drive.ensures.was
    (begin_passed _ _ c.take_drive.result _ _ _ c.in_default.not-Fresh c.in_default.not-Begun (passed _ _ _ _ _ _ _ c.take_drive.ensures.was c.take_drive.ensures.moves c.pass_drive.ensures.moves goes))
