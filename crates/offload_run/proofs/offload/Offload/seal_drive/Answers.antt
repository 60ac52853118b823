use Rattle.std.proofs.Common.{◌∙◌, ℕ, true, sym, ap, subst}
use Rattle.run_state.specs.declared.phase.Phase.{Phase}
use Rattle.run_state.specs.Acts.{SealTurn, Goes}
use Rattle.run_state.specs.Rules.{HasAtLeast}
use Rattle.run_state.specs.State.{Ordered, DriveAt, after_seal, files_of}
use Rattle.offload_run.specs.Offload.{ordered_of, drives_of, stands_at}
use Rattle.offload_run.proofs.Acting.{all_recorded, found_over, passed, seal_passed, sealed_over}
use Rattle.offload_run.proofs.offload.Offload.seal_drive.Goals as goal

pub seal_begun-requires-clause-all : goal.seal_begun-requires-clause-all
seal_begun-requires-clause-all g c =
    let e = c.in-Begun.ensures in
    all_recorded _ _ _ _ _ e.was c.requires.fits c.requires.all ∙ ap (λ (o : Ordered). files_of o.plan) (sym e.same)

pub returns-in-Begun-clause-acted : goal.returns-in-Begun-clause-acted
returns-in-Begun-clause-acted g c =
    subst (λ (x : DriveAt). SealTurn (ordered_of c.args.self.now) c.args.d x (drives_of c.args.self.now) (stands_at c.seal_begun.new.self) (g.B.Bay.world c.args.bay.now) (g.B.Bay.world c.seal_begun.new.bay)) c.in-Begun.ensures.was
    (sealed_over _ _ _ _ _ _ _ _ _ c.in-Begun.ensures.same c.in-Begun.ensures.moves c.seal_begun.ensures.acted)

pub returns-in-Found-clause-acted : goal.returns-in-Found-clause-acted
returns-in-Found-clause-acted g c =
    subst (λ (x : DriveAt). SealTurn (ordered_of c.args.self.now) c.args.d x (drives_of c.args.self.now) (stands_at c.say_found.new.self) (g.B.Bay.world c.args.bay.now) (g.B.Bay.world c.say_found.new.bay)) c.in-Found.ensures.was
    (found_over _ _ _ _ _ _ _ _ c.in-Found.ensures.same c.in-Found.ensures.moves c.say_found.ensures.acted)

pub returns-in_default-clause-acted : goal.returns-in_default-clause-acted
returns-in_default-clause-acted g c =
    let e = c.take_drive.ensures in
    let goes = subst (λ (n : Phase). Goes true n (stands_at c.pass_drive.new.self)) (c.after_seal-next.ensures ∙ ap (λ (w : ℕ). after_seal w c.args.d) e.moves.each.count) c.pass_drive.ensures.goes in
    subst (λ (x : DriveAt). SealTurn (ordered_of c.args.self.now) c.args.d x (drives_of c.args.self.now) (stands_at c.pass_drive.new.self) (g.B.Bay.world c.args.bay.now) (g.B.Bay.world c.args.bay.now)) e.was
    (seal_passed _ _ c.take_drive.result _ _ _ c.in_default.not-Begun c.in_default.not-Found (subst (HasAtLeast (files_of c.args.self.now.plan)) (sym e.was) c.requires.all) (passed _ _ _ _ _ _ _ e.was e.moves c.pass_drive.ensures.moves goes))
