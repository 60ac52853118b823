use Rattle.std.proofs.Common.{◌≡◌, ◌∙◌, length, true, refl, rules, subst}
use Rattle.std.specs.Prelude.{None}
use Rattle.run_state.specs.declared.phase.Phase.{Phase}
use Rattle.run_state.specs.Acts.{Goes}
use Rattle.run_state.specs.State.{Begun, at_of, after_record, files_of}
use Rattle.offload_run.specs.Offload.{ordered_of, drives_of, stands_at}
use Rattle.offload_run.proofs.Acting.{due_later, due_none, passed, record_acted, record_turned}
use Rattle.offload_run.proofs.offload.Offload.record_on.Goals as goal

pub returns-then-len-rec-clause-acted : goal.returns-then-len-rec-clause-acted
returns-then-len-rec-clause-acted g c =
    let long : length c.in-Begun.entries.items ≡ c.args.rec.index = search rules in
    record_acted (ordered_of c.args.self.now) (ordered_of c.take_drive.new.self) c.args.rec c.args.d c.in-Begun.entries.items c.in-Begun.gate c.in-Begun.kept _ (drives_of c.args.self.now) (drives_of c.take_drive.new.self) (stands_at c.record_due.new.self) _ _
    c.in-Begun.ensures.was long c.in-Begun.ensures.same c.in-Begun.ensures.moves (c.record_due.ensures.acted c.in-Begun.kept)

pub returns-else-len-rec-clause-acted : goal.returns-else-len-rec-clause-acted
returns-else-len-rec-clause-acted g c =
    let e = c.in-Begun.ensures in
    let counted : c.len.result ≡ length c.in-Begun.entries.items = search rules in
    let later : length c.in-Begun.entries.items ≡ c.args.rec.index → ⊥ = λ is. c.if-len-rec.false (counted ∙ is) in
    let goes = subst (λ (n : Phase). Goes true n (stands_at c.pass_drive.new.self)) (c.after_record-next.ensures ∙ (λ i. after_record (e.moves.each.count i) (files_of (e.same i).plan) c.args.rec c.args.d)) c.pass_drive.ensures.goes in
    record_turned (ordered_of c.args.self.now) c.args.rec c.args.d (Begun c.in-Begun.entries.items c.in-Begun.gate c.in-Begun.kept) None (drives_of c.args.self.now) (stands_at c.pass_drive.new.self) _ _ e.was
    (due_later c.args.rec.index c.in-Begun.entries.items c.in-Begun.gate c.in-Begun.kept later) (passed _ _ _ _ _ _ _ e.was e.moves c.pass_drive.ensures.moves goes)

pub returns-in_default : goal.returns-in_default
returns-in_default g c =
    let e = c.take_drive.ensures in
    let p = c.pass_drive-in_default.ensures in
    let goes = subst (λ (n : Phase). Goes true n (stands_at c.pass_drive-in_default.new.self)) (c.after_record-next-in_default.ensures ∙ (λ i. after_record (e.moves.each.count i) (files_of (e.same i).plan) c.args.rec c.args.d)) p.goes in
    record {
      same = p.same ∙ e.same;
      stocked = p.stocked;
      lent = refl;
      spares = λ n lent out. (lent, λ u. refl);
      acted = record_turned (ordered_of c.args.self.now) c.args.rec c.args.d (at_of c.take_drive.result) None (drives_of c.args.self.now) (stands_at c.pass_drive-in_default.new.self) _ _ e.was (due_none c.args.rec.index c.take_drive.result c.in_default.not-Begun) (passed _ _ _ _ _ _ _ e.was e.moves p.moves goes);
    }
