use Rattle.std.proofs.Common.{subst}
use Rattle.run_state.specs.declared.phase.Phase.{Phase}
use Rattle.run_state.specs.Acts.{Goes}
use Rattle.offload_run.specs.Offload.{stands_at}
use Rattle.offload_run.proofs.Acting.{sealed_as, stands_sealed, stands_unsealed}
use Rattle.offload_run.proofs.Places.{goes_with}
use Rattle.offload_run.proofs.offload.Offload.seal_begun.Goals as goal

pub returns-in-Ok-clause-acted : goal.returns-in-Ok-clause-acted
returns-in-Ok-clause-acted g c =
    let e = c.seal_with_slot-came.ensures in
    let goes = goes_with _ _ _ _ c.set_sealed.ensures.next.0 c.set_sealed.ensures.next.1 (subst (λ (x : Phase). Goes c.say_sealed-said.result x (stands_at c.go_on.new.self)) c.after_seal-next.ensures c.go_on.ensures.goes) in
    sealed_as _ _ _ c.deref.result.now _ _ _ _ c.deref.ensures.value (record {
      finish = c.ask_moment-finish.result;
      early = c.ask_moment-finish.ensures.early;
      dated = g.B.Bay.world c.ask_moment-finish.new.bay;
      asked = c.ask_moment-finish.ensures.asked;
      came = c.seal_with_slot-came.result;
      mid = g.B.Bay.world c.seal_with_slot-came.new.bay;
      went = e.went;
      text = e.text;
      cause = e.cause;
      honest = e.honest;
      rests = e.rests;
      seals = e.seals;
      said = c.say_sealed-said.result;
      line = c.say_sealed-said.ensures;
      stands = stands_sealed _ _ _ _ _ _ c.go_on.ensures.drives c.in-Ok.is c.set_sealed.ensures.seals;
      goes = goes;
    })

pub returns-clause-acted : goal.returns-clause-acted
returns-clause-acted g c =
    let e = c.seal_with_slot-came.ensures in
    let goes = goes_with _ _ _ _ c.set_dropped.ensures.next.0 c.set_dropped.ensures.next.1 (subst (λ (x : Phase). Goes c.say_sealed-said.result x (stands_at c.go_on.new.self)) c.after_seal-next.ensures c.go_on.ensures.goes) in
    sealed_as _ _ _ c.deref.result.now _ _ _ _ c.deref.ensures.value (record {
      finish = c.ask_moment-finish.result;
      early = c.ask_moment-finish.ensures.early;
      dated = g.B.Bay.world c.ask_moment-finish.new.bay;
      asked = c.ask_moment-finish.ensures.asked;
      came = c.seal_with_slot-came.result;
      mid = g.B.Bay.world c.seal_with_slot-came.new.bay;
      went = e.went;
      text = e.text;
      cause = e.cause;
      honest = e.honest;
      rests = e.rests;
      seals = e.seals;
      said = c.say_sealed-said.result;
      line = c.say_sealed-said.ensures;
      stands = stands_unsealed _ _ c.in-Err.field-0 _ _ _ c.go_on.ensures.drives c.in-Err.is c.set_dropped.ensures.drops;
      goes = goes;
    })
