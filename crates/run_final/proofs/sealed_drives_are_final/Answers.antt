use Rattle.run_final.proofs.Sealing.{sealed_finally}
use Rattle.run_final.proofs.sealed_drives_are_final.Goals as goal

pub returns : goal.returns
returns c =
    sealed_finally
    (record {
      safe = c.steps_are_safe.ensures;
      go = λ o m n run t. c.a_turn_calls_its_own.ensures o m.at n.at m.pool n.pool m.world n.world run t;
      runs = c.turns_alone.ensures;
      rules = c.turns_keep_the_rules.ensures;
      calls = c.turns_pass_over_drives.ensures.calls;
      parts = c.parts_stay_ready.ensures;
      clean = c.no_scratch_is_left.ensures;
    })
