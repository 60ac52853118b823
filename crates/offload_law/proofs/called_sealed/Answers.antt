use Rattle.offload_law.proofs.Clear.{called_sealed, all_on_card, one_count}
use Rattle.offload_law.proofs.called_sealed.Goals as goal

pub returns-clause-each : goal.returns-clause-each
returns-clause-each c = called_sealed c.steps_are_safe.ensures

pub returns-clause-on_card : goal.returns-clause-on_card
returns-clause-on_card c = λ o plan dates of start s at drives before are d within since more end is_in I left_I.
    all_on_card o plan dates of I (called_sealed c.steps_are_safe.ensures o plan start s at d before since more end is_in ((are.each d).0 within) I left_I)

pub returns-clause-one_count : goal.returns-clause-one_count
returns-clause-one_count c = one_count
