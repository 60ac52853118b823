use Rattle.std.proofs.Common.{List, ℕ, Bor, ap, ◌+◌, length}
use Rattle.std.specs.Prelude.{Some, None, option_map}
use Rattle.copy_plan.proofs.Lengths.{source_is, none_length, source_length}
use Rattle.copy_plan.proofs.encoding.source_len.Goals as goal

pub returns-in-None-clause-value : goal.returns-in-None-clause-value
returns-in-None-clause-value c = source_is _ None (ap (option_map (λ (path : Bor (List ℕ)). path.now)) c.in-None.is) 2 none_length

pub returns-in-Some-clause-value : goal.returns-in-Some-clause-value
returns-in-Some-clause-value c =
    source_is _ (Some c.in-Some.path.now) (ap (option_map (λ (path : Bor (List ℕ)). path.now)) c.in-Some.is) (2 + length c.as_str.result.now) (source_length c.in-Some.path.now c.as_str.result.now c.as_str.ensures.same)
