use Rattle.std.specs.Prelude.{option_map}
use Rattle.drive_journal.specs.Calls.{tidied, tidy_calls}
use Rattle.drive_journal.specs.Steps.{IsTidying}
use Rattle.drive_journal.proofs.Keeping.{tried_leaves}
use Rattle.drive_journal.proofs.Removing.{tidying_same, tidying_keeps, removals_turn}
use Rattle.drive_journal.proofs.tidying.tidy.Goals as goal

pub returns-clause-crash : goal.returns-clause-crash
returns-clause-crash g c =
    let paths = tidied (option_map (λ path. path.now) c.args.also) c.args.keep_part in
    tried_leaves (IsTidying paths) c.args.d (tidy_calls c.args.d (option_map (λ path. path.now) c.args.also) c.args.keep_part) c.remove_in_turn.ensures (tidying_same paths) (tidying_keeps c.args.d paths)

pub returns-clause-gone : goal.returns-clause-gone
returns-clause-gone g c = removals_turn c.args.d (tidied (option_map (λ path. path.now) c.args.also) c.args.keep_part) _ _ _ c.remove_in_turn.ensures
