use Rattle.std.specs.Prelude.{option_map}
use Rattle.drive_journal.specs.Calls.{unless_kept, given}
use Rattle.drive_journal.proofs.Removing.{removals_then, removals_stopped}
use Rattle.drive_journal.proofs.Trying.{tried_first, tried_last, tried_exit}
use Rattle.drive_journal.proofs.tidying.remove_in_turn.Goals as goal

pub returns-in_err-remove : goal.returns-in_err-remove
returns-in_err-remove g c = tried_exit _ _ _ _ c.from_residual.ensures.1 (tried_last _ _ _ c.in_err-remove.ensures)

pub returns-in_err-remove_part : goal.returns-in_err-remove_part
returns-in_err-remove_part g c =
    tried_exit _ _ _ _ c.from_residual-in_err-remove_part.ensures.1
    (tried_first _ _ _ _ c.in_ok-remove.ensures (removals_stopped c.args.d (unless_kept c.args.keep_part) (given (option_map (λ path. path.now) c.args.also)) c.in_err-remove_part.ensures))

pub returns : goal.returns
returns g c = tried_first _ _ _ _ c.in_ok-remove.ensures (removals_then c.args.d (unless_kept c.args.keep_part) (given (option_map (λ path. path.now) c.args.also)) _ c.in_ok-remove_part.ensures c.remove_given.ensures)
