use Rattle.drive_journal.proofs.Trying.{tried_first, tried_last, tried_exit}
use Rattle.seal_step.proofs.drafting.name_list.Goals as goal

pub returns-in_err-rename : goal.returns-in_err-rename
returns-in_err-rename g c = tried_exit _ _ _ _ c.from_residual.ensures.1 (tried_last _ _ _ c.in_err-rename.ensures.called)

pub returns-in_err-sync : goal.returns-in_err-sync
returns-in_err-sync g c = tried_exit _ _ _ _ c.from_residual-in_err-sync.ensures.1 (tried_first _ _ _ _ c.in_ok-rename.ensures.called c.in_err-sync.ensures)

pub returns : goal.returns
returns g c = tried_first _ _ _ _ c.in_ok-rename.ensures.called c.in_ok-sync.ensures
