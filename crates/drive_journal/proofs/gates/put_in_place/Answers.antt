use Rattle.drive_journal.proofs.Trying.{tried_first, tried_last, tried_exit}
use Rattle.drive_journal.proofs.gates.put_in_place.Goals as goal

pub returns-in_err-rename-clause-tried : goal.returns-in_err-rename-clause-tried
returns-in_err-rename-clause-tried g c = tried_exit _ _ _ _ c.from_residual.ensures.1 (tried_last _ _ _ c.in_err-rename.ensures.called)

pub returns-in_err-write-clause-tried : goal.returns-in_err-write-clause-tried
returns-in_err-write-clause-tried g c = tried_exit _ _ _ _ c.from_residual-in_err-write.ensures.1 (tried_first _ _ _ _ c.in_ok-rename.ensures.called (tried_last _ _ _ c.in_err-write.ensures))

pub returns-in_err-sync-clause-tried : goal.returns-in_err-sync-clause-tried
returns-in_err-sync-clause-tried g c = tried_exit _ _ _ _ c.from_residual-in_err-sync.ensures.1 (tried_first _ _ _ _ c.in_ok-rename.ensures.called (tried_first _ _ _ _ c.in_ok-write.ensures c.in_err-sync.ensures))

pub returns-clause-tried : goal.returns-clause-tried
returns-clause-tried g c = tried_first _ _ _ _ c.in_ok-rename.ensures.called (tried_first _ _ _ _ c.in_ok-write.ensures c.in_ok-sync.ensures)
