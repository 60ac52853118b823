use Rattle.drive_journal.proofs.Whole.{publish_leaves, publish_rests}
use Rattle.drive_journal.proofs.publishing.publish.Goals as goal

pub returns-clause-crash : goal.returns-clause-crash
returns-clause-crash g c = publish_leaves _ _ _ c.requires.apart _ _ _ c.write_and_rename.ensures

pub returns-clause-rests : goal.returns-clause-rests
returns-clause-rests g c = publish_rests _ _ _ c.requires.apart _ _ _ c.write_and_rename.ensures
