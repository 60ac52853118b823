use Rattle.drive_journal.proofs.Looked.{looked_at}
use Rattle.drive_journal.proofs.laws.first_look.Goals as goal

pub returns : goal.returns
returns c = λ d files found old new before all more seen was now none. looked_at d files found before all more seen was now none
