use Rattle.markup.proofs.Characters.{no_error, first_error}
use Rattle.markup.proofs.text_law.text_errors_are_exact.Goals as goal

pub returns-clause-clean : goal.returns-clause-clean
returns-clause-clean c = no_error

pub returns-clause-first : goal.returns-clause-first
returns-clause-first c = first_error
