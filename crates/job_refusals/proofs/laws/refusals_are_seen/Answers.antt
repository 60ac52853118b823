use Rattle.job_calls.proofs.Parts.{parts_of}
use Rattle.job_refusals.proofs.Ahead.{calls_card_first}
use Rattle.job_refusals.proofs.Refusing.{refuses_first, passes_unrefused}
use Rattle.job_refusals.proofs.Steadying.{lists_its_files}
use Rattle.job_refusals.proofs.laws.refusals_are_seen.Goals as goal

pub returns-clause-only : goal.returns-clause-only
returns-clause-only c = λ job end result old new past since r. refuses_first job end result past since old new (parts_of c.calls_are_its_own.ensures job end result old new past since r)

pub returns-clause-card_first : goal.returns-clause-card_first
returns-clause-card_first c = λ job end result old new past since r. calls_card_first job end result past since old new (parts_of c.calls_are_its_own.ensures job end result old new past since r)

pub returns-clause-passed : goal.returns-clause-passed
returns-clause-passed c = λ job end result old new past since r. passes_unrefused job end result past since old new (parts_of c.calls_are_its_own.ensures job end result old new past since r)

pub returns-clause-listing : goal.returns-clause-listing
returns-clause-listing c = λ job end result old new past since r. lists_its_files job end result past since old new (parts_of c.calls_are_its_own.ensures job end result old new past since r)
