use Rattle.job_calls.proofs.Given.{numbers_of, places_of}
use Rattle.job_calls.proofs.Owning.{in_order, stands_of}
use Rattle.job_calls.proofs.Parts.{parts_of}
use Rattle.job_calls.proofs.laws.runs_attach_their_folders.Goals as goal

pub returns-clause-attaches : goal.returns-clause-attaches
returns-clause-attaches c = λ job end result old new past since r. in_order job end result past since old new (parts_of c.calls_are_its_own.ensures job end result old new past since r)

pub returns-clause-numbers : goal.returns-clause-numbers
returns-clause-numbers c = λ job end result old new past since r.
    numbers_of job past since old new r.was r.no_card r.no_drive (stands_of job end result past since old new (parts_of c.calls_are_its_own.ensures job end result old new past since r))

pub returns-clause-places : goal.returns-clause-places
returns-clause-places c = λ job end result old new past since r.
    places_of job past since old new r.was r.no_card r.no_drive (stands_of job end result past since old new (parts_of c.calls_are_its_own.ensures job end result old new past since r))
