use Rattle.markup.proofs.Pieces.{pieces_one, piece_not_empty}
use Rattle.mhl_reader.proofs.Meaning.{one_reading, fault_excludes}
use Rattle.mhl_reader.proofs.Exact.{one_fault, reading_or_fault}
use Rattle.mhl_reader.proofs.NoMemory.{no_memory_fault}
use Rattle.mhl_reader.proofs.Canonical.{canonical_reads}
use Rattle.mhl_reader.proofs.laws.reading_is_exact.Goals as goal

pub returns-clause-one : goal.returns-clause-one
returns-clause-one c = λ bytes a b. one_reading bytes a b pieces_one piece_not_empty

pub returns-clause-fault : goal.returns-clause-fault
returns-clause-fault c = one_fault

pub returns-clause-either : goal.returns-clause-either
returns-clause-either c = reading_or_fault

pub returns-clause-none : goal.returns-clause-none
returns-clause-none c = λ bytes fault list f r. fault_excludes bytes list fault pieces_one piece_not_empty r f

pub returns-clause-memory : goal.returns-clause-memory
returns-clause-memory c = no_memory_fault

pub returns-clause-canonical : goal.returns-clause-canonical
returns-clause-canonical c = canonical_reads
