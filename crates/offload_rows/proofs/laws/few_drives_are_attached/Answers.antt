use Rattle.offload_rows.proofs.Few.{few_drives}
use Rattle.offload_rows.proofs.laws.few_drives_are_attached.Goals as goal

pub returns : goal.returns
returns c = λ words result old new ran none. few_drives c.calls_are_its_own.ensures words result old new ran none
