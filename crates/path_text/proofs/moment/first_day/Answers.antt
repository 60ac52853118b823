use Rattle.std.proofs.Common.{ap, unsigned_abs}
use Rattle.path_text.proofs.Calendar.{epoch_day-first}
use Rattle.path_text.proofs.moment.first_day.Goals as goal

pub returns : goal.returns
returns c = epoch_day-first c.date.result c.date.ensures.0 (ap unsigned_abs c.date.ensures.1) (ap unsigned_abs c.date.ensures.2)
