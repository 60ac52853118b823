use Rattle.std.proofs.Common.{◌≡◌, ◌≢◌, length}
use Rattle.bay_core.specs.Replay.{Device, Drive}
use Rattle.crash_law.proofs.Staying.{away_stays}
use Rattle.offload_law.specs.Lines.{announces}
use Rattle.offload_law.specs.Steps.{offload}
use Rattle.offload_law.proofs.others_keep.Goals as goal

pub returns : goal.returns
returns c = λ o start s d before since off silent. away_stays (offload d o start) d (λ (y : Device). y ≢ Drive d) (λ line. announces d (length o.plan.files) line ≡ 0) (λ y there. there) (λ line none. none) since off silent start s before
