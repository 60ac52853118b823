-- What a run is to do: docs/MODEL.md, "Plans and journals".
use Rattle.std.specs.Prelude.{◌≡◌, ℕ, ◌≤◌, List, length, Option, IfSome, Vec}
use Rattle.std.specs.Global.{Global}
use Rattle.std.specs.List.{AllByRecursion}
use Rattle.copy_plan.specs.Plan.{PlanValue}
use Rattle.drive_journal.specs.declared.order.DriveStart.{DriveStart}
use Rattle.drive_journal.specs.declared.order.DriveStart.TheVariants.{Gone, Fresh, Begun, Sealed}
use Rattle.drive_journal.specs.declared.order.Listed.{Listed}
use Rattle.drive_journal.specs.Journal.{AreRecords}
use Rattle.drive_journal.specs.Look.{next_gate, IsFull}

-- where a drive stands fits the plan: its records are those of the first files, and its gate stands behind them; a sealed drive has all
abbrev pub Fits : PlanValue → DriveStart → Type 0
Fits p Gone = Unit {0}
Fits p Fresh = Unit {0}
Fits p (Begun entries gate kept) = AreRecords 0 p.files entries.items × (gate ≡ next_gate p (length entries.items))
Fits p (Sealed entries) = AreRecords 0 p.files entries.items × IsFull p entries.items

-- one to eight drives whose places fit the plan, 1 to 16 slots, and of a source list one item for each planned file
pub record IsOrder (slots : ℕ) (p : PlanValue) (listed : Option (Vec Listed Global)) (drives : List DriveStart) : Type 0 where
  pub some_slots : 1 ≤ slots
  pub few_slots : slots ≤ 16
  pub some_drives : 1 ≤ length drives
  pub few_drives : length drives ≤ 8
  pub starts : AllByRecursion (Fits p) drives
  pub each_listed : IfSome listed (λ items. length items.items ≡ length p.files)
