-- The parts that a plan is kept in.
use Rattle.std.specs.Prelude.{◌≡◌}
use Rattle.copy_plan.specs.declared.plan.Plan.TheInside.{Inside}
use Rattle.copy_plan.specs.Plan.{PlanValue, IsPlan, list_of}

-- the plan that they are
abbrev pub plan_of : Inside → PlanValue
plan_of a = record { name = a.name; user = a.user; host = a.host; started = a.started; kinds = a.kinds; source_list = a.source_list; files = a.files.items }

-- they are a plan, and its list's name stands beside it
pub record IsWhole (a : Inside) : Type 0 where
  pub plan : IsPlan (plan_of a)
  pub list : a.list ≡ list_of (plan_of a)
