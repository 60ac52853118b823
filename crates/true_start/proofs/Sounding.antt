-- A run of a true order whose devices have nothing wrong with them.
use Rattle.std.proofs.Common.{◌≡◌, ℕ, false, List, length, sym, ap, ◌∙◌, subst}
use Rattle.std.specs.Prelude.{Option, Some, None, Vec, Contains, option_map}
use Rattle.std.specs.Global.{Global}
use Rattle.std.specs.List.{slice_get}
use Rattle.std.specs.FinMap.{get}
use Rattle.bay_core.specs.Map.{Map, content}
use Rattle.bay_core.specs.World.{Steady}
use Rattle.copy_plan.specs.declared.file.PlannedFile.{PlannedFile}
use Rattle.copy_plan.specs.Plan.{PlanValue}
use Rattle.digest_set.specs.Triple.{triple}
use Rattle.drive_journal.specs.declared.order.Listed.{Listed}
use Rattle.drive_journal.specs.declared.order.Order.{Order}
use Rattle.fresh_opening.specs.Orders.{start_at}
use Rattle.run_state.specs.Acts.{other_listed}
use Rattle.run_state.specs.Runs.{Point}
use Rattle.run_state.specs.State.{drive_at, is_gone}
use Rattle.offload_run.specs.declared.offload.Offload.{Offload}
use Rattle.offload_run.specs.Offload.{ordered_of}
use Rattle.run_steps.proofs.Drives.{file_at}
use Rattle.run_ends.specs.Known.{IsHonest}
use Rattle.run_ends.specs.Whole.{AreSound}
use Rattle.true_start.specs.Sound.{IsSoundOrder}
use Rattle.true_start.specs.Starts.{StartsTruly}
use Rattle.true_start.proofs.OfCard.{there_sized, within}
use Rattle.true_start.proofs.Starting.{not_gone, gone_or, stands}

-- a file at a place of a list is one of its files
contains_at : (files : List PlannedFile) (i : ℕ) (f : PlannedFile) → slice_get files i ≡ Some f → Contains files f
contains_at files i f is = let at = file_at files i f is in subst (λ (l : List PlannedFile). Contains l f) (sym at.is) (within at.before f at.after)

module _ (order : Order) (run : Offload) (a : Point) (s : StartsTruly order run a) (card : Map) (h : IsSoundOrder order card a.world) where
  planned : (i : ℕ) (file : PlannedFile) → slice_get (ordered_of run).plan.files i ≡ Some file → slice_get order.plan.files i ≡ Some file
  planned i file is = ap (λ (p : PlanValue). slice_get p.files i) (sym s.of.plan) ∙ is

  sized : (i : ℕ) (file : PlannedFile) → slice_get (ordered_of run).plan.files i ≡ Some file → length (content card file.path) ≡ file.size
  sized i file is = sym (there_sized (get card file.path) file.size (s.true_order.card card h.steady file (contains_at order.plan.files i file (planned i file is)))).1

  agree : (i : ℕ) (file : PlannedFile) → slice_get (ordered_of run).plan.files i ≡ Some file → other_listed (ordered_of run).listed i (triple (content card file.path)) ≡ None
  agree i file is = ap (λ (l : Option (Vec Listed Global)). other_listed (option_map (λ all. all.items) l) i (triple (content card file.path))) s.of.listed ∙ h.agree i file (planned i file is)

  honest : (d : ℕ) → is_gone (drive_at a.at.drives.each d) ≡ false → IsHonest a.world d
  honest d there = h.honest d (gone_or (start_at order.drives.items d) (ap is_gone (sym (stands order run a s d)) ∙ there))

  pub are_sound : AreSound (ordered_of run) a card
  are_sound = record {
    steady = subst (λ (k : ℕ). Steady a.world k card) (sym s.of.source) h.steady;
    sizes = sized;
    agree = agree;
    honest = honest;
    some = (h.some.0, ap is_gone (stands order run a s h.some.0) ∙ not_gone (start_at order.drives.items h.some.0) h.some.1);
  }
