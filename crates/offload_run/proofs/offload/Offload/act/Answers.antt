use Rattle.std.proofs.Common.{sym, ap, subst, arith}
use Rattle.std.proofs.lemmas.List.{length-map}
use Rattle.fan_copier.specs.Ring.{taken}
use Rattle.run_state.specs.declared.phase.Phase.{Phase}
use Rattle.run_state.specs.declared.phase.Phase.TheVariants.{Begins}
use Rattle.run_state.specs.Rules.{Fits, slots_in}
use Rattle.run_state.specs.State.{at_of}
use Rattle.run_state.specs.Turn.{Acted}
use Rattle.offload_run.specs.Offload.{ordered_of, drives_of, stands_at}
use Rattle.offload_run.proofs.Nearing.{begin_nearer, begin_none, left_of}
use Rattle.offload_run.proofs.Slots.{owns_none, pool_idle}
use Rattle.offload_run.proofs.offload.Offload.act.Goals as goal

-- ---- a drive is begun

pub begin_drive-requires-clause-there : goal.begin_drive-requires-clause-there
begin_drive-requires-clause-there g c =
    let f : Fits (ordered_of c.args.self.now) (drives_of c.args.self.now).each (Begins c.in-Begins.d) = subst (λ (x : Phase). Fits (ordered_of c.args.self.now) (drives_of c.args.self.now).each x) (sym c.in-Begins.ensures.value) c.requires.keeps.fits in
    let low = f.0 in
    let long = length-map c.args.self.now.drives.items at_of in
    omega (arith, low, long)

pub returns-in-Begins-clause-pool : goal.returns-in-Begins-clause-pool
returns-in-Begins-clause-pool g c =
    let none = begin_none _ _ _ _ _ _ _ c.begin_drive.ensures.acted in
    pool_idle _ _ _ (ap slots_in (sym c.in-Begins.ensures.value)) (owns_none _ _ none) (ap taken none)

pub returns-in-Begins-clause-nearer : goal.returns-in-Begins-clause-nearer
returns-in-Begins-clause-nearer g c = λ on.
    let f : Fits (ordered_of c.args.self.now) (drives_of c.args.self.now).each (Begins c.in-Begins.d) = subst (λ (x : Phase). Fits (ordered_of c.args.self.now) (drives_of c.args.self.now).each x) (sym c.in-Begins.ensures.value) c.requires.keeps.fits in
    left_of _ _ _ _ _ _ _ c.begin_drive.ensures.same c.in-Begins.ensures.value (begin_nearer _ _ _ _ _ _ _ f.0 c.begin_drive.ensures.acted on)

pub returns-in-Begins-clause-turned : goal.returns-in-Begins-clause-turned
returns-in-Begins-clause-turned g c =
    subst (λ (x : Phase). Acted (ordered_of c.args.self.now) x (stands_at c.args.self.now) (stands_at c.begin_drive.new.self) c.args.pool.now c.args.pool.now (g.B.Bay.world c.args.bay.now) (g.B.Bay.world c.begin_drive.new.bay)) c.in-Begins.ensures.value c.begin_drive.ensures.acted

-- ---- the drives of a file are chosen

pub returns-in-File-clause-pool : goal.returns-in-File-clause-pool
returns-in-File-clause-pool g c = pool_idle _ _ _ (ap slots_in (sym c.in-File.ensures.value)) (c.choose_drives.ensures.owns c.args.pool.now) c.choose_drives.ensures.none
