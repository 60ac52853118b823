use Rattle.std.proofs.Common.{◌≡◌, ℕ, List, length, take, drop, arith, sym, subst}
use Rattle.std.specs.Prelude.{IfOk}
use Rattle.std.proofs.lemmas.List.{length-take-le}
use Rattle.bay_core.specs.Paths.{part_path}
use Rattle.fan_copier.specs.Reads.{OnDrive, AreOn}
use Rattle.fan_copier.proofs.Reading.{gather_same, front_part}
use Rattle.fan_copier.proofs.blocks.read_part.Goals as goal

pub returns-clause-called : goal.returns-clause-called
returns-clause-called g c =
    let size : length c.gather_drive.new.into ≡ c.args.len = omega (arith, length-take-le c.args.len c.args.block.now c.requires.len) in
    gather_same (OnDrive c.args.d part_path) c.args.at c.gather_drive.new.into _ c.gather_drive.result _ (front_part c.args.len c.gather_drive.new.into (drop c.args.len c.args.block.now) size) c.gather_drive.ensures.called

pub returns-clause-honest : goal.returns-clause-honest
returns-clause-honest g c =
    let size : length c.gather_drive.new.into ≡ c.args.len = omega (arith, length-take-le c.args.len c.args.block.now c.requires.len) in
    subst (λ (l : List ℕ). IfOk c.gather_drive.result (λ n. AreOn c.args.d part_path c.args.at (take n l) (g.B.Bay.world c.gather_drive.new.bay)))
    (sym (front_part c.args.len c.gather_drive.new.into (drop c.args.len c.args.block.now) size)) c.gather_drive.ensures.honest
