use Rattle.std.proofs.Common.{◌≡◌, arith, List, subst}
use Rattle.std.specs.Prelude.{None, bytes_eq}
use Rattle.std.specs.Map.{lookup}
use Rattle.std.proofs.lemmas.List.{take_all}
use Rattle.bay_core.specs.declared.event.FileInfo.{FileInfo}
use Rattle.bay_core.specs.Map.{sizes}
use Rattle.file_reading.proofs.Sizes.{size_none, size_found, size_absent}
use Rattle.file_reading.proofs.listed.listed_size.Goals as goal

pub returns-then-eq : goal.returns-then-eq
returns-then-eq c = size_found c.args.path.now c.args.files.now c.loop-file.file-index c.file-item.result _ _ (omega arith) c.file-item.is c.as_str.ensures c.eq.ensures c.if-eq.true c.loop-file.invariant

pub loop-file-preserved : goal.loop-file-preserved
loop-file-preserved c = size_none c.args.path.now c.args.files.now c.loop-file.file-index c.file-item.result _ _ (omega arith) c.file-item.is c.as_str.ensures c.eq.ensures c.if-eq.false c.loop-file.invariant

pub returns : goal.returns
returns c = size_absent c.args.path.now c.args.files.now (subst (λ (l : List FileInfo). lookup (bytes_eq c.args.path.now) (sizes l) ≡ None) (take_all _ _ (omega arith)) c.loop-file.invariant)
