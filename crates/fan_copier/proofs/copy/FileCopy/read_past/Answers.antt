use Rattle.std.proofs.Common.{arith}
use Rattle.fan_copier.proofs.Pasts.{past_cut, past_none, past_byte}
use Rattle.fan_copier.proofs.copy.FileCopy.read_past.Goals as goal

pub returns-in_err-n-clause-called : goal.returns-in_err-n-clause-called
returns-in_err-n-clause-called g c = past_cut c.args.self.now.source c.args.path.now c.args.self.now.size c.source_read.new.into _ c.from_residual.result _ (omega arith) c.from_residual.ensures.1 c.in_err-n.ensures.called

pub returns-then-n-eq0-clause-called : goal.returns-then-n-eq0-clause-called
returns-then-n-eq0-clause-called g c = past_none c.args.self.now.source c.args.path.now c.args.self.now.size c.in_ok-n.n c.source_read.new.into c.if-n-eq0.true (omega arith) c.in_ok-n.ensures.called

pub returns-else-n-eq0-clause-called : goal.returns-else-n-eq0-clause-called
returns-else-n-eq0-clause-called g c = past_byte c.args.self.now.source c.args.path.now c.args.self.now.size c.in_ok-n.n c.source_read.new.into (omega (arith, c.if-n-eq0.false)) (omega arith) c.in_ok-n.ensures.called
