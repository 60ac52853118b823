use Rattle.std.proofs.Common.{sym, ap, ◌∙◌, ◌&&◌, nat_lt, slice_index, Bool}
use Rattle.fan_core.proofs.Keeps.{has-waiting}
use Rattle.fan_core.proofs.window.Window.is_waiting.Goals as goal

pub returns-then-has : goal.returns-then-has
returns-then-has c =
    let counts = c.args.self.now.counts in
    sym (has-waiting counts c.args.self.now.keeps c.args.d ∙ ap (λ (live : Bool). live && nat_lt (slice_index counts.written c.args.d) counts.read) (sym c.has.ensures.is ∙ c.if-has.true))

pub returns-else-has : goal.returns-else-has
returns-else-has c =
    let counts = c.args.self.now.counts in
    c.if-has.false ∙ sym (has-waiting counts c.args.self.now.keeps c.args.d ∙ ap (λ (live : Bool). live && nat_lt (slice_index counts.written c.args.d) counts.read) (sym c.has.ensures.is ∙ c.if-has.false))
