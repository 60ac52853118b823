use Rattle.std.proofs.Common.{◌≡◌, ◌∙◌, length, rules}
use Rattle.std.specs.Prelude.{is_ok}
use Rattle.offload_run.proofs.Acting.{first_gate, fresh_aloud}
use Rattle.offload_run.proofs.offload.Offload.begin_fresh.Goals as goal

pub returns-clause-acted : goal.returns-clause-acted
returns-clause-acted g c =
    let long : c.len.result ≡ length c.args.self.now.journal.items = search rules in
    fresh_aloud _ _ _ _ c.deref.result.now _ _ c.is_ok-begun.result (is_ok c.begin_on.result) _ _ _ (c.deref.ensures.value ∙ c.requires.stocked.journal_is) c.requires.none (first_gate _ _ c.len.result long c.requires.stocked.journal_is) c.is_ok-begun.ensures.value
    c.begin_on.ensures.tried c.begin_on.ensures.begins c.begin_on.ensures.cleared c.settle_begin.ensures.stands c.settle_begin.ensures.said
