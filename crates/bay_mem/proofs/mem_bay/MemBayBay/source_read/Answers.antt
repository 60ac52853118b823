use Rattle.std.proofs.Common.{refl, ◌∙◌, inl, inr, ap, length}
use Rattle.std.specs.Prelude.{None, Ok, Err}
use Rattle.bay_core.specs.declared.event.Event.TheVariants.{SourceRead}
use Rattle.bay_core.specs.Replay.{Source}
use Rattle.bay_core.specs.Went.{CardReadCall}
use Rattle.bay_mem.specs.Failing.{BayState}
use Rattle.bay_mem.proofs.Worlds.{noted_as, failed_from}
use Rattle.bay_mem.proofs.mem_bay.MemBayBay.source_read.Goals as goal

pub returns-in-Some-clause-called : goal.returns-in-Some-clause-called
returns-in-Some-clause-called c = noted_as _ _ _ (Source c.args.s) (CardReadCall c.args.s c.args.path.now c.args.at c.card_bytes.new.into (Ok c.in-Some.n)) c.in-Some.ensures.ok refl refl

pub returns-in-None-clause-called : goal.returns-in-None-clause-called
returns-in-None-clause-called c =
    failed_from _ _ _ (SourceRead c.args.s c.args.path.now c.args.at (length c.card_bytes.new.into) None) (Source c.args.s) (CardReadCall c.args.s c.args.path.now c.args.at c.card_bytes.new.into (Err (record {})))
    (ap (λ (b : BayState). b.seen) c.self.view_is ∙ c.in-None.ensures.none refl) refl (inl refl) (inr refl) c.fail_source_read-noted.ensures
