use Rattle.std.proofs.Common.{◌≡◌, refl, inl, inr, ap}
use Rattle.std.specs.Prelude.{None, Some, Ok, Err}
use Rattle.bay_core.specs.declared.event.Event.TheVariants.{SourceList}
use Rattle.bay_core.specs.declared.failed.ListError.TheVariants.{Failed}
use Rattle.bay_core.specs.Replay.{Source}
use Rattle.bay_core.specs.Went.{CardListCall}
use Rattle.bay_mem.specs.State.{noted}
use Rattle.bay_mem.specs.Failing.{BayState}
use Rattle.bay_mem.proofs.Worlds.{noted_from, still_from, listed_so, unlisted_so, failed_from}
use Rattle.bay_mem.proofs.mem_bay.MemBayBay.source_list.Goals as goal

pub returns-then-strikes-clause-called : goal.returns-then-strikes-clause-called
returns-then-strikes-clause-called c = failed_from _ _ _ (SourceList c.args.s None) (Source c.args.s) (CardListCall c.args.s (Err Failed)) (ap (λ (b : BayState). b.seen) c.self.view_is) refl (inl refl) (inr refl) c.fail_source_list-noted.ensures

pub returns-clause-called : goal.returns-clause-called
returns-clause-called c =
    noted_from _ _ _ (SourceList c.args.s (Some c.in-Ok.files.items)) (Source c.args.s) (CardListCall c.args.s (Ok c.in-Ok.files)) (ap (λ (b : BayState). b.seen) c.self.view_is)
    (listed_so (λ files. c.try_source_list-outcome.new.world ≡ noted c.self.inside.world (SourceList c.args.s (Some files.items))) _ c.in-Ok.files c.in-Ok.ensures.same c.try_source_list-outcome.ensures.ok) refl refl

pub returns-in_default-clause-called : goal.returns-in_default-clause-called
returns-in_default-clause-called c =
    still_from _ _ _ (Source c.args.s) (ap (λ (b : BayState). b.seen) c.self.view_is)
    (unlisted_so (c.try_source_list-outcome.new.world ≡ c.self.inside.world) _ c.in_default.field-0 c.in_default.ensures.same c.try_source_list-outcome.ensures.err)
