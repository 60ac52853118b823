use Rattle.std.proofs.Common.{refl, arith, subst, map, List}
use Rattle.std.proofs.lemmas.List.{take_all}
use Rattle.folder_listing.specs.Listing.{sizes_in, IsMarkedAt}
use Rattle.folder_listing.proofs.Marked.{marked_at_none, marked_at_turn}
use Rattle.mhl_writer.specs.declared.values.HashEntry.{HashEntry}
use Rattle.verify_run.proofs.verifying.mark_listed.Goals as goal

pub loop-entry-init : goal.loop-entry-init
loop-entry-init c = marked_at_none _ _ refl c.requires

pub loop-entry-preserved : goal.loop-entry-preserved
loop-entry-preserved c = marked_at_turn (λ (e : HashEntry). e.path) c.args.entries.now c.loop-entry.entry-index c.entry-item.result _ _ _ _ (omega arith) c.entry-item.is c.as_str.ensures.same c.loop-entry.invariant c.mark.ensures

pub returns : goal.returns
returns c = subst (λ (es : List HashEntry). IsMarkedAt (sizes_in c.args.folder.now) (map (λ e. e.path) es) c.loop-entry.folder) (take_all _ _ (omega arith)) c.loop-entry.invariant
