use Rattle.std.proofs.Common.{◌≡◌, rules, sym, ap, ◌∙◌}
use Rattle.std.proofs.lemmas.Iterator.Adapters.{YieldsList-from_vec}
use Rattle.std.proofs.lemmas.Iterator.Consumers.{YieldsList-end}
use Rattle.std.proofs.lemmas.List.{map-id}
use Rattle.folder_listing.specs.Listing.{listing}
use Rattle.folder_listing.proofs.Trees.{noted_more, listed_sizes, listed_unmarked}
use Rattle.folder_listing.proofs.folder.Folder.of_files.Goals as goal

pub loop-file-preserved : goal.loop-file-preserved
loop-file-preserved c = noted_more c.loop-file.seen c.note.new.files c.loop-file.yielded c.in-Some.file _ c.into_string.ensures c.loop-file.invariant c.in_ok-note.ensures

pub returns-clause-sizes : goal.returns-clause-sizes
returns-clause-sizes c =
    let end = YieldsList-end (YieldsList-from_vec {s = c.into_iter-file-iterator.result} c.args.files.items (search rules) (search rules))
    c.loop-file.yielded c.loop-file.file-iterator c.loop-file.yielded_by c.next.result c.next.new.self c.in-None.is c.next.ensures.steps in
    let all : c.loop-file.yielded ≡ c.args.files.items = sym (map-id c.loop-file.yielded) ∙ end.0 in
    listed_sizes c.loop-file.seen c.loop-file.yielded c.loop-file.invariant ∙ ap listing all

pub returns-clause-unmarked : goal.returns-clause-unmarked
returns-clause-unmarked c = listed_unmarked c.loop-file.seen c.loop-file.yielded c.loop-file.invariant
