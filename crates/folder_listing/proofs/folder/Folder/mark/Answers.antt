use Rattle.std.proofs.Common.{rules, sym, ◌∙◌, ap, true}
use Rattle.std.specs.Prelude.{Some, string_cmp, string_bytes}
use Rattle.std.specs.BTreeMap.{UpdatesBy}
use Rattle.std.specs.Ordering.{nat_cmp}
use Rattle.std.specs.Cmp.Lexicographic.{slice_cmp}
use Rattle.folder_listing.specs.declared.folder.Folder.TheInside.{Inside}
use Rattle.folder_listing.specs.declared.folder.Seen.{Seen}
use Rattle.folder_listing.proofs.Trees.{marked_there, marked_nowhere, marks_seen}
use Rattle.folder_listing.proofs.folder.Folder.mark.Goals as goal
use Rattle.folder_listing.proofs.folder.Folder.mark.Goals.{in-Some, in_default}

pub returns : goal.returns
returns c =
    let path = c.args.path.now in
    let old = c.self.inside.files in
    let new = c.match-get_mut.self-inside.files in
    elim c.match-get_mut.branch [
      | in-Some w ↦
          let v = w.in-Some.file.now in
          let marked : Seen = record { size = v.size; marked = true } in
          let written = c.get_mut.follows.lender marked in
          let updates : UpdatesBy string_cmp (λ k. slice_cmp nat_cmp path (string_bytes k)) old written (Some marked) = (c.get_mut.follows.holds marked).3 (search rules) in
          marks_seen path old written new _ c.self.view_is (ap (λ (s : Inside). s.files) w.self-inside-is) (marked_there old written path v (sym w.in-Some.ensures.value) updates)
      | in_default w ↦
          marks_seen path old old new _ c.self.view_is (ap (λ (s : Inside). s.files) w.self-inside-is ∙ c.get_mut.follows.holds-at-none) (marked_nowhere old path (sym w.in_default.ensures.value))
    ]
