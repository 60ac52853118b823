use Rattle.std.proofs.Common.{◌≡◌, ◌<◌, sym, ◌∙◌, arith}
use Rattle.std.specs.FinMap.{get}
use Rattle.std.proofs.lemmas.Option.{same_Some}
use Rattle.folder_listing.specs.Listing.{sizes_in}
use Rattle.occupied_paths.proofs.Occupying.{next_decided, later_decided, fresh_decided}
use Rattle.occupied_paths.proofs.occupied.is_occupied.Goals as goal
use Rattle.occupied_paths.proofs.occupied.is_occupied.Goals.{in_default-via-in-Some-2+else-number-next-2, in_default-via-in_default}

pub returns-in-Some-2 : goal.returns-in-Some-2
returns-in-Some-2 c =
    next_decided (get (sizes_in c.args.folder.now)) c.args.records c.in-Some-2.next c.args.number c.args.path.now c.as_str-path.result.now c.is_crossed.result
    c.in-Some-2.is c.if-number-next-2.true c.as_str-path.ensures.same c.is_crossed.ensures

pub returns-in_default : goal.returns-in_default
returns-in_default c =
    elim c.in_default.branch [
      | in_default-via-in-Some-2+else-number-next-2 w ↦
          let one : w.in-Some.next ≡ w.in-Some-2.next = same_Some w.in-Some.next w.in-Some-2.next (sym w.in-Some.is ∙ w.in-Some-2.is) in
          let behind : w.in-Some.next < c.args.number = omega arith in
          later_decided (get (sizes_in c.args.folder.now)) c.args.records w.in-Some.next c.args.number c.args.path.now c.as_str-path.result.now c.is_taken.result
          w.in-Some.is behind c.as_str-path.ensures.same c.is_taken.ensures
      | in_default-via-in_default w ↦
          fresh_decided (get (sizes_in c.args.folder.now)) c.args.records c.args.number c.args.path.now c.as_str-path.result.now c.is_taken.result
          w.in_default.is c.as_str-path.ensures.same c.is_taken.ensures
    ]
