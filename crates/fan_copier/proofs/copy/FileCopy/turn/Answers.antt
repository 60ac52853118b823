use Rattle.std.proofs.Common.{subst, inr, true, false, [], ap, sym, refl, ◌∙◌}
use Rattle.bay_core.proofs.Runs.{went_on, went_such}
use Rattle.fan_core.specs.Flags.{lowest}
use Rattle.fan_core.proofs.Rules.{lowest_has}
use Rattle.fan_copier.specs.Standing.{Standing}
use Rattle.fan_copier.proofs.Leaving.{piece_copy, copy_leaves}
use Rattle.fan_copier.specs.declared.ring.Ring.{Ring}
use Rattle.fan_copier.specs.Ring.{Owns}
use Rattle.fan_copier.proofs.Turns.{turn_piece, turn_piece_lost, nearer_piece, nearer_piece_lost, untouched, some_number}
use Rattle.fan_copier.proofs.Growing.{has_as}
use Rattle.fan_copier.proofs.copy.FileCopy.turn.Goals as goal

pub returns-then-is_none-clause-touches : goal.returns-then-is_none-clause-touches
returns-then-is_none-clause-touches g c = untouched c.args.self.now.source c.args.path.now c.args.self.now.window.counts.live _

pub returns-then-is_none-clause-leaves : goal.returns-then-is_none-clause-leaves
returns-then-is_none-clause-leaves g c = λ d. copy_leaves c.args.self.now.source c.args.path.now d (untouched c.args.self.now.source c.args.path.now c.args.self.now.window.counts.live _)

pub write_piece-requires-clause-todo : goal.write_piece-requires-clause-todo
write_piece-requires-clause-todo g c = lowest_has c.args.self.now.pieces c.in-Some.d (sym c.in-Some.ensures.lowest)

pub write_piece-requires-clause-drive : goal.write_piece-requires-clause-drive
write_piece-requires-clause-drive g c = c.requires.drives c.in-Some.d (c.args.self.now.keeps.pieces_live c.in-Some.d (lowest_has c.args.self.now.pieces c.in-Some.d (sym c.in-Some.ensures.lowest)))

pub act-requires-clause-live : goal.act-requires-clause-live
act-requires-clause-live g c =
    let some = some_number c.lowest.result c.if-is_none.ensures in
    (some.0, lowest_has c.args.self.now.window.counts.live some.0 (sym (c.lowest.ensures.lowest ∙ ap lowest c.live.ensures) ∙ some.1))

pub returns-in-Ok-clause-nearer : goal.returns-in-Ok-clause-nearer
returns-in-Ok-clause-nearer g c =
    let s = c.args.self.now in
    nearer_piece c.args.path.now s c.write_piece.new.self c.args.pool.now [] 0 c.in-Some.d (sym c.in-Some.ensures.lowest) (c.in-Ok.ensures.ok refl)

pub returns-in-Ok-clause-touches : goal.returns-in-Ok-clause-touches
returns-in-Ok-clause-touches g c =
    let s = c.args.self.now in
    let live = s.keeps.pieces_live c.in-Some.d (lowest_has s.pieces c.in-Some.d (sym c.in-Some.ensures.lowest)) in
    went_such (λ L t. piece_copy s.source c.args.path.now true c.in-Some.d L t) (went_on (λ x is. inr (inr (c.in-Some.d, live, is))) c.in-Ok.ensures.tried.went)

pub returns-in-Ok-clause-leaves : goal.returns-in-Ok-clause-leaves
returns-in-Ok-clause-leaves g c = λ d. copy_leaves c.args.self.now.source c.args.path.now d (went_such (λ L t. piece_copy c.args.self.now.source c.args.path.now true c.in-Some.d L t) c.in-Ok.ensures.tried.went)

pub returns-in-Ok-clause-turned : goal.returns-in-Ok-clause-turned
returns-in-Ok-clause-turned g c = λ d live xs copying.
    let s = c.args.self.now in
    turn_piece c.args.path.now s c.write_piece.new.self c.args.pool.now xs 0 c.in-Some.d (sym c.in-Some.ensures.lowest) c.in-Ok.ensures.tried c.in-Ok.ensures.same.1 (c.in-Ok.ensures.ok refl) copying (has_as s c.write_piece.new.self c.args.pool.now xs c.in-Ok.ensures.same.1 c.in-Ok.ensures.same.2 c.in-Ok.ensures.same.3 (ap (λ (st : Standing). st.counts.read) (c.in-Ok.ensures.ok refl)) (ap (λ (st : Standing). st.counts.slots) (c.in-Ok.ensures.ok refl)) copying.has) (subst (λ (r : Ring). Owns r.slots c.args.pool.now) (sym c.in-Ok.ensures.same.2) c.requires.owns)

pub returns-in-Err-clause-go_on : goal.returns-in-Err-clause-go_on
returns-in-Err-clause-go_on g c =
    let s = c.args.self.now in
    (s.keeps.pieces_live c.in-Some.d (lowest_has s.pieces c.in-Some.d (sym c.in-Some.ensures.lowest)), ap (λ (st : Standing). st.counts.live) (c.in-Err.ensures.dropped refl))

pub returns-in-Err-clause-nearer : goal.returns-in-Err-clause-nearer
returns-in-Err-clause-nearer g c =
    let s = c.args.self.now in
    nearer_piece_lost c.args.path.now s c.write_piece.new.self c.args.pool.now [] 0 c.in-Some.d (sym c.in-Some.ensures.lowest) (c.in-Err.ensures.dropped refl)

pub returns-in-Err-clause-touches : goal.returns-in-Err-clause-touches
returns-in-Err-clause-touches g c =
    let s = c.args.self.now in
    let live = s.keeps.pieces_live c.in-Some.d (lowest_has s.pieces c.in-Some.d (sym c.in-Some.ensures.lowest)) in
    went_such (λ L t. piece_copy s.source c.args.path.now false c.in-Some.d L t) (went_on (λ x is. inr (inr (c.in-Some.d, live, is))) c.in-Err.ensures.tried.went)

pub returns-in-Err-clause-leaves : goal.returns-in-Err-clause-leaves
returns-in-Err-clause-leaves g c = λ d. copy_leaves c.args.self.now.source c.args.path.now d (went_such (λ L t. piece_copy c.args.self.now.source c.args.path.now false c.in-Some.d L t) c.in-Err.ensures.tried.went)

pub returns-in-Err-clause-turned : goal.returns-in-Err-clause-turned
returns-in-Err-clause-turned g c = λ d live xs copying.
    let s = c.args.self.now in
    turn_piece_lost c.args.path.now s c.write_piece.new.self c.args.pool.now xs 0 c.in-Some.d (sym c.in-Some.ensures.lowest) c.in-Err.ensures.tried c.in-Err.ensures.same.1 (c.in-Err.ensures.dropped refl) copying (has_as s c.write_piece.new.self c.args.pool.now xs c.in-Err.ensures.same.1 c.in-Err.ensures.same.2 c.in-Err.ensures.same.3 (ap (λ (st : Standing). st.counts.read) (c.in-Err.ensures.dropped refl)) (ap (λ (st : Standing). st.counts.slots) (c.in-Err.ensures.dropped refl)) copying.has) (subst (λ (r : Ring). Owns r.slots c.args.pool.now) (sym c.in-Err.ensures.same.2) c.requires.owns)

pub returns-in-None-clause-leaves : goal.returns-in-None-clause-leaves
returns-in-None-clause-leaves g c = λ d. copy_leaves c.args.self.now.source c.as_str.result.now d c.act.ensures.touches
