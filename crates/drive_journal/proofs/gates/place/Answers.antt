use Rattle.std.proofs.Common.{ℕ, ◌+◌, List, [], ◌∷◌, subst}
use Rattle.std.specs.Prelude.{is_ok}
use Rattle.bay_core.specs.Paths.{journal_path, part_path}
use Rattle.bay_core.specs.Went.{Tried, rename_call, write_call}
use Rattle.bay_core.proofs.Crashing.{sync_rests}
use Rattle.drive_journal.specs.Calls.{place_calls}
use Rattle.drive_journal.specs.Record.{closed_record}
use Rattle.drive_journal.specs.Steps.{HasPart, IsPlacing, IsPlaced}
use Rattle.drive_journal.proofs.Keeping.{tried_leaves, rests_so, rests_given, not_own, journal_own, part_own}
use Rattle.drive_journal.proofs.Placing.{placing_same, placing_keeps, placed}
use Rattle.drive_journal.proofs.gates.place.Goals as goal

tried : (g : _) (c : goal.After-put_in_place g) → Tried c.args.d (place_calls c.args.d c.args.gate.now.at c.args.path.now (closed_record c.args.rec.now)) (is_ok c.put_in_place.result) (g.B.Bay.world c.args.bay.now) (g.B.Bay.world c.put_in_place.new.bay)
tried g c =
    subst (λ (b : List ℕ). Tried c.args.d (place_calls c.args.d c.args.gate.now.at c.args.path.now b) (is_ok c.put_in_place.result) (g.B.Bay.world c.args.bay.now) (g.B.Bay.world c.put_in_place.new.bay)) c.record_bytes-bytes.ensures.code
    (subst (λ (p : List ℕ). Tried c.args.d (place_calls c.args.d c.args.gate.now.at p c.record_bytes-bytes.result) (is_ok c.put_in_place.result) (g.B.Bay.world c.args.bay.now) (g.B.Bay.world c.put_in_place.new.bay)) c.as_str.ensures.same c.put_in_place.ensures.tried)

pub returns-clause-crash : goal.returns-clause-crash
returns-clause-crash g c =
    let path = c.args.path.now in
    tried_leaves (IsPlacing c.args.gate.now.at path) c.args.d (place_calls c.args.d c.args.gate.now.at path (closed_record c.args.rec.now)) (tried g c) (placing_same c.args.gate.now.at path)
    (placing_keeps c.args.d c.args.gate.now.at path (closed_record c.args.rec.now) (not_own path journal_path journal_own c.requires.card_path))

pub returns-clause-rests : goal.returns-clause-rests
returns-clause-rests g c =
    let path = c.args.path.now in
    let rec = c.args.rec.now in
    rests_given c.args.d HasPart (IsPlaced c.args.gate.now.at path rec) c.put_in_place.result c.put_in_place.ensures.there
    (rests_so c.args.d HasPart _ (IsPlaced c.args.gate.now.at path rec)
    (λ R T has is. placed c.args.gate.now.at path rec (not_own path journal_path journal_own c.requires.card_path) (not_own path part_path part_own c.requires.card_path) c.record_bytes-bytes.ensures.size R T has is)
    (sync_rests c.args.d (rename_call c.args.d part_path path ∷ write_call c.args.d journal_path (c.args.gate.now.at + 1) (closed_record rec) ∷ []) (tried g c)))
