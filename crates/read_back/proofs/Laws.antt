-- What follows of a copy that was read again.
use Rattle.std.proofs.Common.{◌≡◌, List, [], ◌∷◌, length, refl, sym, ◌∙◌, ap, subst, ℕ, inl, inr}
use Rattle.std.specs.Prelude.{Option, Some, Result, Ok, Err}
use Rattle.std.proofs.lemmas.Bool.{eq-eqb}
use Rattle.bay_core.specs.declared.event.Event.{Event}
use Rattle.bay_core.specs.declared.event.Event.TheVariants.{DriveRead}
use Rattle.bay_core.specs.declared.event.DriveGot.TheVariants.{Failed}
use Rattle.bay_core.specs.Map.{Map}
use Rattle.bay_core.specs.Replay.{Drive, reads}
use Rattle.bay_core.specs.World.{World, Honest}
use Rattle.bay_core.specs.Looks.{read_call, IsUntouched, Stops}
use Rattle.bay_core.proofs.Runs.{went_such, told_since}
use Rattle.bay_core.proofs.Honesty.{honest_before}
use Rattle.bay_core.proofs.Looking.{tiles_look, one_look, read_looks, looks_append, looks_keep, stops_keep, reads_kept}
use Rattle.digest_set.specs.declared.triple.Triple.{Triple}
use Rattle.file_reading.specs.Reads.{Halted}
use Rattle.read_back.specs.declared.back.ReadBackError.{ReadBackError}
use Rattle.read_back.specs.declared.back.ReadBackError.TheVariants.{DriveFailed, Absent, Length, Differs}
use Rattle.read_back.specs.Back.{PiecesThen, PiecesFailed, ReadBackCalls, ReadBack}

-- pieces and then a failed read are looks that stopped
failed_stops : (d : ℕ) (path : List ℕ) (size : ℕ) (bytes : List ℕ) (calls : List Event) → PiecesFailed d path size bytes calls → Stops (Some (Drive d)) calls
failed_stops d path size bytes calls p = record {
  looks = p.first;
  last = p.last;
  is = p.is;
  answered = tiles_look d path 0 p.first p.pieces.tiles;
  failed = elim p.failed [ inl none ↦ inl none | inr one ↦ inr (DriveRead d path (length bytes) one.0 Failed, one.2, eq-eqb d d refl) ];
}

-- where a call failed, the run halted there
pub back_halted : (d : ℕ) (path : List ℕ) (size : ℕ) (t : Triple) (old new : World) → ReadBack d path size t (Err DriveFailed) old new → Halted d (Some (Drive d)) old new
back_halted d path size t old new r = record { went = went_such (λ L p. failed_stops d path size r.bytes L p) r.went; cause = r.cause refl }

then_keeps : (d : ℕ) (path : List ℕ) (size : ℕ) (bytes : List ℕ) (want : ℕ) (got : Option (List ℕ)) (calls : List Event) → PiecesThen d path size bytes want got calls → IsUntouched calls
then_keeps d path size bytes want got calls p =
    subst IsUntouched (sym p.is) (looks_keep _ (looks_append p.first (read_call d path (length bytes) want got ∷ []) (tiles_look d path 0 p.first p.pieces.tiles) (one_look _ (read_looks d path (length bytes) want got))))

-- the calls change nothing
pub back_keeps : (d : ℕ) (path : List ℕ) (size : ℕ) (t : Triple) (result : Result Unit ReadBackError) (bytes : List ℕ) (calls : List Event) → ReadBackCalls d path size t result bytes calls → IsUntouched calls
back_keeps d path size t (Ok done) bytes calls c = then_keeps d path size bytes 1 (Some []) calls c.0.1
back_keeps d path size t (Err DriveFailed) bytes calls c = stops_keep (Some (Drive d)) calls (failed_stops d path size bytes calls c)
back_keeps d path size t (Err Absent) bytes calls c = then_keeps d path size bytes c.0 _ calls c.1
back_keeps d path size t (Err (Length recorded read)) bytes calls (is, inl short) = then_keeps d path size bytes short.2 (Some []) calls short.3
back_keeps d path size t (Err (Length recorded read)) bytes calls (is, inr long) = then_keeps d path size bytes 1 _ calls long.3
back_keeps d path size t (Err (Differs recorded read)) bytes calls c = then_keeps d path size bytes 1 (Some []) calls c.0.1

-- before it an honest drive was honest, with the same map
pub back_before : (d : ℕ) (path : List ℕ) (size : ℕ) (t : Triple) (result : Result Unit ReadBackError) (old new : World) → ReadBack d path size t result old new
    → (m : Map) (L : List Event) → Honest new d m L → (before : List Event) × Honest old d m before × (reads m L d ≡ reads m before d)
back_before d path size t result old new r m L h =
    let b = honest_before d m L r.went h in
    let told = told_since r.went b.0 L b.1.events h.events in
    (b.0, b.1, ap (λ K. reads m K d) told.is ∙ reads_kept m b.0 told.since d (back_keeps d path size t result r.bytes told.since told.such))
