-- What is read of a drive once the parts of a list are written.
use Rattle.std.proofs.Common.{◌≡◌, ◌≢◌, inl, inr, ℕ, ◌+◌, ◌<◌, List, [], ◌∷◌, ◌++◌, length, refl, sym, ap, ◌∙◌, subst, arith, append_assoc, append-nil, length-append, zero-le}
use Rattle.std.specs.Prelude.{Option, Some, None, unwrap_or, Result, Ok, Err}
use Rattle.std.specs.FinMap.{get, insert}
use Rattle.std.proofs.lemmas.List.{drop_all}
use Rattle.bay_core.specs.declared.event.Event.{Event}
use Rattle.bay_core.specs.declared.event.Event.TheVariants.{DriveRead}
use Rattle.bay_core.specs.declared.event.DriveGot.TheVariants.{Failed}
use Rattle.bay_core.specs.Looks.{IsUntouched, read_call}
use Rattle.bay_core.specs.Map.{Map, content, overwritten}
use Rattle.bay_core.specs.Paths.{new_path}
use Rattle.bay_core.specs.Replay.{Drive, replayed}
use Rattle.bay_core.specs.Went.{AllOn, Only, sync_call}
use Rattle.bay_core.proofs.Looking.{tiles_look, one_look, read_looks, looks_append, looks_keep, untouched_append, untouched_none, untouched_one}
use Rattle.bay_core.proofs.Maps.{insert_here, insert_other}
use Rattle.crash_law.proofs.Calls.{all_ok}
use Rattle.drive_journal.proofs.Opening.{written_over}
use Rattle.read_back.specs.Back.{PiecesThen, PiecesFailed}
use Rattle.seal_step.specs.declared.error.SealError.{SealError}
use Rattle.seal_step.specs.declared.error.SealError.TheVariants.{DriveFailed, Absent, Byte, Length}
use Rattle.seal_step.specs.Parts.{joined, writes_from, drafting}
use Rattle.seal_step.specs.Reading.{BackCalls}

-- a piece right behind a file's end
written_end : (front piece : List ℕ) → overwritten front (length front) piece ≡ front ++ piece
written_end front piece =
    ap (λ (l : List ℕ). overwritten l (length front) piece) (sym (append-nil front)) ∙ written_over front [] piece
    ∙ ap (λ (l : List ℕ). front ++ (piece ++ l)) (drop_all (length piece) [] zero-le) ∙ ap (λ (l : List ℕ). front ++ l) (append-nil piece)

-- the writes of these parts from this place on, and the barrier
abbrev rest_of : ℕ → ℕ → List (List ℕ) → List Event
rest_of d at parts = all_ok (writes_from d at parts ++ sync_call d ∷ [])

content_after : (d : ℕ) (parts : List (List ℕ)) (m : Map) (at : ℕ) (front : List ℕ) → content m new_path ≡ front → at ≡ length front → content (replayed m (rest_of d at parts)) new_path ≡ front ++ joined parts
content_after d [] m at front has place = has ∙ sym (append-nil front)
content_after d (part ∷ parts) m at front has place =
    let next = insert m new_path (overwritten (content m new_path) at part) in
    let now : content next new_path ≡ front ++ part =
    ap (λ (o : Option (List ℕ)). unwrap_or o []) (insert_here m new_path (overwritten (content m new_path) at part))
    ∙ ap (λ (l : List ℕ). overwritten l at part) has ∙ ap (λ (k : ℕ). overwritten front k part) place ∙ written_end front part in
    content_after d parts next (at + length part) (front ++ part) now (ap (λ (k : ℕ). k + length part) place ∙ sym (length-append front part)) ∙ append_assoc front part (joined parts)

others_after : (d : ℕ) (parts : List (List ℕ)) (m : Map) (at : ℕ) (q : List ℕ) → q ≢ new_path → get (replayed m (rest_of d at parts)) q ≡ get m q
others_after d [] m at q off = refl
others_after d (part ∷ parts) m at q off =
    let next = insert m new_path (overwritten (content m new_path) at part) in
    others_after d parts next (at + length part) q off ∙ insert_other m new_path (overwritten (content m new_path) at part) q off

some_content : (m : Map) (text : List ℕ) → content m new_path ≡ text → 0 < length text → get m new_path ≡ Some text
some_content m text is some = by (get m new_path) refl
  where
    by : (o : Option (List ℕ)) → get m new_path ≡ o → get m new_path ≡ Some text
    by None none =
        let empty : [] ≡ text = sym (ap (λ (o : Option (List ℕ)). unwrap_or o []) none) ∙ is in
        let zero = ap (λ (l : List ℕ). length l) empty in
        absurd (omega (arith, zero, some))
    by (Some c) there = there ∙ ap Some (sym (ap (λ (o : Option (List ℕ)). unwrap_or o []) there) ∙ is)

module _ (d : ℕ) (parts : List (List ℕ)) (some : 0 < length (joined parts)) (m : Map) where
  -- the text waits for its name
  pub drafted : get m new_path ≡ None → get (replayed m (all_ok (drafting d parts))) new_path ≡ Some (joined parts)
  drafted none = some_content (replayed m (all_ok (drafting d parts))) (joined parts) (content_after d parts m 0 [] (ap (λ (o : Option (List ℕ)). unwrap_or o []) none) refl) some

  -- and nothing else is other
  pub drafted_others : (q : List ℕ) → q ≢ new_path → get (replayed m (all_ok (drafting d parts))) q ≡ get m q
  drafted_others q off = others_after d parts m 0 q off

on_writes : (d at : ℕ) (parts : List (List ℕ)) → AllOn (Only (Drive d)) (rest_of d at parts)
unfolding AllOn
on_writes d at [] = (refl, tt)
on_writes d at (part ∷ parts) = (refl, on_writes d (at + length part) parts)

pub drafting_on : (d : ℕ) (parts : List (List ℕ)) → AllOn (Only (Drive d)) (all_ok (drafting d parts))
drafting_on d parts = on_writes d 0 parts

-- ---- reading the list again changes nothing

then_keeps : (d : ℕ) (path : List ℕ) (size : ℕ) (bytes : List ℕ) (want : ℕ) (got : Option (List ℕ)) (calls : List Event) → PiecesThen d path size bytes want got calls → IsUntouched calls
then_keeps d path size bytes want got calls p =
    subst IsUntouched (sym p.is) (looks_keep _ (looks_append p.first (read_call d path (length bytes) want got ∷ []) (tiles_look d path 0 p.first p.pieces.tiles) (one_look _ (read_looks d path (length bytes) want got))))

failed_keeps : (d : ℕ) (path : List ℕ) (size : ℕ) (bytes : List ℕ) (calls : List Event) → PiecesFailed d path size bytes calls → IsUntouched calls
failed_keeps d path size bytes calls p =
    subst IsUntouched (sym p.is) (untouched_append p.first p.last (looks_keep _ (tiles_look d path 0 p.first p.pieces.tiles)) (elim p.failed [
      | inl none ↦ subst IsUntouched (sym none) untouched_none
      | inr one ↦ subst IsUntouched (sym one.2) (untouched_one (DriveRead d path (length bytes) one.0 Failed) refl)
    ]))

pub back_keeps : (d : ℕ) (text : List ℕ) (result : Result Unit SealError) (calls : List Event) → BackCalls d text result calls → IsUntouched calls
back_keeps d text (Ok done) calls c = then_keeps d new_path (length text) text 1 (Some []) calls c.1
back_keeps d text (Err DriveFailed) calls (front, is, c) = failed_keeps d new_path (length text) front calls c
back_keeps d text (Err Absent) calls (front, is, c) = then_keeps d new_path (length text) front c.0 None calls c.1
back_keeps d text (Err (Length written read)) calls (same, (front, is, inl short)) = then_keeps d new_path (length text) front short.2 (Some []) calls short.3
back_keeps d text (Err (Length written read)) calls (same, (front, is, inr long)) = then_keeps d new_path (length text) front 1 _ calls long.3
back_keeps d text (Err (Byte at written read)) calls (front, is, c) = then_keeps d new_path (length text) front c.0 (Some c.1) calls c.3
