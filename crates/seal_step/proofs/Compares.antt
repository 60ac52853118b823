-- Pieces of a list that are read again, and what they come to.
use Rattle.std.proofs.Common.{◌≡◌, inl, inr, ℕ, false, ◌+◌, ◌-◌, ◌<◌, ◌≤◌, List, [], ◌∷◌, ◌++◌, length, take, drop, refl, sym, ◌∙◌, ap, subst, arith, length-append, add-one}
use Rattle.std.specs.Prelude.{Option, Some, None, Result, Ok, Err, MatchResult, slice_index}
use Rattle.std.specs.List.{AllByRecursion}
use Rattle.std.specs.FinMap.{get}
use Rattle.std.proofs.lemmas.List.{length-take, length-drop, take_all, get_or_append_left, get_or-append-add, take-append-le, take-append-drop, drop-drop, drop-append-le, take-take, get_or-take, get_or-drop}
use Rattle.std.proofs.Math.Seq.{take-suc, take-add, take-append-add}
use Rattle.bay_core.specs.declared.event.Event.{Event}
use Rattle.bay_core.specs.declared.event.Event.TheVariants.{DriveRead}
use Rattle.bay_core.specs.declared.event.DriveGot.TheVariants.{Failed}
use Rattle.bay_core.specs.declared.failed.Failed.{Failed as DeviceFailed}
use Rattle.bay_core.specs.Map.{Map}
use Rattle.bay_core.specs.Paths.{new_path}
use Rattle.bay_core.specs.Replay.{Drive, reads}
use Rattle.bay_core.specs.World.{World, Honest}
use Rattle.bay_core.specs.Went.{Went, Only, Called, ReadCall, MaySee}
use Rattle.bay_core.specs.Looks.{read_call}
use Rattle.bay_core.proofs.Runs.{went_then, went_such, went_none, rose_since}
use Rattle.bay_core.proofs.Looking.{exact_then, no_tiles, one_look, read_looks, looked_before}
use Rattle.file_reading.specs.Reads.{PieceRead}
use Rattle.file_reading.proofs.Pieces.{so_far_more, take_none, none_asked}
use Rattle.read_back.specs.Back.{IsPiece, Pieces, IsNext, PiecesThen, NextFailed}
use Rattle.seal_step.specs.declared.error.SealError.{SealError}
use Rattle.seal_step.specs.declared.error.SealError.TheVariants.{DriveFailed, Absent, Byte, Length}
use Rattle.seal_step.specs.Comparing.{NoPiece, NotEnded, IsOther, Compared, SameSoFar, Stands, place_of, BlockCompared, BlockBack}
use Rattle.seal_step.specs.declared.reading.Place.{Place}
use Rattle.seal_step.proofs.Texts.{stands_here}
use Rattle.seal_step.specs.Parts.{joined}
use Rattle.seal_step.specs.Reading.{IsFirstOther, ListBack}

-- ---- two pieces

-- one byte more is the same
pub take_step : (xs ys : List ℕ) (k : ℕ) → k < length xs → k < length ys → slice_index xs k ≡ slice_index ys k → take k xs ≡ take k ys → take (k + 1) xs ≡ take (k + 1) ys
take_step xs ys k in_xs in_ys here before =
    ap (λ n. take n xs) (add-one k) ∙ take-suc xs k 0 in_xs ∙ (λ i. before i ++ here i ∷ []) ∙ sym (take-suc ys k 0 in_ys) ∙ sym (ap (λ n. take n ys) (add-one k))

-- all bytes are the same
pub whole_same : (xs ys : List ℕ) (k : ℕ) → length xs ≤ k → length xs ≡ length ys → take k xs ≡ take k ys → xs ≡ ys
whole_same xs ys k all long same = sym (take_all k xs all) ∙ same ∙ take_all k ys (omega (arith, all, long))

-- ---- one read

pub read_failed : (d at want : ℕ) (into : List ℕ) {e : DeviceFailed} {old new : World} → length into ≡ want → Called (Drive d) (ReadCall d new_path at into (Err e)) false old new → Called (Drive d) (MaySee (DriveRead d new_path at want Failed)) false old new
read_failed d at want into {e} {old} {new} size c = subst (λ n. Called (Drive d) (MaySee (DriveRead d new_path at n Failed)) false old new) size c

-- ---- the pieces, one after another

each_push : (calls : List Event) (e : Event) → AllByRecursion IsPiece calls → IsPiece e → AllByRecursion IsPiece (calls ++ e ∷ [])
each_push [] e each here = (here, tt)
each_push (x ∷ calls) e each here = (each.0, each_push calls e each.1 here)

-- no piece yet
pub same_none : (d : ℕ) (text : List ℕ) (w : World) → SameSoFar d text 0 w w
same_none d text w = record {
  bytes = [];
  read = record {
    calls = [];
    went = went_none (Only (Drive d)) w;
    tiles = no_tiles d new_path 0;
    asked = none_asked (length text);
    gave = refl;
    honest = λ m L honest c there. sym (take_none c);
    there = λ m L honest some. absurd (omega arith);
  };
  each = tt;
  here = refl;
  same = sym (take_none text);
}

-- one piece more, as in the text
pub same_more : (d : ℕ) (text : List ℕ) (at want : ℕ) (piece : List ℕ) (old mid new : World) → SameSoFar d text at old mid → PieceRead d new_path at want (Some piece) mid new → 0 < length piece → at + want ≤ length text → piece ≡ take (length piece) (drop at text)
    → SameSoFar d text (at + length piece) old new
unfolding so_far_more
same_more d text at want piece old mid new s p some within is =
    let few = p.within in
    record {
      bytes = s.bytes ++ piece;
      read = so_far_more d new_path (length text) at want s.bytes (Some piece) old mid new s.read s.here within p;
      each = each_push s.read.calls (read_call d new_path at want (Some piece)) s.each (some, few);
      here = let here = s.here in omega (arith, here, length-append s.bytes piece);
      same = (λ i. s.same i ++ is i) ∙ sym (take-add at (length piece) text);
    }

module _ (d : ℕ) (text : List ℕ) (at : ℕ) (old mid new : World) (s : SameSoFar d text at old mid) where
  front_is : s.bytes ≡ take (length s.bytes) text
  front_is = s.same ∙ ap (λ n. take n text) s.here

  pieces : Pieces d new_path (length text) s.bytes s.read.calls
  pieces = record { tiles = s.read.tiles; each = s.each; asked = s.read.asked; gave = s.read.gave }

  -- the pieces, and then one read more
  pieces_then : (want : ℕ) (got : Option (List ℕ)) → PieceRead d new_path at want got mid new → IsNext (length text) at want → Went (Only (Drive d)) (PiecesThen d new_path (length text) s.bytes want got) old new
  pieces_then want got p next =
      went_such (λ L is. record {
        first = s.read.calls;
        is = is ∙ ap (λ n. s.read.calls ++ read_call d new_path n want got ∷ []) s.here;
        pieces = pieces;
        next = subst (λ n. IsNext (length text) n want) s.here next;
      }) (exact_then s.read.calls (read_call d new_path at want got ∷ []) s.read.went p.went)

  -- what an honest drive had before the last read
  text_before : (want : ℕ) (got : Option (List ℕ)) → PieceRead d new_path at want got mid new → (m : Map) (L : List Event) → Honest new d m L → get (reads m L d) new_path ≡ Some text →
      (before : List Event) × Honest mid d m before × (get (reads m before d) new_path ≡ Some text)
  text_before want got p m L h there =
      let b = looked_before d m L (read_call d new_path at want got ∷ []) (one_look _ (read_looks d new_path at want got)) p.went h in
      (b.before, b.honest, ap (λ (M : Map). get M new_path) (sym b.same) ∙ there)

  -- an honest drive that has the text answers a read for more of it with some of it
  pub gives_text : (want : ℕ) (piece : List ℕ) → PieceRead d new_path at want (Some piece) mid new → (m : Map) (L : List Event) → Honest new d m L → get (reads m L d) new_path ≡ Some text →
      (piece ≡ take (length piece) (drop at text)) × (piece ≡ [] → 0 < want → length text ≤ at)
  gives_text want piece p m L h there =
      let b = text_before want (Some piece) p m L h there in
      let r = p.honest m b.0 b.1 text b.2 in
      (r.0, λ none some. elim (r.1 none) [ inl zero ↦ absurd (omega arith) | inr end ↦ end ])

  next_failed : (want : ℕ) (last : List Event) → IsNext (length text) at want → MaySee (DriveRead d new_path at want Failed) last → NextFailed d new_path (length text) (length s.bytes) last
  next_failed want last next seen =
      subst (λ n. NextFailed d new_path (length text) n last) s.here (elim seen [ inl none ↦ inl none | inr one ↦ inr (want, next, one) ])

  -- a read failed, or was answered that there is no such file
  pub back_stopped : (want : ℕ) (e : SealError) → NoPiece d at want e mid new → IsNext (length text) at want → ListBack d text (Err e) old new
  back_stopped want DriveFailed h next = record {
    went = went_such (λ L x. (
      s.bytes,
      front_is,
      record {
        first = s.read.calls;
        last = x.second;
        is = x.is ∙ ap (λ (l : List Event). l ++ x.second) x.here;
        pieces = pieces;
        failed = next_failed want x.second next x.there;
      },
    )) (went_then s.read.went h.went);
    cause = λ is. rose_since (Drive d) (new.faults (Drive d)) s.read.went (h.cause refl);
    honest = λ m L honest there. tt;
  }
  back_stopped want Absent p next = record {
    went = went_such (λ L x. (s.bytes, front_is, (want, x))) (pieces_then want None p next);
    cause = λ is. absurd (cc is);
    honest = λ m L h there.
        let b = text_before want None p m L h there in
        absurd (let none = p.absent m b.0 b.1 refl in let e : None ≡ Some text = sym none ∙ b.2 in cc e);
  }
  back_stopped want (Length written read) h next = absurd h
  back_stopped want (Byte place written read) h next = absurd h

  -- the reads ended before the text
  pub back_short : (want : ℕ) → PieceRead d new_path at want (Some []) mid new → 0 < want → at + want ≤ length text → ListBack d text (Err (Length (length text) at)) old new
  back_short want p some within = record {
    went = went_such (λ L x. (refl, (s.bytes, front_is, inl (omega (arith, some, within), sym s.here, want, x)))) (pieces_then want (Some []) p (some, inl within));
    cause = λ is. absurd (cc is);
    honest = λ m L h there.
        let end = (gives_text want [] p m L h there).1 refl some in
        absurd (omega (arith, end, some, within));
  }

  -- the next piece has another byte
  pub back_other : (want : ℕ) (piece written : List ℕ) (place here there : ℕ) → PieceRead d new_path at want (Some piece) mid new → 0 < want → at + want ≤ length text → length piece ≤ want → written ≡ take (length piece) (drop at text) → length written ≡ length piece
      → IsOther at written piece place here there → ListBack d text (Err (Byte place here there)) old new
  back_other want piece written place here there p some within few is long o = record {
    went = went_such (λ L x. (s.bytes, front_is, (want, piece, first, x))) (pieces_then want (Some piece) p (some, inl within));
    cause = λ is. absurd (cc is);
    honest = λ m L h stands.
        let given = (gives_text want piece p m L h stands).0 in
        let same : piece ≡ written = given ∙ sym is in
        absurd (o.other (o.written_is ∙ ap (λ (l : List ℕ). slice_index l o.place) (sym same) ∙ sym o.read_is));
  }
    where
      rest : List ℕ
      rest = drop (length piece) (drop at text)

      text_is : text ≡ s.bytes ++ (written ++ rest)
      text_is = sym (take-append-drop at text) ∙ ap (λ (l : List ℕ). take at text ++ l) (sym (take-append-drop (length piece) (drop at text))) ∙ (λ i. sym s.same i ++ (sym is i ++ rest))

      at_is : place ≡ length s.bytes + o.place
      at_is = let start = s.here in let is = o.is in omega (arith, start, is)

      in_written : o.place < length written
      in_written = let inside = o.inside in omega (arith, inside, long)

      first : IsFirstOther text (s.bytes ++ piece) place here there
      first = record {
        in_text = let start = s.here in let inside = o.inside in omega (arith, at_is, start, inside, few, within);
        in_bytes = let inside = o.inside in omega (arith, at_is, inside, length-append s.bytes piece);
        same = ap (λ n. take n (s.bytes ++ piece)) at_is ∙ take-append-add s.bytes piece o.place ∙ ap (λ (l : List ℕ). s.bytes ++ l) (o.same ∙ sym (take-append-le o.place written rest (omega (arith, in_written))))
            ∙ sym (take-append-add s.bytes (written ++ rest) o.place) ∙ sym (λ i. take (at_is i) (text_is i));
        written_is = o.written_is ∙ sym (get_or_append_left written rest 0 o.place in_written) ∙ sym (get_or-append-add s.bytes (written ++ rest) o.place 0) ∙ sym (λ i. slice_index (text_is i) (at_is i));
        read_is = o.read_is ∙ sym (get_or-append-add s.bytes piece o.place 0) ∙ sym (ap (slice_index (s.bytes ++ piece)) at_is);
        other = o.other;
      }

module _ (d : ℕ) (text : List ℕ) (old mid new : World) (s : SameSoFar d text (length text) old mid) where
  at_size : IsNext (length text) (length text) 1
  at_size = (omega arith, inr (refl, refl))

  whole_is : s.bytes ≡ text
  whole_is = s.same ∙ take_all (length text) text (omega arith)

  -- the list is what was written
  pub back_good : PieceRead d new_path (length text) 1 (Some []) mid new → ListBack d text (Ok tt) old new
  back_good p = record {
    went = went_such (λ L x. subst (λ (b : List ℕ). (length b ≡ length text) × PiecesThen d new_path (length text) b 1 (Some []) L) whole_is (sym s.here, x)) (pieces_then d text (length text) old mid new s 1 (Some []) p at_size);
    cause = λ is. absurd (cc is);
    honest = λ m L h there. tt;
  }

  back_long : (byte : ℕ) → PieceRead d new_path (length text) 1 (Some (byte ∷ [])) mid new → ListBack d text (Err (Length (length text) (length text + 1))) old new
  back_long byte p = record {
    went = went_such (λ L x. (refl, (s.bytes, front_is d text (length text) old mid new s, inr (refl, sym s.here, byte, x)))) (pieces_then d text (length text) old mid new s 1 (Some (byte ∷ [])) p at_size);
    cause = λ is. absurd (cc is);
    honest = λ m L h there.
        let given = ap length (gives_text d text (length text) old mid new s 1 (byte ∷ []) p m L h there).0 in
        absurd (omega (arith, given, length-take 1 (drop (length text) text), length-drop (length text) text));
  }

  -- it did not end where the text ends
  pub back_not_ended : (e : SealError) → NotEnded d (length text) e mid new → ListBack d text (Err e) old new
  back_not_ended DriveFailed h = back_stopped d text (length text) old mid new s 1 DriveFailed h at_size
  back_not_ended Absent h = back_stopped d text (length text) old mid new s 1 Absent h at_size
  back_not_ended (Byte place written read) h = absurd h
  back_not_ended (Length written read) h =
      subst (λ n. ListBack d text (Err (Length n read)) old new) (sym h.0)
      (subst (λ n. ListBack d text (Err (Length (length text) n)) old new) (sym h.1) (back_long h.2 h.3))

-- ---- a block

-- a piece of a part that stands at this place of the text
piece_stands : (text part : List ℕ) (at done n : ℕ) → part ≡ take (length part) (drop at text) → done + n ≤ length part → take n (drop done part) ≡ take n (drop (at + done) text)
piece_stands text part at done n is within =
    let rest = drop (length part) (drop at text) in
    let behind : drop at text ≡ part ++ rest = sym (take-append-drop (length part) (drop at text)) ∙ ap (λ (l : List ℕ). l ++ rest) (sym is) in
    sym (
    ap (take n) (sym (drop-drop done at text) ∙ ap (drop done) behind ∙ drop-append-le done part rest (omega (arith, within)))
    ∙ take-append-le n (drop done part) rest (omega (arith, within, length-drop done part))
    )

-- a piece of the part in the scratch is a piece of the text
pub piece_here : (parts : List (List ℕ)) (place : Place) (scratch : List ℕ) (at n : ℕ) → Stands parts place scratch → place_of parts place ≡ at → place.done + n ≤ length scratch → take n (drop place.done scratch) ≡ take n (drop at (joined parts))
piece_here parts place scratch at n s here within =
    piece_stands (joined parts) scratch (length (joined (take place.part parts))) place.done n (stands_here parts place.part _ scratch s.there refl s.is) within ∙ ap (λ k. take n (drop k (joined parts))) here

-- another byte behind some that are the same
pub other_later : (start : ℕ) (read U : List ℕ) (done n p here there : ℕ) → take done read ≡ take done U → done + n ≤ length read → length read ≤ length U → IsOther (start + done) (take n (drop done U)) (take n (drop done read)) p here there → IsOther start (take (length read) U) read p here there
other_later start read U done n p here there so_far within room o =
    let inside : o.place < n = (let i = o.inside in omega (arith, i, length-take n (drop done read))) in
    let least : done + o.place < length read = omega (arith, inside, within) in
    let low : o.place ≤ n = omega (arith, inside) in
    record {
      place = done + o.place;
      is = let is = o.is in omega (arith, is);
      inside = least;
      same = take-add done o.place read ∙ (λ i. so_far i ++ (sym (take-take o.place n (drop done read) low) ∙ o.same ∙ take-take o.place n (drop done U) low) i) ∙ sym (take-add done o.place U)
          ∙ sym (take-take (done + o.place) (length read) U (omega (arith, least)));
      written_is = o.written_is ∙ get_or-take n (drop done U) o.place 0 inside ∙ get_or-drop done U o.place 0 ∙ sym (get_or-take (length read) U (done + o.place) 0 least);
      read_is = o.read_is ∙ get_or-take n (drop done read) o.place 0 inside ∙ get_or-drop done read o.place 0;
      other = o.other;
    }

-- so many bytes more are the same
pub same_later : (read U : List ℕ) (done n : ℕ) → take done read ≡ take done U → take n (drop done read) ≡ take n (drop done U) → take (done + n) read ≡ take (done + n) U
same_later read U done n so_far more = take-add done n read ∙ (λ i. so_far i ++ more i) ∙ sym (take-add done n U)

-- a slice of the scratch is what follows in the text
pub piece_given : (parts : List (List ℕ)) (place : Place) (scratch bytes : List ℕ) (at done n : ℕ) → Stands parts place scratch → place_of parts place ≡ at + done → bytes ≡ scratch → place.done + n ≤ length scratch →
    take n (take (length bytes - place.done) (drop place.done bytes)) ≡ take n (drop done (drop at (joined parts)))
piece_given parts place scratch bytes at done n s here is within =
    let all = take_all (length bytes - place.done) (drop place.done bytes) (omega (arith, length-drop place.done bytes)) in
    ap (take n) (all ∙ ap (drop place.done) is) ∙ piece_here parts place scratch (at + done) n s here within ∙ ap (take n) (sym (drop-drop done at (joined parts)))

-- a slice of what was read
pub slice_given : (read : List ℕ) (done n : ℕ) → take (done + n - done) (drop done read) ≡ take n (drop done read)
slice_given read done n = let same : done + n - done ≡ n = omega arith in ap (λ k. take k (drop done read)) same

-- what comparing a slice answers, the whole comparing answers
pub compared_other : (parts : List (List ℕ)) (at : ℕ) (read : List ℕ) (done n : ℕ) (written given : List ℕ) (e : SealError) (place : Place) (scratch : List ℕ) → written ≡ take n (drop done (drop at (joined parts))) → given ≡ take n (drop done read) →
    take done read ≡ take done (drop at (joined parts)) → done + n ≤ length read → at + length read ≤ length (joined parts) → Compared (at + done) written given (Err e) → BlockCompared parts at read (Err e) place scratch
compared_other parts at read done n written given (Byte q here there) place scratch is_text is_read so_far within inside o =
    let U = drop at (joined parts) in
    let there_is = subst (λ (w : List ℕ). IsOther (at + done) w given q here there) is_text o in
    other_later at read U done n q here there so_far within (omega (arith, inside, length-drop at (joined parts))) (subst (λ (g : List ℕ). IsOther (at + done) (take n (drop done U)) g q here there) is_read there_is)
compared_other parts at read done n written given DriveFailed place scratch is_text is_read so_far within inside o = absurd o
compared_other parts at read done n written given Absent place scratch is_text is_read so_far within inside o = absurd o
compared_other parts at read done n written given (Length a b) place scratch is_text is_read so_far within inside o = absurd o

module _ (d : ℕ) (parts : List (List ℕ)) (at : ℕ) (mid new : World) where
  abbrev text : List ℕ
  text = joined parts

  module _ (want n : ℕ) (block : List ℕ) (p : PieceRead d new_path at want (Some (take n block)) mid new) (few : n ≤ want) (room : want ≤ length block) (within : at + want ≤ length text) where
    long : length (take n block) ≡ n
    long = omega (arith, length-take n block, few, room)

    pub block_short : n ≡ 0 → 0 < want → (first : World) → SameSoFar d text at first mid → ListBack d text (Err (Length (length text) at)) first new
    block_short none some first s =
        let empty : take n block ≡ [] = ap (λ k. take k block) none ∙ take_none block in
        back_short d text at first mid new s want (subst (λ (b : List ℕ). PieceRead d new_path at want (Some b) mid new) empty p) some within

    pub block_other : (n ≡ 0 → ⊥) → (e : SealError) (place : Place) (scratch : List ℕ) → BlockCompared parts at (take n block) (Err e) place scratch → (first : World) → SameSoFar d text at first mid → ListBack d text (Err e) first new
    block_other some (Byte q here there) place scratch o first s =
        back_other d text at first mid new s want (take n block) (take (length (take n block)) (drop at text)) q here there p (omega (arith, some, few)) within (omega (arith, long, few)) refl
        (omega (arith, length-take (length (take n block)) (drop at text), length-drop at text, long, few, within)) o
    block_other some DriveFailed place scratch o first s = absurd o
    block_other some Absent place scratch o first s = absurd o
    block_other some (Length written read) place scratch o first s = absurd o

    pub block_more : (n ≡ 0 → ⊥) → (place : Place) (scratch : List ℕ) → BlockCompared parts at (take n block) (Ok tt) place scratch → BlockBack d parts at (Ok n) place scratch mid new
    block_more some place scratch c = (
      omega (arith, some),
      c.1,
      c.2 ∙ ap (λ k. at + k) long,
      omega (arith, few, within),
      λ first s. subst (λ k. SameSoFar d text (at + k) first new) long (same_more d text at want (take n block) first mid new s p (omega (arith, some, long)) within c.0),
    )

  pub block_stopped : (want : ℕ) (e : SealError) → NoPiece d at want e mid new → 0 < want → at + want ≤ length text → (first : World) → SameSoFar d text at first mid → ListBack d text (Err e) first new
  block_stopped want e h some within first s = back_stopped d text at first mid new s want e h (some, inl within)

-- ---- the whole list

pub list_back : (d : ℕ) (text : List ℕ) (total at : ℕ) (result : Result Unit SealError) (old mid new : World) → SameSoFar d text at old mid → total ≡ length text → at ≡ length text →
    MatchResult result (λ _. PieceRead d new_path total 1 (Some []) mid new) (λ e. NotEnded d total e mid new) → ListBack d text result old new
list_back d text total at result old mid new s size end asked = by result (subst (λ n. SameSoFar d text n old mid) end s) asked
  where
    by : (result : Result Unit SealError) → SameSoFar d text (length text) old mid → MatchResult result (λ _. PieceRead d new_path total 1 (Some []) mid new) (λ e. NotEnded d total e mid new) → ListBack d text result old new
    by (Ok done) s p = back_good d text old mid new s (subst (λ n. PieceRead d new_path n 1 (Some []) mid new) size p)
    by (Err e) s h = back_not_ended d text old mid new s e (subst (λ n. NotEnded d n e mid new) size h)
