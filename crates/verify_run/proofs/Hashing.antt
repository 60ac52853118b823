-- A file that is read through a digest.
use Rattle.std.proofs.Common.{◌≡◌, inl, inr, ℕ, ◌+◌, ◌<◌, ◌≤◌, ◌^◌, List, [], ◌∷◌, ◌++◌, length, take, refl, sym, ◌∙◌, ap, subst, append-nil, arith, length-append}
use Rattle.std.specs.Prelude.{Option, Some, None, IfSome, unwrap_or, option_map}
use Rattle.std.specs.FinMap.{get}
use Rattle.std.proofs.lemmas.List.{length-take, take_all}
use Rattle.bay_core.specs.declared.event.Event.{Event}
use Rattle.bay_core.specs.Map.{Map}
use Rattle.bay_core.specs.Replay.{reads}
use Rattle.bay_core.specs.World.{World, Honest}
use Rattle.bay_core.specs.Looks.{read_call, given}
use Rattle.bay_core.proofs.Looking.{piece_of, one_look, read_looks, looked_before}
use Rattle.file_reading.specs.Reads.{PieceRead, SoFar}
use Rattle.file_reading.proofs.Pieces.{take_none, so_far_none, so_far_more, asks}
use Rattle.verify_run.specs.Results.{FileTaken, Ended, limit_of}

-- the reads so far, all of them fed to a run of a digest
pub record Hashed (d : ℕ) (path : List ℕ) (limit at : ℕ) (Fed : List ℕ → Type 0) (old new : World) : Type 0 where
  pub bytes : List ℕ
  pub read : SoFar d path limit bytes old new
  pub here : at ≡ length bytes
  pub fed : Fed bytes

pub hashed_none : (d : ℕ) (path : List ℕ) (limit : ℕ) (Fed : List ℕ → Type 0) (w : World) → Fed [] → Hashed d path limit 0 Fed w w
hashed_none d path limit Fed w h = record { bytes = []; read = so_far_none d path limit w; here = refl; fed = h }

got_bytes : (got : Option ℕ) (buffer : List ℕ) (want n : ℕ) (d : ℕ) (path : List ℕ) (at : ℕ) (old new : World) → want ≤ length buffer → n ≡ unwrap_or got 0 → IfSome got (λ k. k ≤ want)
    → unwrap_or (option_map (λ k. take k buffer) got) [] ≡ take n buffer
got_bytes None buffer want n d path at old new room is bound = sym (ap (λ k. take k buffer) is ∙ take_none buffer)
got_bytes (Some k) buffer want n d path at old new room is bound = ap (λ k. take k buffer) (sym is)

pub hashed_more : (d : ℕ) (path : List ℕ) (limit at want n : ℕ) (got : Option ℕ) (buffer : List ℕ) (Before After : List ℕ → Type 0) (old mid new : World) → Hashed d path limit at Before old mid
    → PieceRead d path at want (option_map (λ k. take k buffer) got) mid new → want ≤ length buffer → IfSome got (λ k. k ≤ want) → n ≡ unwrap_or got 0 → n ≤ want → at + want ≤ limit
    → ((list : List ℕ) → Before list → After (list ++ take n buffer)) → Hashed d path limit (at + n) After old new
hashed_more d path limit at want n got buffer Before After old mid new s p room bound is few within more =
    let same = got_bytes got buffer want n d path at mid new room is bound in
    record {
      bytes = s.bytes ++ take n buffer;
      read = subst (λ b. SoFar d path limit (s.bytes ++ b) old new) same (so_far_more d path limit at want s.bytes (option_map (λ k. take k buffer) got) old mid new s.read s.here within p);
      here = let e = s.here in omega (arith, e, length-append s.bytes (take n buffer), length-take n buffer, few, room);
      fed = more s.bytes s.fed;
    }

-- the reads are done where the file ends there, if the drive is honest
taken : (d : ℕ) (path : List ℕ) (size at : ℕ) (bytes : List ℕ) (Such : List ℕ → Type 0) (old new : World) → (s : SoFar d path (limit_of size) bytes old new) → at ≡ length bytes → Ended (limit_of size) s.calls → Such bytes
    → ((m : Map) (L : List Event) → Honest new d m L → (c : List ℕ) → get (reads m L d) path ≡ Some c → length c ≡ size → length c ≤ length bytes)
    → FileTaken d path size at Such old new
taken d path size at bytes Such old new s here ended is ends = record {
  calls = s.calls;
  went = s.went;
  tiles = s.tiles;
  asked = s.asked;
  ended = ended;
  long = here ∙ ap length (sym s.gave);
  such = subst Such (sym s.gave) is;
  honest = λ m L h c there same. s.gave ∙ s.honest m L h c there ∙ take_all (length bytes) c (ends m L h c there same);
}

-- after a read that gave nothing
pub taken_end : (d : ℕ) (path : List ℕ) (size limit at want n : ℕ) (got : Option ℕ) (buffer : List ℕ) (Fed Such : List ℕ → Type 0) (old mid new : World) → limit ≡ limit_of size → Hashed d path limit at Fed old mid
    → PieceRead d path at want (option_map (λ k. take k buffer) got) mid new → want ≤ length buffer → IfSome got (λ k. k ≤ want) → n ≡ unwrap_or got 0 → n ≡ 0 → 0 < want → at + want ≤ limit
    → ((list : List ℕ) → Fed list → Such list) → FileTaken d path size at Such old new
unfolding so_far_more
taken_end d path size limit at want n got buffer Fed Such old mid new is s p room bound same none some within digested =
    let bytes = option_map (λ k. take k buffer) got in
    let gone : unwrap_or bytes [] ≡ [] = got_bytes got buffer want n d path at mid new room same bound ∙ ap (λ k. take k buffer) none ∙ take_none buffer in
    let read : SoFar d path (limit_of size) s.bytes old mid = subst (λ l. SoFar d path l s.bytes old mid) is s.read in
    let more = so_far_more d path (limit_of size) at want s.bytes bytes old mid new read s.here (omega (arith, is, within)) p in
    let here : s.bytes ++ unwrap_or bytes [] ≡ s.bytes = ap (λ b. s.bytes ++ b) gone ∙ append-nil s.bytes in
    taken d path size at (s.bytes ++ unwrap_or bytes []) Such old new more (s.here ∙ ap length (sym here))
    (inr (read.calls, read_call d path at want bytes, refl, piece_of d path at want bytes ∙ gone, (let e = asks d path at want bytes in let g = ap length (more.gave ∙ here) in let at_here = s.here in omega (arith, e, g, at_here, some))))
    (subst Such (sym here) (digested s.bytes s.fed))
    (λ m L h c there length_is.
    let b = looked_before d m L (read_call d path at want bytes ∷ []) (one_look _ (read_looks d path at want bytes)) p.went h in
    let was : get (reads m b.before d) path ≡ Some c = ap (λ (M : Map). get M path) (sym b.same) ∙ there in
    let long = ap length here in
    let at_end = s.here in
    elim ((p.honest m b.before b.honest c was).1 gone) [ inl empty ↦ absurd (omega arith) | inr end ↦ omega (arith, end, long, at_end) ])

-- at the limit
pub taken_limit : (d : ℕ) (path : List ℕ) (size at limit : ℕ) (Fed Such : List ℕ → Type 0) (old new : World) → limit ≡ limit_of size → Hashed d path limit at Fed old new
    → limit ≤ at → at ≤ limit → size < 2 ^ 64 → ((list : List ℕ) → Fed list → Such list) → FileTaken d path size at Such old new
taken_limit d path size at limit Fed Such old new is s reached within fits digested =
    let read : SoFar d path (limit_of size) s.bytes old new = subst (λ l. SoFar d path l s.bytes old new) is s.read in
    let here = s.here in
    let gave = ap length read.gave in
    taken d path size at s.bytes Such old new read s.here
    (inl (let e : length (given read.calls) ≡ limit_of size = omega (arith, gave, here, is, reached, within) in e))
    (digested s.bytes s.fed)
    (λ m L h c there same. let f = ap length (read.honest m L h c there) in omega (arith, here, is, f, fits, same, reached, length-take (length s.bytes) c))

pub few : (got : Option ℕ) (want n : ℕ) → IfSome got (λ k. k ≤ want) → n ≡ unwrap_or got 0 → n ≤ want
few None want n h is = omega arith
few (Some k) want n h is = omega (arith, h, is)
