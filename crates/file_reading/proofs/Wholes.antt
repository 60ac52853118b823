-- Reading a file whole.
use Rattle.std.proofs.Common.{◌≡◌, inl, inr, ℕ, ◌+◌, ◌<◌, ◌≤◌, List, [], ◌∷◌, ◌++◌, length, take, refl, sym, ◌∙◌, ap, subst, append-nil, arith}
use Rattle.std.specs.Prelude.{Option, Some, None}
use Rattle.std.specs.FinMap.{get}
use Rattle.std.proofs.lemmas.List.{length-take, take_all}
use Rattle.bay_core.specs.Map.{Map}
use Rattle.bay_core.specs.Replay.{Device, Drive, reads}
use Rattle.bay_core.specs.World.{World}
use Rattle.bay_core.specs.Looks.{read_call, given, Tiles}
use Rattle.bay_core.proofs.Runs.{went_such}
use Rattle.bay_core.proofs.Looking.{exact_then, tiles_push, tiles_look, given_push, one_look, looks_append, read_looks, looked_before}
use Rattle.file_reading.specs.Reads.{Halted, PieceRead, AskedUpTo, SoFar}
use Rattle.file_reading.specs.Whole.{ReadsAbsent, ReadsPast, IsOver, IsAbsent, Found, FileRead}
use Rattle.file_reading.proofs.Pieces.{take_none, asked_push, so_far_more}
use Rattle.file_reading.proofs.Stops.{halted_after, halted_looks}

-- a read that gave none
pub gave_none : (d : ℕ) (path : List ℕ) (at want n : ℕ) (bytes buffer : List ℕ) (mid new : World) → at ≡ length bytes → n ≡ 0 → PieceRead d path at want (Some (take n buffer)) mid new → PieceRead d path (length bytes) want (Some []) mid new
gave_none d path at want n bytes buffer mid new here none p =
    subst (λ k. PieceRead d path k want (Some []) mid new) here
    (subst (λ b. PieceRead d path at want (Some b) mid new) (ap (λ k. take k buffer) none ∙ take_none buffer) p)

-- the reads came to the end of the file
pub text_ended : (limit d : ℕ) (path bytes : List ℕ) (want : ℕ) (old mid new : World) → SoFar d path (limit + 1) bytes old mid → PieceRead d path (length bytes) want (Some []) mid new → 0 < want → length bytes + want ≤ limit + 1
    → length bytes ≤ limit → FileRead limit d path bytes old new
text_ended limit d path bytes want old mid new s p some within short =
    let last = read_call d path (length bytes) want (Some []) in
    let gave = ap length s.gave in
    record {
      went = went_such (λ L is. record {
        first = s.calls;
        want = want;
        is = is;
        more = some;
        tiles = subst (λ A. Tiles d path 0 A) (sym is) (tiles_push d path 0 s.calls (length bytes) want (Some []) (omega (arith, gave)) s.tiles);
        asked = subst (λ A. AskedUpTo (limit + 1) A) (sym is) (asked_push (limit + 1) s.calls last within s.asked);
        gave = ap given is ∙ given_push s.calls last ∙ append-nil (given s.calls) ∙ s.gave;
        short = short;
      }) (exact_then s.calls (last ∷ []) s.went p.went);
      honest = λ m L h.
          let b = looked_before d m L (last ∷ []) (one_look _ refl) p.went h in
          let c = p.there m b.before b.honest [] refl in
          let same : bytes ≡ c.0 = s.honest m b.before b.honest c.0 c.1 ∙ take_all (length bytes) c.0 (elim ((p.honest m b.before b.honest c.0 c.1).1 refl) [ inl empty ↦ absurd (omega arith) | inr end ↦ end ]) in
          (ap (λ (M : Map). get M path) b.same ∙ c.1 ∙ ap Some (sym same), short);
    }

-- a read answered that there is no such file
pub text_absent : (limit d : ℕ) (path bytes : List ℕ) (at want : ℕ) (old mid new : World) → SoFar d path (limit + 1) bytes old mid → at ≡ length bytes → at + want ≤ limit + 1 → PieceRead d path at want None mid new
    → Found d path (ReadsAbsent limit d path) IsAbsent old new
text_absent limit d path bytes at want old mid new s here within p =
    let last = read_call d path at want None in
    let gave = ap length s.gave in
    record {
      went = went_such (λ L is. record {
        first = s.calls;
        at = at;
        want = want;
        is = is;
        tiles = subst (λ A. Tiles d path 0 A) (sym is) (tiles_push d path 0 s.calls at want None (omega (arith, here, gave)) s.tiles);
        asked = subst (λ A. AskedUpTo (limit + 1) A) (sym is) (asked_push (limit + 1) s.calls last within s.asked);
      }) (exact_then s.calls (last ∷ []) s.went p.went);
      honest = λ m L h.
          let b = looked_before d m L (last ∷ []) (one_look _ refl) p.went h in
          ap (λ (M : Map). get M path) b.same ∙ p.absent m b.before b.honest refl;
    }

-- the reads went past the limit
pub text_large : (limit d : ℕ) (path bytes : List ℕ) (old new : World) → SoFar d path (limit + 1) bytes old new → length bytes ≡ limit + 1 → Found d path (ReadsPast limit d path) (IsOver limit) old new
text_large limit d path bytes old new s long =
    let gave = ap length s.gave in
    record {
      went = went_such (λ L is. record {
        tiles = subst (λ A. Tiles d path 0 A) (sym is) s.tiles;
        asked = subst (λ A. AskedUpTo (limit + 1) A) (sym is) s.asked;
        gave = ap (λ A. length (given A)) is ∙ gave ∙ long;
      }) s.went;
      honest = λ m L h.
          let c = s.there m L h (omega (arith, long)) in
          let f = ap length (s.honest m L h c.0 c.1) in
          (c.0, c.1, omega (arith, f, long, length-take (length bytes) c.0));
    }

-- a read failed
pub text_failed : (limit d : ℕ) (path bytes : List ℕ) (at : Option Device) (old mid new : World) → SoFar d path limit bytes old mid → Halted d at mid new → Halted d at old new
text_failed limit d path bytes at old mid new s stopped = halted_after d at s.calls (tiles_look d path 0 s.calls s.tiles) s.went stopped

-- memory was wanting after a read
pub text_memory : (limit d : ℕ) (path bytes : List ℕ) (at want : ℕ) (got : Option (List ℕ)) (old mid new : World) → SoFar d path limit bytes old mid → PieceRead d path at want got mid new → Halted d None old new
text_memory limit d path bytes at want got old mid new s p =
    halted_looks d (s.calls ++ read_call d path at want got ∷ []) (looks_append s.calls (read_call d path at want got ∷ []) (tiles_look d path 0 s.calls s.tiles) (one_look _ (read_looks d path at want got)))
    (exact_then s.calls (read_call d path at want got ∷ []) s.went p.went)

-- one read more
pub text_more : (limit d : ℕ) (path bytes more : List ℕ) (at want n : ℕ) (buffer : List ℕ) (old mid new : World) → SoFar d path limit bytes old mid → at ≡ length bytes → at + want ≤ limit
    → PieceRead d path at want (Some (take n buffer)) mid new → more ≡ bytes ++ take n buffer → SoFar d path limit more old new
text_more limit d path bytes more at want n buffer old mid new s here within p is =
    subst (λ b. SoFar d path limit b old new) (sym is) (so_far_more d path limit at want bytes (Some (take n buffer)) old mid new s here within p)
