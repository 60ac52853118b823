-- Pieces of a copy, and what they come to.
use Rattle.std.proofs.Common.{◌≡◌, ◌≢◌, inl, inr, ℕ, Bool, true, false, ◌&&◌, true≢false, ◌+◌, ◌<◌, ◌≤◌, List, [], ◌∷◌, ◌++◌, length, drop, refl, sym, ◌∙◌, ap, subst, arith, length-append, length-drop}
use Rattle.std.specs.Prelude.{Option, Some, None, Result, Ok, Err, bytes_eq}
use Rattle.std.specs.List.{AllByRecursion}
use Rattle.std.specs.FinMap.{get}
use Rattle.std.proofs.lemmas.Slice.Eq.{bytes_eq-Decides}
use Rattle.std.proofs.lemmas.List.{length-take, take_all, nil_from_length, get_or-set_same, set-get_or, set-set}
use Rattle.bay_core.specs.declared.event.Event.{Event}
use Rattle.bay_core.specs.declared.event.Event.TheVariants.{DriveRead}
use Rattle.bay_core.specs.declared.event.DriveGot.TheVariants.{Failed}
use Rattle.bay_core.specs.Map.{Map}
use Rattle.bay_core.specs.Replay.{Drive, reads}
use Rattle.bay_core.specs.World.{World, Honest}
use Rattle.bay_core.specs.Went.{Went, Only, MaySee}
use Rattle.bay_core.specs.Looks.{read_call}
use Rattle.bay_core.proofs.Runs.{went_then, went_such, went_none, rose_since}
use Rattle.bay_core.proofs.Looking.{exact_then, no_tiles, one_look, looked_before}
use Rattle.block_pool.specs.Lent.{PoolState, block_at, is_lent}
use Rattle.block_pool.specs.Lending.{with_block}
use Rattle.digest_set.specs.declared.fan.Fan.{Fan}
use Rattle.digest_set.specs.declared.runs.Md5Run.{Md5Run}
use Rattle.digest_set.specs.declared.runs.Sha1Run.{Sha1Run}
use Rattle.digest_set.specs.declared.runs.XxhRun.{XxhRun}
use Rattle.digest_set.specs.declared.triple.Triple.{Triple}
use Rattle.digest_set.specs.Triple.{triple}
use Rattle.file_reading.specs.Reads.{PieceRead}
use Rattle.file_reading.proofs.Pieces.{take_none, none_asked, so_far_more}
use Rattle.read_back.specs.declared.back.ReadBackError.{ReadBackError}
use Rattle.read_back.specs.declared.back.ReadBackError.TheVariants.{DriveFailed, Absent, Length, Differs}
use Rattle.read_back.specs.Back.{IsPiece, Pieces, IsNext, PiecesThen, NextFailed, WholeCalls, LengthIs, ReadBack, HasCopy, OkExactly}
use Rattle.read_back.specs.Feeding.{IsFed, PieceFed, NoPiece, NotEnded, PiecesFed}

-- ---- the pieces, one after another

each_push : (calls : List Event) (e : Event) → AllByRecursion IsPiece calls → IsPiece e → AllByRecursion IsPiece (calls ++ e ∷ [])
each_push [] e each here = (here, tt)
each_push (x ∷ calls) e each here = (each.0, each_push calls e each.1 here)

-- no piece yet
pub pieces_none : (d : ℕ) (path : List ℕ) (size : ℕ) (fan : Fan Md5Run Sha1Run XxhRun) (w : World) → IsFed fan [] → PiecesFed d path size 0 fan w w
pieces_none d path size fan w fed = record {
  bytes = [];
  read = record {
    calls = [];
    went = went_none (Only (Drive d)) w;
    tiles = no_tiles d path 0;
    asked = none_asked size;
    gave = refl;
    honest = λ m L honest c there. sym (take_none c);
    there = λ m L honest some. absurd (omega arith);
  };
  each = tt;
  here = refl;
  fed = fed;
}

-- one piece more
pub pieces_more : (d : ℕ) (path : List ℕ) (size at want n : ℕ) (before after : Fan Md5Run Sha1Run XxhRun) (old mid new : World) → PiecesFed d path size at before old mid → PieceFed d path at want n before after mid new
    → 0 < n → at + want ≤ size → PiecesFed d path size (at + n) after old new
unfolding so_far_more
pieces_more d path size at want n before after old mid new s p some within =
    let count = p.count in
    let few = p.read.within in
    record {
      bytes = s.bytes ++ p.piece;
      read = so_far_more d path size at want s.bytes (Some p.piece) old mid new s.read s.here within p.read;
      each = each_push s.read.calls (read_call d path at want (Some p.piece)) s.each (omega (arith, count, some), few);
      here = let here = s.here in omega (arith, here, count, length-append s.bytes p.piece);
      fed = p.fed s.bytes s.fed;
    }

-- a piece is no longer than what was asked for
pub piece_within : (d : ℕ) (path : List ℕ) (at want n : ℕ) (before after : Fan Md5Run Sha1Run XxhRun) (mid new : World) → PieceFed d path at want n before after mid new → n ≤ want
piece_within d path at want n before after mid new p = let count = p.count in let few = p.read.within in omega (arith, count, few)

-- a read that gave none
piece_none : (d : ℕ) (path : List ℕ) (at want n : ℕ) (before after : Fan Md5Run Sha1Run XxhRun) (mid new : World) → PieceFed d path at want n before after mid new → n ≡ 0 → PieceRead d path at want (Some []) mid new
piece_none d path at want n before after mid new p none = subst (λ b. PieceRead d path at want (Some b) mid new) (nil_from_length p.piece (p.count ∙ none)) p.read

module _ (d : ℕ) (path : List ℕ) (size at : ℕ) (fan : Fan Md5Run Sha1Run XxhRun) (old mid new : World) (s : PiecesFed d path size at fan old mid) where
  pieces : Pieces d path size s.bytes s.read.calls
  pieces = record { tiles = s.read.tiles; each = s.each; asked = s.read.asked; gave = s.read.gave }

  -- the pieces, and then one read more
  pieces_then : (want : ℕ) (got : Option (List ℕ)) → PieceRead d path at want got mid new → IsNext size at want → Went (Only (Drive d)) (PiecesThen d path size s.bytes want got) old new
  pieces_then want got p next =
      went_such (λ L is. record {
        first = s.read.calls;
        is = is ∙ ap (λ n. s.read.calls ++ read_call d path n want got ∷ []) s.here;
        pieces = pieces;
        next = subst (λ n. IsNext size n want) s.here next;
      }) (exact_then s.read.calls (read_call d path at want got ∷ []) s.read.went p.went)

  -- an honest drive has the bytes of the pieces alone where a read for more gave none
  file_ended : (want : ℕ) → PieceRead d path at want (Some []) mid new → 0 < want → (m : Map) (L : List Event) → Honest new d m L → get (reads m L d) path ≡ Some s.bytes
  file_ended want p some m L h =
      let b = looked_before d m L (read_call d path at want (Some []) ∷ []) (one_look _ refl) p.went h in
      let c = p.there m b.before b.honest [] refl in
      let end : length c.0 ≤ at = elim ((p.honest m b.before b.honest c.0 c.1).1 refl) [ inl empty ↦ absurd (omega arith) | inr end ↦ end ] in
      let same : s.bytes ≡ c.0 = s.read.honest m b.before b.honest c.0 c.1 ∙ take_all (length s.bytes) c.0 (let here = s.here in omega (arith, here, end)) in
      ap (λ (M : Map). get M path) b.same ∙ c.1 ∙ ap Some (sym same)

  -- it has more bytes where such a read gave one
  file_longer : (byte : ℕ) → PieceRead d path at 1 (Some (byte ∷ [])) mid new → (m : Map) (L : List Event) → Honest new d m L → (c : List ℕ) × (get (reads m L d) path ≡ Some c) × (at < length c)
  file_longer byte p m L h =
      let b = looked_before d m L (read_call d path at 1 (Some (byte ∷ [])) ∷ []) (one_look _ refl) p.went h in
      let c = p.there m b.before b.honest (byte ∷ []) refl in
      let more = ap length (p.honest m b.before b.honest c.0 c.1).0 in
      (c.0, ap (λ (M : Map). get M path) b.same ∙ c.1, omega (arith, more, length-take 1 (drop at c.0), length-drop at c.0))

  -- it has no such file where such a read was answered so
  file_absent : (want : ℕ) → PieceRead d path at want None mid new → (m : Map) (L : List Event) → Honest new d m L → get (reads m L d) path ≡ None
  file_absent want p m L h =
      let b = looked_before d m L (read_call d path at want None ∷ []) (one_look _ refl) p.went h in
      ap (λ (M : Map). get M path) b.same ∙ p.absent m b.before b.honest refl

  -- the next read failed
  next_failed : (want : ℕ) (last : List Event) → IsNext size at want → MaySee (DriveRead d path at want Failed) last → NextFailed d path size (length s.bytes) last
  next_failed want last next seen =
      subst (λ n. NextFailed d path size n last) s.here (elim seen [ inl none ↦ inl none | inr one ↦ inr (want, next, one) ])

  -- a read failed, or was answered that there is no such file
  pub back_stopped : (want : ℕ) (e : ReadBackError) → NoPiece d path at want e mid new → IsNext size at want → (t : Triple) → ReadBack d path size t (Err e) old new
  back_stopped want DriveFailed h next t = record {
    bytes = s.bytes;
    went = went_such (λ L x. record {
      first = s.read.calls;
      last = x.second;
      is = x.is ∙ ap (λ (l : List Event). l ++ x.second) x.here;
      pieces = pieces;
      failed = next_failed want x.second next x.there;
    }) (went_then s.read.went h.went);
    cause = λ is. rose_since (Drive d) (new.faults (Drive d)) s.read.went (h.cause refl);
    honest = λ m L honest. tt;
  }
  back_stopped want Absent p next t = record {
    bytes = s.bytes;
    went = went_such (λ L x. (want, x)) (pieces_then want None p next);
    cause = λ is. absurd (cc is);
    honest = file_absent want p;
  }
  back_stopped want (Length recorded read) h next t = absurd h
  back_stopped want (Differs recorded read) h next t = absurd h

  -- the reads ended before the size
  pub back_short : (want n : ℕ) (after : Fan Md5Run Sha1Run XxhRun) → PieceFed d path at want n fan after mid new → n ≡ 0 → 0 < want → at + want ≤ size → (t : Triple) → ReadBack d path size t (Err (Length size at)) old new
  back_short want n after fed none some within t =
      let here = s.here in
      let p = piece_none d path at want n fan after mid new fed none in
      record {
        bytes = s.bytes;
        went = went_such (λ L x. (refl, inl (omega arith, sym here, want, x))) (pieces_then want (Some []) p (some, inl within));
        cause = λ is. absurd (cc is);
        honest = λ m L h. record {
          content = s.bytes;
          there = file_ended want p some m L h;
          other = λ same. omega (arith, here, same, some, within);
          shorter = λ less. sym here;
          longer = λ more. omega (arith, more, some, within);
        };
      }

module _ (d : ℕ) (path : List ℕ) (size : ℕ) (fan : Fan Md5Run Sha1Run XxhRun) (old mid new : World) (s : PiecesFed d path size size fan old mid) where
  at_size : IsNext size size 1
  at_size = (omega arith, inr (refl, refl))

  -- the reads of the whole file
  whole : PieceRead d path size 1 (Some []) mid new → Went (Only (Drive d)) (WholeCalls d path size s.bytes) old new
  whole p = went_such (λ L x. (sym s.here, x)) (pieces_then d path size size fan old mid new s 1 (Some []) p at_size)

  -- the digests are the recorded ones
  pub back_good : (t read : Triple) → PieceRead d path size 1 (Some []) mid new → read ≡ triple s.bytes → read ≡ t → ReadBack d path size t (Ok tt) old new
  back_good t read p is same = record {
    bytes = s.bytes;
    went = went_such (λ L x. (x, sym is ∙ same)) (whole p);
    cause = λ is. absurd (cc is);
    honest = file_ended d path size size fan old mid new s 1 p (omega arith);
  }

  -- they are not
  pub back_differs : (t read : Triple) → PieceRead d path size 1 (Some []) mid new → read ≡ triple s.bytes → t ≢ read → ReadBack d path size t (Err (Differs t read)) old new
  back_differs t read p is other = record {
    bytes = s.bytes;
    went = went_such (λ L x. (x, refl, is, other)) (whole p);
    cause = λ is. absurd (cc is);
    honest = file_ended d path size size fan old mid new s 1 p (omega arith);
  }

  back_long : (t : Triple) (byte : ℕ) → PieceRead d path size 1 (Some (byte ∷ [])) mid new → ReadBack d path size t (Err (Length size (size + 1))) old new
  back_long t byte p = record {
    bytes = s.bytes;
    went = went_such (λ L x. (refl, inr (refl, sym s.here, byte, x))) (pieces_then d path size size fan old mid new s 1 (Some (byte ∷ [])) p at_size);
    cause = λ is. absurd (cc is);
    honest = λ m L h.
        let c = file_longer d path size size fan old mid new s byte p m L h in
        let long = c.2 in
        record { content = c.0; there = c.1; other = λ same. omega (arith, same, long); shorter = λ less. absurd (omega (arith, less)); longer = λ more. omega (arith, long) };
  }

  -- the file did not end at the size
  pub back_not_ended : (t : Triple) (e : ReadBackError) → NotEnded d path size e mid new → ReadBack d path size t (Err e) old new
  back_not_ended t DriveFailed h = back_stopped d path size size fan old mid new s 1 DriveFailed h at_size t
  back_not_ended t Absent h = back_stopped d path size size fan old mid new s 1 Absent h at_size t
  back_not_ended t (Differs recorded read) h = absurd h
  back_not_ended t (Length recorded read) h =
      subst (λ n. ReadBack d path size t (Err (Length n read)) old new) (sym h.0)
      (subst (λ n. ReadBack d path size t (Err (Length size n)) old new) (sym h.1) (back_long t h.2 h.3))

-- ---- two triples

-- the test of two triples
abbrev alike : Triple → Triple → Bool
alike x y = bytes_eq x.md5 y.md5 && (bytes_eq x.sha1 y.sha1 && bytes_eq x.xxh y.xxh)

both : (a b : Bool) → (a && b) ≡ true → (a ≡ true) × (b ≡ true)
both true b e = (refl, e)
both false b e = absurd (cc e)

-- triples that pass the test are the same
pub triples_same : (x y : Triple) → alike x y ≡ true → x ≡ y
triples_same x y e =
    let first = both (bytes_eq x.md5 y.md5) (bytes_eq x.sha1 y.sha1 && bytes_eq x.xxh y.xxh) e in
    let rest = both (bytes_eq x.sha1 y.sha1) (bytes_eq x.xxh y.xxh) first.1 in
    λ i. record { md5 = (bytes_eq-Decides x.md5 y.md5).0 first.0 i; sha1 = (bytes_eq-Decides x.sha1 y.sha1).0 rest.0 i; xxh = (bytes_eq-Decides x.xxh y.xxh).0 rest.1 i }

itself : (bytes : List ℕ) → bytes_eq bytes bytes ≡ true
itself bytes = (bytes_eq-Decides bytes bytes).1 refl

-- triples that fail it differ
pub triples_differ : (x y : Triple) → alike x y ≡ false → y ≢ x
triples_differ x y e same =
    let alike_itself : alike x x ≡ true = (λ i. itself x.md5 i && (itself x.sha1 i && itself x.xxh i)) in
    true≢false (sym alike_itself ∙ ap (alike x) (sym same) ∙ e)

-- ---- where the answer is Ok

-- what is known of the calls of an honest drive
such_calls : {P : List Event → Type 0} (d : ℕ) (m : Map) (L : List Event) {old new : World} → Went (Only (Drive d)) P old new → Honest new d m L → (since : List Event) × P since
such_calls d m L w h = let made = w.told L h.events in (made.since, made.such)

no_length : (size read : ℕ) (t : Triple) (file : Option (List ℕ)) → LengthIs size read file → HasCopy size t file → ⊥
no_length size read t file l (bytes, there, long, same) =
    let e : l.content ≡ bytes = cc (sym l.there ∙ there) in
    l.other (ap length e ∙ long)

no_differ : (t recorded read : Triple) (bytes file : List ℕ) → bytes ≡ file → recorded ≡ t → read ≡ triple bytes → recorded ≢ read → triple file ≡ t → ⊥
no_differ t recorded read bytes file same one two other has = other (one ∙ sym has ∙ ap triple (sym same) ∙ sym two)

pub ok_exactly : (d : ℕ) (path : List ℕ) (size : ℕ) (t : Triple) (result : Result Unit ReadBackError) (old new : World) → ReadBack d path size t result old new → OkExactly d path size t result new
ok_exactly d path size t (Ok done) old new r = λ m L h.
    let calls = such_calls d m L r.went h in
    (λ ok. ((λ is. cc), (r.bytes, r.honest m L h, calls.1.0.0, calls.1.1)), λ has. refl)
ok_exactly d path size t (Err DriveFailed) old new r = λ m L h. (λ ok. absurd (cc ok), λ has. absurd (has.0 refl))
ok_exactly d path size t (Err Absent) old new r = λ m L h.
    (λ ok. absurd (cc ok), λ has. absurd (let e = sym (r.honest m L h) ∙ has.1.1 in cc e))
ok_exactly d path size t (Err (Length recorded read)) old new r = λ m L h.
    (λ ok. absurd (cc ok), λ has. absurd (no_length size read t (get (reads m L d) path) (r.honest m L h) has.1))
ok_exactly d path size t (Err (Differs recorded read)) old new r = λ m L h.
    let calls = such_calls d m L r.went h in
    (λ ok. absurd (cc ok), λ has. absurd (no_differ t recorded read r.bytes has.1.0 (cc (sym (r.honest m L h) ∙ has.1.1)) calls.1.1 calls.1.2 calls.1.3 has.1.3))

-- ---- the pool

-- the bytes that a block has, written back
pub same_block : (pool : PoolState) (n : ℕ) → pool ≡ with_block pool n (block_at pool n)
same_block pool n = λ i. record pool { blocks = sym (set-get_or pool.blocks n []) i }

-- a block that is written twice
pub block_twice : (pool mid : PoolState) (n : ℕ) (bytes : List ℕ) → n < length mid.blocks → mid ≡ with_block pool n (block_at mid n) → with_block mid n bytes ≡ with_block pool n (block_at (with_block mid n bytes) n)
block_twice pool mid n bytes there is =
    ap (λ (p : PoolState). with_block p n bytes) is ∙ (λ i. record pool { blocks = set-set pool.blocks n (block_at mid n) bytes i })
    ∙ ap (with_block pool n) (sym (get_or-set_same mid.blocks n bytes [] there))

-- it stays lent
pub still_lent : (pool new : PoolState) (n : ℕ) (bytes : List ℕ) → is_lent pool n ≡ true → new ≡ with_block pool n bytes → is_lent new n ≡ true
still_lent pool new n bytes lent is = ap (λ (p : PoolState). is_lent p n) is ∙ lent
