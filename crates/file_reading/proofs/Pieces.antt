-- Reads of a file, each where the one before ended.
use Rattle.std.proofs.Common.{◌≡◌, inl, inr, ℕ, ◌+◌, ◌≤◌, true, List, [], ◌∷◌, ◌++◌, length, take, drop, refl, sym, ◌∙◌, ap, subst, arith, length-append, append-nil, ◌<◌}
use Rattle.std.specs.Prelude.{Option, Some, None, IfSome, unwrap_or, option_map, Ok}
use Rattle.std.specs.FinMap.{get}
use Rattle.std.proofs.lemmas.List.{length-take, take-append-le}
use Rattle.std.proofs.Math.Seq.{take-add}
use Rattle.bay_core.specs.declared.event.Event.{Event}
use Rattle.bay_core.specs.Map.{Map, ReadsAs, content}
use Rattle.bay_core.specs.Replay.{Drive, reads}
use Rattle.bay_core.specs.World.{World, Honest}
use Rattle.bay_core.specs.Went.{Only, Called, ReadCall}
use Rattle.bay_core.specs.Looks.{read_call}
use Rattle.bay_core.proofs.Runs.{went_such, went_none}
use Rattle.bay_core.proofs.Looking.{exact_then, no_tiles, tiles_push, given_push, piece_of, one_look, read_looks, looked_before}
use Rattle.file_reading.specs.Reads.{PieceRead, SoFar, AskedUpTo, asked_end}

-- one read that was answered
pub piece_read : (d : ℕ) (path : List ℕ) (at want : ℕ) (got : Option ℕ) (into front : List ℕ) (old new : World)
    → Called (Drive d) (ReadCall d path at into (Ok got)) true old new → length into ≡ want → ((n : ℕ) → got ≡ Some n → n ≤ length into) → ((n : ℕ) → n ≤ length into → take n into ≡ take n front)
    → ((m : Map) (L : List Event) → Honest old d m L → ReadsAs (reads m L d) path at into got)
    → PieceRead d path at want (option_map (λ n. take n front) got) old new
piece_read d path at want None into front old new called size bound same honest = record {
  went = went_such (λ L one. one ∙ (λ i. read_call d path at (size i) None ∷ [])) called.went;
  within = omega arith;
  honest = λ m L h c there. absurd (let none = honest m L h in let e : None ≡ Some c = sym none ∙ there in cc);
  absent = λ m L h none. honest m L h;
  there = λ m L h bytes some. absurd (cc some);
}
piece_read d path at want (Some n) into front old new called size bound same honest =
    let within = bound n refl in
    let is : take n into ≡ take n front = same n within in
    let long : length (take n front) ≡ n = ap length (sym is) ∙ omega (arith, length-take n into, within) in
    record {
      went = went_such (λ L one. one ∙ (λ i. read_call d path at (size i) (Some (is i)) ∷ [])) called.went;
      within = omega (arith, long, within, size);
      honest = λ m L h c there.
          let r = honest m L h in
          let here : content (reads m L d) path ≡ c = ap (λ o. unwrap_or o []) there in (
            sym is ∙ r.bytes ∙ (λ i. take (sym long i) (drop at (here i))),
            λ none. elim (r.some (sym long ∙ ap length none)) [ inl empty ↦ inl (sym size ∙ empty) | inr end ↦ inr (subst (λ b. length b ≤ at) here end) ],
          );
      absent = λ m L h none. absurd (cc none);
      there = λ m L h bytes some. let r = honest m L h in (content (reads m L d) path, r.file);
    }

pub none_asked : (limit : ℕ) → AskedUpTo limit []
unfolding AskedUpTo
none_asked limit = tt

pub asked_push : (limit : ℕ) (calls : List Event) (e : Event) → asked_end e ≤ limit → AskedUpTo limit calls → AskedUpTo limit (calls ++ e ∷ [])
unfolding AskedUpTo
asked_push limit [] e here asked = (here, tt)
asked_push limit (x ∷ calls) e here asked = (asked.0, asked_push limit calls e here asked.1)

pub take_none : (c : List ℕ) → take 0 c ≡ []
take_none [] = refl
take_none (x ∷ c) = refl

-- no read yet
pub so_far_none : (d : ℕ) (path : List ℕ) (limit : ℕ) (w : World) → SoFar d path limit [] w w
so_far_none d path limit w = record {
  calls = [];
  went = went_none (Only (Drive d)) w;
  tiles = no_tiles d path 0;
  asked = none_asked limit;
  gave = refl;
  honest = λ m L honest c there. sym (take_none c);
  there = λ m L honest some. absurd (omega arith);
}

pub asks : (d : ℕ) (path : List ℕ) (at want : ℕ) (got : Option (List ℕ)) → asked_end (read_call d path at want got) ≡ at + want
asks d path at want None = refl
asks d path at want (Some b) = refl

-- an honest drive has a file of which some byte was read
pub more_there : (d : ℕ) (path : List ℕ) (at want : ℕ) (bytes : List ℕ) (got : Option (List ℕ)) (m : Map) (L : List Event) (mid new : World) → PieceRead d path at want got mid new → Honest mid d m L
    → (0 < length bytes → (c : List ℕ) × (get (reads m L d) path ≡ Some c)) → 0 < length (bytes ++ unwrap_or got []) → (c : List ℕ) × (get (reads m L d) path ≡ Some c)
more_there d path at want bytes None m L mid new p h before some = before (let e = ap length (append-nil bytes) in omega (arith, e, some))
more_there d path at want bytes (Some b) m L mid new p h before some = p.there m L h b refl

-- one read more
unfoldable pub so_far_more : (d : ℕ) (path : List ℕ) (limit at want : ℕ) (bytes : List ℕ) (got : Option (List ℕ)) (old mid new : World) → SoFar d path limit bytes old mid → at ≡ length bytes → at + want ≤ limit → PieceRead d path at want got mid new
    → SoFar d path limit (bytes ++ unwrap_or got []) old new
so_far_more d path limit at want bytes got old mid new s here within p =
    let gave = ap length s.gave in
    let more = unwrap_or got [] in
    record {
      calls = s.calls ++ read_call d path at want got ∷ [];
      went = exact_then s.calls (read_call d path at want got ∷ []) s.went p.went;
      tiles = tiles_push d path 0 s.calls at want got (omega (arith, here, gave)) s.tiles;
      asked = asked_push limit s.calls (read_call d path at want got) (let e = asks d path at want got in omega (arith, e, within)) s.asked;
      gave = given_push s.calls (read_call d path at want got) ∙ (λ i. s.gave i ++ piece_of d path at want got i);
      honest = λ m L h c there.
          let b = looked_before d m L (read_call d path at want got ∷ []) (one_look _ (read_looks d path at want got)) p.went h in
          let was : get (reads m b.before d) path ≡ Some c = ap (λ (M : Map). get M path) (sym b.same) ∙ there in
          let read = (p.honest m b.before b.honest c was).0 in
          (λ i. s.honest m b.before b.honest c was i ++ (read ∙ ap (λ n. take (length more) (drop n c)) here) i)
          ∙ sym (take-add (length bytes) (length more) c)
          ∙ ap (λ n. take n c) (sym (length-append bytes more));
      there = λ m L h some.
          let b = looked_before d m L (read_call d path at want got ∷ []) (one_look _ (read_looks d path at want got)) p.went h in
          let c = more_there d path at want bytes got m b.before mid new p b.honest (s.there m b.before b.honest) some in
          (c.0, ap (λ (M : Map). get M path) b.same ∙ c.1);
    }

pub some_bound : (got : Option ℕ) (most : ℕ) → IfSome got (λ n. n ≤ most) → (n : ℕ) → got ≡ Some n → n ≤ most
some_bound None most h n e = absurd (cc e)
some_bound (Some k) most h n e = let same : k ≡ n = cc e in omega (arith, same, h)

pub front_of : (a b : List ℕ) (n : ℕ) → n ≤ length a → take n a ≡ take n (a ++ b)
front_of a b n h = sym (take-append-le n a b h)

-- the answer of a read, where it is known
pub piece_some : (d : ℕ) (path : List ℕ) (at want : ℕ) (got : Option ℕ) (n : ℕ) (buffer : List ℕ) (mid new : World) → got ≡ Some n → PieceRead d path at want (option_map (λ k. take k buffer) got) mid new → PieceRead d path at want (Some (take n buffer)) mid new
piece_some d path at want got n buffer mid new is p = subst (λ o. PieceRead d path at want (option_map (λ k. take k buffer) o) mid new) is p

pub piece_none : (d : ℕ) (path : List ℕ) (at want : ℕ) (got : Option ℕ) (buffer : List ℕ) (mid new : World) → got ≡ None → PieceRead d path at want (option_map (λ k. take k buffer) got) mid new → PieceRead d path at want None mid new
piece_none d path at want got buffer mid new is p = subst (λ o. PieceRead d path at want (option_map (λ k. take k buffer) o) mid new) is p
