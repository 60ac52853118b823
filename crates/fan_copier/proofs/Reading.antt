-- How reads join.
use Rattle.std.proofs.Common.{◌≡◌, ◌⊎◌, inl, inr, ℕ, ◌+◌, ◌-◌, ◌≤◌, ◌<◌, List, [], ◌∷◌, ◌++◌, length, take, drop, refl, sym, ◌∙◌, ap, subst, append_assoc, append-nil, arith, length-append, length-take, length-drop}
use Rattle.std.proofs.Math.Seq.{take-add, take-append-add, take-append_seam}
use Rattle.std.proofs.lemmas.List.{take-take, length-take-le, drop-drop}
use Rattle.std.proofs.lemmas.Slice.{take-put_mid, take-put_mid_below, drop-put_mid}
use Rattle.std.proofs.lemmas.Result.{err_from_is_err_and}
use Rattle.std.specs.Prelude.{Option, Some, None, Result, Ok, Err, Bool, true, false, is_ok, IsErrAnd, IfSome, unwrap_or}
use borrow.Rule.Slice.PartMut.{put_mid}
use Rattle.bay_core.specs.declared.event.Event.{Event}
use Rattle.bay_core.specs.declared.event.Event.TheVariants.{SourceRead, DriveRead}
use Rattle.bay_core.specs.declared.event.DriveGot.TheVariants.{Read, Absent}
use Rattle.bay_core.specs.declared.failed.Failed.{Failed}
use Rattle.bay_core.specs.Map.{Map}
use Rattle.bay_core.specs.Replay.{Device, Source, Drive}
use Rattle.bay_core.specs.World.{World, Attached, Steady}
use Rattle.bay_core.specs.Looks.{is_look}
use Rattle.bay_core.specs.Went.{Went, Called, Only, CardReadCall, ReadCall, Then, IsCall, read_got}
use Rattle.bay_core.proofs.Runs.{went_then, went_such, rose_since}
use Rattle.fan_copier.specs.Reads.{File, OnCard, OnDrive, device, gave, GaveNone, MayFail, Tiles, CutAt, GatherCalls, AreAt}

pub tiles_append : (f : File) (at : ℕ) (A B : List Event) (xs ys : List ℕ) → Tiles f at A xs → Tiles f (at + length xs) B ys → Tiles f at (A ++ B) (xs ++ ys)
unfolding Tiles
tiles_append f at [] B xs ys a b =
    let here : at + length xs ≡ at = omega (arith, ap (length {A = ℕ}) a) in
    subst (λ (l : List ℕ). Tiles f at B (l ++ ys)) (sym a) (subst (λ n. Tiles f n B ys) here b)
tiles_append f at (e ∷ A) B xs ys (zs, rest, one, is, more) b =
    let far : at + length xs ≡ (at + length zs) + length rest = omega (arith, ap (length {A = ℕ}) is, length-append zs rest) in
    (zs, rest ++ ys, one, ap (λ (l : List ℕ). l ++ ys) is ∙ append_assoc zs rest ys, tiles_append f (at + length zs) A B rest ys more (subst (λ n. Tiles f n B ys) far b))

pub tiles_none : (f : File) (at : ℕ) (L : List Event) → L ≡ [] → Tiles f at L []
unfolding Tiles
tiles_none f at [] is = refl
tiles_none f at (e ∷ L) is = absurd (cc is)

pub tiles_one : (f : File) (at asked : ℕ) (bytes : List ℕ) → 0 < length bytes → Tiles f at (gave f at asked bytes ∷ []) bytes
unfolding Tiles
tiles_one f at asked bytes some = (bytes, [], record { asked = asked; is = refl; some = some }, sym (append-nil bytes), refl)

-- a piece of a buffer was filled further
pub filled : (n got : ℕ) (into piece : List ℕ) → n ≤ length into → got ≤ length piece → length piece ≡ length into - n
    → take (n + got) (put_mid n (length into - n) into piece) ≡ take n into ++ take got piece
filled n got into piece within few size =
    let whole = take-put_mid n (length into - n) into piece (n + length piece) refl within in
    let P = put_mid n (length into - n) into piece in
    let front : length (take n into) ≡ n = length-take-le n into within in
    sym (take-take (n + got) (n + length piece) P (omega (arith, few))) ∙ ap (take (n + got)) whole
    ∙ ap (λ m. take (m + got) (take n into ++ piece)) (sym front) ∙ take-append-add (take n into) piece got

-- what was before the piece stays
pub front_kept : (n : ℕ) (into piece : List ℕ) → n ≤ length into → length piece ≡ length into - n → take n (put_mid n (length into - n) into piece) ≡ take n into
front_kept n into piece within size = take-put_mid_below n (length into - n) into piece n (omega arith) within

pub length-filled : (n : ℕ) (into piece : List ℕ) → n ≤ length into → length piece ≡ length into - n → length (put_mid n (length into - n) into piece) ≡ length into
length-filled n into piece within size =
    let P = put_mid n (length into - n) into piece in
    let front = ap (length {A = ℕ}) (take-put_mid n (length into - n) into piece (n + length piece) refl within) in
    let back = ap (length {A = ℕ}) (drop-put_mid n (length into - n) into piece (length into) (omega (arith, within)) within size) in
    let a = length-append (take n into) piece in
    let b = length-take-le n into within in
    let e = length-take (n + length piece) P in
    let f = length-drop (length into) P in
    let h = length-drop (length into) into in
    omega (arith, front, back, a, b, e, f, h, size, within)

-- one read more, which gave some bytes
pub read_more : (f : File) (at n got : ℕ) (into piece : List ℕ) {w0 w1 w2 : World} → n ≤ length into → 0 < got → got ≤ length piece → length piece ≡ length into - n
    → Went (Only (device f)) (λ L. Tiles f at L (take n into)) w0 w1 → Went (Only (device f)) (IsCall (gave f (at + n) (length piece) (take got piece))) w1 w2
    → Went (Only (device f)) (λ L. Tiles f at L (take (n + got) (put_mid n (length into - n) into piece))) w0 w2
read_more f at n got into piece within some few size one two =
    let front : length (take n into) ≡ n = length-take-le n into within in
    let at_is : at + n ≡ at + length (take n into) = omega (arith, front) in
    let long : 0 < length (take got piece) = omega (arith, some, length-take-le got piece few) in
    went_such (λ L t.
    let last = subst (λ K. Tiles f (at + n) K (take got piece)) (sym t.there) (tiles_one f (at + n) (length piece) (take got piece) long) in
    let joined = tiles_append f at t.first t.second (take n into) (take got piece) t.here (subst (λ m. Tiles f m t.second (take got piece)) at_is last) in
    subst (λ (ys : List ℕ). Tiles f at L ys) (sym (filled n got into piece within few size)) (subst (λ K. Tiles f at K (take n into ++ take got piece)) (sym t.is) joined)) (went_then one two)

-- a read gave none
pub read_ended : (f : File) (at n : ℕ) (into piece : List ℕ) {w0 w1 w2 : World} → n < length into → length piece ≡ length into - n
    → Went (Only (device f)) (λ L. Tiles f at L (take n into)) w0 w1 → Went (Only (device f)) (GaveNone f (at + n)) w1 w2
    → Called (device f) (GatherCalls f at (put_mid n (length into - n) into piece) (Ok n)) true w0 w2
read_ended f at n into piece within size one two =
    let inside : n ≤ length into = omega (arith, within) in
    let front : length (take n into) ≡ n = length-take-le n into inside in
    let same : take n (put_mid n (length into - n) into piece) ≡ take n into = front_kept n into piece inside size in
    let long : length into ≡ length (put_mid n (length into - n) into piece) = sym (length-filled n into piece inside size) in
    let at_is : at + n ≡ at + length (take n into) = omega (arith, front) in
    record {
      went = went_such (λ L t. inr (
        omega (arith, front, within, ap (length {A = ℕ}) same, long),
        subst (λ (ys : List ℕ). Then (λ A. Tiles f at A ys) (GaveNone f (at + length ys)) L) (sym same)
            (record { first = t.first; second = t.second; is = t.is; here = t.here; there = subst (λ m. GaveNone f m t.second) at_is t.there }),
      )) (went_then one two);
      cause = λ failed. absurd (cc failed);
    }

-- all came
pub read_full : (f : File) (at n : ℕ) (into : List ℕ) {w0 w1 : World} → n ≡ length into → Went (Only (device f)) (λ L. Tiles f at L (take n into)) w0 w1 → Called (device f) (GatherCalls f at into (Ok n)) true w0 w1
read_full f at n into all one = record {
  went = went_such (λ L t. inl (length-take-le n into (omega (arith, all)) ∙ all, t)) one;
  cause = λ failed. absurd (cc failed);
}

-- a read failed
pub read_cut : (f : File) (at n : ℕ) (into now : List ℕ) (e : Failed) {w0 w1 w2 : World} → n < length into → length now ≡ length into
    → Went (Only (device f)) (λ L. Tiles f at L (take n into)) w0 w1 → Called (device f) (MayFail f (at + n)) false w1 w2
    → Called (device f) (GatherCalls f at now (Err e)) false w0 w2
read_cut f at n into now e within size one two =
    let front : length (take n into) ≡ n = length-take-le n into (omega (arith, within)) in
    let at_is : at + n ≡ at + length (take n into) = omega (arith, front) in
    record {
      went = went_such (λ L t. (
        take n into,
        omega (arith, front, within, size),
        record { first = t.first; second = t.second; is = t.is; here = t.here; there = subst (λ m. MayFail f m t.second) at_is t.there },
      )) (went_then one two.went);
      cause = λ failed. rose_since _ _ one (two.cause refl);
    }

-- the calls of a bay's reads, in these words
pub card_gave : (s : ℕ) (path : List ℕ) (at n : ℕ) (piece : List ℕ) {w0 w1 : World} → Called (Source s) (CardReadCall s path at piece (Ok n)) true w0 w1
    → Went (Only (Source s)) (IsCall (gave (OnCard s path) at (length piece) (take n piece))) w0 w1
card_gave s path at n piece one = one.went

pub card_none : (s : ℕ) (path : List ℕ) (at n : ℕ) (piece : List ℕ) {w0 w1 : World} → n ≡ 0 → 0 < length piece → Called (Source s) (CardReadCall s path at piece (Ok n)) true w0 w1
    → Went (Only (Source s)) (GaveNone (OnCard s path) at) w0 w1
card_none s path at n piece none some one = went_such (λ L is. (length piece, some, SourceRead s path at (length piece) (Some (take n piece)), is, inl (ap (λ m. SourceRead s path at (length piece) (Some (take m piece))) none))) one.went

pub card_failed : (s : ℕ) (path : List ℕ) (at : ℕ) (piece : List ℕ) (e : Failed) {w0 w1 : World} → Called (Source s) (CardReadCall s path at piece (Err e)) false w0 w1 → Called (Source s) (MayFail (OnCard s path) at) false w0 w1
card_failed s path at piece e one = record {
  went = went_such (λ L seen. elim seen [ inl none ↦ inl none | inr is ↦ inr (length piece, is) ]) one.went;
  cause = one.cause;
}

pub drive_gave : (d : ℕ) (path : List ℕ) (at n : ℕ) (piece : List ℕ) {w0 w1 : World} → Called (Drive d) (ReadCall d path at piece (Ok (Some n))) true w0 w1
    → Went (Only (Drive d)) (IsCall (gave (OnDrive d path) at (length piece) (take n piece))) w0 w1
drive_gave d path at n piece one = one.went

pub drive_none : (d : ℕ) (path : List ℕ) (at : ℕ) (piece : List ℕ) (got : Option ℕ) {w0 w1 : World} → (got ≡ None) ⊎ (got ≡ Some 0) → 0 < length piece → Called (Drive d) (ReadCall d path at piece (Ok got)) true w0 w1
    → Went (Only (Drive d)) (GaveNone (OnDrive d path) at) w0 w1
drive_none d path at piece got (inl none) some one = went_such (λ L is. (length piece, some, DriveRead d path at (length piece) Absent, subst (λ o. ReadCall d path at piece (Ok o) L) none is, inr refl)) one.went
drive_none d path at piece got (inr nothing) some one = went_such (λ L is. (length piece, some, DriveRead d path at (length piece) (Read []), subst (λ o. ReadCall d path at piece (Ok o) L) nothing is, inl refl)) one.went

pub drive_failed : (d : ℕ) (path : List ℕ) (at : ℕ) (piece : List ℕ) (e : Failed) {w0 w1 : World} → Called (Drive d) (ReadCall d path at piece (Err e)) false w0 w1 → Called (Drive d) (MayFail (OnDrive d path) at) false w0 w1
drive_failed d path at piece e one = record {
  went = went_such (λ L seen. elim seen [ inl none ↦ inl none | inr is ↦ inr (length piece, is) ]) one.went;
  cause = one.cause;
}

-- the bytes so far are the file's
pub bytes_more : (file : List ℕ) (at n got : ℕ) (into piece : List ℕ) → n ≤ length into → got ≤ length piece → length piece ≡ length into - n
    → take n into ≡ take n (drop at file) → take got piece ≡ take got (drop (at + n) file) → take (n + got) (put_mid n (length into - n) into piece) ≡ take (n + got) (drop at file)
bytes_more file at n got into piece within few size first second =
    filled n got into piece within few size ∙ (λ i. first i ++ second i)
    ∙ ap (λ (l : List ℕ). take n (drop at file) ++ take got l) (sym (drop-drop n at file)) ∙ sym (take-add n got (drop at file))

pub are_at : (file : List ℕ) (at n : ℕ) (into : List ℕ) → n ≤ length into → take n into ≡ take n (drop at file) → AreAt file at (take n into)
are_at file at n into within same = same ∙ ap (λ m. take m (drop at file)) (sym (length-take-le n into within))

pub steady_still : {On : Device → Type 0} {P : List Event → Type 0} {old new : World} (s : ℕ) (m : Map) → Went On P old new → Steady old s m → Steady new s m
steady_still s m w h = record { steady = ap (λ (a : Attached). a.steady s) w.attached ∙ h.steady; card = ap (λ (a : Attached). a.card s) w.attached ∙ h.card }

-- at the exit after a failed read
pub gather_exit : (f : File) (at : ℕ) (into now : List ℕ) (e : Failed) (r : Result ℕ Failed) (Q : Failed → Type 0) {w0 w1 : World} → IsErrAnd r Q → length now ≡ length into
    → Called (device f) (GatherCalls f at into (Err e)) false w0 w1 → Called (device f) (GatherCalls f at now r) (is_ok r) w0 w1
gather_exit f at into now e r Q {w0} {w1} is size one =
    let p = err_from_is_err_and r is in
    subst (λ q. Called (device f) (GatherCalls f at now q) (is_ok q) w0 w1) (sym p.1) (record { went = went_such (λ L t. subst (λ n. CutAt f at n L) (sym size) t) one.went; cause = λ _. one.cause refl })

-- another spelling of the same buffer
pub gather_same : (f : File) (at : ℕ) (into now : List ℕ) (r : Result ℕ Failed) (ok : Bool) {w0 w1 : World} → now ≡ into → Called (device f) (GatherCalls f at into r) ok w0 w1 → Called (device f) (GatherCalls f at now r) ok w0 w1
gather_same f at into now r ok {w0} {w1} is one = subst (λ b. Called (device f) (GatherCalls f at b r) ok w0 w1) (sym is) one

pub front_part : (want : ℕ) (into rest : List ℕ) → length into ≡ want → take want (into ++ rest) ≡ into
front_part want into rest size = ap (λ n. take n (into ++ rest)) (sym size) ∙ take-append_seam into rest

-- what came is more than nothing, so it came
pub some_got : (o : Option ℕ) (n : ℕ) → n ≡ unwrap_or o 0 → 0 < n → o ≡ Some n
some_got None n is some = absurd (omega (arith, is, some))
some_got (Some m) n is some = ap Some (sym is)

pub some_bound : (o : Option ℕ) (n bound : ℕ) → o ≡ Some n → IfSome o (λ m. m ≤ bound) → n ≤ bound
some_bound None n bound is most = absurd (cc is)
some_bound (Some m) n bound is most = let same : m ≡ n = cc is in omega (arith, same, most)

-- an answered read changes nothing
pub got_look : (d : ℕ) (path : List ℕ) (at asked : ℕ) (got : Option ℕ) (into : List ℕ) → is_look (DriveRead d path at asked (read_got got into)) ≡ true
got_look d path at asked None into = refl
got_look d path at asked (Some n) into = refl
