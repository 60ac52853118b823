-- Looking for the end of a run of bytes, byte by byte.
use Rattle.std.proofs.Common.{◌≡◌, ℕ, ◌+◌, ◌<◌, ◌≤◌, Bool, true, false, List, ◌++◌, length, get_or, take, drop, refl, sym, ◌∙◌, append_assoc, subst, arith}
use Rattle.std.proofs.lemmas.List.{append-nil, drop_more, drop_all, take_more}
use Rattle.markup.specs.Taking.{front, back}

-- the bytes below at pass
pub record Passed (p : ℕ → Bool) (bytes : List ℕ) (at : ℕ) : Type 0 where
  pub front_is : front p bytes ≡ take at bytes ++ front p (drop at bytes)
  pub back_is : back p bytes ≡ back p (drop at bytes)

pub passed_none : (p : ℕ → Bool) (bytes : List ℕ) → Passed p bytes 0
passed_none p bytes = record { front_is = refl; back_is = refl }

pub passed_more : (p : ℕ → Bool) (bytes : List ℕ) (at : ℕ) → at < length bytes → p (get_or bytes at 0) ≡ true → Passed p bytes at → Passed p bytes (at + 1)
unfolding front back
passed_more p bytes at lt passes h =
    let here = drop_more bytes at 0 lt in
    record {
      front_is = h.front_is ∙ rw (here, passes, take_more bytes at 0 lt) (simp append_assoc);
      back_is = h.back_is ∙ rw (here, passes) refl;
    }

pub record Cut (p : ℕ → Bool) (bytes : List ℕ) (at : ℕ) : Type 0 where
  pub front_is : take at bytes ≡ front p bytes
  pub back_is : drop at bytes ≡ back p bytes

pub cut_here : (p : ℕ → Bool) (bytes : List ℕ) (at : ℕ) → at < length bytes → p (get_or bytes at 0) ≡ false → Passed p bytes at → Cut p bytes at
unfolding front back
cut_here p bytes at lt ends h =
    let here = drop_more bytes at 0 lt in
    record {
      front_is = sym (h.front_is ∙ rw (here, ends) (append-nil (take at bytes)));
      back_is = sym (h.back_is ∙ rw (here, ends) refl);
    }

pub cut_end : (p : ℕ → Bool) (bytes : List ℕ) (at : ℕ) → at ≤ length bytes → length bytes ≤ at → Passed p bytes at → Cut p bytes (length bytes)
unfolding front back
cut_end p bytes at le ge h =
    let here = drop_all at bytes ge in
    let e : at ≡ length bytes = omega arith in
    subst (Cut p bytes) e (record {
      front_is = sym (h.front_is ∙ rw here (append-nil (take at bytes)));
      back_is = sym (h.back_is ∙ rw here refl);
    })
