-- What a drive holds, as calls are added.
use Rattle.std.proofs.Common.{◌≡◌, ℕ, false, cond, List, [], ◌∷◌, ◌++◌, refl, ◌∙◌, ap, append-nil}
use Rattle.std.proofs.lemmas.List.Elements.{filter-append}
use Rattle.bay_core.specs.declared.event.Event.{Event}
use Rattle.bay_core.specs.Map.{Map, Dates}
use Rattle.bay_core.specs.Replay.{device_of, is_on, calls_on, changed, undated, replayed, redated, reads, dated}

replayed-append : (m : Map) (A B : List Event) → replayed m (A ++ B) ≡ replayed (replayed m A) B
replayed-append m [] B = refl
replayed-append m (e ∷ A) B = replayed-append (changed m e) A B

redated-append : (t : Dates) (A B : List Event) → redated t (A ++ B) ≡ redated (redated t A) B
redated-append t [] B = refl
redated-append t (e ∷ A) B = redated-append (undated t e) A B

-- the calls on a drive of two runs
pub calls_on-append : (d : ℕ) (A B : List Event) → calls_on d (A ++ B) ≡ calls_on d A ++ calls_on d B
calls_on-append d A B = filter-append (λ e. is_on d (device_of e)) A B

-- what is read after two runs
pub reads-append : (m : Map) (A B : List Event) (d : ℕ) → reads m (A ++ B) d ≡ replayed (reads m A d) (calls_on d B)
unfolding reads
reads-append m A B d = ap (replayed m) (calls_on-append d A B) ∙ replayed-append m (calls_on d A) (calls_on d B)

-- what is known of the dates after two runs
pub dated-append : (t : Dates) (A B : List Event) (d : ℕ) → dated t (A ++ B) d ≡ redated (dated t A d) (calls_on d B)
unfolding dated
dated-append t A B d = ap (redated t) (calls_on-append d A B) ∙ redated-append t (calls_on d A) (calls_on d B)

-- one call of another device more
pub calls_elsewhere : (L : List Event) (e : Event) (d : ℕ) → is_on d (device_of e) ≡ false → calls_on d (L ++ e ∷ []) ≡ calls_on d L
calls_elsewhere L e d off = calls_on-append d L (e ∷ []) ∙ ap (λ b. calls_on d L ++ cond b (e ∷ []) []) off ∙ append-nil (calls_on d L)

-- what is read follows from the calls of the drive alone
pub reads_by_calls : (m : Map) (A B : List Event) (d : ℕ) → calls_on d A ≡ calls_on d B → reads m A d ≡ reads m B d
unfolding reads
reads_by_calls m A B d same = ap (replayed m) same

pub dated_by_calls : (t : Dates) (A B : List Event) (d : ℕ) → calls_on d A ≡ calls_on d B → dated t A d ≡ dated t B d
unfolding dated
dated_by_calls t A B d same = ap (redated t) same

-- a drive that was not called reads as it was attached
pub no_calls : (m : Map) (L : List Event) (d : ℕ) → calls_on d L ≡ [] → reads m L d ≡ m
unfolding reads
no_calls m L d none = ap (replayed m) none

pub no_calls_dated : (t : Dates) (L : List Event) (d : ℕ) → calls_on d L ≡ [] → dated t L d ≡ t
unfolding dated
no_calls_dated t L d none = ap (redated t) none
