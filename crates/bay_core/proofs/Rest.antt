-- The laws of what a stop may leave.
use Rattle.std.proofs.Common.{◌≡◌, ℕ, Bool, true, false, cond, List, [], ◌∷◌, ◌++◌, inl, refl, sym, ◌∙◌, ap, subst, arith, append_assoc}
use Rattle.std.proofs.lemmas.Bool.Decides.{nat_tests}
use Rattle.bay_core.specs.declared.event.Event.{Event}
use Rattle.bay_core.specs.declared.event.Event.TheVariants.{AttachSource, AttachDrive, AttachFailed, SourceList, SourceRead, DriveList, DriveRead, Write, Sync, Rename, Remove, Moment, Pick, Say}
use Rattle.bay_core.specs.Map.{Map}
use Rattle.bay_core.specs.Looks.{is_effect, IsUntouched}
use Rattle.bay_core.specs.Replay.{Drive, device_of, is_on, calls_on, changed, replayed, reads}
use Rattle.std.specs.Prelude.{Ok}
use Rattle.bay_core.specs.World.{World, Honest}
use Rattle.bay_core.specs.Attach.{Attaches}
use Rattle.bay_core.specs.Left.{LeftAfter, LeftBy, Left, IsSettled, IsPrefix}
use Rattle.bay_core.proofs.Honesty.{no_calls_yet}
use Rattle.bay_core.proofs.Replays.{calls_on-append, reads-append, no_calls}
use Rattle.bay_core.proofs.Crash.{left_split, left_join, left_any}
use Rattle.bay_core.proofs.Looking.{untouched_replay}

pub left_same : (m : Map) (A B : List Event) (d : ℕ) (I : Map) → calls_on d A ≡ calls_on d B → Left m A d I → Left m B d I
unfolding Left
left_same m A B d I same left = subst (λ K. LeftBy K m (λ J. J ≡ m) I) same left

pub settled_none : (m : Map) (L : List Event) (d : ℕ) → calls_on d L ≡ [] → IsSettled m L d
unfolding Left
settled_none m L d none I left = subst (λ K. LeftBy K m (λ J. J ≡ m) I) none left ∙ sym (no_calls m L d none)

itself : (d : ℕ) → is_on d (Drive d) ≡ true
itself d = grind (arith, nat_tests)

-- the calls on a drive with a sync of it more
with_sync : (L : List Event) (d : ℕ) (ok : Bool) → calls_on d (L ++ Sync d ok ∷ []) ≡ calls_on d L ++ Sync d ok ∷ []
with_sync L d ok = calls_on-append d L (Sync d ok ∷ []) ∙ ap (λ b. calls_on d L ++ cond b (Sync d ok ∷ []) []) (itself d)

read_same : (m : Map) (L : List Event) (d : ℕ) (ok : Bool) → reads m (L ++ Sync d ok ∷ []) d ≡ reads m L d
read_same m L d ok = reads-append m L (Sync d ok ∷ []) d ∙ ap (λ b. replayed (reads m L d) (cond b (Sync d ok ∷ []) [])) (itself d) ∙ sync_same ok
  where
    sync_same : (ok : Bool) → replayed (reads m L d) (Sync d ok ∷ []) ≡ reads m L d
    sync_same true = refl
    sync_same false = refl

pub settled_sync : (m : Map) (L : List Event) (d : ℕ) → IsSettled m (L ++ Sync d true ∷ []) d
unfolding Left reads
settled_sync m L d I left =
    left_split (calls_on d L) (Sync d true ∷ []) m (λ J. J ≡ m) I (subst (λ K. LeftBy K m (λ J. J ≡ m) I) (with_sync L d true) left) ∙ sym (read_same m L d true)

pub failed_sync : (m : Map) (L : List Event) (d : ℕ) (I : Map) → Left m (L ++ Sync d false ∷ []) d I → Left m L d I
unfolding Left
failed_sync m L d I left = left_split (calls_on d L) (Sync d false ∷ []) m (λ J. J ≡ m) I (subst (λ K. LeftBy K m (λ J. J ≡ m) I) (with_sync L d false) left)

pub left_two : (m : Map) (A B : List Event) (d : ℕ) (I : Map) → LeftBy (calls_on d B) (reads m A d) (Left m A d) I → Left m (A ++ B) d I
unfolding Left reads
left_two m A B d I left = subst (λ K. LeftBy K m (λ J. J ≡ m) I) (sym (calls_on-append d A B)) (left_join (calls_on d A) (calls_on d B) m (λ J. J ≡ m) I left)

-- a call of drive d that is no barrier that answered Ok leaves what was left before it
within : (e : Event) (d : ℕ) (R : Map) (S : Map → Type 0) (I : Map) → is_on d (device_of e) ≡ true → (e ≡ Sync d true → ⊥) → S I → LeftAfter e R S I
within (Sync n true) d R S I on other s = let same : n ≡ d = grind (arith, nat_tests) in absurd (other (ap (λ k. Sync k true) same))
within (Sync n false) d R S I on other s = s
within (Write n path at bytes ok) d R S I on other s = (I, s, inl refl)
within (Rename n from to ok) d R S I on other s = (I, s, inl refl)
within (Remove n path ok) d R S I on other s = (I, s, inl refl)
within (DriveList n got) d R S I on other s = (I, s, refl)
within (DriveRead n path at want got) d R S I on other s = (I, s, refl)
within (AttachSource n place) d R S I on other s = (I, s, refl)
within (AttachDrive n place) d R S I on other s = (I, s, refl)
within (AttachFailed place) d R S I on other s = (I, s, refl)
within (SourceList n got) d R S I on other s = (I, s, refl)
within (SourceRead n path at want got) d R S I on other s = (I, s, refl)
within (Moment t) d R S I on other s = (I, s, refl)
within (Pick n) d R S I on other s = (I, s, refl)
within (Say line ok) d R S I on other s = (I, s, refl)

pub within_one : (b : Bool) (e : Event) (d : ℕ) (R : Map) (S : Map → Type 0) (I : Map) → is_on d (device_of e) ≡ b → (e ≡ Sync d true → ⊥) → S I → LeftBy (cond b (e ∷ []) []) R S I
within_one true e d R S I on other s = within e d R S I on other s
within_one false e d R S I off other s = s

pub left_within : (m : Map) (L : List Event) (e : Event) (d : ℕ) (I : Map) → (e ≡ Sync d true → ⊥) → Left m L d I → Left m (L ++ e ∷ []) d I
left_within m L e d I other left = left_two m L (e ∷ []) d I (within_one (is_on d (device_of e)) e d (reads m L d) (Left m L d) I refl other left)

pub attached_rest : (place : List ℕ) (d : ℕ) (old new : World) (m : Map) (L : List Event) → Attaches place (Ok d) old new → Honest new d m L → (reads m L d ≡ m) × IsSettled m L d
attached_rest place d old new m L a h = let none = no_calls_yet d place a L h.events in (no_calls m L d none, settled_none m L d none)

pub prefix_again : (A B L : List Event) → IsPrefix A B → IsPrefix B L → IsPrefix A L
prefix_again A B L one two = (one.0 ++ two.0, two.1 ∙ ap (λ (l : List Event). l ++ two.0) one.1 ∙ append_assoc A one.0 two.0)

-- a call that is no effect leaves what was left before it, and nothing else
untouched_after : (e : Event) (R : Map) (S : Map → Type 0) (I : Map) → is_effect e ≡ false → LeftAfter e R S I → S I
untouched_after (Sync n true) R S I h left = absurd (cc h)
untouched_after (Sync n false) R S I h left = absurd (cc h)
untouched_after (Write n path at bytes ok) R S I h left = absurd (cc h)
untouched_after (Rename n from to ok) R S I h left = absurd (cc h)
untouched_after (Remove n path ok) R S I h left = absurd (cc h)
untouched_after (DriveList n got) R S I h (J, s, torn) = subst S (sym torn) s
untouched_after (DriveRead n path at want got) R S I h (J, s, torn) = subst S (sym torn) s
untouched_after (AttachSource n place) R S I h (J, s, torn) = subst S (sym torn) s
untouched_after (AttachDrive n place) R S I h (J, s, torn) = subst S (sym torn) s
untouched_after (AttachFailed place) R S I h (J, s, torn) = subst S (sym torn) s
untouched_after (SourceList n got) R S I h (J, s, torn) = subst S (sym torn) s
untouched_after (SourceRead n path at want got) R S I h (J, s, torn) = subst S (sym torn) s
untouched_after (Moment t) R S I h (J, s, torn) = subst S (sym torn) s
untouched_after (Pick n) R S I h (J, s, torn) = subst S (sym torn) s
untouched_after (Say line ok) R S I h (J, s, torn) = subst S (sym torn) s

before_untouched : (e : Event) (R : Map) (S : Map → Type 0) (I : Map) → is_effect e ≡ false → S I → LeftAfter e R S I
before_untouched (Sync n true) R S I h s = absurd (cc h)
before_untouched (Sync n false) R S I h s = absurd (cc h)
before_untouched (Write n path at bytes ok) R S I h s = absurd (cc h)
before_untouched (Rename n from to ok) R S I h s = absurd (cc h)
before_untouched (Remove n path ok) R S I h s = absurd (cc h)
before_untouched (DriveList n got) R S I h s = (I, s, refl)
before_untouched (DriveRead n path at want got) R S I h s = (I, s, refl)
before_untouched (AttachSource n place) R S I h s = (I, s, refl)
before_untouched (AttachDrive n place) R S I h s = (I, s, refl)
before_untouched (AttachFailed place) R S I h s = (I, s, refl)
before_untouched (SourceList n got) R S I h s = (I, s, refl)
before_untouched (SourceRead n path at want got) R S I h s = (I, s, refl)
before_untouched (Moment t) R S I h s = (I, s, refl)
before_untouched (Pick n) R S I h s = (I, s, refl)
before_untouched (Say line ok) R S I h s = (I, s, refl)

untouched_by : (A : List Event) (R : Map) (S : Map → Type 0) (I : Map) → IsUntouched A → LeftBy A R S I → S I
unfolding IsUntouched
untouched_by [] R S I u left = left
untouched_by (e ∷ A) R S I u left = untouched_after e R S I u.0 (untouched_by A (changed R e) (LeftAfter e R S) I u.1 left)

by_untouched : (A : List Event) (R : Map) (S : Map → Type 0) (I : Map) → IsUntouched A → S I → LeftBy A R S I
unfolding IsUntouched
by_untouched [] R S I u s = s
by_untouched (e ∷ A) R S I u s = by_untouched A (changed R e) (LeftAfter e R S) I u.1 (before_untouched e R S I u.0 s)

-- A drive that no effect touched reads as before, and just the same maps are left of it.
pub untouched_reads : (m : Map) (L since : List Event) (d : ℕ) → IsUntouched (calls_on d since) → reads m (L ++ since) d ≡ reads m L d
untouched_reads m L since d u = reads-append m L since d ∙ untouched_replay (reads m L d) (calls_on d since) u

pub untouched_left : (m : Map) (L since : List Event) (d : ℕ) (I : Map) → IsUntouched (calls_on d since) → Left m (L ++ since) d I → Left m L d I
untouched_left m L since d I u left = untouched_by (calls_on d since) (reads m L d) (Left m L d) I u (left_any m L since d I left)

pub untouched_back : (m : Map) (L since : List Event) (d : ℕ) (I : Map) → IsUntouched (calls_on d since) → Left m L d I → Left m (L ++ since) d I
untouched_back m L since d I u left = left_two m L since d I (by_untouched (calls_on d since) (reads m L d) (Left m L d) I u left)

pub untouched_settled : (m : Map) (L since : List Event) (d : ℕ) → IsUntouched (calls_on d since) → IsSettled m L d → IsSettled m (L ++ since) d
untouched_settled m L since d u settled I left = settled I (untouched_left m L since d I u left) ∙ sym (untouched_reads m L since d u)
