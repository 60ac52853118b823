-- What a call on a bay in memory does to its world.
use Rattle.std.proofs.Common.{◌≡◌, ◌⊎◌, inl, inr, ℕ, ◌≤◌, Bool, true, false, List, [], ◌∷◌, ◌++◌, refl, sym, ◌∙◌, ap, subst, arith, append-nil, get_or-set_same, get_or-set_other}
use Rattle.std.specs.Prelude.{Some, Result, Ok, Err, IfOk, OnErr, slice_index}
use Rattle.std.proofs.lemmas.Bool.{cases_eq}
use Rattle.bay_core.specs.declared.event.Event.{Event}
use Rattle.bay_core.specs.Replay.{Device, Source, Drive, Attaching, Output, Clock, Picker, device_of}
use Rattle.bay_core.specs.World.{World, Rose}
use Rattle.bay_core.specs.Went.{AllOn, Made, Only, Called, NoCall}
use Rattle.bay_core.proofs.Runs.{none_on, one_on, went_none}
use Rattle.bay_mem.specs.Files.{Files}
use Rattle.bay_mem.specs.State.{State, Fixed, Counts, HasCount, Counted, Fails, count, one_more, recounted, told_events, attached_of, world_of, noted, rewritten, raised, hushed}

same_Some : {A : Type 0} (x y : A) → Some x ≡ Some y → x ≡ y
same_Some x y e = cc

pub told_list : (told : Bool) (L all : List Event) → told_events told L ≡ Some all → (told ≡ true) × (L ≡ all)
told_list true L all e = (refl, same_Some L all e)
told_list false L all e = absurd (cc e)

pub made : (On : Device → Type 0) (P : List Event → Type 0) (told : Bool) (L L' since all : List Event) → told_events told L' ≡ Some all → L' ≡ L ++ since → AllOn On since → P since → Made On P (told_events told L) all
made On P true L L' since all now is on such = record { before = L; since = since; was = refl; is = sym (same_Some L' all now) ∙ is; on = on; such = such }
made On P false L L' since all now is on such = absurd (cc now)

same_drive : (e d : ℕ) → Drive e ≡ Drive d → e ≡ d
same_drive e d is = cc

same_card : (e d : ℕ) → Source e ≡ Source d → e ≡ d
same_card e d is = cc

-- the count of another device stays
pub others_stay : (c : Counts) (x y : Device) → (Only x y → ⊥) → count (recounted c x) y ≡ count c y
others_stay c (Source s) (Source e) off = get_or-set_other c.cards s e _ 0 (λ same. off (ap Source same))
others_stay c (Source s) (Drive e) off = refl
others_stay c (Source s) Attaching off = refl
others_stay c (Source s) Output off = refl
others_stay c (Source s) Clock off = refl
others_stay c (Source s) Picker off = refl
others_stay c (Drive d) (Source e) off = refl
others_stay c (Drive d) (Drive e) off = get_or-set_other c.drives d e _ 0 (λ same. off (ap Drive same))
others_stay c (Drive d) Attaching off = refl
others_stay c (Drive d) Output off = refl
others_stay c (Drive d) Clock off = refl
others_stay c (Drive d) Picker off = refl
others_stay c Attaching (Source e) off = refl
others_stay c Attaching (Drive e) off = refl
others_stay c Attaching Attaching off = absurd (off refl)
others_stay c Attaching Output off = refl
others_stay c Attaching Clock off = refl
others_stay c Attaching Picker off = refl
others_stay c Output (Source e) off = refl
others_stay c Output (Drive e) off = refl
others_stay c Output Attaching off = refl
others_stay c Output Output off = absurd (off refl)
others_stay c Output Clock off = refl
others_stay c Output Picker off = refl
others_stay c Clock y off = refl
others_stay c Picker y off = refl

-- its count rises; no count has passed its end
pub rises : (c : Counts) (x : Device) → HasCount c x → Rose (count c x) (count (recounted c x) x)
rises c (Source s) has = let now = get_or-set_same c.cards s (one_more (slice_index c.cards s)) 0 has in omega (arith, now)
rises c (Drive d) has = let now = get_or-set_same c.drives d (one_more (slice_index c.drives d)) 0 has in omega (arith, now)
rises c Attaching has = omega arith
rises c Output has = omega arith
rises c Clock has = absurd has
rises c Picker has = absurd has

one_or_apart : (x y : Device) → (Only x y) ⊎ (Only x y → ⊥)
one_or_apart (Drive d) (Drive e) = elim (cases_eq e d) [ inl same ↦ inl (ap Drive same) | inr differ ↦ inr (λ is. differ (same_drive e d is)) ]
one_or_apart (Source d) (Source e) = elim (cases_eq e d) [ inl same ↦ inl (ap Source same) | inr differ ↦ inr (λ is. differ (same_card e d is)) ]
one_or_apart Attaching Attaching = inl refl
one_or_apart Output Output = inl refl
one_or_apart Clock Clock = inl refl
one_or_apart Picker Picker = inl refl
one_or_apart (Drive d) (Source e) = inr (λ is. absurd (cc is))
one_or_apart (Drive d) Attaching = inr (λ is. absurd (cc is))
one_or_apart (Drive d) Output = inr (λ is. absurd (cc is))
one_or_apart (Drive d) Clock = inr (λ is. absurd (cc is))
one_or_apart (Drive d) Picker = inr (λ is. absurd (cc is))
one_or_apart (Source d) (Drive e) = inr (λ is. absurd (cc is))
one_or_apart (Source d) Attaching = inr (λ is. absurd (cc is))
one_or_apart (Source d) Output = inr (λ is. absurd (cc is))
one_or_apart (Source d) Clock = inr (λ is. absurd (cc is))
one_or_apart (Source d) Picker = inr (λ is. absurd (cc is))
one_or_apart Attaching (Source e) = inr (λ is. absurd (cc is))
one_or_apart Attaching (Drive e) = inr (λ is. absurd (cc is))
one_or_apart Attaching Output = inr (λ is. absurd (cc is))
one_or_apart Attaching Clock = inr (λ is. absurd (cc is))
one_or_apart Attaching Picker = inr (λ is. absurd (cc is))
one_or_apart Output (Source e) = inr (λ is. absurd (cc is))
one_or_apart Output (Drive e) = inr (λ is. absurd (cc is))
one_or_apart Output Attaching = inr (λ is. absurd (cc is))
one_or_apart Output Clock = inr (λ is. absurd (cc is))
one_or_apart Output Picker = inr (λ is. absurd (cc is))
one_or_apart Clock (Source e) = inr (λ is. absurd (cc is))
one_or_apart Clock (Drive e) = inr (λ is. absurd (cc is))
one_or_apart Clock Attaching = inr (λ is. absurd (cc is))
one_or_apart Clock Output = inr (λ is. absurd (cc is))
one_or_apart Clock Picker = inr (λ is. absurd (cc is))
one_or_apart Picker (Source e) = inr (λ is. absurd (cc is))
one_or_apart Picker (Drive e) = inr (λ is. absurd (cc is))
one_or_apart Picker Attaching = inr (λ is. absurd (cc is))
one_or_apart Picker Output = inr (λ is. absurd (cc is))
one_or_apart Picker Clock = inr (λ is. absurd (cc is))

-- the world by its parts
abbrev world : Bool → List Event → Counts → Fixed → World
world told L c f = record { events = told_events told L; faults = count c; attached = attached_of f }

-- one call that was noted, and no count changed
pub called : (told : Bool) (L : List Event) (c : Counts) (f : Fixed) (e : Event) (x : Device) (P : List Event → Type 0) → device_of e ≡ x → P (e ∷ []) → Called x P true (world told L c f) (world told (L ++ e ∷ []) c f)
called told L c f e x P device such = record {
  went = record {
    told = λ all now. made (Only x) P told L (L ++ e ∷ []) (e ∷ []) all now refl (one_on _ _ device) such;
    later = λ y. omega arith;
    others = λ y off. refl;
    attached = refl;
  };
  cause = λ failed. absurd (cc failed);
}

pub noted_as : (s t : State) (e : Event) (x : Device) (P : List Event → Type 0) → t ≡ noted s e → device_of e ≡ x → P (e ∷ []) → Called x P true (world_of s) (world_of t)
noted_as s t e x P is device such = subst (λ (r : State). Called x P true (world_of s) (world_of r)) (sym is) (called s.told s.events s.counts s.fixed e x P device such)

pub rewritten_as : (s t : State) (d : ℕ) (e : Event) (files : Files) (P : List Event → Type 0) → t ≡ rewritten s d e files → device_of e ≡ Drive d → P (e ∷ []) → Called (Drive d) P true (world_of s) (world_of t)
rewritten_as s t d e files P is device such = subst (λ (r : State). Called (Drive d) P true (world_of s) (world_of r)) (sym is) (called s.told s.events s.counts s.fixed e (Drive d) P device such)

-- no call, and no count changed
pub still_as : (s t : State) (x : Device) → t ≡ s → Called x NoCall true (world_of s) (world_of t)
still_as s t x is = subst (λ (r : State). Called x NoCall true (world_of s) (world_of r)) (sym is) (record { went = went_none (Only x) (world_of s); cause = λ failed. absurd (cc failed) })

-- no calls are told from now on
pub hushed_as : (s t : State) (x : Device) (P : List Event → Type 0) → t ≡ hushed s → Called x P true (world_of s) (world_of t)
hushed_as s t x P is = subst (λ (r : State). Called x P true (world_of s) (world_of r)) (sym is) (record {
  went = record { told = λ all now. absurd (cc now); later = λ y. omega arith; others = λ y off. refl; attached = refl };
  cause = λ failed. absurd (cc failed);
})

-- a call that failed, with or without its event
failed : (told : Bool) (L since : List Event) (c : Counts) (f : Fixed) (x : Device) (P : List Event → Type 0) → HasCount c x → count c x ≤ count (recounted c x) x → AllOn (Only x) since → P since
    → Called x P false (world told L c f) (world told (L ++ since) (recounted c x) f)
failed told L since c f x P has more on such = record {
  went = record {
    told = λ all now. made (Only x) P told L (L ++ since) since all now refl on such;
    later = λ y. elim (one_or_apart x y) [
      | inl same ↦ subst (λ z. count c z ≤ count (recounted c x) z) (sym same) more
      | inr off ↦ let stays = others_stay c x y off in omega (arith, stays)
    ];
    others = λ y off. others_stay c x y off;
    attached = refl;
  };
  cause = λ _. rises c x has;
}

failed_as_is : (s t : State) (e : Event) (x : Device) (P : List Event → Type 0) → device_of e ≡ x → Counted s.counts x → P [] → P (e ∷ []) → (t ≡ raised s x) ⊎ (t ≡ noted (raised s x) e) → Called x P false (world_of s) (world_of t)
failed_as_is s t e x P device c none one (inl is) =
    subst (λ (r : State). Called x P false (world_of s) (world_of r)) (sym is)
    (subst (λ (K : List Event). Called x P false (world_of s) (world s.told K (recounted s.counts x) s.fixed)) (append-nil s.events) (failed s.told s.events [] s.counts s.fixed x P c.has c.later (none_on _) none))
failed_as_is s t e x P device c none one (inr is) =
    subst (λ (r : State). Called x P false (world_of s) (world_of r)) (sym is) (failed s.told s.events (e ∷ []) s.counts s.fixed x P c.has c.later (one_on _ _ device) one)

pub failed_as : (s t : State) (e : Event) (x : Device) (P : List Event → Type 0) → device_of e ≡ x → P [] → P (e ∷ []) → Fails x e s t → Called x P false (world_of s) (world_of t)
failed_as s t e x P device none one f = failed_as_is s t e x P device f.counted none one f.noted

-- the same, where the state before is given by an equation
pub failed_from : (r s t : State) (e : Event) (x : Device) (P : List Event → Type 0) → s ≡ r → device_of e ≡ x → P [] → P (e ∷ []) → Fails x e s t → Called x P false (world_of r) (world_of t)
failed_from r s t e x P same device none one f = subst (λ (q : State). Called x P false (world_of q) (world_of t)) same (failed_as s t e x P device none one f)

-- a call of the clock or the picker
pub noted_or_hushed : (s t : State) (e : Event) (x : Device) (P : List Event → Type 0) → device_of e ≡ x → P (e ∷ []) → (t ≡ noted s e) ⊎ (t ≡ hushed s) → Called x P true (world_of s) (world_of t)
noted_or_hushed s t e x P device such (inl is) = noted_as s t e x P is device such
noted_or_hushed s t e x P device such (inr is) = hushed_as s t x P is

pub noted_or_hushed_from : (r s t : State) (e : Event) (x : Device) (P : List Event → Type 0) → s ≡ r → device_of e ≡ x → P (e ∷ []) → (t ≡ noted s e) ⊎ (t ≡ hushed s) → Called x P true (world_of r) (world_of t)
noted_or_hushed_from r s t e x P same device such so = subst (λ (q : State). Called x P true (world_of q) (world_of t)) same (noted_or_hushed s t e x P device such so)

-- the same, where the state before is given by an equation
pub noted_from : (r s t : State) (e : Event) (x : Device) (P : List Event → Type 0) → s ≡ r → t ≡ noted s e → device_of e ≡ x → P (e ∷ []) → Called x P true (world_of r) (world_of t)
noted_from r s t e x P same is device such = subst (λ (q : State). Called x P true (world_of q) (world_of t)) same (noted_as s t e x P is device such)

pub still_from : (r s t : State) (x : Device) → s ≡ r → t ≡ s → Called x NoCall true (world_of r) (world_of t)
still_from r s t x same is = subst (λ (q : State). Called x NoCall true (world_of q) (world_of t)) same (still_as s t x is)

-- what holds of a listing that was given
pub listed_so : {A E : Type 0} (P : A → Type 0) (r : Result A E) (a : A) → Ok a ≡ r → IfOk r P → P a
listed_so {A = A} {E = E} P r a is h = subst (λ (x : Result A E). IfOk x P) (sym is) h

-- what holds where no listing was given
pub unlisted_so : {A E : Type 0} (P : Type 0) (r : Result A E) (e : E) → Err e ≡ r → OnErr r P → P
unlisted_so {A = A} {E = E} P r e is h = subst (λ (x : Result A E). OnErr x P) (sym is) h
