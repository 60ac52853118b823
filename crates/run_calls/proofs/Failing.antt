-- Calls of which none failed, or the last one alone.
use Rattle.std.proofs.Common.{◌≡◌, ◌⊎◌, inl, inr, ℕ, ◌+◌, Bool, true, false, List, [], ◌∷◌, ◌++◌, length, refl, sym, subst}
use Rattle.bay_core.specs.declared.event.Event.{Event}
use Rattle.bay_core.specs.Looks.{has_failed}
use Rattle.bay_core.specs.Paths.{part_path}
use Rattle.bay_core.specs.Replay.{Device, Drive, device_of}
use Rattle.bay_core.specs.Went.{Ran, write_call, sync_call}
use Rattle.drive_journal.specs.Calls.{removals, publish_calls, place_calls, open_calls}
use Rattle.fan_copier.specs.Reads.{File, OnCard, OnDrive, device, gave, failed, IsAbsent, GaveNone, MayFail, Tiles, EndsAt, CutAt, Gathered}
use Rattle.fan_copier.specs.Turning.{MendCalls, WriteCalls}
use Rattle.seal_step.specs.Parts.{writes_from, drafting, naming}
use Rattle.run_calls.specs.Own.{is_listing, NoListing}

-- a call that did not fail, and lists nothing
abbrev pub IsAnswered : Event → Type 0
IsAnswered e = (has_failed e ≡ false) × (is_listing e ≡ false)

-- such calls alone
abbrev pub NoneFails : List Event → Type 0
NoneFails [] = Unit {0}
NoneFails (e ∷ L) = IsAnswered e × NoneFails L

-- such calls, and then at most one on this device, which may have failed
abbrev pub LastFails : Device → List Event → Type 0
LastFails x [] = Unit {0}
LastFails x (e ∷ L) = (is_listing e ≡ false) × (((device_of e ≡ x) × (L ≡ [])) ⊎ ((has_failed e ≡ false) × LastFails x L))

pub none_then : (A B : List Event) → NoneFails A → NoneFails B → NoneFails (A ++ B)
none_then [] B a b = b
none_then (e ∷ A) B a b = (a.0, none_then A B a.1 b)

pub last_then : (x : Device) (A B : List Event) → NoneFails A → LastFails x B → LastFails x (A ++ B)
last_then x [] B a b = b
last_then x (e ∷ A) B a b = (a.0.1, inr (a.0.0, last_then x A B a.1 b))

-- they list nothing
pub none_lists : (L : List Event) → NoneFails L → NoListing L
none_lists [] n = tt
none_lists (e ∷ L) n = (n.0.1, none_lists L n.1)

pub last_lists : (x : Device) (L : List Event) → LastFails x L → NoListing L
last_lists x [] l = tt
last_lists x (e ∷ L) (plain, inl last) = (plain, subst NoListing (sym last.1) tt)
last_lists x (e ∷ L) (plain, inr more) = (plain, last_lists x L more.1)

-- ---- calls in their order

-- a call on this device, which lists nothing
abbrev pub IsCallOn : Device → (Bool → Event) → Type 0
IsCallOn x c = IsAnswered (c true) × (is_listing (c false) ≡ false) × (device_of (c false) ≡ x)

abbrev pub AreCallsOn : Device → List (Bool → Event) → Type 0
AreCallsOn x [] = Unit {0}
AreCallsOn x (c ∷ cs) = IsCallOn x c × AreCallsOn x cs

pub ran_none : (x : Device) (cs : List (Bool → Event)) (L : List Event) → AreCallsOn x cs → Ran cs true L → NoneFails L
unfolding Ran
ran_none x [] L on ran = subst NoneFails (sym ran) tt
ran_none x (c ∷ cs) L on (rest, is, ran) = subst NoneFails (sym is) (on.0.0, ran_none x cs rest on.1 ran)

pub ran_last : (x : Device) (cs : List (Bool → Event)) (L : List Event) → AreCallsOn x cs → Ran cs false L → LastFails x L
unfolding Ran
ran_last x [] L on ran = absurd ran
ran_last x (c ∷ cs) L on (inl none) = subst (LastFails x) (sym none) tt
ran_last x (c ∷ cs) L on (inr (inl one)) = subst (LastFails x) (sym one) (on.0.1, inl (on.0.2, refl))
ran_last x (c ∷ cs) L on (inr (inr (rest, is, ran))) = subst (LastFails x) (sym is) (on.0.0.1, inr (on.0.0.0, ran_last x cs rest on.1 ran))

module _ (d : ℕ) where
  removals_on : (paths : List (List ℕ)) (cs : List (Bool → Event)) → AreCallsOn (Drive d) cs → AreCallsOn (Drive d) (removals d paths ++ cs)
  removals_on [] cs on = on
  removals_on (path ∷ paths) cs on = (((refl, refl), refl, refl), removals_on paths cs on)

  pub tidy_on : (paths : List (List ℕ)) → AreCallsOn (Drive d) (removals d paths)
  tidy_on [] = tt
  tidy_on (path ∷ paths) = (((refl, refl), refl, refl), tidy_on paths)

  pub begin_on : (paths : List (List ℕ)) (to bytes : List ℕ) → AreCallsOn (Drive d) (removals d paths ++ publish_calls d to bytes)
  begin_on paths to bytes = removals_on paths (publish_calls d to bytes) (((refl, refl), refl, refl), (((refl, refl), refl, refl), (((refl, refl), refl, refl), (((refl, refl), refl, refl), tt))))

  pub place_on : (gate : ℕ) (path piece : List ℕ) → AreCallsOn (Drive d) (place_calls d gate path piece ++ open_calls d gate)
  place_on gate path piece = (((refl, refl), refl, refl), (((refl, refl), refl, refl), (((refl, refl), refl, refl), (((refl, refl), refl, refl), (((refl, refl), refl, refl), tt)))))

  writes_on : (at : ℕ) (parts : List (List ℕ)) (cs : List (Bool → Event)) → AreCallsOn (Drive d) cs → AreCallsOn (Drive d) (writes_from d at parts ++ cs)
  writes_on at [] cs on = on
  writes_on at (part ∷ parts) cs on = (((refl, refl), refl, refl), writes_on (at + length part) parts cs on)

  pub drafts_on : (parts : List (List ℕ)) → AreCallsOn (Drive d) (drafting d parts)
  drafts_on parts = writes_on 0 parts (sync_call d ∷ []) (((refl, refl), refl, refl), tt)

  pub naming_on : (list : List ℕ) → AreCallsOn (Drive d) (naming d list)
  naming_on list = (((refl, refl), refl, refl), (((refl, refl), refl, refl), tt))

  pub sync_on : AreCallsOn (Drive d) (sync_call d ∷ [])
  sync_on = (((refl, refl), refl, refl), tt)

  pub write_on : (path : List ℕ) (at : ℕ) (bytes : List ℕ) → AreCallsOn (Drive d) (write_call d path at bytes ∷ [])
  write_on path at bytes = (((refl, refl), refl, refl), tt)

-- ---- reads of a file, each where the one before ended

gave_answered : (f : File) (at asked : ℕ) (bytes : List ℕ) → IsAnswered (gave f at asked bytes)
gave_answered (OnCard s path) at asked bytes = (refl, refl)
gave_answered (OnDrive d path) at asked bytes = (refl, refl)

absent_answered : (f : File) (at asked : ℕ) (e : Event) → IsAbsent f at asked e → IsAnswered e
absent_answered (OnCard s path) at asked e is = absurd is
absent_answered (OnDrive d path) at asked e is = subst IsAnswered (sym is) (refl, refl)

pub tiles_none : (f : File) (at : ℕ) (L : List Event) (bytes : List ℕ) → Tiles f at L bytes → NoneFails L
unfolding Tiles
tiles_none f at [] bytes t = tt
tiles_none f at (e ∷ L) bytes (first, rest, piece, is, more) = (subst IsAnswered (sym piece.is) (gave_answered f at piece.asked first), tiles_none f (at + length first) L rest more)

gave_none : (f : File) (at : ℕ) (L : List Event) → GaveNone f at L → NoneFails L
gave_none f at L (asked, more, e, is, inl gave) = subst NoneFails (sym is) (subst IsAnswered (sym gave) (gave_answered f at asked []), tt)
gave_none f at L (asked, more, e, is, inr absent) = subst NoneFails (sym is) (absent_answered f at asked e absent, tt)

pub ends_none : (f : File) (at want : ℕ) (bytes : List ℕ) (L : List Event) → EndsAt f at want bytes L → NoneFails L
ends_none f at want bytes L (short, t) = subst NoneFails (sym t.is) (none_then t.first t.second (tiles_none f at t.first bytes t.here) (gave_none f (at + length bytes) t.second t.there))

gathered_none : (f : File) (at want : ℕ) (bytes : List ℕ) (L : List Event) → Gathered f at want bytes L → NoneFails L
gathered_none f at want bytes L (inl (full, tiles)) = tiles_none f at L bytes tiles
gathered_none f at want bytes L (inr ends) = ends_none f at want bytes L ends

failed_plain : (f : File) (at asked : ℕ) → is_listing (failed f at asked) ≡ false
failed_plain (OnCard s path) at asked = refl
failed_plain (OnDrive d path) at asked = refl

failed_on : (f : File) (at asked : ℕ) → device_of (failed f at asked) ≡ device f
failed_on (OnCard s path) at asked = refl
failed_on (OnDrive d path) at asked = refl

may_last : (f : File) (at : ℕ) (L : List Event) → MayFail f at L → LastFails (device f) L
may_last f at L (inl none) = subst (LastFails (device f)) (sym none) tt
may_last f at L (inr (asked, is)) = subst (LastFails (device f)) (sym is) (failed_plain f at asked, inl (failed_on f at asked, refl))

pub cut_last : (f : File) (at want : ℕ) (L : List Event) → CutAt f at want L → LastFails (device f) L
cut_last f at want L (bytes, short, t) =
    subst (LastFails (device f)) (sym t.is) (last_then (device f) t.first t.second (tiles_none f at t.first bytes t.here) (may_last f (at + length bytes) t.second t.there))

-- ---- a block is brought to a part

module _ (d at : ℕ) (bytes : List ℕ) (L : List Event) where
  mend_none : MendCalls d at bytes true L → NoneFails L
  mend_none (found, other, t) =
      subst NoneFails (sym t.is) (none_then t.first t.second (gathered_none (OnDrive d part_path) at (length bytes) found t.first t.here)
      (ran_none (Drive d) (write_call d part_path at bytes ∷ []) t.second (write_on d part_path at bytes) t.there))

  mend_last : MendCalls d at bytes false L → LastFails (Drive d) L
  mend_last (found, other, t) =
      subst (LastFails (Drive d)) (sym t.is) (last_then (Drive d) t.first t.second (gathered_none (OnDrive d part_path) at (length bytes) found t.first t.here)
      (ran_last (Drive d) (write_call d part_path at bytes ∷ []) t.second (write_on d part_path at bytes) t.there))

  pub put_none : (keeps still : Bool) → WriteCalls keeps still true d at bytes L → NoneFails L
  put_none false still calls = ran_none (Drive d) (write_call d part_path at bytes ∷ []) L (write_on d part_path at bytes) calls
  put_none true true calls = tiles_none (OnDrive d part_path) at L bytes calls
  put_none true false calls = mend_none calls

  pub put_last : (keeps still : Bool) → WriteCalls keeps still false d at bytes L → LastFails (Drive d) L
  put_last false still calls = ran_last (Drive d) (write_call d part_path at bytes ∷ []) L (write_on d part_path at bytes) calls
  put_last true true (inl cut) = cut_last (OnDrive d part_path) at (length bytes) L cut
  put_last true true (inr mend) = mend_last mend
  put_last true false (inl cut) = cut_last (OnDrive d part_path) at (length bytes) L cut
  put_last true false (inr mend) = mend_last mend
