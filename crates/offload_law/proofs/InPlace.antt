-- What the changes of sealing in place make of a map.
use Rattle.std.proofs.Common.{◌≡◌, inl, inr, ℕ, List, Some, IsTrue, refl, sym, ◌∙◌, subst}
use Rattle.bay_core.specs.declared.event.Event.{Event}
use Rattle.bay_core.specs.declared.event.Event.TheVariants.{AttachSource, AttachDrive, AttachFailed, SourceList, SourceRead, DriveList, DriveRead, Write, Sync, Rename, Remove, Moment, Pick, Say}
use Rattle.std.specs.FinMap.{get}
use Rattle.bay_core.specs.Map.{Map}
use Rattle.bay_core.specs.Torn.{Torn}
use Rattle.crash_law.specs.Protocol.{failed}
use Rattle.bay_core.specs.Looks.{is_change}
use Rattle.bay_core.proofs.Changes.{Renamed, torn_other}
use Rattle.bay_core.specs.Paths.{IsScratch, new_path}
use Rattle.offload_law.specs.InPlace.{Seal, Open, Shut, steps, IsSeal, IsWholeOrAbsent, SealPrepares, SealCommits, shuts}

module _ (list : List ℕ) (not_scratch : IsScratch list → ⊥) (Whole : List ℕ → Type 0) (base : Map) where
  scratch_keeps : (s : Seal) (m new : Map) → IsSeal list Whole base s m → ((q : List ℕ) → (IsScratch q → ⊥) → get new q ≡ get m q) → IsSeal list Whole base s new
  scratch_keeps s m new h e = record {
    at_list = e list not_scratch ∙ h.at_list;
    whole = h.whole;
    elsewhere = λ q a b. e q a ∙ h.elsewhere q a b;
  }

  pub prepared : (s : Seal) (e : Event) (m new : Map) → SealPrepares s e → IsSeal list Whole base s m → Torn e m new → IsSeal list Whole base s new
  prepared s (Write d path at piece ok) m new free h torn = scratch_keeps s m new h (λ q f. torn_other (Write d path at piece ok) m new torn q (λ e. f (subst IsScratch (sym e) free)))
  prepared s (Remove d path ok) m new free h torn = scratch_keeps s m new h (λ q f. torn_other (Remove d path ok) m new torn q (λ e. f (subst IsScratch (sym e) free)))
  prepared s (Rename d from to ok) m new free h torn = absurd free
  prepared s (AttachDrive d place) m new free h torn = absurd free
  prepared s (AttachSource n place) m new free h torn = absurd free
  prepared s (SourceList n got) m new free h torn = absurd free
  prepared s (SourceRead n path at want got) m new free h torn = absurd free
  prepared s (AttachFailed place) m new free h torn = absurd free
  prepared s (DriveList d got) m new free h torn = absurd free
  prepared s (DriveRead d path at want got) m new free h torn = absurd free
  prepared s (Moment t0) m new free h torn = absurd free
  prepared s (Sync d ok) m new free h torn = absurd free
  prepared s (Pick n) m new free h torn = absurd free
  prepared s (Say line ok) m new free h torn = absurd free

  pub shut : (m new : Map) → Renamed m new new_path list → (text : List ℕ) → get m new_path ≡ Some text → Whole text → IsSeal list Whole base Open m → IsSeal list Whole base (Shut text) new
  shut m new to text is whole h = record {
    at_list = to.here text is;
    whole = whole;
    elsewhere = λ q a b. to.other q (λ e. a (inl e)) b ∙ h.elsewhere q a b;
  }

  pub prepares_failed : (s : Seal) (e : Event) → SealPrepares s e → SealPrepares s (failed e)
  prepares_failed s (Write d path at piece ok) h = h
  prepares_failed s (Remove d path ok) h = h
  prepares_failed s (Rename d from to ok) h = absurd h
  prepares_failed s (AttachDrive d place) h = absurd h
  prepares_failed s (AttachSource n place) h = absurd h
  prepares_failed s (SourceList n got) h = absurd h
  prepares_failed s (SourceRead n path at want got) h = absurd h
  prepares_failed s (AttachFailed place) h = absurd h
  prepares_failed s (DriveList d got) h = absurd h
  prepares_failed s (DriveRead d path at want got) h = absurd h
  prepares_failed s (Moment t0) h = absurd h
  prepares_failed s (Sync d ok) h = absurd h
  prepares_failed s (Pick n) h = absurd h
  prepares_failed s (Say line ok) h = absurd h

  pub prepares_change : (s : Seal) (e : Event) → SealPrepares s e → IsTrue (is_change e)
  prepares_change s (Write d path at piece ok) h = refl
  prepares_change s (Remove d path ok) h = refl
  prepares_change s (Rename d from to ok) h = absurd h
  prepares_change s (AttachDrive d place) h = absurd h
  prepares_change s (AttachSource n place) h = absurd h
  prepares_change s (SourceList n got) h = absurd h
  prepares_change s (SourceRead n path at want got) h = absurd h
  prepares_change s (AttachFailed place) h = absurd h
  prepares_change s (DriveList d got) h = absurd h
  prepares_change s (DriveRead d path at want got) h = absurd h
  prepares_change s (Moment t0) h = absurd h
  prepares_change s (Sync d ok) h = absurd h
  prepares_change s (Pick n) h = absurd h
  prepares_change s (Say line ok) h = absurd h

  pub commits_failed : {m : Map} {s t : Seal} {e : Event} → SealCommits list Whole m s e t → SealCommits list Whole m s (failed e) t
  commits_failed (shuts is whole) = shuts is whole

  pub rises : {m : Map} {s t : Seal} {e : Event} → SealCommits list Whole m s e t → steps t ≡ 1
  rises (shuts is whole) = refl

  pub starts : {m : Map} {s t : Seal} {e : Event} → SealCommits list Whole m s e t → steps s ≡ 0
  starts (shuts is whole) = refl

  pub commits_change : {m : Map} {s t : Seal} {e : Event} → SealCommits list Whole m s e t → IsTrue (is_change e)
  commits_change (shuts is whole) = refl

  -- at each stage the list is whole or absent
  pub whole_or_absent : (s : Seal) (m : Map) → IsSeal list Whole base s m → IsWholeOrAbsent list Whole base m
  whole_or_absent Open m h = record { at_list = inl h.at_list; elsewhere = h.elsewhere }
  whole_or_absent (Shut text) m h = record { at_list = inr (text, h.at_list, h.whole); elsewhere = h.elsewhere }
