-- What a change that may be torn leaves at the other paths.
use Rattle.std.proofs.Common.{◌≡◌, ◌⊎◌, inl, inr, ℕ, Bool, List, Some, sym, ap, ◌∙◌, subst}
use Rattle.std.specs.FinMap.{get}
use Rattle.bay_core.specs.declared.event.Event.{Event}
use Rattle.bay_core.specs.declared.event.Event.TheVariants.{AttachSource, AttachDrive, AttachFailed, SourceList, SourceRead, DriveList, DriveRead, Write, Sync, Rename, Remove, Moment, Pick, Say}
use Rattle.bay_core.specs.Map.{Map, moved, copied}
use Rattle.bay_core.specs.Torn.{Torn}
use Rattle.bay_core.proofs.Maps.{insert_other, remove_other, moved_here, copied_here, moved_other, copied_other}

-- the paths that a call may change
abbrev pub Changes : Event → List ℕ → Type 0
Changes (Write d path at bytes ok) q = q ≡ path
Changes (Rename d from to ok) q = (q ≡ from) ⊎ (q ≡ to)
Changes (Remove d path ok) q = q ≡ path
Changes _ q = ⊥

-- a file stands under its new name, and maybe under the old one too
pub record Renamed (m new : Map) (from to : List ℕ) : Type 0 where
  pub here : (c : List ℕ) → get m from ≡ Some c → get new to ≡ Some c
  pub other : (q : List ℕ) → (q ≡ from → ⊥) → (q ≡ to → ⊥) → get new q ≡ get m q

pub moved_renamed : (m : Map) (from to : List ℕ) → Renamed m (moved m from to) from to
moved_renamed m from to = record { here = moved_here m from to; other = moved_other m from to }

pub copied_renamed : (m : Map) (from to : List ℕ) → Renamed m (copied m from to) from to
copied_renamed m from to = record { here = copied_here m from to; other = λ q a b. copied_other m from to q b }

-- a rename that was torn left the map, or the file under its new name
pub torn_renamed : (d : ℕ) (ok : Bool) (m new : Map) (from to : List ℕ) → Torn (Rename d from to ok) m new → (new ≡ m) ⊎ Renamed m new from to
torn_renamed d ok m new from to (inl same) = inl same
torn_renamed d ok m new from to (inr (inl is)) = inr (subst (λ (n : Map). Renamed m n from to) (sym is) (moved_renamed m from to))
torn_renamed d ok m new from to (inr (inr is)) = inr (subst (λ (n : Map). Renamed m n from to) (sym is) (copied_renamed m from to))

pub torn_other : (e : Event) (m new : Map) → Torn e m new → (q : List ℕ) → (Changes e q → ⊥) → get new q ≡ get m q
torn_other (Write d path at bytes ok) m new (inl e) q h = ap (λ (f : Map). get f q) e
torn_other (Write d path at bytes ok) m new (inr w) q h = ap (λ (f : Map). get f q) w.2 ∙ insert_other m path w.0 q h
torn_other (Rename d from to ok) m new (inl e) q h = ap (λ (f : Map). get f q) e
torn_other (Rename d from to ok) m new (inr (inl e)) q h = ap (λ (f : Map). get f q) e ∙ moved_other m from to q (λ k. h (inl k)) (λ k. h (inr k))
torn_other (Rename d from to ok) m new (inr (inr e)) q h = ap (λ (f : Map). get f q) e ∙ copied_other m from to q (λ k. h (inr k))
torn_other (Remove d path ok) m new (inl e) q h = ap (λ (f : Map). get f q) e
torn_other (Remove d path ok) m new (inr e) q h = ap (λ (f : Map). get f q) e ∙ remove_other m path q h
torn_other (AttachDrive d place) m new t q h = ap (λ (f : Map). get f q) t
torn_other (AttachSource n place) m new t q h = ap (λ (f : Map). get f q) t
torn_other (SourceList n got) m new t q h = ap (λ (f : Map). get f q) t
torn_other (SourceRead n path at want got) m new t q h = ap (λ (f : Map). get f q) t
torn_other (AttachFailed place) m new t q h = ap (λ (f : Map). get f q) t
torn_other (DriveList d got) m new t q h = ap (λ (f : Map). get f q) t
torn_other (DriveRead d path at want got) m new t q h = ap (λ (f : Map). get f q) t
torn_other (Sync d ok) m new t q h = ap (λ (f : Map). get f q) t
torn_other (Moment t0) m new t q h = ap (λ (f : Map). get f q) t
torn_other (Pick n) m new t q h = ap (λ (f : Map). get f q) t
torn_other (Say line ok) m new t q h = ap (λ (f : Map). get f q) t
