-- What a change leaves of files, done whole or with other bytes.
use Rattle.std.proofs.Common.{◌≡◌, inl, inr, ℕ, Bool, true, List, length, refl, sym, ◌∙◌, ap, subst}
use Rattle.std.specs.Prelude.{Some, Result, Ok, Err, OnOk}
use Rattle.std.specs.FinMap.{get, insert}
use Rattle.bay_core.specs.declared.event.Event.{Event}
use Rattle.bay_core.specs.declared.event.Event.TheVariants.{AttachSource, AttachDrive, AttachFailed, SourceList, SourceRead, DriveList, DriveRead, Write, Sync, Rename, Remove, Moment, Pick, Say}
use Rattle.bay_mem.specs.Files.{Files, Becomes, with_file}
use Rattle.bay_mem.specs.Image.{done}
use Rattle.bay_core.specs.Map.{Map, content, overwritten, moved, copied}
use Rattle.bay_core.specs.Torn.{TornFile, Torn}
use Rattle.bay_core.proofs.Files.{overwritten_torn}
use Rattle.bay_core.proofs.Maps.{copied_file}

-- a write of as many bytes at this place
pub write_leaves : (d : ℕ) (path : List ℕ) (at : ℕ) (bytes other : List ℕ) (ok : Bool) (name : List ℕ) (I J : Map) → name ≡ path → length other ≡ length bytes
    → J ≡ insert I name (overwritten (content I name) at other) → Torn (Write d path at bytes ok) I J
write_leaves d path at bytes other ok name I J same long is = inr (
  overwritten (content I path) at other,
  subst (λ n. TornFile at n (content I path) (overwritten (content I path) at other)) long (overwritten_torn (content I path) at other),
  is ∙ ap (λ p. insert I p (overwritten (content I p) at other)) same,
)

-- a change made whole is one of its torn outcomes
pub done_torn : (e : Event) (m : Map) → Torn e m (done e m)
done_torn (Write d path at bytes ok) m = inr (overwritten (content m path) at bytes, overwritten_torn (content m path) at bytes, refl)
done_torn (Rename d from to ok) m = inr (inl refl)
done_torn (Remove d path ok) m = inr refl
done_torn (AttachSource s place) m = refl
done_torn (AttachDrive d place) m = refl
done_torn (AttachFailed place) m = refl
done_torn (SourceList s got) m = refl
done_torn (SourceRead s path at want got) m = refl
done_torn (DriveList d got) m = refl
done_torn (DriveRead d path at want got) m = refl
done_torn (Sync d ok) m = refl
done_torn (Moment t) m = refl
done_torn (Pick n) m = refl
done_torn (Say line ok) m = refl

-- a change undone is one of its torn outcomes
pub undone_torn : (e : Event) (m : Map) → Torn e m m
undone_torn (Write d path at bytes ok) m = inl refl
undone_torn (Rename d from to ok) m = inl refl
undone_torn (Remove d path ok) m = inl refl
undone_torn (AttachSource s place) m = refl
undone_torn (AttachDrive d place) m = refl
undone_torn (AttachFailed place) m = refl
undone_torn (SourceList s got) m = refl
undone_torn (SourceRead s path at want got) m = refl
undone_torn (DriveList d got) m = refl
undone_torn (DriveRead d path at want got) m = refl
undone_torn (Sync d ok) m = refl
undone_torn (Moment t) m = refl
undone_torn (Pick n) m = refl
undone_torn (Say line ok) m = refl

pub made_torn : (e : Event) (I J : Map) → J ≡ done e I → Torn e I J
made_torn e I J is = subst (Torn e I) (sym is) (done_torn e I)

-- a write, by the text of its path
pub write_done : {A E : Type 0} (r : Result A E) (e : Event) (d at : ℕ) (path bytes : List ℕ) (ok : Bool) (name other : List ℕ) (old new : Files) → e ≡ Write d path at bytes ok → name ≡ path → other ≡ bytes
    → OnOk r ((d : ℕ) → Becomes (Write d name at other true) old new) → OnOk r (new.map ≡ done e old.map)
write_done (Ok x) e d at path bytes ok name other old new is named given made =
    (made 0).map ∙ ap (λ p. insert old.map p (overwritten (content old.map p) at other)) named ∙ ap (λ b. insert old.map path (overwritten (content old.map path) at b)) given ∙ ap (λ e. done e old.map) (sym is)
write_done (Err x) e d at path bytes ok name other old new is named given made = tt

pub rename_moves : {A E : Type 0} (r : Result A E) (from to : List ℕ) (old new : Files) → OnOk r ((d : ℕ) → Becomes (Rename d from to true) old new) → OnOk r (new.map ≡ moved old.map from to)
rename_moves (Ok x) from to old new made = (made 0).map
rename_moves (Err x) from to old new made = tt

-- a file was put under another name too
pub put_copies : {A E : Type 0} (r : Result A E) (from to c : List ℕ) (modified : ℕ) (old new : Files) → get old.map from ≡ Some c → OnOk r (new ≡ with_file old to c modified) → OnOk r (new.map ≡ copied old.map from to)
put_copies (Ok x) from to c modified old new there is = ap (λ (f : Files). f.map) is ∙ sym (copied_file old.map from to c there)
put_copies (Err x) from to c modified old new there is = tt
