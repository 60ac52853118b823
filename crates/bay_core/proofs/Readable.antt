-- The map that is read is one of those that are left.
use Rattle.std.proofs.Common.{◌≡◌, inl, inr, ℕ, true, false, List, [], ◌∷◌, refl}
use Rattle.bay_core.specs.declared.event.Event.{Event}
use Rattle.bay_core.specs.declared.event.Event.TheVariants.{AttachSource, AttachDrive, AttachFailed, SourceList, SourceRead, DriveList, DriveRead, Write, Sync, Rename, Remove, Moment, Pick, Say}
use Rattle.bay_core.specs.Map.{Map, content, overwritten}
use Rattle.bay_core.specs.Replay.{changed, replayed, reads, calls_on}
use Rattle.bay_core.specs.Torn.{Torn}
use Rattle.bay_core.specs.Left.{LeftAfter, LeftBy, Left}
use Rattle.bay_core.proofs.Files.{overwritten_torn}

-- a call done whole is one of its torn outcomes
pub changed_torn : (e : Event) (m : Map) → Torn e m (changed m e)
changed_torn (Write d path at bytes true) m = inr (overwritten (content m path) at bytes, overwritten_torn (content m path) at bytes, refl)
changed_torn (Write d path at bytes false) m = inl refl
changed_torn (Rename d from to true) m = inr (inl refl)
changed_torn (Rename d from to false) m = inl refl
changed_torn (Remove d path true) m = inr refl
changed_torn (Remove d path false) m = inl refl
changed_torn (AttachDrive d place) m = refl
changed_torn (AttachSource n place) m = refl
changed_torn (SourceList n got) m = refl
changed_torn (SourceRead n path at want got) m = refl
changed_torn (AttachFailed place) m = refl
changed_torn (DriveList d got) m = refl
changed_torn (DriveRead d path at want got) m = refl
changed_torn (Sync d ok) m = refl
changed_torn (Moment t) m = refl
changed_torn (Pick n) m = refl
changed_torn (Say line ok) m = refl

after_reads : (e : Event) (R : Map) (S : Map → Type 0) → S R → LeftAfter e R S (changed R e)
after_reads (Sync d true) R S s = refl
after_reads (Sync d false) R S s = s
after_reads (AttachDrive d place) R S s = (R, s, refl)
after_reads (AttachSource n place) R S s = (R, s, refl)
after_reads (SourceList n got) R S s = (R, s, refl)
after_reads (SourceRead n path at want got) R S s = (R, s, refl)
after_reads (AttachFailed place) R S s = (R, s, refl)
after_reads (DriveList d got) R S s = (R, s, refl)
after_reads (DriveRead d path at want got) R S s = (R, s, refl)
after_reads (Write d path at bytes ok) R S s = (R, s, changed_torn (Write d path at bytes ok) R)
after_reads (Rename d from to ok) R S s = (R, s, changed_torn (Rename d from to ok) R)
after_reads (Remove d path ok) R S s = (R, s, changed_torn (Remove d path ok) R)
after_reads (Moment t) R S s = (R, s, refl)
after_reads (Pick n) R S s = (R, s, refl)
after_reads (Say line ok) R S s = (R, s, refl)

reads_by : (L : List Event) (R : Map) (S : Map → Type 0) → S R → LeftBy L R S (replayed R L)
reads_by [] R S s = s
reads_by (e ∷ L) R S s = reads_by L (changed R e) (LeftAfter e R S) (after_reads e R S s)

pub reads_left : (m : Map) (L : List Event) (d : ℕ) → Left m L d (reads m L d)
unfolding Left reads
reads_left m L d = reads_by (calls_on d L) m (λ J. J ≡ m) refl
