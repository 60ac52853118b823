-- A drive after one call more.
use Rattle.std.proofs.Common.{◌≡◌, ℕ, true, false, cond, List, [], ◌∷◌, ◌++◌, refl, sym, ◌∙◌, ap, subst, ◌+◌, ◌<◌, take, length, get_or}
use Rattle.std.proofs.lemmas.List.{take_more}
use Rattle.bay_core.specs.declared.event.Event.{Event}
use Rattle.bay_core.specs.declared.event.Event.TheVariants.{AttachSource, AttachDrive, AttachFailed, SourceList, SourceRead, DriveList, DriveRead, Write, Sync, Rename, Remove, Moment, Pick, Say}
use Rattle.bay_core.specs.Map.{Map}
use Rattle.bay_core.specs.Replay.{device_of, is_on, calls_on, changed, replayed, reads}
use Rattle.bay_core.specs.Left.{LeftAfter, LeftBy, Left}
use Rattle.bay_core.proofs.Replays.{calls_elsewhere, reads-append, reads_by_calls}
use Rattle.bay_core.proofs.Rest.{left_two, left_same}
use Rattle.bay_mem.specs.Image.{Leads, Stands}

-- nothing was called
pub stands_first : (m : Map) (d : ℕ) → Stands m [] d m m
unfolding reads Left
stands_first m d = record { read_is = refl; is_left = refl }

-- one call elsewhere
pub stands_still : (m : Map) (L : List Event) (e : Event) (d : ℕ) (read left : Map) → is_on d (device_of e) ≡ false → Stands m L d read left → Stands m (L ++ e ∷ []) d read left
stands_still m L e d read left off s = record {
  read_is = s.read_is ∙ reads_by_calls m L (L ++ e ∷ []) d (sym (calls_elsewhere L e d off));
  is_left = left_same m L (L ++ e ∷ []) d left (sym (calls_elsewhere L e d off)) s.is_left;
}

leads_left : (e : Event) (R : Map) (S : Map → Type 0) (I J : Map) → S I → Leads e R I J → LeftAfter e R S J
leads_left (Sync d true) R S I J s is = is
leads_left (Sync d false) R S I J s is = subst S (sym is) s
leads_left (Write d path at bytes ok) R S I J s torn = (I, s, torn)
leads_left (Rename d from to ok) R S I J s torn = (I, s, torn)
leads_left (Remove d path ok) R S I J s torn = (I, s, torn)
leads_left (AttachSource n place) R S I J s torn = (I, s, torn)
leads_left (AttachDrive d place) R S I J s torn = (I, s, torn)
leads_left (AttachFailed place) R S I J s torn = (I, s, torn)
leads_left (SourceList n got) R S I J s torn = (I, s, torn)
leads_left (SourceRead n path at want got) R S I J s torn = (I, s, torn)
leads_left (DriveList d got) R S I J s torn = (I, s, torn)
leads_left (DriveRead d path at want got) R S I J s torn = (I, s, torn)
leads_left (Moment t) R S I J s torn = (I, s, torn)
leads_left (Pick n) R S I J s torn = (I, s, torn)
leads_left (Say line ok) R S I J s torn = (I, s, torn)

-- one call on the drive
pub stands_next : (m : Map) (L : List Event) (e : Event) (d : ℕ) (read left next other : Map) → is_on d (device_of e) ≡ true → Stands m L d read left → next ≡ changed read e → Leads e read left other → Stands m (L ++ e ∷ []) d next other
stands_next m L e d read left next other on s is leads =
    let one : calls_on d (e ∷ []) ≡ e ∷ [] = ap (λ b. cond b (e ∷ []) []) on in
    record {
      read_is = is ∙ ap (λ r. changed r e) s.read_is ∙ ap (replayed (reads m L d)) (sym one) ∙ sym (reads-append m L (e ∷ []) d);
      is_left = left_two m L (e ∷ []) d other
          (subst (λ K. LeftBy K (reads m L d) (Left m L d) other) (sym one)
          (leads_left e (reads m L d) (Left m L d) left other s.is_left (subst (λ r. Leads e r left other) s.read_is leads)));
    }

pub stands_from : (m : Map) (d : ℕ) (read left : Map) → read ≡ m → left ≡ m → Stands m [] d read left
stands_from m d read left one two = subst (λ r. Stands m [] d r left) (sym one) (subst (λ l. Stands m [] d m l) (sym two) (stands_first m d))

next_part : (L : List Event) (i : ℕ) (e : Event) → i < length L → e ≡ get_or L i e → take i L ++ e ∷ [] ≡ take (i + 1) L
next_part L i e within is = sym (take_more L i e within ∙ ap (λ y. take i L ++ y ∷ []) (sym is))

-- the next call, elsewhere
pub stands_still_at : (m : Map) (L : List Event) (i : ℕ) (e : Event) (d : ℕ) (read left : Map) → i < length L → e ≡ get_or L i e → false ≡ is_on d (device_of e) → Stands m (take i L) d read left → Stands m (take (i + 1) L) d read left
stands_still_at m L i e d read left within is off s = subst (λ K. Stands m K d read left) (next_part L i e within is) (stands_still m (take i L) e d read left (sym off) s)

-- the next call, on the drive
pub stands_next_at : (m : Map) (L : List Event) (i : ℕ) (e : Event) (d : ℕ) (read left next other : Map) → i < length L → e ≡ get_or L i e → true ≡ is_on d (device_of e) → Stands m (take i L) d read left → next ≡ changed read e
    → Leads e read left other → Stands m (take (i + 1) L) d next other
stands_next_at m L i e d read left next other within is on s reads_so leads = subst (λ K. Stands m K d next other) (next_part L i e within is) (stands_next m (take i L) e d read left next other (sym on) s reads_so leads)
