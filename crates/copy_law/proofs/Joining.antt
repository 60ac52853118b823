-- The calls of a copy, as steps of the offload of a drive.
use Rattle.std.proofs.Common.{◌≡◌, ◌≢◌, inl, inr, ℕ, Bool, true, false, cond, List, [], ◌∷◌, ◌++◌, refl, sym, ap, ◌∙◌, subst}
use Rattle.std.specs.FinMap.{get}
use Rattle.std.proofs.lemmas.Bool.{cases_eq, false≢true}
use Rattle.bay_core.specs.declared.event.Event.{Event}
use Rattle.bay_core.specs.declared.event.Event.TheVariants.{AttachSource, AttachDrive, AttachFailed, SourceList, SourceRead, DriveList, DriveRead, Write, Sync, Rename, Remove, Moment, Pick, Say}
use Rattle.bay_core.specs.Map.{Map, content, overwritten}
use Rattle.bay_core.specs.Paths.{part_path, IsScratch}
use Rattle.bay_core.specs.Replay.{Device, Drive, Output, device_of, is_on, reads, changed}
use Rattle.bay_core.specs.World.{World}
use Rattle.bay_core.specs.Went.{Went}
use Rattle.bay_core.proofs.Maps.{insert_other}
use Rattle.bay_core.proofs.Runs.{told_behind}
use Rattle.bay_core.proofs.Replays.{reads-append}
use Rattle.crash_law.specs.Protocol.{State, Settled, Preparing, reached, MayPrepare, Step, elsewhere, passes, prepares, Leads, told_after, Announced, read_after}
use Rattle.crash_law.proofs.Calls.{in-append, told-append, reads-cons}
use Rattle.crash_law.proofs.Staying.{went_elsewhere}
use Rattle.fan_core.specs.Flags.{has}
use Rattle.fan_copier.specs.Turning.{Touches, IsCopyCall, AreCopyCalls}
use Rattle.copy_plan.specs.Plan.{PlanValue}
use Rattle.offload_law.specs.Stages.{Offload, Stage, Fresh, Begun, Sealed, progress}
use Rattle.offload_law.specs.Steps.{offload, IsFree}
use Rattle.recording.specs.Drives.{ToldOf}
use Rattle.copy_law.specs.Keeping.{CopyKeeps}

-- a scratch path does not count at any stage
scratch_free : (p : PlanValue) (s : Stage) (q : List ℕ) → IsScratch q → IsFree p s q
scratch_free p Fresh q is = is
scratch_free p (Begun recs) q is = inl is
scratch_free p (Sealed recs finish) q is = is

-- a call of a copy is no line
copy_quiet : (s : ℕ) (path : List ℕ) (e : Event) → IsCopyCall s path e → device_of e ≡ Output → ⊥
copy_quiet s path (Pick p) is on = absurd (cc on)
copy_quiet s path (SourceRead n read at want got) is on = absurd (cc on)
copy_quiet s path (DriveRead n read at want got) is on = absurd (cc on)
copy_quiet s path (Write n written at bytes ok) is on = absurd (cc on)
copy_quiet s path (AttachSource n place) is on = absurd is
copy_quiet s path (AttachDrive n place) is on = absurd is
copy_quiet s path (AttachFailed place) is on = absurd is
copy_quiet s path (SourceList n got) is on = absurd is
copy_quiet s path (DriveList n got) is on = absurd is
copy_quiet s path (Sync n ok) is on = absurd is
copy_quiet s path (Rename n from to ok) is on = absurd is
copy_quiet s path (Remove n path2 ok) is on = absurd is
copy_quiet s path (Moment t) is on = absurd is
copy_quiet s path (Say line ok) is on = absurd is

module _ (o : Offload) (base : Map) (d : ℕ) (s : ℕ) (path : List ℕ) where
  -- where one call leads a drive
  record Leads1 (told : ℕ) (m : Map) (x : State (offload d o base)) (e : Event) : Type 0 where
    to : State (offload d o base)
    step : Step (offload d o base) d told m x e to
    free : MayPrepare to
    at : reached to ≡ reached x
    told_same : told_after (offload d o base) e told ≡ told

  away : (told : ℕ) (m : Map) (x : State (offload d o base)) (e : Event) → MayPrepare x → (device_of e ≡ Drive d → ⊥) → (device_of e ≡ Output → ⊥) → told_after (offload d o base) e told ≡ told → Leads1 told m x e
  away told m x e may off quiet same = record { to = x; step = elsewhere (record { drive = off; output = quiet }); free = may; at = refl; told_same = same }

  other_drive : (n : ℕ) → (n ≡ d → ⊥) → Drive n ≡ Drive d → ⊥
  other_drive n ne is = ne (cc is)

  one_call : (told : ℕ) (m : Map) (x : State (offload d o base)) (e : Event) → MayPrepare x → IsCopyCall s path e → Leads1 told m x e
  one_call told m x (Pick p) may is = away told m x (Pick p) may (λ on. absurd (cc on)) (λ on. absurd (cc on)) refl
  one_call told m x (SourceRead n read at want got) may is = away told m x (SourceRead n read at want got) may (λ on. absurd (cc on)) (λ on. absurd (cc on)) refl
  one_call told m x (DriveRead n read at want got) may is = elim (cases_eq n d) [
    | inl same ↦ record { to = x; step = passes (ap Drive same) refl; free = may; at = refl; told_same = refl }
    | inr differ ↦ away told m x (DriveRead n read at want got) may (other_drive n differ) (λ on. absurd (cc on)) refl
  ]
  one_call told m x (Write n written at bytes ok) may is = elim (cases_eq n d) [
    | inl same ↦ record {
      to = Preparing (reached x);
      step = prepares (ap Drive same) may (inl (scratch_free o.plan (reached x) written (inr is)));
      free = tt;
      at = refl;
      told_same = refl;
    }
    | inr differ ↦ away told m x (Write n written at bytes ok) may (other_drive n differ) (λ on. absurd (cc on)) refl
  ]
  one_call told m x (AttachSource n place) may is = absurd is
  one_call told m x (AttachDrive n place) may is = absurd is
  one_call told m x (AttachFailed place) may is = absurd is
  one_call told m x (SourceList n got) may is = absurd is
  one_call told m x (DriveList n got) may is = absurd is
  one_call told m x (Sync n ok) may is = absurd is
  one_call told m x (Rename n from to ok) may is = absurd is
  one_call told m x (Remove n path2 ok) may is = absurd is
  one_call told m x (Moment t) may is = absurd is
  one_call told m x (Say line ok) may is = absurd is

  -- where the calls of a copy lead a drive
  pub record LeadsAll (told : ℕ) (m : Map) (x : State (offload d o base)) (L : List Event) : Type 0 where
    pub to : State (offload d o base)
    pub leads : Leads (offload d o base) d told m x L to
    pub free : MayPrepare to
    pub at : reached to ≡ reached x
    pub told_same : Announced (offload d o base) told L ≡ told

  pub all_calls : (L : List Event) (told : ℕ) (m : Map) (x : State (offload d o base)) → MayPrepare x → AreCopyCalls s path L → LeadsAll told m x L
  unfolding AreCopyCalls
  all_calls [] told m x may are = record { to = x; leads = refl; free = may; at = refl; told_same = refl }
  all_calls (e ∷ L) told m x may are =
      let one = one_call told m x e may are.0 in
      let rest = all_calls L (told_after (offload d o base) e told) (read_after d m e) one.to one.free are.1 in
      record { to = rest.to; leads = (one.to, one.step, rest.leads); free = rest.free; at = rest.at ∙ one.at; told_same = rest.told_same ∙ one.told_same }

-- what a read gives beside the part
module _ (d : ℕ) (s : ℕ) (path : List ℕ) (q : List ℕ) (other : q ≢ part_path) where
  changed_beside : (m : Map) (e : Event) → IsCopyCall s path e → get (changed m e) q ≡ get m q
  changed_beside m (Pick p) is = refl
  changed_beside m (SourceRead n read at want got) is = refl
  changed_beside m (DriveRead n read at want got) is = refl
  changed_beside m (Write n written at bytes true) is = insert_other m written (overwritten (content m written) at bytes) q (λ e. other (e ∙ is))
  changed_beside m (Write n written at bytes false) is = refl
  changed_beside m (AttachSource n place) is = absurd is
  changed_beside m (AttachDrive n place) is = absurd is
  changed_beside m (AttachFailed place) is = absurd is
  changed_beside m (SourceList n got) is = absurd is
  changed_beside m (DriveList n got) is = absurd is
  changed_beside m (Sync n ok) is = absurd is
  changed_beside m (Rename n from to ok) is = absurd is
  changed_beside m (Remove n path2 ok) is = absurd is
  changed_beside m (Moment t) is = absurd is
  changed_beside m (Say line ok) is = absurd is

  after_beside : (m : Map) (e : Event) → IsCopyCall s path e → get (read_after d m e) q ≡ get m q
  after_beside m e is = by (is_on d (device_of e))
    where
      by : (b : Bool) → get (cond b (changed m e) m) q ≡ get m q
      by true = changed_beside m e is
      by false = refl

  pub reads_beside : (L : List Event) (m : Map) → AreCopyCalls s path L → get (reads m L d) q ≡ get m q
  unfolding AreCopyCalls reads
  reads_beside [] m are = refl
  reads_beside (e ∷ L) m are = ap (λ (n : Map). get n q) (reads-cons m e L d) ∙ reads_beside L (read_after d m e) are.1 ∙ after_beside m e are.0

-- the output and any drive that is not of the copy are not touched
off_drive : (s : ℕ) (live : List Bool) (d : ℕ) → has live d ≡ false → (y : Device) → Touches s live y → y ≡ Drive d → ⊥
off_drive s live d out y (inl card) is = absurd (cc (sym card ∙ is))
off_drive s live d out y (inr (inl pick)) is = absurd (cc (sym pick ∙ is))
off_drive s live d out y (inr (inr (e, live_e, drive))) is =
    let both : Drive e ≡ Drive d = sym drive ∙ is in
    let same : e ≡ d = cc both in
    false≢true (sym out ∙ subst (λ (j : ℕ). has live j ≡ true) same live_e)

off_output : (s : ℕ) (live : List Bool) (y : Device) → Touches s live y → y ≡ Output → ⊥
off_output s live y (inl card) is = absurd (cc (sym card ∙ is))
off_output s live y (inr (inl pick)) is = absurd (cc (sym pick ∙ is))
off_output s live y (inr (inr (e, live_e, drive))) is = absurd (cc (sym drive ∙ is))

still_beside : (d : ℕ) (s : ℕ) (path : List ℕ) (m : Map) (before all since : List Event) (q : List ℕ) → q ≢ part_path → all ≡ before ++ since → AreCopyCalls s path since → get (reads m all d) q ≡ get (reads m before d) q
unfolding reads
still_beside d s path m before all since q other is such =
    ap (λ (K : List Event). get (reads m K d) q) is ∙ ap (λ (n : Map). get n q) (reads-append m before since d) ∙ reads_beside d s path q other since (reads m before d) such

pub copy_keeps : (s : ℕ) (live : List Bool) (path : List ℕ) (old new : World) → Went (Touches s live) (AreCopyCalls s path) old new → CopyKeeps live old new
copy_keeps s live path old new w = record {
  under_way = λ d D recs past before all was now h.
      let P = offload d D.work D.start in
      let t = told_behind w past before all was now in
      let l = all_calls D.work D.start d s path t.since (ToldOf D d before) (reads D.start before d) h.state h.free t.such in (
        record {
          state = l.to;
          is_in = subst (λ (K : List Event). Leads P d (progress D.work.plan D.stage) D.start (Settled D.stage) K l.to) (sym t.is) (in-append P d D.start D.stage before t.since h.state l.to h.is_in l.leads);
          free = l.free;
          at = l.at ∙ h.at;
        },
        ap (ToldOf D d) t.is ∙ told-append P d before t.since (progress D.work.plan D.stage) ∙ l.told_same,
      );
  beside = λ d m past before all was now q other.
      let t = told_behind w past before all was now in
      still_beside d s path m before all t.since q other t.is t.such;
  others = λ d out D. went_elsewhere (offload d D.work D.start) d (Touches s live) w (off_drive s live d out) (off_output s live);
}
