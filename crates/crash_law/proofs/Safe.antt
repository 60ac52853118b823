-- A run that keeps to a safe protocol leaves, at each moment, a stage that has every announced step and at most one more.
use Rattle.std.proofs.Common.{◌≡◌, ◌⊎◌, inl, inr, ℕ, suc, ◌≤◌, max, Bool, true, false, cond, List, [], ◌∷◌, ◌++◌, IsTrue, refl, sym, ap, ◌∙◌, subst, arith}
use Rattle.std.proofs.lemmas.Bool.{false≢true, cases_Bool}
use Rattle.std.proofs.lemmas.Bool.Decides.{nat_tests}
use Rattle.bay_core.specs.declared.event.Event.{Event}
use Rattle.bay_core.specs.declared.event.Event.TheVariants.{AttachSource, AttachDrive, AttachFailed, SourceList, SourceRead, DriveList, DriveRead, Write, Sync, Rename, Remove, Moment, Pick, Say}
use Rattle.bay_core.specs.Map.{Map}
use Rattle.bay_core.specs.Looks.{is_change}
use Rattle.bay_core.specs.Replay.{Device, Source, Drive, Attaching, Output, Clock, Picker, device_of, is_on, calls_on, changed, replayed, reads}
use Rattle.bay_core.specs.Torn.{Torn}
use Rattle.bay_core.specs.Left.{LeftAfter, LeftBy, Left, IsSettled}
use Rattle.bay_core.proofs.Crash.{left_more, left_since}
use Rattle.bay_core.proofs.Rest.{left_two}
use Rattle.bay_core.proofs.Replays.{reads-append}
use Rattle.bay_core.proofs.Readable.{changed_torn, reads_left}
use Rattle.crash_law.specs.Protocol.{Protocol, IsSafe, State, Settled, Preparing, Committing, reached, flushed, MayPrepare, is_done, is_passive, Step, elsewhere, passes, says, prepares, flushes, commits, Leads, IsIn, told_after, Announced, read_after}
use Rattle.crash_law.specs.Law.{IsPrefixOfSteps, CrashLaw, Restarts}

-- a call on a drive is on that drive
pub is_here : (d : ℕ) (x : Device) → x ≡ Drive d → is_on d x ≡ true
is_here d x is = ap (is_on d) is ∙ grind (arith, nat_tests)

pub of_here : (d : ℕ) (x : Device) → is_on d x ≡ true → x ≡ Drive d
of_here d (Drive e) is = ap Drive (grind (arith, nat_tests, is))
of_here d (Source s) is = absurd (false≢true is)
of_here d Attaching is = absurd (false≢true is)
of_here d Output is = absurd (false≢true is)
of_here d Clock is = absurd (false≢true is)
of_here d Picker is = absurd (false≢true is)

-- a change that answered Failed is not read
changed_failed : (e : Event) (m : Map) → IsTrue (is_change e) → is_done e ≡ false → changed m e ≡ m
changed_failed (Write d path at bytes true) m t f = absurd (false≢true (sym f))
changed_failed (Write d path at bytes false) m t f = refl
changed_failed (Rename d from to true) m t f = absurd (false≢true (sym f))
changed_failed (Rename d from to false) m t f = refl
changed_failed (Remove d path true) m t f = absurd (false≢true (sym f))
changed_failed (Remove d path false) m t f = refl
changed_failed (AttachDrive d place) m t f = absurd (false≢true t)
changed_failed (AttachSource n place) m t f = absurd (false≢true t)
changed_failed (SourceList n got) m t f = absurd (false≢true t)
changed_failed (SourceRead n path at want got) m t f = absurd (false≢true t)
changed_failed (AttachFailed place) m t f = absurd (false≢true t)
changed_failed (DriveList d got) m t f = absurd (false≢true t)
changed_failed (DriveRead d path at want got) m t f = absurd (false≢true t)
changed_failed (Sync d ok) m t f = absurd (false≢true t)
changed_failed (Moment t0) m t f = absurd (false≢true t)
changed_failed (Pick n) m t f = absurd (false≢true t)
changed_failed (Say line ok) m t f = absurd (false≢true t)

-- a map left after a change is what the change may have made of one left before
from_torn : (e : Event) (R : Map) (S : Map → Type 0) (new : Map) → IsTrue (is_change e) → LeftAfter e R S new → (m : Map) × S m × Torn e m new
from_torn (Write d path at bytes ok) R S new t l = l
from_torn (Rename d from to ok) R S new t l = l
from_torn (Remove d path ok) R S new t l = l
from_torn (AttachDrive d place) R S new t l = absurd (false≢true t)
from_torn (AttachSource n place) R S new t l = absurd (false≢true t)
from_torn (SourceList n got) R S new t l = absurd (false≢true t)
from_torn (SourceRead n path at want got) R S new t l = absurd (false≢true t)
from_torn (AttachFailed place) R S new t l = absurd (false≢true t)
from_torn (DriveList d got) R S new t l = absurd (false≢true t)
from_torn (DriveRead d path at want got) R S new t l = absurd (false≢true t)
from_torn (Sync d ok) R S new t l = absurd (false≢true t)
from_torn (Moment t0) R S new t l = absurd (false≢true t)
from_torn (Pick n) R S new t l = absurd (false≢true t)
from_torn (Say line ok) R S new t l = absurd (false≢true t)

-- a call that is no line announces nothing
pub same_told : (P : Protocol) (e : Event) (told : ℕ) → (device_of e ≡ Output → ⊥) → told_after P e told ≡ told
same_told P (Say line ok) told off = absurd (off refl)
same_told P (AttachDrive d place) told off = refl
same_told P (AttachSource n place) told off = refl
same_told P (SourceList n got) told off = refl
same_told P (SourceRead n path at want got) told off = refl
same_told P (AttachFailed place) told off = refl
same_told P (DriveList d got) told off = refl
same_told P (DriveRead d path at want got) told off = refl
same_told P (Write d path at bytes ok) told off = refl
same_told P (Sync d ok) told off = refl
same_told P (Rename d from to ok) told off = refl
same_told P (Remove d path ok) told off = refl
same_told P (Moment t) told off = refl
same_told P (Pick n) told off = refl

-- a drive is not the output
pub not_output : (d : ℕ) (x : Device) → x ≡ Drive d → x ≡ Output → ⊥
not_output d x is e = absurd (cc (sym is ∙ e))

-- the furthest stage that a stop may leave
abbrev pub ahead : {P : Protocol} → State P → P.Stage
ahead (Settled s) = s
ahead (Preparing s) = s
ahead (Committing s t done) = t

-- what a stop may leave in a state
abbrev pub MayLeave : (P : Protocol) → State P → Map → Map → Type 0
MayLeave P (Settled s) reads m = m ≡ reads
MayLeave P (Preparing s) reads m = P.At s m
MayLeave P (Committing s t done) reads m = P.At s m ⊎ P.At t m

-- What holds of a drive between two calls: a read gives the stage that a barrier would settle; a stop leaves what the state says; and what was
-- announced is reached, with at most one step more ahead.
pub record Sound (P : Protocol) (told : ℕ) (left : Map → Type 0) (reads : Map) (x : State P) : Type 0 where
  pub read : P.At (flushed x) reads
  pub leaves : (m : Map) → left m → MayLeave P x reads m
  pub announced : told ≤ P.progress (reached x)
  pub rise : P.progress (reached x) ≤ P.progress (ahead x)
  pub at_most_one : P.progress (ahead x) ≤ suc told

module _ (P : Protocol) (safe : IsSafe P) where
  -- then each map left has a prefix of the steps
  pub left_stage : {told : ℕ} {left : Map → Type 0} {reads : Map} (x : State P) → Sound P told left reads x → (m : Map) → left m → IsPrefixOfSteps P told m
  left_stage (Settled s) h m l = record { stage = s; at = subst (P.At s) (sym (h.leaves m l)) h.read; announced = h.announced; at_most_one = h.at_most_one }
  left_stage (Preparing s) h m l = record { stage = s; at = h.leaves m l; announced = h.announced; at_most_one = h.at_most_one }
  left_stage (Committing s t done) h m l = elim (h.leaves m l) [
    | inl at ↦ record { stage = s; at = at; announced = h.announced; at_most_one = omega (arith, h.rise, h.at_most_one) }
    | inr at ↦ record { stage = t; at = at; announced = omega (arith, h.announced, h.rise); at_most_one = h.at_most_one }
  ]

  -- a passive call leaves nothing that was not left before it
  left_passes : (e : Event) (R : Map) (S : Map → Type 0) (m : Map) → IsTrue (is_passive e) → LeftAfter e R S m → S m
  left_passes (DriveRead d path at want got) R S m t (J, s, same) = subst S (sym same) s
  left_passes (DriveList d got) R S m t (J, s, same) = subst S (sym same) s
  left_passes (Sync d false) R S m t l = l
  left_passes (Sync d true) R S m t l = absurd (false≢true t)
  left_passes (Write d path at bytes ok) R S m t l = absurd (false≢true t)
  left_passes (Rename d from to ok) R S m t l = absurd (false≢true t)
  left_passes (Remove d path ok) R S m t l = absurd (false≢true t)
  left_passes (AttachDrive d place) R S m t l = absurd (false≢true t)
  left_passes (AttachSource n place) R S m t l = absurd (false≢true t)
  left_passes (SourceList n got) R S m t l = absurd (false≢true t)
  left_passes (SourceRead n path at want got) R S m t l = absurd (false≢true t)
  left_passes (AttachFailed place) R S m t l = absurd (false≢true t)
  left_passes (Moment t0) R S m t l = absurd (false≢true t)
  left_passes (Pick n) R S m t l = absurd (false≢true t)
  left_passes (Say line ok) R S m t l = absurd (false≢true t)

  -- and changes nothing that is read
  changed_passes : (e : Event) (R : Map) → IsTrue (is_passive e) → changed R e ≡ R
  changed_passes (DriveRead d path at want got) R t = refl
  changed_passes (DriveList d got) R t = refl
  changed_passes (Sync d ok) R t = refl
  changed_passes (Write d path at bytes ok) R t = absurd (false≢true t)
  changed_passes (Rename d from to ok) R t = absurd (false≢true t)
  changed_passes (Remove d path ok) R t = absurd (false≢true t)
  changed_passes (AttachDrive d place) R t = refl
  changed_passes (AttachSource n place) R t = refl
  changed_passes (SourceList n got) R t = refl
  changed_passes (SourceRead n path at want got) R t = refl
  changed_passes (AttachFailed place) R t = refl
  changed_passes (Moment t0) R t = refl
  changed_passes (Pick n) R t = refl
  changed_passes (Say line ok) R t = refl

  -- it holds as well of fewer maps left
  fewer : {told : ℕ} {S T : Map → Type 0} {R : Map} (x : State P) → ((m : Map) → T m → S m) → Sound P told S R x → Sound P told T R x
  fewer x so h = record { read = h.read; leaves = λ m t. h.leaves m (so m t); announced = h.announced; rise = h.rise; at_most_one = h.at_most_one }

  -- a passive call keeps it
  sound_passes : {told : ℕ} {S : Map → Type 0} {R : Map} (x : State P) (e : Event) → IsTrue (is_passive e) → Sound P told S R x → Sound P told (LeftAfter e R S) (changed R e) x
  sound_passes {told = told} {S = S} {R = R} x e t h =
      subst (λ (M : Map). Sound P told (LeftAfter e R S) M x) (sym (changed_passes e R t)) (fewer x (λ m l. left_passes e R S m t l) h)

  -- so does a line that announces no more than was reached
  sound_says : {told : ℕ} {S : Map → Type 0} {R : Map} (x : State P) (line : List ℕ) → P.announces line ≤ P.progress (reached x) → Sound P told S R x → Sound P (max told (P.announces line)) S R x
  sound_says x line b h = record {
    read = h.read;
    leaves = h.leaves;
    announced = omega (arith, h.announced);
    rise = h.rise;
    at_most_one = omega (arith, h.at_most_one);
  }

  -- a barrier that answered Ok leaves the drive at rest
  sound_flushes : {told : ℕ} {S : Map → Type 0} {R : Map} (x : State P) → Sound P told S R x → Sound P told (λ (m : Map). m ≡ R) R (Settled (flushed x))
  sound_flushes (Settled s) h = record { read = h.read; leaves = λ m e. e; announced = h.announced; rise = omega arith; at_most_one = h.at_most_one }
  sound_flushes (Preparing s) h = record { read = h.read; leaves = λ m e. e; announced = h.announced; rise = omega arith; at_most_one = h.at_most_one }
  sound_flushes (Committing s t true) h = record { read = h.read; leaves = λ m e. e; announced = omega (arith, h.announced, h.rise); rise = omega arith; at_most_one = h.at_most_one }
  sound_flushes (Committing s t false) h = record { read = h.read; leaves = λ m e. e; announced = h.announced; rise = omega arith; at_most_one = omega (arith, h.rise, h.at_most_one) }

  -- where a change may prepare, what is read and what is left are at the stage reached
  may_prepare : {told : ℕ} {S : Map → Type 0} {R : Map} (x : State P) → MayPrepare x → Sound P told S R x →
      P.At (reached x) R × ((m : Map) → S m → P.At (reached x) m) × (P.progress (reached x) ≤ suc told)
  may_prepare (Settled s) may h = (h.read, (λ m l. subst (P.At s) (sym (h.leaves m l)) h.read), h.at_most_one)
  may_prepare (Preparing s) may h = (h.read, h.leaves, h.at_most_one)
  may_prepare (Committing s t done) may h = absurd may

  -- a change that prepares
  sound_prepares : {told : ℕ} {S : Map → Type 0} {R : Map} (x : State P) (e : Event) → MayPrepare x → P.Prepares (reached x) e → Sound P told S R x →
      Sound P told (LeftAfter e R S) (changed R e) (Preparing (reached x))
  sound_prepares {told = told} {S = S} {R = R} x e may free h =
      let before = may_prepare x may h in
      let change = safe.prepares_change (reached x) e free in
      record {
        read = safe.prepared (reached x) e R (changed R e) free before.0 (changed_torn e R);
        leaves = λ new l. let from = from_torn e R S new change l in safe.prepared (reached x) e from.0 new free (before.1 from.0 from.1) from.2;
        announced = h.announced;
        rise = omega arith;
        at_most_one = before.2;
      }

  -- what is read after a change that commits
  commit_read : {m : Map} (s t : P.Stage) (e : Event) (done : Bool) → is_done e ≡ done → P.Commits m s e t → P.At s m → P.At (flushed {P = P} (Committing s t done)) (changed m e)
  commit_read {m = m} s t e true is c h = safe.done s t e m c h is
  commit_read {m = m} s t e false is c h = subst (P.At s) (sym (changed_failed e m (safe.commits_change s t e m c) is)) h

  -- a change that commits
  sound_commits : {told : ℕ} {S : Map → Type 0} {R : Map} (s t : P.Stage) (e : Event) → P.progress s ≤ told → P.Commits R s e t → Sound P told S R (Settled s) →
      Sound P told (LeftAfter e R S) (changed R e) (Committing s t (is_done e))
  sound_commits {told = told} {S = S} {R = R} s t e owed c h =
      let change = safe.commits_change s t e R c in
      let up : P.progress t ≡ suc (P.progress s) = safe.rises s t e R c in
      record {
        read = commit_read s t e (is_done e) refl c h.read;
        leaves = λ new l.
            let from = from_torn e R S new change l in
            safe.committed s t e R new c h.read (subst (λ (f : Map). Torn e f new) (h.leaves from.0 from.1) from.2);
        announced = h.announced;
        rise = omega (arith, up);
        at_most_one = omega (arith, up, owed);
      }

  -- a call on the drive
  sound_on : {d told : ℕ} {S : Map → Type 0} {R : Map} {x y : State P} {e : Event} → Step P d told R x e y → device_of e ≡ Drive d → Sound P told S R x → Sound P told (LeftAfter e R S) (changed R e) y
  sound_on (elsewhere away) on h = absurd (away.drive on)
  sound_on (says b) on h = absurd (cc on)
  sound_on {x = x} {e = e} (passes _ t) on h = sound_passes x e t h
  sound_on {x = x} {e = e} (prepares _ may free) on h = sound_prepares x e may free h
  sound_on {x = x} flushes on h = sound_flushes x h
  sound_on {e = e} (commits {s = s} {t = t} _ owed c) on h = sound_commits s t e owed c h

  -- and one that is not
  sound_off : {d told : ℕ} {S : Map → Type 0} {R : Map} {x y : State P} {e : Event} → Step P d told R x e y → (device_of e ≡ Drive d → ⊥) → Sound P told S R x → Sound P (told_after P e told) S R y
  sound_off {told = told} {S = S} {R = R} {x = x} {e = e} (elsewhere away) off h = subst (λ (n : ℕ). Sound P n S R x) (sym (same_told P e told away.output)) h
  sound_off {x = x} (says {line = line} b) off h = sound_says x line b h
  sound_off (passes on t) off h = absurd (off on)
  sound_off (prepares on may free) off h = absurd (off on)
  sound_off flushes off h = absurd (off refl)
  sound_off (commits on owed c) off h = absurd (off on)

  -- and so a run keeps it
  pub sound_calls : (d : ℕ) (L : List Event) (told : ℕ) (S : Map → Type 0) (R : Map) (x y : State P) → Leads P d told R x L y → Sound P told S R x →
      Sound P (Announced P told L) (LeftBy (calls_on d L) R S) (replayed R (calls_on d L)) y
  sound_calls d [] told S R x y l h = subst (λ (s : State P). Sound P told S R s) l h
  sound_calls d (e ∷ L) told S R x y l h = elim (cases_Bool (is_on d (device_of e))) [
    | inl on ↦
        let here = of_here d (device_of e) on in
        let one = subst (λ (n : ℕ). Sound P n (LeftAfter e R S) (changed R e) l.0) (sym (same_told P e told (not_output d (device_of e) here))) (sound_on l.1 here h) in
        let read : read_after d R e ≡ changed R e = ap (λ b. cond b (changed R e) R) on in
        let rest = subst (λ (M : Map). Leads P d (told_after P e told) M l.0 L y) read l.2 in
        subst (λ (b : Bool). Sound P (Announced P (told_after P e told) L) (LeftBy (cond b (e ∷ calls_on d L) (calls_on d L)) R S) (replayed R (cond b (e ∷ calls_on d L) (calls_on d L))) y) (sym on)
        (sound_calls d L (told_after P e told) (LeftAfter e R S) (changed R e) l.0 y rest one)
    | inr off ↦
        let away : device_of e ≡ Drive d → ⊥ = λ is. false≢true (sym off ∙ is_here d (device_of e) is) in
        let one = sound_off l.1 away h in
        let read : read_after d R e ≡ R = ap (λ b. cond b (changed R e) R) off in
        let rest = subst (λ (M : Map). Leads P d (told_after P e told) M l.0 L y) read l.2 in
        subst (λ (b : Bool). Sound P (Announced P (told_after P e told) L) (LeftBy (cond b (e ∷ calls_on d L) (calls_on d L)) R S) (replayed R (cond b (e ∷ calls_on d L) (calls_on d L))) y) (sym off)
        (sound_calls d L (told_after P e told) S R l.0 y rest one)
  ]

  -- it holds at the start
  sound_start : (start : Map) (s : P.Stage) → P.At s start → Sound P (P.progress s) (λ (m : Map). m ≡ start) start (Settled s)
  sound_start start s at = record { read = at; leaves = λ m e. e; announced = omega arith; rise = omega arith; at_most_one = omega arith }

  -- what holds of a drive after its calls
  pub sound_in : (start : Map) (s : P.Stage) → P.At s start → (d : ℕ) (L : List Event) (x : State P) → IsIn P d start s L x → Sound P (Announced P (P.progress s) L) (Left start L d) (reads start L d) x
  unfolding Left reads
  sound_in start s at d L x l = sound_calls d L (P.progress s) (λ m. m ≡ start) start (Settled s) x l (sound_start start s at)

  -- the calls up to some moment lead somewhere too
  pub prefix_leads : (d : ℕ) (L more : List Event) (told : ℕ) (R : Map) (x y : State P) → Leads P d told R x (L ++ more) y → (z : State P) × Leads P d told R x L z
  prefix_leads d [] more told R x y l = (x, refl)
  prefix_leads d (e ∷ L) more told R x y l = let rest = prefix_leads d L more _ _ l.0 y l.2 in (rest.0, (l.0, l.1, rest.1))

  -- wherever a run stops
  pub crash_safe : (start : Map) (s : P.Stage) → P.At s start → (d : ℕ) (L more : List Event) (x : State P) → IsIn P d start s (L ++ more) x → (I : Map) → Left start L d I → IsPrefixOfSteps P (Announced P (P.progress s) L) I
  crash_safe start s at d L more x l I left =
      let first = prefix_leads d L more (P.progress s) start (Settled s) x l in
      left_stage first.0 (sound_in start s at d L first.0 first.1) I left

  -- where nothing is pending
  pub settled : (start : Map) (s t : P.Stage) → P.At s start → (d : ℕ) (L : List Event) → IsIn P d start s L (Settled t) → IsSettled start L d × P.At t (reads start L d)
  settled start s t at d L l = let h = sound_in start s at d L (Settled t) l in (h.leaves, h.read)

  -- the law of a safe protocol
  pub the_law : CrashLaw P
  the_law = record { prefix = crash_safe; settled = settled }

-- from a moment of rest on, a drive is as one that began then
pub restarts : (m : Map) (L : List Event) (d : ℕ) → Restarts m L d
unfolding Left reads
restarts m L d = record {
  left = λ rest since I left. left_since m L since d rest I left;
  back = λ since I left. left_two m L since d I (left_more (calls_on d since) (reads m L d) (λ J. J ≡ reads m L d) (Left m L d) (λ J is. subst (Left m L d) (sym is) (reads_left m L d)) I left);
  read = λ since. reads-append m L since d;
}
