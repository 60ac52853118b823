-- Runs of looks, and where they stop.
use Rattle.std.proofs.Common.{◌≡◌, inl, inr, ℕ, ◌+◌, true, false, cond, List, [], ◌∷◌, ◌++◌, length, take, refl, sym, ◌∙◌, ap, subst, append_assoc, append-nil, arith, length-append}
use Rattle.std.proofs.lemmas.List.{map-append}
use Rattle.std.proofs.lemmas.Bool.Decides.{nat_tests}
use Rattle.std.specs.Prelude.{Option, Some, None, unwrap_or, option_map, Ok, Err, Vec, nat_eq}
use Rattle.std.specs.Global.{Global}
use Rattle.bay_core.specs.declared.event.FileInfo.{FileInfo}
use Rattle.bay_core.specs.declared.event.Event.{Event}
use Rattle.bay_core.specs.declared.event.Event.TheVariants.{AttachSource, AttachDrive, AttachFailed, SourceList, SourceRead, DriveList, DriveRead, Write, Sync, Rename, Remove, Moment, Pick, Say}
use Rattle.bay_core.specs.declared.event.DriveGot.TheVariants.{Failed}
use Rattle.bay_core.specs.declared.failed.Failed.{Failed as DeviceFailed}
use Rattle.bay_core.specs.declared.failed.ListError.TheVariants.{Failed as ListFailed, Memory}
use Rattle.bay_core.specs.Map.{Map, Dates}
use Rattle.bay_core.specs.Replay.{Device, Source, Drive, Attaching, Output, Clock, Picker, device_of, is_on, calls_on, changed, undated, replayed, redated, reads, dated}
use Rattle.bay_core.specs.World.{World, Honest}
use Rattle.bay_core.specs.Went.{Went, Only, Called, Ran, ReadCall, ListCall, say_call}
use Rattle.bay_core.specs.Looks.{Here, Exactly, says, read_call, piece, given, Tiles, is_look, Looks, is_change, NoChange, is_effect, IsUntouched, is_failure, AtMost, Stops, Caused, Stopped, line_of, said}
use Rattle.bay_core.proofs.Runs.{went_then, went_such, went_on, went_none, rose_since, told_since, all_ran}
use Rattle.bay_core.proofs.Replays.{reads-append, dated-append}
use Rattle.bay_core.proofs.Honesty.{honest_before}

-- known calls and then known calls
pub exact_then : {On : Device → Type 0} (A B : List Event) {old mid new : World} → Went On (Exactly A) old mid → Went On (Exactly B) mid new → Went On (Exactly (A ++ B)) old new
exact_then A B one two = went_such (λ L t. t.is ∙ (λ i. t.here i ++ t.there i)) (went_then one two)

-- the same calls, otherwise written
pub exact_as : {On : Device → Type 0} (A B : List Event) {old new : World} → A ≡ B → Went On (Exactly A) old new → Went On (Exactly B) old new
exact_as A B same w = went_such (λ L is. is ∙ same) w

pub looks_append : (A B : List Event) → Looks A → Looks B → Looks (A ++ B)
unfolding Looks
looks_append [] B a b = b
looks_append (e ∷ A) B a b = (a.0, looks_append A B a.1 b)

pub no_looks : Looks []
unfolding Looks
no_looks = tt

pub one_look : (e : Event) → is_look e ≡ true → Looks (e ∷ [])
unfolding Looks
one_look e is = (is, tt)

-- lines that were said are looks
pub says_looks : (lines : List (List ℕ)) → Looks (says lines)
unfolding Looks
says_looks [] = tt
says_looks (t ∷ ts) = (refl, says_looks ts)

-- so is an answered read
pub read_looks : (d : ℕ) (path : List ℕ) (at want : ℕ) (got : Option (List ℕ)) → is_look (read_call d path at want got) ≡ true
read_looks d path at want None = refl
read_looks d path at want (Some b) = refl

-- and the reads of a file
pub tiles_look : (d : ℕ) (path : List ℕ) (at : ℕ) (R : List Event) → Tiles d path at R → Looks R
unfolding Tiles Looks
tiles_look d path at [] t = tt
tiles_look d path at (e ∷ R) ((want, got, is), t) = (ap is_look is ∙ read_looks d path at want got, tiles_look d path (at + length (piece e)) R t)

pub no_tiles : (d : ℕ) (path : List ℕ) (at : ℕ) → Tiles d path at []
unfolding Tiles
no_tiles d path at = tt

-- one more read, where the reads before ended
pub tiles_push : (d : ℕ) (path : List ℕ) (at : ℕ) (R : List Event) (n want : ℕ) (got : Option (List ℕ)) → n ≡ at + length (given R) → Tiles d path at R → Tiles d path at (R ++ read_call d path n want got ∷ [])
unfolding Tiles
tiles_push d path at [] n want got is t = ((want, got, ap (λ k. read_call d path k want got) (let e : n ≡ at = omega arith in e)), tt)
tiles_push d path at (e ∷ R) n want got is t =
    (t.0, tiles_push d path (at + length (piece e)) R n want got (omega (arith, is, length-append (piece e) (given R))) t.1)

-- what the reads gave, with one more
pub given_push : (R : List Event) (e : Event) → given (R ++ e ∷ []) ≡ given R ++ piece e
given_push [] e = append-nil (piece e)
given_push (x ∷ R) e = ap (λ (l : List ℕ). piece x ++ l) (given_push R e) ∙ sym (append_assoc (piece x) (given R) (piece e))

pub piece_of : (d : ℕ) (path : List ℕ) (at want : ℕ) (got : Option (List ℕ)) → piece (read_call d path at want got) ≡ unwrap_or got []
piece_of d path at want None = refl
piece_of d path at want (Some b) = refl

-- calls on the drive alone, or on the output alone
pub drive_here : (d : ℕ) {P : List Event → Type 0} {old new : World} → Went (Only (Drive d)) P old new → Went (Here d) P old new
drive_here d w = went_on (λ x is. inl is) w

pub output_here : (d : ℕ) {P : List Event → Type 0} {old new : World} → Went (Only Output) P old new → Went (Here d) P old new
output_here d w = went_on (λ x is. inr is) w

caused_since : (at : Option Device) {On : Device → Type 0} {P : List Event → Type 0} {old mid : World} (new : World) → Went On P old mid → Caused at mid new → Caused at old new
caused_since None new w c = tt
caused_since (Some x) new w c = rose_since x (new.faults x) w c

-- looks, and then a run that stopped
pub stopped_after : (d : ℕ) (at : Option Device) (A : List Event) {old mid new : World} → Looks A → Went (Here d) (Exactly A) old mid → Stopped d at mid new → Stopped d at old new
stopped_after d at A looks one two = record {
  went = went_such (λ L t. record {
    looks = A ++ t.there.looks;
    last = t.there.last;
    is = t.is ∙ (λ i. t.here i ++ t.there.is i) ∙ sym (append_assoc A t.there.looks t.there.last);
    answered = looks_append A t.there.looks looks t.there.answered;
    failed = t.there.failed;
  }) (went_then one two.went);
  cause = caused_since at _ one two.cause;
}

-- looks alone, of which none failed
pub stopped_looks : (d : ℕ) (A : List Event) {old new : World} → Looks A → Went (Here d) (Exactly A) old new → Stopped d None old new
stopped_looks d A looks one = record {
  went = went_such (λ L is. record { looks = A; last = []; is = is ∙ sym (append-nil A); answered = looks; failed = refl }) one;
  cause = tt;
}

-- no call
pub stopped_none : (d : ℕ) (w : World) → Stopped d None w w
stopped_none d w = stopped_looks d [] no_looks (went_none (Here d) w)

-- one call, which failed
pub stopped_at : (d : ℕ) (x : Device) {P : List Event → Type 0} {old new : World} → ((L : List Event) → P L → AtMost (Some x) L) → Went (Here d) P old new → Caused (Some x) old new → Stopped d (Some x) old new
stopped_at d x so w c = record {
  went = went_such (λ L p. record { looks = []; last = L; is = refl; answered = no_looks; failed = so L p }) w;
  cause = c;
}

-- what a read gave, as its event tells it
abbrev pub gave : Option ℕ → List ℕ → Option (List ℕ)
gave got into = option_map (λ n. take n into) got

-- a read that was answered
pub read_answered : (d : ℕ) (path : List ℕ) (at : ℕ) (into : List ℕ) (got : Option ℕ) {old new : World} → Called (Drive d) (ReadCall d path at into (Ok got)) true old new
    → Went (Here d) (Exactly (read_call d path at (length into) (gave got into) ∷ [])) old new
read_answered d path at into None called = drive_here d called.went
read_answered d path at into (Some n) called = drive_here d called.went

-- a listing that was answered
pub list_answered : (d : ℕ) (files : Vec FileInfo Global) {old new : World} → Called (Drive d) (ListCall d (Ok files)) true old new → Went (Here d) (Exactly (DriveList d (Some files.items) ∷ [])) old new
list_answered d files called = drive_here d called.went

-- a listing for which memory was wanting
pub list_unmade : (d : ℕ) {old new : World} → Called (Drive d) (ListCall d (Err Memory)) true old new → Stopped d None old new
list_unmade d called = stopped_looks d [] no_looks (drive_here d called.went)

itself : (d : ℕ) → nat_eq d d ≡ true
itself d = grind (arith, nat_tests)

-- a read that failed
pub read_failed : (d : ℕ) (path : List ℕ) (at : ℕ) (into : List ℕ) (e : DeviceFailed) {old new : World} → Called (Drive d) (ReadCall d path at into (Err e)) false old new → Stopped d (Some (Drive d)) old new
read_failed d path at into e called =
    stopped_at d (Drive d) (λ L p. elim p [ inl none ↦ inl none | inr one ↦ inr (DriveRead d path at (length into) Failed, one, itself d) ]) (drive_here d called.went) (called.cause refl)

-- a listing that failed
pub list_failed : (d : ℕ) {old new : World} → Called (Drive d) (ListCall d (Err ListFailed)) false old new → Stopped d (Some (Drive d)) old new
list_failed d called =
    stopped_at d (Drive d) (λ L p. elim p [ inl none ↦ inl none | inr one ↦ inr (DriveList d None, one, itself d) ]) (drive_here d called.went) (called.cause refl)

one_unsaid : (line : List ℕ) (L : List Event) → Ran (say_call line ∷ []) false L → AtMost (Some Output) L
unfolding Ran
one_unsaid line L (inl none) = inl none
one_unsaid line L (inr (inl one)) = inr (Say line false, one, refl)
one_unsaid line L (inr (inr (rest, is, more))) = absurd more

-- a line that could not be said
pub say_failed : (d : ℕ) (line : List ℕ) {old new : World} → Called Output (Ran (say_call line ∷ []) false) false old new → Stopped d (Some Output) old new
say_failed d line called = stopped_at d Output (one_unsaid line) (output_here d called.went) (called.cause refl)

-- a line that was said
pub said_ok : (d : ℕ) (line : List ℕ) {old new : World} → Called Output (Ran (say_call line ∷ []) true) true old new → Went (Here d) (Exactly (says (line ∷ []))) old new
said_ok d line called = output_here d (went_such (λ L ran. all_ran (say_call line ∷ []) L ran) called.went)

kept : (R : Map) (e : Event) → is_change e ≡ false → changed R e ≡ R
kept R (AttachSource n place) h = refl
kept R (AttachDrive n place) h = refl
kept R (AttachFailed place) h = refl
kept R (SourceList n got) h = refl
kept R (SourceRead n path at want got) h = refl
kept R (DriveList n got) h = refl
kept R (DriveRead n path at want got) h = refl
kept R (Sync n ok) h = refl
kept R (Moment n) h = refl
kept R (Pick n) h = refl
kept R (Say line ok) h = refl
kept R (Write n path at bytes ok) h = absurd (cc h)
kept R (Rename n from to ok) h = absurd (cc h)
kept R (Remove n path ok) h = absurd (cc h)

kept_dates : (t : Dates) (e : Event) → is_change e ≡ false → undated t e ≡ t
kept_dates t (AttachSource n place) h = refl
kept_dates t (AttachDrive n place) h = refl
kept_dates t (AttachFailed place) h = refl
kept_dates t (SourceList n got) h = refl
kept_dates t (SourceRead n path at want got) h = refl
kept_dates t (DriveList n got) h = refl
kept_dates t (DriveRead n path at want got) h = refl
kept_dates t (Sync n ok) h = refl
kept_dates t (Moment n) h = refl
kept_dates t (Pick n) h = refl
kept_dates t (Say line ok) h = refl
kept_dates t (Write n path at bytes ok) h = absurd (cc h)
kept_dates t (Rename n from to ok) h = absurd (cc h)
kept_dates t (Remove n path ok) h = absurd (cc h)

-- what is no effect is no change
no_change : (e : Event) → is_effect e ≡ false → is_change e ≡ false
no_change (AttachSource n place) h = refl
no_change (AttachDrive n place) h = refl
no_change (AttachFailed place) h = refl
no_change (SourceList n got) h = refl
no_change (SourceRead n path at want got) h = refl
no_change (DriveList n got) h = refl
no_change (DriveRead n path at want got) h = refl
no_change (Sync n ok) h = refl
no_change (Moment n) h = refl
no_change (Pick n) h = refl
no_change (Say line ok) h = refl
no_change (Write n path at bytes ok) h = absurd (cc h)
no_change (Rename n from to ok) h = absurd (cc h)
no_change (Remove n path ok) h = absurd (cc h)

-- calls that change nothing leave a map, and the dates, as they were
no_change_replay : (R : Map) (A : List Event) → NoChange A → replayed R A ≡ R
unfolding NoChange
no_change_replay R [] a = refl
no_change_replay R (e ∷ A) a = ap (λ r. replayed r A) (kept R e a.0) ∙ no_change_replay R A a.1

no_change_redate : (t : Dates) (A : List Event) → NoChange A → redated t A ≡ t
unfolding NoChange
no_change_redate t [] a = refl
no_change_redate t (e ∷ A) a = ap (λ r. redated r A) (kept_dates t e a.0) ∙ no_change_redate t A a.1

no_change_on : (d : ℕ) (A : List Event) → NoChange A → NoChange (calls_on d A)
unfolding NoChange
no_change_on d [] a = tt
no_change_on d (e ∷ A) a =
    elim (is_on d (device_of e)) as (λ b. NoChange (cond b (e ∷ calls_on d A) (calls_on d A))) [ true ↦ (a.0, no_change_on d A a.1) | false ↦ no_change_on d A a.1 ]

pub no_change_append : (A B : List Event) → NoChange A → NoChange B → NoChange (A ++ B)
unfolding NoChange
no_change_append [] B a b = b
no_change_append (e ∷ A) B a b = (a.0, no_change_append A B a.1 b)

pub no_change_none : NoChange []
unfolding NoChange
no_change_none = tt

pub no_change_one : (e : Event) → is_change e ≡ false → NoChange (e ∷ [])
unfolding NoChange
no_change_one e h = (h, tt)

-- where no change and no barrier is, no change is
pub untouched_no_change : (A : List Event) → IsUntouched A → NoChange A
unfolding NoChange IsUntouched
untouched_no_change [] a = tt
untouched_no_change (e ∷ A) a = (no_change e a.0, untouched_no_change A a.1)

pub untouched_replay : (R : Map) (A : List Event) → IsUntouched A → replayed R A ≡ R
untouched_replay R A a = no_change_replay R A (untouched_no_change A a)

-- so are those of them that are on one drive
pub untouched_on : (d : ℕ) (A : List Event) → IsUntouched A → IsUntouched (calls_on d A)
unfolding IsUntouched
untouched_on d [] a = tt
untouched_on d (e ∷ A) a =
    elim (is_on d (device_of e)) as (λ b. IsUntouched (cond b (e ∷ calls_on d A) (calls_on d A))) [ true ↦ (a.0, untouched_on d A a.1) | false ↦ untouched_on d A a.1 ]

-- calls that change nothing leave a drive as it was
pub reads_unchanged : (m : Map) (L A : List Event) (d : ℕ) → NoChange A → reads m (L ++ A) d ≡ reads m L d
reads_unchanged m L A d none = reads-append m L A d ∙ no_change_replay (reads m L d) (calls_on d A) (no_change_on d A none)

pub dated_unchanged : (t : Dates) (L A : List Event) (d : ℕ) → NoChange A → dated t (L ++ A) d ≡ dated t L d
dated_unchanged t L A d none = dated-append t L A d ∙ no_change_redate (dated t L d) (calls_on d A) (no_change_on d A none)

pub reads_kept : (m : Map) (L A : List Event) (d : ℕ) → IsUntouched A → reads m (L ++ A) d ≡ reads m L d
reads_kept m L A d none = reads_unchanged m L A d (untouched_no_change A none)

pub dated_kept : (t : Dates) (L A : List Event) (d : ℕ) → IsUntouched A → dated t (L ++ A) d ≡ dated t L d
dated_kept t L A d none = dated_unchanged t L A d (untouched_no_change A none)

pub untouched_append : (A B : List Event) → IsUntouched A → IsUntouched B → IsUntouched (A ++ B)
unfolding IsUntouched
untouched_append [] B a b = b
untouched_append (e ∷ A) B a b = (a.0, untouched_append A B a.1 b)

pub untouched_none : IsUntouched []
unfolding IsUntouched
untouched_none = tt

pub untouched_one : (e : Event) → is_effect e ≡ false → IsUntouched (e ∷ [])
unfolding IsUntouched
untouched_one e h = (h, tt)

look_keeps : (e : Event) → is_look e ≡ true → is_effect e ≡ false
look_keeps (AttachSource n place) h = refl
look_keeps (AttachDrive n place) h = refl
look_keeps (AttachFailed place) h = refl
look_keeps (SourceList n got) h = refl
look_keeps (SourceRead n path at want got) h = refl
look_keeps (DriveList n got) h = refl
look_keeps (DriveRead n path at want got) h = refl
look_keeps (Sync n ok) h = absurd (cc h)
look_keeps (Moment n) h = refl
look_keeps (Pick n) h = refl
look_keeps (Say line ok) h = refl
look_keeps (Write n path at bytes ok) h = absurd (cc h)
look_keeps (Rename n from to ok) h = absurd (cc h)
look_keeps (Remove n path ok) h = absurd (cc h)

failure_keeps : (x : Device) (e : Event) → is_failure x e ≡ true → is_effect e ≡ false
failure_keeps x (AttachSource n place) h = refl
failure_keeps x (AttachDrive n place) h = refl
failure_keeps x (AttachFailed place) h = refl
failure_keeps x (SourceList n got) h = refl
failure_keeps x (SourceRead n path at want got) h = refl
failure_keeps x (DriveList n got) h = refl
failure_keeps x (DriveRead n path at want got) h = refl
failure_keeps x (Moment n) h = refl
failure_keeps x (Pick n) h = refl
failure_keeps x (Say line ok) h = refl
failure_keeps (Source s) (Write n path at bytes ok) h = absurd (cc h)
failure_keeps (Source s) (Sync n ok) h = absurd (cc h)
failure_keeps (Source s) (Rename n from to ok) h = absurd (cc h)
failure_keeps (Source s) (Remove n path ok) h = absurd (cc h)
failure_keeps (Drive d) (Write n path at bytes ok) h = absurd (cc h)
failure_keeps (Drive d) (Sync n ok) h = absurd (cc h)
failure_keeps (Drive d) (Rename n from to ok) h = absurd (cc h)
failure_keeps (Drive d) (Remove n path ok) h = absurd (cc h)
failure_keeps Attaching (Write n path at bytes ok) h = absurd (cc h)
failure_keeps Attaching (Sync n ok) h = absurd (cc h)
failure_keeps Attaching (Rename n from to ok) h = absurd (cc h)
failure_keeps Attaching (Remove n path ok) h = absurd (cc h)
failure_keeps Output (Write n path at bytes ok) h = absurd (cc h)
failure_keeps Output (Sync n ok) h = absurd (cc h)
failure_keeps Output (Rename n from to ok) h = absurd (cc h)
failure_keeps Output (Remove n path ok) h = absurd (cc h)
failure_keeps Clock (Write n path at bytes ok) h = absurd (cc h)
failure_keeps Clock (Sync n ok) h = absurd (cc h)
failure_keeps Clock (Rename n from to ok) h = absurd (cc h)
failure_keeps Clock (Remove n path ok) h = absurd (cc h)
failure_keeps Picker (Write n path at bytes ok) h = absurd (cc h)
failure_keeps Picker (Sync n ok) h = absurd (cc h)
failure_keeps Picker (Rename n from to ok) h = absurd (cc h)
failure_keeps Picker (Remove n path ok) h = absurd (cc h)

-- looks change nothing
pub looks_keep : (A : List Event) → Looks A → IsUntouched A
unfolding Looks IsUntouched
looks_keep [] a = tt
looks_keep (e ∷ A) a = (look_keeps e a.0, looks_keep A a.1)

at_most_keeps : (at : Option Device) (L : List Event) → AtMost at L → IsUntouched L
at_most_keeps None L is = subst IsUntouched (sym is) untouched_none
at_most_keeps (Some x) L (inl is) = subst IsUntouched (sym is) untouched_none
at_most_keeps (Some x) L (inr (e, is, failed)) = subst IsUntouched (sym is) (untouched_one e (failure_keeps x e failed))

-- looks that stopped change nothing
pub stops_keep : (at : Option Device) (L : List Event) → Stops at L → IsUntouched L
stops_keep at L s = subst IsUntouched (sym s.is) (untouched_append s.looks s.last (looks_keep s.looks s.answered) (at_most_keeps at s.last s.failed))

-- looks change nothing on a drive
pub reads_looked : (m : Map) (L A : List Event) (d : ℕ) → Looks A → reads m (L ++ A) d ≡ reads m L d
reads_looked m L A d looks = reads_kept m L A d (looks_keep A looks)

pub dated_looked : (t : Dates) (L A : List Event) (d : ℕ) → Looks A → dated t (L ++ A) d ≡ dated t L d
dated_looked t L A d looks = dated_kept t L A d (looks_keep A looks)

-- before some looks an honest drive was honest, with the same map and dates
pub record Before (d : ℕ) (m : Map) (L : List Event) (old new : World) : Type 0 where
  pub before : List Event
  pub honest : Honest old d m before
  pub same : reads m L d ≡ reads m before d
  pub dated : dated (new.attached.dates d) L d ≡ dated (old.attached.dates d) before d

pub looked_before : {On : Device → Type 0} (d : ℕ) (m : Map) (L A : List Event) {old new : World} → Looks A → Went On (Exactly A) old new → Honest new d m L → Before d m L old new
looked_before d m L A {old} {new} looks w h =
    let b = honest_before d m L w h in
    let t = told_since w b.0 L b.1.events h.events in
    let all : L ≡ b.0 ++ A = t.is ∙ ap (λ (l : List Event). b.0 ++ l) t.such in
    record {
      before = b.0;
      honest = b.1;
      same = ap (λ K. reads m K d) all ∙ reads_looked m b.0 A d looks;
      dated = (λ i. dated ((w.attached i).dates d) (all i) d) ∙ dated_looked (old.attached.dates d) b.0 A d looks;
    }

-- the lines said by two runs
pub said_append : (A B : List Event) → said (A ++ B) ≡ said A ++ said B
said_append [] B = refl
said_append (e ∷ A) B = ap (λ (l : List (List ℕ)). line_of e ++ l) (said_append A B) ∙ sym (append_assoc (line_of e) (said A) (said B))

-- lines say themselves
pub said_says : (lines : List (List ℕ)) → said (says lines) ≡ lines
said_says [] = refl
said_says (t ∷ ts) = ap (λ (l : List (List ℕ)). t ∷ l) (said_says ts)

pub says_append : (A B : List (List ℕ)) → says (A ++ B) ≡ says A ++ says B
says_append A B = map-append (λ t. Say t true) A B

-- reads say nothing
pub said_tiles : (d : ℕ) (path : List ℕ) (at : ℕ) (R : List Event) → Tiles d path at R → said R ≡ []
unfolding Tiles
said_tiles d path at [] t = refl
said_tiles d path at (e ∷ R) ((want, got, is), t) = ap (λ (x : Event). line_of x ++ said R) is ∙ said_tiles d path (at + length (piece e)) R t
