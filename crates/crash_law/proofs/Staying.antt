-- Calls that leave a drive in its state: those on other devices, and the listings and reads of the drive itself.
use Rattle.std.proofs.Common.{◌≡◌, inl, inr, ℕ, Bool, true, false, List, [], ◌∷◌, ◌++◌, length, IsTrue, refl, sym, ap, ◌∙◌, subst, arith, append_assoc}
use Rattle.std.proofs.lemmas.Bool.{cases_eq, false≢true}
use Rattle.std.proofs.lemmas.List.{append_cancel_left}
use Rattle.std.specs.Global.{Global}
use Rattle.std.specs.Prelude.{Option, Some, None, Result, Ok, Err, Vec}
use Rattle.bay_core.specs.declared.event.Event.{Event}
use Rattle.bay_core.specs.declared.event.Event.TheVariants.{AttachSource, AttachDrive, AttachFailed, SourceList, SourceRead, DriveList, DriveRead, Write, Sync, Rename, Remove, Moment, Pick, Say}
use Rattle.bay_core.specs.declared.event.FileInfo.{FileInfo}
use Rattle.bay_core.specs.declared.event.DriveGot.TheVariants.{Failed as ReadFailed}
use Rattle.bay_core.specs.declared.failed.Failed.{Failed}
use Rattle.bay_core.specs.declared.failed.ListError.{ListError}
use Rattle.bay_core.specs.declared.failed.ListError.TheVariants.{Failed as ListFailed, Memory}
use Rattle.bay_core.specs.Attach.{Attaches, CardAttaches}
use Rattle.bay_core.specs.Looks.{is_change, NoChange, is_look, Looks, is_failure, AtMost, Stops}
use Rattle.bay_core.specs.Map.{Map}
use Rattle.bay_core.specs.Replay.{Device, Source, Drive, Attaching, Output, Clock, Picker, device_of, reads}
use Rattle.bay_core.specs.Went.{AllOn, Only, Made, Went, Called, ReadCall, ListCall}
use Rattle.bay_core.specs.World.{World}
use Rattle.bay_core.proofs.Looking.{reads_unchanged}
use Rattle.bay_core.proofs.Runs.{Told, told_behind, went_such}
use Rattle.crash_law.specs.Law.{Stays, StaysPut}
use Rattle.crash_law.specs.Lines.{LineHas, AllLines}
use Rattle.crash_law.specs.Protocol.{Protocol, State, Settled, is_passive, Step, passes, flushes, Leads, IsIn, told_after, Announced, read_after}
use Rattle.crash_law.proofs.Calls.{told-append, in-append, told_calls, leads_away, reads_still}
use Rattle.crash_law.proofs.Lines.{told_away}

-- each of these calls is passive
unfoldable pub AllPassive : List Event → Type 0
AllPassive [] = Unit {0}
AllPassive (e ∷ L) = IsTrue (is_passive e) × AllPassive L

passive_keeps : (e : Event) → IsTrue (is_passive e) → is_change e ≡ false
passive_keeps (AttachSource n place) t = refl
passive_keeps (AttachDrive n place) t = refl
passive_keeps (AttachFailed place) t = refl
passive_keeps (SourceList n got) t = refl
passive_keeps (SourceRead n path at want got) t = refl
passive_keeps (DriveList n got) t = refl
passive_keeps (DriveRead n path at want got) t = refl
passive_keeps (Sync n ok) t = refl
passive_keeps (Moment n) t = refl
passive_keeps (Pick n) t = refl
passive_keeps (Say line ok) t = refl
passive_keeps (Write n path at bytes ok) t = absurd (false≢true t)
passive_keeps (Rename n from to ok) t = absurd (false≢true t)
passive_keeps (Remove n path ok) t = absurd (false≢true t)

-- passive calls change nothing
pub all_passive_keep : (L : List Event) → AllPassive L → NoChange L
unfolding AllPassive NoChange
all_passive_keep [] t = tt
all_passive_keep (e ∷ L) t = (passive_keeps e t.0, all_passive_keep L t.1)

pub passive_none : AllPassive []
unfolding AllPassive
passive_none = tt

pub passive_one : (e : Event) → IsTrue (is_passive e) → AllPassive (e ∷ [])
unfolding AllPassive
passive_one e t = (t, tt)

pub passive_append : (A B : List Event) → AllPassive A → AllPassive B → AllPassive (A ++ B)
unfolding AllPassive
passive_append [] B a b = b
passive_append (e ∷ A) B a b = (a.0, passive_append A B a.1 b)

-- a call of a listing, and one of a read
pub list_passive : (d : ℕ) (result : Result (Vec FileInfo Global) ListError) (L : List Event) → ListCall d result L → AllPassive L
list_passive d (Ok files) L one = subst AllPassive (sym one) (passive_one (DriveList d (Some files.items)) refl)
list_passive d (Err ListFailed) L (inl none) = subst AllPassive (sym none) passive_none
list_passive d (Err ListFailed) L (inr one) = subst AllPassive (sym one) (passive_one (DriveList d None) refl)
list_passive d (Err Memory) L none = subst AllPassive (sym none) passive_none

pub read_passive : (d : ℕ) (path : List ℕ) (at : ℕ) (into : List ℕ) (result : Result (Option ℕ) Failed) (L : List Event) → ReadCall d path at into result L → AllPassive L
read_passive d path at into (Ok got) L one = subst AllPassive (sym one) (passive_one _ refl)
read_passive d path at into (Err e) L (inl none) = subst AllPassive (sym none) passive_none
read_passive d path at into (Err e) L (inr one) = subst AllPassive (sym one) (passive_one (DriveRead d path at (length into) ReadFailed) refl)

-- a look on a drive is passive
look_passive : (d : ℕ) (e : Event) → device_of e ≡ Drive d → is_look e ≡ true → IsTrue (is_passive e)
look_passive d (DriveList n got) on t = refl
look_passive d (DriveRead n path at want got) on t = refl
look_passive d (AttachSource n place) on t = absurd (false≢true t)
look_passive d (AttachDrive n place) on t = absurd (false≢true t)
look_passive d (AttachFailed place) on t = absurd (false≢true t)
look_passive d (SourceList n got) on t = absurd (cc on)
look_passive d (SourceRead n path at want got) on t = absurd (cc on)
look_passive d (Write n path at bytes ok) on t = absurd (false≢true t)
look_passive d (Sync n ok) on t = absurd (false≢true t)
look_passive d (Rename n from to ok) on t = absurd (false≢true t)
look_passive d (Remove n path ok) on t = absurd (false≢true t)
look_passive d (Moment n) on t = absurd (false≢true t)
look_passive d (Pick n) on t = absurd (false≢true t)
look_passive d (Say line ok) on t = absurd (cc on)

-- so is one that failed
failure_passive : (x : Device) (d : ℕ) (e : Event) → device_of e ≡ Drive d → is_failure x e ≡ true → IsTrue (is_passive e)
failure_passive x d (DriveList n got) on t = refl
failure_passive x d (DriveRead n path at want got) on t = refl
failure_passive x d (AttachSource n place) on t = absurd (cc on)
failure_passive x d (AttachDrive n place) on t = absurd (cc on)
failure_passive x d (AttachFailed place) on t = absurd (cc on)
failure_passive x d (SourceList n got) on t = absurd (cc on)
failure_passive x d (SourceRead n path at want got) on t = absurd (cc on)
failure_passive x d (Moment n) on t = absurd (cc on)
failure_passive x d (Pick n) on t = absurd (cc on)
failure_passive x d (Say line ok) on t = absurd (cc on)
failure_passive (Source s) d e on t = absurd (false≢true t)
failure_passive (Drive k) d e on t = absurd (false≢true t)
failure_passive Attaching d e on t = absurd (false≢true t)
failure_passive Output d e on t = absurd (false≢true t)
failure_passive Clock d e on t = absurd (false≢true t)
failure_passive Picker d e on t = absurd (false≢true t)

-- looks on a drive are passive
pub looks_passive : (d : ℕ) (L : List Event) → AllOn (Only (Drive d)) L → Looks L → AllPassive L
unfolding AllOn Looks AllPassive
looks_passive d [] on looks = tt
looks_passive d (e ∷ L) on looks = (look_passive d e on.0 looks.0, looks_passive d L on.1 looks.1)

at_most_passive : (d : ℕ) (at : Option Device) (L : List Event) → AllOn (Only (Drive d)) L → AtMost at L → AllPassive L
unfolding AllOn
at_most_passive d None L on none = subst AllPassive (sym none) passive_none
at_most_passive d (Some x) L on (inl none) = subst AllPassive (sym none) passive_none
at_most_passive d (Some x) L on (inr (e, one, failed)) = let here = subst (AllOn (Only (Drive d))) one on in subst AllPassive (sym one) (passive_one e (failure_passive x d e here.0 failed))

all_on_parts : (On : Device → Type 0) (A B : List Event) → AllOn On (A ++ B) → AllOn On A × AllOn On B
unfolding AllOn
all_on_parts On [] B on = (tt, on)
all_on_parts On (e ∷ A) B on = let rest = all_on_parts On A B on.1 in ((on.0, rest.0), rest.1)

-- looks on a drive, also where they stopped at a failure
pub stops_passive : (d : ℕ) (at : Option Device) (L : List Event) → AllOn (Only (Drive d)) L → Stops at L → AllPassive L
stops_passive d at L on s =
    let here = all_on_parts (Only (Drive d)) s.looks s.last (subst (AllOn (Only (Drive d))) s.is on) in
    subst AllPassive (sym s.is) (passive_append s.looks s.last (looks_passive d s.looks here.0 s.answered) (at_most_passive d at s.last here.1 s.failed))

-- no line at all
abbrev Nothing : List ℕ → Type 0
Nothing line = ⊥

no_line : (e : Event) → (device_of e ≡ Output → ⊥) → LineHas Nothing e
no_line (Say line ok) off = off refl
no_line (AttachSource n place) off = tt
no_line (AttachDrive n place) off = tt
no_line (AttachFailed place) off = tt
no_line (SourceList n got) off = tt
no_line (SourceRead n path at want got) off = tt
no_line (DriveList n got) off = tt
no_line (DriveRead n path at want got) off = tt
no_line (Write n path at bytes ok) off = tt
no_line (Sync n ok) off = tt
no_line (Rename n from to ok) off = tt
no_line (Remove n path ok) off = tt
no_line (Moment t) off = tt
no_line (Pick n) off = tt

-- calls that are not on the output say nothing
lines_off : (On : Device → Type 0) → ((y : Device) → On y → y ≡ Output → ⊥) → (L : List Event) → AllOn On L → AllLines Nothing L
unfolding AllOn AllLines
lines_off On off [] on = tt
lines_off On off (e ∷ L) on = (no_line e (off (device_of e) on.0), lines_off On off L on.1)

-- a device is not two drives
drives_differ : (d k : ℕ) (y : Device) → (k ≡ d → ⊥) → y ≡ Drive d → y ≡ Drive k → ⊥
drives_differ d k y ne a b = let e : Drive d ≡ Drive k = sym a ∙ b in ne (sym (cc e))

-- where the calls so far are told, those before them were
since_told : {On : Device → Type 0} {Q : List Event → Type 0} {old new : Option (List Event)} → ((all : List Event) → new ≡ Some all → Made On Q old all) →
    (past before all : List Event) → old ≡ Some (past ++ before) → new ≡ Some (past ++ all) → Told before all On Q
since_told {On} {Q} {old} {new} told past before all was now =
    let m = told (past ++ all) now in
    let same : Some m.before ≡ Some (past ++ before) = sym m.was ∙ was in
    let start : m.before ≡ past ++ before = cc same in
    record {
      since = m.since;
      is = append_cancel_left past all (before ++ m.since) (m.is ∙ ap (λ (l : List Event). l ++ m.since) start ∙ append_assoc past before m.since);
      on = m.on;
      such = m.such;
    }

module _ (P : Protocol) (d : ℕ) where
  -- passive calls lead the drive nowhere
  leads_passive : (L : List Event) (told : ℕ) (m : Map) (x : State P) → AllOn (Only (Drive d)) L → AllPassive L → Leads P d told m x L x
  unfolding AllOn AllPassive
  leads_passive [] told m x on passive = refl
  leads_passive (e ∷ L) told m x on passive = (x, passes on.0 passive.0, leads_passive L (told_after P e told) (read_after d m e) x on.1 passive.1)

  -- passive calls on the drive
  pub passive_stays : (L : List Event) → AllOn (Only (Drive d)) L → AllPassive L → (start : Map) (s : P.Stage) (before : List Event) → Stays P d start s before (before ++ L)
  passive_stays L on passive start s before = record {
    is_in = λ x is. in-append P d start s before L x x is (leads_passive L (Announced P (P.progress s) before) (reads start before d) x on passive);
    read = reads_unchanged start before L d (all_passive_keep L passive);
    told = told-append P d before L (P.progress s) ∙ told_calls P d L (Announced P (P.progress s) before) on;
  }

  -- calls on other devices, with lines that announce nothing for the drive
  pub away_stays : (On : Device → Type 0) (Q : List ℕ → Type 0) → ((y : Device) → On y → y ≡ Drive d → ⊥) → ((line : List ℕ) → Q line → P.announces line ≡ 0) → (L : List Event) → AllOn On L → AllLines Q L →
      (start : Map) (s : P.Stage) (before : List Event) → Stays P d start s before (before ++ L)
  away_stays On Q off none L on lines start s before = record {
    is_in = λ x is. in-append P d start s before L x x is
        (leads_away P d On Q L (Announced P (P.progress s) before) (reads start before d) x off on lines (λ line has. let zero = none line has in omega (arith, zero)));
    read = reads_still P d On start before L off on;
    told = told-append P d before L (P.progress s) ∙ told_away P Q none L (Announced P (P.progress s) before) lines;
  }

  pub went_away : (On : Device → Type 0) (Q : List ℕ → Type 0) {old new : World} → Went On (AllLines Q) old new → ((y : Device) → On y → y ≡ Drive d → ⊥) → ((line : List ℕ) → Q line → P.announces line ≡ 0) → StaysPut P d old new
  went_away On Q w off none = record {
    stays = λ start s past before all was now.
        let t = told_behind w past before all was now in
        subst (λ (K : List Event). Stays P d start s before K) (sym t.is) (away_stays On Q off none t.since t.on t.such start s before);
  }

  -- calls on devices that are neither the drive nor the output
  pub elsewhere_stays : (On : Device → Type 0) → ((y : Device) → On y → y ≡ Drive d → ⊥) → ((y : Device) → On y → y ≡ Output → ⊥) → (L : List Event) → AllOn On L →
      (start : Map) (s : P.Stage) (before : List Event) → Stays P d start s before (before ++ L)
  elsewhere_stays On off quiet L on start s before = away_stays On Nothing off (λ line none. absurd none) L on (lines_off On quiet L on) start s before

  -- the same, where calls were made
  pub made_elsewhere : (On : Device → Type 0) {Q : List Event → Type 0} {old new : World} → ((all : List Event) → new.events ≡ Some all → Made On Q old.events all) →
      ((y : Device) → On y → y ≡ Drive d → ⊥) → ((y : Device) → On y → y ≡ Output → ⊥) → StaysPut P d old new
  made_elsewhere On told off quiet = record {
    stays = λ start s past before all was now.
        let t = since_told told past before all was now in
        subst (λ (K : List Event). Stays P d start s before K) (sym t.is) (elsewhere_stays On off quiet t.since t.on start s before);
  }

  pub went_elsewhere : (On : Device → Type 0) {Q : List Event → Type 0} {old new : World} → Went On Q old new → ((y : Device) → On y → y ≡ Drive d → ⊥) → ((y : Device) → On y → y ≡ Output → ⊥) → StaysPut P d old new
  went_elsewhere On w off quiet = made_elsewhere On w.told off quiet

  -- the same of two worlds
  went_passive : {old new : World} → Went (Only (Drive d)) AllPassive old new → StaysPut P d old new
  went_passive w = record {
    stays = λ start s past before all was now.
        let t = told_behind w past before all was now in
        subst (λ (K : List Event). Stays P d start s before K) (sym t.is) (passive_stays t.since t.on t.such start s before);
  }

module _ (P : Protocol) (k : ℕ) where
  -- passive calls on any drive
  pub drive_stays : (d : ℕ) {old new : World} → Went (Only (Drive d)) AllPassive old new → StaysPut P k old new
  drive_stays d {old} {new} w = elim (cases_eq k d) [
    | inl same ↦ subst (λ (j : ℕ). StaysPut P j old new) (sym same) (went_passive P d w)
    | inr differ ↦ went_elsewhere P k (Only (Drive d)) w (λ y on is. drives_differ d k y differ on is) (λ y on is. absurd (cc (sym on ∙ is)))
  ]

  -- a listing of any drive
  pub list_stays : (d : ℕ) (result : Result (Vec FileInfo Global) ListError) {ok : Bool} {old new : World} → Called (Drive d) (ListCall d result) ok old new → StaysPut P k old new
  list_stays d result c = drive_stays d (went_such (λ L one. list_passive d result L one) c.went)

  -- a read of any drive
  pub read_stays : (d : ℕ) (path : List ℕ) (at : ℕ) (into : List ℕ) (result : Result (Option ℕ) Failed) {ok : Bool} {old new : World} → Called (Drive d) (ReadCall d path at into result) ok old new → StaysPut P k old new
  read_stays d path at into result c = drive_stays d (went_such (λ L one. read_passive d path at into result L one) c.went)

  -- looks on any drive, also where they stopped at a failure
  pub looks_stay : (d : ℕ) (at : Option Device) {old new : World} → Went (Only (Drive d)) (Stops at) old new → StaysPut P k old new
  looks_stay d at {old} {new} w = drive_stays d (record {
    told = λ all now. let m = w.told all now in record { before = m.before; since = m.since; was = m.was; is = m.is; on = m.on; such = stops_passive d at m.since m.on m.such };
    later = w.later;
    others = w.others;
    attached = w.attached;
  })

  -- whatever was called on a card
  pub card_stays : (s : ℕ) {Q : List Event → Type 0} {old new : World} → Went (Only (Source s)) Q old new → StaysPut P k old new
  card_stays s w = went_elsewhere P k (Only (Source s)) w (λ y on is. absurd (cc (sym on ∙ is))) (λ y on is. absurd (cc (sym on ∙ is)))

  -- a moment
  pub moment_stays : {Q : List Event → Type 0} {old new : World} → Went (Only Clock) Q old new → StaysPut P k old new
  moment_stays w = went_elsewhere P k (Only Clock) w (λ y on is. absurd (cc (sym on ∙ is))) (λ y on is. absurd (cc (sym on ∙ is)))

  -- a pick
  pub pick_stays : {Q : List Event → Type 0} {old new : World} → Went (Only Picker) Q old new → StaysPut P k old new
  pick_stays w = went_elsewhere P k (Only Picker) w (λ y on is. absurd (cc (sym on ∙ is))) (λ y on is. absurd (cc (sym on ∙ is)))

  -- an attach of a drive
  pub attach_stays : (place : List ℕ) (result : Result ℕ Failed) {old new : World} → Attaches place result old new → StaysPut P k old new
  attach_stays place result a = made_elsewhere P k (Only Attaching) a.told (λ y on is. absurd (cc (sym on ∙ is))) (λ y on is. absurd (cc (sym on ∙ is)))

  -- an attach of a card
  pub card_attach_stays : (place : List ℕ) (result : Result ℕ Failed) {old new : World} → CardAttaches place result old new → StaysPut P k old new
  card_attach_stays place result a = made_elsewhere P k (Only Attaching) a.told (λ y on is. absurd (cc (sym on ∙ is))) (λ y on is. absurd (cc (sym on ∙ is)))

  -- one thing after another
  pub stays_then : {old mid new : World} → ((past before all : List Event) → old.events ≡ Some (past ++ before) → new.events ≡ Some (past ++ all) → (some : List Event) × (mid.events ≡ Some (past ++ some))) →
      StaysPut P k old mid → StaysPut P k mid new → StaysPut P k old new
  stays_then told one two = record {
    stays = λ start s past before all was now.
        let between = told past before all was now in
        let first = one.stays start s past before between.0 was between.1 in
        let second = two.stays start s past between.0 all between.1 now in
        record { is_in = λ x is. second.is_in x (first.is_in x is); read = second.read ∙ first.read; told = second.told ∙ first.told };
  }

module _ (P : Protocol) (d : ℕ) where
  -- a call that changes nothing leaves a drive at rest
  rest_step : (e : Event) (told : ℕ) (m : Map) (t : P.Stage) → device_of e ≡ Drive d → is_change e ≡ false → Step P d told m (Settled t) e (Settled t)
  rest_step (DriveList n got) told m t on none = passes on refl
  rest_step (DriveRead n path at want got) told m t on none = passes on refl
  rest_step (Sync n false) told m t on none = passes on refl
  rest_step (Sync n true) told m t on none = let same : n ≡ d = cc on in subst (λ (j : ℕ). Step P d told m (Settled t) (Sync j true) (Settled t)) (sym same) flushes
  rest_step (AttachSource n place) told m t on none = absurd (cc on)
  rest_step (AttachDrive n place) told m t on none = absurd (cc on)
  rest_step (AttachFailed place) told m t on none = absurd (cc on)
  rest_step (SourceList n got) told m t on none = absurd (cc on)
  rest_step (SourceRead n path at want got) told m t on none = absurd (cc on)
  rest_step (Write n path at bytes ok) told m t on none = absurd (false≢true (sym none))
  rest_step (Rename n from to ok) told m t on none = absurd (false≢true (sym none))
  rest_step (Remove n path ok) told m t on none = absurd (false≢true (sym none))
  rest_step (Moment n) told m t on none = absurd (cc on)
  rest_step (Pick n) told m t on none = absurd (cc on)
  rest_step (Say line ok) told m t on none = absurd (cc on)

  leads_rest : (L : List Event) (told : ℕ) (m : Map) (t : P.Stage) → AllOn (Only (Drive d)) L → NoChange L → Leads P d told m (Settled t) L (Settled t)
  unfolding AllOn NoChange
  leads_rest [] told m t on none = refl
  leads_rest (e ∷ L) told m t on none = (Settled t, rest_step e told m t on.0 none.0, leads_rest L (told_after P e told) (read_after d m e) t on.1 none.1)

  -- a drive at rest stays at rest, at its stage, where nothing was changed on it, whatever barriers there were
  pub rests_still : {old new : World} → Went (Only (Drive d)) NoChange old new → (start : Map) (s t : P.Stage) (past before all : List Event) → old.events ≡ Some (past ++ before) → new.events ≡ Some (past ++ all) →
      IsIn P d start s before (Settled t) → IsIn P d start s all (Settled t) × (reads start all d ≡ reads start before d) × (Announced P (P.progress s) all ≡ Announced P (P.progress s) before)
  rests_still w start s t past before all was now is =
      let since = told_behind w past before all was now in
      subst (λ (K : List Event). IsIn P d start s K (Settled t) × (reads start K d ≡ reads start before d) × (Announced P (P.progress s) K ≡ Announced P (P.progress s) before)) (sym since.is) (
        in-append P d start s before since.since (Settled t) (Settled t) is (leads_rest since.since (Announced P (P.progress s) before) (reads start before d) t since.on since.such),
        reads_unchanged start before since.since d since.such,
        told-append P d before since.since (P.progress s) ∙ told_calls P d since.since (Announced P (P.progress s) before) since.on,
      )
