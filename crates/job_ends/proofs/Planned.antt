-- An opening that gave an order, call by call: its plan is the run's, and what was found on its drives.
use Rattle.std.proofs.Common.{◌≡◌, ℕ, zero, suc, ◌+◌, List, [], ◌∷◌, ◌++◌, length, map, refl, sym, ap, ◌∙◌, subst, arith, append_assoc, append-nil}
use Rattle.std.specs.Prelude.{Option, Some, Ok}
use Rattle.std.specs.List.{slice_get, AllByRecursion}
use Rattle.std.specs.FinMap.{get}
use Rattle.bay_core.specs.declared.event.Event.{Event}
use Rattle.bay_core.specs.declared.event.Event.TheVariants.{SourceList, DriveList, Moment}
use Rattle.bay_core.specs.declared.event.FileInfo.{FileInfo}
use Rattle.bay_core.specs.Paths.{journal_path}
use Rattle.bay_core.specs.Replay.{Device, Drive, Clock, calls_on, device_of}
use Rattle.bay_core.specs.Went.{AllOn, Only}
use Rattle.bay_core.specs.World.{World}
use Rattle.bay_core.proofs.Crash.{calls_all}
use Rattle.bay_core.proofs.Replays.{calls_on-append}
use Rattle.card_inventory.specs.Listed.{IsInventoryOf}
use Rattle.copy_plan.specs.declared.file.PlannedFile.{PlannedFile}
use Rattle.copy_plan.specs.Plan.{PlanValue, IsPlan}
use Rattle.drive_journal.specs.declared.order.Order.{Order}
use Rattle.drive_journal.specs.declared.record.Rec.{Rec}
use Rattle.drive_journal.specs.Found.{JournalFound, Journal, JournalReads}
use Rattle.drive_journal.specs.Journal.{HoldsJournal}
use Rattle.drive_journal.specs.Look.{FoundFault}
use Rattle.folder_listing.specs.Listing.{listing}
use Rattle.fresh_opening.specs.declared.error.FreshError.TheVariants.{NotAJournal, AlreadyBegun}
use Rattle.fresh_opening.specs.Openings.{FreshLooks, AsksMoment, draft_of, start_of, starts_of}
use Rattle.fresh_opening.specs.Sights.{Sight, Dropped, Found, FoundCalls, SightCalls, SightsCalls}
use Rattle.command_words.specs.Jobs.{Task, Offloads, Job}
use Rattle.job_story.specs.Plans.{IsMomentCall, IsCardListing, IsRunPlan}
use Rattle.job_story.specs.Run.{Run, run_with}
use Rattle.job_story.specs.Story.{asked_by}
use Rattle.job_calls.specs.Calls.{job_attaches, drive_attaches}
use Rattle.job_calls.proofs.Follows.{each_then}
use Rattle.job_calls.proofs.Opening.{found_at, off_sight, off_sights}
use Rattle.job_calls.proofs.Parts.{Opened}
use Rattle.job_calls.proofs.Told.{cut, tells_went}
use Rattle.job_ends.specs.Says.{IsFoundBare}

-- ---- the calls of an opening that gave an order

-- what was found holds no journal, and is not what should hold one
pub record IsBare (found : JournalFound) : Type 0 where
  pub sound : (at : ℕ) → FoundFault found at → ⊥
  pub bare : (bytes : List ℕ) (p : PlanValue) (recs : List Rec) → found ≡ Journal bytes → HoldsJournal bytes p recs → ⊥

-- so it is where a drive was not dropped
abbrev pub BareSight : Sight → Type 0
BareSight Dropped = Unit {0}
BareSight (Found size found) = IsBare found

-- The card was listed, then the drives were looked at, then the moment was asked; and the order is of these.
pub record WholeOpening (job : Job) (order : Order) (L : List Event) : Type 0 where
  pub listed : List FileInfo
  pub sights : List Sight
  pub looks : List Event
  pub is : L ≡ SourceList 0 (Some listed) ∷ (looks ++ Moment order.plan.started ∷ [])
  pub calls : SightsCalls 0 sights looks
  pub count : length sights ≡ length job.drives
  pub are : order.drives.items ≡ map start_of sights
  pub files : IsInventoryOf listed order.plan.files
  pub draft : order.plan ≡ draft_of (asked_by job.task) order.plan.started order.plan.files
  pub bare : (j : ℕ) (x : Sight) → slice_get sights j ≡ Some x → BareSight x
  pub copies : order.copies ≡ job.copies

module _ (job : Job) (order : Order) (before L : List Event) (mid late : World) (o : Opened job (Ok order) before L mid late) where
  abbrev l : FreshLooks 0 (length job.drives) job.copies (asked_by job.task) (Ok order) mid late
  l = o.opens.opens

  asked_is : (plan : Option PlanValue) (E : List Event) → plan ≡ Some order.plan → AsksMoment plan E → E ≡ Moment order.plan.started ∷ []
  asked_is plan E is asks = subst (λ (p : Option PlanValue). AsksMoment p E → E ≡ Moment order.plan.started ∷ []) (sym is) (λ one. one) asks

  bare_at : (j : ℕ) (x : Sight) → slice_get l.scene.sights j ≡ Some x → BareSight x
  bare_at j Dropped is = tt
  bare_at j (Found size found) is =
      let none = l.answer.1 in
      record {
        sound = λ at fault. none (NotAJournal j at) (size, found, record { place = j; number = (let from = l.from in omega (arith, from)); is = is }, fault);
        bare = λ bytes p recs same holds.
            none (AlreadyBegun j) (size, bytes, p, recs, record { place = j; number = (let from = l.from in omega (arith, from)); is = is ∙ ap (λ (f : JournalFound). Some (Found size f)) same }, holds);
      }

  pub whole_opening : WholeOpening job order L
  whole_opening =
      let c = cut (tells_went l.card.1.called.went) (tells_went l.went) before L o.was o.now in
      let t = c.there.1 in
      let plan_is = l.answer.2.plan_is in
      let drafted = (l.drafted order.plan plan_is).is in
      let files_are : order.plan.files ≡ l.files = ap (λ (p : PlanValue). p.files) drafted in
      let asks : t.there.first ≡ Moment order.plan.started ∷ [] = asked_is l.scene.plan t.there.first plan_is t.there.here in
      let behind : t.second ≡ Moment order.plan.started ∷ [] = t.there.is ∙ (λ i. asks i ++ t.there.there i) in
      record {
        listed = l.card.0;
        sights = l.scene.sights;
        looks = t.first;
        is = c.is ∙ (λ i. c.here.1 i ++ (t.is ∙ ap (λ (E : List Event). t.first ++ E) behind) i);
        calls = subst (λ (n : ℕ). SightsCalls n l.scene.sights t.first) l.from t.here;
        count = l.answer.0;
        are = l.answer.2.drives_are ∙ ap (λ (first : ℕ). starts_of first l.scene.sights) l.from;
        files = subst (IsInventoryOf l.card.0) (sym files_are) l.card.2;
        draft = drafted ∙ ap (draft_of (asked_by job.task) order.plan.started) (sym files_are);
        bare = bare_at;
        copies = l.answer.2.copies_is;
      }

-- ---- the plan

abbrev NoMoment : List Event → Type 0
NoMoment L = AllByRecursion (λ x. IsMomentCall x → ⊥) L

abbrev NoCardListing : List Event → Type 0
NoCardListing L = AllByRecursion (λ x. IsCardListing x → ⊥) L

one_moment_off : (On : Device → Type 0) → (On Clock → ⊥) → (e : Event) → On (device_of e) → IsMomentCall e → ⊥
one_moment_off On off (Moment t) on is = off on
one_moment_off On off e on is = is

moment_off : (On : Device → Type 0) → (On Clock → ⊥) → (L : List Event) → AllOn On L → NoMoment L
unfolding AllOn
moment_off On off [] on = tt
moment_off On off (e ∷ L) on = (one_moment_off On off e on.0, moment_off On off L on.1)

drive_moment_off : (d : ℕ) (L : List Event) → AllOn (Only (Drive d)) L → NoMoment L
drive_moment_off d L on = moment_off (Only (Drive d)) (λ is. absurd (cc is)) L on

looks_moment_off : (d : ℕ) (xs : List Sight) (L : List Event) → SightsCalls d xs L → NoMoment L
unfolding SightsCalls
looks_moment_off d [] L none = subst NoMoment (sym none) tt
looks_moment_off d (Dropped ∷ xs) L t =
    subst NoMoment (sym t.is)
    (each_then (λ x. IsMomentCall x → ⊥) t.first t.second
    (subst NoMoment (sym t.here.is) (each_then (λ x. IsMomentCall x → ⊥) t.here.first t.here.second (drive_moment_off d t.here.first t.here.here.on) (subst NoMoment (sym t.here.there) ((λ is. is), tt))))
    (looks_moment_off (suc d) xs t.second t.there))
looks_moment_off d (Found size found ∷ xs) L t =
    subst NoMoment (sym t.is) (each_then (λ x. IsMomentCall x → ⊥) t.first t.second (drive_moment_off d t.first (found_at d size found t.first t.here).on) (looks_moment_off (suc d) xs t.second t.there))

attaches_moment_off : (d : ℕ) (places : List (List ℕ)) → NoMoment (drive_attaches d places)
attaches_moment_off d [] = tt
attaches_moment_off d (place ∷ places) = ((λ is. is), attaches_moment_off (suc d) places)

attaches_listing_off : (d : ℕ) (places : List (List ℕ)) → NoCardListing (drive_attaches d places)
attaches_listing_off d [] = tt
attaches_listing_off d (place ∷ places) = ((λ is. is), attaches_listing_off (suc d) places)

-- a task is that of the plan which it asks for
task_is : (task : Task) (p : PlanValue) (started : ℕ) (files : List PlannedFile) → p ≡ draft_of (asked_by task) started files → task ≡ Offloads p.name p.user p.host p.kinds
task_is (Offloads name user host kinds) p started files is = λ i. Offloads (sym (ap (λ (q : PlanValue). q.name) is) i) (sym (ap (λ (q : PlanValue). q.user) is) i) (sym (ap (λ (q : PlanValue). q.host) is) i) (sym (ap (λ (q : PlanValue). q.kinds) is) i)

module _ (job : Job) (order : Order) (old new : World) (since opening more : List Event) (w : WholeOpening job order opening) (is : since ≡ job_attaches job ++ (opening ++ more)) where
  abbrev run : Run
  run = run_with job old new since

  -- all calls, with those of the opening
  spread : since ≡ job_attaches job ++ SourceList 0 (Some w.listed) ∷ ((w.looks ++ Moment order.plan.started ∷ []) ++ more)
  spread = is ∙ ap (λ (E : List Event). job_attaches job ++ (E ++ more)) w.is

  moment_at : since ≡ (job_attaches job ++ (SourceList 0 (Some w.listed) ∷ w.looks)) ++ Moment order.plan.started ∷ more
  moment_at =
      spread
      ∙ ap (λ (E : List Event). job_attaches job ++ SourceList 0 (Some w.listed) ∷ E) (append_assoc w.looks (Moment order.plan.started ∷ []) more)
      ∙ sym (append_assoc (job_attaches job) (SourceList 0 (Some w.listed) ∷ w.looks) (Moment order.plan.started ∷ more))

  pub run_plan : IsPlan order.plan → IsRunPlan run order.plan
  run_plan plan = record {
    plan = plan;
    task = task_is job.task order.plan order.plan.started order.plan.files w.draft;
    source_list = ap (λ (p : PlanValue). p.source_list) w.draft;
    started = record {
      before = job_attaches job ++ (SourceList 0 (Some w.listed) ∷ w.looks);
      after = more;
      is = moment_at;
      such = tt;
      none = each_then (λ x. IsMomentCall x → ⊥) (job_attaches job) (SourceList 0 (Some w.listed) ∷ w.looks) ((λ none. none), attaches_moment_off 0 job.drives) ((λ none. none), looks_moment_off 0 w.sights w.looks w.calls);
    };
    listed = w.listed;
    listing = record {
      before = job_attaches job;
      after = (w.looks ++ Moment order.plan.started ∷ []) ++ more;
      is = spread;
      such = tt;
      none = ((λ none. none), attaches_listing_off 0 job.drives);
    };
    files = w.files;
  }

-- ---- what was found on a drive

-- the first calls on a drive that was not dropped are a listing of it, and the reads of its journal
pub record SeenCalls (d : ℕ) (found : JournalFound) (L : List Event) : Type 0 where
  pub files : List FileInfo
  pub reads : List Event
  pub is : calls_on d L ≡ DriveList d (Some files) ∷ reads
  pub such : JournalReads d (get (listing files) journal_path) found reads

seen_at : (k : ℕ) (size : List ℕ → Option ℕ) (found : JournalFound) (A B L : List Event) → L ≡ A ++ B → FoundCalls k size found A → calls_on k B ≡ [] → SeenCalls k found L
seen_at k size found A B L is f off =
    let first : calls_on k A ≡ A = calls_all k A (found_at k size found A f).on in
    record {
      files = f.files;
      reads = f.calls.reads;
      is = ap (calls_on k) is ∙ calls_on-append k A B ∙ (λ i. first i ++ off i) ∙ append-nil A ∙ f.calls.is;
      such = f.calls.such;
    }

seen_later : (d : ℕ) (found : JournalFound) (A B L : List Event) → L ≡ A ++ B → calls_on d A ≡ [] → SeenCalls d found B → SeenCalls d found L
seen_later d found A B L is off s = record {
  files = s.files;
  reads = s.reads;
  is = ap (calls_on d) is ∙ calls_on-append d A B ∙ (λ i. off i ++ s.is i);
  such = s.such;
}

seen_calls : (k d j : ℕ) (xs : List Sight) (size : List ℕ → Option ℕ) (found : JournalFound) (L : List Event) → d ≡ k + j → SightsCalls k xs L → slice_get xs j ≡ Some (Found size found) → SeenCalls d found L
unfolding SightsCalls
seen_calls k d j [] size found L number none at = absurd (cc at)
seen_calls k d zero (x ∷ xs) size found L number t at =
    let same : x ≡ Found size found = cc at in
    let here : k ≡ d = omega (arith, number) in
    subst (λ (e : ℕ). SeenCalls e found L) here
    (seen_at k size found t.first t.second L t.is (subst (λ (y : Sight). SightCalls k y t.first) same t.here) (off_sights k (suc k) xs t.second (omega arith) t.there))
seen_calls k d (suc j) (x ∷ xs) size found L number t at =
    seen_later d found t.first t.second L t.is (off_sight d k x t.first (λ is. omega (arith, is, number)) t.here) (seen_calls (suc k) d j xs size found t.second (omega (arith, number)) t.there at)

attaches_off : (k d : ℕ) (places : List (List ℕ)) → calls_on k (drive_attaches d places) ≡ []
attaches_off k d [] = refl
attaches_off k d (place ∷ places) = attaches_off k (suc d) places

module _ (job : Job) (order : Order) (since opening more : List Event) (w : WholeOpening job order opening) (is : since ≡ job_attaches job ++ (opening ++ more)) where
  pub found_bare : (d : ℕ) (size : List ℕ → Option ℕ) (found : JournalFound) → slice_get w.sights d ≡ Some (Found size found) → IsFoundBare d since
  found_bare d size found at =
      let s = seen_calls 0 d d w.sights size found w.looks (omega arith) w.calls at in
      let looks : calls_on d opening ≡ DriveList d (Some s.files) ∷ s.reads = ap (calls_on d) w.is ∙ calls_on-append d w.looks (Moment order.plan.started ∷ []) ∙ append-nil (calls_on d w.looks) ∙ s.is in
      let b = w.bare d (Found size found) at in
      record {
        files = s.files;
        found = found;
        looked = record {
          reads = s.reads;
          rest = calls_on d more;
          is = ap (calls_on d) is ∙ calls_on-append d (job_attaches job) (opening ++ more) ∙ ap (λ (E : List Event). E ++ calls_on d (opening ++ more)) (attaches_off d 0 job.drives) ∙ calls_on-append d opening more ∙ ap (λ (E : List Event). E ++ calls_on d more) looks;
          such = s.such;
        };
        sound = b.sound;
        bare = b.bare;
      }
