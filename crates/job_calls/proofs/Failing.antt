-- No call of a run must fail.
use Rattle.std.proofs.Common.{◌≡◌, inl, inr, ℕ, zero, suc, ◌<◌, ◌≤◌, Bool, true, false, not, List, [], ◌∷◌, ◌++◌, length, take, refl, sym, ap, ◌∙◌, subst, arith, append_assoc}
use Rattle.std.specs.Prelude.{◌||◌, Contains, Option, Some, None, Result, Ok, is_some, option_map, slice_index_or}
use Rattle.std.specs.List.{AllByRecursion}
use Rattle.std.specs.FinMap.{get}
use Rattle.std.proofs.lemmas.Bool.{false≢true}
use Rattle.bay_core.specs.declared.event.Event.{Event}
use Rattle.bay_core.specs.declared.event.Event.TheVariants.{AttachSource, AttachFailed, SourceList, SourceRead, Rename}
use Rattle.bay_core.specs.Looks.{IsUntouched, is_effect}
use Rattle.bay_core.specs.Map.{Map, Dates, AllDated}
use Rattle.bay_core.specs.Replay.{Device, Source, Output, calls_on, device_of, reads}
use Rattle.bay_core.specs.Went.{AllOn, Only, MaySee}
use Rattle.bay_core.specs.World.{World, Attached, Honest, Steady}
use Rattle.bay_core.proofs.Replays.{calls_on-append, calls_elsewhere, reads_by_calls}
use Rattle.card_inventory.specs.Card.{MayList}
use Rattle.copy_plan.specs.Plan.{PlanValue}
use Rattle.drive_journal.specs.declared.order.Order.{Order}
use Rattle.fan_core.specs.Flags.{has}
use Rattle.fresh_opening.specs.declared.error.FreshError.{FreshError}
use Rattle.fresh_opening.specs.Openings.{OfDrives}
use Rattle.run_state.specs.Calls.{IsOfRun}
use Rattle.run_state.specs.Rules.{IsRun, IsStart}
use Rattle.run_state.specs.Runs.{Point, Alone, Runs, IsPlanned}
use Rattle.run_state.specs.State.{Ordered, DriveAt, Gone, Fresh, Begun, Found, Sealed, IsCalled, drive_at, is_gone, is_of_run}
use Rattle.run_steps.specs.Parts.{PartsReady}
use Rattle.offload_run.specs.Offload.{ordered_of, stands_at}
use Rattle.run_reads.specs.Reads.{ReadsItsFiles}
use Rattle.run_ends.specs.Renames.{RenamesWhatIsThere}
use Rattle.run_calls.proofs.Lists.{split_at, on_at}
use Rattle.command_words.specs.Jobs.{Job}
use Rattle.job_story.specs.Attaching.{AttachesDrives}
use Rattle.job_story.specs.Ends.{JobEnd}
use Rattle.job_story.specs.Run.{Run, run_with, IsHonest, IsSteady}
use Rattle.job_calls.specs.Calls.{job_attaches, drive_attaches, StopsAttaching}
use Rattle.job_calls.specs.Fails.{FailsNone}
use Rattle.job_calls.proofs.Attaching.{card_makes, drives_make}
use Rattle.job_calls.proofs.Ending.{Lasts, lasts_of}
use Rattle.job_calls.proofs.Follows.{each_at, each_then}
use Rattle.job_calls.proofs.Opened.{OpeningCalls, unlisted, listed, looked}
use Rattle.job_calls.proofs.Owning.{sights_of}
use Rattle.job_calls.proofs.Parts.{Parts, halted, opened, ran, Begun as BegunWith, Opened, Turned}
use Rattle.job_calls.proofs.Stopping.{ReadyWithout}
use Rattle.job_calls.proofs.Told.{cut}
use Rattle.job_calls.proofs.Turning.{IsOfSights, called_drive, keep_no_parts}

-- ---- reads of a card, and renames

abbrev pub is_card_read : Event → Bool
is_card_read (SourceRead s path at want got) = true
is_card_read _ = false

abbrev is_rename : Event → Bool
is_rename (Rename d from to ok) = true
is_rename _ = false

abbrev pub IsNoRead : Event → Type 0
IsNoRead e = is_card_read e ≡ false

abbrev IsNoRename : Event → Type 0
IsNoRename e = is_rename e ≡ false

abbrev pub NoRead : List Event → Type 0
NoRead L = AllByRecursion IsNoRead L

abbrev NoRename : List Event → Type 0
NoRename L = AllByRecursion IsNoRename L

one_unread : (On : Device → Type 0) → ((s : ℕ) → On (Source s) → ⊥) → (e : Event) → On (device_of e) → is_card_read e ≡ false
one_unread On off (SourceRead s path at want got) on = absurd (off s on)
one_unread On off e on = refl

-- calls on no card
unread : (On : Device → Type 0) → ((s : ℕ) → On (Source s) → ⊥) → (L : List Event) → AllOn On L → NoRead L
unfolding AllOn
unread On off [] on = tt
unread On off (e ∷ L) on = (one_unread On off e on.0, unread On off L on.1)

one_unnamed : (e : Event) → is_effect e ≡ false → is_rename e ≡ false
one_unnamed (Rename d from to ok) not = absurd (false≢true (sym not))
one_unnamed e not = refl

-- calls that change nothing
unnamed : (L : List Event) → IsUntouched L → NoRename L
unfolding IsUntouched
unnamed [] none = tt
unnamed (e ∷ L) none = (one_unnamed e none.0, unnamed L none.1)

one_said : (e : Event) → device_of e ≡ Output → is_rename e ≡ false
one_said (Rename d from to ok) on = absurd (cc on)
one_said e on = refl

-- lines
lines_unnamed : (L : List Event) → AllOn (Only Output) L → NoRename L
unfolding AllOn
lines_unnamed [] on = tt
lines_unnamed (e ∷ L) on = (one_said e on.0, lines_unnamed L on.1)

pub lines_unread : (L : List Event) → AllOn (Only Output) L → NoRead L
lines_unread L on = unread (Only Output) (λ s is. absurd (cc is)) L on

-- attaches
drives_unnamed : (d : ℕ) (places : List (List ℕ)) → NoRename (drive_attaches d places)
drives_unnamed d [] = tt
drives_unnamed d (place ∷ places) = (refl, drives_unnamed (suc d) places)

drives_unread : (d : ℕ) (places : List (List ℕ)) → NoRead (drive_attaches d places)
drives_unread d [] = tt
drives_unread d (place ∷ places) = (refl, drives_unread (suc d) places)

attaches_unnamed : (job : Job) → NoRename (job_attaches job)
attaches_unnamed job = (refl, drives_unnamed 0 job.drives)

pub attaches_unread : (job : Job) → NoRead (job_attaches job)
attaches_unread job = (refl, drives_unread 0 job.drives)

each_take : (P : Event → Type 0) (n : ℕ) (L : List Event) → AllByRecursion P L → AllByRecursion P (take n L)
each_take P zero L all = tt
each_take P (suc n) [] all = tt
each_take P (suc n) (e ∷ L) all = (all.0, each_take P n L all.1)

each_seen : (P : Event → Type 0) (e : Event) (L : List Event) → P e → MaySee e L → AllByRecursion P L
each_seen P e L is (inl none) = subst (AllByRecursion P) (sym none) tt
each_seen P e L is (inr one) = subst (AllByRecursion P) (sym one) (is, tt)

-- a run that stopped at an attach
module _ (job : Job) (end : JobEnd) (result : ℕ) (L : List Event) (s : StopsAttaching job end result L) where
  stopped_each : (P : Event → Type 0) → AllByRecursion P (job_attaches job) → P (AttachFailed s.place) → AllByRecursion P s.last → AllByRecursion P L
  stopped_each P attaches failed last =
      subst (AllByRecursion P) (sym s.is)
      (each_then P (take s.n (job_attaches job)) (s.failed ++ s.last) (each_take P s.n (job_attaches job) attaches) (each_then P s.failed s.last (each_seen P (AttachFailed s.place) s.failed failed s.seen) last))

  stopped_unread : NoRead L
  stopped_unread = stopped_each IsNoRead (attaches_unread job) refl (lines_unread s.last (lasts_of end result s.last s.lines).on)

  stopped_unnamed : NoRename L
  stopped_unnamed = stopped_each IsNoRename (attaches_unnamed job) refl (lines_unnamed s.last (lasts_of end result s.last s.lines).on)

-- an opening
list_unread : (L : List Event) → MayList 0 L → NoRead L
list_unread L (inl none) = subst NoRead (sym none) tt
list_unread L (inr (files, one)) = subst NoRead (sym one) (refl, tt)

pub opening_unread : (count : ℕ) (came : Result Order FreshError) (L : List Event) → OpeningCalls count came L → NoRead L
opening_unread count came L (unlisted is calls) = each_seen IsNoRead (SourceList 0 None) L refl calls
opening_unread count came L (listed other calls) = list_unread L calls
opening_unread count came L (looked s low t) =
    subst NoRead (sym t.is) (each_then IsNoRead t.first t.second (list_unread t.first t.here) (unread (OfDrives count) (λ s on. on) t.second t.there.on))

-- ---- a call among calls

place_at : (L : List Event) (e : Event) (k : ℕ) → k < length L → slice_index_or L k e ≡ e → (front : List Event) × (back : List Event) × (L ≡ front ++ e ∷ back)
place_at [] e k low is = absurd (omega (arith, low))
place_at (x ∷ L) e zero low is = ([], L, ap (λ (y : Event). y ∷ L) is)
place_at (x ∷ L) e (suc k) low is =
    let rest = place_at L e k (omega (arith, low)) is in
    (x ∷ rest.0, rest.1, ap (λ (l : List Event). x ∷ l) rest.2)

-- a call that is among these is at a place of them
pub place_of : (L : List Event) (e : Event) → Contains L e → (front : List Event) × (back : List Event) × (L ≡ front ++ e ∷ back)
place_of L e there = place_at L e there.0 there.1 there.2

-- none of these is such a call
none_such : (P : Event → Bool) (L front back : List Event) (e : Event) → AllByRecursion (λ x. P x ≡ false) L → P e ≡ true → L ≡ front ++ e ∷ back → ⊥
none_such P L front back e none such is = false≢true (sym (each_at (λ x. P x ≡ false) front back e (subst (AllByRecursion (λ x. P x ≡ false)) is none)) ∙ such)

-- ---- what a turn calls

-- what the laws of runs say
abbrev pub ReadsItsOwn : Type 0
ReadsItsOwn = (o : Ordered) (a b : Point) → IsRun o a.at → Alone o a b → (past L : List Event) → a.world.events ≡ Some past → b.world.events ≡ Some (past ++ L) → ReadsItsFiles o L

abbrev pub RenamesFind : Type 0
RenamesFind = (o : Ordered) (a b : Point) → IsStart o a.at → PartsReady o a → Runs o a b → (d : ℕ) (start : Map) (past L : List Event) → is_of_run a.at.drives d ≡ true → Honest a.world d start past
    → b.world.events ≡ Some (past ++ L) → RenamesWhatIsThere d start past L

abbrev pub TurnsAlone : Type 0
TurnsAlone = (o : Ordered) (a b : Point) → Alone o a b → Runs o a b

-- a drive that may be called is one of the run
called_there : (x : DriveAt) → IsCalled x → is_gone x ≡ false
called_there Fresh called = refl
called_there (Begun recs gate kept) called = refl
called_there Gone called = absurd called
called_there (Found recs) called = absurd called
called_there Sealed called = absurd called

-- a file with a size is there
sized_there : (o : Option (List ℕ)) (n : ℕ) → option_map length o ≡ Some n → is_some o ≡ true
sized_there None n is = absurd (cc is)
sized_there (Some bytes) n is = refl

-- no call was on a drive before the first drive was attached
unused_first : (places : List (List ℕ)) (d : ℕ) (old new : World) → AttachesDrives d places old new → 0 < length places → (L : List Event) → old.events ≡ Some L → (e : ℕ) → old.attached.drives ≤ e → calls_on e L ≡ []
unfolding AttachesDrives
unused_first [] d old new is some L was e low = absurd (omega (arith, some))
unused_first (place ∷ places) d old new (mid, a, more) some L was e low = a.unused L was e low

-- the first calls
three_then : (A B C D : List Event) → ((A ++ B) ++ C) ++ D ≡ A ++ (B ++ (C ++ D))
three_then A B C D = append_assoc (A ++ B) C D ∙ append_assoc A B (C ++ D)

module _ (reads_own : ReadsItsOwn) (find : RenamesFind) (alone : TurnsAlone) (ready : ReadyWithout) (job : Job) (end : JobEnd) (past since : List Event) (old new mid late done : World) (order : Order) (opening turning : List Event)
    (was : old.events ≡ Some past) (no_drives : old.attached.drives ≡ 0) (b : BegunWith job past old mid) (o : Opened job (Ok order) (past ++ job_attaches job) opening mid late) (t : Turned job order end ((past ++ job_attaches job) ++ opening) turning late done)
    (same : new.attached ≡ done.attached) where
  abbrev of_this : Run
  of_this = run_with job old new since

  abbrev behind : List Event
  behind = (past ++ job_attaches job) ++ opening

  abbrev at_first : Point
  at_first = record { at = stands_at t.turns.run; pool = t.turns.pool; world = late }

  abbrev at_last : Point
  at_last = record { at = stands_at t.turns.then_run; pool = t.turns.then_pool; world = done }

  of_job : IsOfSights job order t.turns.run
  of_job = sights_of job order end behind turning (past ++ job_attaches job) opening o t

  late_same : new.attached ≡ late.attached
  late_same = same ∙ t.same

  mid_same : new.attached ≡ mid.attached
  mid_same = late_same ∙ o.opens.untouched.attached

  -- ---- the card

  files_there : (card : Map) (dates : Dates) → IsSteady of_this card dates → AllDated card dates → (path : List ℕ) → IsPlanned (ordered_of t.turns.run).plan path → is_some (get card path) ≡ true
  files_there card dates steady dated path (file, among, is) =
      let then_steady : Steady mid 0 card = record { steady = ap (λ (a : Attached). a.steady 0) (sym mid_same) ∙ steady.steady; card = ap (λ (a : Attached). a.card 0) (sym mid_same) ∙ steady.has } in
      let then_dates : mid.attached.card_dates 0 ≡ dates = ap (λ (a : Attached). a.card_dates 0) (sym mid_same) ∙ steady.dated in
      let files = o.opens.of_card card then_steady (subst (AllDated card) (sym then_dates) dated) in
      let of_file = (files.just file).0 (subst (λ (p : PlanValue). Contains p.files file) of_job.plan among) in
      subst (λ (q : List ℕ). is_some (get card q) ≡ true) (sym is) (sized_there (get card file.path) file.size of_file.size)

  turn_reads : (card : Map) (dates : Dates) → IsSteady of_this card dates → AllDated card dates → (path : List ℕ) (at want : ℕ) (got : Option (List ℕ)) (front back : List Event) → turning ≡ front ++ SourceRead 0 path at want got ∷ back → is_some (get card path) ≡ true
  turn_reads card dates steady dated path at want got front back is =
      files_there card dates steady dated path ((reads_own (ordered_of t.turns.run) at_first at_last t.turns.starts.run t.turns.alone behind turning t.was t.now).each front back 0 path at want got is).1

  -- ---- a drive

  module _ (d : ℕ) (start : Map) (honest : IsHonest of_this d start) (front back : List Event) (from to : List ℕ) (ok : Bool) (is : turning ≡ front ++ Rename d from to ok ∷ back) where
    called : IsCalled (drive_at (stands_at t.turns.run).drives.each d)
    called = on_at (IsOfRun (ordered_of t.turns.run) (stands_at t.turns.run).drives) front back (Rename d from to ok) (subst (AllOn (IsOfRun (ordered_of t.turns.run) (stands_at t.turns.run).drives)) is t.on)

    of_run : is_of_run (stands_at t.turns.run).drives d ≡ true
    of_run = ap (λ (gone : Bool). not gone || has (stands_at t.turns.run).drives.dropped d) (called_there (drive_at (stands_at t.turns.run).drives.each d) called)

    is_honest : Honest late d start behind
    is_honest = record { honest = ap (λ (a : Attached). a.honest d) (sym late_same) ∙ honest.honest; start = ap (λ (a : Attached). a.start d) (sym late_same) ∙ honest.had; events = t.was }

    -- no call was on the drive before the run
    unused : calls_on d past ≡ []
    unused =
        let low = called_drive job order t.turns.run of_job d called in
        let card_drives : b.attached.mid.attached.drives ≡ 0 = b.attached.card.numbered.3 ∙ no_drives in
        let c = cut (card_makes job.card old b.attached.mid b.attached.card) (drives_make job.drives 0 b.attached.mid mid b.attached.drives) past (job_attaches job) was b.now in
        let now : b.attached.mid.events ≡ Some (past ++ AttachSource 0 job.card ∷ []) = c.at ∙ ap (λ (l : List Event). Some (past ++ l)) c.here in
        sym (calls_elsewhere past (AttachSource 0 job.card) d refl) ∙ unused_first job.drives 0 b.attached.mid mid b.attached.drives (omega (arith, low)) (past ++ AttachSource 0 job.card ∷ []) now d (omega (arith, card_drives))

    same_reads : reads start (behind ++ front) d ≡ reads start (job_attaches job ++ (opening ++ front)) d
    same_reads = reads_by_calls start (behind ++ front) (job_attaches job ++ (opening ++ front)) d
        (ap (calls_on d) (three_then past (job_attaches job) opening front) ∙ calls_on-append d past (job_attaches job ++ (opening ++ front)) ∙ ap (λ (l : List Event). l ++ calls_on d (job_attaches job ++ (opening ++ front))) unused)

    turn_renames : is_some (get (reads start (job_attaches job ++ (opening ++ front)) d) from) ≡ true
    turn_renames =
        subst (λ (m : Map). is_some (get m from) ≡ true) same_reads
        ((find (ordered_of t.turns.run) at_first at_last t.turns.starts (ready (ordered_of t.turns.run) at_first t.turns.starts (keep_no_parts job order t.turns.run of_job)) (alone (ordered_of t.turns.run) at_first at_last t.turns.alone) d start behind turning of_run is_honest t.now).each front back from to ok is)

-- ---- the whole

module _ (reads_own : ReadsItsOwn) (find : RenamesFind) (alone : TurnsAlone) (ready : ReadyWithout) (job : Job) (end : JobEnd) (result : ℕ) (past since : List Event) (old new : World) (was : old.events ≡ Some past) (no_drives : old.attached.drives ≡ 0) where
  abbrev run : Run
  run = run_with job old new since

  no_read_at : NoRead since → (path : List ℕ) (at want : ℕ) (got : Option (List ℕ)) → Contains since (SourceRead 0 path at want got) → ⊥
  no_read_at none path at want got there = let p = place_of since (SourceRead 0 path at want got) there in none_such is_card_read since p.0 p.1 (SourceRead 0 path at want got) none refl p.2

  no_rename_at : NoRename since → (before after : List Event) (d : ℕ) (from to : List ℕ) (ok : Bool) → since ≡ before ++ Rename d from to ok ∷ after → ⊥
  no_rename_at none before after d from to ok is = none_such is_rename since before after (Rename d from to ok) none refl is

  -- a run of which no call is such
  plain : NoRead since → NoRename since → FailsNone run
  plain unread unnamed = record {
    card = λ card dates steady path at want got there. absurd (no_read_at unread path at want got there);
    drive = λ d start honest before after from to ok is. absurd (no_rename_at unnamed before after d from to ok is);
  }

  module _ (order : Order) (mid late done : World) (opening turning last : List Event) (b : BegunWith job past old mid) (o : Opened job (Ok order) (past ++ job_attaches job) opening mid late)
      (t : Turned job order end ((past ++ job_attaches job) ++ opening) turning late done) (lasts : Lasts end result last) (same : new.attached ≡ done.attached) (is : since ≡ job_attaches job ++ (opening ++ (turning ++ last)))
      (dated : (card : Map) (dates : Dates) → IsSteady run card dates → AllDated card dates) where
    -- where such a call is
    pub record InTurns (before after : List Event) (e : Event) : Type 0 where
      pub front : List Event
      pub rest : List Event
      pub first : before ≡ job_attaches job ++ (opening ++ front)
      pub at : turning ≡ front ++ e ∷ rest

    in_turns : (P : Event → Bool) → AllByRecursion (λ x. P x ≡ false) (job_attaches job) → AllByRecursion (λ x. P x ≡ false) opening → AllByRecursion (λ x. P x ≡ false) last → (before after : List Event) (e : Event) → P e ≡ true
        → since ≡ before ++ e ∷ after → InTurns before after e
    in_turns P attaches looks lines before after e such at = elim (split_at (job_attaches job) (opening ++ (turning ++ last)) before after e (sym is ∙ at)) [
      | inl found ↦ absurd (none_such P (job_attaches job) before found.0 e attaches such found.1)
      | inr one ↦ elim (split_at opening (turning ++ last) one.0 after e one.2) [
        | inl found ↦ absurd (none_such P opening one.0 found.0 e looks such found.1)
        | inr two ↦ elim (split_at turning last two.0 after e two.2) [
          | inl found ↦ record { front = two.0; rest = found.0; first = one.1 ∙ ap (λ (l : List Event). job_attaches job ++ l) two.1; at = found.1 }
          | inr three ↦ absurd (none_such P last three.0 after e lines such three.2)
        ]
      ]
    ]

    ran_fails_none : FailsNone run
    ran_fails_none = record {
      card = λ card dates steady path at want got there.
          let e = SourceRead 0 path at want got in
          let p = place_of since e there in
          let found = in_turns is_card_read (attaches_unread job) (opening_unread (length job.drives) (Ok order) opening o.calls) (lines_unread last lasts.on) p.0 p.1 e refl p.2 in
          turn_reads reads_own find alone ready job end past since old new mid late done order opening turning was no_drives b o t same card dates steady (dated card dates steady) path at want got found.front found.rest found.at;
      drive = λ d start honest before after from to ok at.
          let e = Rename d from to ok in
          let found = in_turns is_rename (attaches_unnamed job) (unnamed opening o.untouched) (lines_unnamed last lasts.on) before after e refl at in
          subst (λ (l : List Event). is_some (get (reads start l d) from) ≡ true) (sym found.first)
          (turn_renames reads_own find alone ready job end past since old new mid late done order opening turning was no_drives b o t same d start honest found.front found.rest from to ok found.at);
    }

  pub fails_none_of : Parts job end result past since old new → ((card : Map) (dates : Dates) → IsSteady run card dates → AllDated card dates) → FailsNone run
  fails_none_of (halted s there) dated = plain (stopped_unread job end result since s) (stopped_unnamed job end result since s)
  fails_none_of (opened came mid late opening last ends b o lasts same is) dated =
      plain
      (subst NoRead (sym is) (each_then IsNoRead (job_attaches job) (opening ++ last) (attaches_unread job) (each_then IsNoRead opening last (opening_unread (length job.drives) came opening o.calls) (lines_unread last lasts.on))))
      (subst NoRename (sym is) (each_then IsNoRename (job_attaches job) (opening ++ last) (attaches_unnamed job) (each_then IsNoRename opening last (unnamed opening o.untouched) (lines_unnamed last lasts.on))))
  fails_none_of (ran order mid late done opening turning last b o t lasts same is) dated = ran_fails_none order mid late done opening turning last b o t lasts same is dated
