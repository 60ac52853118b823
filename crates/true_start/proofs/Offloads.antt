-- An honest drive of a true order is one that an offload goes on with.
use Rattle.std.proofs.Common.{◌≡◌, ◌≢◌, ◌⊎◌, inl, inr, ℕ, zero, suc, true, false, List, [], length, refl, sym, ap, ◌∙◌, subst, arith, append-nil}
use Rattle.std.specs.Prelude.{Option, Some, None, option_map, is_some}
use Rattle.std.specs.FinMap.{get}
use Rattle.std.proofs.lemmas.Bool.{false≢true}
use Rattle.bay_core.specs.declared.event.Event.{Event}
use Rattle.bay_core.specs.Map.{Map, Dates}
use Rattle.bay_core.specs.Paths.{journal_path}
use Rattle.bay_core.specs.Replay.{reads}
use Rattle.bay_core.specs.World.{Steady}
use Rattle.crash_law.specs.Protocol.{Settled}
use Rattle.copy_plan.specs.Plan.{PlanValue, IsPlan, list_of}
use Rattle.drive_journal.specs.declared.order.DriveStart.{DriveStart}
use Rattle.drive_journal.specs.declared.order.DriveStart.TheVariants.{Gone as GoneStart, Fresh as FreshStart, Begun as BegunStart, Sealed as SealedStart}
use Rattle.drive_journal.specs.declared.order.Order.{Order}
use Rattle.drive_journal.specs.declared.record.Rec.{Rec}
use Rattle.drive_journal.specs.Journal.{HoldsJournal}
use Rattle.fresh_opening.specs.Orders.{start_at, StartIs, IsWayFree, IsTrueStart}
use Rattle.occupied_paths.specs.Occupied.{IsFree}
use Rattle.fresh_opening.specs.Sights.{sizes_of}
use Rattle.offload_law.specs.Stages.{Offload as Work, Stage, Fresh as FreshStage, Begun as BegunStage, Sealed as SealedStage, HasRecords, IsAt, IsOurs, progress}
use Rattle.recording.specs.Drives.{Copying}
use Rattle.run_state.specs.Runs.{Point}
use Rattle.run_state.specs.State.{DriveAt, drive_at, is_gone}
use Rattle.offload_run.specs.declared.offload.Offload.{Offload}
use Rattle.offload_run.specs.Offload.{ordered_of, begins_at}
use Rattle.run_steps.specs.Stands.{Since, Stands, Rests, Awaits}
use Rattle.run_steps.specs.Steps.{IsFor}
use Rattle.true_start.specs.Starts.{StartsTruly, IsOursWith, IsDriveOf, offload_at}
use Rattle.true_start.proofs.Starting.{not_gone, start, stands}

same_bytes : {a b : List ℕ} {o : Option (List ℕ)} → o ≡ Some a → o ≡ Some b → a ≡ b
same_bytes e f = cc

pub not_there : {a : List ℕ} {o : Option (List ℕ)} → o ≡ None → o ≡ Some a → ⊥
not_there e f = cc

-- what is read of a drive after no call
pub reads_none : (m : Map) (d : ℕ) → reads m [] d ≡ m
unfolding reads
reads_none m d = refl

-- where the bytes of a path are, if they are
found_or : (o : Option (List ℕ)) → ((bytes : List ℕ) × (o ≡ Some bytes)) ⊎ (o ≡ None)
found_or None = inr refl
found_or (Some bytes) = inl (bytes, refl)

-- nothing has the name of the list, where nothing stands in its way
list_none : (p : PlanValue) (m : Map) (records : Option ℕ) → IsFree (sizes_of m) records p → get m (list_of p) ≡ None
list_none p m records free = elim (found_or (get m (list_of p))) [
  | inl found ↦ absurd (free.list (list_of p, ap (λ (o : Option (List ℕ)). is_some (option_map length o)) found.1, inl refl))
  | inr none ↦ none
]

-- bytes hold one journal at most
abbrev pub OneJournal : Type 0
OneJournal = (bytes : List ℕ) (p q : PlanValue) (recs others : List Rec) → HoldsJournal bytes p recs → HoldsJournal bytes q others → (p ≡ q) × (recs ≡ others)

-- a drive that was ours, by the plan of its journal
module _ (one : OneJournal) (p : PlanValue) (card : Map) (dates : Dates) (m : Map) (bytes : List ℕ) (recs : List Rec) (there : get m journal_path ≡ Some bytes) (holds : HoldsJournal bytes p recs) where
  abbrev work : PlanValue → Work
  work q = record { plan = q; card = card }

  same_journal : (q : PlanValue) (others : List Rec) → HasRecords (work q) m others → (q ≡ p) × (others ≡ recs)
  same_journal q others has = one bytes q p others recs (subst (λ (l : List ℕ). HoldsJournal l q others) (same_bytes has.stands there) has.holds) holds

  -- it has those records of the plan
  these : (q : PlanValue) (others : List Rec) → HasRecords (work q) m others → HasRecords (work p) m recs
  these q others has =
      let same = same_journal q others has in
      subst (λ (r : PlanValue). HasRecords (work r) m recs) same.0 (subst (λ (l : List Rec). HasRecords (work q) m l) same.1 has)

  -- where it is not sealed it is begun
  module _ (no_list : length recs ≡ length p.files → is_some (get m (list_of p)) ≡ true → ⊥) where
    begun_by : (q : PlanValue) (k : ℕ) (s : Stage) → IsAt (work q) m s → progress q s ≡ suc k → IsAt (work p) m (BegunStage recs)
    begun_by q k FreshStage at is = absurd (omega (arith, is))
    begun_by q k (BegunStage others) at is = (these q others at.0, ap (λ (r : PlanValue). get m (list_of r)) (sym (same_journal q others at.0).0) ∙ at.1)
    begun_by q k (SealedStage others finish) at is =
        let same = same_journal q others at.0 in
        let full : length recs ≡ length p.files = ap (λ (l : List Rec). length l) (sym same.1) ∙ at.1 ∙ ap (λ (r : PlanValue). length r.files) same.0 in
        let listed : is_some (get m (list_of p)) ≡ true = ap (λ (r : PlanValue). is_some (get m (list_of r))) (sym same.0) ∙ ap (λ (b : Option (List ℕ)). is_some b) at.2 in
        absurd (no_list full listed)

    pub begun_at : IsOurs card dates m → IsAt (work p) m (BegunStage recs)
    begun_at (zero, none) = absurd (not_there none there)
    begun_at (suc k, after) = begun_by after.0 k after.3.stage after.3.at after.3.done

  -- where its list is there it is sealed
  module _ (listed : is_some (get m (list_of p)) ≡ true) where
    sealed_by : (q : PlanValue) (k : ℕ) (s : Stage) → IsAt (work q) m s → progress q s ≡ suc k → (finish : ℕ) × IsAt (work p) m (SealedStage recs finish)
    sealed_by q k FreshStage at is = absurd (omega (arith, is))
    sealed_by q k (BegunStage others) at is =
        let none : is_some (get m (list_of p)) ≡ false = ap (λ (r : PlanValue). is_some (get m (list_of r))) (sym (same_journal q others at.0).0) ∙ ap (λ (b : Option (List ℕ)). is_some b) at.1 in
        absurd (false≢true (sym none ∙ listed))
    sealed_by q k (SealedStage others finish) at is =
        let same = same_journal q others at.0 in
        (finish, subst (λ (r : PlanValue). IsAt (work r) m (SealedStage recs finish)) same.0 (subst (λ (l : List Rec). IsAt (work q) m (SealedStage l finish)) same.1 at))

    pub sealed_at : IsOurs card dates m → (finish : ℕ) × IsAt (work p) m (SealedStage recs finish)
    sealed_at (zero, none) = absurd (not_there none there)
    sealed_at (suc k, after) = sealed_by after.0 k after.3.stage after.3.at after.3.done

-- the stage at which a drive is found that begins so, and what is known of its offload then
pub record IsStageOf (p : PlanValue) (card m : Map) (d : ℕ) (x : DriveStart) : Type 0 where
  pub stage : Stage
  pub at : IsAt (record { plan = p; card = card }) m stage
  pub stands : Stands (offload_at p card m stage) d (begins_at x) []
  pub rests : Rests (offload_at p card m stage) d (begins_at x) []

module _ (one : OneJournal) (p : PlanValue) (card : Map) (dates : Dates) (m : Map) (d : ℕ) where
  pub stage_of : (x : DriveStart) → x ≢ GoneStart → StartIs p x m → IsWayFree p x m → IsOursWith card dates x m → IsStageOf p card m d x
  stage_of GoneStart live is free ours = absurd (live refl)
  stage_of FreshStart live is free ours = record {
    stage = FreshStage;
    at = is;
    stands = record { now = refl; no_list = ap (λ (k : Map). get k (list_of p)) (reads_none m d) ∙ list_none p m None free };
    rests = tt;
  }
  stage_of (BegunStart entries gate kept) live is free ours = record {
    stage = BegunStage entries.items;
    at = begun_at one p card dates m is.0 entries.items is.1 is.2 (λ full listed. is.4 (full, listed)) ours;
    stands = record { under_way = record { state = Settled (BegunStage entries.items); is_in = refl; free = tt; at = refl }; told = omega arith };
    rests = refl;
  }
  stage_of (SealedStart entries) live is free ours =
      let found = sealed_at one p card dates m is.0 entries.items is.1 is.2 is.4 ours in
      record {
        stage = SealedStage entries.items found.0;
        at = found.1;
        stands = record { finish = found.0; now = refl };
        rests = tt;
      }

same_calls : (A B : List Event) → Some A ≡ Some B → A ≡ B
same_calls A B e = cc e

module _ (one : OneJournal) (order : Order) (run : Offload) (a : Point) (s : StartsTruly order run a) (d : ℕ) (attached card : Map) (past : List Event) (dates : Dates) (h : IsDriveOf order d attached past card dates a.world) where
  abbrev pub begun_with : Map
  begun_with = reads attached past d

  true_of : IsTrueStart order.plan (start_at order.drives.items d) d attached past
  true_of = s.true_order.drives d h.of_run attached past h.honest

  pub stage : IsStageOf order.plan card begun_with d (start_at order.drives.items d)
  stage = stage_of one order.plan card dates begun_with d (start_at order.drives.items d) h.of_run true_of.is true_of.way_free h.ours

  abbrev pub D : Copying
  D = offload_at order.plan card begun_with stage.stage

  pub is_plan : IsPlan order.plan
  is_plan = subst IsPlan s.of.plan (start order run a s).run.plan

  awaits : (x : DriveAt) → x ≡ begins_at (start_at order.drives.items d) → Since past (Awaits D d a.at.phase x) a.world
  awaits x is = record {
    calls = λ all now.
        let same : past ≡ all = same_calls past all (sym h.honest.events ∙ now) in
        ([], sym same ∙ sym (append-nil past), record { stands = subst (λ (y : DriveAt). Stands D d y []) (sym is) stage.stands; rests = λ t. subst (λ (y : DriveAt). Rests D d y []) (sym is) stage.rests });
  }

  pub is_for : IsFor (ordered_of run) d D attached card past a
  is_for = record {
    of_run = ap is_gone (stands order run a s d) ∙ not_gone (start_at order.drives.items d) h.of_run;
    honest = h.honest.honest;
    start = h.honest.start;
    offload = record { plan = is_plan; at = stage.at };
    plan = sym s.of.plan;
    found = record { settled = true_of.settled; start = refl };
    steady = subst (λ (k : ℕ). Steady a.world k card) (sym s.of.source) h.steady;
    rest = λ j file is behind. refl;
    awaits = awaits (drive_at a.at.drives.each d) (stands order run a s d);
  }
