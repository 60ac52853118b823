-- What leaves what is known of the offload of a drive as it was, and what a line adds to it.
use Rattle.std.proofs.Common.{◌≡◌, ◌≢◌, ℕ, suc, Bool, true, false, List, ◌++◌, length, refl, sym, ap, ◌∙◌, subst, arith}
use Rattle.std.specs.Prelude.{Some}
use Rattle.std.specs.FinMap.{get}
use Rattle.std.proofs.lemmas.Bool.{false≢true}
use Rattle.bay_core.specs.declared.event.Event.{Event}
use Rattle.bay_core.specs.Map.{Map}
use Rattle.bay_core.specs.Replay.{Device, Drive, Output, Clock}
use Rattle.bay_core.specs.Went.{Went, Only}
use Rattle.bay_core.specs.World.{World}
use Rattle.bay_core.proofs.Runs.{went_such}
use Rattle.crash_law.specs.Law.{Stays, StaysPut}
use Rattle.crash_law.specs.Lines.{IsLine}
use Rattle.crash_law.specs.Protocol.{Settled}
use Rattle.crash_law.proofs.Lines.{said_lines}
use Rattle.crash_law.proofs.Staying.{went_away, went_elsewhere, stays_then}
use Rattle.crash_law.proofs.Worlds.{said_in, said_told}
use Rattle.copy_plan.specs.Plan.{list_of}
use Rattle.drive_journal.specs.declared.record.Gate.{Gate}
use Rattle.drive_journal.specs.declared.record.Rec.{Rec}
use Rattle.offload_law.specs.Lines.{announces}
use Rattle.offload_law.specs.Stages.{Fresh as FreshStage, Begun as BegunStage, Sealed as SealedStage, progress}
use Rattle.offload_law.specs.Steps.{offload}
use Rattle.recording.specs.Drives.{Copying, Keeps, UnderWay}
use Rattle.run_state.specs.Acts.{Says}
use Rattle.run_state.specs.State.{DriveAt, Gone, Fresh, Begun, Found, Sealed}
use Rattle.run_steps.specs.Stands.{Since, HasSaid, IsSealed, HasSaidAll, Stands, Rests}
use Rattle.run_steps.proofs.Telling.{Later, later_went, later_none, later_then, between, one_list, since_later, since_more}

module _ (D : Copying) (d : ℕ) where
  -- ---- the drive stays in its state

  module _ (before all : List Event) (st : Stays (offload d D.work D.start) d D.start D.stage before all) where
    keeps_still : Keeps D d before → Keeps D d all
    keeps_still h = record { state = h.state; is_in = st.is_in h.state h.is_in }

    under_still : (recs : List Rec) → UnderWay D d before recs → UnderWay D d all recs
    under_still recs h = record { state = h.state; is_in = st.is_in h.state h.is_in; free = h.free; at = h.at }

    sealed_still : (recs : List Rec) → IsSealed D d recs before → IsSealed D d recs all
    sealed_still recs h = record { finish = h.finish; now = st.is_in (Settled (SealedStage recs h.finish)) h.now }

    pub stands_still : (x : DriveAt) → Stands D d x before → Stands D d x all
    stands_still Gone h = keeps_still h
    stands_still Fresh h = record { now = st.is_in (Settled FreshStage) h.now; no_list = ap (λ (m : Map). get m (list_of D.work.plan)) st.read ∙ h.no_list }
    stands_still (Begun recs gate kept) h = record { under_way = under_still recs h.under_way; told = omega (arith, h.told, st.told) }
    stands_still (Found recs) h = sealed_still recs h
    stands_still Sealed h = record { recs = h.recs; sealed = sealed_still h.recs h.sealed; told = omega (arith, h.told, st.told) }

    pub rests_still : (x : DriveAt) → Rests D d x before → Rests D d x all
    rests_still Gone h = tt
    rests_still Fresh h = tt
    rests_still (Begun recs gate kept) h = st.is_in (Settled (BegunStage recs)) h
    rests_still (Found recs) h = tt
    rests_still Sealed h = tt

  -- from one world to another the drive stays in its state
  pub record Quiet (old new : World) : Type 0 where
    pub later : Later old new
    pub stays : StaysPut (offload d D.work D.start) d old new

  itself : (L : List Event) → Stays (offload d D.work D.start) d D.start D.stage L L
  itself L = record { is_in = λ x is. is; read = refl; told = refl }

  pub quiet_none : (w : World) → Quiet w w
  quiet_none w = record {
    later = later_none w;
    stays = record { stays = λ start s past before all was now. subst (λ (K : List Event). Stays (offload d D.work D.start) d start s before K) (one_list past before all w was now) (record { is_in = λ x is. is; read = refl; told = refl }) };
  }

  pub quiet_same : {old new : World} → new ≡ old → Quiet old new
  quiet_same {old} {new} same = subst (λ (v : World). Quiet old v) (sym same) (quiet_none old)

  off_output : (y : Device) → Only Output y → y ≡ Drive d → ⊥
  off_output y out is = absurd (cc (sym out ∙ is))

  -- a line that announces nothing for the drive
  pub quiet_said : (line : List ℕ) (ok : Bool) {old new : World} → Says line ok old new → announces d (length D.work.plan.files) line ≡ 0 → Quiet old new
  quiet_said line ok said none = record {
    later = later_went said.went;
    stays = went_away (offload d D.work D.start) d (Only Output) (IsLine line) (went_such (said_lines line ok) said.went) off_output (λ l is. ap (announces d (length D.work.plan.files)) is ∙ none);
  }

  -- calls that are neither on the drive nor on the output
  pub quiet_off : (On : Device → Type 0) {P : List Event → Type 0} {old new : World} → Went On P old new → ((y : Device) → On y → y ≡ Drive d → ⊥) → ((y : Device) → On y → y ≡ Output → ⊥) → Quiet old new
  quiet_off On went off silent = record { later = later_went went; stays = went_elsewhere (offload d D.work D.start) d On went off silent }

  off_drive : (e : ℕ) → d ≢ e → (y : Device) → Only (Drive e) y → y ≡ Drive d → ⊥
  off_drive e differ y on is = let both : Drive e ≡ Drive d = sym on ∙ is in let same : e ≡ d = cc both in differ (sym same)

  pub quiet_drive : (e : ℕ) {P : List Event → Type 0} {old new : World} → Went (Only (Drive e)) P old new → d ≢ e → Quiet old new
  quiet_drive e went differ = quiet_off (Only (Drive e)) went (off_drive e differ) (λ y on is. absurd (cc (sym on ∙ is)))

  pub quiet_asked : {P : List Event → Type 0} {old new : World} → Went (Only Clock) P old new → Quiet old new
  quiet_asked went = quiet_off (Only Clock) went (λ y on is. absurd (cc (sym on ∙ is))) (λ y on is. absurd (cc (sym on ∙ is)))

  pub quiet_then : {old mid new : World} → Quiet old mid → Quiet mid new → Quiet old new
  quiet_then one two = record {
    later = later_then one.later two.later;
    stays = stays_then (offload d D.work D.start) d (between one.later two.later) one.stays two.stays;
  }

  -- ---- what is known of it since

  module _ (past : List Event) where
    pub stands_quiet : {old new : World} → Quiet old new → (x : DriveAt) → Since past (Stands D d x) old → Since past (Stands D d x) new
    stands_quiet q x h = since_later q.later past (Stands D d x) (Stands D d x) (λ before all was now is. stands_still before all (q.stays.stays D.start D.stage past before all was now) x is) h

    pub keeps_quiet : {old new : World} → Quiet old new → Since past (Keeps D d) old → Since past (Keeps D d) new
    keeps_quiet q h = stands_quiet q Gone h

    pub rests_quiet : {old new : World} → Quiet old new → (x : DriveAt) → Since past (Rests D d x) old → Since past (Rests D d x) new
    rests_quiet q x h = since_later q.later past (Rests D d x) (Rests D d x) (λ before all was now is. rests_still before all (q.stays.stays D.start D.stage past before all was now) x is) h

  keeps_of_under : (L : List Event) (recs : List Rec) → UnderWay D d L recs → Keeps D d L
  keeps_of_under L recs h = record { state = h.state; is_in = h.is_in }

  keeps_of_sealed : (L : List Event) (recs : List Rec) → IsSealed D d recs L → Keeps D d L
  keeps_of_sealed L recs h = record { state = Settled (SealedStage recs h.finish); is_in = h.now }

  -- a drive keeps to the steps, however it stands
  keeps_of : (x : DriveAt) (L : List Event) → Stands D d x L → Keeps D d L
  keeps_of Gone L h = h
  keeps_of Fresh L h = record { state = Settled FreshStage; is_in = h.now }
  keeps_of (Begun recs gate kept) L h = keeps_of_under L recs h.under_way
  keeps_of (Found recs) L h = keeps_of_sealed L recs h
  keeps_of Sealed L h = keeps_of_sealed L h.recs h.sealed

  pub since_keeps : {w : World} (past : List Event) (x : DriveAt) → Since past (Stands D d x) w → Since past (Keeps D d) w
  since_keeps past x h = since_more past (Stands D d x) (Keeps D d) (λ L now is. keeps_of x L is) h

  pub under_keeps : {w : World} (past : List Event) (recs : List Rec) → Since past (λ L. UnderWay D d L recs) w → Since past (Keeps D d) w
  under_keeps past recs h = since_more past (λ L. UnderWay D d L recs) (Keeps D d) (λ L now is. keeps_of_under L recs is) h

  -- ---- after the line of an act

  -- the drive keeps to the steps, and stands so if the line was said
  pub record Knows (past : List Event) (said : Bool) (x : DriveAt) (w : World) : Type 0 where
    pub keeps : Since past (Keeps D d) w
    pub stands : said ≡ true → Since past (Stands D d x) w

  module _ (past : List Event) (line : List ℕ) where
    -- the drive was lost
    pub knows_lost : (said : Bool) {mid new : World} → Says line said mid new → announces d (length D.work.plan.files) line ≡ 0 → Since past (Keeps D d) mid → Knows past said Gone new
    knows_lost said says none h = let k = keeps_quiet past (quiet_said line said says none) h in record { keeps = k; stands = λ was_said. k }

    module _ (recs : List Rec) (just : announces d (length D.work.plan.files) line ≡ progress D.work.plan (BegunStage recs)) where
      under_said : (said : Bool) {mid new : World} → Says line said mid new → (before all : List Event) → mid.events ≡ Some (past ++ before) → new.events ≡ Some (past ++ all) → UnderWay D d before recs → UnderWay D d all recs
      under_said said says before all was now h =
          let at = ap (progress D.work.plan) h.at in
          record {
            state = h.state;
            is_in = (said_in (offload d D.work D.start) d line said says D.start D.stage past before all was now h.state (omega (arith, just, at)) h.is_in).0;
            free = h.free;
            at = h.at;
          }

      recs_stand : (gate : Gate) (kept said : Bool) {mid new : World} → Says line said mid new → Since past (λ L. UnderWay D d L recs) mid → said ≡ true → Since past (HasSaid D d recs) new
      recs_stand gate kept false says h was_said = absurd (false≢true was_said)
      recs_stand gate kept true says h was_said = since_later (later_went says.went) past (λ L. UnderWay D d L recs) (HasSaid D d recs) (λ before all was now is.
          let told = said_told (offload d D.work D.start) d line says D.stage past before all was now in
          record { under_way = under_said true says before all was now is; told = omega (arith, told, just) }) h

      -- the drive has its records, and they were announced
      pub knows_recs : (gate : Gate) (kept said : Bool) {mid new : World} → Says line said mid new → Since past (λ L. UnderWay D d L recs) mid → Knows past said (Begun recs gate kept) new
      knows_recs gate kept said says h = record {
        keeps = under_keeps past recs (since_later (later_went says.went) past (λ L. UnderWay D d L recs) (λ L. UnderWay D d L recs) (λ before all was now is. under_said said says before all was now is) h);
        stands = recs_stand gate kept said says h;
      }

    module _ (recs : List Rec) (just : announces d (length D.work.plan.files) line ≡ suc (suc (length D.work.plan.files))) where
      sealed_said : (said : Bool) {mid new : World} → Says line said mid new → (before all : List Event) → mid.events ≡ Some (past ++ before) → new.events ≡ Some (past ++ all) → IsSealed D d recs before → IsSealed D d recs all
      sealed_said said says before all was now h = record {
        finish = h.finish;
        now = (said_in (offload d D.work D.start) d line said says D.start D.stage past before all was now (Settled (SealedStage recs h.finish)) (omega (arith, just)) h.now).0;
      }

      sealed_stand : (said : Bool) {mid new : World} → Says line said mid new → Since past (IsSealed D d recs) mid → said ≡ true → Since past (HasSaidAll D d) new
      sealed_stand false says h was_said = absurd (false≢true was_said)
      sealed_stand true says h was_said = since_later (later_went says.went) past (IsSealed D d recs) (HasSaidAll D d) (λ before all was now is.
          let told = said_told (offload d D.work D.start) d line says D.stage past before all was now in
          record { recs = recs; sealed = sealed_said true says before all was now is; told = omega (arith, told, just) }) h

      -- the drive is sealed, and that was announced
      pub knows_sealed : (said : Bool) {mid new : World} → Says line said mid new → Since past (IsSealed D d recs) mid → Knows past said Sealed new
      knows_sealed said says h = record {
        keeps = since_more past (IsSealed D d recs) (Keeps D d) (λ L now is. keeps_of_sealed L recs is) (since_later (later_went says.went) past (IsSealed D d recs) (IsSealed D d recs) (λ before all was now is. sealed_said said says before all was now is) h);
        stands = sealed_stand said says h;
      }
