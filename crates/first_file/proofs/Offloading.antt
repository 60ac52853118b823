-- What a drive that is attached for its first file is left with.
use Rattle.std.proofs.Common.{◌≡◌, ℕ, Bool, true, false, List, [], ◌∷◌, ◌++◌, length, refl, sym, ap, ◌∙◌, subst, append-nil}
use Rattle.std.specs.Prelude.{Some, Ok}
use Rattle.bay_core.specs.declared.event.Event.{Event}
use Rattle.bay_core.specs.declared.event.Event.TheVariants.{AttachDrive}
use Rattle.bay_core.specs.Attach.{Attaches}
use Rattle.bay_core.specs.Map.{Map}
use Rattle.bay_core.specs.Replay.{Device, reads}
use Rattle.bay_core.specs.Went.{Went, AllOn}
use Rattle.std.proofs.lemmas.List.{append_cancel_left}
use Rattle.bay_core.specs.World.{World, Attached, Honest, Steady}
use Rattle.bay_core.proofs.Rest.{attached_rest}
use Rattle.crash_law.specs.Protocol.{Settled}
use Rattle.copy_plan.specs.Fields.{plan_code}
use Rattle.copy_plan.specs.Plan.{PlanValue, IsPlan, list_of}
use Rattle.std.proofs.lemmas.Bool.{false≢true}
use Rattle.std.specs.FinMap.{get}
use Rattle.offload_law.specs.Stages.{Begun}
use Rattle.recording.specs.Drives.{Copying, IsCopying, Keeps, IsFound, LeavesPrefix}
use Rattle.first_file.specs.First.{fresh_offload, IsFreshFor, LeavesFirst, OffloadsFirst}
use Rattle.first_file.specs.Steps.{OfFile, Since, IsUnbegun, IsTrue, HasFirst, Reaches, BeginsAloud, CopiesFirst}

-- what holds of the drive and the card holds after calls
pub still_true : (D : Copying) (s d : ℕ) (attached : Map) (past : List Event) {On : Device → Type 0} {P : List Event → Type 0} {old new : World} → Went On P old new → IsTrue D s d attached past old → IsTrue D s d attached past new
still_true D s d attached past w h = record {
  honest = ap (λ (a : Attached). a.honest d) w.attached ∙ h.honest;
  start = ap (λ (a : Attached). a.start d) w.attached ∙ h.start;
  found = h.found;
  steady = record { steady = ap (λ (a : Attached). a.steady s) w.attached ∙ h.steady.steady; card = ap (λ (a : Attached). a.card s) w.attached ∙ h.steady.card };
}

-- a run that begins with a fresh drive
abbrev pub RunsFirst : ℕ → ℕ → PlanValue → List ℕ → Bool → World → World → Type 0
RunsFirst s d p journal ok old new = (D : Copying) → IsCopying D → p ≡ D.work.plan → (attached : Map) (past : List Event) → IsTrue D s d attached past old → Since past (IsUnbegun D d journal) old → Since past (Reaches D d ok (HasFirst D d)) new

-- the begin failed
pub begin_fails : (s d : ℕ) (p : PlanValue) (journal : List ℕ) (count : ℕ) {old new : World} → count ≡ length p.files → BeginsAloud d journal count false old new → RunsFirst s d p journal false old new
begin_fails s d p journal count counted b = λ D is same attached past true_of h. b D is (counted ∙ ap (λ (q : PlanValue). length q.files) same) past h

-- it was begun, and the file copied and recorded, or that failed
pub begin_goes_on : (s d : ℕ) (p : PlanValue) (journal : List ℕ) (count : ℕ) (ok : Bool) {On : Device → Type 0} {P : List Event → Type 0} {old mid new : World} → count ≡ length p.files → Went On P old mid → BeginsAloud d journal count true old mid → CopiesFirst s d p ok mid new
    → RunsFirst s d p journal ok old new
begin_goes_on s d p journal count ok counted w b copies = λ D is same attached past true_of h.
    copies D is same attached past (still_true D s d attached past w true_of) (b D is (counted ∙ ap (λ (q : PlanValue). length q.files) same) past h)

read_none : (m : Map) (d : ℕ) → reads m [] d ≡ m
unfolding reads
read_none m d = refl

keeps_of : (D : Copying) (d : ℕ) (ok : Bool) (L : List Event) → Reaches D d ok (HasFirst D d) L → Keeps D d L
keeps_of D d true L at = record { state = Settled (Begun (at.rec ∷ [])); is_in = at.recorded.now }
keeps_of D d false L at = at

done_of : (D : Copying) (d : ℕ) (ok : Bool) (L : List Event) → Reaches D d ok (HasFirst D d) L → ok ≡ true → HasFirst D d L
done_of D d true L at went = at
done_of D d false L at went = absurd (false≢true went)

-- what a run that keeps to the steps leaves
abbrev pub KeepingIsSafe : Type 0
KeepingIsSafe = (D : Copying) → IsCopying D → (d : ℕ) (attached : Map) (past L : List Event) → IsFound D d attached past → Keeps D d L → LeavesPrefix D d attached past L

module _ (safe : KeepingIsSafe) (place : List ℕ) (s d : ℕ) (p : PlanValue) (journal : List ℕ) (plan : IsPlan p) (journal_is : journal ≡ plan_code p ++ 0 ∷ []) {old mid : World} (a : Attaches place (Ok d) old mid) where
  -- the drive is as it was attached
  unbegun : (m card : Map) → IsFreshFor p m → (past : List Event) → mid.events ≡ Some past → Since past (IsUnbegun (fresh_offload p card m) d journal) mid
  unbegun m card fresh past was = record {
    calls = λ all now.
        let same : all ≡ past = told all past (sym now ∙ was) in
        ([], same ∙ sym (append-nil past), record { ready = record { fresh = refl; no_list = ap (λ (x : Map). get x (list_of p)) (read_none m d) ∙ fresh.no_list; journal_is = journal_is }; told = refl });
  }
    where
      told : (A B : List Event) → Some A ≡ Some B → A ≡ B
      told A B e = cc e

  leaves_first : {P : List Event → Type 0} {new : World} (ok : Bool) → Went (OfFile s d) P mid new → RunsFirst s d p journal ok mid new → (m card : Map) (all : List Event) → Honest new d m all → Steady new s card → IsFreshFor p m
      → LeavesFirst (fresh_offload p card m) place s d ok old all
  leaves_first ok w run m card all honest steady fresh =
      let D = fresh_offload p card m in
      let back = w.told all honest.events in
      let past = back.before in
      let t = a.told past back.was in
      let past_is : past ≡ t.before ++ AttachDrive d place ∷ [] = t.is ∙ ap (λ (l : List Event). t.before ++ l) t.such in
      let here : Honest mid d m past = record {
        honest = ap (λ (x : Attached). x.honest d) (sym w.attached) ∙ honest.honest;
        start = ap (λ (x : Attached). x.start d) (sym w.attached) ∙ honest.start;
        events = back.was;
      } in
      let rest = attached_rest place d old mid m past a here in
      let is : IsCopying D = record { plan = plan; at = fresh.no_journal } in
      let true_of : IsTrue D s d m past mid = record {
        honest = here.honest;
        start = here.start;
        found = rest.0;
        steady = record { steady = ap (λ (x : Attached). x.steady s) (sym w.attached) ∙ steady.steady; card = ap (λ (x : Attached). x.card s) (sym w.attached) ∙ steady.card };
      } in
      let end = (run D is refl m past true_of (unbegun m card fresh past back.was)).calls all honest.events in
      let same : back.since ≡ end.0 = append_cancel_left past back.since end.0 (sym back.is ∙ end.1) in
      record {
        before = t.before;
        since = end.0;
        was = t.was;
        is = end.1 ∙ ap (λ (l : List Event). l ++ end.0) past_is;
        on = subst (AllOn (OfFile s d)) same back.on;
        prefix = subst (λ (l : List Event). LeavesPrefix D d m l end.0) past_is (safe D is d m past end.0 (record { settled = rest.1; start = rest.0 }) (keeps_of D d ok end.0 end.2));
        done = done_of D d ok end.0 end.2;
      }

  pub offloads_first : {P : List Event → Type 0} {new : World} (ok : Bool) → Went (OfFile s d) P mid new → RunsFirst s d p journal ok mid new → OffloadsFirst place s p ok old new
  offloads_first {new = new} ok w run = λ m card all there.
      subst (λ k. Honest new k m all → Steady new s card → IsFreshFor p m → LeavesFirst (fresh_offload p card m) place s k ok old all) a.numbered.0 (leaves_first ok w run m card all)
