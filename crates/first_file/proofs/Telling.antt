-- What is known of the calls of a run, as worlds tell them.
use Rattle.std.proofs.Common.{◌≡◌, ℕ, List, ◌++◌, ap, ◌∙◌, inl, inr, append_assoc}
use Rattle.std.specs.Prelude.{Some}
use Rattle.bay_core.specs.declared.event.Event.{Event}
use Rattle.bay_core.specs.Replay.{Device, Drive, Output}
use Rattle.bay_core.specs.Went.{Went, Only}
use Rattle.bay_core.specs.World.{World}
use Rattle.bay_core.proofs.Runs.{went_such, went_then, went_on}
use Rattle.first_file.specs.Steps.{AnyCalls, Aloud, Since}

-- calls more
pub since_went : {On : Device → Type 0} {Q : List Event → Type 0} {old new : World} → Went On Q old new → (past : List Event) (P R : List Event → Type 0)
    → ((before all : List Event) → old.events ≡ Some (past ++ before) → new.events ≡ Some (past ++ all) → P before → R all) → Since past P old → Since past R new
since_went w past P R so h = record {
  calls = λ all now.
      let m = w.told all now in
      let b = h.calls m.before m.was in
      let is : all ≡ past ++ (b.0 ++ m.since) = m.is ∙ ap (λ (l : List Event). l ++ m.since) b.1 ∙ append_assoc past b.0 m.since in
      (b.0 ++ m.since, is, so b.0 (b.0 ++ m.since) (m.was ∙ ap Some b.1) (now ∙ ap Some is) b.2);
}

-- whatever calls on more devices
pub went_any : {On More : Device → Type 0} {P : List Event → Type 0} {old new : World} → ((x : Device) → On x → More x) → Went On P old new → Went More AnyCalls old new
went_any so w = went_such (λ L p. tt) (went_on so w)

pub any_then : {On : Device → Type 0} {old mid new : World} → Went On AnyCalls old mid → Went On AnyCalls mid new → Went On AnyCalls old new
any_then one two = went_such (λ L p. tt) (went_then one two)

-- calls on the drive, and a line
pub on_drive : (d : ℕ) {P : List Event → Type 0} {old new : World} → Went (Only (Drive d)) P old new → Went (Aloud d) AnyCalls old new
on_drive d w = went_any (λ x on. inl on) w

pub then_said : (d : ℕ) {P Q : List Event → Type 0} {old mid new : World} → Went (Only (Drive d)) P old mid → Went (Only Output) Q mid new → Went (Aloud d) AnyCalls old new
then_said d one two = any_then (on_drive d one) (went_any (λ x on. inr on) two)
