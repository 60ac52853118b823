-- What the clauses of calls on the outside say of the state of a drive.
use Rattle.std.proofs.Common.{◌≡◌, ℕ, ◌≤◌, max, Bool, true, List, [], ◌∷◌, ◌++◌, sym, ap, ◌∙◌, subst}
use Rattle.std.specs.Prelude.{Some, Ok}
use Rattle.bay_core.specs.declared.event.Event.{Event}
use Rattle.bay_core.specs.declared.event.Event.TheVariants.{Say}
use Rattle.bay_core.specs.Map.{Map}
use Rattle.bay_core.specs.Replay.{Device, Drive, Output, reads}
use Rattle.bay_core.specs.World.{World}
use Rattle.bay_core.specs.Went.{Only, Went, Called, Ran, Tried, say_call}
use Rattle.bay_core.specs.Attach.{Attaches}
use Rattle.bay_core.proofs.Honesty.{no_calls_yet}
use Rattle.bay_core.proofs.Replays.{no_calls}
use Rattle.bay_core.proofs.Runs.{told_behind, went_such, all_ran}
use Rattle.crash_law.specs.Protocol.{Protocol, IsSafe, State, Settled, reached, Leads, IsIn, Announced}
use Rattle.crash_law.specs.Lines.{AllLines, IsLine}
use Rattle.crash_law.proofs.Lines.{said_lines, told_low}
use Rattle.crash_law.proofs.Calls.{none_here, AreCalls, all_ok, told-append, in-append, told_calls, leads_away, reads_still, ran_leads}

-- Where calls on a drive that were tried led it: to some state, with nothing announced by them, and to the state meant where all of them
-- answered Ok.
pub record Came (P : Protocol) (d : ℕ) (start : Map) (s : P.Stage) (before all : List Event) (ok : Bool) (calls : List Event) (y : State P) : Type 0 where
  pub state : State P
  pub is_in : IsIn P d start s all state
  pub told : Announced P (P.progress s) all ≡ Announced P (P.progress s) before
  pub whole : ok ≡ true → (state ≡ y) × (all ≡ before ++ calls)

-- calls that were tried, which may be made in this state
pub tried_in : (P : Protocol) → IsSafe P → (d : ℕ) (cs : List (Bool → Event)) {ok : Bool} {old new : World} → Tried d cs ok old new → AreCalls cs →
    (start : Map) (s : P.Stage) (past before all : List Event) → old.events ≡ Some (past ++ before) → new.events ≡ Some (past ++ all) → (x y : State P) → IsIn P d start s before x →
    Leads P d (Announced P (P.progress s) before) (reads start before d) x (all_ok cs) y → Came P d start s before all ok (all_ok cs) y
tried_in P safe d cs {ok} t are start s past before all was now x y is l =
    let since = told_behind t.went past before all was now in
    let found = ran_leads P d safe cs ok since.since (Announced P (P.progress s) before) (reads start before d) x y are since.such l in
    record {
      state = found.0;
      is_in = subst (λ (K : List Event). IsIn P d start s K found.0) (sym since.is) (in-append P d start s before since.since x found.0 is found.1);
      told = ap (Announced P (P.progress s)) since.is ∙ told-append P d before since.since (P.progress s) ∙ told_calls P d since.since (Announced P (P.progress s) before) since.on;
      whole = λ yes. let same = found.2 yes in (same.0, since.is ∙ ap (λ (K : List Event). before ++ K) same.1);
    }

-- calls on other devices, and lines that announce no more than was reached, leave a drive in its state
pub away_in : (P : Protocol) (d : ℕ) (On : Device → Type 0) (Q : List ℕ → Type 0) {old new : World} → Went On (AllLines Q) old new → ((y : Device) → On y → y ≡ Drive d → ⊥) →
    (start : Map) (s : P.Stage) (past before all : List Event) → old.events ≡ Some (past ++ before) → new.events ≡ Some (past ++ all) → (x : State P) → ((line : List ℕ) → Q line → P.announces line ≤ P.progress (reached x)) →
    IsIn P d start s before x → IsIn P d start s all x × (reads start all d ≡ reads start before d)
away_in P d On Q w off start s past before all was now x low is =
    let since = told_behind w past before all was now in
    let stays = leads_away P d On Q since.since (Announced P (P.progress s) before) (reads start before d) x off since.on since.such low in (
      subst (λ (K : List Event). IsIn P d start s K x) (sym since.is) (in-append P d start s before since.since x x is stays),
      ap (λ (K : List Event). reads start K d) since.is ∙ reads_still P d On start before since.since off since.on,
    )

-- the output is no drive
off_output : (d : ℕ) (x : Device) → Only Output x → x ≡ Drive d → ⊥
off_output d x out is = absurd (cc (sym out ∙ is))

module _ (P : Protocol) (d : ℕ) (line : List ℕ) where
  -- a line that announces no more than was reached leaves the drive in its state, said or not
  pub said_in : (ok : Bool) {old new : World} → Called Output (Ran (say_call line ∷ []) ok) ok old new → (start : Map) (s : P.Stage) (past before all : List Event) →
      old.events ≡ Some (past ++ before) → new.events ≡ Some (past ++ all) → (x : State P) → P.announces line ≤ P.progress (reached x) →
      IsIn P d start s before x → IsIn P d start s all x × (reads start all d ≡ reads start before d)
  said_in ok c start s past before all was now x low is =
      away_in P d (Only Output) (IsLine line) (went_such (said_lines line ok) c.went) (off_output d) start s past before all was now x
      (λ said same. subst (λ (l : List ℕ). P.announces l ≤ P.progress (reached x)) (sym same) low) is

  -- once it was said, its steps are announced
  pub said_told : {old new : World} → Called Output (Ran (say_call line ∷ []) true) true old new → (s : P.Stage) (past before all : List Event) → old.events ≡ Some (past ++ before) → new.events ≡ Some (past ++ all) →
      Announced P (P.progress s) all ≡ max (Announced P (P.progress s) before) (P.announces line)
  said_told c s past before all was now =
      let since = told_behind c.went past before all was now in
      let one : since.since ≡ Say line true ∷ [] = all_ran (say_call line ∷ []) since.since since.such in
      ap (Announced P (P.progress s)) (since.is ∙ ap (λ (K : List Event). before ++ K) one) ∙ told-append P d before (Say line true ∷ []) (P.progress s)

-- a drive that was just attached is at rest at the stage of its map, where the lines so far announce no more
pub attached_in : (P : Protocol) (d : ℕ) (place : List ℕ) {old new : World} → Attaches place (Ok d) old new → (start : Map) (s : P.Stage) (all : List Event) → new.events ≡ Some all →
    AllLines (λ line. P.announces line ≤ P.progress s) all → IsIn P d start s all (Settled s) × (reads start all d ≡ start) × (Announced P (P.progress s) all ≡ P.progress s)
attached_in P d place a start s all now low =
    let none = no_calls_yet d place a all now in (
      leads_away P d (λ y. y ≡ Drive d → ⊥) (λ line. P.announces line ≤ P.progress s) all (P.progress s) start (Settled s) (λ y off. off) (none_here d all none) low (λ line is. is),
      no_calls start all d none,
      told_low P (P.progress s) all low,
    )
