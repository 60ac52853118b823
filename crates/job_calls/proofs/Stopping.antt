-- No call of a run follows a failure.
use Rattle.std.proofs.Common.{◌≡◌, inl, inr, ℕ, zero, suc, ◌<◌, ◌≤◌, true, List, [], ◌∷◌, ◌++◌, length, take, refl, sym, ap, ◌∙◌, subst, arith, append-nil}
use Rattle.std.specs.Prelude.{Contains, Some, Result, Ok}
use Rattle.std.proofs.lemmas.List.Elements.{Contains-append_right}
use Rattle.bay_core.specs.declared.event.Event.{Event}
use Rattle.bay_core.specs.declared.event.Event.TheVariants.{AttachFailed, Say}
use Rattle.bay_core.specs.Replay.{Device, calls_on, device_of}
use Rattle.bay_core.specs.Went.{MaySee}
use Rattle.bay_core.specs.World.{World}
use Rattle.bay_core.proofs.Replays.{calls_on-append}
use Rattle.drive_journal.specs.declared.order.Order.{Order}
use Rattle.fresh_opening.specs.declared.error.FreshError.{FreshError}
use Rattle.report_text.specs.Losses.{dropped_fault_text}
use Rattle.run_state.specs.Rules.{IsRun, IsStart}
use Rattle.run_state.specs.Runs.{Point, Alone}
use Rattle.run_state.specs.State.{Ordered}
use Rattle.run_steps.specs.Parts.{PartsReady}
use Rattle.offload_run.specs.Offload.{ordered_of, stands_at}
use Rattle.run_calls.specs.Failures.{NoneAfterFailure as NoneAfterTurn}
use Rattle.run_calls.specs.Ready.{KeepNoParts}
use Rattle.run_calls.proofs.Lists.{only_one}
use Rattle.command_words.specs.Jobs.{Job}
use Rattle.last_lines.specs.Ends.{EndCalls}
use Rattle.job_story.specs.Ends.{JobEnd, last_of}
use Rattle.job_calls.specs.Calls.{IsOfJob, MayFollow, NoneAfterFailure, job_attaches, drive_attaches, StopsAttaching}
use Rattle.job_calls.proofs.Ending.{Lasts, lasts_of, lasts_halt, unsaid_end}
use Rattle.job_calls.proofs.Follows.{Halts, AreCalm, calm_halts, calm_none, halts_then, halts_all, off_output}
use Rattle.job_calls.proofs.Opened.{GoesOn, opening_halts}
use Rattle.job_calls.proofs.Owning.{own_devices, sights_of}
use Rattle.job_calls.proofs.Parts.{Parts, halted, opened, ran, EndsBy, Opened, Turned}
use Rattle.job_calls.proofs.Turning.{IsOfSights, gone_off, keep_no_parts, turns_halt}

-- ---- attaches

drives_calm : (d : ℕ) (places : List (List ℕ)) → AreCalm (drive_attaches d places)
drives_calm d [] = tt
drives_calm d (place ∷ places) = ((refl, λ is. absurd (cc is)), drives_calm (suc d) places)

attaches_calm : (job : Job) → AreCalm (job_attaches job)
attaches_calm job = ((refl, λ is. absurd (cc is)), drives_calm 0 job.drives)

take_calm : (n : ℕ) (L : List Event) → AreCalm L → AreCalm (take n L)
take_calm zero L calm = tt
take_calm (suc n) [] calm = tt
take_calm (suc n) (e ∷ L) calm = (calm.0, take_calm n L calm.1)

-- an attach that failed, behind which the last lines come
failed_halts : (end : JobEnd) (result : ℕ) (place : List ℕ) (L more : List Event) → MaySee (AttachFailed place) L → EndCalls (last_of end) result more → Halts end result L more
failed_halts end result place L more (inl none) calls = calm_none end result L more none
failed_halts end result place L more (inr one) calls = record {
  failed = λ front back e at bad.
      let last = only_one (AttachFailed place) e front back (sym one ∙ at) in
      subst (λ (x : Device). MayFollow end result x (back ++ more)) (sym (ap device_of last.0))
      (subst (λ (l : List Event). EndCalls (last_of end) result (l ++ more)) (sym last.1) calls);
  dropped = λ front back d small line ok at begins. let last = only_one (AttachFailed place) (Say line ok) front back (sym one ∙ at) in absurd (cc last.0);
}

-- ---- what goes on behind an opening

lost_off : (count : ℕ) (L last : List Event) (end : JobEnd) (result : ℕ) → Lasts end result last → (k : ℕ) → k < count → (front back : List Event) → L ≡ front ++ Say (dropped_fault_text k) true ∷ back → calls_on k last ≡ []
lost_off count L last end result lasts k small front back at = off_output k last lasts.on

-- the run ends behind it
goes_on_last : (end : JobEnd) (result count : ℕ) (came : Result Order FreshError) (L last : List Event) → EndsBy came end → Lasts end result last → GoesOn end result count came L last
goes_on_last end result count came L last ends lasts = record {
  unsaid = λ is. unsaid_end end result last (subst (λ (x : Result Order FreshError). EndsBy x end) is ends) lasts.calls;
  card = λ is. (subst (λ (x : Result Order FreshError). EndsBy x end) is ends, lasts.calls);
  off = lost_off count L last end result lasts;
}

-- ---- the whole

-- what the laws of runs say of calls that failed, and of runs whose drives keep no part
abbrev pub NoneAfter : Type 0
NoneAfter = (o : Ordered) (a b : Point) → IsRun o a.at → PartsReady o a → Alone o a b → (past L : List Event) → a.world.events ≡ Some past → b.world.events ≡ Some (past ++ L) → NoneAfterTurn b.at L

abbrev pub ReadyWithout : Type 0
ReadyWithout = (o : Ordered) (a : Point) → IsStart o a.at → KeepNoParts a → PartsReady o a

module _ (none_after : NoneAfter) (ready : ReadyWithout) (job : Job) (end : JobEnd) (result : ℕ) (order : Order) {mid late done : World} (start opening L last : List Event) (few : length job.drives ≤ 8) (o : Opened job (Ok order) start opening mid late)
    (t : Turned job order end (start ++ opening) L late done) (lasts : Lasts end result last) where
  abbrev at_first : Point
  at_first = record { at = stands_at t.turns.run; pool = t.turns.pool; world = late }

  abbrev at_last : Point
  at_last = record { at = stands_at t.turns.then_run; pool = t.turns.then_pool; world = done }

  of_job : IsOfSights job order t.turns.run
  of_job = sights_of job order end (start ++ opening) L start opening o t

  pub run_ready : PartsReady (ordered_of t.turns.run) at_first
  run_ready = ready (ordered_of t.turns.run) at_first t.turns.starts (keep_no_parts job order t.turns.run of_job)

  turning_halts : Halts end result L last
  turning_halts =
      turns_halt (length job.drives) (ordered_of t.turns.run).plan (stands_at t.turns.then_run) end result t.turns.ends L last lasts
      (none_after (ordered_of t.turns.run) at_first at_last t.turns.starts.run run_ready t.turns.alone (start ++ opening) L t.was t.now)

  -- no turn calls a drive whose line was said in the opening
  lost_before : (k : ℕ) → k < length job.drives → (front back : List Event) → opening ≡ front ++ Say (dropped_fault_text k) true ∷ back → calls_on k (L ++ last) ≡ []
  lost_before k small front back at =
      let said : Contains opening (Say (dropped_fault_text k) true) = subst (λ (l : List Event). Contains l (Say (dropped_fault_text k) true)) (sym at) (Contains-append_right front (Say (dropped_fault_text k) true ∷ back) (Say (dropped_fault_text k) true) (0, omega arith, refl)) in
      let gone = (o.opens.gone.said start opening o.was o.now k (omega arith) (omega (arith, small))).1 said in
      let one : calls_on k L ≡ [] = gone_off job order t.turns.run of_job k L gone t.on in
      let two : calls_on k last ≡ [] = off_output k last lasts.on in
      calls_on-append k L last ∙ (λ i. one i ++ two i)

  pub ran_halts : Halts end result (opening ++ (L ++ last)) []
  ran_halts =
      let ending : Halts end result last [] = lasts_halt end result last lasts in
      let turning : Halts end result L (last ++ []) = subst (Halts end result L) (sym (append-nil last)) turning_halts in
      let goes : GoesOn end result (length job.drives) (Ok order) opening (L ++ last) = record { unsaid = λ is. absurd (cc is); card = λ is. absurd (cc is); off = lost_before } in
      let looking : Halts end result opening ((L ++ last) ++ []) = subst (Halts end result opening) (sym (append-nil (L ++ last))) (opening_halts end result (length job.drives) few (Ok order) opening (L ++ last) goes o.calls) in
      halts_then end result opening (L ++ last) [] looking (halts_then end result L last [] turning ending)

module _ (none_after : NoneAfter) (ready : ReadyWithout) (job : Job) (end : JobEnd) (result : ℕ) (past since : List Event) (old new : World) (few : length job.drives ≤ 8) where
  halted_halts : StopsAttaching job end result since → Halts end result since []
  halted_halts s =
      let lasts = lasts_of end result s.last s.lines in
      let failing : Halts end result s.failed (s.last ++ []) = subst (Halts end result s.failed) (sym (append-nil s.last)) (failed_halts end result s.place s.failed s.last s.seen s.lines) in
      subst (λ (l : List Event). Halts end result l []) (sym s.is)
      (halts_then end result (take s.n (job_attaches job)) (s.failed ++ s.last) []
      (calm_halts end result (take s.n (job_attaches job)) ((s.failed ++ s.last) ++ []) (take_calm s.n (job_attaches job) (attaches_calm job)))
      (halts_then end result s.failed s.last [] failing (lasts_halt end result s.last lasts)))

  behind_attaches : (rest : List Event) → since ≡ job_attaches job ++ rest → Halts end result rest [] → Halts end result since []
  behind_attaches rest is h =
      subst (λ (l : List Event). Halts end result l []) (sym is)
      (halts_then end result (job_attaches job) rest [] (calm_halts end result (job_attaches job) (rest ++ []) (attaches_calm job)) h)

  parts_halt : Parts job end result past since old new → Halts end result since []
  parts_halt (halted s there) = halted_halts s
  parts_halt (opened came mid late opening last ends b o lasts same is) =
      let goes : GoesOn end result (length job.drives) came opening last = goes_on_last end result (length job.drives) came opening last ends lasts in
      let looking : Halts end result opening (last ++ []) = subst (Halts end result opening) (sym (append-nil last)) (opening_halts end result (length job.drives) few came opening last goes o.calls) in
      behind_attaches (opening ++ last) is (halts_then end result opening last [] looking (lasts_halt end result last lasts))
  parts_halt (ran order mid late done opening turning last b o t lasts same is) =
      behind_attaches (opening ++ (turning ++ last)) is (ran_halts none_after ready job end result order (past ++ job_attaches job) opening turning last few o t lasts)

  pub none_follows : Parts job end result past since old new → NoneAfterFailure end result since
  none_follows parts = halts_all end result since (IsOfJob job) (λ d on. omega (arith, on, few)) (own_devices job end result past since old new parts) (parts_halt parts)
