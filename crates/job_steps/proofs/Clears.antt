-- Where a run of a job calls its card clear, just so many drives were called sealed, and each honest one that was ours stays whole.
use Rattle.std.proofs.Common.{◌≡◌, ◌≢◌, inl, inr, ℕ, ◌<◌, ◌≤◌, Bool, false, List, [], ◌∷◌, ◌++◌, length, refl, sym, ap, ◌∙◌, subst, arith, append_assoc, append-nil, length-append}
use Rattle.std.specs.Prelude.{◌↔◌, Some, Contains}
use Rattle.std.proofs.lemmas.List.{append_cancel_left}
use Rattle.std.proofs.lemmas.List.Elements.{Contains-append_left, Contains-append_right, Contains-append_cases}
use Rattle.bay_core.specs.declared.event.Event.{Event}
use Rattle.bay_core.specs.declared.event.Event.TheVariants.{Say}
use Rattle.bay_core.specs.Left.{Left, IsPrefix}
use Rattle.bay_core.specs.Map.{Map, Dates}
use Rattle.bay_core.specs.Replay.{Output, calls_on}
use Rattle.bay_core.specs.Went.{AllOn, Only}
use Rattle.bay_core.specs.World.{World}
use Rattle.bay_core.proofs.Runs.{AllOn-front}
use Rattle.crash_law.specs.Lines.{AllLines}
use Rattle.drive_journal.specs.declared.order.DriveStart.TheVariants.{Gone}
use Rattle.drive_journal.specs.declared.order.Order.{Order}
use Rattle.fresh_opening.specs.Orders.{start_at}
use Rattle.offload_law.specs.Clear.{IsCalledSealed, AreCalledSealed}
use Rattle.offload_law.specs.Stages.{IsAfterOn, IsOurs, all_steps}
use Rattle.offload_run.specs.Offload.{ordered_of, stands_at}
use Rattle.report_text.specs.Run.{sealed_text, clear_text}
use Rattle.run_state.specs.State.{drive_at, is_gone}
use Rattle.run_state.proofs.Drives.{there}
use Rattle.run_lines.specs.Clear.{IsClear as CalledClear}
use Rattle.true_start.proofs.Starting.{gone_or, stands}
use Rattle.command_words.specs.Jobs.{Job}
use Rattle.job_story.specs.Ends.{JobEnd}
use Rattle.job_story.specs.Run.{IsHonest, IsSteady, run_with}
use Rattle.job_story.specs.Story.{Story}
use Rattle.job_steps.specs.Prefix.{IsClear, CallsClear}
use Rattle.job_steps.proofs.Begun.{left_before}
use Rattle.job_steps.proofs.Called.{called_is_there}
use Rattle.job_steps.proofs.Drives.{one_for_each, early, starts_truly, runs, told_at, of_card, drive_of, behind_past}
use Rattle.job_steps.proofs.Lower.{LineLaws, RunLaws, TurnLaws}
use Rattle.job_steps.proofs.Lists.{InFirst, InSecond, cut_where, call_where}
use Rattle.job_steps.proofs.Parts.{TurnedRun, begins, finishes}
use Rattle.job_steps.proofs.Plain.{IsPlain}
use Rattle.job_steps.proofs.Quiet.{IsQuiet, line_among, output_off}
use Rattle.job_steps.proofs.Stopped.{silent_lines, not_sealed}
use Rattle.job_steps.proofs.Told.{Tells, since_then}
use Rattle.job_steps.proofs.Ways.{ways}

-- no line `clear` is among quiet calls
not_clear : (L before after : List Event) (count required : ℕ) (ok : Bool) → IsQuiet L → L ≡ before ++ Say (clear_text count required) ok ∷ after → ⊥
not_clear L before after count required ok quiet is = (line_among IsPlain before (clear_text count required) ok after (subst (AllLines IsPlain) is quiet.plain)).unclear count required refl

module _ (line_laws : LineLaws) (laws : RunLaws) (turns : TurnLaws) (job : Job) (order : Order) (old new : World) (past since : List Event) (r : TurnedRun job order old new past since) where
  abbrev first : List Event
  first = early line_laws laws job order old new past since r

  -- ---- the drives that were called sealed, before the first turn none

  sealed_in_turns : (L : List Event) (d : ℕ) → IsCalledSealed d (first ++ L) → IsCalledSealed d L
  sealed_in_turns L d (m, list, low, (ok, inside)) = elim (Contains-append_cases first L (Say (sealed_text d m list) ok) inside) [
    | inl before ↦ absurd (not_sealed line_laws d 0 first (silent_lines d 0 first r.quiet.plain) (m, list, low, (ok, before)))
    | inr behind ↦ (m, list, low, (ok, behind))
  ]

  sealed_since : (L : List Event) (d : ℕ) → IsCalledSealed d L → IsCalledSealed d (first ++ L)
  sealed_since L d (m, list, low, (ok, inside)) = (m, list, low, (ok, Contains-append_right first L (Say (sealed_text d m list) ok) inside))

  sealed_longer : (L more : List Event) (d : ℕ) → IsCalledSealed d L → IsCalledSealed d (L ++ more)
  sealed_longer L more d (m, list, low, (ok, inside)) = (m, list, low, (ok, Contains-append_left L more (Say (sealed_text d m list) ok) inside))

  are_sealed : (L : List Event) (drives : List ℕ) → AreCalledSealed drives L → AreCalledSealed drives (first ++ L)
  are_sealed L drives s = record { once = s.once; each = λ d. ((λ has. sealed_since L d ((s.each d).0 has)), (λ called. (s.each d).1 (sealed_in_turns L d called))) }

  told : r.done.events ≡ Some ((past ++ first) ++ r.turning)
  told = r.now ∙ ap Some (sym (append_assoc past first r.turning))

  -- each of them is one of the run's
  is_there : (d : ℕ) → IsCalledSealed d r.turning → is_gone (drive_at (stands_at r.turns.run).drives.each d) ≡ false
  is_there d called =
      let o = ordered_of r.turns.run in
      let a = begins r.turns in
      let b = finishes r.turns in
      called_is_there o a r.turns.starts r.turning b.at.outcome (turns.order o a b r.turns.starts r.turns.alone (past ++ first) r.turning r.was told) d called

  not_gone : (d : ℕ) → IsCalledSealed d r.turning → start_at order.drives.items d ≢ Gone
  not_gone d called =
      let s = starts_truly line_laws laws job order old new past since r in
      gone_or (start_at order.drives.items d) (ap is_gone (sym (stands order r.turns.run (begins r.turns) s d)) ∙ is_there d called)

  of_job : (d : ℕ) → IsCalledSealed d r.turning → d < new.attached.drives
  of_job d called =
      let low = there (stands_at r.turns.run).drives.each d (is_there d called) in
      let many = one_for_each job order old new past since r in
      let all = r.drives in
      omega (arith, low, many, all)

  -- ---- the line, behind the first calls of the turns

  module _ (before after front back : List Event) (count required : ℕ) (ok : Bool) (is : since ≡ before ++ Say (clear_text count required) ok ∷ after) (before_is : before ≡ first ++ front)
      (behind_is : r.turning ++ r.last ≡ front ++ Say (clear_text count required) ok ∷ after) (turns_are : r.turning ≡ front ++ Say (clear_text count required) ok ∷ back) where
    abbrev line : Event
    line = Say (clear_text count required) ok

    called : CalledClear AreCalledSealed (ordered_of r.turns.run) front count required
    called = (turns.clear (ordered_of r.turns.run) (begins r.turns) (finishes r.turns) r.turns.starts r.turns.alone (past ++ first) r.turning r.was told).rightly front count required ok (back, turns_are)

    -- from the line on come the other turns and the last lines
    rest_is : line ∷ after ≡ (line ∷ back) ++ r.last
    rest_is = append_cancel_left front (line ∷ after) ((line ∷ back) ++ r.last) (sym behind_is ∙ ap (λ (l : List Event). l ++ r.last) turns_are ∙ append_assoc front (line ∷ back) r.last)

    in_turning : (d : ℕ) → Contains called.drives d → IsCalledSealed d r.turning
    in_turning d has = subst (IsCalledSealed d) (sym turns_are) (sealed_longer front (line ∷ back) d ((called.sealed.each d).0 has))

    module _ (card : Map) (dates : Dates) (steady : IsSteady (run_with job old new since) card dates) (d : ℕ) (has : Contains called.drives d) (start : Map) (honest : IsHonest (run_with job old new since) d start) (ours : IsOurs card dates start) where
      sealed_before : IsCalledSealed d front
      sealed_before = (called.sealed.each d).0 has

      live : start_at order.drives.items d ≢ Gone
      live = not_gone d (in_turning d has)

      -- within the turns
      whole_in_turns : (L more : List Event) → r.turning ≡ (front ++ L) ++ more → (I : Map) → Left start (first ++ (front ++ L)) d I → IsAfterOn card dates I (all_steps card)
      whole_in_turns L more split I left =
          laws.sealed order r.turns.run (begins r.turns) (finishes r.turns) (starts_truly line_laws laws job order old new past since r) (runs line_laws laws job order old new past since r) d start card (past ++ first) dates
          (drive_of line_laws laws job order old new past since r card dates steady d start honest ours live) (of_card line_laws laws job order old new past since r card dates steady d start honest ours) front L more
          (told_at line_laws laws job order old new past since r (front ++ L) more split) sealed_before I (behind_past line_laws laws job order old new past since r card dates steady d start honest ours (front ++ L) I left)

      -- at each stop that has the line behind it
      whole_behind : (L rest : List Event) → line ∷ after ≡ L ++ rest → (I : Map) → Left start (before ++ L) d I → IsAfterOn card dates I (all_steps card)
      whole_behind L rest cut I left = elim (cut_where L rest (line ∷ back) r.last (sym cut ∙ rest_is)) [
        | inl i ↦ whole_in_turns L i.back (turns_are ∙ ap (λ (l : List Event). front ++ l) i.first ∙ sym (append_assoc front L i.back)) I (subst (λ (l : List Event). Left start l d I) (placed L) left)
        | inr i ↦ later i
      ]
        where
          placed : (L : List Event) → before ++ L ≡ first ++ (front ++ L)
          placed L = ap (λ (l : List Event). l ++ L) before_is ∙ append_assoc first front L

          later : InSecond L rest (line ∷ back) r.last → IsAfterOn card dates I (all_steps card)
          later i =
              let off : calls_on d i.front ≡ [] = output_off d i.front (AllOn-front (Only Output) i.front rest (subst (AllOn (Only Output)) i.second r.on_output)) in
              let split : before ++ L ≡ (first ++ (front ++ line ∷ back)) ++ i.front = ap (λ (l : List Event). before ++ l) i.before ∙ sym (append_assoc before (line ∷ back) i.front) ∙ ap (λ (l : List Event). l ++ i.front) (placed (line ∷ back)) in
              let earlier : Left start (first ++ (front ++ line ∷ back)) d I = left_before start d (first ++ (front ++ line ∷ back)) i.front I off (subst (λ (l : List Event). Left start l d I) split left) in
              whole_in_turns (line ∷ back) [] (turns_are ∙ sym (append-nil (front ++ line ∷ back))) I earlier

      whole : (L : List Event) → IsPrefix L since → length before < length L → (I : Map) → Left start L d I → IsAfterOn card dates I (all_steps card)
      whole L (rest, cut) longer I left = elim (cut_where L rest before (line ∷ after) (sym cut ∙ is)) [
        | inl i ↦ let long = ap (λ (l : List Event). length l) i.first ∙ length-append L i.back in absurd (omega (arith, long, longer))
        | inr i ↦ whole_behind i.front rest i.second I (subst (λ (l : List Event). Left start l d I) i.before left)
      ]

    in_turns : IsClear (run_with job old new since) before count required
    in_turns = record {
      drives = called.drives;
      sealed = subst (AreCalledSealed called.drives) (sym before_is) (are_sealed front called.drives called.sealed);
      there = λ d has. of_job d (in_turning d has);
      counted = called.counted;
      words = called.ordered ∙ r.turns.of.copies ∙ r.of.copies;
      enough = called.enough;
      whole = λ card dates steady d has start honest ours. whole card dates steady d has start honest ours;
    }

  -- the line stands in the turns
  pub turns_clear : CallsClear (run_with job old new since)
  turns_clear before after count required ok is = elim (call_where before (Say (clear_text count required) ok) after first (r.turning ++ r.last) (sym is ∙ r.is)) [
    | inl i ↦ absurd (not_clear first before i.0 count required ok r.quiet i.1)
    | inr i ↦ among_turns i.0 i.1 i.2
  ]
    where
      among_turns : (front : List Event) → before ≡ first ++ front → r.turning ++ r.last ≡ front ++ Say (clear_text count required) ok ∷ after → IsClear (run_with job old new since) before count required
      among_turns front before_is behind_is = elim (call_where front (Say (clear_text count required) ok) after r.turning r.last (sym behind_is)) [
        | inl j ↦ in_turns before after front j.0 count required ok is before_is behind_is j.1
        | inr j ↦ absurd (not_clear r.last j.0 after count required ok r.quiet_last j.2)
      ]

module _ (line_laws : LineLaws) (laws : RunLaws) (turns : TurnLaws) (job : Job) (end : JobEnd) (result : ℕ) (old new : World) (none : old.attached.drives ≡ 0) (past since : List Event) (was : old.events ≡ Some past) (now : new.events ≡ Some (past ++ since)) where
  -- a run that came to no turn does not call its card clear
  of_quiet : Tells IsQuiet old new → CallsClear (run_with job old new since)
  of_quiet calls before after count required ok is = absurd (not_clear since before after count required ok (since_then calls past since was now) is)

  pub calls_clear : Story job end result old new → CallsClear (run_with job old new since)
  calls_clear story = elim (ways line_laws.other laws job end result old new none past since was now story) [
    | inl quiet ↦ of_quiet quiet
    | inr (order, r) ↦ turns_clear line_laws laws turns job order old new past since r
  ]
