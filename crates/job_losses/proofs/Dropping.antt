-- Each line `dropped` of a run of a job has its cause before it.
use Rattle.std.proofs.Common.{◌≡◌, inl, inr, ℕ, ◌^◌, ◌<◌, ◌≤◌, Bool, true, List, [], ◌∷◌, ◌++◌, length, get_or, refl, sym, ap, ◌∙◌, subst, arith, append_assoc}
use Rattle.std.specs.Prelude.{Some, Ok, Err, codes, decimal}
use Rattle.std.specs.List.{flat_map}
use Rattle.std.proofs.lemmas.List.{append_cancel_left}
use Rattle.bay_core.specs.declared.event.Event.{Event}
use Rattle.bay_core.specs.declared.event.Event.TheVariants.{Moment, Say, Sync}
use Rattle.bay_core.specs.Paths.{part_path}
use Rattle.bay_core.specs.Replay.{Attaching}
use Rattle.bay_core.specs.Went.{Then}
use Rattle.bay_core.specs.World.{World, Attached}
use Rattle.copy_plan.specs.Plan.{PlanValue}
use Rattle.digest_set.specs.Triple.{triple}
use Rattle.drive_journal.specs.declared.order.Order.{Order}
use Rattle.last_lines.specs.Ends.{Ended}
use Rattle.offload_run.specs.declared.offload.Offload.{Offload}
use Rattle.offload_run.specs.Offload.{ordered_of}
use Rattle.read_back.specs.declared.back.ReadBackError.{ReadBackError}
use Rattle.read_back.specs.Back.{ReadBackCalls}
use Rattle.report_text.specs.Fields.{fields, triple_fields}
use Rattle.report_text.specs.Losses.{dropped_fault_text}
use Rattle.seal_step.specs.declared.error.SealError.{SealError}
use Rattle.run_state.specs.Runs.{Point, Runs, begins_with}
use Rattle.run_state.specs.State.{drive_at}
use Rattle.run_ends.specs.Losses.{Loss, ByFault, ByAbsence, ByLength, ByDigests, ByByte, loss_text, LosesByFaults}
use Rattle.run_ends.specs.Known.{IsHonest as HonestAt}
use Rattle.run_ends.proofs.Lines.{no_line, split_at}
use Rattle.run_reads.specs.Parts.{Starts}
use Rattle.run_reads.specs.Reads.{reads_of, got_in, card_given}
use Rattle.run_reads.proofs.Cards.{given_append}
use Rattle.run_reads.proofs.Since.{Since, since_such, since_at}
use Rattle.true_start.specs.Starts.{StartsTruly}
use Rattle.true_start.proofs.Starting.{stands}
use Rattle.command_words.specs.Jobs.{Job}
use Rattle.job_story.specs.Ends.{JobEnd, last_of}
use Rattle.job_story.specs.Run.{Run, run_with}
use Rattle.job_story.specs.Story.{asked_by, Story, card_unattached, drive_unattached, unopened, unstocked, turned}
use Rattle.job_losses.specs.Drops.{PartSaw, records_in, ListSaw, Saw, Shows, HasCause, DropsRightly}
use Rattle.job_losses.proofs.Attached.{Attached as AttachedSo, attached_all, attached_fewer, one_card}
use Rattle.job_losses.proofs.Lines.{Lines, IsFaultLine, last_lines, lines_then, lines_none}
use Rattle.job_losses.proofs.Losing.{ShowsThere, DropsSo, turns_drop}
use Rattle.job_losses.proofs.Opening.{opened}
use Rattle.job_losses.proofs.Parts.{TurnLaws, TurnedRun, begins, finishes, turned_run, starts_truly}
use Rattle.job_losses.proofs.Records.{records_behind}
use Rattle.job_losses.proofs.Told.{grows_went, grows_then, since_went, since_then}
use Rattle.job_losses.proofs.Written.{IsUnbegun}

-- ---- the line of a fault is that of no other loss

behind : (x : List ℕ) (b : ℕ) (word : List ℕ) (more : List (List ℕ)) → (rest : List ℕ) × (fields (x ++ 32 ∷ (b ∷ word)) more ≡ x ++ 32 ∷ (b ∷ rest))
behind x b word [] = (word, refl)
behind x b word (next ∷ more) =
    let r = behind x b (word ++ 32 ∷ next) more in
    (r.0, ap (λ (l : List ℕ). fields l more) (append_assoc x (32 ∷ (b ∷ word)) (32 ∷ next)) ∙ r.1)

abbrev second : List ℕ → ℕ
second l = get_or l 1 0

other_word : (d b : ℕ) (word : List ℕ) (more : List (List ℕ)) → fields (codes "dropped") (decimal d ∷ (b ∷ word) ∷ more) ≡ dropped_fault_text d → b ≡ 102
other_word d b word more same =
    let front : List ℕ = codes "dropped" ++ 32 ∷ decimal d in
    let r = behind front b word more in
    ap second (append_cancel_left front (32 ∷ (b ∷ r.0)) (32 ∷ codes "fault") (sym r.1 ∙ same))

fault_alone : (d : ℕ) (loss : Loss) → loss_text d loss ≡ dropped_fault_text d → loss ≡ ByFault
fault_alone d ByFault same = refl
fault_alone d (ByAbsence path) same = let letter : 97 ≡ 102 = other_word d 97 (codes "bsent") (path ∷ []) same in absurd (omega (arith, letter))
fault_alone d (ByLength recorded read path) same = let letter : 108 ≡ 102 = other_word d 108 (codes "ength") (decimal recorded ∷ decimal read ∷ path ∷ []) same in absurd (omega (arith, letter))
fault_alone d (ByDigests recorded read path) same = let letter : 97 ≡ 102 = other_word d 97 (codes "ltered") (triple_fields recorded ++ triple_fields read ++ path ∷ []) same in absurd (omega (arith, letter))
fault_alone d (ByByte at written read path) same = let letter : 98 ≡ 102 = other_word d 98 (codes "yte") (decimal at ∷ decimal written ∷ decimal read ∷ path ∷ []) same in absurd (omega (arith, letter))

-- ---- what calls saw they saw behind earlier ones too, which wrote no record and read no file of the card

module _ (p : PlanValue) (d : ℕ) (first : List Event) (unwritten : records_in d first ≡ []) (unread : (path : List ℕ) → reads_of 0 path first ≡ []) where
  given_behind : (path : List ℕ) (L : List Event) → card_given 0 path L ≡ card_given 0 path (first ++ L)
  given_behind path L = sym (given_append 0 path first L ∙ ap (λ (K : List Event). flat_map got_in K ++ card_given 0 path L) (unread path))

  part_behind : (path : List ℕ) (e : ReadBackError) (L : List Event) → PartSaw p d path e L → PartSaw p d path e (first ++ L)
  part_behind path e L s = record {
    index = s.index;
    file = s.file;
    is_file = s.is_file;
    is_path = s.is_path;
    front = first ++ s.front;
    back = s.back;
    calls = ap (λ (l : List Event). first ++ l) s.calls ∙ sym (append_assoc first s.front (Sync d true ∷ s.back));
    bytes = s.bytes;
    saw = subst (λ (bytes : List ℕ). ReadBackCalls d part_path s.file.size (triple bytes) (Err e) s.bytes s.back) (given_behind s.file.path L) s.saw;
  }

  list_behind : (path : List ℕ) (e : SealError) (L : List Event) → ListSaw p d path e L → ListSaw p d path e (first ++ L)
  list_behind path e L s = record {
    is_path = s.is_path;
    recs = s.recs;
    full = s.full;
    finish = s.finish;
    front = first ++ s.front;
    drafts = s.drafts;
    back = s.back;
    calls = ap (λ (l : List Event). first ++ l) s.calls ∙ sym (append_assoc first s.front (Moment s.finish ∷ (s.drafts ++ s.back)));
    recorded = records_behind d first s.front unwritten ∙ s.recorded;
    drafted = s.drafted;
    saw = s.saw;
  }

  saw_behind : (loss : Loss) (L : List Event) → Saw p d loss L → Saw p d loss (first ++ L)
  saw_behind ByFault L s = s
  saw_behind (ByAbsence path) L (inl s) = inl (part_behind path _ L s)
  saw_behind (ByAbsence path) L (inr s) = inr (list_behind path _ L s)
  saw_behind (ByLength x y path) L (inl s) = inl (part_behind path _ L s)
  saw_behind (ByLength x y path) L (inr s) = inr (list_behind path _ L s)
  saw_behind (ByDigests x y path) L s = part_behind path _ L s
  saw_behind (ByByte at x y path) L s = list_behind path _ L s

-- ---- a run that came to its turns

-- what is known of the losses of a run of a true order
pub record DropLaws : Type 0 where
  pub turns : TurnLaws
  pub starts : (order : Order) (run : Offload) (a : Point) → StartsTruly order run a → Starts (ordered_of run) a
  pub losses : (order : Order) (run : Offload) (a b : Point) → StartsTruly order run a → Runs (ordered_of run) a b → (past L : List Event) → a.world.events ≡ Some past → b.world.events ≡ Some (past ++ L) → LosesByFaults a L

module _ (laws : DropLaws) (job : Job) (order : Order) (end : JobEnd) (old late done new : World) (past since : List Event) (r : TurnedRun job order end old late done new past since) where
  abbrev run : Run
  run = run_with job old new since

  starts : StartsTruly order r.turns.run (begins r.turns)
  starts = starts_truly job order end old late done new past since r

  unbegun : (d : ℕ) → IsUnbegun (drive_at (begins r.turns).at.drives.each d)
  unbegun d = subst IsUnbegun (sym (stands order r.turns.run (begins r.turns) starts d)) (r.of.unbegun d)

  of_card : (ordered_of r.turns.run).source ≡ 0
  of_card = r.turns.of.source ∙ r.of.source

  -- each line of the turns has its cause there
  caused : (front back : List Event) (line : List ℕ) (ok : Bool) → r.turning ≡ front ++ Say line ok ∷ back → DropsSo (ordered_of r.turns.run) (begins r.turns) of_card old new front line ok
  caused front back line ok is =
      turns_drop (ordered_of r.turns.run) (begins r.turns) of_card old new (laws.turns.rules (ordered_of r.turns.run) (begins r.turns)) (laws.turns.runs (ordered_of r.turns.run) (begins r.turns))
      (laws.starts order r.turns.run (begins r.turns) starts) unbegun r.early (finishes r.turns) r.turns.alone r.behind (past ++ r.first) r.turning r.was r.now front back line ok is

  shows : (d : ℕ) (loss : Loss) (L : List Event) → ShowsThere old new (ordered_of r.turns.run).plan d loss L → Shows run d loss (r.first ++ L)
  shows d ByFault L s = s
  shows d (ByAbsence path) L s = (order.plan, r.plan, saw_behind order.plan d r.first (r.unwritten d) r.unread (ByAbsence path) L (subst (λ (p : PlanValue). Saw p d (ByAbsence path) L) r.turns.of.plan s))
  shows d (ByLength x y path) L s = (order.plan, r.plan, saw_behind order.plan d r.first (r.unwritten d) r.unread (ByLength x y path) L (subst (λ (p : PlanValue). Saw p d (ByLength x y path) L) r.turns.of.plan s))
  shows d (ByDigests x y path) L s = (order.plan, r.plan, saw_behind order.plan d r.first (r.unwritten d) r.unread (ByDigests x y path) L (subst (λ (p : PlanValue). Saw p d (ByDigests x y path) L) r.turns.of.plan s))
  shows d (ByByte at x y path) L s = (order.plan, r.plan, saw_behind order.plan d r.first (r.unwritten d) r.unread (ByByte at x y path) L (subst (λ (p : PlanValue). Saw p d (ByByte at x y path) L) r.turns.of.plan s))

  in_turns : (front back : List Event) (d : ℕ) (line : List ℕ) (ok : Bool) → d < 2 ^ 64 → r.turning ≡ front ++ Say line ok ∷ back → begins_with (codes "dropped") d line ≡ true → HasCause run d line (r.first ++ front)
  in_turns front back d line ok low is begins_so =
      let c = caused front back line ok is d low begins_so in
      record {
        loss = c.loss;
        says = c.says;
        shows = shows d c.loss front c.shows;
        honest = λ start h.
            let by_fault = laws.losses order r.turns.run (begins r.turns) (finishes r.turns) starts (laws.turns.runs (ordered_of r.turns.run) (begins r.turns) (finishes r.turns) r.turns.alone) (past ++ r.first) r.turning r.was r.now in
            let here : HonestAt late d = (ap (λ (b : Attached). b.honest d) (sym r.same) ∙ h.honest, start, ap (λ (b : Attached). b.start d) (sym r.same) ∙ h.had) in
            fault_alone d c.loss (sym c.says ∙ by_fault.each d c.of here front back line ok is begins_so);
      }

  by_fault_line : (d : ℕ) (line : List ℕ) (before : List Event) → d < 2 ^ 64 → begins_with (codes "dropped") d line ≡ true → IsFaultLine run line → HasCause run d line before
  by_fault_line d line before low begins_so fault = let f = fault d low begins_so in record { loss = ByFault; says = f.0; shows = f.1; honest = λ start h. refl }

  pub turned_drops : Lines (IsFaultLine run) r.first → Lines (IsFaultLine run) r.last → DropsRightly run
  turned_drops early_lines last_so before after d line ok low is begins_so = elim (split_at r.first (r.turning ++ r.last) before after (Say line ok) (sym r.is ∙ is)) [
    | inl found ↦ by_fault_line d line before low begins_so (early_lines before found.0 line ok found.1)
    | inr found ↦ subst (HasCause run d line) (sym found.1) (later found.0 found.2)
  ]
    where
      later : (front : List Event) → r.turning ++ r.last ≡ front ++ Say line ok ∷ after → HasCause run d line (r.first ++ front)
      later front there = elim (split_at r.turning r.last front after (Say line ok) there) [
        | inl found ↦ in_turns front found.0 d line ok low found.1 begins_so
        | inr found ↦ by_fault_line d line (r.first ++ front) low begins_so (last_so found.0 after line ok found.2)
      ]

-- ---- each run

module _ (laws : DropLaws) (job : Job) (end : JobEnd) (result : ℕ) (old new : World) (few : length job.drives ≤ 8) (past since : List Event) (was : old.events ≡ Some past) (now : new.events ≡ Some (past ++ since)) where
  abbrev the_run : Run
  the_run = run_with job old new since

  abbrev Faults : List Event → Type 0
  Faults L = Lines (IsFaultLine the_run) L

  both : {first mid last : World} → Since Faults first mid → Since Faults mid last → Since Faults first last
  both one two = since_such (λ L (t : Then Faults Faults L). subst Faults (sym t.is) (lines_then (IsFaultLine the_run) t.first t.second t.here t.there)) (since_then one two)

  -- attaches say nothing
  no_line_there : {first last : World} → AttachedSo first last → Since Faults first last
  no_line_there a = since_such (λ L on. lines_none (IsFaultLine the_run) L (no_line (λ x. x ≡ Attaching) (λ y at out. cc (at, out)) L on)) a.calls

  ends : {first last : World} → Ended (last_of end) result first last → Since Faults first last
  ends e = since_such (λ L both. last_lines the_run end result L both.1) (since_went e.went)

  rightly : Since Faults old new → DropsRightly the_run
  rightly lines before after d line ok low is begins_so =
      let f = since_at lines past since was now before after line ok is d low begins_so in
      record { loss = ByFault; says = f.0; shows = f.1; honest = λ start h. refl }

  pub drops_rightly : Story job end result old new → DropsRightly the_run
  drops_rightly (card_unattached error mid is attach last) = rightly (both (no_line_there (one_card attach)) (ends last))
  drops_rightly (drive_unattached d mid is lacks last) = rightly (both (no_line_there (attached_fewer job d old mid lacks)) (ends last))
  drops_rightly (unopened e mid late is attaches opens last) =
      let attached = (attached_all job old mid attaches).attached in
      rightly (both (both (no_line_there attached) (opened the_run mid late attached.grows (grows_went last.went) (length job.drives) job.copies (asked_by job.task) few (Err e) opens.opens)) (ends last))
  drops_rightly (unstocked order mid late is attaches opens last) =
      let attached = (attached_all job old mid attaches).attached in
      rightly (both (both (no_line_there attached) (opened the_run mid late attached.grows (grows_went last.went) (length job.drives) job.copies (asked_by job.task) few (Ok order) opens.opens)) (ends last))
  drops_rightly (turned order mid late done attaches opens turns last) =
      let attached = (attached_all job old mid attaches).attached in
      let r = turned_run laws.turns job order end result old mid late done new attaches opens turns last past since was now in
      let early = both (no_line_there attached) (opened the_run mid late attached.grows (grows_then r.between r.behind) (length job.drives) job.copies (asked_by job.task) few (Ok order) opens.opens) in
      turned_drops laws job order end old late done new past since r (since_at early past r.first was r.was) (since_at (ends last) ((past ++ r.first) ++ r.turning) r.last r.now r.end_is)
