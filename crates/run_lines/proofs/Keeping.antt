-- What a run has said between two turns, and that each turn keeps it so.
use Rattle.std.proofs.Common.{◌≡◌, ◌≢◌, ◌⊎◌, inl, inr, ℕ, suc, ◌+◌, ◌<◌, ◌≤◌, Bool, true, false, List, [], ◌∷◌, ◌++◌, length, map, refl, sym, ap, ◌∙◌, subst, arith, length-append, append-nil}
use Rattle.std.specs.Prelude.{Option, Some, None, Result, Ok, Err, is_some, if◌then◌else◌, nat_eq}
use Rattle.std.proofs.lemmas.Bool.{cases_eq, false≢true}
use Rattle.std.proofs.lemmas.List.{map-append}
use Rattle.bay_core.specs.declared.event.Event.{Event}
use Rattle.bay_core.specs.World.{World}
use Rattle.copy_plan.specs.Inventory.{EachPair}
use Rattle.copy_plan.specs.Plan.{list_of}
use Rattle.digest_set.specs.declared.triple.Triple.{Triple}
use Rattle.drive_journal.specs.declared.order.Listed.{Listed}
use Rattle.drive_journal.specs.declared.record.Gate.{Gate}
use Rattle.drive_journal.specs.declared.record.Rec.{Rec}
use Rattle.fan_copier.specs.declared.copy.FileCopy.{FileCopy}
use Rattle.fan_copier.specs.declared.turn.Turn.{Turn}
use Rattle.fan_copier.specs.declared.turn.Turn.TheVariants.{Going as CopyGoes, Dropped, Copied, SourceFailed as CardFailed, Changed as CardChanged, NoDrive as NoneLeft}
use Rattle.fan_copier.specs.Copying.{card_of, size_of, live_of}
use Rattle.fan_copier.specs.Turning.{GoOn}
use Rattle.read_back.specs.declared.back.ReadBackError.{ReadBackError}
use Rattle.report_text.specs.Run.{done_text, sealed_text, clear_text}
use Rattle.report_text.specs.Losses.{dropped_fault_text}
use Rattle.seal_step.specs.declared.error.SealError.{SealError}
use Rattle.run_state.specs.declared.outcome.Outcome.{Outcome}
use Rattle.run_state.specs.declared.outcome.Outcome.TheVariants.{Going, Finished, NoDrive, SourceFailed, Changed, Altered as ListAltered, OutFailed}
use Rattle.run_state.specs.declared.phase.Phase.{Phase}
use Rattle.run_state.specs.declared.phase.Phase.TheVariants.{Begins, File, Copies, Dates, Records, Seals, Clears, Ended}
use Rattle.run_state.specs.Acts.{Says, Goes, Ends, Drops, SealsDrive, Passes, records_at, BeginTried, begin_line, begun_at, MovesOrDrops, BegunAloud, BeginTurn, FileTurn, copies_on, CopySettles, CopyActed, other_listed, DateTurn, record_line, RecordStands, RecordedAloud, RecordTurn, seal_line, SealStands, SealedAloud, SealTurn, is_clear, end_of, ClearTurn}
use Rattle.run_state.specs.Rules.{HasAtLeast, IsOver, FitsCopy, FitsSeal, Fits, IsRun, IsStart}
use Rattle.run_state.specs.Runs.{Point, IsAboutNone, AreBeside, Beside}
use Rattle.run_state.specs.State.{Ordered, DriveAt, Gone, Fresh, Begun as BegunDrive, Found, Sealed as SealedDrive, Drives, At, Journaled, files_of, drive_at, is_gone, is_sealed, is_of_run, count_sealed, due, after_begin, after_file, after_record, after_seal}
use Rattle.run_state.specs.Turn.{Acted, Turned}
use Rattle.run_state.proofs.Drives.{there}
use Rattle.run_state.proofs.Keeping.{due_begun, sized_within}
use Rattle.run_lines.specs.Words.{Loss, Fault, Mark, Begun, Done, Sealed, Lost, Word, loss_text, word_text, marks_of, sealed_in}
use Rattle.run_lines.specs.Lines.{lines_in, IsEnd, Among, clear_lines, SaysSome, SaysAll}
use Rattle.run_lines.proofs.Since.{Since, since_same, since_more, since_such}
use Rattle.run_lines.proofs.Marks.{Told, HasFew, IsPassed, told_first, told_passed, told_done, told_lost, told_sealed, told_found}
use Rattle.run_lines.proofs.Orders.{IsEarly, is_begun, not_less, begin_later, begin_now, begun_here, not_begun, begun_others, file_later, file_begun, copies_later, copies_begun, record_later, record_now, record_begun, seal_later, seal_now, seal_begun}
use Rattle.run_lines.proofs.Losses.{record_loss, record_loss_line, seal_loss, seal_loss_line, path_is}
use Rattle.run_lines.proofs.Starts.{unsealed, CanBegin, can_begin_live, begun_live, unbegun, begun_told, unbegun_told, none_sealed, not_sealed, few_at, IsDueOn, at_start}
use Rattle.run_lines.proofs.Exact.{was, Exact, order_step, order_loss, count_kept, count_more, exact_push, exact_later, some_words, all_words}
use Rattle.run_lines.proofs.Drives.{SameRun, same_run, then_run, is_there, moves_run, seals_run, drops_run}
use Rattle.run_lines.proofs.Saying.{drive_silent, clock_silent, copy_silent, lines_append, among_more, beside_others, Speaks, speaks_none, silent, aloud, failed}

module _ (o : Ordered) (a : Point) (start : IsStart o a.at) (Other : List ℕ → Type 0) where
  abbrev n : ℕ
  n = files_of o.plan

  -- ---- where a run stands

  abbrev pub texts : List Word → List (List ℕ)
  texts words = map (word_text o.plan) words

  abbrev pub Stand : List Event → List (List ℕ) → Type 0
  Stand L lines = Among Other lines (lines_in L)

  -- the lines of a run that ended so, or goes on
  abbrev pub all_lines : Outcome → List Word → List (List ℕ)
  all_lines Finished words = texts words ++ clear_lines o.copies (length (sealed_in words))
  all_lines NoDrive words = texts words ++ clear_lines o.copies (length (sealed_in words))
  all_lines _ words = texts words

  -- each line was said
  pub record Standing (at : At) (w : World) : Type 0 where
    pub words : List Word
    pub sound : at.outcome ≢ OutFailed
    pub exact : Exact o a at.drives at.phase words
    pub over : IsEnd at.outcome → (d : ℕ) → IsOver (drive_at at.drives.each d)
    pub speaks : Speaks Other a.world (all_lines at.outcome words) w

  -- the last one was not
  pub record Broken (at : At) (w : World) : Type 0 where
    pub ended : at.phase ≡ Ended
    pub failed : at.outcome ≡ OutFailed
    pub said : Since (λ L. SaysSome o a (Stand L) ⊎ SaysAll o a (Stand L)) a.world w

  pub record Kept (at : At) (w : World) : Type 0 where
    pub run : SameRun a.at.drives at.drives
    pub state : Standing at w ⊎ Broken at w

  stands : (at : At) (w : World) (phase : Phase) (outcome : Outcome) (words : List Word) → at.phase ≡ phase → at.outcome ≡ outcome → outcome ≢ OutFailed → (IsEnd outcome → (d : ℕ) → IsOver (drive_at at.drives.each d))
      → Exact o a at.drives phase words → Speaks Other a.world (all_lines outcome words) w → Standing at w
  stands at w phase outcome words is ends sound over exact speaks = record {
    words = words;
    sound = λ e. sound (sym ends ∙ e);
    exact = subst (λ (p : Phase). Exact o a at.drives p words) (sym is) exact;
    over = λ end. over (subst IsEnd ends end);
    speaks = subst (λ (r : Outcome). Speaks Other a.world (all_lines r words) w) (sym ends) speaks;
  }

  -- ---- one turn

  module _ (b c : Point) (rules : IsRun o b.at) (rules_after : IsRun o c.at) (run : SameRun a.at.drives b.at.drives) (words : List Word) where
    few : (d : ℕ) → HasFew n (drive_at b.at.drives.each d)
    few d = few_at o.plan (drive_at b.at.drives.each d) (rules.drives.each d)

    few_after : (d : ℕ) → HasFew n (drive_at c.at.drives.each d)
    few_after d = few_at o.plan (drive_at c.at.drives.each d) (rules_after.drives.each d)

    within : (k : ℕ) → is_of_run a.at.drives k ≡ true → k < length b.at.drives.each
    within k of = let low = there a.at.drives.each k (at_start o a.at start k of).live in let count = run.count in omega (arith, low, count)

    ours : (d : ℕ) → is_gone (drive_at b.at.drives.each d) ≡ false → is_of_run a.at.drives d ≡ true
    ours d live = sym (run.of_run d) ∙ is_there b.at.drives d live

    -- no word more, and the drives are as before
    goes_on : (next : Phase) → c.at.drives ≡ b.at.drives → Goes true next c.at → Exact o a b.at.drives next words → Speaks Other a.world (texts words) c.world → Kept c.at c.world
    goes_on next same goes exact speaks = record {
      run = subst (SameRun a.at.drives) (sym same) run;
      state = inl (stands c.at c.world next Going words goes.0 goes.1 (λ e. absurd (cc e)) (λ end. absurd end) (subst (λ (d : Drives). Exact o a d next words) (sym same) exact) speaks);
    }

    ends_so : (outcome : Outcome) → outcome ≢ OutFailed → (IsEnd outcome → ⊥) → all_lines outcome words ≡ texts words → c.at.drives ≡ b.at.drives → Ends outcome c.at → Exact o a b.at.drives Ended words → Speaks Other a.world (texts words) c.world → Kept c.at c.world
    ends_so outcome sound not_end lines same ends exact speaks = record {
      run = subst (SameRun a.at.drives) (sym same) run;
      state = inl (stands c.at c.world Ended outcome words ends.0 ends.1 sound (λ end. absurd (not_end end)) (subst (λ (d : Drives). Exact o a d Ended words) (sym same) exact)
          (subst (λ (l : List (List ℕ)). Speaks Other a.world l c.world) (sym lines) speaks));
    }

    -- a word more
    module _ (w : Word) where
      texts_more : (line : List ℕ) → line ≡ word_text o.plan w → texts words ++ line ∷ [] ≡ texts (words ++ w ∷ [])
      texts_more line is = ap (λ (t : List ℕ). texts words ++ t ∷ []) is ∙ sym (map-append (word_text o.plan) words (w ∷ []))

      says : (phase next : Phase) (line : List ℕ) (ok : Bool) {mid : World} → line ≡ word_text o.plan w → Says line ok mid c.world → Goes ok next c.at → Exact o a b.at.drives phase words → Exact o a c.at.drives next (words ++ w ∷ [])
          → Speaks Other a.world (texts words) mid → Standing c.at c.world ⊎ Broken c.at c.world
      says phase next line true is line_said goes before after speaks =
          inl (stands c.at c.world next Going (words ++ w ∷ []) goes.0 goes.1 (λ e. absurd (cc e)) (λ end. absurd end) after
          (subst (λ (l : List (List ℕ)). Speaks Other a.world l c.world) (texts_more line is) (aloud Other a.world (texts words) line line_said speaks)))
      says phase next line false is line_said goes before after speaks =
          inr (record { ended = goes.0; failed = goes.1; said = since_such (λ L so. inl (by L so)) (failed Other a.world (texts words) line line_said speaks) })
        where
          by : (L : List Event) → Stand L (texts words) ⊎ Stand L (texts words ++ line ∷ []) → SaysSome o a (Stand L)
          by L (inl unseen) = record { words = words; are = some_words o a b.at.drives phase words before few; lines = unseen }
          by L (inr seen) = record { words = words ++ w ∷ []; are = some_words o a c.at.drives next (words ++ w ∷ []) after few_after; lines = subst (λ (l : List (List ℕ)). Stand L l) (texts_more line is) seen }

    -- a drive is lost, and its line tells why
    loses : (phase next : Phase) (d : ℕ) (loss : Loss) (line : List ℕ) (ok : Bool) {mid : World} → Exact o a b.at.drives phase words → is_gone (drive_at b.at.drives.each d) ≡ false → is_sealed (drive_at b.at.drives.each d) ≡ false
        → Drops d b.at.drives c.at.drives → Told n (was o a d) Gone (is_begun d next) (marks_of d words ++ Lost loss ∷ []) → ((v : Word) → IsEarly n phase v → IsEarly n next v)
        → ((k : ℕ) → k ≢ d → is_of_run a.at.drives k ≡ true → is_begun k next ≡ is_begun k phase) → line ≡ loss_text d loss → Says line ok mid c.world → Goes ok next c.at → Speaks Other a.world (texts words) mid → Kept c.at c.world
    loses phase next d loss line ok exact live unsealed drops told later begun is line_said goes speaks =
        let w : Word = record { drive = d; mark = Lost loss } in
        let after : Exact o a c.at.drives next (words ++ w ∷ []) =
        exact_push o a b.at.drives c.at.drives words w phase next Gone exact (ours d live) drops.each told begun (order_loss o a phase next words w refl later exact.order)
        (count_kept o a b.at.drives c.at.drives words w Gone refl (sym unsealed) drops.each exact.count) in
        record {
          run = then_run run (drops_run d b.at.drives c.at.drives live rules.drives.few rules.drives.sets.1 drops);
          state = says w phase next line ok is line_said goes exact after speaks;
        }

    -- ---- the begins

    begun_same : (phase next : Phase) → ((k : ℕ) → is_begun k phase ≡ true) → ((k : ℕ) → is_begun k next ≡ true) → (d k : ℕ) → k ≢ d → is_of_run a.at.drives k ≡ true → is_begun k next ≡ is_begun k phase
    begun_same phase next before after d k ne of = after k ∙ sym (before k)

    exact_on : (phase next : Phase) → Exact o a b.at.drives phase words → ((k : ℕ) → is_begun k phase ≡ true) → ((k : ℕ) → is_begun k next ≡ true) → ((v : Word) → IsEarly n phase v → IsEarly n next v) → Exact o a b.at.drives next words
    exact_on phase next exact before after later =
        exact_later o a b.at.drives phase next words exact later (λ k of t. subst (λ (g : Bool). Told n (was o a k) (drive_at b.at.drives.each k) g (marks_of k words)) (before k ∙ sym (after k)) t)

    module _ (d : ℕ) (exact : Exact o a b.at.drives (Begins d) words) (speaks : Speaks Other a.world (texts words) b.world) where
      abbrev next_begin : Phase
      next_begin = after_begin (length b.at.drives.each) d

      passed : (x : DriveAt) → drive_at b.at.drives.each d ≡ x → IsPassed x → Passes next_begin b.at.drives c.at b.world c.world → Kept c.at c.world
      passed x is pass t =
          goes_on next_begin t.drives t.goes
          (exact_later o a b.at.drives (Begins d) next_begin words exact (begin_later n (length b.at.drives.each) d) (λ k of told. elim (cases_eq k d) [
            | inl same ↦ told_passed n (was o a k) (drive_at b.at.drives.each k) (is_begun k (Begins d)) (is_begun k next_begin) (marks_of k words) (subst IsPassed (sym (ap (drive_at b.at.drives.each) same ∙ is)) pass) told
            | inr ne ↦ subst (λ (g : Bool). Told n (was o a k) (drive_at b.at.drives.each k) g (marks_of k words)) (sym (begun_others (length b.at.drives.each) d k ne (within k of))) told
          ]))
          (since_same t.idle speaks)

      begun : (x : DriveAt) → drive_at b.at.drives.each d ≡ x → CanBegin x → (mid : World) → Speaks Other a.world (texts words) mid → (ok line_ok : Bool) → MovesOrDrops d ok (begun_at o.plan x) b.at.drives c.at.drives
          → Says (begin_line d (length (records_at x)) n ok) line_ok mid c.world → Goes line_ok next_begin c.at → Kept c.at c.world
      begun x is can mid spoke ok line_ok moves line_said goes = by ok moves line_said
        where
          live : is_gone (drive_at b.at.drives.each d) ≡ false
          live = ap is_gone is ∙ (can_begin_live x can).0

          unsealed : is_sealed (drive_at b.at.drives.each d) ≡ false
          unsealed = ap is_sealed is ∙ (can_begin_live x can).1

          here : (was o a d ≡ x) × (marks_of d words ≡ [])
          here = unbegun n (was o a d) x (marks_of d words) can
              (subst (λ (y : DriveAt). Told n (was o a d) y false (marks_of d words)) is (subst (λ (g : Bool). Told n (was o a d) (drive_at b.at.drives.each d) g (marks_of d words)) (not_begun d) (exact.told d (ours d live))))

          others : (k : ℕ) → k ≢ d → is_of_run a.at.drives k ≡ true → is_begun k next_begin ≡ is_begun k (Begins d)
          others k ne of = begun_others (length b.at.drives.each) d k ne (within k of)

          now_told : (now : DriveAt) (m : Mark) → Told n x now true (marks_of d words ++ m ∷ []) → Told n (was o a d) now (is_begun d next_begin) (marks_of d words ++ m ∷ [])
          now_told now m t = subst (λ (g : Bool). Told n (was o a d) now g (marks_of d words ++ m ∷ [])) (sym (begun_here (length b.at.drives.each) d))
              (subst (λ (y : DriveAt). Told n y now true (marks_of d words ++ m ∷ [])) (sym here.0) t)

          by : (ok : Bool) → MovesOrDrops d ok (begun_at o.plan x) b.at.drives c.at.drives → Says (begin_line d (length (records_at x)) n ok) line_ok mid c.world → Kept c.at c.world
          by true m line =
              let w : Word = record { drive = d; mark = Begun (length (records_at x)) } in
              let after : Exact o a c.at.drives next_begin (words ++ w ∷ []) =
              exact_push o a b.at.drives c.at.drives words w (Begins d) next_begin (begun_at o.plan x) exact (ours d live) m.each (now_told (begun_at o.plan x) w.mark (begun_told o.plan x (marks_of d words) can here.1)) others
              (order_step o a (Begins d) next_begin words w refl (begin_later n (length b.at.drives.each) d) (λ v early. early) (begin_now n (length b.at.drives.each) d w refl refl) exact.order)
              (count_kept o a b.at.drives c.at.drives words w (begun_at o.plan x) refl ((begun_live o.plan x can).1 ∙ sym unsealed) m.each exact.count) in
              record {
                run = then_run run (moves_run d (begun_at o.plan x) b.at.drives c.at.drives live (begun_live o.plan x can).0 m);
                state = says w (Begins d) next_begin (begin_line d (length (records_at x)) n true) line_ok refl line goes exact after spoke;
              }
          by false m line = loses (Begins d) next_begin d Fault (begin_line d (length (records_at x)) n false) line_ok exact live unsealed m (now_told Gone (Lost Fault) (unbegun_told n x (marks_of d words) can here.1))
              (begin_later n (length b.at.drives.each) d) others refl line goes spoke

      begin_spoke : (x : DriveAt) (ok : Bool) (mid : World) → BeginTried o.plan d x ok b.world mid → Speaks Other a.world (texts words) mid
      begin_spoke Fresh ok mid t = silent Other a.world (texts words) t.0.went (drive_silent d) speaks
      begin_spoke (BegunDrive recs gate kept) ok mid t = silent Other a.world (texts words) t.0.went (drive_silent d) speaks
      begin_spoke Gone ok mid t = absurd t
      begin_spoke (Found recs) ok mid t = absurd t
      begin_spoke SealedDrive ok mid t = absurd t

      begun_aloud : (x : DriveAt) → drive_at b.at.drives.each d ≡ x → CanBegin x → BegunAloud o d x b.at.drives c.at b.world c.world → Kept c.at c.world
      begun_aloud x is can t = begun x is can t.mid (begin_spoke x t.ok t.mid t.tried) t.ok t.said t.stands t.line t.goes

      begin_turn : (x : DriveAt) → drive_at b.at.drives.each d ≡ x → BeginTurn o d x b.at.drives c.at b.world c.world → Kept c.at c.world
      begin_turn Fresh is t = begun_aloud Fresh is tt t
      begin_turn (BegunDrive recs gate kept) is t = begun_aloud (BegunDrive recs gate kept) is tt t
      begin_turn Gone is t = passed Gone is tt t
      begin_turn (Found recs) is t = passed (Found recs) is tt t
      begin_turn SealedDrive is t = passed SealedDrive is tt t

    -- ---- a file

    always : (k : ℕ) → true ≡ true
    always k = refl

    file_turn : (i : ℕ) → i < n → Exact o a b.at.drives (File i) words → Speaks Other a.world (texts words) b.world → FileTurn o i b.at.drives c.at b.world c.world → Kept c.at c.world
    file_turn i inside exact speaks (inl t) = goes_on (Copies i t.copy) t.drives t.goes (exact_on (File i) (Copies i t.copy) exact always always (λ v early. early)) (since_same t.idle speaks)
    file_turn i inside exact speaks (inr (nowhere, t)) =
        goes_on (after_file n i) t.drives t.goes (exact_on (File i) (after_file n i) exact always (file_begun n i) (λ v early. file_later n i 0 v inside early)) (since_same t.idle speaks)

    -- what was said of a drive on which a file is due
    due_told : (phase : Phase) (i d : ℕ) (j : Journaled) → ((k : ℕ) → is_begun k phase ≡ true) → Exact o a b.at.drives phase words → due i (drive_at b.at.drives.each d) ≡ Some j
        → IsDueOn n (was o a d) (drive_at b.at.drives.each d) (marks_of d words) i j
    due_told phase i d j begun exact is =
        let at = due_begun i (drive_at b.at.drives.each d) j is in
        record {
          live = ap is_gone at.0;
          unsealed = ap is_sealed at.0;
          index = at.1;
          few = subst (HasFew n) at.0 (few d);
          told = subst (λ (x : DriveAt). Told n (was o a d) x true (marks_of d words)) at.0
              (subst (λ (g : Bool). Told n (was o a d) (drive_at b.at.drives.each d) g (marks_of d words)) (begun d) (exact.told d (ours d (ap is_gone at.0))));
        }

    copy_turn : (i : ℕ) (copy : FileCopy) → FitsCopy o b.at.drives.each i copy → Exact o a b.at.drives (Copies i copy) words → Speaks Other a.world (texts words) b.world → CopyActed o i copy b.at.drives c.at b.pool c.pool b.world c.world → Kept c.at c.world
    copy_turn i copy fits exact speaks t = by t.came t.go_on t.settles
      where
        inside : i < n
        inside = sized_within o.plan i (size_of copy) fits.sized

        spoke : Speaks Other a.world (texts words) t.mid
        spoke = silent Other a.world (texts words) t.touches (copy_silent (card_of copy) (live_of copy)) speaks

        on : (next : Phase) → ((k : ℕ) → is_begun k next ≡ true) → ((v : Word) → IsEarly n (Copies i copy) v → IsEarly n next v) → Exact o a b.at.drives next words
        on next begun later = exact_on (Copies i copy) next exact always begun later

        dropped : (d : ℕ) → GoOn (Dropped d) (live_of copy) (live_of t.next) → CopySettles n i (Dropped d) t.next b.at.drives c.at t.mid c.world → (found : Option Journaled) → due i (drive_at b.at.drives.each d) ≡ found → Kept c.at c.world
        dropped d go s None is = absurd (false≢true (sym (ap (λ (f : Option Journaled). is_some f) is) ∙ sym (fits.live d) ∙ go.0))
        dropped d go s (Some j) is =
            let due_on = due_told (Copies i copy) i d j always exact is in
            loses (Copies i copy) (copies_on n i t.next) d Fault (dropped_fault_text d) s.said exact due_on.live due_on.unsealed s.drops
            (subst (λ (g : Bool). Told n (was o a d) Gone g (marks_of d words ++ Lost Fault ∷ [])) (sym (copies_begun n i t.next d)) (told_lost n (was o a d) j.recs Fault (marks_of d words) due_on.few due_on.told))
            (λ v early. copies_later n i t.next v inside early) (begun_same (Copies i copy) (copies_on n i t.next) always (copies_begun n i t.next) d) refl s.line s.goes spoke

        by : (came : Turn) → GoOn came (live_of copy) (live_of t.next) → CopySettles n i came t.next b.at.drives c.at t.mid c.world → Kept c.at c.world
        by CopyGoes go s = goes_on (Copies i t.next) s.0 s.1 (on (Copies i t.next) always (λ v early. early)) (since_same s.2 spoke)
        by (Dropped d) go s = dropped d go s (due i (drive_at b.at.drives.each d)) refl
        by (Copied x) go s = goes_on (Dates i x) s.0 s.1 (on (Dates i x) always (λ v early. early)) (since_same s.2 spoke)
        by CardFailed go s = ends_so SourceFailed (λ e. absurd (cc e)) (λ end. end) refl s.0 s.1 (on Ended always (λ v early. tt)) (since_same s.2 spoke)
        by (CardChanged listed read) go s = ends_so (Changed i listed read) (λ e. absurd (cc e)) (λ end. end) refl s.0 s.1 (on Ended always (λ v early. tt)) (since_same s.2 spoke)
        by NoneLeft go s = absurd s

    date_turn : (i : ℕ) (x : Triple) → Exact o a b.at.drives (Dates i x) words → Speaks Other a.world (texts words) b.world → (other : Option Listed) → DateTurn o i x other b.at.drives c.at b.world c.world → Kept c.at c.world
    date_turn i x exact speaks None t =
        let rec : Rec = record { index = i; size = t.file.size; triple = x; hashed = t.seconds } in
        goes_on (Records rec 0) t.drives t.goes (exact_on (Dates i x) (Records rec 0) exact always always (λ v early. early)) (silent Other a.world (texts words) t.asked clock_silent speaks)
    date_turn i x exact speaks (Some l) t = ends_so (ListAltered i l x) (λ e. absurd (cc e)) (λ end. end) refl t.0 t.1 (exact_on (Dates i x) Ended exact always always (λ v early. tt)) (since_same t.2 speaks)

    -- ---- a file is recorded on a drive

    module _ (rec : Rec) (d : ℕ) (inside : rec.index < n) (exact : Exact o a b.at.drives (Records rec d) words) (speaks : Speaks Other a.world (texts words) b.world) where
      abbrev next_record : Phase
      next_record = after_record (length b.at.drives.each) n rec d

      record_later_on : (v : Word) → IsEarly n (Records rec d) v → IsEarly n next_record v
      record_later_on v early = record_later n (length b.at.drives.each) rec d v inside early

      record_begun_on : (k : ℕ) → is_begun k next_record ≡ true
      record_begun_on k = record_begun n (length b.at.drives.each) rec d k

      recorded : (j : Journaled) → due rec.index (drive_at b.at.drives.each d) ≡ Some j → RecordedAloud o rec d j b.at.drives c.at b.world c.world → Kept c.at c.world
      recorded j is t = by t.came t.stands t.line
        where
          due_on : IsDueOn n (was o a d) (drive_at b.at.drives.each d) (marks_of d words) rec.index j
          due_on = due_told (Records rec d) rec.index d j always exact is

          spoke : Speaks Other a.world (texts words) t.mid
          spoke = silent Other a.world (texts words) t.went (drive_silent d) speaks

          on_next : (now : DriveAt) (marks : List Mark) → Told n (was o a d) now true marks → Told n (was o a d) now (is_begun d next_record) marks
          on_next now marks told = subst (λ (g : Bool). Told n (was o a d) now g marks) (sym (record_begun_on d)) told

          more : length (j.recs ++ rec ∷ []) ≡ suc rec.index
          more = let long = length-append j.recs (rec ∷ []) in let count = due_on.index in omega (arith, long, count)

          by : (came : Result Gate ReadBackError) → RecordStands d j.recs rec came b.at.drives c.at.drives → Says (record_line d n t.file.path rec came) t.said t.mid c.world → Kept c.at c.world
          by (Ok next) m line =
              let w : Word = record { drive = d; mark = Done rec.index } in
              let after : Exact o a c.at.drives next_record (words ++ w ∷ []) =
              exact_push o a b.at.drives c.at.drives words w (Records rec d) next_record (BegunDrive (j.recs ++ rec ∷ []) next false) exact (ours d due_on.live) m.each
              (on_next (BegunDrive (j.recs ++ rec ∷ []) next false) (marks_of d words ++ w.mark ∷ []) (told_done n (was o a d) j.recs (j.recs ++ rec ∷ []) next false rec.index (marks_of d words) due_on.index more due_on.told))
              (begun_same (Records rec d) next_record always record_begun_on d)
              (order_step o a (Records rec d) next_record words w refl record_later_on (λ v early. early) (record_now n (length b.at.drives.each) rec d w inside refl refl) exact.order)
              (count_kept o a b.at.drives c.at.drives words w (BegunDrive (j.recs ++ rec ∷ []) next false) refl (sym due_on.unsealed) m.each exact.count) in
              record {
                run = then_run run (moves_run d (BegunDrive (j.recs ++ rec ∷ []) next false) b.at.drives c.at.drives due_on.live refl m);
                state = says w (Records rec d) next_record (record_line d n t.file.path rec (Ok next)) t.said (ap (λ (q : List ℕ). done_text d (rec.index + 1) n q) (sym (path_is o.plan rec.index t.file t.is_file))) line t.goes exact after spoke;
              }
          by (Err e) m line =
              loses (Records rec d) next_record d (record_loss t.file.path e) (record_line d n t.file.path rec (Err e)) t.said exact due_on.live due_on.unsealed m
              (on_next Gone (marks_of d words ++ Lost (record_loss t.file.path e) ∷ []) (told_lost n (was o a d) j.recs (record_loss t.file.path e) (marks_of d words) due_on.few due_on.told))
              record_later_on (begun_same (Records rec d) next_record always record_begun_on d) (record_loss_line d n t.file.path rec e) line t.goes spoke

      record_turn : (found : Option Journaled) → due rec.index (drive_at b.at.drives.each d) ≡ found → RecordTurn o rec d found b.at.drives c.at b.world c.world → Kept c.at c.world
      record_turn None is t = goes_on next_record t.drives t.goes (exact_on (Records rec d) next_record exact always record_begun_on record_later_on) (since_same t.idle speaks)
      record_turn (Some j) is t = recorded j is t

    -- ---- a drive is sealed

    module _ (d : ℕ) (fits : FitsSeal o b.at.drives.each d) (exact : Exact o a b.at.drives (Seals d) words) (speaks : Speaks Other a.world (texts words) b.world) where
      abbrev next_seal : Phase
      next_seal = after_seal (length b.at.drives.each) d

      seal_later_on : (v : Word) → IsEarly n (Seals d) v → IsEarly n next_seal v
      seal_later_on v early = seal_later n (length b.at.drives.each) d v early

      seal_begun_on : (k : ℕ) → is_begun k next_seal ≡ true
      seal_begun_on k = seal_begun (length b.at.drives.each) d k

      on_seal : (now : DriveAt) (marks : List Mark) → Told n (was o a d) now true marks → Told n (was o a d) now (is_begun d next_seal) marks
      on_seal now marks told = subst (λ (g : Bool). Told n (was o a d) now g marks) (sym (seal_begun_on d)) told

      told_here : (x : DriveAt) → drive_at b.at.drives.each d ≡ x → is_gone x ≡ false → Told n (was o a d) x true (marks_of d words)
      told_here x is live = subst (λ (y : DriveAt). Told n (was o a d) y true (marks_of d words)) is (exact.told d (ours d (ap is_gone is ∙ live)))

      -- its line `sealed`
      sealed : (x : DriveAt) → drive_at b.at.drives.each d ≡ x → is_gone x ≡ false → is_sealed x ≡ false → Told n (was o a d) SealedDrive true (marks_of d words ++ Sealed ∷ []) → SealsDrive d b.at.drives c.at.drives
          → (ok : Bool) {mid : World} → Says (sealed_text d n (list_of o.plan)) ok mid c.world → Goes ok next_seal c.at → Speaks Other a.world (texts words) mid → Kept c.at c.world
      sealed x is live unsealed told m ok line goes spoke =
          let w : Word = record { drive = d; mark = Sealed } in
          let after : Exact o a c.at.drives next_seal (words ++ w ∷ []) =
          exact_push o a b.at.drives c.at.drives words w (Seals d) next_seal SealedDrive exact (ours d (ap is_gone is ∙ live)) m.each (on_seal SealedDrive (marks_of d words ++ w.mark ∷ []) told)
          (begun_same (Seals d) next_seal always seal_begun_on d)
          (order_step o a (Seals d) next_seal words w refl seal_later_on (λ v early. early) (seal_now n (length b.at.drives.each) d w refl refl) exact.order)
          (count_more o a b.at.drives c.at.drives words w refl fits.there (ap is_sealed is ∙ unsealed) m.each exact.count) in
          record {
            run = then_run run (seals_run d b.at.drives c.at.drives (ap is_gone is ∙ live) m);
            state = says w (Seals d) next_seal (sealed_text d n (list_of o.plan)) ok refl line goes exact after spoke;
          }

      sealed_aloud : (recs : List Rec) (gate : Gate) (kept : Bool) → drive_at b.at.drives.each d ≡ BegunDrive recs gate kept → SealedAloud o d recs b.at.drives c.at b.world c.world → Kept c.at c.world
      sealed_aloud recs gate kept is t = by t.came t.stands t.line
        where
          spoke : Speaks Other a.world (texts words) t.mid
          spoke = silent Other a.world (texts words) t.went (drive_silent d) (silent Other a.world (texts words) t.asked clock_silent speaks)

          few_here : length recs ≤ n
          few_here = subst (HasFew n) is (few d)

          whole : length recs ≡ n
          whole = let least : n ≤ length recs = subst (HasAtLeast n) is (fits.have d) in omega (arith, least, few_here)

          by : (came : Result Unit SealError) → SealStands d came b.at.drives c.at.drives → Says (seal_line d o.plan came) t.said t.mid c.world → Kept c.at c.world
          by (Ok u) m line = sealed (BegunDrive recs gate kept) is refl refl (told_sealed n (was o a d) recs (marks_of d words) whole (told_here (BegunDrive recs gate kept) is refl)) m t.said line t.goes spoke
          by (Err e) m line =
              loses (Seals d) next_seal d (seal_loss (list_of o.plan) e) (seal_line d o.plan (Err e)) t.said exact (ap is_gone is) (ap is_sealed is) m
              (on_seal Gone (marks_of d words ++ Lost (seal_loss (list_of o.plan) e) ∷ []) (told_lost n (was o a d) recs (seal_loss (list_of o.plan) e) (marks_of d words) few_here (told_here (BegunDrive recs gate kept) is refl)))
              seal_later_on (begun_same (Seals d) next_seal always seal_begun_on d) (seal_loss_line d o.plan e) line t.goes spoke

      seal_passed : Passes next_seal b.at.drives c.at b.world c.world → Kept c.at c.world
      seal_passed t = goes_on next_seal t.drives t.goes (exact_on (Seals d) next_seal exact always seal_begun_on seal_later_on) (since_same t.idle speaks)

      seal_turn : (x : DriveAt) → drive_at b.at.drives.each d ≡ x → SealTurn o d x b.at.drives c.at b.world c.world → Kept c.at c.world
      seal_turn (BegunDrive recs gate kept) is t = sealed_aloud recs gate kept is t
      seal_turn (Found recs) is t =
          let told = told_here (Found recs) is refl in
          sealed (Found recs) is refl refl (told_found n (was o a d) recs (marks_of d words) told.0 told.1) t.stands t.said t.line t.goes speaks
      seal_turn Fresh is t = absurd t
      seal_turn Gone is t = seal_passed t
      seal_turn SealedDrive is t = seal_passed t

    -- ---- the card is called clear

    module _ (over : (d : ℕ) → IsOver (drive_at b.at.drives.each d)) (exact : Exact o a b.at.drives Clears words) (speaks : Speaks Other a.world (texts words) b.world) where
      exact_end : Exact o a b.at.drives Ended words
      exact_end = exact_on Clears Ended exact always always (λ v early. tt)

      -- the run came to its end
      come_to_end : (sealed : ℕ) → c.at.drives ≡ b.at.drives → Ends (end_of sealed) c.at → Speaks Other a.world (texts words ++ clear_lines o.copies (length (sealed_in words))) c.world → Kept c.at c.world
      come_to_end sealed same ends spoke = record {
        run = subst (SameRun a.at.drives) (sym same) run;
        state = inl (stands c.at c.world Ended (end_of sealed) words ends.0 ends.1 (sound (nat_eq sealed 0)) (λ is_end d. subst (λ (x : Drives). IsOver (drive_at x.each d)) (sym same) (over d)) (subst (λ (x : Drives). Exact o a x Ended words) (sym same) exact_end)
            (said (nat_eq sealed 0)));
      }
        where
          sound : (none : Bool) → (if none then NoDrive else Finished) ≢ OutFailed
          sound true e = absurd (cc e)
          sound false e = absurd (cc e)

          said : (none : Bool) → Speaks Other a.world (all_lines (if none then NoDrive else Finished) words) c.world
          said true = spoke
          said false = spoke

      -- the line where it is due
      due_line : (due : Bool) → is_clear (count_sealed b.at.drives.each) o.copies ≡ due → clear_lines o.copies (length (sealed_in words)) ≡ (if due then clear_text (count_sealed b.at.drives.each) o.copies ∷ [] else [])
      due_line due is = ap (clear_lines o.copies) exact.count ∙ ap (λ (g : Bool). if g then clear_text (count_sealed b.at.drives.each) o.copies ∷ [] else []) is

      clear_turn : (due : Bool) → is_clear (count_sealed b.at.drives.each) o.copies ≡ due → c.at.drives ≡ b.at.drives → ClearTurn o.copies (count_sealed b.at.drives.each) due c.at b.world c.world → Kept c.at c.world
      clear_turn false is same t =
          come_to_end (count_sealed b.at.drives.each) same t.0
          (subst (λ (l : List (List ℕ)). Speaks Other a.world (texts words ++ l) c.world) (sym (due_line false is)) (subst (λ (l : List (List ℕ)). Speaks Other a.world l c.world) (sym (append-nil (texts words))) (since_same t.1 speaks)))
      clear_turn true is same t = by t.said t.line t.ends
        where
          by : (ok : Bool) → Says (clear_text (count_sealed b.at.drives.each) o.copies) ok b.world c.world → Ends (if ok then end_of (count_sealed b.at.drives.each) else OutFailed) c.at → Kept c.at c.world
          by true said ends =
              come_to_end (count_sealed b.at.drives.each) same ends
              (subst (λ (l : List (List ℕ)). Speaks Other a.world (texts words ++ l) c.world) (sym (due_line true is)) (aloud Other a.world (texts words) (clear_text (count_sealed b.at.drives.each) o.copies) said speaks))
          by false said ends = record {
            run = subst (SameRun a.at.drives) (sym same) run;
            state = inr (record { ended = ends.0; failed = ends.1; said = since_such so (failed Other a.world (texts words) (clear_text (count_sealed b.at.drives.each) o.copies) said speaks) });
          }
            where
              so : (L : List Event) → Stand L (texts words) ⊎ Stand L (texts words ++ clear_text (count_sealed b.at.drives.each) o.copies ∷ []) → SaysSome o a (Stand L) ⊎ SaysAll o a (Stand L)
              so L (inl unseen) = inl (record { words = words; are = some_words o a b.at.drives Clears words exact few; lines = unseen })
              so L (inr seen) = inr (record { words = words; are = all_words o a b.at.drives Clears words exact over; lines = subst (λ (l : List (List ℕ)). Stand L (texts words ++ l)) (sym (due_line true is)) seen })

  -- ---- any turn

  stays : (b c : Point) → c.at ≡ b.at → c.world ≡ b.world → Kept b.at b.world → Kept c.at c.world
  stays b c same idle k = subst (λ (w : World). Kept c.at w) (sym idle) (subst (λ (at : At). Kept at b.world) (sym same) k)

  module _ (b c : Point) (rules : IsRun o b.at) (rules_after : IsRun o c.at) (run : SameRun a.at.drives b.at.drives) (s : Standing b.at b.world) where
    exact_at : (phase : Phase) → b.at.phase ≡ phase → Exact o a b.at.drives phase s.words
    exact_at phase is = subst (λ (p : Phase). Exact o a b.at.drives p s.words) is s.exact

    fits_at : (phase : Phase) → b.at.phase ≡ phase → Fits o b.at.drives.each phase
    fits_at phase is = subst (Fits o b.at.drives.each) is rules.fits

    speaks_at : (phase : Phase) → b.at.phase ≡ phase → phase ≢ Ended → Speaks Other a.world (texts s.words) b.world
    speaks_at phase is more = subst (λ (r : Outcome). Speaks Other a.world (all_lines r s.words) b.world) (rules.outcome.1 (λ ended. more (sym is ∙ ended))) s.speaks

    acted : (phase : Phase) → b.at.phase ≡ phase → Acted o phase b.at c.at b.pool c.pool b.world c.world → Kept c.at c.world
    acted (Begins d) is t = begin_turn b c rules rules_after run s.words d (exact_at (Begins d) is) (speaks_at (Begins d) is (λ e. absurd (cc e))) (drive_at b.at.drives.each d) refl t
    acted (File i) is t = file_turn b c rules rules_after run s.words i (fits_at (File i) is).0 (exact_at (File i) is) (speaks_at (File i) is (λ e. absurd (cc e))) t
    acted (Copies i copy) is t = copy_turn b c rules rules_after run s.words i copy (fits_at (Copies i copy) is) (exact_at (Copies i copy) is) (speaks_at (Copies i copy) is (λ e. absurd (cc e))) t
    acted (Dates i x) is t = date_turn b c rules rules_after run s.words i x (exact_at (Dates i x) is) (speaks_at (Dates i x) is (λ e. absurd (cc e))) (other_listed o.listed i x) t
    acted (Records rec d) is t =
        record_turn b c rules rules_after run s.words rec d (sized_within o.plan rec.index rec.size (fits_at (Records rec d) is).sized) (exact_at (Records rec d) is) (speaks_at (Records rec d) is (λ e. absurd (cc e)))
        (due rec.index (drive_at b.at.drives.each d)) refl t
    acted (Seals d) is t = seal_turn b c rules rules_after run s.words d (fits_at (Seals d) is) (exact_at (Seals d) is) (speaks_at (Seals d) is (λ e. absurd (cc e))) (drive_at b.at.drives.each d) refl t
    acted Clears is t = clear_turn b c rules rules_after run s.words (fits_at Clears is) (exact_at Clears is) (speaks_at Clears is (λ e. absurd (cc e))) (is_clear (count_sealed b.at.drives.each) o.copies) refl t.0 t.1
    acted Ended is t = stays b c t.0 t.2 (record { run = run; state = inl s })

  pub turn_kept : (b c : Point) → IsRun o b.at → IsRun o c.at → Kept b.at b.world → Turned o b.at c.at b.pool c.pool b.world c.world → Kept c.at c.world
  turn_kept b c rules rules_after k t = by k.state
    where
      by : Standing b.at b.world ⊎ Broken b.at b.world → Kept c.at c.world
      by (inl s) = acted b c rules rules_after k.run s b.at.phase refl t
      by (inr broken) = let idle = subst (λ (p : Phase). Acted o p b.at c.at b.pool c.pool b.world c.world) broken.ended t in stays b c idle.0 idle.2 k

  -- what others did, if their lines are such
  pub beside_kept : (b c : Point) → ((line : List ℕ) → IsAboutNone a.at.drives line → Other line) → Kept b.at b.world → Beside o b c → Kept c.at c.world
  beside_kept b c such k t = subst (λ (at : At). Kept at c.world) (sym t.same) (record { run = k.run; state = by k.state })
    where
      others : (B : List Event) → AreBeside o b.at.drives B → Among Other [] (lines_in B)
      others B are = beside_others Other o b.at.drives (λ line none. such line (λ d of. none d (k.run.of_run d ∙ of))) B are

      more : (A B : List Event) (lines : List (List ℕ)) → AreBeside o b.at.drives B → Stand A lines → Stand (A ++ B) lines
      more A B lines are so = subst (Among Other lines) (sym (lines_append A B)) (among_more so (others B are))

      both : (A B : List Event) → AreBeside o b.at.drives B → SaysSome o a (Stand A) ⊎ SaysAll o a (Stand A) → SaysSome o a (Stand (A ++ B)) ⊎ SaysAll o a (Stand (A ++ B))
      both A B are (inl some) = inl (record { words = some.words; are = some.are; lines = more A B (texts some.words) are some.lines })
      both A B are (inr all) = inr (record { words = all.words; are = all.are; lines = more A B (texts all.words ++ clear_lines o.copies (length (sealed_in all.words))) are all.lines })

      by : Standing b.at b.world ⊎ Broken b.at b.world → Standing b.at c.world ⊎ Broken b.at c.world
      by (inl s) = inl (record { words = s.words; sound = s.sound; exact = s.exact; over = s.over; speaks = since_more s.speaks t.went (λ A B so on are. more A B (all_lines b.at.outcome s.words) are so) })
      by (inr broken) = inr (record { ended = broken.ended; failed = broken.failed; said = since_more broken.said t.went (λ A B so on are. both A B are so) })

  -- ---- as the run is made

  pub start_kept : Kept a.at a.world
  unfolding EachPair
  start_kept = record { run = same_run a.at.drives; state = inl (stands a.at a.world (Begins 0) Going [] start.phase going (λ e. absurd (cc e)) (λ end. absurd end) exact (speaks_none Other a.world)) }
    where
      going : a.at.outcome ≡ Going
      going = start.run.outcome.1 (λ ended. absurd (let never : Begins 0 ≡ Ended = sym start.phase ∙ ended in cc never))

      exact : Exact o a a.at.drives (Begins 0) []
      exact = record {
        ours = tt;
        told = λ d of. subst (λ (g : Bool). Told n (was o a d) (was o a d) g []) (sym (not_less d 0 (omega arith))) (told_first n (was o a d) (at_start o a.at start d of).live (unsealed start d));
        order = (tt, tt);
        count = sym (none_sealed a.at.drives.each (λ k. not_sealed (was o a k) (unsealed start k)));
      }
