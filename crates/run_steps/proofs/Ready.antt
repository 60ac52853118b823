-- A turn leaves the scratch files of the drives as the next one asks for them.
use Rattle.std.proofs.Common.{◌≡◌, ◌≢◌, ◌⊎◌, inl, inr, ℕ, suc, ◌<◌, ◌≤◌, Bool, true, false, List, [], ◌∷◌, ◌++◌, length, refl, sym, ap, ◌∙◌, subst, arith, get_or-set_other}
use Rattle.std.specs.Prelude.{Option, Some, None, is_some, option_map, if◌then◌else◌, nat_lt, Result, Ok, Err, is_ok}
use Rattle.std.specs.List.{slice_get}
use Rattle.std.proofs.lemmas.Bool.{cases_Bool, cases_eq, false≢true, ltb-true, ltb-false}
use Rattle.std.proofs.lemmas.List.{take_all}
use Rattle.crash_law.proofs.Safe.{of_here}
use Rattle.bay_core.specs.declared.event.Event.{Event}
use Rattle.bay_core.specs.Map.{Map, content}
use Rattle.bay_core.specs.Replay.{Device, Drive, is_on}
use Rattle.bay_core.specs.Went.{Went, Only}
use Rattle.bay_core.specs.World.{World, Steady}
use Rattle.block_pool.specs.Lent.{PoolState}
use Rattle.copy_plan.specs.declared.file.PlannedFile.{PlannedFile}
use Rattle.copy_plan.specs.Plan.{PlanValue}
use Rattle.digest_set.specs.declared.triple.Triple.{Triple}
use Rattle.digest_set.specs.Triple.{triple}
use Rattle.drive_journal.specs.declared.order.Listed.{Listed}
use Rattle.drive_journal.specs.declared.record.Gate.{Gate}
use Rattle.drive_journal.specs.declared.record.Rec.{Rec}
use Rattle.drive_journal.specs.Look.{next_gate}
use Rattle.fan_core.specs.Flags.{has, lowest}
use Rattle.fan_core.proofs.Rules.{none_lowest}
use Rattle.fan_copier.specs.declared.copy.FileCopy.{FileCopy}
use Rattle.fan_copier.specs.declared.turn.Turn.{Turn}
use Rattle.fan_copier.specs.declared.turn.Turn.TheVariants.{Going as CopyGoes, Dropped, Copied, SourceFailed as CardFailed, Changed as CardChanged, NoDrive as NoneLeft}
use Rattle.fan_copier.specs.Copying.{card_of, size_of, live_of, Copying, NoPart, PartBegins, PartIs}
use Rattle.fan_copier.specs.Keeping.{ReadsSame, KeepsTheRest}
use Rattle.fan_copier.specs.Reads.{AreAt}
use Rattle.fan_copier.specs.Turning.{Turned as CopyTurned, GoOn}
use Rattle.fan_copier.proofs.Following.{more_at}
use Rattle.fan_copier.proofs.Keeping.{copy_keeps, same_elsewhere}
use Rattle.fan_copier.proofs.Turns.{at_none}
use Rattle.read_back.specs.declared.back.ReadBackError.{ReadBackError}
use Rattle.recording.specs.Filing.{Cleans}
use Rattle.seal_step.specs.declared.error.SealError.{SealError}
use Rattle.run_state.specs.declared.phase.Phase.{Phase}
use Rattle.run_state.specs.declared.phase.Phase.TheVariants.{Begins, File, Copies, Dates, Records, Seals, Clears, Ended}
use Rattle.run_state.specs.Acts.{Says, Goes, Puts, MovesOrDrops, Passes, BeginTried, BeginTurn, Opened, FileTurn, copies_on, CopySettles, CopyActed, other_listed, DateTurn, RecordStands, RecordTurn, SealStands, SealTurn, is_clear, ClearTurn}
use Rattle.run_state.specs.Rules.{IsRun, Fits, FitsCopy, slots_in}
use Rattle.run_state.specs.Runs.{Point, Beside, Runs, starts, turns, beside}
use Rattle.run_state.specs.State.{Ordered, Drives, At, DriveAt, Gone, Fresh, Begun, Found, Sealed, Journaled, files_of, drive_at, is_of_run, due, keeps_part, count_sealed, after_begin, after_file, after_record, after_seal}
use Rattle.run_state.specs.Turn.{Acted}
use Rattle.run_steps.specs.Parts.{NoNew, KeepsPart, PartFits, CanKeep, IsTidy, AreTidy, AreBegun, BeingCopied, CameWhole, PartsAt, PartsReady}
use Rattle.run_steps.proofs.Telling.{Later, later_went, steady_back}
use Rattle.run_steps.proofs.Drives.{some_or_none, behind_last, is_due, none_not_some, of_run, one_file, begin_next, file_next, record_next, seal_next}
use Rattle.run_steps.proofs.Still.{said_same, asked_same, drive_same, same_idle, same_then, no_new_still, part_is_still, no_new_beside, can_still, tidy_still, whole_still, parts_still, same_blocks}
use Rattle.run_steps.proofs.Scratch.{begun_tidy, recorded_tidy, rejoined_tidy}

less_or_not : (a b : ℕ) → (a < b) ⊎ (b ≤ a)
less_or_not a b = elim (cases_Bool (nat_lt a b)) [
  | inl is ↦ inl (ltb-true a b is)
  | inr not_so ↦ inr (ltb-false a b not_so)
]

-- a file that is due on a drive
module _ (p : PlanValue) (k i : ℕ) (w : World) (x : DriveAt) (tidy : IsTidy p k w x) where
  at_due : (j : Journaled) → due i x ≡ Some j → NoNew k w × PartFits p k w j.recs j.kept
  at_due j is = subst (IsTidy p k w) (is_due i x j is).is tidy

  new_of_due : is_some (due i x) ≡ true → NoNew k w
  new_of_due some = elim (some_or_none (due i x)) [
    | inl found ↦ (at_due found.0 found.1).0
    | inr none ↦ absurd (none_not_some (due i x) none some)
  ]

  unkept_part : is_some (due i x) ≡ true → keeps_part (due i x) ≡ false → NoPart k w
  unkept_part some off = elim (some_or_none (due i x)) [
    | inl found ↦ let kept : found.0.kept ≡ false = ap keeps_part (sym found.1) ∙ off in subst (PartFits p k w found.0.recs) kept (at_due found.0 found.1).1
    | inr none ↦ absurd (none_not_some (due i x) none some)
  ]

  kept_part : (f : PlannedFile) → slice_get p.files i ≡ Some f → keeps_part (due i x) ≡ true → PartBegins k f.size w []
  kept_part f is on = elim (some_or_none (due i x)) [
    | inl found ↦
        let kept : found.0.kept ≡ true = ap keeps_part (sym found.1) ∙ on in
        let fits : KeepsPart p k w found.0.recs = subst (PartFits p k w found.0.recs) kept (at_due found.0 found.1).1 in
        λ m L h.
        let next = fits m L h in
        let same : next.0 ≡ f = one_file p.files i next.0 f (ap (slice_get p.files) (sym (is_due i x found.0 found.1).index) ∙ next.1) is in
        subst (λ (g : PlannedFile). PartBegins k g.size w []) same next.2 m L h
    | inr none ↦ absurd (false≢true (ap keeps_part (sym none) ∙ on))
  ]

module _ (o : Ordered) where
  -- ---- where a run goes on

  at_phase : (n : Point) (next : Phase) → n.at.phase ≡ next → PartsAt o next n.at.drives.each n.pool n.world → PartsReady o n
  at_phase n next is parts = subst (λ (x : Phase). PartsAt o x n.at.drives.each n.pool n.world) (sym is) parts

  ended : (n : Point) → n.at.phase ≡ Ended → PartsReady o n
  ended n is = at_phase n Ended is tt

  -- after a line
  after_line : (n : Point) (next : Phase) (line : List ℕ) (said : Bool) (mid : World) → IsRun o n.at → Says line said mid n.world → Goes said next n.at → PartsAt o next n.at.drives.each n.pool mid → PartsReady o n
  after_line n next line true mid run says goes parts =
      at_phase n next goes.0
      (parts_still o n.at.drives.each (λ k there. said_same line true says k) (later_went says.went) next n.pool n.pool (subst (Fits o n.at.drives.each) goes.0 run.fits) (same_blocks (slots_in next) n.pool) parts)
  after_line n next line false mid run says goes parts = ended n goes.0

  -- the same drives and the same outside
  module _ (n : Point) (each : List DriveAt) (w : World) (drives : n.at.drives.each ≡ each) (world : n.world ≡ w) where
    unmoved : (next : Phase) → n.at.phase ≡ next → PartsAt o next each n.pool w → PartsReady o n
    unmoved next is parts =
        at_phase n next is
        (subst (λ (l : List DriveAt). PartsAt o next l n.pool n.world) (sym drives) (subst (λ (v : World). PartsAt o next each n.pool v) (sym world) parts))

  -- ---- an act on one drive

  module _ (e : ℕ) (old new : List DriveAt) (w mid : World) (now : DriveAt) (puts : Puts e now old new) (same : (k : ℕ) → k ≢ e → ReadsSame k w mid) (tidy : IsTidy o.plan e mid now) where
    other_tidy : (k : ℕ) → k ≢ e → IsTidy o.plan k w (drive_at old k) → IsTidy o.plan k mid (drive_at new k)
    other_tidy k differ was = subst (IsTidy o.plan k mid) (sym (puts.others k differ)) (tidy_still o.plan k (drive_at old k) (λ there. same k differ) was)

    here_tidy : IsTidy o.plan e mid (drive_at new e)
    here_tidy = subst (IsTidy o.plan e mid) (sym puts.here) tidy

    tidy_at : (k : ℕ) → (k ≢ e → IsTidy o.plan k w (drive_at old k)) → IsTidy o.plan k mid (drive_at new k)
    tidy_at k was = elim (cases_eq k e) [
      | inl here ↦ subst (λ (j : ℕ). IsTidy o.plan j mid (drive_at new j)) (sym here) here_tidy
      | inr differ ↦ other_tidy k differ (was differ)
    ]

    other_can : (k : ℕ) → k ≢ e → CanKeep o.plan k w (drive_at old k) → CanKeep o.plan k mid (drive_at new k)
    other_can k differ was = subst (CanKeep o.plan k mid) (sym (puts.others k differ)) (can_still o.plan k (drive_at old k) (λ there. same k differ) was)

  -- ---- a drive is begun

  -- what is next, where the drives up to this one were begun
  begun_next : (w d : ℕ) (each : List DriveAt) (pool : PoolState) (v : World) → length each ≡ w → ((k : ℕ) → k < suc d → IsTidy o.plan k v (drive_at each k)) → ((k : ℕ) → suc d ≤ k → CanKeep o.plan k v (drive_at each k)) → PartsAt o (after_begin w d) each pool v
  begun_next w d each pool v count before still = elim (begin_next w d) [
    | inl more ↦ subst (λ (x : Phase). PartsAt o x each pool v) (sym more.1) (record { before = before; still = λ k high. still k (omega (arith, high)) })
    | inr last ↦ subst (λ (x : Phase). PartsAt o x each pool v) (sym last.1) (λ k. every k last.0)
  ]
    where
      every : (k : ℕ) → w ≤ suc d → IsTidy o.plan k v (drive_at each k)
      every k few = elim (less_or_not k (suc d)) [
        | inl low ↦ before k low
        | inr high ↦ subst (IsTidy o.plan k v) (sym (behind_last each k (omega (arith, count, few, high)))) tt
      ]

  -- one that is passed over
  begin_passed : (b n : Point) (d : ℕ) → AreBegun o d b.at.drives.each b.world → IsTidy o.plan d b.world (drive_at b.at.drives.each d) → Passes (after_begin (length b.at.drives.each) d) b.at.drives n.at b.world n.world → PartsReady o n
  begin_passed b n d parts here p =
      unmoved n b.at.drives.each b.world (ap (λ (x : Drives). x.each) p.drives) p.idle (after_begin (length b.at.drives.each) d) p.goes.0
      (begun_next (length b.at.drives.each) d b.at.drives.each n.pool b.world refl before (λ k high. parts.still k (omega (arith, high))))
    where
      before : (k : ℕ) → k < suc d → IsTidy o.plan k b.world (drive_at b.at.drives.each k)
      before k low = elim (cases_eq k d) [
        | inl same ↦ subst (λ (j : ℕ). IsTidy o.plan j b.world (drive_at b.at.drives.each j)) (sym same) here
        | inr differ ↦ parts.before k (omega (arith, low, differ))
      ]

  -- one that was begun, or lost
  begin_put : (b n : Point) (d : ℕ) (mid : World) (now : DriveAt) → AreBegun o d b.at.drives.each b.world → Puts d now b.at.drives.each n.at.drives.each → ((k : ℕ) → k ≢ d → ReadsSame k b.world mid) → IsTidy o.plan d mid now
      → PartsAt o (after_begin (length b.at.drives.each) d) n.at.drives.each n.pool mid
  begin_put b n d mid now parts puts same tidy =
      begun_next (length b.at.drives.each) d n.at.drives.each n.pool mid puts.count
      (λ k low. tidy_at d b.at.drives.each n.at.drives.each b.world mid now puts same tidy k (λ differ. parts.before k (omega (arith, low, differ))))
      (λ k high. other_can d b.at.drives.each n.at.drives.each b.world mid now puts same tidy k (λ is. absurd (omega (arith, high, is))) (parts.still k (omega (arith, high))))

  fresh_begun : (b n : Point) (d : ℕ) (ok : Bool) (mid : World) → AreBegun o d b.at.drives.each b.world → BeginTried o.plan d Fresh ok b.world mid → MovesOrDrops d ok (Begun [] (next_gate o.plan 0) false) b.at.drives n.at.drives
      → PartsAt o (after_begin (length b.at.drives.each) d) n.at.drives.each n.pool mid
  fresh_begun b n d true mid parts tried stands = begin_put b n d mid (Begun [] (next_gate o.plan 0) false) parts stands.each (drive_same d tried.0.went) (begun_tidy d tried.0.went o.plan (next_gate o.plan 0) tried.2)
  fresh_begun b n d false mid parts tried stands = begin_put b n d mid Gone parts stands.each (drive_same d tried.0.went) tt

  begun_again : (b n : Point) (d : ℕ) (recs : List Rec) (gate : Gate) (kept ok : Bool) (mid : World) → IsRun o b.at → drive_at b.at.drives.each d ≡ Begun recs gate kept → AreBegun o d b.at.drives.each b.world → BeginTried o.plan d (Begun recs gate kept) ok b.world mid
      → MovesOrDrops d ok (Begun recs gate kept) b.at.drives n.at.drives → PartsAt o (after_begin (length b.at.drives.each) d) n.at.drives.each n.pool mid
  begun_again b n d recs gate kept true mid run is parts tried stands =
      let can : CanKeep o.plan d b.world (Begun recs gate kept) = subst (CanKeep o.plan d b.world) is (parts.still d (omega arith)) in
      begin_put b n d mid (Begun recs gate kept) parts stands.each (drive_same d tried.0.went) (rejoined_tidy o.plan run.plan d recs gate tried.0.went kept tried.2 can)
  begun_again b n d recs gate kept false mid run is parts tried stands = begin_put b n d mid Gone parts stands.each (drive_same d tried.0.went) tt

  begins_ready : (b n : Point) (d : ℕ) (x : DriveAt) → IsRun o b.at → IsRun o n.at → drive_at b.at.drives.each d ≡ x → AreBegun o d b.at.drives.each b.world → BeginTurn o d x b.at.drives n.at b.world n.world → PartsReady o n
  begins_ready b n d Gone run after is parts turn = begin_passed b n d parts (subst (IsTidy o.plan d b.world) (sym is) tt) turn
  begins_ready b n d (Found recs) run after is parts turn = begin_passed b n d parts (subst (IsTidy o.plan d b.world) (sym is) tt) turn
  begins_ready b n d Sealed run after is parts turn = begin_passed b n d parts (subst (IsTidy o.plan d b.world) (sym is) tt) turn
  begins_ready b n d Fresh run after is parts turn =
      after_line n (after_begin (length b.at.drives.each) d) _ turn.said turn.mid after turn.line turn.goes (fresh_begun b n d turn.ok turn.mid parts turn.tried turn.stands)
  begins_ready b n d (Begun recs gate kept) run after is parts turn =
      after_line n (after_begin (length b.at.drives.each) d) _ turn.said turn.mid after turn.line turn.goes (begun_again b n d recs gate kept turn.ok turn.mid run is parts turn.tried turn.stands)

  -- ---- the drives of a file are chosen

  -- every drive is as between two files: another file, or the seals
  tidy_next : (n i : ℕ) (each : List DriveAt) (pool : PoolState) (w : World) → AreTidy o each w → PartsAt o (after_file n i) each pool w
  tidy_next n i each pool w tidy = elim (file_next n i) [
    | inl more ↦ subst (λ (x : Phase). PartsAt o x each pool w) (sym more.1) tidy
    | inr last ↦ subst (λ (x : Phase). PartsAt o x each pool w) (sym last.1) tidy
  ]

  opened : (b n : Point) (i : ℕ) → AreTidy o b.at.drives.each b.world → Opened o i b.at.drives n.at b.world n.world → PartsReady o n
  opened b n i tidy a =
      unmoved n b.at.drives.each b.world (ap (λ (x : Drives). x.each) a.drives) a.idle (Copies i a.copy) a.goes.0 (record {
        file = a.file;
        is_file = a.is_file;
        bytes = [];
        copying = a.opens.copying n.pool b.world
            (λ k live off. unkept_part o.plan k i b.world (drive_at b.at.drives.each k) (tidy k) (sym (a.opens.live k) ∙ live) (sym (a.opens.kept k) ∙ off))
            (λ k on. kept_part o.plan k i b.world (drive_at b.at.drives.each k) (tidy k) a.file a.is_file (sym (a.opens.kept k) ∙ on));
        card = λ m steady. at_none (content m a.file.path) 0;
        no_new = λ k some. new_of_due o.plan k i b.world (drive_at b.at.drives.each k) (tidy k) some;
        others = λ k none. tidy k;
      })

  file_ready : (b n : Point) (i : ℕ) → AreTidy o b.at.drives.each b.world → FileTurn o i b.at.drives n.at b.world n.world → PartsReady o n
  file_ready b n i tidy (inl a) = opened b n i tidy a
  file_ready b n i tidy (inr (none, p)) =
      unmoved n b.at.drives.each b.world (ap (λ (x : Drives). x.each) p.drives) p.idle (after_file (files_of o.plan) i) p.goes.0 (tidy_next (files_of o.plan) i b.at.drives.each n.pool b.world tidy)

  -- ---- a file is copied

  module _ (b n : Point) (i : ℕ) (copy : FileCopy) (fits : FitsCopy o b.at.drives.each i copy) (after : IsRun o n.at) (c : BeingCopied o i copy b.at.drives.each b.pool b.world) (a : CopyActed o i copy b.at.drives n.at b.pool n.pool b.world n.world) where
    rest : KeepsTheRest (card_of copy) (live_of copy) b.world a.mid
    rest = copy_keeps (card_of copy) (live_of copy) a.file.path b.world a.mid a.touches

    -- the other drives, and the files that wait for their names, after the calls of the turn
    mid_others : (k : ℕ) → due i (drive_at b.at.drives.each k) ≡ None → IsTidy o.plan k a.mid (drive_at b.at.drives.each k)
    mid_others k none = tidy_still o.plan k (drive_at b.at.drives.each k) (λ there. rest.drives k (fits.live k ∙ ap is_some none)) (c.others k none)

    mid_new : (k : ℕ) → is_some (due i (drive_at b.at.drives.each k)) ≡ true → NoNew k a.mid
    mid_new k some = no_new_beside k (rest.beside k) (c.no_new k some)

    same_file : c.file ≡ a.file
    same_file = one_file o.plan.files i c.file a.file c.is_file a.is_file

    so_far : (m : Map) → Steady b.world o.source m → AreAt (content m a.file.path) 0 c.bytes
    so_far m steady = subst (λ (f : PlannedFile). AreAt (content m f.path) 0 c.bytes) same_file (c.card m steady)

    -- a card that is steady after the turn was so before it
    steady_card : (m : Map) → Steady a.mid o.source m → Steady b.world o.source m
    steady_card m steady = steady_back o.source m (later_went a.touches) steady

    steady_copied : (m : Map) → Steady b.world o.source m → Steady b.world (card_of copy) m
    steady_copied m steady = subst (λ (s : ℕ). Steady b.world s m) (sym fits.card) steady

    -- the copy goes on with these bytes more, to the same drives
    goes_on : (given : List ℕ) (pool : PoolState) → Copying a.next pool a.mid (c.bytes ++ given) → ((m : Map) → Steady b.world (card_of copy) m → AreAt (content m a.file.path) (length c.bytes) given) → BeingCopied o i a.next b.at.drives.each pool a.mid
    goes_on given pool copying card = record {
      file = a.file;
      is_file = a.is_file;
      bytes = c.bytes ++ given;
      copying = copying;
      card = λ m steady. let was = steady_card m steady in more_at (content m a.file.path) c.bytes given (so_far m was) (card m (steady_copied m was));
      no_new = mid_new;
      others = mid_others;
    }

    -- a drive was dropped
    module _ (e : ℕ) (puts : Puts e Gone b.at.drives.each n.at.drives.each) where
      gone_due : (k : ℕ) → k ≡ e → due i (drive_at n.at.drives.each k) ≡ None
      gone_due k same = ap (λ (j : ℕ). due i (drive_at n.at.drives.each j)) same ∙ ap (due i) puts.here

      due_was : (k : ℕ) → k ≢ e → due i (drive_at n.at.drives.each k) ≡ due i (drive_at b.at.drives.each k)
      due_was k differ = ap (due i) (puts.others k differ)

      gone_tidy : (k : ℕ) → k ≡ e → IsTidy o.plan k a.mid (drive_at n.at.drives.each k)
      gone_tidy k same = subst (IsTidy o.plan k a.mid) (sym (ap (λ (j : ℕ). drive_at n.at.drives.each j) same ∙ puts.here)) tt

      without : (pool : PoolState) → BeingCopied o i a.next b.at.drives.each pool a.mid → BeingCopied o i a.next n.at.drives.each pool a.mid
      without pool g = record {
        file = g.file;
        is_file = g.is_file;
        bytes = g.bytes;
        copying = g.copying;
        card = g.card;
        no_new = λ k some. elim (cases_eq k e) [
          | inl same ↦ absurd (none_not_some (due i (drive_at n.at.drives.each k)) (gone_due k same) some)
          | inr differ ↦ g.no_new k (ap is_some (sym (due_was k differ)) ∙ some)
        ];
        others = λ k none. elim (cases_eq k e) [
          | inl same ↦ gone_tidy k same
          | inr differ ↦ subst (IsTidy o.plan k a.mid) (sym (puts.others k differ)) (g.others k (sym (due_was k differ) ∙ none))
        ];
      }

      -- no drive of the copy is left
      none_left : GoOn (Dropped e) (live_of copy) (live_of a.next) → lowest (live_of a.next) ≡ None → AreTidy o n.at.drives.each a.mid
      none_left go none = λ k. elim (cases_eq k e) [
        | inl same ↦ gone_tidy k same
        | inr differ ↦ subst (IsTidy o.plan k a.mid) (sym (puts.others k differ)) (mid_others k (off k differ))
      ]
        where
          off : (k : ℕ) → k ≢ e → due i (drive_at b.at.drives.each k) ≡ None
          off k differ = elim (some_or_none (due i (drive_at b.at.drives.each k))) [
            | inl found ↦
                let live : has (live_of copy) k ≡ true = fits.live k ∙ ap is_some found.1 in
                let still : has (live_of a.next) k ≡ true = ap (λ (set : List Bool). has set k) go.1 ∙ (get_or-set_other (live_of copy) e k false false differ ∙ live) in
                absurd (false≢true (sym (none_lowest (live_of a.next) none k) ∙ still))
            | inr none ↦ none
          ]

      none_lowest_of : is_some (lowest (live_of a.next)) ≡ false → lowest (live_of a.next) ≡ None
      none_lowest_of off = elim (some_or_none (lowest (live_of a.next))) [
        | inl found ↦ absurd (false≢true (sym off ∙ ap is_some found.1))
        | inr none ↦ none
      ]

      abbrev chosen : Bool → Phase
      chosen left = if left then Copies i a.next else after_file (files_of o.plan) i

      dropped_on : GoOn (Dropped e) (live_of copy) (live_of a.next) → BeingCopied o i a.next b.at.drives.each a.between a.mid → (said : Bool) (line : List ℕ) → Says line said a.mid n.world → Goes said (copies_on (files_of o.plan) i a.next) n.at → PartsReady o n
      dropped_on go g false line says goes = ended n goes.0
      dropped_on go g true line says goes = elim (cases_Bool (is_some (lowest (live_of a.next)))) [
        | inl left ↦
            let next : n.at.phase ≡ Copies i a.next = goes.0 ∙ ap chosen left in
            after_line n (Copies i a.next) line true a.mid after says (next, goes.1) (subst (λ (p : PoolState). BeingCopied o i a.next n.at.drives.each p a.mid) (sym (a.same_pool next)) (without a.between g))
        | inr none ↦
            let next : n.at.phase ≡ after_file (files_of o.plan) i = goes.0 ∙ ap chosen none in
            after_line n (after_file (files_of o.plan) i) line true a.mid after says (next, goes.1) (tidy_next (files_of o.plan) i n.at.drives.each n.pool a.mid (none_left go (none_lowest_of none)))
      ]

    -- every byte was copied
    copied : (t : Triple) → length c.bytes ≡ size_of copy → t ≡ triple c.bytes → ((m : Map) → Steady b.world (card_of copy) m → length (content m a.file.path) ≤ size_of copy) → ((k : ℕ) → has (live_of copy) k ≡ true → PartIs k a.mid c.bytes) → CameWhole o i t 0 b.at.drives.each a.mid
    copied t long is short parts = record {
      file = a.file;
      is_file = a.is_file;
      bytes = c.bytes;
      sized = long ∙ size_is;
      digests = is;
      card = λ m steady.
          let was = steady_card m steady in
          let few = short m (steady_copied m was) in
          sym (so_far m was ∙ take_all (length c.bytes) (content m a.file.path) (omega (arith, long, few)));
      parts = λ k from some. (mid_new k some, parts k (fits.live k ∙ some));
      others = λ k out. mid_others k (out (omega arith));
    }
      where
        size_is : size_of copy ≡ a.file.size
        size_is = let both : Some (size_of copy) ≡ Some a.file.size = sym fits.sized ∙ ap (option_map (λ (f : PlannedFile). f.size)) a.is_file in cc both

    copy_came : (came : Turn) → GoOn came (live_of copy) (live_of a.next) → CopyTurned a.file.path copy a.next a.between b.world a.mid c.bytes came → CopySettles (files_of o.plan) i came a.next b.at.drives n.at a.mid n.world → PartsReady o n
    copy_came CopyGoes go t settles =
        unmoved n b.at.drives.each a.mid (ap (λ (x : Drives). x.each) settles.0) settles.2 (Copies i a.next) settles.1.0
        (subst (λ (p : PoolState). BeingCopied o i a.next b.at.drives.each p a.mid) (sym (a.same_pool settles.1.0)) (goes_on t.given a.between t.came t.card))
    copy_came (Dropped e) go t settles = dropped_on e settles.drops.each go (goes_on t.given a.between t.came.1 t.card) settles.said _ settles.line settles.goes
    copy_came (Copied digests) go t settles =
        unmoved n b.at.drives.each a.mid (ap (λ (x : Drives). x.each) settles.0) settles.2 (Dates i digests) settles.1.0 (copied digests t.came.1 t.came.2 t.card t.came.3)
    copy_came CardFailed go t settles = ended n settles.1.0
    copy_came (CardChanged listed read) go t settles = ended n settles.1.0
    copy_came NoneLeft go t settles = absurd settles

    copy_ready : PartsReady o n
    copy_ready = copy_came a.came a.go_on (a.turned c.bytes c.copying) a.settles

  -- ---- the moment of a file

  date_ready : (b n : Point) (i : ℕ) (t : Triple) (listed : Option Listed) → CameWhole o i t 0 b.at.drives.each b.world → DateTurn o i t listed b.at.drives n.at b.world n.world → PartsReady o n
  date_ready b n i t None c a =
      let moved = whole_still o b.at.drives.each (λ k there. asked_same a.asked k) (later_went a.asked) i t 0 c in
      unmoved n b.at.drives.each n.world (ap (λ (x : Drives). x.each) a.drives) refl _ a.goes.0 moved
  date_ready b n i t (Some l) c a = ended n a.1.0

  -- ---- a file is recorded

  record_next_parts : (w n : ℕ) (rec : Rec) (d : ℕ) (each : List DriveAt) (pool : PoolState) (v : World) → length each ≡ w → CameWhole o rec.index rec.triple (suc d) each v → PartsAt o (after_record w n rec d) each pool v
  record_next_parts w n rec d each pool v count c = elim (record_next w n rec d) [
    | inl more ↦ subst (λ (x : Phase). PartsAt o x each pool v) (sym more.1) c
    | inr last ↦
        subst (λ (x : Phase). PartsAt o x each pool v) (sym last.1)
        (tidy_next n rec.index each pool v (λ k. c.others k (λ high. let few = last.0 in ap (due rec.index) (behind_last each k (omega (arith, count, few, high))))))
  ]

  -- a drive on which the file is not due
  record_passed : (b n : Point) (rec : Rec) (d : ℕ) → due rec.index (drive_at b.at.drives.each d) ≡ None → CameWhole o rec.index rec.triple d b.at.drives.each b.world → Passes (after_record (length b.at.drives.each) (files_of o.plan) rec d) b.at.drives n.at b.world n.world → PartsReady o n
  record_passed b n rec d none c p =
      unmoved n b.at.drives.each b.world (ap (λ (x : Drives). x.each) p.drives) p.idle (after_record (length b.at.drives.each) (files_of o.plan) rec d) p.goes.0
      (record_next_parts (length b.at.drives.each) (files_of o.plan) rec d b.at.drives.each n.pool b.world refl (record {
        file = c.file;
        is_file = c.is_file;
        bytes = c.bytes;
        sized = c.sized;
        digests = c.digests;
        card = c.card;
        parts = λ k high some. c.parts k (omega (arith, high)) some;
        others = λ k out. c.others k (λ high. by k high out);
      }))
    where
      by : (k : ℕ) → d ≤ k → (suc d ≤ k → due rec.index (drive_at b.at.drives.each k) ≡ None) → due rec.index (drive_at b.at.drives.each k) ≡ None
      by k high out = elim (cases_eq k d) [
        | inl same ↦ ap (λ (j : ℕ). due rec.index (drive_at b.at.drives.each j)) same ∙ none
        | inr differ ↦ out (omega (arith, high, differ))
      ]

  -- one on which it was recorded, or that was lost
  record_put : (b : Point) (rec : Rec) (d : ℕ) (mid : World) (now : DriveAt) (new : List DriveAt) → CameWhole o rec.index rec.triple d b.at.drives.each b.world → Puts d now b.at.drives.each new → Later b.world mid → ((k : ℕ) → k ≢ d → ReadsSame k b.world mid) → IsTidy o.plan d mid now
      → CameWhole o rec.index rec.triple (suc d) new mid
  record_put b rec d mid now new c puts later same tidy = record {
    file = c.file;
    is_file = c.is_file;
    bytes = c.bytes;
    sized = c.sized;
    digests = c.digests;
    card = λ m steady. c.card m (steady_back o.source m later steady);
    parts = λ k high some.
        let differ : k ≢ d = λ is. absurd (omega (arith, high, is)) in
        let h = c.parts k (omega (arith, high)) (ap (λ (x : DriveAt). is_some (due rec.index x)) (sym (puts.others k differ)) ∙ some) in
        (no_new_still k (same k differ) h.0, part_is_still k (same k differ) c.bytes h.1);
    others = λ k out. tidy_at d b.at.drives.each new b.world mid now puts same tidy k
        (λ differ. c.others k (λ high. ap (due rec.index) (sym (puts.others k differ)) ∙ out (omega (arith, high, differ))));
  }

  record_came : (b : Point) (new : Drives) (rec : Rec) (d : ℕ) (was : Journaled) (came : Result Gate ReadBackError) (mid : World) {P : List Event → Type 0} → CameWhole o rec.index rec.triple d b.at.drives.each b.world → is_some (due rec.index (drive_at b.at.drives.each d)) ≡ true → Went (Only (Drive d)) P b.world mid → Cleans d (is_ok came) b.world mid
      → RecordStands d was.recs rec came b.at.drives new → CameWhole o rec.index rec.triple (suc d) new.each mid
  record_came b new rec d was (Ok next) mid c some went clean stands =
      record_put b rec d mid (Begun (was.recs ++ rec ∷ []) next false) new.each c stands.each (later_went went) (drive_same d went) (recorded_tidy d went o.plan (was.recs ++ rec ∷ []) next clean (c.parts d (omega arith) some).0)
  record_came b new rec d was (Err x) mid c some went clean stands = record_put b rec d mid Gone new.each c stands.each (later_went went) (drive_same d went) tt

  record_ready : (b n : Point) (rec : Rec) (d : ℕ) (was : Option Journaled) → IsRun o n.at → due rec.index (drive_at b.at.drives.each d) ≡ was → CameWhole o rec.index rec.triple d b.at.drives.each b.world → RecordTurn o rec d was b.at.drives n.at b.world n.world → PartsReady o n
  record_ready b n rec d None after is c p = record_passed b n rec d is c p
  record_ready b n rec d (Some was) after is c a =
      let w = length b.at.drives.each in
      after_line n (after_record w (files_of o.plan) rec d) _ a.said a.mid after a.line a.goes
      (record_next_parts w (files_of o.plan) rec d n.at.drives.each n.pool a.mid (count a.came a.stands) (record_came b n.at.drives rec d was a.came a.mid c (ap is_some is) a.went a.clean a.stands))
    where
      count : (came : Result Gate ReadBackError) → RecordStands d was.recs rec came b.at.drives n.at.drives → length n.at.drives.each ≡ length b.at.drives.each
      count (Ok next) stands = stands.each.count
      count (Err x) stands = stands.each.count

  -- ---- a drive is sealed

  seal_next_parts : (w d : ℕ) (each : List DriveAt) (pool : PoolState) (v : World) → AreTidy o each v → PartsAt o (after_seal w d) each pool v
  seal_next_parts w d each pool v tidy = elim (seal_next w d) [
    | inl more ↦ subst (λ (x : Phase). PartsAt o x each pool v) (sym more.1) tidy
    | inr last ↦ subst (λ (x : Phase). PartsAt o x each pool v) (sym last.1) tt
  ]

  seal_put : (b : Point) (d : ℕ) (mid : World) (now : DriveAt) (new : List DriveAt) → AreTidy o b.at.drives.each b.world → Puts d now b.at.drives.each new → ((k : ℕ) → k ≢ d → ReadsSame k b.world mid) → IsTidy o.plan d mid now → AreTidy o new mid
  seal_put b d mid now new all puts same tidy = λ k. tidy_at d b.at.drives.each new b.world mid now puts same tidy k (λ differ. all k)

  seal_came : (b : Point) (new : Drives) (d : ℕ) (came : Result Unit SealError) (mid : World) → AreTidy o b.at.drives.each b.world → ((k : ℕ) → k ≢ d → ReadsSame k b.world mid) → SealStands d came b.at.drives new → AreTidy o new.each mid
  seal_came b new d (Ok done) mid all same stands = seal_put b d mid Sealed new.each all stands.each same tt
  seal_came b new d (Err x) mid all same stands = seal_put b d mid Gone new.each all stands.each same tt

  seal_ready : (b n : Point) (d : ℕ) (x : DriveAt) → IsRun o n.at → AreTidy o b.at.drives.each b.world → SealTurn o d x b.at.drives n.at b.world n.world → PartsReady o n
  seal_ready b n d Gone after all p =
      unmoved n b.at.drives.each b.world (ap (λ (x : Drives). x.each) p.drives) p.idle (after_seal (length b.at.drives.each) d) p.goes.0 (seal_next_parts (length b.at.drives.each) d b.at.drives.each n.pool b.world all)
  seal_ready b n d Sealed after all p =
      unmoved n b.at.drives.each b.world (ap (λ (x : Drives). x.each) p.drives) p.idle (after_seal (length b.at.drives.each) d) p.goes.0 (seal_next_parts (length b.at.drives.each) d b.at.drives.each n.pool b.world all)
  seal_ready b n d Fresh after all never = absurd never
  seal_ready b n d (Found recs) after all a =
      after_line n (after_seal (length b.at.drives.each) d) _ a.said b.world after a.line a.goes
      (seal_next_parts (length b.at.drives.each) d n.at.drives.each n.pool b.world (seal_put b d b.world Sealed n.at.drives.each all a.stands.each (λ k differ. same_idle refl k) tt))
  seal_ready b n d (Begun recs gate kept) after all a =
      after_line n (after_seal (length b.at.drives.each) d) _ a.said a.mid after a.line a.goes
      (seal_next_parts (length b.at.drives.each) d n.at.drives.each n.pool a.mid (seal_came b n.at.drives d a.came a.mid all (λ k differ. same_then k (asked_same a.asked k) (drive_same d a.went k differ)) a.stands))

  clear_ready : (n : Point) (required sealed : ℕ) (due : Bool) (w : World) → ClearTurn required sealed due n.at w n.world → PartsReady o n
  clear_ready n required sealed true w a = ended n a.ends.0
  clear_ready n required sealed false w a = ended n a.0.0

  -- ---- any number of turns

  turn_ready : (b n : Point) (phase : Phase) → b.at.phase ≡ phase → IsRun o b.at → IsRun o n.at → Fits o b.at.drives.each phase → PartsAt o phase b.at.drives.each b.pool b.world → Acted o phase b.at n.at b.pool n.pool b.world n.world → PartsReady o n
  turn_ready b n (Begins d) is run after fits parts t = begins_ready b n d (drive_at b.at.drives.each d) run after refl parts t
  turn_ready b n (File i) is run after fits parts t = file_ready b n i parts t
  turn_ready b n (Copies i copy) is run after fits parts t = copy_ready b n i copy fits after parts t
  turn_ready b n (Dates i t) is run after fits parts a = date_ready b n i t (other_listed o.listed i t) parts a
  turn_ready b n (Records rec d) is run after fits parts t = record_ready b n rec d (due rec.index (drive_at b.at.drives.each d)) after refl parts t
  turn_ready b n (Seals d) is run after fits parts t = seal_ready b n d (drive_at b.at.drives.each d) after parts t
  turn_ready b n Clears is run after fits parts t = clear_ready n o.copies (count_sealed b.at.drives.each) (is_clear (count_sealed b.at.drives.each) o.copies) b.world t.1
  turn_ready b n Ended is run after fits parts t = ended n (ap (λ (x : At). x.phase) t.0 ∙ is)

  -- a drive of the run is called by no other
  pub off_beside : (b n : Point) → Beside o b n → (k : ℕ) → is_of_run b.at.drives k ≡ true → ReadsSame k b.world n.world
  off_beside b n x k there = same_elsewhere k (λ y on. not_here y (on k there)) x.went
    where
      not_here : (y : Device) → y ≢ Drive k → is_on k y ≡ false
      not_here y off = elim (cases_Bool (is_on k y)) [
        | inl here ↦ absurd (off (of_here k y here))
        | inr out ↦ out
      ]

  beside_ready : (b n : Point) → IsRun o b.at → PartsReady o b → Beside o b n → PartsReady o n
  beside_ready b n run parts x =
      let still = parts_still o b.at.drives.each (λ k there. off_beside b n x k (of_run b.at.drives k there)) (later_went x.went) b.at.phase b.pool n.pool run.fits x.blocks parts in
      subst (λ (t : At). PartsAt o t.phase t.drives.each n.pool n.world) (sym x.same) still

  pub runs_ready : ((a b : Point) → IsRun o a.at → Runs o a b → IsRun o b.at) → (a b : Point) → IsRun o a.at → PartsReady o a → Runs o a b → PartsReady o b
  runs_ready rules a b run parts starts = parts
  runs_ready rules a b run parts (turns {b = x} {c = y} so_far t) =
      let mid = rules a x run so_far in
      turn_ready x y x.at.phase refl mid (rules a y run (turns so_far t)) mid.fits (runs_ready rules a x run parts so_far) t
  runs_ready rules a b run parts (beside {b = x} {c = y} so_far others) = beside_ready x y (rules a x run so_far) (runs_ready rules a x run parts so_far) others
