-- The copies of a run go at the pace of the window.
use Rattle.std.proofs.Common.{◌≡◌, inl, inr, ℕ, suc, Bool, true, false, cond, List, [], ◌∷◌, ◌++◌, refl, sym, ap, ◌∙◌, subst, append_assoc, append-nil}
use Rattle.std.specs.Prelude.{not, ◌&&◌, nat_lt, if◌then◌else◌, Option, Some, None, is_some}
use Rattle.std.specs.List.{slice_get}
use Rattle.std.proofs.lemmas.Bool.{cases_Bool}
use Rattle.std.proofs.lemmas.List.Elements.{filter-append}
use Rattle.bay_core.specs.declared.event.Event.{Event}
use Rattle.bay_core.specs.declared.event.Event.TheVariants.{SourceRead, DriveRead, Write, Pick, Say}
use Rattle.bay_core.specs.Replay.{Device, Output, Clock, device_of, is_on}
use Rattle.bay_core.specs.World.{World}
use Rattle.bay_core.specs.Went.{AllOn, Only, Went}
use Rattle.block_pool.specs.Lent.{PoolState}
use Rattle.digest_set.specs.declared.triple.Triple.{Triple}
use Rattle.copy_plan.specs.declared.file.PlannedFile.{PlannedFile}
use Rattle.copy_plan.specs.Plan.{IsPlan}
use Rattle.drive_journal.specs.declared.order.Listed.{Listed}
use Rattle.drive_journal.specs.declared.record.Rec.{Rec}
use Rattle.fan_core.specs.Flags.{lowest}
use Rattle.fan_copier.specs.declared.copy.FileCopy.{FileCopy}
use Rattle.fan_copier.specs.declared.turn.Turn.{Turn}
use Rattle.fan_copier.specs.declared.turn.Turn.TheVariants.{Going, Dropped, Copied, SourceFailed, Changed, NoDrive}
use Rattle.fan_copier.specs.Copying.{card_of, size_of, live_of, standing, Copying}
use Rattle.fan_copier.specs.Follows.{OneTurn, FollowsWindow, given_in, stands_after}
use Rattle.fan_copier.specs.Keeping.{ReadsSame}
use Rattle.fan_copier.specs.Standing.{Standing}
use Rattle.fan_copier.specs.Turning.{doing, StandsAfter, TurnCalls, IsCopyCall, AreCopyCalls, Turned as CopyTurned}
use Rattle.fan_copier.proofs.Following.{given_more, stands_more, follows_none, follows_more, some_live}
use Rattle.fan_copier.proofs.Keeping.{copying_stays, same_elsewhere}
use Rattle.fan_copier.proofs.Leaving.{turn_copy}
use Rattle.run_state.specs.declared.phase.Phase.{Phase}
use Rattle.run_state.specs.declared.phase.Phase.TheVariants.{Begins, File, Copies, Dates, Records, Seals, Clears, Ended}
use Rattle.run_state.specs.Acts.{Goes, BeginTurn, FileTurn, Opened, copies_on, CopySettles, CopyActed, other_listed, DateTurn, RecordTurn, SealTurn, is_clear, ClearTurn}
use Rattle.run_state.specs.Runs.{Point, Alone, still, turned}
use Rattle.run_state.specs.State.{Ordered, DriveAt, Gone, Fresh, Begun, Found, Sealed, Journaled, files_of, drive_at, count_sealed, due, keeps_part, after_file}
use Rattle.run_state.specs.Turn.{Acted}
use Rattle.run_state.proofs.Turns.{alone_runs}
use Rattle.run_reads.specs.Parts.{Starts, PartAt}
use Rattle.run_reads.proofs.Since.{Since, since_none, since_more, since_such, since_same, since_at}
use Rattle.run_reads.proofs.Following.{ComesNext, turn_comes}
use Rattle.run_reads.proofs.Places.{some_same, none_of_due, part_of_due}
use Rattle.run_reads.proofs.Standing.{CoreAt, runs_core, start_core}
use Rattle.run_pace.specs.Pace.{IsCopyBegin, IsPaced, ends, between, copies, is_line, without_lines}
use Rattle.run_pace.proofs.Keeping.{AllKeep, kept_due, alone_keep}
use Rattle.run_pace.proofs.Quiet.{NoActs, output_no_acts, clock_no_acts, drive_no_acts, begin_leaves, seal_no_acts, record_no_acts}

-- ---- lines

unlined_then : (A B : List Event) → without_lines (A ++ B) ≡ without_lines A ++ without_lines B
unlined_then A B = filter-append (λ e. not (is_line e)) A B

-- a copy says none
copy_no_line : (s : ℕ) (path : List ℕ) (e : Event) → IsCopyCall s path e → is_line e ≡ false
copy_no_line s path (Pick p) is = refl
copy_no_line s path (SourceRead n read at want got) is = refl
copy_no_line s path (DriveRead d read at want got) is = refl
copy_no_line s path (Write d written at bytes ok) is = refl
copy_no_line s path e is = absurd is

copy_unlined : (s : ℕ) (path : List ℕ) (L : List Event) → AreCopyCalls s path L → without_lines L ≡ L
unfolding AreCopyCalls
copy_unlined s path [] are = refl
copy_unlined s path (e ∷ L) are = ap (λ b. cond (not b) (e ∷ without_lines L) (without_lines L)) (copy_no_line s path e are.0) ∙ ap (λ (l : List Event). e ∷ l) (copy_unlined s path L are.1)

output_line : (e : Event) → device_of e ≡ Output → is_line e ≡ true
output_line (Say line ok) on = refl
output_line e on = absurd (cc on)

output_unlined : (L : List Event) → AllOn (Only Output) L → without_lines L ≡ []
unfolding AllOn
output_unlined [] on = refl
output_unlined (e ∷ L) on = ap (λ b. cond (not b) (e ∷ without_lines L) (without_lines L)) (output_line e on.0) ∙ output_unlined L on.1

off_output : (d : ℕ) (y : Device) → Only Output y → is_on d y ≡ false
off_output d y on = ap (is_on d) on

-- a phase that is no copy, nor the choice of a file's drives
abbrev IsPlain : Phase → Type 0
IsPlain (File i) = ⊥
IsPlain (Copies i copy) = ⊥
IsPlain _ = Unit {0}

module _ (o : Ordered) (a : Point) where
  pub paced_then : (A B : List Event) → IsPaced o a A → IsPaced o a B → IsPaced o a (A ++ B)
  paced_then A B ends two = two
  paced_then A B (between e L none rest) two = between e (L ++ B) none (paced_then L B rest two)
  paced_then A B (copies i f at turns C L is begins follows rest) two = subst (IsPaced o a) (sym (append_assoc C L B)) (copies i f at turns C (L ++ B) is begins follows (paced_then L B rest two))

  pub quiet_paced : (B : List Event) → NoActs B → IsPaced o a (without_lines B)
  quiet_paced [] none = ends
  quiet_paced (e ∷ B) none = elim (cases_Bool (is_line e)) [
    | inl line ↦ subst (IsPaced o a) (sym (ap (λ b. cond (not b) (e ∷ without_lines B) (without_lines B)) line)) (quiet_paced B none.1)
    | inr other ↦ subst (IsPaced o a) (sym (ap (λ b. cond (not b) (e ∷ without_lines B) (without_lines B)) other)) (between e (without_lines B) none.0 (quiet_paced B none.1))
  ]

  -- paced copies, and then one that goes on
  record InCopy (f : PlannedFile) (at : Standing) (turns : List OneTurn) (L : List Event) : Type 0 where
    front : List Event
    back : List Event
    is : L ≡ front ++ back
    paced : IsPaced o a front
    follows : FollowsWindow o.source f.path f.size at [] turns back

  in_over : (i : ℕ) (f : PlannedFile) (at : Standing) (turns : List OneTurn) (L : List Event) → slice_get o.plan.files i ≡ Some f → IsCopyBegin o a i f at → InCopy f at turns L → IsPaced o a L
  in_over i f at turns L is begins c =
      subst (IsPaced o a) (sym c.is) (paced_then c.front c.back c.paced (subst (IsPaced o a) (append-nil c.back) (copies i f at turns c.back [] is begins c.follows ends)))

  abbrev Paced : World → Type 0
  Paced w = Since (λ L. IsPaced o a (without_lines L)) a.world w

  record CopyPaced (i : ℕ) (copy : FileCopy) (pool : PoolState) (w : World) : Type 0 where
    file : PlannedFile
    is_file : slice_get o.plan.files i ≡ Some file
    at : Standing
    turns : List OneTurn
    of_card : card_of copy ≡ o.source
    sized : size_of copy ≡ file.size
    begins : IsCopyBegin o a i file at
    stands : stands_after at turns ≡ standing copy
    copying : Copying copy pool w (given_in turns)
    calls : Since (λ L. InCopy file at turns (without_lines L)) a.world w

  -- by what is done next
  abbrev PacedAt : Phase → PoolState → World → Type 0
  PacedAt (Copies i copy) pool w = CopyPaced i copy pool w
  PacedAt _ pool w = Paced w

  paced_of : (phase : Phase) (pool : PoolState) (w : World) → PacedAt phase pool w → Paced w
  paced_of (Copies i copy) pool w c = since_such (λ L in_copy. in_over i c.file c.at c.turns (without_lines L) c.is_file c.begins in_copy) c.calls
  paced_of (Begins e) pool w p = p
  paced_of (File i) pool w p = p
  paced_of (Dates i t) pool w p = p
  paced_of (Records rec e) pool w p = p
  paced_of (Seals e) pool w p = p
  paced_of Clears pool w p = p
  paced_of Ended pool w p = p

  -- behind a phase that is plain no copy goes on
  plain_next : (p q : Phase) (pool : PoolState) (w : World) → IsPlain p → ComesNext p q → Paced w → PacedAt q pool w
  plain_next p (Begins e) pool w plain comes paced = paced
  plain_next p (File i) pool w plain comes paced = paced
  plain_next p (Dates i t) pool w plain comes paced = paced
  plain_next p (Records rec e) pool w plain comes paced = paced
  plain_next p (Seals e) pool w plain comes paced = paced
  plain_next p Clears pool w plain comes paced = paced
  plain_next p Ended pool w plain comes paced = paced
  plain_next (File k) (Copies i copy) pool w plain comes paced = absurd plain
  plain_next (Copies k old) (Copies i copy) pool w plain comes paced = absurd plain
  plain_next p (Copies i copy) pool w plain comes paced = absurd comes

  file_next : (n i : ℕ) (pool : PoolState) (w : World) → Paced w → PacedAt (after_file n i) pool w
  file_next n i pool w paced = by (nat_lt (suc i) n)
    where
      by : (b : Bool) → PacedAt (if b then File (suc i) else Seals 0) pool w
      by true = paced
      by false = paced

  -- ---- calls that are no acts

  stay : {On : Device → Type 0} {P : List Event → Type 0} {w new : World} → Went On P w new → ((B : List Event) → AllOn On B → P B → NoActs B) → Paced w → Paced new
  stay went none paced = since_more paced went (λ A B so on such. subst (IsPaced o a) (sym (unlined_then A B)) (paced_then (without_lines A) (without_lines B) so (quiet_paced B (none B on such))))

  stay_line : {P : List Event → Type 0} {w new : World} → Went (Only Output) P w new → Paced w → Paced new
  stay_line went paced = stay went (λ B on such. output_no_acts B on) paced

  stay_clock : {P : List Event → Type 0} {w new : World} → Went (Only Clock) P w new → Paced w → Paced new
  stay_clock went paced = stay went (λ B on such. clock_no_acts B on) paced

  begin_paced : (b c : Point) (e : ℕ) (was : DriveAt) → BeginTurn o e was b.at.drives c.at b.world c.world → Paced b.world → Paced c.world
  begin_paced b c e Fresh t paced = stay_line t.line.went (stay (begin_leaves o.plan e Fresh t.ok b.world t.mid t.tried) (λ B on such. drive_no_acts e B on such) paced)
  begin_paced b c e (Begun recs gate kept) t paced = stay_line t.line.went (stay (begin_leaves o.plan e (Begun recs gate kept) t.ok b.world t.mid t.tried) (λ B on such. drive_no_acts e B on such) paced)
  begin_paced b c e Gone t paced = since_same t.idle paced
  begin_paced b c e (Found recs) t paced = since_same t.idle paced
  begin_paced b c e Sealed t paced = since_same t.idle paced

  date_paced : (b c : Point) (i : ℕ) (t : Triple) (other : Option Listed) → DateTurn o i t other b.at.drives c.at b.world c.world → Paced b.world → Paced c.world
  date_paced b c i t None act paced = stay_clock act.asked paced
  date_paced b c i t (Some l) act paced = since_same act.2 paced

  record_paced : (b c : Point) (rec : Rec) (e : ℕ) (was : Option Journaled) → RecordTurn o rec e was b.at.drives c.at b.world c.world → Paced b.world → Paced c.world
  record_paced b c rec e None t paced = since_same t.idle paced
  record_paced b c rec e (Some was) t paced = stay_line t.line.went (stay t.went (λ B on such. record_no_acts e was.gate.at t.file.path rec t.came B on such) paced)

  seal_paced : (b c : Point) (e : ℕ) (x : DriveAt) → SealTurn o e x b.at.drives c.at b.world c.world → Paced b.world → Paced c.world
  seal_paced b c e (Begun recs gate kept) t paced = stay_line t.line.went (stay t.went (λ B on such. seal_no_acts e _ _ t.came B on such) (stay_clock t.asked paced))
  seal_paced b c e (Found recs) t paced = stay_line t.line.went paced
  seal_paced b c e Fresh t paced = absurd t
  seal_paced b c e Gone t paced = since_same t.idle paced
  seal_paced b c e Sealed t paced = since_same t.idle paced

  clear_paced : (b c : Point) (required sealed : ℕ) (is_due : Bool) → ClearTurn required sealed is_due c.at b.world c.world → Paced b.world → Paced c.world
  clear_paced b c required sealed true t paced = stay_line t.line.went paced
  clear_paced b c required sealed false t paced = since_same t.1 paced

  -- ---- a copy begins

  opened_paced : (b c : Point) (i : ℕ) → ((d : ℕ) → PartAt o.plan (File i) (drive_at b.at.drives.each d) d b.world) → AllKeep a.at.drives.each b.at.drives.each → (t : Opened o i b.at.drives c.at b.world c.world) → Paced b.world → CopyPaced i t.copy c.pool b.world
  opened_paced b c i parts keep t paced = record {
    file = t.file;
    is_file = t.is_file;
    at = standing t.copy;
    turns = [];
    of_card = t.opens.card;
    sized = t.opens.sized;
    begins = record {
      live = live_of t.copy;
      some = some_live (live_of t.copy) t.some;
      counts = t.opens.stands.counts;
      lengths = t.opens.stands.eight;
      pieces = t.opens.stands.pieces;
      kept = λ d. t.opens.kept d ∙ kept_due (drive_at a.at.drives.each d) (drive_at b.at.drives.each d) i (keep d) ∙ ap (λ (x : Bool). x && keeps_part (due i (drive_at a.at.drives.each d))) (sym (t.opens.live d));
    };
    stands = refl;
    copying = t.opens.copying c.pool b.world
        (λ d live not_kept. none_of_due i (drive_at b.at.drives.each d) d b.world (sym (t.opens.live d) ∙ live) (sym (t.opens.kept d) ∙ not_kept) (parts d).1)
        (λ d keeps. part_of_due o.plan i (drive_at b.at.drives.each d) d b.world t.file t.is_file (sym (t.opens.kept d) ∙ keeps) (parts d).0);
    calls = since_such (λ L so. record {
      front = without_lines L;
      back = [];
      is = sym (append-nil (without_lines L));
      paced = so;
      follows = follows_none o.source t.file.path t.file.size (standing t.copy) [] [] refl;
    }) paced;
  }

  file_paced : (b c : Point) (i : ℕ) → ((d : ℕ) → PartAt o.plan (File i) (drive_at b.at.drives.each d) d b.world) → AllKeep a.at.drives.each b.at.drives.each → FileTurn o i b.at.drives c.at b.world c.world → Paced b.world → PacedAt c.at.phase c.pool c.world
  file_paced b c i parts keep (inl t) paced =
      subst (λ (k : Phase). PacedAt k c.pool c.world) (sym t.goes.0) (subst (λ (w : World). CopyPaced i t.copy c.pool w) (sym t.idle) (opened_paced b c i parts keep t paced))
  file_paced b c i parts keep (inr (nowhere, t)) paced =
      subst (λ (k : Phase). PacedAt k c.pool c.world) (sym t.goes.0) (file_next (files_of o.plan) i c.pool c.world (since_same t.idle paced))

  -- ---- a turn of a copy

  module _ (b c : Point) (i : ℕ) (copy : FileCopy) (st : CopyPaced i copy b.pool b.world) (came : Turn) (next : FileCopy) (mid : World) (between_pool : PoolState) (t : CopyTurned st.file.path copy next between_pool b.world mid (given_in st.turns) came) where
    abbrev one : OneTurn
    one = record { pick = t.pick; given = t.given; came = came; now = standing next }

    abbrev more : List OneTurn
    more = st.turns ++ one ∷ []

    given_so : given_in more ≡ given_in st.turns ++ t.given
    given_so = given_more st.turns one

    stands_so : stands_after st.at more ≡ standing next
    stands_so = stands_more st.at st.turns one

    turn_stands : StandsAfter st.file.size (stands_after st.at st.turns) (standing next) (doing (stands_after st.at st.turns) t.pick) came
    turn_stands = subst (λ (x : Standing). StandsAfter st.file.size x (standing next) (doing x t.pick) came) (sym st.stands)
        (subst (λ (n : ℕ). StandsAfter n (standing copy) (standing next) (doing (standing copy) t.pick) came) st.sized t.stands)

    turn_calls : (B : List Event) → TurnCalls (card_of copy) st.file.path (size_of copy) (standing copy) (standing next) (given_in st.turns) t.given (doing (standing copy) t.pick) came B
        → TurnCalls o.source st.file.path st.file.size (stands_after st.at st.turns) (standing next) (given_in st.turns) t.given (doing (stands_after st.at st.turns) t.pick) came B
    turn_calls B such =
        subst (λ (x : Standing). TurnCalls o.source st.file.path st.file.size x (standing next) (given_in st.turns) t.given (doing x t.pick) came B) (sym st.stands)
        (subst (λ (n : ℕ). TurnCalls o.source st.file.path n (standing copy) (standing next) (given_in st.turns) t.given (doing (standing copy) t.pick) came B) st.sized
        (subst (λ (s : ℕ). TurnCalls s st.file.path (size_of copy) (standing copy) (standing next) (given_in st.turns) t.given (doing (standing copy) t.pick) came B) st.of_card such))

    mid_calls : Since (λ L. InCopy st.file st.at more (without_lines L)) a.world mid
    mid_calls = since_more st.calls t.calls (λ A B so on such.
        let calls = turn_calls B such in
        let copied = turn_copy o.source st.file.path st.file.size (stands_after st.at st.turns) (standing next) (given_in st.turns) t.given (doing (stands_after st.at st.turns) t.pick) came B calls in
        record {
          front = so.front;
          back = so.back ++ B;
          is = unlined_then A B ∙ (λ k. so.is k ++ copy_unlined o.source st.file.path B copied k) ∙ append_assoc so.front so.back B;
          paced = so.paced;
          follows = follows_more o.source st.file.path st.file.size st.at [] st.turns one so.back B (so.back ++ B) refl so.follows turn_stands calls;
        })

    mid_paced : Paced mid
    mid_paced = since_such (λ L in_copy. in_over i st.file st.at more (without_lines L) st.is_file st.begins in_copy) mid_calls

    goes_on : (w : World) → card_of next ≡ card_of copy → size_of next ≡ size_of copy → Copying next c.pool w (given_in st.turns ++ t.given) → Since (λ L. InCopy st.file st.at more (without_lines L)) a.world w → CopyPaced i next c.pool w
    goes_on w card size copying calls = record {
      file = st.file;
      is_file = st.is_file;
      at = st.at;
      turns = more;
      of_card = card ∙ st.of_card;
      sized = size ∙ st.sized;
      begins = st.begins;
      stands = stands_so;
      copying = subst (λ (bytes : List ℕ). Copying next c.pool w bytes) (sym given_so) copying;
      calls = calls;
    }

  ended : (c : Point) → c.at.phase ≡ Ended → Paced c.world → PacedAt c.at.phase c.pool c.world
  ended c is paced = subst (λ (k : Phase). PacedAt k c.pool c.world) (sym is) paced

  module _ (b c : Point) (i : ℕ) (copy : FileCopy) (st : CopyPaced i copy b.pool b.world) where
    came_paced : (came : Turn) (next : FileCopy) (mid : World) (between_pool : PoolState) → CopyTurned st.file.path copy next between_pool b.world mid (given_in st.turns) came → card_of next ≡ card_of copy → size_of next ≡ size_of copy
        → CopySettles (files_of o.plan) i came next b.at.drives c.at mid c.world → (c.at.phase ≡ Copies i next → c.pool ≡ between_pool) → PacedAt c.at.phase c.pool c.world
    came_paced Going next mid between_pool t card size s kept =
        subst (λ (k : Phase). PacedAt k c.pool c.world) (sym s.1.0) (subst (λ (w : World). CopyPaced i next c.pool w) (sym s.2)
        (goes_on b c i copy st Going next mid between_pool t mid card size (subst (λ (p : PoolState). Copying next p mid (given_in st.turns ++ t.given)) (sym (kept s.1.0)) t.came) (mid_calls b c i copy st Going next mid between_pool t)))
    came_paced (Dropped e) next mid between_pool t card size s kept = by_line s.said s.goes
      where
        line : (d : ℕ) → ReadsSame d mid c.world
        line d = same_elsewhere d (off_output d) s.line.went

        over : Paced c.world
        over = stay_line s.line.went (mid_paced b c i copy st (Dropped e) next mid between_pool t)

        calls : Since (λ L. InCopy st.file st.at (more b c i copy st (Dropped e) next mid between_pool t) (without_lines L)) a.world c.world
        calls = since_more (mid_calls b c i copy st (Dropped e) next mid between_pool t) s.line.went (λ A B so on such.
            subst (InCopy st.file st.at (more b c i copy st (Dropped e) next mid between_pool t)) (sym (unlined_then A B ∙ ap (λ (l : List Event). without_lines A ++ l) (output_unlined B on) ∙ append-nil (without_lines A))) so)

        on : c.at.phase ≡ Copies i next → CopyPaced i next c.pool c.world
        on is = goes_on b c i copy st (Dropped e) next mid between_pool t c.world card size
            (copying_stays next c.pool c.pool mid c.world (given_in st.turns ++ t.given) (record { same = λ j k at. refl }) (λ d live. line d) (subst (λ (p : PoolState). Copying next p mid (given_in st.turns ++ t.given)) (sym (kept is)) t.came.1)) calls

        by : (left : Bool) → c.at.phase ≡ (if left then Copies i next else after_file (files_of o.plan) i) → PacedAt c.at.phase c.pool c.world
        by true is = subst (λ (k : Phase). PacedAt k c.pool c.world) (sym is) (on is)
        by false is = subst (λ (k : Phase). PacedAt k c.pool c.world) (sym is) (file_next (files_of o.plan) i c.pool c.world over)

        by_line : (said : Bool) → Goes said (copies_on (files_of o.plan) i next) c.at → PacedAt c.at.phase c.pool c.world
        by_line true goes = by (is_some (lowest (live_of next))) goes.0
        by_line false goes = ended c goes.0 over
    came_paced (Copied digests) next mid between_pool t card size s kept =
        subst (λ (k : Phase). PacedAt k c.pool c.world) (sym s.1.0) (since_same s.2 (mid_paced b c i copy st (Copied digests) next mid between_pool t))
    came_paced SourceFailed next mid between_pool t card size s kept = ended c s.1.0 (since_same s.2 (mid_paced b c i copy st SourceFailed next mid between_pool t))
    came_paced (Changed p q) next mid between_pool t card size s kept = ended c s.1.0 (since_same s.2 (mid_paced b c i copy st (Changed p q) next mid between_pool t))
    came_paced NoDrive next mid between_pool t card size s kept = absurd s

    copy_paced : CopyActed o i copy b.at.drives c.at b.pool c.pool b.world c.world → PacedAt c.at.phase c.pool c.world
    copy_paced t =
        let same : t.file ≡ st.file = some_same t.file st.file (sym t.is_file ∙ st.is_file) in
        came_paced t.came t.next t.mid t.between (subst (λ (f : PlannedFile). CopyTurned f.path copy t.next t.between b.world t.mid (given_in st.turns) t.came) same (t.turned (given_in st.turns) st.copying)) t.same.0 t.same.1 t.settles t.same_pool

  -- ---- any turn

  plain : (b c : Point) (phase : Phase) → IsPlain phase → b.at.phase ≡ phase → Acted o phase b.at c.at b.pool c.pool b.world c.world → Paced c.world → PacedAt c.at.phase c.pool c.world
  plain b c phase is_plain is t paced = plain_next phase c.at.phase c.pool c.world is_plain (turn_comes o b c phase is t) paced

  turn_paced : (plan : IsPlan o.plan) (b c : Point) (phase : Phase) → b.at.phase ≡ phase → CoreAt o plan a phase b.at.drives b.pool b.world → AllKeep a.at.drives.each b.at.drives.each → Acted o phase b.at c.at b.pool c.pool b.world c.world
      → PacedAt phase b.pool b.world → PacedAt c.at.phase c.pool c.world
  turn_paced plan b c (Begins e) is core keep t paced = plain b c (Begins e) tt is t (begin_paced b c e (drive_at b.at.drives.each e) t paced)
  turn_paced plan b c (File i) is core keep t paced = file_paced b c i core.0 keep t paced
  turn_paced plan b c (Copies i copy) is core keep t paced = copy_paced b c i copy paced t
  turn_paced plan b c (Dates i x) is core keep t paced = plain b c (Dates i x) tt is t (date_paced b c i x (other_listed o.listed i x) t paced)
  turn_paced plan b c (Records rec e) is core keep t paced = plain b c (Records rec e) tt is t (record_paced b c rec e (due rec.index (drive_at b.at.drives.each e)) t paced)
  turn_paced plan b c (Seals e) is core keep t paced = plain b c (Seals e) tt is t (seal_paced b c e (drive_at b.at.drives.each e) t paced)
  turn_paced plan b c Clears is core keep t paced = plain b c Clears tt is t (clear_paced b c o.copies (count_sealed b.at.drives.each) (is_clear (count_sealed b.at.drives.each) o.copies) t.1 paced)
  turn_paced plan b c Ended is core keep t paced = plain b c Ended tt is t (since_same t.2 paced)

  alone_paced : (s : Starts o a) (b : Point) → Alone o a b → PacedAt b.at.phase b.pool b.world
  alone_paced s b still = subst (λ (k : Phase). PacedAt k a.pool a.world) (sym s.run.phase) (since_none a.world ends)
  alone_paced s b (turned {b = x} so_far t) =
      let plan = s.run.run.plan in
      turn_paced plan x b x.at.phase refl (runs_core o plan a x (start_core o plan a s) (alone_runs o a x so_far)) (alone_keep o a x so_far) t (alone_paced s x so_far)

-- after any number of turns with nothing between them
pub paced : (o : Ordered) (a b : Point) → Starts o a → Alone o a b → (past L : List Event) → a.world.events ≡ Some past → b.world.events ≡ Some (past ++ L) → IsPaced o a (without_lines L)
paced o a b s r past L was now = since_at (paced_of o a b.at.phase b.pool b.world (alone_paced o a s b r)) past L was now
