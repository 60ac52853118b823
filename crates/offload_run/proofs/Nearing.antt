-- Each turn leaves fewer, and where a run that goes on has slots.
use Rattle.std.proofs.Common.{◌≡◌, ◌≢◌, ℕ, zero, suc, ◌+◌, ◌-◌, ◌<◌, ◌≤◌, Bool, true, false, List, [], ◌∷◌, length, drop, refl, sym, ◌∙◌, ap, subst, arith}
use Rattle.std.specs.Prelude.{Option, Some, None, Result, Ok, Err, is_some, nat_lt, if◌then◌else◌}
use Rattle.copy_plan.specs.declared.file.PlannedFile.{PlannedFile}
use Rattle.copy_plan.specs.Plan.{PlanValue}
use Rattle.drive_journal.specs.declared.record.Rec.{Rec}
use Rattle.fan_core.specs.Flags.{has, count}
use Rattle.run_state.specs.declared.outcome.RunTurn.{RunTurn}
use Rattle.run_state.specs.declared.outcome.RunTurn.TheVariants.{Going as TurnGoing, Ended as TurnEnded}
use Rattle.run_state.specs.declared.phase.Phase.{Phase}
use Rattle.run_state.specs.declared.phase.Phase.TheVariants.{Begins, File, Copies, Dates, Records, Seals, Clears, Ended}
use Rattle.bay_core.specs.World.{World}
use Rattle.digest_set.specs.declared.triple.Triple.{Triple}
use Rattle.drive_journal.specs.declared.order.Listed.{Listed}
use Rattle.fan_copier.specs.declared.copy.FileCopy.{FileCopy}
use Rattle.fan_copier.specs.declared.turn.Turn.{Turn}
use Rattle.fan_copier.specs.declared.turn.Turn.TheVariants.{Going as CopyGoes, Dropped, Copied, SourceFailed as CardFailed, Changed as CardChanged, NoDrive as NoneLeft}
use Rattle.fan_copier.specs.Copying.{live_of, standing}
use Rattle.fan_copier.specs.Turning.{Nearer, turns_left}
use Rattle.fan_core.specs.Flags.{lowest}
use Rattle.run_state.specs.Acts.{Goes, MovesOrDrops, BeginTurn, CopySettles, copies_on, DateTurn, RecordStands, RecordTurn, SealStands, SealTurn, ClearTurn}
use Rattle.run_state.specs.Rules.{file_turns, turns_of, turns_after, last_turns, left_at, slots_in, Answers, IsNearer}
use Rattle.read_back.specs.declared.back.ReadBackError.{ReadBackError}
use Rattle.seal_step.specs.declared.error.SealError.{SealError}
use Rattle.drive_journal.specs.declared.record.Gate.{Gate}
use Rattle.run_state.specs.State.{Ordered, DriveAt, Gone, Fresh, Begun, Found, Sealed, Drives, Journaled, At, files_of, after_begin, after_file, after_record, after_seal}

-- a run that has not ended goes on with what comes next
pub goes_next : (said : Bool) (next : Phase) (new : At) → Goes said next new → new.phase ≢ Ended → new.phase ≡ next
goes_next true next new goes still_on = goes.0
goes_next false next new goes still_on = absurd (still_on goes.0)

-- a run that goes on with what has no slots has none
pub goes_slots : (said : Bool) (next : Phase) (new : At) → slots_in next ≡ [] → Goes said next new → slots_in new.phase ≡ []
goes_slots true next new none goes = ap slots_in goes.0 ∙ none
goes_slots false next new none goes = ap slots_in goes.0

-- ---- what comes next has no slots

either_slots : (b : Bool) (x y : Phase) → slots_in x ≡ [] → slots_in y ≡ [] → slots_in (if b then x else y) ≡ []
either_slots true x y one two = one
either_slots false x y one two = two

pub begin_slots : (w d : ℕ) → slots_in (after_begin w d) ≡ []
begin_slots w d = either_slots (nat_lt (suc d) w) (Begins (suc d)) (File 0) refl refl

pub file_slots : (n i : ℕ) → slots_in (after_file n i) ≡ []
file_slots n i = either_slots (nat_lt (suc i) n) (File (suc i)) (Seals 0) refl refl

pub record_slots : (w n : ℕ) (rec : Rec) (d : ℕ) → slots_in (after_record w n rec d) ≡ []
record_slots w n rec d = either_slots (nat_lt (suc d) w) (Records rec (suc d)) (after_file n rec.index) refl (file_slots n rec.index)

pub seal_slots : (w d : ℕ) → slots_in (after_seal w d) ≡ []
seal_slots w d = either_slots (nat_lt (suc d) w) (Seals (suc d)) Clears refl refl

-- ---- what comes next leaves fewer turns

either_left : (w : ℕ) (p : PlanValue) (b : Bool) (x y : Phase) (most : ℕ) → left_at w p x ≤ most → left_at w p y ≤ most → left_at w p (if b then x else y) ≤ most
either_left w p true x y most one two = one
either_left w p false x y most one two = two

drop_none : (files : List PlannedFile) → drop 0 files ≡ files
drop_none [] = refl
drop_none (f ∷ files) = refl

-- the turns from file i on are those of the file and those after it
pub turns_at : (w : ℕ) (files : List PlannedFile) (i : ℕ) → i < length files → (size : ℕ) × (turns_of w (drop i files) ≡ file_turns w size + turns_of w (drop (suc i) files))
turns_at w [] i low = absurd (omega (arith, low))
turns_at w (f ∷ files) zero low = (f.size, ap (λ (l : List PlannedFile). file_turns w f.size + turns_of w l) (sym (drop_none files)))
turns_at w (f ∷ files) (suc i) low = turns_at w files i (omega (arith, low))

module _ (w : ℕ) (p : PlanValue) where
  pub begin_left : (d : ℕ) → d < w → left_at w p (after_begin w d) < left_at w p (Begins d)
  begin_left d low =
      let none = ap (turns_of w) (drop_none p.files) in
      let most = either_left w p (nat_lt (suc d) w) (Begins (suc d)) (File 0) ((w - d - 1) + (turns_of w p.files + last_turns w)) (omega (arith, low)) (omega (arith, low, none)) in
      omega (arith, most, low)

  -- what comes after a file leaves at most the turns after it
  pub file_most : (i : ℕ) → left_at w p (after_file (files_of p) i) ≤ turns_after w p i
  file_most i = either_left w p (nat_lt (suc i) (files_of p)) (File (suc i)) (Seals 0) (turns_after w p i) (omega arith) (omega arith)

  pub file_left : (i : ℕ) → i < files_of p → left_at w p (after_file (files_of p) i) < left_at w p (File i)
  file_left i low =
      let most = file_most i in
      let t = turns_at w p.files i low in
      let is = t.1 in
      omega (arith, most, is)

  pub record_left : (rec : Rec) (d : ℕ) → d < w → left_at w p (after_record w (files_of p) rec d) < left_at w p (Records rec d)
  record_left rec d low =
      let after = file_most rec.index in
      let most = either_left w p (nat_lt (suc d) w) (Records rec (suc d)) (after_file (files_of p) rec.index) ((w - d - 1) + turns_after w p rec.index) (omega (arith, low)) (omega (arith, after)) in
      omega (arith, most, low)

  pub seal_left : (d : ℕ) → d < w → left_at w p (after_seal w d) < left_at w p (Seals d)
  seal_left d low =
      let most = either_left w p (nat_lt (suc d) w) (Seals (suc d)) Clears (w - d) (omega (arith, low)) (omega (arith, low)) in
      omega (arith, most)

-- a set of numbers below w has at most w
pub count_most : (set : List Bool) (w : ℕ) → ((d : ℕ) → has set d ≡ true → d < w) → count set ≤ w
count_most [] w below = omega arith
count_most (true ∷ set) zero below = absurd (omega (arith, below 0 refl))
count_most (true ∷ set) (suc w) below = let rest = count_most set w (λ d there. let low = below (suc d) there in omega (arith, low)) in omega (arith, rest)
count_most (false ∷ set) zero below = let rest = count_most set zero (λ d there. let low = below (suc d) there in omega (arith, low)) in omega (arith, rest)
count_most (false ∷ set) (suc w) below = let rest = count_most set w (λ d there. let low = below (suc d) there in omega (arith, low)) in omega (arith, rest)

-- ---- each act

-- what comes next, of drives as many as before
next_left : (w v : ℕ) (p : PlanValue) (start next now : Phase) → v ≡ w → now ≡ next → left_at w p next < left_at w p start → left_at v p now < left_at w p start
next_left w v p start next now count is less = subst (λ (k : ℕ). k < left_at w p start) (sym (λ i. left_at (count i) p (is i))) less

moved_count : (d : ℕ) (ok : Bool) (now : DriveAt) (old new : Drives) → MovesOrDrops d ok now old new → length new.each ≡ length old.each
moved_count d true now old new m = m.each.count
moved_count d false now old new m = m.each.count

recorded_count : (d : ℕ) (recs : List Rec) (rec : Rec) (came : Result Gate ReadBackError) (old new : Drives) → RecordStands d recs rec came old new → length new.each ≡ length old.each
recorded_count d recs rec (Ok next) old new m = m.each.count
recorded_count d recs rec (Err e) old new m = m.each.count

sealed_count : (d : ℕ) (came : Result Unit SealError) (old new : Drives) → SealStands d came old new → length new.each ≡ length old.each
sealed_count d (Ok u) old new m = m.each.count
sealed_count d (Err e) old new m = m.each.count

module _ (o : Ordered) (old : Drives) (new : At) (before after : World) where
  same_count : new.drives ≡ old → length new.drives.each ≡ length old.each
  same_count same = ap (λ (l : Drives). length l.each) same

  begun_next : (d : ℕ) (at : DriveAt) → BeginTurn o d at old new before after → (length new.drives.each ≡ length old.each) × (new.phase ≢ Ended → new.phase ≡ after_begin (length old.each) d) × (slots_in new.phase ≡ [])
  begun_next d Gone t = (same_count t.drives, λ still_on. t.goes.0, ap slots_in t.goes.0 ∙ begin_slots (length old.each) d)
  begun_next d Fresh t = (moved_count d t.ok _ old new.drives t.stands, goes_next t.said _ new t.goes, goes_slots t.said _ new (begin_slots (length old.each) d) t.goes)
  begun_next d (Begun recs gate kept) t = (moved_count d t.ok _ old new.drives t.stands, goes_next t.said _ new t.goes, goes_slots t.said _ new (begin_slots (length old.each) d) t.goes)
  begun_next d (Found recs) t = (same_count t.drives, λ still_on. t.goes.0, ap slots_in t.goes.0 ∙ begin_slots (length old.each) d)
  begun_next d Sealed t = (same_count t.drives, λ still_on. t.goes.0, ap slots_in t.goes.0 ∙ begin_slots (length old.each) d)

  pub begin_nearer : (d : ℕ) (at : DriveAt) → d < length old.each → BeginTurn o d at old new before after → new.phase ≢ Ended → left_at (length new.drives.each) o.plan new.phase < left_at (length old.each) o.plan (Begins d)
  begin_nearer d at low t still_on =
      let n = begun_next d at t in
      next_left (length old.each) (length new.drives.each) o.plan (Begins d) (after_begin (length old.each) d) new.phase n.0 (n.1 still_on) (begin_left (length old.each) o.plan d low)

  pub begin_none : (d : ℕ) (at : DriveAt) → BeginTurn o d at old new before after → slots_in new.phase ≡ []
  begin_none d at t = (begun_next d at t).2

  dated_next : (i : ℕ) (x : Triple) (other : Option Listed) → DateTurn o i x other old new before after → (slots_in new.phase ≡ []) × (new.phase ≢ Ended → left_at (length new.drives.each) o.plan new.phase < left_at (length old.each) o.plan (Dates i x))
  dated_next i x None t = (ap slots_in t.goes.0, λ still_on. next_left (length old.each) (length new.drives.each) o.plan (Dates i x) _ new.phase (same_count t.drives) t.goes.0 (omega arith))
  dated_next i x (Some l) t = (ap slots_in t.1.0, λ still_on. absurd (still_on t.1.0))

  pub date_nearer : (i : ℕ) (x : Triple) (other : Option Listed) → DateTurn o i x other old new before after → new.phase ≢ Ended → left_at (length new.drives.each) o.plan new.phase < left_at (length old.each) o.plan (Dates i x)
  date_nearer i x other t = (dated_next i x other t).1

  pub date_none : (i : ℕ) (x : Triple) (other : Option Listed) → DateTurn o i x other old new before after → slots_in new.phase ≡ []
  date_none i x other t = (dated_next i x other t).0

  recorded_next : (rec : Rec) (d : ℕ) (at : Option Journaled) → RecordTurn o rec d at old new before after → (length new.drives.each ≡ length old.each) × (new.phase ≢ Ended → new.phase ≡ after_record (length old.each) (files_of o.plan) rec d) × (slots_in new.phase ≡ [])
  recorded_next rec d None t = (same_count t.drives, λ still_on. t.goes.0, ap slots_in t.goes.0 ∙ record_slots (length old.each) (files_of o.plan) rec d)
  recorded_next rec d (Some was) t = (recorded_count d was.recs rec t.came old new.drives t.stands, goes_next t.said _ new t.goes, goes_slots t.said _ new (record_slots (length old.each) (files_of o.plan) rec d) t.goes)

  pub record_nearer : (rec : Rec) (d : ℕ) (at : Option Journaled) → d < length old.each → RecordTurn o rec d at old new before after → new.phase ≢ Ended → left_at (length new.drives.each) o.plan new.phase < left_at (length old.each) o.plan (Records rec d)
  record_nearer rec d at low t still_on =
      let n = recorded_next rec d at t in
      next_left (length old.each) (length new.drives.each) o.plan (Records rec d) (after_record (length old.each) (files_of o.plan) rec d) new.phase n.0 (n.1 still_on) (record_left (length old.each) o.plan rec d low)

  pub record_none : (rec : Rec) (d : ℕ) (at : Option Journaled) → RecordTurn o rec d at old new before after → slots_in new.phase ≡ []
  record_none rec d at t = (recorded_next rec d at t).2

  sealed_next : (d : ℕ) (at : DriveAt) → SealTurn o d at old new before after → (length new.drives.each ≡ length old.each) × (new.phase ≢ Ended → new.phase ≡ after_seal (length old.each) d) × (slots_in new.phase ≡ [])
  sealed_next d Gone t = (same_count t.drives, λ still_on. t.goes.0, ap slots_in t.goes.0 ∙ seal_slots (length old.each) d)
  sealed_next d Fresh t = absurd t
  sealed_next d (Begun recs gate kept) t = (sealed_count d t.came old new.drives t.stands, goes_next t.said _ new t.goes, goes_slots t.said _ new (seal_slots (length old.each) d) t.goes)
  sealed_next d (Found recs) t = (t.stands.each.count, goes_next t.said _ new t.goes, goes_slots t.said _ new (seal_slots (length old.each) d) t.goes)
  sealed_next d Sealed t = (same_count t.drives, λ still_on. t.goes.0, ap slots_in t.goes.0 ∙ seal_slots (length old.each) d)

  pub seal_nearer : (d : ℕ) (at : DriveAt) → d < length old.each → SealTurn o d at old new before after → new.phase ≢ Ended → left_at (length new.drives.each) o.plan new.phase < left_at (length old.each) o.plan (Seals d)
  seal_nearer d at low t still_on =
      let n = sealed_next d at t in
      next_left (length old.each) (length new.drives.each) o.plan (Seals d) (after_seal (length old.each) d) new.phase n.0 (n.1 still_on) (seal_left (length old.each) o.plan d low)

  pub seal_none : (d : ℕ) (at : DriveAt) → SealTurn o d at old new before after → slots_in new.phase ≡ []
  seal_none d at t = (sealed_next d at t).2

  pub clear_ends : (required sealed : ℕ) (clear : Bool) → ClearTurn required sealed clear new before after → new.phase ≡ Ended
  clear_ends required sealed true t = t.ends.0
  clear_ends required sealed false t = t.0.0

-- ---- the turn of a copy

-- a drive was dropped: what comes next leaves at most the turns of its copy
pub drop_left : (w n : ℕ) (p : PlanValue) (i : ℕ) (copy : FileCopy) (said : Bool) (new : At) → n ≡ files_of p → Goes said (copies_on n i copy) new → left_at w p new.phase ≤ left_at w p (Copies i copy)
drop_left w n p i copy false new is goes = subst (λ (x : Phase). left_at w p x ≤ left_at w p (Copies i copy)) (sym goes.0) (omega arith)
drop_left w n p i copy true new is goes =
    let after : left_at w p (after_file n i) ≤ turns_after w p i = subst (λ (k : ℕ). left_at w p (after_file k i) ≤ turns_after w p i) (sym is) (file_most w p i) in
    subst (λ (x : Phase). left_at w p x ≤ left_at w p (Copies i copy)) (sym goes.0) (either_left w p (is_some (lowest (live_of copy))) (Copies i copy) (after_file n i) (left_at w p (Copies i copy)) (omega arith) (omega (arith, after)))

pub copy_count : (n i : ℕ) (came : Turn) (next : FileCopy) (old : Drives) (new : At) (mid after : World) → CopySettles n i came next old new mid after → length new.drives.each ≡ length old.each
copy_count n i CopyGoes next old new mid after s = ap (λ (l : Drives). length l.each) s.0
copy_count n i (Dropped d) next old new mid after s = s.drops.each.count
copy_count n i (Copied t) next old new mid after s = ap (λ (l : Drives). length l.each) s.0
copy_count n i CardFailed next old new mid after s = ap (λ (l : Drives). length l.each) s.0
copy_count n i (CardChanged listed read) next old new mid after s = ap (λ (l : Drives). length l.each) s.0
copy_count n i NoneLeft next old new mid after s = absurd s

less_after : (w : ℕ) (p : PlanValue) (i : ℕ) (copy next : FileCopy) → turns_left (standing next) < turns_left (standing copy) → left_at w p (Copies i next) < left_at w p (Copies i copy)
less_after w p i copy next less = omega (arith, less)

-- a turn of a copy leaves fewer turns of the run
pub copy_left : (w : ℕ) (p : PlanValue) (i : ℕ) (copy next : FileCopy) (came : Turn) (old : Drives) (new : At) (mid after : World) → Nearer came (turns_left (standing copy)) (turns_left (standing next)) → CopySettles (files_of p) i came next old new mid after → left_at w p new.phase < left_at w p (Copies i copy)
copy_left w p i copy next CopyGoes old new mid after near s = subst (λ (x : Phase). left_at w p x < left_at w p (Copies i copy)) (sym s.1.0) (less_after w p i copy next near)
copy_left w p i copy next (Dropped d) old new mid after near s =
    let most = drop_left w (files_of p) p i next s.said new refl s.goes in
    let less = less_after w p i copy next near in
    omega (arith, most, less)
copy_left w p i copy next (Copied t) old new mid after near s = subst (λ (x : Phase). left_at w p x < left_at w p (Copies i copy)) (sym s.1.0) (omega arith)
copy_left w p i copy next CardFailed old new mid after near s = subst (λ (x : Phase). left_at w p x < left_at w p (Copies i copy)) (sym s.1.0) (omega arith)
copy_left w p i copy next (CardChanged listed read) old new mid after near s = subst (λ (x : Phase). left_at w p x < left_at w p (Copies i copy)) (sym s.1.0) (omega arith)
copy_left w p i copy next NoneLeft old new mid after near s = absurd s

-- the turns that are left of a run with the same order, from the phase that it had
pub left_of : (o p : Ordered) (w v : ℕ) (start was now : Phase) → p ≡ o → start ≡ was → left_at v o.plan now < left_at w o.plan start → left_at v p.plan now < left_at w o.plan was
left_of o p w v start was now same is less = subst (λ (x : Phase). left_at v p.plan now < left_at w o.plan x) is (subst (λ (q : Ordered). left_at v q.plan now < left_at w o.plan start) (sym same) less)

-- the answer of a turn that left fewer turns, or ended the run
pub is_nearer : (answer : RunTurn) (w : ℕ) (p : PlanValue) (now : Phase) (before : ℕ) → Answers answer now → (now ≢ Ended → left_at w p now < before) → IsNearer answer before (left_at w p now)
is_nearer TurnEnded w p now before is less = ap (left_at w p) is
is_nearer TurnGoing w p now before still_on less = less still_on
