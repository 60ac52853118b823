-- A run that ended by another length of a file read that length.
use Rattle.std.proofs.Common.{◌≡◌, ◌⊎◌, inl, inr, ℕ, ◌+◌, ◌*◌, ◌<◌, Bool, true, false, cond, List, [], ◌∷◌, ◌++◌, length, refl, sym, ap, ◌∙◌, subst, arith, append_assoc, append-nil, length-append}
use Rattle.std.specs.Prelude.{Option, Some, ◌&&◌, nat_eq, if◌then◌else◌}
use Rattle.std.specs.List.{slice_get, flat_map}
use Rattle.std.specs.Str.{bytes_eq}
use Rattle.std.proofs.lemmas.Bool.{cases_Bool, false≢true}
use Rattle.std.proofs.lemmas.Bool.Decides.{nat_tests}
use Rattle.std.proofs.lemmas.Grind.{flat_map-append}
use Rattle.std.proofs.lemmas.List.Elements.{filter-append}
use Rattle.std.proofs.lemmas.Slice.Eq.{bytes_eq-Decides}
use Rattle.std.proofs.lemmas.Option.{slice_get_within, get_or_from_slice_get}
use Rattle.bay_core.specs.declared.event.Event.{Event}
use Rattle.bay_core.specs.declared.event.Event.TheVariants.{AttachSource, AttachDrive, AttachFailed, SourceList, SourceRead, DriveList, DriveRead, Write as Writes, Sync, Rename, Remove, Moment, Pick, Say}
use Rattle.bay_core.specs.Replay.{Source, device_of}
use Rattle.bay_core.specs.World.{World}
use Rattle.copy_plan.specs.declared.file.PlannedFile.{PlannedFile}
use Rattle.copy_plan.specs.Plan.{PlanValue}
use Rattle.fan_core.specs.declared.act.Act.TheVariants.{Read, Write, Finished as AllWritten}
use Rattle.fan_copier.specs.declared.copy.FileCopy.{FileCopy}
use Rattle.fan_copier.specs.declared.turn.Turn.{Turn}
use Rattle.fan_copier.specs.declared.turn.Turn.TheVariants.{Changed as CardChanged}
use Rattle.fan_copier.specs.Copying.{size_of, standing}
use Rattle.fan_copier.specs.Passed.{is_card, card_calls}
use Rattle.fan_copier.specs.Reads.{OnCard, Tiles, EndsAt, GaveNone}
use Rattle.fan_copier.specs.Standing.{Standing, block_len}
use Rattle.fan_copier.specs.Turning.{Doing, EmptyPiece, Acting, doing, StandsAfter, TurnCalls, IsCopyCall, AreCopyCalls, Turned as CopyTurned}
use Rattle.fan_copier.proofs.Following.{reads_at}
use Rattle.fan_copier.proofs.Leaving.{turn_copy}
use Rattle.fan_copier.proofs.Passing.{card_append, card_tiles, card_none_pick}
use Rattle.run_state.specs.declared.outcome.Outcome.{Outcome}
use Rattle.run_state.specs.declared.outcome.Outcome.TheVariants.{Going, Finished, NoDrive, SourceFailed, Changed, Altered, OutFailed}
use Rattle.run_state.specs.declared.phase.Phase.{Phase}
use Rattle.run_state.specs.declared.phase.Phase.TheVariants.{Copies}
use Rattle.run_state.specs.Acts.{Goes, CopySettles, CopyActed, end_of, is_clear, ClearTurn}
use Rattle.run_state.specs.Rules.{FitsCopy, Fits, IsRun, IsStart}
use Rattle.run_state.specs.Runs.{Point, Runs, starts, turns, beside, Beside, IsPlanned, IsBeside, AreBeside}
use Rattle.run_state.specs.State.{Ordered, Drives, At, files_of, count_sealed}
use Rattle.run_ends.specs.Ends.{EndsEarly, EndsLate, GaveOtherLength}
use Rattle.run_ends.specs.Known.{KnowsReads, KnowsReadsOnward}
use Rattle.run_ends.specs.Reads.{is_read, reads_of, got_in, card_given}
use Rattle.run_ends.proofs.Ending.{copy_sized, other_size}
use Rattle.run_ends.proofs.Later.{Later, joined_went, joined_same}
use Rattle.run_ends.proofs.Turns.{Came, Passed, Told, Lost, Broke, Closed, Rested, Why}
use Rattle.run_ends.proofs.Way.{Way, way, came_at}

-- ---- the reads of a path

reads_append : (s : ℕ) (q : List ℕ) (A B : List Event) → reads_of s q (A ++ B) ≡ reads_of s q A ++ reads_of s q B
reads_append s q A B = filter-append (λ e. is_read s q e) A B

given_append : (s : ℕ) (q : List ℕ) (A B : List Event) → card_given s q (A ++ B) ≡ card_given s q A ++ card_given s q B
given_append s q A B = ap (flat_map got_in) (reads_append s q A B) ∙ flat_map-append got_in (reads_of s q A) (reads_of s q B)

and_true : (b : Bool) → (b && true) ≡ b
and_true true = refl
and_true false = refl

-- the reads of a copy are those of its card
copy_test : (s : ℕ) (q : List ℕ) (e : Event) → IsCopyCall s q e → is_read s q e ≡ is_card s (device_of e)
copy_test s q (SourceRead n read at want got) is = ap (λ b. nat_eq s n && b) ((bytes_eq-Decides q read).1 (sym is.1)) ∙ and_true (nat_eq s n)
copy_test s q (Pick p) is = refl
copy_test s q (DriveRead d read at want got) is = refl
copy_test s q (Writes d written at bytes ok) is = refl
copy_test s q e is = absurd is

copy_reads : (s : ℕ) (q : List ℕ) (L : List Event) → AreCopyCalls s q L → reads_of s q L ≡ card_calls s L
unfolding AreCopyCalls
copy_reads s q [] are = refl
copy_reads s q (e ∷ L) are = λ i. cond (copy_test s q e are.0 i) (e ∷ copy_reads s q L are.1 i) (copy_reads s q L are.1 i)

-- others read no planned path
first_so : (a b : Bool) → (a && b) ≡ true → a ≡ true
first_so true b is = refl
first_so false b is = absurd (false≢true is)

second_so : (a b : Bool) → (a && b) ≡ true → b ≡ true
second_so true b is = is
second_so false b is = absurd (false≢true is)

same_number : (s n : ℕ) → nat_eq s n ≡ true → n ≡ s
same_number s n is = grind (arith, nat_tests)

beside_test : (o : Ordered) (drives : Drives) (q : List ℕ) (e : Event) → IsPlanned o.plan q → IsBeside o drives e → is_read o.source q e ≡ false
beside_test o drives q (SourceRead n read at want got) planned is = elim (cases_Bool (nat_eq o.source n && bytes_eq q read)) [
  | inl both ↦ absurd (is (same_number o.source n (first_so _ _ both)) (subst (IsPlanned o.plan) ((bytes_eq-Decides q read).0 (second_so (nat_eq o.source n) _ both)) planned))
  | inr off ↦ off
]
beside_test o drives q (AttachSource n place) planned is = refl
beside_test o drives q (AttachDrive n place) planned is = refl
beside_test o drives q (AttachFailed place) planned is = refl
beside_test o drives q (SourceList n got) planned is = refl
beside_test o drives q (DriveList n got) planned is = refl
beside_test o drives q (DriveRead n path at want got) planned is = refl
beside_test o drives q (Writes n path at bytes ok) planned is = refl
beside_test o drives q (Sync n ok) planned is = refl
beside_test o drives q (Rename n from to ok) planned is = refl
beside_test o drives q (Remove n path ok) planned is = refl
beside_test o drives q (Moment t) planned is = refl
beside_test o drives q (Pick n) planned is = refl
beside_test o drives q (Say line ok) planned is = refl

beside_reads : (o : Ordered) (drives : Drives) (q : List ℕ) (L : List Event) → IsPlanned o.plan q → AreBeside o drives L → reads_of o.source q L ≡ []
unfolding AreBeside
beside_reads o drives q [] planned are = refl
beside_reads o drives q (e ∷ L) planned are = ap (λ b. cond b (e ∷ reads_of o.source q L) (reads_of o.source q L)) (beside_test o drives q e planned are.0) ∙ beside_reads o drives q L planned are.1

-- what reads of a card gave
tiles_got : (s : ℕ) (q : List ℕ) (at : ℕ) (L : List Event) (bytes : List ℕ) → Tiles (OnCard s q) at L bytes → flat_map got_in L ≡ bytes
unfolding Tiles
tiles_got s q at [] bytes t = sym t
tiles_got s q at (e ∷ L) bytes (first, rest, one, is, more) =
    ap (λ x. got_in x ++ flat_map got_in L) one.is ∙ ap (λ (l : List ℕ). first ++ l) (tiles_got s q (at + length first) L rest more) ∙ sym is

card_here : (s : ℕ) → is_card s (Source s) ≡ true
card_here s = grind (arith, nat_tests)

-- one read of the card
card_one : (s : ℕ) (q : List ℕ) (at want : ℕ) (got : Option (List ℕ)) → card_calls s (SourceRead s q at want got ∷ []) ≡ SourceRead s q at want got ∷ []
card_one s q at want got = ap (λ b. cond b (SourceRead s q at want got ∷ []) []) (card_here s)

one_item : (bytes : List ℕ) → length bytes ≡ 1 → (byte : ℕ) × (bytes ≡ byte ∷ [])
one_item [] is = absurd (omega (arith, is))
one_item (x ∷ []) is = (x, refl)
one_item (x ∷ (y ∷ more)) is = absurd (omega (arith, is))

-- ---- the turn that came to another length

-- these reads of the card gave these bytes, and ended there
record EndsSo (s : ℕ) (q : List ℕ) (size read : ℕ) (given : List ℕ) (K : List Event) : Type 0 where
  gave : flat_map got_in K ≡ given
  ends : ((read < size) × EndsEarly s q read K) ⊎ ((read ≡ size + 1) × EndsLate s q size K)

-- reads up to one that gave none
early : (s : ℕ) (q : List ℕ) (size read at want : ℕ) (given : List ℕ) (L : List Event) → read < size → at + length given ≡ read → EndsAt (OnCard s q) at want given L → EndsSo s q size read given (card_calls s L)
early s q size read at want given L less place (fewer, u) = by u.there
  where
    by : GaveNone (OnCard s q) (at + length given) u.second → EndsSo s q size read given (card_calls s L)
    by (asked, some, e, one, inl none) =
        let last : u.second ≡ SourceRead s q read asked (Some []) ∷ [] = one ∙ ap (λ (x : Event). x ∷ []) none ∙ ap (λ (n : ℕ). SourceRead s q n asked (Some []) ∷ []) place in
        let all : card_calls s L ≡ u.first ++ SourceRead s q read asked (Some []) ∷ [] =
        ap (card_calls s) u.is ∙ card_append s u.first u.second ∙ ap (λ (K : List Event). K ++ card_calls s u.second) (card_tiles s q at u.first given u.here)
        ∙ ap (λ (K : List Event). u.first ++ K) (ap (card_calls s) last ∙ card_one s q read asked (Some [])) in
        record {
          gave = ap (flat_map got_in) all ∙ flat_map-append got_in u.first (SourceRead s q read asked (Some []) ∷ []) ∙ append-nil (flat_map got_in u.first) ∙ tiles_got s q at u.first given u.here;
          ends = inl (less, (u.first, asked, some, all));
        }
    by (asked, some, e, one, inr absent) = absurd absent

other_turn : (s : ℕ) (q : List ℕ) (size : ℕ) (at now : Standing) (bytes given : List ℕ) (did : Doing) (listed read : ℕ) (B : List Event) → StandsAfter size at now did (CardChanged listed read) → ((p : ℕ) → did ≡ Acting p Read → at.counts.read * 65536 ≡ length bytes)
    → length (bytes ++ given) ≡ read → TurnCalls s q size at now bytes given did (CardChanged listed read) B → EndsSo s q size read given (card_calls s B)
other_turn s q size at now bytes given (EmptyPiece d) listed read B stands place long t = absurd stands
other_turn s q size at now bytes given (Acting p Read) listed read B stands place long t =
    let first = place p refl in
    let sum = length-append bytes given in
    let none : card_calls s B ≡ card_calls s t.second = ap (card_calls s) t.is ∙ card_append s t.first t.second ∙ ap (λ (K : List Event). K ++ card_calls s t.second) (card_none_pick s p t.first t.here) in
    subst (EndsSo s q size read given) (sym none) (early s q size read (at.counts.read * 65536) (block_len size at.counts.read) given t.second stands.1 (omega (arith, first, sum, long)) t.there)
other_turn s q size at now bytes given (Acting p (Write d k)) listed read B stands place long t = absurd stands
other_turn s q size at now bytes given (Acting p AllWritten) listed read B stands place long t =
    let one = one_item given t.there.1 in
    let none : card_calls s B ≡ card_calls s t.second = ap (card_calls s) t.is ∙ card_append s t.first t.second ∙ ap (λ (K : List Event). K ++ card_calls s t.second) (card_none_pick s p t.first t.here) in
    let all : card_calls s B ≡ SourceRead s q size 1 (Some given) ∷ [] = none ∙ ap (card_calls s) t.there.0 ∙ card_one s q size 1 (Some given) in
    record {
      gave = ap (flat_map got_in) all ∙ append-nil given;
      ends = inr (stands.1, ([], one.0, all ∙ ap (λ (l : List ℕ). SourceRead s q size 1 (Some l) ∷ []) one.1));
    }

-- ---- behind other reads

early_on : (s : ℕ) (q : List ℕ) (at : ℕ) (A K : List Event) → EndsEarly s q at K → EndsEarly s q at (A ++ K)
early_on s q at A K (front, asked, some, is) = (A ++ front, asked, some, ap (λ (l : List Event). A ++ l) is ∙ sym (append_assoc A front (SourceRead s q at asked (Some []) ∷ [])))

late_on : (s : ℕ) (q : List ℕ) (at : ℕ) (A K : List Event) → EndsLate s q at K → EndsLate s q at (A ++ K)
late_on s q at A K (front, byte, is) = (A ++ front, byte, ap (λ (l : List Event). A ++ l) is ∙ sym (append_assoc A front (SourceRead s q at 1 (Some (byte ∷ [])) ∷ [])))

ends_on : (s : ℕ) (q : List ℕ) (size read : ℕ) (A K : List Event) → ((read < size) × EndsEarly s q read K) ⊎ ((read ≡ size + 1) × EndsLate s q size K) → ((read < size) × EndsEarly s q read (A ++ K)) ⊎ ((read ≡ size + 1) × EndsLate s q size (A ++ K))
ends_on s q size read A K (inl e) = inl (e.0, early_on s q read A K e.1)
ends_on s q size read A K (inr e) = inr (e.0, late_on s q size A K e.1)

one_file : (files : List PlannedFile) (i : ℕ) (f g : PlannedFile) → slice_get files i ≡ Some f → slice_get files i ≡ Some g → f ≡ g
one_file files i f g one two = let both : Some f ≡ Some g = sym one ∙ two in cc both

planned : (p : PlanValue) (i : ℕ) (f : PlannedFile) → slice_get p.files i ≡ Some f → IsPlanned p f.path
planned p i f is = (f, (i, slice_get_within p.files i f is, get_or_from_slice_get p.files i f f is), refl)

-- ---- a run

module _ (o : Ordered) (a : Point) where
  -- what the reads gave, where a run ended by another length
  abbrev LengthOf : World → Outcome → Type 0
  LengthOf w (Changed i listed read) = (past L : List Event) → a.world.events ≡ Some past → w.events ≡ Some (past ++ L) → GaveOtherLength o i listed read L
  LengthOf w _ = Unit {0}

  -- the turn
  module _ (m c : Point) (w : Way o a m) (i : ℕ) (copy : FileCopy) (fits : FitsCopy o m.at.drives.each i copy) (knows : KnowsReads o a i copy m.pool m.world) (act : CopyActed o i copy m.at.drives c.at m.pool c.pool m.world c.world) (listed read : ℕ)
      (at : act.came ≡ CardChanged listed read) where
    same : act.file ≡ knows.file
    same = one_file o.plan.files i act.file knows.file act.is_file knows.is_file

    turn : CopyTurned knows.file.path copy act.next act.between m.world act.mid knows.bytes (CardChanged listed read)
    turn = subst (λ (f : PlannedFile). CopyTurned f.path copy act.next act.between m.world act.mid knows.bytes (CardChanged listed read)) same
        (subst (λ (r : Turn). CopyTurned act.file.path copy act.next act.between m.world act.mid knows.bytes r) at (act.turned knows.bytes knows.copying))

    idle : c.world ≡ act.mid
    idle = let settles : CopySettles (files_of o.plan) i (CardChanged listed read) act.next m.at.drives c.at act.mid c.world = subst (λ (r : Turn). CopySettles (files_of o.plan) i r act.next m.at.drives c.at act.mid c.world) at act.settles in settles.2

    gave_other : (past L : List Event) → a.world.events ≡ Some past → c.world.events ≡ Some (past ++ L) → GaveOtherLength o i listed read L
    gave_other past L was now =
        let t = turn in
        let path = knows.file.path in
        let j = joined_went w.later t.calls past L was (joined_same idle past L now) in
        let calls : TurnCalls o.source path (size_of copy) (standing copy) (standing act.next) knows.bytes t.given (doing (standing copy) t.pick) (CardChanged listed read) j.since =
        subst (λ (s : ℕ). TurnCalls s path (size_of copy) (standing copy) (standing act.next) knows.bytes t.given (doing (standing copy) t.pick) (CardChanged listed read) j.since) fits.card j.such.1 in
        let here : reads_of o.source path j.since ≡ card_calls o.source j.since = copy_reads o.source path j.since (turn_copy o.source path (size_of copy) (standing copy) (standing act.next) knows.bytes t.given (doing (standing copy) t.pick) (CardChanged listed read) j.since calls) in
        let so = other_turn o.source path (size_of copy) (standing copy) (standing act.next) knows.bytes t.given (doing (standing copy) t.pick) listed read j.since t.stands (λ p is. reads_at copy m.pool m.world knows.bytes t.pick p knows.copying is) t.came calls in
        let all : reads_of o.source path L ≡ reads_of o.source path j.front ++ card_calls o.source j.since = ap (reads_of o.source path) j.is ∙ reads_append o.source path j.front j.since ∙ ap (λ (K : List Event). reads_of o.source path j.front ++ K) here in
        let given : card_given o.source path L ≡ knows.bytes ++ t.given =
        ap (flat_map got_in) all ∙ flat_map-append got_in (reads_of o.source path j.front) (card_calls o.source j.since)
        ∙ (λ k. knows.gave past j.front was j.was k ++ so.gave k) in
        let size : size_of copy ≡ listed = by_stands t.stands in
        record {
          file = knows.file;
          is_file = knows.is_file;
          planned = sym size ∙ copy_sized o m.at.drives.each i copy knows.file fits knows.is_file;
          gave = ap (λ (l : List ℕ). length l) given ∙ t.came;
          ends = subst (λ (K : List Event). ((read < listed) × EndsEarly o.source path read K) ⊎ ((read ≡ listed + 1) × EndsLate o.source path listed K)) (sym all)
              (subst (λ (n : ℕ). ((read < n) × EndsEarly o.source path read (reads_of o.source path j.front ++ card_calls o.source j.since)) ⊎ ((read ≡ n + 1) × EndsLate o.source path n (reads_of o.source path j.front ++ card_calls o.source j.since))) size
              (ends_on o.source path (size_of copy) read (reads_of o.source path j.front) (card_calls o.source j.since) so.ends));
        }
      where
        by_stands : StandsAfter (size_of copy) (standing copy) (standing act.next) (doing (standing copy) turn.pick) (CardChanged listed read) → size_of copy ≡ listed
        by_stands s = sym (other_size (size_of copy) (standing copy) (standing act.next) (doing (standing copy) turn.pick) listed read s).0

  -- ---- what stays so

  length_same : (m c : Point) → c.at ≡ m.at → c.world ≡ m.world → LengthOf m.world m.at.outcome → LengthOf c.world c.at.outcome
  length_same m c same idle old = subst (λ (at : At). LengthOf c.world at.outcome) (sym same) (subst (λ (v : World). LengthOf v m.at.outcome) (sym idle) old)

  length_beside : (m c : Point) → Later a.world m.world → Beside o m c → (outcome : Outcome) → LengthOf m.world outcome → LengthOf c.world outcome
  length_beside m c later t (Changed i listed read) old = λ past L was now.
      let j = joined_went later t.went past L was now in
      let g = old past j.front was j.was in
      let all : reads_of o.source g.file.path L ≡ reads_of o.source g.file.path j.front =
      ap (reads_of o.source g.file.path) j.is ∙ reads_append o.source g.file.path j.front j.since
      ∙ ap (λ (K : List Event). reads_of o.source g.file.path j.front ++ K) (beside_reads o m.at.drives g.file.path j.since (planned o.plan i g.file g.is_file) j.such.1) ∙ append-nil (reads_of o.source g.file.path j.front) in
      record {
        file = g.file;
        is_file = g.is_file;
        planned = g.planned;
        gave = ap (λ (K : List Event). length (flat_map got_in K)) all ∙ g.gave;
        ends = subst (λ (K : List Event). ((read < listed) × EndsEarly o.source g.file.path read K) ⊎ ((read ≡ listed + 1) × EndsLate o.source g.file.path listed K)) (sym all) g.ends;
      }
  length_beside m c later t Going old = tt
  length_beside m c later t Finished old = tt
  length_beside m c later t NoDrive old = tt
  length_beside m c later t SourceFailed old = tt
  length_beside m c later t (Altered i l x) old = tt
  length_beside m c later t OutFailed old = tt

  -- ---- each turn

  module _ (m c : Point) (w : Way o a m) (knows : (i : ℕ) (copy : FileCopy) → m.at.phase ≡ Copies i copy → KnowsReads o a i copy m.pool m.world) where
    by_goes : (said : Bool) (next : Phase) → Goes said next c.at → LengthOf c.world c.at.outcome
    by_goes true next goes = subst (LengthOf c.world) (sym goes.1) tt
    by_goes false next goes = subst (LengthOf c.world) (sym goes.1) tt

    by_why : (outcome : Outcome) → Why o m c outcome → LengthOf c.world outcome
    by_why (Changed i listed read) (copy, is, act, at) = gave_other m c w i copy (subst (Fits o m.at.drives.each) is w.run.fits) (knows i copy is) act listed read at
    by_why Going why = tt
    by_why Finished why = tt
    by_why NoDrive why = tt
    by_why SourceFailed why = tt
    by_why (Altered i l t) why = tt
    by_why OutFailed why = tt

    by_count : (none : Bool) → LengthOf c.world (if none then NoDrive else Finished)
    by_count true = tt
    by_count false = tt

    by_clear : (required sealed : ℕ) (is_due : Bool) → ClearTurn required sealed is_due c.at m.world c.world → LengthOf c.world c.at.outcome
    by_clear required sealed true t = subst (LengthOf c.world) (sym t.ends.1) (by_said t.said)
      where
        by_said : (said : Bool) → LengthOf c.world (if said then end_of sealed else OutFailed)
        by_said true = by_count (nat_eq sealed 0)
        by_said false = tt
    by_clear required sealed false t = subst (LengthOf c.world) (sym t.0.1) (by_count (nat_eq sealed 0))

    length_turn : Came o a m c → LengthOf m.world m.at.outcome → LengthOf c.world c.at.outcome
    length_turn (Passed t) old = by_goes true t.next t.goes
    length_turn (Told t) old = by_goes t.said t.next t.goes
    length_turn (Lost t) old = by_goes t.said t.next t.goes
    length_turn (Broke t) old = subst (LengthOf c.world) (sym t.ends.1) (by_why t.outcome t.why)
    length_turn (Closed t) old = by_clear o.copies (count_sealed m.at.drives.each) (is_clear (count_sealed m.at.drives.each) o.copies) t.clear
    length_turn (Rested t) old = length_same m c t.same t.idle old

  module _ (rules : (b : Point) → IsRun o a.at → Runs o a b → IsRun o b.at) (start : IsStart o a.at) (knows : KnowsReadsOnward o a) where
    pub length_runs : (b : Point) → Runs o a b → LengthOf b.world b.at.outcome
    length_runs b starts = subst (LengthOf a.world) (sym (start.run.outcome.1 (λ ended. absurd (cc (sym start.phase ∙ ended))))) tt
    length_runs b (turns {b = x} so_far t) =
        let w = way o a rules start x so_far in
        length_turn x b w (knows x so_far) (came_at o a x b w t) (length_runs x so_far)
    length_runs b (beside {b = x} so_far t) =
        subst (λ (at : At). LengthOf b.world at.outcome) (sym t.same) (length_beside x b (way o a rules start x so_far).later t x.at.outcome (length_runs x so_far))

-- a run that ended by another length read that
pub lengths : (o : Ordered) (a b : Point) → ((b : Point) → IsRun o a.at → Runs o a b → IsRun o b.at) → IsStart o a.at → KnowsReadsOnward o a → Runs o a b → (i listed read : ℕ) → b.at.outcome ≡ Changed i listed read
    → (past L : List Event) → a.world.events ≡ Some past → b.world.events ≡ Some (past ++ L) → GaveOtherLength o i listed read L
lengths o a b rules start knows runs i listed read is =
    let so : LengthOf o a b.world (Changed i listed read) = subst (LengthOf o a b.world) is (length_runs o a rules start knows b runs) in so
