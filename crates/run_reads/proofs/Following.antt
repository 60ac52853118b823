-- What is done next after a turn of a run, and which records were made so far.
use Rattle.std.proofs.Common.{◌≡◌, inl, inr, ℕ, suc, ◌<◌, ◌≤◌, Bool, true, false, List, [], ◌∷◌, length, refl, sym, ap, ◌∙◌, subst, arith}
use Rattle.std.specs.Prelude.{Option, Some, None, nat_eq, nat_lt, is_some, if◌then◌else◌}
use Rattle.std.specs.List.{AllByRecursion}
use Rattle.bay_core.specs.World.{World}
use Rattle.digest_set.specs.declared.triple.Triple.{Triple}
use Rattle.digest_set.specs.Triple.{triple}
use Rattle.copy_plan.proofs.Above.{map_all, both_all}
use Rattle.drive_journal.specs.declared.order.Listed.{Listed}
use Rattle.drive_journal.specs.declared.record.Rec.{Rec}
use Rattle.fan_core.specs.Flags.{lowest}
use Rattle.fan_copier.specs.declared.copy.FileCopy.{FileCopy}
use Rattle.fan_copier.specs.declared.turn.Turn.{Turn}
use Rattle.fan_copier.specs.declared.turn.Turn.TheVariants.{Going, Dropped, Copied, SourceFailed, Changed, NoDrive}
use Rattle.fan_copier.specs.Copying.{live_of}
use Rattle.run_state.specs.declared.phase.Phase.{Phase}
use Rattle.run_state.specs.declared.phase.Phase.TheVariants.{Begins, File, Copies, Dates, Records, Seals, Clears, Ended}
use Rattle.run_state.specs.Acts.{Goes, BeginTurn, copies_on, CopySettles, other_listed, DateTurn, RecordTurn, SealTurn, is_clear, ClearTurn}
use Rattle.run_state.specs.Runs.{Point}
use Rattle.run_state.specs.State.{Ordered, DriveAt, Gone, Fresh, Begun, Found, Sealed, Drives, At, Journaled, files_of, drive_at, count_sealed, due, after_begin, after_file, after_record, after_seal}
use Rattle.run_state.specs.Turn.{Acted}
use Rattle.run_reads.proofs.Places.{eq_of_same, eq_of_other}

-- ---- what may be done next after this was done

abbrev pub ComesNext : Phase → Phase → Type 0
ComesNext p Ended = Unit {0}
ComesNext (Begins e) (Begins k) = Unit {0}
ComesNext (Begins e) (File k) = Unit {0}
ComesNext (File i) (File k) = k ≡ suc i
ComesNext (File i) (Copies k copy) = k ≡ i
ComesNext (File i) (Seals k) = Unit {0}
ComesNext (Copies i copy) (File k) = k ≡ suc i
ComesNext (Copies i copy) (Copies k next) = k ≡ i
ComesNext (Copies i copy) (Dates k t) = k ≡ i
ComesNext (Copies i copy) (Seals k) = Unit {0}
ComesNext (Dates i t) (Records rec e) = rec.index ≡ i
ComesNext (Records rec e) (File k) = k ≡ suc rec.index
ComesNext (Records rec e) (Records next k) = next ≡ rec
ComesNext (Records rec e) (Seals k) = Unit {0}
ComesNext (Seals e) (Seals k) = Unit {0}
ComesNext (Seals e) Clears = Unit {0}
ComesNext p q = ⊥

end_next : (p : Phase) → ComesNext p Ended
end_next (Begins e) = tt
end_next (File i) = tt
end_next (Copies i copy) = tt
end_next (Dates i t) = tt
end_next (Records rec e) = tt
end_next (Seals e) = tt
end_next Clears = tt
end_next Ended = tt

ended_next : (p : Phase) (new : At) → new.phase ≡ Ended → ComesNext p new.phase
ended_next p new is = subst (ComesNext p) (sym is) (end_next p)

goes_next : (p : Phase) (new : At) (ok : Bool) (next : Phase) → Goes ok next new → ComesNext p next → ComesNext p new.phase
goes_next p new true next (is, going) comes = subst (ComesNext p) (sym is) comes
goes_next p new false next (is, out) comes = ended_next p new is

either_next : (p : Phase) (b : Bool) (x y : Phase) → ComesNext p x → ComesNext p y → ComesNext p (if b then x else y)
either_next p true x y one two = one
either_next p false x y one two = two

begin_after : (w e : ℕ) → ComesNext (Begins e) (after_begin w e)
begin_after w e = either_next (Begins e) (nat_lt (suc e) w) (Begins (suc e)) (File 0) tt tt

file_after : (p : Phase) (n i : ℕ) → ComesNext p (File (suc i)) → ComesNext p (Seals 0) → ComesNext p (after_file n i)
file_after p n i more last = either_next p (nat_lt (suc i) n) (File (suc i)) (Seals 0) more last

copy_after : (n i : ℕ) (copy next : FileCopy) → ComesNext (Copies i copy) (copies_on n i next)
copy_after n i copy next = either_next (Copies i copy) (is_some (lowest (live_of next))) (Copies i next) (after_file n i) refl (file_after (Copies i copy) n i refl tt)

record_after : (w n : ℕ) (rec : Rec) (e : ℕ) → ComesNext (Records rec e) (after_record w n rec e)
record_after w n rec e = either_next (Records rec e) (nat_lt (suc e) w) (Records rec (suc e)) (after_file n rec.index) refl (file_after (Records rec e) n rec.index refl tt)

seal_after : (w e : ℕ) → ComesNext (Seals e) (after_seal w e)
seal_after w e = either_next (Seals e) (nat_lt (suc e) w) (Seals (suc e)) Clears tt tt

module _ (o : Ordered) (old : Drives) (new : At) (before after : World) where
  begin_comes : (e : ℕ) (was : DriveAt) → BeginTurn o e was old new before after → ComesNext (Begins e) new.phase
  begin_comes e Fresh t = goes_next (Begins e) new t.said (after_begin (length old.each) e) t.goes (begin_after (length old.each) e)
  begin_comes e (Begun recs gate kept) t = goes_next (Begins e) new t.said (after_begin (length old.each) e) t.goes (begin_after (length old.each) e)
  begin_comes e Gone t = goes_next (Begins e) new true (after_begin (length old.each) e) t.goes (begin_after (length old.each) e)
  begin_comes e (Found recs) t = goes_next (Begins e) new true (after_begin (length old.each) e) t.goes (begin_after (length old.each) e)
  begin_comes e Sealed t = goes_next (Begins e) new true (after_begin (length old.each) e) t.goes (begin_after (length old.each) e)

  copy_comes : (i : ℕ) (copy : FileCopy) (came : Turn) (next : FileCopy) → CopySettles (files_of o.plan) i came next old new before after → ComesNext (Copies i copy) new.phase
  copy_comes i copy Going next s = goes_next (Copies i copy) new true (Copies i next) s.1 refl
  copy_comes i copy (Dropped e) next s = goes_next (Copies i copy) new s.said (copies_on (files_of o.plan) i next) s.goes (copy_after (files_of o.plan) i copy next)
  copy_comes i copy (Copied t) next s = goes_next (Copies i copy) new true (Dates i t) s.1 refl
  copy_comes i copy SourceFailed next s = ended_next (Copies i copy) new s.1.0
  copy_comes i copy (Changed p q) next s = ended_next (Copies i copy) new s.1.0
  copy_comes i copy NoDrive next s = absurd s

  date_comes : (i : ℕ) (t : Triple) (other : Option Listed) → DateTurn o i t other old new before after → ComesNext (Dates i t) new.phase
  date_comes i t None act = goes_next (Dates i t) new true (Records (record { index = i; size = act.file.size; triple = t; hashed = act.seconds }) 0) act.goes refl
  date_comes i t (Some l) act = ended_next (Dates i t) new act.1.0

  record_comes : (rec : Rec) (e : ℕ) (was : Option Journaled) → RecordTurn o rec e was old new before after → ComesNext (Records rec e) new.phase
  record_comes rec e None act = goes_next (Records rec e) new true (after_record (length old.each) (files_of o.plan) rec e) act.goes (record_after (length old.each) (files_of o.plan) rec e)
  record_comes rec e (Some was) act = goes_next (Records rec e) new act.said (after_record (length old.each) (files_of o.plan) rec e) act.goes (record_after (length old.each) (files_of o.plan) rec e)

  seal_comes : (e : ℕ) (x : DriveAt) → SealTurn o e x old new before after → ComesNext (Seals e) new.phase
  seal_comes e (Begun recs gate kept) act = goes_next (Seals e) new act.said (after_seal (length old.each) e) act.goes (seal_after (length old.each) e)
  seal_comes e (Found recs) act = goes_next (Seals e) new act.said (after_seal (length old.each) e) act.goes (seal_after (length old.each) e)
  seal_comes e Fresh act = absurd act
  seal_comes e Gone act = goes_next (Seals e) new true (after_seal (length old.each) e) act.goes (seal_after (length old.each) e)
  seal_comes e Sealed act = goes_next (Seals e) new true (after_seal (length old.each) e) act.goes (seal_after (length old.each) e)

  clear_comes : (required sealed : ℕ) (is_due : Bool) → ClearTurn required sealed is_due new before after → ComesNext Clears new.phase
  clear_comes required sealed true act = ended_next Clears new act.ends.0
  clear_comes required sealed false act = ended_next Clears new act.0.0

pub turn_comes : (o : Ordered) (b c : Point) (phase : Phase) → b.at.phase ≡ phase → Acted o phase b.at c.at b.pool c.pool b.world c.world → ComesNext phase c.at.phase
turn_comes o b c (Begins e) is t = begin_comes o b.at.drives c.at b.world c.world e (drive_at b.at.drives.each e) t
turn_comes o b c (File i) is (inl t) = goes_next (File i) c.at true (Copies i t.copy) t.goes refl
turn_comes o b c (File i) is (inr t) = goes_next (File i) c.at true (after_file (files_of o.plan) i) t.1.goes (file_after (File i) (files_of o.plan) i refl tt)
turn_comes o b c (Copies i copy) is t = copy_comes o b.at.drives c.at t.mid c.world i copy t.came t.next t.settles
turn_comes o b c (Dates i x) is t = date_comes o b.at.drives c.at b.world c.world i x (other_listed o.listed i x) t
turn_comes o b c (Records rec e) is t = record_comes o b.at.drives c.at b.world c.world rec e (due rec.index (drive_at b.at.drives.each e)) t
turn_comes o b c (Seals e) is t = seal_comes o b.at.drives c.at b.world c.world e (drive_at b.at.drives.each e) t
turn_comes o b c Clears is t = clear_comes o b.at.drives c.at b.world c.world o.copies (count_sealed b.at.drives.each) (is_clear (count_sealed b.at.drives.each) o.copies) t.1
turn_comes o b c Ended is t = ended_next Ended c.at (ap (λ (x : At). x.phase) t.0 ∙ is)

-- ---- a file that is not copied any more

abbrev pub IsPast : ℕ → Phase → Type 0
IsPast i (Begins e) = ⊥
IsPast i (File k) = i < k
IsPast i (Copies k copy) = i < k
IsPast i (Dates k t) = i ≤ k
IsPast i (Records rec e) = i ≤ rec.index
IsPast i _ = Unit {0}

pub past_next : (i : ℕ) (p q : Phase) → ComesNext p q → IsPast i p → IsPast i q
past_next i (Begins e) q comes past = absurd past
past_next i p Ended comes past = tt
past_next i (File k) (File n) comes past = omega (arith, comes, past)
past_next i (File k) (Copies n copy) comes past = omega (arith, comes, past)
past_next i (File k) (Seals e) comes past = tt
past_next i (Copies k copy) (File n) comes past = omega (arith, comes, past)
past_next i (Copies k copy) (Copies n next) comes past = omega (arith, comes, past)
past_next i (Copies k copy) (Dates n t) comes past = omega (arith, comes, past)
past_next i (Copies k copy) (Seals e) comes past = tt
past_next i (Dates k t) (Records rec e) comes past = omega (arith, comes, past)
past_next i (Records rec e) (File n) comes past = omega (arith, comes, past)
past_next i (Records rec e) (Records next n) comes past = subst (λ (x : Rec). i ≤ x.index) (sym comes) past
past_next i (Records rec e) (Seals n) comes past = tt
past_next i (Seals e) (Seals n) comes past = tt
past_next i (Seals e) Clears comes past = tt
past_next i p q comes past = absurd comes

-- ---- the records that were made so far, the last one first

-- their numbers fall, from below n on
abbrev pub AreBelow : ℕ → List Rec → Type 0
AreBelow n [] = Unit {0}
AreBelow n (rec ∷ older) = (rec.index < n) × AreBelow rec.index older

-- by what is done next
abbrev pub AreSoFar : Phase → List Rec → Type 0
AreSoFar (Begins e) made = AreBelow 0 made
AreSoFar (File i) made = AreBelow i made
AreSoFar (Copies i copy) made = AreBelow i made
AreSoFar (Dates i t) made = AreBelow i made
AreSoFar (Records rec e) made = (older : List Rec) × (made ≡ rec ∷ older) × AreBelow rec.index older
AreSoFar _ made = (n : ℕ) × AreBelow n made

-- a record is made where the moment of its file is asked
abbrev pub made_next : Phase → Phase → List Rec → List Rec
made_next (Dates i t) (Records rec e) made = rec ∷ made
made_next p q made = made

below_more : (m n : ℕ) (made : List Rec) → m ≤ n → AreBelow m made → AreBelow n made
below_more m n [] less below = tt
below_more m n (rec ∷ older) less below = let first = below.0 in (omega (arith, less, first), below.1)

below_last : (rec : Rec) (e : ℕ) (made : List Rec) → AreSoFar (Records rec e) made → AreBelow (suc rec.index) made
below_last rec e made (older, is, below) = subst (AreBelow (suc rec.index)) (sym is) (omega arith, below)

pub so_far_next : (p q : Phase) (made : List Rec) → ComesNext p q → AreSoFar p made → AreSoFar q (made_next p q made)
so_far_next (Begins e) (Begins k) made comes so = so
so_far_next (Begins e) (File k) made comes so = below_more 0 k made (omega arith) so
so_far_next (Begins e) Ended made comes so = (0, so)
so_far_next (File i) (File k) made comes so = below_more i k made (omega (arith, comes)) so
so_far_next (File i) (Copies k copy) made comes so = below_more i k made (omega (arith, comes)) so
so_far_next (File i) (Seals k) made comes so = (i, so)
so_far_next (File i) Ended made comes so = (i, so)
so_far_next (Copies i copy) (File k) made comes so = below_more i k made (omega (arith, comes)) so
so_far_next (Copies i copy) (Copies k next) made comes so = below_more i k made (omega (arith, comes)) so
so_far_next (Copies i copy) (Dates k t) made comes so = below_more i k made (omega (arith, comes)) so
so_far_next (Copies i copy) (Seals k) made comes so = (i, so)
so_far_next (Copies i copy) Ended made comes so = (i, so)
so_far_next (Dates i t) (Records rec e) made comes so = (made, refl, below_more i rec.index made (omega (arith, comes)) so)
so_far_next (Dates i t) Ended made comes so = (i, so)
so_far_next (Records rec e) (File k) made comes so = below_more (suc rec.index) k made (omega (arith, comes)) (below_last rec e made so)
so_far_next (Records rec e) (Records next k) made comes so = subst (λ (x : Rec). (older : List Rec) × (made ≡ x ∷ older) × AreBelow x.index older) (sym comes) so
so_far_next (Records rec e) (Seals k) made comes so = (suc rec.index, below_last rec e made so)
so_far_next (Records rec e) Ended made comes so = (suc rec.index, below_last rec e made so)
so_far_next (Seals e) (Seals k) made comes so = so
so_far_next (Seals e) Clears made comes so = so
so_far_next (Seals e) Ended made comes so = so
so_far_next Clears Ended made comes so = so
so_far_next Ended Ended made comes so = so
so_far_next p q made comes so = absurd comes

-- ---- one record for each file

-- the records that were made are those of this function
abbrev pub AreOf : (ℕ → Rec) → List Rec → Type 0
AreOf record_of made = AllByRecursion (λ (rec : Rec). rec ≡ record_of rec.index) made

pub of_before : (record_of : ℕ → Rec) (p q : Phase) (made : List Rec) → AreOf record_of (made_next p q made) → AreOf record_of made
of_before record_of (Dates i t) (Records rec e) made all = all.1
of_before record_of p q made all = all

-- the record that is being made is
pub of_last : (record_of : ℕ → Rec) (rec : Rec) (e : ℕ) (made : List Rec) → AreSoFar (Records rec e) made → AreOf record_of made → rec ≡ record_of rec.index
of_last record_of rec e made (older, is, below) all =
    let whole : AreOf record_of (rec ∷ older) = subst (AreOf record_of) is all in
    whole.0

all_below : (n : ℕ) (made : List Rec) → AreBelow n made → AllByRecursion (λ (rec : Rec). rec.index < n) made
all_below n [] below = tt
all_below n (rec ∷ older) (less, below) = (less, map_all (λ (x : Rec). x.index < rec.index) (λ (x : Rec). x.index < n) (λ x low. omega (arith, low, less)) older (all_below rec.index older below))

-- there is such a function
pub record Chosen (made : List Rec) : Type 0 where
  pub record_of : ℕ → Rec
  pub are : AreOf record_of made

none_made : Rec
none_made = record { index = 0; size = 0; triple = triple []; hashed = 0 }

-- this record at its number, and else what another function gives
abbrev picked : Rec → (ℕ → Rec) → ℕ → Rec
picked rec rest i = if nat_eq i rec.index then rec else rest i

picked_here : (rec : Rec) (rest : ℕ → Rec) → rec ≡ picked rec rest rec.index
picked_here rec rest = sym (ap (λ (b : Bool). if b then rec else rest rec.index) (eq_of_same rec.index rec.index refl))

picked_other : (rec : Rec) (rest : ℕ → Rec) (x : Rec) → x ≡ rest x.index → x.index < rec.index → x ≡ picked rec rest x.index
picked_other rec rest x of low = of ∙ sym (ap (λ (b : Bool). if b then rec else rest x.index) (eq_of_other x.index rec.index (λ same. omega (arith, low, same))))

chosen : (n : ℕ) (made : List Rec) → AreBelow n made → Chosen made
chosen n [] below = record { record_of = λ i. none_made; are = tt }
chosen n (rec ∷ older) below =
    let rest = chosen rec.index older below.1 in
    record {
      record_of = picked rec rest.record_of;
      are = (
        picked_here rec rest.record_of,
        both_all (λ (x : Rec). x ≡ rest.record_of x.index) (λ (x : Rec). x.index < rec.index) (λ (x : Rec). x ≡ picked rec rest.record_of x.index)
            (λ x of low. picked_other rec rest.record_of x of low) older rest.are (all_below rec.index older below.1),
      );
    }

-- whatever is done next
pub choose : (phase : Phase) (made : List Rec) → AreSoFar phase made → Chosen made
choose (Begins e) made so = chosen 0 made so
choose (File i) made so = chosen i made so
choose (Copies i copy) made so = chosen i made so
choose (Dates i t) made so = chosen i made so
choose (Records rec e) made so = chosen (suc rec.index) made (below_last rec e made so)
choose (Seals e) made so = chosen so.0 made so.1
choose Clears made so = chosen so.0 made so.1
choose Ended made so = chosen so.0 made so.1
