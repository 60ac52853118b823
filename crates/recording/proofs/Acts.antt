-- The act that records a file, from its calls.
use Rattle.std.proofs.Common.{◌≡◌, ◌≢◌, inl, inr, ℕ, Bool, true, false, ◌+◌, List, [], ◌∷◌, ◌++◌, map, refl, sym, ap, ◌∙◌, subst, arith, append_assoc}
use Rattle.std.specs.Prelude.{Some, None, Result, Ok, Err, is_ok}
use Rattle.std.specs.FinMap.{get, insert, remove}
use Rattle.std.proofs.lemmas.Bool.{false≢true}
use Rattle.bay_core.specs.declared.event.Event.{Event}
use Rattle.bay_core.specs.declared.event.Event.TheVariants.{Sync}
use Rattle.bay_core.specs.Looks.{NoChange}
use Rattle.bay_core.specs.Map.{Map, content, overwritten, moved}
use Rattle.bay_core.specs.Paths.{journal_path, new_path, part_path}
use Rattle.bay_core.specs.Replay.{Drive, reads, replayed}
use Rattle.bay_core.specs.World.{World, Honest, Rose}
use Rattle.bay_core.specs.Went.{AllOn, Only, Ran, Went, Tried, IsCall, sync_call}
use Rattle.bay_core.proofs.Looking.{reads_kept, reads_unchanged, untouched_no_change, no_change_one}
use Rattle.bay_core.proofs.Maps.{insert_other, remove_here, moved_file, moved_none, moved_other, there_or_none}
use Rattle.bay_core.proofs.Runs.{went_such, went_then, told_since, told_between, all_ran, rose_since}
use Rattle.path_text.specs.Path.{is_control_path}
use Rattle.crash_law.specs.Protocol.{Settled}
use Rattle.crash_law.proofs.Calls.{reads_calls}
use Rattle.crash_law.proofs.Staying.{rests_still}
use Rattle.drive_journal.specs.declared.record.Gate.{Gate}
use Rattle.drive_journal.specs.declared.record.Rec.{Rec}
use Rattle.drive_journal.specs.Calls.{place_calls, open_calls}
use Rattle.drive_journal.specs.Record.{closed_record}
use Rattle.offload_law.specs.Stages.{Begun}
use Rattle.offload_law.specs.Steps.{offload}
use Rattle.offload_law.proofs.Plans.{not_scratch, journal_not_part, journal_not_new}
use Rattle.read_back.specs.declared.back.ReadBackError.{ReadBackError}
use Rattle.read_back.specs.declared.back.ReadBackError.TheVariants.{DriveFailed, Absent, Length, Differs}
use Rattle.read_back.specs.Back.{ReadBack, HasCopy, OkExactly}
use Rattle.read_back.proofs.Laws.{back_keeps}
use Rattle.recording.specs.Drives.{Copying, IsCopying, In, ToldOf, UnderWay}
use Rattle.recording.specs.Filing.{Settles, RecordCalls, RecordCause, Records, OkOrFault, FailsAlone, Waits, Ready, Files, Cleans}
use Rattle.recording.proofs.Leads.{new_not_part}
use Rattle.recording.proofs.Pending.{flushes_all}
use Rattle.recording.proofs.Turns.{told_still}

-- an error of the read-back, and of the act
abbrev back_err : ReadBackError → Result Unit ReadBackError
back_err e = Err e

abbrev act_err : ReadBackError → Result Gate ReadBackError
act_err e = Err e

-- one barrier that answered Ok
one_sync : (d : ℕ) (L : List Event) → Ran (sync_call d ∷ []) true L → IsCall (Sync d true) L
one_sync d L ran = all_ran (sync_call d ∷ []) L ran

module _ (d gate : ℕ) (path : List ℕ) (rec : Rec) {old mid : World} (synced : Tried d (sync_call d ∷ []) true old mid) where
  -- the barrier and then such calls
  settles : {P : List Event → Type 0} {new : World} → Went (Only (Drive d)) P mid new → Went (Only (Drive d)) (Settles d P) old new
  settles w = went_then (went_such (one_sync d) synced.went) w

  -- the read-back failed
  pub back_calls : (e : ReadBackError) {new : World} → ReadBack d part_path rec.size rec.triple (Err e) mid new → Went (Only (Drive d)) (RecordCalls d gate path rec (Err e)) old new
  back_calls DriveFailed r = went_such (λ L s. inr (inl s)) (settles (went_such (λ L c. (r.bytes, c)) r.went))
  back_calls Absent r = settles (went_such (λ L c. (r.bytes, c)) r.went)
  back_calls (Length a b) r = settles (went_such (λ L c. (r.bytes, c)) r.went)
  back_calls (Differs a b) r = settles (went_such (λ L c. (r.bytes, c)) r.went)

  -- the read-back was good, and the file was recorded
  pub ok_calls : (next : Gate) {w new : World} → ReadBack d part_path rec.size rec.triple (Ok tt) mid w → Tried d (place_calls d gate path (closed_record rec) ++ open_calls d gate) true w new
      → Went (Only (Drive d)) (RecordCalls d gate path rec (Ok next)) old new
  ok_calls next r t = settles (went_then (went_such (λ L c. (r.bytes, c)) r.went) t.went)

  -- or a call of that failed
  pub failed_calls : {w new : World} → ReadBack d part_path rec.size rec.triple (Ok tt) mid w → Tried d (place_calls d gate path (closed_record rec) ++ open_calls d gate) false w new
      → Went (Only (Drive d)) (RecordCalls d gate path rec (Err DriveFailed)) old new
  failed_calls r t = went_such (λ L s. inr (inr s)) (settles (went_then (went_such (λ L c. (r.bytes, c)) r.went) t.went))

  pub failed_cause : (w new : World) (r : Result Unit ReadBackError) → ReadBack d part_path rec.size rec.triple r mid w → Rose (w.faults (Drive d)) (new.faults (Drive d)) → Rose (old.faults (Drive d)) (new.faults (Drive d))
  failed_cause w new r b rose = rose_since (Drive d) (new.faults (Drive d)) synced.went (rose_since (Drive d) (new.faults (Drive d)) b.went rose)

  pub back_cause : (e : ReadBackError) {new : World} → ReadBack d part_path rec.size rec.triple (Err e) mid new → RecordCause d (Err e) old new
  back_cause e {new} b = λ is. rose_since (Drive d) (new.faults (Drive d)) synced.went (b.cause (same e is))
    where
      same : (e : ReadBackError) → act_err e ≡ act_err DriveFailed → back_err e ≡ back_err DriveFailed
      same e is = let both : e ≡ DriveFailed = cc is in ap back_err both

-- the barrier failed
pub sync_calls : (d gate : ℕ) (path : List ℕ) (rec : Rec) {old new : World} → Tried d (sync_call d ∷ []) false old new → Went (Only (Drive d)) (RecordCalls d gate path rec (Err DriveFailed)) old new
sync_calls d gate path rec t = went_such (λ L r. inl r) t.went

-- what is read does not change by a barrier and a read-back
module _ (d : ℕ) (size : ℕ) {old mid new : World} (synced : Tried d (sync_call d ∷ []) true old mid) {r : Result Unit ReadBackError} (rec : Rec) (back : ReadBack d part_path rec.size rec.triple r mid new) where
  pub reads_same : (m : Map) (before all : List Event) → old.events ≡ Some before → new.events ≡ Some all → reads m all d ≡ reads m before d
  reads_same m before all was now =
      let b = back.went.told all now in
      let s = told_since synced.went before b.before was b.was in
      let first : reads m b.before d ≡ reads m before d = ap (λ K. reads m K d) s.is ∙ reads_unchanged m before s.since d (subst NoChange (sym (one_sync d s.since s.such)) (no_change_one (Sync d true) refl)) in
      ap (λ K. reads m K d) b.is ∙ reads_kept m b.before b.since d (back_keeps d part_path rec.size rec.triple r back.bytes b.since b.such) ∙ first

-- an honest drive that has the recorded bytes in its part is not found to have others
pub fails_alone : (d : ℕ) (rec : Rec) (e : ReadBackError) {old mid new : World} → Tried d (sync_call d ∷ []) true old mid → ReadBack d part_path rec.size rec.triple (Err e) mid new → OkExactly d part_path rec.size rec.triple (Err e) new →
    FailsAlone d rec (Err e) old new
fails_alone d rec e {old} {mid} {new} synced back exactly = record {
  only = λ m before all h now has.
      let w0 = synced.went in
      let same = reads_same d rec.size synced rec back m before all h.events now in
      let honest : Honest new d m all = record {
        honest = ap (λ a. a.honest d) (back.went.attached ∙ w0.attached) ∙ h.honest;
        start = ap (λ a. a.start d) (back.went.attached ∙ w0.attached) ∙ h.start;
        events = now;
      } in
      let here : HasCopy rec.size rec.triple (get (reads m all d) part_path) = subst (λ (n : Map). HasCopy rec.size rec.triple (get n part_path)) (sym same) has in
      by e (HasCopy rec.size rec.triple (get (reads m all d) part_path)) (exactly m all honest).1 here;
}
  where
    by : (e : ReadBackError) (H : Type 0) → ((back_err e ≢ back_err DriveFailed) × H → is_ok (back_err e) ≡ true) → H → OkOrFault (act_err e)
    by DriveFailed H back has = tt
    by Absent H back has = absurd (false≢true (back ((λ is. cc), has)))
    by (Length a b) H back has = absurd (false≢true (back ((λ is. cc), has)))
    by (Differs a b) H back has = absurd (false≢true (back ((λ is. cc), has)))

module _ (d : ℕ) (rec : Rec) (D : Copying) (ok : IsCopying D) (recs : List Rec) where
  -- after the barrier and the read-back the drive is at rest, with its records
  pub settled_back : {old mid new : World} {r : Result Unit ReadBackError} → Tried d (sync_call d ∷ []) true old mid → ReadBack d part_path rec.size rec.triple r mid new → (past before all : List Event) → old.events ≡ Some (past ++ before) → new.events ≡ Some (past ++ all) →
      UnderWay D d before recs → In D d all (Settled (Begun recs)) × (reads D.start all d ≡ reads D.start before d) × (ToldOf D d all ≡ ToldOf D d before)
  settled_back {old} {mid} {new} {r} synced back past before all was now h =
      let P = offload d D.work D.start in
      let b = told_between synced.went back.went past before all was now in
      let f = flushes_all d true old mid synced in
      let rest = f.done refl D recs past before b.0 was b.1 h in
      let still = rests_still P d (went_such (λ L c. untouched_no_change L (back_keeps d part_path rec.size rec.triple r back.bytes L c)) back.went) D.start D.stage (Begun recs) past b.0 all b.1 now rest.0 in
      (still.0, still.1 ∙ rest.1, still.2 ∙ told_still D d synced.went past before b.0 was b.1)

  -- and so it is ready for the record
  pub ready_back : {old mid new : World} {r : Result Unit ReadBackError} {gate : ℕ} {path : List ℕ} → Tried d (sync_call d ∷ []) true old mid → ReadBack d part_path rec.size rec.triple r mid new → (past before all : List Event) → old.events ≡ Some (past ++ before) → new.events ≡ Some (past ++ all) →
      Waits D d before recs gate path rec → Ready D d all recs gate path rec
  ready_back synced back past before all was now h =
      let s = settled_back synced back past before all was now h.under_way in
      record {
        now = s.0;
        waits = record {
          under_way = record { state = Settled (Begun recs); is_in = s.0; free = tt; at = refl };
          told = omega (arith, h.told, s.2);
          file = h.file;
          next = h.next;
          gate_is = h.gate_is;
          path_is = h.path_is;
          part = ap (λ (m : Map). get m part_path) s.1 ∙ h.part;
          sized = h.sized;
          true_record = h.true_record;
        };
      }

-- the barrier failed
pub sync_records : (d gate : ℕ) (path : List ℕ) (rec : Rec) {old new : World} → Tried d (sync_call d ∷ []) false old new → Records d gate path rec false old new
sync_records d gate path rec {old} {new} t = record {
  keeps = λ D is recs past before all was now h.
      let f = (flushes_all d false old new t).keeps D recs past before all was now h.under_way in
      (record { state = f.0.state; is_in = f.0.is_in }, f.1);
  done = λ yes. absurd (false≢true yes);
}

-- the read-back failed
pub back_records : (d gate : ℕ) (path : List ℕ) (rec : Rec) {r : Result Unit ReadBackError} {old mid new : World} → Tried d (sync_call d ∷ []) true old mid → ReadBack d part_path rec.size rec.triple r mid new → Records d gate path rec false old new
back_records d gate path rec synced back = record {
  keeps = λ D is recs past before all was now h.
      let s = settled_back d rec D is recs synced back past before all was now h.under_way in
      (record { state = Settled (Begun recs); is_in = s.0 }, s.2);
  done = λ yes. absurd (false≢true yes);
}

-- the file was recorded, or a first part of that was done
pub file_records : (d gate : ℕ) (path : List ℕ) (rec : Rec) (ok : Bool) {r : Result Unit ReadBackError} {old mid w new : World} → Tried d (sync_call d ∷ []) true old mid → ReadBack d part_path rec.size rec.triple r mid w →
    Tried d (place_calls d gate path (closed_record rec) ++ open_calls d gate) ok w new → Files d gate path rec ok w new → Records d gate path rec ok old new
file_records d gate path rec ok {r} {old} {mid} {w} {new} synced back t files = record {
  keeps = λ D is recs past before all was now h.
      let p = told_between (went_then synced.went back.went) t.went past before all was now in
      let ready = ready_back d rec D is recs synced back past before p.0 was p.1 h in
      let s = settled_back d rec D is recs synced back past before p.0 was p.1 h.under_way in
      (files.keeps D is recs past p.0 all p.1 now ready, told_still D d t.went past p.0 all p.1 now ∙ s.2);
  done = λ yes D is recs past before all was now h.
      let p = told_between (went_then synced.went back.went) t.went past before all was now in
      let ready = ready_back d rec D is recs synced back past before p.0 was p.1 h in
      files.done yes D is recs past p.0 all p.1 now ready;
}

-- ---- what is read after it

pub gone_from : (m : Map) (from to : List ℕ) → from ≢ to → get (moved m from to) from ≡ None
gone_from m from to differ = elim (there_or_none (get m from)) [
  | inl found ↦ ap (λ (x : Map). get x from) (moved_file m from to found.0 found.1) ∙ insert_other (remove m from) to found.0 from differ ∙ remove_here m from
  | inr none ↦ ap (λ (x : Map). get x from) (moved_none m from to none) ∙ none
]

tail_on : (d gate : ℕ) (path piece : List ℕ) → AllOn (Only (Drive d)) (map (λ c. c true) (place_calls d gate path piece ++ open_calls d gate))
unfolding AllOn
tail_on d gate path piece = (refl, (refl, (refl, (refl, (refl, tt)))))

module _ (d gate : ℕ) (path : List ℕ) (rec : Rec) (next : Gate) (free : is_control_path path ≡ false) {old new : World} (went : Went (Only (Drive d)) (RecordCalls d gate path rec (Ok next)) old new) (m : Map) (before all : List Event) (was : old.events ≡ Some before) (now : new.events ≡ Some all) where
  abbrev tail : List Event
  tail = map (λ c. c true) (place_calls d gate path (closed_record rec) ++ open_calls d gate)

  -- the calls that change the drive come last
  read_last : reads m all d ≡ replayed (reads m before d) tail
  read_last =
      let t = told_since went before all was now in
      let act = t.such in
      let rest = act.there in
      let last : rest.second ≡ tail = all_ran (place_calls d gate path (closed_record rec) ++ open_calls d gate) rest.second rest.there in
      let one : act.first ≡ Sync d true ∷ [] = act.here in
      let back_same = back_keeps d part_path rec.size rec.triple (Ok tt) rest.here.0 rest.first rest.here.1 in
      let front = before ++ act.first in
      let mid = front ++ rest.first in
      let grouped : all ≡ mid ++ tail =
      t.is ∙ ap (λ (l : List Event). before ++ l) (act.is ∙ ap (λ (l : List Event). act.first ++ l) (rest.is ∙ ap (λ (l : List Event). rest.first ++ l) last))
      ∙ sym (append_assoc before act.first (rest.first ++ tail)) ∙ sym (append_assoc front rest.first tail) in
      ap (λ (l : List Event). reads m l d) grouped ∙ reads_calls d m mid tail (tail_on d gate path (closed_record rec))
      ∙ ap (λ (x : Map). replayed x tail) (reads_kept m front rest.first d back_same ∙ reads_unchanged m before act.first d (subst NoChange (sym one) (no_change_one (Sync d true) refl)))

  off_part : path ≢ part_path
  off_part is = not_scratch path free (inr is)

  off_new : path ≢ new_path
  off_new is = not_scratch path free (inl is)

  -- the two writes to the journal are elsewhere
  beside_journal : (R : Map) (q : List ℕ) → q ≢ journal_path → get (replayed R tail) q ≡ get (moved R part_path path) q
  beside_journal R q off =
      let one = moved R part_path path in
      let first = insert one journal_path (overwritten (content one journal_path) (gate + 1) (closed_record rec)) in
      insert_other first journal_path (overwritten (content first journal_path) gate (1 ∷ [])) q off
      ∙ insert_other one journal_path (overwritten (content one journal_path) (gate + 1) (closed_record rec)) q off

  pub no_part_left : get (reads m all d) part_path ≡ None
  no_part_left =
      ap (λ (x : Map). get x part_path) read_last
      ∙ beside_journal (reads m before d) part_path (λ is. journal_not_part (sym is))
      ∙ gone_from (reads m before d) part_path path (λ is. off_part (sym is))

  pub new_left : get (reads m all d) new_path ≡ get (reads m before d) new_path
  new_left =
      ap (λ (x : Map). get x new_path) read_last
      ∙ beside_journal (reads m before d) new_path (λ is. journal_not_new (sym is))
      ∙ moved_other (reads m before d) part_path path new_path new_not_part (λ is. off_new (sym is))

pub cleans : (d gate : ℕ) (path : List ℕ) (rec : Rec) (next : Gate) {old new : World} → is_control_path path ≡ false → Went (Only (Drive d)) (RecordCalls d gate path rec (Ok next)) old new → Cleans d true old new
cleans d gate path rec next free went = record {
  no_part = λ yes m before all was now. no_part_left d gate path rec next free went m before all was now;
  same_new = λ yes m before all was now. new_left d gate path rec next free went m before all was now;
}

pub cleans_none : (d : ℕ) {old new : World} → Cleans d false old new
cleans_none d = record { no_part = λ yes. absurd (false≢true yes); same_new = λ yes. absurd (false≢true yes) }
