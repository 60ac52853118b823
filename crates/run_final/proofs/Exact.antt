-- The journal of a drive that had none holds just its plan and its records, and one closed gate behind them.
use Rattle.std.proofs.Common.{◌≡◌, ◌≢◌, ℕ, ◌+◌, Bool, true, false, List, [], ◌∷◌, ◌++◌, length, drop, map, refl, sym, ap, ◌∙◌, subst, arith, append_assoc, append-nil, length-append}
use Rattle.std.specs.Prelude.{Some, None, Ok, unwrap_or}
use Rattle.std.specs.FinMap.{get, insert, remove}
use Rattle.std.proofs.lemmas.List.{drop_all}
use Rattle.bay_core.specs.declared.event.Event.{Event}
use Rattle.bay_core.specs.declared.event.Event.TheVariants.{Sync}
use Rattle.bay_core.specs.Looks.{NoChange}
use Rattle.bay_core.specs.Map.{Map, content, overwritten, moved}
use Rattle.bay_core.specs.Paths.{journal_path, new_path, part_path}
use Rattle.bay_core.specs.Replay.{Drive, reads, replayed}
use Rattle.bay_core.specs.Went.{AllOn, Only, Ran, Went, Tried}
use Rattle.bay_core.specs.World.{World, Honest}
use Rattle.bay_core.proofs.Honesty.{honest_before}
use Rattle.bay_core.proofs.Looking.{reads_kept, reads_unchanged, no_change_one}
use Rattle.bay_core.proofs.Maps.{insert_here, remove_here, remove_other, moved_here, moved_other}
use Rattle.bay_core.proofs.Runs.{told_since, all_ran}
use Rattle.copy_plan.specs.Fields.{plan_code}
use Rattle.copy_plan.specs.Plan.{PlanValue, IsPlan}
use Rattle.crash_law.proofs.Calls.{all_ok, reads_calls}
use Rattle.drive_journal.specs.declared.record.Gate.{Gate}
use Rattle.drive_journal.specs.declared.record.Rec.{Rec}
use Rattle.drive_journal.specs.Calls.{tidy_calls, publish_calls, place_calls, open_calls}
use Rattle.drive_journal.specs.Journal.{journal_code}
use Rattle.drive_journal.specs.Record.{closed_record}
use Rattle.drive_journal.proofs.Bounds.{gate_behind}
use Rattle.drive_journal.proofs.Keeping.{content_there}
use Rattle.drive_journal.proofs.Opening.{written_over}
use Rattle.offload_law.proofs.Plans.{journal_not_part}
use Rattle.offload_law.proofs.Recorded.{journal_push}
use Rattle.read_back.proofs.Laws.{back_keeps}
use Rattle.recording.specs.Filing.{RecordCalls}
use Rattle.recording.proofs.Leads.{new_not_part}
use Rattle.run_state.specs.Acts.{begin_line, new_journal, record_line}
use Rattle.run_state.specs.Rules.{FitsPlan, IsRun}
use Rattle.run_state.specs.Runs.{Point, Alone, still, turned}
use Rattle.run_state.specs.State.{Ordered, DriveAt, Gone, Fresh, Begun, Found, Sealed, files_of, drive_at}
use Rattle.run_steps.proofs.Drives.{is_due}
use Rattle.run_steps.proofs.Still.{said_same}
use Rattle.run_final.proofs.Turning.{KeepsJournal, path_free, Did, kept, lost, begun, recorded, sealed, found, turn_did}

-- ---- the journal as it is published

-- bytes written at the start of nothing
written_new : (bytes : List ℕ) → overwritten [] 0 bytes ≡ bytes
written_new bytes = ap (λ (l : List ℕ). bytes ++ l) (drop_all (0 + length bytes) [] (omega arith)) ∙ append-nil bytes

module _ (d : ℕ) (R : Map) (journal : List ℕ) where
  abbrev tidy : Map
  tidy = remove (remove R new_path) part_path

  abbrev drafted : Map
  drafted = insert tidy new_path (overwritten (content tidy new_path) 0 journal)

  none_waits : get tidy new_path ≡ None
  none_waits = remove_other (remove R new_path) part_path new_path new_not_part ∙ remove_here R new_path

  published : get (moved drafted new_path journal_path) journal_path ≡ Some journal
  published =
      moved_here drafted new_path journal_path (overwritten (content tidy new_path) 0 journal) (insert_here tidy new_path (overwritten (content tidy new_path) 0 journal))
      ∙ ap (λ (l : List ℕ). Some (overwritten l 0 journal)) (ap (λ o. unwrap_or o []) none_waits)
      ∙ ap Some (written_new journal)

-- ---- a record behind the others

tail_on : (d gate : ℕ) (path piece : List ℕ) → AllOn (Only (Drive d)) (map (λ c. c true) (place_calls d gate path piece ++ open_calls d gate))
unfolding AllOn
tail_on d gate path piece = (refl, (refl, (refl, (refl, (refl, tt)))))

module _ (d gate : ℕ) (path : List ℕ) (rec : Rec) where
  abbrev tail : List Event
  tail = map (λ c. c true) (place_calls d gate path (closed_record rec) ++ open_calls d gate)

  -- the calls that change the drive come last
  read_last : (next : Gate) {old new : World} → Went (Only (Drive d)) (RecordCalls d gate path rec (Ok next)) old new → (m : Map) (before all : List Event) → old.events ≡ Some before → new.events ≡ Some all → reads m all d ≡ replayed (reads m before d) tail
  read_last next went m before all was now =
      let t = told_since went before all was now in
      let act = t.such in
      let rest = act.there in
      let last : rest.second ≡ tail = all_ran (place_calls d gate path (closed_record rec) ++ open_calls d gate) rest.second rest.there in
      let one : act.first ≡ Sync d true ∷ [] = act.here in
      let back_same = back_keeps d part_path rec.size rec.triple (Ok tt) rest.here.0 rest.first rest.here.1 in
      let front = before ++ act.first in
      let mid = front ++ rest.first in
      let grouped : all ≡ mid ++ tail =
      t.is ∙ ap (λ (l : List Event). before ++ l) (act.is ∙ ap (λ (l : List Event). act.first ++ l) (rest.is ∙ ap (λ (l : List Event). rest.first ++ l) last))
      ∙ sym (append_assoc before act.first (rest.first ++ tail)) ∙ sym (append_assoc front rest.first tail) in
      ap (λ (l : List Event). reads m l d) grouped ∙ reads_calls d m mid tail (tail_on d gate path (closed_record rec))
      ∙ ap (λ (x : Map). replayed x tail) (reads_kept m front rest.first d back_same ∙ reads_unchanged m before act.first d (subst NoChange (sym one) (no_change_one (Sync d true) refl)))

  -- a closed gate behind the records so far, over which the record and its gate are written
  over_gate : (front : List ℕ) → length front ≡ gate → overwritten (overwritten (front ++ 0 ∷ []) (gate + 1) (closed_record rec)) gate (1 ∷ []) ≡ front ++ 1 ∷ closed_record rec
  over_gate front long =
      let head = front ++ 0 ∷ [] in
      let place : gate + 1 ≡ length head = ap (λ (n : ℕ). n + 1) (sym long) ∙ sym (length-append front (0 ∷ [])) in
      let all : closed_record rec ++ drop (length (closed_record rec)) [] ≡ closed_record rec = ap (λ (l : List ℕ). closed_record rec ++ l) (drop_all (length (closed_record rec)) [] (omega arith)) ∙ append-nil (closed_record rec) in
      let behind : overwritten head (gate + 1) (closed_record rec) ≡ front ++ 0 ∷ closed_record rec =
      ap (λ (n : ℕ). overwritten head n (closed_record rec)) place ∙ ap (λ (l : List ℕ). overwritten l (length head) (closed_record rec)) (sym (append-nil head)) ∙ written_over head [] (closed_record rec)
      ∙ ap (λ (l : List ℕ). head ++ l) all ∙ append_assoc front (0 ∷ []) (closed_record rec) in
      ap (λ (l : List ℕ). overwritten l gate (1 ∷ [])) behind ∙ ap (λ (n : ℕ). overwritten (front ++ 0 ∷ closed_record rec) n (1 ∷ [])) (sym long) ∙ written_over front (0 ∷ closed_record rec) (1 ∷ [])

  journal_now : (R : Map) (front : List ℕ) → path ≢ journal_path → get R journal_path ≡ Some (front ++ 0 ∷ []) → length front ≡ gate → get (replayed R tail) journal_path ≡ Some (front ++ 1 ∷ closed_record rec)
  journal_now R front other has long =
      let one = moved R part_path path in
      let first = insert one journal_path (overwritten (content one journal_path) (gate + 1) (closed_record rec)) in
      let was : content one journal_path ≡ front ++ 0 ∷ [] = content_there one (front ++ 0 ∷ []) (moved_other R part_path path journal_path journal_not_part (λ e. other (sym e)) ∙ has) in
      let mid : content first journal_path ≡ overwritten (front ++ 0 ∷ []) (gate + 1) (closed_record rec) =
      content_there first (overwritten (content one journal_path) (gate + 1) (closed_record rec)) (insert_here one journal_path (overwritten (content one journal_path) (gate + 1) (closed_record rec)))
      ∙ ap (λ (l : List ℕ). overwritten l (gate + 1) (closed_record rec)) was in
      insert_here first journal_path (overwritten (content first journal_path) gate (1 ∷ []))
      ∙ ap (λ (l : List ℕ). Some (overwritten l gate (1 ∷ []))) mid ∙ ap Some (over_gate front long)

-- ---- by where the drive stands

-- the journal of an honest drive that was begun is exact
abbrev pub IsExact : PlanValue → ℕ → World → DriveAt → Type 0
IsExact p d w (Begun recs gate part) = (m : Map) (L : List Event) → Honest w d m L → get (reads m L d) journal_path ≡ Some (journal_code p recs ++ 0 ∷ [])
IsExact p d w _ = Unit {0}

exact_still : (p : PlanValue) (d : ℕ) {old new : World} (x : DriveAt) → KeepsJournal d old new → IsExact p d old x → IsExact p d new x
exact_still p d Gone keeps exact = tt
exact_still p d Fresh keeps exact = tt
exact_still p d (Begun recs gate part) keeps exact = λ m L h. let b = keeps.back m L h in b.2 ∙ exact m b.0 b.1
exact_still p d (Found recs) keeps exact = tt
exact_still p d Sealed keeps exact = tt

-- what a read gives after calls that were tried on the drive and answered Ok
tried_reads : (d : ℕ) (cs : List (Bool → Event)) {ok : Bool} {old new : World} → Tried d cs ok old new → ok ≡ true → (m : Map) (before all : List Event) → old.events ≡ Some before → new.events ≡ Some all → reads m all d ≡ replayed (reads m before d) (all_ok cs)
tried_reads d cs t well m before all was now =
    let s = told_since t.went before all was now in
    let whole : s.since ≡ all_ok cs = all_ran cs s.since (subst (λ b. Ran cs b s.since) well s.such) in
    ap (λ (K : List Event). reads m K d) s.is ∙ reads_calls d m before s.since s.on ∙ ap (replayed (reads m before d)) whole

module _ (o : Ordered) (d : ℕ) (m c : Point) (run : IsRun o m.at) where
  plan : IsPlan o.plan
  plan = run.plan

  exact_next : IsExact o.plan d m.world (drive_at m.at.drives.each d) → Did o d m c → IsExact o.plan d c.world (drive_at c.at.drives.each d)
  exact_next was (kept same keeps) = subst (IsExact o.plan d c.world) (sym same) (exact_still o.plan d (drive_at m.at.drives.each d) keeps was)
  exact_next was (lost is) = subst (IsExact o.plan d c.world) (sym is) tt
  exact_next was (begun fresh act well is) = subst (IsExact o.plan d c.world) (sym is) (λ x L h.
      let s = (said_same (begin_line d 0 (files_of o.plan) act.ok) act.said act.line d).back x L h in
      let b = honest_before d x s.0 act.tried.0.went s.1 in
      ap (λ (n : Map). get n journal_path) (s.2 ∙ tried_reads d (tidy_calls d None false ++ publish_calls d journal_path (new_journal o.plan)) act.tried.0 well x b.0 s.0 b.1.events s.1.events)
      ∙ published d (reads x b.0 d) (new_journal o.plan) ∙ ap (λ (l : List ℕ). Some (l ++ 0 ∷ [])) (sym (append-nil (plan_code o.plan))))
  exact_next was (recorded rec j next phase due_is act well is) = subst (IsExact o.plan d c.world) (sym is) (λ x L h.
      let at = is_due rec.index (drive_at m.at.drives.each d) j due_is in
      let fits : FitsPlan o.plan (Begun j.recs j.gate j.kept) = subst (FitsPlan o.plan) at.is (run.drives.each d) in
      let had : IsExact o.plan d m.world (Begun j.recs j.gate j.kept) = subst (IsExact o.plan d m.world) at.is was in
      let s = (said_same (record_line d (files_of o.plan) act.file.path rec act.came) act.said act.line d).back x L h in
      let b = honest_before d x s.0 act.went s.1 in
      let went : Went (Only (Drive d)) (RecordCalls d j.gate.at act.file.path rec (Ok next)) m.world act.mid = subst (λ r. Went (Only (Drive d)) (RecordCalls d j.gate.at act.file.path rec r) m.world act.mid) well act.went in
      let long : length (journal_code o.plan j.recs) ≡ j.gate.at = gate_behind o.plan j.recs fits.0 ∙ ap (λ (g : Gate). g.at) (sym fits.1) in
      ap (λ (n : Map). get n journal_path) (s.2 ∙ read_last d j.gate.at act.file.path rec next went x b.0 s.0 b.1.events s.1.events)
      ∙ journal_now d j.gate.at act.file.path rec (reads x b.0 d) (journal_code o.plan j.recs) (path_free o.plan plan rec.index act.file act.is_file) (had x b.0 b.1) long
      ∙ ap Some (sym (journal_push o.plan j.recs rec (0 ∷ []))))
  exact_next was (sealed recs gate part phase at act well is) = subst (IsExact o.plan d c.world) (sym is) tt
  exact_next was (found recs at is) = subst (IsExact o.plan d c.world) (sym is) tt

-- ---- any number of turns

pub exact_after : (o : Ordered) (d : ℕ) (a : Point) → ((b : Point) → Alone o a b → IsRun o b.at) → IsExact o.plan d a.world (drive_at a.at.drives.each d) → (b : Point) → Alone o a b → IsExact o.plan d b.world (drive_at b.at.drives.each d)
exact_after o d a rules start b still = start
exact_after o d a rules start b (turned {b = x} so_far t) = exact_next o d x b (rules x so_far) (exact_after o d a rules start x so_far) (turn_did o d x b (rules x so_far).plan t)
