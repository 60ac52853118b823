use Rattle.std.proofs.Common.{◌≡◌, ◌⊎◌, inl, inr, ℕ, suc, true, false, List, [], ◌∷◌, ◌++◌, length, get_or, refl, sym, ap, ◌∙◌, subst, arith, IsTrue}
use Rattle.std.proofs.lemmas.List.{length_push}
use Rattle.std.proofs.lemmas.Bool.{false≢true}
use Rattle.bay_core.specs.declared.event.Event.{Event}
use Rattle.crash_law.specs.Protocol.{is_done, failed, IsSafe}
use Rattle.std.specs.FinMap.{insert}
use Rattle.bay_core.specs.Map.{Map, moved, content, overwritten}
use Rattle.bay_core.specs.Torn.{Torn, TornFile}
use Rattle.bay_core.specs.Replay.{changed}
use Rattle.bay_core.specs.Paths.{journal_path, new_path}
use Rattle.copy_plan.specs.Plan.{IsPlan, list_of, PlanValue}
use Rattle.drive_journal.specs.Record.{record_code}
use Rattle.drive_journal.specs.Journal.{journal_code}
use Rattle.drive_journal.proofs.Opening.{written_over}
use Rattle.offload_law.specs.Stages.{Offload, Stage, Fresh, Begun, Sealed, progress}
use Rattle.offload_law.specs.Steps.{Holds, Commits, publishes, opens, seals, IsFree, Prepares, offload}
use Rattle.bay_core.proofs.Changes.{moved_renamed, torn_renamed, torn_other}
use Rattle.bay_core.proofs.Files.{torn_byte}
use Rattle.bay_core.specs.declared.event.Event.TheVariants.{AttachSource, AttachDrive, AttachFailed, SourceList, SourceRead, DriveList, DriveRead, Write, Sync, Rename, Remove, Moment, Pick, Say}
use Rattle.bay_core.specs.Looks.{is_change}
use Rattle.offload_law.proofs.Committed.{published, gate_open, gate_written, journal_is, sealed}
use Rattle.offload_law.proofs.Prepared.{free_keeps, behind_keeps}
use Rattle.offload_law.proofs.steps_are_safe.Goals as goal

rises : {o : Offload} {m : Map} {s t : Stage} {e : Event} → Commits o m s e t → progress o.plan t ≡ suc (progress o.plan s)
rises (publishes drafted) = refl
rises (opens {recs = recs} {rec = rec} staged) = ap suc (omega (arith, length_push recs rec))
rises (seals full new early) = ap (λ (n : ℕ). suc (suc n)) (sym full)

module _ (o : Offload) (plan : IsPlan o.plan) (base : Map) where
  prepared : (s : Stage) (e : Event) (m new : Map) → Prepares o.plan s e → Holds o base s m → Torn e m new → Holds o base s new
  prepared s (Write d path at piece done) m new (inl free) h torn =
      free_keeps o plan base s m new h (λ q f. torn_other (Write d path at piece done) m new torn q (λ e. f (subst (IsFree o.plan s) (sym e) free)))
  prepared s (Write d path at piece done) m new (inr behind) h (inl same) = subst (Holds o base s) (sym same) h
  prepared Fresh (Write d path at piece done) m new (inr behind) h (inr torn) = absurd behind.1
  prepared (Sealed recs finish) (Write d path at piece done) m new (inr behind) h (inr torn) = absurd behind.1
  prepared (Begun recs) (Write d path at piece done) m new (inr behind) h (inr torn) =
      let torn2 : TornFile at (length piece) (content m journal_path) torn.0 = subst (λ (q : List ℕ). TornFile at (length piece) (content m q) torn.0) behind.0 torn.1 in
      subst (Holds o base (Begun recs)) (sym (torn.2 ∙ ap (λ (q : List ℕ). insert m q torn.0) behind.0)) (behind_keeps o plan base m recs at (length piece) torn.0 h behind.1 torn2)
  prepared s (Rename d from to done) m new free h torn =
      free_keeps o plan base s m new h (λ q f. torn_other (Rename d from to done) m new torn q (elim [ inl e ↦ f (subst (IsFree o.plan s) (sym e) free.0) | inr e ↦ f (subst (IsFree o.plan s) (sym e) free.1) ]))
  prepared s (Remove d path done) m new free h torn =
      free_keeps o plan base s m new h (λ q f. torn_other (Remove d path done) m new torn q (λ e. f (subst (IsFree o.plan s) (sym e) free)))
  prepared s (AttachDrive d place) m new free h torn = absurd free
  prepared s (AttachSource n place) m new free h torn = absurd free
  prepared s (SourceList n got) m new free h torn = absurd free
  prepared s (SourceRead n path at want got) m new free h torn = absurd free
  prepared s (AttachFailed place) m new free h torn = absurd free
  prepared s (DriveList d got) m new free h torn = absurd free
  prepared s (DriveRead d path at want got) m new free h torn = absurd free
  prepared s (Moment t0) m new free h torn = absurd free
  prepared s (Sync d done) m new free h torn = absurd free
  prepared s (Pick n) m new free h torn = absurd free
  prepared s (Say line done) m new free h torn = absurd free

  committed : {m new : Map} {s t : Stage} {e : Event} → Commits o m s e t → Holds o base s m → Torn e m new → Holds o base s new ⊎ Holds o base t new
  committed {m = m} {new = new} (publishes {d = d} {ok = done} drafted) h torn = elim (torn_renamed d done m new new_path journal_path torn) [
    | inl same ↦ inl (subst (Holds o base Fresh) (sym same) h)
    | inr to ↦ inr (published o plan base m new to drafted drafted.no_list h)
  ]
  committed (opens {recs = recs} staged) h (inl same) = inl (subst (Holds o base (Begun recs)) (sym same) h)
  committed {m = m} (opens {recs = recs} {rec = rec} staged) h (inr torn) =
      let torn2 = subst (λ (l : List ℕ). TornFile (length (journal_code o.plan recs)) 1 l torn.0) (journal_is o plan base m recs rec staged staged.true_record staged.whole staged.closed h) torn.1 in
      let is = torn_byte (journal_code o.plan recs) staged.gate (record_code rec ++ staged.next_gate ∷ staged.rest) torn2 in
      subst (λ (f : Map). Holds o base (Begun recs) f ⊎ Holds o base (Begun (recs ++ rec ∷ [])) f) (sym torn.2)
      (gate_written o plan base m recs rec staged staged.true_record staged.whole staged.closed h (get_or torn.0 (length (journal_code o.plan recs)) 0) torn.0 is)
  committed {m = m} {new = new} (seals {d = d} {ok = done} {recs = recs} {finish = finish} full text early) h torn = elim (torn_renamed d done m new new_path (list_of o.plan) torn) [
    | inl same ↦ inl (subst (Holds o base (Begun recs)) (sym same) h)
    | inr to ↦ inr (sealed o plan base m new to recs finish full text early h)
  ]

  -- what a read gives afterwards
  committed_done : {m : Map} {s t : Stage} {e : Event} → Commits o m s e t → is_done e ≡ true → Holds o base s m → Holds o base t (changed m e)
  committed_done {m = m} (publishes {ok = true} drafted) t h = published o plan base m (moved m new_path journal_path) (moved_renamed m new_path journal_path) drafted drafted.no_list h
  committed_done {m = m} (publishes {ok = false} drafted) t h = absurd (false≢true t)
  committed_done {m = m} (opens {ok = true} {recs = recs} {rec = rec} staged) t h =
      gate_open o plan base m recs rec staged staged.true_record staged.whole staged.closed h (overwritten (content m journal_path) (length (journal_code o.plan recs)) (1 ∷ []))
      (ap (λ (l : List ℕ). overwritten l (length (journal_code o.plan recs)) (1 ∷ [])) (journal_is o plan base m recs rec staged staged.true_record staged.whole staged.closed h)
      ∙ written_over (journal_code o.plan recs) (staged.gate ∷ (record_code rec ++ staged.next_gate ∷ staged.rest)) (1 ∷ []))
  committed_done {m = m} (opens {ok = false} staged) t h = absurd (false≢true t)
  committed_done {m = m} (seals {ok = true} {recs = recs} {finish = finish} full text early) t h = sealed o plan base m (moved m new_path (list_of o.plan)) (moved_renamed m new_path (list_of o.plan)) recs finish full text early h
  committed_done {m = m} (seals {ok = false} full text early) t h = absurd (false≢true t)

failed_prepares : (p : PlanValue) (s : Stage) (e : Event) → Prepares p s e → Prepares p s (failed e)
failed_prepares p s (Write d path at piece ok) h = h
failed_prepares p s (Rename d from to ok) h = h
failed_prepares p s (Remove d path ok) h = h
failed_prepares p s (AttachDrive d place) h = absurd h
failed_prepares p s (AttachSource n place) h = absurd h
failed_prepares p s (SourceList n got) h = absurd h
failed_prepares p s (SourceRead n path at want got) h = absurd h
failed_prepares p s (AttachFailed place) h = absurd h
failed_prepares p s (DriveList d got) h = absurd h
failed_prepares p s (DriveRead d path at want got) h = absurd h
failed_prepares p s (Moment t0) h = absurd h
failed_prepares p s (Sync d ok) h = absurd h
failed_prepares p s (Pick n) h = absurd h
failed_prepares p s (Say line ok) h = absurd h

prepares_change : (p : PlanValue) (s : Stage) (e : Event) → Prepares p s e → IsTrue (is_change e)
prepares_change p s (Write d path at piece ok) h = refl
prepares_change p s (Rename d from to ok) h = refl
prepares_change p s (Remove d path ok) h = refl
prepares_change p s (AttachDrive d place) h = absurd h
prepares_change p s (AttachSource n place) h = absurd h
prepares_change p s (SourceList n got) h = absurd h
prepares_change p s (SourceRead n path at want got) h = absurd h
prepares_change p s (AttachFailed place) h = absurd h
prepares_change p s (DriveList d got) h = absurd h
prepares_change p s (DriveRead d path at want got) h = absurd h
prepares_change p s (Moment t0) h = absurd h
prepares_change p s (Sync d ok) h = absurd h
prepares_change p s (Pick n) h = absurd h
prepares_change p s (Say line ok) h = absurd h

failed_commits : {o : Offload} {m : Map} {s t : Stage} {e : Event} → Commits o m s e t → Commits o m s (failed e) t
failed_commits (publishes drafted) = publishes drafted
failed_commits (opens staged) = opens staged
failed_commits (seals full new_is early) = seals full new_is early

commits_change : {o : Offload} {m : Map} {s t : Stage} {e : Event} → Commits o m s e t → IsTrue (is_change e)
commits_change (publishes drafted) = refl
commits_change (opens staged) = refl
commits_change (seals full new_is early) = refl

safe : (d : ℕ) (o : Offload) → IsPlan o.plan → (base : Map) → IsSafe (offload d o base)
safe d o plan base = record {
  prepared = λ s e m new free h torn. prepared o plan base s e m new free h torn;
  committed = λ s t e m new c h torn. committed o plan base c h torn;
  done = λ s t e m c h is. committed_done o plan base c is h;
  rises = λ s t e m c. rises c;
  prepares_failed = failed_prepares o.plan;
  commits_failed = λ s t e m c. failed_commits c;
  prepares_change = prepares_change o.plan;
  commits_change = λ s t e m c. commits_change c;
}

pub returns : goal.returns
returns c = safe
