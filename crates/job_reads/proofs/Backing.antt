-- A run of a job reads back what it says that it did.
use Rattle.std.proofs.Common.{◌≡◌, ◌≢◌, ◌⊎◌, inl, inr, ℕ, ◌^◌, ◌<◌, Bool, true, false, not, List, [], ◌∷◌, ◌++◌, refl, sym, ap, ◌∙◌, subst, append_assoc}
use Rattle.std.specs.Prelude.{◌||◌, Some, codes}
use Rattle.std.specs.List.{flat_map}
use Rattle.std.proofs.lemmas.Bool.{false≢true}
use Rattle.bay_core.specs.declared.event.Event.{Event}
use Rattle.bay_core.specs.declared.event.Event.TheVariants.{SourceRead, Sync, Rename, Moment, Say}
use Rattle.bay_core.specs.Paths.{new_path}
use Rattle.bay_core.specs.Replay.{Drive}
use Rattle.bay_core.specs.Went.{Went}
use Rattle.bay_core.specs.World.{World}
use Rattle.crash_law.specs.Lines.{AllLines}
use Rattle.copy_plan.specs.declared.file.PlannedFile.{PlannedFile}
use Rattle.copy_plan.specs.Plan.{list_of}
use Rattle.digest_set.specs.Triple.{triple}
use Rattle.drive_journal.specs.Look.{next_gate}
use Rattle.fan_core.specs.Flags.{has}
use Rattle.run_state.specs.Rules.{IsRun, IsOver}
use Rattle.run_state.specs.Runs.{Point, Alone, Runs, begins_with, is_about}
use Rattle.run_state.specs.State.{Ordered, DriveAt, Gone, Fresh, Begun, Found, Sealed, drive_at, is_gone, is_of_run}
use Rattle.run_reads.specs.Backs.{IsDatedAtOnce, IsTheRecord, recording_calls, LinesReadBack, IsDoneRightly as IsDoneInTurns}
use Rattle.run_reads.specs.Parts.{Starts}
use Rattle.run_reads.specs.Reads.{got_in, card_given}
use Rattle.run_reads.proofs.Cards.{given_append}
use Rattle.run_reads.proofs.Lines.{about_done}
use Rattle.run_reads.proofs.Since.{since_at}
use Rattle.command_words.specs.Jobs.{Job}
use Rattle.job_story.specs.Ends.{JobEnd}
use Rattle.job_story.specs.Run.{Run, run_with}
use Rattle.job_calls.specs.Told.{RanTold}
use Rattle.job_calls.proofs.Parts.{CallsOwn}
use Rattle.job_losses.proofs.Records.{records_behind, records_untouched}
use Rattle.job_losses.proofs.Told.{since_went}
use Rattle.job_losses.proofs.Written.{IsUnbegun}
use Rattle.job_reads.specs.Backs.{IsCopiedAt, IsDoneRightly, IsListReadBack, IsSealedRightly, ReadsBack}
use Rattle.job_reads.proofs.Outside.{Outside, none_read}
use Rattle.job_reads.proofs.Places.{NotIn, between}
use Rattle.job_reads.proofs.Sealing.{IsNotFound, turns_seal}
use Rattle.job_reads.proofs.Turning.{IsNew, Turning, by_turns}

lines_at : (Q : List ℕ → Type 0) (front rest : List Event) (line : List ℕ) (ok : Bool) → AllLines Q (front ++ Say line ok ∷ rest) → Q line
unfolding AllLines
lines_at Q [] rest line ok all = all.0
lines_at Q (x ∷ front) rest line ok all = lines_at Q front rest line ok all.1

-- ---- a drive of a run as it is made

new_unbegun : (x : DriveAt) → IsNew x → IsUnbegun x
new_unbegun Gone new = tt
new_unbegun Fresh new = tt
new_unbegun (Begun recs gate kept) new = new
new_unbegun (Found recs) new = tt
new_unbegun Sealed new = tt

new_unfound : (x : DriveAt) → IsNew x → IsNotFound x
new_unfound Gone new = tt
new_unfound Fresh new = tt
new_unfound (Begun recs gate kept) new = tt
new_unfound (Found recs) new = new
new_unfound Sealed new = tt

-- it is of the run, or nothing is left to be done on it
new_or : (x : DriveAt) → IsNew x → (is_gone x ≡ false) ⊎ IsOver x
new_or Gone new = inr tt
new_or Fresh new = inl refl
new_or (Begun recs gate kept) new = inl refl
new_or (Found recs) new = inl refl
new_or Sealed new = inl refl

-- ---- what is known of turns

pub record BackLaws : Type 0 where
  pub own : CallsOwn
  pub alone : (o : Ordered) (a b : Point) → Alone o a b → Runs o a b
  pub rules : (o : Ordered) (a b : Point) → IsRun o a.at → Runs o a b → IsRun o b.at
  pub dated : (o : Ordered) (a b : Point) → Starts o a → Alone o a b → (past L : List Event) → a.world.events ≡ Some past → b.world.events ≡ Some (past ++ L) → LinesReadBack (IsDatedAtOnce o) o a L
  pub over : (o : Ordered) (a b : Point) → IsRun o a.at → Alone o a b → (d : ℕ) → d < 2 ^ 64 → IsOver (drive_at a.at.drives.each d) → Went (λ x. x ≢ Drive d) (AllLines (λ line. is_about d line ≡ false)) a.world b.world

-- ---- a run

module _ (laws : BackLaws) (job : Job) (old new : World) (since : List Event) where
  abbrev run : Run
  run = run_with job old new since

  -- outside the turns there is no such line
  no_done : (L : List Event) → Outside L → (d : ℕ) (line : List ℕ) (ok : Bool) → begins_with (codes "done") d line ≡ true → NotIn (Say line ok) L
  no_done L out d line ok begins front rest is = false≢true (sym ((out.lines front rest line ok is).not_done d) ∙ begins)

  no_sealed : (L : List Event) → Outside L → (d : ℕ) (line : List ℕ) (ok : Bool) → begins_with (codes "sealed") d line ≡ true → NotIn (Say line ok) L
  no_sealed L out d line ok begins front rest is = false≢true (sym ((out.lines front rest line ok is).not_sealed d) ∙ begins)

  -- a run that made no turn
  unturned : Outside since → ReadsBack run
  unturned out = record {
    files = λ before after d line ok low is begins. absurd (no_done since out d line ok begins before after is);
    lists = λ before after d line ok low is begins. absurd (no_sealed since out d line ok begins before after is);
  }

  module _ (t : Turning job old new since) where
    read : LinesReadBack (IsDatedAtOnce t.o) t.o t.a t.turning
    read = laws.dated t.o t.a t.b t.starts t.still t.before t.turning t.was t.now

    -- ---- a file

    given_behind : (path : List ℕ) (L : List Event) → card_given 0 path L ≡ card_given 0 path (t.first ++ L)
    given_behind path L = sym (given_append 0 path t.first L ∙ ap (λ (K : List Event). flat_map got_in K ++ card_given 0 path L) (none_read 0 path t.first t.early.unread))

    copied : (f : PlannedFile) (moment : ℕ) (L : List Event) → IsDatedAtOnce t.o f moment L → IsCopiedAt f moment (t.first ++ L)
    copied f moment L c = record {
      past = t.first ++ c.past;
      since = c.since;
      is =
          ap (λ (l : List Event). t.first ++ l) c.is ∙ sym (append_assoc t.first c.past (SourceRead t.o.source f.path f.size 1 (Some []) ∷ (Moment moment ∷ c.since)))
          ∙ ap (λ (s : ℕ). (t.first ++ c.past) ++ SourceRead s f.path f.size 1 (Some []) ∷ (Moment moment ∷ c.since)) t.source;
      quiet = c.quiet;
    }

    done : (d : ℕ) (line : List ℕ) (front : List Event) → IsDoneInTurns (IsTheRecord (IsDatedAtOnce t.o) read.record_of) t.o d line front → IsDoneRightly run d line (t.first ++ front)
    done d line front i =
        let b = i.back in
        record {
          p = t.o.plan;
          plan = t.plan;
          index = i.index;
          file = i.file;
          is_file = i.is_file;
          says = i.says;
          back = record {
            front = t.first ++ b.front;
            back = b.back;
            rec = i.rec;
            bytes = b.bytes;
            calls = ap (λ (l : List Event). t.first ++ l) b.calls ∙ sym (append_assoc t.first b.front (Sync d true ∷ (b.back ++ recording_calls d (next_gate t.o.plan i.index).at i.file.path i.rec)));
            whole = b.whole;
            digests = b.digests;
            card = b.card ∙ ap (λ (s : ℕ). triple (card_given s i.file.path front)) t.source ∙ ap triple (given_behind i.file.path front);
            numbers = b.numbers;
            dated = copied i.file i.rec.hashed front b.such.1;
          };
        }

    -- no line is of a drive that is gone
    not_over : (d : ℕ) → d < 2 ^ 64 → IsOver (drive_at t.a.at.drives.each d) → (front rest : List Event) (line : List ℕ) (ok : Bool) → t.turning ≡ front ++ Say line ok ∷ rest → is_about d line ≡ false
    not_over d low over front rest line ok at =
        let both = since_at (since_went (laws.over t.o t.a t.b t.starts.run.run t.still d low over)) t.before t.turning t.was t.now in
        lines_at (λ line. is_about d line ≡ false) front rest line ok (subst (AllLines (λ line. is_about d line ≡ false)) at both.1)

    module _ (before after : List Event) (d : ℕ) (line : List ℕ) (ok : Bool) (low : d < 2 ^ 64) (is : since ≡ before ++ Say line ok ∷ after) where
      file_back : begins_with (codes "done") d line ≡ true → IsDoneRightly run d line before
      file_back begins =
          let place = between t.first t.turning t.last before after (Say line ok) (no_done t.first t.early d line ok begins) (no_done t.last t.late d line ok begins) (sym t.is ∙ is) in
          elim (new_or (drive_at t.a.at.drives.each d) (t.fresh d)) [
            | inl there ↦
                let of : is_of_run t.a.at.drives d ≡ true = ap (λ (g : Bool). not g || has t.a.at.drives.dropped d) there in
                subst (IsDoneRightly run d line) (sym place.before_is) (done d line place.front (read.lines.done d of place.front place.rest line ok place.at begins))
            | inr over ↦ absurd (false≢true (sym (not_over d low over place.front place.rest line ok place.at) ∙ about_done d line begins))
          ]

      -- ---- a list

      list_behind : (L : List Event) → IsListReadBack t.o.plan d L → IsListReadBack t.o.plan d (t.first ++ L)
      list_behind L s = record {
        front = t.first ++ s.front;
        drafts = s.drafts;
        back = s.back;
        recs = s.recs;
        finish = s.finish;
        calls = ap (λ (l : List Event). t.first ++ l) s.calls ∙ sym (append_assoc t.first s.front (Moment s.finish ∷ (s.drafts ++ (s.back ++ Rename d new_path (list_of t.o.plan) true ∷ (Sync d true ∷ [])))));
        recorded = records_behind d t.first s.front (records_untouched d t.first t.early.untouched) ∙ s.recorded;
        each = s.each;
        full = s.full;
        drafted = s.drafted;
        whole = s.whole;
      }

      list_back : begins_with (codes "sealed") d line ≡ true → IsSealedRightly run d line before
      list_back begins =
          let place = between t.first t.turning t.last before after (Say line ok) (no_sealed t.first t.early d line ok begins) (no_sealed t.last t.late d line ok begins) (sym t.is ∙ is) in
          let so =
          turns_seal t.o t.a (laws.rules t.o t.a) (laws.alone t.o t.a) t.starts.run (λ k. new_unbegun (drive_at t.a.at.drives.each k) (t.fresh k)) (λ k. new_unfound (drive_at t.a.at.drives.each k) (t.fresh k)) t.b t.still t.before t.turning t.was t.now
          place.front place.rest line ok place.at d low begins in
          record { p = t.o.plan; plan = t.plan; says = so.0; back = subst (IsListReadBack t.o.plan d) (sym place.before_is) (list_behind place.front so.1) }

    turned_back : ReadsBack run
    turned_back = record { files = λ before after d line ok low is. file_back before after d line ok low is; lists = λ before after d line ok low is. list_back before after d line ok low is }

-- every run
pub reads_back : BackLaws → (job : Job) (end : JobEnd) (result : ℕ) (old new : World) (past since : List Event) → RanTold job end result old new past since → ReadsBack (run_with job old new since)
reads_back laws job end result old new past since r = elim (by_turns job end result old new past since laws.own r) [
  | inl out ↦ unturned laws job old new since out
  | inr t ↦ turned_back laws job old new since t
]
