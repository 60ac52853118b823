-- A verification of a place whose files are known before.
use Rattle.std.proofs.Common.{◌≡◌, ◌≢◌, inl, inr, ℕ, false, List, [], ◌∷◌, refl, ◌∙◌, ap, subst, arith}
use Rattle.std.specs.Prelude.{Some, codes}
use Rattle.bay_core.specs.declared.event.Event.{Event}
use Rattle.bay_core.specs.Map.{Map}
use Rattle.bay_core.specs.Replay.{Drive, reads}
use Rattle.bay_core.specs.World.{World, MadeWith, Honest}
use Rattle.bay_core.specs.Attach.{last_from, files_at, NoLiar}
use Rattle.bay_core.proofs.Looking.{reads_kept}
use Rattle.bay_core.proofs.Replays.{no_calls}
use Rattle.mhl_reader.specs.declared.error.ReadError.{ReadError}
use Rattle.mhl_reader.specs.declared.error.ReadError.TheVariants.{NotUtf8, Malformed, Doctype, Cdata, Version, NoFile, Twice, BadPath, BadSize, BadDigest, TooMany, Memory as MemoryRead}
use Rattle.verify_run.specs.declared.loading.LoadError.{LoadError}
use Rattle.verify_run.specs.declared.loading.LoadError.TheVariants.{DriveFailed, Absent, TooLarge, Unreadable, Memory}
use Rattle.verify_run.specs.declared.verdict.VerifyError.{VerifyError}
use Rattle.verify_run.specs.declared.verdict.VerifyError.TheVariants.{DriveFailed as DriveFailedThen, OutFailed, Memory as MemoryThen}
use Rattle.verify_run.specs.Report.{outcome_of}
use Rattle.command_words.specs.declared.command.Command.{Command}
use Rattle.command_words.specs.declared.command.Command.TheVariants.{Offload, Verify, Print}
use Rattle.command_words.specs.Jobs.{Task, Offloads, Job, SpellsTask, IsJob, job_places}
use Rattle.command_words.specs.Words.{IsCommand, offload_job, drive_word}
use Rattle.last_lines.specs.Ends.{End, EndStatus}
use Rattle.station_run.specs.Ends.{outcome_status, fault_end, load_end, broken_end}
use Rattle.station_run.specs.Runs.{OneAttached}
use Rattle.station_run.specs.Verify.{VerifyStory, NoList, NoVerdict, WithVerdict, verify_end, VerifyTrue, VerifyRun, unattached, attached, IsOfVerdict, ReportOn}
use Rattle.station_run.specs.Station.{Ran, wanting, unread, job, verify, print}
use Rattle.station_run.proofs.Verified.{verify_unchanged}

-- three words are no job
pub no_offload : (list place : List ℕ) (asked : Job) → IsJob (codes "verify" ∷ list ∷ place ∷ []) asked → ⊥
no_offload list place asked is = spelled asked.task is.spelled
  where
    spelled : (task : Task) → SpellsTask task asked.copies (job_places asked) (codes "verify" ∷ list ∷ place ∷ []) → ⊥
    spelled (Offloads name user host kinds) s = let e = s.words_are in absurd (let first : codes "verify" ≡ codes "offload" = cc in cc)

-- ---- which ends have a status of a verdict

abbrev IsOther : ℕ → Type 0
IsOther status = IsOfVerdict status → ⊥

other : (status : ℕ) → status ≢ 0 → status ≢ 1 → status ≢ 6 → IsOther status
other status a b c (inl is) = a is
other status a b c (inr (inl is)) = b is
other status a b c (inr (inr is)) = c is

five_other : IsOther 5
five_other = other 5 (omega arith) (omega arith) (omega arith)

seven_other : IsOther 7
seven_other = other 7 (omega arith) (omega arith) (omega arith)

eight_other : IsOther 8
eight_other = other 8 (omega arith) (omega arith) (omega arith)

nine_other : IsOther 9
nine_other = other 9 (omega arith) (omega arith) (omega arith)

fault_other : (e : ReadError) → IsOther (fault_end e).status
fault_other (NotUtf8 at) = seven_other
fault_other (Malformed at) = seven_other
fault_other (Doctype at) = seven_other
fault_other (Cdata at) = seven_other
fault_other Version = seven_other
fault_other (NoFile at) = seven_other
fault_other (Twice at) = seven_other
fault_other (BadPath at) = seven_other
fault_other (BadSize at) = seven_other
fault_other (BadDigest at) = seven_other
fault_other (TooMany at) = seven_other
fault_other MemoryRead = nine_other

load_other : (e : LoadError) → IsOther (load_end e).status
load_other DriveFailed = eight_other
load_other Absent = seven_other
load_other (TooLarge len) = seven_other
load_other (Unreadable e) = fault_other e
load_other Memory = nine_other

broken_other : (e : VerifyError) → IsOther (broken_end e).status
broken_other DriveFailedThen = eight_other
broken_other OutFailed = five_other
broken_other MemoryThen = nine_other

-- such an end has none
none_of : (end : End) (result : ℕ) (old new : World) → IsOther end.status → EndStatus end result old new → IsOfVerdict result → ⊥
none_of end result old new apart (inl same) is = apart (subst IsOfVerdict same is)
none_of end result old new apart (inr (some, five, rose)) is = five_other (subst IsOfVerdict five is)

-- ---- the report on the files of the place

module _ (list place : List ℕ) (result : ℕ) (old new : World) (made : MadeWith) (files : Map) (before all : List Event) (was : old.events ≡ Some before) (now : new.events ≡ Some all) (told : old.attached.made ≡ Some made)
    (may_not : made.may_lie (Drive old.attached.drives) ≡ false) (before_true : NoLiar made (last_from place before)) (placed : files_at made old.attached before place (last_from place before) ≡ Some files) where
  drive_honest : OneAttached place old new → Honest new old.attached.drives files all
  drive_honest one = record { honest = one.truth made told may_not; start = (one.gives before was).files made told before_true ∙ placed; events = now }

  drive_reads : OneAttached place old new → VerifyRun list place result old new → reads files all old.attached.drives ≡ files
  drive_reads one run =
      let d = old.attached.drives in
      let m = verify_unchanged list place result old new run all now in
      ap (λ (l : List Event). reads files l d) m.is ∙ reads_kept files m.before m.since d m.such ∙ no_calls files m.before d (one.unused m.before m.was)

  story_report : (story : VerifyStory) → EndStatus (verify_end story) result old new → VerifyTrue story list files old.events all → IsOfVerdict result → ReportOn files list result old.events all
  story_report (NoList e) status so is = absurd (none_of (load_end e) result old new (load_other e) status is)
  story_report (NoVerdict hashes e) status so is = absurd (none_of (broken_end e) result old new (broken_other e) status is)
  story_report (WithVerdict hashes v) (inl same) so is = record { hashes = hashes; loaded = so.loaded; status = same ∙ ap (λ n. outcome_status (outcome_of n)) so.numbers; lines = so.lines }
  story_report (WithVerdict hashes v) (inr (some, five, rose)) so is = absurd (some refl)

  run_report : VerifyRun list place result old new → IsOfVerdict result → ReportOn files list result old.events all
  run_report (unattached none) is = absurd (none_of _ result old new (other 4 (omega arith) (omega arith) (omega arith)) none.run.status is)
  run_report (attached one on) is =
      let so = on.honest files all (drive_honest one) in
      story_report on.story on.run.status (subst (λ m. VerifyTrue on.story list m old.events all) (drive_reads one (attached one on)) so) is

  -- words that are no command but `verify` of this list at this place
  pub place_verified : (words : List (List ℕ)) → ((c : Command) → IsCommand words c → c ≡ Verify list) → ((job : Job) → IsJob words job → ⊥) → drive_word words ≡ place → Ran words result old new → IsOfVerdict result → ReportOn files list result old.events all
  place_verified words only no_job there (wanting ended) is = absurd (none_of _ result old new nine_other ended.status is)
  place_verified words only no_job there (unread none ended) is = absurd (none_of _ result old new (other 2 (omega arith) (omega arith) (omega arith)) ended.status is)
  place_verified words only no_job there (job asked asked_is ran) is = absurd (no_job asked asked_is)
  place_verified words only no_job there (verify own named run) is =
      let same : own ≡ list = let e : Verify own ≡ Verify list = only (Verify own) named in cc in
      run_report (subst (λ p. VerifyRun list p result old new) there (subst (λ l. VerifyRun l (drive_word words) result old new) same run)) is
  place_verified words only no_job there (print own named run) is = absurd (let e : Print own ≡ Verify list = only (Print own) named in cc)

-- three words of which the first is `verify` are at most this command
pub verify_only : (list place : List ℕ) (c : Command) → IsCommand (codes "verify" ∷ list ∷ place ∷ []) c → c ≡ Verify list
verify_only list place (Offload name user host copies kinds drives) is = absurd (no_offload list place (offload_job name user host copies kinds (codes "verify" ∷ list ∷ place ∷ [])) is.is_job)
verify_only list place (Verify own) is = let e = is.words_are in cc
verify_only list place (Print own) is = absurd (let e = is.words_are in cc)
