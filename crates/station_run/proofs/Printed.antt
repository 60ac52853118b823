-- How the run of `print` follows from its calls.
use Rattle.std.proofs.Common.{inl, ℕ, List, [], refl, sym, subst, append-nil}
use Rattle.std.specs.Prelude.{Ok, Err}
use Rattle.std.specs.FinMap.{get}
use Rattle.bay_core.specs.declared.event.Event.{Event}
use Rattle.bay_core.specs.Replay.{Output}
use Rattle.bay_core.specs.World.{World}
use Rattle.bay_core.specs.Attach.{Attaches}
use Rattle.bay_core.specs.Looks.{IsUntouched}
use Rattle.bay_core.proofs.Runs.{went_then, went_such, rose_since}
use Rattle.bay_core.proofs.Looking.{drive_here, output_here}
use Rattle.mhl_writer.specs.declared.values.HashList.{HashList}
use Rattle.mhl_writer.specs.ListText.{values_of}
use Rattle.verify_run.specs.declared.loading.LoadError.{LoadError}
use Rattle.verify_run.specs.Loading.{LoadGives, Loaded}
use Rattle.verify_run.proofs.Loads.{load_keeps}
use Rattle.last_lines.specs.Said.{Told, Untold}
use Rattle.station_run.specs.Table.{print_lines}
use Rattle.last_lines.specs.Ends.{Ended}
use Rattle.station_run.specs.Ends.{load_end}
use Rattle.station_run.specs.Runs.{Unchanged}
use Rattle.station_run.specs.Print.{PrintStory, NoList, PartOfTable, WithTable, PrintCalls, PrintCause, PrintedOn, PrintRun, PrintedThen, unattached, attached}
use Rattle.last_lines.proofs.Said.{lines_keep, broken_keeps}
use Rattle.last_lines.proofs.Ends.{end_keeps}
use Rattle.station_run.proofs.Ends.{ended_here, status_since}
use Rattle.station_run.proofs.Attached.{attach_rose, attach_load_cause, one_attached, run_after, then_keeps, attach_then_keeps, run_unchanged, none_unchanged}
use Rattle.station_run.proofs.Verified.{still_so, load_cause}

-- the list was not loaded
pub print_unloaded : (d : ℕ) (list : List ℕ) (e : LoadError) (result : ℕ) (old mid new : World) → Loaded d list (Err e) old mid → Ended (load_end e) result mid new → PrintedThen d list result old new
print_unloaded d list e result old mid new loaded ended =
    let w = ended_here d ended in
    record {
      story = NoList e;
      went = went_then (drive_here d loaded.went) w;
      cause = load_cause list old d e loaded w;
      status = status_since new (load_end e) result loaded.went ended.status;
      honest = still_so (λ m. LoadGives (get m list) (Err e)) d (end_keeps (load_end e) result) w loaded.honest;
    }

-- the table was said
pub print_whole : (d : ℕ) (list : List ℕ) (hashes : HashList) (old mid new : World) → Loaded d list (Ok hashes) old mid → Told (print_lines (values_of hashes)) mid new → PrintedThen d list 0 old new
print_whole d list hashes old mid new loaded told =
    let w = output_here d told in
    record {
      story = WithTable hashes;
      went = went_such (λ L t. record { first = L; second = []; is = sym (append-nil L); here = t; there = inl (refl, refl) }) (went_then (drive_here d loaded.went) w);
      cause = tt;
      status = inl refl;
      honest = still_so (λ map. LoadGives (get map list) (Ok hashes)) d (lines_keep (print_lines (values_of hashes))) w loaded.honest;
    }

-- a line of the table could not be said
pub print_broken : (d : ℕ) (list : List ℕ) (hashes : HashList) (old mid new : World) → Loaded d list (Ok hashes) old mid → Untold (print_lines (values_of hashes)) mid new → PrintedThen d list 5 old new
print_broken d list hashes old mid new loaded untold =
    let w = output_here d untold.went in
    record {
      story = PartOfTable hashes;
      went = went_such (λ L t. record { first = L; second = []; is = sym (append-nil L); here = t; there = inl (refl, refl) }) (went_then (drive_here d loaded.went) w);
      cause = rose_since Output (new.faults Output) loaded.went untold.cause;
      status = inl refl;
      honest = still_so (λ map. LoadGives (get map list) (Ok hashes)) d (broken_keeps (print_lines (values_of hashes))) w loaded.honest;
    }

-- ---- with the attach

print_cause : {place : List ℕ} {old mid : World} (new : World) (d : ℕ) (story : PrintStory) → Attaches place (Ok d) old mid → PrintCause story d mid new → PrintCause story d old new
print_cause new d (NoList e) a cause = attach_load_cause a new d e cause
print_cause new d (PartOfTable hashes) a cause = attach_rose a Output (new.faults Output) cause
print_cause new d (WithTable hashes) a cause = tt

printed_on : (d : ℕ) (list place : List ℕ) (result : ℕ) (old mid new : World) → Attaches place (Ok d) old mid → PrintedThen d list result mid new → PrintedOn d list place result old new
printed_on d list place result old mid new a on = record {
  story = on.story;
  run = run_after d place old mid new a on.went on.status;
  cause = print_cause new d on.story a on.cause;
  honest = on.honest;
}

pub print_attached_run : (d : ℕ) (list place : List ℕ) (result : ℕ) (old mid new : World) → Attaches place (Ok d) old mid → PrintedThen d list result mid new → PrintRun list place result old new
print_attached_run d list place result old mid new a on =
    let next = a.numbered.0 in
    let first = subst (λ n. Attaches place (Ok n) old mid) next a in
    attached (one_attached place old mid new first on.went.attached) (printed_on old.attached.drives list place result old mid new first (subst (λ n. PrintedThen n list result mid new) next on))

-- ---- nothing is changed

print_keeps : (story : PrintStory) (list : List ℕ) (d : ℕ) (L : List Event) → PrintCalls story list d L → IsUntouched L
print_keeps (NoList e) list d L calls = load_keeps d list (Err e) L calls
print_keeps (PartOfTable hashes) list d L calls = then_keeps (load_keeps d list (Ok hashes)) (broken_keeps (print_lines (values_of hashes))) L calls
print_keeps (WithTable hashes) list d L calls = then_keeps (load_keeps d list (Ok hashes)) (lines_keep (print_lines (values_of hashes))) L calls

pub print_unchanged : (list place : List ℕ) (result : ℕ) (old new : World) → PrintRun list place result old new → Unchanged old new
print_unchanged list place result old new (unattached none) = none_unchanged none
print_unchanged list place result old new (attached one on) = run_unchanged (attach_then_keeps old.attached.drives place (print_keeps on.story list old.attached.drives)) on.run
