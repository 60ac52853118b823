-- What a run knows at each point, where its scratch files are as its turns ask for them.
use Rattle.std.proofs.Common.{◌≡◌, ℕ, true, List, sym, ap, ◌∙◌, subst, arith}
use Rattle.std.specs.Prelude.{Some, is_some, option_map}
use Rattle.std.specs.List.{slice_get}
use Rattle.bay_core.specs.Map.{content}
use Rattle.bay_core.specs.World.{World}
use Rattle.copy_plan.specs.declared.file.PlannedFile.{PlannedFile}
use Rattle.digest_set.specs.declared.triple.Triple.{Triple}
use Rattle.digest_set.specs.Triple.{triple}
use Rattle.drive_journal.specs.declared.record.Rec.{Rec}
use Rattle.run_state.specs.declared.phase.Phase.{Phase}
use Rattle.run_state.specs.declared.phase.Phase.TheVariants.{Begins, File, Copies, Dates, Records, Seals, Clears, Ended}
use Rattle.run_state.specs.Rules.{IsRun, Fits, FitsRecord, IsSizeOf}
use Rattle.run_state.specs.Runs.{Point, Runs}
use Rattle.run_state.specs.State.{Ordered, DriveAt, Gone, Fresh, Begun, Found, Sealed, drive_at, due}
use Rattle.run_steps.specs.Parts.{CameWhole, IsTidy, PartsAt, PartsReady}
use Rattle.run_steps.proofs.Drives.{one_file}
use Rattle.run_reads.specs.Parts.{Starts}
use Rattle.run_reads.proofs.Since.{since_at}
use Rattle.run_reads.proofs.Standing.{GivesAt, CopyGives, runs_core, start_core}
use Rattle.run_ends.specs.Known.{HasDigests, HasPart, HasNoNew, IsKnownAt, IsKnownOnward, KnowsReadsOnward}

-- the digests of a file that came whole
came_digests : (o : Ordered) (i : ℕ) (t : Triple) (first : ℕ) (each : List DriveAt) (w : World) → CameWhole o i t first each w → HasDigests o i t w
came_digests o i t first each w came = λ file is_file m steady.
    let same : came.file ≡ file = one_file o.plan.files i came.file file came.is_file is_file in
    came.digests ∙ ap triple (sym (came.card m steady)) ∙ ap (λ (f : PlannedFile). triple (content m f.path)) same

-- a size that is planned of a file is that file's
size_is : (o : Ordered) (i size : ℕ) (file : PlannedFile) → IsSizeOf o.plan i size → slice_get o.plan.files i ≡ Some file → file.size ≡ size
size_is o i size file is_size is_file =
    let both : Some file.size ≡ Some size = sym (ap (option_map (λ (f : PlannedFile). f.size)) is_file) ∙ is_size in
    cc both

-- the part on a drive on which a file is recorded next
came_part : (o : Ordered) (rec : Rec) (d : ℕ) (each : List DriveAt) (w : World) → FitsRecord o each rec d → CameWhole o rec.index rec.triple d each w → is_some (due rec.index (drive_at each d)) ≡ true → HasPart d rec w
came_part o rec d each w fits came some = λ m L h.
    (came.bytes, (came.parts d (omega arith) some).1 m L h, came.sized ∙ size_is o rec.index rec.size came.file fits.sized came.is_file, sym came.digests)

-- no file waits for its name on a drive between two files
tidy_new : (o : Ordered) (d : ℕ) (w : World) (x : DriveAt) → IsTidy o.plan d w x → HasNoNew d x w
tidy_new o d w Gone tidy = tt
tidy_new o d w Fresh tidy = tt
tidy_new o d w (Begun recs gate kept) tidy = tidy.0
tidy_new o d w (Found recs) tidy = tt
tidy_new o d w Sealed tidy = tt

known_at : (o : Ordered) (b : Point) (phase : Phase) → Fits o b.at.drives.each phase → PartsAt o phase b.at.drives.each b.pool b.world → IsKnownAt o phase b.at.drives.each b.world
known_at o b (Begins d) fits parts = tt
known_at o b (File i) fits parts = tt
known_at o b (Copies i copy) fits parts = tt
known_at o b (Dates i t) fits parts = came_digests o i t 0 b.at.drives.each b.world parts
known_at o b (Records rec d) fits parts = came_part o rec d b.at.drives.each b.world fits parts
known_at o b (Seals d) fits parts = tidy_new o d b.world (drive_at b.at.drives.each d) (parts d)
known_at o b Clears fits parts = tt
known_at o b Ended fits parts = tt

-- what is known at each point of the runs from one
pub known_onward : (o : Ordered) (a : Point) → ((b : Point) → IsRun o a.at → Runs o a b → IsRun o b.at) → ((b : Point) → IsRun o a.at → PartsReady o a → Runs o a b → PartsReady o b) → IsRun o a.at → PartsReady o a → IsKnownOnward o a
known_onward o a rules parts run ready = λ b runs. known_at o b b.at.phase (rules b run runs).fits (parts b run ready runs)

-- what a copy knows of the reads of the card
pub knows_reads : (o : Ordered) (a : Point) → Starts o a → KnowsReadsOnward o a
knows_reads o a s = λ b runs i copy is.
    let core = runs_core o s.run.run.plan a b (start_core o s.run.run.plan a s) runs in
    let gives : CopyGives o s.run.run.plan a i copy b.at.drives b.pool b.world = subst (λ (k : Phase). GivesAt o s.run.run.plan a k b.at.drives b.pool b.world) is core.1 in
    record {
      file = gives.file;
      is_file = gives.is_file;
      bytes = gives.bytes;
      copying = gives.copying;
      gave = λ past L was now. (since_at gives.reads past L was now).1;
    }
