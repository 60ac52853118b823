-- A run whose scratch files are as its next turn asks for them knows what it copies, records and seals next.
use Rattle.std.proofs.Common.{◌≡◌, ℕ, true, false, List, sym, ap, ◌∙◌, subst, arith}
use Rattle.std.specs.Prelude.{Option, Some, option_map, is_some}
use Rattle.std.specs.List.{slice_get}
use Rattle.bay_core.specs.Map.{content}
use Rattle.bay_core.specs.World.{World}
use Rattle.block_pool.specs.Lent.{PoolState}
use Rattle.copy_plan.specs.declared.file.PlannedFile.{PlannedFile}
use Rattle.copy_plan.specs.Plan.{PlanValue}
use Rattle.digest_set.specs.declared.triple.Triple.{Triple}
use Rattle.digest_set.specs.Triple.{triple}
use Rattle.drive_journal.specs.declared.record.Rec.{Rec}
use Rattle.run_state.specs.declared.phase.Phase.{Phase}
use Rattle.run_state.specs.declared.phase.Phase.TheVariants.{Begins, File, Copies, Dates, Records, Seals, Clears, Ended}
use Rattle.run_state.specs.Rules.{IsRun, IsStart, Fits, IsSizeOf}
use Rattle.run_state.specs.Runs.{Point, Runs}
use Rattle.run_state.specs.State.{Ordered, DriveAt, Gone, Fresh, Begun, Found, Sealed, drive_at, due}
use Rattle.run_steps.specs.Parts.{CanKeep, IsTidy, CameWhole, PartsAt, PartsReady}
use Rattle.run_steps.proofs.Drives.{one_file}
use Rattle.run_ends.specs.Known.{HasDigests, HasPart, HasNoNew, IsKnownAt, IsKnownOnward}
use Rattle.run_calls.specs.Ready.{KeepsNoPart, KeepNoParts}
use Rattle.run_calls.proofs.Turns.{CopyKnown}

abbrev pub TheParts : Type 0
TheParts = (o : Ordered) (a b : Point) → IsRun o a.at → PartsReady o a → Runs o a b → PartsReady o b

-- a file that came whole has a steady card's digests
digests_known : (o : Ordered) (i : ℕ) (t : Triple) (first : ℕ) (each : List DriveAt) (w : World) → CameWhole o i t first each w → HasDigests o i t w
digests_known o i t first each w c = λ file is m steady.
    let same : c.file ≡ file = one_file o.plan.files i c.file file c.is_file is in
    c.digests ∙ ap triple (sym (c.card m steady)) ∙ ap (λ (f : PlannedFile). triple (content m f.path)) same

-- the size of a file of the plan
same_size : (p : PlanValue) (i size : ℕ) (file : PlannedFile) → slice_get p.files i ≡ Some file → IsSizeOf p i size → file.size ≡ size
same_size p i size file is sized =
    let both : Some file.size ≡ Some size = sym (ap (λ (f : Option PlannedFile). option_map (λ (g : PlannedFile). g.size) f) is) ∙ sized in
    cc both

part_known : (o : Ordered) (rec : Rec) (d : ℕ) (each : List DriveAt) (w : World) → IsSizeOf o.plan rec.index rec.size → CameWhole o rec.index rec.triple d each w → is_some (due rec.index (drive_at each d)) ≡ true → HasPart d rec w
part_known o rec d each w sized c there = λ m L h. (c.bytes, (c.parts d (omega arith) there).1 m L h, c.sized ∙ same_size o.plan rec.index rec.size c.file c.is_file sized, sym c.digests)

no_new_known : (p : PlanValue) (d : ℕ) (w : World) (x : DriveAt) → IsTidy p d w x → HasNoNew d x w
no_new_known p d w (Begun recs gate kept) t = t.0
no_new_known p d w Gone t = tt
no_new_known p d w Fresh t = tt
no_new_known p d w (Found recs) t = tt
no_new_known p d w Sealed t = tt

known_at : (o : Ordered) (phase : Phase) (each : List DriveAt) (pool : PoolState) (w : World) → Fits o each phase → PartsAt o phase each pool w → IsKnownAt o phase each w
known_at o (Dates i t) each pool w fits c = digests_known o i t 0 each w c
known_at o (Records rec d) each pool w fits c = part_known o rec d each w fits.sized c
known_at o (Seals d) each pool w fits tidy = no_new_known o.plan d w (drive_at each d) (tidy d)
known_at o (Begins d) each pool w fits c = tt
known_at o (File i) each pool w fits c = tt
known_at o (Copies i copy) each pool w fits c = tt
known_at o Clears each pool w fits c = tt
known_at o Ended each pool w fits c = tt

copy_at : (o : Ordered) (phase : Phase) (each : List DriveAt) (pool : PoolState) (w : World) → PartsAt o phase each pool w → CopyKnown phase pool w
copy_at o (Copies i copy) each pool w c = (c.bytes, c.copying)
copy_at o (Begins d) each pool w c = tt
copy_at o (File i) each pool w c = tt
copy_at o (Dates i t) each pool w c = tt
copy_at o (Records rec d) each pool w c = tt
copy_at o (Seals d) each pool w c = tt
copy_at o Clears each pool w c = tt
copy_at o Ended each pool w c = tt

module _ (rules : (o : Ordered) (a b : Point) → IsRun o a.at → Runs o a b → IsRun o b.at) (parts : TheParts) (o : Ordered) (a : Point) (run : IsRun o a.at) (ready : PartsReady o a) where
  pub known_onward : IsKnownOnward o a
  known_onward m runs = known_at o m.at.phase m.at.drives.each m.pool m.world (rules o a m run runs).fits (parts o a m run ready runs)

  -- a copy knows its bytes
  pub copy_known : (m : Point) → Runs o a m → CopyKnown m.at.phase m.pool m.world
  copy_known m runs = copy_at o m.at.phase m.at.drives.each m.pool m.world (parts o a m run ready runs)

-- ---- as a run is made

none_kept : (p : PlanValue) (d : ℕ) (w : World) (x : DriveAt) → KeepsNoPart x → CanKeep p d w x
none_kept p d w (Begun recs gate true) none = absurd none
none_kept p d w (Begun recs gate false) none = tt
none_kept p d w Gone none = tt
none_kept p d w Fresh none = tt
none_kept p d w (Found recs) none = tt
none_kept p d w Sealed none = tt

pub starts_ready : (o : Ordered) (a : Point) → IsStart o a.at → KeepNoParts a → PartsReady o a
starts_ready o a start none = subst (λ (phase : Phase). PartsAt o phase a.at.drives.each a.pool a.world) (sym start.phase) (record {
  before = λ k early. absurd (omega (arith, early));
  still = λ k late. none_kept o.plan k a.world (drive_at a.at.drives.each k) (none k);
})
