use Rattle.std.proofs.Common.{inl, length, map, refl, sym, subst, ◌<◌}
use Rattle.run_state.specs.declared.phase.Phase.{Phase}
use Rattle.run_state.specs.declared.phase.Phase.TheVariants.{File}
use Rattle.run_state.specs.Rules.{left_at}
use Rattle.run_state.specs.State.{at_of}
use Rattle.offload_run.proofs.Counting.{some_number, some_lowest}
use Rattle.offload_run.proofs.Nearing.{file_left}
use Rattle.offload_run.proofs.offload.Offload.choose_drives.Goals as goal

pub returns-then-is_none-clause-nearer : goal.returns-then-is_none-clause-nearer
returns-then-is_none-clause-nearer c =
    let w = length (map at_of c.args.self.now.drives.items) in
    subst (λ (x : Phase). left_at w c.args.self.now.plan x < left_at w c.args.self.now.plan (File c.args.index)) (sym c.after_file-self.ensures) (file_left w c.args.self.now.plan c.args.index c.requires.there)

pub begin_copy-copy-requires-clause-some : goal.begin_copy-copy-requires-clause-some
begin_copy-copy-requires-clause-some c = some_number c.due-drives.result.0 c.lowest.result c.lowest.ensures.lowest c.if-is_none.ensures

pub returns-clause-acted : goal.returns-clause-acted
returns-clause-acted c = λ w. inl (record {
  file = c.file_at-file.result.now;
  is_file = c.file_at-file.ensures.is;
  copy = c.begin_copy-copy.result;
  opens = c.begin_copy-copy.ensures.opens;
  some = some_lowest c.due-drives.result.0 _ c.begin_copy-copy.ensures.live (some_number c.due-drives.result.0 c.lowest.result c.lowest.ensures.lowest c.if-is_none.ensures);
  drives = refl;
  goes = (refl, c.requires.turning.1);
  idle = refl;
})
