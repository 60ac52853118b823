-- The file that is in the way, by its place and by its path.
use Rattle.std.proofs.Common.{◌≡◌, List, ℕ, ◌∙◌, sym, ap, subst, get_or}
use Rattle.path_text.specs.ListName.{list_name_text}
use Rattle.copy_plan.specs.declared.file.PlannedFile.{PlannedFile}
use Rattle.copy_plan.specs.Made.{IsFirstInTheWay, IsInTheWay}
use Rattle.copy_plan.proofs.Arranged.{read_between}
use Rattle.copy_plan.proofs.plan.Plan.make.Goals as goal

named : (list : List ℕ) (files : List PlannedFile) (at : ℕ) (path : List ℕ) → IsFirstInTheWay list files at → ((f : PlannedFile) → path ≡ (get_or files at f).path) → IsInTheWay list files path
named list files at path found reads = record {
  before = found.before;
  file = found.file;
  after = found.after;
  is = found.is;
  clear = found.clear;
  clash = found.clash;
  named = sym (reads found.file ∙ ap (λ (f : PlannedFile). f.path) (ap (λ (l : List PlannedFile). get_or l at found.file) found.is ∙ read_between found.before found.file found.after at found.file found.place));
}

pub returns-in-Some : goal.returns-in-Some
returns-in-Some c =
    let same : c.deref.result.now ≡ c.args.inventory = c.deref.ensures.value ∙ c.into_files-files.ensures.same in
    let found : IsFirstInTheWay c.in-Ok.list c.args.inventory c.in-Some.at = subst (λ (l : List PlannedFile). IsFirstInTheWay c.in-Ok.list l c.in-Some.at) same c.in-Some.ensures.found in
    let reads : (f : PlannedFile) → c.take_path-path.result ≡ (get_or c.args.inventory c.in-Some.at f).path = λ f. c.take_path-path.ensures.path f ∙ ap (λ (l : List PlannedFile). (get_or l c.in-Some.at f).path) c.into_files-files.ensures.same in
    let list : c.in-Ok.list ≡ list_name_text c.args.name c.args.started = c.in-Ok.ensures in
    (list, subst (λ (l : List ℕ). IsInTheWay l c.args.inventory c.take_path-path.result) list (named c.in-Ok.list c.args.inventory c.in-Some.at c.take_path-path.result found reads))
