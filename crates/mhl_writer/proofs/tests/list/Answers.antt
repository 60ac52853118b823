use Rattle.std.proofs.Common.{◌≡◌, ◌≤◌, List, [], ◌∷◌, ◌++◌, length, Some, refl, sym, ap, subst, ◌∙◌, arith}
use Rattle.std.specs.List.{AllByRecursion, IsDistinct}
use Rattle.std.specs.Str.{bytes_eq}
use Rattle.mhl_writer.specs.declared.values.HashEntry.{HashEntry}
use Rattle.mhl_writer.specs.ListText.{IsWholeEntry, IsDigest, paths_of}
use Rattle.mhl_writer.proofs.tests.list.Goals as goal

record OneEntry (entries : List HashEntry) : Type 0 where
  whole : AllByRecursion IsWholeEntry entries
  distinct : IsDistinct bytes_eq (paths_of entries)
  few : length entries ≤ 262144

one_entry : (e : HashEntry) → IsWholeEntry e → OneEntry (e ∷ [])
unfolding IsDistinct
one_entry e whole = record { whole = (whole, tt); distinct = (tt, tt); few = omega arith }

pub returns : goal.returns
returns g c =
    let digest : IsDigest 16 c.args.md5.now = record { long = omega arith; bytes = c.fits-md5 } in
    let e : HashEntry = record { path = c.args.path; size = Some c.args.size; modified = Some c.moment.result; hashed = Some c.moment-2.result; md5 = Some c.args.md5.now; sha1 = c.args.sha1; xxh = c.args.xxh } in
    let items : c.push.new.self.items ≡ e ∷ [] = c.in_ok-push.ensures.items ∙ ap (λ (es : List HashEntry). es ++ e ∷ []) c.new-entries.ensures.items in
    let whole : IsWholeEntry e = record { path = c.requires.path; size = c.ranges.size.fits; modified = c.moment.ensures; hashed = c.moment-2.ensures; md5 = digest; sha1 = c.requires.sha1; xxh = c.requires.xxh; digest = refl } in
    let one = subst OneEntry (sym items) (one_entry e whole) in
    record {
      creator = record { name = c.in_ok-note.ensures; username = c.in_ok-note-2.ensures; hostname = c.in_ok-note-3.ensures; tool = c.in_ok-note-4.ensures; started = c.moment-3.ensures; finished = c.moment-4.ensures };
      entries = one.whole;
      distinct = one.distinct;
      few = one.few;
    }
