use Rattle.std.proofs.Common.{Bool, cond, true, ap, sym, ◌∙◌}
use Rattle.std.specs.Prelude.{List, ℕ, string_bytes}
use Rattle.std.specs.BTreeSet.{contains_text}
use Rattle.std.specs.Str.{bytes_eq}
use Rattle.std.proofs.lemmas.Map.Text.{btree_set_updates_text}
use Rattle.mhl_writer.specs.declared.values.HashEntry.{HashEntry}
use Rattle.mhl_reader.specs.Leaves.{is_taken}
use Rattle.mhl_reader.proofs.Taken.{taken_more}
use Rattle.mhl_reader.proofs.entries.Entries.with.Goals as goal

pub invariant_of-result : goal.invariant_of-result
invariant_of-result c = λ path.
    btree_set_updates_text (string_bytes c.in_ok-path.path) c.self.inside.paths c.insert.new.self true c.in_ok-insert.ensures.updates path
    ∙ ap (λ (bytes : List ℕ). cond (bytes_eq bytes path) true (contains_text c.self.inside.paths path)) (c.in_ok-path.ensures.ok ∙ c.as_str.ensures.same)
    ∙ ap (λ (taken : Bool). cond (bytes_eq c.args.entry.path path) true taken) (c.self.invariant path)
    ∙ taken_more c.self.inside.list.items c.args.entry path
    ∙ ap (λ (entries : List HashEntry). is_taken entries path) (sym c.in_ok-push.ensures.items)
