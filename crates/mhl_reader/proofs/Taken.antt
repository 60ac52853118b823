-- The paths of entries, beside a set of them.
use Rattle.std.proofs.Common.{◌≡◌, ℕ, Bool, true, false, cond, ◌||◌, List, [], ◌∷◌, ◌++◌, refl, sym, ap, ◌∙◌}
use Rattle.std.specs.Cmp.Lexicographic.{nat_list_eq_equiv}
use Rattle.std.specs.List.{list_any}
use Rattle.std.specs.Str.{bytes_eq}
use Rattle.std.proofs.lemmas.List.{map-append}
use Rattle.std.proofs.lemmas.List.Folds.{list_any-append}
use Rattle.mhl_writer.specs.declared.values.HashEntry.{HashEntry}
use Rattle.mhl_writer.specs.ListText.{paths_of}
use Rattle.mhl_reader.specs.Leaves.{is_taken}

either : (a b c : Bool) → a ≡ b → cond a true c ≡ (c || (b || false))
either true true true e = refl
either true true false e = refl
either false false true e = refl
either false false false e = refl
either true false c e = absurd cc
either false true c e = absurd cc

-- with an entry more, its path is taken too
pub taken_more : (earlier : List HashEntry) (entry : HashEntry) (path : List ℕ) → cond (bytes_eq entry.path path) true (is_taken earlier path) ≡ is_taken (earlier ++ entry ∷ []) path
taken_more earlier entry path =
    either (bytes_eq entry.path path) (bytes_eq path entry.path) (is_taken earlier path) (nat_list_eq_equiv.symm entry.path path)
    ∙ sym (list_any-append (bytes_eq path) (paths_of earlier) (entry.path ∷ []))
    ∙ sym (ap (list_any (bytes_eq path)) (map-append (λ (e : HashEntry). e.path) earlier (entry ∷ [])))
