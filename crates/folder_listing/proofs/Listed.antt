-- The listing of a drive's map.
use Rattle.std.proofs.Common.{◌≡◌, ℕ, Bool, true, false, cond, List, [], ◌∷◌, length, map, refl, sym, ◌∙◌, ap, subst}
use Rattle.std.specs.Prelude.{T, ◌&&◌, Option, Some, option_map}
use Rattle.std.specs.FinMap.{entries, entries_sorted, keys, from_sorted, get-from_sorted, entries-from_sorted, is_sorted, find, get, get-entries}
use Rattle.std.specs.FinMap.Entries.{below_all}
use Rattle.std.specs.Ordering.{nat_cmp, is_lt, eq_by_cmp}
use Rattle.std.specs.Cmp.Lexicographic.{slice_cmp}
use Rattle.bay_core.specs.declared.event.FileInfo.{FileInfo}
use Rattle.bay_core.specs.Map.{Map, Dates, Lists}
use Rattle.folder_listing.specs.Listing.{Sizes, listing, names}
use Rattle.folder_listing.proofs.Trees.{same_at, get-listing}

abbrev R : List ℕ → List ℕ → Rattle.std.specs.declared.cmp.Ordering.Ordering
R = slice_cmp nat_cmp

-- a listing of each file of a map has the sizes of the map
pub sizes_of_lists : (m : Map) (dates : Dates) (files : List FileInfo) → Lists m dates files → (q : List ℕ) → get (listing files) q ≡ option_map length (get m q)
sizes_of_lists m dates files lists q = get-listing files q ∙ lists.same q

abbrev sized : List ℕ × List ℕ → List ℕ × ℕ
sized e = (e.0, length e.1)

below_sized : (x : List ℕ) (es : List (List ℕ × List ℕ)) → below_all R x (map sized es) ≡ below_all R x es
below_sized x [] = refl
below_sized x (e ∷ es) = ap (λ b. is_lt (R x e.0) && b) (below_sized x es)

sorted_sized : (es : List (List ℕ × List ℕ)) → is_sorted R (map sized es) ≡ is_sorted R es
sorted_sized [] = refl
sorted_sized (e ∷ es) = λ i. below_sized e.0 es i && sorted_sized es i

some_sized : (b : Bool) (v : List ℕ) (x : Option ℕ) (o : Option (List ℕ)) → x ≡ option_map length o → cond b (Some (length v)) x ≡ option_map length (cond b (Some v) o)
some_sized true v x o e = refl
some_sized false v x o e = e

find_sized : (q : List ℕ) (es : List (List ℕ × List ℕ)) → find R q (map sized es) ≡ option_map length (find R q es)
find_sized q [] = refl
find_sized q (e ∷ es) = some_sized (eq_by_cmp R q e.0) e.1 _ _ (find_sized q es)

keys_sized : (es : List (List ℕ × List ℕ)) → map (λ (e : List ℕ × ℕ). e.0) (map sized es) ≡ map (λ (e : List ℕ × List ℕ). e.0) es
keys_sized [] = refl
keys_sized (e ∷ es) = ap (λ (l : List (List ℕ)). e.0 ∷ l) (keys_sized es)

-- sizes that are those of a map have its names
pub names_of_sizes : (m : Map) (sizes : Sizes) → ((q : List ℕ) → get sizes q ≡ option_map length (get m q)) → keys sizes ≡ keys m
names_of_sizes m sizes same =
    let h : T (is_sorted R (map sized (entries m))) = subst T (sym (sorted_sized (entries m))) (entries_sorted m) in
    let is : sizes ≡ from_sorted (map sized (entries m)) = same_at sizes (from_sorted (map sized (entries m))) (λ q.
    same q ∙ ap (option_map length) (get-entries m q) ∙ sym (get-from_sorted R (map sized (entries m)) q h ∙ find_sized q (entries m))) in
    ap (λ (f : Sizes). keys f) is ∙ ap (map (λ (e : List ℕ × ℕ). e.0)) (entries-from_sorted R (map sized (entries m)) h) ∙ keys_sized (entries m)

-- and its names
pub names_of_lists : (m : Map) (dates : Dates) (files : List FileInfo) → Lists m dates files → names files ≡ keys m
names_of_lists m dates files lists = names_of_sizes m (listing files) (sizes_of_lists m dates files lists)
