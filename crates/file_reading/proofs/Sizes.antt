-- The size that a listing gives a path.
use Rattle.std.proofs.Common.{◌≡◌, ℕ, ◌+◌, ◌<◌, true, false, cond, List, [], ◌∷◌, ◌++◌, length, take, drop, get_or, refl, sym, ◌∙◌, ap}
use Rattle.std.proofs.lemmas.List.{take_more, take-append-drop}
use Rattle.std.specs.Prelude.{Option, Some, None, option_map, bytes_eq, Bool}
use Rattle.std.specs.Map.{lookup}
use Rattle.std.specs.FinMap.{get}
use Rattle.bay_core.specs.declared.event.FileInfo.{FileInfo}
use Rattle.bay_core.specs.Map.{sizes}
use Rattle.folder_listing.specs.Listing.{listing}
use Rattle.folder_listing.proofs.Trees.{get-listing}
use Rattle.folder_listing.proofs.Texts.{bytes_eq-flip}

-- a file that is there has a size, and one that is not has none
pub some_size : (o : Option (List ℕ)) (n : ℕ) → Some n ≡ option_map length o → (c : List ℕ) × (o ≡ Some c) × (length c ≡ n)
some_size None n e = absurd (cc e)
some_size (Some c) n e = let f : n ≡ length c = cc e in (c, refl, sym f)

pub no_size : (o : Option (List ℕ)) → None ≡ option_map length o → o ≡ None
no_size None e = refl
no_size (Some c) e = absurd (cc e)

-- what stands behind names that are not it
lookup_behind : (q : List ℕ) (xs ys : List FileInfo) → lookup (bytes_eq q) (sizes xs) ≡ None → lookup (bytes_eq q) (sizes (xs ++ ys)) ≡ lookup (bytes_eq q) (sizes ys)
lookup_behind q [] ys none = refl
lookup_behind q (x ∷ xs) ys none = behind (bytes_eq q x.path) x.size (lookup (bytes_eq q) (sizes xs)) (lookup (bytes_eq q) (sizes (xs ++ ys))) (lookup (bytes_eq q) (sizes ys)) none (lookup_behind q xs ys)
  where
    behind : (b : Bool) (n : ℕ) (o p r : Option ℕ) → cond b (Some n) o ≡ None → (o ≡ None → p ≡ r) → cond b (Some n) p ≡ r
    behind true n o p r none same = absurd (cc none)
    behind false n o p r none same = same none

-- and in front of others, where it is found
lookup_before : (q : List ℕ) (xs ys : List FileInfo) (n : ℕ) → lookup (bytes_eq q) (sizes xs) ≡ Some n → lookup (bytes_eq q) (sizes (xs ++ ys)) ≡ Some n
lookup_before q [] ys n some = absurd (cc some)
lookup_before q (x ∷ xs) ys n some = before (bytes_eq q x.path) x.size (lookup (bytes_eq q) (sizes xs)) (lookup (bytes_eq q) (sizes (xs ++ ys))) n some (lookup_before q xs ys n)
  where
    before : (b : Bool) (m : ℕ) (o p : Option ℕ) (n : ℕ) → cond b (Some m) o ≡ Some n → (o ≡ Some n → p ≡ Some n) → cond b (Some m) p ≡ Some n
    before true m o p n some same = some
    before false m o p n some same = same some

-- one name more
one_more : (q : List ℕ) (files : List FileInfo) (i : ℕ) (f : FileInfo) → i < length files → f ≡ get_or files i f → lookup (bytes_eq q) (sizes (take i files)) ≡ None
    → lookup (bytes_eq q) (sizes (take (i + 1) files)) ≡ cond (bytes_eq q f.path) (Some f.size) None
one_more q files i f within is none =
    ap (λ (l : List FileInfo). lookup (bytes_eq q) (sizes l)) (take_more files i f within ∙ ap (λ (y : FileInfo). take i files ++ y ∷ []) (sym is)) ∙ lookup_behind q (take i files) (f ∷ []) none

pub size_none : (q : List ℕ) (files : List FileInfo) (i : ℕ) (f : FileInfo) (path : List ℕ) (b : Bool) → i < length files → f ≡ get_or files i f → path ≡ f.path → b ≡ bytes_eq path q → b ≡ false → lookup (bytes_eq q) (sizes (take i files)) ≡ None
    → lookup (bytes_eq q) (sizes (take (i + 1) files)) ≡ None
size_none q files i f path b within is name test false_is none =
    one_more q files i f within is none ∙ ap (λ t. cond t (Some f.size) None) (bytes_eq-flip q f.path ∙ ap (λ p. bytes_eq p q) (sym name) ∙ sym test ∙ false_is)

pub size_found : (q : List ℕ) (files : List FileInfo) (i : ℕ) (f : FileInfo) (path : List ℕ) (b : Bool) → i < length files → f ≡ get_or files i f → path ≡ f.path → b ≡ bytes_eq path q → b ≡ true → lookup (bytes_eq q) (sizes (take i files)) ≡ None
    → Some f.size ≡ get (listing files) q
size_found q files i f path b within is name test true_is none =
    let here : lookup (bytes_eq q) (sizes (take (i + 1) files)) ≡ Some f.size =
    one_more q files i f within is none ∙ ap (λ t. cond t (Some f.size) None) (bytes_eq-flip q f.path ∙ ap (λ p. bytes_eq p q) (sym name) ∙ sym test ∙ true_is) in
    sym (get-listing files q ∙ ap (λ (l : List FileInfo). lookup (bytes_eq q) (sizes l)) (sym (take-append-drop (i + 1) files)) ∙ lookup_before q (take (i + 1) files) (drop (i + 1) files) f.size here)

pub size_absent : (q : List ℕ) (files : List FileInfo) → lookup (bytes_eq q) (sizes files) ≡ None → None ≡ get (listing files) q
size_absent q files none = sym (get-listing files q ∙ none)
