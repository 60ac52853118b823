-- The names that no entry has.
use Rattle.std.proofs.Common.{◌≡◌, ℕ, ◌+◌, ◌<◌, Bool, true, false, not, cond, List, [], ◌∷◌, ◌++◌, map, length, take, drop, get_or, refl, sym, ◌∙◌, ap, subst, append-nil}
use Rattle.std.proofs.lemmas.List.{map-append, take_more, take-append-drop, length-map}
use Rattle.std.proofs.lemmas.List.Elements.{filter-append}
use Rattle.std.proofs.lemmas.Simd.{map-map}
use Rattle.std.specs.Prelude.{◌&&◌, bytes_eq}
use Rattle.std.specs.List.{filter, list_any}
use Rattle.std.specs.FinMap.{keys}
use Rattle.report_text.specs.Line.{unlisted_text}
use Rattle.report_text.specs.Shown.{shown}
use Rattle.bay_core.specs.World.{World}
use Rattle.bay_core.specs.Went.{Went}
use Rattle.bay_core.specs.Looks.{Here, Exactly, says}
use Rattle.bay_core.proofs.Looking.{says_looks, said_says}
use Rattle.verify_run.proofs.Lines.{said_as, said_then}
use Rattle.verify_run.proofs.Stops.{unsaid_lines, lines_after, lines_as}
use Rattle.bay_core.specs.declared.event.FileInfo.{FileInfo}
use Rattle.folder_listing.specs.Listing.{Sizes, listing, names}
use Rattle.mhl_writer.specs.declared.values.HashEntry.{HashEntry}
use Rattle.bay_core.specs.Map.{Map}
use Rattle.verify_run.specs.declared.verdict.VerifyError.{VerifyError}
use Rattle.verify_run.specs.Calls.{Unsaid, LinesStopped, AnyMap}
use Rattle.verify_run.specs.Report.{unlisted, unlisted_lines, is_other}

-- one name more, which is left out or shown
pub others_more : (own : List ℕ) (ns : List (List ℕ)) (i : ℕ) (n : List ℕ) → i < length ns → n ≡ get_or ns i n
    → map shown (filter (is_other own) (take (i + 1) ns)) ≡ map shown (filter (is_other own) (take i ns)) ++ map shown (cond (is_other own n) (n ∷ []) [])
others_more own ns i n within is =
    ap (λ l. map shown (filter (is_other own) l)) (take_more ns i n within ∙ ap (λ y. take i ns ++ y ∷ []) (sym is))
    ∙ ap (map shown) (filter-append (is_other own) (take i ns) (n ∷ []))
    ∙ map-append shown (filter (is_other own) (take i ns)) (cond (is_other own n) (n ∷ []) [])

filter_twice : (a b : Bool) (p q : List ℕ → Bool) (x : List ℕ) (xs : List (List ℕ)) → p x ≡ a → q x ≡ b → filter q (filter p xs) ≡ filter (λ y. p y && q y) xs → filter q (cond a (x ∷ filter p xs) (filter p xs)) ≡ cond (a && b) (x ∷ filter (λ y. p y && q y) xs) (filter (λ y. p y && q y) xs)
filter_twice true true p q x xs here there rest = ap (λ t. cond t (x ∷ filter q (filter p xs)) (filter q (filter p xs))) there ∙ ap (λ l. x ∷ l) rest
filter_twice true false p q x xs here there rest = ap (λ t. cond t (x ∷ filter q (filter p xs)) (filter q (filter p xs))) there ∙ rest
filter_twice false b p q x xs here there rest = rest

filter-filter : (p q : List ℕ → Bool) (xs : List (List ℕ)) → filter q (filter p xs) ≡ filter (λ x. p x && q x) xs
filter-filter p q [] = refl
filter-filter p q (x ∷ xs) = filter_twice (p x) (q x) p q x xs refl refl (filter-filter p q xs)

-- what is shown of the names that are not marked are the unlisted names
pub others_are : (es : List HashEntry) (files : List FileInfo) (own : List ℕ) (folder : Sizes) (unmarked shown_names : List (List ℕ)) → folder ≡ listing files
    → unmarked ≡ filter (λ q. not (list_any (bytes_eq q) (map (λ e. e.path) es))) (keys folder)
    → shown_names ≡ map shown (filter (is_other own) unmarked) → shown_names ≡ map shown (unlisted es (names files) own)
others_are es files own folder unmarked shown_names sizes left is =
    is ∙ ap (λ l. map shown (filter (is_other own) l)) (left ∙ ap (λ (f : Sizes). filter (λ q. not (list_any (bytes_eq q) (map (λ e. e.path) es))) (keys f)) sizes)
    ∙ ap (map shown) (filter-filter (λ q. not (list_any (bytes_eq q) (map (λ e. e.path) es))) (is_other own) (names files))

pub other_shown : (own : List ℕ) (ns : List (List ℕ)) (i : ℕ) (n path : List ℕ) (b : Bool) (before after : List (List ℕ)) → i < length ns → n ≡ get_or ns i n → path ≡ n → b ≡ is_other own path → b ≡ true
    → before ≡ map shown (filter (is_other own) (take i ns)) → after ≡ before ++ shown path ∷ [] → after ≡ map shown (filter (is_other own) (take (i + 1) ns))
other_shown own ns i n path b before after within is name test true_is was now =
    now ∙ (λ j. was j ++ shown (name j) ∷ [])
    ∙ sym (others_more own ns i n within is ∙ ap (λ t. map shown (filter (is_other own) (take i ns)) ++ map shown (cond t (n ∷ []) [])) (ap (is_other own) (sym name) ∙ sym test ∙ true_is))

pub other_left : (own : List ℕ) (ns : List (List ℕ)) (i : ℕ) (n path : List ℕ) (b : Bool) (before : List (List ℕ)) → i < length ns → n ≡ get_or ns i n → path ≡ n → b ≡ is_other own path → b ≡ false
    → before ≡ map shown (filter (is_other own) (take i ns)) → before ≡ map shown (filter (is_other own) (take (i + 1) ns))
other_left own ns i n path b before within is name test false_is was =
    was ∙ sym (append-nil (map shown (filter (is_other own) (take i ns))))
    ∙ sym (others_more own ns i n within is ∙ ap (λ t. map shown (filter (is_other own) (take i ns)) ++ map shown (cond t (n ∷ []) [])) (ap (is_other own) (sym name) ∙ sym test ∙ false_is))

-- the lines of names as they are shown
shown_lines : (names others : List (List ℕ)) → names ≡ map shown others → map unlisted_text names ≡ unlisted_lines others
shown_lines names others is = ap (map unlisted_text) is ∙ map-map unlisted_text shown others

pub shown_said : (d : ℕ) (names others : List (List ℕ)) {old new : World} → names ≡ map shown others → Went (Here d) (Exactly (says (map unlisted_text names))) old new → Went (Here d) (Exactly (says (unlisted_lines others))) old new
shown_said d names others is w = said_as d _ _ (sym (shown_lines names others is)) w

pub as_many : (names others : List (List ℕ)) → names ≡ map shown others → length names ≡ length others
as_many names others is = ap length is ∙ length-map others shown

pub names_turn : (d : ℕ) (ns : List (List ℕ)) (i : ℕ) (n path : List ℕ) (old mid new : World) → i < length ns → n ≡ get_or ns i n → path ≡ n
    → Went (Here d) (Exactly (says (map unlisted_text (take i ns)))) old mid → Went (Here d) (Exactly (says (unlisted_text path ∷ []))) mid new
    → Went (Here d) (Exactly (says (map unlisted_text (take (i + 1) ns)))) old new
names_turn d ns i n path old mid new within is name one two =
    let more : map unlisted_text (take (i + 1) ns) ≡ map unlisted_text (take i ns) ++ unlisted_text path ∷ [] =
    ap (map unlisted_text) (take_more ns i n within ∙ ap (λ y. take i ns ++ y ∷ []) (sym is))
    ∙ map-append unlisted_text (take i ns) (n ∷ []) ∙ ap (λ p. map unlisted_text (take i ns) ++ unlisted_text p ∷ []) (sym name) in
    subst (λ ts. Went (Here d) (Exactly (says ts)) old new) (sym more) (said_then d (map unlisted_text (take i ns)) (unlisted_text path ∷ []) one two)

-- a name that could not be said
pub names_stopped : (d : ℕ) (ns : List (List ℕ)) (i : ℕ) (x : VerifyError) (old mid new : World) → Went (Here d) (Exactly (says (map unlisted_text (take i ns)))) old mid → Unsaid d x mid new → LinesStopped d AnyMap (λ _. map unlisted_text ns) x old new
names_stopped d ns i x old mid new one u =
    let before = map unlisted_text (take i ns) in
    let after = map unlisted_text (drop i ns) in
    lines_as d AnyMap AnyMap (λ _. before ++ after) (λ _. map unlisted_text ns) x (λ m known. known) (λ m known. sym (map-append unlisted_text (take i ns) (drop i ns)) ∙ ap (map unlisted_text) (take-append-drop i ns))
    (lines_after d AnyMap (λ _. before) (λ _. after) x (says before) (says_looks before) one (λ m L h known. said_says before) (unsaid_lines d AnyMap (λ _. after) x u))

-- the names could not all be said
pub others_stopped : (d : ℕ) (K : Map → Type 0) (names others : List (List ℕ)) (x : VerifyError) {old new : World} → names ≡ map shown others → LinesStopped d AnyMap (λ _. map unlisted_text names) x old new
    → LinesStopped d K (λ _. unlisted_lines others) x old new
others_stopped d K names others x is s = lines_as d AnyMap K (λ _. map unlisted_text names) (λ _. unlisted_lines others) x (λ m known. tt) (λ m known. shown_lines names others is) s

-- the verdict could not be said
pub verdict_stopped : (d : ℕ) (K : Map → Type 0) (names others : List (List ℕ)) (x : VerifyError) {old mid new : World} → names ≡ map shown others → Went (Here d) (Exactly (says (map unlisted_text names))) old mid → Unsaid d x mid new
    → LinesStopped d K (λ _. unlisted_lines others) x old new
verdict_stopped d K names others x is one u =
    let ts = unlisted_lines others in
    lines_as d K K (λ _. ts ++ []) (λ _. ts) x (λ m known. known) (λ m known. append-nil ts)
    (lines_after d K (λ _. ts) (λ _. []) x (says ts) (says_looks ts) (shown_said d names others is one) (λ m L h known. said_says ts) (unsaid_lines d K (λ _. []) x u))
