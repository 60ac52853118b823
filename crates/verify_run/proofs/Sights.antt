-- What was found of each entry is what the calls saw of its path, where no two entries have one path.
use Rattle.std.proofs.Common.{◌⊎◌, inl, inr, Bool, ◌≡◌, ℕ, ◌+◌, true, false, cond, List, [], ◌∷◌, ◌++◌, map, length, refl, sym, ◌∙◌, ap, subst, append_assoc, append-nil, MatchResult}
use Rattle.std.proofs.lemmas.List.Elements.{filter-append}
use Rattle.std.proofs.lemmas.Bool.{false_from_ne_true}
use Rattle.std.specs.Prelude.{Option, Some, None, option_map, unwrap_or, bytes_eq, Result, Ok, Err, IfOk}
use Rattle.std.specs.Cmp.Lexicographic.{same_text}
use Rattle.std.specs.List.{filter, flat_map, IsDistinct, AllByRecursion}
use Rattle.std.specs.FinMap.{get}
use Rattle.bay_core.specs.declared.event.Event.{Event}
use Rattle.bay_core.specs.declared.event.Event.TheVariants.{DriveList}
use Rattle.bay_core.specs.Map.{Map}
use Rattle.bay_core.specs.Replay.{reads}
use Rattle.bay_core.specs.World.{World, Honest}
use Rattle.bay_core.specs.Went.{Went}
use Rattle.bay_core.specs.Looks.{Here, says, piece, given, Tiles}
use Rattle.bay_core.proofs.Runs.{went_such}
use Rattle.bay_core.proofs.Looking.{no_tiles}
use Rattle.folder_listing.specs.Listing.{Sizes, listing, names}
use Rattle.folder_listing.proofs.Texts.{bytes_eq-self}
use Rattle.mhl_writer.specs.declared.values.HashEntry.{HashEntry}
use Rattle.report_text.specs.Line.{unlisted_text}
use Rattle.report_text.specs.Shown.{shown}
use Rattle.verify_run.specs.declared.verdict.Verdict.{Verdict}
use Rattle.verify_run.specs.declared.verdict.VerifyError.{VerifyError}
use Rattle.verify_run.specs.Report.{Found, verdict_line, entry_lines, verdict, unlisted}
use Rattle.file_reading.specs.Reads.{AskedUpTo}
use Rattle.verify_run.specs.Results.{bytes_read, Follows, entry_calls, Look, founds, looked, AllFollow, last_lines, Verified, VerifyStopped, limit_of, Ended}
use Rattle.verify_run.specs.Seen.{is_listing, ListedOnce, is_read_of, reads_of, seen, found_by, ReadToEnd, Reports, Sees}
use Rattle.verify_run.proofs.Reported.{calls_said}

reads_append : (q : List ℕ) (A B : List Event) → reads_of q (A ++ B) ≡ reads_of q A ++ reads_of q B
reads_append q A B = filter-append (is_read_of q) A B

no_reads : (q : List ℕ) (ts : List (List ℕ)) → reads_of q (says ts) ≡ []
no_reads q [] = refl
no_reads q (t ∷ ts) = no_reads q ts

reads_here : (q : List ℕ) (d : ℕ) (path : List ℕ) (at : ℕ) (A : List Event) → bytes_eq path q ≡ true → Tiles d path at A → reads_of q A ≡ A
unfolding Tiles
reads_here q d path at [] is t = refl
reads_here q d path at (e ∷ A) is ((want, got, call), t) =
    ap (λ b. cond b (e ∷ reads_of q A) (reads_of q A)) (ap (is_read_of q) call ∙ is) ∙ ap (λ (l : List Event). e ∷ l) (reads_here q d path (at + length (piece e)) A is t)

reads_else : (q : List ℕ) (d : ℕ) (path : List ℕ) (at : ℕ) (A : List Event) → bytes_eq path q ≡ false → Tiles d path at A → reads_of q A ≡ []
unfolding Tiles
reads_else q d path at [] is t = refl
reads_else q d path at (e ∷ A) is ((want, got, call), t) =
    ap (λ b. cond b (e ∷ reads_of q A) (reads_of q A)) (ap (is_read_of q) call ∙ is) ∙ reads_else q d path (at + length (piece e)) A is t

entry_here : (q : List ℕ) (d : ℕ) (folder : Sizes) (e : HashEntry) (calls : Option (List Event)) → Follows d folder e calls → bytes_eq e.path q ≡ true → reads_of q (entry_calls e calls) ≡ unwrap_or calls []
entry_here q d folder e None f is = no_reads q (entry_lines e None)
entry_here q d folder e (Some A) f is =
    reads_append q A (says (entry_lines e (Some (given A)))) ∙ (λ i. reads_here q d e.path 0 A is f.2 i ++ no_reads q (entry_lines e (Some (given A))) i) ∙ append-nil A

entry_else : (q : List ℕ) (d : ℕ) (folder : Sizes) (e : HashEntry) (calls : Option (List Event)) → Follows d folder e calls → bytes_eq e.path q ≡ false → reads_of q (entry_calls e calls) ≡ []
entry_else q d folder e None f is = no_reads q (entry_lines e None)
entry_else q d folder e (Some A) f is =
    reads_append q A (says (entry_lines e (Some (given A)))) ∙ (λ i. reads_else q d e.path 0 A is f.2 i ++ no_reads q (entry_lines e (Some (given A))) i)

tiles_list_nothing : (d : ℕ) (path : List ℕ) (at : ℕ) (A : List Event) → Tiles d path at A → filter is_listing A ≡ []
unfolding Tiles
tiles_list_nothing d path at [] t = refl
tiles_list_nothing d path at (e ∷ A) ((want, got, call), t) =
    ap (λ b. cond b (e ∷ filter is_listing A) (filter is_listing A)) (ap is_listing call) ∙ tiles_list_nothing d path (at + length (piece e)) A t

lines_list_nothing : (ts : List (List ℕ)) → filter is_listing (says ts) ≡ []
lines_list_nothing [] = refl
lines_list_nothing (t ∷ ts) = lines_list_nothing ts

entry_lists_nothing : (d : ℕ) (folder : Sizes) (e : HashEntry) (calls : Option (List Event)) → Follows d folder e calls → filter is_listing (entry_calls e calls) ≡ []
entry_lists_nothing d folder e None f = lines_list_nothing (entry_lines e None)
entry_lists_nothing d folder e (Some A) f =
    filter-append is_listing A (says (entry_lines e (Some (given A)))) ∙ (λ i. tiles_list_nothing d e.path 0 A f.2 i ++ lines_list_nothing (entry_lines e (Some (given A))) i)

-- the entries are looked at without a listing
looked_lists_nothing : (d : ℕ) (folder : Sizes) (looks : List Look) → AllFollow d folder looks → filter is_listing (looked looks) ≡ []
unfolding AllFollow
looked_lists_nothing d folder [] f = refl
looked_lists_nothing d folder (k ∷ looks) f =
    filter-append is_listing (entry_calls k.0 k.1) (looked looks) ∙ (λ i. entry_lists_nothing d folder k.0 k.1 f.0 i ++ looked_lists_nothing d folder looks f.1 i)

turned : (p q : List ℕ) → bytes_eq p q ≡ false → bytes_eq q p ≡ false
turned p q other = false_from_ne_true (bytes_eq q p) (λ equal. let e : q ≡ p = same_text q p (sym equal) in let f : true ≡ false = sym (bytes_eq-self p) ∙ ap (bytes_eq p) (sym e) ∙ other in cc)

abbrev paths_in : List Look → List (List ℕ)
paths_in looks = map (λ k. k.0.path) looks

none_read : (d : ℕ) (folder : Sizes) (p : List ℕ) (looks : List Look) → AllFollow d folder looks → AllByRecursion (λ y. bytes_eq p y ≡ false) (paths_in looks) → reads_of p (looked looks) ≡ []
unfolding AllFollow
none_read d folder p [] f apart = refl
none_read d folder p (k ∷ looks) f apart =
    reads_append p (entry_calls k.0 k.1) (looked looks) ∙ (λ i. entry_else p d folder k.0 k.1 f.0 (turned p k.0.path apart.0) i ++ none_read d folder p looks f.1 apart.1 i)

-- F gives the reads of each
abbrev Gives : (List ℕ → List Event) → List Look → Type 0
Gives F [] = Unit {0}
Gives F (k ∷ looks) = (F k.0.path ≡ unwrap_or k.1 []) × Gives F looks

gives_else : (F : List ℕ → List Event) (d : ℕ) (folder : Sizes) (e : HashEntry) (calls : Option (List Event)) (rest : List Event) → Follows d folder e calls → (looks : List Look) → AllByRecursion (λ y. bytes_eq e.path y ≡ false) (paths_in looks)
    → ((q : List ℕ) → F q ≡ reads_of q rest) → Gives F looks → Gives (λ q. reads_of q (entry_calls e calls ++ rest)) looks
gives_else F d folder e calls rest f [] apart same g = tt
gives_else F d folder e calls rest f (k ∷ looks) apart same g = (
  reads_append k.0.path (entry_calls e calls) rest ∙ (λ i. entry_else k.0.path d folder e calls f apart.0 i ++ sym (same k.0.path) i) ∙ g.0,
  gives_else F d folder e calls rest f looks apart.1 same g.1,
)

gives_looked : (d : ℕ) (folder : Sizes) (looks : List Look) → AllFollow d folder looks → IsDistinct bytes_eq (paths_in looks) → Gives (λ q. reads_of q (looked looks)) looks
unfolding AllFollow IsDistinct
gives_looked d folder [] f distinct = tt
gives_looked d folder (k ∷ looks) f distinct = (
  reads_append k.0.path (entry_calls k.0 k.1) (looked looks)
      ∙ (λ i. entry_here k.0.path d folder k.0 k.1 f.0 (bytes_eq-self k.0.path) i ++ none_read d folder k.0.path looks f.1 distinct.0 i) ∙ append-nil (unwrap_or k.1 []),
  gives_else (λ q. reads_of q (looked looks)) d folder k.0 k.1 (looked looks) f.0 looks distinct.0 (λ q. refl) (gives_looked d folder looks f.1 distinct.1),
)

gives_same : (F G : List ℕ → List Event) (looks : List Look) → ((q : List ℕ) → G q ≡ F q) → Gives F looks → Gives G looks
gives_same F G [] same g = tt
gives_same F G (k ∷ looks) same g = (same k.0.path ∙ g.0, gives_same F G looks same g.1)

sees_one : (F : List ℕ → List Event) (d : ℕ) (folder : Sizes) (e : HashEntry) (calls : Option (List Event)) → Follows d folder e calls → F e.path ≡ unwrap_or calls [] → bytes_read calls ≡ option_map (λ (n : ℕ). given (F e.path)) (get folder e.path)
sees_one F d folder e None f g = sym (ap (option_map (λ (n : ℕ). given (F e.path))) f)
sees_one F d folder e (Some A) f g = ap (λ (l : List Event). Some (given l)) (sym g) ∙ sym (ap (option_map (λ (n : ℕ). given (F e.path))) f.1)

sees_all : (F : List ℕ → List Event) (d : ℕ) (folder : Sizes) (looks : List Look) → AllFollow d folder looks → Gives F looks
    → founds looks ≡ found_by (λ q. option_map (λ (n : ℕ). given (F q)) (get folder q)) (map (λ (k : Look). k.0) looks)
unfolding AllFollow
sees_all F d folder [] f g = refl
sees_all F d folder (k ∷ looks) f g = λ i. (k.0, sees_one F d folder k.0 k.1 f.0 g.0 i) ∷ sees_all F d folder looks f.1 g.1 i

paths_each : (looks : List Look) → paths_in looks ≡ map (λ (e : HashEntry). e.path) (map (λ (k : Look). k.0) looks)
paths_each [] = refl
paths_each (k ∷ looks) = ap (λ (l : List (List ℕ)). k.0.path ∷ l) (paths_each looks)

own_tiles : (d : ℕ) (folder : Sizes) (e : HashEntry) (calls : Option (List Event)) → Follows d folder e calls → Tiles d e.path 0 (unwrap_or calls [])
own_tiles d folder e None f = no_tiles d e.path 0
own_tiles d folder e (Some A) f = f.2

told_apart : (b : Bool) → (b ≡ true) ⊎ (b ≡ false)
told_apart true = inl refl
told_apart false = inr refl

tiles_looked : (d : ℕ) (folder : Sizes) (q : List ℕ) (looks : List Look) → AllFollow d folder looks → IsDistinct bytes_eq (paths_in looks) → Tiles d q 0 (reads_of q (looked looks))
unfolding AllFollow IsDistinct
tiles_looked d folder q [] f distinct = no_tiles d q 0
tiles_looked d folder q (k ∷ looks) f distinct = elim (told_apart (bytes_eq k.0.path q)) [
  | inl here ↦
      let same : k.0.path ≡ q = same_text k.0.path q (sym here) in
      let rest : reads_of q (looked looks) ≡ [] = subst (λ p. reads_of p (looked looks) ≡ []) same (none_read d folder k.0.path looks f.1 distinct.0) in
      let is : reads_of q (looked (k ∷ looks)) ≡ unwrap_or k.1 [] = reads_append q (entry_calls k.0 k.1) (looked looks) ∙ (λ i. entry_here q d folder k.0 k.1 f.0 here i ++ rest i) ∙ append-nil (unwrap_or k.1 []) in
      subst (Tiles d q 0) (sym is) (subst (λ p. Tiles d p 0 (unwrap_or k.1 [])) same (own_tiles d folder k.0 k.1 f.0))
  | inr else ↦
      let is : reads_of q (looked (k ∷ looks)) ≡ reads_of q (looked looks) = reads_append q (entry_calls k.0 k.1) (looked looks) ∙ ap (λ (l : List Event). l ++ reads_of q (looked looks)) (entry_else q d folder k.0 k.1 f.0 else) in
      subst (Tiles d q 0) (sym is) (tiles_looked d folder q looks f.1 distinct.1)
]

-- each entry's reads went to their end
read_to_end : (F : List ℕ → List Event) (d : ℕ) (folder : Sizes) (e : HashEntry) (calls : Option (List Event)) → Follows d folder e calls → F e.path ≡ unwrap_or calls []
    → (size : ℕ) → get folder e.path ≡ Some size → AskedUpTo (limit_of size) (F e.path) × Ended (limit_of size) (F e.path)
read_to_end F d folder e None f g size there = absurd (let none : None ≡ Some size = sym f ∙ there in cc)
read_to_end F d folder e (Some A) f g size there =
    let same : f.0 ≡ size = let is : Some f.0 ≡ Some size = sym f.1 ∙ there in cc in
    subst (λ n. AskedUpTo (limit_of n) (F e.path) × Ended (limit_of n) (F e.path)) same (subst (AskedUpTo (limit_of f.0)) (sym g) f.3, subst (Ended (limit_of f.0)) (sym g) f.4)

all_to_end : (F : List ℕ → List Event) (d : ℕ) (folder : Sizes) (looks : List Look) → AllFollow d folder looks → Gives F looks
    → AllByRecursion (λ (e : HashEntry). (size : ℕ) → get folder e.path ≡ Some size → AskedUpTo (limit_of size) (F e.path) × Ended (limit_of size) (F e.path)) (map (λ (k : Look). k.0) looks)
unfolding AllFollow
all_to_end F d folder [] f g = tt
all_to_end F d folder (k ∷ looks) f g = (read_to_end F d folder k.0 k.1 f.0 g.0, all_to_end F d folder looks f.1 g.1)

module _ (d : ℕ) (es : List HashEntry) (own : List ℕ) (v : Verdict) (old new : World) (distinct : IsDistinct bytes_eq (map (λ (e : HashEntry). e.path) es)) (x : Verified d es own v old new) where
  abbrev ts : List (List ℕ)
  ts = last_lines (unlisted es (names x.files) own) v

  abbrev K : List Event
  K = DriveList d (Some x.files) ∷ (looked x.looks ++ says ts)

  apart : IsDistinct bytes_eq (paths_in x.looks)
  apart = subst (IsDistinct bytes_eq) (sym (paths_each x.looks ∙ ap (map (λ (e : HashEntry). e.path)) x.each)) distinct

  reads_K : (q : List ℕ) → reads_of q K ≡ reads_of q (looked x.looks)
  reads_K q = reads_append q (looked x.looks) (says ts) ∙ ap (λ (l : List Event). reads_of q (looked x.looks) ++ l) (no_reads q ts) ∙ append-nil (reads_of q (looked x.looks))

  each_gives : Gives (λ q. reads_of q K) x.looks
  each_gives = gives_same (λ q. reads_of q (looked x.looks)) (λ q. reads_of q K) x.looks reads_K (gives_looked d (listing x.files) x.looks x.follow apart)

  to_end : AllByRecursion (λ (e : HashEntry). ReadToEnd K e.path) es
  to_end = subst (AllByRecursion (λ (e : HashEntry). ReadToEnd K e.path)) x.each (all_to_end (λ q. reads_of q K) d (listing x.files) x.looks x.follow each_gives)

  all : founds x.looks ≡ found_by (seen K) es
  all = sees_all (λ q. reads_of q K) d (listing x.files) x.looks x.follow each_gives ∙ ap (found_by (seen K)) x.each

  numbers_K : v ≡ verdict (found_by (seen K) es) (length (unlisted es (names x.files) own))
  numbers_K = x.numbers ∙ ap (λ fs. verdict fs (length (unlisted es (names x.files) own))) all

  listed_once : ListedOnce d K
  listed_once = record {
    files = x.files;
    rest = looked x.looks ++ says ts;
    is = refl;
    once = filter-append is_listing (looked x.looks) (says ts) ∙ (λ i. looked_lists_nothing d (listing x.files) x.looks x.follow i ++ lines_list_nothing ts i);
  }

  pub seen_reports : Went (Here d) (Reports d es own v) old new
  seen_reports = went_such (λ L is. subst (Reports d es own v) (sym is) (record {
    listed = listed_once;
    said = calls_said d es own v old new x
        ∙ (λ i. flat_map (λ (f : Found). entry_lines f.0 f.1) (all i) ++ last_lines (unlisted es (names x.files) own) (numbers_K i))
        ∙ sym (append_assoc (flat_map (λ (f : Found). entry_lines f.0 f.1) (found_by (seen K) es)) (map (λ q. unlisted_text (shown q)) (unlisted es (names x.files) own)) (verdict_line (verdict (found_by (seen K) es) (length (unlisted es (names x.files) own))) ∷ []));
    numbers = numbers_K;
    tile = λ q. subst (Tiles d q 0) (sym (reads_K q)) (tiles_looked d (listing x.files) q x.looks x.follow apart);
    whole = to_end;
  })) x.went

  pub map_seen : (m : Map) (L : List Event) → Honest new d m L → Went (Here d) (Sees es (reads m L d)) old new
  map_seen m L h = went_such (λ A is. subst (Sees es (reads m L d)) (sym is) (record { founds = sym all ∙ x.honest_founds m L h; names = x.honest_names m L h })) x.went

pub result_seen : (r : Result Verdict VerifyError) (d : ℕ) (es : List HashEntry) (own : List ℕ) (old new : World) → MatchResult r (λ v. Verified d es own v old new) (λ e. VerifyStopped d es own e old new)
    → IsDistinct bytes_eq (map (λ (e : HashEntry). e.path) es) → IfOk r (λ v. Went (Here d) (Reports d es own v) old new)
result_seen (Ok v) d es own old new x distinct = seen_reports d es own v old new distinct x
result_seen (Err e) d es own old new x distinct = tt

pub result_honest : (r : Result Verdict VerifyError) (d : ℕ) (es : List HashEntry) (own : List ℕ) (old new : World) → MatchResult r (λ v. Verified d es own v old new) (λ e. VerifyStopped d es own e old new)
    → IsDistinct bytes_eq (map (λ (e : HashEntry). e.path) es) → (m : Map) (L : List Event) → Honest new d m L → IfOk r (λ v. Went (Here d) (Sees es (reads m L d)) old new)
result_honest (Ok v) d es own old new x distinct m L h = map_seen d es own v old new distinct x m L h
result_honest (Err e) d es own old new x distinct m L h = tt
