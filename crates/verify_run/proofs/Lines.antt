-- The lines that are said.
use Rattle.std.proofs.Common.{◌≡◌, ℕ, ◌+◌, ◌<◌, ◌≤◌, Bool, true, false, not, List, [], ◌∷◌, ◌++◌, length, take, drop, get_or, refl, sym, ◌∙◌, ap, subst, append-nil, append_assoc, MatchResult}
use Rattle.std.proofs.lemmas.List.{map-append, take_more, take_all, take-append-drop}
use Rattle.std.specs.Prelude.{Option, Some, None, Result}
use Rattle.std.specs.List.{flat_map}
use Rattle.bay_core.specs.declared.event.Event.TheVariants.{Say}
use Rattle.bay_core.specs.World.{World}
use Rattle.bay_core.specs.Went.{Went}
use Rattle.bay_core.specs.Looks.{Here, Exactly, says}
use Rattle.bay_core.proofs.Runs.{went_none}
use Rattle.bay_core.proofs.Looking.{exact_then, says_looks, said_says}
use Rattle.mhl_writer.specs.declared.values.HashEntry.{HashEntry}
use Rattle.mhl_writer.specs.ListText.{has_digest}
use Rattle.report_text.specs.declared.line.Line.{Line}
use Rattle.report_text.specs.Line.{line_text}
use Rattle.verify_run.specs.declared.verdict.VerifyError.{VerifyError}
use Rattle.verify_run.specs.declared.verdict.Standing.{Standing}
use Rattle.verify_run.specs.declared.verdict.Standing.TheVariants.{Absent, Altered, Good, Uncheckable}
use Rattle.verify_run.specs.Calls.{Unsaid, LinesStopped, AnyMap}
use Rattle.verify_run.specs.Report.{is_empty, standing, standing_by, altered_lines, unchecked_lines, entry_lines}
use Rattle.verify_run.specs.Results.{texts}
use Rattle.verify_run.proofs.Stops.{unsaid_lines, lines_after, lines_as, lines_more}

-- these lines were said, where these are those
pub said_as : (d : ℕ) (ts us : List (List ℕ)) {old new : World} → us ≡ ts → Went (Here d) (Exactly (says ts)) old new → Went (Here d) (Exactly (says us)) old new
said_as d ts us {old} {new} same w = subst (λ x. Went (Here d) (Exactly (says x)) old new) (sym same) w

-- one line, which is spelled otherwise
pub one_line : (t u : List ℕ) → t ≡ u → t ∷ [] ≡ u ∷ []
one_line t u same = ap (λ x. x ∷ []) same

pub said_then : (d : ℕ) (ts us : List (List ℕ)) {old mid new : World} → Went (Here d) (Exactly (says ts)) old mid → Went (Here d) (Exactly (says us)) mid new → Went (Here d) (Exactly (says (ts ++ us))) old new
said_then d ts us {old} {mid} {new} one two = subst (λ K. Went (Here d) (Exactly K) old new) (sym (map-append (λ t. Say t true) ts us)) (exact_then (says ts) (says us) one two)

pub relines : {A : Type 0} (r : Result A VerifyError) (d : ℕ) (ts us : List (List ℕ)) (old new : World) → us ≡ ts
    → MatchResult r (λ _. Went (Here d) (Exactly (says ts)) old new) (λ e. Unsaid d e old new) → MatchResult r (λ _. Went (Here d) (Exactly (says us)) old new) (λ e. Unsaid d e old new)
relines r d ts us old new same h = subst (λ x. MatchResult r (λ _. Went (Here d) (Exactly (says x)) old new) (λ e. Unsaid d e old new)) (sym same) h

pub unchecked_none : (path : List ℕ) (s : Standing) → (s ≡ Uncheckable → ⊥) → unchecked_lines path s ≡ []
unchecked_none path Absent h = refl
unchecked_none path Altered h = refl
unchecked_none path Good h = refl
unchecked_none path Uncheckable h = absurd (h refl)

flat-append : {A B : Type 0} (f : A → List B) (xs ys : List A) → flat_map f (xs ++ ys) ≡ flat_map f xs ++ flat_map f ys
flat-append f [] ys = refl
flat-append f (x ∷ xs) ys = ap (λ l. f x ++ l) (flat-append f xs ys) ∙ sym (append_assoc (f x) (flat_map f xs) (flat_map f ys))

-- one line more of those that may be there
texts_more : (ls : List (Option Line)) (i : ℕ) (o : Option Line) → i < length ls → o ≡ get_or ls i o → flat_map texts (take (i + 1) ls) ≡ flat_map texts (take i ls) ++ texts o
texts_more ls i o within is =
    ap (flat_map texts) (take_more ls i o within ∙ ap (λ (y : Option Line). take i ls ++ y ∷ []) (sym is)) ∙ flat-append texts (take i ls) (o ∷ []) ∙ ap (λ l. flat_map texts (take i ls) ++ l) (append-nil (texts o))

some_more : (ts : List (List ℕ)) (t : List ℕ) → is_empty (ts ++ t ∷ []) ≡ false
some_more [] t = refl
some_more (x ∷ ts) t = refl

-- those of the first lines that are there were said, and one of them was there or not
pub record SaidSome (d : ℕ) (ls : List (Option Line)) (i : ℕ) (any : Bool) (old new : World) : Type 0 where
  pub some : any ≡ not (is_empty (flat_map texts (take i ls)))
  pub went : Went (Here d) (Exactly (says (flat_map texts (take i ls)))) old new

-- a line was there and was said
pub some_said : (d : ℕ) (ls : List (Option Line)) (i : ℕ) (o : Option Line) (l : Line) (was : Bool) (old mid new : World) → i < length ls → o ≡ get_or ls i o → o ≡ Some l
    → SaidSome d ls i was old mid → Went (Here d) (Exactly (says (line_text l ∷ []))) mid new → SaidSome d ls (i + 1) true old new
some_said d ls i o l was old mid new within is there s one =
    let more : flat_map texts (take (i + 1) ls) ≡ flat_map texts (take i ls) ++ line_text l ∷ [] = texts_more ls i o within is ∙ ap (λ p. flat_map texts (take i ls) ++ texts p) there in
    record {
      some = sym (ap (λ ts. not (is_empty ts)) more ∙ ap not (some_more (flat_map texts (take i ls)) (line_text l)));
      went = said_as d _ _ more (said_then d (flat_map texts (take i ls)) (line_text l ∷ []) s.went one);
    }

-- no line was there
pub none_said : (d : ℕ) (ls : List (Option Line)) (i : ℕ) (o : Option Line) (any : Bool) (old new : World) → i < length ls → o ≡ get_or ls i o → o ≡ None → SaidSome d ls i any old new → SaidSome d ls (i + 1) any old new
none_said d ls i o any old new within is gone s =
    let more : flat_map texts (take (i + 1) ls) ≡ flat_map texts (take i ls) = texts_more ls i o within is ∙ ap (λ p. flat_map texts (take i ls) ++ texts p) gone ∙ append-nil (flat_map texts (take i ls)) in
    record { some = s.some ∙ ap (λ ts. not (is_empty ts)) (sym more); went = said_as d _ _ more s.went }

-- a line that could not be said
pub some_stopped : (d : ℕ) (ls : List (Option Line)) (i : ℕ) (any : Bool) (x : VerifyError) (old mid new : World) → SaidSome d ls i any old mid → Unsaid d x mid new → LinesStopped d AnyMap (λ _. flat_map texts ls) x old new
some_stopped d ls i any x old mid new s u =
    let before = flat_map texts (take i ls) in
    let after = flat_map texts (drop i ls) in
    lines_as d AnyMap AnyMap (λ _. before ++ after) (λ _. flat_map texts ls) x (λ m known. known) (λ m known. sym (flat-append texts (take i ls) (drop i ls)) ∙ ap (flat_map texts) (take-append-drop i ls))
    (lines_after d AnyMap (λ _. before) (λ _. after) x (says before) (says_looks before) s.went (λ m L h known. said_says before) (unsaid_lines d AnyMap (λ _. after) x u))

-- the lines of an entry, one after the other
pub found_said : (d : ℕ) (e : HashEntry) (bytes : List ℕ) (s : Standing) (old mid new : World) → s ≡ standing_by (altered_lines e bytes) (has_digest e)
    → Went (Here d) (Exactly (says (altered_lines e bytes))) old mid → Went (Here d) (Exactly (says (unchecked_lines e.path s))) mid new
    → (s ≡ standing e (Some bytes)) × Went (Here d) (Exactly (says (entry_lines e (Some bytes)))) old new
found_said d e bytes s old mid new is one two = (
  is,
  subst (λ t. Went (Here d) (Exactly (says (altered_lines e bytes ++ unchecked_lines e.path t))) old new) is (said_then d (altered_lines e bytes) (unchecked_lines e.path s) one two),
)

-- a line of a value that differs could not be said
pub altered_stopped : (d : ℕ) (e : HashEntry) (bytes : List ℕ) (lines : List (List ℕ)) (x : VerifyError) (old new : World) → lines ≡ altered_lines e bytes → LinesStopped d AnyMap (λ _. lines) x old new
    → LinesStopped d AnyMap (λ _. entry_lines e (Some bytes)) x old new
altered_stopped d e bytes lines x old new is s =
    lines_more d AnyMap (λ _. altered_lines e bytes) (λ _. unchecked_lines e.path (standing e (Some bytes))) x (subst (λ ts. LinesStopped d AnyMap (λ _. ts) x old new) is s)

-- or the line of an entry with nothing to check
pub unchecked_stopped : (d : ℕ) (e : HashEntry) (bytes : List ℕ) (x : VerifyError) (old mid new : World) → Went (Here d) (Exactly (says (altered_lines e bytes))) old mid → Unsaid d x mid new
    → LinesStopped d AnyMap (λ _. entry_lines e (Some bytes)) x old new
unchecked_stopped d e bytes x old mid new one u =
    let first = altered_lines e bytes in
    let last = unchecked_lines e.path (standing e (Some bytes)) in
    lines_after d AnyMap (λ _. first) (λ _. last) x (says first) (says_looks first) one (λ m L h known. said_says first) (unsaid_lines d AnyMap (λ _. last) x u)

-- no line was said yet
pub none_yet : (d : ℕ) (ls : List (Option Line)) (w : World) → SaidSome d ls 0 false w w
none_yet d ls w = record { some = refl; went = went_none (Here d) w }

-- all lines were said
pub all_said : (d : ℕ) (ls : List (Option Line)) (i : ℕ) (any : Bool) (old new : World) → length ls ≤ i → SaidSome d ls i any old new → (any ≡ not (is_empty (flat_map texts ls))) × Went (Here d) (Exactly (says (flat_map texts ls))) old new
all_said d ls i any old new past s =
    let all : flat_map texts (take i ls) ≡ flat_map texts ls = ap (flat_map texts) (take_all i ls past) in
    (s.some ∙ ap (λ ts. not (is_empty ts)) all, said_as d _ _ (sym all) s.went)

-- the same, where the flag and the world after are given by equations
pub said_at : (d : ℕ) (ls : List (Option Line)) (i : ℕ) (any flag : Bool) (old new here : World) → flag ≡ any → here ≡ new → SaidSome d ls i any old new → SaidSome d ls i flag old here
said_at d ls i any flag old new here same there s = subst (λ b. SaidSome d ls i b old here) (sym same) (subst (λ (w : World). SaidSome d ls i any old w) (sym there) s)
