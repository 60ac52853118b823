-- The lines of a run among its calls.
use Rattle.std.proofs.Common.{◌≡◌, ◌⊎◌, inl, inr, ℕ, ◌^◌, ◌<◌, Bool, true, false, List, [], ◌∷◌, ◌++◌, length, take, drop, refl, sym, ap, ◌∙◌, subst, append_assoc}
use Rattle.std.specs.Prelude.{codes, decimal, ◌||◌}
use Rattle.std.specs.List.{before_first}
use Rattle.std.specs.Cmp.Lexicographic.{same_text}
use Rattle.std.proofs.lemmas.Bool.{false≢true}
use Rattle.std.proofs.lemmas.Fmt.{decimal_injective}
use Rattle.std.proofs.lemmas.List.{append_cancel_left, take-append-drop}
use Rattle.bay_core.specs.declared.event.Event.{Event}
use Rattle.bay_core.specs.declared.event.Event.TheVariants.{Say}
use Rattle.bay_core.specs.Replay.{Device, Output}
use Rattle.bay_core.specs.Went.{AllOn, Ran, say_call}
use Rattle.offload_law.specs.Lines.{is_space}
use Rattle.offload_law.proofs.Fields.{decimal_no_space, field_before}
use Rattle.report_text.specs.Fields.{fields, triple_fields}
use Rattle.run_state.specs.Runs.{begins_with, is_about, IsAboutNone, AreBeside}
use Rattle.run_state.specs.State.{Drives, Ordered}
use Rattle.run_ends.specs.Losses.{Loss, ByFault, ByAbsence, ByLength, ByDigests, ByByte, loss_text}

-- ---- lists

-- an item of two lists is in the first or the second
pub split_at : (A B before after : List Event) (e : Event) → A ++ B ≡ before ++ e ∷ after → ((rest : List Event) × (A ≡ before ++ e ∷ rest)) ⊎ ((first : List Event) × (before ≡ A ++ first) × (B ≡ first ++ e ∷ after))
split_at [] B before after e is = inr (before, refl, is)
split_at (x ∷ A) B [] after e is = let head : x ≡ e = cc is in inl (A, ap (λ (y : Event). y ∷ A) head)
split_at (x ∷ A) B (y ∷ before) after e is =
    let head : x ≡ y = cc is in
    let rest : A ++ B ≡ before ++ e ∷ after = cc is in
    elim (split_at A B before after e rest) [
      | inl found ↦ inl (found.0, ap (λ (z : Event). z ∷ A) head ∙ ap (λ (l : List Event). y ∷ l) found.1)
      | inr found ↦ inr (found.0, ap (λ (z : Event). z ∷ before) (sym head) ∙ ap (λ (l : List Event). x ∷ l) found.1, found.2)
    ]

-- there is nothing in no list
pub none_there : (before after : List Event) (e : Event) → [] ≡ before ++ e ∷ after → ⊥
none_there [] after e is = absurd (cc is)
none_there (x ∷ before) after e is = absurd (cc is)

-- ---- calls without a line

-- no line is among these calls
abbrev pub NoLine : List Event → Type 0
NoLine L = (front after : List Event) (line : List ℕ) (ok : Bool) → L ≡ front ++ Say line ok ∷ after → ⊥

no_say : (On : Device → Type 0) → ((y : Device) → On y → y ≡ Output → ⊥) → (front after : List Event) (line : List ℕ) (ok : Bool) → AllOn On (front ++ Say line ok ∷ after) → ⊥
unfolding AllOn
no_say On off [] after line ok on = off Output on.0 refl
no_say On off (e ∷ front) after line ok on = no_say On off front after line ok on.1

-- calls that are not on the output
pub no_line : (On : Device → Type 0) → ((y : Device) → On y → y ≡ Output → ⊥) → (L : List Event) → AllOn On L → NoLine L
no_line On off L on = λ front after line ok is. no_say On off front after line ok (subst (AllOn On) is on)

pub no_line_none : NoLine []
no_line_none = λ front after line ok is. none_there front after (Say line ok) is

pub no_line_then : (A B : List Event) → NoLine A → NoLine B → NoLine (A ++ B)
no_line_then A B one two = λ front after line ok is. elim (split_at A B front after (Say line ok) is) [
  | inl found ↦ one front found.0 line ok found.1
  | inr found ↦ two found.0 after line ok found.2
]

-- one call of the output
pub one_say : (line : List ℕ) (ok : Bool) (L : List Event) → Ran (say_call line ∷ []) ok L → (front after : List Event) (said : List ℕ) (how : Bool) → L ≡ front ++ Say said how ∷ after → (front ≡ []) × (said ≡ line) × (how ≡ ok)
unfolding Ran
one_say line true L (rest, is, none) front after said how at = by front (sym at ∙ is ∙ ap (λ (l : List Event). Say line true ∷ l) none)
  where
    by : (front : List Event) → front ++ Say said how ∷ after ≡ Say line true ∷ [] → (front ≡ []) × (said ≡ line) × (how ≡ true)
    by [] e = (refl, cc e, cc e)
    by (x ∷ []) e = absurd (cc e)
    by (x ∷ (y ∷ front)) e = absurd (cc e)
one_say line false L (inl none) front after said how at = absurd (none_there front after (Say said how) (sym none ∙ at))
one_say line false L (inr (inl one)) front after said how at = by front (sym at ∙ one)
  where
    by : (front : List Event) → front ++ Say said how ∷ after ≡ Say line false ∷ [] → (front ≡ []) × (said ≡ line) × (how ≡ false)
    by [] e = (refl, cc e, cc e)
    by (x ∷ []) e = absurd (cc e)
    by (x ∷ (y ∷ front)) e = absurd (cc e)
one_say line false L (inr (inr (rest, is, more))) front after said how at = absurd more

-- a line that was said is that one call
pub said_call : (line : List ℕ) (L : List Event) → Ran (say_call line ∷ []) true L → L ≡ Say line true ∷ []
unfolding Ran
said_call line L (rest, is, none) = is ∙ ap (λ (l : List Event). Say line true ∷ l) none

-- the line of others is about none of the drives
pub line_beside : (o : Ordered) (drives : Drives) (front after : List Event) (line : List ℕ) (ok : Bool) → AreBeside o drives (front ++ Say line ok ∷ after) → IsAboutNone drives line
unfolding AreBeside
line_beside o drives [] after line ok are = are.0
line_beside o drives (e ∷ front) after line ok are = line_beside o drives front after line ok are.1

-- ---- whose line it is

abbrev of_drive : List ℕ → ℕ → List ℕ → List ℕ
of_drive word d rest = word ++ 32 ∷ (decimal d ++ 32 ∷ rest)

one_drive : (word : List ℕ) (d e : ℕ) (r s : List ℕ) → d < 2 ^ 64 → e < 2 ^ 64 → of_drive word d r ≡ of_drive word e s → d ≡ e
one_drive word d e r s x y same =
    let behind : 32 ∷ (decimal d ++ 32 ∷ r) ≡ 32 ∷ (decimal e ++ 32 ∷ s) = append_cancel_left word _ _ same in
    let ds = field_before (decimal d) r (decimal_no_space d) in
    let es = field_before (decimal e) s (decimal_no_space e) in
    decimal_injective d e x y (sym ds ∙ ap (λ (l : List ℕ). before_first is_space (drop 1 l)) behind ∙ es)

-- a line that begins with a word and a drive's number is of that drive
begins_of : (word : List ℕ) (d e : ℕ) (line rest : List ℕ) → d < 2 ^ 64 → e < 2 ^ 64 → line ≡ of_drive word d rest → begins_with word e line ≡ true → d ≡ e
begins_of word d e line rest low also is begins =
    let needle : List ℕ = (word ++ 32 ∷ decimal e) ++ 32 ∷ [] in
    let front : needle ≡ take (length needle) line = same_text needle (take (length needle) line) (sym begins) in
    let tail : List ℕ = drop (length needle) line in
    let whole : line ≡ needle ++ tail = sym (take-append-drop (length needle) line) ∙ ap (λ (l : List ℕ). l ++ tail) (sym front) in
    let grouped : needle ++ tail ≡ of_drive word e tail = append_assoc (word ++ 32 ∷ decimal e) (32 ∷ []) tail ∙ append_assoc word (32 ∷ decimal e) (32 ∷ tail) in
    one_drive word d e rest tail low also (sym is ∙ whole ∙ grouped)

-- fields behind a first one
fields_behind : (x field : List ℕ) (more : List (List ℕ)) → (rest : List ℕ) × (fields (x ++ 32 ∷ field) more ≡ x ++ 32 ∷ rest)
fields_behind x field [] = (field, refl)
fields_behind x field (next ∷ more) =
    let b = fields_behind x (field ++ 32 ∷ next) more in
    (b.0, ap (λ (l : List ℕ). fields l more) (append_assoc x (32 ∷ field) (32 ∷ next)) ∙ b.1)

drive_line : (word : List ℕ) (d : ℕ) (field : List ℕ) (more : List (List ℕ)) → (rest : List ℕ) × (fields word (decimal d ∷ (field ∷ more)) ≡ of_drive word d rest)
drive_line word d field more =
    let b = fields_behind (word ++ 32 ∷ decimal d) field more in
    (b.0, b.1 ∙ append_assoc word (32 ∷ decimal d) (32 ∷ b.0))

-- the line of a loss is of the drive that is lost
loss_line : (d : ℕ) (loss : Loss) → (rest : List ℕ) × (loss_text d loss ≡ of_drive (codes "dropped") d rest)
loss_line d ByFault = drive_line (codes "dropped") d (codes "fault") []
loss_line d (ByAbsence path) = drive_line (codes "dropped") d (codes "absent") (path ∷ [])
loss_line d (ByLength recorded read path) = drive_line (codes "dropped") d (codes "length") (decimal recorded ∷ (decimal read ∷ (path ∷ [])))
loss_line d (ByDigests recorded read path) = drive_line (codes "dropped") d (codes "altered") (triple_fields recorded ++ triple_fields read ++ path ∷ [])
loss_line d (ByByte at written read path) = drive_line (codes "dropped") d (codes "byte") (decimal at ∷ (decimal written ∷ (decimal read ∷ (path ∷ []))))

pub loss_of : (d e : ℕ) (loss : Loss) → d < 2 ^ 64 → e < 2 ^ 64 → begins_with (codes "dropped") e (loss_text d loss) ≡ true → d ≡ e
loss_of d e loss low also begins = let l = loss_line d loss in begins_of (codes "dropped") d e (loss_text d loss) l.0 low also l.1 begins

-- ---- lines about none of the drives

last_off : (a b : Bool) → (a || b) ≡ false → b ≡ false
last_off true b off = absurd (false≢true (sym off))
last_off false b off = off

-- a line that is about no such drive does not begin with its loss
pub not_about : (d : ℕ) (line : List ℕ) → is_about d line ≡ false → begins_with (codes "dropped") d line ≡ false
not_about d line off =
    let s = begins_with (codes "sealed") d line in
    let n = begins_with (codes "done") d line in
    let l = begins_with (codes "dropped") d line in
    last_off s l (last_off n (s || l) (last_off (begins_with (codes "begun") d line) (n || (s || l)) off))
