-- Where drives stand, the parts on them, and the files of a plan.
use Rattle.std.proofs.Common.{◌≡◌, ◌≢◌, ◌⊎◌, inl, inr, ℕ, zero, suc, ◌<◌, ◌≤◌, Bool, true, false, List, [], ◌∷◌, length, get_or, refl, sym, ap, ◌∙◌, subst, arith}
use Rattle.std.specs.Prelude.{Option, Some, None, is_some, nat_eq, nat_lt, if◌then◌else◌}
use Rattle.std.specs.FinMap.{get}
use Rattle.std.specs.List.{slice_get, AllByRecursion, Contains}
use Rattle.std.specs.Ordering.{nat_cmp}
use Rattle.std.specs.Cmp.Lexicographic.{slice_cmp, nat_list_cmp_total}
use Rattle.std.specs.declared.cmp.Ordering.TheVariants.{Less, Equal}
use Rattle.std.proofs.lemmas.Bool.{cases_Bool, false≢true}
use Rattle.std.proofs.lemmas.Bool.Decides.{nat_tests}
use Rattle.std.proofs.lemmas.Cmp.{tied_itself}
use Rattle.std.proofs.lemmas.List.{get_or_past}
use Rattle.std.proofs.lemmas.List.Elements.{All-from_recursion}
use Rattle.std.proofs.lemmas.Option.{slice_get_within, get_or_from_slice_get, slice_get-get_or}
use Rattle.bay_core.specs.Map.{Map}
use Rattle.bay_core.specs.Paths.{part_path}
use Rattle.bay_core.specs.Replay.{Device, Drive, is_on}
use Rattle.bay_core.specs.World.{World}
use Rattle.copy_plan.specs.declared.file.PlannedFile.{PlannedFile}
use Rattle.copy_plan.specs.Inventory.{IsPlannable, Precedes}
use Rattle.copy_plan.specs.Plan.{PlanValue, IsPlan}
use Rattle.copy_plan.proofs.Above.{EachPair-at}
use Rattle.drive_journal.specs.declared.record.Gate.{Gate}
use Rattle.drive_journal.specs.declared.record.Rec.{Rec}
use Rattle.drive_journal.proofs.Keeping.{not_own, part_own}
use Rattle.fan_copier.specs.Copying.{PartBegins, NoPart}
use Rattle.fan_copier.specs.Keeping.{ReadsSame}
use Rattle.fan_copier.proofs.Parts.{off_other}
use Rattle.run_state.specs.declared.phase.Phase.{Phase}
use Rattle.run_state.specs.declared.phase.Phase.TheVariants.{Begins, File, Copies, Dates, Records, Seals, Clears, Ended}
use Rattle.run_state.specs.Runs.{IsPlanned, IsElsewhere}
use Rattle.run_state.specs.State.{DriveAt, Gone, Fresh, Begun, Found, Sealed, Drives, Journaled, drive_at, is_gone, is_of_run, due, keeps_part}
use Rattle.run_reads.specs.Parts.{KeepsFit, HasNone, IsReady, PartAt}

-- ---- numbers and lists

pub below : (n w : ℕ) → ((nat_lt n w ≡ true) × (n < w)) ⊎ ((nat_lt n w ≡ false) × (w ≤ n))
below n w = elim (cases_Bool (nat_lt n w)) [
  | inl holds ↦ inl (holds, less holds)
  | inr fails ↦ inr (fails, more fails)
]
  where
    less : nat_lt n w ≡ true → n < w
    less holds = grind (arith, nat_tests)

    more : nat_lt n w ≡ false → w ≤ n
    more fails = grind (arith, nat_tests)

pub same_of_eq : (a b : ℕ) → nat_eq a b ≡ true → a ≡ b
same_of_eq a b is = grind (arith, nat_tests)

pub eq_of_same : (a b : ℕ) → a ≡ b → nat_eq a b ≡ true
eq_of_same a b is = grind (arith, nat_tests)

pub eq_of_other : (a b : ℕ) → a ≢ b → nat_eq a b ≡ false
eq_of_other a b ne = grind (arith, nat_tests)

pub some_same : {A : Type 0} (x y : A) → Some x ≡ Some y → x ≡ y
some_same x y is = cc is

-- ---- drives

pub drive_past : (each : List DriveAt) (d : ℕ) → length each ≤ d → drive_at each d ≡ Gone
drive_past each d far = get_or_past each d Gone far

pub drive_within : (each : List DriveAt) (d : ℕ) → is_gone (drive_at each d) ≡ false → d < length each
drive_within [] d is = absurd (false≢true (sym is))
drive_within (x ∷ each) zero is = omega arith
drive_within (x ∷ each) (suc d) is = let rest = drive_within each d is in omega (arith, rest)

-- a drive on which a file is due is begun, with that many records
pub due_begun : (i : ℕ) (recs : List Rec) (gate : Gate) (kept : Bool) → is_some (due i (Begun recs gate kept)) ≡ true → length recs ≡ i
due_begun i recs gate kept some = elim (cases_Bool (nat_eq (length recs) i)) [
  | inl holds ↦ same_of_eq (length recs) i holds
  | inr fails ↦ absurd (false≢true (sym (ap (λ b. is_some {T = Journaled} (if b then Some (record { recs = recs; gate = gate; kept = kept }) else None)) fails) ∙ some))
]

pub due_here : (i : ℕ) (recs : List Rec) (gate : Gate) (kept : Bool) → length recs ≡ i → due i (Begun recs gate kept) ≡ Some (record { recs = recs; gate = gate; kept = kept })
due_here i recs gate kept is = ap (λ b. if b then Some (record { recs = recs; gate = gate; kept = kept }) else None) (eq_of_same (length recs) i is)

pub due_not : (i : ℕ) (recs : List Rec) (gate : Gate) (kept : Bool) → length recs ≢ i → due i (Begun recs gate kept) ≡ None
due_not i recs gate kept ne = ap (λ b. if b then Some (record { recs = recs; gate = gate; kept = kept }) else None) (eq_of_other (length recs) i ne)

-- where a file is due
pub record IsDue (i : ℕ) (x : DriveAt) (j : Journaled) : Type 0 where
  pub is : x ≡ Begun j.recs j.gate j.kept
  pub count : length j.recs ≡ i

pub due_some : (i : ℕ) (x : DriveAt) (j : Journaled) → due i x ≡ Some j → IsDue i x j
due_some i (Begun recs gate kept) j is =
    let count = due_begun i recs gate kept (ap is_some is) in
    let same : record { recs = recs; gate = gate; kept = kept } ≡ j = some_same _ _ (sym (due_here i recs gate kept count) ∙ is) in
    record { is = ap (λ (k : Journaled). Begun k.recs k.gate k.kept) same; count = ap (λ (k : Journaled). length k.recs) (sym same) ∙ count }
due_some i Gone j is = absurd (cc is)
due_some i Fresh j is = absurd (cc is)
due_some i (Found recs) j is = absurd (cc is)
due_some i Sealed j is = absurd (cc is)

pub not_due : (o : Option Journaled) → is_some o ≡ false → o ≡ None
not_due None is = refl
not_due (Some j) is = absurd (false≢true (sym is))

pub is_due : (i : ℕ) (x : DriveAt) → is_some (due i x) ≡ true → is_gone x ≡ false
is_due i (Begun recs gate kept) some = refl
is_due i Gone some = absurd (false≢true some)
is_due i Fresh some = absurd (false≢true some)
is_due i (Found recs) some = absurd (false≢true some)
is_due i Sealed some = absurd (false≢true some)

-- ---- parts

-- a drive on which a file is due and that keeps no part has none
pub none_of_due : (i : ℕ) (x : DriveAt) (d : ℕ) (w : World) → is_some (due i x) ≡ true → keeps_part (due i x) ≡ false → HasNone x d w → NoPart d w
none_of_due i (Begun recs gate false) d w some not none = none
none_of_due i (Begun recs gate true) d w some not none =
    let here = due_here i recs gate true (due_begun i recs gate true some) in
    absurd (false≢true (sym not ∙ ap keeps_part here))
none_of_due i Gone d w some not none = absurd (false≢true some)
none_of_due i Fresh d w some not none = absurd (false≢true some)
none_of_due i (Found recs) d w some not none = absurd (false≢true some)
none_of_due i Sealed d w some not none = absurd (false≢true some)

-- and one that keeps it has one of that file
keeps_due : (i : ℕ) (x : DriveAt) → keeps_part (due i x) ≡ true → is_some (due i x) ≡ true
keeps_due i x keeps = by (due i x) keeps
  where
    by : (o : Option Journaled) → keeps_part o ≡ true → is_some o ≡ true
    by None is = absurd (false≢true is)
    by (Some j) is = refl

pub part_of_due : (p : PlanValue) (i : ℕ) (x : DriveAt) (d : ℕ) (w : World) (f : PlannedFile) → slice_get p.files i ≡ Some f → keeps_part (due i x) ≡ true → KeepsFit p x d w → PartBegins d f.size w []
part_of_due p i (Begun recs gate true) d w f is keeps fit = λ m L h.
    let count = due_begun i recs gate true (keeps_due i (Begun recs gate true) keeps) in
    let next = fit m L h in
    let same : next.0 ≡ f = some_same next.0 f (sym next.1 ∙ ap (slice_get p.files) count ∙ is) in
    let part : PartBegins d f.size w [] = subst (λ (g : PlannedFile). PartBegins d g.size w []) same next.2 in
    part m L h
part_of_due p i (Begun recs gate false) d w f is keeps fit =
    let here = due_here i recs gate false (due_begun i recs gate false (keeps_due i (Begun recs gate false) keeps)) in
    absurd (false≢true (sym (ap keeps_part here) ∙ keeps))
part_of_due p i Gone d w f is keeps fit = absurd (false≢true keeps)
part_of_due p i Fresh d w f is keeps fit = absurd (false≢true keeps)
part_of_due p i (Found recs) d w f is keeps fit = absurd (false≢true keeps)
part_of_due p i Sealed d w f is keeps fit = absurd (false≢true keeps)

-- parts stay where the drive reads as before
pub begins_stays : (d size : ℕ) (w after : World) (bytes : List ℕ) → ReadsSame d w after → PartBegins d size w bytes → PartBegins d size after bytes
begins_stays d size w after bytes same part = λ m L h.
    let b = same.back m L h in
    let p = part m b.0 b.1 in
    (p.0, ap (λ (n : Map). get n part_path) b.2 ∙ p.1, p.2)

pub no_part_stays : (d : ℕ) (w after : World) → ReadsSame d w after → NoPart d w → NoPart d after
no_part_stays d w after same none = λ m L h.
    let b = same.back m L h in
    ap (λ (n : Map). get n part_path) b.2 ∙ none m b.0 b.1

pub fit_stays : (p : PlanValue) (x : DriveAt) (d : ℕ) (w after : World) → ReadsSame d w after → KeepsFit p x d w → KeepsFit p x d after
fit_stays p (Begun recs gate true) d w after same fit = λ m L h.
    let b = same.back m L h in
    let next = fit m b.0 b.1 in
    (next.0, next.1, begins_stays d next.0.size w after [] same next.2)
fit_stays p (Begun recs gate false) d w after same fit = tt
fit_stays p Gone d w after same fit = tt
fit_stays p Fresh d w after same fit = tt
fit_stays p (Found recs) d w after same fit = tt
fit_stays p Sealed d w after same fit = tt

pub none_stays : (x : DriveAt) (d : ℕ) (w after : World) → ReadsSame d w after → HasNone x d w → HasNone x d after
none_stays (Begun recs gate true) d w after same none = tt
none_stays (Begun recs gate false) d w after same none = no_part_stays d w after same none
none_stays Gone d w after same none = tt
none_stays Fresh d w after same none = tt
none_stays (Found recs) d w after same none = tt
none_stays Sealed d w after same none = tt

pub ready_stays : (p : PlanValue) (x : DriveAt) (d : ℕ) (w after : World) → ReadsSame d w after → IsReady p x d w → IsReady p x d after
ready_stays p x d w after same ready = (fit_stays p x d w after same ready.0, none_stays x d w after same ready.1)

pub part_at_stays : (p : PlanValue) (phase : Phase) (x : DriveAt) (d : ℕ) (w after : World) → ReadsSame d w after → PartAt p phase x d w → PartAt p phase x d after
part_at_stays p (Begins e) x d w after same part = (fit_stays p x d w after same part.0, λ less. none_stays x d w after same (part.1 less))
part_at_stays p (File i) x d w after same part = ready_stays p x d w after same part
part_at_stays p (Copies i copy) x d w after same part = λ not. ready_stays p x d w after same (part not)
part_at_stays p (Dates i t) x d w after same part = λ not. ready_stays p x d w after same (part not)
part_at_stays p (Records rec e) x d w after same part = (part.0, λ not. ready_stays p x d w after same (part.1 not))
part_at_stays p (Seals e) x d w after same part = ready_stays p x d w after same part
part_at_stays p Clears x d w after same part = tt
part_at_stays p Ended x d w after same part = tt

-- a drive that is gone has no part that counts
pub part_at_gone : (p : PlanValue) (phase : Phase) (x : DriveAt) (d : ℕ) (w : World) → x ≡ Gone → PartAt p phase x d w
part_at_gone p phase x d w is = subst (λ (y : DriveAt). PartAt p phase y d w) (sym is) (by phase)
  where
    by : (phase : Phase) → PartAt p phase Gone d w
    by (Begins e) = (tt, λ less. tt)
    by (File i) = (tt, tt)
    by (Copies i copy) = λ not. (tt, tt)
    by (Dates i t) = λ not. (tt, tt)
    by (Records rec e) = (λ less. refl, λ not. (tt, tt))
    by (Seals e) = (tt, tt)
    by Clears = tt
    by Ended = tt

pub ready_gone : (p : PlanValue) (x : DriveAt) (d : ℕ) (w : World) → x ≡ Gone → IsReady p x d w
ready_gone p x d w is = part_at_gone p (File 0) x d w is

-- ---- drives that read as before

pub reads_on : (d : ℕ) (a b c : World) → ReadsSame d a b → ReadsSame d b c → ReadsSame d a c
reads_on d a b c one two = record { back = λ m L h. let y = two.back m L h in let x = one.back m y.0 y.1 in (x.0, x.1, y.2 ∙ x.2) }

pub other_drive : (d e : ℕ) → d ≢ e → (x : Device) → x ≡ Drive e → is_on d x ≡ false
other_drive d e ne x on = ap (is_on d) on ∙ off_other d e ne

-- others are not on a drive of the run
pub elsewhere_off : (drives : Drives) (d : ℕ) → is_of_run drives d ≡ true → (x : Device) → IsElsewhere drives x → is_on d x ≡ false
elsewhere_off drives d of x off = elim (cases_Bool (is_on d x)) [
  | inl on ↦ absurd (off d of (by x on))
  | inr not ↦ not
]
  where
    by : (x : Device) → is_on d x ≡ true → x ≡ Drive d
    by (Drive n) on = ap Drive (sym (same_of_eq d n on))
    by x on = absurd (false≢true on)

-- ---- files

planned_at : (files : List PlannedFile) (i : ℕ) (f : PlannedFile) (P : PlannedFile → Type 0) → AllByRecursion P files → slice_get files i ≡ Some f → P f
planned_at files i f P all is = subst P (get_or_from_slice_get files i f f is) (All-from_recursion P files all i f (slice_get_within files i f is))

pub path_not_part : (p : PlanValue) → IsPlan p → (i : ℕ) (f : PlannedFile) → slice_get p.files i ≡ Some f → f.path ≢ part_path
path_not_part p plan i f is = not_own f.path part_path part_own (planned_at p.files i f IsPlannable plan.inventory.each is).own

pub is_planned : (p : PlanValue) (i : ℕ) (f : PlannedFile) → slice_get p.files i ≡ Some f → IsPlanned p f.path
is_planned p i f is = (f, (i, slice_get_within p.files i f is, get_or_from_slice_get p.files i f f is), refl)

pub place_of : (files : List PlannedFile) (f : PlannedFile) → Contains files f → (i : ℕ) × (slice_get files i ≡ Some f)
place_of files f (i, within, is) = (i, slice_get-get_or files i f within ∙ ap Some is)

not_less : (a b : List ℕ) → a ≡ b → slice_cmp nat_cmp a b ≡ Less → ⊥
not_less a b same less =
    let tied : slice_cmp nat_cmp a b ≡ Equal = ap (λ (q : List ℕ). slice_cmp nat_cmp q b) same ∙ tied_itself nat_list_cmp_total b in
    let never : Less ≡ Equal = sym less ∙ tied in
    absurd (cc never)

-- two files of a plan have different paths
pub paths_differ : (p : PlanValue) → IsPlan p → (i j : ℕ) (f g : PlannedFile) → i < j → slice_get p.files i ≡ Some f → slice_get p.files j ≡ Some g → f.path ≢ g.path
paths_differ p plan i j f g less is also =
    let pair : Precedes (get_or p.files i f) (get_or p.files j f) = EachPair-at Precedes p.files plan.inventory.pairs i j f less (slice_get_within p.files j g also) in
    let here : get_or p.files i f ≡ f = get_or_from_slice_get p.files i f f is in
    let there : get_or p.files j f ≡ g = get_or_from_slice_get p.files j g f also in
    λ same. not_less f.path g.path same (subst (λ (x : PlannedFile). slice_cmp nat_cmp x.path g.path ≡ Less) here (subst (λ (y : PlannedFile). slice_cmp nat_cmp (get_or p.files i f).path y.path ≡ Less) there pair.less))

pub paths_apart : (p : PlanValue) → IsPlan p → (i j : ℕ) (f g : PlannedFile) → i ≢ j → slice_get p.files i ≡ Some f → slice_get p.files j ≡ Some g → g.path ≢ f.path
paths_apart p plan i j f g ne is also = elim (below i j) [
  | inl less ↦ λ same. paths_differ p plan i j f g less.1 is also (sym same)
  | inr more ↦ paths_differ p plan j i g f (omega (arith, ne, more.1)) also is
]
