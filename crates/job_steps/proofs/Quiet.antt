-- Calls that change and settle nothing, and whose lines announce nothing.
use Rattle.std.proofs.Common.{◌≡◌, ◌≢◌, ℕ, suc, Bool, false, cond, List, [], ◌∷◌, ◌++◌, refl, sym, ap, ◌∙◌, subst, arith}
use Rattle.std.specs.List.{AllByRecursion}
use Rattle.std.proofs.lemmas.Bool.{false_from_ne_true}
use Rattle.bay_core.specs.declared.event.Event.{Event}
use Rattle.bay_core.specs.declared.event.Event.TheVariants.{AttachSource, AttachDrive, AttachFailed, SourceList, SourceRead, DriveList, DriveRead, Write, Sync, Rename, Remove, Moment, Pick, Say}
use Rattle.bay_core.specs.Looks.{is_effect, IsUntouched, says}
use Rattle.bay_core.specs.Replay.{Device, Drive, Attaching, Output, device_of, is_on, calls_on}
use Rattle.bay_core.specs.Went.{AllOn, Only}
use Rattle.bay_core.proofs.Looking.{untouched_append}
use Rattle.bay_core.proofs.Runs.{all_on}
use Rattle.crash_law.specs.Lines.{LineHas, AllLines}
use Rattle.crash_law.proofs.Lines.{AllLines-append, more_lines}
use Rattle.crash_law.proofs.Safe.{of_here}
use Rattle.job_steps.proofs.Plain.{IsPlain}

pub record IsQuiet (L : List Event) : Type 0 where
  pub untouched : IsUntouched L
  pub plain : AllLines IsPlain L

pub quiet_append : (A B : List Event) → IsQuiet A → IsQuiet B → IsQuiet (A ++ B)
quiet_append A B a b = record { untouched = untouched_append A B a.untouched b.untouched; plain = AllLines-append IsPlain A B a.plain b.plain }

untouched_front : (A B : List Event) → IsUntouched (A ++ B) → IsUntouched A
unfolding IsUntouched
untouched_front [] B u = tt
untouched_front (e ∷ A) B u = (u.0, untouched_front A B u.1)

lines_front : (Q : List ℕ → Type 0) (A B : List Event) → AllLines Q (A ++ B) → AllLines Q A
unfolding AllLines
lines_front Q [] B lines = tt
lines_front Q (e ∷ A) B lines = (lines.0, lines_front Q A B lines.1)

pub quiet_front : (A B : List Event) → IsQuiet (A ++ B) → IsQuiet A
quiet_front A B q = record { untouched = untouched_front A B q.untouched; plain = lines_front IsPlain A B q.plain }

-- a line among these calls is such a line
pub line_among : (Q : List ℕ → Type 0) (before : List Event) (line : List ℕ) (ok : Bool) (after : List Event) → AllLines Q (before ++ Say line ok ∷ after) → Q line
unfolding AllLines
line_among Q [] line ok after lines = lines.0
line_among Q (e ∷ before) line ok after lines = line_among Q before line ok after lines.1

-- ---- on which devices

-- calls on other devices are none on the drive
pub calls_off : (d : ℕ) (L : List Event) → AllOn (λ x. x ≢ Drive d) L → calls_on d L ≡ []
unfolding AllOn
calls_off d [] on = refl
calls_off d (e ∷ L) on =
    let off : is_on d (device_of e) ≡ false = false_from_ne_true (is_on d (device_of e)) (λ here. on.0 (of_here d (device_of e) here)) in
    ap (λ (b : Bool). cond b (e ∷ calls_on d L) (calls_on d L)) off ∙ calls_off d L on.1

pub attaching_off : (d : ℕ) (L : List Event) → AllOn (Only Attaching) L → calls_on d L ≡ []
attaching_off d L on = calls_off d L (all_on (λ x is other. cc (is, other)) L on)

pub output_off : (d : ℕ) (L : List Event) → AllOn (Only Output) L → calls_on d L ≡ []
output_off d L on = calls_off d L (all_on (λ x is other. cc (is, other)) L on)

-- what is so of each call on a device is so of such calls
pub each_on : (On : Device → Type 0) (P : Event → Type 0) → ((e : Event) → On (device_of e) → P e) → (L : List Event) → AllOn On L → AllByRecursion P L
unfolding AllOn
each_on On P so [] on = tt
each_on On P so (e ∷ L) on = (so e on.0, each_on On P so L on.1)

pub each_append : (P : Event → Type 0) (A B : List Event) → AllByRecursion P A → AllByRecursion P B → AllByRecursion P (A ++ B)
each_append P [] B a b = b
each_append P (e ∷ A) B a b = (a.0, each_append P A B a.1 b)

pub each_more : (P Q : Event → Type 0) → ((e : Event) → P e → Q e) → (L : List Event) → AllByRecursion P L → AllByRecursion Q L
each_more P Q so [] each = tt
each_more P Q so (e ∷ L) each = (so e each.0, each_more P Q so L each.1)

pub lines_each : (Q : List ℕ → Type 0) (L : List Event) → AllByRecursion (LineHas Q) L → AllLines Q L
unfolding AllLines
lines_each Q [] each = tt
lines_each Q (e ∷ L) each = (each.0, lines_each Q L each.1)

pub untouched_each : (L : List Event) → AllByRecursion (λ e. is_effect e ≡ false) L → IsUntouched L
unfolding IsUntouched
untouched_each [] each = tt
untouched_each (e ∷ L) each = (each.0, untouched_each L each.1)

-- an attach changes nothing and says nothing
pub attach_effect : (e : Event) → device_of e ≡ Attaching → is_effect e ≡ false
attach_effect (AttachSource s place) on = refl
attach_effect (AttachDrive d place) on = refl
attach_effect (AttachFailed place) on = refl
attach_effect (SourceList s got) on = refl
attach_effect (SourceRead s path at want got) on = refl
attach_effect (DriveList d got) on = refl
attach_effect (DriveRead d path at want got) on = refl
attach_effect (Write d path at bytes ok) on = absurd (cc on)
attach_effect (Sync d ok) on = absurd (cc on)
attach_effect (Rename d from to ok) on = absurd (cc on)
attach_effect (Remove d path ok) on = absurd (cc on)
attach_effect (Moment t) on = refl
attach_effect (Pick n) on = refl
attach_effect (Say line ok) on = refl

pub attach_line : (Q : List ℕ → Type 0) (e : Event) → device_of e ≡ Attaching → LineHas Q e
attach_line Q (AttachSource s place) on = tt
attach_line Q (AttachDrive d place) on = tt
attach_line Q (AttachFailed place) on = tt
attach_line Q (SourceList s got) on = tt
attach_line Q (SourceRead s path at want got) on = tt
attach_line Q (DriveList d got) on = tt
attach_line Q (DriveRead d path at want got) on = tt
attach_line Q (Write d path at bytes ok) on = tt
attach_line Q (Sync d ok) on = tt
attach_line Q (Rename d from to ok) on = tt
attach_line Q (Remove d path ok) on = tt
attach_line Q (Moment t) on = tt
attach_line Q (Pick n) on = tt
attach_line Q (Say line ok) on = absurd (cc on)

pub attaching_quiet : (L : List Event) → AllOn (Only Attaching) L → IsQuiet L
attaching_quiet L on = record {
  untouched = untouched_each L (each_on (Only Attaching) (λ e. is_effect e ≡ false) attach_effect L on);
  plain = lines_each IsPlain L (each_on (Only Attaching) (LineHas IsPlain) (attach_line IsPlain) L on);
}

-- nor does a line change anything
pub output_effect : (e : Event) → device_of e ≡ Output → is_effect e ≡ false
output_effect (AttachSource s place) on = refl
output_effect (AttachDrive d place) on = refl
output_effect (AttachFailed place) on = refl
output_effect (SourceList s got) on = refl
output_effect (SourceRead s path at want got) on = refl
output_effect (DriveList d got) on = refl
output_effect (DriveRead d path at want got) on = refl
output_effect (Write d path at bytes ok) on = absurd (cc on)
output_effect (Sync d ok) on = absurd (cc on)
output_effect (Rename d from to ok) on = absurd (cc on)
output_effect (Remove d path ok) on = absurd (cc on)
output_effect (Moment t) on = refl
output_effect (Pick n) on = refl
output_effect (Say line ok) on = refl

pub output_untouched : (L : List Event) → AllOn (Only Output) L → IsUntouched L
output_untouched L on = untouched_each L (each_on (Only Output) (λ e. is_effect e ≡ false) output_effect L on)
