-- A run that attaches a drive first.
use Rattle.std.proofs.Common.{◌≡◌, inl, inr, ℕ, ◌≤◌, List, ◌++◌, refl, sym, ◌∙◌, ap, subst, append_assoc, arith}
use Rattle.std.specs.Prelude.{Option, Some, None, Result, Ok, Err}
use Rattle.bay_core.specs.declared.event.Event.{Event}
use Rattle.bay_core.specs.declared.event.Event.TheVariants.{AttachDrive, AttachFailed}
use Rattle.bay_core.specs.declared.failed.Failed.{Failed as DeviceFailed}
use Rattle.bay_core.specs.Replay.{Device, Source, Drive, Attaching, Output, Clock, Picker}
use Rattle.bay_core.specs.World.{World, Attached, Rose}
use Rattle.bay_core.specs.Went.{Went, Made, MaySee, Then}
use Rattle.bay_core.specs.Attach.{SameDrive, SameCard, GivesSo, IsTrueUnless, Attaches}
use Rattle.bay_core.specs.Looks.{IsUntouched, Here, Caused, said}
use Rattle.bay_core.proofs.Runs.{made_then, all_on}
use Rattle.bay_core.proofs.Looking.{untouched_none, untouched_one, untouched_append}
use Rattle.verify_run.specs.declared.loading.LoadError.{LoadError}
use Rattle.verify_run.specs.declared.loading.LoadError.TheVariants.{DriveFailed, Absent, TooLarge, Unreadable, Memory}
use Rattle.last_lines.specs.Ends.{End, EndCalls, EndStatus, Ended}
use Rattle.station_run.specs.Ends.{attach_end}
use Rattle.station_run.specs.Runs.{IsOfDrive, RunOf, NoneAttached, OneAttached, AfterAttach, LoadCause, SaidSince, BegunSince, Unchanged}
use Rattle.last_lines.proofs.Ends.{end_keeps}

made_on : {On More : Device → Type 0} {P : List Event → Type 0} {old : Option (List Event)} {all : List Event} → ((x : Device) → On x → More x) → Made On P old all → Made More P old all
made_on so m = record { before = m.before; since = m.since; was = m.was; is = m.is; on = all_on so m.since m.on; such = m.such }

made_such : {On : Device → Type 0} {P Q : List Event → Type 0} {old : Option (List Event)} {all : List Event} → ((L : List Event) → P L → Q L) → Made On P old all → Made On Q old all
made_such so m = record { before = m.before; since = m.since; was = m.was; is = m.is; on = m.on; such = so m.since m.such }

-- ---- the counts over an attach

module _ {place : List ℕ} {r : Result ℕ DeviceFailed} {old mid : World} (a : Attaches place r old mid) where
  pub attach_later : (x : Device) → old.faults x ≤ mid.faults x
  attach_later Attaching = a.later
  attach_later (Drive e) = let same = a.others (Drive e) (λ is. cc is) in omega (arith, same)
  attach_later (Source s) = let same = a.others (Source s) (λ is. cc is) in omega (arith, same)
  attach_later Clock = let same = a.others Clock (λ is. cc is) in omega (arith, same)
  attach_later Picker = let same = a.others Picker (λ is. cc is) in omega (arith, same)
  attach_later Output = let same = a.others Output (λ is. cc is) in omega (arith, same)

  pub attach_rose : (x : Device) (n : ℕ) → Rose (mid.faults x) n → Rose (old.faults x) n
  attach_rose x n rose = let later = attach_later x in omega (arith, later, rose)

  attach_status : (new : World) (end : End) (result : ℕ) → EndStatus end result mid new → EndStatus end result old new
  attach_status new end result (inl same) = inl same
  attach_status new end result (inr (some, five, rose)) = inr (some, five, attach_rose Output (new.faults Output) rose)

  pub attach_caused : (new : World) (at : Option Device) → Caused at mid new → Caused at old new
  attach_caused new None cause = tt
  attach_caused new (Some x) cause = attach_rose x (new.faults x) cause

  pub attach_load_cause : (new : World) (d : ℕ) (e : LoadError) → LoadCause e d mid new → LoadCause e d old new
  attach_load_cause new d DriveFailed cause = attach_rose (Drive d) (new.faults (Drive d)) cause
  attach_load_cause new d Absent cause = tt
  attach_load_cause new d (TooLarge len) cause = tt
  attach_load_cause new d (Unreadable e) cause = tt
  attach_load_cause new d Memory cause = tt

-- ---- the drive was not attached

pub none_attached : (place : List ℕ) (e : DeviceFailed) (result : ℕ) (old mid new : World) → Attaches place (Err e) old mid → Ended attach_end result mid new → NoneAttached place result old new
none_attached place e result old mid new a ended = record {
  run = record {
    told = λ all now. made_then (λ some was. made_on (λ x is. inl is) (a.told some was)) (made_on (λ x is. inr is) (ended.went.told all now));
    later = λ x. let one = attach_later a x in let two = ended.went.later x in omega (arith, one, two);
    others = λ x apart. ended.went.others x (λ is. apart (inr is)) ∙ a.others x (λ is. apart (inl is));
    status = attach_status a new attach_end result ended.status;
  };
  attached = ended.went.attached ∙ a.numbered;
  cause = let later = ended.went.later Attaching in let rose = a.cause in omega (arith, later, rose);
}

-- ---- it was

pub one_attached : (place : List ℕ) (old mid new : World) → Attaches place (Ok old.attached.drives) old mid → new.attached ≡ mid.attached → OneAttached place old new
one_attached place old mid new a same =
    let d = old.attached.drives in
    record {
      drives = ap (λ (w : Attached). w.drives) same ∙ a.numbered.1;
      before = λ e less. subst (λ w. SameDrive e old.attached w) (sym same) (a.numbered.2 e less);
      sources = ap (λ (w : Attached). w.sources) same ∙ a.numbered.3;
      cards = λ s. subst (λ w. SameCard s old.attached w) (sym same) (a.numbered.4 s);
      made = ap (λ (w : Attached). w.made) same ∙ a.numbered.5;
      gives = subst (λ (w : Attached). GivesSo place (w.start d) (w.dates d) old) (sym same) a.gives;
      truth = subst (λ (w : Attached). IsTrueUnless (Drive d) (w.honest d) old.attached) (sym same) a.truth;
      unused = λ L was. a.unused L was d (omega arith);
    }

-- calls and then two others are the first two and then the last
pub in_turn : {P Q R : List Event → Type 0} (L : List Event) → Then P (Then Q R) L → Then (Then P Q) R L
in_turn L t = record {
  first = t.first ++ t.there.first;
  second = t.there.second;
  is = t.is ∙ ap (λ (l : List Event). t.first ++ l) t.there.is ∙ sym (append_assoc t.first t.there.first t.there.second);
  here = record { first = t.first; second = t.there.first; is = refl; here = t.here; there = t.there.here };
  there = t.there.there;
}

pub run_after : {Such : List Event → Type 0} {end : End} {result : ℕ} (d : ℕ) (place : List ℕ) (old mid new : World) → Attaches place (Ok d) old mid → Went (Here d) (Then Such (EndCalls end result)) mid new
    → EndStatus end result mid new → RunOf (IsOfDrive d) (AfterAttach d place Such) end result old new
run_after {Such} {end} {result} d place old mid new a w status = record {
  told = λ all now. made_such in_turn (made_then (λ some was. made_on (λ x is. inl is) (a.told some was)) (made_on (λ x here. inr here) (w.told all now)));
  later = λ x. let one = attach_later a x in let two = w.later x in omega (arith, one, two);
  others = λ x apart. w.others x (λ here. apart (inr here)) ∙ a.others x (λ is. apart (inl is));
  status = attach_status a new end result status;
}

pub said_before : {lines : List (List ℕ)} {place : List ℕ} {old mid : World} (d : ℕ) (all : List Event) → Attaches place (Ok d) old mid → SaidSince lines mid.events all → SaidSince lines old.events all
said_before {lines} {place} {old} {mid} d all a s =
    let m = a.told s.before s.was in
    record {
      before = m.before;
      since = m.since ++ s.since;
      was = m.was;
      is = s.is ∙ ap (λ (l : List Event). l ++ s.since) m.is ∙ append_assoc m.before m.since s.since;
      lines_are = ap (λ (l : List Event). said (l ++ s.since)) m.such ∙ s.lines_are;
    }

pub begun_before : {lines : List (List ℕ)} {end : End} {place : List ℕ} {old mid : World} (d : ℕ) (all : List Event) → Attaches place (Ok d) old mid → BegunSince lines end mid.events all → BegunSince lines end old.events all
begun_before d all a s = record { first = s.first; rest = s.rest; last = s.last; more = s.more; lines_are = s.lines_are; end_are = s.end_are; said_are = said_before d all a s.said_are }

-- ---- nothing is changed

pub then_keeps : {P Q : List Event → Type 0} → ((L : List Event) → P L → IsUntouched L) → ((L : List Event) → Q L → IsUntouched L) → (L : List Event) → Then P Q L → IsUntouched L
then_keeps one two L t = subst IsUntouched (sym t.is) (untouched_append t.first t.second (one t.first t.here) (two t.second t.there))

pub made_unchanged : {On : Device → Type 0} {P : List Event → Type 0} {old : Option (List Event)} {all : List Event} → ((L : List Event) → P L → IsUntouched L) → Made On P old all → Made (λ x. Unit {0}) IsUntouched old all
made_unchanged keeps m = made_on (λ x on. tt) (made_such keeps m)

pub run_unchanged : {On : Device → Type 0} {Such : List Event → Type 0} {end : End} {result : ℕ} {old new : World} → ((L : List Event) → Such L → IsUntouched L) → RunOf On Such end result old new → Unchanged old new
run_unchanged {On} {Such} {end} {result} {old} {new} keeps run = λ all now. made_unchanged (then_keeps keeps (end_keeps end result)) (run.told all now)

-- an attach changes nothing
pub attach_then_keeps : (d : ℕ) (place : List ℕ) {Such : List Event → Type 0} → ((L : List Event) → Such L → IsUntouched L) → (L : List Event) → AfterAttach d place Such L → IsUntouched L
attach_then_keeps d place keeps L t = then_keeps (λ l is. subst IsUntouched (sym is) (untouched_one (AttachDrive d place) refl)) keeps L t

failed_keeps : (place : List ℕ) (L : List Event) → MaySee (AttachFailed place) L → IsUntouched L
failed_keeps place L (inl is) = subst IsUntouched (sym is) untouched_none
failed_keeps place L (inr is) = subst IsUntouched (sym is) (untouched_one (AttachFailed place) refl)

pub none_unchanged : {place : List ℕ} {result : ℕ} {old new : World} → NoneAttached place result old new → Unchanged old new
none_unchanged {place} none = run_unchanged (failed_keeps place) none.run

pub end_unchanged : {end : End} {result : ℕ} {old new : World} → Ended end result old new → Unchanged old new
end_unchanged {end} {result} {old} {new} ended = λ all now. made_unchanged (end_keeps end result) (ended.went.told all now)
