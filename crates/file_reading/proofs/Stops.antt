-- Where looks on a drive stop.
use Rattle.std.proofs.Common.{◌≡◌, inl, inr, ℕ, true, false, List, [], ◌∷◌, ◌++◌, length, refl, sym, ◌∙◌, subst, append_assoc, append-nil, arith}
use Rattle.std.proofs.lemmas.Bool.Decides.{nat_tests}
use Rattle.std.specs.Prelude.{Option, Some, None, Err, nat_eq}
use Rattle.bay_core.specs.declared.event.Event.{Event}
use Rattle.bay_core.specs.declared.event.Event.TheVariants.{DriveList, DriveRead}
use Rattle.bay_core.specs.declared.event.DriveGot.TheVariants.{Failed}
use Rattle.bay_core.specs.declared.failed.Failed.{Failed as DeviceFailed}
use Rattle.bay_core.specs.declared.failed.ListError.{ListError}
use Rattle.bay_core.specs.declared.failed.ListError.TheVariants.{Failed as ListFailed}
use Rattle.bay_core.specs.Replay.{Device, Drive}
use Rattle.bay_core.specs.World.{World}
use Rattle.bay_core.specs.Went.{Went, Only, Called, ReadCall, ListCall, no_fault}
use Rattle.bay_core.specs.Looks.{Exactly, Looks, AtMost, Caused}
use Rattle.bay_core.proofs.Runs.{went_then, went_such, went_none, rose_since}
use Rattle.bay_core.proofs.Looking.{looks_append, no_looks}
use Rattle.file_reading.specs.Reads.{Halted}

caused_since : (at : Option Device) {On : Device → Type 0} {P : List Event → Type 0} {old mid : World} (new : World) → Went On P old mid → Caused at mid new → Caused at old new
caused_since None new w c = tt
caused_since (Some x) new w c = rose_since x (new.faults x) w c

-- looks on the drive, and then a run that stopped
pub halted_after : (d : ℕ) (at : Option Device) (A : List Event) {old mid new : World} → Looks A → Went (Only (Drive d)) (Exactly A) old mid → Halted d at mid new → Halted d at old new
halted_after d at A looks one two = record {
  went = went_such (λ L t. record {
    looks = A ++ t.there.looks;
    last = t.there.last;
    is = t.is ∙ (λ i. t.here i ++ t.there.is i) ∙ sym (append_assoc A t.there.looks t.there.last);
    answered = looks_append A t.there.looks looks t.there.answered;
    failed = t.there.failed;
  }) (went_then one two.went);
  cause = caused_since at _ one two.cause;
}

-- looks on the drive, of which none failed
pub halted_looks : (d : ℕ) (A : List Event) {old new : World} → Looks A → Went (Only (Drive d)) (Exactly A) old new → Halted d None old new
halted_looks d A looks one = record {
  went = went_such (λ L is. record { looks = A; last = []; is = is ∙ sym (append-nil A); answered = looks; failed = refl }) one;
  cause = tt;
}

-- no call
pub halted_none : (d : ℕ) (w : World) → Halted d None w w
halted_none d w = halted_looks d [] no_looks (went_none (Only (Drive d)) w)

-- one call on the drive, which failed
halted_at : (d : ℕ) {P : List Event → Type 0} {old new : World} → ((L : List Event) → P L → AtMost (Some (Drive d)) L) → Called (Drive d) P false old new → Halted d (Some (Drive d)) old new
halted_at d so called = record {
  went = went_such (λ L p. record { looks = []; last = L; is = refl; answered = no_looks; failed = so L p }) called.went;
  cause = called.cause refl;
}

itself : (d : ℕ) → nat_eq d d ≡ true
itself d = grind (arith, nat_tests)

pub read_halted : (d : ℕ) (path : List ℕ) (at : ℕ) (into : List ℕ) (e : DeviceFailed) {old new : World} → Called (Drive d) (ReadCall d path at into (Err e)) false old new → Halted d (Some (Drive d)) old new
read_halted d path at into e called = halted_at d (λ L p. elim p [ inl none ↦ inl none | inr one ↦ inr (DriveRead d path at (length into) Failed, one, itself d) ]) called

pub list_halted : (d : ℕ) (e : ListError) {old new : World} → e ≡ ListFailed → Called (Drive d) (ListCall d (Err e)) (no_fault (Err e)) old new → Halted d (Some (Drive d)) old new
list_halted d e {old} {new} is called =
    halted_at d (λ L p. elim p [ inl none ↦ inl none | inr one ↦ inr (DriveList d None, one, itself d) ]) (subst (λ x. Called (Drive d) (ListCall d (Err x)) (no_fault (Err x)) old new) is called)
