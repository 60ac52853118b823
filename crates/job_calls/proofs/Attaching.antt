-- What the attaches of a run call, and what is attached behind them.
use Rattle.std.proofs.Common.{◌≡◌, inl, inr, ℕ, zero, suc, ◌+◌, ◌<◌, false, List, [], ◌∷◌, ◌++◌, length, take, refl, sym, ap, ◌∙◌, subst, arith, append_assoc, append-nil}
use Rattle.std.specs.Prelude.{Option, Some, Ok, Err, filter}
use Rattle.std.specs.List.{AllByRecursion}
use Rattle.std.proofs.lemmas.Bool.{false≢true}
use Rattle.bay_core.specs.declared.event.Event.{Event}
use Rattle.bay_core.specs.declared.event.Event.TheVariants.{AttachSource, AttachDrive, AttachFailed}
use Rattle.bay_core.specs.declared.failed.Failed.{Failed as DeviceFailed}
use Rattle.bay_core.specs.Attach.{SameDrive, SameCard, Gives, IsTrueUnless, Attaches, CardAttaches}
use Rattle.bay_core.specs.Map.{Map, Dates}
use Rattle.bay_core.specs.Replay.{Device, Drive, Attaching, device_of}
use Rattle.bay_core.specs.Went.{AllOn, Then, MaySee}
use Rattle.bay_core.specs.World.{World, Attached}
use Rattle.run_ends.proofs.Lines.{none_there}
use Rattle.job_story.specs.Attaching.{AttachesDrives}
use Rattle.job_calls.specs.Calls.{drive_attaches, is_attach, NoAttach}
use Rattle.job_calls.specs.Places.{is_card_attach, is_drive_attach}
use Rattle.job_calls.proofs.Told.{Tells, tells_made, tells_such, tells_then, tells_none, same_list}

-- ---- the calls

-- just these calls
abbrev pub Makes : List Event → World → World → Type 0
Makes L old new = Tells (λ K. K ≡ L) old new

pub makes_then : (A B : List Event) {old mid new : World} → Makes A old mid → Makes B mid new → Makes (A ++ B) old new
makes_then A B one two = tells_such (λ L (t : Then (λ K. K ≡ A) (λ K. K ≡ B) L). t.is ∙ (λ i. t.here i ++ t.there i)) (tells_then one two)

pub card_makes : (place : List ℕ) (old new : World) → CardAttaches place (Ok 0) old new → Makes (AttachSource 0 place ∷ []) old new
card_makes place old new a = tells_such (λ L both. both.1) (tells_made a.told)

drive_makes : (place : List ℕ) (d : ℕ) (old new : World) → Attaches place (Ok d) old new → Makes (AttachDrive d place ∷ []) old new
drive_makes place d old new a = tells_such (λ L both. both.1) (tells_made a.told)

pub drives_make : (places : List (List ℕ)) (d : ℕ) (old new : World) → AttachesDrives d places old new → Makes (drive_attaches d places) old new
unfolding AttachesDrives
drives_make [] d old new is = subst (λ (w : World). Makes [] old w) (sym is) (tells_none old)
drives_make (place ∷ places) d old new (mid, a, more) = makes_then (AttachDrive d place ∷ []) (drive_attaches (suc d) places) (drive_makes place d old mid a) (drives_make places (suc d) mid new more)

-- one that failed, seen or not
pub failed_makes : (place : List ℕ) (error : DeviceFailed) (old new : World) → Attaches place (Err error) old new → Tells (MaySee (AttachFailed place)) old new
failed_makes place error old new a = tells_such (λ L both. both.1) (tells_made a.told)

pub card_fails : (place : List ℕ) (error : DeviceFailed) (old new : World) → CardAttaches place (Err error) old new → Tells (MaySee (AttachFailed place)) old new
card_fails place error old new a = tells_such (λ L both. both.1) (tells_made a.told)

-- the first attaches of drives are those of the first folders
pub first_attaches : (n d : ℕ) (places : List (List ℕ)) → take n (drive_attaches d places) ≡ drive_attaches d (take n places)
first_attaches zero d places = refl
first_attaches (suc n) d [] = refl
first_attaches (suc n) d (place ∷ places) = ap (λ (l : List Event). AttachDrive d place ∷ l) (first_attaches n (suc d) places)

-- ---- what stays, and the numbers

same_drive : (d : ℕ) (a b c : Attached) → SameDrive d a b → SameDrive d b c → SameDrive d a c
same_drive d a b c one two = record { start = two.start ∙ one.start; dates = two.dates ∙ one.dates; honest = two.honest ∙ one.honest }

pub same_card : (s : ℕ) (a b c : Attached) → SameCard s a b → SameCard s b c → SameCard s a c
same_card s a b c one two = record { card = two.card ∙ one.card; dates = two.dates ∙ one.dates; steady = two.steady ∙ one.steady }

pub record DrivesKept (d count : ℕ) (old new : Attached) : Type 0 where
  pub drives : new.drives ≡ d + count
  pub sources : new.sources ≡ old.sources
  pub made : new.made ≡ old.made
  pub cards : (s : ℕ) → SameCard s old new
  pub each : (e : ℕ) → e < d → SameDrive e old new

none_kept : (d : ℕ) (a : Attached) → a.drives ≡ d → DrivesKept d 0 a a
none_kept d a is = record {
  drives = omega (arith, is);
  sources = refl;
  made = refl;
  cards = λ s. record { card = refl; dates = refl; steady = refl };
  each = λ e low. record { start = refl; dates = refl; honest = refl };
}

module _ (place : List ℕ) (d count : ℕ) (old mid : World) (now : Attached) (drives : old.attached.drives ≡ d) (a : Attaches place (Ok d) old mid) (rest : DrivesKept (suc d) count mid.attached now) where
  one_kept : DrivesKept d (suc count) old.attached now
  one_kept = record {
    drives = let all = rest.drives in omega (arith, all);
    sources = rest.sources ∙ a.numbered.3;
    made = rest.made ∙ a.numbered.5;
    cards = λ s. same_card s old.attached mid.attached now (a.numbered.4 s) (rest.cards s);
    each = λ e low. same_drive e old.attached mid.attached now (a.numbered.2 e (omega (arith, drives, low))) (rest.each e (omega (arith, low)));
  }

next_number : (place : List ℕ) (d : ℕ) (old mid : World) → old.attached.drives ≡ d → Attaches place (Ok d) old mid → mid.attached.drives ≡ suc d
next_number place d old mid drives a = let now = a.numbered.1 in omega (arith, now, drives)

pub drives_kept : (places : List (List ℕ)) (d : ℕ) (old new : World) → old.attached.drives ≡ d → AttachesDrives d places old new → DrivesKept d (length places) old.attached new.attached
unfolding AttachesDrives
drives_kept [] d old new drives is = subst (λ (w : World). DrivesKept d 0 old.attached w.attached) (sym is) (none_kept d old.attached drives)
drives_kept (place ∷ places) d old new drives (mid, a, more) = one_kept place d (length places) old mid new.attached drives a (drives_kept places (suc d) mid new (next_number place d old mid drives a) more)

-- ---- what each drive is given

-- Drive d was attached behind these attaches, with what was attached before them, behind all these calls: it is as its place gave it.
pub record DriveGiven (base now : Attached) (front all : List Event) (d : ℕ) (place : List ℕ) : Type 0 where
  pub then_attached : Attached
  pub made : then_attached.made ≡ base.made
  pub sources : then_attached.sources ≡ base.sources + length (filter is_card_attach front)
  pub drives : then_attached.drives ≡ base.drives + length (filter is_drive_attach front)
  pub cards : (s : ℕ) → SameCard s then_attached now
  pub each_drive : (e : ℕ) → e < then_attached.drives → SameDrive e then_attached now
  pub gives : Gives place (now.start d) (now.dates d) then_attached all
  pub truth : IsTrueUnless (Drive d) (now.honest d) then_attached

module _ (place : List ℕ) (d count : ℕ) (old mid : World) (now : Attached) (drives : old.attached.drives ≡ d) (a : Attaches place (Ok d) old mid) (rest : DrivesKept (suc d) count mid.attached now) (before : List Event) (was : old.events ≡ Some before) where
  stays : SameDrive d mid.attached now
  stays = rest.each d (omega arith)

  first_given : DriveGiven old.attached now [] (before ++ []) d place
  first_given = record {
    then_attached = old.attached;
    made = refl;
    sources = omega arith;
    drives = omega arith;
    cards = (one_kept place d count old mid now drives a rest).cards;
    each_drive = λ e low. (one_kept place d count old mid now drives a rest).each e (omega (arith, drives, low));
    gives =
        subst (λ (l : List Event). Gives place (now.start d) (now.dates d) old.attached l) (sym (append-nil before))
        (subst (λ (m : Option Map). Gives place m (now.dates d) old.attached before) (sym stays.start)
        (subst (λ (t : Dates). Gives place (mid.attached.start d) t old.attached before) (sym stays.dates) (a.gives before was)));
    truth = λ made told honest. stays.honest ∙ a.truth made told honest;
  }

  given_later : (front all : List Event) (e : ℕ) (other : List ℕ) → DriveGiven mid.attached now front all e other → DriveGiven old.attached now (AttachDrive d place ∷ front) all e other
  given_later front all e other g = record {
    then_attached = g.then_attached;
    made = g.made ∙ a.numbered.5;
    sources = let one = a.numbered.3 in let two = g.sources in omega (arith, one, two);
    drives = let one = a.numbered.1 in let two = g.drives in omega (arith, one, two);
    cards = g.cards;
    each_drive = g.each_drive;
    gives = g.gives;
    truth = g.truth;
  }

pub drives_given : (places : List (List ℕ)) (d : ℕ) (old new : World) → old.attached.drives ≡ d → AttachesDrives d places old new → (before all : List Event) → old.events ≡ Some before → new.events ≡ Some all
    → (front back : List Event) (e : ℕ) (other : List ℕ) → drive_attaches d places ≡ front ++ AttachDrive e other ∷ back → DriveGiven old.attached new.attached front (before ++ front) e other
unfolding AttachesDrives
drives_given [] d old new drives is before all was now front back e other at = absurd (none_there front back (AttachDrive e other) at)
drives_given (place ∷ places) d old new drives (mid, a, more) before all was now [] back e other at =
    let head : AttachDrive d place ≡ AttachDrive e other = cc at in
    let number : d ≡ e = cc head in
    let folder : place ≡ other = cc head in
    let rest = drives_kept places (suc d) mid new (next_number place d old mid drives a) more in
    subst (λ (n : ℕ). DriveGiven old.attached new.attached [] (before ++ []) n other) number
    (subst (λ (l : List ℕ). DriveGiven old.attached new.attached [] (before ++ []) d l) folder (first_given place d (length places) old mid new.attached drives a rest before was))
drives_given (place ∷ places) d old new drives (mid, a, more) before all was now (x ∷ front) back e other at =
    let head : AttachDrive d place ≡ x = cc at in
    let behind : drive_attaches (suc d) places ≡ front ++ AttachDrive e other ∷ back = cc at in
    let number = next_number place d old mid drives a in
    let rest = drives_kept places (suc d) mid new number more in
    let s = (drives_make places (suc d) mid new more).told all now in
    let r = (drive_makes place d old mid a).told s.before s.was in
    let start : r.before ≡ before = same_list r.before before (sym r.was ∙ was) in
    let here : mid.events ≡ Some (before ++ AttachDrive d place ∷ []) = s.was ∙ ap Some (r.is ∙ (λ i. start i ++ r.such i)) in
    let g = drives_given places (suc d) mid new number more (before ++ AttachDrive d place ∷ []) all here now front back e other behind in
    subst (λ (y : Event). DriveGiven old.attached new.attached (y ∷ front) (before ++ y ∷ front) e other) head
    (given_later place d (length places) old mid new.attached drives a rest before was front (before ++ AttachDrive d place ∷ front) e other
    (subst (λ (l : List Event). DriveGiven mid.attached new.attached front l e other) (append_assoc before (AttachDrive d place ∷ []) front) g))

-- ---- calls that attach nothing

-- no call on other devices is an attach
one_no_attach : (On : Device → Type 0) → (On Attaching → ⊥) → (e : Event) → On (device_of e) → is_attach e ≡ false
one_no_attach On not (AttachSource s place) on = absurd (not on)
one_no_attach On not (AttachDrive d place) on = absurd (not on)
one_no_attach On not (AttachFailed place) on = absurd (not on)
one_no_attach On not e on = refl

pub no_attach : (On : Device → Type 0) → (On Attaching → ⊥) → (L : List Event) → AllOn On L → NoAttach L
unfolding AllOn
no_attach On not [] on = tt
no_attach On not (e ∷ L) on = (one_no_attach On not e on.0, no_attach On not L on.1)

pub no_attach_then : (A B : List Event) → NoAttach A → NoAttach B → NoAttach (A ++ B)
no_attach_then [] B one two = two
no_attach_then (e ∷ A) B one two = (one.0, no_attach_then A B one.1 two)

-- no card and no drive was attached by these
abbrev pub IsNoDevice : Event → Type 0
IsNoDevice e = (is_card_attach e ≡ false) × (is_drive_attach e ≡ false)

abbrev pub NoDevice : List Event → Type 0
NoDevice L = AllByRecursion IsNoDevice L

one_no_device : (e : Event) → is_attach e ≡ false → IsNoDevice e
one_no_device (AttachSource s place) not = absurd (false≢true (sym not))
one_no_device (AttachDrive d place) not = absurd (false≢true (sym not))
one_no_device (AttachFailed place) not = absurd (false≢true (sym not))
one_no_device e not = (refl, refl)

pub no_device : (L : List Event) → NoAttach L → NoDevice L
no_device [] none = tt
no_device (e ∷ L) none = (one_no_device e none.0, no_device L none.1)

pub no_device_then : (A B : List Event) → NoDevice A → NoDevice B → NoDevice (A ++ B)
no_device_then [] B one two = two
no_device_then (e ∷ A) B one two = (one.0, no_device_then A B one.1 two)

pub failed_no_device : (place : List ℕ) (L : List Event) → MaySee (AttachFailed place) L → NoDevice L
failed_no_device place L (inl none) = subst NoDevice (sym none) tt
failed_no_device place L (inr one) = subst NoDevice (sym one) ((refl, refl), tt)
