-- What the attaches of a run leave: which calls they made, and what is attached then.
use Rattle.std.proofs.Common.{◌≡◌, ℕ, suc, ◌+◌, ◌<◌, ◌≤◌, List, [], ◌∷◌, ◌++◌, length, refl, sym, ap, ◌∙◌, subst, arith}
use Rattle.std.specs.Prelude.{Some, Result, Ok}
use Rattle.bay_core.specs.declared.event.Event.{Event}
use Rattle.bay_core.specs.declared.failed.Failed.{Failed as DeviceFailed}
use Rattle.bay_core.specs.Attach.{Attaches, CardAttaches}
use Rattle.bay_core.specs.Replay.{Device, Source, Drive, Attaching, Output, Clock, Picker, calls_on}
use Rattle.bay_core.specs.Went.{AllOn, Only, Then}
use Rattle.bay_core.specs.World.{World}
use Rattle.bay_core.proofs.Replays.{calls_on-append}
use Rattle.bay_core.proofs.Runs.{AllOn-append, none_on}
use Rattle.run_reads.proofs.Since.{Since, since_none, since_such}
use Rattle.command_words.specs.Jobs.{Job}
use Rattle.job_story.specs.Attaching.{AttachesDrives, AttachesAll, LacksDrive}
use Rattle.job_losses.proofs.Told.{Grows, grows_none, grows_then, since_made, since_then}

abbrev pub AreAttaches : List Event → Type 0
AreAttaches L = AllOn (Only Attaching) L

-- ---- one attach

grows_attach : {place : List ℕ} {result : Result ℕ DeviceFailed} {old new : World} → Attaches place result old new → (x : Device) → old.faults x ≤ new.faults x
grows_attach a Attaching = a.later
grows_attach a (Source s) = let same = a.others (Source s) (λ is. cc is) in omega (arith, same)
grows_attach a (Drive d) = let same = a.others (Drive d) (λ is. cc is) in omega (arith, same)
grows_attach a Output = let same = a.others Output (λ is. cc is) in omega (arith, same)
grows_attach a Clock = let same = a.others Clock (λ is. cc is) in omega (arith, same)
grows_attach a Picker = let same = a.others Picker (λ is. cc is) in omega (arith, same)

grows_card : {place : List ℕ} {result : Result ℕ DeviceFailed} {old new : World} → CardAttaches place result old new → (x : Device) → old.faults x ≤ new.faults x
grows_card a Attaching = a.later
grows_card a (Source s) = let same = a.others (Source s) (λ is. cc is) in omega (arith, same)
grows_card a (Drive d) = let same = a.others (Drive d) (λ is. cc is) in omega (arith, same)
grows_card a Output = let same = a.others Output (λ is. cc is) in omega (arith, same)
grows_card a Clock = let same = a.others Clock (λ is. cc is) in omega (arith, same)
grows_card a Picker = let same = a.others Picker (λ is. cc is) in omega (arith, same)

-- the calls of attaches, and that no count fell
pub record Attached (old new : World) : Type 0 where
  pub calls : Since AreAttaches old new
  pub grows : Grows old new

pub one_attach : {place : List ℕ} {result : Result ℕ DeviceFailed} {old new : World} → Attaches place result old new → Attached old new
one_attach a = record { calls = since_such (λ L both. both.0) (since_made a.told); grows = record { each = grows_attach a } }

pub one_card : {place : List ℕ} {result : Result ℕ DeviceFailed} {old new : World} → CardAttaches place result old new → Attached old new
one_card a = record { calls = since_such (λ L both. both.0) (since_made a.told); grows = record { each = grows_card a } }

none_attached : (w : World) → Attached w w
none_attached w = record { calls = since_none w (none_on (Only Attaching)); grows = grows_none w }

pub attached_then : {old mid new : World} → Attached old mid → Attached mid new → Attached old new
attached_then one two = record {
  calls = since_such (λ L (t : Then AreAttaches AreAttaches L). subst AreAttaches (sym t.is) (AllOn-append (Only Attaching) t.first t.second t.here t.there)) (since_then one.calls two.calls);
  grows = grows_then one.grows two.grows;
}

-- ---- drives, one after another

-- These drives were attached, from number d on; no call before was on one of them.
record DrivesAttached (d count : ℕ) (old new : World) : Type 0 where
  attached : Attached old new
  drives : new.attached.drives ≡ old.attached.drives + count
  unused : (L : List Event) → old.events ≡ Some L → (k : ℕ) → d ≤ k → k < d + count → calls_on k L ≡ []

no_drives : (d : ℕ) (old new : World) → new ≡ old → DrivesAttached d 0 old new
no_drives d old new is =
    subst (λ (w : World). DrivesAttached d 0 old w) (sym is) (record { attached = none_attached old; drives = omega arith; unused = λ L was k high low. absurd (omega (arith, high, low)) })

one_more : (d count : ℕ) (place : List ℕ) (old mid new : World) → Attaches place (Ok d) old mid → DrivesAttached (suc d) count mid new → DrivesAttached d (suc count) old new
one_more d count place old mid new a rest = record {
  attached = attached_then (one_attach a) rest.attached;
  drives = let all = rest.drives in let one = a.numbered.1 in omega (arith, all, one);
  unused = λ L was k high low. a.unused L was k (let number = a.numbered.0 in omega (arith, high, number));
}

drives_attached : (places : List (List ℕ)) (d : ℕ) (old new : World) → AttachesDrives d places old new → DrivesAttached d (length places) old new
unfolding AttachesDrives
drives_attached [] d old new is = no_drives d old new is
drives_attached (place ∷ places) d old new (mid, a, more) = one_more d (length places) place old mid new a (drives_attached places (suc d) mid new more)

-- ---- the card, and drives

-- the first of some calls is none where none of them is
no_first : (A B : List Event) → A ++ B ≡ [] → A ≡ []
no_first [] B is = refl
no_first (e ∷ A) B is = absurd (cc is)

-- all of a job was attached: there are as many drives at least, and no call before was on one of them
pub record IsAttached (count : ℕ) (old new : World) : Type 0 where
  pub attached : Attached old new
  pub enough : count ≤ new.attached.drives
  pub unused : (past all : List Event) → old.events ≡ Some past → new.events ≡ Some all → (d : ℕ) → d < count → calls_on d past ≡ []

same_list : (A B : List Event) → Some A ≡ Some B → A ≡ B
same_list A B e = cc e

-- no call on a drive is before the card was attached either
unused_before : {old mid new : World} (count : ℕ) (past all : List Event) → Attached old mid → DrivesAttached 0 count mid new → old.events ≡ Some past → new.events ≡ Some all → (d : ℕ) → d < count → calls_on d past ≡ []
unused_before count past all card rest was now d low =
    let s = rest.attached.calls.told all now in
    let r = card.calls.told s.before s.was in
    let none : calls_on d s.before ≡ [] = rest.unused s.before s.was d (omega arith) (omega (arith, low)) in
    let parts : calls_on d r.before ++ calls_on d r.since ≡ [] = sym (calls_on-append d r.before r.since) ∙ ap (calls_on d) (sym r.is) ∙ none in
    let same : r.before ≡ past = same_list r.before past (sym r.was ∙ was) in
    ap (calls_on d) (sym same) ∙ no_first (calls_on d r.before) (calls_on d r.since) parts

pub attached_all : (job : Job) (old new : World) → AttachesAll job old new → IsAttached (length job.drives) old new
attached_all job old new a =
    let rest = drives_attached job.drives 0 a.mid new a.drives in
    record {
      attached = attached_then (one_card a.card) rest.attached;
      enough = let all = rest.drives in omega (arith, all);
      unused = λ past all. unused_before (length job.drives) past all (one_card a.card) rest;
    }

-- a drive was not
pub attached_fewer : (job : Job) (d : ℕ) (old new : World) → LacksDrive job d old new → Attached old new
attached_fewer job d old new lacks = attached_then (attached_then (one_card lacks.before.card) (drives_attached _ 0 lacks.before.mid lacks.mid lacks.before.drives).attached) (one_attach lacks.failed)

-- up to that drive no count fell
pub grows_before : (job : Job) (d : ℕ) (old new : World) → (lacks : LacksDrive job d old new) → Grows old lacks.mid
grows_before job d old new lacks = (attached_then (one_card lacks.before.card) (drives_attached _ 0 lacks.before.mid lacks.mid lacks.before.drives).attached).grows
