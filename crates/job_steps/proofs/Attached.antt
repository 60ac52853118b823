-- What the attaches of a run leave: which calls they made, and what is attached then.
use Rattle.std.proofs.Common.{◌≡◌, ℕ, suc, ◌+◌, ◌<◌, ◌≤◌, List, [], ◌∷◌, ◌++◌, length, take, refl, sym, ap, ◌∙◌, subst, arith, append-nil}
use Rattle.std.specs.Prelude.{Some, Ok, Err}
use Rattle.bay_core.specs.declared.event.Event.{Event}
use Rattle.bay_core.specs.declared.failed.Failed.{Failed as DeviceFailed}
use Rattle.bay_core.specs.Attach.{SameCard, Attaches, CardAttaches}
use Rattle.bay_core.specs.Map.{Map, AllDated}
use Rattle.bay_core.specs.Replay.{Attaching, calls_on}
use Rattle.bay_core.specs.Went.{AllOn, Only, Then}
use Rattle.bay_core.specs.World.{World, Attached, Steady}
use Rattle.bay_core.proofs.Replays.{calls_on-append}
use Rattle.bay_core.proofs.Runs.{AllOn-append, none_on}
use Rattle.command_words.specs.Jobs.{Job}
use Rattle.job_story.specs.Attaching.{AttachesDrives, AttachesSome, AttachesAll, LacksDrive}
use Rattle.job_steps.proofs.Told.{Tells, tells_made, tells_such, tells_then}

abbrev pub AreAttaches : List Event → Type 0
AreAttaches L = AllOn (Only Attaching) L

attaches_then : {old mid new : World} → Tells AreAttaches old mid → Tells AreAttaches mid new → Tells AreAttaches old new
attaches_then one two = tells_such (λ L (t : Then AreAttaches AreAttaches L). subst AreAttaches (sym t.is) (AllOn-append (Only Attaching) t.first t.second t.here t.there)) (tells_then one two)

no_call : (w : World) → Tells AreAttaches w w
no_call w = record { told = λ all now. record { before = all; since = []; was = now; is = sym (append-nil all); such = none_on (Only Attaching) } }

one_attach : (place : List ℕ) (d : ℕ) {old new : World} → Attaches place (Ok d) old new → Tells AreAttaches old new
one_attach place d a = tells_such (λ L both. both.0) (tells_made a.told)

-- ---- drives, one after another

same_card : (s : ℕ) (a b c : Attached) → SameCard s a b → SameCard s b c → SameCard s a c
same_card s a b c one two = record { card = two.card ∙ one.card; dates = two.dates ∙ one.dates; steady = two.steady ∙ one.steady }

-- these drives were attached, from number d on
pub record DrivesAttached (d count : ℕ) (old new : World) : Type 0 where
  pub tells : Tells AreAttaches old new
  pub drives : new.attached.drives ≡ d + count
  pub sources : new.attached.sources ≡ old.attached.sources
  pub card : SameCard 0 old.attached new.attached
  pub unused : (L : List Event) → old.events ≡ Some L → (k : ℕ) → d ≤ k → k < d + count → calls_on k L ≡ []

none_attached : (d : ℕ) (old new : World) → old.attached.drives ≡ d → new ≡ old → DrivesAttached d 0 old new
none_attached d old new drives is =
    subst (λ (w : World). DrivesAttached d 0 old w) (sym is)
    (record {
      tells = no_call old;
      drives = omega (arith, drives);
      sources = refl;
      card = record { card = refl; dates = refl; steady = refl };
      unused = λ L was k high low. absurd (omega (arith, high, low));
    })

one_more : (d count : ℕ) (place : List ℕ) (old mid new : World) → old.attached.drives ≡ d → Attaches place (Ok d) old mid → DrivesAttached (suc d) count mid new → DrivesAttached d (suc count) old new
one_more d count place old mid new drives a rest = record {
  tells = attaches_then (one_attach place d a) rest.tells;
  drives = let all = rest.drives in omega (arith, all);
  sources = rest.sources ∙ a.numbered.3;
  card = same_card 0 old.attached mid.attached new.attached (a.numbered.4 0) rest.card;
  unused = λ L was k high low. a.unused L was k (omega (arith, drives, high));
}

pub drives_attached : (places : List (List ℕ)) (d : ℕ) (old new : World) → old.attached.drives ≡ d → AttachesDrives d places old new → DrivesAttached d (length places) old new
unfolding AttachesDrives
drives_attached [] d old new drives is = none_attached d old new drives is
drives_attached (place ∷ places) d old new drives (mid, a, more) =
    one_more d (length places) place old mid new drives a (drives_attached places (suc d) mid new (let now = a.numbered.1 in omega (arith, now, drives)) more)

-- ---- the card, and drives

-- the first of some calls is none where none of them is
no_first : (A B : List Event) → A ++ B ≡ [] → A ≡ []
no_first [] B is = refl
no_first (e ∷ A) B is = absurd (cc is)

-- What was attached in a run: the calls were attaches, there are so many drives, no call before was on one of them, and a steady card has a date of each of its files.
pub record IsAttached (count : ℕ) (old new : World) : Type 0 where
  pub tells : Tells AreAttaches old new
  pub drives : new.attached.drives ≡ count
  pub unused : (past all : List Event) → old.events ≡ Some past → new.events ≡ Some all → (d : ℕ) → d < count → calls_on d past ≡ []
  pub dated : (m : Map) → Steady new 0 m → AllDated m (new.attached.card_dates 0)

same_list : (A B : List Event) → Some A ≡ Some B → A ≡ B
same_list A B e = cc e

-- no call on a drive is before the card was attached either
unused_before : {old mid new : World} (count : ℕ) (past all : List Event) → Tells AreAttaches old mid → DrivesAttached 0 count mid new → old.events ≡ Some past → new.events ≡ Some all → (d : ℕ) → d < count → calls_on d past ≡ []
unused_before {old} count past all card rest was now d low =
    let s = rest.tells.told all now in
    let r = card.told s.before s.was in
    let none : calls_on d s.before ≡ [] = rest.unused s.before s.was d (omega arith) (omega (arith, low)) in
    let parts : calls_on d r.before ++ calls_on d r.since ≡ [] = sym (calls_on-append d r.before r.since) ∙ ap (calls_on d) (sym r.is) ∙ none in
    let same : r.before ≡ past = same_list r.before past (sym r.was ∙ was) in
    ap (calls_on d) (sym same) ∙ no_first (calls_on d r.before) (calls_on d r.since) parts

pub card_and_drives : (place : List ℕ) (count : ℕ) (old mid new : World) → CardAttaches place (Ok 0) old mid → DrivesAttached 0 count mid new → IsAttached count old new
card_and_drives place count old mid new a rest =
    let card : Tells AreAttaches old mid = tells_such (λ L both. both.0) (tells_made a.told) in
    record {
      tells = attaches_then card rest.tells;
      drives = rest.drives ∙ omega arith;
      unused = λ past all. unused_before count past all card rest;
      dated = λ m steady.
          let same = rest.card in
          let before : Steady mid 0 m = record { steady = sym same.steady ∙ steady.steady; card = sym same.card ∙ steady.card } in
          subst (AllDated m) (sym same.dates) (a.dated m before);
    }

pub attached_some : (place : List ℕ) (places : List (List ℕ)) (old mid new : World) → old.attached.drives ≡ 0 → CardAttaches place (Ok 0) old mid → AttachesDrives 0 places mid new → IsAttached (length places) old new
attached_some place places old mid new none a more =
    card_and_drives place (length places) old mid new a (drives_attached places 0 mid new (let same = a.numbered.3 in omega (arith, same, none)) more)

-- all of the job
pub attached_all : (job : Job) (old new : World) → old.attached.drives ≡ 0 → AttachesAll job old new → IsAttached (length job.drives) old new
attached_all job old new none a = attached_some job.card job.drives old a.mid new none a.card a.drives

-- the card was not
pub attached_none : (place : List ℕ) (error : DeviceFailed) (old new : World) → old.attached.drives ≡ 0 → CardAttaches place (Err error) old new → Tells AreAttaches old new × (new.attached.drives ≡ 0)
attached_none place error old new none a = (tells_such (λ L both. both.0) (tells_made a.told), ap (λ (b : Attached). b.drives) a.numbered ∙ none)

-- a drive was not
pub attached_fewer : (job : Job) (d : ℕ) (old new : World) → old.attached.drives ≡ 0 → LacksDrive job d old new → IsAttached (length (take d job.drives)) old new
attached_fewer job d old new none lacks =
    let before = attached_some job.card (take d job.drives) old lacks.before.mid lacks.mid none lacks.before.card lacks.before.drives in
    let failed : Tells AreAttaches lacks.mid new = tells_such (λ L both. both.0) (tells_made lacks.failed.told) in
    record {
      tells = attaches_then before.tells failed;
      drives = ap (λ (b : Attached). b.drives) lacks.failed.numbered ∙ before.drives;
      unused = λ past all was now. before.unused past (failed.told all now).before was (failed.told all now).was;
      dated = λ m steady.
          let same : new.attached ≡ lacks.mid.attached = lacks.failed.numbered in
          let earlier : Steady lacks.mid 0 m = record { steady = ap (λ (b : Attached). b.steady 0) (sym same) ∙ steady.steady; card = ap (λ (b : Attached). b.card 0) (sym same) ∙ steady.card } in
          subst (λ (b : Attached). AllDated m (b.card_dates 0)) (sym same) (before.dated m earlier);
    }
