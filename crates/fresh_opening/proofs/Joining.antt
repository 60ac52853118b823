-- The looks of an opening, one drive after another, and how they end.
use Rattle.std.proofs.Common.{◌≡◌, inl, inr, ℕ, suc, ◌+◌, ◌<◌, ◌≤◌, List, [], ◌∷◌, ◌++◌, length, map, refl, sym, ◌∙◌, ap, subst, arith, append_assoc, append-nil, length-append}
use Rattle.std.specs.Prelude.{Option, None, Result, Ok, Err, IsErrAnd, MatchResult}
use Rattle.std.specs.List.{AllByRecursion}
use Rattle.std.proofs.lemmas.List.{length-map, map-append}
use Rattle.std.proofs.lemmas.Option.{none-some}
use Rattle.bay_core.specs.declared.event.Event.{Event}
use Rattle.bay_core.specs.Looks.{Here, IsUntouched}
use Rattle.bay_core.specs.Replay.{Device, Drive, Output}
use Rattle.bay_core.specs.Went.{Went, Then, NoCall}
use Rattle.bay_core.specs.World.{World}
use Rattle.bay_core.proofs.Looking.{no_looks, untouched_none}
use Rattle.bay_core.proofs.Runs.{none_on, rose_since, went_none, went_on, went_such, went_then}
use Rattle.copy_plan.specs.Plan.{PlanValue}
use Rattle.fresh_opening.specs.declared.error.FreshError.{FreshError}
use Rattle.fresh_opening.specs.declared.error.FreshError.TheVariants.{Inventory, NotAJournal, AlreadyBegun, NoDrive, Clash, Occupied, OutFailed, Memory}
use Rattle.fresh_opening.specs.declared.looking.DriveSeen.{DriveSeen}
use Rattle.fresh_opening.specs.Looks.{sight_by, CameTo, EndCalls, EndsAt, IsFaulty, IsBegun, LookGives, OfLooks, AreSights, AreDropped, LooksDone, Reaches, Refuses, scene_of, LooksEnd}
use Rattle.drive_journal.specs.Found.{Journal}
use Rattle.fresh_opening.specs.Sights.{Sight, Found, HaltCalls, SightCalls, SightsCalls, SightIs}
use Rattle.fresh_opening.proofs.Finding.{both_untouched, sight_later, sight_since}
use Rattle.fresh_opening.proofs.Refusing.{IsBare, one_more, kept_bare, bare_before, first_faulty, first_begun, first_none}

-- ---- the calls

-- the looks so far, and the look at the next drive
pub calls_push : (d : ℕ) (sights : List Sight) (x : Sight) (L : List Event) → Then (SightsCalls d sights) (SightCalls (d + length sights) x) L → SightsCalls d (sights ++ x ∷ []) L
unfolding SightsCalls
calls_push d [] x L t = record {
  first = t.second;
  second = [];
  is = t.is ∙ ap (λ (l : List Event). l ++ t.second) t.here ∙ sym (append-nil t.second);
  here = let same : d + 0 ≡ d = omega arith in subst (λ (n : ℕ). SightCalls n x t.second) same t.there;
  there = refl;
}
calls_push d (y ∷ sights) x L t =
    let same : d + length (y ∷ sights) ≡ suc d + length sights = omega arith in
    let back : Then (SightsCalls (suc d) sights) (SightCalls (suc d + length sights) x) (t.here.second ++ t.second) = record {
      first = t.here.second;
      second = t.second;
      is = refl;
      here = t.here.there;
      there = subst (λ (n : ℕ). SightCalls n x t.second) same t.there;
    } in
    record {
      first = t.here.first;
      second = t.here.second ++ t.second;
      is = t.is ∙ ap (λ (l : List Event). l ++ t.second) t.here.is ∙ append_assoc t.here.first t.here.second t.second;
      here = t.here.here;
      there = calls_push (suc d) sights x (t.here.second ++ t.second) back;
    }

no_sights : (d : ℕ) → SightsCalls d [] []
unfolding SightsCalls
no_sights d = refl

-- nothing behind
pub then_none : {On : Device → Type 0} {P : List Event → Type 0} {old new : World} → Went On P old new → Went On (Then P NoCall) old new
then_none w = went_such (λ L p. record { first = L; second = []; is = sym (append-nil L); here = p; there = refl }) w

-- no call of a drive
pub none_halted : (d : ℕ) → HaltCalls d None []
none_halted d = record { on = none_on _; stops = record { looks = []; last = []; is = refl; answered = no_looks; failed = refl } }

-- the calls at one drive of an opening
on_drive : (first count d : ℕ) → first ≤ d → d < first + count → (x : Device) → Here d x → OfLooks first count x
on_drive first count d low high x (inl is) = subst (OfLooks first count) (sym is) (low, high)
on_drive first count d low high x (inr is) = subst (OfLooks first count) (sym is) tt

-- ---- the looks so far

pub record SoFar (first count : ℕ) (sights : List Sight) (old new : World) : Type 0 where
  pub went : Went (OfLooks first count) (SightsCalls first sights) old new
  pub untouched : Went (OfLooks first count) IsUntouched old new
  pub are : AreSights first sights old new

pub none_yet : (first count : ℕ) (w : World) → SoFar first count [] w w
none_yet first count w = record {
  went = went_such (λ L none. subst (SightsCalls first []) (sym none) (no_sights first)) (went_none (OfLooks first count) w);
  untouched = went_such (λ L none. subst IsUntouched (sym none) untouched_none) (went_none (OfLooks first count) w);
  are = λ place x found. absurd (none-some x found);
}

-- the calls at the drive behind so many
on_next : (first count n : ℕ) → n < count → (x : Device) → Here (first + n) x → OfLooks first count x
on_next first count n low x here = on_drive first count (first + n) (omega arith) (omega arith) x here

module _ (first count : ℕ) (sights : List Sight) {old mid new : World} (so_far : SoFar first count sights old mid) (few : length sights < count) where
  -- and one more
  pub next_sight : (x : Sight) → CameTo (first + length sights) x mid new → SoFar first count (sights ++ x ∷ []) old new
  next_sight x came = record {
    went = went_such (calls_push first sights x) (went_then so_far.went (went_on (on_next first count (length sights) few) came.went));
    untouched = both_untouched so_far.untouched (went_on (on_next first count (length sights) few) came.untouched);
    are = each;
  }
    where
      each : AreSights first (sights ++ x ∷ []) old new
      each place y found = elim (one_more sights x place y found) [
        | inl before ↦ sight_later (first + place) y old came.untouched (so_far.are place y before)
        | inr last ↦
            let here : SightIs (first + length sights) x old new = sight_since (first + length sights) x new so_far.went came.is in
            subst (λ (n : ℕ). SightIs (first + n) y old new) (sym last.0) (subst (λ (z : Sight). SightIs (first + length sights) z old new) last.1 here)
      ]

-- ---- how the looks end

-- they end behind the drives that were looked at, with no call more
ends_here : (first count : ℕ) (sights : List Sight) (e : FreshError) {old new : World} → SoFar first count sights old new → length sights ≤ count → (EndCalls (first + length sights) e [])
    → ((plan : Option PlanValue) → Reaches count (scene_of first sights plan) e) → ((plan : Option PlanValue) → Refuses (scene_of first sights plan) e) → (e ≡ OutFailed → ⊥) → LooksEnd first count e old new
ends_here first count sights e so_far few none reaches refuses said = record {
  sights = sights;
  few = few;
  went = went_such (λ L t. record { first = t.first; second = t.second; is = t.is; here = t.here; there = subst (EndCalls (first + length sights) e) (sym t.there) none }) (then_none so_far.went);
  untouched = so_far.untouched;
  are = so_far.are;
  reaches = reaches;
  refuses = refuses;
  unsaid = λ is. absurd (said is);
}

-- memory was wanting
pub wanting_here : (first count : ℕ) (sights : List Sight) {old new : World} → SoFar first count sights old new → length sights ≤ count → AllByRecursion IsBare sights → LooksEnd first count Memory old new
wanting_here first count sights so_far few bare =
    ends_here first count sights Memory so_far few (none_halted (first + length sights)) (λ plan. tt) (λ plan. bare_before first sights plan bare) (λ is. cc is)

-- no drive is left
pub none_left : (first count : ℕ) (sights : List Sight) {old new : World} → SoFar first count sights old new → length sights ≡ count → AreDropped sights → LooksEnd first count NoDrive old new
none_left first count sights so_far whole all =
    ends_here first count sights NoDrive so_far (omega arith) refl (λ plan. whole) (λ plan. first_none first sights plan all) (λ is. cc is)

-- one more is one longer
longer : (sights : List Sight) (x : Sight) → length (sights ++ x ∷ []) ≡ suc (length sights)
longer sights x = length-append sights (x ∷ []) ∙ omega arith

module _ (first count : ℕ) (sights : List Sight) {old mid new : World} (so_far : SoFar first count sights old mid) (few : length sights < count) (bare : AllByRecursion IsBare sights) (most : first + count ≤ 8) where
  -- its look failed and that was not said, or memory was wanting in it
  ends_at : (e : FreshError) → EndsAt (first + length sights) e mid new → ((plan : Option PlanValue) → Reaches count (scene_of first sights plan) e) → ((plan : Option PlanValue) → Refuses (scene_of first sights plan) e) → LooksEnd first count e old new
  ends_at e ends reaches refuses = record {
    sights = sights;
    few = omega arith;
    went = went_then so_far.went (went_on (on_next first count (length sights) few) ends.went);
    untouched = both_untouched so_far.untouched (went_on (on_next first count (length sights) few) ends.untouched);
    are = λ place x found. sight_later (first + place) x old ends.untouched (so_far.are place x found);
    reaches = reaches;
    refuses = refuses;
    unsaid = λ is.
        let rose = ends.unsaid is in
        (rose_since (Drive (first + length sights)) (new.faults (Drive (first + length sights))) so_far.went rose.0, rose_since Output (new.faults Output) so_far.went rose.1);
  }

  fault_end : (at : ℕ) → IsFaulty (first + length sights) at mid new → LooksEnd first count (NotAJournal (first + length sights) at) old new
  fault_end at f =
      let x = Found f.size f.found in
      ends_here first count (sights ++ x ∷ []) (NotAJournal (first + length sights) at) (next_sight first count sights so_far few x f.came) (let long = longer sights x in omega (arith, long)) refl
      (λ plan. let long = longer sights x in omega (arith, long)) (λ plan. first_faulty first sights plan bare (omega arith) f.size f.found at f.fault) (λ is. cc is)

  begun_end : IsBegun (first + length sights) mid new → LooksEnd first count (AlreadyBegun (first + length sights)) old new
  begun_end b =
      let x = Found b.size (Journal b.bytes) in
      ends_here first count (sights ++ x ∷ []) (AlreadyBegun (first + length sights)) (next_sight first count sights so_far few x b.came) (let long = longer sights x in omega (arith, long)) refl
      (λ plan. let long = longer sights x in omega (arith, long)) (λ plan. first_begun first sights plan bare (omega arith) b.size b.bytes b.plan b.recs b.holds) (λ is. cc is)

  -- the look at the next drive gave no more
  pub look_ends : (d : ℕ) (e : FreshError) → d ≡ first + length sights → LookGives d (Err e) mid new → LooksEnd first count e old new
  look_ends d (NotAJournal drive at) is (same, f) =
      subst (λ (n : ℕ). LooksEnd first count (NotAJournal n at) old new) (sym (same ∙ is)) (fault_end at (subst (λ (n : ℕ). IsFaulty n at mid new) is f))
  look_ends d (AlreadyBegun drive) is (same, b) =
      subst (λ (n : ℕ). LooksEnd first count (AlreadyBegun n) old new) (sym (same ∙ is)) (begun_end (subst (λ (n : ℕ). IsBegun n mid new) is b))
  look_ends d OutFailed is ends = ends_at OutFailed (subst (λ (n : ℕ). EndsAt n OutFailed mid new) is ends) (λ plan. few) (λ plan. bare_before first sights plan bare)
  look_ends d Memory is ends = ends_at Memory (subst (λ (n : ℕ). EndsAt n Memory mid new) is ends) (λ plan. tt) (λ plan. bare_before first sights plan bare)
  look_ends d (Inventory e) is gives = absurd gives
  look_ends d NoDrive is gives = absurd gives
  look_ends d (Clash list path) is gives = absurd gives
  look_ends d (Occupied drive path) is gives = absurd gives

-- ---- of what is kept of the looks

pub kept_next : (first count : ℕ) (seen : List DriveSeen) (one : DriveSeen) (more : List DriveSeen) {old mid new : World} → SoFar first count (map sight_by seen) old mid → length seen < count → CameTo (first + length seen) (sight_by one) mid new
    → more ≡ seen ++ one ∷ [] → SoFar first count (map sight_by more) old new
kept_next first count seen one more {old} {mid} {new} so_far few came is =
    let long : length (map sight_by seen) ≡ length seen = length-map seen sight_by in
    let next = next_sight first count (map sight_by seen) so_far (omega (arith, long)) (sight_by one) (subst (λ (n : ℕ). CameTo (first + n) (sight_by one) mid new) (sym long) came) in
    subst (λ (l : List Sight). SoFar first count l old new) (sym (ap (map sight_by) is ∙ map-append sight_by seen (one ∷ []))) next

-- all drives were looked at
pub kept_done : (first count : ℕ) (seen : List DriveSeen) {old new : World} → SoFar first count (map sight_by seen) old new → length seen ≡ count → (AreDropped (map sight_by seen) → ⊥) → LooksDone first count seen old new
kept_done first count seen so_far whole left = record { whole = whole; went = so_far.went; untouched = so_far.untouched; are = so_far.are; left = left }

-- what is so where the look at drive d is next
pub record BeforeDrive (first count d : ℕ) (seen : List DriveSeen) (old new : World) : Type 0 where
  pub place : first + length seen ≡ d
  pub so_far : SoFar first count (map sight_by seen) old new

pub before_first : (first count : ℕ) (seen : List DriveSeen) → seen ≡ [] → (w : World) → BeforeDrive first count first seen w w
before_first first count seen none w = record {
  place = ap (λ (l : List DriveSeen). first + length l) none ∙ (let same : first + 0 ≡ first = omega arith in same);
  so_far = subst (λ (l : List DriveSeen). SoFar first count (map sight_by l) w w) (sym none) (none_yet first count w);
}

module _ (first count d : ℕ) (seen : List DriveSeen) {old new : World} (b : BeforeDrive first count d seen old new) where
  long : length (map sight_by seen) ≡ length seen
  long = length-map seen sight_by

  -- memory was wanting there
  pub wanting_there : d ≤ first + count → LooksEnd first count Memory old new
  wanting_there low = wanting_here first count (map sight_by seen) b.so_far (let same = long in let place = b.place in omega (arith, same, place)) (kept_bare seen)

  -- its look gives no more
  pub ends_there : {last : World} → d < first + count → first + count ≤ 8 → (e : FreshError) → LookGives d (Err e) new last → LooksEnd first count e old last
  ends_there low most e gives =
      let same = long in
      let place = b.place in
      look_ends first count (map sight_by seen) b.so_far (omega (arith, same, place)) (kept_bare seen) most d e (omega (arith, same, place)) gives

  -- it came to this
  pub next_there : {last : World} → d < first + count → (one : DriveSeen) (more : List DriveSeen) → CameTo d (sight_by one) new last → more ≡ seen ++ one ∷ [] → BeforeDrive first count (d + 1) more old last
  next_there {last} low one more came is = record {
    place = let place = b.place in let longer : length more ≡ suc (length seen) = ap length is ∙ length-append seen (one ∷ []) ∙ omega arith in omega (arith, place, longer);
    so_far = kept_next first count seen one more b.so_far (let place = b.place in omega (arith, place)) (subst (λ (n : ℕ). CameTo n (sight_by one) new last) (sym b.place) came) is;
  }

  -- or there was no memory to keep that
  pub wanting_next : {last : World} → d < first + count → (one : DriveSeen) → CameTo d (sight_by one) new last → LooksEnd first count Memory old last
  wanting_next {last} low one came =
      let next = next_there low one (seen ++ one ∷ []) came refl in
      let place = next.place in
      let same : length (map sight_by (seen ++ one ∷ [])) ≡ length (seen ++ one ∷ []) = length-map (seen ++ one ∷ []) sight_by in
      wanting_here first count (map sight_by (seen ++ one ∷ [])) next.so_far (omega (arith, place, same)) (kept_bare (seen ++ one ∷ []))

  -- no drive is behind the last
  pub none_behind : d ≡ first + count → (all : List DriveSeen) → all ≡ seen → AreDropped (map sight_by all) → LooksEnd first count NoDrive old new
  none_behind last all is dropped =
      none_left first count (map sight_by seen) b.so_far (let same = long in let place = b.place in omega (arith, same, place, last)) (subst (λ (l : List DriveSeen). AreDropped (map sight_by l)) is dropped)

  pub done_behind : d ≡ first + count → (all : List DriveSeen) → all ≡ seen → (AreDropped (map sight_by all) → ⊥) → LooksDone first count seen old new
  done_behind last all is left =
      kept_done first count seen b.so_far (let place = b.place in omega (arith, place, last)) (subst (λ (l : List DriveSeen). AreDropped (map sight_by l) → ⊥) is left)

-- what is so of an error is so of a result that has just that
pub err_handed : {A E : Type 0} (P : A → Type 0) (Q : E → Type 0) (r : Result A E) (e : E) → IsErrAnd r (λ x. x ≡ e) → Q e → MatchResult r P Q
err_handed P Q (Ok v) e is so = absurd is
err_handed P Q (Err x) e is so = subst Q (sym is) so
