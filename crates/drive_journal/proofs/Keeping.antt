-- What a step leaves on the way, call by call, and what its calls make of a drive.
use Rattle.std.proofs.Common.{◌≡◌, ◌≢◌, ℕ, Bool, true, false, List, [], ◌++◌, refl, sym, ap, ◌∙◌, subst, true≢false}
use Rattle.std.specs.Prelude.{Option, Some, unwrap_or, Result, Ok, Err, OnOk, is_ok}
use Rattle.std.specs.FinMap.{get}
use Rattle.std.specs.Cmp.Lexicographic.{other_text}
use Rattle.bay_core.specs.declared.event.Event.{Event}
use Rattle.bay_core.specs.Crashes.{Leaves, Rests, IsAny}
use Rattle.bay_core.specs.Left.{Left, LeftBy}
use Rattle.bay_core.specs.Map.{Map, content}
use Rattle.bay_core.specs.Paths.{journal_path, part_path}
use Rattle.bay_core.specs.Replay.{Drive, reads}
use Rattle.bay_core.specs.Torn.{Torn}
use Rattle.bay_core.specs.Went.{Only, Tried}
use Rattle.bay_core.specs.World.{World, Honest}
use Rattle.bay_core.proofs.Crash.{front_goes, left_any, left_keeps, calls_all}
use Rattle.bay_core.proofs.Crashing.{IsOneOf, goes_one}
use Rattle.bay_core.proofs.Readable.{reads_left}
use Rattle.bay_core.proofs.Runs.{since_made, AllOn-front}
use Rattle.path_text.specs.Path.{is_control_path}

-- what each call of a step keeps, a stop within the step keeps
pub tried_leaves : (Way : Map → Map → Type 0) (d : ℕ) (cs : List (Bool → Event)) {ok : Bool} {old new : World} → Tried d cs ok old new → ((J : Map) → Way J J) → ((e : Event) (J K M : Map) → IsOneOf e cs → Way J K → Torn e K M → Way J M) →
    Leaves d IsAny Way old new
tried_leaves Way d cs {ok} t same keeps = record {
  any_moment = λ m before since rest honest pre now I left.
      let s = since_made t.went before (since ++ rest) honest.events now in
      let goes = front_goes cs ok (since ++ rest) since rest s.such refl in
      let mine = calls_all d since (AllOn-front (Only (Drive d)) since rest s.on) in
      let R = reads m before d in
      left_keeps (λ K. (J : Map) × Left m before d J × Way J K) since R (Left m before d) (λ J l. (J, l, same J)) (R, reads_left m before d, same R)
      (λ e K M is h torn. (h.0, h.1, keeps e h.0 K M (goes_one cs since goes e is) h.2 torn)) I
      (subst (λ K. LeftBy K R (Left m before d) I) mine (left_any m before since d I left));
}

-- what is read at rest may be said in other words
pub rests_so : (d : ℕ) (Pre : Map → Type 0) (P Q : Map → Map → Type 0) {ok : Bool} {old new : World} → ((R T : Map) → Pre R → P R T → Q R T) → Rests d IsAny P ok old new → Rests d Pre Q ok old new
rests_so d Pre P Q {ok} {old} {new} so rests = record {
  done = λ y m before all honest pre now.
      let r = rests.done y m before all honest tt now in
      (r.0, so (reads m before d) (reads m all d) pre r.1);
}

-- a premise that Ok itself gives
pub rests_given : (d : ℕ) (Pre : Map → Type 0) (P : Map → Map → Type 0) {T E : Type 0} (result : Result T E) {old new : World} → ((m : Map) (L : List Event) → Honest old d m L → OnOk result (Pre (reads m L d))) → Rests d Pre P (is_ok result) old new
    → Rests d IsAny P (is_ok result) old new
rests_given d Pre P (Ok v) {old} {new} given rests = record {
  done = λ y m before all honest any now. rests.done y m before all honest (given m before honest) now;
}
rests_given d Pre P (Err e) {old} {new} given rests = record {
  done = λ y m before all honest any now. absurd (cc y);
}

pub journal_not_part : journal_path ≢ part_path
journal_not_part = other_text journal_path part_path refl

-- a path that is no control path is none of the station's own
pub not_own : (path own : List ℕ) → is_control_path own ≡ true → is_control_path path ≡ false → path ≢ own
not_own path own yes_own no_path e = true≢false (sym yes_own ∙ ap is_control_path (sym e) ∙ no_path)

pub journal_own : is_control_path journal_path ≡ true
unfolding is_control_path
journal_own = refl

pub part_own : is_control_path part_path ≡ true
unfolding is_control_path
part_own = refl

-- the bytes of a journal that is there
pub content_there : (m : Map) (bytes : List ℕ) → get m journal_path ≡ Some bytes → content m journal_path ≡ bytes
content_there m bytes is = ap (λ (o : Option (List ℕ)). unwrap_or o []) is
