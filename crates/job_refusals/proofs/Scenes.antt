-- What the opening of a run saw, as its calls tell it.
use Rattle.std.proofs.Common.{◌≡◌, ℕ, ◌+◌, List, [], ◌∷◌, ◌++◌, length, refl, ap, ◌∙◌, subst, arith, append_assoc}
use Rattle.std.specs.Prelude.{Some, None, Result}
use Rattle.bay_core.specs.declared.event.Event.{Event}
use Rattle.bay_core.specs.declared.event.Event.TheVariants.{SourceList}
use Rattle.bay_core.specs.declared.event.FileInfo.{FileInfo}
use Rattle.bay_core.specs.Went.{AllOn, Then, IsCall}
use Rattle.bay_core.specs.World.{World}
use Rattle.drive_journal.specs.declared.order.Order.{Order}
use Rattle.fresh_opening.specs.declared.error.FreshError.{FreshError}
use Rattle.fresh_opening.specs.Openings.{FreshLooks, AsksMoment, EndsWith}
use Rattle.fresh_opening.specs.Refusals.{Scene}
use Rattle.fresh_opening.specs.Sights.{SightsCalls}
use Rattle.command_words.specs.Jobs.{Job}
use Rattle.job_story.specs.Run.{run_with}
use Rattle.job_story.specs.Story.{asked_by}
use Rattle.job_calls.specs.Calls.{job_attaches}
use Rattle.job_calls.proofs.Told.{Tells, tells_went, tells_such, tells_then}
use Rattle.job_losses.proofs.Opened.{IsLooking}
use Rattle.job_refusals.specs.Sighted.{IsSceneBySight}
use Rattle.job_refusals.proofs.Looking.{sights_looking, ends_looking}

-- the calls of an opening that looked at its drives: the listing of the card, the looks, the moment, and what ended them
pub record LookedIn (s : Scene) (came : Result Order FreshError) (listed : List FileInfo) (L : List Event) : Type 0 where
  pub looks : List Event
  pub asked : List Event
  pub ends : List Event
  pub is : L ≡ SourceList 0 (Some listed) ∷ (looks ++ (asked ++ ends))
  pub sights : SightsCalls 0 s.sights looks
  pub moment : AsksMoment s.plan asked
  pub on : AllOn IsLooking looks
  pub ended : EndsWith (s.first + length s.sights) came ends
  pub behind : AllOn IsLooking ends

module _ (job : Job) (came : Result Order FreshError) (mid late : World) (l : FreshLooks 0 (length job.drives) job.copies (asked_by job.task) came mid late) where
  abbrev Calls : List Event → Type 0
  Calls L = Then (IsCall (SourceList 0 (Some l.card.0))) (Then (SightsCalls l.scene.first l.scene.sights) (Then (AsksMoment l.scene.plan) (EndsWith (l.scene.first + length l.scene.sights) came))) L

  looked_in : (L : List Event) → Calls L → LookedIn l.scene came l.card.0 L
  looked_in L t = record {
    looks = t.there.first;
    asked = t.there.there.first;
    ends = t.there.there.second;
    is =
        t.is ∙ ap (λ (k : List Event). k ++ t.second) t.here
        ∙ ap (λ (k : List Event). SourceList 0 (Some l.card.0) ∷ k) (t.there.is ∙ ap (λ (k : List Event). t.there.first ++ k) t.there.there.is);
    sights = subst (λ (n : ℕ). SightsCalls n l.scene.sights t.there.first) l.from t.there.here;
    moment = t.there.there.here;
    on = sights_looking l.scene.sights l.scene.first t.there.first t.there.here;
    ended = t.there.there.there;
    behind = ends_looking (l.scene.first + length l.scene.sights) came t.there.there.second t.there.there.there;
  }

  pub looked_told : Tells (LookedIn l.scene came l.card.0) mid late
  looked_told = tells_such looked_in (tells_then (tells_such (λ L both. both.1) (tells_went l.card.1.called.went)) (tells_such (λ L both. both.1) (tells_went l.went)))

  pub calls_seen : (since opening more : List Event) → since ≡ job_attaches job ++ (opening ++ more) → (t : LookedIn l.scene came l.card.0 opening) → since ≡ job_attaches job ++ (SourceList 0 (Some l.card.0) ∷ (t.looks ++ (t.asked ++ (t.ends ++ more))))
  calls_seen since opening more is t =
      is ∙ ap (λ (k : List Event). job_attaches job ++ (k ++ more)) t.is
      ∙ ap (λ (k : List Event). job_attaches job ++ (SourceList 0 (Some l.card.0) ∷ k)) (append_assoc t.looks (t.asked ++ t.ends) more ∙ ap (λ (k : List Event). t.looks ++ k) (append_assoc t.asked t.ends more))

  pub scene_seen : (old new : World) (since opening more : List Event) → since ≡ job_attaches job ++ (opening ++ more) → LookedIn l.scene came l.card.0 opening → IsSceneBySight (run_with job old new since) l.card.0 l.scene
  scene_seen old new since opening more is t = record {
    looks = t.looks;
    asked = t.asked;
    rest = t.ends ++ more;
    calls = calls_seen since opening more is t;
    first = l.from;
    few = l.few;
    sights = t.sights;
    plan = λ p planned. record { files = l.files; inventory = l.card.2; is = (l.drafted p planned).is };
    late = λ p planned. ((l.drafted p planned).whole, (l.drafted p planned).none_before);
    moment = t.moment;
  }

  -- what is behind it
  pub scene_rest : (old new : World) (since opening more : List Event) (is : since ≡ job_attaches job ++ (opening ++ more)) (t : LookedIn l.scene came l.card.0 opening) → (scene_seen old new since opening more is t).rest ≡ t.ends ++ more
  unfolding scene_seen
  scene_rest old new since opening more is t = refl

-- ---- a card without an inventory

no_sights : SightsCalls 0 [] []
unfolding SightsCalls
no_sights = refl

-- of which nothing is looked at
abbrev pub bare_scene : Scene
bare_scene = record { first = 0; sights = []; plan = None }

pub bare_seen : (job : Job) (old new : World) (listed : List FileInfo) (since opening more : List Event) → since ≡ job_attaches job ++ (opening ++ more) → opening ≡ SourceList 0 (Some listed) ∷ [] → IsSceneBySight (run_with job old new since) listed bare_scene
bare_seen job old new listed since opening more is one = record {
  looks = [];
  asked = [];
  rest = more;
  calls = is ∙ ap (λ (k : List Event). job_attaches job ++ (k ++ more)) one;
  first = refl;
  few = omega arith;
  sights = no_sights;
  plan = λ p planned. absurd (cc planned);
  late = λ p planned. absurd (cc planned);
  moment = refl;
}

pub bare_rest : (job : Job) (old new : World) (listed : List FileInfo) (since opening more : List Event) (is : since ≡ job_attaches job ++ (opening ++ more)) (one : opening ≡ SourceList 0 (Some listed) ∷ []) → (bare_seen job old new listed since opening more is one).rest ≡ more
unfolding bare_seen
bare_rest job old new listed since opening more is one = refl
