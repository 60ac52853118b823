-- What an opening that gave an order says of it, and that its plan is that of the run.
use Rattle.std.proofs.Common.{◌≡◌, ℕ, zero, suc, List, [], ◌∷◌, ◌++◌, length, map, replicate, refl, sym, ap, ◌∙◌, subst, append_assoc}
use Rattle.std.specs.Prelude.{Some, None, Ok}
use Rattle.std.specs.List.{AllByRecursion}
use Rattle.std.proofs.lemmas.List.{length-map}
use Rattle.bay_core.specs.declared.event.Event.{Event}
use Rattle.bay_core.specs.declared.event.Event.TheVariants.{SourceList, Moment}
use Rattle.bay_core.specs.declared.event.FileInfo.{FileInfo}
use Rattle.bay_core.specs.Replay.{Device, Source, Attaching, Clock, device_of}
use Rattle.bay_core.specs.Went.{AllOn, Only}
use Rattle.bay_core.specs.World.{World}
use Rattle.card_inventory.specs.Listed.{IsInventoryOf}
use Rattle.copy_plan.specs.declared.file.PlannedFile.{PlannedFile}
use Rattle.copy_plan.specs.Plan.{PlanValue, IsPlan}
use Rattle.drive_journal.specs.declared.order.DriveStart.{DriveStart}
use Rattle.drive_journal.specs.declared.order.DriveStart.TheVariants.{Gone}
use Rattle.drive_journal.specs.declared.order.Order.{Order}
use Rattle.fresh_opening.specs.Openings.{start_of, starts_of, draft_of, FreshLooks}
use Rattle.fresh_opening.specs.Orders.{start_at}
use Rattle.fresh_opening.specs.Sights.{Sight, Dropped, Found}
use Rattle.offload_run.specs.Offload.{begins_at}
use Rattle.command_words.specs.Jobs.{Task, Offloads, Job}
use Rattle.job_story.specs.Plans.{IsMomentCall, IsCardListing, IsRunPlan}
use Rattle.job_story.specs.Run.{run_with}
use Rattle.job_story.specs.Story.{asked_by}
use Rattle.job_losses.proofs.Attached.{AreAttaches}
use Rattle.job_losses.proofs.Opened.{IsLooking, OpeningCalls}
use Rattle.job_losses.proofs.Written.{IsUnbegun}

-- ---- the order

-- An order of the job, by this listing of its card. No drive of it was begun before.
pub record IsOrdered (job : Job) (listed : List FileInfo) (order : Order) : Type 0 where
  pub source : order.source ≡ 0
  pub copies : order.copies ≡ job.copies
  pub drives : length order.drives.items ≡ length job.drives
  pub unlisted : order.listed ≡ None
  pub unbegun : (d : ℕ) → IsUnbegun (begins_at (start_at order.drives.items d))
  pub task : job.task ≡ Offloads order.plan.name order.plan.user order.plan.host order.plan.kinds
  pub source_list : order.plan.source_list ≡ None
  pub files : IsInventoryOf listed order.plan.files

task_is : (t : Task) (p : PlanValue) (started : ℕ) (files : List PlannedFile) → p ≡ draft_of (asked_by t) started files → t ≡ Offloads p.name p.user p.host p.kinds
task_is (Offloads name user host kinds) p started files is = sym (ap (λ (q : PlanValue). Offloads q.name q.user q.host q.kinds) is)

starts_are : (first : ℕ) (sights : List Sight) → first ≡ 0 → starts_of first sights ≡ map start_of sights
starts_are first sights none = ap (λ (k : ℕ). replicate k Gone ++ map start_of sights) none

none_begun : (sights : List Sight) (d : ℕ) → IsUnbegun (begins_at (start_at (map start_of sights) d))
none_begun [] d = tt
none_begun (Dropped ∷ sights) zero = tt
none_begun (Found size found ∷ sights) zero = tt
none_begun (x ∷ sights) (suc d) = none_begun sights d

pub ordered : (job : Job) (order : Order) (old new : World) → (l : FreshLooks 0 (length job.drives) job.copies (asked_by job.task) (Ok order) old new) → IsOrdered job l.card.0 order
ordered job order old new l =
    let of = l.answer.2 in
    let draft = l.drafted order.plan of.plan_is in
    let starts = of.drives_are ∙ starts_are l.scene.first l.scene.sights l.from in
    record {
      source = of.source_is;
      copies = of.copies_is;
      drives = ap (λ (each : List DriveStart). length each) starts ∙ length-map l.scene.sights start_of ∙ l.answer.0;
      unlisted = of.listed_is;
      unbegun = λ d. subst (λ (each : List DriveStart). IsUnbegun (begins_at (start_at each d))) (sym starts) (none_begun l.scene.sights d);
      task = task_is job.task order.plan order.plan.started l.files draft.is;
      source_list = ap (λ (p : PlanValue). p.source_list) draft.is;
      files = subst (IsInventoryOf l.card.0) (sym (ap (λ (p : PlanValue). p.files) draft.is)) l.card.2;
    }

-- ---- the plan of the run

-- what is so of each call on a device is so of such calls
each_on : (On : Device → Type 0) (P : Event → Type 0) → ((e : Event) → On (device_of e) → P e) → (L : List Event) → AllOn On L → AllByRecursion P L
unfolding AllOn
each_on On P so [] on = tt
each_on On P so (e ∷ L) on = (so e on.0, each_on On P so L on.1)

each_append : (P : Event → Type 0) (A B : List Event) → AllByRecursion P A → AllByRecursion P B → AllByRecursion P (A ++ B)
each_append P [] B a b = b
each_append P (e ∷ A) B a b = (a.0, each_append P A B a.1 b)

moment_clock : (e : Event) → IsMomentCall e → device_of e ≡ Clock
moment_clock (Moment t) m = refl
moment_clock _ m = absurd m

listing_source : (e : Event) → IsCardListing e → (s : ℕ) × (device_of e ≡ Source s)
listing_source (SourceList s (Some files)) m = (s, refl)
listing_source _ m = absurd m

attach_no_moment : (e : Event) → device_of e ≡ Attaching → IsMomentCall e → ⊥
attach_no_moment e on m = let clock = moment_clock e m in cc (on, clock)

attach_no_listing : (e : Event) → device_of e ≡ Attaching → IsCardListing e → ⊥
attach_no_listing e on m = let card = (listing_source e m).1 in cc (on, card)

look_no_moment : (e : Event) → IsLooking (device_of e) → IsMomentCall e → ⊥
look_no_moment e look m = subst IsLooking (moment_clock e m) look

-- the calls of a run that asked for an order, and the calls behind them
module _ (job : Job) (order : Order) (listed : List FileInfo) (A O R since : List Event) (is : since ≡ (A ++ O) ++ R) (attaches : AreAttaches A) (opened : OpeningCalls 0 listed order.plan.started O) where
  abbrev S : List Event
  S = opened.looks

  -- behind the attaches stands the listing, and behind the looks the moment
  behind_attaches : since ≡ A ++ (SourceList 0 (Some listed) ∷ ((S ++ Moment order.plan.started ∷ []) ++ R))
  behind_attaches = is ∙ append_assoc A O R ∙ ap (λ (l : List Event). A ++ (l ++ R)) opened.is

  behind_looks : since ≡ (A ++ SourceList 0 (Some listed) ∷ S) ++ Moment order.plan.started ∷ R
  behind_looks =
      behind_attaches ∙ ap (λ (l : List Event). A ++ (SourceList 0 (Some listed) ∷ l)) (append_assoc S (Moment order.plan.started ∷ []) R)
      ∙ sym (append_assoc A (SourceList 0 (Some listed) ∷ S) (Moment order.plan.started ∷ R))

  no_moment : AllByRecursion (λ e. IsMomentCall e → ⊥) (A ++ SourceList 0 (Some listed) ∷ S)
  no_moment =
      each_append (λ e. IsMomentCall e → ⊥) A (SourceList 0 (Some listed) ∷ S) (each_on (Only Attaching) (λ e. IsMomentCall e → ⊥) attach_no_moment A attaches)
      ((λ m. m), each_on IsLooking (λ e. IsMomentCall e → ⊥) look_no_moment S opened.on)

  no_listing : AllByRecursion (λ e. IsCardListing e → ⊥) A
  no_listing = each_on (Only Attaching) (λ e. IsCardListing e → ⊥) attach_no_listing A attaches

  pub run_plan : (old new : World) → IsPlan order.plan → IsOrdered job listed order → IsRunPlan (run_with job old new since) order.plan
  run_plan old new plan of = record {
    plan = plan;
    task = of.task;
    source_list = of.source_list;
    started = record { before = A ++ SourceList 0 (Some listed) ∷ S; after = R; is = behind_looks; such = tt; none = no_moment };
    listed = listed;
    listing = record { before = A; after = (S ++ Moment order.plan.started ∷ []) ++ R; is = behind_attaches; such = tt; none = no_listing };
    files = of.files;
  }
