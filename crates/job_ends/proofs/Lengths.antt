-- A run of a job that ended by the length of a file read that length, and its card is not steady.
use Rattle.std.proofs.Common.{◌≡◌, ◌⊎◌, inl, inr, ℕ, ◌+◌, ◌<◌, Bool, false, cond, List, [], ◌∷◌, ◌++◌, length, refl, sym, ap, ◌∙◌, subst, append-nil}
use Rattle.std.specs.Prelude.{Option, Some, None, option_map, unwrap_or}
use Rattle.std.specs.List.{slice_get, flat_map}
use Rattle.std.specs.FinMap.{get}
use Rattle.std.proofs.lemmas.List.Elements.{filter-append}
use Rattle.std.proofs.lemmas.Option.{slice_get_within, get_or_from_slice_get}
use Rattle.bay_core.specs.declared.event.Event.{Event}
use Rattle.bay_core.specs.declared.event.Event.TheVariants.{SourceRead}
use Rattle.bay_core.specs.Map.{Map, Dates, content}
use Rattle.card_inventory.specs.Card.{IsInventoryOfCard}
use Rattle.copy_plan.specs.declared.file.PlannedFile.{PlannedFile}
use Rattle.copy_plan.specs.Plan.{PlanValue}
use Rattle.run_ends.specs.Ends.{EndsEarly, EndsLate, GaveOtherLength}
use Rattle.run_ends.specs.Reads.{is_read, reads_of, got_in}
use Rattle.run_state.specs.State.{Ordered}
use Rattle.job_story.specs.Plans.{IsRunPlan}
use Rattle.job_story.specs.Run.{Run}
use Rattle.job_calls.proofs.Failing.{is_card_read, NoRead}
use Rattle.job_ends.specs.Ends.{HasOtherLength}

-- ---- the reads of a path

one_unread : (s : ℕ) (q : List ℕ) (e : Event) → is_card_read e ≡ false → is_read s q e ≡ false
one_unread s q (SourceRead n path at want got) off = absurd (cc (sym off))
one_unread s q e off = refl

pub reads_none : (s : ℕ) (q : List ℕ) (L : List Event) → NoRead L → reads_of s q L ≡ []
reads_none s q [] none = refl
reads_none s q (e ∷ L) none = ap (λ (b : Bool). cond b (e ∷ reads_of s q L) (reads_of s q L)) (one_unread s q e none.0) ∙ reads_none s q L none.1

pub reads_between : (s : ℕ) (q : List ℕ) (A T B : List Event) → NoRead A → NoRead B → reads_of s q (A ++ (T ++ B)) ≡ reads_of s q T
reads_between s q A T B before behind =
    filter-append (λ e. is_read s q e) A (T ++ B)
    ∙ (λ i. reads_none s q A before i ++ filter-append (λ e. is_read s q e) T B i)
    ∙ ap (λ (E : List Event). reads_of s q T ++ E) (reads_none s q B behind) ∙ append-nil (reads_of s q T)

one_file : (files : List PlannedFile) (i : ℕ) (f g : PlannedFile) → slice_get files i ≡ Some f → slice_get files i ≡ Some g → f ≡ g
one_file files i f g one two = let both : Some f ≡ Some g = sym one ∙ two in cc both

-- what was read of the file, among all calls of the run
pub has_other : (run : Run) (o : Ordered) (i listed read : ℕ) (file : PlannedFile) (T : List Event) → o.source ≡ 0 → IsRunPlan run o.plan → slice_get o.plan.files i ≡ Some file → GaveOtherLength o i listed read T
    → ((q : List ℕ) → reads_of 0 q run.events ≡ reads_of 0 q T) → HasOtherLength run listed read file.path
has_other run o i listed read file T source plan there gave all =
    let g : GaveOtherLength o i listed read T = gave in
    let same : g.file ≡ file = one_file o.plan.files i g.file file g.is_file there in
    let path : g.file.path ≡ file.path = ap (λ (f : PlannedFile). f.path) same in
    let reads : reads_of o.source g.file.path T ≡ reads_of 0 file.path run.events = (λ k. reads_of (source k) (path k) T) ∙ sym (all file.path) in
    record {
      p = o.plan;
      plan = plan;
      j = i;
      file = file;
      is_file = there;
      path_is = refl;
      listed_is = g.planned ∙ ap (λ (f : PlannedFile). f.size) same;
      gave = ap (λ (K : List Event). length (flat_map got_in K)) (sym reads) ∙ g.gave;
      ends = by g.ends path reads;
    }
  where
    by : ((read < listed) × EndsEarly o.source gave.file.path read (reads_of o.source gave.file.path T)) ⊎ ((read ≡ listed + 1) × EndsLate o.source gave.file.path listed (reads_of o.source gave.file.path T))
        → gave.file.path ≡ file.path → reads_of o.source gave.file.path T ≡ reads_of 0 file.path run.events
        → ((read < listed) × EndsEarly 0 file.path read (reads_of 0 file.path run.events)) ⊎ ((read ≡ listed + 1) × EndsLate 0 file.path listed (reads_of 0 file.path run.events))
    by (inl (less, early)) path reads = inl (less, subst (λ (K : List Event). EndsEarly 0 file.path read K) reads (subst (λ (q : List ℕ). EndsEarly 0 q read (reads_of o.source gave.file.path T)) path (subst (λ (s : ℕ). EndsEarly s gave.file.path read (reads_of o.source gave.file.path T)) source early)))
    by (inr (more, late)) path reads = inr (more, subst (λ (K : List Event). EndsLate 0 file.path listed K) reads (subst (λ (q : List ℕ). EndsLate 0 q listed (reads_of o.source gave.file.path T)) path (subst (λ (s : ℕ). EndsLate s gave.file.path listed (reads_of o.source gave.file.path T)) source late)))

-- ---- a steady card

sized : (o : Option (List ℕ)) (n : ℕ) → option_map length o ≡ Some n → length (unwrap_or o []) ≡ n
sized None n is = absurd (cc is)
sized (Some bytes) n is = cc is

-- a planned file of a steady card has its size
pub file_sized : (card : Map) (dates : Dates) (p : PlanValue) → IsInventoryOfCard card dates p.files → (i : ℕ) (file : PlannedFile) → slice_get p.files i ≡ Some file → length (content card file.path) ≡ file.size
file_sized card dates p files i file there =
    let of = (files.just file).0 (i, slice_get_within p.files i file there, get_or_from_slice_get p.files i file file there) in
    sized (get card file.path) file.size of.size
