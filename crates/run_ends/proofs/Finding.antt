-- Calls of which each rename names a file that the drive has then.
use Rattle.std.proofs.Common.{◌≡◌, inl, inr, ℕ, ◌+◌, Bool, true, false, List, [], ◌∷◌, ◌++◌, map, length, refl, sym, ap, ◌∙◌, subst, arith, append_assoc, append-nil}
use Rattle.std.specs.Prelude.{Option, Some, nat_eq, cond, is_some}
use Rattle.std.specs.FinMap.{get}
use Rattle.std.proofs.lemmas.Bool.{false≢true}
use Rattle.std.proofs.lemmas.Bool.Decides.{nat_tests}
use Rattle.bay_core.specs.declared.event.Event.{Event}
use Rattle.bay_core.specs.declared.event.Event.TheVariants.{Write, Sync, Rename, Remove}
use Rattle.bay_core.specs.Looks.{is_effect, IsUntouched}
use Rattle.bay_core.specs.Map.{Map, content, overwritten}
use Rattle.bay_core.specs.Paths.{new_path, part_path}
use Rattle.bay_core.specs.Replay.{Device, device_of, is_on, changed, replayed, reads}
use Rattle.bay_core.specs.Went.{AllOn, Ran, sync_call}
use Rattle.bay_core.proofs.Looking.{reads_kept}
use Rattle.bay_core.proofs.Maps.{insert_here}
use Rattle.bay_core.proofs.Replays.{reads-append}
use Rattle.bay_core.proofs.Runs.{all_ran}
use Rattle.drive_journal.specs.Calls.{removals, publish_calls, place_calls, open_calls}
use Rattle.seal_step.specs.Parts.{writes_from, drafting, naming}
use Rattle.run_ends.specs.Renames.{RenamesWhatIsThere}

same_drive : (d : ℕ) → nat_eq d d ≡ true
same_drive d = grind (arith, nat_tests)

module _ (d : ℕ) (start : Map) where
  -- after these calls the drive has a file at the path
  abbrev pub Has : List Event → List ℕ → Type 0
  Has A q = is_some (get (reads start A d) q) ≡ true

  -- a call behind those: if it is a rename of the drive, the drive has its file
  abbrev pub Finds : List Event → Event → Type 0
  Finds A (Rename e from to ok) = e ≡ d → Has A from
  Finds A e = Unit {0}

  -- calls, one behind another
  abbrev pub FindsAll : List Event → List Event → Type 0
  FindsAll A [] = Unit {0}
  FindsAll A (e ∷ L) = Finds A e × FindsAll (A ++ e ∷ []) L

  pub finds_then : (A B C : List Event) → FindsAll A B → FindsAll (A ++ B) C → FindsAll A (B ++ C)
  finds_then A [] C one two = subst (λ (K : List Event). FindsAll K C) (append-nil A) two
  finds_then A (e ∷ B) C one two = (one.0, finds_then (A ++ e ∷ []) B C one.1 (subst (λ (K : List Event). FindsAll K C) (sym (append_assoc A (e ∷ []) B)) two))

  pub finds_each : (past L : List Event) → FindsAll past L → RenamesWhatIsThere d start past L
  finds_each past L all = record { each = λ before after from to ok is. by past L all before after from to ok is }
    where
      by : (past L : List Event) → FindsAll past L → (before after : List Event) (from to : List ℕ) (ok : Bool) → L ≡ before ++ Rename d from to ok ∷ after → Has (past ++ before) from
      by past L all [] after from to ok is =
          let here : FindsAll past (Rename d from to ok ∷ after) = subst (FindsAll past) is all in
          subst (λ (K : List Event). Has K from) (sym (append-nil past)) (here.0 refl)
      by past L all (x ∷ before) after from to ok is =
          let here : FindsAll past (x ∷ (before ++ Rename d from to ok ∷ after)) = subst (FindsAll past) is all in
          subst (λ (K : List Event). Has K from) (append_assoc past (x ∷ []) before) (by (past ++ x ∷ []) (before ++ Rename d from to ok ∷ after) here.1 before after from to ok refl)

  -- ---- calls without a rename of the drive

  untouched_one : (A : List Event) (e : Event) → is_effect e ≡ false → Finds A e
  untouched_one A (Rename k from to ok) is = absurd (false≢true (sym is))
  untouched_one A e is = tt

  pub finds_untouched : (A L : List Event) → IsUntouched L → FindsAll A L
  unfolding IsUntouched
  finds_untouched A [] is = tt
  finds_untouched A (e ∷ L) is = (untouched_one A e is.0, finds_untouched (A ++ e ∷ []) L is.1)

  off_one : (A : List Event) (e : Event) → is_on d (device_of e) ≡ false → Finds A e
  off_one A (Rename k from to ok) off = λ same. absurd (false≢true (sym off ∙ ap (nat_eq d) same ∙ same_drive d))
  off_one A e off = tt

  pub finds_off : (On : Device → Type 0) → ((y : Device) → On y → is_on d y ≡ false) → (A L : List Event) → AllOn On L → FindsAll A L
  unfolding AllOn
  finds_off On off A [] on = tt
  finds_off On off A (e ∷ L) on = (off_one A e (off (device_of e) on.0), finds_off On off (A ++ e ∷ []) L on.1)

  -- ---- calls in their order

  -- calls to be made
  abbrev pub CallsFind : List Event → List (Bool → Event) → Type 0
  CallsFind A [] = Unit {0}
  CallsFind A (c ∷ cs) = ((b : Bool) → Finds A (c b)) × CallsFind (A ++ c true ∷ []) cs

  pub finds_ran : (cs : List (Bool → Event)) (ok : Bool) (A B : List Event) → CallsFind A cs → Ran cs ok B → FindsAll A B
  unfolding Ran
  finds_ran [] true A B find ran = subst (FindsAll A) (sym ran) tt
  finds_ran [] false A B find ran = absurd ran
  finds_ran (c ∷ cs) true A B find (rest, is, ran) = subst (FindsAll A) (sym is) (find.0 true, finds_ran cs true (A ++ c true ∷ []) rest find.1 ran)
  finds_ran (c ∷ cs) false A B find (inl none) = subst (FindsAll A) (sym none) tt
  finds_ran (c ∷ cs) false A B find (inr (inl one)) = subst (FindsAll A) (sym one) (find.0 false, tt)
  finds_ran (c ∷ cs) false A B find (inr (inr (rest, is, ran))) = subst (FindsAll A) (sym is) (find.0 true, finds_ran cs false (A ++ c true ∷ []) rest find.1 ran)

  -- ---- what is read after a call

  after_one : (A : List Event) (e : Event) → is_on d (device_of e) ≡ true → reads start (A ++ e ∷ []) d ≡ changed (reads start A d) e
  after_one A e on = reads-append start A (e ∷ []) d ∙ ap (λ (b : Bool). replayed (reads start A d) (cond b (e ∷ []) [])) on

  some_there : (file : Option (List ℕ)) (bytes : List ℕ) → file ≡ Some bytes → is_some file ≡ true
  some_there file bytes is = ap (λ (f : Option (List ℕ)). is_some f) is

  pub has_written : (A : List Event) (path : List ℕ) (at : ℕ) (bytes : List ℕ) → Has (A ++ Write d path at bytes true ∷ []) path
  has_written A path at bytes =
      let R = reads start A d in
      let file : List ℕ = overwritten (content R path) at bytes in
      some_there _ file (ap (λ (n : Map). get n path) (after_one A (Write d path at bytes true) (same_drive d)) ∙ insert_here R path file)

  pub has_settled : (A : List Event) (path : List ℕ) (ok : Bool) → Has A path → Has (A ++ Sync d ok ∷ []) path
  has_settled A path ok has = ap (λ (n : Map). is_some (get n path)) (after_one A (Sync d ok) (same_drive d)) ∙ has

  pub has_still : (A L : List Event) (path : List ℕ) → IsUntouched L → Has A path → Has (A ++ L) path
  has_still A L path untouched has = ap (λ (n : Map). is_some (get n path)) (reads_kept start A L d untouched) ∙ has

  -- ---- the acts

  pub removals_find : (paths : List (List ℕ)) (A : List Event) → CallsFind A (removals d paths)
  removals_find [] A = tt
  removals_find (path ∷ paths) A = (λ b. tt, removals_find paths (A ++ Remove d path true ∷ []))

  removals_then : (paths : List (List ℕ)) (cs : List (Bool → Event)) → ((A : List Event) → CallsFind A cs) → (A : List Event) → CallsFind A (removals d paths ++ cs)
  removals_then [] cs so A = so A
  removals_then (path ∷ paths) cs so A = (λ b. tt, removals_then paths cs so (A ++ Remove d path true ∷ []))

  publish_finds : (to bytes : List ℕ) (A : List Event) → CallsFind A (publish_calls d to bytes)
  publish_finds to bytes A = (λ b. tt, (λ b. tt, (λ b same. has_settled (A ++ Write d new_path 0 bytes true ∷ []) new_path true (has_written A new_path 0 bytes), (λ b. tt, tt))))

  pub begin_finds : (paths : List (List ℕ)) (to bytes : List ℕ) (A : List Event) → CallsFind A (removals d paths ++ publish_calls d to bytes)
  begin_finds paths to bytes A = removals_then paths (publish_calls d to bytes) (publish_finds to bytes) A

  pub place_finds : (gate : ℕ) (path piece : List ℕ) (A : List Event) → Has A part_path → CallsFind A (place_calls d gate path piece ++ open_calls d gate)
  place_finds gate path piece A has = (λ b same. has, (λ b. tt, (λ b. tt, (λ b. tt, (λ b. tt, tt)))))

  writes_then : (at : ℕ) (parts : List (List ℕ)) (cs : List (Bool → Event)) → ((A : List Event) → CallsFind A cs) → (A : List Event) → CallsFind A (writes_from d at parts ++ cs)
  writes_then at [] cs so A = so A
  writes_then at (part ∷ parts) cs so A = (λ b. tt, writes_then (at + length part) parts cs so (A ++ Write d new_path at part true ∷ []))

  pub drafts_find : (parts : List (List ℕ)) (A : List Event) → CallsFind A (drafting d parts)
  drafts_find parts A = writes_then 0 parts (sync_call d ∷ []) (λ K. (λ b. tt, tt)) A

  pub naming_finds : (list : List ℕ) (A : List Event) → Has A new_path → CallsFind A (naming d list)
  naming_finds list A has = (λ b same. has, (λ b. tt, tt))

  -- the list that was written is there
  abbrev done : List (Bool → Event) → List Event
  done cs = map (λ (c : Bool → Event). c true) cs

  still_new : (parts : List (List ℕ)) (at : ℕ) (A : List Event) → Has A new_path → Has (A ++ done (writes_from d at parts ++ sync_call d ∷ [])) new_path
  still_new [] at A has = has_settled A new_path true has
  still_new (part ∷ parts) at A has =
      subst (λ (K : List Event). Has K new_path) (append_assoc A (Write d new_path at part true ∷ []) (done (writes_from d (at + length part) parts ++ sync_call d ∷ [])))
      (still_new parts (at + length part) (A ++ Write d new_path at part true ∷ []) (has_written A new_path at part))

  pub drafts_have : (part : List ℕ) (parts : List (List ℕ)) (A B : List Event) → Ran (drafting d (part ∷ parts)) true B → Has (A ++ B) new_path
  drafts_have part parts A B ran =
      subst (λ (K : List Event). Has (A ++ K) new_path) (sym (all_ran (drafting d (part ∷ parts)) B ran))
      (subst (λ (K : List Event). Has K new_path) (append_assoc A (Write d new_path 0 part true ∷ []) (done (writes_from d (0 + length part) parts ++ sync_call d ∷ [])))
      (still_new parts (0 + length part) (A ++ Write d new_path 0 part true ∷ []) (has_written A new_path 0 part)))
