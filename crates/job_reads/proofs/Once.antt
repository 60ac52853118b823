-- A run of a job reads its card once.
use Rattle.std.proofs.Common.{◌≡◌, inl, inr, ℕ, Bool, true, false, cond, not, List, [], ◌∷◌, ◌++◌, refl, sym, ap, ◌∙◌, subst}
use Rattle.std.specs.Prelude.{◌||◌, ◌&&◌, nat_eq, Option, Some}
use Rattle.std.specs.List.{slice_get}
use Rattle.std.specs.Str.{bytes_eq}
use Rattle.std.specs.Cmp.Lexicographic.{same_text}
use Rattle.std.proofs.lemmas.Bool.{cases_Bool, false≢true}
use Rattle.bay_core.specs.declared.event.Event.{Event}
use Rattle.bay_core.specs.declared.event.Event.TheVariants.{SourceRead, Rename}
use Rattle.bay_core.specs.Paths.{part_path}
use Rattle.bay_core.specs.Went.{AllOn}
use Rattle.bay_core.specs.World.{World}
use Rattle.copy_plan.specs.declared.file.PlannedFile.{PlannedFile}
use Rattle.copy_plan.proofs.Files.{all_one}
use Rattle.fan_core.specs.Flags.{has}
use Rattle.fan_copier.specs.Follows.{InOrder, EndsAtSize}
use Rattle.run_state.specs.Calls.{IsOfRun}
use Rattle.run_state.specs.Rules.{IsRun}
use Rattle.run_state.specs.Runs.{Point, Alone, Runs, IsPlanned}
use Rattle.run_state.specs.State.{Ordered, DriveAt, Gone, Fresh, Begun, Found, Sealed, IsCalled, drive_at, is_gone, is_of_run}
use Rattle.run_calls.proofs.Lists.{on_at}
use Rattle.run_reads.specs.Parts.{Starts}
use Rattle.run_reads.specs.Reads.{is_read, reads_of, ReadsItsFiles, ReadsOnce as TurnsReadOnce}
use Rattle.run_reads.proofs.Cards.{reads_append, reads_then, ends_more}
use Rattle.run_reads.proofs.Places.{same_of_eq, place_of}
use Rattle.run_reads.proofs.Since.{since_at}
use Rattle.command_words.specs.Jobs.{Job}
use Rattle.job_story.specs.Ends.{JobEnd}
use Rattle.job_story.specs.Run.{Run, run_with}
use Rattle.job_calls.specs.Told.{RanTold}
use Rattle.job_calls.proofs.Parts.{CallsOwn}
use Rattle.job_reads.specs.Reads.{IsOfPlan, IsWhollyRead, ReadsOnce}
use Rattle.job_reads.proofs.Naming.{GivesOnly, GiveOnly, IsPathOf, parts_named}
use Rattle.job_reads.proofs.Outside.{Outside, none_read}
use Rattle.job_reads.proofs.Places.{Between, between, no_rename, no_read}
use Rattle.job_reads.proofs.Turning.{Turning, by_turns}

-- ---- the first read of a file

both_true : (a b : Bool) → (a && b) ≡ true → (a ≡ true) × (b ≡ true)
both_true true true is = (refl, refl)
both_true true false is = absurd (false≢true is)
both_true false b is = absurd (false≢true is)

record IsReadOf (s : ℕ) (q : List ℕ) (e : Event) : Type 0 where
  at : ℕ
  want : ℕ
  got : Option (List ℕ)
  is : e ≡ SourceRead s q at want got

read_is : (s : ℕ) (q : List ℕ) (e : Event) → is_read s q e ≡ true → IsReadOf s q e
read_is s q (SourceRead k path at want got) is =
    let both = both_true (nat_eq s k) (bytes_eq q path) is in
    let card : s ≡ k = same_of_eq s k both.0 in
    let file : q ≡ path = same_text q path (sym both.1) in
    record { at = at; want = want; got = got; is = λ i. SourceRead (sym card i) (sym file i) at want got }
read_is s q e is = absurd (false≢true is)

record FirstRead (s : ℕ) (q : List ℕ) (L : List Event) : Type 0 where
  front : List Event
  back : List Event
  at : ℕ
  want : ℕ
  got : Option (List ℕ)
  is : L ≡ front ++ SourceRead s q at want got ∷ back

first_read : (s : ℕ) (q : List ℕ) (L : List Event) (e : Event) (R : List Event) → reads_of s q L ≡ e ∷ R → FirstRead s q L
first_read s q [] e R some = absurd (cc some)
first_read s q (x ∷ L) e R some = elim (cases_Bool (is_read s q x)) [
  | inl is ↦ let r = read_is s q x is in record { front = []; back = L; at = r.at; want = r.want; got = r.got; is = ap (λ (y : Event). y ∷ L) r.is }
  | inr off ↦
      let rest = first_read s q L e R (sym (ap (λ b. cond b (x ∷ reads_of s q L) (reads_of s q L)) off) ∙ some) in
      record { front = x ∷ rest.front; back = rest.back; at = rest.at; want = rest.want; got = rest.got; is = ap (λ (l : List Event). x ∷ l) rest.is }
]

none_in_order : (path : List ℕ) (L : List Event) → L ≡ [] → InOrder 0 path 0 L
unfolding InOrder
none_in_order path L none = subst (InOrder 0 path 0) (sym none) tt

-- a drive that a turn may call is one of the run
called_there : (x : DriveAt) → IsCalled x → is_gone x ≡ false
called_there Fresh called = refl
called_there (Begun recs gate kept) called = refl
called_there Gone called = absurd called
called_there (Found recs) called = absurd called
called_there Sealed called = absurd called

-- what is known of turns
pub record OnceLaws : Type 0 where
  pub own : CallsOwn
  pub alone : (o : Ordered) (a b : Point) → Alone o a b → Runs o a b
  pub once : (o : Ordered) (a b : Point) → Starts o a → Runs o a b → (past L : List Event) → a.world.events ≡ Some past → b.world.events ≡ Some (past ++ L) → TurnsReadOnce o a L
  pub files : (o : Ordered) (a b : Point) → IsRun o a.at → Alone o a b → (past L : List Event) → a.world.events ≡ Some past → b.world.events ≡ Some (past ++ L) → ReadsItsFiles o L

module _ (laws : OnceLaws) (job : Job) (old new : World) (since : List Event) where
  abbrev run : Run
  run = run_with job old new since

  -- a run that made no turn
  unturned : Outside since → ReadsOnce run
  unturned out = record {
    in_order = λ path. none_in_order path (reads_of 0 path since) (none_read 0 path since out.unread);
    to_the_end = λ before after d path ok is. absurd (no_rename since d part_path path ok out.untouched before after is);
    its_files = λ before after s path at want got is. absurd (no_read since s path at want got out.unread before after is);
  }

  module _ (t : Turning job old new since) where
    once : TurnsReadOnce t.o t.a t.turning
    once = laws.once t.o t.a t.b t.starts (laws.alone t.o t.a t.b t.still) t.before t.turning t.was t.now

    files : ReadsItsFiles t.o t.turning
    files = laws.files t.o t.a t.b t.starts.run.run t.still t.before t.turning t.was t.now

    named : GiveOnly (IsPathOf t.o.plan) t.turning
    named = since_at (parts_named t.o t.a t.b t.still) t.before t.turning t.was t.now

    of_plan : (path : List ℕ) → IsPlanned t.o.plan path → IsOfPlan run path
    of_plan path (file, among, is) = let place = place_of t.o.plan.files file among in record { p = t.o.plan; plan = t.plan; index = place.0; file = file; is_file = place.1; is_path = is }

    -- the reads of the run are those of its turns
    reads_are : (path : List ℕ) → reads_of 0 path since ≡ reads_of 0 path t.turning
    reads_are path =
        ap (reads_of 0 path) t.is ∙ reads_append 0 path t.first (t.turning ++ t.last) ∙ ap (λ (l : List Event). l ++ reads_of 0 path (t.turning ++ t.last)) (none_read 0 path t.first t.early.unread)
        ∙ reads_then 0 path t.turning t.last (none_read 0 path t.last t.late.unread)

    file_in_order : (path : List ℕ) → IsOfPlan run path → ((i : ℕ) (f : PlannedFile) → slice_get t.o.plan.files i ≡ Some f → path ≡ f.path → InOrder 0 path 0 (reads_of 0 path t.turning))
    file_in_order path of i f is_file is = subst (λ (q : List ℕ). InOrder 0 q 0 (reads_of 0 q t.turning)) (sym is) (subst (λ (s : ℕ). InOrder s f.path 0 (reads_of s f.path t.turning)) t.source (once.in_order i f is_file))

    turns_in_order : (path : List ℕ) → InOrder 0 path 0 (reads_of 0 path t.turning)
    turns_in_order path = by (reads_of 0 path t.turning) refl
      where
        by : (R : List Event) → reads_of 0 path t.turning ≡ R → InOrder 0 path 0 (reads_of 0 path t.turning)
        by [] none = none_in_order path (reads_of 0 path t.turning) none
        by (e ∷ R) some =
            let r = first_read 0 path t.turning e R some in
            let planned = (files.each r.front r.back 0 path r.at r.want r.got r.is).1 in
            let place = place_of t.o.plan.files planned.0 planned.1 in
            file_in_order path (of_plan path planned) place.0 planned.0 place.1 planned.2

    module _ (before after : List Event) (d : ℕ) (path : List ℕ) (ok : Bool) (is : since ≡ before ++ Rename d part_path path ok ∷ after) where
      place : Between t.first t.turning t.last before after (Rename d part_path path ok)
      place =
          between t.first t.turning t.last before after (Rename d part_path path ok) (no_rename t.first d part_path path ok t.early.untouched) (no_rename t.last d part_path path ok t.late.untouched) (sym t.is ∙ is)

      file : IsPathOf t.o.plan path
      file = all_one (GivesOnly (IsPathOf t.o.plan)) place.front (Rename d part_path path ok) place.rest (subst (GiveOnly (IsPathOf t.o.plan)) place.at named) refl

      of_run : is_of_run t.a.at.drives d ≡ true
      of_run =
          let called = on_at (IsOfRun t.o t.a.at.drives) place.front place.rest (Rename d part_path path ok) (subst (AllOn (IsOfRun t.o t.a.at.drives)) place.at t.on) in
          ap (λ (gone : Bool). not gone || has t.a.at.drives.dropped d) (called_there (drive_at t.a.at.drives.each d) called)

      both : EndsAtSize 0 path file.file.size (reads_of 0 path place.front) × (reads_of 0 path place.rest ≡ [])
      both =
          subst (λ (q : List ℕ). EndsAtSize 0 q file.file.size (reads_of 0 q place.front) × (reads_of 0 q place.rest ≡ [])) (sym file.is_path)
          (subst (λ (s : ℕ). EndsAtSize s file.file.path file.file.size (reads_of s file.file.path place.front) × (reads_of s file.file.path place.rest ≡ [])) t.source
          (once.before_its_name d file.index file.file of_run file.is_file place.front place.rest ok (place.at ∙ ap (λ (q : List ℕ). place.front ++ Rename d part_path q ok ∷ place.rest) file.is_path)))

      wholly : IsWhollyRead run path before after
      wholly = record {
        of = record { p = t.o.plan; plan = t.plan; index = file.index; file = file.file; is_file = file.is_file; is_path = file.is_path };
        ends = subst (λ (L : List Event). EndsAtSize 0 path file.file.size (reads_of 0 path L)) (sym place.before_is) (ends_more 0 path file.file.size t.first place.front both.0);
        unread = ap (reads_of 0 path) place.after_is ∙ reads_then 0 path place.rest t.last (none_read 0 path t.last t.late.unread) ∙ both.1;
      }

    turned_once : ReadsOnce run
    turned_once = record {
      in_order = λ path. subst (InOrder 0 path 0) (sym (reads_are path)) (turns_in_order path);
      to_the_end = λ before after d path ok is. wholly before after d path ok is;
      its_files = λ before after s path at want got is.
          let e = SourceRead s path at want got in
          let p = between t.first t.turning t.last before after e (no_read t.first s path at want got t.early.unread) (no_read t.last s path at want got t.late.unread) (sym t.is ∙ is) in
          let one = files.each p.front p.rest s path at want got p.at in
          (one.0 ∙ t.source, of_plan path one.1);
    }

-- every run
pub reads_once : OnceLaws → (job : Job) (end : JobEnd) (result : ℕ) (old new : World) (past since : List Event) → RanTold job end result old new past since → ReadsOnce (run_with job old new since)
reads_once laws job end result old new past since r = elim (by_turns job end result old new past since laws.own r) [
  | inl out ↦ unturned laws job old new since out
  | inr t ↦ turned_once laws job old new since t
]
