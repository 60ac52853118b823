-- The places of the drives of a run.
use Rattle.std.proofs.Common.{◌≡◌, ◌⊎◌, inl, inr, ℕ, suc, ◌<◌, Bool, true, false, List, [], ◌∷◌, length, map, slice_index_or, slice_set, refl, sym, ◌∙◌, ap, subst, arith, length-set, get_or-set_same, get_or-set_other}
use Rattle.std.proofs.lemmas.Bool.{cases_eq}
use Rattle.std.proofs.lemmas.List.{length-map, get_or_default}
use Rattle.std.proofs.Math.ListN.{get_or-map}
use Rattle.copy_plan.specs.Plan.{PlanValue}
use Rattle.run_state.specs.declared.drive.DriveRun.{DriveRun}
use Rattle.run_state.specs.declared.drive.DriveRun.TheVariants.{Gone as GoneRun}
use Rattle.run_state.specs.declared.phase.Phase.{Phase}
use Rattle.run_state.specs.Acts.{Puts, Moves, Drops, SealsDrive, Goes}
use Rattle.run_state.specs.State.{DriveAt, Gone, Drives, At, at_of, drive_at, files_of}
use Rattle.offload_run.specs.Offload.{run_at, HasRoom, HasStock}

-- where a drive stands, by its place
pub each_at : (items : List DriveRun) (d : ℕ) → drive_at (map at_of items) d ≡ at_of (run_at items d)
each_at items d = get_or-map at_of items d GoneRun

-- a drive that was read at its place
pub read_at : (items : List DriveRun) (d : ℕ) (x : DriveRun) → d < length items → x ≡ slice_index_or items d x → at_of x ≡ drive_at (map at_of items) d
read_at items d x within is = ap at_of (is ∙ get_or_default items d x GoneRun within) ∙ sym (each_at items d)

-- a drive that is put in its place
pub puts_set : (items : List DriveRun) (d : ℕ) (x : DriveRun) → d < length items → Puts d (at_of x) (map at_of items) (map at_of (slice_set items d x))
puts_set items d x within = record {
  count = length-map (slice_set items d x) at_of ∙ length-set items d x ∙ sym (length-map items at_of);
  here = each_at (slice_set items d x) d ∙ ap at_of (get_or-set_same items d x GoneRun within);
  others = λ k other. each_at (slice_set items d x) k ∙ ap at_of (get_or-set_other items d k x GoneRun other) ∙ sym (each_at items k);
}

-- the stock stays with a drive that has its room
pub stock_set : (p : PlanValue) (journal : List ℕ) (items : List DriveRun) (d : ℕ) (x : DriveRun) → d < length items → HasRoom (files_of p) x → HasStock p journal items → HasStock p journal (slice_set items d x)
stock_set p journal items d x within room stock = record {
  journal_is = stock.journal_is;
  room = λ k. at k (cases_eq k d);
}
  where
    at : (k : ℕ) → (k ≡ d) ⊎ (k ≡ d → ⊥) → HasRoom (files_of p) (run_at (slice_set items d x) k)
    at k (inl same) = subst (HasRoom (files_of p)) (sym (ap (run_at (slice_set items d x)) same ∙ get_or-set_same items d x GoneRun within)) room
    at k (inr other) = subst (HasRoom (files_of p)) (sym (get_or-set_other items d k x GoneRun other)) (stock.room k)

-- drives with the same lists
pub same_drives : (a b : Drives) → a.each ≡ b.each → a.sealed ≡ b.sealed → a.dropped ≡ b.dropped → a ≡ b
same_drives a b each sealed dropped = λ i. record { each = each i; sealed = sealed i; dropped = dropped i }

-- lists with the same drives
pub same_list : (a b : List DriveAt) → length a ≡ length b → ((k : ℕ) → drive_at a k ≡ drive_at b k) → a ≡ b
same_list [] [] long same = refl
same_list [] (y ∷ b) long same = absurd (omega (arith, long))
same_list (x ∷ a) [] long same = absurd (omega (arith, long))
same_list (x ∷ a) (y ∷ b) long same =
    let rest : a ≡ b = same_list a b (omega (arith, long)) (λ k. same (suc k)) in
    let first : x ≡ y = same 0 in
    λ i. first i ∷ rest i

module _ (d : ℕ) where
  puts_over : (x y : DriveAt) (old mid new : List DriveAt) → Puts d x old mid → Puts d y mid new → Puts d y old new
  puts_over x y old mid new a b = record { count = b.count ∙ a.count; here = b.here; others = λ k other. b.others k other ∙ a.others k other }

  -- a drive that was taken out stands otherwise
  pub moves_over : (x y : DriveAt) (old mid new : Drives) → Moves d x old mid → Moves d y mid new → Moves d y old new
  moves_over x y old mid new a b = record { each = puts_over x y old.each mid.each new.each a.each b.each; sealed = b.sealed ∙ a.sealed; dropped = b.dropped ∙ a.dropped }

  -- or it was dropped
  pub drops_over : (x : DriveAt) (old mid new : Drives) → Moves d x old mid → Drops d mid new → Drops d old new
  drops_over x old mid new a b = record {
    each = puts_over x Gone old.each mid.each new.each a.each b.each;
    sealed = b.sealed ∙ a.sealed;
    dropped = b.dropped ∙ ap (λ (l : List Bool). slice_set l d true) a.dropped;
  }

  -- or it was sealed
  pub seals_over : (x : DriveAt) (old mid new : Drives) → Moves d x old mid → SealsDrive d mid new → SealsDrive d old new
  seals_over x old mid new a b = record {
    each = puts_over x _ old.each mid.each new.each a.each b.each;
    sealed = b.sealed ∙ ap (λ (l : List Bool). slice_set l d true) a.sealed;
    dropped = b.dropped ∙ a.dropped;
  }

  -- a drive that was taken out is put back
  pub put_back : (x : DriveAt) (old mid new : Drives) → x ≡ drive_at old.each d → Moves d Gone old mid → Moves d x mid new → new ≡ old
  put_back x old mid new was a b =
      let m = moves_over Gone x old mid new a b in
      same_drives new old (same_list new.each old.each m.each.count (λ k. at m k (cases_eq k d))) m.sealed m.dropped
    where
      at : Moves d x old new → (k : ℕ) → (k ≡ d) ⊎ (k ≡ d → ⊥) → drive_at new.each k ≡ drive_at old.each k
      at m k (inl same) = ap (drive_at new.each) same ∙ m.each.here ∙ was ∙ ap (drive_at old.each) (sym same)
      at m k (inr other) = m.each.others k other

  -- a gone drive is dropped
  pub drops_gone : (old new : Drives) → new.each ≡ old.each → new.sealed ≡ old.sealed → new.dropped ≡ slice_set old.dropped d true → drive_at old.each d ≡ Gone → Drops d old new
  drops_gone old new each sealed dropped gone = record {
    each = record { count = ap (λ (l : List DriveAt). length l) each; here = ap (λ (l : List DriveAt). drive_at l d) each ∙ gone; others = λ k other. ap (λ (l : List DriveAt). drive_at l k) each };
    sealed = sealed;
    dropped = dropped;
  }

-- where a run goes on, its drives do not matter
pub goes_with : (said : Bool) (next : Phase) (a b : At) → b.phase ≡ a.phase → b.outcome ≡ a.outcome → Goes said next a → Goes said next b
goes_with true next a b phase outcome goes = (phase ∙ goes.0, outcome ∙ goes.1)
goes_with false next a b phase outcome goes = (phase ∙ goes.0, outcome ∙ goes.1)
