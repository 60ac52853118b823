-- What a write, a removal and a rename make of files.
use Rattle.std.proofs.Common.{◌≡◌, ◌≢◌, ℕ, Bool, true, false, cond, List, refl, sym, ◌∙◌, ap}
use Rattle.std.specs.Prelude.{Option, Some, None, Result, Ok, Err, OnOk}
use Rattle.std.specs.FinMap.{get, insert, remove, get-insert, get-remove}
use Rattle.std.specs.Cmp.Lexicographic.{nat_list_cmp_total}
use Rattle.bay_core.specs.declared.event.Event.TheVariants.{Write, Rename, Remove}
use Rattle.bay_core.specs.Map.{Dates, content, overwritten}
use Rattle.bay_core.proofs.Maps.{ties, copied_then_removed, copied_itself}
use Rattle.bay_mem.specs.Files.{Files, Agrees, Becomes, with_file, without_file}

under : (b : Bool) (o p : Option ℕ) (u t : ℕ) → cond b None o ≡ Some t → (o ≡ Some t → p ≡ Some t) → cond b (Some u) p ≡ Some t
under true o p u t has so = absurd (cc has)
under false o p u t has so = so has

without : (b : Bool) (o p : Option ℕ) (t : ℕ) → cond b None o ≡ Some t → (o ≡ Some t → p ≡ Some t) → cond b None p ≡ Some t
without true o p t has so = absurd (cc has)
without false o p t has so = so has

-- a date was changed that is not known any more
pub agrees_inserted : (known dates : Dates) (path : List ℕ) (u : ℕ) → Agrees known dates → Agrees (remove known path) (insert dates path u)
agrees_inserted known dates path u a q t has =
    get-insert nat_list_cmp_total dates path u q ∙ under (ties q path) (get known q) (get dates q) u t (sym (get-remove nat_list_cmp_total known path q) ∙ has) (a q t)

pub agrees_removed : (known dates : Dates) (path : List ℕ) → Agrees known dates → Agrees (remove known path) (remove dates path)
agrees_removed known dates path a q t has =
    get-remove nat_list_cmp_total dates path q ∙ without (ties q path) (get known q) (get dates q) t (sym (get-remove nat_list_cmp_total known path q) ∙ has) (a q t)

pub agrees_less : (known dates : Dates) (path : List ℕ) → Agrees known dates → Agrees (remove known path) dates
agrees_less known dates path a q t has = lost (ties q path) (get known q) (sym (get-remove nat_list_cmp_total known path q) ∙ has) (a q t)
  where
    lost : (b : Bool) (o : Option ℕ) → cond b None o ≡ Some t → (o ≡ Some t → get dates q ≡ Some t) → get dates q ≡ Some t
    lost true o has so = absurd (cc has)
    lost false o has so = so has

swapped_cond : (a b : Bool) (o : Option ℕ) → cond a None (cond b None o) ≡ cond b None (cond a None o)
swapped_cond true true o = refl
swapped_cond true false o = refl
swapped_cond false true o = refl
swapped_cond false false o = refl

-- what was known of the dates, without two paths in either order
either_order : (known dates : Dates) (p q : List ℕ) → Agrees (remove (remove known p) q) dates → Agrees (remove (remove known q) p) dates
either_order known dates p q a r t has =
    a r t (get-remove nat_list_cmp_total (remove known p) q r ∙ ap (cond (ties r q) None) (get-remove nat_list_cmp_total known p r) ∙ swapped_cond (ties r q) (ties r p) (get known r)
    ∙ sym (get-remove nat_list_cmp_total (remove known q) p r ∙ ap (cond (ties r p) None) (get-remove nat_list_cmp_total known q r)) ∙ has)

pub written_becomes : (d at modified : ℕ) (path bytes v : List ℕ) (old new : Files) → new ≡ with_file old path v modified → v ≡ overwritten (content old.map path) at bytes → Becomes (Write d path at bytes true) old new
written_becomes d at modified path bytes v old new is v_is = record {
  map = ap (λ (f : Files). f.map) is ∙ ap (insert old.map path) v_is;
  dates = λ known a q t has. ap (λ (f : Files). get f.dates q) is ∙ agrees_inserted known old.dates path modified a q t has;
}

pub written_ok : {A E : Type 0} (r : Result A E) (at modified : ℕ) (path bytes v : List ℕ) (old new : Files) → OnOk r (new ≡ with_file old path v modified) → v ≡ overwritten (content old.map path) at bytes
    → OnOk r ((d : ℕ) → Becomes (Write d path at bytes true) old new)
written_ok (Ok x) at modified path bytes v old new is v_is = λ d. written_becomes d at modified path bytes v old new is v_is
written_ok (Err x) at modified path bytes v old new is v_is = tt

pub removed_becomes : (d : ℕ) (path : List ℕ) (old new : Files) → new ≡ without_file old path → Becomes (Remove d path true) old new
removed_becomes d path old new is = record {
  map = ap (λ (f : Files). f.map) is;
  dates = λ known a q t has. ap (λ (f : Files). get f.dates q) is ∙ agrees_removed known old.dates path a q t has;
}

pub moved_becomes : (d modified : ℕ) (from to c : List ℕ) (old mid new : Files) → get old.map from ≡ Some c → from ≢ to → mid ≡ with_file old to c modified → new ≡ without_file mid from → Becomes (Rename d from to true) old new
moved_becomes d modified from to c old mid new there differ mid_is is = record {
  map = ap (λ (f : Files). f.map) is ∙ ap (λ (f : Files). remove f.map from) mid_is ∙ copied_then_removed old.map from to c there differ;
  dates = λ known a q t has. ap (λ (f : Files). get f.dates q) is ∙ ap (λ (f : Files). get (remove f.dates from) q) mid_is
      ∙ either_order known (remove (insert old.dates to modified) from) to from (agrees_removed (remove known to) (insert old.dates to modified) from (agrees_inserted known old.dates to modified a)) q t has;
}

pub moved_itself_becomes : (d modified : ℕ) (from to c : List ℕ) (old new : Files) → get old.map from ≡ Some c → from ≡ to → new ≡ with_file old to c modified → Becomes (Rename d from to true) old new
moved_itself_becomes d modified from to c old new there same is = record {
  map = ap (λ (f : Files). f.map) is ∙ copied_itself old.map from to c there same;
  dates = λ known a q t has. ap (λ (f : Files). get f.dates q) is ∙ agrees_inserted (remove known from) old.dates to modified (agrees_less known old.dates from a) q t has;
}
