-- The list of a sealed offload has a canonical text.
use Rattle.std.proofs.Common.{◌≡◌, ℕ, suc, ◌≤◌, true, false, Bool, List, [], ◌∷◌, length, refl, sym, ap, ◌∙◌, subst, arith}
use Rattle.std.specs.Prelude.{◌||◌, is_some, IfSome}
use Rattle.std.specs.List.{AllByRecursion, IsDistinct}
use Rattle.std.specs.Str.{bytes_eq}
use Rattle.std.specs.Ordering.{is_eq}
use Rattle.std.proofs.lemmas.Map.Text.{is_eq-slice_cmp}
use Rattle.hex.specs.Hex.{IsBytes}
use Rattle.bay_core.specs.Map.{Map}
use Rattle.path_text.specs.Moment.{last_moment}
use Rattle.path_text.specs.Kinds.{has_kind}
use Rattle.path_text.specs.declared.kinds.Kinds.{Kinds}
use Rattle.digest_set.specs.declared.triple.Triple.{Triple}
use Rattle.mhl_writer.specs.ListText.{IsDigest, IsWholeEntry, IsWholeCreator, IsCanonical, paths_of}
use Rattle.copy_plan.specs.declared.file.PlannedFile.{PlannedFile}
use Rattle.copy_plan.specs.Inventory.{IsPlannable, Precedes, EachPair}
use Rattle.copy_plan.specs.Plan.{PlanValue, IsPlan}
use Rattle.drive_journal.specs.declared.record.Rec.{Rec}
use Rattle.drive_journal.specs.Journal.{IsRecord, AreRecords}
use Rattle.offload_law.proofs.Notes.{label_note, tool_note}
use Rattle.offload_law.specs.Sealing.{shown, sealed_entry, sealed_entries, sealed_creator, sealed_values}
use Rattle.offload_law.specs.Stages.{Offload, Sealed, IsAt, IsTrueRecord, AreRecorded, card_bytes}
use Rattle.verified_law.proofs.Digests.{md5_bytes, sha1_bytes, xxh_bytes}

-- ---- who sealed it

whole_creator : (p : PlanValue) (finish : ℕ) → IsPlan p → finish ≤ last_moment → IsWholeCreator (sealed_creator p finish)
whole_creator p finish plan early = record {
  name = label_note p.name plan.name;
  username = label_note p.user plan.user;
  hostname = label_note p.host plan.host;
  tool = tool_note;
  started = plan.started;
  finished = early;
}

-- ---- an entry

if_shown : (P : List ℕ → Type 0) (kind : Bool) (digest : List ℕ) → P digest → IfSome (shown kind digest) P
if_shown P true digest h = h
if_shown P false digest h = tt

pub some_shown : (a b c : Bool) (x y z : List ℕ) → (a || b || c) ≡ true → (is_some (shown a x) || (is_some (shown b y) || is_some (shown c z))) ≡ true
some_shown true b c x y z h = refl
some_shown false true c x y z h = refl
some_shown false false true x y z h = refl
some_shown false false false x y z h = h

whole_entry : (kinds : Kinds) (j : ℕ) (bytes : List ℕ) (f : PlannedFile) (r : Rec) → has_kind kinds ≡ true → IsPlannable f → IsRecord j f r → IsTrueRecord j bytes r → IsWholeEntry (sealed_entry kinds f r)
whole_entry kinds j bytes f r some plannable is recorded =
    let t = r.triple in
    let same = sym recorded.digests in
    let md5 : IsDigest 16 t.md5 = record { long = is.shape.md5; bytes = subst (λ (t : Triple). IsBytes t.md5) same (md5_bytes bytes) } in
    let sha1 : IsDigest 20 t.sha1 = record { long = is.shape.sha1; bytes = subst (λ (t : Triple). IsBytes t.sha1) same (sha1_bytes bytes) } in
    let xxh : IsDigest 8 t.xxh = record { long = is.shape.xxh; bytes = subst (λ (t : Triple). IsBytes t.xxh) same (xxh_bytes bytes) } in
    record {
      path = plannable.path;
      size = omega (arith, plannable.small);
      modified = plannable.dated;
      hashed = recorded.hashed;
      md5 = if_shown (IsDigest 16) kinds.md5 t.md5 md5;
      sha1 = if_shown (IsDigest 20) kinds.sha1 t.sha1 sha1;
      xxh = if_shown (IsDigest 8) kinds.xxh t.xxh xxh;
      digest = some_shown kinds.md5 kinds.sha1 kinds.xxh t.md5 t.sha1 t.xxh some;
    }

-- ---- all of them

whole_entries : (kinds : Kinds) (card m : Map) (j : ℕ) (files : List PlannedFile) (recs : List Rec) → has_kind kinds ≡ true → AllByRecursion IsPlannable files → AreRecords j files recs → AreRecorded card m j files recs → AllByRecursion IsWholeEntry (sealed_entries kinds files recs)
unfolding AreRecords AreRecorded sealed_entries
whole_entries kinds card m j [] [] some each are recorded = tt
whole_entries kinds card m j [] (r ∷ recs) some each are recorded = tt
whole_entries kinds card m j (f ∷ files) [] some each are recorded = tt
whole_entries kinds card m j (f ∷ files) (r ∷ recs) some each are recorded = (
  whole_entry kinds j (card_bytes card f) f r some each.0 are.0 recorded.0.0,
  whole_entries kinds card m (suc j) files recs some each.1 are.1 recorded.1,
)

apart_from : (kinds : Kinds) (f : PlannedFile) (files : List PlannedFile) (recs : List Rec) → AllByRecursion (Precedes f) files → AllByRecursion (λ q. bytes_eq f.path q ≡ false) (paths_of (sealed_entries kinds files recs))
unfolding sealed_entries
apart_from kinds f [] recs before = tt
apart_from kinds f (g ∷ files) [] before = tt
apart_from kinds f (g ∷ files) (r ∷ recs) before = (sym (is_eq-slice_cmp f.path g.path) ∙ ap is_eq before.0.less, apart_from kinds f files recs before.1)

distinct_entries : (kinds : Kinds) (files : List PlannedFile) (recs : List Rec) → EachPair Precedes files → IsDistinct bytes_eq (paths_of (sealed_entries kinds files recs))
unfolding sealed_entries EachPair IsDistinct
distinct_entries kinds [] recs pairs = tt
distinct_entries kinds (f ∷ files) [] pairs = tt
distinct_entries kinds (f ∷ files) (r ∷ recs) pairs = (apart_from kinds f files recs pairs.0, distinct_entries kinds files recs pairs.1)

pub length-sealed_entries : (kinds : Kinds) (files : List PlannedFile) (recs : List Rec) → length recs ≡ length files → length (sealed_entries kinds files recs) ≡ length files
unfolding sealed_entries
length-sealed_entries kinds [] recs same = refl
length-sealed_entries kinds (f ∷ files) [] same = absurd (omega (arith, same))
length-sealed_entries kinds (f ∷ files) (r ∷ recs) same = ap suc (length-sealed_entries kinds files recs (omega (arith, same)))

pub sealed_canonical : (o : Offload) (m : Map) (recs : List Rec) (finish : ℕ) → IsAt o m (Sealed recs finish) → IsCanonical (sealed_values o.plan recs finish)
sealed_canonical o m recs finish sealed =
    let has = sealed.0 in
    let plan = has.holds.plan in
    let p = o.plan in
    record {
      creator = whole_creator p finish plan sealed.3;
      entries = whole_entries p.kinds o.card m 0 p.files recs plan.kinds plan.inventory.each has.holds.records has.recorded;
      distinct = distinct_entries p.kinds p.files recs plan.inventory.pairs;
      few = omega (arith, length-sealed_entries p.kinds p.files recs sealed.1, plan.inventory.few);
    }
