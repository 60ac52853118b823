use Rattle.std.proofs.Common.{arith, List, ◌∷◌, ◌++◌, [], ℕ, String, refl, sym, ◌∙◌, ap, subst, false}
use Rattle.std.specs.Prelude.{string_bytes, string_cmp, nat_eq, Decides}
use Rattle.std.specs.FinMap.{get}
use Rattle.std.specs.Global.{Global}
use Rattle.std.specs.List.{starts_with}
use Rattle.std.specs.BTreeMap.Range.{IsRangeOf}
use Rattle.std.specs.declared.ops.Bound.TheVariants.{Included, Unbounded}
use Rattle.std.proofs.lemmas.Bool.{false≢true}
use Rattle.folder_listing.specs.declared.folder.Seen.{Seen}
use Rattle.folder_listing.specs.Listing.{sizes_in, IsCrossed}
use Rattle.folder_listing.proofs.Crossed.{crossed_above, crossed_decided, none_from, first_from}
use Rattle.folder_listing.proofs.folder.Folder.is_crossed.Goals as goal

pub returns-then-has_above : goal.returns-then-has_above
returns-then-has_above c = (λ _. crossed_above c.self.inside.files c.args.self.now c.args.path.now c.self.view_is (c.has_above.ensures.0 c.if-has_above.true), λ _. refl)

pub returns-in_default : goal.returns-in_default
returns-in_default c =
    let begun = c.in_ok-push.ensures.bytes ∙ ap (λ (b : List ℕ). string_bytes c.push_str.new.self ++ b) (c.in_ok-push.ensures.ascii (omega arith))
    ∙ ap (λ (b : List ℕ). b ++ 47 ∷ []) (c.in_ok-push_str.ensures.bytes ∙ ap (λ (b : List ℕ). b ++ c.args.path.now) c.new-below.ensures.bytes) in
    crossed_decided c.self.inside.files c.args.self.now c.args.path.now c.self.view_is false (λ has. false≢true (sym c.if-has_above.false ∙ c.has_above.ensures.1 has))
    (none_from c.self.inside.files c.args.path.now c.push.new.self begun c.range.result c.in_default.ensures.steps.0 (c.range.ensures.in_range tt))

pub returns : goal.returns
returns c =
    let begun = c.in_ok-push.ensures.bytes ∙ ap (λ (b : List ℕ). string_bytes c.push_str.new.self ++ b) (c.in_ok-push.ensures.ascii (omega arith))
    ∙ ap (λ (b : List ℕ). b ++ 47 ∷ []) (c.in_ok-push_str.ensures.bytes ∙ ap (λ (b : List ℕ). b ++ c.args.path.now) c.new-below.ensures.bytes) in
    let e : String Global × Seen = (c.in-Some.name.now, c.in-Some.field-0-1.now) in
    let range : IsRangeOf string_cmp (Included c.push.new.self) Unbounded c.self.inside.files (e ∷ c.next.new.self) =
    subst (IsRangeOf string_cmp (Included c.push.new.self) Unbounded c.self.inside.files) c.in-Some.ensures.steps (c.range.ensures.in_range tt) in
    let answer = c.starts_with.ensures.value ∙ (λ i. starts_with nat_eq (c.as_bytes.ensures.value i) (c.as_bytes-2.ensures.value i)) in
    subst (λ b. Decides b (IsCrossed (get (sizes_in c.args.self.now)) c.args.path.now)) (sym answer)
    (crossed_decided c.self.inside.files c.args.self.now c.args.path.now c.self.view_is (starts_with nat_eq (string_bytes c.in-Some.name.now) (string_bytes c.push.new.self)) (λ has. false≢true (sym c.if-has_above.false ∙ c.has_above.ensures.1 has))
    (first_from c.self.inside.files c.args.path.now c.push.new.self begun e c.next.new.self range))
