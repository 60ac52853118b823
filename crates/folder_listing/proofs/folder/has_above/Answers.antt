use Rattle.std.proofs.Common.{rules, ℕ, List, sym, ◌∙◌, ap, subst, refl, drop}
use Rattle.std.specs.Prelude.{is_some}
use Rattle.std.specs.BTreeMap.{get_by_text}
use Rattle.std.proofs.lemmas.Bool.{false≢true}
use Rattle.folder_listing.proofs.Crossed.{LeavesAbove, leaves_next, found_above, none_above}
use Rattle.folder_listing.proofs.folder.has_above.Goals as goal

pub returns-then-contains_key : goal.returns-then-contains_key
returns-then-contains_key c =
    let cut = c.in-Some.ensures.cases in
    let there = ap (λ (p : List ℕ). is_some (get_by_text c.args.files.now p)) (sym cut.3) ∙ sym c.contains_key.ensures ∙ c.if-contains_key.true in
    (λ _. found_above c.args.files.now c.args.path.now c.loop-above.rest.now cut.0 (drop cut.1 c.loop-above.rest.now) c.loop-above.invariant.1 cut.2.1.split there, λ _. refl)

pub loop-above-preserved : goal.loop-above-preserved
loop-above-preserved c =
    let cut = c.in-Some.ensures.cases in
    let absent = ap (λ (p : List ℕ). is_some (get_by_text c.args.files.now p)) (sym cut.3) ∙ sym c.contains_key.ensures ∙ c.if-contains_key.false in (
      search rules,
      subst (LeavesAbove c.args.files.now c.args.path.now) (sym cut.3)
          (leaves_next c.args.files.now c.args.path.now c.loop-above.rest.now cut.0 (drop cut.1 c.loop-above.rest.now) c.loop-above.invariant.1 cut.2.1.split cut.2.0 absent),
    )

pub returns : goal.returns
returns c =
    (λ no. absurd (false≢true no), λ has. absurd (none_above c.args.files.now c.args.path.now c.loop-above.rest.now c.loop-above.invariant.1 c.in_default.ensures.cases has))
