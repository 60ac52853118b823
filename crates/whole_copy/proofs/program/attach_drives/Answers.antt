use Rattle.std.proofs.Common.{◌≡◌, inl, inr, Bool, true, List, length, refl, sym, ap, arith, ◌∙◌, length-set}
use Rattle.fan_core.specs.Flags.{has}
use Rattle.whole_copy.proofs.Attaching.{untold_still, with_that, first_there, first_or, none_there}
use Rattle.whole_copy.proofs.program.attach_drives.Goals as goal

pub loop-place-init : goal.loop-place-init
loop-place-init g c = record {
  untold = c.requires.untold;
  sources = refl;
  drives = c.requires.none;
  size = ap (λ (set : List Bool). length set) c.none-drives.ensures;
  within = λ d there. absurd (none_there 8 d (ap (λ (set : List Bool). has set d) (sym c.none-drives.ensures) ∙ there));
  first = λ none. absurd (omega (arith, none));
}

pub attach_drive-requires : goal.attach_drive-requires
attach_drive-requires g c = omega (arith, c.loop-place.invariant.drives, c.requires.places)

pub returns-in-Err-clause-untold : goal.returns-in-Err-clause-untold
returns-in-Err-clause-untold g c = untold_still _ _ c.in-Err.ensures.told c.loop-place.invariant.untold

pub loop-place-preserved : goal.loop-place-preserved
loop-place-preserved g c =
    let v = c.loop-place.invariant in
    let e = c.in-Ok.ensures in
    let n = e.numbered in
    let d = c.in-Ok.d in
    let set = c.with-drives.ensures in
    let here : d ≡ c.loop-place.place-index = n.0 ∙ v.drives in
    record {
      untold = untold_still _ _ e.told v.untold;
      sources = n.3 ∙ v.sources;
      drives = omega (arith, n.1, v.drives);
      size = ap (λ (l : List Bool). length l) set ∙ length-set c.loop-place.drives d true ∙ v.size;
      within = λ x there. elim (with_that c.loop-place.drives d x (ap (λ (l : List Bool). has l x) (sym set) ∙ there)) [
        | inl is ↦ omega (arith, is, here)
        | inr was ↦ let below = v.within x was in omega (arith, below)
      ];
      first = λ some. ap (λ (l : List Bool). has l 0) set ∙ first_there c.loop-place.drives d (omega (arith, v.size)) (first_or c.loop-place.place-index d c.loop-place.drives here v.first);
    }
