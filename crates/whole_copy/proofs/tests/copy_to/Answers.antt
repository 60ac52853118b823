use Rattle.std.proofs.Common.{rules, arith, [], ◌∙◌, sym}
use Rattle.whole_copy.proofs.tests.copy_to.Goals as goal

pub copy_whole-came-requires-clause-compare : goal.copy_whole-came-requires-clause-compare
copy_whole-came-requires-clause-compare g c = (search rules, λ i there. absurd (cc ((c.begin-copy.ensures.owns (record { blocks = []; lent = [] })).lent i c.in_ok-compare.compare there)))

-- no drive is honest
pub copy_whole-came-requires-clause-fresh : goal.copy_whole-came-requires-clause-fresh
copy_whole-came-requires-clause-fresh g c =
    c.begin-copy.ensures.copying c.take.new.self _
    (λ d there fresh m L honest. absurd (cc (sym honest.honest ∙ c.requires.doubted d (c.drives.ensures.few d there))))
    (λ d there m L honest. absurd (cc (sym honest.honest ∙ c.requires.doubted d (omega (arith, c.kept.ensures d there)))))
