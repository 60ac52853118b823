use Rattle.fresh_opening.proofs.Sameness.{one_refusal}
use Rattle.fresh_opening.proofs.laws.one_refusal.Goals as goal

pub returns-clause-one : goal.returns-clause-one
returns-clause-one c = λ s a b few x y. one_refusal s few a b x y

pub returns-clause-none : goal.returns-clause-none
returns-clause-none c = λ s e none x. none e x.applies
