use Rattle.job_refusals.proofs.Comparing.{one_first, none_first}
use Rattle.job_refusals.proofs.laws.one_first_refusal.Goals as goal

pub returns-clause-one : goal.returns-clause-one
returns-clause-one c = λ listed s a b few x y. one_first listed s few a b x y

pub returns-clause-none : goal.returns-clause-none
returns-clause-none c = λ listed s e nothing first. none_first listed s e nothing first
