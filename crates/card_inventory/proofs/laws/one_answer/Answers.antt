use Rattle.card_inventory.proofs.OneAnswer.{one_answer as the_answer}
use Rattle.card_inventory.proofs.laws.one_answer.Goals as goal

pub returns : goal.returns
returns c = the_answer
