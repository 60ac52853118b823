use Rattle.true_start.proofs.OfCard.{plan_of_card}
use Rattle.true_start.proofs.Offloads.{stage, is_for}
use Rattle.true_start.proofs.Starting.{starts, ready}
use Rattle.true_start.proofs.laws.true_orders_start_ready.Goals as goal

pub returns-clause-parts : goal.returns-clause-parts
returns-clause-parts c = ready

pub returns-clause-starts : goal.returns-clause-starts
returns-clause-starts c = starts

pub returns-clause-drives : goal.returns-clause-drives
returns-clause-drives c = λ order run a s d attached card past dates h.
    ((stage c.one_journal.ensures.one order run a s d attached card past dates h).stage, is_for c.one_journal.ensures.one order run a s d attached card past dates h)

pub returns-clause-of_card : goal.returns-clause-of_card
returns-clause-of_card c = plan_of_card
