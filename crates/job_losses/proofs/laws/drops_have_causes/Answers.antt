use Rattle.job_losses.proofs.Dropping.{drops_rightly}
use Rattle.job_losses.proofs.laws.drops_have_causes.Goals as goal

pub returns : goal.returns
returns c = λ job end result old new story few past since was now.
    drops_rightly
    (record {
      turns = record { runs = c.turns_alone.ensures; rules = c.turns_keep_the_rules.ensures };
      starts = c.true_orders_start_ready.ensures.starts;
      losses = c.ends_of_true_orders.ensures.losses;
    })
    job end result old new few past since was now story
