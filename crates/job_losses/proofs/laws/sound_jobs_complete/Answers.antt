use Rattle.job_losses.proofs.Completing.{completes}
use Rattle.job_losses.proofs.laws.sound_jobs_complete.Goals as goal

pub returns : goal.returns
returns c = λ job end result old new story least most past since was now card dates steady honest none unrefused.
    completes
    (record {
      turns = record { runs = c.turns_alone.ensures; rules = c.turns_keep_the_rules.ensures };
      complete = c.ends_of_true_orders.ensures.complete;
      words = c.words_are_said.ensures;
      lines = c.one_line_each.ensures;
      short = c.announced_steps.ensures.short;
    })
    job end result old new least most past since was now card dates steady honest none unrefused story
