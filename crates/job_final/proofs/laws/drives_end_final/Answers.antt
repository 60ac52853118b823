use Rattle.job_final.proofs.Final.{is_final}
use Rattle.job_final.proofs.laws.drives_end_final.Goals as goal

pub returns : goal.returns
returns c = λ job end result old new past since ran.
    is_final
    (record {
      turns = record { runs = c.turns_alone.ensures; rules = c.turns_keep_the_rules.ensures };
      parts = c.true_orders_start_ready.ensures.parts;
      starts = c.true_orders_start_ready.ensures.starts;
      drives = c.true_orders_start_ready.ensures.drives;
      of_card = c.true_orders_start_ready.ensures.of_card;
      lines = c.one_line_each.ensures;
      final = c.sealed_drives_are_final.ensures;
    })
    job end result old new ran.no_drive ran.few past since ran.was ran.now (c.drops_have_causes.ensures job end result old new ran.story ran.few past since ran.was ran.now) ran.story
