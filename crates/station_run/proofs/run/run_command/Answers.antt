use Rattle.station_run.proofs.Ran.{ran_unchanged}
use Rattle.station_run.proofs.run.run_command.Goals as goal

pub returns : goal.returns
returns g c =
    let ran = c.run_words.ensures in
    let laws = c.runs_keep_their_promises.ensures in
    record {
      ran = ran;
      unchanged = ran_unchanged ran;
      prefix = laws.prefix _ _ _ _ ran c.requires;
      clear = laws.clear _ _ _ _ ran c.requires;
      promises = laws.others _ _ _ _ ran c.requires;
    }
