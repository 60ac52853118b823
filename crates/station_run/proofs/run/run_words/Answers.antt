use Rattle.station_run.specs.Station.{wanting, unread}
use Rattle.station_run.proofs.run.run_words.Goals as goal

pub run_asked-requires : goal.run_asked-requires
run_asked-requires g c = let is = c.in-Ok-read_words.ensures in record { command = is; room = c.requires _ is }

pub returns-in-Err : goal.returns-in-Err
returns-in-Err g c = wanting c.say_memory.ensures

pub returns-in-Ok-read_words : goal.returns-in-Ok-read_words
returns-in-Ok-read_words g c = c.run_asked.ensures

pub returns-in-Err-Words : goal.returns-in-Err-Words
returns-in-Err-Words g c = unread (c.in-Err-Words.ensures c.in-Err-Words.field-0-is) c.end.ensures

pub returns : goal.returns
returns g c = wanting c.say_memory-in-Err-Memory.ensures
