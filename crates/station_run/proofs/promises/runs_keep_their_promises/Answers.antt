use Rattle.station_run.proofs.Promised.{short, ran, way, none_there, prefix_of, clear_of}
use Rattle.std.proofs.Common.{inl, inr, []}
use Rattle.job_story.specs.Run.{run_with}
use Rattle.job_calls.specs.Told.{RanTold}
use Rattle.station_run.proofs.promises.runs_keep_their_promises.Goals as goal

pub returns-clause-prefix : goal.returns-clause-prefix
returns-clause-prefix c = λ words result old new run room. prefix_of c.jobs_keep_to_the_steps.ensures.prefix run room

pub returns-clause-clear : goal.returns-clause-clear
returns-clause-clear c = λ words result old new run room. clear_of c.announced_steps.ensures.other_word c.jobs_keep_to_the_steps.ensures.clear run room

pub returns-clause-others : goal.returns-clause-others
returns-clause-others c = λ words result old new run room asked is. elim (way run asked is) [
  | short ended ↦ inl ended
  | ran (end, story) ↦ inr (
    end,
    record {
      counts = c.counts_show_the_end.ensures (run_with asked old new []) end result story (none_there room asked is).0 (none_there room asked is).1;
      told = λ past since was now.
          let none = none_there room asked is in
          let told : RanTold asked end result old new past since = record { story = story; few = is.few; no_card = none.0; no_drive = none.1; was = was; now = now } in
          record {
            devices = c.runs_call_their_own.ensures asked end result old new past since told;
            attaches = c.runs_attach_their_folders.ensures.attaches asked end result old new past since told;
            numbers = c.runs_attach_their_folders.ensures.numbers asked end result old new past since told;
            places = c.runs_attach_their_folders.ensures.places asked end result old new past since told;
            stops = c.no_call_follows_a_failure.ensures asked end result old new past since told;
            fails_none = c.no_call_must_fail.ensures asked end result old new past since told;
            read_once = c.read_once.ensures asked end result old new past since told;
            read_back = c.read_back.ensures asked end result old new past since told;
            pace = c.follows_windows.ensures asked end result old new past since told;
            own = c.runs_change_their_own.ensures asked end result old new past since told;
            gives = c.ends_give_lines_and_causes.ensures asked end result old new past since told is.some is.least;
            zero = c.all_sealed_only_at_zero.ensures asked end result old new past since told is.some;
            five = c.lines_not_said_are_five.ensures asked end result old new past since told;
            refused = c.refusals_are_seen.ensures.only asked end result old new past since told;
            card_first = c.refusals_are_seen.ensures.card_first asked end result old new past since told;
            passed = c.refusals_are_seen.ensures.passed asked end result old new past since told;
            listing = c.refusals_are_seen.ensures.listing asked end result old new past since told;
            by_maps = c.refusals_are_by_the_maps.ensures asked end result old new past since told;
            dropped = c.drops_have_causes.ensures asked end result old new story is.few past since was now;
            final = c.drives_end_final.ensures asked end result old new past since told;
            completes = c.sound_jobs_complete.ensures asked end result old new story is.least is.most past since was now;
          };
    },
  )
]
