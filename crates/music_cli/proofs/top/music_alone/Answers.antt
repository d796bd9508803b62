use Rattle.music_cli.proofs.Endings.{answers_what_was_read, has_answer, has_prefix, is_complete, is_status, is_usage, not_usage, read_fault_cause, shows_faults, some_prefix, was_read, write_fault_cause}
use Rattle.music_cli.proofs.LiveScenes.{is_live}
use Rattle.music_cli.proofs.LoadEndings.{has_load}
use Rattle.music_cli.proofs.top.music_alone.Goals as goal

pub returns : goal.returns
returns g c =
    let ended = c.answer-status.ensures.ended in
    rw (c.number.ensures, ← c.deref.ensures.value) (record {
      status_in_range = is_status _ _ _ _ ended;
      accepted_words_are_no_usage = not_usage _ _ _ _ ended;
      refused_words_are_usage = is_usage _ _ _ _ ended;
      cause_of_a_read_fault = read_fault_cause _ _ _ _ ended;
      cause_of_a_write_fault = write_fault_cause _ _ _ _ ended;
      faults_are_shown = shows_faults _ _ _ _ ended;
      answers_what_was_read = answers_what_was_read _ _ _ _ ended;
      what_was_read_of_the_source = was_read _ _ _ _ ended;
      some_prefix = some_prefix _ _ _ _ ended;
      reads_no_more = c.answer-status.ensures.no_more;
      load = has_load _ _ _ _ ended;
      answers = has_answer _ _ _ _ ended;
      prefix = has_prefix _ _ _ _ ended;
      completeness = is_complete _ _ _ _ ended;
      accepted_scenes_are_live = is_live _ _ _ _ ended;
    })
