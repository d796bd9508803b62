use Rattle.music_base.proofs.WrittenTimes.{written_again}
use Rattle.music_base.proofs.time_writing.write_time.Goals as goal

pub returns-clause-again : goal.returns-clause-again
returns-clause-again c = written_again c.args.time c.spelled.result c.spelled.ensures
