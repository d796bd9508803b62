use Rattle.music_base.proofs.Transfers.{TookPrefix-front, TookPrefix-behind}
use Rattle.scene_model.specs.Logs.{text_of}
use Rattle.run_logs.proofs.writing.write_rows.Goals as goal

pub returns-in_err-log-clause-prefix : goal.returns-in_err-log-clause-prefix
unfolding text_of
returns-in_err-log-clause-prefix g c = TookPrefix-front _ _ _ _ c.in_err-log.ensures.prefix

pub returns-clause-prefix : goal.returns-clause-prefix
unfolding text_of
returns-clause-prefix g c = TookPrefix-behind _ _ _ _ _ c.in_ok-log.ensures.all c.write.ensures.prefix
