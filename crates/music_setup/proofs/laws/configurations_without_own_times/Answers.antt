use Rattle.music_setup.proofs.OwnTimes.{scene_runs_together}
use Rattle.music_setup.proofs.Stated.{scene_states_nothing}
use Rattle.music_setup.proofs.laws.configurations_without_own_times.Goals as goal

pub returns : goal.returns
returns c = record {
  run_together = λ config scene none gave. scene_runs_together config scene none gave;
  state_nothing = λ config scene none gave. scene_states_nothing config scene none gave;
}
