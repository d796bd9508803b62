-- Each side computes.
use Rattle.std.proofs.Common.{refl}
use Rattle.scene_model.specs.Turns.{times_below, times_between, saturated, turn}
use Rattle.scene_model.proofs.laws.worked_turns_hold.Goals as goal

pub returns : goal.returns
unfolding times_below times_between saturated turn
returns c = record {
  pass_down = refl;
  comes_over = refl;
  stays_over = refl;
  is_over = refl;
  not_over_at_first = refl;
  scale_down = refl;
  give_twice = refl;
  answer = refl;
  pass_down_late = refl;
  answer_late = refl;
}
