use Rattle.std.proofs.Common.{ap, sym}
use Rattle.cycle_check.specs.CycleTexts.{cycle_text}
use Rattle.music_setup.specs.Texts.{text_of_fault}
use Rattle.music_setup.proofs.SceneNames.{names_of_scene}
use Rattle.music_setup.proofs.laws.cycles_name_applications.Goals as goal

pub returns : goal.returns
unfolding text_of_fault
returns c = record {
  names = λ config scene describes. names_of_scene config scene describes;
  text = λ config scene cycle describes. ap (λ names. cycle_text names cycle.0.items) (sym (names_of_scene config scene describes));
}
