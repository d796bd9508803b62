use Rattle.text_words.proofs.Turns.{first_fault, first_ends}
use Rattle.music_setup.specs.Apps.{app_beside}
use Rattle.music_setup.proofs.laws.first_faults.Goals as goal

pub returns : goal.returns
returns c = record {
  one_is_first = λ config stop fault fails. first_fault (app_beside config stop) config.sections fault fails;
  first_is_the_fault = λ config stop i before fault first. first_ends (app_beside config stop) config.sections i before fault first;
}
