use Rattle.text_words.specs.Words.{declarations}
use Rattle.text_words.proofs.Turns.{first_fault, first_ends}
use Rattle.port_table.specs.Ports.{port_beside}
use Rattle.port_table.proofs.laws.first_faults.Goals as goal

pub returns : goal.returns
returns c = record {
  one_is_first = λ np text fault fails. first_fault (port_beside np) (declarations text) fault fails;
  first_is_the_fault = λ np text i before fault first. first_ends (port_beside np) (declarations text) i before fault first;
}
