use Rattle.text_words.proofs.Turns.{first_fault, first_ends}
use Rattle.port_match.specs.Links.{link_at_place}
use Rattle.port_match.proofs.laws.first_faults.Goals as goal

pub returns : goal.returns
returns c = record {
  one_is_first = λ apps texts fault fails. first_fault (link_at_place apps) texts fault fails;
  first_is_the_fault = λ apps texts i before fault first. first_ends (link_at_place apps) texts i before fault first;
}
