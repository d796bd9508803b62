use Rattle.port_match.proofs.Made.{links_of-are, links_of-many, links_of-named, links_of-numbers}
use Rattle.port_match.proofs.laws.made_links_stand.Goals as goal

pub returns : goal.returns
returns c = record {
  stand = λ apps texts links gave. links_of-are apps texts links gave;
  as_named = λ apps texts links gave. links_of-named apps texts links gave;
  as_many = λ apps texts links gave. links_of-many apps texts links gave;
  numbers = λ apps texts links gave within. links_of-numbers apps texts links gave within;
}
