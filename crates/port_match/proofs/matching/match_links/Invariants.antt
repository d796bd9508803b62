-- The texts that are left make links after those that were made, as all texts do.
use Rattle.std.proofs.Common.{◌≡◌, [], drop, length}
use Rattle.text_words.specs.InTurn.{in_turn}
use Rattle.port_match.specs.Links.{link_at_place}
use Rattle.port_match.proofs.matching.match_links.Given as goal

abbrev pub invariant-loop-text : goal.invariant-loop-text
invariant-loop-text l = record {
  made : in_turn (link_at_place l.apps) l.links (drop l.text-index l.texts) ≡ in_turn (link_at_place l.apps) [] l.texts;
  counts : length l.links ≡ l.text-index;
}
