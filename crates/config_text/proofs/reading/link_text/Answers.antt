use Rattle.config_text.specs.Inner.{link_of}
use Rattle.config_text.proofs.LinkParts.{link_parts}
use Rattle.config_text.proofs.reading.link_text.Goals as goal

pub from_slice-requires : goal.from_slice-requires
from_slice-requires c = (link_parts (link_of c.args.lent) c.requires).from_app

pub from_slice-requires-2 : goal.from_slice-requires-2
from_slice-requires-2 c = (link_parts (link_of c.args.lent) c.requires).from_port

pub from_slice-requires-3 : goal.from_slice-requires-3
from_slice-requires-3 c = (link_parts (link_of c.args.lent) c.requires).to_app

pub from_slice-requires-4 : goal.from_slice-requires-4
from_slice-requires-4 c = (link_parts (link_of c.args.lent) c.requires).to_port
