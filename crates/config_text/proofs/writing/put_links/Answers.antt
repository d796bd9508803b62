use Rattle.std.proofs.Common.{◌++◌, List, map, ap, ◌∙◌, arith}
use Rattle.std.specs.List.{flat_map}
use Rattle.std.proofs.lemmas.List.{take_all}
use Rattle.config_text.specs.declared.link_text.LinkText.{LinkText}
use Rattle.config_text.specs.Connections.{link_line}
use Rattle.music_base.specs.Lines.{ended}
use Rattle.config_text.proofs.Written.{link_more}
use Rattle.config_text.proofs.writing.put_links.Goals as goal

pub loop-link-preserved : goal.loop-link-preserved
loop-link-preserved c =
    rw c.in_ok-put_link.ensures
    (link_more c.loop-link.out.items c.args.out.now.items c.args.links.now c.loop-link.link-index c.link-item.result c.loop-link-test.true c.link-item.is c.loop-link.invariant)

pub returns : goal.returns
returns c =
    c.loop-link.invariant
    ∙ ap (λ (all : List LinkText). c.args.out.now.items ++ flat_map ended (map link_line all)) (take_all c.loop-link.link-index c.args.links.now (omega arith))
