use Rattle.std.proofs.Common.{refl, ap, ◌∙◌, ◌++◌, List}
use Rattle.std.specs.List.{filter_map, flat_map}
use Rattle.music_base.proofs.Gathered.{gathered_end, gathered_flat}
use Rattle.music_base.specs.declared.item.Block.{Block}
use Rattle.port_inbox.specs.Due.{falls_in}
use Rattle.port_inbox.specs.Gathering.{found, is_in}
use Rattle.port_inbox.specs.declared.finding.Found.{Found}
use Rattle.port_inbox.proofs.Climbing.{all_found}
use Rattle.port_inbox.proofs.Forgetting.{found_same}
use Rattle.port_inbox.proofs.finding.gather_line.Goals as goal

pub loop-kept-preserved : goal.loop-kept-preserved
loop-kept-preserved c =
    let F : Block → List Found = λ block. filter_map (found (is_in c.window_of-window.result) c.args.place c.link-link.result) block.items in
    rw (c.in_ok-gather_items.ensures, all_found c.window_of-window.result c.args.place c.link-link.result c.sent_in.result.now c.kept-item.result.items c.sent_in.ensures, c.kept-item.is) (gathered_flat F c.kept-kept-items.result.now c.loop-kept.kept-index c.kept-item.result c.loop-kept.out.items _ c.loop-kept-test.true c.loop-kept.invariant)

pub returns : goal.returns
returns c =
    let F : Block → List Found = λ block. filter_map (found (is_in c.window_of-window.result) c.args.place c.link-link.result) block.items in
    gathered_end (flat_map F) c.kept-kept-items.result.now c.loop-kept.kept-index c.loop-kept.out.items _ refl c.loop-kept-test.false c.loop-kept.invariant
    ∙ ap (λ found. c.args.out.now.items ++ found) (rw (c.kept-kept-items.ensures.kept)
    (found_same (is_in c.window_of-window.result) (falls_in c.args.start c.args.tick c.args.step c.latency_of.result) c.window_of-window.ensures.within c.args.place c.link-link.result c.args.line.now.kept c.kept-kept-items.ensures.short
    ∙ rw (c.latency_of.ensures, c.link-link.ensures.link) refl))
