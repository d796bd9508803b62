use Rattle.std.proofs.Common.{◌≡◌, ◌∙◌}
use Rattle.std.specs.List.{filter, list_any}
use Rattle.music_base.proofs.Lists.{All-filter}
use Rattle.music_base.specs.declared.item.Block.{Block}
use Rattle.port_inbox.specs.Due.{AreShort, falls_from}
use Rattle.port_inbox.specs.Gathering.{comes_from}
use Rattle.port_inbox.proofs.Forgetting.{forgot, kept_is}
use Rattle.port_inbox.proofs.line.Line.forget.Goals as goal

pub invariant_of-self : goal.invariant_of-self
invariant_of-self c =
    (c.self.invariant.0, rw c.retain_from.ensures.items (All-filter (λ (block : Block). AreShort block.items) (λ (block : Block). list_any (comes_from c.window_of-window.result.from) block.items) c.self.inside.kept.items c.self.invariant.1))

pub returns : goal.returns
returns c =
    let left : c.retain_from.new.kept.items ≡ filter (λ (block : Block). list_any (falls_from c.args.start c.args.tick c.args.step c.latency_of.result) block.items) c.self.inside.kept.items =
    c.retain_from.ensures.items ∙ kept_is c.args.start c.args.tick c.args.step c.latency_of.result c.window_of-window.result.from c.window_of-window.ensures.from c.self.inside.kept.items c.self.invariant.1 in
    rw (← c.self.view_is) (forgot c.self.inside.link c.self.inside.admitted c.self.inside.kept.items c.retain_from.new.kept.items _ _ _ _ c.args.start c.args.tick c.args.step
    (rw (← c.latency_of.ensures) left) c.retain_from.ensures.capacity c.self.inside.kept.ok.0 c.retain_from.new.kept.ok.0 c.self.inside.kept.ok.1 c.retain_from.ensures.bound)
