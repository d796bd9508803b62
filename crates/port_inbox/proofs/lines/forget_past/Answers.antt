use Rattle.std.proofs.Common.{◌∙◌, ap, List, get_or, slice_set}
use Rattle.music_base.proofs.Gathered.{mapped_more}
use Rattle.port_inbox.specs.Inboxes.{Line, forgotten}
use Rattle.port_inbox.proofs.lines.forget_past.Goals as goal

pub loop-line-preserved : goal.loop-line-preserved
loop-line-preserved c =
    ap (λ (line : Line). slice_set c.loop-line.lines c.loop-line.line-index line) c.forget.ensures
    ∙ ap (λ (ls : List Line). slice_set ls c.loop-line.line-index (forgotten c.args.start c.args.tick c.args.step (get_or ls c.loop-line.line-index c.line-item.result))) c.loop-line.invariant
    ∙ mapped_more (forgotten c.args.start c.args.tick c.args.step) c.args.lines.now c.loop-line.line-index c.line-item.result c.loop-line-test.true
