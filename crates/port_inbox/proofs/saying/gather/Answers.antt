use Rattle.std.proofs.Common.{◌≡◌, ◌++◌, ap, ◌∙◌, get_or, map}
use Rattle.std.proofs.lemmas.List.{map-append}
use Rattle.music_base.proofs.Gathered.{gathered_flat}
use Rattle.port_inbox.specs.Due.{falls_in}
use Rattle.port_inbox.specs.Gathering.{blocks_told, sent_said}
use Rattle.port_inbox.specs.Words.{line_said}
use Rattle.port_inbox.proofs.OverLines.{line_told}
use Rattle.port_inbox.proofs.saying.gather.Goals as goal

pub loop-line-preserved : goal.loop-line-preserved
loop-line-preserved c =
    let line = c.line-item.result in
    let made : map sent_said c.gather_line.new.out.items ≡ map sent_said c.loop-line.out.items ++ line_said c.args.start c.args.tick c.args.step (get_or c.args.lines.now c.loop-line.line-index line) =
    ap (map sent_said) c.in_ok-gather_line.ensures
    ∙ map-append sent_said c.loop-line.out.items (blocks_told (falls_in c.args.start c.args.tick c.args.step line.link.latency) line.link line.kept)
    ∙ ap (λ more. map sent_said c.loop-line.out.items ++ more) (line_told c.args.start c.args.tick c.args.step line ∙ ap (line_said c.args.start c.args.tick c.args.step) c.line-item.is) in
    rw made (gathered_flat (line_said c.args.start c.args.tick c.args.step) c.args.lines.now c.loop-line.line-index line (map sent_said c.loop-line.out.items) _ c.loop-line-test.true c.loop-line.invariant)
