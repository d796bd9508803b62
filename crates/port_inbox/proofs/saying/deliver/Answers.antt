use Rattle.std.proofs.Common.{◌≡◌, refl, ◌∙◌, map}
use Rattle.std.specs.List.{flat_map}
use Rattle.std.proofs.lemmas.Result.{IfOk-weaker}
use Rattle.port_inbox.specs.Gathering.{sent_said}
use Rattle.port_inbox.specs.Words.{line_said}
use Rattle.port_inbox.proofs.OverLines.{words_are}
use Rattle.port_inbox.proofs.saying.deliver.Goals as goal

pub returns : goal.returns
returns c =
    let inbox = c.args.lines.now in
    let all = c.gather.new.out.items in
    let same : map sent_said all ≡ flat_map (line_said inbox.start inbox.tick c.args.step) inbox.lines =
    c.in_ok-gather.ensures ∙ rw (c.new-said.ensures.items, c.as_slice.ensures, c.start.ensures, c.tick.ensures.tick) refl in
    IfOk-weaker c.words.result _ _ (λ words is. is ∙ words_are c.args.step inbox all c.put_in_order.new.said.items same c.in_ok-put_in_order.ensures) c.words.ensures
