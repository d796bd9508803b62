use Rattle.std.proofs.Common.{◌∙◌, ◌+◌, ◌*◌}
use Rattle.port_inbox.proofs.Weights.{is_early, none_read}
use Rattle.port_inbox.proofs.cont_inbox.ContInbox.read_all.Goals as goal

pub returns-in-None : goal.returns-in-None
returns-in-None c =
    let s = c.args.self.now in
    c.fill_zeros.ensures ∙ none_read s c.args.step c.args.globals.now (is_early (s.receive_start + c.args.step * s.receive_tick) (s.send_start + s.delay) c.in-None.ensures.late)
