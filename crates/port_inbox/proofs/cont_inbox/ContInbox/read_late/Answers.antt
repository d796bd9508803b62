use Rattle.std.proofs.Common.{◌∙◌}
use Rattle.port_inbox.specs.KeptSamples.{sample_kept}
use Rattle.port_inbox.specs.Samples.{sample_at}
use Rattle.port_inbox.proofs.Weights.{points_read}
use Rattle.port_inbox.proofs.cont_inbox.ContInbox.read_late.Goals as goal

pub returns : goal.returns
unfolding sample_at
returns c =
    rw (← c.self.view_is) (c.fill_points.ensures ∙ points_read (λ g k. sample_kept c.self.inside.samples g k) c.self.inside.interpolate c.self.inside.send_tick c.args.late c.weight_of-weight.result c.args.globals.now c.self.invariant.some_tick c.weight_of-weight.ensures.weight)
