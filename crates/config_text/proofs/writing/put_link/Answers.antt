use Rattle.config_text.proofs.Written.{seven_put}
use Rattle.config_text.proofs.writing.put_link.Goals as goal

pub returns : goal.returns
returns c =
    rw (
      c.in_ok-push.ensures.items,
      c.in_ok-put_buffered.ensures,
      c.in_ok-put_latency.ensures,
      c.in_ok-put_width.ensures,
      c.in_ok-put_end-2.ensures,
      c.in_ok-extend_from_slice.ensures.items,
      c.in_ok-put_end.ensures,
    ) (seven_put c.args.out.now.items _ _ _ _ _ _ _)
