use Rattle.std.proofs.Common.{refl, []}
use Rattle.port_inbox.proofs.Staying.{made_holds, made_lines}
use Rattle.port_inbox.proofs.laws.made_inboxes_hold.Goals as goal

pub returns : goal.returns
returns c = record {
  events = λ scene b p links routes starts ticks made routed. record { lined = made_lines scene b p links routes starts ticks made; routed = routed };
  messages = λ scene b p links starts ticks made. record { lined = made_lines scene b p links [] starts ticks made; no_routes = refl };
  holds = made_holds;
}
