use Rattle.std.proofs.Common.{ap, ◌∙◌}
use Rattle.std.specs.List.{filter_map}
use Rattle.std.proofs.lemmas.Result.{IfOk-weaker}
use Rattle.port_inbox.specs.Gathering.{arrival_found}
use Rattle.port_inbox.proofs.finding.deliver.Goals as goal

pub returns : goal.returns
returns c =
    IfOk-weaker c.arrivals.result _ _
    (λ arrivals is. is ∙ ap (filter_map (arrival_found c.args.routes.now)) c.deref.ensures.value ∙ c.in_ok-find.ensures c.args.routes.now c.requires) c.arrivals.ensures
