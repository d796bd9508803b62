use Rattle.event_routes.proofs.routes.Routes.targets.Given as goal

abbrev pub ghosts-targets_on : goal.ghosts-targets_on
ghosts-targets_on a = record { name = a.blank.name; parts = a.blank.parts }
