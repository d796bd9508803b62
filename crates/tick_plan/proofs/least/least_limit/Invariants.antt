use Rattle.tick_plan.proofs.least.least_limit.Given as goal

abbrev pub ghost-raise_all : goal.ghost-raise_all
ghost-raise_all a = a.heights.now
