-- What a fault says.
use Rattle.std.specs.Prelude.{List}
use Rattle.scene_model.specs.Cover.{IsReportable}
use Rattle.scene_model.specs.declared.wait.Wait.{Wait}
use Rattle.tick_plan.specs.declared.fault.NegotiateFault.{NegotiateFault}
use Rattle.tick_plan.specs.declared.fault.NegotiateFault.TheVariants.{Uncovered, Memory}

-- the fault is a cycle by which these waits can be refused. Want of memory is free
abbrev pub ReportsUncovered : List Wait → NegotiateFault → Type 0
ReportsUncovered all (Uncovered cycle) = IsReportable all cycle.0.items
ReportsUncovered all Memory = Unit {0}
