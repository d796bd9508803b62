use Rattle.std.proofs.Common.{◌≡◌, All, [], Vec, length}
use Rattle.std.specs.declared.alloc.Global.{Global}
use Rattle.scene_model.specs.declared.wait.Wait.{Wait}
use Rattle.tick_plan.proofs.search.start.Given as goal

abbrev pub invariant-loop : goal.invariant-loop
invariant-loop l = record {
  walks : length l.walks.items ≡ l.counter;
  none : All (λ (walk : Vec Wait Global). walk.items ≡ []) l.walks.items;
}
