use Rattle.std.proofs.Common.{◌≡◌, ◌+◌, [], ◌∷◌, Vec, length, ap, ◌∙◌, arith}
use Rattle.std.specs.declared.alloc.Global.{Global}
use Rattle.std.proofs.lemmas.List.{length-append}
use Rattle.std.proofs.lemmas.List.Elements.{All-push}
use Rattle.scene_model.specs.declared.wait.Wait.{Wait}
use Rattle.tick_plan.proofs.Searching.{AreGiven-start}
use Rattle.tick_plan.proofs.search.start.Goals as goal

pub returns : goal.returns
returns c = λ all.
    let walks : length c.loop.walks.items ≡ c.args.applications = omega (arith, c.loop.invariant.walks, c.loop.auto.counter-end, c.loop-test.false) in
    AreGiven-start c.args.applications all _ c.loop.walks.items c.in_ok-heights.ensures walks c.loop.invariant.none

pub loop-preserved : goal.loop-preserved
loop-preserved c =
    rw c.in_ok-push.ensures.items (record {
      walks = length-append c.loop.walks.items (c.new.result ∷ []) ∙ ap (λ n. n + 1) c.loop.invariant.walks;
      none = All-push (λ (walk : Vec Wait Global). walk.items ≡ []) c.loop.walks.items c.new.result c.loop.invariant.none c.new.ensures.items;
    })
