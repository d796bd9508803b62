use Rattle.std.proofs.Common.{◌≡◌, ℕ, ◌+◌, ◌<◌, length, List, [], ◌∷◌, ◌++◌, Option, None, get_or, ap, sym, ◌∙◌, subst, arith}
use Rattle.std.proofs.lemmas.List.{length-append}
use Rattle.std.specs.Int.{IsInRange}
use Rattle.scene_model.specs.Faults.{IsFaultless}
use Rattle.scene_model.specs.Waits.{greatest_limit, stated}
use Rattle.scene_model.specs.declared.scene.Scene.{Scene}
use Rattle.scene_model.specs.declared.wait.Wait.{Wait}
use Rattle.tick_plan.specs.Choices.{IsBelowUnless, IsChosen, room_chosen}
use Rattle.tick_plan.proofs.InTurn.{IsUnderWay, IsUnderWay-start, IsUnderWay-push, all_chosen, length-stated_limits, stated_limits-at}
use Rattle.tick_plan.proofs.choosing.limits_in_turn.Goals as goal

pub loop-c-init : goal.loop-c-init
loop-c-init c =
    let none = c.new-limits.ensures.items in
    record {
      so_far = ap length none;
      under_way = rw none (IsUnderWay-start c.args.scene.now c.args.counting.now.items c.requires.counting c.requires.within c.requires.covered);
    }

pub choose-requires-clause-link : goal.choose-requires-clause-link
choose-requires-clause-link c = omega (arith, c.loop-c-test.true, ap length c.requires.stated, length-stated_limits c.args.scene.now)

pub overflow_cast-c : goal.overflow_cast-c
overflow_cast-c c = omega (arith, c.loop-c-test.true, ap length c.requires.stated, length-stated_limits c.args.scene.now, c.requires.scene.few_links)

pushed : (scene : Scene) (all after : List Wait) (limits new : List ℕ) (c m : ℕ) (limit : Option ℕ) → IsFaultless scene → length limits ≡ c → IsUnderWay scene all limits → c < length scene.links →
    limit ≡ stated scene c → new ≡ limits ++ m ∷ [] → IsInRange 1 greatest_limit m → IsBelowUnless limit m → IsChosen scene all c limit m →
    after ≡ all ++ room_chosen scene c limit m → IsUnderWay scene after new
pushed scene all after limits new c m limit faultless so_far h link is new_is in_range below chosen after_is =
    let P : ℕ → Option ℕ → Type 0 = λ x l. IsChosen scene all x l m in
    let c_is : c ≡ length limits = sym so_far in
    let limit_is : limit ≡ stated scene (length limits) = is ∙ ap (stated scene) c_is in
    let chosen' : IsChosen scene all (length limits) (stated scene (length limits)) m = subst (P (length limits)) limit_is (subst (λ x. P x limit) c_is chosen) in
    let below' : IsBelowUnless (stated scene (length limits)) m = subst (λ l. IsBelowUnless l m) limit_is below in
    let rooms : room_chosen scene c limit m ≡ room_chosen scene (length limits) (stated scene (length limits)) m = ap (λ x. room_chosen scene x limit m) c_is ∙ ap (λ l. room_chosen scene (length limits) l m) limit_is in
    rw (new_is, after_is, rooms) (IsUnderWay-push scene all limits m faultless h (omega (arith, so_far, link)) in_range below' chosen')

pub loop-c-preserved : goal.loop-c-preserved
loop-c-preserved c =
    let new_is = c.in_ok-push.ensures.items in
    let chosen = c.in_ok-limit.ensures in
    let lt : c.loop-c.c < length c.args.scene.now.links = omega (arith, c.loop-c-test.true, ap length c.requires.stated, length-stated_limits c.args.scene.now) in
    let so_far = c.loop-c.invariant.so_far in
    let is : get_or c.args.stated.now c.loop-c.c None ≡ stated c.args.scene.now c.loop-c.c = ap (λ ls. get_or ls c.loop-c.c None) c.requires.stated ∙ stated_limits-at c.args.scene.now c.loop-c.c lt in
    record {
      so_far = ap length new_is ∙ length-append c.loop-c.limits.items (c.in_ok-limit.limit ∷ []) ∙ ap (λ n. n + 1) so_far;
      under_way = pushed c.args.scene.now c.loop-c.counting.items _ c.loop-c.limits.items _ c.loop-c.c c.in_ok-limit.limit (get_or c.args.stated.now c.loop-c.c None) c.requires.scene so_far c.loop-c.invariant.under_way lt
          is new_is chosen.in_range chosen.below chosen.chosen chosen.counting;
    }

pub returns : goal.returns
returns c =
    let under_way = c.loop-c.invariant.under_way in
    let counted : length c.loop-c.limits.items ≡ length c.args.scene.now.links =
    omega (arith, c.loop-c.invariant.so_far, c.loop-c.auto.c-end, c.loop-c-test.false, ap length c.requires.stated, length-stated_limits c.args.scene.now) in
    record {
      limits = record { counted = counted; each = under_way.each };
      in_range = under_way.in_range;
      below = under_way.below;
      counting = all_chosen c.args.scene.now c.loop-c.counting.items c.loop-c.limits.items counted under_way;
      within = under_way.within;
      covered = under_way.covered;
    }
