use Rattle.std.proofs.Common.{◌≡◌, ◌∙◌, refl, sym, ℕ, ℤ, Option, get_or, drop, []}
use Rattle.std.proofs.lemmas.List.{drop_all}
use Rattle.music_base.proofs.Gathered.{drop_next}
use Rattle.rule_turns.specs.Turning.{seen, use_gives}
use Rattle.rule_turns.proofs.Ascending.{ascending-overlay, values-overlay}
use Rattle.rule_turns.proofs.ports.give_uses.Goals as goal

pub give_use-requires-clause-placed : goal.give_use-requires-clause-placed
give_use-requires-clause-placed c =
    let placed = rw (drop_next c.args.uses.now c.loop-part.part-index (record { rule = 0; input = 0; state = 0; place = 0 }) c.loop-part-test.true) at c.loop-part.invariant.placed in
    (c.loop-part.invariant.gs, c.loop-part.invariant.values, placed.0)

pub loop-part-init : goal.loop-part-init
loop-part-init c = record {
  gs = c.requires.placed.0;
  values = c.requires.placed.1;
  ascend = c.requires.ascend;
  placed = c.requires.placed.2;
  given = refl;
}

pub loop-part-preserved : goal.loop-part-preserved
loop-part-preserved c =
    let i = c.loop-part.part-index in
    let gives : ℕ → Option ℤ = use_gives (seen c.args.step.now) (get_or c.args.uses.now i (record { rule = 0; input = 0; state = 0; place = 0 })) in
    let next = drop_next c.args.uses.now i (record { rule = 0; input = 0; state = 0; place = 0 }) c.loop-part-test.true in
    let placed = rw next at c.loop-part.invariant.placed in
    record {
      gs = c.loop-part.invariant.gs;
      values = rw c.give_use.ensures (values-overlay gives c.loop-part.invariant.gs c.loop-part.items c.loop-part.invariant.values);
      ascend = rw c.give_use.ensures (ascending-overlay gives 0 c.loop-part.items c.loop-part.invariant.ascend);
      placed = placed.1;
      given = rw c.give_use.ensures (c.loop-part.invariant.given ∙ rw next refl);
    }

pub returns : goal.returns
returns c =
    let none : drop c.loop-part.part-index c.args.uses.now ≡ [] = drop_all c.loop-part.part-index c.args.uses.now c.loop-part-test.false in
    sym (c.loop-part.invariant.given ∙ rw none refl)
