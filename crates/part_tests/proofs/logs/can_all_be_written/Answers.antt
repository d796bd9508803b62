use Rattle.std.proofs.Common.{◌≡◌, ◌∙◌, take, true, get_or, subst, sym, refl, ap}
use Rattle.std.proofs.lemmas.List.{take_all}
use Rattle.std.proofs.lemmas.List.Folds.{list_all_more}
use Rattle.scene_model.specs.Logs.{is_writable}
use Rattle.part_tests.proofs.logs.can_all_be_written.Goals as goal

pub loop-row-preserved : goal.loop-row-preserved
loop-row-preserved c =
    let here : is_writable c.args.scene.now (get_or c.args.rows.now c.loop-row.row-index c.row-item.result) ≡ true = subst (λ row. is_writable c.args.scene.now row ≡ true) c.row-item.is (c.if-not-can_be_written.ensures refl) in
    list_all_more (is_writable c.args.scene.now) c.args.rows.now c.loop-row.row-index c.row-item.result c.loop-row-test.true ∙ rw (c.loop-row.invariant, here) refl

pub returns : goal.returns
returns c =
    let all : take c.loop-row.row-index c.args.rows.now ≡ c.args.rows.now = take_all c.loop-row.row-index c.args.rows.now c.loop-row-test.false in
    λ _. rw all at c.loop-row.invariant
