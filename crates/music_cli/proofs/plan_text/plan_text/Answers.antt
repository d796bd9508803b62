use Rattle.std.proofs.Common.{◌<◌, length, ◌∙◌, arith}
use Rattle.music_cli.specs.PlanTexts.{columns_line}
use Rattle.music_cli.proofs.PlanLines.{length-which, line_is, one_line_more}
use Rattle.music_cli.proofs.plan_text.plan_text.Goals as goal

pub index-requires-in-loop-c : goal.index-requires-in-loop-c
index-requires-in-loop-c c = omega (arith, length-which c.args.scene.now c.args.plan.now.stated.items c.requires.stated)

pub loop-c-preserved : goal.loop-c-preserved
loop-c-preserved c =
    let scene = c.args.scene.now in
    let plan = c.args.plan.now in
    let link : c.loop-c.c < length scene.links = omega arith in
    let line = line_is scene plan.limits.items plan.stated.items c.loop-c.c c.index.result.now c.index-in-loop-c.result.now c.requires.limits.counted c.requires.stated link c.index.ensures c.index-in-loop-c.ensures in
    c.in_ok-push_line.ensures ∙ one_line_more scene plan.limits.items c.loop-c.text.items columns_line _ c.loop-c.c c.loop-c.invariant line
