use Rattle.std.proofs.Common.{◌∙◌, ap, Some}
use Rattle.scene_model.specs.Waits.{at_most, greatest_limit, stated}
use Rattle.scene_model.proofs.Bounds.{has_options_at}
use Rattle.latency_graph.proofs.stated.stated_limit.Goals as goal

pub stated_by-requires-clause-output : goal.stated_by-requires-clause-output
stated_by-requires-clause-output c = rw c.output_of-output.ensures (has_options_at c.args.scene.now c.args.link c.requires.scene c.requires.link).output_buffered

pub returns-in-None-clause-value : goal.returns-in-None-clause-value
unfolding stated
returns-in-None-clause-value c =
    ap (at_most greatest_limit) (rw (c.stated_by.ensures.value, c.link-own.ensures, c.output_of-output.ensures, c.input_of-input.ensures) at c.in-None.ensures)

pub returns-in-Some-clause-value : goal.returns-in-Some-clause-value
unfolding stated
returns-in-Some-clause-value c =
    ap (λ m. Some m) c.min.ensures
    ∙ ap (at_most greatest_limit) (rw (c.stated_by.ensures.value, c.link-own.ensures, c.output_of-output.ensures, c.input_of-input.ensures) at c.in-Some.ensures)
