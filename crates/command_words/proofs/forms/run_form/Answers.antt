use Rattle.std.proofs.Common.{ap₂, ◌∙◌, ◌||◌}
use Rattle.clap.specs.Simple.{with_rule}
use Rattle.command_words.proofs.forms.run_form.Goals as goal

pub returns : goal.returns
returns c = record {
  form = c.in_ok-arg.ensures.shape c.option_named.ensures.local ∙ ap₂ with_rule c.new.ensures.app c.option_named.ensures.rule;
  local = c.in_ok-arg.ensures.globals ∙ ap₂ ◌||◌ c.new.ensures.local c.option_named.ensures.local;
}
