use Rattle.std.proofs.Common.{ap₂, ◌∙◌, ◌||◌}
use Rattle.clap.specs.Simple.{with_rule}
use Rattle.command_words.proofs.forms.load_form.Goals as goal

pub returns : goal.returns
returns c =
    let one = c.in_ok-arg.ensures.shape c.option_named.ensures.local ∙ ap₂ with_rule c.new.ensures.app c.option_named.ensures.rule in
    let none = c.in_ok-arg.ensures.globals ∙ ap₂ ◌||◌ c.new.ensures.local c.option_named.ensures.local in
    record {
      form = c.in_ok-arg-2.ensures.shape c.option_named-2.ensures.local ∙ ap₂ with_rule one c.option_named-2.ensures.rule;
      local = c.in_ok-arg-2.ensures.globals ∙ ap₂ ◌||◌ none c.option_named-2.ensures.local;
    }
