use Rattle.std.proofs.Common.{ap, true, ◌∙◌}
use Rattle.clap.specs.Simple.{App, app_of_fields, on_top}
use Rattle.clap.specs.declared.builder.command.Command.TheOpen.{Command-F}
use Rattle.clap.specs.declared.builder.command.Command.{Command}
use Rattle.command_words.proofs.forms.top_form.Goals as goal

pub returns : goal.returns
returns c =
    let fields = c.disable_help_subcommand.ensures
    ∙ ap (λ (f : Command-F Command). record f { disable_help_subcommand = true }) c.disable_help_flag.ensures
    ∙ ap (λ (f : Command-F Command). record f { disable_help_flag = true; disable_help_subcommand = true }) c.no_binary_name.ensures in
    record {
      form = ap app_of_fields fields
          ∙ ap (λ (a : App). on_top (λ s. record s { no_binary_name = true; disable_help_flag = true; disable_help_subcommand = true }) a) c.new.ensures.app;
      local = ap (λ (f : Command-F Command). f.has_globals) fields ∙ c.new.ensures.local;
    }
