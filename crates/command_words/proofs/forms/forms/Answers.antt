use Rattle.std.proofs.Common.{ap, ap₂, ◌∙◌}
use Rattle.clap.specs.Simple.{App, Shape, with_subcommand}
use Rattle.command_words.proofs.forms.forms.Goals as goal

abbrev top_of : App → Shape
top_of app = app.top

-- the form so far, with one subcommand more at each step
pub returns : goal.returns
returns c =
    let check = c.in_ok-subcommand.ensures.shape c.new.ensures.local ∙ ap₂ with_subcommand c.top_form.ensures.form (ap top_of c.new.ensures.app) in
    let plan = c.in_ok-subcommand-2.ensures.shape c.new-2.ensures.local ∙ ap₂ with_subcommand check (ap top_of c.new-2.ensures.app) in
    let order = c.in_ok-subcommand-3.ensures.shape c.new-3.ensures.local ∙ ap₂ with_subcommand plan (ap top_of c.new-3.ensures.app) in
    let run = c.in_ok-subcommand-4.ensures.shape c.in_ok-run_form.ensures.local ∙ ap₂ with_subcommand order (ap top_of c.in_ok-run_form.ensures.form) in
    c.in_ok-subcommand-5.ensures.shape c.in_ok-load_form.ensures.local ∙ ap₂ with_subcommand run (ap top_of c.in_ok-load_form.ensures.form)
