use Rattle.std.proofs.Common.{◌≡◌, ◌∙◌, Bor, Option, option_map, ap, sym, codes, Some, None}
use Rattle.clap.specs.Words.{first_of, rows_of, found_of, Text}
use Rattle.clap.proofs.WalkLemmas.{first_value-rows}
use Rattle.command_words.proofs.words.number_in.Goals as goal

abbrev text_of : Option (Bor Text) → Option Text
text_of = option_map (λ (s : Bor Text). s.now)

pub returns-in_err-get_str : goal.returns-in_err-get_str
returns-in_err-get_str c =
    let none : first_of (codes "number") (rows_of (found_of c.args.options.now)) ≡ None =
    sym (first_value-rows (found_of c.args.options.now) (codes "number")) ∙ sym c.get_str.ensures ∙ ap text_of c.in_err-get_str.was in
    rw none c.from_residual.ensures

pub returns : goal.returns
returns c =
    let given : first_of (codes "number") (rows_of (found_of c.args.options.now)) ≡ Some c.in_ok-get_str.field-0.now =
    sym (first_value-rows (found_of c.args.options.now) (codes "number")) ∙ sym c.get_str.ensures ∙ ap text_of c.in_ok-get_str.was in
    rw given c.number_within.ensures
