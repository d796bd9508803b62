use Rattle.std.proofs.Common.{◌≡◌, ◌∙◌, sym, refl, codes, Some, None}
use Rattle.clap.specs.Words.{first_of, rows_of, found_of}
use Rattle.clap.proofs.WalkLemmas.{first_value-rows}
use Rattle.command_words.proofs.words.workers_in.Goals as goal

pub returns-in-Some : goal.returns-in-Some
returns-in-Some c =
    let given : first_of (codes "workers") (rows_of (found_of c.args.options.now)) ≡ Some c.in-Some.text.now =
    sym (first_value-rows (found_of c.args.options.now) (codes "workers")) ∙ sym c.in-Some.ensures in
    rw given c.number_within.ensures

pub returns-in-None : goal.returns-in-None
returns-in-None c =
    let none : first_of (codes "workers") (rows_of (found_of c.args.options.now)) ≡ None =
    sym (first_value-rows (found_of c.args.options.now) (codes "workers")) ∙ sym c.in-None.ensures in
    rw none refl
