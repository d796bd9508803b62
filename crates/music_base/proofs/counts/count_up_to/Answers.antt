use Rattle.std.proofs.Common.{◌≡◌, ◌<◌, ◌≤◌, refl, arith}
use Rattle.std.specs.Str.Parse.{digits_value}
use Rattle.std.proofs.lemmas.Bool.{le-leb, lt-leb}
use Rattle.music_base.specs.Counts.{count_up_to}
use Rattle.music_base.proofs.counts.count_up_to.Goals as goal

pub returns-then-number-from-clause-count : goal.returns-then-number-from-clause-count
unfolding count_up_to
returns-then-number-from-clause-count c =
    let number = c.number_of-number.result in
    let is : number ≡ digits_value 10 c.args.text.now = omega (arith, c.from.ensures, c.number_of-number.ensures) in
    let within : digits_value 10 c.args.text.now ≤ c.args.most = omega (arith, c.from.ensures, is) in
    rw (← c.if-not-is_count.ensures, le-leb (digits_value 10 c.args.text.now) c.args.most within, is) refl

pub returns-else-number-from-clause-count : goal.returns-else-number-from-clause-count
unfolding count_up_to
returns-else-number-from-clause-count c =
    let above : c.args.most < digits_value 10 c.args.text.now = omega (arith, c.from.ensures, c.number_of-number.ensures) in
    rw (← c.if-not-is_count.ensures, lt-leb (digits_value 10 c.args.text.now) c.args.most above) refl
