use Rattle.std.proofs.Common.{◌∙◌, ◌+◌, ◌/◌, ◌%◌, ◌++◌, ◌∷◌, [], ap, sym, append_assoc}
use Rattle.std.proofs.lemmas.Fmt.{decimal_digit}
use Rattle.run_logs.proofs.Digits.{three_digits, two_digits}
use Rattle.run_logs.proofs.page.Page.short_number.Goals as goal

pub returns-then-number-lt10-clause-text : goal.returns-then-number-lt10-clause-text
returns-then-number-lt10-clause-text c =
    c.push.ensures.text ∙ ap (λ ds. c.args.self.now ++ ds) (sym (decimal_digit c.args.number c.if-number-lt10.true))

pub returns-then-number-lt100-clause-text : goal.returns-then-number-lt100-clause-text
returns-then-number-lt100-clause-text c =
    let n = c.args.number in
    c.push-then-number-lt100-2.ensures.text
    ∙ ap (λ text. text ++ (48 + n % 10) ∷ []) c.push-then-number-lt100.ensures.text
    ∙ append_assoc c.args.self.now ((48 + n / 10) ∷ []) ((48 + n % 10) ∷ [])
    ∙ ap (λ ds. c.args.self.now ++ ds) (sym (two_digits n c.if-number-lt10.false c.if-number-lt100.true))

pub returns-else-number-lt100-clause-text : goal.returns-else-number-lt100-clause-text
returns-else-number-lt100-clause-text c =
    let n = c.args.number in
    c.push-else-number-lt100-3.ensures.text
    ∙ ap (λ text. text ++ (48 + n % 10) ∷ []) (c.push-else-number-lt100-2.ensures.text ∙ ap (λ text. text ++ (48 + n / 10 % 10) ∷ []) c.push-else-number-lt100.ensures.text)
    ∙ ap (λ text. text ++ (48 + n % 10) ∷ []) (append_assoc c.args.self.now ((48 + n / 100) ∷ []) ((48 + n / 10 % 10) ∷ []))
    ∙ append_assoc c.args.self.now ((48 + n / 100) ∷ (48 + n / 10 % 10) ∷ []) ((48 + n % 10) ∷ [])
    ∙ ap (λ ds. c.args.self.now ++ ds) (sym (three_digits n c.if-number-lt100.false c.requires.below))
