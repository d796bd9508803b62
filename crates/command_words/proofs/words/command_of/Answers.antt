use Rattle.std.proofs.Common.{◌≡◌, ◌∙◌, ℕ, ap, sym, subst, Bool, inl, inr, []}
use Rattle.std.specs.Prelude.{IfSome, List, Option, String, string_bytes, bytes_eq}
use Rattle.std.specs.List.{list_any}
use Rattle.clap.specs.Words.{App, IsAmong, app_of, fault_of, is_simple, is_simple_and_free, subcommand_of, subcommand_rows_of}
use Rattle.clap.proofs.WalkLemmas.{list_any-map}
use Rattle.command_words.specs.Commands.{IsWithinLimits}
use Rattle.command_words.specs.Words.{command_of, texts}
use Rattle.command_words.specs.declared.command.Command.{Command}
use Rattle.command_words.specs.Forms.{command_in, forms}
use Rattle.command_words.proofs.Seen.{AllApart, dashes}
use Rattle.command_words.proofs.Exact.{dashes_none, exact}
use Rattle.command_words.proofs.Within.{command-within}
use Rattle.command_words.proofs.words.command_of.Goals as goal

-- the test of the words is one of their bytes
dashes_among : {A : Type 0} (words : List (String A)) (b : Bool) → b ≡ list_any (λ word. bytes_eq (string_bytes word) dashes) words → list_any (λ word. bytes_eq word dashes) (texts words) ≡ b
dashes_among words b is = sym (list_any-map (λ word. bytes_eq word dashes) string_bytes words) ∙ sym is

pub returns-then-has_dashes-clause-command : goal.returns-then-has_dashes-clause-command
returns-then-has_dashes-clause-command c =
    sym (dashes_none (texts c.args.words.now) (dashes_among c.args.words.now _ c.has_dashes.ensures ∙ c.if-has_dashes.true))

-- what is the command of words is within its limits
within : (words : List (List ℕ)) (command : Option Command) → command ≡ command_of words → IfSome command IsWithinLimits
within words command is = subst (λ (o : Option Command). IfSome o IsWithinLimits) (sym is) (command-within words)

pub returns-in-Ok : goal.returns-in-Ok
returns-in-Ok c =
    let words = texts c.args.words.now in
    let apart : AllApart words = dashes_among c.args.words.now _ c.has_dashes.ensures ∙ c.if-has_dashes.false in
    let form : app_of c.in_ok-forms.field-0 ≡ forms = c.in_ok-forms.ensures in
    let passes : fault_of forms words ≡ [] = ap (λ (app : App). fault_of app words) (sym form) ∙ c.in-Ok.ensures.kinds (ap is_simple_and_free form) in
    let matched : subcommand_rows_of c.in-Ok.matches ≡ subcommand_of forms words =
    (c.in-Ok.ensures.matches (ap is_simple form)).1 ∙ ap (λ (app : App). subcommand_of app words) form in
    let is : c.command_in.result ≡ command_of words = c.command_in.ensures ∙ ap command_in matched ∙ (exact words apart).0 passes in
    record { command = is; limits = within words c.command_in.result is }

pub returns-clause-command : goal.returns-clause-command
returns-clause-command c =
    let words = texts c.args.words.now in
    let apart : AllApart words = dashes_among c.args.words.now _ c.has_dashes.ensures ∙ c.if-has_dashes.false in
    let form : app_of c.in_ok-forms.field-0 ≡ forms = c.in_ok-forms.ensures in
    sym ((exact words apart).1 (λ none. elim (c.in-Err.ensures.kinds (ap is_simple_and_free form)) [
      | inl memory ↦ c.in_default.not-OutOfMemory (c.kind.ensures ∙ memory)
      | inr among ↦ subst (IsAmong _) (ap (λ (app : App). fault_of app words) form ∙ none) among
    ]))
