use Rattle.std.proofs.Common.{◌∙◌, ◌++◌, ◌∷◌, [], ap}
use Rattle.std.specs.Fmt.{decimal, signed_decimal}
use Rattle.std.specs.Int.{w64}
use Rattle.std.proofs.lemmas.Int.{to_z-of_z}
use Rattle.music_base.specs.Lines.{line_end}
use Rattle.scene_model.specs.Logs.{comma}
use Rattle.run_logs.proofs.ReadyLines.{value_pushed}
use Rattle.run_logs.proofs.quick_lines.push_value.Goals as goal

pub returns : goal.returns
returns c =
    c.push-2.ensures.text
    ∙ ap (λ text. text ++ line_end ∷ []) (c.signed.ensures.text ∙ ap (λ number. c.push.new.self ++ signed_decimal number) (to_z-of_z w64 c.args.value c.ranges.value) ∙ ap (λ text. text ++ signed_decimal c.args.value) (c.push.ensures.text ∙ ap (λ text. text ++ comma ∷ []) c.push_front.ensures.text))
    ∙ value_pushed c.args.page.now c.args.clock.now c.args.ready.now (decimal c.args.local) (decimal c.args.global) (signed_decimal c.args.value)
