use Rattle.std.proofs.Common.{◌≡◌, ◌∙◌, ap, length, refl, rules, sym, to_z, of_z}
use Rattle.std.specs.Fmt.{decimal}
use Rattle.std.specs.Int.{w64}
use Rattle.scene_model.specs.declared.row.Row.{Row}
use Rattle.run_logs.proofs.ReadyLines.{event_line_is, value_line_is}
use Rattle.run_logs.proofs.sizes.ready_size.Goals as goal

pub returns-in-Event : goal.returns-in-Event
returns-in-Event c = λ scene are.
    let clock = decimal c.args.row.now.clock in
    let digits : length clock ≡ c.at-digits.result = ap (λ (row : Row). length (decimal row.clock)) (sym c.row.view_is) ∙ sym c.at-digits.ensures.size in
    c.event_size.ensures clock digits
    ∙ ap length (event_line_is scene c.args.row.now c.args.fields.now clock _ _ _ _ are (c.are_of.ensures.0 c.if-are_of.true) c.text-ready.ensures
    refl (ap (λ (row : Row). row.item) (sym c.row.view_is) ∙ (let h = c.in-Event.is in cc)))

pub returns-in-Value : goal.returns-in-Value
returns-in-Value c = λ scene are.
    let number : to_z w64 (of_z w64 c.value.inside.0) ≡ c.value.inside.0 = search rules in
    let clock = decimal c.args.row.now.clock in
    let digits : length clock ≡ c.at-digits.result = ap (λ (row : Row). length (decimal row.clock)) (sym c.row.view_is) ∙ sym c.at-digits.ensures.size in
    c.value_size.ensures clock digits
    ∙ ap length (rw number (value_line_is scene c.args.row.now c.args.fields.now clock _ _ _ _ are (c.if-are_of-2.ensures.0 refl) c.text-ready.ensures
    refl (ap (λ (row : Row). row.item) (sym c.row.view_is) ∙ (let h = c.in-Value.is in cc))))
