use Rattle.std.proofs.Common.{◌≡◌, List, ℕ, [], ◌∷◌, ◌++◌, refl, ap, ◌∙◌}
use Rattle.std.specs.Fmt.{decimal}
use Rattle.std.specs.List.{join_with_byte}
use Rattle.music_base.specs.Lines.{line_end}
use Rattle.scene_model.specs.Logs.{comma, line_of}
use Rattle.scene_model.specs.Scenes.{app_at, port_at}
use Rattle.scene_model.specs.declared.scene.Scene.{Scene}
use Rattle.scene_model.specs.declared.row.Row.{Row}
use Rattle.run_logs.specs.ItemFields.{AreFieldsOf}
use Rattle.run_logs.specs.declared.fields.ItemFields.{ItemFields}
use Rattle.run_logs.proofs.fields.push_fields.Goals as goal

-- the line of a row, from its fields one by one
fields-line : (scene : Scene) (row : Row) (fields : ItemFields) (clock app port rank local global : List ℕ) → AreFieldsOf row.item fields
    → clock ≡ decimal row.clock → app ≡ (app_at scene row.app).name → port ≡ (port_at scene row.app row.port).name
    → rank ≡ decimal row.rank → local ≡ decimal fields.local → global ≡ decimal fields.global
    → join_with_byte comma (clock ∷ app ∷ port ∷ fields.kind.now ∷ rank ∷ local ∷ global ∷ fields.time.now ∷ fields.value.now ∷ []) ++ line_end ∷ [] ≡ line_of scene row
unfolding line_of
fields-line scene row fields clock app port rank local global are of_clock of_app of_port of_rank of_local of_global =
    rw (of_clock, of_app, of_port, are.kind, of_rank, of_local, are.local, of_global, are.global, are.time, are.value) refl

pub returns-clause-line : goal.returns-clause-line
returns-clause-line c =
    let row = c.args.row.now in
    let line = fields-line c.args.scene.now row c.args.fields.now _ _ _ _ _ _ c.requires.fields (c.digits-clock.ensures.text ∙ ap (λ (r : Row). decimal r.clock) c.row.view_is) c.names_of.ensures.app c.names_of.ensures.port (c.digits-rank.ensures.text ∙ ap decimal c.from.ensures ∙ ap (λ (r : Row). decimal r.rank) c.row.view_is) (c.digits-local.ensures.text ∙ ap decimal c.from-2.ensures) (c.digits-global.ensures.text ∙ ap decimal c.from-3.ensures) in
    rw line at c.push_line.ensures.line
