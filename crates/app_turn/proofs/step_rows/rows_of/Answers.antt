use Rattle.std.proofs.Common.{◌≡◌, ◌∙◌, ◌++◌, [], List, ap, arith, length}
use Rattle.std.specs.Prelude.{slice_index_or}
use Rattle.std.specs.List.{flat_map}
use Rattle.std.proofs.lemmas.List.{get_or_read}
use Rattle.music_base.specs.Numbers.{below}
use Rattle.music_base.specs.declared.item.Item.{Item}
use Rattle.scene_model.specs.Scenes.{app_at, no_port, port_at}
use Rattle.scene_model.specs.declared.port.PortDecl.{PortDecl}
use Rattle.scene_model.specs.declared.scene.AppDecl.{AppDecl}
use Rattle.app_turn.specs.Rows.{port_rows_of}
use Rattle.app_turn.proofs.RowParts.{all_rows, flat_more}
use Rattle.app_turn.proofs.step_rows.rows_of.Goals as goal

pub push_port-requires-clause-shaped : goal.push_port-requires-clause-shaped
push_port-requires-clause-shaped c =
    let port = c.loop-port.port in
    let decl : c.port.result.now ≡ port_at c.args.scene.now c.args.app port = c.port.ensures ∙ ap (λ (a : AppDecl). slice_index_or a.ports port no_port) c.app-decl.ensures in
    let items : c.as_slice.result.now ≡ slice_index_or c.args.inputs.now port [] = c.as_slice.ensures ∙ get_or_read c.args.inputs.now port c.index-inputs-port.result c.loop-port-test.true c.index-inputs-port.is [] in
    rw (decl, items) (c.requires.shaped.kinds port (omega (arith, c.loop-port-test.true, c.requires.counted)))

pub loop-port-preserved : goal.loop-port-preserved
loop-port-preserved c =
    let port = c.loop-port.port in
    let decl : c.port.result.now ≡ port_at c.args.scene.now c.args.app port = c.port.ensures ∙ ap (λ (a : AppDecl). slice_index_or a.ports port no_port) c.app-decl.ensures in
    let items : c.as_slice.result.now ≡ slice_index_or c.args.inputs.now port [] = c.as_slice.ensures ∙ get_or_read c.args.inputs.now port c.index-inputs-port.result c.loop-port-test.true c.index-inputs-port.is [] in
    flat_more (λ p. port_rows_of (port_at c.args.scene.now c.args.app p) c.clock_of-clock.result c.args.app p (slice_index_or c.args.inputs.now p [])) port [] c.loop-port.rows _ c.loop-port.invariant
    (c.in_ok-push_port.ensures
    ∙ ap (λ (d : PortDecl). c.loop-port.rows ++ port_rows_of d c.clock_of-clock.result c.args.app port c.as_slice.result.now) decl
    ∙ ap (λ (xs : List Item). c.loop-port.rows ++ port_rows_of (port_at c.args.scene.now c.args.app port) c.clock_of-clock.result c.args.app port xs) items)

pub returns : goal.returns
returns c =
    let all : c.loop-port.port ≡ length (app_at c.args.scene.now c.args.app).ports = omega (arith, c.loop-port-test.false, c.loop-port.auto.port-end, c.requires.counted) in
    c.loop-port.invariant
    ∙ ap (λ n. flat_map (λ p. port_rows_of (port_at c.args.scene.now c.args.app p) c.clock_of-clock.result c.args.app p (slice_index_or c.args.inputs.now p [])) (below n)) all
    ∙ all_rows c.args.scene.now c.args.app c.args.step c.clock_of-clock.result c.args.inputs.now c.clock_of-clock.ensures
