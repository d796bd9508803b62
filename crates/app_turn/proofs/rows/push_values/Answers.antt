use Rattle.std.proofs.Common.{◌≡◌, ◌∙◌, ◌++◌, ◌∷◌, [], ap, arith, length, map, sym}
use Rattle.std.specs.Prelude.{slice_index}
use Rattle.music_base.specs.Numbers.{below}
use Rattle.music_base.proofs.Lists.{map-map}
use Rattle.index_maps.specs.Maps.{globals_of}
use Rattle.scene_model.specs.Tables.{value_in}
use Rattle.scene_model.specs.declared.row.RowItem.TheVariants.{Value as ValueRow}
use Rattle.app_turn.specs.Rows.{row_of, value_row}
use Rattle.app_turn.proofs.RowParts.{got_at, map_more, not_past}
use Rattle.app_turn.proofs.rows.push_values.Goals.{in-Some+in_ok-push, in_default}
use Rattle.app_turn.proofs.rows.push_values.Goals as goal

pub loop-local-preserved : goal.loop-local-preserved
loop-local-preserved c =
    let globals = globals_of c.args.ports.now c.args.place.now.rank in
    let local = c.loop-local.local in
    elim c.match-global_by.branch [
      | in-Some+in_ok-push w ↦
          let at : w.in-Some.global ≡ slice_index globals local = sym (got_at globals local w.in-Some.global 0 (sym w.in-Some.ensures)) in
          let row : w.row_of.result ≡ value_row c.args.place.now globals (value_in c.args.items.now) local =
          w.row_of.ensures ∙ ap (λ x. row_of c.args.place.now (ValueRow local w.in-Some.global x)) w.value_near-value.ensures
          ∙ ap (λ g. row_of c.args.place.now (ValueRow local g (value_in c.args.items.now g))) at in
          rw w.rows-is (map_more (value_row c.args.place.now globals (value_in c.args.items.now)) local c.args.rows.now c.loop-local.rows _ c.loop-local.invariant
          (w.in_ok-push.ensures.ok ∙ ap (λ y. c.loop-local.rows ++ y ∷ []) row))
      | in_default w ↦ absurd (not_past globals local (sym w.in_default.ensures) (omega (arith, c.loop-local-test.true, c.size_by-local-end.ensures)))
    ]

pub returns : goal.returns
returns c =
    let globals = globals_of c.args.ports.now c.args.place.now.rank in
    let all : c.loop-local.local ≡ length globals = omega (arith, c.loop-local-test.false, c.loop-local.auto.local-end, c.size_by-local-end.ensures) in
    c.loop-local.invariant ∙ ap (λ n. c.args.rows.now ++ map (value_row c.args.place.now globals (value_in c.args.items.now)) (below n)) all
    ∙ ap (λ ys. c.args.rows.now ++ ys) (sym (map-map (row_of c.args.place.now) (λ local. ValueRow local (slice_index globals local) (value_in c.args.items.now (slice_index globals local))) (below (length globals))))
